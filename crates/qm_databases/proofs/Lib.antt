mod CurrentBatches
mod Making
