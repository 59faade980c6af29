mod Pruned
mod Reaches
mod Spellings
