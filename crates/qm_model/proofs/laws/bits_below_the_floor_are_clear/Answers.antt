use Rattle.qm_model.proofs.BitLemmas.{below_clear, chunk_below}
use Rattle.qm_model.proofs.laws.bits_below_the_floor_are_clear.Goals as goal

pub returns-clause-bit : goal.returns-clause-bit
returns-clause-bit c ops i good low = below_clear ops good i low

pub returns-clause-chunk : goal.returns-clause-chunk
returns-clause-chunk c g ops i enough good low = chunk_below g enough ops good i low
