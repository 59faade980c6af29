use Rattle.qm_bits.proofs.Kept.{complete_begun}
use Rattle.qm_bits.proofs.readable.PrunableReadable.get_chunk.Goals as goal

pub chunk_bytes-requires-clause-not_pruned : goal.chunk_bytes-requires-clause-not_pruned
chunk_bytes-requires-clause-not_pruned g c = c.requires.not_pruned

pub chunk_bytes-requires-clause-begun : goal.chunk_bytes-requires-clause-begun
chunk_bytes-requires-clause-begun g c = complete_begun g.N.Chunks.LEN c.args.self.now c.args.at c.requires.complete

pub returns : goal.returns
returns g c = c.chunk_bytes.ensures
