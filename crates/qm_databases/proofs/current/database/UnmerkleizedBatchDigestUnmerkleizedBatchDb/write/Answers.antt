use Rattle.std.proofs.Common.{option_map}
use Rattle.qm_model.specs.Writes.{Write}
use Rattle.qm_any.specs.Layouts.{hashing_of}
use Rattle.qm_any.proofs.Offered.{ok-both}
use Rattle.qm_databases.proofs.CurrentBatches.{wrote}
use Rattle.qm_databases.proofs.current.database.UnmerkleizedBatchDigestUnmerkleizedBatchDb.write.Goals as goal

pub returns : goal.returns
returns g c =
    let hashing = hashing_of g.H.Digest.Digest.bytes g.H.Hasher g.F.Family g.U.Update in
    let more : Write = record { key = g.U.Key.ByteString.bytes c.args.key; value = option_map g.U.Value.ByteString.bytes c.args.value } in
    ok-both c.write.result c.write.ensures.any c.write.ensures.rest (λ b any rest chain above ws is. wrote hashing g.N.Chunks.LEN c.args.self b chain above ws more any rest.0 rest.1 is)
