use Rattle.std.proofs.Common.{◌++◌, ◌∷◌, [], ap, option_map, subst, sym}
use Rattle.qm_model.proofs.Results.{ok-then}
use Rattle.qm_model.specs.Writes.{Write}
use Rattle.qm_any.specs.Layouts.{hashing_of}
use Rattle.qm_databases.specs.Any.{IsBatch}
use Rattle.qm_databases.proofs.any.database.UnmerkleizedBatchDigestUnmerkleizedBatchDb.write.Goals as goal

pub returns : goal.returns
returns g c =
    let hashing = hashing_of g.H.Digest.Digest.bytes g.H.Hasher g.F.Family g.U.Update in
    ok-then c.write.result c.write.ensures (λ b same chain above ws is.
    let more : Write = record { key = g.U.Key.ByteString.bytes c.args.key; value = option_map g.U.Value.ByteString.bytes c.args.value } in
    subst (λ x. IsBatch hashing x chain above (ws ++ more ∷ [])) (sym same)
    (record { begun = record { parent = is.begun.parent; kept = is.begun.kept }; writes = ap (λ w. w ++ more ∷ []) is.writes; few = is.few }))
