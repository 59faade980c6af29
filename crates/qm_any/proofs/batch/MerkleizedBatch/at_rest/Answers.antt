use Rattle.std.proofs.Common.{map, ap, option_map}
use Rattle.qm_chain.specs.Bounds.{commitment_view}
use Rattle.qm_any.proofs.Making.{rest-agreed}
use Rattle.qm_any.proofs.batch.MerkleizedBatch.at_rest.Goals as goal

pub invariant_of-new : goal.invariant_of-new
invariant_of-new g c =
    let value = g.U.Value.ByteString.bytes in
    let stands = commitment_view g.D.Digest.bytes c.args.commitment in (
      rest-agreed stands c.args.floor c.args.live (option_map (λ m. value m.value) c.args.metadata) _ _ _ c.at_rest-tree.result
          (ap (map (commitment_view g.D.Digest.bytes)) c.new.ensures.items)
          c.in_ok-steps.ensures
          c.at_rest-tree.ensures c.requires.few c.requires.live,
      rw c.deref.ensures.value at c.in_ok-diffs.ensures,
    )
