use Rattle.std.proofs.Common.{◌∙◌, option_map, subst}
use Rattle.qm_any.specs.Layouts.{hashing_with}
use Rattle.qm_any.specs.Databases.{IsMadeWith}
use Rattle.qm_any.specs.Making.{IsMaking, making_of}
use Rattle.qm_any.proofs.Staging.{slotted-staged, staged-none}
use Rattle.qm_any.proofs.batch.UnmerkleizedBatch.merkleize.Goals as goal

pub returns : goal.returns
returns g c =
    let key = g.U.Key.ByteString.bytes in
    let value = g.U.Value.ByteString.bytes in
    let form = g.U.Update.form in
    let meta = option_map value c.args.metadata in
    let hashing = hashing_with g.D.Digest.bytes g.H.Hasher.hash g.F.Family.shape form in
    let writes = slotted-staged g.U.Update.view key value c.args.self.writes _ _ _ c.new.ensures.items (c.deref.ensures.value ∙ c.new-slots.ensures.items) (c.deref-2.ensures.value ∙ c.new-others.ensures.items) in
    record {
      fits = c.merkleize.ensures.fits;
      makes = λ list chain above is begun on.
          subst (λ ws. IsMaking g.C.Store form (making_of g.P.Policy.rules c.args.policy.now ws meta) chain c.merkleize.new.policy c.args.db.now.log c.merkleize.new.db.log c.merkleize.result (λ b. IsMadeWith hashing b.value chain)) writes
          (c.merkleize.ensures.makes list chain above is (record { begun = begun; reads = staged-none g.U.Update.view key chain.base _ c.new.ensures.items }) on);
      short = c.merkleize.ensures.short;
      child = c.merkleize.ensures.child;
      unmade = c.merkleize.ensures.unmade;
      whole = λ list chain above is begun on. c.merkleize.ensures.whole list chain above is (record { begun = begun; reads = staged-none g.U.Update.view key chain.base _ c.new.ensures.items }) on;
      kept = c.merkleize.ensures.kept;
      left = c.merkleize.ensures.left;
    }
