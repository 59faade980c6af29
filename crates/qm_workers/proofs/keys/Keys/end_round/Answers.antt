use Rattle.std.proofs.Common.{◌∙◌, ap, sym, inl, inr, Some, ⊎_elim}
use Rattle.std.specs.Prelude.{option_map}
use Rattle.std.specs.BTreeMap.{get}
use Rattle.std.specs.Ordering.{nat_cmp}
use Rattle.qm_workers.specs.Known.{knowledge}
use Rattle.qm_workers.proofs.Knowing.{hint-removed, no_more-then}
use Rattle.qm_workers.proofs.keys.Keys.end_round.Goals as goal

pub loop-location-preserved : goal.loop-location-preserved
loop-location-preserved g c =
    let bytes = g.K.ByteString.bytes in
    let old = c.loop-location.self in
    no_more-then (knowledge bytes c.args.self.now) (knowledge bytes old) (knowledge bytes c.keep.new.self) c.loop-location.invariant (record {
      hints = λ at key is. hint-removed bytes old.hints c.pop_first.new.self c.in-Some.location c.in-Some.ensures.updates at key (sym (ap (λ m. option_map (option_map bytes) (get nat_cmp m at)) c.keep.ensures.hints) ∙ is);
      cache = λ at own is. ⊎_elim
          (λ had. inl had)
          (λ new. inr (ap (λ n. option_map (option_map bytes) (get nat_cmp old.hints n)) new.0 ∙ ap (option_map (option_map bytes)) c.in-Some.ensures.value ∙ ap Some new.1))
          (c.keep.ensures.cache at own is);
    })
