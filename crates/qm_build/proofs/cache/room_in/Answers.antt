use Rattle.std.proofs.Common.{◌≡◌, ◌∙◌, subst, get_or, arith, None}
use Rattle.std.proofs.lemmas.List.{get_or_default}
use Rattle.qm_build.specs.Cached.{IsFirst}
use Rattle.qm_build.proofs.Caching.{first-self, first-more}
use Rattle.qm_build.proofs.cache.room_in.Goals.{then-is_first, else-is_first}
use Rattle.qm_build.proofs.cache.room_in.Goals as goal

pub loop-at-preserved : goal.loop-at-preserved
loop-at-preserved g c =
    let slots = c.args.slots.now in
    let here = c.loop-at.at in
    let room = c.loop-at.room in
    let at_is : c.index-slots-at.result ≡ get_or slots here None = c.index-slots-at.is ∙ get_or_default slots here c.index-slots-at.result None (omega (arith, c.requires.within, c.loop-at-test.true)) in
    let room_is : c.index-slots-room.result ≡ get_or slots room None = c.index-slots-room.is ∙ get_or_default slots room c.index-slots-room.result None (omega (arith, c.requires.within, c.loop-at.invariant.below)) in
    let more = first-more slots c.args.first here room c.loop-at.invariant.least in
    elim c.if-is_first.branch [
      | then-is_first w ↦ rw w.room-is (record {
        from = c.loop-at.auto.at;
        below = c.loop-at-test.true;
        least = more here (subst (λ o. IsFirst o (get_or slots room None)) at_is (subst (IsFirst c.index-slots-at.result) room_is (c.is_first.ensures.yes w.if-is_first.true))) (first-self (get_or slots here None));
      })
      | else-is_first w ↦ rw w.room-is (record {
        from = c.loop-at.invariant.from;
        below = c.loop-at.invariant.below;
        least = more room (first-self (get_or slots room None)) (subst (λ o. IsFirst o (get_or slots here None)) room_is (subst (IsFirst c.index-slots-room.result) at_is (c.is_first.ensures.no w.if-is_first.false)));
      })
    ]
