use Rattle.std.proofs.Common.{◌≡◌, ◌∙◌, ◌++◌, ◌+◌, ◌-◌, ap, ap₂, sym, arith, length, map, count_by, subst, List, ℕ}
use Rattle.std.specs.Prelude.{is_none, is_some, IfOk}
use Rattle.std.proofs.lemmas.List.{length-map}
use Rattle.qm_model.proofs.Results.{ok-four, told-one, told-then, told-err}
use Rattle.qm_operations.specs.Parts.{is_update}
use Rattle.qm_model.specs.Operations.{Bytes}
use Rattle.qm_model.specs.Live.{floor}
use Rattle.qm_model.specs.Walk.{walk}
use Rattle.qm_model.specs.Writes.{made_inactive}
use Rattle.qm_step.specs.Bases.{base_view}
use Rattle.qm_step.specs.Kinds.{kind_of}
use Rattle.qm_step.specs.Going.{Decided, write_for, AreDecided}
use Rattle.qm_step.specs.PlanViews.{decided_views, pair_views, touch_view}
use Rattle.qm_batch.specs.PlanPaths.{AreBehind, AreOwn}
use Rattle.qm_step.specs.Rings.{touch_in}
use Rattle.qm_step.specs.Touches.{Touch}
use Rattle.qm_batch.proofs.PlanOwns.{are-inactive, are-own, count-shown, decided-apart, evicted-shown, written-behind}
use Rattle.qm_step.proofs.Reading.{lent-then, told, whole-then}
use Rattle.std.proofs.lemmas.Result.{err_from_is_err_and}
use Rattle.qm_base.proofs.Reading.{reads-on, reads-where, reads-then}
use Rattle.qm_batch.proofs.plan.own_along.Goals as goal

pub returns : goal.returns
returns g c = record {
  own = λ lent base ws is active known written lent_ring ring.
      let key = g.U.Key.ByteString.bytes in
      let value = g.U.Value.ByteString.bytes in
      let view = touch_view g.U.Update.view key value in
      let kind = (kind_of g.U.Update.form) in
      let rules = g.P.Policy.rules in
      let live = c.args.base.now.live in
      let touches = c.args.made.items in
      let behind = c.live_behind-behind.result in
      let policy = c.args.policy.now in
      let next = c.walk_from.new.policy in
      let ds = decided_views key value c.in_ok-walked.walked.decided.items in
      let told_pairs = pair_views key value in
      let es = told_pairs c.in_ok-walked.walked.evicted.items in
      let end = c.in_ok-walked.walked.floor in
      let list = base ++ kind.writes base ws in
      let on = subst (λ ts. AreBehind (base_view c.args.base.now) (map view ts) lent base list) (sym c.deref-3.ensures.value)
      (written-behind kind (base_view c.args.base.now) (map view touches) lent base ws known written) in
      let stood : count_by (λ t. is_some t.before) c.deref.result.now ≡ count_by (λ (t : Touch). is_some t.before) (map view touches) =
      ap (count_by (λ t. is_some t.before)) c.deref.ensures.value ∙ count-shown (λ (t : Touch). is_some t.before) view touches in
      let new : count_by (λ t. is_update (view t).operation) c.deref.result.now ≡ count_by (λ (t : Touch). is_update t.operation) (map view touches) =
      ap (count_by (λ t. is_update (view t).operation)) c.deref.ensures.value ∙ count-shown (λ (t : Touch). is_update t.operation) view touches in
      let count : behind ≡ live - count_by (λ (t : Touch). is_some t.before) (map view touches) + count_by (λ (t : Touch). is_update t.operation) (map view touches) =
      c.live_behind-behind.ensures.value ∙ ap₂ (λ a b. live - a + b) stood new in
      let inactive : c.made_inactive.result ≡ made_inactive base (kind.writes base ws) =
      c.made_inactive.ensures ∙ ap (λ n. n + live - behind) (ap length c.deref-2.ensures.value ∙ sym (length-map touches view))
      ∙ are-inactive kind rules policy next base ws (map view touches) written.operations written.from written.keyed written.once live behind known.live count in
      let read = c.walk_from.ensures.reads.left in
      let mid = lent-then g.L.Items.reads _ g.I.Unordered.index_key (g.I.Unordered.entries c.args.index.now) c.args.log.now c.walk_from.new.log lent read is in
      told-then _ _ (g.L.Items.reads.told c.args.log.now) (c.in_ok-walked.ensures.value lent base list is active on) (λ are.
      let limits = ap₂ (λ e s. walk rules list (floor base) (record { entries = e; skips = s }) policy)
      (c.limits-limits.ensures.entries ∙ ap (λ n. (rules.limits policy n).entries) inactive) (c.limits-limits.ensures.skips ∙ ap (λ n. (rules.limits policy n).skips) inactive) in
      let apart = decided-apart rules base list (floor base) _ policy next ds es end are in
      told-one _ _ (g.L.Items.reads.told c.args.log.now) (told _ _ _ read.told (c.own_of.ensures.touches lent base ws mid known written lent_ring ring are.from apart)) (λ found.
      let ends : IfOk c.own_of.result (λ own. (own.floor ≡ end) × (own.evicted ≡ c.in_ok-walked.walked.evicted)) =
      ok-four c.own_of.result c.own_of.ensures.floor c.own_of.ensures.evicted c.own_of.ensures.floor c.own_of.ensures.floor (λ own at pairs _ _. (at, pairs)) in
      ok-four c.own_of.result found c.own_of.ensures.moves c.own_of.ensures.live ends (λ own same moves left ends.
      let all_own =
      are-own kind rules policy next base ws (map view touches) written.operations written.from written.keyed written.once live behind known.live count ds es end (subst (λ all. AreDecided base list ds es end next all) limits are) moves in
      let keys = left ∙ ap (λ n. behind - n) (sym (evicted-shown key value c.in_ok-walked.walked.decided.items)) in
      subst (λ (n : ℕ). AreOwn kind rules policy next (map view own.touches.items) (told_pairs own.evicted.items) own.live n base ws) (sym ends.0)
      (subst (λ (n : ℕ). AreOwn kind rules policy next (map view own.touches.items) (told_pairs own.evicted.items) n end base ws) (sym keys)
      (subst (λ (ts : List Touch). AreOwn kind rules policy next ts (told_pairs own.evicted.items) (behind - count_by (λ (d : Decided). is_none d.value) ds) end base ws) (sym same)
      (subst (λ (ps : List (Bytes × Bytes)). AreOwn kind rules policy next (map view touches ++ map (touch_in base) (kind.moves list (map write_for ds))) ps (behind - count_by (λ (d : Decided). is_none d.value) ds) end base ws) (sym (ap (λ p. told_pairs p.items) ends.1)) all_own))))));
  count =
      ok-four c.own_of.result c.own_of.ensures.live c.own_of.ensures.count c.own_of.ensures.live c.own_of.ensures.count (λ own live more _ _.
      let same = ap length c.deref.ensures.value in
      let bound = c.live_behind-behind.ensures.bound in
      let low = c.requires.live in
      omega (arith, same, live, more, bound, low));
  reads =
      reads-then g.L.Items.reads g.met.L.Items.read_again g.met.L.Items.failed_later c.own_of.result c.walk_from.ensures.reads.left (λ all. whole-then g.L.Items.reads _ g.I.Unordered.index_key _ _ _ c.walk_from.ensures.reads.left all.0)
      c.own_of.ensures.reads;
}

pub returns-in_err-walked : goal.returns-in_err-walked
returns-in_err-walked g c =
    let exit = err_from_is_err_and c.from_residual.result c.from_residual.ensures.1 in
    record {
      own = λ lent base ws is active known written lent_ring ring. told-err _ (g.L.Items.reads.told c.args.log.now) c.from_residual.result exit.0 exit.1;
      count = rw exit.1 tt;
      reads = reads-on g.L.Items.reads c.from_residual.result (reads-where g.L.Items.reads _ (λ all. all.1) c.in_err-walked.ensures.reads) exit.1 exit.2;
    }
