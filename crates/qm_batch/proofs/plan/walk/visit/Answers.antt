use Rattle.std.proofs.Common.{◌≡◌, ◌∙◌, ◌+◌, ◌-◌, ◌<◌, ◌≤◌, ℕ, Bool, nat_le, Some, true, false, ap, sym, subst, arith, true≢false, ⊎_elim}
use Rattle.std.specs.Prelude.{option_map}
use Rattle.std.proofs.lemmas.Bool.{cases_lt}
use Rattle.std.proofs.lemmas.Result.{err_from_is_err_and}
use Rattle.qm_chain.specs.declared.walk.Walk.{Walk}
use Rattle.qm_model.proofs.Results.{ok-four, ok-then, told-any, told-err, told-one}
use Rattle.qm_step.specs.Going.{AreDead, AreDecided}
use Rattle.qm_step.specs.PlanViews.{decided_views, pair_views}
use Rattle.qm_batch.specs.PlanPaths.{found_view}
use Rattle.qm_step.specs.Touches.{IsMoveAt}
use Rattle.qm_batch.proofs.PlanGoing.{chosen, dead-here, dead-none, going-reached, going-short, going-spent, reached-at}
use Rattle.qm_base.proofs.Reading.{reads-on, reads-short, read-none}
use Rattle.qm_batch.proofs.plan.walk.visit.Goals as goal

-- a walk that comes to a location may still decide a live update
may : (n : ℕ) (b : Bool) {Q : Type 0} → (n ≡ 0 → (b ≡ false) × Q) → b ≡ true → 0 < n
may n b spent is = ⊎_elim (λ some. some) (λ none. absurd (true≢false (sym is ∙ (spent (omega (arith, none))).0))) (cases_lt 0 n)

pub returns-then-not-comes_to : goal.returns-then-not-comes_to
returns-then-not-comes_to g c = record {
  value = λ lent base list all is on dead going.
      let w = c.args.going.now.walk in
      let next = c.comes_to.new.walk in
      let ds = decided_views g.U.Key.ByteString.bytes g.U.Value.ByteString.bytes c.args.going.now.decided.items in
      let es = pair_views g.U.Key.ByteString.bytes g.U.Value.ByteString.bytes c.args.going.now.evicted.items in
      told-any _ (g.L.Items.reads.told c.args.log.now)
      (⊎_elim
      (λ some. going-short g.P.Policy.rules base list ds es w c.args.policy.now all going some c.args.at next c.requires.low c.requires.high dead (c.comes_to.ensures.floor some) (c.comes_to.ensures.rest some)
      (sym (c.comes_to.ensures.reached some) ∙ c.if-not-comes_to.true))
      (λ none.
      let zero : w.entries ≡ 0 = omega (arith, none) in
      subst (λ (x : Walk _). AreDecided base list ds es x.floor c.args.policy.now all) (sym (c.comes_to.ensures.spent zero).1) (going-spent g.P.Policy.rules base list ds es w c.args.policy.now all going zero))
      (cases_lt 0 w.entries));
  low = c.comes_to.ensures.low;
  high = let high = c.comes_to.ensures.high in omega (arith, high);
  end = c.comes_to.ensures.end;
  reads = reads-short g.L.Items.reads _ (read-none g.L.Items.reads g.met.L.Items.unread c.args.log.now) tt;
}

pub decide-requires-clause-entries : goal.decide-requires-clause-entries
decide-requires-clause-entries g c =
    let some = may c.args.going.now.walk.entries c.comes_to.result c.comes_to.ensures.spent c.if-not-comes_to.false in
    let same = ap (λ (x : Walk _). x.entries) (c.comes_to.ensures.rest some) in
    omega (arith, same, some)

pub decide-requires-clause-floor : goal.decide-requires-clause-floor
decide-requires-clause-floor g c =
    let high = c.comes_to.ensures.high in
    omega (arith, high, c.requires.high, c.get.ensures, c.get.type_inv)

pub returns-in_err-found : goal.returns-in_err-found
returns-in_err-found g c =
    let exit = err_from_is_err_and c.from_residual.result c.from_residual.ensures.1 in
    record {
      value = λ lent base list all is on dead going. told-err _ (g.L.Items.reads.told c.args.log.now) c.from_residual.result exit.0 exit.1;
      low = rw exit.1 tt;
      high = rw exit.1 tt;
      end = rw exit.1 tt;
      reads = reads-on g.L.Items.reads c.from_residual.result c.in_err-found.ensures.reads exit.1 exit.2;
    }

pub returns-in-Some : goal.returns-in-Some
returns-in-Some g c = record {
  value = λ lent base list all is on dead going.
      let w = c.args.going.now.walk in
      let next = c.comes_to.new.walk in
      let some = may w.entries c.comes_to.result c.comes_to.ensures.spent c.if-not-comes_to.false in
      let place = c.comes_to.ensures.floor some in
      let fits : nat_le (c.args.at - w.floor) w.skips ≡ true = sym (c.comes_to.ensures.reached some) ∙ c.if-not-comes_to.false in
      let here : next.floor ≡ c.args.at = reached-at c.args.at w.floor w.skips next.floor c.requires.low place fits in
      let come =
      going-reached g.P.Policy.rules base list (decided_views g.U.Key.ByteString.bytes g.U.Value.ByteString.bytes c.args.going.now.decided.items)
      (pair_views g.U.Key.ByteString.bytes g.U.Value.ByteString.bytes c.args.going.now.evicted.items) w c.args.policy.now all going some c.args.at next c.requires.low c.requires.high dead place
      (c.comes_to.ensures.rest some) fits in
      told-one _ _ (g.L.Items.reads.told c.args.log.now) (c.in_ok-found.ensures.value lent base list is on) (λ move.
      let there = subst (λ n. IsMoveAt (Some (found_view g.U.Update.view c.in-Some.found)) base list n) (sym here) (subst (λ found. IsMoveAt (option_map (found_view g.U.Update.view) found) base list c.args.at) c.in-Some.is move) in
      ok-four c.decide.result c.decide.ensures.value c.decide.ensures.passed c.decide.ensures.value c.decide.ensures.passed (λ onward goes passed _ _.
      chosen onward _ _ _ (goes base list all there come) (λ goes on_way.
      let past = passed goes in
      let beyond : c.args.at + 1 ≤ c.decide.new.going.walk.floor = omega (arith, past, here) in
      (dead-none list c.decide.new.going.walk.floor (c.args.at + 1) beyond, on_way))));
  low = let low = c.comes_to.ensures.low in ok-then c.decide.result c.decide.ensures.low (λ goes later. omega (arith, low, later));
  high = let high = c.comes_to.ensures.high in ok-then c.decide.result c.decide.ensures.high (λ goes later. omega (arith, high, later));
  end = ok-then c.decide.result c.decide.ensures.end (λ goes same. same ∙ c.comes_to.ensures.end);
  reads = reads-short g.L.Items.reads c.decide.result c.live_at.ensures.reads.left c.decide.ensures.memory;
}

pub returns-in-None : goal.returns-in-None
returns-in-None g c = record {
  value = λ lent base list all is on dead going.
      let w = c.args.going.now.walk in
      let next = c.comes_to.new.walk in
      let some = may w.entries c.comes_to.result c.comes_to.ensures.spent c.if-not-comes_to.false in
      let place = c.comes_to.ensures.floor some in
      let fits : nat_le (c.args.at - w.floor) w.skips ≡ true = sym (c.comes_to.ensures.reached some) ∙ c.if-not-comes_to.false in
      let here : next.floor ≡ c.args.at = reached-at c.args.at w.floor w.skips next.floor c.requires.low place fits in
      let come =
      going-reached g.P.Policy.rules base list (decided_views g.U.Key.ByteString.bytes g.U.Value.ByteString.bytes c.args.going.now.decided.items)
      (pair_views g.U.Key.ByteString.bytes g.U.Value.ByteString.bytes c.args.going.now.evicted.items) w c.args.policy.now all going some c.args.at next c.requires.low c.requires.high dead place
      (c.comes_to.ensures.rest some) fits in
      told-one _ _ (g.L.Items.reads.told c.args.log.now) (c.in_ok-found.ensures.value lent base list is on) (λ move.
      let there = subst (λ found. IsMoveAt (option_map (found_view g.U.Update.view) found) base list c.args.at) c.in-None.is move in
      (subst (λ n. AreDead list n (c.args.at + 1)) (sym here) (dead-here list c.args.at there.operation), come));
  low = c.comes_to.ensures.low;
  high = let high = c.comes_to.ensures.high in omega (arith, high);
  end = c.comes_to.ensures.end;
  reads = reads-short g.L.Items.reads _ c.live_at.ensures.reads.left tt;
}
