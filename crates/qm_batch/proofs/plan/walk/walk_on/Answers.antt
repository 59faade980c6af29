use Rattle.std.proofs.Common.{◌≡◌, ◌∙◌, ◌≤◌, ◌<◌, sym, subst, arith, refl}
use Rattle.std.specs.Prelude.{IfSome}
use Rattle.std.proofs.lemmas.Result.{err_from_is_err_and}
use Rattle.qm_model.proofs.Results.{told-any, told-err, told-one, told-then}
use Rattle.qm_step.specs.Going.{AreDead}
use Rattle.qm_step.specs.PlanViews.{decided_views, pair_views}
use Rattle.qm_batch.proofs.PlanFinds.{match-none, match-some}
use Rattle.qm_batch.proofs.PlanGoing.{dead-none, going-finished}
use Rattle.qm_step.proofs.Reading.{lent-then, told}
use Rattle.qm_base.proofs.Reading.{reads-short, read-none, read-then, reads-then, reads-on}
use Rattle.qm_batch.proofs.plan.walk.walk_on.Goals as goal

pub loop-from-init : goal.loop-from-init
loop-from-init g c =
    let floor = c.get-floor.ensures in
    let start : c.get-floor.result ≤ c.args.going.now.walk.floor = omega (arith, floor) in
    record {
      read = read-none g.L.Items.reads g.met.L.Items.unread c.args.log.now;
      low = omega arith;
      here = omega (arith, floor);
      within = omega (arith, floor, c.requires);
      end = refl;
      value = λ lent base list all is active on going. told-any _ (g.L.Items.reads.told c.args.log.now) (dead-none list c.args.going.now.walk.floor c.get-floor.result start, going);
    }

pub walk_round-requires-clause-low : goal.walk_round-requires-clause-low
walk_round-requires-clause-low g c = let here = c.loop-from.invariant.here in omega (arith, here, c.new.ensures)

pub walk_round-requires-clause-high : goal.walk_round-requires-clause-high
walk_round-requires-clause-high g c = let end = c.loop-from.invariant.end in omega (arith, end, c.loop-from-test.true, c.get-end.ensures, c.new.ensures)

pub returns-in_err-next : goal.returns-in_err-next
returns-in_err-next g c =
    let exit = err_from_is_err_and c.from_residual.result c.from_residual.ensures.1 in
    record {
      value = λ lent base list all is active on going. told-err _ (g.L.Items.reads.told c.args.log.now) c.from_residual.result exit.0 exit.1;
      reads =
          reads-then g.L.Items.reads g.met.L.Items.read_again g.met.L.Items.failed_later c.from_residual.result c.loop-from.invariant.read
          (λ above.
          let same = (c.loop-from.invariant.read).start in
          let low = c.loop-from.invariant.low in
          omega (arith, same, low, above))
          (reads-on g.L.Items.reads c.from_residual.result c.in_err-next.ensures.reads exit.1 exit.2);
    }

pub returns-in_default : goal.returns-in_default
returns-in_default g c = record {
  value = λ lent base list all is active on going.
      let read = c.loop-from.invariant.read in
      let mid = lent-then g.L.Items.reads _ g.I.Unordered.index_key (g.I.Unordered.entries c.args.path.now.index.now) c.args.log.now c.loop-from.log lent read is in
      told-then _ _ (g.L.Items.reads.told c.args.log.now) (c.loop-from.invariant.value lent base list all is active on going) (λ so_far.
      let dead = subst (λ n. AreDead list c.loop-from.going.walk.floor n) (sym c.new.ensures) so_far.0 in
      told-one _ _ (g.L.Items.reads.told c.args.log.now) (told _ _ _ read.told (c.in_ok-next.ensures.value lent base list all mid active on dead so_far.1)) (λ walked.
      match-none c.in_ok-next.next _ _ c.in_default.is walked));
  reads = reads-short g.L.Items.reads _ (read-then g.L.Items.reads g.met.L.Items.read_again c.args.log.now c.loop-from.log c.walk_round.new.log c.loop-from.invariant.read c.walk_round.ensures.reads.left) tt;
}

pub loop-from-smaller : goal.loop-from-smaller
loop-from-smaller g c =
    let next = subst (λ o. IfSome o (λ next. (c.new.result < next) × (c.walk_round.new.going.walk.floor ≤ next) × (next ≤ c.walk_round.new.going.walk.end))) c.in-Some.is c.in_ok-next.ensures.next in
    let more = next.0 in
    omega (arith, more, c.new.ensures, c.get-from.ensures, c.loop-from-test.true)

pub loop-from-preserved : goal.loop-from-preserved
loop-from-preserved g c =
    let read = c.loop-from.invariant.read in
    let low = c.loop-from.invariant.low in
    let end = c.loop-from.invariant.end in
    let later = c.in_ok-next.ensures.low in
    let next = subst (λ o. IfSome o (λ next. (c.new.result < next) × (c.walk_round.new.going.walk.floor ≤ next) × (next ≤ c.walk_round.new.going.walk.end))) c.in-Some.is c.in_ok-next.ensures.next in
    let here = next.1 in
    let within = next.2 in
    record {
      read = read-then g.L.Items.reads g.met.L.Items.read_again c.args.log.now c.loop-from.log c.walk_round.new.log read c.walk_round.ensures.reads.left;
      low = omega (arith, low, later);
      here = omega (arith, here, c.get-from.ensures);
      within = omega (arith, within, c.get-from.ensures);
      end = c.in_ok-next.ensures.end ∙ end;
      value = λ lent base list all is active on going.
          let mid = lent-then g.L.Items.reads _ g.I.Unordered.index_key (g.I.Unordered.entries c.args.path.now.index.now) c.args.log.now c.loop-from.log lent read is in
          told-then _ _ (g.L.Items.reads.told c.args.log.now) (c.loop-from.invariant.value lent base list all is active on going) (λ so_far.
          let dead = subst (λ n. AreDead list c.loop-from.going.walk.floor n) (sym c.new.ensures) so_far.0 in
          told-one _ _ (g.L.Items.reads.told c.args.log.now) (told _ _ _ read.told (c.in_ok-next.ensures.value lent base list all mid active on dead so_far.1)) (λ walked.
          let goes = match-some c.in_ok-next.next c.in-Some.next _ _ c.in-Some.is walked in
          (subst (λ n. AreDead list c.walk_round.new.going.walk.floor n) (sym c.get-from.ensures) goes.0, goes.1)));
    }

pub finish-requires : goal.finish-requires
finish-requires g c =
    let here = c.loop-from.invariant.here in
    let within = c.loop-from.invariant.within in
    omega (arith, here, within)

pub returns : goal.returns
returns g c = record {
  value = λ lent base list all is active on going.
      let w = c.loop-from.going.walk in
      let here = c.loop-from.invariant.here in
      let within = c.loop-from.invariant.within in
      let end = c.loop-from.invariant.end in
      let last : c.loop-from.from ≡ w.end = omega (arith, within, end, c.loop-from-test.false, c.get-end.ensures) in
      told-one _ _ (g.L.Items.reads.told c.args.log.now) (c.loop-from.invariant.value lent base list all is active on going) (λ so_far.
      going-finished g.P.Policy.rules base list (decided_views g.U.Key.ByteString.bytes g.U.Value.ByteString.bytes c.loop-from.going.decided.items)
      (pair_views g.U.Key.ByteString.bytes g.U.Value.ByteString.bytes c.loop-from.going.evicted.items) w c.loop-from.policy all so_far.1 c.finish.new.walk (omega (arith, here, within))
      (subst (λ n. AreDead list w.floor n) last so_far.0) c.finish.ensures.none c.finish.ensures.some);
  reads = reads-short g.L.Items.reads _ c.loop-from.invariant.read tt;
}
