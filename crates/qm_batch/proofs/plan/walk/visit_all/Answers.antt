use Rattle.std.proofs.Common.{◌∙◌, ◌∷◌, ◌+◌, ◌≤◌, ap, sym, subst, arith, drop, refl}
use Rattle.std.proofs.lemmas.List.{drop_all}
use Rattle.std.proofs.lemmas.Result.{err_from_is_err_and}
use Rattle.qm_model.proofs.Results.{told-any, told-err, told-one, told-then}
use Rattle.qm_step.specs.Going.{AreDeadBetween, IsSpaced}
use Rattle.qm_batch.proofs.PlanGoing.{between-then, spaced-below}
use Rattle.qm_batch.proofs.PlanRounds.{chosen-false, chosen-true, in-round}
use Rattle.qm_step.proofs.Reading.{lent-then, told}
use Rattle.qm_base.proofs.Reading.{reads-short, read-none, read-then, reads-then, reads-on}
use Rattle.qm_batch.proofs.plan.walk.visit_all.Goals as goal

pub loop-at-init : goal.loop-at-init
loop-at-init g c = record {
  read = read-none g.L.Items.reads g.met.L.Items.unread c.args.log.now;
  low = omega arith;
  end = refl;
  spaced = λ next spaced. spaced;
  value = λ lent base list next all is on dead going. told-any _ (g.L.Items.reads.told c.args.log.now) (dead, going);
}

pub visit-requires-clause-low : goal.visit-requires-clause-low
visit-requires-clause-low g c =
    let here = in-round c.args.round.now c.loop-at.at-index c.at-item.result c.loop-at-test.true c.at-item.is in
    let spaced = subst (λ xs. IsSpaced c.loop-at.going.walk.floor xs c.args.going.now.walk.end) here (c.loop-at.invariant.spaced c.args.going.now.walk.end c.requires) in
    let low = spaced.0 in
    omega (arith, low, c.get.ensures)

pub visit-requires-clause-high : goal.visit-requires-clause-high
visit-requires-clause-high g c =
    let here = in-round c.args.round.now c.loop-at.at-index c.at-item.result c.loop-at-test.true c.at-item.is in
    let spaced = subst (λ xs. IsSpaced c.loop-at.going.walk.floor xs c.args.going.now.walk.end) here (c.loop-at.invariant.spaced c.args.going.now.walk.end c.requires) in
    let high = spaced.1 in
    let end = c.loop-at.invariant.end in
    omega (arith, high, end, c.get.ensures)

pub returns-in_err-goes : goal.returns-in_err-goes
returns-in_err-goes g c =
    let exit = err_from_is_err_and c.from_residual.result c.from_residual.ensures.1 in
    record {
      value = λ lent base list all is on dead going. told-err _ (g.L.Items.reads.told c.args.log.now) c.from_residual.result exit.0 exit.1;
      next = rw exit.1 tt;
      low = rw exit.1 tt;
      high = rw exit.1 tt;
      end = rw exit.1 tt;
      reads =
          reads-then g.L.Items.reads g.met.L.Items.read_again g.met.L.Items.failed_later c.from_residual.result c.loop-at.invariant.read
          (λ above.
          let same = (c.loop-at.invariant.read).start in
          let here = in-round c.args.round.now c.loop-at.at-index c.at-item.result c.loop-at-test.true c.at-item.is in
          let spaced = subst (λ xs. IsSpaced c.loop-at.going.walk.floor xs c.args.going.now.walk.end) here (c.loop-at.invariant.spaced c.args.going.now.walk.end c.requires) in
          let first = spaced.0 in
          let low = c.loop-at.invariant.low in
          omega (arith, same, low, first, above, c.get.ensures))
          (reads-on g.L.Items.reads c.from_residual.result c.in_err-goes.ensures.reads exit.1 exit.2);
    }

pub returns-then-not-goes : goal.returns-then-not-goes
returns-then-not-goes g c = record {
  value = λ lent base list all is on dead going.
      let read = c.loop-at.invariant.read in
      let here = in-round c.args.round.now c.loop-at.at-index c.at-item.result c.loop-at-test.true c.at-item.is ∙ ap (λ x. x ∷ drop (c.loop-at.at-index + 1) c.args.round.now) (sym c.get.ensures) in
      let mid = lent-then g.L.Items.reads _ g.I.Unordered.index_key (g.I.Unordered.entries c.args.path.now.index.now) c.args.log.now c.loop-at.log lent read is in
      told-then _ _ (g.L.Items.reads.told c.args.log.now) (c.loop-at.invariant.value lent base list c.args.next all is on dead going) (λ so_far.
      let between = subst (λ xs. AreDeadBetween list c.loop-at.going.walk.floor xs c.args.next) here so_far.0 in
      told-one _ _ (g.L.Items.reads.told c.args.log.now) (told _ _ _ read.told (c.in_ok-goes.ensures.value lent base list all mid on between.0 so_far.1)) (λ visited.
      chosen-false c.in_ok-goes.goes _ _ c.if-not-goes.true visited));
  next = tt;
  low = let low = c.loop-at.invariant.low in let later = c.in_ok-goes.ensures.low in omega (arith, low, later);
  high = λ next spaced.
      let here = in-round c.args.round.now c.loop-at.at-index c.at-item.result c.loop-at-test.true c.at-item.is in
      let now = subst (λ xs. IsSpaced c.loop-at.going.walk.floor xs next) here (c.loop-at.invariant.spaced next spaced) in
      let high = now.1 in
      let past = c.in_ok-goes.ensures.high in
      omega (arith, high, past, c.get.ensures);
  end = c.in_ok-goes.ensures.end ∙ c.loop-at.invariant.end;
  reads = reads-short g.L.Items.reads _ (read-then g.L.Items.reads g.met.L.Items.read_again c.args.log.now c.loop-at.log c.visit.new.log c.loop-at.invariant.read c.visit.ensures.reads.left) tt;
}

pub loop-at-preserved : goal.loop-at-preserved
loop-at-preserved g c =
    let read = c.loop-at.invariant.read in
    let low = c.loop-at.invariant.low in
    let end = c.loop-at.invariant.end in
    let later = c.in_ok-goes.ensures.low in
    let past = c.in_ok-goes.ensures.high in
    let rest = drop (c.loop-at.at-index + 1) c.args.round.now in
    let same = c.get.ensures in
    let below : c.visit.new.going.walk.floor ≤ c.at-item.result + 1 = omega (arith, past, same) in
    let here = in-round c.args.round.now c.loop-at.at-index c.at-item.result c.loop-at-test.true c.at-item.is in
    record {
      read = read-then g.L.Items.reads g.met.L.Items.read_again c.args.log.now c.loop-at.log c.visit.new.log read c.visit.ensures.reads.left;
      low = omega (arith, low, later);
      end = c.in_ok-goes.ensures.end ∙ end;
      spaced = λ next spaced.
          let now = subst (λ xs. IsSpaced c.loop-at.going.walk.floor xs next) here (c.loop-at.invariant.spaced next spaced) in
          spaced-below c.visit.new.going.walk.floor (c.at-item.result + 1) next rest below now.2;
      value = λ lent base list next all is on dead going.
          let there = here ∙ ap (λ x. x ∷ rest) (sym same) in
          let mid = lent-then g.L.Items.reads _ g.I.Unordered.index_key (g.I.Unordered.entries c.args.path.now.index.now) c.args.log.now c.loop-at.log lent read is in
          told-then _ _ (g.L.Items.reads.told c.args.log.now) (c.loop-at.invariant.value lent base list next all is on dead going) (λ so_far.
          let between = subst (λ xs. AreDeadBetween list c.loop-at.going.walk.floor xs next) there so_far.0 in
          told-one _ _ (g.L.Items.reads.told c.args.log.now) (told _ _ _ read.told (c.in_ok-goes.ensures.value lent base list all mid on between.0 so_far.1)) (λ visited.
          let goes = chosen-true c.in_ok-goes.goes _ _ c.if-not-goes.false visited in
          (between-then list c.visit.new.going.walk.floor (c.get.result + 1) next rest goes.0 between.1, goes.1)));
    }

pub returns : goal.returns
returns g c = record {
  value = λ lent base list all is on dead going.
      told-one _ _ (g.L.Items.reads.told c.args.log.now) (c.loop-at.invariant.value lent base list c.args.next all is on dead going) (λ so_far.
      (subst (λ xs. AreDeadBetween list c.loop-at.going.walk.floor xs c.args.next) (drop_all c.loop-at.at-index c.args.round.now c.loop-at-test.false) so_far.0, so_far.1));
  next = refl;
  low = c.loop-at.invariant.low;
  high = λ next spaced. subst (λ xs. IsSpaced c.loop-at.going.walk.floor xs next) (drop_all c.loop-at.at-index c.args.round.now c.loop-at-test.false) (c.loop-at.invariant.spaced next spaced);
  end = c.loop-at.invariant.end;
  reads = reads-short g.L.Items.reads _ c.loop-at.invariant.read tt;
}
