use Rattle.std.proofs.Common.{◌≡◌, ◌++◌, sym, subst, arith}
use Rattle.std.proofs.lemmas.Result.{IfOk-from_err, err_from_is_err_and}
use Rattle.qm_bits.specs.Candidates.{candidates, IsFilled}
use Rattle.qm_bits.proofs.Finding.{filled_none, filled_past, filled_behind, filled_rest}
use Rattle.qm_bits.proofs.candidates.Candidates.fill.Goals as goal
use Rattle.qm_bits.proofs.candidates.Candidates.fill.Goals.{then-loop-at-test+else-len-limit, else-loop-at-test}

pub loop-at-init : goal.loop-at-init
loop-at-init g c =
    subst (λ at. IsFilled (g.Self.Candidates.activity c.args.self.now) c.args.floor c.args.tip c.args.limit c.args.out.now.items c.args.out.now.items at) (sym c.get-at.ensures)
    (filled_none (g.Self.Candidates.activity c.args.self.now) c.args.floor c.args.tip c.args.limit c.args.out.now.items)

pub loop-at-preserved-then-at-tip : goal.loop-at-preserved-then-at-tip
loop-at-preserved-then-at-tip g c =
    let tip = c.get-tip.ensures in
    let full = c.len.ensures in
    filled_behind (g.Self.Candidates.activity c.args.self.now) c.args.floor c.args.tip c.args.limit c.args.out.now.items c.loop-at.out.items c.push.new.self.items c.loop-at.at c.next_candidate-at.result c.new.result c.loop-at.invariant
    c.next_candidate-at.ensures.between.0 (omega (arith, c.if-at-tip.true)) c.next_candidate-at.ensures.clear (omega (arith, c.if-len-limit.true)) (c.next_candidate-at.ensures.found c.if-at-tip.true) c.in_ok-push.ensures.items c.new.ensures

pub loop-at-preserved : goal.loop-at-preserved
loop-at-preserved g c =
    let tip = c.get-tip.ensures in
    filled_past (g.Self.Candidates.activity c.args.self.now) c.args.floor c.args.tip c.args.limit c.args.out.now.items c.loop-at.out.items c.loop-at.at c.next_candidate-at.result c.loop-at.invariant
    c.next_candidate-at.ensures.between.0 (omega (arith, c.next_candidate-at.ensures.between.1)) c.next_candidate-at.ensures.clear

pub returns : goal.returns
returns g c = record {
  ok = subst (λ next. IsFilled (g.Self.Candidates.activity c.args.self.now) c.args.floor c.args.tip c.args.limit c.args.out.now.items c.loop-at.out.items next) (sym c.new-2.ensures) c.loop-at.invariant;
  rest = subst (λ next. candidates (g.Self.Candidates.activity c.args.self.now) c.args.floor c.args.tip ≡ candidates (g.Self.Candidates.activity c.args.self.now) c.args.floor next ++ candidates (g.Self.Candidates.activity c.args.self.now) next c.args.tip) (sym c.new-2.ensures)
      (filled_rest (g.Self.Candidates.activity c.args.self.now) c.args.floor c.args.tip c.args.limit c.args.out.now.items c.loop-at.out.items c.loop-at.at c.loop-at.invariant);
  whole = λ few.
      let from = c.loop-at.invariant.from in
      let to = c.loop-at.invariant.to in
      let tip = c.get-tip.ensures in
      elim c.loop-at-test.branch [
        | then-loop-at-test+else-len-limit w ↦ absurd (omega (arith, few, w.len.ensures, w.if-len-limit.false, c.loop-at.out.ok.0))
        | else-loop-at-test w ↦ omega (arith, c.new-2.ensures, from, to, tip, w.loop-at-test.false)
      ];
  err = tt;
}

pub next_candidate-at-requires : goal.next_candidate-at-requires
next_candidate-at-requires g c = omega (arith, c.loop-at-test.true)

pub returns-in_err-push : goal.returns-in_err-push
returns-in_err-push g c =
    let exit = err_from_is_err_and c.from_residual.result c.from_residual.ensures.1 in
    record {
      ok = IfOk-from_err c.from_residual.result _ c.from_residual.ensures.0;
      rest = IfOk-from_err c.from_residual.result _ c.from_residual.ensures.0;
      whole = IfOk-from_err c.from_residual.result _ c.from_residual.ensures.0;
      err = rw exit.1 (c.loop-at.at, subst (λ xs. IsFilled (g.Self.Candidates.activity c.args.self.now) c.args.floor c.args.tip c.args.limit c.args.out.now.items xs c.loop-at.at) (sym c.in_err-push.ensures.items) c.loop-at.invariant);
    }

pub overflow_add-at : goal.overflow_add-at
overflow_add-at g c = omega (arith, c.if-at-tip.true, c.get-tip.type_inv)

pub loop-at-smaller : goal.loop-at-smaller
loop-at-smaller g c = omega (arith, c.if-at-tip.false, c.loop-at-test.true)

pub loop-at-smaller-then-at-tip : goal.loop-at-smaller-then-at-tip
loop-at-smaller-then-at-tip g c = omega (arith, c.loop-at-test.true, c.next_candidate-at.ensures.between)
