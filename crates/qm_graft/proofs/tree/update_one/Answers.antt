use Rattle.std.proofs.Common.{◌∙◌, ◌<◌, ◌≤◌, ◌+◌, arith, ap, ap₂, length, refl, sym, subst, All}
use Rattle.std.specs.Prelude.{slice_set}
use Rattle.std.proofs.lemmas.Result.{IfOk-from_err, err_from_is_err_and, on_ok_weaker}
use Rattle.qm_merkle.specs.Batches.{Draft, drafted}
use Rattle.qm_graft.specs.Grafting.{IsRedrafted}
use Rattle.qm_graft.proofs.Following.{updated-few, updated-above, updated-same}
use Rattle.qm_graft.proofs.tree.update_one.Goals as goal

pub returns-then-get-at : goal.returns-then-get-at
returns-then-get-at g c = record {
  same = record { start = refl; base = refl; layers = refl; added = refl };
  few = omega arith;
  put = λ low values long. absurd (omega (arith, low, c.if-get-at.true, c.get.ensures, c.leaves.ensures));
  past = λ past. refl;
  above = λ least each high. each;
  made = (0, omega arith, omega arith);
  cause = tt;
}

pub returns-in_err-value : goal.returns-in_err-value
returns-in_err-value g c = record {
  same = IfOk-from_err c.from_residual.result _ c.from_residual.ensures.0;
  few = IfOk-from_err c.from_residual.result _ c.from_residual.ensures.0;
  put = λ low values long. IfOk-from_err c.from_residual.result _ c.from_residual.ensures.0;
  past = λ past. refl;
  above = λ least each high. IfOk-from_err c.from_residual.result _ c.from_residual.ensures.0;
  made = IfOk-from_err c.from_residual.result _ c.from_residual.ensures.0;
  cause =
      let exit = err_from_is_err_and c.from_residual.result c.from_residual.ensures.1 in
      rw (exit.1, exit.2) refl;
}

pub returns : goal.returns
returns g c = record {
  few =
      let draft = c.args.draft.now in
      let low : c.new.result < draft.base = omega (arith, c.new.ensures, c.if-get-at.false, c.get.ensures, c.leaves.ensures, ap length c.requires.fresh) in
      on_ok_weaker c.update_leaf_digest.result (λ is. subst (λ (d : Draft g.row.H-Digest.Denot). length d.replaced ≤ length draft.replaced + 1) (sym is) (updated-few draft c.new.result _ low)) c.update_leaf_digest.ensures.ok;
  above = λ least each high.
      let draft = c.args.draft.now in
      let low : c.new.result < draft.base = omega (arith, c.new.ensures, c.if-get-at.false, c.get.ensures, c.leaves.ensures, ap length c.requires.fresh) in
      on_ok_weaker c.update_leaf_digest.result (λ is. subst (λ (d : Draft g.row.H-Digest.Denot). All (λ e. least ≤ e.0) d.replaced) (sym is) (updated-above draft c.new.result _ least low each (omega (arith, high, c.new.ensures)))) c.update_leaf_digest.ensures.ok;
  same =
      let draft = c.args.draft.now in
      let low : c.new.result < draft.base = omega (arith, c.new.ensures, c.if-get-at.false, c.get.ensures, c.leaves.ensures, ap length c.requires.fresh) in
      on_ok_weaker c.update_leaf_digest.result (λ is. subst (λ (d : Draft g.row.H-Digest.Denot). IsRedrafted draft d) (sym is) (updated-same draft c.new.result _ low)) c.update_leaf_digest.ensures.ok;
  put = λ low values long.
      let old = drafted g.H.Digest.Digest.bytes c.args.draft.now values in
      on_ok_weaker c.update_leaf_digest.result (λ is. is ∙ ap₂ (λ n v. slice_set old n v) c.new.ensures c.in_ok-value.ensures.value) (c.update_leaf_digest.ensures.leaf values long);
  past = λ past. absurd (omega (arith, past, c.if-get-at.false, c.get.ensures, c.leaves.ensures, ap length c.requires.fresh));
  made = on_ok_weaker c.update_leaf_digest.result (λ known. (1, omega arith, c.in_ok-value.ensures.made)) c.update_leaf_digest.ensures.range;
  cause = c.update_leaf_digest.ensures.memory (omega (arith, c.requires.kept, c.new.ensures)) (omega (arith, c.new.ensures, c.if-get-at.false, c.get.ensures, c.leaves.ensures));
}
