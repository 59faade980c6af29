use Rattle.std.proofs.Common.{◌≡◌, ◌∙◌, ◌+◌, ◌<◌, ◌≤◌, ◌++◌, ◌∷◌, [], suc, get_or, length, map, take, arith, ap, refl, sym, subst, ⊎_elim}
use Rattle.std.proofs.Math.Seq.{take-suc}
use Rattle.std.proofs.lemmas.Bool.{cases_lt}
use Rattle.std.proofs.lemmas.List.{length-append, length-map, take_all}
use Rattle.std.proofs.lemmas.Result.{IfOk-from_err, err_from_is_err_and}
use Rattle.qm_bits.specs.Bitmaps.{all_bits}
use Rattle.qm_merkle.specs.Batches.{Draft, drafted, replaced_from}
use Rattle.qm_merkle.proofs.Drafting.{length-replaced_from}
use Rattle.qm_graft.specs.Grafting.{made_value, AreMade}
use Rattle.qm_graft.proofs.Following.{one-made, one-past}
use Rattle.qm_graft.proofs.tree.update_all.Goals as goal

pub loop-at-preserved : goal.loop-at-preserved
loop-at-preserved g c =
    let bytes = g.H.Digest.Digest.bytes in
    let fresh = c.args.draft.now in
    let draft = c.loop-at.draft in
    let next = c.update_one.new.draft in
    let is = c.loop-at.invariant in
    let done = c.in_ok-update_one.ensures in
    let i = c.loop-at.at-index in
    let changed = c.args.changed.now in
    let at = get_or changed i 0 in
    let made = made_value bytes g.H.Hasher.hash (g.O.Nodes.node_at c.args.behind.now.operations.now) g.F.Family.shape g.N.Chunks.LEN (all_bits g.N.Chunks.LEN (g.B.Readable.bitmap c.args.behind.now.bits.now)) in
    let more : take (i + 1) changed ≡ take i changed ++ at ∷ [] = let up : i + 1 ≡ suc i = omega arith in ap (λ n. take n changed) up ∙ take-suc changed i 0 c.loop-at-test.true in
    record {
      same = record { start = done.same.start ∙ is.same.start; base = done.same.base ∙ is.same.base; layers = done.same.layers ∙ is.same.layers; added = done.same.added ∙ is.same.added };
      few = omega (arith, done.few, is.few);
      above = λ least high each. done.above least (is.above least high each) (each i 0 c.loop-at-test.true);
      values = λ values long.
          let count : length (drafted bytes fresh values) ≡ fresh.base =
          omega (arith, length-append (replaced_from bytes fresh.replaced 0 values) (map bytes fresh.added), length-replaced_from bytes fresh.replaced 0 values, length-map fresh.added bytes, ap length c.requires.fresh, long) in
          let base : draft.base ≡ fresh.base = is.same.base in
          ⊎_elim
          (λ (low : at < draft.base). one-made made (take i changed) (take (i + 1) changed) at (drafted bytes fresh values) (drafted bytes draft values) (drafted bytes next values) more (is.values values long) (omega (arith, low, base, count)) (done.put low values (omega (arith, long, base))))
          (λ (past : draft.base ≤ at).
          one-past made (take i changed) (take (i + 1) changed) at (drafted bytes fresh values) (drafted bytes next values) more
          (subst (λ (d : Draft g.row.H-Digest.Denot). AreMade made (take i changed) (drafted bytes fresh values) (drafted bytes d values)) (sym (done.past past)) (is.values values long)) (omega (arith, past, base, count)))
          (cases_lt at draft.base);
      made = (is.made.0 + done.made.0, omega (arith, is.made.1, done.made.1), omega (arith, is.made.2, done.made.2));
    }

pub loop-at-init : goal.loop-at-init
loop-at-init g c =
    record {
      same = record { start = refl; base = refl; layers = refl; added = refl };
      few = omega arith;
      above = λ least each high. each;
      values = λ values long. record { long = refl; put = λ k found low. let none = found.1 in absurd (omega (arith, none)); others = λ k never. refl };
      made = (0, omega arith, omega arith);
    }

pub update_one-requires-clause-fresh : goal.update_one-requires-clause-fresh
update_one-requires-clause-fresh g c = c.loop-at.invariant.same.added ∙ c.requires.fresh

pub update_one-requires-clause-kept : goal.update_one-requires-clause-kept
update_one-requires-clause-kept g c = subst (λ n. n ≤ get_or c.args.changed.now c.loop-at.at-index 0) (sym c.loop-at.invariant.same.start) (c.requires.kept c.loop-at.at-index 0 c.loop-at-test.true)

pub update_one-requires-clause-can : goal.update_one-requires-clause-can
update_one-requires-clause-can g c = λ low. c.requires.can c.loop-at.at-index 0 c.loop-at-test.true (subst (λ n. get_or c.args.changed.now c.loop-at.at-index 0 < n) c.loop-at.invariant.same.base low)

pub returns-in_err-update_one : goal.returns-in_err-update_one
returns-in_err-update_one g c = record {
  same = IfOk-from_err c.from_residual.result _ c.from_residual.ensures.0;
  few = IfOk-from_err c.from_residual.result _ c.from_residual.ensures.0;
  above = λ least each high. IfOk-from_err c.from_residual.result _ c.from_residual.ensures.0;
  values = λ values long. IfOk-from_err c.from_residual.result _ c.from_residual.ensures.0;
  made = IfOk-from_err c.from_residual.result _ c.from_residual.ensures.0;
  cause =
      let exit = err_from_is_err_and c.from_residual.result c.from_residual.ensures.1 in
      rw (exit.1, exit.2) c.in_err-update_one.ensures.cause;
}

pub returns : goal.returns
returns g c = record {
  same = c.loop-at.invariant.same;
  few = let few = c.loop-at.invariant.few in omega (arith, few, c.loop-at.auto.at-index-end);
  above = c.loop-at.invariant.above;
  values = λ values long.
      let bytes = g.H.Digest.Digest.bytes in
      let made = made_value bytes g.H.Hasher.hash (g.O.Nodes.node_at c.args.behind.now.operations.now) g.F.Family.shape g.N.Chunks.LEN (all_bits g.N.Chunks.LEN (g.B.Readable.bitmap c.args.behind.now.bits.now)) in
      subst (λ cs. AreMade made cs (drafted bytes c.args.draft.now values) (drafted bytes c.loop-at.draft values)) (take_all c.loop-at.at-index c.args.changed.now c.loop-at-test.false) (c.loop-at.invariant.values values long);
  made = let made = c.loop-at.invariant.made in (made.0, omega (arith, made.1, c.loop-at.auto.at-index-end), made.2);
  cause = tt;
}
