use Rattle.std.proofs.Common.{◌≡◌, ◌∙◌, ◌++◌, true, sym, ap, arith, take, map, Bor, List, ℕ}
use Rattle.std.specs.Prelude.{option_map}
use Rattle.std.specs.Map.{lookup}
use Rattle.std.specs.Cmp.Lexicographic.{slice_cmp}
use Rattle.std.specs.Ordering.{nat_cmp, is_eq}
use Rattle.std.proofs.lemmas.List.{append-nil, take_all}
use Rattle.qm_step.specs.Changes.{change_of}
use Rattle.qm_step.specs.PlanViews.{touch_view, noted_view}
use Rattle.qm_step.specs.Touches.{IsFrom, operations_of}
use Rattle.qm_step.proofs.PlanDiffs.{no-change}
use Rattle.qm_step.proofs.PlanLoops.{all-mapped, own-more, own-long, none-kept}
use Rattle.qm_step.proofs.diff.notes_of.Goals as goal

pub loop-i-init : goal.loop-i-init
loop-i-init g c = record {
  noted = λ base is from q.
      ap (λ es. option_map (noted_view g.U.Value.ByteString.bytes) (lookup (λ k. is_eq (slice_cmp nat_cmp q k.now)) es)) c.new-notes.ensures.empty
      ∙ no-change base q ∙ ap (λ ops. change_of base ops q) (sym (append-nil base));
  known = none-kept (λ (k : Bor (List ℕ)). g.U.Key.ByteString.has k.now ≡ true) c.new-notes.result.entries c.new-notes.ensures.empty;
}

pub loop-i-preserved : goal.loop-i-preserved
loop-i-preserved g c = record {
  noted = λ base is from q.
      let view = touch_view g.U.Update.view g.U.Key.ByteString.bytes g.U.Value.ByteString.bytes in
      let touches = c.args.touches.now in
      let i = c.loop-i.i in
      c.in_ok-note.ensures.noted base (operations_of (map view (take i touches))) (own-long view base touches i c.args.size is (omega (arith, c.loop-i-test.true)))
      (all-mapped (IsFrom base) view touches i c.index-touches-i.result from c.loop-i-test.true c.index-touches-i.is) (c.loop-i.invariant.noted base is from) q
      ∙ ap (λ ops. change_of base ops q) (own-more view base touches i c.index-touches-i.result c.loop-i-test.true c.index-touches-i.is);
  known = c.in_ok-note.ensures.known c.loop-i.invariant.known;
}

pub returns-clause-noted : goal.returns-clause-noted
returns-clause-noted g c = λ base is from q.
    let view = touch_view g.U.Update.view g.U.Key.ByteString.bytes g.U.Value.ByteString.bytes in
    c.loop-i.invariant.noted base is from q ∙ ap (λ ts. change_of base (base ++ operations_of (map view ts)) q) (take_all c.loop-i.i c.args.touches.now c.loop-i-test.false)
