use Rattle.std.proofs.Common.{◌≢◌, ◌∙◌, ap, arith, length, refl, subst, sym, Some}
use Rattle.std.specs.Prelude.{All}
use Rattle.std.proofs.lemmas.List.{take_all}
use Rattle.std.proofs.lemmas.List.Elements.{All-more}
use Rattle.std.proofs.lemmas.Option.{none-some, same_Some, slice_get_read}
use Rattle.qm_batch.proofs.apply.place_in.Goals as goal

pub returns-in_err-location : goal.returns-in_err-location
returns-in_err-location g c = record {
  some = rw c.from_residual.ensures tt;
  none = rw c.from_residual.ensures (λ k d within same. none-some _ (sym c.in_err-location.was ∙ sym same));
}

pub loop-at-init : goal.loop-at-init
loop-at-init g c = λ k d none same. absurd (omega arith)

pub returns-then-get : goal.returns-then-get
returns-then-get g c = record {
  some =
      let here = slice_get_read c.args.bucket.now (length c.args.bucket.now) c.loop-at.at c.index-bucket-at.result refl c.loop-at-test.true c.index-bucket-at.is in
      (c.loop-at-test.true, here ∙ ap Some (sym c.get.ensures ∙ c.if-get.true ∙ c.get-in-loop-at.ensures) ∙ sym c.in_ok-location.was);
  none = tt;
}

pub loop-at-preserved : goal.loop-at-preserved
loop-at-preserved g c =
    All-more (λ at. at ≢ c.in_ok-location.location) c.args.bucket.now c.loop-at.at c.index-bucket-at.result c.loop-at-test.true c.loop-at.invariant
    (λ same. c.if-get.false (c.get.ensures ∙ c.index-bucket-at.is ∙ same ∙ sym c.get-in-loop-at.ensures))

pub returns : goal.returns
returns g c = record {
  some = tt;
  none = λ k d within same.
      let all = subst (All (λ at. at ≢ c.in_ok-location.location)) (take_all c.loop-at.at c.args.bucket.now c.loop-at-test.false) c.loop-at.invariant in
      all k d within (same_Some _ _ (same ∙ c.in_ok-location.was));
}
