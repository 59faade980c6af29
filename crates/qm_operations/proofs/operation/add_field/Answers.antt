use Rattle.std.proofs.Common.{◌≡◌, ◌++◌, ◌∙◌, ◌<◌, ◌^◌, List, ℕ, ap, sym, subst, length}
use Rattle.std.specs.Prelude.{Result, Ok, Err, OnOk, if◌then◌else◌, is_ok}
use Rattle.std.proofs.lemmas.Result.{IfOk-from_err}
use Rattle.qm_model.specs.Forms.{field}
use Rattle.qm_operations.proofs.operation.add_field.Goals as goal

appended : {E : Type 0} (r : Result (Unit {0}) E) (old new bs all : List ℕ) → old ++ bs ≡ all → new ≡ (if is_ok r then old ++ bs else old) → OnOk r (new ≡ all)
appended (Ok x) old new bs all is e = e ∙ is
appended (Err y) old new bs all is e = tt

pub returns-in-Some : goal.returns-in-Some
returns-in-Some g c =
    let is = c.as_bytes-bytes.ensures.value in
    let bytes = g.B.ByteString.bytes c.args.field.now in
    let old = c.args.out.now.items in
    record {
      spelled = appended c.extend_from_slice-in-Some.result old c.extend_from_slice-in-Some.new.self.items c.as_bytes-bytes.result.now _ (ap (λ bs. old ++ bs) is ∙ ap (λ size. old ++ field size bytes) (sym c.in-Some.is)) c.extend_from_slice-in-Some.ensures.items;
      has = ap g.B.ByteString.has (sym is) ∙ c.as_bytes-bytes.ensures.known;
      short = subst (λ bs. length bs < 2 ^ 32) is c.as_bytes-bytes.ensures.short;
    }

pub returns-in_err-extend_from_slice-in-None : goal.returns-in_err-extend_from_slice-in-None
returns-in_err-extend_from_slice-in-None g c = record {
  spelled = IfOk-from_err c.from_residual.result _ c.from_residual.ensures.0;
  has = ap g.B.ByteString.has (sym c.as_bytes-bytes.ensures.value) ∙ c.as_bytes-bytes.ensures.known;
  short = subst (λ bs. length bs < 2 ^ 32) c.as_bytes-bytes.ensures.value c.as_bytes-bytes.ensures.short;
}
