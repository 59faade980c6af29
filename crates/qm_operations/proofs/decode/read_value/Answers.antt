use Rattle.std.proofs.Common.{ap, sym}
use Rattle.std.specs.Option.{option_and_then}
use Rattle.qm_model.specs.Forms.{tested}
use Rattle.qm_operations.proofs.Fields.{refused, taken}
use Rattle.qm_operations.proofs.decode.read_value.Goals as goal

pub returns-in_err-value : goal.returns-in_err-value
returns-in_err-value g c = rw c.from_residual.ensures (record {
  value = ap (option_and_then (tested g.U.Update.form.is_value)) (rw (c.value_size.ensures, c.sizes.ensures) at c.in_err-value.ensures.value);
  known = tt;
  sized = tt;
  has = tt;
})

pub returns-then-is_value : goal.returns-then-is_value
returns-then-is_value g c =
    let found = rw (c.value_size.ensures, c.sizes.ensures) at c.in_ok-value.ensures.value in
    let known = sym c.if-is_value.ensures.form in
    record {
      value = taken g.U.Update.form.is_value _ (c.in_ok-value.value.now, c.in_ok-value.rest.now) found known;
      known = known;
      sized = rw (c.value_size.ensures, c.sizes.ensures) at c.in_ok-value.ensures.sized;
      has = sym c.if-is_value.ensures.value;
    }

pub returns-else-is_value : goal.returns-else-is_value
returns-else-is_value g c =
    let found = rw (c.value_size.ensures, c.sizes.ensures) at c.in_ok-value.ensures.value in
    record {
      value = refused g.U.Update.form.is_value _ (c.in_ok-value.value.now, c.in_ok-value.rest.now) found (sym c.if-is_value.ensures.form);
      known = tt;
      sized = tt;
      has = tt;
    }
