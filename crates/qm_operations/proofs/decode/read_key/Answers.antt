use Rattle.std.proofs.Common.{ap, sym}
use Rattle.std.specs.Option.{option_and_then}
use Rattle.qm_model.specs.Forms.{tested}
use Rattle.qm_operations.proofs.Fields.{refused, taken}
use Rattle.qm_operations.proofs.decode.read_key.Goals as goal

pub returns-in_err-key : goal.returns-in_err-key
returns-in_err-key g c = rw c.from_residual.ensures (record {
  value = ap (option_and_then (tested g.U.Update.form.is_key)) (rw (c.key_size.ensures, c.sizes.ensures) at c.in_err-key.ensures.value);
  known = tt;
  sized = tt;
  has = tt;
})

pub returns-then-is_key : goal.returns-then-is_key
returns-then-is_key g c =
    let found = rw (c.key_size.ensures, c.sizes.ensures) at c.in_ok-key.ensures.value in
    let known = sym c.if-is_key.ensures.form in
    record {
      value = taken g.U.Update.form.is_key _ (c.in_ok-key.key.now, c.in_ok-key.rest.now) found known;
      known = known;
      sized = rw (c.key_size.ensures, c.sizes.ensures) at c.in_ok-key.ensures.sized;
      has = sym c.if-is_key.ensures.key;
    }

pub returns-else-is_key : goal.returns-else-is_key
returns-else-is_key g c =
    let found = rw (c.key_size.ensures, c.sizes.ensures) at c.in_ok-key.ensures.value in
    record {
      value = refused g.U.Update.form.is_key _ (c.in_ok-key.key.now, c.in_ok-key.rest.now) found (sym c.if-is_key.ensures.form);
      known = tt;
      sized = tt;
      has = tt;
    }
