-- Fields that are tested.
use Rattle.std.proofs.Common.{◌≡◌, ap, sym, subst, true, false, Bool, Option, Some, None}
use Rattle.std.specs.Prelude.{if◌then◌else◌}
use Rattle.std.specs.Option.{option_and_then}
use Rattle.qm_model.specs.Forms.{tested}
use Rattle.qm_model.specs.Operations.{Bytes}

-- a field and what follows it, if the field passes the test, or not
pub taken : (is : Bytes → Bool) (found : Option (Bytes × Bytes)) (p : Bytes × Bytes) → Some p ≡ found → is p.0 ≡ true → Some p ≡ option_and_then (tested is) found
taken is found p here passes = subst (λ o. Some p ≡ option_and_then (tested is) o) here (ap (λ b. if b then Some p else None) (sym passes))

pub refused : (is : Bytes → Bool) (found : Option (Bytes × Bytes)) (p : Bytes × Bytes) → Some p ≡ found → is p.0 ≡ false → None ≡ option_and_then (tested is) found
refused is found p here fails = subst (λ o. None ≡ option_and_then (tested is) o) here (ap (λ b. if b then Some p else None) (sym fails))
