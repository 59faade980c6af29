-- Small laws of options, tests and byte strings.
use Rattle.std.proofs.Common.{◌≡◌, ◌∙◌, ap, sym, refl, Bool, true, false, Option, Some, None, ◌||◌}
use Rattle.std.specs.Prelude.{bytes_eq}
use Rattle.std.specs.Option.{option_or}
use Rattle.qm_model.specs.Operations.{Bytes}
use Rattle.qm_model.proofs.LastWrites.{bytes_same}
use Rattle.qm_model.proofs.Maps.{same_key}

-- or nothing adds nothing
pub or-none : {X : Type 0} (o : Option X) → option_or o None ≡ o
or-none None = refl
or-none (Some x) = refl

-- what is true of the second is true of either
pub or-later : (a b : Bool) → b ≡ true → (a || b) ≡ true
or-later true b h = refl
or-later false b h = h

-- byte strings are compared alike both ways
pub bytes-turned : (a b : Bytes) → bytes_eq a b ≡ bytes_eq b a
bytes-turned a b = by (bytes_eq a b) refl (bytes_eq b a) refl
  where
    by : (s : Bool) → bytes_eq a b ≡ s → (t : Bool) → bytes_eq b a ≡ t → s ≡ t
    by true one true two = refl
    by true one false two = sym (sym two ∙ ap (bytes_eq b) (same_key a b one) ∙ bytes_same b)
    by false one true two = sym one ∙ ap (bytes_eq a) (same_key b a two) ∙ bytes_same a
    by false one false two = refl
