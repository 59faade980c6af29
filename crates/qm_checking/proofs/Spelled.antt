-- Words of too few digits, or of too many.
use Rattle.std.proofs.Common.{◌≡◌, ◌⊎◌, ℕ, ◌/◌, ◌<◌, Bool, true, false, length, Some, None, Result, Ok, Err, arith, refl, sym, ap, ⊎_elim}
use Rattle.std.specs.Prelude.{nat_le, is_some, if◌then◌else◌, ◌&&◌}
use Rattle.std.proofs.lemmas.Bool.{lt-leb}
use Rattle.hex.specs.Hex.{decode_of}
use Rattle.hex.specs.declared.error.FromHexError.{FromHexError}
use Rattle.hex.proofs.HexLemmas.{decode_of-ok}
use Rattle.qm_model.specs.Operations.{Bytes}
use Rattle.qm_machine.specs.Grammar.{within}

or_else : (some : Bool) (bytes : Bytes) → false ≡ is_some (if some && false then Some bytes else None)
or_else true bytes = refl
or_else false bytes = refl

pub not_so_many : (low high : ℕ) (word : Bytes) → (length word / 2 < low) ⊎ (high < length word / 2) → false ≡ is_some (within low high (decode_of word))
not_so_many low high word other = found (decode_of word) refl
  where
    found : (r : Result Bytes FromHexError) → decode_of word ≡ r → false ≡ is_some (within low high r)
    found (Err e) is = refl
    found (Ok bytes) is =
        let long = (decode_of-ok word bytes is).2 in
        ⊎_elim
        (λ (few : length word / 2 < low). sym (ap (λ t. is_some (if t && nat_le (length bytes) high then Some bytes else None)) (lt-leb low (length bytes) (omega (arith, few, long)))))
        (λ (many : high < length word / 2). rw (lt-leb (length bytes) high (omega (arith, many, long))) (or_else (nat_le low (length bytes)) bytes))
        other
