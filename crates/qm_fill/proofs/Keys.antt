-- What a draw writes: the bytes of its key and its value, and its command.
use Rattle.std.proofs.Common.{◌≡◌, ℕ, ◌/◌, ◌%◌, ◌^◌, zero, suc, Bool, true, false, cond, nat_lt, List, [], ◌∷◌, length, refl, sym, ap, ◌∙◌, eq-eqb, arith}
use Rattle.std.specs.Prelude.{◌&&◌}
use Rattle.std.specs.Int.{byte_at, bytes_high_first}
use Rattle.std.proofs.lemmas.Bool.{ne_eqb}
use Rattle.std.proofs.lemmas.Bool.Decides.{nat_tests}
use Rattle.qm_model.specs.Operations.{Bytes, are_bytes, four_bytes}
use Rattle.qm_model.specs.Policies.{Policy}
use Rattle.qm_machine.specs.Lines.{Line, Put, Del, Commit}
use Rattle.qm_fill.specs.Commands.{key_of, write_of, settling}

both_true : (a b : Bool) → a ≡ true → b ≡ true → (a && b) ≡ true
both_true true b p q = q
both_true false b p q = p

below-byte : (k n : ℕ) → nat_lt (byte_at k n) 256 ≡ true
below-byte zero n = grind (arith, nat_tests)
below-byte (suc k) n = grind (arith, nat_tests)

are_bytes-high_first : (k n : ℕ) → are_bytes (bytes_high_first k n) ≡ true
are_bytes-high_first zero n = refl
are_bytes-high_first (suc k) n = both_true (nat_lt (byte_at k n) 256) (are_bytes (bytes_high_first k n)) (below-byte k n) (are_bytes-high_first k n)

pub key_known : (d : ℕ) → (nat_lt (length (key_of d)) (2 ^ 32) && are_bytes (key_of d)) ≡ true
unfolding key_of
key_known d = are_bytes-high_first 2 (d / 2 ^ 16 % 1024)

pub value_known : (d : ℕ) → (nat_lt (length (four_bytes d)) (2 ^ 32) && are_bytes (four_bytes d)) ≡ true
unfolding four_bytes
value_known d = are_bytes-high_first 4 d

abbrev written : ℕ → ℕ → Bool → Line Policy
written r d t = cond t (Del r (key_of d)) (Put r (key_of d) (four_bytes d))

pub written_away : (r d : ℕ) (key : Bytes) → key ≡ key_of d → d / 2 ^ 12 % 4 ≡ 0 → Del r key ≡ write_of r d
unfolding write_of
written_away r d key is e = ap (λ k. Del r k) is ∙ sym (ap (written r d) (eq-eqb (d / 2 ^ 12 % 4) 0 e))

pub written_there : (r d : ℕ) (key value : Bytes) → key ≡ key_of d → value ≡ four_bytes d → (d / 2 ^ 12 % 4 ≡ 0 → ⊥) → Put r key value ≡ write_of r d
unfolding write_of
written_there r d key value is has other = ap (λ k. Put r k value) is ∙ ap (Put r (key_of d)) has ∙ sym (ap (written r d) (ne_eqb (d / 2 ^ 12 % 4) 0 other))

abbrev settled : Bool → List (Line Policy)
settled t = cond t (Commit ∷ []) []

pub settles : (r : ℕ) → r % 16 ≡ 0 → settling r ≡ Commit ∷ []
unfolding settling
settles r e = ap settled (eq-eqb (r % 16) 0 e)

pub settles_not : (r : ℕ) → (r % 16 ≡ 0 → ⊥) → settling r ≡ []
unfolding settling
settles_not r other = ap settled (ne_eqb (r % 16) 0 other)
