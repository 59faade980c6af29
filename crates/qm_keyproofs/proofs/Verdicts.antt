-- The verdict on a claim, by its parts.
use Rattle.std.proofs.Common.{◌≡◌, ℕ, ◌+◌, ◌^◌, ◌<◌, ◌≤◌, Bool, true, false, List, length, arith, ap, sym, ◌∙◌, refl, Option, Some, None}
use Rattle.std.specs.Prelude.{◌&&◌, ◌==◌, nat_le, nat_lt, bytes_eq, option_map}
use Rattle.std.proofs.lemmas.Bool.{leb-true, ltb-true, false≢true}
use Rattle.std.proofs.lemmas.Bool.Decides.{nat_tests}
use Rattle.qm_model.specs.Operations.{Bytes}
use Rattle.qm_model.specs.Trees.{Shape, peaks, root_of}
use Rattle.qm_model.specs.Bits.{partial_chunk}
use Rattle.qm_model.specs.Grafted.{pending_chunk, canonical_input, partial_of}
use Rattle.qm_model.specs.RangeProofs.{RangeProof, touched_chunks, has_canonical}
use Rattle.qm_model.proofs.MmrPeaks.{test_true}
use Rattle.qm_model.proofs.Proving.{less_true}
use Rattle.qm_keyproofs.specs.Claims.{Claim, agrees_with, values_of, verdict_on}

is_same : (m n : ℕ) → m ≡ n → (m == n) ≡ true
is_same m n is = grind (arith, nat_tests)

same_of : (m n : ℕ) → (m == n) ≡ true → m ≡ n
same_of m n is = grind (arith, nat_tests)

module _ (hash : Bytes → Bytes) (shape : Shape) (claim : Claim) (range : RangeProof) (root : Bytes) where
  abbrev n : ℕ
  n = range.proof.leaves

  -- its numbers fit the claim
  abbrev Fits : Type 0
  Fits = (n ≤ 2 ^ 62) × (0 < length claim.items) × (claim.start + length claim.items ≤ n) × (range.proof.inactive ≤ length (peaks shape n))
      × (length claim.chunks ≡ touched_chunks claim.height claim.start (claim.start + length claim.items))

  -- and its digests of chunks
  abbrev agree : Bool
  agree = agrees_with hash shape claim (pending_chunk shape claim.height n) range.pending && agrees_with hash shape claim (partial_chunk (2 ^ claim.height) n) range.partial

  abbrev values : Option (List Bytes)
  values = values_of hash shape claim (peaks shape n) range.proof.digests

  abbrev roots : Option (List Bytes) → Bool
  roots o = has_canonical hash shape claim.height claim.items claim.start claim.chunks range root o

  all_of : (p q r s t u v w : Bool) → p ≡ true → q ≡ true → r ≡ true → s ≡ true → t ≡ true → (p && (q && (r && (s && (t && (u && (v && w))))))) ≡ ((u && v) && w)
  all_of false q r s t u v w a b c d e = absurd (false≢true a)
  all_of true false r s t u v w a b c d e = absurd (false≢true b)
  all_of true true false s t u v w a b c d e = absurd (false≢true c)
  all_of true true true false t u v w a b c d e = absurd (false≢true d)
  all_of true true true true false u v w a b c d e = absurd (false≢true e)
  all_of true true true true true true v w a b c d e = refl
  all_of true true true true true false v w a b c d e = refl

  one_not : (p q r s t u v w : Bool) → ((u && v) && w) ≡ false → (p && (q && (r && (s && (t && (u && (v && w))))))) ≡ false
  one_not false q r s t u v w is = refl
  one_not true false r s t u v w is = refl
  one_not true true false s t u v w is = refl
  one_not true true true false t u v w is = refl
  one_not true true true true false u v w is = refl
  one_not true true true true true false v w is = refl
  one_not true true true true true true v w is = is

  unfit : (p q r s t w : Bool) → (p ≡ true → q ≡ true → r ≡ true → s ≡ true → t ≡ true → ⊥) → false ≡ (p && (q && (r && (s && (t && w)))))
  unfit false q r s t w refuted = refl
  unfit true false r s t w refuted = refl
  unfit true true false s t w refuted = refl
  unfit true true true false t w refuted = refl
  unfit true true true true false w refuted = refl
  unfit true true true true true w refuted = absurd (refuted refl refl refl refl refl)

  -- a verdict of no: if its numbers don't fit, if a digest of a chunk doesn't, and if it has no root
  pub verdict_unfit : (Fits → ⊥) → false ≡ verdict_on hash shape claim range root
  verdict_unfit refuted =
      unfit (nat_le n (2 ^ 62)) (nat_lt 0 (length claim.items)) (nat_le (claim.start + length claim.items) n) (nat_le range.proof.inactive (length (peaks shape n)))
      (length claim.chunks == touched_chunks claim.height claim.start (claim.start + length claim.items))
      (agrees_with hash shape claim (pending_chunk shape claim.height n) range.pending && (agrees_with hash shape claim (partial_chunk (2 ^ claim.height) n) range.partial && roots values))
      (λ p q r s t. refuted (
        leb-true n (2 ^ 62) p,
        ltb-true 0 (length claim.items) q,
        leb-true (claim.start + length claim.items) n r,
        leb-true range.proof.inactive (length (peaks shape n)) s,
        same_of (length claim.chunks) (touched_chunks claim.height claim.start (claim.start + length claim.items)) t,
      ))

  not_with : ((agree && roots values) ≡ false) → false ≡ verdict_on hash shape claim range root
  not_with is = sym (one_not (nat_le n (2 ^ 62)) (nat_lt 0 (length claim.items)) (nat_le (claim.start + length claim.items) n) (nat_le range.proof.inactive (length (peaks shape n)))
      (length claim.chunks == touched_chunks claim.height claim.start (claim.start + length claim.items))
      (agrees_with hash shape claim (pending_chunk shape claim.height n) range.pending) (agrees_with hash shape claim (partial_chunk (2 ^ claim.height) n) range.partial) (roots values) is)

  pub verdict_other : agree ≡ false → false ≡ verdict_on hash shape claim range root
  verdict_other is = not_with (ap (λ t. t && roots values) is)

  pub verdict_none : None ≡ option_map (root_of hash n range.proof.inactive) values → false ≡ verdict_on hash shape claim range root
  verdict_none is = not_with (at agree values is)
    where
      at : (t : Bool) (o : Option (List Bytes)) → None ≡ option_map (root_of hash n range.proof.inactive) o → (t && roots o) ≡ false
      at false o e = refl
      at true None e = refl
      at true (Some out) e = cc

  -- else it compares roots
  pub verdict_is : (d made : Bytes) → Fits → agree ≡ true → Some d ≡ option_map (root_of hash n range.proof.inactive) values →
      made ≡ hash (canonical_input range.ops_root d range.pending (partial_of hash shape claim.height n range.partial)) → verdict_on hash shape claim range root ≡ bytes_eq made root
  verdict_is d made fits agreed is hashed =
      all_of (nat_le n (2 ^ 62)) (nat_lt 0 (length claim.items)) (nat_le (claim.start + length claim.items) n) (nat_le range.proof.inactive (length (peaks shape n)))
      (length claim.chunks == touched_chunks claim.height claim.start (claim.start + length claim.items))
      (agrees_with hash shape claim (pending_chunk shape claim.height n) range.pending) (agrees_with hash shape claim (partial_chunk (2 ^ claim.height) n) range.partial) (roots values)
      (test_true n (2 ^ 62) fits.0) (less_true 0 (length claim.items) fits.1) (test_true (claim.start + length claim.items) n fits.2) (test_true range.proof.inactive (length (peaks shape n)) fits.3)
      (is_same (length claim.chunks) (touched_chunks claim.height claim.start (claim.start + length claim.items)) fits.4)
      ∙ ap (λ t. t && roots values) agreed ∙ at values is
    where
      at : (o : Option (List Bytes)) → Some d ≡ option_map (root_of hash n range.proof.inactive) o → roots o ≡ bytes_eq made root
      at None e = cc
      at (Some out) e =
          let same : d ≡ root_of hash n range.proof.inactive out = cc in
          ap (λ x. bytes_eq x root) (sym (hashed ∙ ap (λ x. hash (canonical_input range.ops_root x range.pending (partial_of hash shape claim.height n range.partial))) same))
