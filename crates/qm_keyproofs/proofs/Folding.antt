-- The values of peaks that a claim and the digests of a proof give, and what they fold to.
use Rattle.std.proofs.Common.{◌≡◌, ℕ, suc, ◌<◌, List, [], ◌∷◌, ◌++◌, length, arith, ap, sym, ◌∙◌, refl, Option, Some, None}
use Rattle.std.specs.Prelude.{option_map, option_and_then}
use Rattle.qm_model.specs.Operations.{Bytes}
use Rattle.qm_model.specs.Trees.{Shape, Node, fold_right}
use Rattle.qm_model.specs.Proofs.{Taken}
use Rattle.qm_proofs.proofs.Folding.{folded_onto, folded}
use Rattle.qm_keyproofs.specs.Claims.{Claim, value_of, values_of}

mapped_twice : {A B C : Type 0} (f : B → C) (g : A → B) (h : A → C) → ((x : A) → f (g x) ≡ h x) → (o : Option A) → option_map f (option_map g o) ≡ option_map h o
mapped_twice f g h same None = refl
mapped_twice f g h same (Some x) = ap Some (same x)

module _ (hash : Bytes → Bytes) (shape : Shape) (claim : Claim) where
  abbrev rows : List Node → List Bytes → Option (List Bytes)
  rows ps ds = values_of hash shape claim ps ds

  -- the first peak's digest before those of the others
  pub rows_first : (p : Node) (ps : List Node) (ds : List Bytes) (t : Bytes × List Bytes) → Some t ≡ value_of hash shape claim p ds → rows (p ∷ ps) ds ≡ option_map (λ rest. t.0 ∷ rest) (rows ps t.1)
  rows_first p ps ds t is = ap (option_and_then (λ t. option_map (λ rest. t.0 ∷ rest) (rows ps t.1))) (sym is)

  pub rows_none : (p : Node) (ps : List Node) (ds : List Bytes) → None ≡ value_of hash shape claim p ds → rows (p ∷ ps) ds ≡ None
  rows_none p ps ds is = ap (option_and_then (λ t. option_map (λ rest. t.0 ∷ rest) (rows ps t.1))) (sym is)

  -- there is a digest for each peak
  pub rows_some : (p : Node) (ps : List Node) (ds out : List Bytes) → rows (p ∷ ps) ds ≡ Some out → 0 < length out
  rows_some p ps ds out is = at (value_of hash shape claim p ds) is
    where
      inner : (d : Bytes) (o : Option (List Bytes)) → option_map (λ rest. d ∷ rest) o ≡ Some out → 0 < length out
      inner d None e = cc
      inner d (Some rest) e = let same : d ∷ rest ≡ out = cc in omega (arith, ap length same)

      at : (o : Taken) → option_and_then (λ t. option_map (λ rest. t.0 ∷ rest) (rows ps t.1)) o ≡ Some out → 0 < length out
      at None e = cc
      at (Some t) e = inner t.0 (rows ps t.1) e

  each : (ps : List Node) (ds : List Bytes) → 0 < length ps → (out : List Bytes) → rows ps ds ≡ Some out → 0 < length out
  each [] ds some out is = absurd (omega arith)
  each (p ∷ ps) ds some out is = rows_some p ps ds out is

  -- one digest before digests that are there
  pub folded_before : (d : Bytes) (o : Option (List Bytes)) → ((out : List Bytes) → o ≡ Some out → 0 < length out) →
      option_map (fold_right hash) (option_map (λ rest. d ∷ rest) o) ≡ option_map (λ x. hash (d ++ x)) (option_map (fold_right hash) o)
  folded_before d None some = refl
  folded_before d (Some []) some = absurd (omega (arith, some [] refl))
  folded_before d (Some (q ∷ rest)) some = refl

  -- an inactive digest more
  pub onto_next : (x d : Bytes) (m n : ℕ) (o : Option (List Bytes)) → m ≡ suc n → option_map (folded_onto hash x m) (option_map (λ rest. d ∷ rest) o) ≡ option_map (folded_onto hash (hash (x ++ d)) n) o
  onto_next x d m n o is =
      ap (λ k. option_map (folded_onto hash x k) (option_map (λ rest. d ∷ rest) o)) is
      ∙ mapped_twice (folded_onto hash x (suc n)) (λ rest. d ∷ rest) (folded_onto hash (hash (x ++ d)) n) (λ rest. refl) o

  -- the first inactive digest
  pub folded_first : (d : Bytes) (m n : ℕ) (o : Option (List Bytes)) → m ≡ suc n → option_map (folded hash m) (option_map (λ rest. d ∷ rest) o) ≡ option_map (folded_onto hash d n) o
  folded_first d m n o is =
      ap (λ k. option_map (folded hash k) (option_map (λ rest. d ∷ rest) o)) is
      ∙ mapped_twice (folded hash (suc n)) (λ rest. d ∷ rest) (folded_onto hash d n) (λ rest. refl) o

  -- the steps of the folds, if a peak is the first of those that are left
  module _ (qs : List Node) (p : Node) (ps : List Node) (ds : List Bytes) (is : qs ≡ p ∷ ps) where
    pub none_behind : (f : List Bytes → Bytes) → None ≡ value_of hash shape claim p ds → None ≡ option_map f (rows qs ds)
    none_behind f none = sym (ap (λ xs. option_map f (rows xs ds)) is ∙ ap (option_map f) (rows_none p ps ds none))

    module _ (t : Bytes × List Bytes) (some : Some t ≡ value_of hash shape claim p ds) where
      first_of : rows qs ds ≡ option_map (λ rest. t.0 ∷ rest) (rows ps t.1)
      first_of = ap (λ xs. rows xs ds) is ∙ rows_first p ps ds t some

      pub right_last : (o : Option Bytes) → length ps ≡ 0 → (length t.1 ≡ 0 → o ≡ Some t.0) → (0 < length t.1 → o ≡ None) → o ≡ option_map (fold_right hash) (rows qs ds)
      right_last o last all part = after ps t.1 last all part ∙ sym (ap (option_map (fold_right hash)) first_of)
        where
          after : (ps : List Node) (rest : List Bytes) → length ps ≡ 0 → (length rest ≡ 0 → o ≡ Some t.0) → (0 < length rest → o ≡ None) → o ≡ option_map (fold_right hash) (option_map (λ rest. t.0 ∷ rest) (rows ps rest))
          after [] [] last all part = all refl
          after [] (d ∷ rest) last all part = part (omega arith)
          after (q ∷ ps) rest last all part = absurd (omega arith)

      pub right_more : (o out : Option Bytes) → 0 < length ps → o ≡ option_map (fold_right hash) (rows ps t.1) → out ≡ option_map (λ x. hash (t.0 ++ x)) o → out ≡ option_map (fold_right hash) (rows qs ds)
      right_more o out more folded is_out =
          is_out ∙ ap (option_map (λ x. hash (t.0 ++ x))) folded ∙ sym (ap (option_map (fold_right hash)) first_of ∙ folded_before t.0 (rows ps t.1) (each ps t.1 more))

      pub onto_step : (x d : Bytes) (m n : ℕ) → m ≡ suc n → d ≡ hash (x ++ t.0) → option_map (folded_onto hash d n) (rows ps t.1) ≡ option_map (folded_onto hash x m) (rows qs ds)
      onto_step x d m n one is_d =
          ap (λ e. option_map (folded_onto hash e n) (rows ps t.1)) is_d ∙ sym (ap (option_map (folded_onto hash x m)) first_of ∙ onto_next x t.0 m n (rows ps t.1) one)

      pub first_step : (m n : ℕ) → m ≡ suc n → option_map (folded_onto hash t.0 n) (rows ps t.1) ≡ option_map (folded hash m) (rows qs ds)
      first_step m n one = sym (ap (option_map (folded hash m)) first_of ∙ folded_first t.0 m n (rows ps t.1) one)

  -- no digest, or one, from the right onto one
  pub none_onto : (qs : List Node) (ds : List Bytes) (x : Bytes) (n : ℕ) → None ≡ option_map (fold_right hash) (rows qs ds) → None ≡ option_map (folded_onto hash x n) (rows qs ds)
  none_onto qs ds x n = at (rows qs ds)
    where
      at : (o : Option (List Bytes)) → None ≡ option_map (fold_right hash) o → None ≡ option_map (folded_onto hash x n) o
      at None e = refl
      at (Some out) e = cc

  pub right_onto : (qs : List Node) (ds : List Bytes) (x : Bytes) (n : ℕ) (rest d : Bytes) → n ≡ 0 → 0 < length qs → Some rest ≡ option_map (fold_right hash) (rows qs ds) → d ≡ hash (x ++ rest) → Some d ≡ option_map (folded_onto hash x n) (rows qs ds)
  right_onto qs ds x n rest d none some is is_d =
      ap Some is_d ∙ ap (option_map (λ y. hash (x ++ y))) is ∙ sym (folded_before x (rows qs ds) (each qs ds some))
      ∙ mapped_twice (fold_right hash) (λ rest. x ∷ rest) (folded_onto hash x 0) (λ rest. refl) (rows qs ds)
      ∙ ap (λ k. option_map (folded_onto hash x k) (rows qs ds)) (sym none)

  -- no peak is left
  pub onto_last : (qs : List Node) (ds : List Bytes) (x : Bytes) (n : ℕ) (o : Option Bytes) → length qs ≡ 0 → n ≡ 0 → (length ds ≡ 0 → o ≡ Some x) → (0 < length ds → o ≡ None) → o ≡ option_map (folded_onto hash x n) (rows qs ds)
  onto_last qs ds x n o last none all part = at qs ds last all part ∙ ap (λ k. option_map (folded_onto hash x k) (rows qs ds)) (sym none)
    where
      at : (qs : List Node) (ds : List Bytes) → length qs ≡ 0 → (length ds ≡ 0 → o ≡ Some x) → (0 < length ds → o ≡ None) → o ≡ option_map (folded_onto hash x 0) (rows qs ds)
      at [] [] last all part = all refl
      at [] (d ∷ ds) last all part = part (omega arith)
      at (q ∷ qs) ds last all part = absurd (omega arith)
