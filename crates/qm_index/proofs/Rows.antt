-- Tables in a row, seen as the lists of their entries.
use Rattle.std.proofs.Common.{get_or-set_other, ◌≡◌, ℕ, ◌-◌, ◌<◌, ◌≤◌, List, [], ◌∷◌, ◌++◌, length, length-append, set, map, ap, sym, ◌∙◌, subst, arith}
use Rattle.std.specs.Prelude.{slice_index_or, drop, take}
use Rattle.std.proofs.lemmas.List.{get_or-map, map-set, length-map, length-drop, map-append, drop-map, take-map, take_all}
use Rattle.std.proofs.Math.Seq.{map-set_same}
use mathlib.Core.Logic.{dite}
use native.Mathlib.Decide.{dec_lt}
use Rattle.qm_index.specs.Buckets.{bucket_at, Puts, IsIndex}
use Rattle.qm_index.specs.Partitioned.{part_at, Changes, joined, AreParts}
use Rattle.qm_index.proofs.Partitions.{Entries, part-in, part-low, behind-last, joined-more, indices-more}

pub row-past : {V : Type 0} (view : List (Entries V)) (i : ℕ) → length view ≤ i → slice_index_or view i [] ≡ []
row-past view i past = behind-last view i past

module _ {A V : Type 0} (e : A → Entries V) where
  pub row-length : (xs : List A) (view : List (Entries V)) → map e xs ≡ view → length view ≡ length xs
  row-length xs view seen = sym (ap length seen) ∙ length-map xs e

  -- the table at a place
  pub row-here : (xs : List A) (view : List (Entries V)) (i : ℕ) (x : A) → map e xs ≡ view → x ≡ slice_index_or xs i x → i < length xs → slice_index_or view i [] ≡ e x
  row-here xs view i x seen is there = ap (λ v. slice_index_or v i []) (sym seen) ∙ get_or-map e xs i x [] there ∙ ap e (sym is)

  pub row-found : (xs ys : List A) (view : List (Entries V)) (i : ℕ) (x : A) → map e xs ≡ view → ys ≡ xs → x ≡ slice_index_or ys i x → i < length ys → slice_index_or view i [] ≡ e x
  row-found xs ys view i x seen same is there = row-here xs view i x seen (is ∙ ap (λ zs. slice_index_or zs i x) same) (subst (λ zs. i < length zs) same there)

  -- those from a place on, and those before it
  pub row-from : (xs ys : List A) (view : List (Entries V)) (i : ℕ) → map e xs ≡ view → ys ≡ xs → map e (take (length ys - i) (drop i ys)) ≡ drop i view
  row-from xs ys view i seen same =
      let long = length-drop i ys in
      ap (map e) (take_all (length ys - i) (drop i ys) (omega (arith, long))) ∙ sym (drop-map e i ys) ∙ ap (drop i) (ap (map e) same ∙ seen)

  pub row-before : (xs ys : List A) (view : List (Entries V)) (i : ℕ) → map e xs ≡ view → ys ≡ xs → map e (take i ys) ≡ take i view
  row-before xs ys view i seen same = sym (take-map e i ys) ∙ ap (take i) (ap (map e) same ∙ seen)

  -- a table that changes
  pub row-changes : (xs : List A) (view : List (Entries V)) (i : ℕ) (x new : A) → map e xs ≡ view → x ≡ slice_index_or xs i x → i < length xs
      → (k : ℕ) (values : List V → List V) → IsIndex (e new) → Puts (e x) (e new) k (values (bucket_at (e x) k)) → Changes view (map e (set xs i new)) i k values
  row-changes xs view i x new seen is there k values index puts = record {
    part = e new;
    is = map-set e xs i new ∙ ap (λ v. set v i (e new)) seen;
    index = index;
    puts = subst (λ es. Puts es (e new) k (values (bucket_at es k))) (sym (row-here xs view i x seen is there)) puts;
  }

  -- and one that does not
  pub row-back : (xs : List A) (view : List (Entries V)) (i : ℕ) (x new : A) → map e xs ≡ view → x ≡ slice_index_or xs i x → e new ≡ e x → map e (set xs i new) ≡ view
  row-back xs view i x new seen is same = map-set_same e xs i new x (same ∙ ap e is) ∙ seen

  -- Empty tables after the others.

  pub row-init : (xs : List A) (view : List (Entries V)) (count : ℕ) → map e xs ≡ view
      → ((p : ℕ) → joined p (map e xs) ≡ joined p view) × ((most : ℕ) → count ≤ most → AreParts most view → AreParts most (map e xs))
  row-init xs view count seen = (λ p. ap (joined p) seen, λ most high are. subst (AreParts most) (sym seen) are)

  pub row-more : (xs ys : List A) (view : List (Entries V)) (x : A) (count : ℕ) → ys ≡ xs ++ x ∷ [] → e x ≡ [] → length xs < count
      → ((p : ℕ) → joined p (map e xs) ≡ joined p view) → ((most : ℕ) → count ≤ most → AreParts most view → AreParts most (map e xs))
      → ((p : ℕ) → joined p (map e ys) ≡ joined p view) × ((most : ℕ) → count ≤ most → AreParts most view → AreParts most (map e ys))
  row-more xs ys view x count more none less same are =
      let seen : map e ys ≡ map e xs ++ [] ∷ [] = ap (map e) more ∙ map-append e xs (x ∷ []) ∙ ap (λ z. map e xs ++ z ∷ []) none in
      let long = length-append (map e xs) ([] ∷ []) in
      let long' = length-map xs e in (
        (λ p. ap (joined p) seen ∙ joined-more p (map e xs) ∙ same p),
        (λ most high were.
            let was = are most high were in
            subst (AreParts most) (sym seen) (record { few = omega (arith, long, long', less, high); indices = indices-more (map e xs) was.indices })),
      )

  -- A table in the place of another.

  pub row-put : (xs : List A) (view : List (Entries V)) (i : ℕ) (x : A) → map e xs ≡ view → map e (set xs i x) ≡ set view i (e x)
  row-put xs view i x seen = map-set e xs i x ∙ ap (λ v. set v i (e x)) seen

  pub row-others : (xs : List A) (view : List (Entries V)) (first partition : ℕ) (x : A) → map e xs ≡ view → first ≤ partition → (p : ℕ) → (p ≡ partition → ⊥) → part_at first (map e (set xs (partition - first) x)) p ≡ part_at first view p
  row-others xs view first partition x seen up p other = dite (dec_lt p first)
      (λ low. part-low first (map e (set xs (partition - first) x)) p low ∙ sym (part-low first view p low))
      (λ high.
      let from : first ≤ p = omega (arith, high) in
      part-in first (map e (set xs (partition - first) x)) p from
      ∙ ap (λ v. slice_index_or v (p - first) []) (row-put xs view (partition - first) x seen)
      ∙ get_or-set_other view (partition - first) (p - first) (e x) [] (λ h. other (omega (arith, h, from, up)))
      ∙ sym (part-in first view p from))
