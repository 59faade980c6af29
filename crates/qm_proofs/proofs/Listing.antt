-- The first node that is lacked, of nodes in a row.
use Rattle.std.proofs.Common.{◌≡◌, ℕ, zero, suc, ◌+◌, List, [], ◌∷◌, ◌++◌, map, arith, ap, ap₂, sym, ◌∙◌, refl, Option, Some, None, take, drop, append_assoc, append-nil, ⊎_elim, inl, inr}
use Rattle.std.specs.Prelude.{slice_get, is_none, cond, flat_map}
use Rattle.std.specs.Option.{option_or}
use Rattle.std.proofs.lemmas.List.{map-append}
use Rattle.std.proofs.lemmas.List.Folds.{find-append}
use Rattle.qm_base.specs.declared.error.MerkleError.{MerkleError}
use Rattle.qm_base.specs.declared.error.MerkleError.TheVariants.{Memory, ElementPruned}
use Rattle.qm_proofs.specs.Proofs.{first_lacked, Lacks}

module _ {D : Type 0} (at : ℕ → Option D) where
  pub lacked_first : (xs ys : List ℕ) (p : ℕ) → first_lacked at xs ≡ Some p → first_lacked at (xs ++ ys) ≡ Some p
  lacked_first xs ys p is = find-append (λ q. is_none (at q)) xs ys ∙ ap (λ o. option_or o (first_lacked at ys)) is

  pub none_lacked : (ds : List D) (xs : List ℕ) → map Some ds ≡ map at xs → first_lacked at xs ≡ None
  none_lacked ds [] same = refl
  none_lacked [] (x ∷ xs) same = cc
  none_lacked (d ∷ ds) (x ∷ xs) same =
      let head : Some d ≡ at x = cc in
      let tail : map Some ds ≡ map at xs = cc in
      ap (λ o. cond (is_none o) (Some x) (first_lacked at xs)) (sym head) ∙ none_lacked ds xs tail

  -- nodes that were listed after others are not lacked
  pub none_lacked_more : (ds more : List D) (xs : List ℕ) → map Some more ≡ map Some ds ++ map at xs → first_lacked at xs ≡ None
  none_lacked_more [] more xs same = none_lacked more xs same
  none_lacked_more (d ∷ ds) [] xs same = cc
  none_lacked_more (d ∷ ds) (e ∷ more) xs same = let tail : map Some more ≡ map Some ds ++ map at xs = cc in none_lacked_more ds more xs tail

  pub lacked_later : (xs ys : List ℕ) (p : ℕ) → first_lacked at xs ≡ None → first_lacked at ys ≡ Some p → first_lacked at (xs ++ ys) ≡ Some p
  lacked_later xs ys p none is = find-append (λ q. is_none (at q)) xs ys ∙ ap₂ option_or none is

  lacks_as : (xs ys : List ℕ) (e : MerkleError) → ((p : ℕ) → first_lacked at xs ≡ Some p → first_lacked at ys ≡ Some p) → Lacks at xs e → Lacks at ys e
  lacks_as xs ys e keeps = ⊎_elim (λ (memory : e ≡ Memory). inl memory)
      (λ (lack : (p : ℕ) × (first_lacked at xs ≡ Some p) × (e ≡ ElementPruned p)). inr (lack.0, keeps lack.0 lack.1, lack.2))

  -- what is lacked of nodes is lacked of those and others, and of others after those that are not
  pub lacks_first : (xs ys zs : List ℕ) (e : MerkleError) → zs ≡ xs ++ ys → Lacks at xs e → Lacks at zs e
  lacks_first xs ys zs e same = lacks_as xs zs e (λ p is. ap (first_lacked at) same ∙ lacked_first xs ys p is)

  pub lacks_later : (xs ys zs : List ℕ) (e : MerkleError) → zs ≡ xs ++ ys → first_lacked at xs ≡ None → Lacks at ys e → Lacks at zs e
  lacks_later xs ys zs e same none = lacks_as ys zs e (λ p is. ap (first_lacked at) same ∙ lacked_later xs ys p none is)

  -- a row after others
  pub listed_row : (old left right : List (Option D)) (xs ys : List ℕ) → left ≡ old ++ map at xs → right ≡ left ++ map at ys → right ≡ old ++ map at (xs ++ ys)
  listed_row old left right xs ys first then = then ∙ ap (λ z. z ++ map at ys) first ∙ append_assoc old (map at xs) (map at ys) ∙ ap (λ z. old ++ z) (sym (map-append at xs ys))

module _ {X A : Type 0} (f : X → List A) where
  -- the rows up to an element, with its own
  pub rows_next : (xs : List X) (k : ℕ) (x : X) → slice_get xs k ≡ Some x → flat_map f (take (k + 1) xs) ≡ flat_map f (take k xs) ++ f x
  rows_next [] k x is = cc
  rows_next (y ∷ xs) zero x is = let same : y ≡ x = cc in append-nil (f y) ∙ ap f same
  rows_next (y ∷ xs) (suc k) x is =
      let next : suc k + 1 ≡ suc (k + 1) = omega arith in
      ap (λ j. flat_map f (take j (y ∷ xs))) next
      ∙ ap (λ z. f y ++ z) (rows_next xs k x is) ∙ sym (append_assoc (f y) (flat_map f (take k xs)) (f x))

  -- all rows, around an element's own
  pub rows_around : (xs : List X) (k : ℕ) (x : X) → slice_get xs k ≡ Some x → flat_map f xs ≡ flat_map f (take k xs) ++ (f x ++ flat_map f (drop (k + 1) xs))
  rows_around [] k x is = cc
  rows_around (y ∷ xs) zero x is = let same : y ≡ x = cc in ap (λ z. f z ++ flat_map f xs) same
  rows_around (y ∷ xs) (suc k) x is =
      let next : suc (k + 1) ≡ suc k + 1 = omega arith in
      ap (λ z. f y ++ z) (rows_around xs k x is) ∙ sym (append_assoc (f y) (flat_map f (take k xs)) (f x ++ flat_map f (drop (k + 1) xs)))
      ∙ ap (λ j. (f y ++ flat_map f (take k xs)) ++ (f x ++ flat_map f (drop j (y ∷ xs)))) next

  -- if nodes are listed row by row
  pub positions_next : (position : A → ℕ) {D : Type 0} (at : ℕ → Option D) (old new : List (Option D)) (xs : List X) (k : ℕ) (x : X) → slice_get xs k ≡ Some x →
      old ≡ map at (map position (flat_map f (take k xs))) → new ≡ old ++ map at (map position (f x)) → new ≡ map at (map position (flat_map f (take (k + 1) xs)))
  positions_next position at old new xs k x is before then =
      let front = flat_map f (take k xs) in
      then ∙ ap (λ z. z ++ map at (map position (f x))) before
      ∙ sym (ap (λ ys. map at (map position ys)) (rows_next xs k x is) ∙ ap (map at) (map-append position front (f x)) ∙ map-append at (map position front) (map position (f x)))

  pub positions_around : (position : A → ℕ) (xs : List X) (k : ℕ) (x : X) → slice_get xs k ≡ Some x →
      map position (flat_map f xs) ≡ map position (flat_map f (take k xs)) ++ (map position (f x) ++ map position (flat_map f (drop (k + 1) xs)))
  positions_around position xs k x is =
      let front = flat_map f (take k xs) in
      let rest = flat_map f (drop (k + 1) xs) in
      ap (map position) (rows_around xs k x is) ∙ map-append position front (f x ++ rest) ∙ ap (λ z. map position front ++ z) (map-append position (f x) rest)
