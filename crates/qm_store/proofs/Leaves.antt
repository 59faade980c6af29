-- The leaves' digests of items.
use Rattle.std.proofs.Common.{◌≡◌, ℕ, zero, suc, ◌+◌, ◌-◌, ◌*◌, ◌^◌, ◌<◌, ◌≤◌, All, List, [], ◌∷◌, ◌++◌, length, map, take, drop, get_or, arith, ap, ap₂, sym, ◌∙◌, refl, Some, append-nil, append_assoc}
use Rattle.std.specs.Prelude.{slice_get, slice_index_or}
use Rattle.std.specs.List.{concat}
use Rattle.std.proofs.lemmas.List.Elements.{All-nil, All-cons, All-head, All-tail}
use Rattle.std.proofs.Math.Seq.{take-append_seam, drop-append_seam}
use Rattle.std.proofs.lemmas.List.{map-append, take-append-drop, length-take-le, length-map, take-map}
use Rattle.std.proofs.lemmas.List.Folds.{concat-append}
use Rattle.qm_model.specs.Operations.{Bytes, Operation}
use Rattle.qm_model.specs.Forms.{Form, spelling}
use Rattle.qm_model.specs.Trees.{Shape, digest, leaf, leaf_digest, leaves_from}
use Rattle.qm_store.specs.Log.{digests_from}

-- lists of pieces of one size are the same if the joined bytes are
pub pieces-same : (size : ℕ) (xs ys : List Bytes) → All (λ x. length x ≡ size) xs → All (λ y. length y ≡ size) ys → length xs ≡ length ys → concat xs ≡ concat ys → xs ≡ ys
pieces-same size [] [] sized alike long same = refl
pieces-same size [] (y ∷ ys) sized alike long same = absurd (omega (arith, long))
pieces-same size (x ∷ xs) [] sized alike long same = absurd (omega (arith, long))
pieces-same size (x ∷ xs) (y ∷ ys) sized alike long same =
    let level : length x ≡ length y = All-head (λ b. length b ≡ size) x xs sized ∙ sym (All-head (λ b. length b ≡ size) y ys alike) in
    let first : x ≡ y = sym (take-append_seam x (concat xs)) ∙ ap₂ take level same ∙ take-append_seam y (concat ys) in
    let rest : concat xs ≡ concat ys = sym (drop-append_seam x (concat xs)) ∙ ap₂ drop level same ∙ drop-append_seam y (concat ys) in
    ap₂ (λ a b. a ∷ b) first (pieces-same size xs ys (All-tail (λ b. length b ≡ size) x xs sized) (All-tail (λ b. length b ≡ size) y ys alike) (omega (arith, long)) rest)

-- the next piece of what is left
pub pieces-next : {D : Type 0} (bytes : D → Bytes) (made : List D) (d : D) (size : ℕ) (rest whole : Bytes) → bytes d ≡ take size rest → concat (map bytes made) ++ rest ≡ whole →
    concat (map bytes (made ++ d ∷ [])) ++ drop size rest ≡ whole
pieces-next bytes made d size rest whole first so_far =
    ap (λ l. l ++ drop size rest) (ap concat (map-append bytes made (d ∷ [])) ∙ concat-append (map bytes made) (bytes d ∷ []) ∙ ap (λ l. concat (map bytes made) ++ l) (append-nil (bytes d) ∙ first))
    ∙ append_assoc (concat (map bytes made)) (take size rest) (drop size rest) ∙ ap (λ l. concat (map bytes made) ++ l) (take-append-drop size rest) ∙ so_far

pub slice_get-mapped : {V X : Type 0} (value : V → X) (xs : List V) (k : ℕ) (x : V) → k < length xs → x ≡ get_or xs k x → slice_get (map value xs) k ≡ Some (value x)
slice_get-mapped value [] k x lt is = absurd (omega arith)
slice_get-mapped value (y ∷ xs) zero x lt is = ap (λ z. Some (value z)) (sym is)
slice_get-mapped value (y ∷ xs) (suc k) x lt is = slice_get-mapped value xs k x (omega arith) is

module _ (hash : Bytes → Bytes) (shape : Shape) where
  -- a list of operations has the leaves of its spellings
  pub leaves-spelled : (form : Form) (i : ℕ) (ops : List Operation) → leaves_from hash shape form i ops ≡ digests_from hash shape i (map (spelling form) ops)
  leaves-spelled form i [] = refl
  leaves-spelled form i (op ∷ rest) = ap (λ ds. leaf_digest hash (shape.position (leaf i)) (spelling form op) ∷ ds) (leaves-spelled form (suc i) rest)

  pub length-digests_from : (i : ℕ) (items : List Bytes) → length (digests_from hash shape i items) ≡ length items
  length-digests_from i [] = refl
  length-digests_from i (item ∷ rest) = ap suc (length-digests_from (suc i) rest)

  pub digests_from-append : (i : ℕ) (xs ys : List Bytes) → digests_from hash shape i (xs ++ ys) ≡ digests_from hash shape i xs ++ digests_from hash shape (i + length xs) ys
  digests_from-append i [] ys = ap (λ j. digests_from hash shape j ys) (omega arith)
  digests_from-append i (x ∷ xs) ys =
      let next : suc i + length xs ≡ i + suc (length xs) = omega arith in
      ap (λ ds. leaf_digest hash (shape.position (leaf i)) x ∷ ds)
      (digests_from-append (suc i) xs ys ∙ ap (λ j. digests_from hash shape (suc i) xs ++ digests_from hash shape j ys) next)

  pub digests_from-split : (n : ℕ) (list : List Bytes) → n ≤ length list → digests_from hash shape 0 (take n list) ++ digests_from hash shape n (drop n list) ≡ digests_from hash shape 0 list
  digests_from-split n list within =
      let count : n ≡ 0 + length (take n list) = omega (arith, length-take-le n list within) in
      ap (λ i. digests_from hash shape 0 (take n list) ++ digests_from hash shape i (drop n list)) count
      ∙ sym (digests_from-append 0 (take n list) (drop n list)) ∙ ap (digests_from hash shape 0) (take-append-drop n list)

  -- the first leaves are those of the first items
  pub digests_from-take : (i n : ℕ) (items : List Bytes) → take n (digests_from hash shape i items) ≡ digests_from hash shape i (take n items)
  digests_from-take i zero items = refl
  digests_from-take i (suc n) [] = refl
  digests_from-take i (suc n) (item ∷ items) = ap (λ ds. leaf_digest hash (shape.position (leaf i)) item ∷ ds) (digests_from-take (suc i) n items)

  -- one item more
  pub digests_from-next : (i k : ℕ) (items : List Bytes) (item : Bytes) → slice_get items k ≡ Some item →
      digests_from hash shape i (take (suc k) items) ≡ digests_from hash shape i (take k items) ++ leaf_digest hash (shape.position (leaf (i + k))) item ∷ []
  digests_from-next i k [] item is = cc
  digests_from-next i zero (x ∷ items) item is =
      let same : x ≡ item = cc in
      ap₂ (λ j y. leaf_digest hash (shape.position (leaf j)) y ∷ []) (omega arith) same
  digests_from-next i (suc k) (x ∷ items) item is =
      let next : suc i + k ≡ i + suc k = omega arith in
      ap (λ ds. leaf_digest hash (shape.position (leaf i)) x ∷ ds)
      (digests_from-next (suc i) k items item is ∙ ap (λ j. digests_from hash shape (suc i) (take k items) ++ leaf_digest hash (shape.position (leaf j)) item ∷ []) next)

  -- the digest of the next item of a list
  pub listed-next : {D V : Type 0} (bytes : D → Bytes) (value : V → Bytes) (i k : ℕ) (made : List D) (d : D) (items : List V) (item : V) → k < length items → item ≡ get_or items k item →
      map bytes made ≡ digests_from hash shape i (map value (take k items)) → bytes d ≡ leaf_digest hash (shape.position (leaf (i + k))) (value item) →
      map bytes (made ++ d ∷ []) ≡ digests_from hash shape i (map value (take (suc k) items))
  listed-next bytes value i k made d items item lt is so_far digest =
      map-append bytes made (d ∷ [])
      ∙ ap₂ (λ a b. a ++ b ∷ []) (so_far ∙ ap (digests_from hash shape i) (sym (take-map value k items))) digest
      ∙ sym (digests_from-next i k (map value items) (value item) (slice_get-mapped value items k item lt is)) ∙ ap (digests_from hash shape i) (take-map value (suc k) items)

  -- there are as many as items
  pub digests-count : {D V : Type 0} (bytes : D → Bytes) (value : V → Bytes) (i : ℕ) (made : List D) (items : List V) → map bytes made ≡ digests_from hash shape i (map value items) → length made ≡ length items
  digests-count bytes value i made items is =
      sym (length-map made bytes) ∙ ap length is ∙ length-digests_from i (map value items) ∙ length-map items value

  -- the digest of the next item that is read
  pub read-next : {D : Type 0} (bytes : D → Bytes) (start at : ℕ) (made : List D) (d : D) (items : List Bytes) (item : Bytes) → start ≤ at →
      map bytes made ≡ digests_from hash shape start (take (at - start) items) → slice_get items (at - start) ≡ Some item → bytes d ≡ leaf_digest hash (shape.position (leaf at)) item →
      map bytes (made ++ d ∷ []) ≡ digests_from hash shape start (take (at + 1 - start) items)
  read-next bytes start at made d items item le so_far is digest =
      let place : at ≡ start + (at - start) = omega arith in
      let next : suc (at - start) ≡ at + 1 - start = omega arith in
      map-append bytes made (d ∷ [])
      ∙ ap₂ (λ a b. a ++ b ∷ []) so_far (digest ∙ ap (λ i. leaf_digest hash (shape.position (leaf i)) item) place)
      ∙ sym (digests_from-next start (at - start) items item is) ∙ ap (λ k. digests_from hash shape start (take k items)) next

-- Digests are as long as the hash makes them.
module _ (hash : Bytes → Bytes) (size : ℕ) (hashed : (m : Bytes) → length (hash m) ≡ size) (shape : Shape) where
  sized-at : (leaves : List Bytes) (i : ℕ) → All (λ d. length d ≡ size) leaves → i < length leaves → length (slice_index_or leaves i []) ≡ size
  sized-at [] i sized within = absurd (omega (arith, within))
  sized-at (d ∷ leaves) zero sized within = All-head (λ b. length b ≡ size) d leaves sized
  sized-at (d ∷ leaves) (suc i) sized within = sized-at leaves i (All-tail (λ b. length b ≡ size) d leaves sized) (omega (arith, within))

  -- that of a node whose leaves are there
  pub sized-digest : (leaves : List Bytes) → All (λ d. length d ≡ size) leaves → (h i : ℕ) → suc i * 2 ^ h ≤ length leaves → length (digest hash shape leaves h i) ≡ size
  sized-digest leaves sized zero i within = sized-at leaves i sized (omega (arith, within))
  sized-digest leaves sized (suc h) i within = hashed _

  pub sized-leaves : (i : ℕ) (items : List Bytes) → All (λ d. length d ≡ size) (digests_from hash shape i items)
  sized-leaves i [] = All-nil (λ d. length d ≡ size)
  sized-leaves i (item ∷ items) =
      All-cons (λ d. length d ≡ size) (leaf_digest hash (shape.position (leaf i)) item) (digests_from hash shape (suc i) items) (hashed _) (sized-leaves (suc i) items)
