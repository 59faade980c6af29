-- What is appended to a string, piece by piece.
use Rattle.std.proofs.Common.{◌≡◌, ◌+◌, ◌-◌, ◌<◌, ◌≤◌, ℕ, List, [], ◌∷◌, ◌++◌, take, length, get_or, map, flat_map, Result, Ok, Err, arith, sym, ◌∙◌, ap, append_assoc, append-nil}
use Rattle.std.specs.Prelude.{if◌then◌else◌, is_ok, IfOk}
use Rattle.std.proofs.lemmas.List.{map-append, take_all, take_more}
use Rattle.std.proofs.lemmas.List.Concat.{flat_map-append}
use Rattle.qm_model.specs.Operations.{Bytes}

-- what was pushed
pub pushed : {T E : Type 0} (old new text : Bytes) (r : Result T E) → new ≡ (if is_ok r then old ++ text else old) → IfOk r (λ _. new ≡ old ++ text)
pushed old new text (Ok u) h = h
pushed old new text (Err e) h = tt

-- what was written after what was written before
pub written_behind : {T E : Type 0} (old mid new first next : Bytes) (r : Result T E) → mid ≡ old ++ first → IfOk r (λ _. new ≡ mid ++ next) → IfOk r (λ _. new ≡ old ++ (first ++ next))
written_behind old mid new first next (Ok u) h k = k ∙ ap (λ (t : Bytes). t ++ next) h ∙ append_assoc old first next
written_behind old mid new first next (Err e) h k = tt

-- a name, and the texts of one item more
pub one_more : {A B : Type 0} (text : B → Bytes) (f : A → B) (items : List A) (i : ℕ) (item : A) (old name mid new : Bytes) → i < length items → item ≡ get_or items i item →
    mid ≡ old ++ (name ++ flat_map text (map f (take i items))) → new ≡ mid ++ text (f item) → new ≡ old ++ (name ++ flat_map text (map f (take (i + 1) items)))
one_more text f items i item old name mid new h is so_far one =
    let before = flat_map text (map f (take i items)) in
    let taken : take (i + 1) items ≡ take i items ++ item ∷ [] = take_more items i item h ∙ ap (λ x. take i items ++ x ∷ []) (sym is) in
    let further : flat_map text (map f (take (i + 1) items)) ≡ before ++ text (f item) =
    ap (λ l. flat_map text (map f l)) taken ∙ ap (flat_map text) (map-append f (take i items) (item ∷ []))
    ∙ flat_map-append text (map f (take i items)) (f item ∷ []) ∙ ap (λ (t : Bytes). before ++ t) (append-nil (text (f item))) in
    one ∙ ap (λ (t : Bytes). t ++ text (f item)) so_far ∙ append_assoc old (name ++ before) (text (f item))
    ∙ ap (λ (t : Bytes). old ++ t) (append_assoc name before (text (f item)) ∙ ap (λ (t : Bytes). name ++ t) (sym further))

-- all items are written
pub all_written : {A B : Type 0} (text : B → Bytes) (f : A → B) (items : List A) (i : ℕ) (old name new : Bytes) → length items ≤ i →
    new ≡ old ++ (name ++ flat_map text (map f (take i items))) → new ≡ old ++ (name ++ flat_map text (map f items))
all_written text f items i old name new none_left so_far = so_far ∙ ap (λ l. old ++ (name ++ flat_map text (map f l))) (take_all i items none_left)

-- one item fewer is left
pub fewer : (n i : ℕ) → i < n → n - (i + 1) < n - i
fewer n i h = omega (arith, h)
