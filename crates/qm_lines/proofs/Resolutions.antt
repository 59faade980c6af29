-- Slots and the writes after them, and what stands before both.
use Rattle.std.proofs.Common.{◌≡◌, ◌∙◌, ◌+◌, ◌-◌, ◌<◌, ◌≤◌, ℕ, List, [], ◌∷◌, ◌++◌, drop, take, length, get_or, Option, Some, None, option_map, refl, sym, ap, arith, append_assoc, append-nil, length-drop}
use Rattle.std.specs.Prelude.{option_and_then}
use Rattle.std.specs.Borrow.{Bor}
use Rattle.std.proofs.lemmas.List.{drop_all, drop-map, take_all, length-map}
use Rattle.qm_model.specs.Operations.{Bytes}
use Rattle.qm_model.specs.Slots.{Slot}
use Rattle.qm_model.specs.Writes.{Write}
use Rattle.qm_model.specs.Policies.{Policy}
use Rattle.qm_machine.specs.Lines.{Line, Merkleize, Resolve}
use Rattle.qm_machine.specs.Grammar.{Resolution, with_slot, slot_of, each_write, resolution_of, resolve_of, number_of, policy_of, metadata_of, merkleize_of}
use Rattle.qm_lines.specs.Parsed.{Unreads, lent, with_slots, merkleizing_of}
use Rattle.qm_lines.specs.declared.parse.unread.Unread.{Unread}
use Rattle.qm_lines.proofs.Lines.{opened}
use Rattle.qm_lines.proofs.Readings.{unread-of}

-- slots, and the others after them, if there are those
abbrev pub with_others : List Slot → Option (List Write) → Option Resolution
with_others done others = option_map (λ (ws : List Write). (done, ws)) others

-- what a word and those after it are
abbrev resumed : Option Slot → Option Resolution → Option (List Write) → Option Resolution
resumed (Some slot) rest others = option_map (with_slot slot) rest
resumed None rest others = with_others [] others

one_word : (w : Bytes) (ws : List Bytes) → resolution_of (w ∷ ws) ≡ resumed (slot_of w) (resolution_of ws) (each_write (w ∷ ws))
one_word w ws = cases (slot_of w)
  where
    cases : (o : Option Slot) → (elim o [ Some slot ↦ option_map (with_slot slot) (resolution_of ws) | None ↦ option_map (λ others. ([], others)) (each_write (w ∷ ws)) ]) ≡ resumed o (resolution_of ws) (each_write (w ∷ ws))
    cases None = refl
    cases (Some slot) = refl

no_more : (done : List Slot) (others : Option (List Write)) → with_others done others ≡ option_map (with_slots done) (with_others [] others)
no_more done None = refl
no_more done (Some ws) = ap (λ (slots : List Slot). Some (slots, ws)) (sym (append-nil done))

one_more : (done : List Slot) (slot : Slot) (rest : Option Resolution) → option_map (with_slots (done ++ slot ∷ [])) rest ≡ option_map (with_slots done) (option_map (with_slot slot) rest)
one_more done slot None = refl
one_more done slot (Some (slots, others)) = ap (λ (all : List Slot). Some (all, others)) (append_assoc done (slot ∷ []) slots)

-- the i-th word of those that are lent, and the slots before it
module _ (refs : List (Bor Bytes)) (i : ℕ) (done : List Slot) (so_far : option_map (with_slots done) (resolution_of (drop i (lent refs))) ≡ resolution_of (lent refs)) where
  pub slots-at_end : length refs ≤ i → with_others done (each_write (drop i (lent refs))) ≡ resolution_of (lent refs)
  slots-at_end past =
      let none : drop i (lent refs) ≡ [] = drop_all i (lent refs) (rw (length-map refs (λ (x : Bor Bytes). x.now)) past) in
      ap (λ ws. with_others done (each_write ws)) none ∙ no_more done (Some []) ∙ sym (ap (λ ws. option_map (with_slots done) (resolution_of ws)) none) ∙ so_far

  module _ (d : Bor Bytes) (h : i < length refs) (o : Option Slot) (parsed : o ≡ slot_of (get_or refs i d).now) where
    here : option_map (with_slots done) (resumed o (resolution_of (drop (i + 1) (lent refs))) (each_write (drop i (lent refs)))) ≡ resolution_of (lent refs)
    here =
        let w = (get_or refs i d).now in
        let behind = drop (i + 1) (lent refs) in
        let first = opened refs i d h in
        ap (λ ws. option_map (with_slots done) (resumed o (resolution_of behind) (each_write ws))) first
        ∙ sym (ap (λ ws. option_map (with_slots done) (resolution_of ws)) first ∙ ap (option_map (with_slots done)) (one_word w behind ∙ ap (λ s. resumed s (resolution_of behind) (each_write (w ∷ behind))) (sym parsed))) ∙ so_far

    pub slots-at_other : o ≡ None → with_others done (each_write (drop i (lent refs))) ≡ resolution_of (lent refs)
    slots-at_other none =
        no_more done (each_write (drop i (lent refs)))
        ∙ sym (ap (λ s. option_map (with_slots done) (resumed s (resolution_of (drop (i + 1) (lent refs))) (each_write (drop i (lent refs))))) none) ∙ here

    pub slots-at_slot : (slot : Slot) → o ≡ Some slot → option_map (with_slots (done ++ slot ∷ [])) (resolution_of (drop (i + 1) (lent refs))) ≡ resolution_of (lent refs)
    slots-at_slot slot some =
        one_more done slot (resolution_of (drop (i + 1) (lent refs)))
        ∙ sym (ap (λ s. option_map (with_slots done) (resumed s (resolution_of (drop (i + 1) (lent refs))) (each_write (drop i (lent refs))))) some) ∙ here

-- those after the first n that are lent
pub lent_behind : (refs : List (Bor Bytes)) (n : ℕ) → lent (take (length refs - n) (drop n refs)) ≡ drop n (lent refs)
lent_behind refs n =
    ap lent (take_all (length refs - n) (drop n refs) (omega (arith, length-drop n refs))) ∙ sym (drop-map (λ (x : Bor Bytes). x.now) n refs)

-- what is made of three, if there are all
abbrev all : {A B C : Type 0} → Option A → Option B → Option C → Option (A × B × C)
all x y z = option_and_then (λ a. option_and_then (λ b. option_map (λ c. (a, b, c)) z) y) x

made_of : {A B C D : Type 0} (made : A → B → C → D) (x : Option A) (y : Option B) (z : Option C) →
    option_map (λ (m : A × B × C). made m.0 m.1 m.2) (all x y z) ≡ option_and_then (λ a. option_and_then (λ b. option_map (made a b) z) y) x
made_of made None y z = refl
made_of made (Some a) None z = refl
made_of made (Some a) (Some b) None = refl
made_of made (Some a) (Some b) (Some c) = refl

made_then : {A B C D : Type 0} (made : A → B → C → Option D) (x : Option A) (y : Option B) (z : Option C) →
    option_and_then (λ (m : A × B × C). made m.0 m.1 m.2) (all x y z) ≡ option_and_then (λ a. option_and_then (λ b. option_and_then (made a b) z) y) x
made_then made None y z = refl
made_then made (Some a) None z = refl
made_then made (Some a) (Some b) None = refl
made_then made (Some a) (Some b) (Some c) = refl

-- a batch, a policy and metadata, of the first three words that are lent: alone, and with what becomes of staged keys
merkleize-made : (a b c : Bytes) → option_map (λ (m : ℕ × Policy × Option Bytes). Merkleize m.0 m.1 m.2) (merkleizing_of a b c) ≡ merkleize_of (a ∷ b ∷ c ∷ [])
merkleize-made a b c = made_of (λ h p meta. Merkleize h p meta) (number_of a) (policy_of b) (metadata_of c)

-- of a batch, a policy and metadata, and of what becomes of staged keys
abbrev pub resolved : Option Resolution → Option (ℕ × Policy × Option Bytes) → Option (Line Policy)
resolved r m = option_and_then (λ (m : ℕ × Policy × Option Bytes). option_map (λ (r : Resolution). Resolve m.0 m.1 m.2 r.0 r.1) r) m

resolved-none : (m : Option (ℕ × Policy × Option Bytes)) → None ≡ resolved None m
resolved-none None = refl
resolved-none (Some m) = refl

resolve-made : (a b c : Bytes) (ws : List Bytes) →
    resolved (resolution_of ws) (merkleizing_of a b c) ≡ resolve_of (a ∷ b ∷ c ∷ ws)
resolve-made a b c ws = made_then (λ h p meta. option_map (λ (r : Resolution). Resolve h p meta r.0 r.1) (resolution_of ws)) (number_of a) (policy_of b) (metadata_of c)

pub merkleize-lent : (words : List (Bor Bytes)) (d : Bor Bytes) → 3 ≤ length words → length words < 4 → (m : Option (ℕ × Policy × Option Bytes)) →
    m ≡ merkleizing_of (get_or words 0 d).now (get_or words 1 d).now (get_or words 2 d).now → option_map (λ (m : ℕ × Policy × Option Bytes). Merkleize m.0 m.1 m.2) m ≡ merkleize_of (lent words)
merkleize-lent [] d enough few m is = absurd (omega arith)
merkleize-lent (a ∷ []) d enough few m is = absurd (omega arith)
merkleize-lent (a ∷ b ∷ []) d enough few m is = absurd (omega arith)
merkleize-lent (a ∷ b ∷ c ∷ []) d enough few m is = ap (option_map (λ (m : ℕ × Policy × Option Bytes). Merkleize m.0 m.1 m.2)) is ∙ merkleize-made a.now b.now c.now
merkleize-lent (a ∷ b ∷ c ∷ e ∷ words) d enough few m is = absurd (omega arith)

pub resolve-lent : (words : List (Bor Bytes)) (d : Bor Bytes) → 3 ≤ length words → (m : Option (ℕ × Policy × Option Bytes)) →
    m ≡ merkleizing_of (get_or words 0 d).now (get_or words 1 d).now (get_or words 2 d).now → (r : Option Resolution) → r ≡ resolution_of (drop 3 (lent words)) →
    resolved r m ≡ resolve_of (lent words)
resolve-lent [] d enough m is r are = absurd (omega arith)
resolve-lent (a ∷ []) d enough m is r are = absurd (omega arith)
resolve-lent (a ∷ b ∷ []) d enough m is r are = absurd (omega arith)
resolve-lent (a ∷ b ∷ c ∷ words) d enough m is r are =
    ap (λ o. resolved o m) are
    ∙ ap (resolved (resolution_of (lent words))) is
    ∙ resolve-made a.now b.now c.now (lent words)

-- what becomes of staged keys is not read
pub resolve-lent_err : (words : List (Bor Bytes)) → 3 ≤ length words → (r : Option Resolution) → r ≡ resolution_of (drop 3 (lent words)) → (e : Unread) → Unreads e r → Unreads e (resolve_of (lent words))
resolve-lent_err [] enough r are = absurd (omega arith)
resolve-lent_err (a ∷ []) enough r are = absurd (omega arith)
resolve-lent_err (a ∷ b ∷ []) enough r are = absurd (omega arith)
resolve-lent_err (a ∷ b ∷ c ∷ words) enough r are =
    let m = merkleizing_of a.now b.now c.now in
    unread-of (λ o. resolved o m) (resolved-none m) r _ (resolve-lent (a ∷ b ∷ c ∷ words) a enough m refl r are)
