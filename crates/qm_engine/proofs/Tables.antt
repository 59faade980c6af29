-- A table of slots that stands for one of the machine, place by place.
use Rattle.std.proofs.Common.{◌≡◌, ◌≢◌, ℕ, zero, suc, List, [], ◌∷◌, ◌++◌, length, get_or, set, Some, None, arith, refl, sym, ◌∙◌, ap}
use Rattle.std.proofs.lemmas.List.{set-get_or}
use Rattle.qm_engine.specs.declared.table.Slot.{Slot}
use Rattle.qm_engine.specs.declared.table.Slot.TheVariants.{Writing, Staged}
use Rattle.qm_engine.specs.Table.{writing_of, staged_of}

module _ {A B : Type 0} (R : A → B → Type 0) (da : A) (db : B) (past : R da db) where
  pub push_at : (xs : List A) (ys : List B) (x : A) (y : B) → length xs ≡ length ys → ((h : ℕ) → R (get_or xs h da) (get_or ys h db)) → R x y
      → (h : ℕ) → R (get_or (xs ++ x ∷ []) h da) (get_or (ys ++ y ∷ []) h db)
  push_at [] [] x y e each r zero = r
  push_at [] [] x y e each r (suc h) = past
  push_at [] (b ∷ ys) x y e each r h = absurd (omega arith)
  push_at (a ∷ xs) [] x y e each r h = absurd (omega arith)
  push_at (a ∷ xs) (b ∷ ys) x y e each r zero = each zero
  push_at (a ∷ xs) (b ∷ ys) x y e each r (suc h) = push_at xs ys x y (omega arith) (λ k. each (suc k)) r h

  pub set_at : (xs : List A) (ys : List B) (i : ℕ) (x : A) (y : B) → length xs ≡ length ys → ((h : ℕ) → R (get_or xs h da) (get_or ys h db)) → R x y
      → (h : ℕ) → R (get_or (set xs i x) h da) (get_or (set ys i y) h db)
  set_at [] [] i x y e each r h = past
  set_at [] (b ∷ ys) i x y e each r h = absurd (omega arith)
  set_at (a ∷ xs) [] i x y e each r h = absurd (omega arith)
  set_at (a ∷ xs) (b ∷ ys) zero x y e each r zero = r
  set_at (a ∷ xs) (b ∷ ys) zero x y e each r (suc h) = each (suc h)
  set_at (a ∷ xs) (b ∷ ys) (suc i) x y e each r zero = each zero
  set_at (a ∷ xs) (b ∷ ys) (suc i) x y e each r (suc h) = set_at xs ys i x y (omega arith) (λ k. each (suc k)) r h

pub set_set : {A : Type 0} (l : List A) (i : ℕ) (a b : A) → set (set l i a) i b ≡ set l i b
set_set [] i a b = refl
set_set (x ∷ l) zero a b = refl
set_set (x ∷ l) (suc i) a b = ap (λ r. x ∷ r) (set_set l i a b)

-- a place set to another and back
pub set_back : {A : Type 0} (l : List A) (i : ℕ) (d b : A) → get_or l i d ≡ b → set (set l i d) i b ≡ l
set_back l i d b is = set_set l i d b ∙ ap (set l i) (sym is) ∙ set-get_or l i d

module _ {B S M : Type 0} where
  -- what a slot of another kind has
  pub not_writing : (a : Slot B S M) → ((b : B) → a ≢ Writing b) → None ≡ writing_of a
  not_writing (Writing b) other = absurd (other b refl)
  not_writing a other = refl

  pub not_staged : (a : Slot B S M) → ((b : S) → a ≢ Staged b) → None ≡ staged_of a
  not_staged (Staged b) other = absurd (other b refl)
  not_staged a other = refl

  -- the slot of a staged batch
  pub staged_slot : (a : Slot B S M) (batch : S) → staged_of a ≡ Some batch → a ≡ Staged batch
  staged_slot (Staged b) batch e = ap Staged (cc)
  staged_slot a batch e = absurd (cc)
