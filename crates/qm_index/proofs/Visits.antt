-- Visits of lists, one after another.
use Rattle.std.proofs.Common.{◌≡◌, sym, subst, List, [], ◌∷◌, ◌++◌}
use Rattle.std.specs.List.{FoldsTo, flat_map}

-- visits of a list and then of another are visits of both
pub FoldsTo-append : {P A : Type 0} (R : P → A → P → Type 0) (p m q : P) (xs ys : List A) → FoldsTo R p xs m → FoldsTo R m ys q → FoldsTo R p (xs ++ ys) q
FoldsTo-append R p m q [] ys e later = subst (λ s. FoldsTo R s ys q) (sym e) later
FoldsTo-append R p m q (x ∷ xs) ys first later = (first.0, first.1, FoldsTo-append R first.0 m q xs ys first.2 later)

-- the visits of the buckets to come lead to where those of all values lead
abbrev pub LeadOn : {P A : Type 0} → (P → A → P → Type 0) → P → List A → P → List (List A) → Type 0
LeadOn {P} R start all visit buckets = (last : P) → FoldsTo R visit (flat_map (λ bucket. bucket) buckets) last → FoldsTo R start all last

-- so do those after the first bucket
pub LeadOn-next : {P A : Type 0} (R : P → A → P → Type 0) (start : P) (all : List A) (visit next : P) (buckets rest : List (List A)) (bucket values : List A) → buckets ≡ bucket ∷ rest → values ≡ bucket → FoldsTo R visit values next →
    LeadOn R start all visit buckets → LeadOn R start all next rest
LeadOn-next R start all visit next buckets rest bucket values steps is shown lead last later =
    lead last
    (subst (λ buckets. FoldsTo R visit (flat_map (λ bucket. bucket) buckets) last) (sym steps)
    (FoldsTo-append R visit next last bucket (flat_map (λ bucket. bucket) rest) (subst (λ values. FoldsTo R visit values next) is shown) later))
