-- Entries of diffs, made of what is noted.
use Rattle.std.proofs.Common.{◌≡◌, ap, sym, ◌∙◌, subst, List, ◌∷◌, map, Bor, All}
use Rattle.std.specs.Cmp.Lexicographic.{slice_cmp}
use Rattle.std.specs.Ordering.{nat_cmp}
use Rattle.std.specs.List.Sorted.{IsStrictlySortedBy}
use Rattle.std.proofs.lemmas.List.Elements.{All-head, All-tail, All-same}
use Rattle.qm_chain.specs.Ascending.{IsAscending}
use Rattle.qm_chain.specs.declared.diff.DiffEntry.{DiffEntry}
use Rattle.qm_model.specs.Operations.{Bytes}
use Rattle.qm_step.specs.Changes.{Change}
use Rattle.qm_step.specs.PlanViews.{noted_view}
use Rattle.qm_step.specs.Views.{change_view}
use Rattle.qm_step.specs.declared.diff.Noted.{Noted}
use Rattle.qm_step.proofs.PlanDiffs.{sorted-ascends}
use Rattle.qm_step.proofs.Steps.{map-twice}

-- an entry of a diff
abbrev pub entry_shown : {F K V : Type 0} → (K → Bytes) → (V → Bytes) → K × DiffEntry F V → Bytes × Change
entry_shown key value e = (key e.0, change_view value e.1)

-- an entry of what is noted
abbrev pub note_shown : {V : Type 0} → (V → Bytes) → Bor Bytes × Noted V → Bytes × Change
note_shown value e = (e.0.now, noted_view value e.1)

-- the first key of entries, and the others
pub kept-first : {K X : Type 0} (P : K → Type 0) (es rest : List (K × X)) (e : K × X) → es ≡ e ∷ rest → All (λ e. P e.0) es → P e.0
kept-first {K} {X} P es rest e is all = All-head (λ (e : K × X). P e.0) e rest (All-same (λ (e : K × X). P e.0) (e ∷ rest) es (sym is) all)

pub kept-rest : {K X : Type 0} (P : K → Type 0) (es rest : List (K × X)) (e : K × X) → es ≡ e ∷ rest → All (λ e. P e.0) es → All (λ e. P e.0) rest
kept-rest {K} {X} P es rest e is all = All-tail (λ (e : K × X). P e.0) e rest (All-same (λ (e : K × X). P e.0) (e ∷ rest) es (sym is) all)

-- entries that show what is noted ascend by key, as the keys of a map do
pub ascends-shown : {F K V : Type 0} (key : K → Bytes) (value : V → Bytes) (xs : List (K × DiffEntry F V)) (es : List (Bor Bytes × Noted V)) → map (entry_shown key value) xs ≡ map (note_shown value) es →
    IsStrictlySortedBy (λ x y. slice_cmp nat_cmp x.now y.now) (map (λ e. e.0) es) → IsAscending (map (λ e. key e.0) xs)
ascends-shown {F} {K} {V} key value xs es same sorted =
    let first : Bytes × Change → Bytes = λ p. p.0 in
    let keys : map (λ (e : K × DiffEntry F V). key e.0) xs ≡ map (λ (b : Bor Bytes). b.now) (map (λ (e : Bor Bytes × Noted V). e.0) es) =
    sym (map-twice first (entry_shown key value) xs) ∙ ap (map first) same ∙ map-twice first (note_shown value) es
    ∙ sym (map-twice (λ (b : Bor Bytes). b.now) (λ (e : Bor Bytes × Noted V). e.0) es) in
    subst IsAscending (sym keys) (sorted-ascends (map (λ (e : Bor Bytes × Noted V). e.0) es) sorted)
