-- Heads: the digests of the peaks over a tree's first leaves, one after another.
use Rattle.std.proofs.Common.{◌≡◌, ◌∙◌, ℕ, suc, ◌^◌, ◌<◌, ◌≤◌, List, [], ◌∷◌, ◌++◌, length, map, take, get_or, arith, ap, ap₂, sym, refl, append-nil, Option, Some, None}
use Rattle.std.specs.Prelude.{is_none, cond}
use Rattle.std.specs.List.{concat}
use Rattle.std.proofs.Math.Seq.{take-suc}
use Rattle.std.proofs.lemmas.List.{map-append}
use Rattle.std.proofs.lemmas.List.Folds.{concat-append}
use Rattle.qm_model.specs.Operations.{Bytes}
use Rattle.qm_model.specs.Trees.{Shape, peaks, peak_positions}
use Rattle.qm_model.specs.Families.{Births, IsFamily, HasPeaks}
use Rattle.qm_merkle.specs.Mems.{Kept, IsWhole, Stands, node_at}
use Rattle.qm_proofs.specs.Proofs.{first_lacked}
use Rattle.qm_proofs.proofs.Keeping.{peaks_kept}
use Rattle.qm_proofs.proofs.Telling.{tree_tells}
use Rattle.qm_store.specs.Log.{IsHead}
use Rattle.qm_store.proofs.Shown.{told_row}

-- the bytes of one digest more
pub joined_next : {D : Type 0} (bytes : D → Bytes) (digests : List D) (k : ℕ) (d : D) → k < length digests → d ≡ get_or digests k d →
    concat (map bytes (take k digests)) ++ bytes d ≡ concat (map bytes (take (suc k) digests))
joined_next bytes digests k d lt is =
    let next = take-suc digests k d lt ∙ ap (λ x. take k digests ++ x ∷ []) (sym is) in
    ap (λ l. concat (map bytes (take k digests)) ++ l) (sym (append-nil (bytes d))) ∙ sym (concat-append (map bytes (take k digests)) (bytes d ∷ []))
    ∙ ap concat (sym (map-append bytes (take k digests) (d ∷ [])) ∙ ap (map bytes) (sym next))

-- one digest more, if there is one
one_found : {D : Type 0} (at : ℕ → Option D) (p : ℕ) (ps : List ℕ) (o : Option D) → at p ≡ o → cond (is_none o) (Some p) (first_lacked at ps) ≡ None →
    (first_lacked at ps ≡ None → (ds : List D) × (map Some ds ≡ map at ps)) → (ds : List D) × (map Some ds ≡ map at (p ∷ ps))
one_found at p ps None is none rest = absurd cc
one_found at p ps (Some d) is none rest =
    let others = rest none in
    (d ∷ others.0, ap₂ (λ x xs. x ∷ xs) (sym is) others.1)

-- the digests at positions of which none is lacked
found_all : {D : Type 0} (at : ℕ → Option D) (ps : List ℕ) → first_lacked at ps ≡ None → (ds : List D) × (map Some ds ≡ map at ps)
found_all at [] none = ([], refl)
found_all at (p ∷ ps) none = one_found at p ps (at p) refl none (found_all at ps)

-- a tree has the head of each tree of its first leaves from its start on, whichever list it stands for
pub head_kept : (shape : Shape) (births : Births) → IsFamily shape births → HasPeaks shape → {D : Type 0} (bytes : D → Bytes) (tree : Kept D) (n : ℕ) → IsWhole shape tree → tree.start ≤ n → n ≤ tree.leaves →
    (head : Bytes) × ((hash : Bytes → Bytes) (list : List Bytes) → Stands shape bytes hash tree list → IsHead shape bytes hash n list head)
head_kept shape births family peaked bytes tree n whole from within =
    let few : n ≤ 2 ^ 62 = omega (arith, within, whole.few) in
    let pins = found_all (node_at shape tree) (peak_positions shape n) (peaks_kept shape births family peaked tree whole n from within) in (
      concat (map bytes pins.0),
      λ hash list stands. record {
        pins = pins.0;
        spelled = refl;
        digests = told_row shape bytes hash (node_at shape tree) list (tree_tells shape births family peaked bytes hash tree list stands) (peaks shape n) pins.0 pins.1
            (λ k d lt. omega (arith, peaked.born n few k d lt, within, stands.count));
      },
    )
