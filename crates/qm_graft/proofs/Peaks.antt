-- What a view of both trees holds of the peaks, and what it tells of them.
use Rattle.std.proofs.Common.{◌≡◌, ◌+◌, ◌-◌, ◌^◌, ◌<◌, ◌≤◌, ℕ, suc, List, length, Option, IsSome, IfSome, arith, ap, sym, ◌∙◌, subst, ⊎_elim}
use Rattle.std.specs.Prelude.{is_some}
use Rattle.std.proofs.lemmas.Bool.{cases_lt}
use Rattle.std.proofs.lemmas.List.Elements.{All-map}
use Rattle.qm_model.specs.Operations.{Bytes}
use Rattle.qm_model.specs.Trees.{Node, Shape, peaks}
use Rattle.qm_model.specs.Families.{Births, IsFamily, HasPeaks, over}
use Rattle.qm_model.specs.Grafted.{raised, lowered, grafted_chunks, needed_size, grafted_value, chunk_values}
use Rattle.qm_merkle.specs.Mems.{Kept, IsWhole, node_at}
use Rattle.qm_merkle.proofs.Numbering.{born_once}
use Rattle.qm_merkle.proofs.Lookups.{held}
use Rattle.qm_merkle.proofs.Standing.{node_held}
use Rattle.qm_proofs.specs.Proofs.{Tells}
use Rattle.qm_graft.specs.Grafting.{kept_shape}
use Rattle.qm_graft.specs.Trees.{Stands, HoldsPeaks, TellsPeaks, held_at}
use Rattle.qm_graft.proofs.There.{held_low, held_high}
use Rattle.qm_graft.proofs.Viewing.{tells_low, tells_high}

module _ (shape : Shape) (births : Births) (family : IsFamily shape births) (peaked : HasPeaks shape) (g : ℕ) (some : 0 < g)
    (grown : (n : ℕ) (x : Node) → shape.birth (raised g x) ≤ n → shape.birth x ≤ grafted_chunks shape g n)
    (absorbed : (n c : ℕ) (x : Node) → 0 < c → needed_size shape g c ≤ n → shape.birth x ≤ c → shape.birth (raised g x) ≤ n) where
  -- What is held of both trees of so many leaves: of the tree of operations its peaks, and of the grafted one, which forgot the first
  -- of its leaves, each node that was not under a forgotten one.
  module _ {D : Type 0} (operations grafted : ℕ → Option D) (n start : ℕ) (few : n ≤ 2 ^ 62)
      (low_held : (x : Node) → shape.birth x ≤ n → n < shape.birth (over x) → IsSome (operations (shape.position x)))
      (high_held : (y : Node) → shape.birth y ≤ grafted_chunks shape g n → start < shape.birth (over y) → IsSome (grafted (shape.position y)))
      (may_go : 0 < start → needed_size shape g start ≤ n) where
    abbrev view : ℕ → Option D
    view = held_at shape births operations grafted n g

    is_held : (x : Node) → shape.birth x ≤ n → n < shape.birth (over x) → IsSome (view (shape.position x))
    is_held x born bare = ⊎_elim low high (cases_lt x.height g)
      where
        stands : Stands shape n (shape.position x) x
        stands = (λ i. shape.position x, born)

        low : x.height < g → IsSome (view (shape.position x))
        low is = ap is_some (held_low shape births family operations grafted g n (shape.position x) x stands is) ∙ low_held x born bare

        high : g ≤ x.height → IsSome (view (shape.position x))
        high is =
            let y = lowered g x in
            let up : x.height - g + g ≡ x.height = omega (arith, is) in
            let more : suc (x.height - g) + g ≡ suc x.height = omega (arith, is) in
            let raised_is : shape.birth (raised g y) ≤ n = subst (λ h. shape.birth (record { height = h; index = x.index }) ≤ n) (sym up) born in
            let kept : start < shape.birth (over y) = ⊎_elim (λ (late : start < shape.birth (over y)). late)
            (λ (early : shape.birth (over y) ≤ start).
            let begun : 0 < start = omega (arith, early, born_once shape births family (over y)) in
            let back = absorbed n start (over y) begun (may_go begun) early in
            let same : shape.birth (over x) ≤ n = subst (λ h. shape.birth (record { height = h; index = (over x).index }) ≤ n) more back in
            absurd (omega (arith, same, bare)))
            (cases_lt start (shape.birth (over y))) in
            ap is_some (held_high shape births family operations grafted g n (shape.position x) x stands is) ∙ high_held y (grown n y raised_is) kept

    pub holds-peaks : HoldsPeaks view shape n
    holds-peaks = All-map (λ p. IsSome (view p)) shape.position (peaks shape n) (λ k x lt. is_held _ (peaked.born n few k x lt) (peaked.bare n few k x lt))

    pub tells-peaks : (bytes : D → Bytes) (hash : Bytes → Bytes) (leaves : List Bytes) (chunks : ℕ → Bytes) → n ≡ length leaves → Tells shape bytes hash operations leaves →
        Tells (kept_shape shape g) bytes hash grafted (chunk_values hash shape g leaves chunks 0 (grafted_chunks shape g (length leaves))) → TellsPeaks bytes hash view shape g leaves chunks
    tells-peaks bytes hash leaves chunks long digests values k e lt = told _ (peaked.born (length leaves) (omega (arith, long, few)) k e lt)
      where
        told : (x : Node) → shape.birth x ≤ length leaves → IfSome (view (shape.position x)) (λ d. bytes d ≡ grafted_value hash shape g leaves chunks x)
        told x born =
            let stands : Stands shape n (shape.position x) x = (λ i. shape.position x, omega (arith, born, long)) in
            ⊎_elim
            (λ (low : x.height < g). tells_low bytes hash shape births family g leaves chunks operations digests x low born (view (shape.position x))
            (held_low shape births family operations grafted g n (shape.position x) x stands low))
            (λ (high : g ≤ x.height). tells_high bytes hash shape births family g leaves chunks grafted (omega (arith, long, few)) (grafted_chunks shape g (length leaves)) (grown (length leaves)) values x high born (view (shape.position x))
            (held_high shape births family operations grafted g n (shape.position x) x stands high))
            (cases_lt x.height g)

-- what a tree holds of a node that is not under a forgotten leaf
pub kept_held : (shape : Shape) (births : Births) → IsFamily shape births → HasPeaks shape → {D : Type 0} (kept : Kept D) → IsWhole shape kept → (x : Node) → shape.birth x ≤ kept.leaves → kept.start < shape.birth (over x) → IsSome (node_at shape kept (shape.position x))
kept_held shape births family peaked kept whole x born bare =
    (held shape births family peaked kept whole (shape.position x) (node_at shape kept (shape.position x)) (λ i. node_at shape kept (shape.position x))).1 (node_held shape births family peaked kept whole x born bare)
