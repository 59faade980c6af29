-- What layers over a tree hold: the nodes over chunks, and the peaks.
use Rattle.std.proofs.Common.{◌≡◌, ◌*◌, ◌^◌, ◌<◌, ◌≤◌, ℕ, suc, List, Option, IsSome, arith, sym, subst, le_refl}
use Rattle.std.specs.Prelude.{Contains}
use Rattle.std.proofs.lemmas.Nat.{mul-le}
use Rattle.qm_model.specs.Trees.{Node, Shape}
use Rattle.qm_model.specs.Families.{Births, IsFamily, HasPeaks, over}
use Rattle.qm_model.specs.Grafted.{chunk_node, grafted_chunks}
use Rattle.qm_model.proofs.GraftedLemmas.{grafted_born}
use Rattle.qm_merkle.specs.Mems.{Kept, IsWhole}
use Rattle.qm_merkle.specs.Batches.{Layer, AreLinked, seen_at, stops}
use Rattle.qm_merkle.proofs.Histories.{reached, there}
use Rattle.qm_merkle.proofs.Numbering.{over_later}
use Rattle.qm_graft.specs.Grafting.{grafting, node_over}

module _ {D : Type 0} (shape : Shape) (births : Births) (family : IsFamily shape births) (peaked : HasPeaks shape) (size : ℕ) (span : 2 ^ grafting size ≡ 8 * size)
    (prompt : (c : ℕ) → shape.birth (chunk_node (grafting size) c) ≤ suc (suc c) * 2 ^ grafting size)
    (mem : Kept D) (whole : IsWhole shape mem) (layers : List (Layer D)) (n : ℕ) (linked : AreLinked shape n layers) (stop : Contains (stops n layers) mem.leaves)
    (held : ℕ → Option D) (is : (x : Node) → held (shape.position x) ≡ seen_at shape layers mem x) where
  -- over the chunks from the pruned ones on, if the tree is kept from the first of these
  pub chunks-held : (pruned c : ℕ) → mem.start < suc pruned * (8 * size) → pruned ≤ c → c < grafted_chunks shape (grafting size) n → IsSome (node_over held shape (grafting size) c)
  chunks-held pruned c low from to =
      let x = chunk_node (grafting size) c in
      let born = grafted_born shape (grafting size) n c prompt (omega (arith, to)) in
      let inside : suc c * (8 * size) ≤ shape.birth x = subst (λ s. suc c * s ≤ shape.birth x) span (family.inside x) in
      let begun = mul-le (suc pruned) (8 * size) (suc c) (8 * size) (omega (arith, from)) (le_refl (8 * size)) in
      let later = over_later shape births family x in
      subst IsSome (sym (is x)) (there shape births family peaked mem whole layers n linked stop x born (omega (arith, low, begun, inside, later)))

  pub peaks-held : (x : Node) → shape.birth x ≤ n → n < shape.birth (over x) → IsSome (held (shape.position x))
  peaks-held x born bare =
      let few = reached shape births family peaked mem whole layers n linked stop in
      subst IsSome (sym (is x)) (there shape births family peaked mem whole layers n linked stop x born (omega (arith, whole.order, few, bare)))
