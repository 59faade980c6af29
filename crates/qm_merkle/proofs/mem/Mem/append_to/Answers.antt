use Rattle.std.proofs.Common.{◌≡◌, ◌∙◌, ◌+◌, ◌<◌, ℕ, List, [], ◌∷◌, ◌++◌, length, take, get_or, arith, refl, ap, sym, append_assoc, append-nil}
use Rattle.std.proofs.lemmas.List.{take_more, take_all, length-append, length-take}
use Rattle.qm_merkle.proofs.mem.Mem.append_to.Goals as goal

-- one more is appended
one_more : {X : Type 0} (old xs ys now next : List X) (i : ℕ) (x : X) → ys ≡ xs → i < length ys → x ≡ get_or ys i x → now ≡ old ++ take i xs → next ≡ now ++ x ∷ [] → next ≡ old ++ take (i + 1) xs
one_more old xs ys now next i x same lt is before more =
    more ∙ ap (λ l. l ++ x ∷ []) before ∙ append_assoc old (take i xs) (x ∷ [])
    ∙ ap (λ l. old ++ l) (ap (λ l. take i l ++ x ∷ []) (sym same) ∙ ap (λ y. take i ys ++ y ∷ []) is ∙ sym (take_more ys i x lt) ∙ ap (take (i + 1)) same)

pub loop-node-preserved : goal.loop-node-preserved
loop-node-preserved g c = record {
  items = one_more c.args.nodes.now.items c.args.self.now.nodes c.deref-node-items.result.now c.loop-node.nodes.items c.push_reserved.new.self.items c.loop-node.node-index c.node-item.result
      (c.deref-node-items.ensures.value ∙ ap (λ k. k.nodes) c.self.view_is) c.loop-node-test.true c.node-item.is c.loop-node.invariant.items c.push_reserved.ensures.items;
  capacity = c.push_reserved.ensures.capacity ∙ c.loop-node.invariant.capacity;
}

pub loop-node-init : goal.loop-node-init
loop-node-init g c = record { items = sym (append-nil c.args.nodes.now.items); capacity = refl }

pub push_reserved-requires : goal.push_reserved-requires
push_reserved-requires g c =
    omega (
      arith,
      ap length c.loop-node.invariant.items,
      length-append c.args.nodes.now.items (take c.loop-node.node-index c.args.self.now.nodes),
      length-take c.loop-node.node-index c.args.self.now.nodes,
      c.loop-node.invariant.capacity,
      c.requires,
      c.loop-node-test.true,
      ap length (c.deref-node-items.ensures.value ∙ ap (λ k. k.nodes) c.self.view_is),
    )

pub returns : goal.returns
returns g c = record {
  items = c.loop-node.invariant.items ∙ ap (λ xs. c.args.nodes.now.items ++ xs) (take_all c.loop-node.node-index c.args.self.now.nodes (omega (arith, c.loop-node-test.false, ap length (c.deref-node-items.ensures.value ∙ ap (λ k. k.nodes) c.self.view_is))));
  capacity = c.loop-node.invariant.capacity;
}
