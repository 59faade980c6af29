use Rattle.std.proofs.Common.{refl, ◌≡◌, ◌≤◌, ◌∙◌, ◌-◌, ap, ap₂, sym, subst, arith, length, map, drop, All}
use Rattle.std.proofs.lemmas.Result.{err_from_is_err_and}
use Rattle.qm_merkle.specs.Mems.{Kept, IsWhole, Holds, node_at}
use Rattle.qm_merkle.proofs.Numbering.{sizes}
use Rattle.qm_merkle.proofs.Standing.{peaks_held}
use Rattle.qm_merkle.proofs.Pruning.{Pruned, whole-pruned, same-pruned, stands-pruned}
use Rattle.qm_merkle.proofs.mem.Mem.prune.Given
use Rattle.qm_merkle.proofs.mem.Mem.prune.Goals as goal

pub nodes_to_pin-requires : goal.nodes_to_pin-requires
nodes_to_pin-requires g c =
    let whole = subst (IsWhole g.F.Family.shape) c.self.view_is c.self.invariant.1 in
    omega (arith, whole.few, c.requires.leaves)

pub digests-requires : goal.digests-requires
digests-requires g c =
    let shape = g.F.Family.shape in
    let whole = subst (IsWhole shape) c.self.view_is c.self.invariant.1 in
    subst (All (Holds shape c.args.self.now)) (sym (c.deref.ensures.value ∙ c.in_ok-positions.ensures))
    (peaks_held shape g.F.Family.births g.met.F.Family.numbered g.met.F.Family.peaked c.args.self.now whole c.args.to c.requires.start c.requires.leaves)

pub overflow_sub-forgotten : goal.overflow_sub-forgotten
overflow_sub-forgotten g c =
    let shape = g.F.Family.shape in
    omega (arith, sizes shape g.F.Family.births g.met.F.Family.numbered c.args.self.now.start c.args.to c.requires.start, c.location_to_position.ensures.size, c.location_to_position-2.ensures.size, ap (λ k. shape.size k.start) c.self.view_is)

pub split_at-requires : goal.split_at-requires
split_at-requires g c =
    let shape = g.F.Family.shape in
    let whole = c.self.invariant.1 in
    let upto : c.args.to ≤ c.self.inside.leaves = omega (arith, c.requires.leaves, ap (λ k. k.leaves) c.self.view_is) in
    omega (arith, sizes shape g.F.Family.births g.met.F.Family.numbered c.args.to c.self.inside.leaves upto, whole.full, c.location_to_position.ensures.size, c.location_to_position-2.ensures.size, ap length c.deref-2.ensures.value)

next : (g : Given.Over) (c : goal.After-drop-self-inside-3 g) → Kept g.row.D.Denot
next g c = record { start = c.args.to; leaves = c.self.inside.leaves; pins = c.in_ok-pins.pins.items; nodes = c.in_ok-nodes.nodes.items }

pruned : (g : Given.Over) (c : goal.After-drop-self-inside-3 g) → Pruned g.F.Family.shape c.args.self.now (next g c)
unfolding next
pruned g c =
    let shape = g.F.Family.shape in
    let kept = c.args.self.now in
    let count : c.get.result - c.get-2.result ≡ shape.size c.args.to - shape.size kept.start =
    omega (arith, c.location_to_position.ensures.size, c.location_to_position-2.ensures.size, ap (λ k. shape.size k.start) c.self.view_is) in
    record {
      from = c.requires.start;
      upto = c.requires.leaves;
      leaves = ap (λ k. k.leaves) c.self.view_is;
      nodes = c.in_ok-nodes.ensures.items ∙ c.split_at.ensures.back ∙ ap₂ drop count (c.deref-2.ensures.value ∙ ap (λ k. k.nodes) c.self.view_is);
      pins = c.in_ok-pins.ensures ∙ ap (map (node_at shape kept)) (c.deref.ensures.value ∙ c.in_ok-positions.ensures);
    }

pub invariant_of-self : goal.invariant_of-self
unfolding next
invariant_of-self g c = (
  c.in_ok-positions.ensures,
  whole-pruned g.F.Family.shape g.F.Family.births g.met.F.Family.numbered g.met.F.Family.peaked c.args.self.now (next g c) (subst (IsWhole g.F.Family.shape) c.self.view_is c.self.invariant.1) (pruned g c),
)

pub returns : goal.returns
unfolding next
returns g c = record {
  bounds = (refl, ap (λ k. k.leaves) c.self.view_is);
  same = same-pruned g.F.Family.shape g.F.Family.births g.met.F.Family.numbered g.met.F.Family.peaked c.args.self.now (next g c) (subst (IsWhole g.F.Family.shape) c.self.view_is c.self.invariant.1) (pruned g c);
  stands = stands-pruned g.F.Family.shape g.F.Family.births g.met.F.Family.numbered g.met.F.Family.peaked c.args.self.now (next g c) (subst (IsWhole g.F.Family.shape) c.self.view_is c.self.invariant.1) (pruned g c) g.D.Digest.bytes;
  err = tt;
}

pub returns-in_err-positions : goal.returns-in_err-positions
returns-in_err-positions g c =
    let exit = err_from_is_err_and c.from_residual.result c.from_residual.ensures.1 in
    record {
      bounds = rw exit.1 tt;
      same = rw exit.1 tt;
      stands = λ hash leaves stands. rw exit.1 tt;
      err = rw exit.1 refl;
    }

pub returns-in_err-pins : goal.returns-in_err-pins
returns-in_err-pins g c =
    let exit = err_from_is_err_and c.from_residual-in_err-pins.result c.from_residual-in_err-pins.ensures.1 in
    record {
      bounds = rw exit.1 tt;
      same = rw exit.1 tt;
      stands = λ hash leaves stands. rw exit.1 tt;
      err = rw exit.1 refl;
    }

pub returns-in_err-nodes : goal.returns-in_err-nodes
returns-in_err-nodes g c =
    let exit = err_from_is_err_and c.from_residual-in_err-nodes.result c.from_residual-in_err-nodes.ensures.1 in
    record {
      bounds = rw exit.1 tt;
      same = rw exit.1 tt;
      stands = λ hash leaves stands. rw exit.1 tt;
      err = rw exit.1 refl;
    }
