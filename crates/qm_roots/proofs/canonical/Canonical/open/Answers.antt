use Rattle.std.proofs.Common.{◌≡◌, ◌∙◌, ◌*◌, ◌^◌, ◌<◌, ◌≤◌, ℕ, length, map, arith, ap, sym, subst, le_refl}
use Rattle.std.proofs.lemmas.Nat.{mul-le}
use Rattle.qm_model.specs.Trees.{Shape, leaves_from}
use Rattle.qm_model.specs.Grafted.{grafted_chunks, needed_size}
use Rattle.qm_merkle.specs.Mems.{Stands}
use Rattle.qm_graft.specs.Grafting.{grafting, kept_shape}
use Rattle.qm_graft.proofs.Fitting.{grafting-some, grafting-span}
use Rattle.qm_graft.proofs.Rooting.{bits-count}
use Rattle.qm_roots.specs.Canonical.{MayGo}
use Rattle.qm_roots.proofs.Chunks.{grafted-within}
use Rattle.qm_roots.proofs.Going.{gone-grafted}
use Rattle.qm_roots.proofs.Opened.{pins-told, values-told}
use Rattle.qm_roots.proofs.canonical.Canonical.open.Given
use Rattle.qm_roots.proofs.canonical.Canonical.open.Goals as goal

module _ (g : Given.Over) where
  abbrev shape : Shape
  shape = g.F.Family.shape

  abbrev size : ℕ
  size = g.N.Chunks.LEN

  abbrev height : ℕ
  height = grafting size

  span : 2 ^ height ≡ 8 * size
  span = let power = g.met.N.Chunks.power in grafting-span size power.0 power.1

  some : 0 < 8 * size
  some = let least = g.met.N.Chunks.least in omega (arith, least)

-- the pruned chunks are grafted
gone : (g : Given.Over) (n c : ℕ) → MayGo (shape g) (height g) c n → c ≤ grafted_chunks (shape g) (height g) n
gone g n c goes =
    let some = let least = g.met.N.Chunks.least in grafting-some (size g) least in
    gone-grafted (shape g) g.F.Family.births g.met.F.Family.numbered (height g) (λ m k x more needed born. g.met.F.Graftable.absorbed (height g) m k x some more needed born) n c goes

pub build_grafted_tree-requires-clause-pruned : goal.build_grafted_tree-requires-clause-pruned
build_grafted_tree-requires-clause-pruned g c = gone g c.args.found.now.operations.now.leaves c.args.found.now.bits.now.pruned c.requires.may_go

pub canonical_root_of-requires : goal.canonical_root_of-requires
canonical_root_of-requires g c =
    let can = c.requires in
    let start = c.in_ok-tree.ensures.bounds.0 in record {
      bits = can.bits;
      leaves = c.in_ok-tree.ensures.bounds.1;
      may_go = subst (λ n. 0 < n → needed_size (shape g) (height g) n ≤ c.args.found.now.operations.now.leaves) (sym start) can.may_go;
      pruned = omega (arith, gone g c.args.found.now.operations.now.leaves c.args.found.now.bits.now.pruned can.may_go, c.in_ok-tree.ensures.bounds.1);
    }

pub invariant_of-result : goal.invariant_of-result
invariant_of-result g c =
    let can = c.requires in
    let start = c.in_ok-tree.ensures.bounds.0 in
    let count : c.len.result ≡ c.args.found.now.operations.now.leaves = c.len.ensures.value ∙ can.bits in record {
      few = c.len.ensures.bounded;
      leaves = c.in_ok-tree.ensures.bounds.1 ∙ ap (grafted_chunks (shape g) (height g)) (sym count);
      may_go = λ more. omega (arith, count, subst (λ n. 0 < n → needed_size (shape g) (height g) n ≤ c.args.found.now.operations.now.leaves) (sym start) can.may_go more);
    }

pub returns-clause-stands : goal.returns-clause-stands
returns-clause-stands g c = λ form list same floor root stands pins.
    let can = c.requires in
    let hash = g.H.Hasher.hash in
    let bytes = g.D.Digest.bytes in
    let bits = c.args.found.now.bits.now in
    let operations = c.args.found.now.operations.now in
    let long = bits-count (size g) bits list same in
    let count : operations.leaves ≡ length list = sym can.bits ∙ long in
    let whole = grafted-within (shape g) g.F.Family.births g.met.F.Family.numbered (size g) (some g) (span g) (g.met.F.Graftable.prompt (height g)) operations.leaves bits.pruned (gone g operations.leaves bits.pruned can.may_go) in
    let within : bits.pruned * (8 * size g) ≤ 2 ^ 62 = omega (arith, whole, can.bits, c.len.ensures.bounded, c.len.ensures.value) in
    let few : bits.pruned ≤ 2 ^ 62 = omega (arith, mul-le bits.pruned 1 bits.pruned (8 * size g) (le_refl bits.pruned) (some g), within) in
    let told = pins-told hash (shape g) g.F.Family.births g.met.F.Family.numbered g.met.F.Family.peaked (size g) (span g) form bits list same (map bytes c.args.pins.items) (subst (λ w. bits.pruned * w ≤ 2 ^ 62) (sym (span g)) within) few pins in
    let values = values-told hash (shape g) g.F.Family.births g.met.F.Family.numbered g.met.F.Family.peaked (size g) (span g) form bits list same operations.leaves count in
    let tree = subst (Stands (kept_shape (shape g) (height g)) bytes hash c.in_ok-tree.tree) values (c.in_ok-tree.ensures.stands (leaves_from hash (shape g) form 0 list) stands told) in record {
      size_is = c.len.ensures.value ∙ long;
      tree = tree;
      root = c.in_ok-root.ensures.canonical form list same floor root stands tree;
    }
