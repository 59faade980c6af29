use Rattle.std.proofs.Common.{◌≡◌, ◌⊎◌, ◌∙◌, ◌*◌, ◌^◌, ◌<◌, ◌≤◌, ◌∷◌, ℕ, suc, List, [], map, get_or, arith, ap, ap₂, sym, subst}
use Rattle.std.specs.Prelude.{All, Contains, filter, nat_le, IsSome}
use Rattle.std.proofs.lemmas.Bool.{leb-true}
use Rattle.std.proofs.lemmas.List.Elements.{All-filter, filter_passes, All-contains_itself}
use Rattle.qm_model.specs.Operations.{Bytes, Operation}
use Rattle.qm_model.specs.Trees.{Node, Shape, leaves_from}
use Rattle.qm_model.specs.Families.{over}
use Rattle.qm_model.specs.Grafted.{chunk_node, chunk_of, grafted_chunks, needed_size}
use Rattle.qm_merkle.specs.Mems.{Stands}
use Rattle.qm_merkle.specs.Batches.{all_layers, lists_since, stops, stops_since, IsHistory}
use Rattle.qm_merkle.proofs.Since.{stop-since}
use Rattle.qm_overlay.specs.Layers.{Overlay, IsFrom, seen}
use Rattle.qm_graft.specs.Grafting.{grafting, kept_shape, CanGraft, IsStep}
use Rattle.qm_graft.proofs.Fitting.{grafting-span}
use Rattle.qm_roots.specs.Canonical.{values_of}
use Rattle.qm_roots.specs.Kept.{boundary_of}
use Rattle.qm_roots.proofs.Overlays.{changed-from}
use Rattle.qm_roots.proofs.Reaching.{boundary-low, boundary-within, can-graft, goes, order, reach, size-few, tree-low}
use Rattle.qm_roots.proofs.Growing.{list-found, drafted-found, drafted-history, grown-clear, grown-history, grown-step}
use Rattle.qm_roots.proofs.kept.Kept.grafted.Given
use Rattle.qm_roots.proofs.kept.Kept.grafted.Goals as goal

module _ (g : Given.Over) where
  abbrev D : Type 0
  D = g.row.D.Denot

  abbrev shape : Shape
  shape = g.F.Family.shape

  abbrev size : ℕ
  size = g.N.Chunks.LEN

  abbrev height : ℕ
  height = grafting size

  span : 2 ^ height ≡ 8 * size
  span = let power = g.met.N.Chunks.power in grafting-span size power.0 power.1

  some : 0 < 8 * size
  some = let least = g.met.N.Chunks.least in omega (arith, least)

  prompt : (c : ℕ) → shape.birth (chunk_node height c) ≤ suc (suc c) * 2 ^ height
  prompt = g.met.F.Graftable.prompt height

-- the chunks that a step changes
each-changed : (P : ℕ → Type 0) (overlay : Overlay) (least start : ℕ) (changed : List ℕ) → changed ≡ filter (nat_le start) (map (λ e. e.0) overlay.changed) → IsFrom least overlay → ((c : ℕ) → least ≤ c → P c) → All P changed
each-changed P overlay least start changed is from holds =
    let all : List ℕ = map (λ e. e.0) overlay.changed in
    let itself = All-contains_itself all in
    subst (All P) (sym is) (All-filter (nat_le start) P all (λ i d lt. holds (get_or all i d) (changed-from least overlay (get_or all i d) from (itself i d lt))))

each-late : (overlay : Overlay) (start : ℕ) (changed : List ℕ) → changed ≡ filter (nat_le start) (map (λ e. e.0) overlay.changed) → All (λ c. start ≤ c) changed
each-late overlay start changed is = subst (All (λ c. start ≤ c)) (sym is) (λ i d lt. leb-true start _ (filter_passes (nat_le start) (map (λ e. e.0) overlay.changed) i d lt))

pub grafted_chunks-boundary-requires-clause-few : goal.grafted_chunks-boundary-requires-clause-few
grafted_chunks-boundary-requires-clause-few g c =
    let few = size-few (shape g) g.F.Family.births g.met.F.Family.numbered (size g) (some g) (span g) (prompt g) c.args.self.now c.size_before.ensures.agreed c.args.place.now.keep c.requires.can.keeps in
    omega (arith, c.size_before.ensures.size, few)

pub draft-requires : goal.draft-requires
draft-requires g c =
    let kept = c.args.self.now in
    let place = c.args.place.now in
    let own = place.canonical.now in
    let can = c.requires.can in
    let agreed = c.size_before.ensures.agreed in
    let boundary = c.grafted_chunks-boundary.ensures ∙ ap₂ (grafted_chunks (shape g)) c.height.ensures.exact c.size_before.ensures.size in
    let within = boundary-within (shape g) g.F.Family.births g.met.F.Family.numbered (size g) (some g) (span g) (prompt g) kept agreed place.keep can.keeps in
    let reached = reach (shape g) g.F.Family.births g.met.F.Family.numbered (size g) (some g) (span g) (prompt g) kept agreed own c.tree-tree.ensures.sized place.bits.now
    (g.O.Nodes.node_at c.args.tip.now.operations.now) place.lacking place.keep c.args.tip.now.size can in record {
      reach = subst (λ t. Contains (stops kept.leaves kept.layers) t.leaves) (sym c.tree-tree.ensures.tree) reached;
      boundary = omega (arith, boundary, within);
    }

pub grown-requires-clause-few : goal.grown-requires-clause-few
grown-requires-clause-few g c = omega (arith, c.requires.total, c.requires.can.few)

pub grown-requires-clause-fresh : goal.grown-requires-clause-fresh
grown-requires-clause-fresh g c = c.in_ok-draft.ensures.fresh

pub grown-requires-clause-reach : goal.grown-requires-clause-reach
grown-requires-clause-reach g c =
    let boundary = c.grafted_chunks-boundary.ensures ∙ ap₂ (grafted_chunks (shape g)) c.height.ensures.exact c.size_before.ensures.size in
    let kept = c.args.self.now in
    let own = c.args.place.now.canonical.now in
    let draft = c.in_ok-draft.draft in
    subst (λ n. Contains (stops draft.base draft.layers) n) (sym (ap (λ t. t.leaves) c.tree-tree.ensures.tree))
    (subst (λ ss. Contains ss own.tree.leaves) (sym c.in_ok-draft.ensures.stops) (stop-since c.grafted_chunks-boundary.result (stops kept.leaves kept.layers) own.tree.leaves (reach (shape g) g.F.Family.births g.met.F.Family.numbered (size g) (some g) (span g) (prompt g) c.args.self.now c.size_before.ensures.agreed c.args.place.now.canonical.now c.tree-tree.ensures.sized c.args.place.now.bits.now (g.O.Nodes.node_at c.args.tip.now.operations.now) c.args.place.now.lacking c.args.place.now.keep c.args.tip.now.size c.requires.can)
    (omega (arith, boundary, boundary-low (shape g) g.F.Family.births g.met.F.Family.numbered (size g) (some g) (span g) (prompt g) c.args.self.now c.size_before.ensures.agreed c.args.place.now.canonical.now c.tree-tree.ensures.sized c.args.place.now.bits.now (g.O.Nodes.node_at c.args.tip.now.operations.now) c.args.place.now.lacking c.args.place.now.keep c.args.tip.now.size c.requires.can))))

pub grown-requires-clause-kept : goal.grown-requires-clause-kept
grown-requires-clause-kept g c =
    subst (λ k. All (λ x. k ≤ x) c.deref.result.now) (sym c.in_ok-draft.ensures.start.0) (each-late c.args.overlay.now c.in_ok-draft.start c.deref.result.now (c.deref.ensures.value ∙ c.in_ok-changed.ensures))

pub grown-requires-clause-held : goal.grown-requires-clause-held
grown-requires-clause-held g c =
    let first = ap (λ t. t.start) c.tree-tree.ensures.tree in
    each-changed (λ x. c.tree-tree.result.now.start ≤ x) c.args.overlay.now c.args.place.now.bits.now.pruned c.in_ok-draft.start c.deref.result.now (c.deref.ensures.value ∙ c.in_ok-changed.ensures) c.requires.from (λ x from. omega (arith, from, c.requires.can.forgotten, first))

pub grown-requires-clause-order : goal.grown-requires-clause-order
grown-requires-clause-order g c =
    let count = ap (grafted_chunks (shape g) (height g)) c.requires.total in
    omega (arith, c.in_ok-draft.ensures.base, order (shape g) g.F.Family.births g.met.F.Family.numbered (size g) (some g) (span g) (prompt g) c.args.self.now c.size_before.ensures.agreed c.args.place.now.canonical.now c.tree-tree.ensures.sized c.args.place.now.bits.now (g.O.Nodes.node_at c.args.tip.now.operations.now) c.args.place.now.lacking c.args.place.now.keep c.args.tip.now.size c.requires.can, count)

pub grown-requires-clause-changed : goal.grown-requires-clause-changed
grown-requires-clause-changed g c =
    let base = c.in_ok-draft.ensures.base in
    let most = order (shape g) g.F.Family.births g.met.F.Family.numbered (size g) (some g) (span g) (prompt g) c.args.self.now c.size_before.ensures.agreed c.args.place.now.canonical.now c.tree-tree.ensures.sized c.args.place.now.bits.now (g.O.Nodes.node_at c.args.tip.now.operations.now) c.args.place.now.lacking c.args.place.now.keep c.args.tip.now.size c.requires.can in
    each-changed (λ x. x < c.in_ok-draft.draft.base → CanGraft (g.O.Nodes.node_at c.args.tip.now.operations.now) (shape g) (size g) (seen (size g) c.args.bits.now) x) c.args.overlay.now c.args.place.now.bits.now.pruned c.in_ok-draft.start c.deref.result.now (c.deref.ensures.value ∙ c.in_ok-changed.ensures) c.requires.from
    (λ x from less. can-graft (shape g) g.F.Family.births g.met.F.Family.numbered (size g) (some g) (span g) (prompt g) c.args.self.now c.size_before.ensures.agreed c.args.place.now.canonical.now c.tree-tree.ensures.sized c.args.place.now.bits.now (g.O.Nodes.node_at c.args.tip.now.operations.now) c.args.place.now.lacking c.args.place.now.keep c.args.tip.now.size c.requires.can (seen (size g) c.args.bits.now) c.requires.total c.requires.pruned x from (omega (arith, less, base, most)))

pub grown-requires-clause-added : goal.grown-requires-clause-added
grown-requires-clause-added g c = λ x from less.
    let count = ap (grafted_chunks (shape g) (height g)) c.requires.total in
    can-graft (shape g) g.F.Family.births g.met.F.Family.numbered (size g) (some g) (span g) (prompt g) c.args.self.now c.size_before.ensures.agreed c.args.place.now.canonical.now c.tree-tree.ensures.sized c.args.place.now.bits.now (g.O.Nodes.node_at c.args.tip.now.operations.now) c.args.place.now.lacking c.args.place.now.keep c.args.tip.now.size c.requires.can (seen (size g) c.args.bits.now) c.requires.total c.requires.pruned x (omega (arith, from, c.in_ok-draft.ensures.base, tree-low (shape g) g.F.Family.births g.met.F.Family.numbered (size g) (some g) (span g) (prompt g) c.args.self.now c.size_before.ensures.agreed c.args.place.now.canonical.now c.tree-tree.ensures.sized c.args.place.now.bits.now (g.O.Nodes.node_at c.args.tip.now.operations.now) c.args.place.now.lacking c.args.place.now.keep c.args.tip.now.size c.requires.can, c.requires.can.pruned)) (omega (arith, less, count))

pub grown-requires-clause-peaks : goal.grown-requires-clause-peaks
grown-requires-clause-peaks g c =
    let held = g.O.Nodes.node_at c.args.tip.now.operations.now in
    subst (λ m. (x : Node) → (shape g).birth x ≤ m → m < (shape g).birth (over x) → IsSome (held ((shape g).position x))) (sym c.requires.total) c.requires.can.peaks

pub grown-requires-clause-pruned : goal.grown-requires-clause-pruned
grown-requires-clause-pruned g c =
    let count = ap (grafted_chunks (shape g) (height g)) c.requires.total in
    omega (arith, c.requires.pruned, c.requires.can.pruned, tree-low (shape g) g.F.Family.births g.met.F.Family.numbered (size g) (some g) (span g) (prompt g) c.args.self.now c.size_before.ensures.agreed c.args.place.now.canonical.now c.tree-tree.ensures.sized c.args.place.now.bits.now (g.O.Nodes.node_at c.args.tip.now.operations.now) c.args.place.now.lacking c.args.place.now.keep c.args.tip.now.size c.requires.can, order (shape g) g.F.Family.births g.met.F.Family.numbered (size g) (some g) (span g) (prompt g) c.args.self.now c.size_before.ensures.agreed c.args.place.now.canonical.now c.tree-tree.ensures.sized c.args.place.now.bits.now (g.O.Nodes.node_at c.args.tip.now.operations.now) c.args.place.now.lacking c.args.place.now.keep c.args.tip.now.size c.requires.can, count)

pub grown-requires-clause-may_go : goal.grown-requires-clause-may_go
grown-requires-clause-may_go g c = λ more.
    let first = ap (λ t. t.start) c.tree-tree.ensures.tree in
    omega (arith, goes (shape g) g.F.Family.births g.met.F.Family.numbered (size g) (some g) (span g) (prompt g) c.args.self.now c.size_before.ensures.agreed c.args.place.now.canonical.now c.tree-tree.ensures.sized c.args.place.now.bits.now (g.O.Nodes.node_at c.args.tip.now.operations.now) c.args.place.now.lacking c.args.place.now.keep c.args.tip.now.size c.requires.can (omega (arith, more, first)), c.requires.total, ap (needed_size (shape g) (height g)) first)

pub returns : goal.returns
returns g c =
    let kept = c.args.self.now in
    let place = c.args.place.now in
    let own = place.canonical.now in
    let bits = place.bits.now in
    let held = g.O.Nodes.node_at c.args.tip.now.operations.now in
    let n = c.args.tip.now.size in
    let can = c.requires.can in
    let agreed = c.size_before.ensures.agreed in
    let tree = c.tree-tree.ensures.tree in
    let draft = c.in_ok-draft.draft in
    let batch = c.in_ok-batch.batch in
    let bytes = g.D.Digest.bytes in
    let hash = g.H.Hasher.hash in
    let begun = c.in_ok-draft.ensures.start in
    let from : (c.in_ok-draft.start ≡ kept.start) ⊎ (c.in_ok-draft.start ≡ own.tree.start) = subst (λ t. (c.in_ok-draft.start ≡ kept.start) ⊎ (c.in_ok-draft.start ≡ t.start)) tree begun.1 in
    let base_is = c.in_ok-draft.ensures.base in
    let changed = c.deref.ensures.value ∙ c.in_ok-changed.ensures in
    let boundary = c.grafted_chunks-boundary.ensures ∙ ap₂ (grafted_chunks (shape g)) c.height.ensures.exact c.size_before.ensures.size in record {
      leaves = c.in_ok-batch.ensures.leaves ∙ ap (grafted_chunks (shape g) (height g)) c.requires.total;
      start = (c.in_ok-batch.ensures.start ∙ begun.0, from);
      stops = ap (λ ss. batch.newest.tree.leaves ∷ ss) (ap₂ stops c.in_ok-batch.ensures.base c.in_ok-batch.ensures.older ∙ c.in_ok-draft.ensures.stops ∙ ap (λ m. stops_since m (stops kept.leaves kept.layers)) boundary);
      made = λ form ops base bases is begins one active at tip.
          let list = get_or (base ∷ bases) place.lacking [] in
          let values : List Operation → List Bytes = values_of hash (shape g) (height g) form in
          let edge = boundary_of (shape g) (height g) kept place.keep in
          let stands = at.canonical.tree in
          let among = list-found bytes hash (shape g) g.F.Family.births g.met.F.Family.numbered (size g) (some g) (span g) (prompt g) form kept agreed own bits held place.lacking place.keep n can base ops bases is begins draft.base base_is in
          let drafted = drafted-history bytes hash (shape g) g.F.Family.births g.met.F.Family.numbered (size g) (some g) (span g) (prompt g) form kept agreed own bits held place.lacking place.keep n can base ops bases is begins draft.base base_is
          draft.layers (subst (λ m. IsHistory (kept_shape (shape g) (height g)) bytes hash draft.layers (lists_since m (values base ∷ is.lists))) boundary
          (c.in_ok-draft.ensures.history hash (values list) (values base) is.lists is.history among (subst (λ t. Stands (kept_shape (shape g) (height g)) bytes hash t (values list)) (sym tree) stands))) in
          let found = drafted-found bytes hash (shape g) g.F.Family.births g.met.F.Family.numbered (size g) (some g) (span g) (prompt g) form kept agreed own bits held place.lacking place.keep n can base ops bases is begins draft.base base_is in
          let step = subst (λ cs. IsStep (height g) draft.base cs (leaves_from hash (shape g) form 0 base) (leaves_from hash (shape g) form 0 ops) (chunk_of (height g) base) (chunk_of (height g) ops)) (sym changed)
          (grown-step bytes hash (shape g) g.F.Family.births g.met.F.Family.numbered (size g) (some g) (span g) (prompt g) form kept agreed own bits held place.lacking place.keep n can base ops bases is begins draft.base base_is
          c.in_ok-draft.start from c.args.overlay.now one c.requires.from) in
          let stood = subst (λ t. Stands (kept_shape (shape g) (height g)) bytes hash t (values list)) (sym tree) stands in record {
            history = grown-history bytes hash (shape g) g.F.Family.births g.met.F.Family.numbered (size g) (some g) (span g) (prompt g) form kept agreed own bits held place.lacking place.keep n can base ops bases is begins draft.base base_is
                (all_layers batch)
                (c.in_ok-batch.ensures.history (leaves_from hash (shape g) form 0 base) (values list) (chunk_of (height g) base) (lists_since edge is.lists) form ops active step tip.tells drafted found stood);
            root_is = c.in_ok-batch.ensures.canonical (leaves_from hash (shape g) form 0 base) (values list) (chunk_of (height g) base) (lists_since edge is.lists) form ops active (c.new-floor.ensures ∙ tip.floor_is) tip.root_is step tip.tells drafted found stood;
            clear = grown-clear bytes hash (shape g) g.F.Family.births g.met.F.Family.numbered (size g) (some g) (span g) (prompt g) form kept agreed own bits held place.lacking place.keep n can base ops bases is begins draft.base base_is
                c.in_ok-draft.start from (seen (size g) c.args.bits.now) c.requires.pruned active;
          };
      cause = tt;
    }
