use Rattle.std.proofs.Common.{◌≡◌, ◌↔◌, ◌⊎◌, ◌<◌, ◌∷◌, ◌∙◌, length, ap, sym, subst, arith, map, refl, IsSome}
use Rattle.std.proofs.lemmas.Result.{err_from_is_err_and}
use Rattle.qm_model.specs.Trees.{Shape}
use Rattle.qm_merkle.specs.Mems.{IsWhole}
use Rattle.qm_merkle.specs.Batches.{Layer, AreLinked, IsOver, Leads, IsHistory, layer_at, drafted}
use Rattle.qm_merkle.proofs.Histories.{there, reached, tip_count, seen}
use Rattle.qm_merkle.proofs.Drafting.{own_nodes, drafted_leads}
use Rattle.qm_merkle.proofs.batch.UnmerkleizedBatch.merkleize.Goals as goal

pub replaced_nodes-requires-clause-start : goal.replaced_nodes-requires-clause-start
replaced_nodes-requires-clause-start g c = c.requires.replaced

pub replaced_nodes-requires-clause-there : goal.replaced_nodes-requires-clause-there
replaced_nodes-requires-clause-there g c =
    let linked = subst (λ b. AreLinked g.F.Family.shape b.base b.layers) c.self.view_is c.self.invariant.3 in
    there g.F.Family.shape g.F.Family.births g.met.F.Family.numbered g.met.F.Family.peaked c.args.mem.now c.bounds-bounds.ensures.whole c.args.self.layers c.args.self.base linked c.requires.reach

pub tree-requires-clause-there : goal.tree-requires-clause-there
tree-requires-clause-there g c =
    let linked = subst (λ b. AreLinked g.F.Family.shape b.base b.layers) c.self.view_is c.self.invariant.3 in
    there g.F.Family.shape g.F.Family.births g.met.F.Family.numbered g.met.F.Family.peaked c.args.mem.now c.bounds-bounds.ensures.whole c.args.self.layers c.args.self.base linked c.requires.reach

pub tree-requires-clause-start : goal.tree-requires-clause-start
tree-requires-clause-start g c =
    let linked = subst (λ b. AreLinked g.F.Family.shape b.base b.layers) c.self.view_is c.self.invariant.3 in
    let low = reached g.F.Family.shape g.F.Family.births g.met.F.Family.numbered g.met.F.Family.peaked c.args.mem.now c.bounds-bounds.ensures.whole c.args.self.layers c.args.self.base linked c.requires.reach in
    omega (arith, low, c.bounds-bounds.ensures.whole.order)

pub invariant_of-result : goal.invariant_of-result
invariant_of-result g c =
    let shape = g.F.Family.shape in
    let layer : Layer g.row.D.Denot = record { tree = c.in_ok-tree.tree; replaced = c.in_ok-replaced.replaced.entries } in
    let is : c.in_ok-newest.newest.value ≡ layer = c.in_ok-newest.ensures.ok in
    let start : c.in_ok-newest.newest.value.tree.start ≡ c.self.inside.base = ap (λ l. l.tree.start) is ∙ c.in_ok-tree.ensures.start ∙ sym (ap (λ b. b.base) c.self.view_is) in (
      omega (arith, start, c.self.invariant.0),
      (
        refl,
        subst (λ l. IsWhole shape l.tree) (sym is) c.in_ok-tree.ensures.whole,
        subst (λ n. AreLinked shape n (map (λ r. r.value) c.self.inside.layers.items)) (sym start) c.self.invariant.3,
      ),
    )

pub returns-clause-start : goal.returns-clause-start
returns-clause-start g c = ap (λ b. b.start) c.self.view_is

pub returns-clause-base : goal.returns-clause-base
returns-clause-base g c = ap (λ l. l.tree.start) c.in_ok-newest.ensures.ok ∙ c.in_ok-tree.ensures.start

pub returns-clause-leaves : goal.returns-clause-leaves
returns-clause-leaves g c = ap (λ l. l.tree.leaves) c.in_ok-newest.ensures.ok ∙ c.in_ok-tree.ensures.leaves

pub returns-clause-older : goal.returns-clause-older
returns-clause-older g c = ap (λ b. b.layers) c.self.view_is

pub returns-clause-own : goal.returns-clause-own
returns-clause-own g c x born =
    let layer : Layer g.row.D.Denot = record { tree = c.in_ok-tree.tree; replaced = c.in_ok-replaced.replaced.entries } in
    let is : c.in_ok-newest.newest.value ≡ layer = c.in_ok-newest.ensures.ok in
    subst (λ l. IsSome (layer_at g.F.Family.shape l (Shape.position g.F.Family.shape x)) ↔ ((c.args.self.base < Shape.birth g.F.Family.shape x) ⊎ IsOver c.args.self.replaced x.height x.index)) (sym is)
    (own_nodes g.F.Family.shape g.F.Family.births g.met.F.Family.numbered layer c.args.self.replaced c.args.self.base c.in_ok-tree.ensures.start c.in_ok-replaced.ensures.own c.in_ok-tree.ensures.whole x (omega (arith, born, c.in_ok-tree.ensures.leaves)))

pub returns-clause-history : goal.returns-clause-history
returns-clause-history g c list base lists history found stands =
    let shape = g.F.Family.shape in
    let bytes = g.D.Digest.bytes in
    let hash = g.H.Hasher.hash in
    let births = g.F.Family.births in
    let family = g.met.F.Family.numbered in
    let draft = c.args.self in
    let layer : Layer g.row.D.Denot = record { tree = c.in_ok-tree.tree; replaced = c.in_ok-replaced.replaced.entries } in
    let is : c.in_ok-newest.newest.value ≡ layer = c.in_ok-newest.ensures.ok in
    let linked = subst (λ b. AreLinked shape b.base b.layers) c.self.view_is c.self.invariant.3 in
    let count : length base ≡ draft.base = tip_count shape births family bytes hash c.args.mem.now draft.layers draft.base list base lists linked c.requires.reach history found stands in
    let read = seen shape births family bytes hash g.met.F.Family.peaked c.args.mem.now draft.layers list base lists c.bounds-bounds.ensures.whole history found stands in
    let right = c.in_ok-replaced.ensures.digests base count read in
    let leads = drafted_leads shape births family layer draft.replaced draft.base c.in_ok-tree.ensures.start c.in_ok-replaced.ensures.own bytes hash base (map bytes draft.added) count (c.in_ok-tree.ensures.stands base count read right) right in
    (subst (λ l. Leads shape bytes hash l base (drafted bytes draft base)) (sym is) leads, subst (λ b. IsHistory shape bytes hash b.layers (base ∷ lists)) (sym c.self.view_is) history)

pub returns-clause-few : goal.returns-clause-few
returns-clause-few g c = λ k high.
    let is = c.in_ok-newest.ensures.ok in
    omega (arith, c.in_ok-replaced.ensures.few k high, ap (λ (l : Layer g.row.D.Denot). length l.replaced) is)

pub returns-clause-made : goal.returns-clause-made
returns-clause-made g c =
    let is = c.in_ok-newest.ensures.ok in
    omega (arith, c.in_ok-replaced.ensures.made, c.in_ok-tree.ensures.made, ap (λ (l : Layer g.row.D.Denot). length l.tree.nodes) is, ap (λ (l : Layer g.row.D.Denot). length l.replaced) is)

pub returns-in_err-replaced : goal.returns-in_err-replaced
returns-in_err-replaced g c =
    let exit = err_from_is_err_and c.from_residual.result c.from_residual.ensures.1 in
    record {
      start = rw exit.1 tt;
      base = rw exit.1 tt;
      leaves = rw exit.1 tt;
      older = rw exit.1 tt;
      own = rw exit.1 tt;
      history = λ list base lists history found stands. rw exit.1 tt;
      few = λ k high. rw exit.1 tt;
      made = rw exit.1 tt;
    }

pub returns-in_err-tree : goal.returns-in_err-tree
returns-in_err-tree g c =
    let exit = err_from_is_err_and c.from_residual-in_err-tree.result c.from_residual-in_err-tree.ensures.1 in
    record {
      start = rw exit.1 tt;
      base = rw exit.1 tt;
      leaves = rw exit.1 tt;
      older = rw exit.1 tt;
      own = rw exit.1 tt;
      history = λ list base lists history found stands. rw exit.1 tt;
      few = λ k high. rw exit.1 tt;
      made = rw exit.1 tt;
    }

pub returns-in_err-newest : goal.returns-in_err-newest
returns-in_err-newest g c =
    let exit = err_from_is_err_and c.from_residual-in_err-newest.result c.from_residual-in_err-newest.ensures.1 in
    record {
      start = rw exit.1 tt;
      base = rw exit.1 tt;
      leaves = rw exit.1 tt;
      older = rw exit.1 tt;
      own = rw exit.1 tt;
      history = λ list base lists history found stands. rw exit.1 tt;
      few = λ k high. rw exit.1 tt;
      made = rw exit.1 tt;
    }
