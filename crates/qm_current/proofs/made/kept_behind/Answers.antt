use Rattle.std.proofs.Common.{◌≡◌, ◌∙◌, ◌≤◌, ◌<◌, ◌^◌, ◌*◌, ℕ, suc, List, [], ◌∷◌, length, map, take, get_or, arith, ap, ap₂, sym, subst, refl}
use Rattle.std.specs.Prelude.{IfOk}
use Rattle.std.proofs.lemmas.List.{length-map, take-map}
use Rattle.qm_model.proofs.Results.{ok-then}
use Rattle.qm_model.specs.Grafted.{chunk_node}
use Rattle.qm_model.specs.Trees.{Shape}
use Rattle.qm_merkle.specs.Mems.{Kept as Tree, IsWhole}
use Rattle.qm_step.specs.Changes.{LeadTo}
use Rattle.qm_step.specs.Layers.{Layer}
use Rattle.qm_step.specs.Views.{changes_view}
use Rattle.qm_store.specs.KeptTrees.{held_at}
use Rattle.qm_graft.specs.Grafting.{grafting, kept_shape}
use Rattle.qm_graft.proofs.Fitting.{grafting-span}
use Rattle.qm_roots.specs.Kept.{CanFollow, IsKept, IsPlace, IsTip, sizes_of}
use Rattle.qm_any.specs.Databases as anys
use Rattle.qm_any.specs.Layouts.{hashing_of, layout_of}
use Rattle.qm_any.proofs.Known.{child-bases}
use Rattle.qm_any.proofs.Telling.{three}
use Rattle.qm_current.specs.Databases.{Database, Made}
use Rattle.qm_current.proofs.Children.{at-place, can-follow, child-sizes}
use Rattle.qm_current.proofs.Making.{own-step, some-layer, tip-told}
use Rattle.qm_current.proofs.made.kept_behind.Given
use Rattle.qm_current.proofs.made.kept_behind.Goals as goal

module _ (g : Given.Over) where
  abbrev shape : Shape
  shape = g.F.Family.shape

  abbrev size : ℕ
  size = g.N.Chunks.LEN

  span : 2 ^ grafting size ≡ 8 * size
  span = let power = g.met.N.Chunks.power in grafting-span size power.0 power.1

  prompt : (c : ℕ) → shape.birth (chunk_node (grafting size) c) ≤ suc (suc c) * 2 ^ grafting size
  prompt = g.met.F.Graftable.prompt (grafting size)

pub split_at-requires : goal.split_at-requires
split_at-requires g c =
    let view = changes_view g.U.Key.ByteString.bytes g.U.Value.ByteString.bytes in
    let some = some-layer c.args.batch.now.layers c.args.batch.now.bounds.base.size c.bounds-bounds.ensures.agreed.own in
    let long = ap length c.diffs.ensures in
    omega (arith, some, long, length-map c.diffs.result.now (λ d. view d.value), length-map c.args.batch.now.layers (λ (l : Layer). l.changes))

pub followed-requires : goal.followed-requires
followed-requires g c =
    let parent = c.parent.inside.any.value in
    let kept = c.parent.inside.kept in
    let keep = c.args.keep in
    let batch = c.args.batch.now in
    let own = c.args.canonical.now in
    let any_is = sym (ap (λ (b : Made g.row.H-Digest.Denot). b.any) c.parent.view_is) in
    let few = subst (λ (b : anys.Made g.row.H-Digest.Denot). keep ≤ suc (length b.bounds.ancestors)) any_is c.requires.keep in
    let child = subst (λ b. anys.IsChild b keep batch) any_is c.requires.child in
    let lacking = c.lacking-lacking.result in
    let least = subst (λ m. (n : ℕ) → n < length (sizes_of kept) → get_or (sizes_of kept) n 0 ≡ m → (lacking ≤ n) × (get_or (sizes_of kept) lacking 0 ≡ m)) (c.get.ensures ∙ c.size.ensures) c.lacking-lacking.ensures in
    let from = (subst (IsWhole (kept_shape (shape g) (grafting (size g)))) c.tree-2.ensures.tree c.bounds-2.ensures.whole).order in
    let whole = subst (IsWhole (shape g)) c.tree.ensures.value c.bounds.ensures.whole in
    let tip = ap (λ b. b.tip.size) (c.bounds-3.view_is ∙ c.bounds-bounds.ensures.bounds) in
    three (λ map (tree : Tree g.row.H-Digest.Denot) n. CanFollow (shape g) (size g) kept own map (λ p. held_at (shape g) batch.tree tree p) lacking keep n)
    (sym c.split-hasher.ensures.bits) (sym c.split-hasher.ensures.tree) (sym tip)
    (can-follow parent keep few batch child kept c.parent.invariant c.bounds-bounds.ensures.agreed (size g) (record { any = c.args.db.now; canonical = own; instance = 0; name = [] }) c.requires.joined c.requires.on lacking least
    (shape g) g.F.Family.births g.met.F.Family.numbered g.met.F.Family.peaked (span g) (prompt g) from whole c.tree.ensures.size c.get_node.ensures.linked)

pub returns : goal.returns
returns g c =
    let parent = c.parent.inside.any.value in
    let kept = c.parent.inside.kept in
    let keep = c.args.keep in
    let batch = c.args.batch.now in
    let own = c.args.canonical.now in
    let bytes = g.H.Digest.Digest.bytes in
    let hash = g.H.Hasher.hash in
    let form = g.U.Update.form in
    let hashing = hashing_of bytes g.H.Hasher g.F.Family g.U.Update in
    let layout = layout_of (size g) bytes g.H.Hasher g.F.Family g.U.Update g.I.Unordered in
    let any_is = sym (ap (λ (b : Made g.row.H-Digest.Denot). b.any) c.parent.view_is) in
    let kept_is = sym (ap (λ (b : Made g.row.H-Digest.Denot). b.kept) c.parent.view_is) in
    let few = subst (λ (b : anys.Made g.row.H-Digest.Denot). keep ≤ suc (length b.bounds.ancestors)) any_is c.requires.keep in
    let child = subst (λ b. anys.IsChild b keep batch) any_is c.requires.child in
    let lacking = c.lacking-lacking.result in
    let least = subst (λ m. (n : ℕ) → n < length (sizes_of kept) → get_or (sizes_of kept) n 0 ≡ m → (lacking ≤ n) × (get_or (sizes_of kept) lacking 0 ≡ m)) (c.get.ensures ∙ c.size.ensures) c.lacking-lacking.ensures in
    let bounds = c.bounds-3.view_is ∙ c.bounds-bounds.ensures.bounds in
    let db : Database g.row.C.Denot g.row.H-Digest.Denot = record { any = c.args.db.now; canonical = own; instance = 0; name = [] } in
    record {
      sized = ok-then c.followed.result c.followed.ensures.sizes (λ k sizes. sizes ∙ ap₂ (λ (n : ℕ) (ns : List ℕ). n ∷ take (suc keep) ns) (ap (λ b. b.tip.size) bounds) c.parent.invariant ∙ sym (child-sizes parent keep few batch child));
      made = λ list tip chain above stands made held by_keep on making.
          let older = subst (λ b. anys.IsMade hashing b above chain.base) any_is made in
          let leads = subst (λ k. IsKept bytes hash (shape g) (size g) form k chain.base (anys.bases_of above)) kept_is held in
          let view = changes_view g.U.Key.ByteString.bytes g.U.Value.ByteString.bytes in
          let place = at-place parent keep few batch child kept c.parent.invariant c.bounds-bounds.ensures.agreed (size g) db c.requires.joined c.requires.on lacking least {members = g.C.Store} {layout = layout} refl list chain above stands older leads by_keep on in
          let here = subst (λ m. IsPlace bytes hash (shape g) (size g) form own m (get_or (chain.base ∷ anys.bases_of above) lacking [])) (sym c.split-hasher.ensures.bits) place in
          let steps = ap (map (λ d. view d.value)) c.split_at.ensures.front ∙ sym (take-map (λ d. view d.value) 1 c.diffs.result.now) ∙ ap (take 1) c.diffs.ensures in
          let lead = subst (λ cs. LeadTo cs chain.base tip) (sym steps) (own-step batch.layers tip chain.base (map (λ k. k.base) chain.kept) making.steps) in
          let told = tip-told {members = g.C.Store} {layout = layout} g.F.Family.births g.met.F.Family.numbered g.met.F.Family.peaked c.args.db.now batch list tip chain stands.any making on in
          let told_root = subst (λ r. IsTip bytes hash (shape g) form batch.bounds.tip.size batch.bounds.inactivity_floor r (held_at (shape g) batch.tree c.args.db.now.log.tree) tip) (sym c.root-root.ensures) told in
          let root = bytes c.root-root.result in
          let is_tip = three (λ n low (tree : Tree g.row.H-Digest.Denot). IsTip bytes hash (shape g) form n low root (λ p. held_at (shape g) batch.tree tree p) tip)
          (sym (ap (λ b. b.tip.size) bounds)) (sym (c.get-2.ensures ∙ ap (λ b. b.inactivity_floor) bounds)) (sym c.split-hasher.ensures.tree) told_root in
          let bases = ap (λ ls. chain.base ∷ ls) (sym (ap (map (λ k. k.base)) by_keep ∙ child-bases keep above chain.base)) in
          subst (λ ls. IfOk c.followed.result (λ k. IsKept bytes hash (shape g) (size g) form k tip ls)) bases
          (c.followed.ensures.made form tip chain.base (anys.bases_of above) leads here lead made.good.commit_ended is_tip);
      same = refl;
    }
