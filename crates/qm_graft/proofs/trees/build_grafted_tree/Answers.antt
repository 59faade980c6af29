use Rattle.std.proofs.Common.{◌≡◌, ◌∙◌, ◌*◌, ◌^◌, ◌≤◌, ◌∷◌, [], ℕ, List, length, map, arith, ap, ap₂, refl, sym, subst}
use Rattle.std.specs.Prelude.{Contains}
use Rattle.std.proofs.lemmas.Result.{IfOk-from_err, err_from_is_err_and}
use Rattle.qm_model.specs.Operations.{Bytes}
use Rattle.qm_model.specs.Trees.{Shape, digest_of, peaks}
use Rattle.qm_model.specs.Bits.{chunk}
use Rattle.qm_model.specs.Grafted.{chunk_node, chunk_values}
use Rattle.qm_model.proofs.GraftedLemmas.{grafted_born, length-chunk_values}
use Rattle.qm_bits.specs.Bitmaps.{all_bits}
use Rattle.qm_merkle.specs.Mems.{Stands}
use Rattle.qm_merkle.specs.Batches.{Draft, stops, IsHistory}
use Rattle.qm_proofs.proofs.Telling.{tree_tells}
use Rattle.qm_graft.specs.Grafting.{grafting, kept_shape}
use Rattle.qm_graft.proofs.Fitting.{grafting-span}
use Rattle.qm_graft.proofs.Begun.{grafted-whole, can-graft, begun-stands, no-step}
use Rattle.qm_graft.proofs.trees.build_grafted_tree.Given
use Rattle.qm_graft.proofs.trees.build_grafted_tree.Goals as goal

module _ (g : Given.Over) where
  abbrev shape : Shape
  shape = g.F.Family.shape

  abbrev height : ℕ
  height = grafting g.N.Chunks.LEN

  span : 2 ^ height ≡ 8 * g.N.Chunks.LEN
  span = let power = g.met.N.Chunks.power in grafting-span g.N.Chunks.LEN power.0 power.1

  abbrev map_of : List g.row.H-Digest.Denot → List Bytes
  map_of ds = map g.H.Digest.Digest.bytes ds

  abbrev peak_values : (Bytes → Bytes) → List Bytes → ℕ → List Bytes
  peak_values hash values n = map (digest_of hash (kept_shape shape height) values) (peaks shape n)

pub follow-requires-clause-reach : goal.follow-requires-clause-reach
follow-requires-clause-reach g c = subst (λ (d : Draft g.row.H-Digest.Denot). Contains (stops d.base d.layers) c.in_ok-tree.tree.leaves) (sym c.new_batch-draft.ensures) (0, omega arith, refl)

pub follow-requires-clause-order : goal.follow-requires-clause-order
follow-requires-clause-order g c =
    let count = c.chunks_over-count.ensures.count in
    omega (arith, ap (λ (d : Draft g.row.H-Digest.Denot). d.base) c.new_batch-draft.ensures, c.in_ok-tree.ensures.1, c.requires.pruned, count)

pub follow-requires-clause-added : goal.follow-requires-clause-added
follow-requires-clause-added g c = λ at from to.
    let count = c.chunks_over-count.ensures.count in
    let base = ap (λ (d : Draft g.row.H-Digest.Denot). d.base) c.new_batch-draft.ensures in
    can-graft (shape g) g.F.Family.births g.met.F.Family.numbered g.met.F.Family.peaked g.N.Chunks.LEN (span g) (g.met.F.Graftable.prompt (height g)) c.args.operations.now (g.B.Readable.bitmap c.args.bits.now) c.chunks_over-count.ensures.whole c.requires.bits c.requires.start
    at (omega (arith, from, base, c.in_ok-tree.ensures.1)) (omega (arith, to, count))

pub apply_batch-requires : goal.apply_batch-requires
apply_batch-requires g c =
    let draft = c.new_batch-draft.ensures in
    let older = c.in_ok-batch.ensures.older ∙ ap (λ (d : Draft g.row.H-Digest.Denot). d.layers) draft in
    let start = c.in_ok-batch.ensures.base ∙ ap (λ (d : Draft g.row.H-Digest.Denot). d.base) draft in
    record { reach = subst (λ ls. Contains (c.in_ok-batch.batch.newest.tree.leaves ∷ stops c.in_ok-batch.batch.newest.tree.start ls) c.in_ok-tree.tree.leaves) (sym older) (1, omega arith, start) }

pub returns : goal.returns
returns g c = record {
  bounds =
      let count = c.chunks_over-count.ensures.count in
      (c.in_ok-apply_batch.ensures.bounds.0 ∙ c.in_ok-tree.ensures.0, c.in_ok-apply_batch.ensures.bounds.1 ∙ c.in_ok-batch.ensures.leaves ∙ count);
  stands = λ digests stands pins.
      let hash = g.H.Hasher.hash in
      let bytes = g.H.Digest.Digest.bytes in
      let map = g.B.Readable.bitmap c.args.bits.now in
      let behind = chunk g.N.Chunks.LEN (all_bits g.N.Chunks.LEN map) in
      let operations = c.args.operations.now in
      let tree = c.in_ok-tree.tree in
      let draft = c.new_batch-draft.result in
      let count = c.chunks_over-count.ensures.count in
      let leaves : draft.base ≡ tree.leaves = ap (λ (d : Draft g.row.H-Digest.Denot). d.base) c.new_batch-draft.ensures in
      let pruned : tree.leaves ≡ map.pruned = c.in_ok-tree.ensures.1 in
      let values : ℕ → List Bytes = chunk_values hash (shape g) (height g) digests behind 0 in
      let long : draft.base ≡ length (values draft.base) = sym (length-chunk_values hash (shape g) (height g) digests behind 0 draft.base) in
      let same : tree.start ≡ tree.leaves = c.in_ok-tree.ensures.0 ∙ sym c.in_ok-tree.ensures.1 in
      let pinned = ap (map_of g) c.in_ok-tree.ensures.2 ∙ pins ∙ ap₂ (λ n k. peak_values g hash (values n) k) (sym (leaves ∙ pruned)) (sym (same ∙ pruned)) in
      let begun = begun-stands (kept_shape (shape g) (height g)) bytes hash tree (values draft.base) same (sym leaves ∙ long) pinned in
      let low : draft.base ≤ c.chunks_over-count.result = omega (arith, leaves, pruned, c.requires.pruned, count) in
      let prompt = g.met.F.Graftable.prompt (height g) in
      let family = g.met.F.Family.numbered in
      let whole : draft.base * 2 ^ height g ≤ length digests =
      omega (arith, grafted-whole (shape g) g.F.Family.births family g.met.F.Family.peaked g.N.Chunks.LEN (span g) prompt operations.leaves draft.base (omega (arith, low, count)), stands.count) in
      let history = c.in_ok-batch.ensures.history digests digests (values draft.base) behind [] (no-step (height g) draft.base digests behind whole)
      (λ k less. tree_tells (shape g) g.F.Family.births family g.met.F.Family.peaked bytes hash operations digests stands (chunk_node (height g) k) (omega (arith, grafted_born (shape g) (height g) operations.leaves k prompt (omega (arith, less, count)), stands.count)))
      (subst (λ (d : Draft g.row.H-Digest.Denot). IsHistory (kept_shape (shape g) (height g)) bytes hash d.layers (values draft.base ∷ [])) (sym c.new_batch-draft.ensures) tt) (0, omega arith, refl) begun in
      subst (λ n. Stands (kept_shape (shape g) (height g)) bytes hash c.apply_batch.new.self (values n)) count
      (c.in_ok-apply_batch.ensures.stands hash (values draft.base) (values c.chunks_over-count.result) (values draft.base ∷ []) history (1, omega arith, refl) begun);
  cause = tt;
}

pub follow-requires-clause-fresh : goal.follow-requires-clause-fresh
follow-requires-clause-fresh g c = (ap (λ (d : Draft g.row.H-Digest.Denot). d.replaced) c.new_batch-draft.ensures, ap (λ (d : Draft g.row.H-Digest.Denot). d.added) c.new_batch-draft.ensures)

pub follow-requires-clause-kept : goal.follow-requires-clause-kept
follow-requires-clause-kept g c = λ i at low. absurd (omega (arith, low))

pub follow-requires-clause-held : goal.follow-requires-clause-held
follow-requires-clause-held g c = λ i at low. absurd (omega (arith, low))

pub follow-requires-clause-changed : goal.follow-requires-clause-changed
follow-requires-clause-changed g c = λ i at low. absurd (omega (arith, low))

pub returns-in_err-tree : goal.returns-in_err-tree
returns-in_err-tree g c = record {
  bounds = IfOk-from_err c.from_residual.result _ c.from_residual.ensures.0;
  stands = λ digests stands pins. IfOk-from_err c.from_residual.result _ c.from_residual.ensures.0;
  cause =
      let exit = err_from_is_err_and c.from_residual.result c.from_residual.ensures.1 in
      rw (exit.1, exit.2) refl;
}

pub returns-in_err-batch : goal.returns-in_err-batch
returns-in_err-batch g c = record {
  bounds = IfOk-from_err c.from_residual-in_err-batch.result _ c.from_residual-in_err-batch.ensures.0;
  stands = λ digests stands pins. IfOk-from_err c.from_residual-in_err-batch.result _ c.from_residual-in_err-batch.ensures.0;
  cause =
      let exit = err_from_is_err_and c.from_residual-in_err-batch.result c.from_residual-in_err-batch.ensures.1 in
      rw (exit.1, exit.2) c.in_err-batch.ensures.cause;
}

pub returns-in_err-apply_batch : goal.returns-in_err-apply_batch
returns-in_err-apply_batch g c = record {
  bounds = IfOk-from_err c.from_residual-in_err-apply_batch.result _ c.from_residual-in_err-apply_batch.ensures.0;
  stands = λ digests stands pins. IfOk-from_err c.from_residual-in_err-apply_batch.result _ c.from_residual-in_err-apply_batch.ensures.0;
  cause =
      let exit = err_from_is_err_and c.from_residual-in_err-apply_batch.result c.from_residual-in_err-apply_batch.ensures.1 in
      rw (exit.1, exit.2) refl;
}
