use Rattle.std.proofs.Common.{◌≡◌, ◌≤◌, ◌^◌, arith}
use Rattle.std.proofs.lemmas.Result.{IfErr-weaker}
use Rattle.qm_base.specs.declared.error.Error.TheVariants as errors
use Rattle.qm_model.specs.Trees.{peak_positions}
use Rattle.qm_merkle.specs.Batches.{all_layers}
use Rattle.qm_proofs.specs.Proofs.{over_at}
use Rattle.qm_proofs.proofs.Keeping.{peaks_seen}
use Rattle.qm_store.specs.Log.{IsLacked}
use Rattle.qm_store.proofs.Shown.{over_count, over_tells, over_there, only_memory}
use Rattle.qm_store.proofs.log.shown.peaks_over.Goals as goal

pub returns : goal.returns
returns g c = record {
  value = λ hash list new lists stands history found.
      let shape = g.F.Family.shape in
      let births = g.F.Family.births in
      let family = g.met.F.Family.numbered in
      let peaked = g.met.F.Family.peaked in
      let bytes = g.D.Digest.bytes in
      let tree = c.args.tree.now in
      let batch = c.args.batch.now in
      c.peak_digests.ensures.value hash new (omega (arith, c.requires, over_count shape births family peaked bytes hash tree batch list new lists stands history found))
      (over_tells shape births family peaked bytes hash tree batch list new lists stands history found);
  whole = λ hash list new lists from stands history found.
      let shape = g.F.Family.shape in
      let births = g.F.Family.births in
      let family = g.met.F.Family.numbered in
      let peaked = g.met.F.Family.peaked in
      let tree = c.args.tree.now in
      let batch = c.args.batch.now in
      let n = batch.newest.tree.leaves in
      let at = over_at shape batch tree in
      let positions = peak_positions shape c.args.count in
      let few : n ≤ 2 ^ 62 = omega (arith, c.leaves-leaves.ensures.count, c.leaves-leaves.ensures.few) in
      let there = over_there shape births family peaked g.D.Digest.bytes hash tree batch list new lists stands history found c.bounds-first.ensures.whole in
      let none = peaks_seen shape births family peaked tree (all_layers batch) n few there c.args.count from c.requires in
      IfErr-weaker c.peak_digests.result (IsLacked at positions) (λ e. e ≡ errors.Memory) (λ e lack. only_memory at positions e none lack) c.peak_digests.ensures.cause;
  held = c.peak_digests.ensures.held;
  cause = c.peak_digests.ensures.cause;
}
