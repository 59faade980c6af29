use Rattle.std.proofs.Common.{◌≡◌, arith}
use Rattle.std.proofs.lemmas.Result.{IfErr-weaker}
use Rattle.qm_base.specs.declared.error.Error.TheVariants as errors
use Rattle.qm_model.specs.Trees.{peak_positions}
use Rattle.qm_merkle.specs.Mems.{node_at}
use Rattle.qm_proofs.proofs.Keeping.{peaks_kept}
use Rattle.qm_proofs.proofs.Telling.{tree_tells}
use Rattle.qm_store.specs.Log.{IsLacked}
use Rattle.qm_store.proofs.Shown.{only_memory}
use Rattle.qm_store.proofs.log.shown.kept_peaks.Goals as goal

pub returns : goal.returns
returns g c = record {
  value = λ hash list stands.
      c.peak_digests.ensures.value hash list (omega (arith, c.requires, stands.count))
      (tree_tells g.F.Family.shape g.F.Family.births g.met.F.Family.numbered g.met.F.Family.peaked g.D.Digest.bytes hash c.args.tree.now list stands);
  whole = λ from.
      let shape = g.F.Family.shape in
      let tree = c.args.tree.now in
      let positions = peak_positions shape c.args.count in
      let none = peaks_kept shape g.F.Family.births g.met.F.Family.numbered g.met.F.Family.peaked tree c.bounds-leaves.ensures.whole c.args.count from c.requires in
      IfErr-weaker c.peak_digests.result (IsLacked (node_at shape tree) positions) (λ e. e ≡ errors.Memory) (λ e lack. only_memory (node_at shape tree) positions e none lack) c.peak_digests.ensures.cause;
  held = c.peak_digests.ensures.held;
  cause = c.peak_digests.ensures.cause;
}
