use Rattle.std.proofs.Common.{◌≡◌, arith}
use Rattle.std.proofs.lemmas.Result.{IfErr-weaker}
use Rattle.qm_base.specs.declared.error.Error.TheVariants as errors
use Rattle.qm_merkle.specs.Mems.{node_at}
use Rattle.qm_proofs.specs.Proofs.{needed_positions}
use Rattle.qm_proofs.proofs.Telling.{tree_tells}
use Rattle.qm_proofs.proofs.Keeping.{needed_kept}
use Rattle.qm_store.specs.Log.{IsLacked}
use Rattle.qm_store.proofs.Shown.{only_memory}
use Rattle.qm_store.proofs.log.shown.kept_proof.Goals as goal

pub returns : goal.returns
returns g c = record {
  value = λ hash list stands.
      let shape = g.F.Family.shape in
      c.proof_from.ensures.value hash list (omega (arith, stands.count, c.requires.size))
      (tree_tells shape g.F.Family.births g.met.F.Family.numbered g.met.F.Family.peaked g.D.Digest.bytes hash c.args.tree.now list stands);
  whole = λ from.
      let shape = g.F.Family.shape in
      let tree = c.args.tree.now in
      let none = needed_kept shape g.F.Family.births g.met.F.Family.numbered g.met.F.Family.peaked tree c.bounds-leaves.ensures.whole c.args.size c.args.start c.args.end
      from (omega (arith, c.requires.order, c.requires.within)) c.requires.size in
      IfErr-weaker c.proof_from.result (IsLacked (node_at shape tree) (needed_positions shape c.args.size c.args.start c.args.end)) (λ e. e ≡ errors.Memory)
      (λ e lack. only_memory (node_at shape tree) (needed_positions shape c.args.size c.args.start c.args.end) e none lack) c.proof_from.ensures.cause;
  held = c.proof_from.ensures.held;
  cause = c.proof_from.ensures.cause;
}
