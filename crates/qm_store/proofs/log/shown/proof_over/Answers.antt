use Rattle.std.proofs.Common.{◌≡◌, ◌∙◌, ◌≤◌, ◌^◌, None, IfOk, IfErr, OnOk, length, arith, sym, subst, le_refl}
use Rattle.std.proofs.lemmas.List.{take_all}
use Rattle.std.proofs.lemmas.Result.{IfErr-weaker}
use Rattle.qm_base.specs.declared.error.Error.TheVariants as errors
use Rattle.qm_model.specs.Trees.{peaks}
use Rattle.qm_model.specs.Proofs.{proof_of}
use Rattle.qm_merkle.specs.Batches.{all_layers}
use Rattle.qm_proofs.specs.Proofs.{proof_view, needed_positions, first_lacked, over_at}
use Rattle.qm_proofs.proofs.Keeping.{needed_seen}
use Rattle.qm_store.specs.Log.{IsLacked}
use Rattle.qm_store.proofs.Shown.{over_count, over_tells, over_there, only_memory}
use Rattle.qm_store.proofs.log.shown.proof_over.Goals as goal

pub returns : goal.returns
returns g c = record {
  value = λ hash list new lists stands history found.
      let shape = g.F.Family.shape in
      let bytes = g.D.Digest.bytes in
      let births = g.F.Family.births in
      let family = g.met.F.Family.numbered in
      let peaked = g.met.F.Family.peaked in
      let tree = c.args.tree.now in
      let batch = c.args.batch.now in
      let count = over_count shape births family peaked bytes hash tree batch list new lists stands history found in
      let size : c.get-3.result ≡ length new = c.get-3.ensures ∙ c.leaves-leaves.ensures.count ∙ count in
      subst (λ ds. IfOk c.proof_from.result (λ p. proof_view bytes p ≡ proof_of hash shape ds c.args.inactive c.args.start c.args.end))
      (take_all c.get-3.result new (omega (arith, size)))
      (c.proof_from.ensures.value hash new (omega (arith, size)) (over_tells shape births family peaked bytes hash tree batch list new lists stands history found));
  whole = λ hash list new lists from stands history found.
      let shape = g.F.Family.shape in
      let bytes = g.D.Digest.bytes in
      let births = g.F.Family.births in
      let family = g.met.F.Family.numbered in
      let peaked = g.met.F.Family.peaked in
      let tree = c.args.tree.now in
      let batch = c.args.batch.now in
      let n = batch.newest.tree.leaves in
      let at = over_at shape batch tree in
      let needed = needed_positions shape n c.args.start c.args.end in
      let few : n ≤ 2 ^ 62 = omega (arith, c.leaves-leaves.ensures.count, c.leaves-leaves.ensures.few) in
      let there = over_there shape births family peaked bytes hash tree batch list new lists stands history found c.bounds-first.ensures.whole in
      let none = needed_seen shape births family peaked tree (all_layers batch) n few there n c.args.start c.args.end from (omega (arith, c.requires.order, c.requires.within)) (le_refl n) in
      IfErr-weaker c.proof_from.result (IsLacked at needed) (λ e. e ≡ errors.Memory) (λ e lack. only_memory at needed e none lack)
      (subst (λ m. IfErr c.proof_from.result (IsLacked at (needed_positions shape m c.args.start c.args.end))) (c.get-3.ensures ∙ c.leaves-leaves.ensures.count) c.proof_from.ensures.cause);
  held =
      let shape = g.F.Family.shape in
      let at = over_at shape c.args.batch.now c.args.tree.now in
      subst (λ m. OnOk c.proof_from.result (first_lacked at (needed_positions shape m c.args.start c.args.end) ≡ None)) (c.get-3.ensures ∙ c.leaves-leaves.ensures.count) c.proof_from.ensures.held;
  cause =
      let shape = g.F.Family.shape in
      let at = over_at shape c.args.batch.now c.args.tree.now in
      subst (λ m. IfErr c.proof_from.result (IsLacked at (needed_positions shape m c.args.start c.args.end))) (c.get-3.ensures ∙ c.leaves-leaves.ensures.count) c.proof_from.ensures.cause;
}

pub proof_from-requires-clause-within : goal.proof_from-requires-clause-within
proof_from-requires-clause-within g c = subst (λ m. c.args.end ≤ m) (sym (c.get-3.ensures ∙ c.leaves-leaves.ensures.count)) c.requires.within

pub proof_from-requires-clause-inactive : goal.proof_from-requires-clause-inactive
proof_from-requires-clause-inactive g c = subst (λ m. c.args.inactive ≤ length (peaks g.F.Family.shape m)) (sym (c.get-3.ensures ∙ c.leaves-leaves.ensures.count)) c.requires.inactive
