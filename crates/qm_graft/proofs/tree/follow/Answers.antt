use Rattle.std.proofs.Common.{◌∙◌, ◌-◌, ◌∷◌, length, arith, refl, sym, subst, subst₂}
use Rattle.std.specs.Prelude.{Contains}
use Rattle.std.proofs.lemmas.Result.{IfOk-from_err, err_from_is_err_and}
use Rattle.qm_model.specs.Grafted.{chunk_values}
use Rattle.qm_merkle.specs.Batches.{all_layers, stops, IsHistory}
use Rattle.qm_graft.specs.Grafting.{grafting, kept_shape}
use Rattle.qm_graft.proofs.Following.{follow-cost}
use Rattle.qm_graft.proofs.tree.follow.Goals as goal

pub merkleize-requires-clause-reach : goal.merkleize-requires-clause-reach
merkleize-requires-clause-reach g c = subst₂ (λ n ls. Contains (stops n ls) c.args.mem.now.leaves) (sym c.in_ok-graft.ensures.same.1) (sym c.in_ok-graft.ensures.same.2) c.requires.reach

pub returns-in_err-graft : goal.returns-in_err-graft
returns-in_err-graft g c = record {
  start = IfOk-from_err c.from_residual.result _ c.from_residual.ensures.0;
  base = IfOk-from_err c.from_residual.result _ c.from_residual.ensures.0;
  leaves = IfOk-from_err c.from_residual.result _ c.from_residual.ensures.0;
  older = IfOk-from_err c.from_residual.result _ c.from_residual.ensures.0;
  history = λ old new list before lists step tells history found stands. IfOk-from_err c.from_residual.result _ c.from_residual.ensures.0;
  cost = λ k low. IfOk-from_err c.from_residual.result _ c.from_residual.ensures.0;
  cause =
      let exit = err_from_is_err_and c.from_residual.result c.from_residual.ensures.1 in
      rw (exit.1, exit.2) c.in_err-graft.ensures.cause;
}

pub returns-in_err-merkleize : goal.returns-in_err-merkleize
returns-in_err-merkleize g c = record {
  start = IfOk-from_err c.from_residual-in_err-merkleize.result _ c.from_residual-in_err-merkleize.ensures.0;
  base = IfOk-from_err c.from_residual-in_err-merkleize.result _ c.from_residual-in_err-merkleize.ensures.0;
  leaves = IfOk-from_err c.from_residual-in_err-merkleize.result _ c.from_residual-in_err-merkleize.ensures.0;
  older = IfOk-from_err c.from_residual-in_err-merkleize.result _ c.from_residual-in_err-merkleize.ensures.0;
  history = λ old new list before lists step tells history found stands. IfOk-from_err c.from_residual-in_err-merkleize.result _ c.from_residual-in_err-merkleize.ensures.0;
  cost = λ k low. IfOk-from_err c.from_residual-in_err-merkleize.result _ c.from_residual-in_err-merkleize.ensures.0;
  cause =
      let exit = err_from_is_err_and c.from_residual-in_err-merkleize.result c.from_residual-in_err-merkleize.ensures.1 in
      rw (exit.1, exit.2) refl;
}

pub returns : goal.returns
returns g c = record {
  history = λ old new list before lists step tells history found stands.
      let hash = g.H.Hasher.hash in
      let bytes = g.H.Digest.Digest.bytes in
      let height = grafting g.N.Chunks.LEN in
      let shape = kept_shape g.F.Family.shape height in
      let base = chunk_values hash g.F.Family.shape height old before 0 c.args.draft.base in
      subst (λ l. IsHistory shape bytes hash (all_layers c.in_ok-merkleize.field-0) (l ∷ base ∷ lists)) (c.in_ok-graft.ensures.values old new before step tells)
      (c.in_ok-merkleize.ensures.history list base lists (subst (λ ls. IsHistory shape bytes hash ls (base ∷ lists)) (sym c.in_ok-graft.ensures.same.2) history) found stands);
  cost = λ k low.
      let done = c.in_ok-graft.ensures in
      let few = c.in_ok-merkleize.ensures.few k (omega (arith, low, done.same.1)) in
      let b = c.in_ok-merkleize.field-0 in
      let added = c.args.count - c.args.draft.base in
      follow-cost (length c.args.changed.now) done.made.0 (length c.graft.new.draft.replaced) (length b.newest.replaced) added (length b.newest.tree.nodes) k c.args.hasher.now c.graft.new.hasher c.merkleize.new.hasher
      done.made.1 done.replaced few done.made.2 (omega (arith, c.in_ok-merkleize.ensures.made, done.added));
  start = c.in_ok-merkleize.ensures.start ∙ c.in_ok-graft.ensures.same.0;
  base = c.in_ok-merkleize.ensures.base ∙ c.in_ok-graft.ensures.same.1;
  leaves = c.in_ok-merkleize.ensures.leaves ∙ c.in_ok-graft.ensures.leaves;
  older = c.in_ok-merkleize.ensures.older ∙ c.in_ok-graft.ensures.same.2;
  cause = tt;
}

pub merkleize-requires-clause-replaced : goal.merkleize-requires-clause-replaced
merkleize-requires-clause-replaced g c = c.in_ok-graft.ensures.above c.args.mem.now.start c.requires.held
