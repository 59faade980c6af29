use Rattle.std.specs.Prelude.{⊤}
use Rattle.std.proofs.Common.{ℕ, List, IfSome, map, subst}
use Rattle.qm_model.specs.Operations.{Bytes}
use Rattle.qm_model.specs.Own.{Log, IsOwn}
use Rattle.qm_model.specs.Schemes.{Scheme, chunks_of, engine_of}
use Rattle.qm_model.specs.StoreModel.{Turns}
use Rattle.qm_lines.specs.Views.{answer_view, line_view}
use Rattle.qm_engine.specs.Runs.{IsRun}
use Rattle.qm_engine.specs.Stores.{HasEnds}
use Rattle.qm_any.specs.Offered.{digest_bytes}
use Rattle.qm_run.proofs.Machines.{machines-same}
use Rattle.qm_run.proofs.commands.run_any.Goals as goal

pub returns-clause-machine : goal.returns-clause-machine
returns-clause-machine g c =
    subst (λ (m : Scheme). IfSome (g.C.Store.told c.args.store) (λ stored. (log : Log) → IsOwn (engine_of m g.P.Policy.rules) log stored → (choices : List ℕ) → Turns (g.C.Store.told c.args.store) (g.C.Store.told c.run-replies.result.store) (HasEnds (chunks_of m) ⊤ choices)
    → IsRun m g.P.Policy.rules log choices (map (line_view (λ (k : Bytes). k) (λ (v : Bytes). v) (λ p. p)) c.args.commands.now) (map (answer_view (λ (k : Bytes). k) (λ (v : Bytes). v) digest_bytes) c.run-replies.result.replies.items) (g.C.Store.told c.run-replies.result.store)))
    (machines-same g.F.Family.shape g.U.Update.form g.met.U.Kind.lengths) c.run-replies.ensures.machine
