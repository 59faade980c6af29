use Rattle.std.proofs.Common.{sym, subst, Some}
use Rattle.qm_workers.specs.Known.{knowledge, IsTrueOf}
use Rattle.qm_workers.proofs.Knowing.{no_more-true, learned-true}
use Rattle.qm_workers.proofs.worker.remember.Goals as goal
use Rattle.qm_workers.proofs.worker.remember.Goals.{then-is_update+in_ok-learn, else-is_update}

pub returns : goal.returns
returns g c = λ ops are own.
    let bytes = g.K.ByteString.bytes in
    let forgot = no_more-true ops (knowledge bytes c.args.keys.now) (knowledge bytes c.forget.new.keys) c.forget.ensures are in
    let learned : IsTrueOf ops (knowledge bytes c.if-is_update.keys) = elim c.if-is_update.branch [
      | then-is_update+in_ok-learn w ↦ subst (λ k. IsTrueOf ops (knowledge bytes k)) (sym w.keys-is)
          (learned-true ops c.args.at (Some (bytes c.args.key)) (knowledge bytes c.forget.new.keys) (knowledge bytes w.learn.new.self) w.in_ok-learn.ensures (own w.if-is_update.true) forgot)
      | else-is_update w ↦ subst (λ k. IsTrueOf ops (knowledge bytes k)) (sym w.keys-is) forgot
    ] in
    no_more-true ops (knowledge bytes c.if-is_update.keys) (knowledge bytes c.end_round.new.keys) c.end_round.ensures learned
