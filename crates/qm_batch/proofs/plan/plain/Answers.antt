use Rattle.std.proofs.Common.{◌≡◌, List, map, subst, IfSome, IfOk}
use Rattle.std.specs.Prelude.{option_map}
use Rattle.std.proofs.lemmas.List.Elements.{All-nil}
use Rattle.qm_model.specs.Writes.{Write}
use Rattle.qm_model.specs.Step.{evicted_by, policy_after, step}
use Rattle.qm_step.specs.Kinds.{kind_of}
use Rattle.qm_step.specs.Views.{write_view, IsPlan}
use Rattle.qm_step.proofs.PlanWanted.{slotted-none}
use Rattle.qm_batch.proofs.plan.plain.Goals as goal

pub returns : goal.returns
returns g c = record {
  plan = λ lent base is active from lent_ring ring.
      subst
      (λ (ws : List Write). IfSome (g.L.Items.reads.told c.args.log.now) (λ _. IfOk c.staged.result (λ plan. IsPlan plan base (step (kind_of g.U.Update.form) g.P.Policy.rules base ws c.args.policy.now (option_map g.U.Value.ByteString.bytes c.args.metadata))
      (evicted_by (kind_of g.U.Update.form) g.P.Policy.rules base ws c.args.policy.now))))
      (slotted-none (map (write_view g.U.Key.ByteString.bytes g.U.Value.ByteString.bytes) c.args.writes.now)) (c.staged.ensures.plan lent base is active from lent_ring ring (All-nil _));
  next = λ lent base is active from lent_ring ring.
      subst (λ (ws : List Write). IfSome (g.L.Items.reads.told c.args.log.now) (λ _. IfOk c.staged.result (λ _. c.staged.new.policy ≡ policy_after (kind_of g.U.Update.form) g.P.Policy.rules base ws c.args.policy.now)))
      (slotted-none (map (write_view g.U.Key.ByteString.bytes g.U.Value.ByteString.bytes) c.args.writes.now)) (c.staged.ensures.next lent base is active from lent_ring ring (All-nil _));
  live = c.staged.ensures.live;
  reads = c.staged.ensures.reads;
}
