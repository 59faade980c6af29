use Rattle.std.proofs.Common.{arith, subst₂, List, refl}
use Rattle.std.specs.Prelude.{option_map}
use Rattle.qm_model.proofs.Results.{ok-four, ok-then, told-one, told-any}
use Rattle.qm_model.specs.Operations.{Bytes, Operation}
use Rattle.qm_step.specs.Views.{IsPlan}
use Rattle.qm_base.proofs.Reading.{reads-on, reads-short}
use Rattle.qm_batch.proofs.plan.staged.Goals as goal

pub returns-in-Ok : goal.returns-in-Ok
returns-in-Ok g c = record {
  plan = λ lent base is active from lent_ring ring reads.
      told-one _ _ (g.L.Items.reads.told c.args.log.now) (c.in-Ok.ensures.own lent base is active from lent_ring ring reads) (λ own.
      ok-then c.planned.result c.planned.ensures.plan (λ plan are.
      subst₂ (λ (tip : List Operation) (evicted : List (Bytes × Bytes)). IsPlan plan base tip evicted) (own.list (option_map g.U.Value.ByteString.bytes c.args.metadata)) own.told (are base from.size own.from own.count)));
  next = λ lent base is active from lent_ring ring reads.
      told-one _ _ (g.L.Items.reads.told c.args.log.now) (c.in-Ok.ensures.own lent base is active from lent_ring ring reads) (λ own.
      ok-then c.planned.result c.planned.ensures.live (λ plan _. own.left));
  live =
      ok-four c.planned.result c.planned.ensures.live c.planned.ensures.count c.planned.ensures.live c.planned.ensures.count (λ plan live count _ _.
      let low = c.in-Ok.ensures.count in
      omega (arith, live, count, low));
  reads = reads-short g.L.Items.reads c.planned.result c.own_operations.ensures.reads.left c.planned.ensures.memory;
}

pub returns-in-Err : goal.returns-in-Err
returns-in-Err g c = record {
  plan = λ lent base is active from lent_ring ring reads. told-any _ (g.L.Items.reads.told c.args.log.now) tt;
  next = λ lent base is active from lent_ring ring reads. told-any _ (g.L.Items.reads.told c.args.log.now) tt;
  live = tt;
  reads = reads-on g.L.Items.reads _ c.in-Err.ensures.reads refl refl;
}
