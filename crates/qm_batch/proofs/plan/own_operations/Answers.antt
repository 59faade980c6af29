use Rattle.std.proofs.Common.{arith, refl}
use Rattle.qm_model.proofs.Results.{told-then, told-err}
use Rattle.qm_step.specs.Views.{wanted_view}
use Rattle.qm_step.proofs.Reading.{lent-then, told, whole-then}
use Rattle.std.proofs.lemmas.Result.{err_from_is_err_and}
use Rattle.qm_base.proofs.Reading.{reads-short, read-none, reads-on, reads-where, reads-then}
use Rattle.qm_batch.proofs.plan.own_operations.Goals as goal

pub returns : goal.returns
returns g c = record {
  own = λ lent base is active from lent_ring ring reads.
      let key = g.U.Key.ByteString.bytes in
      let value = g.U.Value.ByteString.bytes in
      let ws = wanted_view key value c.args.wanted.now in
      let items = g.L.Items.reads.told c.args.log.now in
      let read = c.written_over.ensures.reads.left in
      let mid = lent-then g.L.Items.reads _ g.I.Unordered.index_key (g.I.Unordered.entries c.args.index.now) c.args.log.now c.written_over.new.log lent read is in
      told-then _ _ items (c.in_ok-made.ensures.value lent base ws is from.leads lent_ring ring reads c.in_ok-last.ensures) (λ made.
      told _ _ _ read.told (c.own_along.ensures.own lent base ws mid active from made lent_ring ring));
  count = c.own_along.ensures.count;
  reads =
      reads-then g.L.Items.reads g.met.L.Items.read_again g.met.L.Items.failed_later c.own_along.result c.written_over.ensures.reads.left
      (λ all.
      let read = c.written_over.ensures.reads.left in
      let same = read.start in
      let above = all.1 in
      (whole-then g.L.Items.reads _ g.I.Unordered.index_key _ _ _ read all.0, omega (arith, same, above)))
      c.own_along.ensures.reads;
}

pub returns-in_err-last : goal.returns-in_err-last
returns-in_err-last g c =
    let exit = err_from_is_err_and c.from_residual.result c.from_residual.ensures.1 in
    record {
      own = λ lent base is active from lent_ring ring reads. told-err _ (g.L.Items.reads.told c.args.log.now) c.from_residual.result exit.0 exit.1;
      count = rw exit.1 tt;
      reads = reads-short g.L.Items.reads c.from_residual.result (read-none g.L.Items.reads g.met.L.Items.unread c.args.log.now) (rw (exit.1, exit.2) refl);
    }

pub returns-in_err-made : goal.returns-in_err-made
returns-in_err-made g c =
    let exit = err_from_is_err_and c.from_residual-in_err-made.result c.from_residual-in_err-made.ensures.1 in
    record {
      own = λ lent base is active from lent_ring ring reads. told-err _ (g.L.Items.reads.told c.args.log.now) c.from_residual-in_err-made.result exit.0 exit.1;
      count = rw exit.1 tt;
      reads = reads-on g.L.Items.reads c.from_residual-in_err-made.result (reads-where g.L.Items.reads _ (λ all. all.0) c.in_err-made.ensures.reads) exit.1 exit.2;
    }
