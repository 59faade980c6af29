use Rattle.std.proofs.Common.{◌∙◌, ap, map, inl, refl}
use Rattle.std.specs.Prelude.{option_map}
use Rattle.std.proofs.lemmas.List.{take_all}
use Rattle.std.proofs.lemmas.Result.{err_from_is_err_and}
use Rattle.qm_model.specs.Writes.{read_through}
use Rattle.qm_step.proofs.MovesLoops.{mapped-more}
use Rattle.qm_any.specs.Layouts.{hashing_of, layout_of}
use Rattle.qm_any.proofs.Reading.{left-none, left-then, left-error, left-database}
use Rattle.qm_any.proofs.db.Db.read_all.Goals as goal

pub loop-key-init : goal.loop-key-init
loop-key-init g c = record {
  left = left-none g.C.Store (hashing_of g.H.Digest.Digest.bytes g.H.Hasher g.F.Family g.U.Update) c.args.self.now;
  values = λ list base stands from. ap (map (option_map g.U.Value.ByteString.bytes)) c.new-values.ensures.items;
}

pub returns-in_err-value-clause-reads : goal.returns-in_err-value-clause-reads
returns-in_err-value-clause-reads g c =
    let exit = err_from_is_err_and c.from_residual.result c.from_residual.ensures.1 in
    let hashing = hashing_of g.H.Digest.Digest.bytes g.H.Hasher g.F.Family g.U.Update in
    let left = c.loop-key.invariant.left in
    record {
      error = rw (exit.1, exit.2) (left-error g.C.Store hashing c.args.self.now c.loop-key.self c.read_one.new.self _ left c.in_err-value.ensures.reads.error);
      whole = λ list is.
          let mid = left-database g.C.Store (layout_of g.N.Chunks.LEN g.H.Digest.Digest.bytes g.H.Hasher g.F.Family g.U.Update g.I.Unordered) c.args.self.now c.loop-key.self list left is in
          rw (exit.1, exit.2) (c.in_err-value.ensures.reads.whole list mid);
      left = left-then g.C.Store hashing c.args.self.now c.loop-key.self c.read_one.new.self left c.read_one.ensures.reads.left;
    }

pub returns-in_err-push-clause-reads : goal.returns-in_err-push-clause-reads
returns-in_err-push-clause-reads g c =
    let exit = err_from_is_err_and c.from_residual-in_err-push.result c.from_residual-in_err-push.ensures.1 in
    record {
      error = rw (exit.1, exit.2) (inl refl);
      whole = λ list is. rw (exit.1, exit.2) (λ n pruned. cc);
      left = left-then g.C.Store (hashing_of g.H.Digest.Digest.bytes g.H.Hasher g.F.Family g.U.Update) c.args.self.now c.loop-key.self c.read_one.new.self c.loop-key.invariant.left c.read_one.ensures.reads.left;
    }

pub loop-key-preserved : goal.loop-key-preserved
loop-key-preserved g c =
    let key = g.U.Key.ByteString.bytes in
    let value = g.U.Value.ByteString.bytes in
    record {
      left = left-then g.C.Store (hashing_of g.H.Digest.Digest.bytes g.H.Hasher g.F.Family g.U.Update) c.args.self.now c.loop-key.self c.read_one.new.self c.loop-key.invariant.left c.read_one.ensures.reads.left;
      values = λ list base stands from.
          let mid = left-database g.C.Store (layout_of g.N.Chunks.LEN g.H.Digest.Digest.bytes g.H.Hasher g.F.Family g.U.Update g.I.Unordered) c.args.self.now c.loop-key.self list c.loop-key.invariant.left stands in
          mapped-more (λ k. read_through base c.args.writes.now (key k)) (option_map value) c.args.keys.now c.loop-key.key-index c.key-item.result
          c.loop-key.values.items c.push.new.self.items c.in_ok-value.value c.loop-key-test.true c.key-item.is c.in_ok-push.ensures.items
          (c.in_ok-value.ensures.value list base mid from) (c.loop-key.invariant.values list base stands from);
    }

pub returns-clause-values : goal.returns-clause-values
returns-clause-values g c = λ list base stands from.
    let key = g.U.Key.ByteString.bytes in
    c.loop-key.invariant.values list base stands from
    ∙ ap (map (λ k. read_through base c.args.writes.now (key k))) (take_all c.loop-key.key-index c.args.keys.now c.loop-key-test.false)

pub returns-clause-reads : goal.returns-clause-reads
returns-clause-reads g c = record { error = tt; whole = λ list is. tt; left = c.loop-key.invariant.left }
