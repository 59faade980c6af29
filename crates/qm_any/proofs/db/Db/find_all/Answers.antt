use Rattle.std.proofs.Common.{◌≡◌, ◌∙◌, ap, arith, length, map, refl, sym, inl}
use Rattle.std.proofs.lemmas.List.{map-id}
use Rattle.std.proofs.lemmas.Iterator.Adapters.{YieldsList-from_vec}
use Rattle.std.proofs.lemmas.Iterator.Consumers.{YieldsList-end}
use Rattle.std.proofs.lemmas.Result.{IfOk-from_err, err_from_is_err_and}
use Rattle.qm_any.specs.Layouts.{hashing_of, layout_of}
use Rattle.qm_any.proofs.Reading.{left-error, left-then, left-database}
use Rattle.qm_any.proofs.Staging.{keys-more, reads-more}
use Rattle.qm_any.proofs.db.Db.find_all.Goals as goal

pub returns-in_err-found : goal.returns-in_err-found
returns-in_err-found g c =
    let exit = err_from_is_err_and c.from_residual.result c.from_residual.ensures.1 in
    record {
      keys = IfOk-from_err c.from_residual.result _ c.from_residual.ensures.0;
      found = λ list base is from. IfOk-from_err c.from_residual.result _ c.from_residual.ensures.0;
      reads = record {
        error =
            rw (exit.1, exit.2) (left-error g.C.Store (hashing_of g.H.Digest.Digest.bytes g.H.Hasher g.F.Family g.U.Update) c.args.self.now c.loop-key.self c.find.new.self _ c.loop-key.invariant.left c.in_err-found.ensures.reads.error);
        whole = λ list is.
            let left = c.loop-key.invariant.left in
            let mid = left-database g.C.Store (layout_of g.N.Chunks.LEN g.H.Digest.Digest.bytes g.H.Hasher g.F.Family g.U.Update g.I.Unordered) c.args.self.now c.loop-key.self list left is in
            rw (exit.1, exit.2) (c.in_err-found.ensures.reads.whole list mid);
        left = left-then g.C.Store (hashing_of g.H.Digest.Digest.bytes g.H.Hasher g.F.Family g.U.Update) c.args.self.now c.loop-key.self c.find.new.self c.loop-key.invariant.left c.find.ensures.reads.left;
      };
    }

pub loop-key-preserved : goal.loop-key-preserved
loop-key-preserved g c =
    let key = g.U.Key.ByteString.bytes in
    let left = c.loop-key.invariant.left in
    record {
      left = left-then g.C.Store (hashing_of g.H.Digest.Digest.bytes g.H.Hasher g.F.Family g.U.Update) c.args.self.now c.loop-key.self c.find.new.self left c.find.ensures.reads.left;
      keys = keys-more key c.loop-key.reads.items c.push.new.self.items _ c.loop-key.yielded c.in-Some.key c.in_ok-push.ensures.items c.loop-key.invariant.keys refl;
      reads = λ list base stands from.
          let mid = left-database g.C.Store (layout_of g.N.Chunks.LEN g.H.Digest.Digest.bytes g.H.Hasher g.F.Family g.U.Update g.I.Unordered) c.args.self.now c.loop-key.self list left stands in
          reads-more g.U.Update.view key base c.loop-key.reads.items c.push.new.self.items _ c.in_ok-push.ensures.items (c.in_ok-found.ensures.value list base mid from) (c.loop-key.invariant.reads list base stands from);
    }

pub returns-in_err-push : goal.returns-in_err-push
returns-in_err-push g c =
    let exit = err_from_is_err_and c.from_residual-in_err-push.result c.from_residual-in_err-push.ensures.1 in
    record {
      keys = IfOk-from_err c.from_residual-in_err-push.result _ c.from_residual-in_err-push.ensures.0;
      found = λ list base is from. IfOk-from_err c.from_residual-in_err-push.result _ c.from_residual-in_err-push.ensures.0;
      reads = record {
        error =
            rw (exit.1, exit.2) (inl refl);
        whole = λ list is.
            rw (exit.1, exit.2) (λ n pruned. cc);
        left = left-then g.C.Store (hashing_of g.H.Digest.Digest.bytes g.H.Hasher g.F.Family g.U.Update) c.args.self.now c.loop-key.self c.find.new.self c.loop-key.invariant.left c.find.ensures.reads.left;
      };
    }

pub returns : goal.returns
returns g c =
    record {
      keys =
          let gives = c.into_iter-key-iterator.ensures.into_iter_gives in
          let count : c.into_iter-key-iterator.result.rest.len ≡ length c.args.keys.items = omega (arith, gives.1, c.args.keys.ok.0) in
          let all = YieldsList-end (YieldsList-from_vec {s = c.into_iter-key-iterator.result} c.args.keys.items gives.0 count) c.loop-key.yielded _ c.loop-key.yielded_by _ c.next.new.self c.in-None.is c.next.ensures.steps in
          c.loop-key.invariant.keys ∙ ap (map g.U.Key.ByteString.bytes) (sym (map-id c.loop-key.yielded) ∙ all.0);
      found = c.loop-key.invariant.reads;
      reads = record {
        error = tt;
        whole = λ list is. tt;
        left = c.loop-key.invariant.left;
      };
    }
