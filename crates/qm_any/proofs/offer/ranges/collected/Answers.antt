use Rattle.std.proofs.Common.{◌≡◌, ◌∙◌, ◌++◌, ◌∷◌, [], ap, map, sym, subst, arith, length, Some, refl, inl}
use Rattle.std.proofs.lemmas.List.{append-nil, length-append}
use Rattle.std.proofs.lemmas.Result.{IfOk-from_err, err_from_is_err_and}
use Rattle.qm_any.proofs.OrderedReads.{laid_out}
use Rattle.qm_any.proofs.Reading.{left-then, left-error, left-database}
use Rattle.std.specs.Option.{option_transpose}
use Rattle.qm_base.proofs.Reading.{memory-kept}
use Rattle.qm_any.specs.Reading.{Reads}
use Rattle.qm_base.specs.Views.{pair_view}
use Rattle.qm_batch.specs.Scans.{IsStep, left_of}
use Rattle.qm_any.proofs.OfferedRanges.{one-more}
use Rattle.qm_any.proofs.offer.ranges.collected.Goals as goal

pub returns-in_err-next-in-Some : goal.returns-in_err-next-in-Some
returns-in_err-next-in-Some g c =
    let exit = err_from_is_err_and c.from_residual.result c.from_residual.ensures.1 in
    record {
      pairs = λ list stands few. IfOk-from_err c.from_residual.result _ c.from_residual.ensures.0;
      reads =
          let layout = laid_out g.N.Chunks.LEN g.H.Digest.Digest.bytes g.H.Hasher.hash g.F.Family.shape g.U.Update.form g.I.Unordered.index_key in
          let left = c.loop.invariant.left in
          let did = subst (λ r. Reads g.C.Store layout c.loop.db c.scan_next.new.self (option_transpose (Some r))) c.in_err-next-in-Some.was c.in-Some.ensures.reads in
          record {
            error = rw (exit.1, exit.2) (left-error g.C.Store layout.hashing c.args.db.now c.loop.db c.scan_next.new.self _ left did.error);
            whole = λ list stands.
                let mid = left-database g.C.Store layout c.args.db.now c.loop.db list left stands in
                rw (exit.1, exit.2) (did.whole list mid);
            left = left-then g.C.Store layout.hashing c.args.db.now c.loop.db c.scan_next.new.self left did.left;
          };
    }

pub returns-in-None : goal.returns-in-None
returns-in-None g c =
    record {
      pairs = λ list stands few.
          let layout = laid_out g.N.Chunks.LEN g.H.Digest.Digest.bytes g.H.Hasher.hash g.F.Family.shape g.U.Update.form g.I.Unordered.index_key in
          let given = map (pair_view g.U.Key.ByteString.bytes g.U.Value.ByteString.bytes) c.loop.pairs.items in
          let mid = left-database g.C.Store layout c.args.db.now c.loop.db list c.loop.invariant.left stands in
          sym (c.loop.invariant.value list stands ∙ ap (λ xs. given ++ xs) (c.in-None.ensures.value list mid).0 ∙ append-nil given);
      reads = record {
        error = tt;
        whole = λ list stands. tt;
        left = left-then g.C.Store (laid_out g.N.Chunks.LEN g.H.Digest.Digest.bytes g.H.Hasher.hash g.F.Family.shape g.U.Update.form g.I.Unordered.index_key).hashing c.args.db.now c.loop.db c.scan_next.new.self c.loop.invariant.left c.scan_next.ensures.reads.left;
      };
    }

pub loop-preserved : goal.loop-preserved
loop-preserved g c =
    let layout = laid_out g.N.Chunks.LEN g.H.Digest.Digest.bytes g.H.Hasher.hash g.F.Family.shape g.U.Update.form g.I.Unordered.index_key in
    let view = pair_view g.U.Key.ByteString.bytes g.U.Value.ByteString.bytes in
    let pair = c.in_ok-next-in-Some.field-0 in
    record {
      left = left-then g.C.Store layout.hashing c.args.db.now c.loop.db c.scan_next.new.self c.loop.invariant.left c.scan_next.ensures.reads.left;
      count = omega (arith, ap length c.in_ok-push-in-Some.ensures.items, length-append c.loop.pairs.items (pair ∷ []), c.loop.invariant.count);
      value = λ list stands.
          let rest = left_of g.I.Unordered.index_key c.scan_next.new.scan list in
          let mid = left-database g.C.Store layout c.args.db.now c.loop.db list c.loop.invariant.left stands in
          let step : left_of g.I.Unordered.index_key c.loop.scan list ≡ view pair ∷ rest = subst (λ r. IsStep view (left_of g.I.Unordered.index_key c.loop.scan list) rest (Some r)) c.in_ok-next-in-Some.was (c.in-Some.ensures.value list mid) in
          c.loop.invariant.value list stands
          ∙ ap (λ xs. map view c.loop.pairs.items ++ xs) step
          ∙ one-more view c.loop.pairs.items pair rest
          ∙ ap (λ items. map view items ++ rest) (sym c.in_ok-push-in-Some.ensures.items);
    }

pub returns-in_err-push-in-Some : goal.returns-in_err-push-in-Some
returns-in_err-push-in-Some g c =
    let exit = err_from_is_err_and c.from_residual-in_err-push-in-Some.result c.from_residual-in_err-push-in-Some.ensures.1 in
    record {
      pairs = λ list stands few. IfOk-from_err c.from_residual-in_err-push-in-Some.result _ c.from_residual-in_err-push-in-Some.ensures.0;
      reads = record {
        error = rw (exit.1, exit.2) (inl refl);
        whole = λ list stands. rw (exit.1, exit.2) memory-kept;
        left = left-then g.C.Store (laid_out g.N.Chunks.LEN g.H.Digest.Digest.bytes g.H.Hasher.hash g.F.Family.shape g.U.Update.form g.I.Unordered.index_key).hashing c.args.db.now c.loop.db c.scan_next.new.self c.loop.invariant.left c.scan_next.ensures.reads.left;
      };
    }
