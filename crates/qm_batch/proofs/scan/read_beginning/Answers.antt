use Rattle.std.proofs.Common.{ap, inl, inr, map, subst, subst₂, sym, ⊎_elim}
use Rattle.std.specs.Prelude.{IfOk, IfSome}
use Rattle.qm_base.specs.Views.{limit_of, pair_view}
use Rattle.qm_batch.specs.Scans.{AreNext, BeginsAt, beginning, place_view}
use Rattle.qm_batch.proofs.scan.read_beginning.Goals as goal

pub returns-in-Included : goal.returns-in-Included
returns-in-Included g c = record {
  value = λ list is.
      let bytes = g.U.Key.ByteString.bytes in
      let low = c.bytes_of-in-Included.ensures in
      let begins : BeginsAt (bytes c.in-Included.key) (limit_of bytes c.args.low.now) = ⊎_elim (λ same. inl (ap (limit_of bytes) same)) (λ same. inr (ap (limit_of bytes) same)) c.in-Included.is in
      subst₂ (λ l h. IfSome (g.L.Items.reads.told c.args.log.now) (λ _. IfOk c.read_own.result (λ found.
      AreNext g.I.Unordered.index_key l h list beginning (map (pair_view bytes g.U.Value.ByteString.bytes) found.pairs.items) (place_view bytes found.place))))
      low c.bytes_of-in-Included-2.ensures (c.read_own.ensures.value list is (subst (BeginsAt (bytes c.in-Included.key)) (sym low) begins));
  begun = c.read_own.ensures.begun;
  reads = c.read_own.ensures.reads;
}

pub returns-in-Unbounded : goal.returns-in-Unbounded
returns-in-Unbounded g c = record {
  value = λ list is.
      let bytes = g.U.Key.ByteString.bytes in
      subst₂ (λ l h. IfSome (g.L.Items.reads.told c.args.log.now) (λ _. IfOk c.read_first.result (λ found.
      AreNext g.I.Unordered.index_key l h list beginning (map (pair_view bytes g.U.Value.ByteString.bytes) found.pairs.items) (place_view bytes found.place))))
      (ap (limit_of bytes) (sym c.in-Unbounded.is)) c.bytes_of.ensures (c.read_first.ensures.value list is);
  begun = c.read_first.ensures.begun;
  reads = c.read_first.ensures.reads;
}
