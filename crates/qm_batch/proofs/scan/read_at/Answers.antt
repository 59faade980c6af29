use Rattle.std.proofs.Common.{ap, map, sym, subst, []}
use Rattle.std.specs.Prelude.{IfOk, IfSome}
use Rattle.qm_model.proofs.Results.{ok-then, told-any}
use Rattle.qm_base.specs.Views.{limit_of, pair_view}
use Rattle.qm_batch.specs.Scans.{Place, AreNext, nowhere, place_view}
use Rattle.qm_batch.proofs.Going.{nothing-left, over, not-beginning}
use Rattle.qm_base.proofs.Reading.{reads-short, read-none}
use Rattle.qm_batch.proofs.scan.read_at.Goals as goal

pub returns-in-Beginning : goal.returns-in-Beginning
returns-in-Beginning g c = record {
  value = λ list is.
      let key = g.U.Key.ByteString.bytes in
      subst
      (λ (place : Place). IfSome (g.L.Items.reads.told c.args.log.now) (λ _. IfOk c.read_beginning.result (λ found.
      AreNext g.I.Unordered.index_key (limit_of key c.args.low.now) (limit_of key c.args.high.now) list place (map (pair_view key g.U.Value.ByteString.bytes) found.pairs.items) (place_view key found.place))))
      (sym (ap (place_view key) c.in-Beginning.is)) (c.read_beginning.ensures.value list is);
  over = ok-then c.read_beginning.result c.read_beginning.ensures.begun (λ found begun on none. absurd (on (ap (place_view g.U.Key.ByteString.bytes) c.in-Beginning.is)));
  begun = c.read_beginning.ensures.begun;
  reads = c.read_beginning.ensures.reads;
}

pub returns-in-Behind : goal.returns-in-Behind
returns-in-Behind g c = record {
  value = λ list is.
      let key = g.U.Key.ByteString.bytes in
      subst
      (λ (place : Place). IfSome (g.L.Items.reads.told c.args.log.now) (λ _. IfOk c.read_next.result (λ found.
      AreNext g.I.Unordered.index_key (limit_of key c.args.low.now) (limit_of key c.args.high.now) list place (map (pair_view key g.U.Value.ByteString.bytes) found.pairs.items) (place_view key found.place))))
      (sym (ap (place_view key) c.in-Behind.is)) (c.read_next.ensures.value list (limit_of key c.args.low.now) is);
  over = ok-then c.read_next.result c.read_next.ensures.over (λ found ends on. ends);
  begun = c.read_next.ensures.begun;
  reads = c.read_next.ensures.reads;
}

pub returns-in-Nowhere : goal.returns-in-Nowhere
returns-in-Nowhere g c = record {
  value = λ list is.
      let key = g.U.Key.ByteString.bytes in
      let low = limit_of key c.args.low.now in
      let high = limit_of key c.args.high.now in
      let view = pair_view key g.U.Value.ByteString.bytes in
      let index_key = g.I.Unordered.index_key in
      told-any _ (g.L.Items.reads.told c.args.log.now)
      (subst (λ (place : Place). AreNext index_key low high list place (map view c.nothing.result.pairs.items) (place_view key c.nothing.result.place)) (sym (ap (place_view key) c.in-Nowhere.is))
      (over index_key low high list nowhere (map view c.nothing.result.pairs.items) (place_view key c.nothing.result.place) (ap (map view) c.nothing.ensures.pairs) c.nothing.ensures.place
      (nothing-left index_key low high list)));
  over = λ on none. c.nothing.ensures.place;
  begun = not-beginning [] (place_view g.U.Key.ByteString.bytes c.nothing.result.place) c.nothing.ensures.place;
  reads = reads-short g.L.Items.reads _ (read-none g.L.Items.reads g.met.L.Items.unread c.args.log.now) tt;
}
