use Rattle.std.proofs.Common.{◌∙◌, ap, map, sym, []}
use Rattle.std.specs.Prelude.{fold, option_map}
use Rattle.qm_model.specs.Ranges.{unlimited}
use Rattle.qm_model.proofs.Results.{ok-then, told-any, told-one}
use Rattle.qm_step.specs.Nearest.{limit_view}
use Rattle.qm_base.specs.Views.{pair_view}
use Rattle.qm_batch.specs.Gathered.{put_at}
use Rattle.qm_batch.specs.Scans.{beginning, place_view}
use Rattle.qm_batch.proofs.Ahead.{first-above, first-bucket, over-first}
use Rattle.qm_batch.proofs.Going.{not-beginning, ok-two, over, went}
use Rattle.qm_base.proofs.Reading.{reads-short, read-none, reads-where}
use Rattle.qm_batch.proofs.scan.read_first.Goals as goal

pub returns-in-Some : goal.returns-in-Some
returns-in-Some g c = record {
  value = λ list is.
      let high = limit_view c.args.high in
      let locations = c.in-Some.bucket.now in
      let view = pair_view g.U.Key.ByteString.bytes g.U.Value.ByteString.bytes in
      told-one _ _ (g.L.Items.reads.told c.args.log.now) (c.read_bucket.ensures.value list is.logged is.of) (λ found.
      ok-two c.read_bucket.result found c.read_bucket.ensures.place (λ f pairs place.
      went g.I.Unordered.index_key unlimited high list beginning (map view f.pairs.items) (fold (put_at unlimited high list) [] locations) (place_view g.U.Key.ByteString.bytes f.place) pairs place
      (first-bucket g.I.Unordered.index_key (g.I.Unordered.entries c.args.index.now) (c.first_bucket.ensures.index c.requires) list is.indexed g.U.Update.form g.met.U.Steps.known_bytes (g.met.U.Steps.monotone c.requires) is.of high locations
      (sym (ap (option_map (λ b. b.now)) c.in-Some.is) ∙ c.first_bucket.ensures.value c.requires))));
  begun = ok-then c.read_bucket.result c.read_bucket.ensures.place (λ f place. not-beginning (map (pair_view g.U.Key.ByteString.bytes g.U.Value.ByteString.bytes) f.pairs.items) (place_view g.U.Key.ByteString.bytes f.place) place);
  reads =
      reads-where g.L.Items.reads c.read_bucket.result (λ all.
      first-above g.I.Unordered.index_key (g.I.Unordered.entries c.args.index.now) (c.first_bucket.ensures.index c.requires) all.list (all.lent).indexed c.in-Some.bucket.now (g.L.Items.reads.start c.args.log.now)
      (sym (ap (option_map (λ b. b.now)) c.in-Some.is) ∙ c.first_bucket.ensures.value c.requires) all.none)
      c.read_bucket.ensures.reads;
}

pub returns-in-None : goal.returns-in-None
returns-in-None g c = record {
  value = λ list is.
      let high = limit_view c.args.high in
      let view = pair_view g.U.Key.ByteString.bytes g.U.Value.ByteString.bytes in
      told-any _ (g.L.Items.reads.told c.args.log.now)
      (over g.I.Unordered.index_key unlimited high list beginning (map view c.nothing.result.pairs.items) (place_view g.U.Key.ByteString.bytes c.nothing.result.place) (ap (map view) c.nothing.ensures.pairs) c.nothing.ensures.place
      (over-first g.I.Unordered.index_key (g.I.Unordered.entries c.args.index.now) (c.first_bucket.ensures.index c.requires) list is.indexed unlimited high
      (sym (ap (option_map (λ b. b.now)) c.in-None.is) ∙ c.first_bucket.ensures.value c.requires)));
  begun = not-beginning [] (place_view g.U.Key.ByteString.bytes c.nothing.result.place) c.nothing.ensures.place;
  reads = reads-short g.L.Items.reads _ (read-none g.L.Items.reads g.met.L.Items.unread c.args.log.now) tt;
}
