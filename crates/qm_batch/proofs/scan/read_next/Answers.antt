use Rattle.std.proofs.Common.{◌≡◌, ◌∙◌, ap, map, sym, [], Some, false}
use Rattle.std.specs.Prelude.{fold, option_map}
use Rattle.std.specs.Map.{keys_of}
use Rattle.qm_model.specs.Ranges.{unlimited}
use Rattle.qm_model.proofs.Results.{ok-then, told-any, told-one}
use Rattle.qm_index.specs.Neighbours.{neighbour_at, next_key}
use Rattle.qm_base.specs.Views.{limit_of, pair_view}
use Rattle.qm_batch.specs.Gathered.{put_at}
use Rattle.qm_batch.specs.Scans.{behind, place_view, unwrapped}
use Rattle.qm_batch.proofs.Ahead.{next-above, next-bucket, over-next}
use Rattle.qm_batch.proofs.Going.{ends-there, not-beginning, ok-two, over, unwrapped-none, unwrapped-some, went}
use Rattle.qm_base.proofs.Reading.{reads-short, read-none, reads-where}
use Rattle.qm_batch.proofs.scan.read_next.Goals as goal

pub returns-in-Some : goal.returns-in-Some
returns-in-Some g c = record {
  value = λ list low is.
      let index_key = g.I.Unordered.index_key in
      let entries = g.I.Unordered.entries c.args.index.now in
      let key = g.U.Key.ByteString.bytes c.args.key.now in
      let high = limit_of g.U.Key.ByteString.bytes c.args.high.now in
      let locations = c.in-Some.bucket.now in
      let view = pair_view g.U.Key.ByteString.bytes g.U.Value.ByteString.bytes in
      let here : Some (locations, false) ≡ neighbour_at entries (next_key (keys_of entries) (index_key key)) =
      unwrapped-some (neighbour_at entries (next_key (keys_of entries) (index_key key))) locations
      (sym (ap (option_map (λ b. b.now)) c.in-Some.is) ∙ c.unwrapped.ensures ∙ ap unwrapped (c.bucket_behind.ensures.value c.requires ∙ ap (λ k. neighbour_at entries (next_key (keys_of entries) (index_key k))) c.as_bytes.ensures.value)) in
      told-one _ _ (g.L.Items.reads.told c.args.log.now) (c.read_bucket.ensures.value list is.logged is.of) (λ found.
      ok-two c.read_bucket.result found c.read_bucket.ensures.place (λ f pairs place.
      went index_key low high list (behind key) (map view f.pairs.items) (fold (put_at unlimited high list) [] locations) (place_view g.U.Key.ByteString.bytes f.place)
      (pairs ∙ ap (λ h. fold (put_at unlimited h list) [] locations) c.bytes_of.ensures) place
      (next-bucket index_key entries (c.bucket_behind.ensures.index c.requires) list is.indexed g.U.Update.form g.met.U.Steps.known_bytes (g.met.U.Steps.monotone c.requires) is.of low high key locations here)));
  over =
      let view = pair_view g.U.Key.ByteString.bytes g.U.Value.ByteString.bytes in
      ok-then c.read_bucket.result c.read_bucket.ensures.place (λ f place. ends-there (map view f.pairs.items) (place_view g.U.Key.ByteString.bytes f.place) place);
  begun = ok-then c.read_bucket.result c.read_bucket.ensures.place (λ f place. not-beginning (map (pair_view g.U.Key.ByteString.bytes g.U.Value.ByteString.bytes) f.pairs.items) (place_view g.U.Key.ByteString.bytes f.place) place);
  reads =
      reads-where g.L.Items.reads c.read_bucket.result (λ all.
      let index_key = g.I.Unordered.index_key in
      let entries = g.I.Unordered.entries c.args.index.now in
      let key = g.U.Key.ByteString.bytes c.args.key.now in
      let locations = c.in-Some.bucket.now in
      let here : Some (locations, false) ≡ neighbour_at entries (next_key (keys_of entries) (index_key key)) =
      unwrapped-some (neighbour_at entries (next_key (keys_of entries) (index_key key))) locations
      (sym (ap (option_map (λ b. b.now)) c.in-Some.is) ∙ c.unwrapped.ensures ∙ ap unwrapped (c.bucket_behind.ensures.value c.requires ∙ ap (λ k. neighbour_at entries (next_key (keys_of entries) (index_key k))) c.as_bytes.ensures.value)) in
      next-above index_key entries (c.bucket_behind.ensures.index c.requires) all.list (all.lent).indexed key locations (g.L.Items.reads.start c.args.log.now) here all.none)
      c.read_bucket.ensures.reads;
}

pub returns-in-None : goal.returns-in-None
returns-in-None g c = record {
  value = λ list low is.
      let index_key = g.I.Unordered.index_key in
      let entries = g.I.Unordered.entries c.args.index.now in
      let key = g.U.Key.ByteString.bytes c.args.key.now in
      let high = limit_of g.U.Key.ByteString.bytes c.args.high.now in
      let view = pair_view g.U.Key.ByteString.bytes g.U.Value.ByteString.bytes in
      told-any _ (g.L.Items.reads.told c.args.log.now)
      (over index_key low high list (behind key) (map view c.nothing.result.pairs.items) (place_view g.U.Key.ByteString.bytes c.nothing.result.place) (ap (map view) c.nothing.ensures.pairs) c.nothing.ensures.place
      (over-next index_key entries (c.bucket_behind.ensures.index c.requires) list is.indexed low high key
      (unwrapped-none (neighbour_at entries (next_key (keys_of entries) (index_key key)))
      (sym (ap (option_map (λ b. b.now)) c.in-None.is) ∙ c.unwrapped.ensures ∙ ap unwrapped (c.bucket_behind.ensures.value c.requires ∙ ap (λ k. neighbour_at entries (next_key (keys_of entries) (index_key k))) c.as_bytes.ensures.value)))));
  over = λ none. c.nothing.ensures.place;
  begun = not-beginning [] (place_view g.U.Key.ByteString.bytes c.nothing.result.place) c.nothing.ensures.place;
  reads = reads-short g.L.Items.reads _ (read-none g.L.Items.reads g.met.L.Items.unread c.args.log.now) tt;
}
