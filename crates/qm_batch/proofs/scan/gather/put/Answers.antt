use Rattle.std.proofs.Common.{◌≡◌, ◌∙◌, ap, ap₂, sym, map, arith}
use Rattle.std.specs.Prelude.{insert, option_map}
use Rattle.std.proofs.lemmas.List.{length-map}
use Rattle.qm_base.specs.Views.{pair_view}
use Rattle.qm_batch.specs.Gathered.{pair_of, place_among, put_pair, put_said}
use Rattle.qm_batch.proofs.Gathering.{map-insert, place-within, put-there}
use Rattle.qm_batch.proofs.scan.gather.put.Goals as goal

pub insert-requires : goal.insert-requires
insert-requires g c =
    let view = pair_view g.U.Key.ByteString.bytes g.U.Value.ByteString.bytes in
    let pairs = c.deref.result.now in
    let is = c.place_among-place.ensures in
    let within = place-within c.as_bytes.result.now (map view pairs) in
    let same = length-map pairs view in
    let len = c.deref.ensures.len in
    omega (arith, is, within, same, len)

pub returns : goal.returns
returns g c =
    let view = pair_view g.U.Key.ByteString.bytes g.U.Value.ByteString.bytes in
    let old = c.args.pairs.now.items in
    let key = c.into_parts-key.result.0 in
    let value = c.into_parts-key.result.1 in
    let place : c.place_among-place.result ≡ place_among (g.U.Key.ByteString.bytes key) (map view old) =
    c.place_among-place.ensures ∙ ap₂ (λ k xs. place_among k (map view xs)) c.as_bytes.ensures.value c.deref.ensures.value in
    ap (map view) c.in_ok-insert.ensures.items
    ∙ map-insert view old c.place_among-place.result (key, value)
    ∙ ap (λ i. insert (map view old) i (view (key, value))) place
    ∙ put-there (map view old) (view (key, value))
    ∙ ap (λ op. put_pair (map view old) (pair_of op)) (sym c.into_parts-key.ensures.parts)
    ∙ sym (ap (λ o. put_said (map view old) (option_map g.U.Update.view o)) c.in-Some.is)
