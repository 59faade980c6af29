use Rattle.std.proofs.Common.{◌≡◌, ◌++◌, ◌∙◌, true, ap, sym}
use Rattle.std.specs.Prelude.{option_map, option_to_list}
use Rattle.qm_model.specs.Keys.{contains_key, without}
use Rattle.qm_step.specs.Links.{keys_in}
use Rattle.qm_step.proofs.LinksSets.{looked, kept-more, gone-none, all-more}
use Rattle.std.proofs.lemmas.Result.{on_ok_weaker}
use Rattle.qm_step.proofs.links.add_kept.Goals as goal

pub returns-else-contains_key : goal.returns-else-contains_key
returns-else-contains_key g c = record {
  keys = on_ok_weaker c.put.result (λ put x.
      let key = g.K.ByteString.bytes c.in-Some.key.now in
      let gone = keys_in c.args.deleted.now.entries in
      kept-more c.args.keys.now.entries c.put.new.map.entries gone c.as_bytes-key.result _ key (looked c.args.deleted.now.entries c.as_bytes-key.result.now key _ c.if-contains_key.ensures c.as_bytes-key.ensures.value)
      put c.as_bytes-key.ensures.value x
      ∙ ap (λ o. contains_key (keys_in c.args.keys.now.entries ++ without gone (option_to_list (option_map (λ k. g.K.ByteString.bytes k.now) o))) x) (sym c.in-Some.is)) c.put.ensures.entries;
  known = on_ok_weaker c.put.result (λ put all. all-more (λ b _. g.K.ByteString.has b ≡ true) c.args.keys.now.entries c.put.new.map.entries c.as_bytes-key.result _ put c.as_bytes-key.ensures.known all) c.put.ensures.entries;
}

pub returns-then-contains_key-clause-keys : goal.returns-then-contains_key-clause-keys
returns-then-contains_key-clause-keys g c = λ x.
    let key = g.K.ByteString.bytes c.in-Some.key.now in
    let gone = keys_in c.args.deleted.now.entries in
    gone-none c.args.keys.now.entries gone key (looked c.args.deleted.now.entries c.as_bytes-key.result.now key _ c.if-contains_key.ensures c.as_bytes-key.ensures.value) x
    ∙ ap (λ o. contains_key (keys_in c.args.keys.now.entries ++ without gone (option_to_list (option_map (λ k. g.K.ByteString.bytes k.now) o))) x) (sym c.in-Some.is)
