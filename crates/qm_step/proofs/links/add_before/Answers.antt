use Rattle.std.proofs.Common.{◌≡◌, ◌++◌, ◌∙◌, Some, ap, sym, subst}
use Rattle.std.specs.Prelude.{option_map, option_and_then, option_to_list, IfSome}
use Rattle.qm_model.specs.Keys.{contains_key, without}
use Rattle.qm_operations.specs.Parts.{key_of}
use Rattle.qm_step.specs.Changes.{update_of}
use Rattle.qm_step.specs.Links.{keys_in, Stands}
use Rattle.qm_step.specs.OrderedViews.{ordered_update}
use Rattle.qm_step.specs.Views.{read_view}
use Rattle.qm_step.proofs.LinksSets.{looked, kept-more, gone-none, all-more}
use Rattle.std.proofs.lemmas.Result.{on_ok_weaker}
use Rattle.qm_step.proofs.links.add_before.Goals as goal

pub returns-else-contains_key : goal.returns-else-contains_key
returns-else-contains_key g c = record {
  keys = on_ok_weaker c.put.result (λ put x.
      let view = ordered_update g.K.ByteString.bytes g.V.Value.ByteString.bytes in
      let key = g.K.ByteString.bytes c.in-Some.found.1.key in
      let gone = keys_in c.args.deleted.now.entries in
      kept-more c.args.befores.now.entries c.put.new.map.entries gone c.as_bytes-key.result _ key (looked c.args.deleted.now.entries c.as_bytes-key.result.now key _ c.if-contains_key.ensures c.as_bytes-key.ensures.value)
      put c.as_bytes-key.ensures.value x
      ∙ ap (λ o. contains_key (keys_in c.args.befores.now.entries ++ without gone (option_to_list (option_and_then (λ p. key_of p.1) (option_map (read_view view) o)))) x) (sym c.in-Some.is)) c.put.ensures.entries;
  standing = on_ok_weaker c.put.result (λ put base stands all.
      let view = ordered_update g.K.ByteString.bytes g.V.Value.ByteString.bytes in
      all-more (λ b u. update_of base b ≡ Some (read_view view u.now)) c.args.befores.now.entries c.put.new.map.entries c.as_bytes-key.result _ put
      (ap (update_of base) c.as_bytes-key.ensures.value ∙ subst (λ o. IfSome (option_map (read_view view) o) (Stands base)) c.in-Some.is stands) all) c.put.ensures.entries;
}

pub returns-then-contains_key-clause-keys : goal.returns-then-contains_key-clause-keys
returns-then-contains_key-clause-keys g c = λ x.
    let view = ordered_update g.K.ByteString.bytes g.V.Value.ByteString.bytes in
    let key = g.K.ByteString.bytes c.in-Some.found.1.key in
    let gone = keys_in c.args.deleted.now.entries in
    gone-none c.args.befores.now.entries gone key (looked c.args.deleted.now.entries c.as_bytes-key.result.now key _ c.if-contains_key.ensures c.as_bytes-key.ensures.value) x
    ∙ ap (λ o. contains_key (keys_in c.args.befores.now.entries ++ without gone (option_to_list (option_and_then (λ p. key_of p.1) (option_map (read_view view) o)))) x) (sym c.in-Some.is)
