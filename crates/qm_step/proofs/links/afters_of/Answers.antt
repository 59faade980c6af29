use Rattle.std.proofs.Common.{◌≡◌, true, [], ◌∙◌, ◌++◌, ap, refl, map}
use Rattle.std.proofs.lemmas.List.Elements.{All-nil, All-same}
use Rattle.std.proofs.lemmas.Result.{IfOk-from_err}
use Rattle.std.specs.Prelude.{filter_map}
use Rattle.qm_model.specs.Keys.{contains_key, without}
use Rattle.qm_step.specs.Links.{after_of, next_of, keys_in, ordered_neighbour}
use Rattle.qm_step.specs.PlanViews.{linked_view}
use Rattle.qm_step.proofs.LinksSets.{same-more}
use Rattle.qm_step.proofs.links.afters_of.Goals as goal

pub returns : goal.returns
returns g c = record {
  keys = λ x.
      let key = g.K.ByteString.bytes in
      let value = g.V.Value.ByteString.bytes in
      let gone = keys_in c.args.deleted.now.entries in
      let afters = without gone (filter_map after_of (map (linked_view key value) c.args.linked.now)) in
      let nexts = without gone (filter_map next_of (map (ordered_neighbour key value) c.args.neighbours.now)) in
      same-more (keys_in c.add_named.new.keys.entries) afters (keys_in c.add_next.new.keys.entries) (keys_in c.new-keys.result.entries) nexts (afters ++ nexts) c.in_ok-add_named.ensures.keys c.in_ok-add_next.ensures.keys refl x
      ∙ ap (λ es. contains_key (keys_in es ++ (afters ++ nexts)) x) c.new-keys.ensures.empty;
  known = c.in_ok-add_next.ensures.known (c.in_ok-add_named.ensures.known (All-same (λ e. g.K.ByteString.has e.0.now ≡ true) c.new-keys.result.entries [] c.new-keys.ensures.empty (All-nil (λ e. g.K.ByteString.has e.0.now ≡ true))));
}

pub returns-in_err-add_named : goal.returns-in_err-add_named
returns-in_err-add_named g c = record {
  keys = IfOk-from_err c.from_residual.result _ c.from_residual.ensures.0;
  known = IfOk-from_err c.from_residual.result _ c.from_residual.ensures.0;
}

pub returns-in_err-add_next : goal.returns-in_err-add_next
returns-in_err-add_next g c = record {
  keys = IfOk-from_err c.from_residual-in_err-add_next.result _ c.from_residual-in_err-add_next.ensures.0;
  known = IfOk-from_err c.from_residual-in_err-add_next.result _ c.from_residual-in_err-add_next.ensures.0;
}
