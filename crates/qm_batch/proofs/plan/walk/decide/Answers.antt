use Rattle.std.proofs.Common.{◌≡◌, ◌∙◌, ◌++◌, ap, ap₂, false, sym}
use Rattle.std.specs.Prelude.{is_some, option_to_list}
use Rattle.qm_chain.specs.Policies.{action_view}
use Rattle.qm_chain.specs.Seen.{Seen}
use Rattle.qm_model.specs.Walk.{Action, evict}
use Rattle.qm_model.proofs.Results.{ok-four, ok-then}
use Rattle.qm_operations.specs.Parts.{key_of, value_of}
use Rattle.qm_step.specs.Changes.{next_in}
use Rattle.qm_step.specs.Going.{decided_for}
use Rattle.qm_step.specs.PlanViews.{decided_views, pair_views}
use Rattle.qm_base.specs.Views.{pair_view}
use Rattle.qm_batch.specs.PlanPaths.{found_view}
use Rattle.qm_batch.proofs.PlanGoing.{going-decided, kept-told, not-back, one-on, passed, same-end, told-more}
use Rattle.std.proofs.lemmas.Result.{err_from_is_err_and}
use Rattle.qm_batch.proofs.plan.walk.decide.Goals as goal

pub returns : goal.returns
returns g c = record {
  value =
      let rules = g.P.Policy.rules in
      let bytes = g.U.Key.ByteString.bytes in
      let value = g.U.Value.ByteString.bytes in
      let walk = c.args.going.now.walk in
      let parts = c.into_parts-key.ensures.parts in
      let key = bytes c.into_parts-key.result.0 in
      let bs = value c.into_parts-key.result.1 in
      let own = found_view g.U.Update.view c.args.found in
      let ds = decided_views bytes value c.args.going.now.decided.items in
      let es = pair_views bytes value c.args.going.now.evicted.items in
      let asked = ap (λ (e : Seen _ _). rules.decide c.args.policy.now e.location e.remaining (bytes e.key) (value e.value)) c.new.ensures in
      let answer =
      ap (λ n. rules.decide c.args.policy.now n walk.entries key bs) (sym (c.new-at.ensures ∙ c.get.ensures))
      ∙ sym asked
      ∙ sym (ap₂ (λ a p. (a, p)) (ap (action_view value) c.into_action-action.ensures ∙ c.in_ok-decision.ensures.action) c.in_ok-decision.ensures.next) in
      let action = action_view value c.into_action-action.result in
      let noted = ap (λ op. decided_for key (next_in op) own.before action) (sym parts) in
      let calm : c.evicts.result ≡ false → action ≡ evict → ⊥ = λ none gone. (g.met.P.Policy.keeps c.args.policy.now walk.floor walk.entries key bs (sym c.evicts.ensures ∙ none)).not_evicted (ap (λ (a : Action × _). a.0) answer ∙ gone) in
      let told = kept-told bytes value c.into_parts-key.result.0 c.into_parts-key.result.1 c.evicts.result c.in_ok-had.had action c.in_ok-had.ensures calm in
      ok-four c.note.result c.note.ensures.goes c.note.ensures.decided c.note.ensures.walk c.note.ensures.evicted (λ on goes pushed is same. λ base list all move going.
      going-decided rules base list ds es walk c.args.policy.now all going c.requires.entries own move key bs (ap key_of parts) (ap value_of parts) action c.decide.new.self answer
      (decided_views bytes value c.note.new.going.decided.items) (pair_views bytes value c.note.new.going.evicted.items) c.note.new.going.walk on
      (told-more (pair_view bytes value) c.args.going.now.evicted.items c.tell.new.evicted.items c.note.new.going.evicted.items c.pair_told.result _ c.in_ok-tell.ensures same (c.pair_told.ensures ∙ told)) (goes ∙ ap is_some noted) (pushed ∙ ap (λ d. ds ++ option_to_list d) noted) is);
  low = ok-then c.note.result c.note.ensures.walk (λ on is. not-back on c.args.going.now.walk c.note.new.going.walk is);
  high = ok-then c.note.result c.note.ensures.walk (λ on is. one-on on c.args.going.now.walk c.note.new.going.walk is);
  passed = ok-then c.note.result c.note.ensures.walk (λ on is. passed on c.args.going.now.walk c.note.new.going.walk is);
  end = ok-then c.note.result c.note.ensures.walk (λ on is. same-end on c.args.going.now.walk c.note.new.going.walk is);
  memory = c.note.ensures.memory;
}

pub returns-in_err-had : goal.returns-in_err-had
returns-in_err-had g c =
    let exit = err_from_is_err_and c.from_residual.result c.from_residual.ensures.1 in
    record {
      value = rw exit.1 tt;
      low = rw exit.1 tt;
      high = rw exit.1 tt;
      passed = rw exit.1 tt;
      end = rw exit.1 tt;
      memory = rw exit.1 exit.2;
    }

pub returns-in_err-decision : goal.returns-in_err-decision
returns-in_err-decision g c =
    let exit = err_from_is_err_and c.from_residual-in_err-decision.result c.from_residual-in_err-decision.ensures.1 in
    record {
      value = rw exit.1 tt;
      low = rw exit.1 tt;
      high = rw exit.1 tt;
      passed = rw exit.1 tt;
      end = rw exit.1 tt;
      memory = rw exit.1 exit.2;
    }

pub returns-in_err-tell : goal.returns-in_err-tell
returns-in_err-tell g c =
    let exit = err_from_is_err_and c.from_residual-in_err-tell.result c.from_residual-in_err-tell.ensures.1 in
    record {
      value = rw exit.1 tt;
      low = rw exit.1 tt;
      high = rw exit.1 tt;
      passed = rw exit.1 tt;
      end = rw exit.1 tt;
      memory = rw exit.1 exit.2;
    }

pub note-requires-clause-entries : goal.note-requires-clause-entries
note-requires-clause-entries g c = c.requires.entries

pub note-requires-clause-floor : goal.note-requires-clause-floor
note-requires-clause-floor g c = c.requires.floor
