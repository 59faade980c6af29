use Rattle.std.proofs.Common.{◌≡◌, ◌∙◌, ◌++◌, ◌∷◌, [], Option, Some, IfSome, ap, le_refl, refl, subst, sym}
use Rattle.std.specs.Prelude.{IfNone, is_some}
use Rattle.qm_model.specs.Schemes.{chunks_of}
use Rattle.qm_model.specs.Batches.{Apart}
use Rattle.qm_machine.specs.Grammar.{line_of}
use Rattle.qm_machine.specs.Lines.{Line, Answer}
use Rattle.qm_machine.specs.Machine.{State, turn}
use Rattle.qm_model.specs.Policies.{Policy, policies}
use Rattle.qm_machine.specs.Text.{reply_line}
use Rattle.qm_lines.specs.Parsed.{byte_line}
use Rattle.qm_engine.specs.Stores.{IsLeft}
use Rattle.qm_engine.specs.Session.{Holds, IsChosen}
use Rattle.qm_store.specs.Given.{store_given}
use Rattle.qm_engine.specs.Answered.{after_line}
use Rattle.qm_engine.proofs.LastingStores.{turns-looser, turns-self}
use Rattle.qm_engine.proofs.Commands.{left_none}
use Rattle.qm_engine.proofs.Loops.{ended-at}
use Rattle.qm_engine.proofs.Answerings.{none-any, none-then, same_turn, same_chosen, same_destroy, some-then, memory_cause, memory-no_fault, memory-not_bad, bad-not_done, bad-no_fault, none-not_some, one_at_most, line_is}
use Rattle.qm_engine.proofs.answers.answer_line.Goals as goal

pub returns-in-Err : goal.returns-in-Err
returns-in-Err g c =
    let told = g.C.Store.told (store_given g.X.Meaning.inside c.args.session.held) in
    record {
      machine = λ s k sound more rest told choices. tt;
      left = λ s k sound apart. left_none g.X.Meaning.scheme s.log _ told k.store.told;
      kept = refl;
      command = tt;
      unused = λ none. refl;
      bad = λ e. absurd (memory-not_bad e);
      fault_command = λ e. absurd (memory-no_fault e);
      not_done = memory_cause.0;
      ends = ([], turns-self _ (chunks_of g.X.Meaning.scheme) told, tt);
      later = le_refl _;
      fault = λ e. absurd (memory-no_fault e);
      opened = one_at_most c.args.session.opened;
    }

pub returns-in-Ok-None : goal.returns-in-Ok-None
returns-in-Ok-None g c =
    let told = g.C.Store.told (store_given g.X.Meaning.inside c.args.session.held) in
    record {
      machine = λ s k sound more rest told choices. tt;
      left = λ s k sound apart. left_none g.X.Meaning.scheme s.log _ told k.store.told;
      kept = refl;
      command = tt;
      unused = λ none. refl;
      bad = λ e. sym (rw c.in-Ok-None.field-0-is at c.in-Ok-None.ensures);
      fault_command = λ e. absurd (bad-no_fault e);
      not_done = bad-not_done;
      ends = ([], turns-self _ (chunks_of g.X.Meaning.scheme) told, tt);
      later = le_refl _;
      fault = λ e. absurd (bad-no_fault e);
      opened = one_at_most c.args.session.opened;
    }

pub returns-in-Ok-Some : goal.returns-in-Ok-Some
returns-in-Ok-Some g c =
    let line : Some (byte_line c.in-Ok-Some.command) ≡ line_of c.args.line.now = line_is c.in-Ok-Some.field-0-is c.in-Ok-Some.ensures in
    let ends = c.answer-answered.ensures.ends in
    record {
      machine = λ s k sound more rest told choices.
          subst (λ (o : Option (Line Policy)). IfNone c.answer-answered.result.1 (IfSome o (λ command. Apart g.X.Meaning.scheme.root (turn g.X.Meaning.scheme policies s command).1.had
          → (c.answer-answered.new.text.items ≡ c.args.text.now.items ++ (reply_line (turn g.X.Meaning.scheme policies s command).0 ++ 10 ∷ []))
          × Holds g.C.Store g.X.Meaning c.answer-answered.result.0.held c.answer-answered.result.0.table.items c.answer-answered.result.0.opened (turn g.X.Meaning.scheme policies s command).1))) line
          (subst (λ (next : Answer × State). IfNone c.answer-answered.result.1 (Apart g.X.Meaning.scheme.root next.1.had → (c.answer-answered.new.text.items ≡ c.args.text.now.items ++ (reply_line next.0 ++ 10 ∷ []))
          × Holds g.C.Store g.X.Meaning c.answer-answered.result.0.held c.answer-answered.result.0.table.items c.answer-answered.result.0.opened next.1)) (same_turn g.X.Meaning.scheme s c.in-Ok-Some.command) (c.answer-answered.ensures.machine s k sound more rest told choices));
      left = λ s k sound apart.
          subst (λ (o : Option (Line Policy)). IsLeft g.X.Meaning.scheme (g.C.Store.told (store_given g.X.Meaning.inside c.answer-answered.result.0.held)) s.log (after_line g.X.Meaning.scheme policies s o).log) line
          (subst (λ (next : Answer × State). IsLeft g.X.Meaning.scheme (g.C.Store.told (store_given g.X.Meaning.inside c.answer-answered.result.0.held)) s.log next.1.log) (same_turn g.X.Meaning.scheme s c.in-Ok-Some.command) (c.answer-answered.ensures.left s k sound apart));
      kept = c.answer-answered.ensures.kept;
      command = none-any c.answer-answered.result.1 (ap is_some (sym line));
      unused = λ none. absurd (none-not_some _ (sym (line ∙ none)));
      bad = λ e. absurd ((ended-at _ e c.answer-answered.ensures.cause).1 refl);
      fault_command = λ e. ap is_some (sym line);
      not_done = some-then c.answer-answered.result.1 c.answer-answered.ensures.cause (λ e why. why.0);
      ends = (
        ends.0,
        turns-looser (chunks_of g.X.Meaning.scheme) ends.0 _ _ (λ destroys. sym line ∙ ap Some (same_destroy c.in-Ok-Some.command destroys)) ends.1,
        subst (λ (o : Option (Line Policy)). IfNone c.answer-answered.result.1 (IfSome o (λ command. IsChosen command ends.0))) line (none-then c.answer-answered.result.1 (same_chosen c.in-Ok-Some.command ends.0) ends.2),
      );
      later = c.answer-answered.ensures.later;
      fault = c.answer-answered.ensures.fault;
      opened = c.answer-answered.ensures.opened;
    }
