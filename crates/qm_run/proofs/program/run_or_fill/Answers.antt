use Rattle.qm_model.specs.Schemes.{chunks_of}
use Rattle.qm_machine.specs.Lines.{Destroy}
use Rattle.std.proofs.Common.{◌≡◌, ◌<◌, ◌++◌, ℕ, List, [], length, map, sym, Some, None, Err, refl, ◌∙◌, ap, subst, inl, inr, IfSome}
use Rattle.std.specs.Prelude.{IsSome, is_some, Contains}
use Rattle.std.proofs.lemmas.Bool.{false≢true}
use Rattle.std.specs.String.{string_bytes}
use Rattle.qm_model.specs.Causes.{Rose}
use Rattle.qm_model.specs.Operations.{Bytes}
use Rattle.qm_machine.specs.Grammar.{bad_in, commands_in}
use Rattle.qm_lines.specs.declared.whole.TheConstants.{LIMIT}
use Rattle.qm_engine.specs.Stores.{HasEnds}
use Rattle.qm_model.specs.StoreModel.{Turns}
use Rattle.qm_run.specs.Program.{Says, chunks_named, MayDestroy, kind_of_words, fill_words, machine_of}
use Rattle.qm_engine.proofs.LastingStores.{turns-self, turns-looser}
use Rattle.qm_engine.proofs.Loops.{each}
use Rattle.qm_run.proofs.Sayings.{says_nothing, says_unstarted, unchanged, each_input, each_more, both, at_none, at_kind, named-chunks, filled-chunks, if_none, if_some, not_run, or_left, or_right, or_none, differ, no_four, at_most_seven, not_both, served-not_early, served-few, served-good, served-bad, filled-served, filled-not_bad, filled-good}
use Rattle.qm_filling.specs.Says as filled
use Rattle.qm_run.proofs.program.run_or_fill.Goals as goal

pub returns-in_default-kind_from : goal.returns-in_default-kind_from
returns-in_default-kind_from g c =
    let none = ap is_some (sym c.kind_from.ensures ∙ c.in_default-kind_from.is) in
    let no_fill : fill_words (map string_bytes c.args.words.now) ≡ None = sym c.fill_from.ensures ∙ c.in_default.is in
    let not_fill = ap is_some no_fill in
    record {
      headline = at_none (kind_of_words (map string_bytes c.args.words.now)) _ (sym c.kind_from.ensures ∙ c.in_default-kind_from.is);
      untouched = λ e. (refl, refl);
      unread = λ e. refl;
      ends = ([], turns-self _ (chunks_named (map string_bytes c.args.words.now)) (g.C.Store.told c.args.store));
      usage = (λ e. or_none _ _ none not_fill, λ no_words. refl);
      read = λ e. absurd (differ 1 3 refl e);
      steady = λ other. refl;
      write = λ e. absurd (differ 1 4 refl e);
      store = λ e. absurd (differ 1 6 refl e);
      ended = λ are. absurd (false≢true (sym none ∙ are));
      good = λ are. absurd (false≢true (sym none ∙ are));
      bad_line = each_input (g.S.Source.left c.args.source.now) (λ input e. absurd (differ 1 2 refl e));
      long = λ e. absurd (differ 1 7 refl e);
      long_only = λ are. absurd (false≢true (sym none ∙ are));
      codes = at_most_seven 1 refl;
      complete = λ are. absurd (false≢true (sym none ∙ are));
      complete_bad = λ are. absurd (false≢true (sym none ∙ are));
      fill = if_none (fill_words (map string_bytes c.args.words.now)) _ no_fill;
      fill_unread = λ yes. absurd (false≢true (sym not_fill ∙ yes));
      fill_codes = λ yes. absurd (false≢true (sym not_fill ∙ yes));
      complete_fill = λ yes. absurd (false≢true (sym not_fill ∙ yes));
    }

pub returns-in-Err-Memory : goal.returns-in-Err-Memory
returns-in-Err-Memory g c =
    let are = ap is_some (sym c.kind_from.ensures ∙ c.in-Some-kind_from.is) in
    let no_fill : fill_words (map string_bytes c.args.words.now) ≡ None = sym c.fill_from.ensures ∙ c.in_default.is in
    let not_fill = ap is_some no_fill in
    record {
      headline = at_kind (kind_of_words (map string_bytes c.args.words.now)) c.in-Some-kind_from.named _ (sym c.kind_from.ensures ∙ c.in-Some-kind_from.is) (each (g.C.Store.told c.args.store) (λ stored is. each_input (g.S.Source.left c.args.source.now) (λ input.
          let m = machine_of c.in-Some-kind_from.named in
          let rose : Type 0 = Rose (g.C.Store.faults c.args.store) (g.C.Store.faults c.args.store) in
          unchanged m stored input 5 rose (g.C.Store.told c.args.store) (g.K.Sink.text c.args.sink.now) (subst (λ left. Says m stored input 5 rose [] left) (sym is) (λ log own choices turns. says_unstarted m log choices input rose stored own)))));
      untouched = λ e. (refl, refl);
      unread = λ e. absurd (differ 5 1 refl e);
      ends = ([], turns-self _ (chunks_named (map string_bytes c.args.words.now)) (g.C.Store.told c.args.store));
      usage = (λ e. absurd (differ 5 1 refl e), λ none. absurd (false≢true (sym none ∙ or_left _ _ are)));
      read = λ e. absurd (differ 5 3 refl e);
      steady = λ other. c.in-Err-Memory.ensures.steady (λ e. absurd (cc e));
      write = λ e. absurd (differ 5 4 refl e);
      store = λ e. absurd (differ 5 6 refl e);
      ended = λ yes. no_four 5 0 2 4 6 refl refl refl refl;
      good = λ yes. each_input (g.S.Source.left c.args.source.now) (λ input e. absurd (differ 5 0 refl e));
      bad_line = each_input (g.S.Source.left c.args.source.now) (λ input e. absurd (differ 5 2 refl e));
      long = λ e. absurd (differ 5 7 refl e);
      long_only = λ yes. each_input (g.S.Source.left c.args.source.now) (λ input longer. inr (inr (inl refl)));
      codes = at_most_seven 5 refl;
      complete = λ yes. each_input (g.S.Source.left c.args.source.now) (λ input few good read write store. inr refl);
      complete_bad = λ yes. each_input (g.S.Source.left c.args.source.now) (λ input few n bad read write store. inr refl);
      fill = if_none (fill_words (map string_bytes c.args.words.now)) _ no_fill;
      fill_unread = λ yes. absurd (false≢true (sym not_fill ∙ yes));
      fill_codes = λ yes. absurd (false≢true (sym not_fill ∙ yes));
      complete_fill = λ yes. absurd (false≢true (sym not_fill ∙ yes));
    }

pub returns-in-Err-Failed : goal.returns-in-Err-Failed
returns-in-Err-Failed g c =
    let are = ap is_some (sym c.kind_from.ensures ∙ c.in-Some-kind_from.is) in
    let no_fill : fill_words (map string_bytes c.args.words.now) ≡ None = sym c.fill_from.ensures ∙ c.in_default.is in
    let not_fill = ap is_some no_fill in
    record {
      headline = at_kind (kind_of_words (map string_bytes c.args.words.now)) c.in-Some-kind_from.named _ (sym c.kind_from.ensures ∙ c.in-Some-kind_from.is) (each (g.C.Store.told c.args.store) (λ stored is. each_input (g.S.Source.left c.args.source.now) (λ input.
          let m = machine_of c.in-Some-kind_from.named in
          let rose : Type 0 = Rose (g.C.Store.faults c.args.store) (g.C.Store.faults c.args.store) in
          unchanged m stored input 3 rose (g.C.Store.told c.args.store) (g.K.Sink.text c.args.sink.now) (λ log own choices turns. says_nothing m log choices input rose 3 (g.C.Store.told c.args.store) (inr (inl refl))))));
      untouched = λ e. (refl, refl);
      unread = λ e. absurd (differ 3 1 refl e);
      ends = ([], turns-self _ (chunks_named (map string_bytes c.args.words.now)) (g.C.Store.told c.args.store));
      usage = (λ e. absurd (differ 3 1 refl e), λ none. absurd (false≢true (sym none ∙ or_left _ _ are)));
      read = λ e. c.in-Err-Failed.ensures.cause.failed (ap Err c.in-Err-Failed.field-0-is);
      steady = λ other. absurd (other refl);
      write = λ e. absurd (differ 3 4 refl e);
      store = λ e. absurd (differ 3 6 refl e);
      ended = λ yes. no_four 3 0 2 4 6 refl refl refl refl;
      good = λ yes. each_input (g.S.Source.left c.args.source.now) (λ input e. absurd (differ 3 0 refl e));
      bad_line = each_input (g.S.Source.left c.args.source.now) (λ input e. absurd (differ 3 2 refl e));
      long = λ e. absurd (differ 3 7 refl e);
      long_only = λ yes. each_input (g.S.Source.left c.args.source.now) (λ input longer. inr (inl refl));
      codes = at_most_seven 3 refl;
      complete = λ yes. each_input (g.S.Source.left c.args.source.now) (λ input few good read write store. absurd (read (c.in-Err-Failed.ensures.cause.failed (ap Err c.in-Err-Failed.field-0-is))));
      complete_bad = λ yes. each_input (g.S.Source.left c.args.source.now) (λ input few n bad read write store. absurd (read (c.in-Err-Failed.ensures.cause.failed (ap Err c.in-Err-Failed.field-0-is))));
      fill = if_none (fill_words (map string_bytes c.args.words.now)) _ no_fill;
      fill_unread = λ yes. absurd (false≢true (sym not_fill ∙ yes));
      fill_codes = λ yes. absurd (false≢true (sym not_fill ∙ yes));
      complete_fill = λ yes. absurd (false≢true (sym not_fill ∙ yes));
    }

pub returns-in-Err-TooLong : goal.returns-in-Err-TooLong
returns-in-Err-TooLong g c =
    let are = ap is_some (sym c.kind_from.ensures ∙ c.in-Some-kind_from.is) in
    let no_fill : fill_words (map string_bytes c.args.words.now) ≡ None = sym c.fill_from.ensures ∙ c.in_default.is in
    let not_fill = ap is_some no_fill in
    record {
      headline = at_kind (kind_of_words (map string_bytes c.args.words.now)) c.in-Some-kind_from.named _ (sym c.kind_from.ensures ∙ c.in-Some-kind_from.is) (each (g.C.Store.told c.args.store) (λ stored is. each_input (g.S.Source.left c.args.source.now) (λ input.
          let m = machine_of c.in-Some-kind_from.named in
          let rose : Type 0 = Rose (g.C.Store.faults c.args.store) (g.C.Store.faults c.args.store) in
          unchanged m stored input 7 rose (g.C.Store.told c.args.store) (g.K.Sink.text c.args.sink.now) (λ log own choices turns. says_nothing m log choices input rose 7 (g.C.Store.told c.args.store) (inr (inr refl))))));
      untouched = λ e. (refl, refl);
      unread = λ e. absurd (differ 7 1 refl e);
      ends = ([], turns-self _ (chunks_named (map string_bytes c.args.words.now)) (g.C.Store.told c.args.store));
      usage = (λ e. absurd (differ 7 1 refl e), λ none. absurd (false≢true (sym none ∙ or_left _ _ are)));
      read = λ e. absurd (differ 7 3 refl e);
      steady = λ other. c.in-Err-TooLong.ensures.steady (λ e. absurd (cc e));
      write = λ e. absurd (differ 7 4 refl e);
      store = λ e. absurd (differ 7 6 refl e);
      ended = λ yes. no_four 7 0 2 4 6 refl refl refl refl;
      good = λ yes. each_input (g.S.Source.left c.args.source.now) (λ input e. absurd (differ 7 0 refl e));
      bad_line = each_input (g.S.Source.left c.args.source.now) (λ input e. absurd (differ 7 2 refl e));
      long = λ e. c.in-Err-TooLong.ensures.long (ap Err c.in-Err-TooLong.field-0-is);
      long_only = λ yes. each_input (g.S.Source.left c.args.source.now) (λ input longer. inr (inr (inr refl)));
      codes = at_most_seven 7 refl;
      complete = λ yes. each_more (g.S.Source.left c.args.source.now) (c.in-Err-TooLong.ensures.long (ap Err c.in-Err-TooLong.field-0-is)) (λ input is longer few good read write store. absurd (not_both longer few));
      complete_bad = λ yes. each_more (g.S.Source.left c.args.source.now) (c.in-Err-TooLong.ensures.long (ap Err c.in-Err-TooLong.field-0-is)) (λ input is longer few n bad read write store. absurd (not_both longer few));
      fill = if_none (fill_words (map string_bytes c.args.words.now)) _ no_fill;
      fill_unread = λ yes. absurd (false≢true (sym not_fill ∙ yes));
      fill_codes = λ yes. absurd (false≢true (sym not_fill ∙ yes));
      complete_fill = λ yes. absurd (false≢true (sym not_fill ∙ yes));
    }

pub returns-in-Ok : goal.returns-in-Ok
returns-in-Ok g c =
    let are = ap is_some (sym c.kind_from.ensures ∙ c.in-Some-kind_from.is) in
    let no_fill : fill_words (map string_bytes c.args.words.now) ≡ None = sym c.fill_from.ensures ∙ c.in_default.is in
    let not_fill = ap is_some no_fill in
    record {
      headline =
          let m = machine_of c.in-Some-kind_from.named in
          let rose : Type 0 = Rose (g.C.Store.faults c.args.store) (g.C.Store.faults c.run.result.1) in
          at_kind (kind_of_words (map string_bytes c.args.words.now)) c.in-Some-kind_from.named _ (sym c.kind_from.ensures ∙ c.in-Some-kind_from.is) (both (g.C.Store.told c.args.store) (g.S.Source.left c.args.source.now) c.run.ensures.headline c.in-Ok.ensures.all (λ stored input served e.
          subst (λ i. IfSome (g.K.Sink.text c.args.sink.now) (λ before. (w : Bytes) × (g.K.Sink.text c.run.new.sink ≡ Some (before ++ w)) × Says m stored i c.run.result.0 rose w (g.C.Store.told c.run.result.1))) (c.deref.ensures.value ∙ e) served));
      untouched = served-not_early c.run.ensures.codes;
      unread = λ e. served-not_early c.run.ensures.codes (inl e);
      ends =
          let chosen = c.run.ensures.ends in
          subst (λ chunks. (choices : List ℕ) × Turns (g.C.Store.told c.args.store) (g.C.Store.told c.run.result.1) (HasEnds chunks (MayDestroy (map string_bytes c.args.words.now) (g.S.Source.left c.args.source.now)) choices))
          (sym (named-chunks (kind_of_words (map string_bytes c.args.words.now)) (fill_words (map string_bytes c.args.words.now)) c.in-Some-kind_from.named (sym c.kind_from.ensures ∙ c.in-Some-kind_from.is))) (
            chosen.0,
            turns-looser (chunks_of (machine_of c.in-Some-kind_from.named)) chosen.0 (g.C.Store.told c.args.store) (g.C.Store.told c.run.result.1)
                (λ among. inr (each_more (g.S.Source.left c.args.source.now) c.in-Ok.ensures.all (λ input is same. subst (λ i. Contains (commands_in i) Destroy) (c.deref.ensures.value ∙ same) among))) chosen.1,
          );
      usage = (λ e. served-not_early c.run.ensures.codes (inl e), λ none. absurd (false≢true (sym none ∙ or_left _ _ are)));
      read = λ e. served-not_early c.run.ensures.codes (inr (inl e));
      steady = λ other. c.in-Ok.ensures.steady (λ e. absurd (cc e));
      write = c.run.ensures.write;
      store = c.run.ensures.store;
      ended = λ yes e. c.in-Ok.ensures.end;
      good = λ yes. each_more (g.S.Source.left c.args.source.now) c.in-Ok.ensures.all (λ input is same e. subst (λ i. bad_in i ≡ None) (c.deref.ensures.value ∙ same) (c.run.ensures.good e));
      bad_line = each_more (g.S.Source.left c.args.source.now) c.in-Ok.ensures.all (λ input is same e. subst (λ i. IsSome (bad_in i)) (c.deref.ensures.value ∙ same) (c.run.ensures.bad e));
      long = λ e. served-not_early c.run.ensures.codes (inr (inr e));
      long_only = λ yes. each_more (g.S.Source.left c.args.source.now) c.in-Ok.ensures.all (λ input is same longer. absurd (not_both (subst (λ i. LIMIT < length i) (sym same) longer) c.in-Ok.ensures.short));
      codes = served-few c.run.ensures.codes;
      complete = λ yes. each_more (g.S.Source.left c.args.source.now) c.in-Ok.ensures.all (λ input is same few good read write store.
          served-good c.run.ensures.codes (λ e. subst (λ i. IsSome (bad_in i)) (c.deref.ensures.value ∙ same) (c.run.ensures.bad e)) (λ e. write (c.run.ensures.write e)) (λ e. store (c.run.ensures.store e)) good);
      complete_bad = λ yes. each_more (g.S.Source.left c.args.source.now) c.in-Ok.ensures.all (λ input is same few n bad read write store.
          served-bad c.run.ensures.codes n (λ e. subst (λ i. bad_in i ≡ None) (c.deref.ensures.value ∙ same) (c.run.ensures.good e)) (λ e. write (c.run.ensures.write e)) (λ e. store (c.run.ensures.store e)) bad);
      fill = if_none (fill_words (map string_bytes c.args.words.now)) _ no_fill;
      fill_unread = λ yes. absurd (false≢true (sym not_fill ∙ yes));
      fill_codes = λ yes. absurd (false≢true (sym not_fill ∙ yes));
      complete_fill = λ yes. absurd (false≢true (sym not_fill ∙ yes));
    }

pub returns-in-Some : goal.returns-in-Some
returns-in-Some g c =
    let words = map string_bytes c.args.words.now in
    let asked = c.in-Some.asked in
    let is : fill_words words ≡ Some asked = sym c.fill_from.ensures ∙ c.in-Some.is in
    let none : kind_of_words words ≡ None = not_run words asked is in
    let is_one = ap is_some is in
    let is_none = ap is_some none in
    let served = c.fill_by.ensures in
    record {
      headline = at_none (kind_of_words words) _ none;
      fill = if_some (fill_words words) asked _ is served.headline;
      untouched = served-not_early (filled-served served.statuses);
      unread = λ e. refl;
      fill_unread = λ yes. refl;
      ends = subst (λ chunks. (choices : List ℕ) × Turns (g.C.Store.told c.args.store) (g.C.Store.told c.fill_by.result.1) (HasEnds chunks (MayDestroy words (g.S.Source.left c.args.source.now)) choices))
          (sym (filled-chunks (kind_of_words words) (fill_words words) asked none is))
          (served.ends.0, turns-looser (chunks_of (machine_of asked.1)) served.ends.0 (g.C.Store.told c.args.store) (g.C.Store.told c.fill_by.result.1) (λ destroyed. inl is_one) served.ends.1);
      usage = (λ e. served-not_early (filled-served served.statuses) (inl e), λ no_words. absurd (false≢true (sym no_words ∙ or_right _ _ is_one)));
      read = λ e. served-not_early (filled-served served.statuses) (inr (inl e));
      steady = λ other. refl;
      write = served.write;
      store = served.store;
      ended = λ yes. absurd (false≢true (sym is_none ∙ yes));
      good = λ yes. absurd (false≢true (sym is_none ∙ yes));
      bad_line = each_input (g.S.Source.left c.args.source.now) (λ input e. filled-not_bad served.statuses e);
      long = λ e. served-not_early (filled-served served.statuses) (inr (inr e));
      long_only = λ yes. absurd (false≢true (sym is_none ∙ yes));
      codes = served-few (filled-served served.statuses);
      fill_codes = λ yes. served.statuses;
      complete = λ yes. absurd (false≢true (sym is_none ∙ yes));
      complete_bad = λ yes. absurd (false≢true (sym is_none ∙ yes));
      complete_fill = λ yes write store. filled-good served.statuses (λ e. write (served.write e)) (λ e. store (served.store e));
    }
