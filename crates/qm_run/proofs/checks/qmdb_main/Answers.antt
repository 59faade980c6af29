-- A check calls no store; of other words its clauses say nothing.
use Rattle.std.proofs.Common.{◌≡◌, ap, sym, subst, ◌∙◌, refl, [], map, ⊎_elim}
use Rattle.std.specs.Prelude.{is_some}
use Rattle.std.specs.String.{string_bytes}
use Rattle.std.proofs.lemmas.Bool.{false≢true}
use Rattle.qm_engine.proofs.LastingStores.{turns-self}
use Rattle.qm_run.specs.Program.{check_words, kind_of_words, fill_words, chunks_named}
use Rattle.qm_run.proofs.Sayings.{at_none, if_none, if_there, or_none, or_right, or_first, there, not_there, no_other, checked-numbers}
use Rattle.qm_run.proofs.checks.qmdb_main.Goals as goal

pub returns-then-is_check : goal.returns-then-is_check
returns-then-is_check g c =
    let words = map string_bytes c.args.words.now in
    let yes = sym c.is_check.ensures ∙ c.if-is_check.true in
    let asked = there (check_words words) yes in
    let none = no_other words asked.0 asked.1 in
    let not_run = ap is_some none.0 in
    let not_fill = ap is_some none.1 in
    let checked = if_there (check_words words) asked.0 _ asked.1 c.check.ensures.checked in
    let few = checked-numbers checked.statuses in
    record {
      headline = at_none (kind_of_words words) _ none.0;
      fill = if_none (fill_words words) _ none.1;
      check = c.check.ensures.checked;
      check_store = λ yes. refl;
      untouched = ⊎_elim (λ one. absurd (few.1 one)) (λ early. (refl, c.check.ensures.untouched early));
      unread = λ one. absurd (few.1 one);
      fill_unread = λ are. absurd (false≢true (sym not_fill ∙ are));
      ends = ([], turns-self _ (chunks_named words) (g.C.Store.told c.args.store));
      usage = (λ one. absurd (few.1 one), λ no. absurd (false≢true (sym no ∙ or_right _ _ yes)));
      read = checked.read;
      steady = c.check.ensures.steady;
      write = checked.write;
      store = λ six. absurd (few.2 six);
      ended = λ are. absurd (false≢true (sym not_run ∙ are));
      good = λ are. absurd (false≢true (sym not_run ∙ are));
      bad_line = λ no. absurd (false≢true (sym no ∙ yes));
      long = checked.long;
      long_only = λ are. absurd (false≢true (sym not_run ∙ are));
      codes = few.0;
      fill_codes = λ are. absurd (false≢true (sym not_fill ∙ are));
      complete = λ are. absurd (false≢true (sym not_run ∙ are));
      complete_bad = λ are. absurd (false≢true (sym not_run ∙ are));
      complete_fill = λ are. absurd (false≢true (sym not_fill ∙ are));
    }

pub returns : goal.returns
returns g c =
    let words = map string_bytes c.args.words.now in
    let no = sym c.is_check.ensures ∙ c.if-is_check.false in
    let done = c.run_or_fill.ensures in
    record {
      headline = done.headline;
      fill = done.fill;
      check = if_none (check_words words) _ (not_there (check_words words) no);
      check_store = λ yes. absurd (false≢true (sym no ∙ yes));
      untouched = done.untouched;
      unread = done.unread;
      fill_unread = done.fill_unread;
      ends = done.ends;
      usage = (λ one. or_none _ _ (done.usage.0 one) no, λ none. done.usage.1 (or_first _ _ none));
      read = done.read;
      steady = done.steady;
      write = done.write;
      store = done.store;
      ended = done.ended;
      good = done.good;
      bad_line = λ other. done.bad_line;
      long = done.long;
      long_only = done.long_only;
      codes = done.codes;
      fill_codes = done.fill_codes;
      complete = done.complete;
      complete_bad = done.complete_bad;
      complete_fill = done.complete_fill;
    }
