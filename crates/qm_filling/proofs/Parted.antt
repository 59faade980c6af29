-- One part of a fill, by what a part of a run came to.
use Rattle.std.proofs.Common.{◌≡◌, ◌≤◌, ◌<◌, ◌+◌, ◌++◌, ℕ, zero, suc, List, [], ◌∷◌, length, map, take, Option, Ok, arith, refl, sym, ◌∙◌, ap, subst, append-nil, append_assoc, length-append, ◌*◌}
use Rattle.std.specs.List.{zip}
use Rattle.std.proofs.lemmas.List.{length-map, take_all}
use Rattle.qm_model.specs.Operations.{Bytes}
use Rattle.qm_model.specs.StoreModel.{Stored}
use Rattle.qm_model.specs.Policies.{Policy, policies}
use Rattle.qm_model.specs.Batches.{Apart}
use Rattle.qm_model.specs.Schemes.{Scheme}
use Rattle.qm_machine.specs.Lines.{Line, Answer}
use Rattle.qm_machine.specs.Machine.{State, turn, answers, state_after}
use Rattle.qm_lines.specs.declared.command.Command.{Command}
use Rattle.qm_lines.specs.declared.policy.AnyPolicy.{AnyPolicy}
use Rattle.qm_lines.specs.Policies.{rules_of}
use Rattle.qm_lines.specs.Parsed.{byte_line}
use Rattle.qm_engine.specs.Runs.{IsOwnLeft}
use Rattle.qm_engine.specs.Parts.{IsBounded, IsPart, Between, Chose}
use Rattle.qm_engine.proofs.Answerings.{own_line, same_turn}
use Rattle.qm_fill.specs.Commands.{round, rounds, ending, commands}
use Rattle.qm_fill.specs.Summary.{Counts, both, counts_of, exchanges}
use Rattle.qm_fill.proofs.Parts.{rounds-more}
use Rattle.qm_fill.proofs.Sizes.{length-commands}
use Rattle.qm_store.specs.declared.Store as stores
use Rattle.qm_store.specs.Given.{store_given}
use Rattle.qm_offer.specs.declared.meaning.Meaning as meaning
use Rattle.qm_engine.specs.declared.session.Session.{Session}
use Rattle.qm_filling.specs.Filled.{IsLeftAfter, Fills}
use Rattle.qm_filling.proofs.Crossed.{left-defined, same_answers, same_state}
use Rattle.qm_filling.proofs.Joined.{ok-not_err}

module _ (m : Scheme) where
  -- the first commands of a part leave the same state
  pub same_state_at : (s : State) (n : ℕ) (cs : List (Command Bytes Bytes AnyPolicy)) → state_after m rules_of s (take n (map own_line cs)) ≡ state_after m policies s (take n (map byte_line cs))
  same_state_at s zero cs = refl
  same_state_at s (suc n) [] = refl
  same_state_at s (suc n) (c ∷ cs) = ap (λ (t : Answer × State). state_after m rules_of t.1 (take n (map own_line cs))) (same_turn m s c) ∙ same_state_at (turn m policies s (byte_line c)).1 n cs

  module _ (s : State) (cs : List (Command Bytes Bytes AnyPolicy)) (given : List Answer) (left : Option Stored) (part : IsPart m rules_of s (map own_line cs) given left) where
    -- all commands were answered
    pub all_given : length given ≡ length cs → Apart m.root (state_after m policies s (map byte_line cs)).had → zip (map byte_line cs) given ≡ exchanges m policies s (map byte_line cs)
    all_given all apart =
        let whole : take (length given) (map own_line cs) ≡ map own_line cs = take_all (length given) (map own_line cs) (omega (arith, all, length-map cs own_line)) in
        let whole_defined : take (length given) (map byte_line cs) ≡ map byte_line cs = take_all (length given) (map byte_line cs) (omega (arith, all, length-map cs byte_line)) in
        let here : state_after m rules_of s (take (length given) (map own_line cs)) ≡ state_after m policies s (map byte_line cs) = same_state_at s (length given) cs ∙ ap (state_after m policies s) whole_defined in
        ap (zip (map byte_line cs)) (part.same (subst (λ (x : State). Apart m.root x.had) (sym here) apart) ∙ (ap (answers m rules_of s) whole ∙ same_answers m s cs))

    -- not all were
    pub some_given : IsBounded left → length given < length cs → IsLeftAfter m s (map byte_line cs) left (length given)
    some_given bounded short apart next is =
        let now = same_state_at s (length given) cs in
        let after = same_state_at s (suc (length given)) cs in
        let is_left = part.left bounded (subst (λ (x : State). Apart m.root x.had) (sym now) apart) in
        let within : length given < length (map byte_line cs) = omega (arith, short, length-map cs byte_line) in
        left-defined m left _ next (subst (λ log. IsOwnLeft m rules_of left (state_after m policies s (take (length given) (map byte_line cs))).log log) (ap (λ (x : State). x.log) after ∙ sym (is within))
        (subst (λ (x : State). IsOwnLeft m rules_of left x.log (state_after m rules_of s (take (suc (length given)) (map own_line cs))).log) now is_left))

-- as many exchanges as commands
length-zipped : {A B : Type 0} (xs : List A) (ys : List B) → length ys ≡ length xs → length (zip xs ys) ≡ length xs
length-zipped [] ys same = refl
length-zipped (x ∷ xs) [] same = absurd (omega (arith, same))
length-zipped (x ∷ xs) (y ∷ ys) same = ap suc (length-zipped xs ys (omega (arith, same)))

pub counted-commands : (cs : List (Command Bytes Bytes AnyPolicy)) (given : List Answer) (tally : Counts) → length given ≡ length cs
    → (both tally (counts_of (zip (map byte_line cs) given))).commands ≡ tally.commands + length (map byte_line cs)
unfolding both counts_of
counted-commands cs given tally same = ap (λ n. tally.commands + n) (length-zipped (map byte_line cs) given (same ∙ sym (length-map cs byte_line)))

-- all commands were answered and counted
pub part_counted : {X C B S M : Type 0} (members : stores.Ghosts C) (means : meaning.Ghosts X C B S M) (cs : List (Command Bytes Bytes AnyPolicy)) (given : List Answer) (old new : Session X C B S M) (tally : Counts)
    → ((s : State) (more rest : List ℕ) → Chose members means old new more → Between members means rules_of old (more ++ rest) s → IsPart means.scheme rules_of s (map own_line cs) given (members.told (store_given means.inside new.held)))
    → ((s : State) (more rest : List ℕ) → Chose members means old new more → Between members means rules_of old (more ++ rest) s → Apart means.scheme.root (state_after means.scheme rules_of s (map own_line cs)).had
    → Between members means rules_of new rest (state_after means.scheme rules_of s (map own_line cs)))
    → length given ≡ length cs → (more : List ℕ) × Chose members means old new more → members.faults (store_given means.inside old.held) ≤ members.faults (store_given means.inside new.held) → new.opened ≤ old.opened + length cs
    → Fills members means (map byte_line cs) old tally new (Ok (both tally (counts_of (zip (map byte_line cs) given))))
part_counted members means cs given old new tally machine onward done ends later opened =
    let m = means.scheme in
    record {
      all = λ s more rest chose between apart. (
        ap (λ es. both tally (counts_of es)) (all_given m s cs given _ (machine s more rest chose between) done apart),
        subst (Between members means rules_of new rest) (same_state m s cs) (onward s more rest chose between (subst (λ (x : State). Apart m.root x.had) (sym (same_state m s cs)) apart)),
      );
      counted = counted-commands cs given tally done;
      stopped = tt;
      ends = ends;
      later = later;
      fault = λ e. absurd (ok-not_err e);
      opened = omega (arith, opened, length-map cs byte_line);
    }

-- the rounds behind the first ones
pub rounds-rest : (seed i k : ℕ) → (rest : List (Line Policy)) × (rounds seed (i + k) ≡ rounds seed i ++ rest)
rounds-rest seed i zero = let e : i + 0 ≡ i = omega arith in ([], ap (rounds seed) e ∙ sym (append-nil (rounds seed i)))
rounds-rest seed i (suc k) =
    let e : i + suc k ≡ i + k + 1 = omega arith in
    let more = rounds-rest seed i k in
    (more.0 ++ round seed (i + k + 1), ap (rounds seed) e ∙ (rounds-more seed (i + k) ∙ (ap (λ ls. ls ++ round seed (i + k + 1)) more.1 ∙ append_assoc (rounds seed i) more.0 (round seed (i + k + 1)))))

-- rounds have twelve commands at most
pub rounds-length : (seed n : ℕ) → length (rounds seed n) ≤ 12 * n
rounds-length seed n =
    let parts : length (commands seed n) ≡ 1 + (length (rounds seed n) + 6) = ap suc (length-append (rounds seed n) ending) ∙ omega arith in
    omega (arith, parts, length-commands seed n)

pub round-length : (seed n : ℕ) → length (rounds seed n) + length (round seed (n + 1)) ≤ 12 * (n + 1)
round-length seed n = omega (arith, rounds-length seed (n + 1), ap length (rounds-more seed n) ∙ length-append (rounds seed n) (round seed (n + 1)))
