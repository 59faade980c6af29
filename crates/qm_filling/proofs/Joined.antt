-- Parts of a fill, one behind the other.
use Rattle.std.proofs.Common.{◌≡◌, ◌⊎◌, inl, inr, ◌<◌, ◌+◌, ◌++◌, ℕ, suc, List, [], ◌∷◌, length, take, Option, Result, Ok, Err, arith, le_refl, refl, sym, ◌∙◌, ap, subst, append_assoc, length-append}
use Rattle.std.specs.Prelude.{◌≢◌, ⊤}
use Rattle.std.proofs.lemmas.List.{take-append-le}
use Rattle.std.proofs.Math.Seq.{take-append-add}
use Rattle.qm_model.specs.Operations.{Bytes}
use Rattle.qm_model.specs.Own.{Log}
use Rattle.qm_model.specs.StoreModel.{Stored}
use Rattle.qm_model.specs.Policies.{Policy, policies}
use Rattle.qm_model.specs.Batches.{Apart}
use Rattle.qm_model.specs.Schemes.{Scheme, chunks_of}
use Rattle.qm_machine.specs.Lines.{Line}
use Rattle.qm_machine.specs.Machine.{State, initial, turn, state_after}
use Rattle.qm_machine.proofs.Runs.{Apart-before}
use Rattle.qm_lines.specs.Policies.{rules_of}
use Rattle.qm_store.specs.declared.Store as stores
use Rattle.qm_store.specs.Given.{store_given}
use Rattle.qm_offer.specs.declared.meaning.Meaning as meaning
use Rattle.qm_engine.specs.declared.runs.End.{End}
use Rattle.qm_engine.specs.declared.runs.End.TheVariants as ends
use Rattle.qm_engine.specs.declared.session.Session.{Session}
use Rattle.qm_engine.specs.Runs.{IsOwnLeft}
use Rattle.qm_engine.specs.Parts.{IsBounded, Between, Chose}
use Rattle.qm_engine.proofs.LastingStores.{turns-self, turns-through}
use Rattle.qm_engine.proofs.Loops.{none-more, more-parts, Rose-wider}
use Rattle.qm_engine.proofs.Owned.{none-left, own-of}
use Rattle.qm_engine.proofs.Answerings.{end-memory_not_done, end-memory_not_fault, end-fault_not_done}
use Rattle.qm_fill.specs.Summary.{Counts, both, counts_of, exchanges}
use Rattle.qm_fill.proofs.Parts.{state_after-append, exchanges-append}
use Rattle.qm_fill.proofs.Counting.{counts_of-append, both-assoc, both-none}
use Rattle.qm_filling.specs.Filled.{Fills, IsFilled}
use Rattle.qm_filling.proofs.Crossed.{kept-defined}

-- the end that is told
abbrev stopped_by : {A : Type 0} → End → Result A End
stopped_by e = Err e

pub err-is : {A : Type 0} {e f : End} → stopped_by {A = A} e ≡ stopped_by f → e ≡ f
err-is e = cc

-- what longer runs keep apart, shorter ones do
pub apart-before : (m : Scheme) (s : State) (lines : List (Line Policy)) → Apart m.root (state_after m policies s lines).had → Apart m.root s.had
apart-before m s [] apart = apart
apart-before m s (line ∷ lines) apart = Apart-before m policies s line (apart-before m (turn m policies s line).1 lines apart)

pub ok-not_err : {A B : Type 0} {a : A} {e : B} → Ok a ≡ Err e → ⊥
ok-not_err e = cc

-- a run that ended for one of the others is not done
pub not-done : (e : End) → (e ≡ ends.Memory) ⊎ (e ≡ ends.StoreFault) → e ≢ ends.Done
not-done e (inl is) done = end-memory_not_done (sym is ∙ done)
not-done e (inr is) done = end-fault_not_done (sym is ∙ done)

memory-not_err_fault : {A : Type 0} → stopped_by {A = A} ends.Memory ≡ stopped_by ends.StoreFault → ⊥
memory-not_err_fault e = cc

module _ {X C B S M : Type 0} (members : stores.Ghosts C) (means : meaning.Ghosts X C B S M) where
  abbrev told : Session X C B S M → Option Stored
  told session = members.told (store_given means.inside session.held)

  abbrev At : Session X C B S M → List ℕ → State → Type 0
  At = Between members means rules_of

  -- of the choices over two parts, those of the first come first
  split : (old mid new : Session X C B S M) (first second more rest : List ℕ) (s : State) → Chose members means old mid first → Chose members means mid new second → Chose members means old new more
      → At old (more ++ rest) s → At old (first ++ (second ++ rest)) s
  split old mid new first second more rest s one two both_chose between =
      let has = between.stands.store.told in
      let parts = more-parts ⊤ ⊤ (chunks_of means.scheme) (told old) (told mid) (told new) has.stored first second more has.is one two both_chose in
      subst (λ xs. At old xs s) (ap (λ xs. xs ++ rest) parts ∙ append_assoc first second rest) between

  -- no part at all
  pub nothing : (session : Session X C B S M) (tally : Counts) → Fills members means [] session tally session (Ok tally)
  nothing session tally = record {
    all = λ s more rest chose between apart. (
      sym (both-none Policy tally),
      let has = between.stands.store.told in
          subst (λ xs. At session (xs ++ rest) s) (none-more (chunks_of means.scheme) (told session) (told session) has.stored more has.is refl chose) between,
    );
    counted = omega arith;
    stopped = tt;
    ends = ([], turns-self _ (chunks_of means.scheme) (told session));
    later = le_refl _;
    fault = λ e. absurd (ok-not_err e);
    opened = omega arith;
  }

  module _ (a b : List (Line Policy)) (old mid new : Session X C B S M) (tally : Counts) where
    -- a part that ended is the whole's end
    pub ended : (e : End) → Fills members means a old tally new (Err e) → Fills members means (a ++ b) old tally new (Err e)
    ended e part =
        let (not_done, (j, few, short, left)) = part.stopped in
        record {
          all = tt;
          counted = tt;
          stopped = (
            not_done,
            (
              j,
              omega (arith, few, length-append a b),
              λ is. omega (arith, short is, length-append a b),
              λ s more rest chose between bounded. subst (λ t. Apart means.scheme.root (state_after means.scheme policies s t).had
                  → (next : Log) → (j < length (a ++ b) → next ≡ (state_after means.scheme policies s (take (suc j) (a ++ b))).log) → IsOwnLeft means.scheme policies (told new) (state_after means.scheme policies s t).log next)
                  (sym (take-append-le j a b few))
                  (λ apart next is. left s more rest chose between bounded apart next (λ within.
                  is (omega (arith, within, length-append a b)) ∙ ap (λ t. (state_after means.scheme policies s t).log) (take-append-le (suc j) a b (omega (arith, within))))),
            ),
          );
          ends = part.ends;
          later = part.later;
          fault = part.fault;
          opened = omega (arith, part.opened, length-append a b);
        }

    -- memory was wanting after a part
    pub gave_up : (t : Counts) → Fills members means a old tally new (Ok t) → Fills members means (a ++ b) old tally new (Err ends.Memory)
    gave_up t part = record {
      all = tt;
      counted = tt;
      stopped = (
        end-memory_not_done,
        (
          length a,
          omega (arith, length-append a b),
          λ is. absurd (end-memory_not_fault is),
          λ s more rest chose between bounded. subst (λ t. Apart means.scheme.root (state_after means.scheme policies s t).had
              → (next : Log) → (length a < length (a ++ b) → next ≡ (state_after means.scheme policies s (take (suc (length a)) (a ++ b))).log) → IsOwnLeft means.scheme policies (told new) (state_after means.scheme policies s t).log next)
              (sym (take-append-le (length a) a b (le_refl (length a)) ∙ all_of a))
              (λ apart next is.
              let at_end = (part.all s more rest chose between apart).1 in
              none-left means.scheme policies (told new) (state_after means.scheme policies s a).log next at_end.stands.store.told (kept-defined means.scheme (state_after means.scheme policies s a).log at_end.sound.kept)),
        ),
      );
      ends = part.ends;
      later = part.later;
      fault = λ e. absurd (memory-not_err_fault e);
      opened = omega (arith, part.opened, length-append a b);
    }
      where
        all_of : (lines : List (Line Policy)) → take (length lines) lines ≡ lines
        all_of [] = refl
        all_of (line ∷ lines) = ap (λ rest. line ∷ rest) (all_of lines)

    -- two parts that were both counted, or of which the second ended
    pub joined : (t : Counts) (result : Result Counts End) → Fills members means a old tally mid (Ok t) → Fills members means b mid t new result → Fills members means (a ++ b) old tally new result
    joined t (Ok u) one two = record {
      all = λ s more rest chose between apart.
          let m = means.scheme in
          let middle : State = state_after m policies s a in
          let apart_all : Apart m.root (state_after m policies middle b).had = subst (λ (x : State). Apart m.root x.had) (state_after-append m policies s a b) apart in
          let first = one.all s one.ends.0 (two.ends.0 ++ rest) one.ends.1 (split old mid new one.ends.0 two.ends.0 more rest s one.ends.1 two.ends.1 chose between) (apart-before m middle b apart_all) in
          let second = two.all middle two.ends.0 rest two.ends.1 first.1 apart_all in (
            second.0 ∙ (ap (λ c. both c (counts_of (exchanges m policies middle b))) first.0
                ∙ (both-assoc tally (counts_of (exchanges m policies s a)) (counts_of (exchanges m policies middle b))
                ∙ ap (both tally) (sym (ap counts_of (exchanges-append m policies s a b) ∙ counts_of-append (exchanges m policies s a) (exchanges m policies middle b))))),
            subst (At new rest) (sym (state_after-append m policies s a b)) second.1,
          );
      counted = omega (arith, one.counted, two.counted, length-append a b);
      stopped = tt;
      ends = (one.ends.0 ++ two.ends.0, turns-through (chunks_of means.scheme) one.ends.0 two.ends.0 (told old) (told mid) (told new) (λ d. d) (λ d. d) one.ends.1 two.ends.1);
      later = omega (arith, one.later, two.later);
      fault = λ e. absurd (ok-not_err e);
      opened = omega (arith, one.opened, two.opened, length-append a b);
    }
    joined t (Err e) one two =
        let (not_done, (j, few, short, left)) = two.stopped in
        record {
          all = tt;
          counted = tt;
          stopped = (
            not_done,
            (
              length a + j,
              omega (arith, few, length-append a b),
              λ is. omega (arith, short is, length-append a b),
              λ s more rest chose between bounded.
                  let m = means.scheme in
                  let middle : State = state_after m policies s a in
                  let here : state_after m policies s (take (length a + j) (a ++ b)) ≡ state_after m policies middle (take j b) = ap (state_after m policies s) (take-append-add a b j) ∙ state_after-append m policies s a (take j b) in
                  subst (λ (x : State). Apart m.root x.had → (next : Log) → (length a + j < length (a ++ b) → next ≡ (state_after m policies s (take (suc (length a + j)) (a ++ b))).log) → IsOwnLeft m policies (told new) x.log next) (sym here)
                  (λ apart next is.
                  let first = one.all s one.ends.0 (two.ends.0 ++ rest) one.ends.1 (split old mid new one.ends.0 two.ends.0 more rest s one.ends.1 two.ends.1 chose between) (apart-before m middle (take j b) apart) in
                  left middle two.ends.0 rest two.ends.1 first.1 bounded apart next (λ within.
                  let count : suc (length a + j) ≡ length a + suc j = omega arith in
                  is (omega (arith, within, length-append a b))
                  ∙ ap (λ (x : State). x.log) (ap (λ n. state_after m policies s (take n (a ++ b))) count ∙ (ap (state_after m policies s) (take-append-add a b (suc j)) ∙ state_after-append m policies s a (take (suc j) b))))),
            ),
          );
          ends = (one.ends.0 ++ two.ends.0, turns-through (chunks_of means.scheme) one.ends.0 two.ends.0 (told old) (told mid) (told new) (λ d. d) (λ d. d) one.ends.1 two.ends.1);
          later = omega (arith, one.later, two.later);
          fault = λ is. Rose-wider _ _ _ _ one.later (two.fault is) (le_refl _);
          opened = omega (arith, one.opened, two.opened, length-append a b);
        }

  abbrev no_counts : Counts
  no_counts = record { commands = 0; refused = 0; shown = [] }

  abbrev made_counts : ℕ → Bytes → ℕ → Counts
  made_counts refused shown commands = record { commands = commands; refused = refused; shown = shown }

  both-first : (c : Counts) → both no_counts c ≡ c
  unfolding both
  both-first c =
      let commands : 0 + c.commands ≡ c.commands = omega arith in
      let refused : 0 + c.refused ≡ c.refused = omega arith in
      ap (made_counts (0 + c.refused) c.shown) commands ∙ ap (λ n. made_counts n c.shown c.commands) refused

  -- all parts, from the start of a run
  pub filled : (lines : List (Line Policy)) (old new : Session X C B S M) (result : Result Counts End) → Fills members means lines old (record { commands = 0; refused = 0; shown = [] }) new result
      → (log : Log) (choices : List ℕ) → Chose members means old new choices → At old (choices ++ []) (initial log choices) → IsBounded (told new) → IsFilled means.scheme log choices lines result (told new)
  filled lines old new (Ok t) part log choices chose between bounded =
      let m = means.scheme in
      record {
        all = λ apart. let at_end = part.all (initial log choices) choices [] chose between apart in (
          at_end.0 ∙ both-first (counts_of (exchanges m policies (initial log choices) lines)),
          own-of m policies (told new) _ (at_end.1).stands.store.told (kept-defined m (state_after m policies (initial log choices) lines).log (at_end.1).sound.kept),
        );
        stopped = tt;
      }
  filled lines old new (Err e) part log choices chose between bounded =
      let (not_done, (j, few, short, left)) = part.stopped in
      record { all = tt; stopped = (j, few, short, λ apart. left (initial log choices) choices [] chose between bounded apart _ (λ within. refl)) }
