-- What each status of a fill says, from what its run came to.
use Rattle.std.proofs.Common.{◌≡◌, ◌⊎◌, ℕ, zero, suc, List, [], ◌++◌, take, Option, Some, None, Result, Ok, Err, IfSome, arith, refl, sym, ap, subst, inl, inr, append-nil, le_refl}
use Rattle.std.specs.Prelude.{⊤}
use Rattle.std.proofs.lemmas.List.{take_all}
use Rattle.qm_model.specs.Causes.{Rose, Grows, GrowsPart}
use Rattle.qm_model.specs.Operations.{Bytes}
use Rattle.qm_model.specs.Own.{Log, IsOwn}
use Rattle.qm_model.specs.StoreModel.{Stored, Turns}
use Rattle.qm_model.specs.Policies.{policies}
use Rattle.qm_model.specs.Batches.{Apart}
use Rattle.qm_model.specs.Schemes.{Scheme, chunks_of, engine_of}
use Rattle.qm_machine.specs.Machine.{State, initial, state_after}
use Rattle.qm_engine.specs.declared.runs.End.{End}
use Rattle.qm_engine.specs.declared.runs.End.TheVariants.{Done, Memory, StoreFault}
use Rattle.qm_engine.specs.Stores.{HasEnds}
use Rattle.qm_engine.specs.Runs.{after, IsOwnStore}
use Rattle.qm_engine.proofs.Loops.{log-of}
use Rattle.qm_engine.proofs.Owned.{none-left}
use Rattle.qm_fill.specs.declared.words.Fill.{Fill}
use Rattle.qm_fill.specs.Commands.{commands}
use Rattle.qm_fill.specs.Summary.{Counts, summary_text}
use Rattle.qm_filling.specs.Filled.{IsFilled}
use Rattle.qm_filling.specs.Says.{filled_text, filled_status, count, state, IsApart, model_text, IsLeftAt, SaysFilled, Says, IsServed}

take_none : (n : ℕ) → take {A = ℕ} n [] ≡ []
take_none zero = refl
take_none (suc n) = refl

module _ (m : Scheme) (fill : Fill) (log : Log) (choices : List ℕ) (rose : Type 0) (left : Option Stored) where
  abbrev all_state : State
  all_state = state_after m policies (initial log choices) (commands fill.seed fill.rounds)

  at_all : state m fill log choices (count m fill log choices) ≡ all_state
  at_all = ap (state_after m policies (initial log choices)) (take_all (count m fill log choices) (commands fill.seed fill.rounds) (le_refl _))

  -- all commands were answered
  finished : (counts : Counts) → IsFilled m log choices (commands fill.seed fill.rounds) (Ok counts) left → IsApart m fill log choices (count m fill log choices)
      → (summary_text counts ≡ model_text m fill log choices) × IsOwnStore m policies left (state m fill log choices (count m fill log choices)).log
  finished counts filled apart =
      let at_end = filled.all (subst (λ (x : State). Apart m.root x.had) at_all apart) in
      (ap summary_text at_end.0, subst (λ (x : State). IsOwnStore m policies left x.log) (sym at_all) at_end.1)

  -- what its own store may have left by a command that is not there
  whole_left : (counts : Counts) → IsFilled m log choices (commands fill.seed fill.rounds) (Ok counts) left → IsApart m fill log choices (count m fill log choices) → IsLeftAt m fill log choices left (count m fill log choices)
  whole_left counts filled apart =
      let own = (finished counts filled apart).1 in
      let here : Log = (state m fill log choices (count m fill log choices)).log in
      none-left m policies left here _ (log-of m policies left own.stored here own.is own.own) own.own.kept

  -- a status for a part of the text
  pub says_part : (counted : Result Counts End) → IsFilled m log choices (commands fill.seed fill.rounds) counted left → (counted ≡ Err StoreFault → rose) → (status : ℕ) → (status ≡ 4) ⊎ (status ≡ 5) → (n : ℕ)
      → SaysFilled m fill log choices status rose (take n (filled_text counted)) left
  says_part (Ok counts) filled failed status h n = record {
    all = λ e. absurd (grind (arith, h, e));
    fault = λ e. absurd (grind (arith, h, e));
    part = λ _. (count m fill log choices, le_refl _, inr (λ apart. (n, ap (take n) (finished counts filled apart).0)), whole_left counts filled);
  }
  says_part (Err StoreFault) filled failed status h n = record {
    all = λ e. absurd (grind (arith, h, e));
    fault = λ e. absurd (grind (arith, h, e));
    part = λ _. let (k, few, short, is_left) = filled.stopped in (k, few, inl (failed refl, short refl, (n, refl)), is_left);
  }
  says_part (Err Memory) filled failed status h n = record {
    all = λ e. absurd (grind (arith, h, e));
    fault = λ e. absurd (grind (arith, h, e));
    part = λ _. let (k, few, short, is_left) = filled.stopped in (k, few, inr (λ apart. (0, take_none n)), is_left);
  }
  says_part (Err Done) filled failed status h n = record {
    all = λ e. absurd (grind (arith, h, e));
    fault = λ e. absurd (grind (arith, h, e));
    part = λ _. let (k, few, short, is_left) = filled.stopped in (k, few, inr (λ apart. (0, take_none n)), is_left);
  }

  -- nothing was written
  pub says_unwritten : (counted : Result Counts End) → IsFilled m log choices (commands fill.seed fill.rounds) counted left → (counted ≡ Err StoreFault → rose) → SaysFilled m fill log choices 5 rose [] left
  says_unwritten counted filled failed = says_part counted filled failed 5 (inr refl) 0

  -- the whole text was
  pub says_whole : (counted : Result Counts End) → IsFilled m log choices (commands fill.seed fill.rounds) counted left → (counted ≡ Err StoreFault → rose)
      → SaysFilled m fill log choices (filled_status counted) rose (filled_text counted) left
  says_whole (Ok counts) filled failed = record { all = λ _ apart. finished counts filled apart; fault = λ e. absurd (omega arith); part = λ e. absurd (grind (arith, e)) }
  says_whole (Err StoreFault) filled failed = record {
    all = λ e. absurd (omega arith);
    fault = λ _. let (k, few, short, is_left) = filled.stopped in (refl, (k, short refl, is_left));
    part = λ e. absurd (grind (arith, e));
  }
  says_whole (Err Memory) filled failed = says_unwritten (Err Memory) filled failed
  says_whole (Err Done) filled failed = says_unwritten (Err Done) filled failed

-- What a sink tells, and what is said of it.
module _ (P : Bytes → Type 0) where
  abbrev pub Told : Option Bytes → Option Bytes → Type 0
  Told old new = IfSome old (λ before. (more : Bytes) × (new ≡ Some (before ++ more)) × P more)

  pub unchanged : (text : Option Bytes) → P [] → Told text text
  unchanged None says = tt
  unchanged (Some before) says = ([], ap Some (sym (append-nil before)), says)

  pub grown : (old new : Option Bytes) (text : Bytes) → Grows old new text → P text → Told old new
  grown None new text g says = tt
  grown (Some before) new text g says = (text, g, says)

  pub grown_part : (old new : Option Bytes) (text : Bytes) → GrowsPart old new text → ((n : ℕ) → P (take n text)) → Told old new
  grown_part None new text g says = tt
  grown_part (Some before) new text g says = (take g.0 text, g.1, says g.0)

-- the status of a text that was written
pub of_status : (counted : Result Counts End) → (filled_status counted ≡ 0) ⊎ ((filled_status counted ≡ 4) ⊎ ((filled_status counted ≡ 5) ⊎ (filled_status counted ≡ 6)))
of_status (Ok counts) = inl refl
of_status (Err Done) = inr (inr (inl refl))
of_status (Err Memory) = inr (inr (inl refl))
of_status (Err StoreFault) = inr (inr (inr refl))

pub never_sunk : {P : Type 0} (counted : Result Counts End) → filled_status counted ≡ 4 → P
never_sunk (Ok counts) e = absurd (omega arith)
never_sunk (Err Done) e = absurd (omega arith)
never_sunk (Err Memory) e = absurd (omega arith)
never_sunk (Err StoreFault) e = absurd (omega arith)

pub failed_store : (counted : Result Counts End) → filled_status counted ≡ 6 → counted ≡ Err StoreFault
failed_store (Ok counts) e = absurd (omega arith)
failed_store (Err Done) e = absurd (omega arith)
failed_store (Err Memory) e = absurd (omega arith)
failed_store (Err StoreFault) e = refl

each_more : {A : Type 0} (o : Option A) {P Q : A → Type 0} → IfSome o P → ((x : A) → o ≡ Some x → P x → Q x) → IfSome o Q
each_more None p h = tt
each_more (Some x) p h = h x refl p

-- what a run came to, over the store that is told
module _ (m : Scheme) (fill : Fill) (counted : Result Counts End) (told left : Option Stored) (faults later : ℕ)
    (machine : IfSome told (λ stored. (log : Log) → IsOwn (engine_of m policies) log stored → (choices : List ℕ) → Turns told left (HasEnds (chunks_of m) ⊤ choices) → IsFilled m log choices (commands fill.seed fill.rounds) counted left))
    (failed : counted ≡ Err StoreFault → Rose faults later) (ends : (choices : List ℕ) × Turns told left (HasEnds (chunks_of m) ⊤ choices)) (sunk : ℕ) where
  pub served_whole : (old new : Option Bytes) (after : ℕ) → Grows old new (filled_text counted) → IsServed m fill (filled_status counted) told left faults later old new sunk after
  served_whole old new after written = record {
    headline = each_more told machine (λ stored is filled. grown (λ more. Says m fill stored (filled_status counted) (Rose faults later) more left) old new (filled_text counted) written
        (λ log own choices turns. says_whole m fill log choices (Rose faults later) left counted (filled log own choices (subst (λ o. Turns o left (HasEnds (chunks_of m) ⊤ choices)) (sym is) turns)) failed));
    ends = ends;
    statuses = of_status counted;
    write = λ e. never_sunk counted e;
    store = λ e. failed (failed_store counted e);
  }

  pub served_part : (old new : Option Bytes) (after status : ℕ) → (status ≡ 4) ⊎ (status ≡ 5) → (status ≡ 4 → Rose sunk after) → GrowsPart old new (filled_text counted) → IsServed m fill status told left faults later old new sunk after
  served_part old new after status which rose written = record {
    headline = each_more told machine (λ stored is filled. grown_part (λ more. Says m fill stored status (Rose faults later) more left) old new (filled_text counted) written
        (λ n log own choices turns. says_part m fill log choices (Rose faults later) left counted (filled log own choices (subst (λ o. Turns o left (HasEnds (chunks_of m) ⊤ choices)) (sym is) turns)) failed status which n));
    ends = ends;
    statuses = among which;
    write = rose;
    store = λ e. absurd (grind (arith, which, e));
  }
    where
      among : (status ≡ 4) ⊎ (status ≡ 5) → (status ≡ 0) ⊎ ((status ≡ 4) ⊎ ((status ≡ 5) ⊎ (status ≡ 6)))
      among (inl e) = inr (inl e)
      among (inr e) = inr (inr (inl e))

  pub served_nothing : (text : Option Bytes) → IsServed m fill 5 told left faults later text text sunk sunk
  served_nothing text = record {
    headline = each_more told machine (λ stored is filled. unchanged (λ more. Says m fill stored 5 (Rose faults later) more left) text
        (λ log own choices turns. says_unwritten m fill log choices (Rose faults later) left counted (filled log own choices (subst (λ o. Turns o left (HasEnds (chunks_of m) ⊤ choices)) (sym is) turns)) failed));
    ends = ends;
    statuses = inr (inr (inl refl));
    write = λ e. absurd (omega arith);
    store = λ e. absurd (omega arith);
  }
