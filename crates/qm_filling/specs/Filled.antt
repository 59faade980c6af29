-- What a fill comes to, and what its parts do.
use Rattle.std.specs.Prelude.{◌≡◌, ◌≢◌, ◌≤◌, ◌<◌, ◌+◌, ◌++◌, ℕ, suc, List, length, take, Option, Result, Err, IfOk, IfErr}
use Rattle.qm_model.specs.Causes.{Rose}
use Rattle.qm_model.specs.Own.{Log}
use Rattle.qm_model.specs.StoreModel.{Stored}
use Rattle.qm_model.specs.Policies.{Policy, policies}
use Rattle.qm_model.specs.Batches.{Apart}
use Rattle.qm_model.specs.Schemes.{Scheme}
use Rattle.qm_machine.specs.Lines.{Line}
use Rattle.qm_machine.specs.Machine.{State, initial, state_after}
use Rattle.qm_lines.specs.Policies.{rules_of}
use Rattle.qm_store.specs.declared.Store as store
use Rattle.qm_store.specs.Given.{store_given}
use Rattle.qm_offer.specs.declared.meaning.Meaning as meaning
use Rattle.qm_engine.specs.declared.runs.End.{End}
use Rattle.qm_engine.specs.declared.runs.End.TheVariants.{Done, StoreFault}
use Rattle.qm_engine.specs.declared.session.Session.{Session}
use Rattle.qm_engine.specs.Runs.{after, IsOwnStore, IsOwnLeft}
use Rattle.qm_engine.specs.Parts.{IsBounded, Between, Chose}
use Rattle.qm_fill.specs.Summary.{Counts, both, counts_of, exchanges}

-- After the first commands of a part, so many, what is told is an own store with what may be left of the machine's log by the next
-- command, whichever comes next if these are all, if the lists of that very run are apart.
abbrev pub IsLeftAfter : Scheme → State → List (Line Policy) → Option Stored → ℕ → Type 0
IsLeftAfter m s lines told j =
    Apart m.root (state_after m policies s (take j lines)).had → (next : Log) → (j < length lines → next ≡ (state_after m policies s (take (suc j) lines)).log) → IsOwnLeft m policies told (state_after m policies s (take j lines)).log next

-- A part of a fill with these commands, from counts of the commands before it, came to its counts, or to the end for which not all commands were
-- answered and counted.
module _ {X C B S M : Type 0} (members : store.Ghosts C) (means : meaning.Ghosts X C B S M) where
  pub record Fills (lines : List (Line Policy)) (old : Session X C B S M) (tally : Counts) (new : Session X C B S M) (result : Result Counts End) : Type 0 where
    -- from each state of the machine for which the session stands: the counts of the machine's answers, and the session stands for the next state
    pub all : IfOk result (λ t. (s : State) (more rest : List ℕ) → Chose members means old new more → Between members means rules_of old (more ++ rest) s → Apart means.scheme.root (state_after means.scheme policies s lines).had
        → (t ≡ both tally (counts_of (exchanges means.scheme policies s lines))) × Between members means rules_of new rest (state_after means.scheme policies s lines))
    pub counted : IfOk result (λ t. t.commands ≡ tally.commands + length lines)
    -- so many commands were answered
    pub stopped : IfErr result (λ e. (e ≢ Done) × ((j : ℕ) × (j ≤ length lines) × (e ≡ StoreFault → j < length lines)
        × ((s : State) (more rest : List ℕ) → Chose members means old new more → Between members means rules_of old (more ++ rest) s → IsBounded (members.told (store_given means.inside new.held)) → IsLeftAfter means.scheme s lines (members.told (store_given means.inside new.held)) j)))
    pub ends : (more : List ℕ) × Chose members means old new more
    pub later : members.faults (store_given means.inside old.held) ≤ members.faults (store_given means.inside new.held)
    pub fault : result ≡ Err StoreFault → Rose (members.faults (store_given means.inside old.held)) (members.faults (store_given means.inside new.held))
    pub opened : new.opened ≤ old.opened + length lines

-- Over a store of this log, which chose these ends, a run of these commands came to the counts of the machine's answers, and left its store; or so
-- many commands were answered before its end, and its store has what may be left by the next one, if the lists of that very run are apart.
pub record IsFilled (m : Scheme) (log : Log) (choices : List ℕ) (lines : List (Line Policy)) (result : Result Counts End) (store_left : Option Stored) : Type 0 where
  pub all : IfOk result (λ t. Apart m.root (state_after m policies (initial log choices) lines).had
      → (t ≡ counts_of (exchanges m policies (initial log choices) lines)) × IsOwnStore m policies store_left (state_after m policies (initial log choices) lines).log)
  pub stopped : IfErr result (λ e. (k : ℕ) × (k ≤ length lines) × (e ≡ StoreFault → k < length lines)
      × (Apart m.root (after m policies log choices lines k).had → IsOwnLeft m policies store_left (after m policies log choices lines k).log (after m policies log choices lines (suc k)).log))
