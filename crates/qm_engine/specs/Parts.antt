-- A part of a run: some of its commands, from where an earlier part left it.
use Rattle.std.specs.Prelude.{◌≡◌, ◌≤◌, ℕ, suc, List, length, take, Option, IfSome, ⊤}
use Rattle.qm_model.specs.StoreModel.{Stored, Turns, end_of}
use Rattle.qm_model.specs.Walk.{Rules}
use Rattle.qm_model.specs.Batches.{Apart}
use Rattle.qm_model.specs.Schemes.{Scheme, chunks_of}
use Rattle.qm_machine.specs.Lines.{Line, Answer}
use Rattle.qm_machine.specs.Machine.{State, answers, state_after}
use Rattle.qm_machine.specs.Sound.{IsSound}
use Rattle.qm_store.specs.declared.Store as store
use Rattle.qm_store.specs.Given.{store_given}
use Rattle.qm_offer.specs.declared.meaning.Meaning as meaning
use Rattle.qm_engine.specs.declared.session.Session.{Session}
use Rattle.qm_engine.specs.Session.{Stands}
use Rattle.qm_engine.specs.Stores.{HasEnds}
use Rattle.qm_engine.specs.Runs.{IsOwnLeft}

-- what is stable of a store are items that it has
abbrev pub IsBounded : Option Stored → Type 0
IsBounded told = IfSome told (λ s. s.stable ≤ end_of s)

-- Between two commands of a sound run: what is held stands for the state, which is sound, and these are its choices to come.
pub record Between {X C B S M P : Type 0} (members : store.Ghosts C) (means : meaning.Ghosts X C B S M) (rules : Rules P) (session : Session X C B S M) (rest : List ℕ) (s : State) : Type 0 where
  pub stands : Stands members means session s
  pub sound : IsSound means.scheme rules s
  pub choices : s.choices ≡ rest

-- from the one session to the other, restarts of the store chose these ends
abbrev pub Chose : {X C B S M : Type 0} → store.Ghosts C → meaning.Ghosts X C B S M → Session X C B S M → Session X C B S M → List ℕ → Type 0
Chose members means old new more = Turns (members.told (store_given means.inside old.held)) (members.told (store_given means.inside new.held)) (HasEnds (chunks_of means.scheme) ⊤ more)

-- A part of a run, from this state on, gave the machine's answers to as many of its first commands, and its store has what may be left
-- by the next command, if the lists of that very run are apart.
pub record IsPart (m : Scheme) {P : Type 0} (rules : Rules P) (s : State) (lines : List (Line P)) (given : List Answer) (store_left : Option Stored) : Type 0 where
  pub few : length given ≤ length lines
  pub same : Apart m.root (state_after m rules s (take (length given) lines)).had → given ≡ answers m rules s (take (length given) lines)
  pub left : IsBounded store_left → Apart m.root (state_after m rules s (take (length given) lines)).had → IsOwnLeft m rules store_left (state_after m rules s (take (length given) lines)).log (state_after m rules s (take (suc (length given)) lines)).log
