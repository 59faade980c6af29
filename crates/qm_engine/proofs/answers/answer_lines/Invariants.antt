use Rattle.std.proofs.Common.{◌≡◌, ◌≤◌, ◌+◌, ◌++◌, ℕ, List, Some, take, length}
use Rattle.std.specs.Prelude.{Contains, ⊤}
use Rattle.qm_model.specs.Batches.{Apart}
use Rattle.qm_model.specs.Policies.{policies}
use Rattle.qm_machine.specs.Grammar.{commands_in}
use Rattle.qm_model.specs.Own.{Log, IsOwn}
use Rattle.qm_model.specs.StoreModel.{Stored, Turns}
use Rattle.qm_machine.specs.Lines.{Destroy}
use Rattle.qm_machine.specs.Machine.{initial, answers}
use Rattle.qm_model.specs.Schemes.{chunks_of, engine_of}
use Rattle.qm_machine.specs.Text.{text_of}
use Rattle.qm_store.specs.Given.{store_given}
use Rattle.qm_lines.proofs.Inputs.{IsAt}
use Rattle.qm_engine.specs.Stores.{HasEnds}
use Rattle.qm_engine.specs.Runs.{after}
use Rattle.qm_engine.specs.Parts.{Between}
use Rattle.qm_engine.proofs.answers.answer_lines.Given as goal

abbrev pub invariant-loop-line : goal.invariant-loop-line
invariant-loop-line g l =
    record {
      at : IsAt l.input l.rest l.answered;
      room : l.answered + length l.rest ≤ length l.input;
      opened : l.session.opened ≤ l.answered;
      ends : (more : List ℕ) × Turns (g.C.Store.told l.fn.store) (g.C.Store.told (store_given g.X.Meaning.inside l.session.held)) (HasEnds (chunks_of g.X.Meaning.scheme) (Contains (commands_in l.input) Destroy) more);
      later : g.C.Store.faults l.fn.store ≤ g.C.Store.faults (store_given g.X.Meaning.inside l.session.held);
      machine : (stored : Stored) (log : Log) → g.C.Store.told l.fn.store ≡ Some stored → IsOwn (engine_of g.X.Meaning.scheme policies) log stored
          → (more rest : List ℕ) → Turns (g.C.Store.told l.fn.store) (g.C.Store.told (store_given g.X.Meaning.inside l.session.held)) (HasEnds (chunks_of g.X.Meaning.scheme) ⊤ more)
          → Apart g.X.Meaning.scheme.root (after g.X.Meaning.scheme policies log (more ++ rest) (commands_in l.input) l.answered).had
          → (l.text.items ≡ text_of (answers g.X.Meaning.scheme policies (initial log (more ++ rest)) (take l.answered (commands_in l.input))))
          × Between g.C.Store g.X.Meaning policies l.session rest (after g.X.Meaning.scheme policies log (more ++ rest) (commands_in l.input) l.answered);
    }

abbrev pub decreases-loop-line : goal.decreases-loop-line
decreases-loop-line g l = length l.rest
