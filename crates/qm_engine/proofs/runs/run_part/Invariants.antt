use Rattle.std.proofs.Common.{◌≡◌, ◌≤◌, ◌+◌, ℕ, List, ◌++◌, map, take, length}
use Rattle.std.specs.Prelude.{Contains}
use Rattle.qm_model.specs.Batches.{Apart}
use Rattle.qm_model.specs.StoreModel.{Turns}
use Rattle.qm_machine.specs.Lines.{Destroy}
use Rattle.qm_machine.specs.Machine.{State, answers, state_after}
use Rattle.qm_model.specs.Schemes.{chunks_of}
use Rattle.qm_lines.specs.Views.{line_view, answer_view}
use Rattle.qm_store.specs.Given.{store_given}
use Rattle.qm_engine.specs.Stores.{HasEnds}
use Rattle.qm_engine.specs.Parts.{Between, Chose}
use Rattle.qm_engine.proofs.runs.run_part.Given as goal

abbrev pub invariant-loop-command : goal.invariant-loop-command
invariant-loop-command g l =
    record {
      count : length l.replies.items ≡ l.command-index;
      opened : l.session.opened ≤ l.fn.session.opened + l.command-index;
      ends : (more : List ℕ) × Turns (g.C.Store.told (store_given g.X.Meaning.inside l.fn.session.held)) (g.C.Store.told (store_given g.X.Meaning.inside l.session.held)) (HasEnds (chunks_of g.X.Meaning.scheme) (Contains (map (line_view g.X.Key.ByteString.bytes g.X.Value.ByteString.bytes (λ p. p)) l.commands) Destroy) more);
      later : g.C.Store.faults (store_given g.X.Meaning.inside l.fn.session.held) ≤ g.C.Store.faults (store_given g.X.Meaning.inside l.session.held);
      machine : (s : State) (more rest : List ℕ) → Chose g.C.Store g.X.Meaning l.fn.session l.session more → Between g.C.Store g.X.Meaning g.P.Policy.rules l.fn.session (more ++ rest) s
          → Apart g.X.Meaning.scheme.root (state_after g.X.Meaning.scheme g.P.Policy.rules s (take l.command-index (map (line_view g.X.Key.ByteString.bytes g.X.Value.ByteString.bytes (λ p. p)) l.commands))).had
          → (map (answer_view g.X.Key.ByteString.bytes g.X.Value.ByteString.bytes g.X.Digest.Digest.bytes) l.replies.items ≡ answers g.X.Meaning.scheme g.P.Policy.rules s (take l.command-index (map (line_view g.X.Key.ByteString.bytes g.X.Value.ByteString.bytes (λ p. p)) l.commands)))
          × Between g.C.Store g.X.Meaning g.P.Policy.rules l.session rest (state_after g.X.Meaning.scheme g.P.Policy.rules s (take l.command-index (map (line_view g.X.Key.ByteString.bytes g.X.Value.ByteString.bytes (λ p. p)) l.commands)));
    }
