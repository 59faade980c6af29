use Rattle.std.proofs.Common.{◌≡◌, List, Some, map, take}
use Rattle.std.specs.Prelude.{All}
use Rattle.qm_model.specs.Keys.{contains_key}
use Rattle.qm_model.specs.Operations.{Bytes, Operation}
use Rattle.qm_step.specs.Changes.{update_of}
use Rattle.qm_step.specs.Moves.{has_key}
use Rattle.qm_step.specs.OrderedViews.{ordered_update}
use Rattle.qm_step.specs.Views.{read_view}
use Rattle.qm_step.proofs.moves.by_key.Given as goal

abbrev pub invariant-loop-one : goal.invariant-loop-one
invariant-loop-one g l =
    let key = g.K.ByteString.bytes in
    let view = read_view (ordered_update key g.V.Value.ByteString.bytes) in
    record {
      has : (x : Bytes) → has_key l.all x ≡ contains_key (map (λ f. key f.1.key) (take l.one-index l.found)) x;
      stand : (list : List Operation) → All (λ f. update_of list (key f.1.key) ≡ Some (view f)) l.found → All (λ e. update_of list e.0.now ≡ Some (view e.1.now)) l.all.entries;
    }
