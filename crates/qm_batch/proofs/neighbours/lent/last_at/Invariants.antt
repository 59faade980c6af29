use Rattle.std.proofs.Common.{◌≡◌, take, map, List, None}
use Rattle.std.specs.Prelude.{All, IfSome, fold, option_map}
use Rattle.qm_model.specs.Forms.{IsOf, spelling}
use Rattle.qm_model.specs.Operations.{Operation}
use Rattle.qm_base.specs.Reads.{KeepsItems}
use Rattle.qm_step.specs.Nearest.{later_at, limit_view}
use Rattle.qm_step.specs.Views.{read_view}
use Rattle.qm_batch.proofs.neighbours.lent.last_at.Given as goal

abbrev pub invariant-loop-location : goal.invariant-loop-location
invariant-loop-location g l = record {
  read : KeepsItems g.L.Items.reads l.initial.log l.log;
  value : (list : List Operation) → g.L.Items.reads.logged l.initial.log (map (spelling g.U.Update.form) list) → All (IsOf g.U.Update.form) list →
      IfSome (g.L.Items.reads.told l.initial.log) (λ _. option_map (read_view g.U.Update.view) l.last ≡ fold (later_at (limit_view l.limit) list) None (take l.location-index l.locations));
}
