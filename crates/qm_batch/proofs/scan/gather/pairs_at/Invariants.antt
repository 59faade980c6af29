use Rattle.std.proofs.Common.{◌≡◌, take, map, List, []}
use Rattle.std.specs.Prelude.{All, IfSome, fold}
use Rattle.qm_model.specs.Forms.{IsOf, spelling}
use Rattle.qm_model.specs.Operations.{Operation}
use Rattle.qm_base.specs.Reads.{KeepsItems}
use Rattle.qm_step.specs.Nearest.{limit_view}
use Rattle.qm_base.specs.Views.{pair_view}
use Rattle.qm_batch.specs.Gathered.{put_at}
use Rattle.qm_batch.proofs.scan.gather.pairs_at.Given as goal

abbrev pub invariant-loop-location : goal.invariant-loop-location
invariant-loop-location g l =
    let form = g.U.Update.form in
    record {
      read : KeepsItems g.L.Items.reads l.initial.log l.log;
      value : (list : List Operation) → g.L.Items.reads.logged l.initial.log (map (spelling form) list) → All (IsOf form) list →
          IfSome (g.L.Items.reads.told l.initial.log)
          (λ _. map (pair_view g.U.Key.ByteString.bytes g.U.Value.ByteString.bytes) l.pairs.items ≡ fold (put_at (limit_view l.low) (limit_view l.high) list) [] (take l.location-index l.locations));
    }
