use Rattle.std.proofs.Common.{◌≡◌, ◌∙◌, ◌&&◌, ap₂, sym, Bool, true}
use Rattle.std.specs.Prelude.{bytes_eq, not}
use Rattle.qm_model.specs.Operations.{Bytes}
use Rattle.qm_step.specs.Moves.{has_key}
use Rattle.qm_step.proofs.MovesLoops.{none-is}
use Rattle.qm_step.proofs.MovesMaps.{has-taken, all-fewer}
use Rattle.qm_step.proofs.moves.drop_gone.Goals as goal

pub returns-then-is_none : goal.returns-then-is_none
returns-then-is_none g c = record {
  has = λ x.
      has-taken c.args.keys.now c.remove.new.self c.as_bytes.result.now c.remove.ensures.updates x
      ∙ ap₂ (λ (t : Bool) (b : Bytes). has_key c.args.keys.now x && not (t && bytes_eq b x)) (sym (none-is c.args.one.now.value c.is_none.result c.is_none.ensures c.if-is_none.true)) c.as_bytes.ensures.value;
  known = all-fewer (λ (k : Bytes) (v : Unit {0}). g.K.ByteString.has k ≡ true) c.args.keys.now.entries c.remove.new.self.entries _ c.remove.ensures.entries;
}
