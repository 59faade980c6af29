use Rattle.std.proofs.Common.{◌≡◌, ◌∙◌, ◌||◌, ap, true}
use Rattle.std.proofs.lemmas.Result.{on_ok_weaker}
use Rattle.qm_model.specs.Operations.{Bytes}
use Rattle.qm_step.specs.Moves.{has_key}
use Rattle.qm_step.proofs.MovesLoops.{named-one}
use Rattle.qm_step.proofs.MovesMaps.{has-put, all-more}
use Rattle.qm_step.proofs.moves.add_named.Goals as goal

pub returns-in-Some : goal.returns-in-Some
returns-in-Some g c = record {
  has = on_ok_weaker c.put.result (λ put x.
      has-put c.args.keys.now c.put.new.map c.as_bytes.result.now tt put x
      ∙ ap (λ t. has_key c.args.keys.now x || t) (named-one g.K.ByteString.bytes c.args.one.now.next c.in-Some.next c.as_bytes.result.now x c.in-Some.is c.as_bytes.ensures.value)) c.put.ensures.updates;
  known = on_ok_weaker c.put.result (λ put. all-more (λ (k : Bytes) (v : Unit {0}). g.K.ByteString.has k ≡ true) c.args.keys.now.entries c.put.new.map.entries c.as_bytes.result tt put c.as_bytes.ensures.known) c.put.ensures.entries;
}
