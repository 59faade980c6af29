use Rattle.std.proofs.Common.{◌≡◌, true, take}
use Rattle.std.specs.Prelude.{All, filter_map, option_map}
use Rattle.qm_model.specs.Keys.{contains_key}
use Rattle.qm_model.specs.Operations.{Bytes}
use Rattle.qm_step.specs.Moves.{has_key}
use Rattle.qm_step.proofs.moves.all_named.Given as goal

abbrev pub invariant-loop-one : goal.invariant-loop-one
invariant-loop-one g l = record {
  has : (x : Bytes) → has_key l.keys x ≡ contains_key (filter_map (λ d. option_map g.K.ByteString.bytes d.next) (take l.one-index l.decided)) x;
  known : All (λ e. g.K.ByteString.has e.0.now ≡ true) l.keys.entries;
}
