use Rattle.std.proofs.Common.{◌≡◌, ◌&&◌, true, map, take}
use Rattle.std.specs.Prelude.{All, filter, filter_map, is_none, not, option_map}
use Rattle.qm_model.specs.Keys.{contains_key}
use Rattle.qm_model.specs.Operations.{Bytes}
use Rattle.qm_step.specs.Moves.{has_key}
use Rattle.qm_step.proofs.moves.named.Given as goal

abbrev pub invariant-loop-one : goal.invariant-loop-one
invariant-loop-one g l = record {
  has : (x : Bytes) → has_key l.keys x
      ≡ (contains_key (filter_map (λ d. option_map g.K.ByteString.bytes d.next) l.decided) x && not (contains_key (map (λ d. g.K.ByteString.bytes d.key) (filter (λ d. is_none d.value) (take l.one-index l.decided))) x));
  known : All (λ e. g.K.ByteString.has e.0.now ≡ true) l.keys.entries;
}
