use Rattle.std.proofs.Common.{ap₂, Some}
use Rattle.std.specs.Prelude.{option_map}
use Rattle.std.specs.Option.{option_or}
use Rattle.std.specs.Map.{lookup}
use Rattle.std.specs.BTreeMap.{is_at}
use Rattle.std.specs.Ordering.{nat_cmp}
use Rattle.qm_workers.proofs.keys.Keys.new.Goals as goal

pub returns : goal.returns
returns g c = λ at.
    let bytes = g.K.ByteString.bytes in
    ap₂ (λ es o. option_or (option_map (option_map bytes) (lookup (is_at (nat_cmp at)) es)) (option_map Some (option_map bytes o))) c.new.ensures.empty (c.in_ok-cache.ensures at)
