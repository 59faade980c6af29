-- Worked boundaries, computed. Expected values are those of an independent model.
use Rattle.std.specs.Prelude.{◌≡◌, refl}
use Rattle.qm_model.specs.Mmr.{mmr}
use Rattle.qm_model.specs.Mmb.{mmb}
use Rattle.qm_model.specs.Grafted.{sync_boundary}

-- one key written in 266 batches: floor 797 of 799 operations, with chunks of 32 bytes
one_key : sync_boundary mmr 8 797 799 ≡ 768
one_key = refl

one_key_delayed : sync_boundary mmb 8 797 799 ≡ 512
one_key_delayed = refl
