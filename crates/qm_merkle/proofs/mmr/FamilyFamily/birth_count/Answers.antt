use Rattle.std.proofs.Common.{◌≡◌, suc, ◌+◌, ap, ◌∙◌, arith}
use Rattle.qm_model.proofs.MmrFamily.{zeros-enough}
use lib.Count.{count_trailing_zeros}
use Rattle.qm_merkle.proofs.mmr.FamilyFamily.birth_count.Goals as goal

pub returns : goal.returns
returns c =
    let next : c.get.result + 1 ≡ suc c.args.location = omega arith in
    ap (λ m. count_trailing_zeros 64 m + 1) next ∙ omega (arith, zeros-enough 64 (suc c.args.location) (omega arith) (omega arith))
