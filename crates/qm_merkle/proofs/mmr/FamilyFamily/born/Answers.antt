use Rattle.std.proofs.Common.{◌≡◌, suc, ◌+◌, ◌-◌, ◌/◌, ◌^◌, ap, ◌∙◌, arith}
use Rattle.qm_merkle.proofs.MmrCalls.{born_within}
use Rattle.qm_merkle.proofs.mmr.FamilyFamily.born.Goals as goal

pub overflow_shr-get : goal.overflow_shr-get
overflow_shr-get c = (born_within c.args.location c.args.number c.requires.leaf c.requires.number).0

pub overflow_sub-get : goal.overflow_sub-get
overflow_sub-get c =
    let next : c.get.result + 1 ≡ suc c.args.location = omega arith in
    omega (arith, (born_within c.args.location c.args.number c.requires.leaf c.requires.number).1, ap (λ m. m / 2 ^ c.args.number) next)

pub returns : goal.returns
returns c =
    let next : c.get.result + 1 ≡ suc c.args.location = omega arith in
    c.new.ensures ∙ ap (λ m. record { height = c.args.number; index = m / 2 ^ c.args.number - 1 }) next
