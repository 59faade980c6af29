use Rattle.std.proofs.Common.{◌≡◌, ℕ, suc, ◌+◌, ◌-◌, ◌/◌, ◌^◌, ◌<◌, ◌≤◌, false, arith, ap, ap₂, sym, ◌∙◌, ◌≢◌}
use Rattle.std.specs.Prelude.{◌==◌, if◌then◌else◌}
use Rattle.std.proofs.lemmas.Bool.Decides.{nat_tests}
use Rattle.std.proofs.lemmas.Nat.{pow_pos}
use Rattle.qm_model.specs.Trees.{leaf}
use Rattle.qm_model.specs.Mmr.{v2}
use Rattle.qm_model.proofs.MmrFamily.{zeros-enough}
use Rattle.qm_model.proofs.MmbFamily.{merges}
use Rattle.qm_merkle.proofs.MmrCalls.{within_place}
use lib.Count.{count_trailing_zeros}
use Rattle.qm_merkle.proofs.mmb.FamilyFamily.born.Goals as goal

differs : (n : ℕ) → n ≢ 0 → (n == 0) ≡ false
differs n some = grind (arith, nat_tests)

zeros : (n m : ℕ) → n ≡ m → m < 2 ^ 62 → count_trailing_zeros 64 (n + 2) + 1 ≡ suc (v2 (m + 2))
zeros n m is lt = ap (λ k. count_trailing_zeros 64 (k + 2) + 1) is ∙ omega (arith, zeros-enough 64 (m + 2) (omega arith) (omega arith))

pub overflow_shr-next : goal.overflow_shr-next
overflow_shr-next c =
    let location = c.args.location in
    let more = merges location (omega (arith, c.requires.number, c.if-number-eq0.false)) in
    let low : 2 ^ v2 (location + 2) ≤ 2 ^ 62 = omega (arith, more.1.splits, c.requires.leaf, pow_pos (v2 (location + 2))) in
    omega (arith, zeros c.get-next.result location c.get-next.ensures c.requires.leaf, within_place (v2 (location + 2)) low)

pub overflow_sub-next : goal.overflow_sub-next
overflow_sub-next c =
    let location = c.args.location in
    let more = merges location (omega (arith, c.requires.number, c.if-number-eq0.false)) in
    omega (arith, ap₂ (λ n k. (n + 2) / 2 ^ k) c.get-next.ensures (zeros c.get-next.result location c.get-next.ensures c.requires.leaf) ∙ more.1.whole)

pub returns : goal.returns
returns c =
    let location = c.args.location in
    c.new-2.ensures
    ∙ ap₂ (λ (n k : ℕ). record { height = k; index = (n + 2) / 2 ^ k - 1 }) c.get-next.ensures (zeros c.get-next.result location c.get-next.ensures c.requires.leaf)
    ∙ ap (λ t. if t then leaf location else record { height = suc (v2 (location + 2)); index = (location + 2) / 2 ^ suc (v2 (location + 2)) - 1 }) (sym (differs c.args.number c.if-number-eq0.false))
