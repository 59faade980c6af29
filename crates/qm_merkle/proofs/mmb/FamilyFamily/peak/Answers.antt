use Rattle.std.proofs.Common.{◌≡◌, suc, ◌+◌, ◌-◌, ◌<◌, ap, ap₂, sym, ◌∙◌, arith, Some}
use Rattle.qm_model.specs.Mmb.{log}
use Rattle.qm_model.proofs.MmbPeaks.{peak_at, length-peaks, peak-number, some_above}
use Rattle.qm_merkle.proofs.mmb.FamilyFamily.peak.Goals as goal

pub overflow_sub-log-2 : goal.overflow_sub-log-2
overflow_sub-log-2 c =
    let same : c.log.result ≡ log (c.args.leaves + 1) = c.log.ensures.exact ∙ ap (λ n. log (n + 1)) c.get-next.ensures in
    omega (arith, length-peaks c.args.leaves, c.requires.number, same)

pub peak_at-requires-clause-some : goal.peak_at-requires-clause-some
peak_at-requires-clause-some c =
    let same : c.log.result ≡ log (c.args.leaves + 1) = c.log.ensures.exact ∙ ap (λ n. log (n + 1)) c.get-next.ensures in
    let some : 0 < c.log.result = omega (arith, length-peaks c.args.leaves, c.requires.number, same) in
    some_above (c.get-next.result + 1) (suc (c.log.result - 1 - c.args.number)) (omega arith) (omega (arith, some, c.log.ensures.exact))

pub returns : goal.returns
returns c =
    let same : c.log.result ≡ log (c.args.leaves + 1) = c.log.ensures.exact ∙ ap (λ n. log (n + 1)) c.get-next.ensures in
    peak-number c.args.leaves c.args.number c.requires.number
    ∙ sym (ap Some (c.peak_at.ensures ∙ ap₂ (λ l n. peak_at (l - 1 - c.args.number) (n + 1)) same c.get-next.ensures))
