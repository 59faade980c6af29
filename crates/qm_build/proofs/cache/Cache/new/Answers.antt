use Rattle.std.proofs.Common.{◌≡◌, ◌/◌, ◌∙◌, ap, ap₂, min}
use Rattle.std.specs.NonZero.{non_zero_usize_get}
use Rattle.std.proofs.lemmas.Result.{IfOk-from_err}
use Rattle.qm_build.specs.Cached.{ways_of}
use Rattle.qm_build.proofs.Caching.{empty-is, kept-none}
use Rattle.qm_build.proofs.cache.Cache.new.Goals as goal

pub returns : goal.returns
returns g c =
    let capacity = non_zero_usize_get c.args.capacity in
    let ways : c.min-ways.result ≡ ways_of capacity = c.min-ways.ensures ∙ ap (min 16) c.get.ensures.value in
    empty-is capacity c.min-ways.result (c.get-2.result / c.min-ways.result) c.in_ok-slots.slots.items ways (ap₂ (λ n m. n / m) c.get-2.ensures.value ways) (kept-none c.in_ok-slots.slots.items c.in_ok-slots.ensures.none)

pub returns-in_err-slots : goal.returns-in_err-slots
returns-in_err-slots g c = IfOk-from_err c.from_residual.result _ c.from_residual.ensures.0
