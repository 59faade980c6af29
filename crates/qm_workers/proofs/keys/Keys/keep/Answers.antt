use Rattle.std.proofs.Common.{◌∙◌, ap, sym, inl, inr, ⊎_elim}
use Rattle.std.specs.Prelude.{option_map}
use Rattle.qm_build.specs.Cached.{given}
use Rattle.qm_workers.specs.Known.{given_by}
use Rattle.qm_workers.proofs.Knowing.{cache-put}
use Rattle.qm_workers.proofs.keys.Keys.keep.Goals as goal

pub returns-in-Some-cache-clause-cache : goal.returns-in-Some-cache-clause-cache
returns-in-Some-cache-clause-cache g c = λ at own is.
    let bytes = g.K.ByteString.bytes in
    ⊎_elim
    (λ old. inl (ap (λ o. option_map bytes (given_by o at)) c.in-Some-cache.is ∙ old))
    (λ new. inr (new.0, ap (option_map bytes) c.in-Some.is ∙ new.1))
    (cache-put bytes c.in-Some-cache.cache c.args.location c.in-Some.key at own (ap (λ k. option_map bytes (given k at)) (sym c.put.ensures) ∙ is))
