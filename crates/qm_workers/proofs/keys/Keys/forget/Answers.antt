use Rattle.std.proofs.Common.{◌∙◌, ap, sym, inl}
use Rattle.std.specs.Prelude.{option_map}
use Rattle.qm_build.specs.Cached.{given}
use Rattle.qm_workers.specs.Known.{given_by}
use Rattle.qm_workers.proofs.Knowing.{hint-removed, cache-removed}
use Rattle.qm_workers.proofs.keys.Keys.forget.Goals as goal

pub returns-in-Some : goal.returns-in-Some
returns-in-Some g c =
    let bytes = g.K.ByteString.bytes in record {
      hints = hint-removed bytes c.args.self.now.hints c.remove.new.self c.args.location c.remove.ensures.updates;
      cache = λ at key is.
          let was = cache-removed bytes c.in-Some.cache c.args.location at key (ap (λ k. option_map bytes (given k at)) (sym c.remove-in-Some.ensures) ∙ is) in
          inl (ap (λ o. option_map bytes (given_by o at)) c.in-Some.is ∙ was);
    }
