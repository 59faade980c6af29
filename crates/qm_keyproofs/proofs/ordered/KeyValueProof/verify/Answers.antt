use Rattle.std.proofs.Common.{ap, ⊎_elim, inl, inr}
use Rattle.std.specs.Prelude.{option_map}
use Rattle.qm_model.specs.Live.{Live}
use Rattle.qm_keyproofs.proofs.ordered.KeyValueProof.verify.Goals as goal

pub returns-clause-speaks : goal.returns-clause-speaks
returns-clause-speaks g c = λ ops few fit is yes_is.
    ⊎_elim (λ says. inl (ap (option_map (λ (e : Live). e.value)) says)) (λ clash. inr clash) (c.shows_update.ensures.speaks ops few fit is yes_is)
