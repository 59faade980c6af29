use Rattle.std.proofs.Common.{ap, ◌∙◌, suc}
use Rattle.qm_index.specs.Translated.{capped}
use Rattle.qm_index.specs.Monotone.{capped-cons}
use Rattle.qm_index.proofs.translator.first.Goals as goal

pub returns-in-Some-clause-split : goal.returns-in-Some-clause-split
returns-in-Some-clause-split c = λ n. ap (λ bytes. capped (suc n) bytes) c.in-Some.ensures.cases.0 ∙ capped-cons _ _ n
