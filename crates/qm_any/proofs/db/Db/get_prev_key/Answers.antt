use Rattle.std.proofs.Common.{◌∙◌, ap, map}
use Rattle.qm_any.proofs.Reading.{itself-base}
use Rattle.qm_any.proofs.db.Db.get_prev_key.Goals as goal

pub returns-clause-value : goal.returns-clause-value
returns-clause-value g c = λ list stands.
    let base = itself-base (map (λ l. l.value) c.deref.result.now) list (ap (map (λ l. l.value)) (c.deref.ensures.value ∙ c.new.ensures.items)) in
    c.previous_over.ensures.value list list stands base (stands.ring c.requires)
