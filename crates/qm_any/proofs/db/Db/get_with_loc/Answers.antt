use Rattle.std.proofs.Common.{◌∙◌, ap, map}
use Rattle.qm_any.proofs.Reading.{itself-base}
use Rattle.qm_any.proofs.db.Db.get_with_loc.Goals as goal

pub returns-clause-value : goal.returns-clause-value
returns-clause-value g c = λ list stands.
    c.find.ensures.value list list stands (itself-base (map (λ l. l.value) c.deref.result.now) list (ap (map (λ l. l.value)) (c.deref.ensures.value ∙ c.new.ensures.items)))
