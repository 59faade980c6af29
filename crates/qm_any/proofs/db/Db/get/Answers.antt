use Rattle.std.proofs.Common.{◌≡◌, ◌∙◌, ap, subst, map}
use Rattle.std.specs.Prelude.{option_map, IfOk}
use Rattle.qm_model.specs.Writes.{read_through}
use Rattle.qm_any.proofs.Reading.{itself-base}
use Rattle.qm_any.proofs.db.Db.get.Goals as goal

pub returns-clause-value : goal.returns-clause-value
returns-clause-value g c = λ list stands.
    let key = g.U.Key.ByteString.bytes in
    let value = g.U.Value.ByteString.bytes in
    let base = itself-base (map (λ l. l.value) c.deref.result.now) list (ap (map (λ l. l.value)) (c.deref.ensures.value ∙ c.new.ensures.items)) in
    subst (λ ws. IfOk c.read_one.result (λ v. option_map value v ≡ read_through list ws (key c.args.key.now))) c.new-writes.ensures
    (c.read_one.ensures.value list list stands base)
