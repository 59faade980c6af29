use Rattle.std.proofs.Common.{◌≡◌, ◌∙◌, ap, subst, map}
use Rattle.std.specs.Prelude.{option_map, IfOk}
use Rattle.qm_model.specs.Writes.{read_through}
use Rattle.qm_any.proofs.Reading.{itself-base}
use Rattle.qm_any.proofs.db.Db.get_many.Goals as goal

pub returns-clause-values : goal.returns-clause-values
returns-clause-values g c = λ list stands.
    let key = g.U.Key.ByteString.bytes in
    let value = g.U.Value.ByteString.bytes in
    let base = itself-base (map (λ l. l.value) c.deref.result.now) list (ap (map (λ l. l.value)) (c.deref.ensures.value ∙ c.new.ensures.items)) in
    subst (λ ws. IfOk c.read_all.result (λ v. map (option_map value) v.items ≡ map (λ k. read_through list ws (key k)) c.args.keys.now)) c.new-writes.ensures
    (c.read_all.ensures.values list list stands base)
