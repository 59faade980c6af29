use Rattle.std.proofs.Common.{◌∙◌, ◌++◌, ◌∷◌, [], ℕ, Vec, Global, ap, sym, subst, arith, map}
use Rattle.std.proofs.lemmas.List.{length-map, map-append}
use Rattle.qm_step.specs.Views.{write_view}
use Rattle.qm_step.specs.Written.{ArePlaces}
use Rattle.qm_step.proofs.WritesByKey.{places-more}
use Rattle.std.proofs.lemmas.Result.{err_from_is_err_and}
use Rattle.qm_batch.proofs.writes.Writes.push.Goals as goal

pub invariant_of-result : goal.invariant_of-result
invariant_of-result g c =
    let view = write_view g.K.ByteString.bytes g.V.ByteString.bytes in
    let list = (c.self.inside.list).items in
    let counted = c.len.ensures in
    let same = length-map list view in
    let ok = (c.self.inside.list).ok in
    subst (ArePlaces (λ (v : Vec ℕ Global). v.items) c.insert.new.self.entries) (sym (ap (map view) c.in_ok-push.ensures.items ∙ map-append view list (_ ∷ [])))
    (places-more (λ (v : Vec ℕ Global). v.items) (c.self.inside.places).entries c.insert.new.self.entries (map view list) _ c.in_ok-bytes.bytes c.len.result c.self.invariant c.in_ok-bytes.ensures
    (omega (arith, counted, same, ok)) c.in_ok-insert.ensures.entries)

pub returns-in_err-bytes : goal.returns-in_err-bytes
returns-in_err-bytes g c =
    let exit = err_from_is_err_and c.from_residual.result c.from_residual.ensures.1 in
    rw exit.1 tt

pub returns-in_err-insert : goal.returns-in_err-insert
returns-in_err-insert g c =
    let exit = err_from_is_err_and c.from_residual-in_err-insert.result c.from_residual-in_err-insert.ensures.1 in
    rw exit.1 tt

pub returns-in_err-push : goal.returns-in_err-push
returns-in_err-push g c =
    let exit = err_from_is_err_and c.from_residual-in_err-push.result c.from_residual-in_err-push.ensures.1 in
    rw exit.1 tt

pub returns : goal.returns
returns g c =
    let view = write_view g.K.ByteString.bytes g.V.ByteString.bytes in
    ap (map view) c.in_ok-push.ensures.items ∙ map-append view (c.self.inside.list).items (_ ∷ []) ∙ ap (λ ws. ws ++ view (record { key = c.args.key; value = c.args.value }) ∷ []) c.self.view_is
