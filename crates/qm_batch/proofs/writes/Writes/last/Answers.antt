use Rattle.std.proofs.Common.{◌∙◌, ℕ, Vec, Global, ap, sym, map}
use Rattle.std.specs.Prelude.{slice_get, option_and_then}
use Rattle.std.specs.Option.{option_copied}
use Rattle.qm_model.specs.Writes.{last_writes, write_of}
use Rattle.qm_step.specs.Views.{write_view}
use Rattle.qm_batch.proofs.PlanFinds.{got, got-shown}
use Rattle.qm_step.proofs.WritesByKey.{place-read}
use Rattle.qm_batch.proofs.writes.Writes.last.Goals as goal

pub returns-in-Some : goal.returns-in-Some
returns-in-Some g c =
    let view = write_view g.K.ByteString.bytes g.V.ByteString.bytes in
    let ws = map view (c.self.inside.list).items in
    let at = c.in-Some.place.now in
    got-shown view c.get-in-Some.result c.deref.result.now at (got c.get-in-Some.result c.deref.result.now at c.get-in-Some.ensures.lookup)
    ∙ ap (λ items. slice_get (map view items) at) c.deref.ensures.value
    ∙ ap (λ o. option_and_then (slice_get ws) (option_copied o)) (sym c.in-Some.is)
    ∙ place-read (λ (v : Vec ℕ Global). v.items) (c.self.inside.places).entries ws c.args.key.now (option_copied c.get.result) c.self.invariant c.get.ensures.value
    ∙ ap (λ ws. write_of (last_writes ws) c.args.key.now) c.self.view_is

pub returns-in-None : goal.returns-in-None
returns-in-None g c =
    let view = write_view g.K.ByteString.bytes g.V.ByteString.bytes in
    let ws = map view (c.self.inside.list).items in
    ap (λ o. option_and_then (slice_get ws) (option_copied o)) (sym c.in-None.is)
    ∙ place-read (λ (v : Vec ℕ Global). v.items) (c.self.inside.places).entries ws c.args.key.now (option_copied c.get.result) c.self.invariant c.get.ensures.value
    ∙ ap (λ ws. write_of (last_writes ws) c.args.key.now) c.self.view_is
