use Rattle.std.proofs.Common.{◌≡◌, ◌∙◌, ◌<◌, length, get_or, ap, sym, arith}
use Rattle.std.specs.List.{remove}
use Rattle.qm_memory.specs.Changes.{place_of, put_over}
use Rattle.qm_memory.proofs.Changes.{others-removed, others-absent, place-within, putting-over}
use Rattle.qm_memory.proofs.metadata.take_out.Goals as goal

pub returns-then-place-len-clause-rest : goal.returns-then-place-len-clause-rest
returns-then-place-len-clause-rest c =
    let place : c.place_of-place.result ≡ place_of c.args.name.now c.args.metadata.now.items = rw (← c.deref.ensures.value) c.place_of-place.ensures in
    sym (others-absent c.args.name.now c.args.metadata.now.items c.requires (omega (arith, place, c.len.ensures, c.args.metadata.now.ok.0, c.if-place-len.true)))

pub remove-requires : goal.remove-requires
remove-requires c =
    let place : c.place_of-place.result ≡ place_of c.args.name.now c.args.metadata.now.items = rw (← c.deref.ensures.value) c.place_of-place.ensures in
    omega (arith, place, c.len.ensures, c.args.metadata.now.ok.0, c.if-place-len.false, place-within c.args.name.now c.args.metadata.now.items)

pub returns-clause-change : goal.returns-clause-change
returns-clause-change c =
    let name = c.args.name.now in
    let ms = c.args.metadata.now.items in
    let place : c.place_of-place.result ≡ place_of name ms = rw (← c.deref.ensures.value) c.place_of-place.ensures in
    let within : place_of name ms < length ms = omega (arith, place, c.len.ensures, c.args.metadata.now.ok.0, c.if-place-len.false, place-within name ms) in
    ap (λ n. put_over n c.remove.result) place ∙ putting-over name ms c.remove.result within (c.remove.ensures.value ∙ ap (λ n. get_or ms n c.remove.result) place)

pub returns-clause-rest : goal.returns-clause-rest
returns-clause-rest c =
    let place : c.place_of-place.result ≡ place_of c.args.name.now c.args.metadata.now.items = rw (← c.deref.ensures.value) c.place_of-place.ensures in
    c.remove.ensures.items ∙ ap (λ n. remove c.args.metadata.now.items n) place ∙ others-removed c.args.name.now c.args.metadata.now.items c.requires
