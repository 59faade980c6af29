use Rattle.std.proofs.Common.{◌∙◌, arith, ap, sym, length}
use Rattle.std.proofs.lemmas.List.{nil_from_length}
use Rattle.qm_model.specs.Live.{live}
use Rattle.qm_any.proofs.laws.an_empty_database_has_its_floor_at_the_commit.Goals as goal

pub returns-clause-within : goal.returns-clause-within
returns-clause-within g c layout db list is =
    let size = ap (λ k. k.size) is.commitment in
    let inside = is.good.floor_within in
    omega (arith, size, inside, is.floor)

pub returns-clause-empty : goal.returns-clause-empty
returns-clause-empty g c layout db list is =
    let size = ap (λ k. k.size) is.commitment in
    let empty = is.good.empty_floor in
    let floor = is.floor in (
      λ none. let ended = empty.0 (nil_from_length (live list) (sym is.live ∙ none)) in omega (arith, size, floor, ended),
      λ ended. is.live ∙ ap length (empty.1 (omega (arith, size, floor, ended))),
    )
