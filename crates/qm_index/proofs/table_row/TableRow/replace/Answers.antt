use Rattle.std.proofs.Common.{inl, inr, ⊎_elim, ◌+◌, ◌<◌, [], ℕ, length, length-set, arith, refl, ap, sym, ◌∙◌, get_or-set_same, get_or-set_other}
use Rattle.std.specs.Prelude.{slice_index_or}
use mathlib.Core.Logic.{dite}
use native.Mathlib.Decide.{ℕ_discrete}
use Rattle.qm_index.specs.Partitioned.{part_at}
use Rattle.qm_index.proofs.table_row.TableRow.replace.Goals as goal

pub overflow_add-place : goal.overflow_add-place
overflow_add-place g c = let end = c.requires.end in let less = c.loop-i-test.true in omega (arith, end, less)

pub put-requires : goal.put-requires
put-requires g c = let room = c.requires.room in let less = c.loop-i-test.true in let long = c.loop-i.invariant.0 in omega (arith, room, less, long)

pub loop-i-init : goal.loop-i-init
loop-i-init g c = (refl, λ j below. absurd (omega (arith, below)), λ j out. refl, λ j from. refl)

pub loop-i-preserved : goal.loop-i-preserved
loop-i-preserved g c =
    let before = c.loop-i.invariant in
    let place : ℕ = c.args.place + c.loop-i.i in
    let there : place < length c.loop-i.self = (let room = c.requires.room in let less = c.loop-i-test.true in let long = before.0 in omega (arith, room, less, long)) in
    let now_at = λ (k : ℕ). ap (λ v. slice_index_or v k []) c.put.ensures in (
      ap length c.put.ensures ∙ length-set c.loop-i.self place (g.B.Table.entries c.take-table.result) ∙ before.0,
      (λ j below. dite (ℕ_discrete j c.loop-i.i)
          (λ e.
          ap (λ n. slice_index_or c.put.new.self (c.args.place + n) []) e ∙ now_at place
          ∙ get_or-set_same c.loop-i.self place (g.B.Table.entries c.take-table.result) [] there
          ∙ c.take-table.ensures.taken ∙ before.3 c.loop-i.i (omega arith) ∙ ap (λ n. part_at c.args.first c.args.other (c.args.from + n)) (sym e))
          (λ ne. now_at (c.args.place + j) ∙ get_or-set_other c.loop-i.self place (c.args.place + j) (g.B.Table.entries c.take-table.result) [] (λ h. ne (omega (arith, h))) ∙ before.1 j (omega (arith, below, ne)))),
      (λ j out. now_at j
          ∙ get_or-set_other c.loop-i.self place j (g.B.Table.entries c.take-table.result) [] (λ h. ⊎_elim (λ low. omega (arith, h, low)) (λ high. omega (arith, h, high)) out)
          ∙ before.2 j (⊎_elim (λ low. inl low) (λ high. inr (omega (arith, high))) out)),
      (λ j from. c.take-table.ensures.others (c.args.from + j) (λ h. omega (arith, h, from)) ∙ before.3 j (omega (arith, from))),
    )
