use Rattle.std.proofs.Common.{◌≡◌, ◌↔◌, ℕ, ◌+◌, ◌*◌, Contains, sym, subst, arith}
use Rattle.std.specs.Int.{bit_at}
use Rattle.std.specs.Slots.{slots_counts, slots_items}
use Rattle.qm_crew.proofs.Moves.{ends}
use Rattle.qm_crew.proofs.Unions.{copied}
use Rattle.qm_crew.proofs.crew.copy_out.Goals as goal

pub returns-clause-bits : goal.returns-clause-bits
returns-clause-bits c word bit below small =
    let i = c.loop-i.invariant in
    let v = c.close_with-closed.ensures in
    let n = c.loop-i-test.false in
    let counts = slots_counts c.close_with-closed.result.words in
    let len = c.requires.long in
    let words = v.counts.0 in
    let e = copied c.loop-i.bits (slots_items c.close_with-closed.result.words) word (i.1 word (omega arith)) in
    let h = ends (slots_items c.close_with-closed.result.words) _ c.args.lead.id c.args.lead.me.0 c.requires.lead.0 c.requires.lead.1 v.values.2 word bit (omega arith) small in
    subst (λ (x : ℕ). (bit_at x bit ≡ 1) ↔ Contains c.args.lead.me.0.marks (64 * word + bit)) (sym e) h
