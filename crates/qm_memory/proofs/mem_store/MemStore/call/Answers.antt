use Rattle.std.proofs.Common.{arith}
use Rattle.qm_memory.proofs.Exits.{found-listed, counted-listed, counted-other}
use Rattle.qm_memory.proofs.mem_store.MemStore.call.Goals as goal

pub invariant_of-self : goal.invariant_of-self
invariant_of-self c = c.self.invariant

pub invariant_of-self-else-fails : goal.invariant_of-self-else-fails
invariant_of-self-else-fails c = c.self.invariant

pub returns-then-fails : goal.returns-then-fails
returns-then-fails c =
    let inside = c.self.invariant in
    let found = found-listed c.self.inside.listed.items c.deref.result.now c.self.inside.called c.contains-fails.result c.deref.ensures.value c.contains-fails.ensures.cases in
    counted-listed _ c.args.self.now c.self.view_is (record { start = inside.0; stable = inside.1; limit = inside.2; once = inside.3 }) c.contains-fails.result found c.if-fails.true
    (omega (arith, c.self.ranges)) _ _ c.saturating_add-self-inside.ensures c.saturating_add-self-inside-then-fails.ensures

pub returns : goal.returns
returns c =
    let inside = c.self.invariant in
    let found = found-listed c.self.inside.listed.items c.deref.result.now c.self.inside.called c.contains-fails.result c.deref.ensures.value c.contains-fails.ensures.cases in
    counted-other _ c.args.self.now c.self.view_is (record { start = inside.0; stable = inside.1; limit = inside.2; once = inside.3 }) c.contains-fails.result found c.if-fails.false
    _ c.saturating_add-self-inside.ensures
