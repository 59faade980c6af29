use Rattle.std.proofs.Common.{arith}
use Rattle.qm_memory.proofs.Cuts.{ends-count, first-end, items-drop, ends-behind}
use Rattle.qm_memory.proofs.items.Items.remove_first.Goals as goal

pub end_of_first-gone-requires : goal.end_of_first-gone-requires
end_of_first-gone-requires c = rw c.deref.ensures.value (ends-count c.self.inside.ends.items c.self.inside.bytes.items c.args.self.now c.args.count c.self.view_is c.requires)

pub remove_front-requires : goal.remove_front-requires
remove_front-requires c = omega (arith, c.self.inside.ends.ok.0, ends-count c.self.inside.ends.items c.self.inside.bytes.items c.args.self.now c.args.count c.self.view_is c.requires)

pub remove_front-requires-2 : goal.remove_front-requires-2
remove_front-requires-2 c =
    omega (arith, c.self.inside.bytes.ok.0, first-end c.self.inside.ends.items c.self.inside.bytes.items c.args.self.now c.args.count c.end_of_first-gone.result c.self.invariant c.self.view_is c.requires (rw (← c.deref.ensures.value) c.end_of_first-gone.ensures))

pub move_down-requires : goal.move_down-requires
move_down-requires c =
    rw c.remove_front.ensures
    (ends-behind c.self.inside.ends.items c.self.inside.bytes.items c.args.self.now c.args.count c.end_of_first-gone.result c.self.invariant c.self.view_is c.requires (rw (← c.deref.ensures.value) c.end_of_first-gone.ensures))

pub invariant_of-self : goal.invariant_of-self
invariant_of-self c =
    rw (c.move_down.ensures, c.remove_front.ensures, c.remove_front-2.ensures)
    ((items-drop c.self.inside.ends.items c.self.inside.bytes.items c.args.self.now c.args.count c.end_of_first-gone.result c.self.invariant c.self.view_is c.requires (rw (← c.deref.ensures.value) c.end_of_first-gone.ensures)).0)

pub returns : goal.returns
returns c =
    rw (c.move_down.ensures, c.remove_front.ensures, c.remove_front-2.ensures)
    ((items-drop c.self.inside.ends.items c.self.inside.bytes.items c.args.self.now c.args.count c.end_of_first-gone.result c.self.invariant c.self.view_is c.requires (rw (← c.deref.ensures.value) c.end_of_first-gone.ensures)).1)
