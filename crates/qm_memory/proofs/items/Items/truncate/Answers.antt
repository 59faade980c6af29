use Rattle.qm_memory.proofs.Cuts.{ends-count, items-take}
use Rattle.qm_memory.proofs.items.Items.truncate.Goals as goal

pub end_of_first-end-requires : goal.end_of_first-end-requires
end_of_first-end-requires c = rw c.deref.ensures.value (ends-count c.self.inside.ends.items c.self.inside.bytes.items c.args.self.now c.args.count c.self.view_is c.requires)

pub invariant_of-self : goal.invariant_of-self
invariant_of-self c =
    rw (c.truncate.ensures.items, c.truncate-2.ensures.items)
    ((items-take c.self.inside.ends.items c.self.inside.bytes.items c.args.self.now c.args.count c.end_of_first-end.result c.self.invariant c.self.view_is c.requires (rw (← c.deref.ensures.value) c.end_of_first-end.ensures)).0)

pub returns : goal.returns
returns c =
    rw (c.truncate.ensures.items, c.truncate-2.ensures.items)
    ((items-take c.self.inside.ends.items c.self.inside.bytes.items c.args.self.now c.args.count c.end_of_first-end.result c.self.invariant c.self.view_is c.requires (rw (← c.deref.ensures.value) c.end_of_first-end.ensures)).1)
