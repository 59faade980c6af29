use Rattle.std.proofs.Common.{◌≡◌, ◌∙◌, take, ap}
use Rattle.qm_memory.proofs.Cuts.{ends-count, first-end, items-take}
use Rattle.qm_memory.proofs.items.Items.first.Goals as goal

pub end_of_first-end-requires : goal.end_of_first-end-requires
end_of_first-end-requires c = rw c.deref.ensures.value (ends-count c.self.inside.ends.items c.self.inside.bytes.items c.args.self.now c.args.count c.self.view_is c.requires)

pub copy_of_front-requires : goal.copy_of_front-requires
copy_of_front-requires c = rw c.deref-2.ensures.value (first-end c.self.inside.ends.items c.self.inside.bytes.items c.args.self.now c.args.count c.end_of_first-end.result c.self.invariant c.self.view_is c.requires (rw (← c.deref.ensures.value) c.end_of_first-end.ensures))

pub copy_of_front-requires-2 : goal.copy_of_front-requires-2
copy_of_front-requires-2 c = rw c.deref-3.ensures.value (ends-count c.self.inside.ends.items c.self.inside.bytes.items c.args.self.now c.args.count c.self.view_is c.requires)

pub invariant_of-result : goal.invariant_of-result
invariant_of-result c =
    let bytes : c.in_ok-copy_of_front.field-0.items ≡ take c.end_of_first-end.result c.self.inside.bytes.items = c.in_ok-copy_of_front.ensures ∙ ap (λ xs. take c.end_of_first-end.result xs) c.deref-2.ensures.value in
    let ends : c.in_ok-copy_of_front-2.field-0.items ≡ take c.args.count c.self.inside.ends.items = c.in_ok-copy_of_front-2.ensures ∙ ap (λ xs. take c.args.count xs) c.deref-3.ensures.value in
    rw (ends, bytes)
    ((items-take c.self.inside.ends.items c.self.inside.bytes.items c.args.self.now c.args.count c.end_of_first-end.result c.self.invariant c.self.view_is c.requires (rw (← c.deref.ensures.value) c.end_of_first-end.ensures)).0)

pub returns : goal.returns
returns c =
    let bytes : c.in_ok-copy_of_front.field-0.items ≡ take c.end_of_first-end.result c.self.inside.bytes.items = c.in_ok-copy_of_front.ensures ∙ ap (λ xs. take c.end_of_first-end.result xs) c.deref-2.ensures.value in
    let ends : c.in_ok-copy_of_front-2.field-0.items ≡ take c.args.count c.self.inside.ends.items = c.in_ok-copy_of_front-2.ensures ∙ ap (λ xs. take c.args.count xs) c.deref-3.ensures.value in
    rw (ends, bytes)
    ((items-take c.self.inside.ends.items c.self.inside.bytes.items c.args.self.now c.args.count c.end_of_first-end.result c.self.invariant c.self.view_is c.requires (rw (← c.deref.ensures.value) c.end_of_first-end.ensures)).1)
