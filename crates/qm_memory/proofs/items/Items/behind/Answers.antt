use Rattle.std.proofs.Common.{◌≡◌, ◌∙◌, drop, ap}
use Rattle.qm_memory.proofs.Cuts.{ends-count, first-end, items-drop, ends-behind}
use Rattle.qm_memory.proofs.items.Items.behind.Goals as goal

pub end_of_first-gone-requires : goal.end_of_first-gone-requires
end_of_first-gone-requires c = rw c.deref.ensures.value (ends-count c.self.inside.ends.items c.self.inside.bytes.items c.args.self.now c.args.count c.self.view_is c.requires)

pub copy_behind-requires : goal.copy_behind-requires
copy_behind-requires c = rw c.deref-2.ensures.value (first-end c.self.inside.ends.items c.self.inside.bytes.items c.args.self.now c.args.count c.end_of_first-gone.result c.self.invariant c.self.view_is c.requires (rw (← c.deref.ensures.value) c.end_of_first-gone.ensures))

pub copy_behind-requires-2 : goal.copy_behind-requires-2
copy_behind-requires-2 c = rw c.deref-3.ensures.value (ends-count c.self.inside.ends.items c.self.inside.bytes.items c.args.self.now c.args.count c.self.view_is c.requires)

pub move_down-requires : goal.move_down-requires
move_down-requires c =
    let ends : c.in_ok-ends.ends.items ≡ drop c.args.count c.self.inside.ends.items = c.in_ok-ends.ensures ∙ ap (λ xs. drop c.args.count xs) c.deref-3.ensures.value in
    rw ends
    (ends-behind c.self.inside.ends.items c.self.inside.bytes.items c.args.self.now c.args.count c.end_of_first-gone.result c.self.invariant c.self.view_is c.requires (rw (← c.deref.ensures.value) c.end_of_first-gone.ensures))

pub invariant_of-result : goal.invariant_of-result
invariant_of-result c =
    let bytes : c.in_ok-bytes.bytes.items ≡ drop c.end_of_first-gone.result c.self.inside.bytes.items = c.in_ok-bytes.ensures ∙ ap (λ xs. drop c.end_of_first-gone.result xs) c.deref-2.ensures.value in
    let ends : c.in_ok-ends.ends.items ≡ drop c.args.count c.self.inside.ends.items = c.in_ok-ends.ensures ∙ ap (λ xs. drop c.args.count xs) c.deref-3.ensures.value in
    rw (c.move_down.ensures, ends, bytes)
    ((items-drop c.self.inside.ends.items c.self.inside.bytes.items c.args.self.now c.args.count c.end_of_first-gone.result c.self.invariant c.self.view_is c.requires (rw (← c.deref.ensures.value) c.end_of_first-gone.ensures)).0)

pub returns : goal.returns
returns c =
    let bytes : c.in_ok-bytes.bytes.items ≡ drop c.end_of_first-gone.result c.self.inside.bytes.items = c.in_ok-bytes.ensures ∙ ap (λ xs. drop c.end_of_first-gone.result xs) c.deref-2.ensures.value in
    let ends : c.in_ok-ends.ends.items ≡ drop c.args.count c.self.inside.ends.items = c.in_ok-ends.ensures ∙ ap (λ xs. drop c.args.count xs) c.deref-3.ensures.value in
    rw (c.move_down.ensures, ends, bytes)
    ((items-drop c.self.inside.ends.items c.self.inside.bytes.items c.args.self.now c.args.count c.end_of_first-gone.result c.self.invariant c.self.view_is c.requires (rw (← c.deref.ensures.value) c.end_of_first-gone.ensures)).1)
