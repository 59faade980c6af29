use Rattle.std.proofs.Common.{◌≡◌, ◌+◌, ◌-◌, ◌≤◌, arith, ap, sym, ◌∙◌, subst}
use Rattle.qm_index.specs.Buckets.{IsIndex}
use Rattle.qm_index.specs.Partitioned.{Parts, joined, joined_parts, Installed}
use Rattle.qm_index.proofs.Partitions.{installed, installed-indices, joined-index, within}
use Rattle.qm_index.proofs.partitioned.IndexRanges.install_range.Goals as goal

pub returns-in_err-hold-clause-outside : goal.returns-in_err-hold-clause-outside
returns-in_err-hold-clause-outside g c =
    let first = ap (λ (p : Parts _). p.range.first) c.self.view_is in
    let count = ap (λ (p : Parts _). p.range.count) c.self.view_is in
    let from = c.requires.from in
    let end = c.requires.end in
    let room : (c.args.from - c.self.inside.first) + c.args.count ≤ c.self.inside.count = omega (arith, first, count, from, end) in
    within c.self.inside.first c.self.inside.count c.hold.new.self (c.in_err-hold.ensures.are c.self.inside.count room c.self.invariant.0)

pub returns-in_err-hold-clause-index : goal.returns-in_err-hold-clause-index
returns-in_err-hold-clause-index g c = subst (λ es. IsIndex es) (sym (c.in_err-hold.ensures.same c.self.inside.first)) (joined-index c.self.inside.first c.self.inside.parts c.self.invariant.0.indices)

pub invariant_of-self-2 : goal.invariant_of-self-2
invariant_of-self-2 g c =
    let first = ap (λ (p : Parts _). p.range.first) c.self.view_is in
    let count = ap (λ (p : Parts _). p.range.count) c.self.view_is in
    let from = c.requires.from in
    let end = c.requires.end in
    let up : c.self.inside.first ≤ c.args.from = omega (arith, first, from) in
    let room : (c.args.from - c.self.inside.first) + c.args.count ≤ c.self.inside.count = omega (arith, first, count, from, end) in
    let are = c.in_ok-hold.ensures.are c.self.inside.count room c.self.invariant.0 in
    let kept = are.few in
    let same = c.replace.ensures.long in
    (record { few = omega (arith, kept, same); indices = installed-indices c.self.inside.first c.args.from c.args.count c.built.inside.first c.hold.new.self c.built.inside.parts c.replace.new.self are.indices c.built.invariant.0.indices up same c.replace.ensures.inside c.replace.ensures.outside }, c.self.invariant.1)

pub returns-clause-ok : goal.returns-clause-ok
returns-clause-ok g c =
    let first = ap (λ (p : Parts _). p.range.first) c.self.view_is in
    let count = ap (λ (p : Parts _). p.range.count) c.self.view_is in
    let from = c.requires.from in
    let end = c.requires.end in
    let up : c.self.inside.first ≤ c.args.from = omega (arith, first, from) in
    let room : (c.args.from - c.self.inside.first) + c.args.count ≤ c.self.inside.count = omega (arith, first, count, from, end) in
    let are = c.in_ok-hold.ensures.are c.self.inside.count room c.self.invariant.0 in
    let old : joined c.self.inside.first c.hold.new.self ≡ joined_parts c.args.self.now = c.in_ok-hold.ensures.same c.self.inside.first ∙ ap joined_parts c.self.view_is in
    let built : joined c.built.inside.first c.built.inside.parts ≡ joined_parts c.args.built = ap joined_parts c.built.view_is in
    let done = installed c.self.inside.first c.args.from c.args.count c.built.inside.first c.hold.new.self c.built.inside.parts c.replace.new.self are.indices c.built.invariant.0.indices up c.replace.ensures.long c.replace.ensures.inside c.replace.ensures.outside in
    subst (λ es. Installed (joined_parts c.args.self.now) (joined c.self.inside.first c.replace.new.self) es (record { first = c.args.from; count = c.args.count })) built
    (subst (λ es. Installed es (joined c.self.inside.first c.replace.new.self) (joined c.built.inside.first c.built.inside.parts) (record { first = c.args.from; count = c.args.count })) old done)

pub returns-clause-outside : goal.returns-clause-outside
returns-clause-outside g c = within c.self.inside.first c.self.inside.count _ (invariant_of-self-2 g c).0

pub returns-clause-index : goal.returns-clause-index
returns-clause-index g c = joined-index c.self.inside.first _ (invariant_of-self-2 g c).0.indices
