use Rattle.std.proofs.Common.{◌≡◌, subst, arith}
use Rattle.qm_build.specs.Cached.{removed}
use Rattle.qm_build.proofs.Caching.{set-ends, cache_of, cleared-slots, removed-is}
use Rattle.qm_build.proofs.cache.Cache.remove.Goals as goal

pub returns : goal.returns
returns g c =
    subst (λ v. cache_of c.self.inside.ways c.self.inside.sets c.clear_in.new.slots.items ≡ removed v c.args.location) c.self.view_is
    (removed-is c.self.inside.ways c.self.inside.sets c.args.location c.set_of.result c.self.inside.slots.items c.clear_in.new.slots.items c.self.invariant c.set_of.ensures.value c.clear_in.ensures.long c.clear_in.ensures.kept c.clear_in.ensures.others c.clear_in.ensures.clear)

pub set_of-requires : goal.set_of-requires
set_of-requires g c = c.self.invariant.some_sets

pub clear_in-requires : goal.clear_in-requires
clear_in-requires g c =
    let ends = set-ends c.set_of.result c.self.inside.sets c.self.inside.ways c.set_of.ensures.below in
    record { order = omega arith; within = omega (arith, ends, c.self.invariant.long) }

pub invariant_of-self : goal.invariant_of-self
invariant_of-self g c =
    cleared-slots c.self.inside.ways c.self.inside.sets c.args.location c.set_of.result c.self.inside.slots.items c.clear_in.new.slots.items c.self.invariant c.set_of.ensures.value c.clear_in.ensures.long c.clear_in.ensures.kept c.clear_in.ensures.others c.clear_in.ensures.clear

pub overflow_mul-first : goal.overflow_mul-first
overflow_mul-first g c =
    let ends = set-ends c.set_of.result c.self.inside.sets c.self.inside.ways c.set_of.ensures.below in
    omega (arith, ends, c.self.invariant.long, c.self.inside.slots.ok.0)

pub overflow_add-end : goal.overflow_add-end
overflow_add-end g c =
    let ends = set-ends c.set_of.result c.self.inside.sets c.self.inside.ways c.set_of.ensures.below in
    omega (arith, ends, c.self.invariant.long, c.self.inside.slots.ok.0)
