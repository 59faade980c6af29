use Rattle.std.proofs.Common.{◌≡◌, ◌+◌, ◌*◌, ◌<◌, ◌≤◌, ℕ, ap, subst, get_or, set, length, Some, None, arith}
use Rattle.qm_build.specs.Cached.{put, IsFirst}
use Rattle.qm_build.proofs.Caching.{set-ends, filled-slots, cache_of, put-is}
use Rattle.qm_build.proofs.cache.Cache.put.Goals as goal

pub room_in-room-requires-clause-within : goal.room_in-room-requires-clause-within
room_in-room-requires-clause-within g c =
    let ends = set-ends c.set_of.result c.self.inside.sets c.self.inside.ways c.set_of.ensures.below in
    omega (arith, ends, c.self.invariant.long, c.clear_in.ensures.long, ap length c.deref.ensures.value)

pub index_mut-requires : goal.index_mut-requires
index_mut-requires g c =
    let ends = set-ends c.set_of.result c.self.inside.sets c.self.inside.ways c.set_of.ensures.below in
    omega (arith, ends, c.self.invariant.long, c.clear_in.ensures.long, c.room_in-room.ensures.below)

pub invariant_of-self : goal.invariant_of-self
invariant_of-self g c =
    let ends = set-ends c.set_of.result c.self.inside.sets c.self.inside.ways c.set_of.ensures.below in
    filled-slots c.self.inside.ways c.self.inside.sets c.args.location c.set_of.result c.self.inside.slots.items c.clear_in.new.slots.items c.self.invariant c.set_of.ensures.value c.clear_in.ensures.long c.clear_in.ensures.kept c.clear_in.ensures.others c.clear_in.ensures.clear
    c.room_in-room.result c.args.key c.room_in-room.ensures.from c.room_in-room.ensures.below (omega (arith, ends, c.self.invariant.long, c.clear_in.ensures.long, c.room_in-room.ensures.below))

pub returns : goal.returns
returns g c =
    let ends = set-ends c.set_of.result c.self.inside.sets c.self.inside.ways c.set_of.ensures.below in
    subst (λ v. cache_of c.self.inside.ways c.self.inside.sets (set c.clear_in.new.slots.items c.room_in-room.result (Some (c.args.location, c.args.key))) ≡ put v c.args.location c.args.key) c.self.view_is
    (put-is c.self.inside.ways c.self.inside.sets c.args.location c.set_of.result c.self.inside.slots.items c.clear_in.new.slots.items c.self.invariant c.set_of.ensures.value c.clear_in.ensures.long c.clear_in.ensures.kept c.clear_in.ensures.others c.clear_in.ensures.clear
    c.room_in-room.result c.args.key c.room_in-room.ensures.from c.room_in-room.ensures.below (omega (arith, ends, c.self.invariant.long, c.clear_in.ensures.long, c.room_in-room.ensures.below))
    (omega (arith, ends, c.self.invariant.long, c.clear_in.ensures.long))
    (subst (λ slots. (i : ℕ) → c.set_of.result * c.self.inside.ways ≤ i → i < c.set_of.result * c.self.inside.ways + c.self.inside.ways → IsFirst (get_or slots c.room_in-room.result None) (get_or slots i None)) c.deref.ensures.value c.room_in-room.ensures.least))

pub set_of-requires : goal.set_of-requires
set_of-requires g c = c.self.invariant.some_sets

pub clear_in-requires : goal.clear_in-requires
clear_in-requires g c =
    let ends = set-ends c.set_of.result c.self.inside.sets c.self.inside.ways c.set_of.ensures.below in
    record { order = omega arith; within = omega (arith, ends, c.self.invariant.long) }

pub overflow_mul-first : goal.overflow_mul-first
overflow_mul-first g c =
    let ends = set-ends c.set_of.result c.self.inside.sets c.self.inside.ways c.set_of.ensures.below in
    omega (arith, ends, c.self.invariant.long, c.self.inside.slots.ok.0)

pub overflow_add-end : goal.overflow_add-end
overflow_add-end g c =
    let ends = set-ends c.set_of.result c.self.inside.sets c.self.inside.ways c.set_of.ensures.below in
    omega (arith, ends, c.self.invariant.long, c.self.inside.slots.ok.0)
