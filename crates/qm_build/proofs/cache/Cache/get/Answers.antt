use Rattle.std.proofs.Common.{◌≡◌, ◌≢◌, ◌+◌, ◌*◌, ◌<◌, ◌≤◌, ℕ, ap, subst, get_or, length, Some, None, arith}
use Rattle.std.specs.Prelude.{IfSome, IfNone, option_map}
use Rattle.qm_build.specs.Cached.{given}
use Rattle.qm_build.proofs.Caching.{set-ends, slot-given}
use Rattle.qm_build.proofs.cache.Cache.get.Goals as goal

pub set_of-requires : goal.set_of-requires
set_of-requires g c = c.self.invariant.some_sets

pub key_in-requires : goal.key_in-requires
key_in-requires g c =
    let ends = set-ends c.set_of.result c.self.inside.sets c.self.inside.ways c.set_of.ensures.below in
    omega (arith, ends, c.self.invariant.long, ap length c.deref.ensures.value)

pub returns : goal.returns
returns g c =
    subst (λ v. option_map (λ key. key.now) c.key_in.result ≡ given v c.args.location) c.self.view_is
    (slot-given c.self.inside.ways c.self.inside.sets c.args.location c.self.inside.slots.items c.self.invariant (λ key. key.now) c.set_of.result c.set_of.ensures.value c.key_in.result
    (subst (λ slots. IfSome c.key_in.result (λ key. (i : ℕ) × (get_or slots i None ≡ Some (c.args.location, key.now)))) c.deref.ensures.value c.key_in.ensures.found)
    (subst (λ slots. IfNone c.key_in.result ((i : ℕ) → c.set_of.result * c.self.inside.ways ≤ i → i < c.set_of.result * c.self.inside.ways + c.self.inside.ways → IfSome (get_or slots i None) (λ p. p.0 ≢ c.args.location))) c.deref.ensures.value c.key_in.ensures.none))

pub overflow_mul-first : goal.overflow_mul-first
overflow_mul-first g c =
    let ends = set-ends c.set_of.result c.self.inside.sets c.self.inside.ways c.set_of.ensures.below in
    omega (arith, ends, c.self.invariant.long, c.self.inside.slots.ok.0)

pub overflow_add-first : goal.overflow_add-first
overflow_add-first g c =
    let ends = set-ends c.set_of.result c.self.inside.sets c.self.inside.ways c.set_of.ensures.below in
    omega (arith, ends, c.self.invariant.long, c.self.inside.slots.ok.0)
