use Rattle.std.proofs.Common.{ap, arith, length, refl, subst, sym, ◌∙◌}
use Rattle.std.specs.List.{FoldsTo, flat_map}
use Rattle.std.specs.Map.{values_of}
use Rattle.std.specs.Fn.{CalledAt}
use Rattle.qm_index.specs.Buckets.{IsIndex, all_values}
use Rattle.qm_index.proofs.Visits.{LeadOn-next}
use Rattle.qm_index.proofs.hash_table.HashTableTable.show_all.Goals as goal

pub loop-bucket-init : goal.loop-bucket-init
loop-bucket-init g c = (
  tt,
  tt,
  c.requires,
  λ last all. subst (λ buckets. FoldsTo (λ p x q. CalledAt g.F.FnMut p x tt q) c.args.visit (flat_map (λ bucket. bucket) buckets) last)
      (c.into_iter-bucket-iterator.ensures.into_iter_gives ∙ c.values-bucket-items.ensures.rest ∙ ap values_of c.self.view_is) all,
)

pub loop-bucket-preserved : goal.loop-bucket-preserved
loop-bucket-preserved g c = (
  tt,
  tt,
  c.show-visit.ensures.again,
  LeadOn-next (λ p x q. CalledAt g.F.FnMut p x tt q) c.args.visit (all_values c.args.self.now) c.loop-bucket.visit c.show-visit.result _ _ c.in-Some.bucket.now c.values.result.now c.in-Some.ensures.steps c.values.ensures.value c.show-visit.ensures.shown
      c.loop-bucket.invariant.3,
)

pub returns : goal.returns
returns g c = record {
  shown =
      let last = c.loop-bucket.visit in
      c.loop-bucket.invariant.3 last (subst (λ buckets. FoldsTo (λ p x q. CalledAt g.F.FnMut p x tt q) last (flat_map (λ bucket. bucket) buckets) last) (sym c.in-None.ensures.steps.0) refl);
  again = c.loop-bucket.invariant.2;
  index = subst IsIndex c.self.view_is c.self.invariant;
}

pub loop-bucket-smaller : goal.loop-bucket-smaller
loop-bucket-smaller g c = omega (arith, ap length c.in-Some.ensures.steps)

pub next-requires : goal.next-requires
next-requires g c = tt

pub show-visit-requires : goal.show-visit-requires
show-visit-requires g c = c.loop-bucket.invariant.2
