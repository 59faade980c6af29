use Rattle.std.proofs.Common.{refl, ◌<◌, sym, subst, subst₂, length}
use Rattle.std.specs.Prelude.{set}
use Rattle.qm_index.specs.Buckets.{IsIndex, Puts, bucket_at}
use Rattle.qm_index.proofs.Changed.{place-in, no-place}
use Rattle.qm_index.proofs.Tables.{written-index, written-puts}
use Rattle.qm_index.proofs.hash_table.HashTableTable.update_at.Goals as goal
use Rattle.qm_index.proofs.hash_table.HashTableTable.update_at.Goals.{in-Some, in_default}

pub set-requires : goal.set-requires
set-requires g c =
    place-in c.self.inside.buckets.entries c.args.index_key c.in-Some.bucket.now c.args.i c.in-Some.ensures.value
    (subst₂ (λ entries k. c.args.i < length (bucket_at entries k)) (sym c.self.view_is) (sym refl) c.requires)

pub invariant_of-self : goal.invariant_of-self
invariant_of-self g c =
    elim c.match-get_mut.branch [
      | in-Some w ↦
          subst (λ inside. IsIndex inside.buckets.entries) (sym w.self-inside-is)
          (written-index c.self.inside.buckets (c.get_mut.follows.lender w.set.new.self) c.args.index_key w.in-Some.bucket.now w.set.new.self w.in-Some.ensures.value (c.get_mut.follows.holds w.set.new.self) c.self.invariant w.set.ensures.some)
      | in_default w ↦ subst (λ inside. IsIndex inside.buckets.entries) (sym w.self-inside-is) (subst (λ m. IsIndex m.entries) (sym c.get_mut.follows.holds-at-none) c.self.invariant)
    ]

pub returns : goal.returns
returns g c = record {
  update =
      elim c.match-get_mut.branch [
        | in-Some w ↦
            subst (λ inside. Puts c.args.self.now inside.buckets.entries (c.args.index_key) (set (bucket_at c.args.self.now (c.args.index_key)) c.args.i c.args.value)) (sym w.self-inside-is)
            (subst₂ (λ old k. Puts old (c.get_mut.follows.lender w.set.new.self).entries k (set (bucket_at old k) c.args.i c.args.value)) c.self.view_is refl
            (written-puts c.self.inside.buckets (c.get_mut.follows.lender w.set.new.self) c.args.index_key w.in-Some.bucket.now w.set.new.self w.in-Some.ensures.value (c.get_mut.follows.holds w.set.new.self)
            (λ values. set values c.args.i c.args.value) w.set.ensures.value))
        | in_default w ↦
            absurd
            (no-place c.self.inside.buckets.entries c.args.index_key c.args.i w.in_default.ensures.value
            (subst₂ (λ entries k. c.args.i < length (bucket_at entries k)) (sym c.self.view_is) (sym refl) c.requires))
      ];
  index = invariant_of-self g c;
}
