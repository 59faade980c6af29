use Rattle.std.proofs.Common.{◌≡◌, ◌∙◌, ◌-◌, ◌+◌, ◌^◌, ◌<◌, ◌≤◌, List, ℕ, length, ap, ap₂, sym, arith, refl, subst, subst₂, map, All, inl, inr}
use Rattle.std.specs.Prelude.{slice_set}
use Rattle.std.specs.Ordering.{nat_cmp}
use Rattle.std.specs.BTreeMap.{insert_entry}
use Rattle.std.proofs.lemmas.Result.{err_from_is_err_and}
use Rattle.qm_base.specs.declared.error.MerkleError.TheVariants.{ElementPruned, RangeOutOfBounds}
use Rattle.qm_merkle.specs.Batches.{Draft, drafted}
use Rattle.qm_merkle.proofs.Drafting.{All-inserted, updated-replaced, updated-added, drafted-replaced, drafted-added}
use Rattle.qm_merkle.proofs.batch.UnmerkleizedBatch.update_leaf_digest.Goals as goal

below : (m n limit : ℕ) → n < m → m ≤ limit → n ≤ limit
below m n limit lt few = omega (arith, lt, few)

apart : (m n : ℕ) → n < m → m ≤ n → ⊥
apart m n lt le = omega (arith, lt, le)

start-few : (start base count : ℕ) → start ≤ base → base + count ≤ 2 ^ 62 → start ≤ 2 ^ 62
start-few start base count le few = omega (arith, le, few)

pub invariant_of-self : goal.invariant_of-self
invariant_of-self g c =
    let inv = c.self.invariant in (
      inv.0,
      inv.1,
      subst (All (λ e. e.0 < c.self.inside.base)) {x = insert_entry nat_cmp c.self.inside.replaced.entries c.get-number.result c.args.digest} (sym c.in_ok-replace.ensures.entries)
          (All-inserted (λ n. n < c.self.inside.base) c.self.inside.replaced.entries c.get-number.result c.args.digest inv.2 (subst (λ base. c.get-number.result < base) c.get-base.ensures c.if-number-base.true)),
      inv.3,
    )

pub returns-then-number-get : goal.returns-then-number-get
returns-then-number-get g c =
    let low : c.args.location < c.args.self.now.start = subst₂ (λ n start. n < start) c.get-number.ensures (c.get.ensures ∙ ap (λ b. b.start) c.self.view_is) c.if-number-get.true in
    record {
      ok = tt;
      leaf = λ leaves count. tt;
      range = tt;
      cause = inr (inl (low, ap ElementPruned (c.get-then-number-get.ensures ∙ c.location_to_position-position.ensures.place)));
      memory = λ from within. absurd (apart _ _ low from);
      err = refl;
    }

pub returns-then-get-number : goal.returns-then-get-number
returns-then-get-number g c =
    let high = subst₂ (λ leaves n. leaves ≤ n) (c.get-2.ensures ∙ c.leaves.ensures) c.get-number.ensures c.if-get-number.true in
    record {
      ok = tt;
      leaf = λ leaves count. tt;
      range = tt;
      cause = inr (inr (high, ap RangeOutOfBounds c.get-number.ensures));
      memory = λ from within. absurd (apart _ _ within high);
      err = refl;
    }

pub returns-in_err-replace : goal.returns-in_err-replace
returns-in_err-replace g c =
    let exit = err_from_is_err_and c.from_residual.result c.from_residual.ensures.1 in
    record {
      ok = rw exit.1 tt;
      leaf = λ leaves count. rw exit.1 tt;
      range = rw exit.1 tt;
      cause = rw (exit.1, exit.2) (inl refl);
      memory = λ from within. rw (exit.1, exit.2) refl;
      err = let inside = c.self.inside in
          let old : Draft g.row.D.Denot = record { start = inside.start; base = inside.base; layers = map (λ r. r.value) inside.layers.items; replaced = inside.replaced.entries; added = inside.added.items } in
          rw exit.1 (ap (λ (es : List (ℕ × g.row.D.Denot)). record old { replaced = es }) c.in_err-replace.ensures.err ∙ c.self.view_is);
    }

pub returns-in_ok-replace : goal.returns-in_ok-replace
returns-in_ok-replace g c =
    let bytes = g.D.Digest.bytes in
    let inside = c.self.inside in
    let old : Draft g.row.D.Denot = record { start = inside.start; base = inside.base; layers = map (λ r. r.value) inside.layers.items; replaced = inside.replaced.entries; added = inside.added.items } in
    let number = c.get-number.result in
    let done = c.in_ok-replace.ensures in
    let early : number < inside.base = subst (λ base. number < base) c.get-base.ensures c.if-number-base.true in
    record {
      leaf = λ leaves count.
          drafted-replaced bytes old (record old { replaced = c.replace.new.entries.entries }) number c.args.digest leaves done.here done.other refl (subst (λ n. number < n) (ap (λ b. b.base) c.self.view_is ∙ sym count) early)
          ∙ ap (λ n. slice_set (drafted bytes old leaves) n (bytes c.args.digest)) c.get-number.ensures
          ∙ ap (λ b. slice_set (drafted bytes b leaves) c.args.location (bytes c.args.digest)) c.self.view_is;
      ok = updated-replaced old c.args.self.now number c.args.location c.args.digest c.replace.new.entries.entries done.entries c.get-number.ensures c.self.view_is early;
      range = (subst₂ (λ start n. start ≤ n) (c.get.ensures ∙ ap (λ b. b.start) c.self.view_is) c.get-number.ensures c.if-number-get.false, subst₂ (λ n leaves. n < leaves) c.get-number.ensures (c.get-2.ensures ∙ c.leaves.ensures) c.if-get-number.false);
      cause = tt;
      memory = λ from within. tt;
      err = tt;
    }

pub returns-else-number-base : goal.returns-else-number-base
returns-else-number-base g c =
    let bytes = g.D.Digest.bytes in
    let inside = c.self.inside in
    let old : Draft g.row.D.Denot = record { start = inside.start; base = inside.base; layers = map (λ r. r.value) inside.layers.items; replaced = inside.replaced.entries; added = inside.added.items } in
    let number = c.get-number.result in
    let index = number - c.get-base.result in
    let late : inside.base ≤ c.args.location = subst₂ (λ base n. base ≤ n) c.get-base.ensures c.get-number.ensures c.if-number-base.false in
    let at : index ≡ c.args.location - inside.base = ap₂ (λ n base. n - base) c.get-number.ensures c.get-base.ensures in
    record {
      leaf = λ leaves count.
          let base : inside.base ≡ length leaves = ap (λ b. b.base) c.self.view_is ∙ sym count in
          drafted-added bytes old (record old { added = slice_set inside.added.items index c.args.digest }) c.args.location c.args.digest leaves refl (subst (λ base. base ≤ c.args.location) base late) (ap (λ i. slice_set inside.added.items i c.args.digest) (at ∙ ap (λ base. c.args.location - base) base))
          ∙ ap (λ b. slice_set (drafted bytes b leaves) c.args.location (bytes c.args.digest)) c.self.view_is;
      ok = updated-added old c.args.self.now index c.args.location c.args.digest c.self.view_is late at;
      range = (subst₂ (λ start n. start ≤ n) (c.get.ensures ∙ ap (λ b. b.start) c.self.view_is) c.get-number.ensures c.if-number-get.false, subst₂ (λ n leaves. n < leaves) c.get-number.ensures (c.get-2.ensures ∙ c.leaves.ensures) c.if-get-number.false);
      cause = tt;
      memory = λ from within. tt;
      err = tt;
    }

pub location_to_position-position-requires : goal.location_to_position-position-requires
location_to_position-position-requires g c = below _ _ (2 ^ 62) (subst₂ (λ n start. n < start) c.get-number.ensures c.get.ensures c.if-number-get.true) (start-few _ _ _ c.self.invariant.0 c.self.invariant.1)

pub index_mut-requires : goal.index_mut-requires
index_mut-requires g c = omega (arith, c.if-get-number.false, c.get-2.ensures, c.leaves.ensures, c.if-number-base.false, c.get-base.ensures, ap (λ b. b.base) c.self.view_is, ap (λ b. length b.added) c.self.view_is)
