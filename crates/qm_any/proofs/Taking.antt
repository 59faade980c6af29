-- What openings leave of a store.
use Rattle.std.proofs.Common.{inl, inr, ◌≡◌, ◌∙◌, ◌-◌, ◌≤◌, ◌<◌, ◌++◌, ℕ, zero, suc, min, List, [], ◌∷◌, length, map, take, true, ap, sym, subst, refl, arith, append-nil, Option, Some, None}
use Rattle.std.proofs.lemmas.List.{take-take, length-take}
use Rattle.qm_model.specs.Operations.{Bytes, Operation, fresh}
use Rattle.qm_model.specs.StoreModel.{Stored, end_of, left_at, appended, settled, rewound, IsImage, RewindLeaves, ReadsAs, HasAppended, Fails, Grows, Turns, Becomes}
use Rattle.qm_model.proofs.Stores.{cut-whole, fails-unmoved, leaves-now}
use Rattle.qm_store.specs.declared.Store as store
use Rattle.qm_store.specs.declared.refusal.Given.{Given}
use Rattle.qm_store.specs.declared.refusal.Given.TheVariants as variants
use Rattle.qm_store.specs.declared.refusal.Refusal.{Refusal}
use Rattle.qm_store.specs.Given.{store_given, IsUnchanged}
use Rattle.qm_store.specs.Log.{IsKept}
use Rattle.qm_offer.specs.Crashing.{FailsOpening, FailsSettling}
use Rattle.qm_any.specs.Lasting.{HasLeftStable, IsGivenUp}
use Rattle.qm_model.specs.Forms.{spelling}
use Rattle.qm_model.specs.Ordered.{IsRing}
use Rattle.qm_model.specs.Schemes.{Scheme}
use Rattle.qm_model.specs.Taken.{HasList, IsTaken, taken, LeavesOpening}
use Rattle.qm_any.proofs.Lasting.{turns-behind}

-- an image of a store that was rewound is one that the rewind may leave
image-rewound : (to : ℕ) (s image : Stored) → IsImage (rewound to s) image → RewindLeaves to s image
image-rewound to s image is =
    let long = length-take (to - s.start) s.items in
    let within = is.may.within in
    let low : is.to - s.start ≤ to - s.start = omega (arith, within, long) in
    record {
      to = is.to;
      may = record { stable = is.may.stable; within = omega (arith, within, long) };
      same = is.same ∙ ap {B = Stored} (λ items. record s { items = items; stable = is.to; past = image.past }) (take-take (is.to - s.start) (to - s.start) s.items low);
    }

-- so a call that fails after a rewind leaves what the rewind may
pub reads-rewound : (to : ℕ) (s new : Stored) → ReadsAs (rewound to s).stable (IsImage (rewound to s)) new → ReadsAs (min s.stable to) (RewindLeaves to s) new
reads-rewound to s new is = record { image = is.image; left = image-rewound to s is.image is.left; reads = is.reads; least_stable = is.least_stable; within = is.within }

-- and so does one that changes nothing
pub reads-whole : (to : ℕ) (s : Stored) → s.stable ≤ end_of s → ReadsAs (min s.stable to) (RewindLeaves to s) s
reads-whole to s stable = record {
  image = left_at (end_of s) s;
  left = record { to = end_of s; may = record { stable = omega (arith, stable); within = omega arith }; same = refl };
  reads = ap {B = Stored} (λ items. record s { items = items }) (sym (cut-whole s));
  least_stable = omega arith;
  within = stable;
}

none : {A : Type 0} (xs : List A) → length xs ≡ 0 → xs ≡ []
none [] long = refl
none (x ∷ xs) long = absurd (omega (arith, long))

behind-none : (n : ℕ) (items more : List Bytes) → items ≡ [] → take n (items ++ more) ≡ items ++ take n more
behind-none n items more is = rw is refl

-- an image of an empty store that grew by some items has a first part of these
pub reads-grown : (more : List Bytes) (s new : Stored) → end_of s ≡ 0 → ReadsAs (appended more s).stable (IsImage (appended more s)) new → HasAppended more s new
reads-grown more s new empty is =
    let at = is.left.to - s.start in
    let same : is.image ≡ record (appended (take at more) s) { stable = is.left.to; past = is.image.past } =
    is.left.same ∙ ap {B = Stored} (λ items. record s { items = items; stable = is.left.to; past = is.image.past }) (behind-none at s.items more (none s.items (omega (arith, empty)))) in
    record {
      count = at;
      reads = is.reads ∙ ap {B = Stored} (λ (i : Stored). record i { stable = new.stable; past = new.past }) same;
      least_stable = is.least_stable;
      within = λ _. is.within;
    }

unmoved : (more : List Bytes) (s : Stored) → HasAppended more s s
unmoved more s = record {
  count = 0;
  reads = ap {B = Stored} (λ items. record s { items = items }) (sym (append-nil s.items));
  least_stable = omega arith;
  within = λ inside. inside;
}

module _ (m : Scheme) where
  -- an opening that left the store as it was
  pub fails-whole : (size : ℕ) (s : Stored) → s.stable ≤ end_of s → FailsOpening m size s s
  fails-whole zero s stable = inl (fails-unmoved _ _ s (unmoved (map (spelling m.form) fresh) s))
  fails-whole (suc n) s stable = inl (fails-unmoved _ _ s (reads-whole (suc n) s stable))

  -- one that appended a first part of the fresh list
  pub fails-grown : (o new : Option Stored) → Grows o new (map (spelling m.form) fresh) → Turns o new (FailsOpening m 0)
  fails-grown None new grows = grows
  fails-grown (Some s) None grows = absurd grows
  fails-grown (Some s) (Some t) grows = inl grows

  -- one whose rewind failed, and one whose commit failed behind that
  pub fails-cut : (size : ℕ) (s new : Stored) → 0 < size → Fails (λ s. ReadsAs (min s.stable size) (RewindLeaves size s)) (λ s. ReadsAs (min s.stable size) (RewindLeaves size s)) s new → FailsOpening m size s new
  fails-cut zero s new some failed = absurd (omega (arith, some))
  fails-cut (suc n) s new some failed = inl failed

  pub fails-settled : (size : ℕ) (s new : Stored) → 0 < size → FailsSettling (rewound size s) new → FailsOpening m size s new
  fails-settled zero s new some failed = absurd (omega (arith, some))
  fails-settled (suc n) s new some failed = inr failed

  -- if a list is selected its size is no 0
  pub taken-some : (size : ℕ) (s : Stored) → 0 < size → taken m size s ≡ settled (rewound size s)
  taken-some zero s some = absurd (omega (arith, some))
  taken-some (suc n) s some = refl

  pub leaves-some : (size : ℕ) (s new : Stored) → 0 < size → ReadsAs (min s.stable size) (RewindLeaves size s) new → LeavesOpening m size s new
  leaves-some zero s new some is = absurd (omega (arith, some))
  leaves-some (suc n) s new some is = is

  -- a store that is refused may have what it had
  pub leaves-whole : (size : ℕ) (s : Stored) → s.stable ≤ end_of s → LeavesOpening m size s s
  leaves-whole zero s stable = unmoved (map (spelling m.form) fresh) s
  leaves-whole (suc n) s stable = reads-whole (suc n) s stable

  -- it is a list of that size
  pub list-some : (size : ℕ) (s : Stored) (list : List Operation) → 0 < size → IsTaken m s size list → HasList m s size list × (m.form.ordered ≡ true → IsRing list)
  list-some zero s list some is = absurd (omega (arith, some))
  list-some (suc n) s list some is = is

-- What becomes of what is told.

pub turns-weaker : (o new : Option Stored) (R S : Stored → Stored → Type 0) → ((s t : Stored) → o ≡ Some s → R s t → S s t) → Turns o new R → Turns o new S
turns-weaker None new R S weaker turns = turns
turns-weaker (Some s) None R S weaker turns = turns
turns-weaker (Some s) (Some t) R S weaker turns = weaker s t refl turns

-- if it is what it was
pub turns-kept : (o new : Option Stored) (R : Stored → Stored → Type 0) → new ≡ o → ((s : Stored) → o ≡ Some s → R s s) → Turns o new R
turns-kept o new R same whole = subst (λ t. Turns o t R) (sym same) (by o whole)
  where
    by : (o : Option Stored) → ((s : Stored) → o ≡ Some s → R s s) → Turns o o R
    by None whole = refl
    by (Some s) whole = whole s refl

module _ {C X : Type 0} (members : store.Ghosts C) (inside : X → C) (given : Given X C) where
  -- a store that is given back as it was
  pub given-kept : (old s : C) (R : Stored → Stored → Type 0) → given ≡ variants.Store s → members.told s ≡ members.told old → ((x : Stored) → members.told old ≡ Some x → R x x) → Turns (members.told old) (members.told (store_given inside given)) R
  given-kept old s R is same whole = subst (λ g. Turns (members.told old) (members.told (store_given inside g)) R) (sym is) (turns-kept (members.told old) (members.told s) R same whole)

  -- so nothing of it was changed
  pub given-unchanged : (old s : C) → given ≡ variants.Store s → IsKept members old s → IsUnchanged members old (store_given inside given)
  given-unchanged old s is kept = subst (λ g. IsUnchanged members old (store_given inside g)) (sym is) (record { start = kept.start; told = kept.told })

-- nor if nothing more was changed after reads
pub unchanged-behind : {C : Type 0} (members : store.Ghosts C) (old middle new : C) → IsKept members old middle → IsUnchanged members middle new → IsUnchanged members old new
unchanged-behind members old middle new kept same = record { start = same.start ∙ kept.start; told = same.told ∙ kept.told }

-- a store that became this, and of which a commit then failed, with what a crash inside that would have left
pub given-settling : {C X : Type 0} (members : store.Ghosts C) (inside : X → C) (o : Option Stored) (old : C) (r : Refusal X C) (f : Stored → Stored) → Becomes o (members.told old) f → IsGivenUp members (HasLeftStable members) old r
    → Turns o (members.told (store_given inside r.given)) (λ s. FailsSettling (f s))
given-settling members inside o old r f becomes up =
    subst (λ g. Turns o (members.told (store_given inside g)) (λ s. FailsSettling (f s))) (sym up.given)
    (turns-behind o (members.told old) (members.told up.store) f FailsSettling becomes up.left.told)

-- a store that became this, and of which a commit then failed
pub given-stable : {C X : Type 0} (members : store.Ghosts C) (inside : X → C) (o : Option Stored) (old : C) (r : Refusal X C) (f : Stored → Stored) (R : Stored → Stored → Type 0) → Becomes o (members.told old) f
    → ((s t : Stored) → o ≡ Some s → ReadsAs (f s).stable (IsImage (f s)) t → R s t) → IsGivenUp members (HasLeftStable members) old r → Turns o (members.told (store_given inside r.given)) R
given-stable members inside o old r f R becomes weaker up =
    turns-weaker o (members.told (store_given inside r.given)) (λ s. ReadsAs (f s).stable (IsImage (f s))) R weaker
    (subst (λ g. Turns o (members.told (store_given inside g)) (λ s. ReadsAs (f s).stable (IsImage (f s)))) (sym up.given)
    (turns-behind o (members.told old) (members.told up.store) f (λ s. ReadsAs s.stable (IsImage s)) becomes (leaves-now (members.told old) (members.told up.store) (λ s. ReadsAs s.stable (IsImage s)) (λ s. ReadsAs s.stable (IsImage s)) up.left.told)))
