-- What a prune of a current database leaves.
use Rattle.std.proofs.Common.{◌≡◌, ◌⊎◌, ◌∙◌, ◌≤◌, ◌<◌, ◌+◌, ◌*◌, ◌/◌, ◌^◌, ⊎_elim, ℕ, suc, Bool, true, false, List, arith, ap, subst, sym, le_refl, inl, inr}
use Rattle.std.specs.Prelude.{max, nat_lt, if◌then◌else◌, IfOk, IfErr}
use Rattle.std.proofs.Math.Nat.{div-mul-le_self, lt-div-mul-add, max-eq_left, max-eq_right, mul-div_cancel}
use Rattle.std.proofs.lemmas.Bool.{cases_lt}
use Rattle.std.proofs.lemmas.Nat.{mul-le, pow_pos}
use Rattle.qm_model.specs.Batches.{Commitment}
use Rattle.qm_model.specs.Grafted.{needed_size, prunable_chunks, sync_boundary}
use Rattle.qm_model.specs.StoreModel.{Entry, Stored, metadata_in, pruned, with_metadata, IsOldOrNew, ReadsAs, Becomes}
use Rattle.qm_model.specs.Trees.{Shape}
use Rattle.qm_model.proofs.Results.{err-then, ok-then}
use Rattle.qm_model.proofs.Stores.{metadata_in-same}
use Rattle.qm_bits.specs.Bitmaps.{Bitmap, bit_count}
use Rattle.qm_store.specs.declared.Store as store
use Rattle.qm_store.specs.declared.refusal.Given.TheVariants as variants
use Rattle.qm_store.specs.Given.{store_given}
use Rattle.qm_roots.specs.Canonical.{Canonical, MayGo}
use Rattle.qm_roots.proofs.Going.{boundary-goes}
use Rattle.qm_any.specs.Databases as anys
use Rattle.qm_any.specs.Lasting as lasting
use Rattle.qm_any.specs.Lasting.{bits_from, cut_to, IsGivenUp}
use Rattle.qm_any.specs.Layouts.{Hashing, Layout}
use Rattle.qm_any.proofs.Lasting.{bits-first, count-kept, turns-behind}
use Rattle.qm_any.specs.Applying as anys_applying
use Rattle.qm_current.specs.Databases.{Database, IsCounted, IsJoined}
use Rattle.qm_current.specs.Lasting.{chunks_after, over_any, AreEntries, HasLasted, HasLeftPruned, HasLeftUncounted, HasPruned}
use Rattle.qm_current.proofs.Lasting.{Answer, AnyAnswer, entries-behind, err-over, name-same, ok-over, pruned-same, put-counted, uncounted-behind}

-- the greater of two numbers that are less
max-less : (a b n : ℕ) → a < n → b < n → max a b < n
max-less a b n one other = ⊎_elim
    (λ (less : a < b). subst (λ m. m < n) (sym (max-eq_right (omega (arith, less)))) other)
    (λ (most : b ≤ a). subst (λ m. m < n) (sym (max-eq_left most)) one)
    (cases_lt a b)

-- a log that starts in the chunk after the pruned ones does so after a prune
pub over-after : (start to chunks w : ℕ) → 0 < w → start < suc chunks * w → max start to < suc (max chunks (to / w)) * w
over-after start to chunks w some less = ⊎_elim
    (λ (beyond : chunks < to / w).
    let wide = mul-le (suc chunks) w (suc (to / w)) w (omega (arith, beyond)) (le_refl w) in
    subst (λ c. max start to < suc c * w) (sym (max-eq_right (omega (arith, beyond)))) (max-less start to (suc (to / w) * w) (omega (arith, less, wide)) (omega (arith, near))))
    (λ (within : to / w ≤ chunks).
    let wide = mul-le (suc (to / w)) w (suc chunks) w (omega (arith, within)) (le_refl w) in
    subst (λ c. max start to < suc c * w) (sym (max-eq_left within)) (max-less start to (suc chunks * w) less (omega (arith, near, wide))))
    (cases_lt chunks (to / w))
  where
    near : to < to / w * w + w
    near = lt-div-mul-add some

-- no more chunks go by a prune up to the boundary than may go
pub go-after : (shape : Shape) (g w : ℕ) → 2 ^ g ≡ w → ((few more : ℕ) → few ≤ more → needed_size shape g (suc few) ≤ needed_size shape g (suc more)) → (floor n chunks to : ℕ) → MayGo shape g chunks n → to ≤ sync_boundary shape g floor n
    → MayGo shape g (max chunks (to / w)) n
go-after shape g w span rising floor n chunks to goes low = ⊎_elim
    (λ (beyond : chunks < to / w).
    let whole : to / w * w ≤ sync_boundary shape g floor n = let below = div-mul-le_self to w in omega (arith, below, low) in
    subst (λ c. MayGo shape g c n) (sym (max-eq_right (omega (arith, beyond)))) (boundary-goes shape g rising floor n (to / w) (subst (λ v. to / w * v ≤ sync_boundary shape g floor n) (sym span) whole)))
    (λ (within : to / w ≤ chunks). subst (λ c. MayGo shape g c n) (sym (max-eq_left within)) goes)
    (cases_lt chunks (to / w))

-- a boundary goes by the chunk of its floor
pub from-chunks : (shape : Shape) (h g chunks start floor n : ℕ) → h ≡ g → start ≡ chunks * 2 ^ h → chunks ≡ floor / 2 ^ g → sync_boundary shape h start n ≡ sync_boundary shape g floor n
from-chunks shape h g chunks start floor n same is of =
    ap (λ c. prunable_chunks shape h n c * 2 ^ h) (ap (λ m. m / 2 ^ h) is ∙ mul-div_cancel chunks (pow_pos h) ∙ of) ∙ ap (λ k. prunable_chunks shape k n (floor / 2 ^ g) * 2 ^ k) same

-- as many chunks are pruned before
pub fewer-before : (start chunks more : ℕ) → start ≡ chunks → start ≤ max chunks more
fewer-before start chunks more same = ⊎_elim
    (λ (less : chunks < more). subst (λ m. start ≤ m) (sym (max-eq_right (omega (arith, less)))) (omega (arith, less, same)))
    (λ (most : more ≤ chunks). subst (λ m. start ≤ m) (sym (max-eq_left most)) (omega (arith, same)))
    (cases_lt chunks more)

module _ {C D : Type 0} (members : store.Ghosts C) where
  -- a prune after a call, of an any database
  any-pruned-behind : (layout : Layout D) (f more : Stored → Stored) (to : ℕ) (self middle db : anys.Database C D) → lasting.HasLasted members layout.hashing f self middle → lasting.HasPruned members layout more to middle db → lasting.HasPruned members layout (λ s. more (f s)) to self db
  any-pruned-behind layout f more to self middle db last cut = record {
    rest = cut.rest ∙ ap (λ (x : anys.Database C D). record x { log = db.log; activity = bits_from layout.chunk to x.activity }) last.rest;
    start = cut.start ∙ ap (λ t. max t.start to) last.tree;
    size = cut.size ∙ ap (λ t. t.leaves) last.tree;
    head = cut.head;
    heads = λ less items logged. cut.heads (omega (arith, less, ap (λ t. t.start) last.tree)) items (last.stands items logged);
    told = subst (λ n. Becomes (members.told self.log.store) (members.told db.log.store) (λ s. cut_to n to cut.head (more (f s)))) (ap (λ t. t.start) last.tree)
        (turns-behind (members.told self.log.store) (members.told middle.log.store) (members.told db.log.store) f (λ s t. t ≡ cut_to middle.log.tree.start to cut.head (more s)) last.store.told cut.told);
    later = omega (arith, last.later, cut.later);
  }

  -- and one that failed
  any-left-behind : (hashing : Hashing D) (f more : Stored → Stored) (to : ℕ) (self middle : anys.Database C D) (new : C) → lasting.HasLasted members hashing f self middle → lasting.HasLeftPruned members hashing more to middle.log new → lasting.HasLeftPruned members hashing (λ s. more (f s)) to self.log new
  any-left-behind hashing f more to self middle new last left = record {
    past = omega (arith, left.past, ap (λ t. t.start) last.tree);
    within = omega (arith, left.within, last.store.«end»);
    head = left.head;
    heads = λ items logged. left.heads items (last.stands items logged);
    told = turns-behind (members.told self.log.store) (members.told middle.log.store) (members.told new) f (λ s. lasting.FailsPrune to left.head (more s)) last.store.told left.told;
  }

  module _ (layout : Layout D) where
    -- the numbers agree after a prune
    pub pruned-joined : (f : Stored → Stored) (to : ℕ) (old : Database C D) (new : anys.Database C D) (own : Canonical D) → 0 < 8 * layout.chunk → to ≤ old.any.commitment.size → lasting.HasPruned members layout f to old.any new
        → own.size ≡ old.canonical.size → own.tree.start ≡ chunks_after layout.chunk to old → IsJoined layout.chunk old → IsJoined layout.chunk (record old { any = new; canonical = own })
    pruned-joined f to old new own some within cut size forgotten joined =
        let chunk = layout.chunk in
        let commitment : new.commitment ≡ old.any.commitment = ap (λ (d : anys.Database C D). d.commitment) cut.rest in
        let activity : new.activity ≡ bits_from chunk to old.any.activity = ap (λ (d : anys.Database C D). d.activity) cut.rest in
        let sizes = ap (λ (c : Commitment). c.size) commitment in
        record {
          size_is = size ∙ joined.size_is ∙ sym sizes;
          bits = subst (λ a. bit_count chunk a ≡ new.commitment.size) (sym activity) (count-kept chunk to old.any.activity (subst (λ n. to ≤ n) (sym joined.bits) within) ∙ joined.bits ∙ sym sizes);
          forgotten = forgotten ∙ sym (ap (λ (m : Bitmap). m.pruned) activity);
          over = subst (λ a. new.log.tree.start < suc a.pruned * (8 * chunk)) (sym activity)
              (subst (λ n. n < suc (chunks_after chunk to old) * (8 * chunk)) (sym cut.start) (over-after old.any.log.tree.start to old.any.activity.pruned (8 * chunk) some joined.over));
        }

    -- what the calls of a prune make of a database, one after the other
    pub cut-made : (to : ℕ) (self : Database C D) (own : Canonical D) (put dropped cut : anys.Database C D) (entries : List Entry) → AreEntries layout self.canonical (chunks_after layout.chunk to self) entries
        → lasting.HasLasted members layout.hashing (with_metadata self.name entries) self.any put → dropped ≡ record put { activity = bits_from layout.chunk to put.activity } → lasting.HasPrunedLog members layout.hashing to dropped cut
        → own.tree.start ≡ chunks_after layout.chunk to self → own ≡ record self.canonical { tree = own.tree } → HasPruned members layout (λ s. s) to self (record self { any = cut; canonical = own })
    cut-made to self own put dropped cut entries counts last bits gone forgotten rest = record {
      entries = entries;
      counts = counts;
      any = any-pruned-behind layout (with_metadata self.name entries) (λ s. s) to self.any put cut last (bits-first members layout to put dropped cut bits gone);
      forgotten = forgotten;
      rest = ap (λ (k : Canonical D). record self { any = cut; canonical = k }) rest;
    }

    -- and leave if the last of them failed
    pub cut-left : (to : ℕ) (self : Database C D) (put dropped : anys.Database C D) (entries : List Entry) (new : C) → AreEntries layout self.canonical (chunks_after layout.chunk to self) entries
        → lasting.HasLasted members layout.hashing (with_metadata self.name entries) self.any put → dropped ≡ record put { activity = bits_from layout.chunk to put.activity } → lasting.HasLeftPruned members layout.hashing (λ s. s) to dropped.log new
        → HasLeftPruned members layout (λ s. s) to self new
    cut-left to self put dropped entries new counts last bits left = record {
      entries = entries;
      counts = counts;
      any = any-left-behind layout.hashing (with_metadata self.name entries) (λ s. s) to self.any put new last
          (subst (λ (d : anys.Database C D). lasting.HasLeftPruned members layout.hashing (λ s. s) to d.log new) bits left);
    }

    module _ (to : ℕ) (self : Database C D) (own : Canonical D) (put dropped : anys.Database C D) (entries : List Entry) (counts : AreEntries layout self.canonical (chunks_after layout.chunk to self) entries)
        (last : lasting.HasLasted members layout.hashing (with_metadata self.name entries) self.any put) (bits : dropped ≡ record put { activity = bits_from layout.chunk to put.activity })
        (done : AnyAnswer C D) where
      -- the numbers agree
      pub over-cut-joined : 0 < 8 * layout.chunk → to ≤ self.any.commitment.size → IsJoined layout.chunk self → own.tree.start ≡ chunks_after layout.chunk to self → own ≡ record self.canonical { tree = own.tree } → IfOk done (lasting.HasPrunedLog members layout.hashing to dropped)
          → IfOk done (λ any. IsJoined layout.chunk (record self { any = any; canonical = own }))
      over-cut-joined some within joined forgotten rest gone =
          ok-then done gone (λ x cut. pruned-joined (with_metadata self.name entries) to self x own some within
          (any-pruned-behind layout (with_metadata self.name entries) (λ s. s) to self.any put x last (bits-first members layout to put dropped x bits cut)) (ap (λ (k : Canonical D). k.size) rest) forgotten joined)

      -- what comes of them
      pub over-cut : (result : Answer C D) → result ≡ over_any own self.instance self.name done → IfOk done (lasting.HasPrunedLog members layout.hashing to dropped) → own.tree.start ≡ chunks_after layout.chunk to self → own ≡ record self.canonical { tree = own.tree } → IfOk result (HasPruned members layout (λ s. s) to self)
      over-cut result is gone forgotten rest =
          ok-over own self.instance self.name done result (HasPruned members layout (λ s. s) to self) is (ok-then done gone (λ x cut. cut-made to self own put dropped x entries counts last bits cut forgotten rest))

      pub over-uncut : (result : Answer C D) → result ≡ over_any own self.instance self.name done → IfErr done (IsGivenUp members (λ _. lasting.HasLeftPruned members layout.hashing (λ s. s) to dropped.log) dropped.log.store)
          → IfErr result (IsGivenUp members (λ _ new. HasLeftUncounted members layout (λ s. s) (chunks_after layout.chunk to self) self new ⊎ HasLeftPruned members layout (λ s. s) to self new) self.any.log.store)
      over-uncut result is up =
          err-over own self.instance self.name done result
          (IsGivenUp members (λ _ new. HasLeftUncounted members layout (λ s. s) (chunks_after layout.chunk to self) self new ⊎ HasLeftPruned members layout (λ s. s) to self new) self.any.log.store) is
          (err-then done up (λ r given. record {
            store = given.store;
            given = ap (λ g. variants.Store (store_given anys_applying.store_in g)) given.given;
            left = inr (cut-left to self put dropped entries given.store counts last bits given.left);
            never = given.never;
            cause = record {
              later = omega (arith, last.later, faults, given.cause.later);
              failed = λ fault. omega (arith, last.later, faults, given.cause.failed fault);
            };
          }))
        where
          faults : members.faults dropped.log.store ≡ members.faults put.log.store
          faults = ap (λ (d : anys.Database C D). members.faults d.log.store) bits

    -- metadata counts what went
    pub counted-cut : (f : Stored → Stored) (to : ℕ) (old new : Database C D) → HasPruned members layout f to old new → IsCounted members new
    counted-cut f to old new cut =
        put-counted (members.told old.any.log.store) (members.told new.any.log.store) old.name new.name cut.entries (λ s. cut_to old.any.log.tree.start to cut.any.head (with_metadata old.name cut.entries (f s))) (chunks_after layout.chunk to old) new.any.activity.pruned cut.any.told
        (λ s. by (nat_lt old.any.log.tree.start to) s) (ap (λ (d : Database C D). d.name) cut.rest) cut.counts.count_is (ap (λ (d : anys.Database C D). d.activity.pruned) cut.any.rest)
      where
        by : (b : Bool) (s : Stored) → metadata_in (if b then pruned to cut.any.head (with_metadata old.name cut.entries (f s)) else with_metadata old.name cut.entries (f s)).metadata old.name ≡ cut.entries
        by true s = metadata_in-same old.name cut.entries (f s)
        by false s = metadata_in-same old.name cut.entries (f s)

    -- a prune after a call
    pub pruned-behind : (f : Stored → Stored) (to : ℕ) (old middle new : Database C D) → HasLasted members layout f old middle → HasPruned members layout (λ s. s) to middle new → HasPruned members layout f to old new
    pruned-behind f to old middle new last cut =
        let same = ap (λ n. max n (to / (8 * layout.chunk))) (pruned-same members layout f old middle last) in
        record {
          entries = cut.entries;
          counts = entries-behind members layout f (chunks_after layout.chunk to old) (chunks_after layout.chunk to middle) cut.entries old middle last same cut.counts;
          any = subst (λ n. lasting.HasPruned members layout (λ s. with_metadata n cut.entries (f s)) to old.any new.any) (name-same members layout f old middle last)
              (any-pruned-behind layout f (λ s. with_metadata middle.name cut.entries s) to old.any middle.any new.any last.any cut.any);
          forgotten = cut.forgotten ∙ same;
          rest = cut.rest ∙ ap (λ (x : Database C D). record x { any = new.any; canonical = record x.canonical { tree = new.canonical.tree } }) last.rest;
        }

    -- and one that failed
    pub left-pruned-behind : (f : Stored → Stored) (to : ℕ) (old middle : Database C D) (new : C) → HasLasted members layout f old middle → HasLeftPruned members layout (λ s. s) to middle new → HasLeftPruned members layout f to old new
    left-pruned-behind f to old middle new last left =
        let same = ap (λ n. max n (to / (8 * layout.chunk))) (pruned-same members layout f old middle last) in
        record {
          entries = left.entries;
          counts = entries-behind members layout f (chunks_after layout.chunk to old) (chunks_after layout.chunk to middle) left.entries old middle last same left.counts;
          any = subst (λ n. lasting.HasLeftPruned members layout.hashing (λ s. with_metadata n left.entries (f s)) to old.any.log new) (name-same members layout f old middle last)
              (any-left-behind layout.hashing f (λ s. with_metadata middle.name left.entries s) to old.any middle.any new last.any left.any);
        }

    -- whichever it left
    pub left-behind : (f : Stored → Stored) (to : ℕ) (old middle : Database C D) (new : C) → HasLasted members layout f old middle → HasLeftUncounted members layout (λ s. s) (chunks_after layout.chunk to middle) middle new ⊎ HasLeftPruned members layout (λ s. s) to middle new
        → HasLeftUncounted members layout f (chunks_after layout.chunk to old) old new ⊎ HasLeftPruned members layout f to old new
    left-behind f to old middle new last (inl left) =
        inl (uncounted-behind members layout f (chunks_after layout.chunk to old) (chunks_after layout.chunk to middle) old middle new last (ap (λ n. max n (to / (8 * layout.chunk))) (pruned-same members layout f old middle last)) left)
    left-behind f to old middle new last (inr left) = inr (left-pruned-behind f to old middle new last left)
