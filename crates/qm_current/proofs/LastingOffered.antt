-- What makes an offered current database last, as an offer says it.
use Rattle.std.proofs.Common.{◌≡◌, ◌⊎◌, ◌∙◌, ◌<◌, ◌*◌, ◌/◌, ◌^◌, ℕ, Bool, true, false, List, Option, None, Some, IfSome, Result, Ok, Err, IfOk, ap, ap₂, subst, sym, refl, inl, inr}
use Rattle.std.specs.Prelude.{max, nat_lt, bytes_eq, if◌then◌else◌}
use Rattle.qm_model.specs.Operations.{Bytes, Operation}
use Rattle.qm_model.specs.Opening.{count_in}
use Rattle.qm_model.specs.Schemes.{Scheme}
use Rattle.qm_model.specs.StoreModel.{Entry, Stored, end_of, metadata_in, pruned, settled, with_metadata, IsImage, IsOldOrNew, ReadsAs, Becomes, Turns}
use Rattle.qm_model.specs.Taken.{counted_in, with_count, synced, before_prune, after_prune, LeavesPrune, LeavesSync, StaysBeside}
use Rattle.qm_model.proofs.LastWrites.{bytes_same}
use Rattle.qm_model.proofs.Stores.{leaves-now, metadata_in-other}
use Rattle.qm_graft.specs.Grafting.{grafting}
use Rattle.qm_store.specs.declared.Store as store
use Rattle.qm_any.specs.Lasting.{cut_to, FailsPrune, HasLeftStable}
use Rattle.qm_any.specs.Layouts.{Layout}
use Rattle.qm_any.proofs.Lasting.{reads-itself}
use Rattle.qm_current.specs.Applying.{store_in}
use Rattle.qm_current.specs.Databases.{Database, IsCounted, IsDatabase}
use Rattle.qm_current.specs.Lasting as lasts
use Rattle.qm_current.specs.Lasting.{AreEntries, FailsPut, HasLeftPruned, HasLeftUncounted}
use Rattle.qm_current.specs.Offered.{IsOffered, offered_name, scheme_of}

-- what is so of what a store tells turns with it
turned-with : (o new : Option Stored) (P : Stored → Type 0) (R Q : Stored → Stored → Type 0) → IfSome o P → ((s t : Stored) → P s → R s t → Q s t) → Turns o new R → Turns o new Q
turned-with None new P R Q p each is = is
turned-with (Some s) None P R Q p each is = absurd is
turned-with (Some s) (Some t) P R Q p each is = each s t p is

turned-each : (o new : Option Stored) (R Q : Stored → Stored → Type 0) → ((s t : Stored) → R s t → Q s t) → Turns o new R → Turns o new Q
turned-each None new R Q each is = is
turned-each (Some s) None R Q each is = absurd is
turned-each (Some s) (Some t) R Q each is = each s t is

false-true : false ≡ true → ⊥
false-true is = absurd (cc is)

-- What stands beside a count.
module _ {D : Type 0} (size : ℕ) (layout : Layout D) where
  abbrev m : Scheme
  m = scheme_of size layout offered_name

  -- if all of it stays
  all-beside : (s t : Stored) → t.metadata ≡ s.metadata → t.ends ≡ s.ends → StaysBeside m s t
  all-beside s t metadata ends = record { metadata = λ name other. ap (λ ms. metadata_in ms name) metadata; ends = ends }

  -- and if another count was put
  put-beside : (s t : Stored) (entries : List Entry) → t.metadata ≡ (with_metadata offered_name entries s).metadata → t.ends ≡ s.ends → StaysBeside m s t
  put-beside s t entries metadata ends = record {
    metadata = λ name other.
        ap (λ ms. metadata_in ms name) metadata
        ∙ metadata_in-other offered_name name entries s (λ same. false-true (sym other ∙ ap (λ n. bytes_eq n offered_name) same ∙ bytes_same offered_name));
    ends = ends;
  }

  image-beside : (s image : Stored) (n : ℕ) (t : Stored) → IsImage s image → t ≡ record image { stable = t.stable; past = t.past } → (t.metadata ≡ s.metadata) × (t.ends ≡ s.ends)
  image-beside s image n t i reads = (ap (λ x. x.metadata) reads ∙ ap (λ x. x.metadata) i.same, ap (λ x. x.ends) reads ∙ ap (λ x. x.ends) i.same)

  pub settled-beside : (o new : Option Stored) → Becomes o new settled → Turns o new (StaysBeside m)
  settled-beside o new is = turned-each o new (λ s t. t ≡ settled s) (StaysBeside m) (λ s t e. all-beside s t (ap (λ x. x.metadata) e) (ap (λ x. x.ends) e)) is

  pub stable-beside : (o new : Option Stored) → Turns o new (λ s. ReadsAs s.stable (IsImage s)) → Turns o new (StaysBeside m)
  stable-beside o new is = turned-each o new (λ s. ReadsAs s.stable (IsImage s)) (StaysBeside m) (λ s t r. let same = image-beside s r.image 0 t r.left r.reads in all-beside s t same.0 same.1) is

  pub counted-beside : (o new : Option Stored) (name : Bytes) (entries : List Entry) → name ≡ offered_name → Becomes o new (λ s. with_metadata name entries (settled s)) → Turns o new (StaysBeside m)
  counted-beside o new name entries named is =
      turned-each o new (λ s t. t ≡ with_metadata offered_name entries (settled s)) (StaysBeside m) (λ s t e. put-beside s t entries (ap (λ x. x.metadata) e) (ap (λ x. x.ends) e))
      (subst (λ n. Becomes o new (λ s. with_metadata n entries (settled s))) named is)

  pub cut-beside : (o new : Option Stored) (name : Bytes) (entries : List Entry) (start to : ℕ) (head : Bytes) → name ≡ offered_name → Becomes o new (λ s. cut_to start to head (with_metadata name entries (settled s))) → Turns o new (StaysBeside m)
  cut-beside o new name entries start to head named is =
      turned-each o new (λ s t. t ≡ cut_to start to head (with_metadata offered_name entries (settled s))) (StaysBeside m) (λ s t e. by s t (nat_lt start to) e)
      (subst (λ n. Becomes o new (λ s. cut_to start to head (with_metadata n entries (settled s)))) named is)
    where
      by : (s t : Stored) (b : Bool) → t ≡ (if b then pruned to head (with_metadata offered_name entries (settled s)) else with_metadata offered_name entries (settled s)) → StaysBeside m s t
      by s t true e = put-beside s t entries (ap (λ x. x.metadata) e) (ap (λ x. x.ends) e)
      by s t false e = put-beside s t entries (ap (λ x. x.metadata) e) (ap (λ x. x.ends) e)

  old-new-beside : (o new : Option Stored) (entries : List Entry) → Turns o new (λ s. ReadsAs (end_of s) (IsOldOrNew (with_metadata offered_name entries) (settled s))) → Turns o new (StaysBeside m)
  old-new-beside o new entries is = turned-each o new (λ s. ReadsAs (end_of s) (IsOldOrNew (with_metadata offered_name entries) (settled s))) (StaysBeside m) (λ s t r. at s t r r.left) is
    where
      at : (s t : Stored) (r : ReadsAs (end_of s) (IsOldOrNew (with_metadata offered_name entries) (settled s)) t) → IsOldOrNew (with_metadata offered_name entries) (settled s) r.image → StaysBeside m s t
      at s t r (inl i) = let same = image-beside (settled s) r.image 0 t i r.reads in all-beside s t same.0 same.1
      at s t r (inr i) = let same = image-beside (with_metadata offered_name entries (settled s)) r.image 0 t i r.reads in put-beside s t entries same.0 same.1

  cut-left-beside : (o new : Option Stored) (entries : List Entry) (to : ℕ) (head : Bytes) → Turns o new (λ s. ReadsAs (end_of s) (IsOldOrNew (pruned to head) (with_metadata offered_name entries (settled s)))) → Turns o new (StaysBeside m)
  cut-left-beside o new entries to head is = turned-each o new (λ s. ReadsAs (end_of s) (IsOldOrNew (pruned to head) (with_metadata offered_name entries (settled s)))) (StaysBeside m) (λ s t r. at s t r r.left) is
    where
      at : (s t : Stored) (r : ReadsAs (end_of s) (IsOldOrNew (pruned to head) (with_metadata offered_name entries (settled s))) t) → IsOldOrNew (pruned to head) (with_metadata offered_name entries (settled s)) r.image → StaysBeside m s t
      at s t r (inl i) = let same = image-beside (with_metadata offered_name entries (settled s)) r.image 0 t i r.reads in put-beside s t entries same.0 same.1
      at s t r (inr i) = let same = image-beside (pruned to head (with_metadata offered_name entries (settled s))) r.image 0 t i r.reads in put-beside s t entries same.0 same.1

  module _ {C : Type 0} (members : store.Ghosts C) (old : Database C D) (named : old.name ≡ offered_name) (new : C) where
    pub failed-beside : HasLeftStable members (store_in old) new → Turns (members.told (store_in old)) (members.told new) (StaysBeside m)
    failed-beside left = stable-beside (members.told (store_in old)) (members.told new) (leaves-now (members.told (store_in old)) (members.told new) (λ s. ReadsAs s.stable (IsImage s)) (λ s. ReadsAs s.stable (IsImage s)) left.told)

    pub uncounted-beside : (count : ℕ) → HasLeftUncounted members layout settled count old new → Turns (members.told (store_in old)) (members.told new) (StaysBeside m)
    uncounted-beside count (inl made) = settled-beside (members.told (store_in old)) (members.told new) made.told
    uncounted-beside count (inr left) =
        old-new-beside (members.told (store_in old)) (members.told new) left.entries
        (subst (λ n. Turns (members.told (store_in old)) (members.told new) (λ s. ReadsAs (end_of s) (IsOldOrNew (with_metadata n left.entries) (settled s)))) named
        (turned-each (members.told (store_in old)) (members.told new) (λ s. FailsPut old.name left.entries (settled s)) (λ s. ReadsAs (end_of s) (IsOldOrNew (with_metadata old.name left.entries) (settled s))) (λ s t failed. failed.now) left.told))

    pub unpruned-beside : (to : ℕ) → HasLeftPruned members layout settled to old new → Turns (members.told (store_in old)) (members.told new) (StaysBeside m)
    unpruned-beside to left =
        cut-left-beside (members.told (store_in old)) (members.told new) left.entries to left.any.head
        (subst (λ n. Turns (members.told (store_in old)) (members.told new) (λ s. ReadsAs (end_of s) (IsOldOrNew (pruned to left.any.head) (with_metadata n left.entries (settled s))))) named
        (turned-each (members.told (store_in old)) (members.told new) (λ s. FailsPrune to left.any.head (with_metadata old.name left.entries (settled s)))
        (λ s. ReadsAs (end_of s) (IsOldOrNew (pruned to left.any.head) (with_metadata old.name left.entries (settled s)))) (λ s t failed. failed.now) left.any.told))

  -- What becomes of the store of a database that stands for a list.
  module _ {C : Type 0} (members : store.Ghosts C) (old : Database C D) (list : List Operation) (is : IsOffered members layout old list) where
    counts : IfSome (members.told (store_in old)) (λ s. counted_in m s ≡ old.any.activity.pruned)
    counts = subst (λ n. IfSome (members.told (store_in old)) (λ s. count_in (metadata_in s.metadata n) ≡ old.any.activity.pruned)) is.named is.counted

    put-same : (count : ℕ) (entries : List Entry) (s : Stored) → AreEntries layout old.canonical count entries → with_metadata old.name entries s ≡ with_count m list count s
    put-same count entries s are = ap₂ (λ n es. with_metadata n es s) is.named (are.pins list is.at.canonical)

    -- after a call that counts, of which the number of chunks goes by the one before
    put-is : (more : ℕ → ℕ) (entries : List Entry) (s : Stored) → AreEntries layout old.canonical (more old.any.activity.pruned) entries → counted_in m s ≡ old.any.activity.pruned
        → with_metadata old.name entries (settled s) ≡ with_count m list (more (counted_in m s)) (settled s)
    put-is more entries s are counted = put-same (more old.any.activity.pruned) entries (settled s) are ∙ ap (λ n. with_count m list (more n) (settled s)) (sym counted)

    pub synced-told : (new : Option Stored) (entries : List Entry) → AreEntries layout old.canonical old.any.activity.pruned entries → Becomes (members.told (store_in old)) new (λ s. with_metadata old.name entries (settled s))
        → Turns (members.told (store_in old)) new (λ s t. t ≡ synced m list s)
    synced-told new entries are made =
        turned-with (members.told (store_in old)) new (λ s. counted_in m s ≡ old.any.activity.pruned) (λ s t. t ≡ with_metadata old.name entries (settled s)) (λ s t. t ≡ synced m list s) counts
        (λ s t counted e. e ∙ put-is (λ n. n) entries s are counted) made

    -- what is left if it was not put, or put
    uncounted-told : (more : ℕ → ℕ) (new : C) → HasLeftUncounted members layout settled (more old.any.activity.pruned) old new
        → Turns (members.told (store_in old)) (members.told new) (λ s. ReadsAs (end_of s) (IsOldOrNew (with_count m list (more (counted_in m s))) (settled s)))
    uncounted-told more new (inl made) =
        turned-each (members.told (store_in old)) (members.told new) (λ s t. t ≡ settled s) (λ s. ReadsAs (end_of s) (IsOldOrNew (with_count m list (more (counted_in m s))) (settled s)))
        (λ s t e. subst (λ x. ReadsAs (end_of s) (IsOldOrNew (with_count m list (more (counted_in m s))) (settled s)) x) (sym e) (reads-itself (with_count m list (more (counted_in m s))) (settled s) refl)) made.told
    uncounted-told more new (inr left) =
        turned-with (members.told (store_in old)) (members.told new) (λ s. counted_in m s ≡ old.any.activity.pruned) (λ s. FailsPut old.name left.entries (settled s))
        (λ s. ReadsAs (end_of s) (IsOldOrNew (with_count m list (more (counted_in m s))) (settled s))) counts
        (λ s t counted failed. let r = failed.now in record { image = r.image; left = either s r.image counted r.left; reads = r.reads; least_stable = r.least_stable; within = r.within }) left.told
      where
        either : (s image : Stored) → counted_in m s ≡ old.any.activity.pruned → IsOldOrNew (with_metadata old.name left.entries) (settled s) image → IsOldOrNew (with_count m list (more (counted_in m s))) (settled s) image
        either s image counted (inl i) = inl i
        either s image counted (inr i) = inr (subst (λ x. IsImage x image) (put-is more left.entries s left.counts counted) i)

    pub sync-left : (new : C) → HasLeftStable members (store_in old) new ⊎ HasLeftUncounted members layout settled old.any.activity.pruned old new → Turns (members.told (store_in old)) (members.told new) (LeavesSync m list)
    sync-left new (inl left) =
        turned-each (members.told (store_in old)) (members.told new) (λ s. ReadsAs s.stable (IsImage s)) (LeavesSync m list) (λ s t r. inl r)
        (leaves-now (members.told (store_in old)) (members.told new) (λ s. ReadsAs s.stable (IsImage s)) (λ s. ReadsAs s.stable (IsImage s)) left.told)
    sync-left new (inr left) =
        turned-each (members.told (store_in old)) (members.told new) (λ s. ReadsAs (end_of s) (IsOldOrNew (with_count m list (counted_in m s)) (settled s))) (LeavesSync m list) (λ s t r. inr r)
        (uncounted-told (λ n. n) new left)

    module _ (span : 2 ^ grafting layout.chunk ≡ 8 * layout.chunk) (to : ℕ) where
      after : ℕ → ℕ
      after n = max n (to / 2 ^ grafting layout.chunk)

      after-same : (entries : List Entry) → AreEntries layout old.canonical (lasts.chunks_after layout.chunk to old) entries → AreEntries layout old.canonical (max old.any.activity.pruned (to / 2 ^ grafting layout.chunk)) entries
      after-same entries are = subst (λ w. AreEntries layout old.canonical (max old.any.activity.pruned (to / w)) entries) (sym span) are

      before-is : (entries : List Entry) (s : Stored) → AreEntries layout old.canonical (lasts.chunks_after layout.chunk to old) entries → counted_in m s ≡ old.any.activity.pruned
          → with_metadata old.name entries (settled s) ≡ before_prune m list to s
      before-is entries s are counted = put-is (λ n. max n (to / 2 ^ grafting layout.chunk)) entries s (after-same entries are) counted

      pub pruned-told : (new : Option Stored) (entries : List Entry) (start first : ℕ) (head : Bytes) → AreEntries layout old.canonical (lasts.chunks_after layout.chunk to old) entries → first ≡ start
          → Becomes (members.told (store_in old)) new (λ s. cut_to first to head (with_metadata old.name entries (settled s)))
          → Turns (members.told (store_in old)) new (λ s t. t ≡ after_prune m list start to head s)
      pruned-told new entries start first head are same made =
          turned-with (members.told (store_in old)) new (λ s. counted_in m s ≡ old.any.activity.pruned) (λ s t. t ≡ cut_to first to head (with_metadata old.name entries (settled s))) (λ s t. t ≡ after_prune m list start to head s) counts
          (λ s t counted e. e ∙ ap (λ n. cut_to n to head (with_metadata old.name entries (settled s))) same ∙ ap (λ x. cut_to start to head x) (before-is entries s are counted)) made

      -- the same of a prune that failed, by the metadata
      pub prune-left : (start : ℕ) (IsHead : Bytes → Type 0) (new : C) → HasLeftStable members (store_in old) new ⊎ HasLeftUncounted members layout settled (lasts.chunks_after layout.chunk to old) old new
          → Turns (members.told (store_in old)) (members.told new) (LeavesPrune m list start IsHead to)
      prune-left start IsHead new (inl left) =
          turned-each (members.told (store_in old)) (members.told new) (λ s. ReadsAs s.stable (IsImage s)) (LeavesPrune m list start IsHead to) (λ s t r. inl r)
          (leaves-now (members.told (store_in old)) (members.told new) (λ s. ReadsAs s.stable (IsImage s)) (λ s. ReadsAs s.stable (IsImage s)) left.told)
      prune-left start IsHead new (inr left) =
          turned-each (members.told (store_in old)) (members.told new) (λ s. ReadsAs (end_of s) (IsOldOrNew (with_count m list (max (counted_in m s) (to / 2 ^ grafting layout.chunk))) (settled s))) (LeavesPrune m list start IsHead to)
          (λ s t r. inr (inl r))
          (uncounted-told (λ n. max n (to / 2 ^ grafting layout.chunk)) new (subst (λ w. HasLeftUncounted members layout settled (max old.any.activity.pruned (to / w)) old new) (sym span) left))

      -- and after it
      pub prune-cut : (start : ℕ) (IsHead : Bytes → Type 0) (new : C) → old.any.log.tree.start ≡ start → (left : HasLeftPruned members layout settled to old new) → IsHead left.any.head
          → Turns (members.told (store_in old)) (members.told new) (LeavesPrune m list start IsHead to)
      prune-cut start IsHead new same left head =
          turned-with (members.told (store_in old)) (members.told new) (λ s. counted_in m s ≡ old.any.activity.pruned) (λ s. FailsPrune to left.any.head (with_metadata old.name left.entries (settled s)))
          (LeavesPrune m list start IsHead to) counts
          (λ s t counted failed. inr (inr (subst (λ n. n < to) same left.any.past, left.any.head, head, subst (λ x. ReadsAs (end_of s) (IsOldOrNew (pruned to left.any.head) x) t) (before-is left.entries s left.counts counted) failed.now)))
          left.any.told

module _ {C D : Type 0} (layout : Layout D) (members : store.Ghosts C) where
  -- an offered database has the offered name
  pub under-name : (self : Database C D) (list : List Operation) → IsOffered members layout self list → IsOffered members layout (record self { name = offered_name }) list
  under-name self list is = record {
    at = record { any = is.at.any; canonical = is.at.canonical };
    counted = subst (λ n. IfSome (members.told (store_in self)) (λ s. count_in (metadata_in s.metadata n) ≡ self.any.activity.pruned)) is.named is.counted;
    named = refl;
  }

  -- one that is opened with that name stands for what it is said to stand for
  pub opened-offered : {E : Type 0} (o : Option Stored) (r : Result (Database C D) E) (Taken : Stored → List Operation → Type 0) → IfSome o (λ s. (list : List Operation) → Taken s list → IfOk r (λ x. IsDatabase members layout x list))
      → IfOk r (IsCounted members) → IfOk r (λ x. x.name ≡ offered_name) → IfSome o (λ s. (list : List Operation) → Taken s list → IfOk r (λ x. IsOffered members layout x list))
  opened-offered None r Taken opened counted named = tt
  opened-offered (Some s) (Ok x) Taken opened counted named = λ list taken. record { at = opened list taken; counted = counted; named = named }
  opened-offered (Some s) (Err e) Taken opened counted named = λ list taken. tt
