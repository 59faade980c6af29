-- Current databases over any ones that calls left, and their metadata.
use Rattle.std.proofs.Common.{◌≡◌, ◌∙◌, ◌<◌, ◌*◌, ℕ, suc, List, ◌∷◌, Option, None, Some, IfSome, Result, Ok, Err, IfOk, IfErr, arith, ap, subst, sym, refl, le_refl, inl, inr}
use Rattle.std.specs.Prelude.{◌^◌, find, option_map, bytes_eq, unwrap_or, if◌then◌else◌}
use Rattle.qm_model.specs.Batches.{Commitment}
use Rattle.qm_model.specs.Forms.{number_of_eight}
use Rattle.qm_model.specs.Operations.{Bytes, Operation, eight_bytes}
use Rattle.qm_model.specs.Opening.{count_in, entry_of, metadata_key}
use Rattle.qm_model.specs.StoreModel.{Entry, Stored, end_of, metadata_in, with_metadata, IsOldOrNew, ReadsAs, Becomes, Turns}
use Rattle.qm_model.proofs.LastWrites.{bytes_same}
use Rattle.qm_model.proofs.Numbers.{number_of_eight-eight_bytes}
use Rattle.qm_model.proofs.Results.{err-then, ok-then}
use Rattle.qm_model.proofs.Stores.{metadata_in-same}
use Rattle.qm_base.specs.declared.error.Error.TheVariants as errors
use Rattle.qm_bits.specs.Bitmaps.{Bitmap, bit_count}
use Rattle.qm_store.specs.declared.Store as store
use Rattle.qm_store.specs.declared.refusal.Given.TheVariants as given
use Rattle.qm_store.specs.declared.refusal.Refusal.{Refusal}
use Rattle.qm_store.specs.Given.{store_given}
use Rattle.qm_store.specs.Log as logs
use Rattle.qm_roots.specs.Canonical.{Canonical}
use Rattle.qm_any.specs.Applying as anys_applying
use Rattle.qm_any.specs.Databases as anys
use Rattle.qm_any.specs.Lasting as lasting
use Rattle.qm_any.specs.Lasting.{IsGivenUp}
use Rattle.qm_any.specs.Layouts.{Hashing, Layout}
use Rattle.qm_any.proofs.Lasting.{turns-behind}
use Rattle.qm_any.proofs.Unapplied.{memory-cause}
use Rattle.qm_current.specs.Applying.{store_in}
use Rattle.qm_current.specs.Databases.{Database, IsCounted, IsDatabase, IsJoined}
use Rattle.qm_current.specs.Lasting.{given_up, over_any, AreEntries, FailsPut, HasCounted, HasLasted, HasLeftUncounted}

-- a count that was written is read
pub count-written : (count : ℕ) (back : List Entry) → count < 2 ^ 64 → count_in (record { key = metadata_key 1 0; value = eight_bytes count } ∷ back) ≡ count
count-written count back small =
    let e : Entry = record { key = metadata_key 1 0; value = eight_bytes count } in
    let first : entry_of (e ∷ back) (metadata_key 1 0) ≡ Some (eight_bytes count) = ap (λ t. option_map (λ (x : Entry). x.value) (if t then Some e else find (λ (x : Entry). bytes_eq x.key (metadata_key 1 0)) back)) (bytes_same (metadata_key 1 0)) in
    ap (λ o. number_of_eight (unwrap_or o (eight_bytes 0))) first ∙ number_of_eight-eight_bytes count small

-- metadata that was put counts what it counts
pub put-counted : (o new : Option Stored) (name after : Bytes) (entries : List Entry) (f : Stored → Stored) (count now : ℕ) → Becomes o new f → ((s : Stored) → metadata_in (f s).metadata name ≡ entries) → after ≡ name → count_in entries ≡ count → now ≡ count
    → IfSome new (λ s. count_in (metadata_in s.metadata after) ≡ now)
put-counted None new name after entries f count now is put named counts same = subst (λ n. IfSome n (λ s. count_in (metadata_in s.metadata after) ≡ now)) (sym is) tt
put-counted (Some s) None name after entries f count now is put named counts same = absurd is
put-counted (Some s) (Some t) name after entries f count now is put named counts same =
    ap (λ (x : Stored). count_in (metadata_in x.metadata after)) is ∙ ap (λ n. count_in (metadata_in (f s).metadata n)) named ∙ ap count_in (put s) ∙ counts ∙ sym same

-- all of a store is stable if it was before metadata was put
pub put-stable : (o new : Option Stored) (name : Bytes) (entries : List Entry) → Becomes o new (with_metadata name entries) → IfSome o (λ s. s.stable ≡ end_of s) → IfSome new (λ s. s.stable ≡ end_of s)
put-stable None new name entries is stable = subst (λ n. IfSome n (λ s. s.stable ≡ end_of s)) (sym is) tt
put-stable (Some s) None name entries is stable = absurd is
put-stable (Some s) (Some t) name entries is stable = ap (λ x. x.stable) is ∙ stable ∙ sym (ap end_of is)

-- a store that no call was made on
pub unmade : (o : Option Stored) → Becomes o o (λ s. s)
unmade None = refl
unmade (Some s) = refl

abbrev pub AnyAnswer : (C D : Type 0) → Type 0
AnyAnswer C D = Result (anys.Database C D) (Refusal (anys.Database C D) C)

abbrev pub Answer : (C D : Type 0) → Type 0
Answer C D = Result (Database C D) (Refusal (Database C D) C)

module _ {C D : Type 0} where
  -- the database of its parts
  abbrev pub of : anys.Database C D → Canonical D → ℕ → Bytes → Database C D
  of any canonical instance name = record { any = any; canonical = canonical; instance = instance; name = name }

  -- what holds of the database over an any one, or of the store that is given up, holds of what a call answers
  pub ok-over : (canonical : Canonical D) (instance : ℕ) (name : Bytes) (done : AnyAnswer C D) (result : Answer C D) (P : Database C D → Type 0) → result ≡ over_any canonical instance name done → IfOk done (λ any. P (of any canonical instance name)) → IfOk result P
  ok-over canonical instance name done result P is h = subst (λ r. IfOk r P) (sym is) (by done h)
    where
      by : (done : AnyAnswer C D) → IfOk done (λ any. P (of any canonical instance name)) → IfOk (over_any canonical instance name done) P
      by (Ok any) h = h
      by (Err r) h = tt

  pub err-over : (canonical : Canonical D) (instance : ℕ) (name : Bytes) (done : AnyAnswer C D) (result : Answer C D) (P : Refusal (Database C D) C → Type 0) → result ≡ over_any canonical instance name done → IfErr done (λ r. P (given_up r)) → IfErr result P
  err-over canonical instance name done result P is h = subst (λ r. IfErr r P) (sym is) (by done h)
    where
      by : (done : AnyAnswer C D) → IfErr done (λ r. P (given_up r)) → IfErr (over_any canonical instance name done) P
      by (Ok any) h = tt
      by (Err r) h = h

-- a store that is given up, by what is left of it
pub left-more : {C X : Type 0} (members : store.Ghosts C) (Left More : C → C → Type 0) (old : C) (r : Refusal X C) → ((new : C) → Left old new → More old new) → IsGivenUp members Left old r → IsGivenUp members More old r
left-more members Left More old r more up = record { store = up.store; given = up.given; left = more up.store up.left; never = up.never; cause = up.cause }

module _ {C D : Type 0} (members : store.Ghosts C) where
  -- the store that the any database gave up is given up
  pub lifted : (Left : C → C → Type 0) (old : C) (r : Refusal (anys.Database C D) C) → IsGivenUp members {X = anys.Database C D} Left old r → IsGivenUp members {X = Database C D} Left old (given_up r)
  lifted Left old r up = record {
    store = up.store;
    given = ap (λ g. given.Store (store_given anys_applying.store_in g)) up.given;
    left = up.left;
    never = up.never;
    cause = up.cause;
  }

  -- a call that left the numbers
  pub lasted-joined : (hashing : Hashing D) (f : Stored → Stored) (chunk : ℕ) (old : Database C D) (new : anys.Database C D) → lasting.HasLasted members hashing f old.any new → IsJoined chunk old → IsJoined chunk (record old { any = new })
  lasted-joined hashing f chunk old new last joined =
      let commitment : new.commitment ≡ old.any.commitment = ap (λ (d : anys.Database C D). d.commitment) last.rest in
      let activity : new.activity ≡ old.any.activity = ap (λ (d : anys.Database C D). d.activity) last.rest in
      let start : new.log.tree.start ≡ old.any.log.tree.start = ap (λ t. t.start) last.tree in
      record {
        size_is = joined.size_is ∙ sym (ap (λ (c : Commitment). c.size) commitment);
        bits = subst (λ a. bit_count chunk a ≡ new.commitment.size) (sym activity) (joined.bits ∙ sym (ap (λ (c : Commitment). c.size) commitment));
        forgotten = joined.forgotten ∙ sym (ap (λ (m : Bitmap). m.pruned) activity);
        over = subst (λ a. new.log.tree.start < suc a.pruned * (8 * chunk)) (sym activity) (subst (λ n. n < suc old.any.activity.pruned * (8 * chunk)) (sym start) joined.over);
      }

  -- a call after another
  pub lasted-behind : (hashing : Hashing D) (f more : Stored → Stored) (old middle new : anys.Database C D) → lasting.HasLasted members hashing f old middle → lasting.HasLasted members hashing more middle new → lasting.HasLasted members hashing (λ s. more (f s)) old new
  lasted-behind hashing f more old middle new first last = record {
    rest = last.rest ∙ ap (λ (x : anys.Database C D). record x { log = new.log }) first.rest;
    stands = λ items is. last.stands items (first.stands items is);
    tree = last.tree ∙ first.tree;
    store = record {
      start = last.store.start ∙ first.store.start;
      «end» = last.store.«end» ∙ first.store.«end»;
      told = turns-behind (members.told old.log.store) (members.told middle.log.store) (members.told new.log.store) f (λ s t. t ≡ more s) first.store.told last.store.told;
    };
    later = omega (arith, first.later, last.later);
  }

  module _ (layout : Layout D) where
    -- what is left if metadata was to be put
    pub put-left : (count : ℕ) (self : Database C D) (entries : List Entry) (new : C) → AreEntries layout self.canonical count entries → logs.HasLeft members (λ s. ReadsAs s.stable (IsOldOrNew (with_metadata self.name entries) s)) self.any.log.store new
        → HasLeftUncounted members layout (λ s. s) count self new
    put-left count self entries new counts left = inr (record {
      start = left.start;
      within = left.within;
      entries = entries;
      counts = counts;
      told = left.told;
    })

    -- and if memory lacked before
    pub lacking : (count : ℕ) (self : Database C D) (r : Refusal (Database C D) C) → r.given ≡ given.Store self.any.log.store → r.error ≡ errors.Memory → IsGivenUp members (λ _. HasLeftUncounted members layout (λ s. s) count self) self.any.log.store r
    lacking count self r back memory = record {
      store = self.any.log.store;
      given = back;
      left = inl (record { start = refl; «end» = refl; told = unmade (members.told self.any.log.store) });
      never = inl memory;
      cause = memory-cause (members.faults self.any.log.store) (members.faults self.any.log.store) r.error (le_refl (members.faults self.any.log.store)) memory;
    }

    module _ (self : Database C D) (any : anys.Database C D) (canonical : Canonical D) (instance : ℕ) (name : Bytes) (view : of any canonical instance name ≡ self) (done : AnyAnswer C D) (result : Answer C D) (is : result ≡ over_any canonical instance name done) where
      -- what a call leaves that makes the store another
      pub over-stands : (list : List Operation) → (anys.IsDatabase members layout any list → IfOk done (λ x. anys.IsDatabase members layout x list)) → IsDatabase members layout self list → IfOk result (λ db. IsDatabase members layout db list)
      over-stands list stands at =
          let own = subst (λ db. IsDatabase members layout db list) (sym view) at in
          ok-over canonical instance name done result (λ db. IsDatabase members layout db list) is (ok-then done (stands own.any) (λ x there. record { any = there; canonical = own.canonical }))

      pub over-lasted : (f : Stored → Stored) → IfOk done (lasting.HasLasted members layout.hashing f any) → IfOk result (HasLasted members layout f self)
      over-lasted f last =
          subst (λ db. IfOk result (HasLasted members layout f db)) view
          (ok-over canonical instance name done result (HasLasted members layout f (of any canonical instance name)) is (ok-then done last (λ x left. record { any = left; rest = refl })))

      pub over-refused : (Left : C → C → Type 0) → IfErr done (IsGivenUp members Left any.log.store) → IfErr result (IsGivenUp members Left self.any.log.store)
      over-refused Left up =
          subst (λ (db : Database C D). IfErr result (IsGivenUp members Left db.any.log.store)) view
          (err-over canonical instance name done result (IsGivenUp members Left any.log.store) is (by done up))
        where
          by : (done : AnyAnswer C D) → IfErr done (IsGivenUp members Left any.log.store) → IfErr done (λ r. IsGivenUp members Left any.log.store (given_up r))
          by (Ok x) up = tt
          by (Err r) up = lifted Left any.log.store r up

      -- and one that puts metadata
      pub over-counted : (entries : List Entry) → AreEntries layout canonical any.activity.pruned entries → IfOk done (lasting.HasLasted members layout.hashing (with_metadata name entries) any) → IfOk result (HasCounted members layout (λ s. s) self)
      over-counted entries counts put =
          subst (λ db. IfOk result (HasCounted members layout (λ s. s) db)) view
          (ok-over canonical instance name done result (HasCounted members layout (λ s. s) (of any canonical instance name)) is (ok-then done put (λ x left. record { entries = entries; counts = counts; any = left; rest = refl })))

      pub over-uncounted : (entries : List Entry) → AreEntries layout canonical any.activity.pruned entries → IfErr done (IsGivenUp members (logs.HasLeft members (λ s. ReadsAs s.stable (IsOldOrNew (with_metadata name entries) s))) any.log.store)
          → IfErr result (IsGivenUp members (λ _. HasLeftUncounted members layout (λ s. s) self.any.activity.pruned self) self.any.log.store)
      over-uncounted entries counts up =
          subst (λ (db : Database C D). IfErr result (IsGivenUp members (λ _. HasLeftUncounted members layout (λ s. s) db.any.activity.pruned db) db.any.log.store)) view
          (err-over canonical instance name done result (IsGivenUp members Uncounted any.log.store) is
          (err-then done up (λ r given. left-more members Left Uncounted any.log.store (given_up r) (λ new left. put-left any.activity.pruned (of any canonical instance name) entries new counts left) (lifted Left any.log.store r given))))
        where
          Left : C → C → Type 0
          Left = logs.HasLeft members (λ s. ReadsAs s.stable (IsOldOrNew (with_metadata name entries) s))

          Uncounted : C → C → Type 0
          Uncounted = λ _. HasLeftUncounted members layout (λ s. s) any.activity.pruned (of any canonical instance name)

    -- metadata counts what was put to count it
    pub counted-now : (f : Stored → Stored) (old new : Database C D) → HasCounted members layout f old new → IsCounted members new
    counted-now f old new put =
        put-counted (members.told old.any.log.store) (members.told new.any.log.store) old.name new.name put.entries (λ s. with_metadata old.name put.entries (f s)) old.any.activity.pruned new.any.activity.pruned put.any.store.told
        (λ s. metadata_in-same old.name put.entries (f s)) (ap (λ (d : Database C D). d.name) put.rest) put.counts.count_is (ap (λ (d : anys.Database C D). d.activity.pruned) put.any.rest)

    -- metadata counts what it counted, if a call left it
    pub lasted-counted : (f : Stored → Stored) (old new : Database C D) → ((s : Stored) → (f s).metadata ≡ s.metadata) → HasLasted members layout f old new → IsCounted members old → IsCounted members new
    lasted-counted f old new keeps last counted =
        at (members.told old.any.log.store) (members.told new.any.log.store) old.name new.name old.any.activity.pruned new.any.activity.pruned last.any.store.told (ap (λ (d : Database C D). d.name) last.rest) (ap (λ (d : anys.Database C D). d.activity.pruned) last.any.rest) counted
      where
        at : (o n : Option Stored) (name after : Bytes) (count now : ℕ) → Becomes o n f → after ≡ name → now ≡ count → IfSome o (λ s. count_in (metadata_in s.metadata name) ≡ count) → IfSome n (λ s. count_in (metadata_in s.metadata after) ≡ now)
        at None n name after count now is named same counted = subst (λ n. IfSome n (λ s. count_in (metadata_in s.metadata after) ≡ now)) (sym is) tt
        at (Some s) None name after count now is named same counted = absurd is
        at (Some s) (Some t) name after count now is named same counted =
            ap (λ (x : Stored). count_in (metadata_in x.metadata after)) is ∙ ap (λ ms. count_in (metadata_in ms after)) (keeps s) ∙ ap (λ n. count_in (metadata_in s.metadata n)) named ∙ counted ∙ sym same

    -- entries after a call count for what was there before
    pub entries-behind : (f : Stored → Stored) (count now : ℕ) (entries : List Entry) (old middle : Database C D) → HasLasted members layout f old middle → now ≡ count → AreEntries layout middle.canonical now entries → AreEntries layout old.canonical count entries
    entries-behind f count now entries old middle last same counts =
        subst (λ n. AreEntries layout old.canonical n entries) same (subst (λ (k : Canonical D). AreEntries layout k now entries) (ap (λ (d : Database C D). d.canonical) last.rest) counts)

    pub pruned-same : (f : Stored → Stored) (old middle : Database C D) → HasLasted members layout f old middle → middle.any.activity.pruned ≡ old.any.activity.pruned
    pruned-same f old middle last = ap (λ (d : anys.Database C D). d.activity.pruned) last.any.rest

    pub name-same : (f : Stored → Stored) (old middle : Database C D) → HasLasted members layout f old middle → middle.name ≡ old.name
    name-same f old middle last = ap (λ (d : Database C D). d.name) last.rest

    -- what is counted after a call
    pub counted-behind : (f : Stored → Stored) (old middle new : Database C D) → HasLasted members layout f old middle → HasCounted members layout (λ s. s) middle new → HasCounted members layout f old new
    counted-behind f old middle new last put = record {
      entries = put.entries;
      counts = entries-behind f old.any.activity.pruned middle.any.activity.pruned put.entries old middle last (pruned-same f old middle last) put.counts;
      any = subst (λ n. lasting.HasLasted members layout.hashing (λ s. with_metadata n put.entries (f s)) old.any new.any) (name-same f old middle last)
          (lasted-behind layout.hashing f (λ s. with_metadata middle.name put.entries s) old.any middle.any new.any last.any put.any);
      rest = put.rest ∙ ap (λ (x : Database C D). record x { any = new.any }) last.rest;
    }

    -- and what is left if that failed
    pub uncounted-behind : (f : Stored → Stored) (count now : ℕ) (old middle : Database C D) (new : C) → HasLasted members layout f old middle → now ≡ count → HasLeftUncounted members layout (λ s. s) now middle new → HasLeftUncounted members layout f count old new
    uncounted-behind f count now old middle new last same (inl made) = inl (record {
      start = made.start ∙ last.any.store.start;
      «end» = made.«end» ∙ last.any.store.«end»;
      told = turns-behind (members.told (store_in old)) (members.told (store_in middle)) (members.told new) f (λ s t. t ≡ s) last.any.store.told made.told;
    })
    uncounted-behind f count now old middle new last same (inr left) = inr (record {
      start = left.start ∙ last.any.store.start;
      within = omega (arith, left.within, last.any.store.«end»);
      entries = left.entries;
      counts = entries-behind f count now left.entries old middle last same left.counts;
      told = subst (λ n. Turns (members.told (store_in old)) (members.told new) (λ s. FailsPut n left.entries (f s))) (name-same f old middle last)
          (turns-behind (members.told (store_in old)) (members.told (store_in middle)) (members.told new) f (FailsPut middle.name left.entries) last.any.store.told left.told);
    })

    -- a refusal after a call
    pub cause-behind : {X : Type 0} (f : Stored → Stored) (Left More : C → C → Type 0) (old middle : Database C D) (r : Refusal X C) → HasLasted members layout f old middle → ((new : C) → Left middle.any.log.store new → More old.any.log.store new)
        → IsGivenUp members Left middle.any.log.store r → IsGivenUp members More old.any.log.store r
    cause-behind f Left More old middle r last more up = record {
      store = up.store;
      given = up.given;
      left = more up.store up.left;
      never = up.never;
      cause = record { later = omega (arith, last.any.later, up.cause.later); failed = λ fault. omega (arith, last.any.later, up.cause.failed fault) };
    }
