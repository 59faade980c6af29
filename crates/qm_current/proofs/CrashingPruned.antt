-- What crashes leave of a current database's store that come inside a prune.
use Rattle.std.proofs.Common.{◌≡◌, ◌∙◌, ◌⊎◌, inl, inr, ◌++◌, ◌<◌, ◌≤◌, ◌*◌, ◌/◌, ◌^◌, ℕ, ⊎_elim, Bool, true, false, List, [], ◌∷◌, length, map, Option, Some, None, IfSome, Result, Ok, Err, IfOk, IfErr, refl, sym, ap, subst, arith, append_assoc, le_refl, Contains}
use Rattle.std.specs.Prelude.{if◌then◌else◌, max, nat_lt}
use Rattle.std.proofs.Math.Nat.{div-mul-le_self, le_trans, max-eq_left, max-eq_right}
use Rattle.std.proofs.Math.Seq.{take-length}
use Rattle.std.proofs.lemmas.Bool.{cases_lt, ltb-true}
use Rattle.std.proofs.lemmas.List.Elements.{Contains-append_left}
use Rattle.std.proofs.lemmas.Nat.{mul-le, pow_pos}
use Rattle.qm_model.specs.Families.{Births, HasPlaces}
use Rattle.qm_model.specs.Forms.{spelling}
use Rattle.qm_model.specs.Grafted.{boundary, metadata}
use Rattle.qm_model.specs.Live.{floor}
use Rattle.qm_model.specs.Opening.{Chunks, entries_of}
use Rattle.qm_model.specs.Operations.{Bytes}
use Rattle.qm_model.specs.Own.{Engine, Log, IsOwn, IsBetween, CrashesBetween, CrashLaws, ended_part, settled_list}
use Rattle.qm_model.specs.Own as own
use Rattle.qm_model.specs.Schemes.{engine_of}
use Rattle.qm_model.specs.StoreModel.{Entry, Rest, Stored, end_of, found_by, pruned, rest_of, settled, since, with_metadata, Fails, IsImage, IsOldOrNew, ReadsAs}
use Rattle.qm_model.specs.Trees.{Shape, peaks}
use Rattle.qm_model.specs.Walk.{Rules}
use Rattle.qm_model.proofs.Chains.{Begins-length}
use Rattle.qm_model.proofs.Crashes.{settled-in, since-is}
use Rattle.qm_model.proofs.GraftedLemmas.{boundary_most}
use Rattle.qm_model.proofs.Metadata.{metadata-counted}
use Rattle.qm_model.proofs.Openings.{ended-whole}
use Rattle.qm_model.proofs.Speaking.{peaks_few}
use Rattle.qm_model.proofs.Stores.{metadata_in-same}
use Rattle.qm_graft.specs.Grafting.{grafting}
use Rattle.qm_store.specs.declared.Store as store
use Rattle.qm_store.specs.declared.refusal.Refusal.{Refusal}
use Rattle.qm_store.specs.Given.{store_after, store_given}
use Rattle.qm_offer.specs.Crashing.{IsSafe}
use Rattle.qm_any.specs.Lasting.{cut_to, FailsPrune, HasLeftStable, IsGivenUp, IsHeadAt}
use Rattle.qm_any.specs.Layouts.{Layout}
use Rattle.qm_any.proofs.Crashing.{Safe, commit-crashes, crashes-widened, failed-commit-crashes, turn-safe, unmoved-crashes}
use Rattle.qm_any.proofs.OfferedHeads.{head-is}
use Rattle.qm_current.specs.Applying.{store_in}
use Rattle.qm_current.specs.Databases.{Database, IsCounted, IsDatabase}
use Rattle.qm_current.specs.Lasting.{chunks_after, AreEntries, FailsPut, HasLeftPruned, HasLeftUncounted, HasPruned}
use Rattle.qm_current.specs.Offered.{scheme_of}
use Rattle.qm_current.proofs.Crashing.{laws, own_settled, same}

-- A prune that fails with all stable, without a commit before it: what is left of a database's store is between.
module _ {P : Type 0} (e : Engine P) (laws : CrashLaws e) (log : Log) (u new : Stored) (to : ℕ) (head : Bytes) (is : IsOwn e log u) (all : u.stable ≡ end_of u) (behind : log.start ≤ to)
    (kept : own.IsKept e (record log { start = to; stable = length log.list })) (heads : head ≡ own.head_of e (record log { start = to })) (failed : FailsPrune to head u new) where
  -- the store as if it had been committed first
  abbrev noted : Stored
  noted = record new { past = failed.notes ++ found_by u }

  abbrev Leaves : Stored → Stored → Type 0
  Leaves u = ReadsAs u.stable (IsOldOrNew (pruned to head) u)

  again : (t image : Stored) → t.stable ≡ end_of t → IsImage t image → IsImage (settled t) image
  again t image all i = record { to = i.to; may = record { stable = subst (λ n. n ≤ i.to) all i.may.stable; within = i.may.within }; same = i.same }

  old-new : (image : Stored) → IsOldOrNew (pruned to head) u image → IsOldOrNew (pruned to head) (settled u) image
  old-new image (inl i) = inl (again u image all i)
  old-new image (inr i) = inr (record { to = i.to; may = record { stable = subst (λ n. n ≤ i.to) all i.may.stable; within = i.may.within }; same = i.same })

  reads : (t : Stored) (past : List Rest) → Leaves u t → Leaves (settled u) (record t { past = past })
  reads t past r = record { image = r.image; left = old-new r.image r.left; reads = ap (λ (x : Stored). record x { past = past }) r.reads; least_stable = subst (λ n. n ≤ t.stable) all r.least_stable; within = r.within }

  settled-failed : Fails Leaves Leaves (settled u) noted
  settled-failed = record {
    now = reads new (failed.notes ++ found_by u) failed.now;
    notes = failed.notes;
    past = refl;
    each = λ image may. reads (record image { ends = u.ends }) image.past (failed.each image may);
  }

  pub uncut-crashes : CrashesBetween e log (record log { start = to; stable = length log.list }) u new
  uncut-crashes image crash = laws.failed_prune log u noted to head is behind kept heads settled-failed image (record { found = crash.found; among = among; left = crash.left })
    where
      more : noted.past ≡ (failed.notes ++ rest_of u ∷ []) ++ u.past
      more = sym (append_assoc failed.notes (rest_of u ∷ []) u.past)

      among : Contains (rest_of noted ∷ since u noted) crash.found
      among = subst (λ rests. Contains (rest_of new ∷ rests) crash.found) (sym (since-is u noted (failed.notes ++ rest_of u ∷ []) more))
          (Contains-append_left (rest_of new ∷ failed.notes) (rest_of u ∷ []) crash.found (subst (λ rests. Contains (rest_of new ∷ rests) crash.found) (since-is u new failed.notes failed.past) crash.among))

module _ {D : Type 0} (layout : Layout D) (size : ℕ) (name : Bytes) {P : Type 0} (rules : Rules P) (births : Births) (trees : HasPlaces layout.hashing.shape births) (enough : 3 ≤ grafting layout.chunk) where
  abbrev e : Engine P
  e = engine_of (scheme_of size layout name) rules

  abbrev c : Chunks
  c = record { height = grafting layout.chunk; name = name }

  abbrev shape : Shape
  shape = layout.hashing.shape

  abbrev h : ℕ
  h = grafting layout.chunk

  law : CrashLaws e
  law = laws layout size name rules births trees enough

  -- a call that left the store as it was
  pub unmoved-safe : {C : Type 0} (members : store.Ghosts C) (log : Log) (old : C) → IsSafe members e log log old old
  unmoved-safe members log old = by (members.told old)
    where
      by : (o : Option Stored) → Safe e log log o o
      by None = tt
      by (Some s) = λ is. unmoved-crashes e law log log s s is refl

  module _ {C : Type 0} (members : store.Ghosts C) (old : Database C D) (named : old.name ≡ name) (log : Log) (stands : IsDatabase members layout old log.list) (is_counted : IsCounted members old) (sized : (b : Bytes) → length (layout.hashing.hash b) ≡ size)
      (first : members.start old.any.log.store ≡ old.any.log.tree.start) (few : old.any.commitment.size ≤ 2 ^ 62) (told_start : IfSome (members.told old.any.log.store) (λ s. s.start ≡ members.start old.any.log.store)) (span : 2 ^ grafting layout.chunk ≡ 8 * layout.chunk)
      (to : ℕ) (low : to ≤ boundary layout.hashing.shape (grafting layout.chunk) log.list) where
    abbrev whole : Log
    whole = record log { stable = length log.list }

    whole-is : settled_list whole ≡ log.list
    whole-is = ap ended_part (take-length log.list) ∙ ended-whole log.list stands.any.good.commit_ended

    long : old.any.commitment.size ≡ length log.list
    long = ap (λ k. k.size) stands.any.commitment

    below : to ≤ floor log.list
    below = le_trans low (boundary_most shape h (floor log.list) (length log.list))

    inside : to ≤ length log.list
    inside = let fits = stands.any.good.floor_within in omega (arith, below, fits)

    -- how many chunks are counted
    abbrev count : ℕ
    count = max log.chunks (to / 2 ^ h)

    -- the log with these
    abbrev many : Log
    many = record log { chunks = count; stable = length log.list }

    abbrev after : Log
    after = record log { start = to; chunks = count; stable = length log.list }

    -- what is between two logs of the list, of which all is stable, is between the log and itself
    between : (a x m n : ℕ) (u : Stored) → IsBetween e (record log { start = a; chunks = m; stable = length log.list }) (record log { start = x; chunks = n; stable = length log.list }) u → IsBetween e log log u
    between a x m n u is = record { log = is.log; own = is.own; part = is.part; stays = (omega (arith, all), λ none. inl all) }
      where
        all : length (settled_list log) ≤ length (settled_list is.log)
        all = let stays = is.stays.0 in let most = Begins-length (settled_list log) log.list (settled-in log) in omega (arith, stays, most, ap length whole-is)

    heads : (head : Bytes) → IsHeadAt members layout.hashing to old.any.log head → head ≡ own.head_of e (record log { start = to })
    heads head at = head-is layout.hashing size births trees.family trees.peaked log.list to (omega (arith, inside, few, long)) inside head (at (map (spelling layout.hashing.form) log.list) stands.any.lent.logged)

    module _ (s : Stored) (told : members.told old.any.log.store ≡ Some s) (is : IsOwn e log s) where
      done : IsOwn e whole (settled s)
      done = own_settled layout size name rules births trees enough members old named log stands is_counted sized s told is

      start : log.start ≡ old.any.log.tree.start
      start = sym is.stored.start ∙ (subst (λ o. IfSome o (λ s. s.start ≡ members.start old.any.log.store)) told told_start ∙ first)

      after-is : chunks_after layout.chunk to old ≡ count
      after-is = ap (λ n. max n (to / (8 * layout.chunk))) (same layout size name rules births trees enough members old named log stands is_counted sized s told is) ∙ ap (λ w. max log.chunks (to / w)) (sym span)

      few-counted : count * 2 ^ h ≤ boundary shape h log.list
      few-counted = ⊎_elim
          (λ (less : log.chunks < to / 2 ^ h). subst (λ n. n * 2 ^ h ≤ boundary shape h log.list) (sym (max-eq_right (omega (arith, less)))) (le_trans (div-mul-le_self to (2 ^ h)) low))
          (λ (most : to / 2 ^ h ≤ log.chunks). subst (λ n. n * 2 ^ h ≤ boundary shape h log.list) (sym (max-eq_left most)) (subst (λ list. log.chunks * 2 ^ h ≤ boundary shape h list) whole-is done.kept.chunks.1))
          (cases_lt log.chunks (to / 2 ^ h))

      within : count * 2 ^ h ≤ boundary shape h (settled_list whole)
      within = subst (λ list. count * 2 ^ h ≤ boundary shape h list) (sym whole-is) few-counted

      kept-many : own.IsKept e many
      kept-many = record { made = done.kept.made; start = done.kept.start; stable = le_refl (length log.list); chunks = (let low = done.kept.chunks.0 in omega (arith, low), within) }

      kept-after : own.IsKept e after
      kept-after = record { made = done.kept.made; start = subst (λ list. to ≤ floor list) (sym whole-is) below; stable = le_refl (length log.list); chunks = (omega arith, within) }

      counts : (entries : List Entry) → AreEntries layout old.canonical (chunks_after layout.chunk to old) entries → own.MetadataIs e e.layout.chunks many (with_metadata name entries (settled s))
      counts entries are = subst (own.IsCounted e c many) (sym (metadata_in-same name entries (settled s) ∙ are.pins log.list stands.canonical ∙ ap (λ n. entries_of (metadata layout.hashing.hash shape h layout.hashing.form log.list n)) after-is))
          (metadata-counted e c many refl most sized rows small)
        where
          most : count * 2 ^ h ≤ 2 ^ 62
          most = let top = boundary_most shape h (floor log.list) (length log.list) in let fits = stands.any.good.floor_within in omega (arith, few-counted, top, fits, few, long)

          least : count ≤ 2 ^ 62
          least = let up = mul-le count 1 count (2 ^ h) (le_refl count) (pow_pos h) in omega (arith, most, up)

          rows : length (peaks shape count) ≤ 2 ^ 64
          rows = omega (arith, least, peaks_few shape births trees.family trees.peaked count least)

          small : count < 2 ^ 64
          small = omega (arith, least)

      -- the store with its count
      abbrev put : List Entry → Stored
      put entries = with_metadata name entries (settled s)

      put-own : (entries : List Entry) → AreEntries layout old.canonical (chunks_after layout.chunk to old) entries → IsOwn e many (put entries)
      put-own entries are = record { stored = record { start = done.stored.start; items = done.stored.items; head = done.stored.head; metadata = counts entries are; stable = done.stored.stable }; kept = kept-many }

      committed : CrashesBetween e log log s (settled s)
      committed = commit-crashes e law log log s (settled s) is refl

      -- all was made stable, and the chunks are counted
      put-crashes : (entries : List Entry) → AreEntries layout old.canonical (chunks_after layout.chunk to old) entries → CrashesBetween e log log s (put entries)
      put-crashes entries are =
          law.through log log s (settled s) (put entries) (rest_of s ∷ []) (rest_of (settled s) ∷ []) refl refl committed
          (λ image crash. between log.start log.start log.chunks count image (law.put_meta whole (settled s) count name entries done kept-many (counts entries are) image crash))

      -- or that failed
      unput-crashes : (entries : List Entry) (t : Stored) → AreEntries layout old.canonical (chunks_after layout.chunk to old) entries → FailsPut name entries (settled s) t → CrashesBetween e log log s t
      unput-crashes entries t are failed =
          law.through log log s (settled s) t (rest_of s ∷ []) failed.notes refl failed.past committed
          (λ image crash. between log.start log.start log.chunks count image (law.failed_put_meta whole (settled s) t count name entries done kept-many (counts entries are) failed image crash))

      -- and then the log was pruned
      cut-crashes : (entries : List Entry) (head : Bytes) (t : Stored) → AreEntries layout old.canonical (chunks_after layout.chunk to old) entries → (old.any.log.tree.start < to → IsHeadAt members layout.hashing to old.any.log head) → t ≡ cut_to old.any.log.tree.start to head (put entries)
          → CrashesBetween e log log s t
      cut-crashes entries head t are at = by (nat_lt old.any.log.tree.start to) refl
        where
          by : (b : Bool) → nat_lt old.any.log.tree.start to ≡ b → t ≡ (if b then pruned to head (put entries) else put entries) → CrashesBetween e log log s t
          by true less made =
              let past = ltb-true old.any.log.tree.start to less in
              crashes-widened e log after log s t refl
              (subst (CrashesBetween e log after s) (sym made) (law.counted_prune log s count name entries to head is kept-many (counts entries are) (omega (arith, past, start)) kept-after (heads head (at past))))
          by false less made = subst (CrashesBetween e log log s) (sym made) (put-crashes entries are)

      -- or that failed
      uncut-safe : (entries : List Entry) (head : Bytes) (t : Stored) → AreEntries layout old.canonical (chunks_after layout.chunk to old) entries → old.any.log.tree.start < to → IsHeadAt members layout.hashing to old.any.log head → FailsPrune to head (put entries) t → CrashesBetween e log log s t
      uncut-safe entries head t are past at failed =
          law.through log log s (put entries) t (rest_of (settled s) ∷ rest_of s ∷ []) failed.notes refl failed.past (put-crashes entries are)
          (λ image crash. between log.start to count count image
          (uncut-crashes e law many (put entries) t to head (put-own entries are) refl (omega (arith, past, start)) kept-after (heads head at) failed image crash))

    left-safe : (new : C) → HasLeftStable members old.any.log.store new ⊎ (HasLeftUncounted members layout settled (chunks_after layout.chunk to old) old new ⊎ HasLeftPruned members layout settled to old new) → IsSafe members e log log old.any.log.store new
    left-safe new (inl left) = turn-safe e log log _ (members.told old.any.log.store) (members.told new) (λ s t told is failed. failed-commit-crashes e law log log s t is failed) left.told
    left-safe new (inr (inl (inl made))) = turn-safe e log log (λ s t. t ≡ settled s) (members.told old.any.log.store) (members.told new) (λ s t told is same. commit-crashes e law log log s t is same) made.told
    left-safe new (inr (inl (inr left))) = turn-safe e log log (λ s. FailsPut old.name left.entries (settled s)) (members.told old.any.log.store) (members.told new)
        (λ s t told is failed. unput-crashes s told is left.entries t left.counts (subst (λ n. FailsPut n left.entries (settled s) t) named failed)) left.told
    left-safe new (inr (inr left)) = turn-safe e log log (λ s. FailsPrune to left.any.head (with_metadata old.name left.entries (settled s))) (members.told old.any.log.store) (members.told new)
        (λ s t told is failed. uncut-safe s told is left.entries left.any.head t left.counts left.any.past left.any.heads (subst (λ n. FailsPrune to left.any.head (with_metadata n left.entries (settled s)) t) named failed)) left.any.told

    pub pruned-safe : (result : Result (Database C D) (Refusal (Database C D) C)) → IfOk result (HasPruned members layout settled to old)
        → IfErr result (IsGivenUp members (λ before new. HasLeftStable members before new ⊎ (HasLeftUncounted members layout settled (chunks_after layout.chunk to old) old new ⊎ HasLeftPruned members layout settled to old new)) old.any.log.store)
        → IsSafe members e log log old.any.log.store (store_after store_in result)
    pruned-safe (Ok db) made given = turn-safe e log log (λ s t. t ≡ cut_to old.any.log.tree.start to made.any.head (with_metadata old.name made.entries (settled s))) (members.told old.any.log.store) (members.told db.any.log.store)
        (λ s t told is same. cut-crashes s told is made.entries made.any.head t made.counts made.any.heads (same ∙ ap (λ n. cut_to old.any.log.tree.start to made.any.head (with_metadata n made.entries (settled s))) named)) made.any.told
    pruned-safe (Err r) made up = subst (λ g. IsSafe members e log log old.any.log.store (store_given store_in g)) (sym up.given) (left-safe up.store up.left)
