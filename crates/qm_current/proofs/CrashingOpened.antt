-- What crashes leave of a current database's store that come inside an opening.
use Rattle.std.proofs.Common.{◌≡◌, ◌⊎◌, inl, inr, ◌++◌, ◌-◌, ◌<◌, ◌≤◌, ◌*◌, ◌/◌, ◌^◌, ℕ, zero, suc, List, [], ◌∷◌, length, take, drop, map, min, Option, Some, None, IfSome, Result, Ok, Err, ap, ◌∙◌, sym, subst, refl, arith, append_assoc, Contains}
use Rattle.std.specs.Prelude.{IsSome}
use Rattle.std.proofs.lemmas.List.{take-append-le}
use Rattle.std.proofs.lemmas.List.Elements.{Contains-append_cases}
use Rattle.qm_model.specs.Batches.{Begins}
use Rattle.qm_model.specs.Families.{Births, IsFamily, HasPeaks}
use Rattle.qm_model.specs.Forms.{spelling}
use Rattle.qm_model.specs.Grafted.{boundary}
use Rattle.qm_model.specs.Opening.{found, opened_list, opening_refusal}
use Rattle.qm_model.specs.Operations.{Bytes, Operation, fresh, IsCommitEnded}
use Rattle.qm_model.specs.Own.{Engine, Log, taken_up, IsOwn, IsBetween, CrashesBetween, CrashLaws, settled_list}
use Rattle.qm_model.specs.Own as own
use Rattle.qm_model.specs.Refused.{Refused}
use Rattle.qm_model.specs.Schemes.{HasBounds, Scheme, engine_of, layout_of}
use Rattle.qm_model.specs.StoreModel.{Stored, rest_of, appended, lowered, rewound, cut_by, MayBeLeft, ReadsAs, RewindLeaves, Fails, Turns}
use Rattle.qm_model.specs.Taken.{selected_size, taken}
use Rattle.qm_model.specs.Walk.{Rules}
use Rattle.qm_model.proofs.Chains.{Begins-length}
use Rattle.qm_model.proofs.Crashes.{MetadataStays, appended-own, counted-metadata, crash-laws, settled-in}
use Rattle.qm_model.proofs.Openings.{start-stable, start-within}
use Rattle.qm_model.proofs.Stores.{found-image, reads-image}
use Rattle.qm_graft.specs.Grafting.{grafting}
use Rattle.qm_pinned.proofs.Bounds.{IsReady, chunk-bounds}
use Rattle.qm_store.specs.declared.Store as store
use Rattle.qm_store.specs.declared.refusal.Refusal.{Refusal}
use Rattle.qm_store.specs.Given.{store_after, store_given}
use Rattle.qm_offer.specs.Crashing.{FailsOpening, FailsSettling, IsSafe}
use Rattle.qm_open.proofs.Checking.{each-known, known-at}
use Rattle.qm_any.specs.Layouts.{Layout}
use Rattle.qm_any.proofs.Crashing.{Safe, unmoved-crashes}
use Rattle.qm_any.proofs.Owned.{keeps, own-few, own-low, own-none, own-takes}
use Rattle.qm_any.proofs.Taking.{reads-rewound}
use Rattle.qm_current.specs.Applying.{store_in}
use Rattle.qm_current.specs.Databases.{Database}
use Rattle.qm_current.specs.Offered.{scheme_of}
use Rattle.qm_current.specs.Opening.{Opens}

-- the bounds of a database's lists
pub bounds-of : {D : Type 0} (layout : Layout D) (size : ℕ) (name : Bytes) (births : Births) → IsFamily layout.hashing.shape births → HasPeaks layout.hashing.shape → IsReady layout.hashing.shape → ((b : Bytes) → length (layout.hashing.hash b) ≡ size) → 32 ≤ layout.chunk
    → HasBounds (scheme_of size layout name)
bounds-of layout size name births family peaked ready sized least =
    let b = chunk-bounds layout.hashing.shape births family peaked ready layout.hashing.hash size sized layout.chunk layout.hashing.form name least in
    record { low = b.low; chunks = b.chunks; prompt = b.prompt; over = b.over }

-- A commit that fails behind a rewind is an opening that fails in it.
module _ (n : ℕ) (s t : Stored) (start : s.start ≤ s.stable) (low : s.start ≤ n) (failed : FailsSettling (rewound n s) t) where
  abbrev Cut : Stored → Stored → Type 0
  Cut s = ReadsAs (min s.stable n) (RewindLeaves n s)

  settled-cut : Fails Cut Cut s t
  settled-cut = by (drop (n - s.start) s.items) failed.past
    where
      by : (gone : List Bytes) → t.past ≡ failed.notes ++ cut_by n s gone → Fails Cut Cut s t
      by [] past = record { now = reads-rewound n s t failed.now; notes = failed.notes; past = past; each = λ image may. reads-rewound n s (record image { ends = s.ends }) (failed.each image may) }
      by (item ∷ items) past = record {
        now = reads-rewound n s t failed.now;
        notes = failed.notes ++ rest_of (lowered n s) ∷ [];
        past = past ∙ sym (append_assoc failed.notes (rest_of (lowered n s) ∷ []) s.past);
        each = λ image may. noted image may (Contains-append_cases failed.notes (rest_of (lowered n s) ∷ []) may.found may.among);
      }
        where
          noted : (image : Stored) (may : MayBeLeft (failed.notes ++ rest_of (lowered n s) ∷ []) image) → Contains failed.notes may.found ⊎ Contains (rest_of (lowered n s) ∷ []) may.found → Cut s (record image { ends = s.ends })
          noted image may (inl early) = reads-rewound n s (record image { ends = s.ends }) (failed.each image (record { found = may.found; among = early; left = may.left }))
          noted image may (inr late) =
              reads-image (min s.stable n) (lowered n s) (record image { ends = s.ends }) (omega (arith, start, low)) (omega arith) (found-image (lowered n s) image (record { found = may.found; among = late; left = may.left }))

-- what is between two logs is between the first and another of the second's list
moved : {P : Type 0} (e : Engine P) (before after other : Log) (u : Stored) → after.list ≡ other.list → 0 < length other.list → IsBetween e before after u → IsBetween e before other u
moved e before after other u alike some is = record {
  log = is.log;
  own = is.own;
  part = part is.part;
  stays = (let stays = is.stays.0 in omega (arith, stays, ap length alike), λ none. absurd (omega (arith, some, ap (λ (l : Log). length l.list) none)));
}
  where
    part : Begins is.log.list before.list ⊎ Begins is.log.list after.list → Begins is.log.list before.list ⊎ Begins is.log.list other.list
    part (inl begins) = inl begins
    part (inr begins) = inr (subst (Begins is.log.list) alike begins)

module _ {D : Type 0} (layout : Layout D) (size : ℕ) (name : Bytes) {P : Type 0} (rules : Rules P) (bounds : HasBounds (scheme_of size layout name)) where
  abbrev m : Scheme
  m = scheme_of size layout name

  abbrev e : Engine P
  e = engine_of m rules

  stays : MetadataStays e
  stays = counted-metadata (keeps m rules bounds) m.hash m.form m.shape size (record { height = grafting layout.chunk; name = name }) bounds.over.births bounds.over.trees bounds.over.enough

  laws : CrashLaws e
  laws = crash-laws (keeps m rules bounds) m.hash (layout_of m) stays

  module _ (log : Log) (s : Stored) (is : IsOwn e log s) where
    inside : log.start ≤ length log.list
    inside = start-within (keeps m rules bounds) m.hash (layout_of m) log is.kept

    inside-stable : log.start ≤ log.stable
    inside-stable = start-stable (keeps m rules bounds) m.hash (layout_of m) log is.kept

    -- of an empty store, into which the fresh list goes
    module _ (none : log.list ≡ []) (kept : own.IsKept e (taken_up fresh log)) where
      zero-start : log.start ≡ 0
      zero-start = omega (arith, inside, ap length none)

      abbrev longer : Log
      longer = record log { list = log.list ++ fresh }

      list-is : longer.list ≡ fresh
      list-is = ap (λ list. list ++ fresh) none

      -- nothing of it is settled, with the fresh list or without it
      same : settled_list longer ≡ settled_list log
      same = ap own.ended_part (take-append-le log.stable log.list fresh is.kept.stable)

      longer-kept : own.IsKept e longer
      longer-kept = record {
        made = subst (own.IsPartMade e) (sym list-is) kept.made;
        start = omega (arith, zero-start);
        stable = let within = is.kept.stable in omega (arith, within, ap length none);
        chunks = subst (λ list. (log.start / 2 ^ grafting layout.chunk ≤ log.chunks) × (log.chunks * 2 ^ grafting layout.chunk ≤ boundary layout.hashing.shape (grafting layout.chunk) list)) (sym same) is.kept.chunks;
      }

      abbrev began : Log
      began = taken_up fresh log

      in-append : (t : Stored) → CrashesBetween e log longer s t → CrashesBetween e log began s t
      in-append t crashes image crash = moved e log longer began image list-is (omega arith) (crashes image crash)

      in-commit : (t : Stored) → CrashesBetween e longer (record longer { stable = length longer.list }) (appended (map (spelling m.form) fresh) s) t → CrashesBetween e log began (appended (map (spelling m.form) fresh) s) t
      in-commit t crashes image crash =
          let between = crashes image crash in
          let most = Begins-length (settled_list log) log.list (settled-in log) in
          record {
            log = between.log;
            own = between.own;
            part = inr (part between.part);
            stays = (omega (arith, most, ap length none), λ bare. absurd (omega (arith, ap (λ (l : Log). length l.list) bare)));
          }
        where
          part : {l : List Operation} → Begins l longer.list ⊎ Begins l longer.list → Begins l fresh
          part {l} (inl begins) = subst (Begins l) list-is begins
          part {l} (inr begins) = subst (Begins l) list-is begins

      fresh-failed : (t : Stored) → FailsOpening m 0 s t → CrashesBetween e log began s t
      fresh-failed t (inl failed) = in-append t (laws.failed_append log s t fresh is longer-kept failed)
      fresh-failed t (inr failed) =
          let grown = appended (map (spelling m.form) fresh) s in
          let grown-own = appended-own (keeps m rules bounds) m.hash (layout_of m) stays log s fresh is longer-kept in
          laws.through log began s grown t (rest_of s ∷ []) failed.notes refl failed.past (in-append grown (laws.append log s fresh is longer-kept)) (in-commit t (laws.failed_commit longer grown t grown-own failed))

    opened-crashes : (n : ℕ) (t : Stored) → n ≤ length log.list → (n ≡ 0 → log.list ≡ []) → IsCommitEnded (opened_list n log.list) → own.IsKept e (taken_up (opened_list n log.list) log) → t ≡ taken m n s → CrashesBetween e log (taken_up (opened_list n log.list) log) s t
    opened-crashes zero t few none ended kept made = subst (CrashesBetween e log (taken_up fresh log) s) (sym made) (laws.fresh log s is (none refl) (zero-start (none refl) kept))
    opened-crashes (suc n) t few none ended kept made = subst (CrashesBetween e log (taken_up (take (suc n) log.list) log) s) (sym made) (laws.opening log s (suc n) is few ended kept)

    unopened-crashes : (n : ℕ) (t : Stored) → n ≤ length log.list → (n ≡ 0 → log.list ≡ []) → IsCommitEnded (opened_list n log.list) → own.IsKept e (taken_up (opened_list n log.list) log) → log.start ≤ n → FailsOpening m n s t → CrashesBetween e log (taken_up (opened_list n log.list) log) s t
    unopened-crashes zero t few none ended kept low failed = fresh-failed (none refl) kept t failed
    unopened-crashes (suc n) t few none ended kept low (inl failed) = laws.failed_opening log s t (suc n) is few ended kept failed
    unopened-crashes (suc n) t few none ended kept low (inr failed) =
        laws.failed_opening log s t (suc n) is few ended kept
        (settled-cut (suc n) s t (omega (arith, inside-stable, is.stored.start, is.stored.stable)) (omega (arith, low, is.stored.start)) failed)

  -- of what is known to be told
  known-safe : (before after : Log) (o n : Option Stored) (s : Stored) → o ≡ Some s → (R : Stored → Stored → Type 0) → Turns o n R → ((t : Stored) → IsOwn e before s → R s t → CrashesBetween e before after s t) → Safe e before after o n
  known-safe before after o n s told R made each = subst (λ o. Safe e before after o n) (sym told) (by n (subst (λ o. Turns o n R) told made))
    where
      by : (n : Option Stored) → Turns (Some s) n R → Safe e before after (Some s) n
      by None made = absurd made
      by (Some t) made = λ is. each t is made

  unmoved : (before after : Log) (o : Option Stored) → Safe e before after o o
  unmoved before after None = tt
  unmoved before after (Some s) = λ is. unmoved-crashes e laws before after s s is refl

  module _ {C : Type 0} (members : store.Ghosts C) (bound : Option ℕ) (number : ℕ) (old : C) (log : Log) where
    abbrev taking : Stored → Log
    taking s = taken_up (opened_list (selected_size m bound s) log.list) log

    pub opened-safe : (result : Result (Database C D) (Refusal (Database C D) C)) → Opens members layout size name bound number old result → IfSome (members.told old) (λ s. IsSafe members e log (taking s) old (store_after store_in result))
    opened-safe (Ok db) came = each-known (members.told old) (λ s told.
        let accepted = known-at _ (members.told old) s told came.offered in
        known-safe log (taking s) (members.told old) (members.told (store_in db)) s told (λ s t. t ≡ taken m (selected_size m bound s) s) came.became (λ t is made.
        let takes = own-takes m rules bounds log s is bound accepted in
        opened-crashes log s is (selected_size m bound s) t (own-few m rules bounds log s is bound) (own-none m rules bounds log s is bound accepted) takes.ended takes.kept made))
    opened-safe (Err r) came = each-known (members.told old) (λ s told. by s told (opening_refusal (layout_of m) (found (layout_of m) s) bound) refl)
      where
        by : (s : Stored) → members.told old ≡ Some s → (due : Option Refused) → opening_refusal (layout_of m) (found (layout_of m) s) bound ≡ due → IsSafe members e log (taking s) old (store_given store_in r.given)
        by s told (Some refusal) due =
            let same = known-at _ (members.told old) s told came.unopened (subst IsSome (sym due) refl) in
            subst (λ n. Safe e log (taking s) (members.told old) n) (sym same.told) (unmoved log (taking s) (members.told old))
        by s told None due =
            known-safe log (taking s) (members.told old) (members.told (store_given store_in r.given)) s told (λ s. FailsOpening m (selected_size m bound s) s) came.failed (λ t is failed.
            let takes = own-takes m rules bounds log s is bound due in
            unopened-crashes log s is (selected_size m bound s) t (own-few m rules bounds log s is bound) (own-none m rules bounds log s is bound due) takes.ended takes.kept
            (own-low m rules bounds log s is bound due) failed)
