-- What crashes leave of own stores, at rest and inside calls.
use Rattle.std.proofs.Common.{◌≡◌, ◌⊎◌, inl, inr, ℕ, ◌-◌, ◌*◌, ◌<◌, ◌≤◌, min, false, List, [], ◌∷◌, ◌++◌, length, take, drop, map, refl, sym, ap, ◌∙◌, None, Option, IfSome, subst, arith, length-take-le, length-append, le_refl, All, Contains, append_assoc, ◌^◌, le_of_eq, Some, suc, zero, ◌/◌, ◌+◌}
use Rattle.std.specs.List.{concat, list_any}
use Rattle.std.proofs.Math.Nat.{le_trans}
use Rattle.std.proofs.Math.Seq.{take-length, take-append_seam}
use Rattle.std.proofs.lemmas.Bool.{cases_lt, ltb-false}
use Rattle.std.proofs.lemmas.List.{length-take, drop-drop, drop-map, drop-take, take-map, take-take, length-map, length-drop, map-append, drop-append-le, take-append-le}
use Rattle.std.proofs.lemmas.List.Elements.{All-nil, All-cons, All-contains, All-take, Contains-append_cases}
use Rattle.qm_model.specs.Operations.{Bytes, Operation, fresh, IsCommitEnded}
use Rattle.qm_model.specs.Forms.{Form, IsOf, spelling}
use Rattle.qm_model.specs.Live.{floor}
use Rattle.qm_model.specs.Trees.{Shape, peaks}
use Rattle.qm_model.specs.Proofs.{pins_at}
use Rattle.qm_model.specs.Walk.{Rules}
use Rattle.qm_model.specs.Step.{Kind, ordered, unordered}
use Rattle.qm_model.specs.Batches.{Begins}
use Rattle.qm_model.specs.StoreModel.{Entry, Rest, Stored, end_of, rest_of, at_rest, appended, settled, lowered, rewound, cut_by, pruned, with_metadata, destroyed, empty, left_at, IsImage, since, MayBeLeft, HasRestarted, HasAppended, IsOldOrNew, RewindLeaves, DestroyLeaves, ReadsAs, Fails, metadata_in}
use Rattle.qm_model.specs.Opening.{Layout, opens, opening, opened_list, Chunks, count_bytes, count_in, pins_found, when, is_wrong_size}
use Rattle.qm_model.specs.Own.{Engine, any_engine, Log, no_log, taken_up, IsStored, IsPartMade, IsKept, IsOwn, head_of, settled_list, ended_size, ended_part, Stays, IsBetween, AreBetween, CrashesBetween, OpensWhole, OpensParts, Takes, OpensBetween, CrashLaws, MetadataIs, ArePruned, IsCounted, counted, current_engine, ArePrompt, NeedsRise, KeepsCount}
use Rattle.qm_model.specs.Own as logs
use Rattle.std.specs.Prelude.{nat_lt, not, ◌==◌, is_none}
use Rattle.std.proofs.lemmas.Nat.{mul-le, pow_pos}
use Rattle.qm_model.specs.Families.{Births, HasPlaces}
use Rattle.qm_model.specs.Schemes.{IsOver}
use Rattle.qm_model.specs.Refused.{CountNotValid, CountTooLarge, MissingPin, InvalidPin}
use Rattle.qm_model.specs.Grafted.{chunk_node, needed_size}
use Rattle.std.specs.Option.{option_map_or}
use Rattle.qm_model.proofs.Boundaries.{quotient-rises}
use Rattle.qm_model.proofs.GraftedLemmas.{boundary_most, mmb_threshold, mmr_no_threshold}
use Rattle.qm_model.proofs.Pins.{counted-stays, counted-none}
use Rattle.qm_model.specs.Mmr.{mmr, mmr_births, digits_below}
use Rattle.qm_model.specs.Mmb.{mmb, mmb_births}
use Rattle.qm_model.proofs.MmrFamily.{mmr_is_family}
use Rattle.qm_model.proofs.MmbFamily.{mmb_is_family}
use Rattle.qm_model.proofs.MmrPeaks.{mmr_has_peaks}
use Rattle.qm_model.proofs.MmbPeaks.{mmb_has_peaks}
use Rattle.std.proofs.lemmas.Option.{none-some}
use Rattle.std.specs.Int.Count.{count_leading_zeros}
use lib.Count.{ones, ones_in}
use Rattle.qm_model.proofs.Chains.{take-least, Begins-self, Begins-length, Begins-through, Contains-more}
use Rattle.qm_model.proofs.Openings.{IsPart, ended-part, ended-longest, ended-whole, begins_take, begins_both, floor-rises, Keeps, unordered-keeps, ordered-keeps, without_chunks, part-made, empty-own, crash-keeps, any-takes, start-within, start-stable, opens-alike, unordered-whole, ordered-whole, image-own, pruned-rises, length-rises, fresh-made, no_floor, all_pass, not_when, unordered-parts, ordered-parts, unordered-opened, ordered-opened}

-- What has come to be since.

-- what was noted, of notes that stand before a past
pub since-notes : (notes past : List Rest) → take (length (notes ++ past) - length past) (notes ++ past) ≡ notes
since-notes notes past = ap (λ n. take n (notes ++ past)) (omega (arith, length-append notes past)) ∙ take-append_seam notes past

pub since-is : (old new : Stored) (notes : List Rest) → new.past ≡ notes ++ old.past → since old new ≡ notes
since-is old new notes is = ap (λ (past : List Rest). take (length past - length old.past) past) is ∙ since-notes notes old.past

-- Settled lists.

ended-within : (xs : List Operation) → ended_size xs ≤ length xs
ended-within xs = cases (ended-part xs)
  where
    cases : IsPart xs (ended_size xs) → ended_size xs ≤ length xs
    cases (inl z) = omega (arith, z)
    cases (inr (some, less, ended)) = less

-- the longest commit-ended beginning of a longer list is no shorter
ended-rises : (xs ys : List Operation) → Begins xs ys → ended_size xs ≤ ended_size ys
ended-rises xs ys front = cases (ended-part xs)
  where
    cases : IsPart xs (ended_size xs) → ended_size xs ≤ ended_size ys
    cases (inl z) = omega (arith, z)
    cases (inr (some, less, ended)) =
        let n = ended_size xs in
        let same : take n xs ≡ take n ys = ap (take n) (sym front) ∙ take-least n (length xs) ys less in
        ended-longest ys n (le_trans less (Begins-length xs ys front)) (subst IsCommitEnded same ended)

settled-length : (log : Log) → length (settled_list log) ≡ ended_size (take log.stable log.list)
settled-length log = let part = take log.stable log.list in length-take-le (ended_size part) part (ended-within part)

-- if more of a list is stable, no less is settled
settled-rises : (log other : Log) → Begins (take log.stable log.list) (take other.stable other.list) → length (settled_list log) ≤ length (settled_list other)
settled-rises log other front =
    let up = ended-rises (take log.stable log.list) (take other.stable other.list) front in
    omega (arith, up, settled-length log, settled-length other)

settled-at_most : (log : Log) → length (settled_list log) ≤ length log.list
settled-at_most log =
    let short = ended-within (take log.stable log.list) in
    let size = Begins-length (take log.stable log.list) log.list (begins_take log.stable log.list) in
    omega (arith, short, size, settled-length log)

-- what is settled begins the list, and each beginning of it that is no shorter than what is stable
pub settled-in : (log : Log) → Begins (settled_list log) log.list
settled-in log = Begins-through (settled_list log) (take log.stable log.list) log.list (begins_take (ended_size (take log.stable log.list)) (take log.stable log.list)) (begins_take log.stable log.list)

pub settled-within : (log : Log) (to : ℕ) → log.stable ≤ to → Begins (settled_list log) (take to log.list)
settled-within log to low = Begins-through (settled_list log) (take log.stable log.list) (take to log.list) (begins_take (ended_size (take log.stable log.list)) (take log.stable log.list)) (begins_both log.stable to log.list low)

pub settled-before : (log : Log) (more : List Operation) → Begins (settled_list log) (log.list ++ more)
settled-before log more = Begins-through (settled_list log) log.list (log.list ++ more) (settled-in log) (take-append_seam log.list more)

-- Metadata of one log is that of another, if both go on from a settled list within which as many chunks may be pruned.
abbrev pub MetadataStays : {P : Type 0} → Engine P → Type 0
MetadataStays e = (low log other : Log) (s t : Stored) → IsKept e low → low.chunks ≡ log.chunks → other.chunks ≡ log.chunks → Begins (settled_list low) log.list → Begins (settled_list low) other.list → t.metadata ≡ s.metadata
    → MetadataIs e e.layout.chunks log s → MetadataIs e e.layout.chunks other t

-- Databases of both kinds, with chunks or without.

module _ {P : Type 0} {kind : Kind} {rules : Rules P} (keeps : Keeps kind rules) (hash : Bytes → Bytes) (layout : Layout) (metadata-stays : MetadataStays (record { kind = kind; rules = rules; hash = hash; layout = layout })) where
  abbrev own : Engine P
  own = record { kind = kind; rules = rules; hash = hash; layout = layout }

  -- metadata of a log that goes on from what is settled
  stays-counted : (log other : Log) (s t : Stored) → IsOwn own log s → other.chunks ≡ log.chunks → Begins (settled_list log) other.list → t.metadata ≡ s.metadata → MetadataIs own layout.chunks other t
  stays-counted log other s t is same front metas = metadata-stays log log other s t is.kept refl same (settled-in log) front metas is.stored.metadata

  pub image-is : (log : Log) (s image : Stored) → IsOwn own log s → (i : IsImage s image) → IsOwn own (logs.left_at i.to log) image
  image-is log s image is i = image-own keeps hash layout log s image is i
      (stays-counted log (logs.left_at i.to log) s image is refl (settled-within log i.to (subst (λ n. n ≤ i.to) is.stored.stable i.may.stable)) (ap (λ (t : Stored). t.metadata) i.same))

  -- an own store is one, whatever ends and past it tells
  pub own-alike : (log : Log) (s t : Stored) → rest_of t ≡ rest_of s → IsOwn own log s → IsOwn own log t
  own-alike log s t same is = record {
    stored = record {
      start = ap (λ (r : Rest). r.start) same ∙ is.stored.start;
      items = ap (λ (r : Rest). r.items) same ∙ is.stored.items;
      head = ap (λ (r : Rest). r.head) same ∙ is.stored.head;
      metadata = stays-counted log log s t is refl (settled-in log) (ap (λ (r : Rest). r.metadata) same);
      stable = ap (λ (r : Rest). r.stable) same ∙ is.stored.stable;
    };
    kept = is.kept;
  }

  -- An image of what is between two logs is between them.
  module _ (before after : Log) where
    image-stays : (log : Log) (to : ℕ) → log.stable ≤ to → (log ≡ no_log → to ≡ 0) → Stays own before after log → Stays own before after (logs.left_at to log)
    image-stays log to low none stays =
        let up : length (settled_list log) ≤ length (settled_list (logs.left_at to log)) =
        settled-rises log (logs.left_at to log) (subst (Begins (take log.stable log.list)) (sym (take-least to to log.list (le_refl to))) (begins_both log.stable to log.list low)) in
        (le_trans stays.0 up, λ empty. cases (stays.1 empty) up)
      where
        cases : (length (settled_list before) ≤ length (settled_list log)) ⊎ (log ≡ no_log) → length (settled_list log) ≤ length (settled_list (logs.left_at to log))
            → (length (settled_list before) ≤ length (settled_list (logs.left_at to log))) ⊎ (logs.left_at to log ≡ no_log)
        cases (inl more) up = inl (le_trans more up)
        cases (inr is) up = inr (ap (logs.left_at to) is ∙ ap (λ n. logs.left_at n no_log) (none is))

    pub image-between : (s image : Stored) → IsBetween own before after s → IsImage s image → IsBetween own before after image
    image-between s image is i = record {
      log = logs.left_at i.to is.log;
      own = image-is is.log s image is.own i;
      part = cases is.part;
      stays = image-stays is.log i.to low none is.stays;
    }
      where
        low : is.log.stable ≤ i.to
        low = subst (λ n. n ≤ i.to) is.own.stored.stable i.may.stable

        none : is.log ≡ no_log → i.to ≡ 0
        none empty =
            let within = i.may.within in
            omega (arith, within, is.own.stored.start, ap (λ (l : Log). l.start) empty, ap length is.own.stored.items, length-map (drop is.log.start is.log.list) (spelling layout.form), length-drop is.log.start is.log.list, ap (λ (l : Log). length l.list) empty)

        cases : Begins is.log.list before.list ⊎ Begins is.log.list after.list → Begins (take i.to is.log.list) before.list ⊎ Begins (take i.to is.log.list) after.list
        cases (inl part) = inl (Begins-through (take i.to is.log.list) is.log.list before.list (begins_take i.to is.log.list) part)
        cases (inr part) = inr (Begins-through (take i.to is.log.list) is.log.list after.list (begins_take i.to is.log.list) part)

    -- so if all that a crash may have found is between them, so is what it leaves
    pub left-between : (rests : List Rest) (image : Stored) → AreBetween own before after rests → MayBeLeft rests image → IsBetween own before after image
    left-between rests image all may =
        image-between (at_rest may.found) image (All-contains (λ r. IsBetween own before after (at_rest r)) rests may.found all may.among) may.left

    pub crashes-between : (old new : Stored) (notes : List Rest) → new.past ≡ notes ++ old.past → IsBetween own before after new → AreBetween own before after notes → CrashesBetween own before after old new
    crashes-between old new notes noted now all image crash =
        let here : IsBetween own before after (at_rest (rest_of new)) = record { log = now.log; own = own-alike now.log new (at_rest (rest_of new)) refl now.own; part = now.part; stays = now.stays } in
        left-between (rest_of new ∷ notes) image (All-cons (λ r. IsBetween own before after (at_rest r)) (rest_of new) notes here all)
        (subst (λ rests. MayBeLeft (rest_of new ∷ rests) image) (since-is old new notes noted) crash)

  -- What each call makes of an own store.

  -- all of it is stable
  abbrev pub whole : Log → Log
  whole log = record log { stable = length log.list }

  -- it starts there
  abbrev pub from : ℕ → Log → Log
  from to log = record log { start = to }

  end-is : (log : Log) (s : Stored) → IsOwn own log s → end_of s ≡ length log.list
  end-is log s is =
      let low = start-within keeps hash layout log is.kept in
      omega (arith, low, is.stored.start, ap length is.stored.items, length-map (drop log.start log.list) (spelling layout.form), length-drop log.start log.list)

  pub whole-kept : (log : Log) → IsKept own log → IsKept own (whole log)
  whole-kept log kept =
      subst (λ list. IsKept own (record log { list = list; stable = length log.list })) (take-length log.list)
      (crash-keeps keeps hash layout log (length log.list) kept kept.stable (le_refl (length log.list)))

  pub settled-own : (log : Log) (s : Stored) → IsOwn own log s → IsOwn own (whole log) (settled s)
  settled-own log s is = record {
    stored = record { start = is.stored.start; items = is.stored.items; head = is.stored.head; metadata = stays-counted log (whole log) s (settled s) is refl (settled-in log) refl; stable = end-is log s is };
    kept = whole-kept log is.kept;
  }

  pub appended-own : (log : Log) (s : Stored) (more : List Operation) → IsOwn own log s → IsKept own (record log { list = log.list ++ more }) → IsOwn own (record log { list = log.list ++ more }) (appended (map (spelling layout.form) more) s)
  appended-own log s more is kept =
      let low = start-within keeps hash layout log is.kept in
      record {
        stored = record {
          start = is.stored.start;
          items = ap (λ xs. xs ++ map (spelling layout.form) more) is.stored.items ∙ (sym (map-append (spelling layout.form) (drop log.start log.list) more) ∙ ap (map (spelling layout.form)) (sym (drop-append-le log.start log.list more low)));
          head = is.stored.head ∙ ap (λ xs. concat (pins_at hash layout.shape layout.form xs log.start)) (sym (take-append-le log.start log.list more low));
          metadata = stays-counted log (record log { list = log.list ++ more }) s (appended (map (spelling layout.form) more) s) is refl (settled-before log more) refl;
          stable = is.stored.stable;
        };
        kept = kept;
      }

  pub metadata-own : (log : Log) (s : Stored) (count : ℕ) (name : Bytes) (entries : List Entry) → IsOwn own log s → IsKept own (counted count log) → MetadataIs own layout.chunks (counted count log) (with_metadata name entries s) → IsOwn own (counted count log) (with_metadata name entries s)
  metadata-own log s count name entries is kept metadata = record {
    stored = record { start = is.stored.start; items = is.stored.items; head = is.stored.head; metadata = metadata; stable = is.stored.stable };
    kept = kept;
  }

  -- pruned up to the floor of what is settled
  pub pruned-own : (log : Log) (s : Stored) (to : ℕ) (head : Bytes) → IsOwn own log s → log.start ≤ to → IsKept own (from to log) → head ≡ head_of own (from to log) → IsOwn own (from to log) (pruned to head s)
  pruned-own log s to head is behind kept heads = record {
    stored = record {
      start = refl;
      items = ap (λ n. drop (to - n) s.items) is.stored.start ∙ (ap (drop (to - log.start)) is.stored.items ∙ (drop-map (spelling layout.form) (to - log.start) (drop log.start log.list)
          ∙ ap (map (spelling layout.form)) (drop-drop (to - log.start) log.start log.list ∙ ap (λ n. drop n log.list) (omega (arith, behind)))));
      head = heads;
      metadata = stays-counted log (from to log) s (pruned to head s) is refl (settled-in log) refl;
      stable = is.stored.stable;
    };
    kept = kept;
  }

  -- cut to a commit-ended beginning whose floor is not pruned
  module _ (log : Log) (s : Stored) (n : ℕ) (is : IsOwn own log s) (within : n ≤ length log.list) (ended : IsCommitEnded (take n log.list)) (cut-kept : IsKept own (taken_up (take n log.list) log)) where
    abbrev cut : Log
    cut = taken_up (take n log.list) log

    -- all of it is settled
    cut-settled : settled_list (taken_up (take n log.list) log) ≡ take n log.list
    cut-settled = ap ended_part (take-length (take n log.list)) ∙ ended-whole (take n log.list) ended

    cut-size : length (take n log.list) ≡ n
    cut-size = length-take-le n log.list within

    -- while that is cut off, as much is stable as stays
    pub lowered-own : IsOwn own (record log { stable = min log.stable n }) (lowered n s)
    lowered-own = record {
      stored = record { start = is.stored.start; items = is.stored.items; head = is.stored.head; metadata = stays-counted log (record log { stable = min log.stable n }) s (lowered n s) is refl (settled-in log) refl; stable = ap (λ k. min k n) is.stored.stable };
      kept = record {
        made = is.kept.made;
        start = (cases (cases_lt n log.stable)).0;
        stable = omega (arith, (is.kept).stable);
        chunks = (cases (cases_lt n log.stable)).1;
      };
    }
      where
        few : Log
        few = record log { stable = min log.stable n }

        cases : (n < log.stable) ⊎ (log.stable ≤ n) → (log.start ≤ floor (settled_list (record log { stable = min log.stable n }))) × ArePruned own layout.chunks (record log { stable = min log.stable n })
        cases (inr more) =
            let same : min log.stable n ≡ log.stable = omega (arith, more) in
            subst (λ k. (log.start ≤ floor (settled_list (record log { stable = k }))) × ArePruned own layout.chunks (record log { stable = k })) (sym same) (is.kept.start, is.kept.chunks)
        cases (inl less) =
            let same : min log.stable n ≡ n = omega (arith, less) in
            let whole_is : settled_list (taken_up (take n log.list) log) ≡ settled_list (record log { stable = n }) = cut-settled ∙ sym (ended-whole (take n log.list) ended) in
            subst (λ k. (log.start ≤ floor (settled_list (record log { stable = k }))) × ArePruned own layout.chunks (record log { stable = k })) (sym same) (
              subst (λ xs. log.start ≤ floor xs) whole_is cut-kept.start,
              pruned-rises keeps hash layout layout.chunks (taken_up (take n log.list) log) log.list n (le_of_eq (ap floor whole_is)) (le_of_eq (ap length whole_is)) cut-kept.chunks,
            )

    -- after it, so much of it is there, and as much stable
    abbrev lower : Log
    lower = record log { list = take n log.list; stable = min log.stable n }

    past-start : log.start ≤ n
    past-start = subst (λ k. log.start ≤ k) cut-size (start-within keeps hash layout (taken_up (take n log.list) log) cut-kept)

    lower-settled : settled_list lower ≡ settled_list (record log { stable = min log.stable n })
    lower-settled = ap ended_part (take-least (min log.stable n) n log.list (omega arith))

    pub rewound-own : IsOwn own lower (rewound n s)
    rewound-own = record {
      stored = record {
        start = is.stored.start;
        items = ap (λ k. take (n - k) s.items) is.stored.start ∙ (ap (take (n - log.start)) is.stored.items ∙ (take-map (spelling layout.form) (n - log.start) (drop log.start log.list)
            ∙ ap (map (spelling layout.form)) (sym (drop-take log.start (n - log.start) log.list) ∙ ap (λ k. drop log.start (take k log.list)) (omega (arith, past-start)))));
        head = is.stored.head ∙ ap (λ xs. concat (pins_at hash layout.shape layout.form xs log.start)) (sym (take-take log.start n log.list past-start));
        metadata = metadata-stays cut log lower s (rewound n s) cut-kept refl refl (Begins-through (settled_list cut) (take n log.list) log.list (settled-in cut) (begins_take n log.list)) (settled-in cut) refl is.stored.metadata;
        stable = ap (λ k. min k n) is.stored.stable;
      };
      kept = record {
        made = part-made keeps hash layout log n is.kept;
        start = subst (λ xs. log.start ≤ floor xs) (sym lower-settled) lowered-own.kept.start;
        stable = omega (arith, cut-size);
        chunks = pruned-rises keeps hash layout layout.chunks (record log { stable = min log.stable n }) (take n log.list) (min log.stable n) (le_of_eq (ap floor (sym lower-settled))) (le_of_eq (ap length (sym lower-settled))) lowered-own.kept.chunks;
      };
    }

    -- what is settled of the list that stays
    lower-stays : min (length (settled_list log)) n ≤ length (settled_list (record log { stable = min log.stable n }))
    lower-stays = cases (cases_lt n log.stable)
      where
        cases : (n < log.stable) ⊎ (log.stable ≤ n) → min (length (settled_list log)) n ≤ length (settled_list (record log { stable = min log.stable n }))
        cases (inr more) = let same : min log.stable n ≡ log.stable = omega (arith, more) in subst (λ k. min (length (settled_list log)) n ≤ length (settled_list (record log { stable = k }))) (sym same) (omega arith)
        cases (inl less) = let same : min log.stable n ≡ n = omega (arith, less) in
            subst (λ k. min (length (settled_list log)) n ≤ length (settled_list (record log { stable = k }))) (sym same)
            (let size = ap length (ended-whole (take n log.list) ended) in omega (arith, size, cut-size))

    -- nothing of a list that ends with a commit is something
    some-left : n ≡ 0 → ⊥
    some-left none = subst (λ k. IsCommitEnded (take k log.list)) none ended

    never-none : cut ≡ no_log → ⊥
    never-none none = some-left (omega (arith, cut-size, ap (λ (l : Log). length l.list) none))

    of-cut : (l : Log) (t : Stored) → IsOwn own l t → Begins l.list log.list → min (length (settled_list log)) n ≤ length (settled_list l) → IsBetween own log cut t
    of-cut l t owned part stays = record { log = l; own = owned; part = inl part; stays = (subst (λ k. min (length (settled_list log)) k ≤ length (settled_list l)) (sym cut-size) stays, λ none. absurd (never-none none)) }

    cut-noted : (gone : List Bytes) → (notes : List Rest) × (cut_by n s gone ≡ notes ++ s.past) × AreBetween own log cut notes
    cut-noted [] = ([], refl, All-nil (λ r. IsBetween own log cut (at_rest r)))
    cut-noted (item ∷ items) = (
      rest_of (lowered n s) ∷ [],
      refl,
      All-cons (λ r. IsBetween own log cut (at_rest r)) (rest_of (lowered n s)) []
          (of-cut (record log { stable = min log.stable n }) (at_rest (rest_of (lowered n s))) (own-alike (record log { stable = min log.stable n }) (lowered n s) (at_rest (rest_of (lowered n s))) refl lowered-own) (Begins-self log.list) lower-stays)
          (All-nil (λ r. IsBetween own log cut (at_rest r))),
    )

    -- an opening takes up this list
    pub opening-crashes : CrashesBetween own log cut s (settled (rewound n s))
    opening-crashes =
        let gone = cut-noted (drop (n - s.start) s.items) in
        let notes = rest_of (rewound n s) ∷ gone.0 in
        let begins = begins_take n log.list in
        crashes-between log cut s (settled (rewound n s)) notes (ap (λ (past : List Rest). rest_of (rewound n s) ∷ past) gone.1)
        (of-cut (whole lower) (settled (rewound n s)) (settled-own lower (rewound n s) rewound-own) begins
        (let size = ap length (ap ended_part (take-length (take n log.list)) ∙ ended-whole (take n log.list) ended) in omega (arith, size, cut-size)))
        (All-cons (λ r. IsBetween own log cut (at_rest r)) (rest_of (rewound n s)) gone.0
        (of-cut lower (at_rest (rest_of (rewound n s))) (own-alike lower (rewound n s) (at_rest (rest_of (rewound n s))) refl rewound-own) begins (subst (λ xs. min (length (settled_list log)) n ≤ length xs) (sym lower-settled) lower-stays)) gone.2)

  -- What crashes leave inside the other calls.

  -- one of which no less is settled
  of-more : (before after l : Log) (t : Stored) → IsOwn own l t → Begins l.list before.list ⊎ Begins l.list after.list → length (settled_list before) ≤ length (settled_list l) → IsBetween own before after t
  of-more before after l t owned part more = record { log = l; own = owned; part = part; stays = (omega (arith, more), λ none. inl more) }

  whole-settled : (log : Log) → log.stable ≤ length log.list → length (settled_list log) ≤ length (settled_list (whole log))
  whole-settled log within = settled-rises log (whole log) (begins_both log.stable (length log.list) log.list within)

  one-note : (before after l : Log) (s : Stored) → IsOwn own l s → Begins l.list before.list ⊎ Begins l.list after.list → length (settled_list before) ≤ length (settled_list l) → AreBetween own before after (rest_of s ∷ [])
  one-note before after l s owned part more =
      All-cons (λ r. IsBetween own before after (at_rest r)) (rest_of s) [] (of-more before after l (at_rest (rest_of s)) (own-alike l s (at_rest (rest_of s)) refl owned) part more) (All-nil (λ r. IsBetween own before after (at_rest r)))

  pub commit-crashes : (log : Log) (s : Stored) → IsOwn own log s → CrashesBetween own log (whole log) s (settled s)
  commit-crashes log s is =
      crashes-between log (whole log) s (settled s) (rest_of s ∷ []) refl
      (of-more log (whole log) (whole log) (settled s) (settled-own log s is) (inl (Begins-self log.list)) (whole-settled log is.kept.stable))
      (one-note log (whole log) log s is (inl (Begins-self log.list)) (le_refl (length (settled_list log))))

  pub append-crashes : (log : Log) (s : Stored) (more : List Operation) → IsOwn own log s → IsKept own (record log { list = log.list ++ more }) → CrashesBetween own log (record log { list = log.list ++ more }) s (appended (map (spelling layout.form) more) s)
  append-crashes log s more is kept =
      let after = record log { list = log.list ++ more } in
      let same : settled_list after ≡ settled_list log = ap ended_part (take-append-le log.stable log.list more is.kept.stable) in
      crashes-between log after s (appended (map (spelling layout.form) more) s) (rest_of s ∷ []) refl
      (of-more log after after (appended (map (spelling layout.form) more) s) (appended-own log s more is kept) (inr (Begins-self (log.list ++ more))) (omega (arith, ap length same)))
      (one-note log after log s is (inl (Begins-self log.list)) (le_refl (length (settled_list log))))

  pub put_meta-crashes : (log : Log) (s : Stored) (count : ℕ) (name : Bytes) (entries : List Entry) → IsOwn own log s → IsKept own (counted count log) → MetadataIs own layout.chunks (counted count log) (with_metadata name entries s)
      → CrashesBetween own log (counted count log) s (with_metadata name entries s)
  put_meta-crashes log s count name entries is kept metadata =
      let after = counted count log in
      crashes-between log after s (with_metadata name entries s) (rest_of s ∷ []) refl
      (of-more log after after (with_metadata name entries s) (metadata-own log s count name entries is kept metadata) (inl (Begins-self log.list)) (le_refl (length (settled_list log))))
      (one-note log after log s is (inl (Begins-self log.list)) (le_refl (length (settled_list log))))

  -- a prune, which commits first
  pub prune-crashes : (log : Log) (s : Stored) (to : ℕ) (head : Bytes) → IsOwn own log s → log.start ≤ to → IsKept own (from to (whole log)) → head ≡ head_of own (from to log)
      → CrashesBetween own log (from to (whole log)) s (pruned to head (settled s))
  prune-crashes log s to head is behind low heads =
      let after = from to (whole log) in
      let more = whole-settled log is.kept.stable in
      let done = settled-own log s is in
      crashes-between log after s (pruned to head (settled s)) (rest_of (settled s) ∷ rest_of s ∷ []) refl
      (of-more log after after (pruned to head (settled s)) (pruned-own (whole log) (settled s) to head done behind low heads) (inl (Begins-self log.list)) more)
      (All-cons (λ r. IsBetween own log after (at_rest r)) (rest_of (settled s)) (rest_of s ∷ [])
      (of-more log after (whole log) (at_rest (rest_of (settled s))) (own-alike (whole log) (settled s) (at_rest (rest_of (settled s))) refl done) (inl (Begins-self log.list)) more)
      (one-note log after log s is (inl (Begins-self log.list)) (le_refl (length (settled_list log)))))

  -- an opening of an empty store appends the fresh list and commits it
  pub fresh-crashes : (log : Log) (s : Stored) → IsOwn own log s → log.list ≡ [] → log.start ≡ 0 → CrashesBetween own log (taken_up fresh log) s (settled (appended (map (spelling layout.form) fresh) s))
  fresh-crashes log s is none at =
      let begun = record log { list = log.list ++ fresh } in
      let list_is : log.list ++ fresh ≡ fresh = ap (λ xs. xs ++ fresh) none in
      let same : take log.stable log.list ≡ take log.stable (log.list ++ fresh) = sym (take-append-le log.stable log.list fresh is.kept.stable) in
      let short : log.stable ≤ 0 = let within = is.kept.stable in omega (arith, within, ap length none) in
      let nothing : length (settled_list log) ≤ 0 = let few = settled-at_most log in omega (arith, few, ap length none) in
      let made : IsPartMade own (log.list ++ fresh) = subst (IsPartMade own) (sym list_is) (fresh-made keeps hash layout) in
      let kept : IsKept own begun = record { made = made; start = omega (arith, at); stable = omega (arith, short); chunks = pruned-rises keeps hash layout layout.chunks log (log.list ++ fresh) log.stable (le_of_eq (ap (λ xs. floor (ended_part xs)) same)) (le_of_eq (ap (λ xs. length (ended_part xs)) same)) is.kept.chunks } in
      let grown = appended-own log s fresh is kept in
      let done = settled-own begun (appended (map (spelling layout.form) fresh) s) grown in
      let part : Begins (log.list ++ fresh) fresh = subst (λ xs. Begins xs fresh) (sym list_is) (Begins-self fresh) in
      let after = taken_up fresh log in
      crashes-between log after s (settled (appended (map (spelling layout.form) fresh) s)) (rest_of (appended (map (spelling layout.form) fresh) s) ∷ rest_of s ∷ []) refl
      (of-more log after (whole begun) (settled (appended (map (spelling layout.form) fresh) s)) done (inr part) (omega (arith, nothing)))
      (All-cons (λ r. IsBetween own log after (at_rest r)) (rest_of (appended (map (spelling layout.form) fresh) s)) (rest_of s ∷ [])
      (of-more log after begun (at_rest (rest_of (appended (map (spelling layout.form) fresh) s))) (own-alike begun (appended (map (spelling layout.form) fresh) s) (at_rest (rest_of (appended (map (spelling layout.form) fresh) s))) refl grown) (inr part) (omega (arith, nothing)))
      (one-note log after log s is (inl (Begins-self log.list)) (le_refl (length (settled_list log)))))

  pub destroy-crashes : (log : Log) (s : Stored) → peaks layout.shape 0 ≡ [] → IsOwn own log s → CrashesBetween own log no_log s (destroyed s)
  destroy-crashes log s bare is =
      let none = own-alike no_log empty (destroyed s) refl (empty-own own bare) in
      crashes-between log no_log s (destroyed s) (rest_of s ∷ []) refl
      (record { log = no_log; own = none; part = inr (Begins-self []); stays = (omega arith, λ _. inr refl) })
      (one-note log no_log log s is (inl (Begins-self log.list)) (le_refl (length (settled_list log))))

  -- a call after another
  pub crashes-through : (before after : Log) (s t u : Stored) (first second : List Rest) → t.past ≡ first ++ s.past → u.past ≡ second ++ t.past
      → CrashesBetween own before after s t → CrashesBetween own before after t u → CrashesBetween own before after s u
  crashes-through before after s t u first second noted more one two image crash =
      let both : u.past ≡ (second ++ first) ++ s.past = more ∙ (ap (λ past. second ++ past) noted ∙ sym (append_assoc second first s.past)) in
      let since_is = since-is s u (second ++ first) both in
      cases (Contains-append_cases (rest_of u ∷ second) first crash.found (subst (λ rests. Contains (rest_of u ∷ rests) crash.found) since_is crash.among))
    where
      cases : Contains (rest_of u ∷ second) crash.found ⊎ Contains first crash.found → IsBetween own before after image
      cases (inl late) = two image (record { found = crash.found; among = subst (λ rests. Contains (rest_of u ∷ rests) crash.found) (sym (since-is t u second more)) late; left = crash.left })
      cases (inr early) = one image (record { found = crash.found; among = subst (λ rests. Contains (rest_of t ∷ rests) crash.found) (sym (since-is s t first noted)) (Contains-more first (rest_of t) crash.found early); left = crash.left })

  -- a call that failed, if what it may leave is between the logs
  pub failed-crashes : (before after : Log) (R Q : Stored → Stored → Type 0) (s new : Stored) → ((t : Stored) → R s t → IsBetween own before after t) → ((t : Stored) → Q s t → IsBetween own before after t) → Fails R Q s new → CrashesBetween own before after s new
  failed-crashes before after R Q s new here each fails image crash =
      cases (Contains-append_cases (rest_of new ∷ []) fails.notes crash.found (subst (λ rests. Contains (rest_of new ∷ rests) crash.found) (since-is s new fails.notes fails.past) crash.among))
    where
      alike : (t u : Stored) → rest_of u ≡ rest_of t → IsBetween own before after t → IsBetween own before after u
      alike t u same is = record { log = is.log; own = own-alike is.log t u same is.own; part = is.part; stays = is.stays }

      cases : Contains (rest_of new ∷ []) crash.found ⊎ Contains fails.notes crash.found → IsBetween own before after image
      cases (inl now) = image-between before after (at_rest crash.found) image (All-contains (λ r. IsBetween own before after (at_rest r)) (rest_of new ∷ []) crash.found
          (All-cons (λ r. IsBetween own before after (at_rest r)) (rest_of new) [] (alike new (at_rest (rest_of new)) refl (here new fails.now)) (All-nil (λ r. IsBetween own before after (at_rest r)))) now) crash.left
      cases (inr noted) = alike (record image { ends = s.ends }) image refl (each (record image { ends = s.ends }) (fails.each image (record { found = crash.found; among = noted; left = crash.left })))

  -- with these operations after its list, which is stable up to here
  abbrev part_at : List Operation → ℕ → Log → Log
  part_at more stable log = record log { list = log.list ++ more; stable = stable }

  -- the operations up to a location, of which so many are stable
  abbrev cut_at : ℕ → ℕ → Log → Log
  cut_at to stable log = record log { list = take to log.list; stable = stable }

  -- What a commit leaves that failed: the items up to some end, of which some more may be stable.
  pub reads-between : (log after : Log) (s t : Stored) → IsOwn own log s → ReadsAs s.stable (IsImage s) t → IsBetween own log after t
  reads-between log after s t is r = of-more log after (cut_at r.left.to t.stable log) t owned (inl (begins_take r.left.to log.list)) more
    where
      i : IsImage s r.image
      i = r.left

      same : t ≡ record (left_at i.to s) { stable = t.stable; past = t.past }
      same = r.reads ∙ ap (λ (x : Stored). record x { stable = t.stable; past = t.past }) i.same

      low : log.stable ≤ t.stable
      low = let least = r.least_stable in subst (λ n. n ≤ t.stable) is.stored.stable least

      within : i.to ≤ length log.list
      within = let high = i.may.within in omega (arith, high, end-is log s is)

      from_start : log.start ≤ i.to
      from_start = let start = start-stable keeps hash layout log is.kept in let first = i.may.stable in omega (arith, start, first, is.stored.stable)

      size : length (take i.to log.list) ≡ i.to
      size = length-take-le i.to log.list within

      high : t.stable ≤ i.to
      high =
          let less = r.within in
          omega (arith, less, ap (λ (x : Stored). x.start) same, ap (λ (x : Stored). length x.items) same, length-take (i.to - s.start) s.items, is.stored.start, from_start)

      taken : take t.stable (take i.to log.list) ≡ take t.stable log.list
      taken = take-least t.stable i.to log.list high

      front : Begins (take log.stable log.list) (take t.stable (take i.to log.list))
      front = subst (Begins (take log.stable log.list)) (sym taken) (begins_both log.stable t.stable log.list low)

      rise : floor (settled_list log) ≤ floor (ended_part (take t.stable (take i.to log.list)))
      rise = floor-rises keeps (take log.stable log.list) (take t.stable (take i.to log.list)) is.kept.made.whole is.kept.made.made front
          (Begins-through (take t.stable (take i.to log.list)) (take i.to log.list) is.kept.made.whole (begins_take t.stable (take i.to log.list))
          (Begins-through (take i.to log.list) log.list is.kept.made.whole (begins_take i.to log.list) is.kept.made.begins))

      owned : IsOwn own (cut_at i.to t.stable log) t
      owned = record {
        stored = record {
          start = ap (λ (x : Stored). x.start) same ∙ is.stored.start;
          items = ap (λ (x : Stored). x.items) same ∙ (ap (λ k. take (i.to - k) s.items) is.stored.start ∙ (ap (take (i.to - log.start)) is.stored.items ∙ (take-map (spelling layout.form) (i.to - log.start) (drop log.start log.list)
              ∙ ap (map (spelling layout.form)) (sym (drop-take log.start (i.to - log.start) log.list) ∙ ap (λ k. drop log.start (take k log.list)) (omega (arith, from_start))))));
          head = ap (λ (x : Stored). x.head) same ∙ (is.stored.head ∙ ap (λ xs. concat (pins_at hash layout.shape layout.form xs log.start)) (sym (take-take log.start i.to log.list from_start)));
          metadata = stays-counted log (cut_at i.to t.stable log) s t is refl (settled-within log i.to (le_trans low high)) (ap (λ (x : Stored). x.metadata) same);
          stable = refl;
        };
        kept = record {
          made = part-made keeps hash layout log i.to is.kept;
          start = le_trans is.kept.start rise;
          stable = subst (λ n. t.stable ≤ n) (sym size) high;
          chunks = pruned-rises keeps hash layout layout.chunks log (take i.to log.list) t.stable rise (length-rises (take log.stable log.list) (take t.stable (take i.to log.list)) front) is.kept.chunks;
        };
      }

      more : length (settled_list log) ≤ length (settled_list (cut_at i.to t.stable log))
      more = settled-rises log (cut_at i.to t.stable log) (subst (Begins (take log.stable log.list)) (sym taken) (begins_both log.stable t.stable log.list low))

  -- so a crash in a commit that fails leaves what is between the logs
  pub failed_commit-crashes : (log : Log) (s new : Stored) → IsOwn own log s → Fails (λ s. ReadsAs s.stable (IsImage s)) (λ s. ReadsAs s.stable (IsImage s)) s new → CrashesBetween own log (whole log) s new
  failed_commit-crashes log s new is fails =
      failed-crashes log (whole log) (λ s. ReadsAs s.stable (IsImage s)) (λ s. ReadsAs s.stable (IsImage s)) s new (λ t r. reads-between log (whole log) s t is r) (λ t r. reads-between log (whole log) s t is r) fails

  -- a crash in an append that fails, of which a first part may be there
  append-between : (log : Log) (s t : Stored) (more : List Operation) → IsOwn own log s → IsKept own (record log { list = log.list ++ more }) → HasAppended (map (spelling layout.form) more) s t → IsBetween own log (record log { list = log.list ++ more }) t
  append-between log s t more is kept a = of-more log (record log { list = log.list ++ more }) (part_at (take a.count more) t.stable log) t owned (inr begins) up
    where
      after : List Operation
      after = log.list ++ more

      low : log.stable ≤ t.stable
      low = let least = a.least_stable in subst (λ n. n ≤ t.stable) is.stored.stable least

      begins : Begins (log.list ++ take a.count more) (log.list ++ more)
      begins = front log.list more a.count
        where
          front : (xs ys : List Operation) (n : ℕ) → Begins (xs ++ take n ys) (xs ++ ys)
          front [] ys n = begins_take n ys
          front (x ∷ xs) ys n = ap (λ zs. x ∷ zs) (front xs ys n)

      begun : IsKept own (record log { list = log.list ++ take a.count more }) → IsOwn own (record log { list = log.list ++ take a.count more }) (appended (map (spelling layout.form) (take a.count more)) s)
      begun part = appended-own log s (take a.count more) is part

      start-in : log.start ≤ length log.list
      start-in = start-within keeps hash layout log is.kept

      high : t.stable ≤ length (log.list ++ take a.count more)
      high =
          let inside : s.stable ≤ end_of s = omega (arith, (is.kept).stable, is.stored.stable, end-is log s is) in
          let less = a.within inside in
          let items = ap (λ (x : Stored). length x.items) a.reads in
          let same : map (spelling layout.form) (take a.count more) ≡ take a.count (map (spelling layout.form) more) = sym (take-map (spelling layout.form) a.count more) in
          omega (arith, less, ap (λ (x : Stored). x.start) a.reads, items, length-append s.items (take a.count (map (spelling layout.form) more)), end-is log s is, length-append log.list (take a.count more), ap length same, length-map (take a.count more) (spelling layout.form))

      made : IsPartMade own (log.list ++ take a.count more)
      made = record {
        whole = kept.made.whole;
        made = kept.made.made;
        begins = Begins-through (log.list ++ take a.count more) (log.list ++ more) kept.made.whole begins kept.made.begins;
        of_form = subst (All (IsOf layout.form)) begins (All-take (IsOf layout.form) (length (log.list ++ take a.count more)) (log.list ++ more) kept.made.of_form);
      }

      settled_front : Begins (take log.stable log.list) (take t.stable (log.list ++ take a.count more))
      settled_front = subst (λ xs. Begins xs (take t.stable (log.list ++ take a.count more))) (take-append-le log.stable log.list (take a.count more) is.kept.stable) (begins_both log.stable t.stable (log.list ++ take a.count more) low)

      rise : floor (settled_list log) ≤ floor (ended_part (take t.stable (log.list ++ take a.count more)))
      rise = floor-rises keeps (take log.stable log.list) (take t.stable (log.list ++ take a.count more)) made.whole made.made settled_front
          (Begins-through (take t.stable (log.list ++ take a.count more)) (log.list ++ take a.count more) made.whole (begins_take t.stable (log.list ++ take a.count more)) made.begins)

      owned : IsOwn own (part_at (take a.count more) t.stable log) t
      owned = record {
        stored = record {
          start = ap (λ (x : Stored). x.start) a.reads ∙ is.stored.start;
          items = ap (λ (x : Stored). x.items) a.reads ∙ (ap (λ xs. s.items ++ xs) (take-map (spelling layout.form) a.count more)
              ∙ (ap (λ xs. xs ++ map (spelling layout.form) (take a.count more)) is.stored.items ∙ (sym (map-append (spelling layout.form) (drop log.start log.list) (take a.count more)) ∙ ap (map (spelling layout.form)) (sym (drop-append-le log.start log.list (take a.count more) start-in)))));
          head = ap (λ (x : Stored). x.head) a.reads ∙ (is.stored.head ∙ ap (λ xs. concat (pins_at hash layout.shape layout.form xs log.start)) (sym (take-append-le log.start log.list (take a.count more) start-in)));
          metadata = stays-counted log (part_at (take a.count more) t.stable log) s t is refl (settled-before log (take a.count more)) (ap (λ (x : Stored). x.metadata) a.reads);
          stable = refl;
        };
        kept = record {
          made = made;
          start = le_trans is.kept.start rise;
          stable = high;
          chunks = pruned-rises keeps hash layout layout.chunks log (log.list ++ take a.count more) t.stable rise (length-rises (take log.stable log.list) (take t.stable (log.list ++ take a.count more)) settled_front) is.kept.chunks;
        };
      }

      up : length (settled_list log) ≤ length (settled_list (part_at (take a.count more) t.stable log))
      up = settled-rises log (part_at (take a.count more) t.stable log) settled_front

  pub failed_append-crashes : (log : Log) (s new : Stored) (more : List Operation) → IsOwn own log s → IsKept own (record log { list = log.list ++ more })
      → Fails (HasAppended (map (spelling layout.form) more)) (λ s. IsImage (appended (map (spelling layout.form) more) s)) s new → CrashesBetween own log (record log { list = log.list ++ more }) s new
  failed_append-crashes log s new more is kept fails =
      let after = record log { list = log.list ++ more } in
      let same : settled_list after ≡ settled_list log = ap ended_part (take-append-le log.stable log.list more is.kept.stable) in
      let whole_between : IsBetween own log after (appended (map (spelling layout.form) more) s) = of-more log after after (appended (map (spelling layout.form) more) s) (appended-own log s more is kept) (inr (Begins-self (log.list ++ more))) (omega (arith, ap length same)) in
      failed-crashes log after (HasAppended (map (spelling layout.form) more)) (λ s. IsImage (appended (map (spelling layout.form) more) s)) s new (λ t a. append-between log s t more is kept a)
      (λ t i. image-between log after (appended (map (spelling layout.form) more) s) t whole_between i) fails

  -- a restart, after which all that is left is stable
  pub restart-crashes : (log : Log) (s new : Stored) → IsOwn own log s → (r : HasRestarted s new) → CrashesBetween own log (logs.left_at r.to log) s new
  restart-crashes log s new is r =
      let after = logs.left_at r.to log in
      let image : IsImage s (left_at r.to s) = record { to = r.to; may = r.may; same = refl } in
      let owned = own-alike after (left_at r.to s) new (ap rest_of r.same) (image-is log s (left_at r.to s) is image) in
      let low : log.stable ≤ r.to = let from = r.may.stable in omega (arith, from, is.stored.stable) in
      let more : length (settled_list log) ≤ length (settled_list after) = settled-rises log after (subst (Begins (take log.stable log.list)) (sym (take-least r.to r.to log.list (le_refl r.to))) (begins_both log.stable r.to log.list low)) in
      crashes-between log after s new (rest_of s ∷ []) (ap (λ (x : Stored). x.past) r.same)
      (of-more log after after new owned (inr (Begins-self (take r.to log.list))) more)
      (one-note log after log s is (inl (Begins-self log.list)) (le_refl (length (settled_list log))))

  -- A store all of which was stable, after a call that failed and may have left an image of it: it is that image.
  whole-image : (u image t : Stored) → u.start ≤ u.stable → u.stable ≡ end_of u → IsImage u image → t ≡ record image { stable = t.stable; past = t.past } → end_of u ≤ t.stable → t.stable ≤ end_of t → rest_of t ≡ rest_of image
  whole-image u image t low all i reads least within =
      let from = i.may.stable in
      let high = i.may.within in
      let size = ap (λ (x : Stored). length x.items) reads ∙ ap (λ (x : Stored). length x.items) i.same in
      let start = ap (λ (x : Stored). x.start) reads ∙ ap (λ (x : Stored). x.start) i.same in
      let stable : t.stable ≡ image.stable = omega (arith, least, within, size, start, low, all, from, high, length-take (i.to - u.start) u.items, ap (λ (x : Stored). x.stable) i.same) in
      ap rest_of reads ∙ ap (λ n. rest_of (record image { stable = n })) stable

  -- metadata that was to be put, of whichever count
  pub failed_put_meta-crashes : (log : Log) (s new : Stored) (count : ℕ) (name : Bytes) (entries : List Entry) → IsOwn own log s → IsKept own (counted count log) → MetadataIs own layout.chunks (counted count log) (with_metadata name entries s)
      → Fails (λ s. ReadsAs s.stable (IsOldOrNew (with_metadata name entries) s)) (λ s. ReadsAs s.stable (IsOldOrNew (with_metadata name entries) s)) s new → CrashesBetween own log (counted count log) s new
  failed_put_meta-crashes log s new count name entries is kept metadata fails =
      failed-crashes log (counted count log) (λ s. ReadsAs s.stable (IsOldOrNew (with_metadata name entries) s)) (λ s. ReadsAs s.stable (IsOldOrNew (with_metadata name entries) s)) s new each each fails
    where
      each : (t : Stored) → ReadsAs s.stable (IsOldOrNew (with_metadata name entries) s) t → IsBetween own log (counted count log) t
      each t r = by r.left
        where
          by : IsOldOrNew (with_metadata name entries) s r.image → IsBetween own log (counted count log) t
          by (inl i) = reads-between log (counted count log) s t is (record { image = r.image; left = i; reads = r.reads; least_stable = r.least_stable; within = r.within })
          by (inr i) =
              let more = reads-between (counted count log) (counted count log) (with_metadata name entries s) t (metadata-own log s count name entries is kept metadata) (record { image = r.image; left = i; reads = r.reads; least_stable = r.least_stable; within = r.within }) in
              record { log = more.log; own = more.own; part = more.part; stays = more.stays }

  -- a prune of a database with chunks, which commits first, and then counts the chunks that it prunes
  pub counted_prune-crashes : (log : Log) (s : Stored) (count : ℕ) (name : Bytes) (entries : List Entry) (to : ℕ) (head : Bytes) → IsOwn own log s → IsKept own (counted count (whole log))
      → MetadataIs own layout.chunks (counted count (whole log)) (with_metadata name entries (settled s)) → log.start ≤ to → IsKept own (from to (counted count (whole log)))
      → head ≡ head_of own (from to log) → CrashesBetween own log (from to (counted count (whole log))) s (pruned to head (with_metadata name entries (settled s)))
  counted_prune-crashes log s count name entries to head is kept metadata behind last heads =
      let after = from to (counted count (whole log)) in
      let more = whole-settled log is.kept.stable in
      let done = settled-own log s is in
      let told = metadata-own (whole log) (settled s) count name entries done kept metadata in
      let noted = with_metadata name entries (settled s) in
      crashes-between log after s (pruned to head noted) (rest_of noted ∷ rest_of (settled s) ∷ rest_of s ∷ []) refl
      (of-more log after after (pruned to head noted) (pruned-own (counted count (whole log)) noted to head told behind last heads) (inl (Begins-self log.list)) more)
      (All-cons (λ r. IsBetween own log after (at_rest r)) (rest_of noted) (rest_of (settled s) ∷ rest_of s ∷ [])
      (of-more log after (counted count (whole log)) (at_rest (rest_of noted)) (own-alike (counted count (whole log)) noted (at_rest (rest_of noted)) refl told) (inl (Begins-self log.list)) more)
      (All-cons (λ r. IsBetween own log after (at_rest r)) (rest_of (settled s)) (rest_of s ∷ [])
      (of-more log after (whole log) (at_rest (rest_of (settled s))) (own-alike (whole log) (settled s) (at_rest (rest_of (settled s))) refl done) (inl (Begins-self log.list)) more)
      (one-note log after log s is (inl (Begins-self log.list)) (le_refl (length (settled_list log))))))

  -- a prune that fails after its commit
  pub failed_prune-crashes : (log : Log) (s new : Stored) (to : ℕ) (head : Bytes) → IsOwn own log s → log.start ≤ to → IsKept own (from to (whole log)) → head ≡ head_of own (from to log)
      → Fails (λ u. ReadsAs u.stable (IsOldOrNew (pruned to head) u)) (λ u. ReadsAs u.stable (IsOldOrNew (pruned to head) u)) (settled s) new → CrashesBetween own log (from to (whole log)) s new
  failed_prune-crashes log s new to head is behind low heads fails =
      crashes-through log after s (settled s) new (rest_of s ∷ []) fails.notes refl fails.past
      (crashes-between log after s (settled s) (rest_of s ∷ []) refl middle (one-note log after log s is (inl (Begins-self log.list)) (le_refl (length (settled_list log)))))
      (failed-crashes log after (λ u. ReadsAs u.stable (IsOldOrNew (pruned to head) u)) (λ u. ReadsAs u.stable (IsOldOrNew (pruned to head) u)) (settled s) new each each fails)
    where
      after : Log
      after = from to (whole log)

      more : length (settled_list log) ≤ length (settled_list (whole log))
      more = whole-settled log is.kept.stable

      done : IsOwn own (whole log) (settled s)
      done = settled-own log s is

      middle : IsBetween own log (from to (whole log)) (settled s)
      middle = of-more log (from to (whole log)) (whole log) (settled s) done (inl (Begins-self log.list)) more

      last : IsBetween own log (from to (whole log)) (pruned to head (settled s))
      last = of-more log (from to (whole log)) (from to (whole log)) (pruned to head (settled s)) (pruned-own (whole log) (settled s) to head done behind low heads) (inl (Begins-self log.list)) more

      size : end_of s ≡ length log.list
      size = end-is log s is

      alike : (t u : Stored) → rest_of u ≡ rest_of t → IsBetween own log (from to (whole log)) t → IsBetween own log (from to (whole log)) u
      alike t u same between = record { log = between.log; own = own-alike between.log t u same between.own; part = between.part; stays = between.stays }

      far : to ≤ length log.list
      far = start-within keeps hash layout (from to (whole log)) (pruned-own (whole log) (settled s) to head done behind low heads).kept

      each : (t : Stored) → ReadsAs (settled s).stable (IsOldOrNew (pruned to head) (settled s)) t → IsBetween own log (from to (whole log)) t
      each t r = by r.left
        where
          by : IsOldOrNew (pruned to head) (settled s) r.image → IsBetween own log (from to (whole log)) t
          by (inl i) = alike r.image t (whole-image (settled s) r.image t (omega (arith, start-within keeps hash layout log is.kept, is.stored.start, size)) refl i r.reads r.least_stable r.within)
              (image-between log (from to (whole log)) (settled s) r.image middle i)
          by (inr i) =
              let end : end_of (pruned to head (settled s)) ≡ end_of s = omega (arith, length-drop (to - s.start) s.items, is.stored.start, behind, far, size) in
              let least = r.least_stable in
              alike r.image t (whole-image (pruned to head (settled s)) r.image t (omega (arith, far, size)) (omega (arith, end)) i r.reads (omega (arith, end, least)) r.within)
              (image-between log (from to (whole log)) (pruned to head (settled s)) r.image last i)

  -- an opening that fails in its rewind, or after it
  pub failed_opening-crashes : (log : Log) (s new : Stored) (n : ℕ) → IsOwn own log s → n ≤ length log.list → IsCommitEnded (take n log.list) → IsKept own (taken_up (take n log.list) log)
      → Fails (λ s. ReadsAs (min s.stable n) (RewindLeaves n s)) (λ s. ReadsAs (min s.stable n) (RewindLeaves n s)) s new → CrashesBetween own log (taken_up (take n log.list) log) s new
  failed_opening-crashes log s new n is within ended low fails =
      failed-crashes log (taken_up (take n log.list) log) (λ s. ReadsAs (min s.stable n) (RewindLeaves n s)) (λ s. ReadsAs (min s.stable n) (RewindLeaves n s)) s new each each fails
    where
      few : Log
      few = record log { stable = min log.stable n }

      each : (t : Stored) → ReadsAs (min s.stable n) (RewindLeaves n s) t → IsBetween own log (taken_up (take n log.list) log) t
      each t r =
          let between = reads-between (record log { stable = min log.stable n }) (record log { stable = min log.stable n }) (lowered n s) t (lowered-own log s n is within ended low) r in
          let front = lower-stays log s n is within ended low in
          let stays = between.stays.0 in
          let at_most = settled-at_most (record log { stable = min log.stable n }) in
          record {
            log = between.log;
            own = between.own;
            part = elim between.part [ inl p ↦ inl p | inr p ↦ inl p ];
            stays = (omega (arith, stays, front, at_most, cut-size log s n is within ended low), λ none. absurd (never-none log s n is within ended low none));
          }

  -- a destroy that fails
  pub failed_destroy-crashes : (log : Log) (s new : Stored) → peaks layout.shape 0 ≡ [] → IsOwn own log s → Fails DestroyLeaves DestroyLeaves s new → CrashesBetween own log no_log s new
  failed_destroy-crashes log s new bare is fails = failed-crashes log no_log DestroyLeaves DestroyLeaves s new each each fails
    where
      each : (t : Stored) → DestroyLeaves s t → IsBetween own log no_log t
      each t (inl r) = reads-between log no_log s t is r
      each t (inr r) =
          let i = r.left in
          let short = i.may.within in
          let zero_to : i.to ≡ 0 = omega (arith, short) in
          let same : t ≡ record (left_at 0 (destroyed s)) { stable = t.stable; past = t.past } = r.reads ∙ (ap (λ (x : Stored). record x { stable = t.stable; past = t.past }) i.same ∙ ap (λ n. record (left_at n (destroyed s)) { stable = t.stable; past = t.past }) zero_to) in
          let less = r.within in
          let none : t.stable ≡ 0 = omega (arith, less, ap (λ (x : Stored). x.start) same, ap (λ (x : Stored). length x.items) same) in
          let found : rest_of t ≡ rest_of empty = ap rest_of same ∙ ap (λ n. rest_of (record empty { stable = n })) none in
          record { log = no_log; own = own-alike no_log empty t found (empty-own own bare); part = inr (Begins-self []); stays = (omega arith, λ _. inr refl) }

  -- What is left is opened.
  pub between-opens : OpensParts own → (before after : Log) (s : Stored) (is : IsBetween own before after s) → OpensWhole own is.log → OpensBetween own before after s
  between-opens parts before after s is opened = record {
    log = is.log;
    own = is.own;
    size = opened.size;
    accepted = subst (λ f. opening own.layout f None ≡ opens opened.size) (sym (opens-alike own is.log s is.own)) opened.accepted;
    ended = takes.ended;
    part = cases takes.part;
    stays = (le_trans is.stays.0 opened.settled, λ none. more (is.stays.1 none));
  }
    where
      takes : Takes own is.log None opened.size
      takes = parts is.log None opened.size is.own.kept opened.accepted

      list : List Operation
      list = opened_list opened.size is.log.list

      through : Begins list is.log.list → (Begins is.log.list before.list ⊎ Begins is.log.list after.list) → Begins list before.list ⊎ (Begins list after.list ⊎ (list ≡ fresh))
      through begins (inl part) = inl (Begins-through list is.log.list before.list begins part)
      through begins (inr part) = inr (inl (Begins-through list is.log.list after.list begins part))

      cases : Begins list is.log.list ⊎ ((is.log.list ≡ []) × (list ≡ fresh)) → Begins list before.list ⊎ (Begins list after.list ⊎ (list ≡ fresh))
      cases (inl begins) = through begins is.part
      cases (inr (none, is_fresh)) = inr (inr is_fresh)

      more : (length (settled_list before) ≤ length (settled_list is.log)) ⊎ (is.log ≡ no_log) → (length (settled_list before) ≤ opened.size) ⊎ (is.log ≡ no_log)
      more (inl up) = inl (le_trans up opened.settled)
      more (inr none) = inr none

  pub crash-laws : CrashLaws own
  crash-laws = record {
    commit = commit-crashes;
    failed_commit = failed_commit-crashes;
    append = append-crashes;
    failed_append = failed_append-crashes;
    restart = restart-crashes;
    failed_prune = failed_prune-crashes;
    failed_opening = failed_opening-crashes;
    failed_destroy = failed_destroy-crashes;
    put_meta = put_meta-crashes;
    failed_put_meta = failed_put_meta-crashes;
    prune = prune-crashes;
    counted_prune = counted_prune-crashes;
    opening = opening-crashes;
    fresh = fresh-crashes;
    destroy = destroy-crashes;
    through = crashes-through;
  }

-- Of which databases metadata stays: of any ones, which look at none, and of those with chunks, whose pins are the same of each list that goes on.

plain-stays : {P : Type 0} (kind : Kind) (rules : Rules P) (hash : Bytes → Bytes) (form : Form) (shape : Shape) (digest_size : ℕ) → MetadataStays (any_engine kind rules hash form shape digest_size)
plain-stays kind rules hash form shape digest_size low log other s t kept one two front more metas is = two ∙ is

abbrev pub with_chunks : Form → Shape → ℕ → Chunks → Layout
with_chunks form shape digest_size c = record { form = form; shape = shape; digest_size = digest_size; chunks = Some c }

none-pruned : (n h : ℕ) → n * 2 ^ h ≤ 0 → n ≡ 0
none-pruned zero h low = refl
none-pruned (suc n) h low = let up = mul-le 1 (2 ^ h) (suc n) (2 ^ h) (omega arith) (le_refl (2 ^ h)) in let some = pow_pos h in absurd (omega (arith, low, up, some))

module _ {P : Type 0} {kind : Kind} {rules : Rules P} (keeps : Keeps kind rules) (hash : Bytes → Bytes) (form : Form) (shape : Shape) (digest_size : ℕ) (c : Chunks) (births : Births) (trees : HasPlaces shape births) (enough : 3 ≤ c.height) where
  abbrev grafted : Engine P
  grafted = record { kind = kind; rules = rules; hash = hash; layout = with_chunks form shape digest_size c }

  -- readable metadata counts no more chunks than trees have leaves
  few-counted : (log : Log) (entries : List Entry) → IsCounted grafted c log entries → log.chunks ≤ 2 ^ 62
  few-counted log entries is =
      let checks = when (not (length (count_bytes entries) == 8)) CountNotValid
      ∷ when (nat_lt (2 ^ 62) (count_in entries * 2 ^ c.height)) CountTooLarge
      ∷ when (list_any is_none (pins_found shape entries (count_in entries))) MissingPin
      ∷ when (list_any (is_wrong_size digest_size) (pins_found shape entries (count_in entries))) InvalidPin
      ∷ [] in
      let low = ltb-false (2 ^ 62) (count_in entries * 2 ^ c.height) (not_when (nat_lt (2 ^ 62) (count_in entries * 2 ^ c.height)) CountTooLarge (all_pass checks 1 is.readable)) in
      let up = mul-le (count_in entries) 1 (count_in entries) (2 ^ c.height) (le_refl (count_in entries)) (pow_pos c.height) in
      let same = is.count in
      omega (arith, low, up, same)

  pub counted-metadata : MetadataStays grafted
  counted-metadata low log other s t kept one two front more metas is =
      subst (λ ms. IsCounted grafted c other (metadata_in ms c.name)) (sym metas) (cases (ended-part (take low.stable low.list)))
    where
      within : low.chunks * 2 ^ c.height ≤ floor (settled_list low)
      within = le_trans kept.chunks.1 (boundary_most shape c.height (floor (settled_list low)) (length (settled_list low)))

      cases : IsPart (take low.stable low.list) (ended_size (take low.stable low.list)) → IsCounted grafted c other (metadata_in s.metadata c.name)
      cases (inl z) =
          let none = none-pruned low.chunks c.height (subst (λ n. low.chunks * 2 ^ c.height ≤ n) (no_floor (take low.stable low.list) (ended_size (take low.stable low.list)) z) within) in
          counted-none grafted births trees.family trees.peaked c enough trees.bare log other (metadata_in s.metadata c.name) (sym one ∙ none) two is
      cases (inr (some, less, ended)) =
          let made = (keeps.begins (settled_list low) kept.made.whole kept.made.made (Begins-through (settled_list low) low.list kept.made.whole (settled-in low) kept.made.begins) ended).0 in
          counted-stays grafted births trees.family trees.peaked c enough (settled_list low) log other (metadata_in s.metadata c.name) (keeps.good (settled_list low) made)
          (subst (λ n. n * 2 ^ c.height ≤ floor (settled_list low)) one within) (few-counted log (metadata_in s.metadata c.name) is) front more two is

module _ {P : Type 0} (rules : Rules P) (hash : Bytes → Bytes) (form : Form) (shape : Shape) (digest_size : ℕ) where
  pub unordered-crashes : CrashLaws (any_engine unordered rules hash form shape digest_size)
  unordered-crashes = crash-laws (unordered-keeps rules) hash (without_chunks form shape digest_size) (plain-stays unordered rules hash form shape digest_size)

  pub ordered-crashes : CrashLaws (any_engine ordered rules hash form shape digest_size)
  ordered-crashes = crash-laws (ordered-keeps rules) hash (without_chunks form shape digest_size) (plain-stays ordered rules hash form shape digest_size)

  pub unordered-between : (before after : Log) (s : Stored) → form.ordered ≡ false → (is : IsBetween (any_engine unordered rules hash form shape digest_size) before after s)
      → length (head_of (any_engine unordered rules hash form shape digest_size) is.log) ≡ digest_size * length (peaks shape is.log.start) → OpensBetween (any_engine unordered rules hash form shape digest_size) before after s
  unordered-between before after s plain is pinned =
      between-opens (unordered-keeps rules) hash (without_chunks form shape digest_size) (plain-stays unordered rules hash form shape digest_size) (any-takes (unordered-keeps rules) hash form shape digest_size) before after s is (unordered-whole rules hash form shape digest_size is.log plain is.own.kept pinned)

  pub ordered-between : (before after : Log) (s : Stored) → (is : IsBetween (any_engine ordered rules hash form shape digest_size) before after s)
      → length (head_of (any_engine ordered rules hash form shape digest_size) is.log) ≡ digest_size * length (peaks shape is.log.start) → OpensBetween (any_engine ordered rules hash form shape digest_size) before after s
  ordered-between before after s is pinned =
      between-opens (ordered-keeps rules) hash (without_chunks form shape digest_size) (plain-stays ordered rules hash form shape digest_size) (any-takes (ordered-keeps rules) hash form shape digest_size) before after s is (ordered-whole rules hash form shape digest_size is.log is.own.kept pinned)

-- Of current databases.
module _ {P : Type 0} (rules : Rules P) (hash : Bytes → Bytes) (form : Form) (shape : Shape) (digest_size : ℕ) (c : Chunks) (births : Births) (trees : HasPlaces shape births) (enough : 3 ≤ c.height) where
  pub unordered-counted : CrashLaws (current_engine unordered rules hash form shape digest_size c)
  unordered-counted = crash-laws (unordered-keeps rules) hash (with_chunks form shape digest_size c) (counted-metadata (unordered-keeps rules) hash form shape digest_size c births trees enough)

  pub ordered-counted : CrashLaws (current_engine ordered rules hash form shape digest_size c)
  ordered-counted = crash-laws (ordered-keeps rules) hash (with_chunks form shape digest_size c) (counted-metadata (ordered-keeps rules) hash form shape digest_size c births trees enough)

  pub unordered-counted_image : (log : Log) (s image : Stored) → IsOwn (current_engine unordered rules hash form shape digest_size c) log s → (i : IsImage s image) → IsOwn (current_engine unordered rules hash form shape digest_size c) (logs.left_at i.to log) image
  unordered-counted_image = image-is (unordered-keeps rules) hash (with_chunks form shape digest_size c) (counted-metadata (unordered-keeps rules) hash form shape digest_size c births trees enough)

  pub ordered-counted_image : (log : Log) (s image : Stored) → IsOwn (current_engine ordered rules hash form shape digest_size c) log s → (i : IsImage s image) → IsOwn (current_engine ordered rules hash form shape digest_size c) (logs.left_at i.to log) image
  ordered-counted_image = image-is (ordered-keeps rules) hash (with_chunks form shape digest_size c) (counted-metadata (ordered-keeps rules) hash form shape digest_size c births trees enough)

  pub unordered-counted_between : ArePrompt (Some c) shape → NeedsRise (Some c) shape → (before after : Log) (s : Stored) → form.ordered ≡ false → (is : IsBetween (current_engine unordered rules hash form shape digest_size c) before after s)
      → length (head_of (current_engine unordered rules hash form shape digest_size c) is.log) ≡ digest_size * length (peaks shape is.log.start) → OpensBetween (current_engine unordered rules hash form shape digest_size c) before after s
  unordered-counted_between prompt rise before after s plain is pinned =
      between-opens (unordered-keeps rules) hash (with_chunks form shape digest_size c) (counted-metadata (unordered-keeps rules) hash form shape digest_size c births trees enough)
      (unordered-parts rules hash (with_chunks form shape digest_size c) prompt) before after s is (unordered-opened rules hash (with_chunks form shape digest_size c) rise is.log plain is.own.kept pinned)

  pub ordered-counted_between : ArePrompt (Some c) shape → NeedsRise (Some c) shape → (before after : Log) (s : Stored) → (is : IsBetween (current_engine ordered rules hash form shape digest_size c) before after s)
      → length (head_of (current_engine ordered rules hash form shape digest_size c) is.log) ≡ digest_size * length (peaks shape is.log.start) → OpensBetween (current_engine ordered rules hash form shape digest_size c) before after s
  ordered-counted_between prompt rise before after s is pinned =
      between-opens (ordered-keeps rules) hash (with_chunks form shape digest_size c) (counted-metadata (ordered-keeps rules) hash form shape digest_size c births trees enough)
      (ordered-parts rules hash (with_chunks form shape digest_size c) prompt) before after s is (ordered-opened rules hash (with_chunks form shape digest_size c) rise is.log is.own.kept pinned)

-- Both families are such ones; in both no node waits that an opening does not ask for, and more chunks need no smaller size.

pub mmr_places : HasPlaces mmr mmr_births
unfolding digits_below
mmr_places = record { family = mmr_is_family; peaked = mmr_has_peaks; bare = refl }

pub mmb_places : HasPlaces mmb mmb_births
unfolding digits_below ones ones_in count_leading_zeros
mmb_places = record { family = mmb_is_family; peaked = mmb_has_peaks; bare = refl }

pub mmr_at_once : (c : Chunks) → ArePrompt (Some c) mmr
mmr_at_once c k none = le_refl (suc k * 2 ^ c.height)

pub mmb_at_once : (c : Chunks) → 0 < c.height → ArePrompt (Some c) mmb
mmb_at_once c some k none = absurd (none-some _ (sym none ∙ mmb_threshold c.height k some))

pub mmr_rises : (c : Chunks) → NeedsRise (Some c) mmr
mmr_rises c a b low =
    let g = c.height in
    subst (λ n. n ≤ needed_size mmr g (suc b)) (sym (needs a)) (subst (λ n. suc a * 2 ^ g ≤ n) (sym (needs b)) (mul-le (suc a) (2 ^ g) (suc b) (2 ^ g) (omega (arith, low)) (le_refl (2 ^ g))))
  where
    needs : (k : ℕ) → needed_size mmr c.height (suc k) ≡ suc k * 2 ^ c.height
    needs k = ap (λ o. option_map_or (λ m. m) o (mmr.birth (chunk_node c.height (suc k - 1)))) (mmr_no_threshold c.height (suc k)) ∙ ap (λ j. suc j * 2 ^ c.height) (omega arith)

pub mmb_rises : (c : Chunks) → 0 < c.height → NeedsRise (Some c) mmb
mmb_rises c some a b low =
    let g = c.height in
    let half = quotient-rises a b 2 (omega arith) low in
    let up = mul-le (suc (a / 2)) (2 ^ suc g) (suc (b / 2)) (2 ^ suc g) (omega (arith, half)) (le_refl (2 ^ suc g)) in
    let least : suc (a / 2) * 2 ^ suc g + 2 ^ g - 1 ≤ suc (b / 2) * 2 ^ suc g + 2 ^ g - 1 = omega (arith, up) in
    subst (λ n. n ≤ needed_size mmb g (suc b)) (sym (needs a)) (subst (λ n. suc (a / 2) * 2 ^ suc g + 2 ^ g - 1 ≤ n) (sym (needs b)) least)
  where
    needs : (k : ℕ) → needed_size mmb c.height (suc k) ≡ suc (k / 2) * 2 ^ suc c.height + 2 ^ c.height - 1
    needs k = ap (λ o. option_map_or (λ m. m) o (mmb.birth (chunk_node c.height (suc k - 1)))) (mmb_threshold c.height k some)

-- Of logs that databases leave metadata counts the same, whatever chunks they have.

module _ {P Q : Type 0} {kind : Kind} (rules : Rules P) (policies : Rules Q) (keeps : Keeps kind rules) (hash : Bytes → Bytes) (form : Form) (shape : Shape) (digest_size : ℕ) where
  abbrev pub under : {R : Type 0} → Rules R → Option Chunks → Engine R
  under rules chunks = record { kind = kind; rules = rules; hash = hash; layout = record { form = form; shape = shape; digest_size = digest_size; chunks = chunks } }

  -- under other policies too, since metadata tells nothing of these
  pub keeps-count : (chunks : Option Chunks) → IfSome chunks (IsOver hash shape digest_size) → (low : Log) → IsKept (under rules chunks) low → KeepsCount (under policies chunks) low
  keeps-count None over low kept log other s t one two front more metas is = two ∙ is
  keeps-count (Some c) over low kept log other s t one two front more metas is =
      alike policies other t
      (counted-metadata keeps hash form shape digest_size c over.births over.trees over.enough low log other s t kept one two front more metas (alike rules log s is))
    where
      alike : {R S : Type 0} {a : Rules S} (b : Rules R) (log : Log) (s : Stored) → MetadataIs (under a (Some c)) (Some c) log s → MetadataIs (under b (Some c)) (Some c) log s
      alike b log s is = record { readable = is.readable; count = is.count; pins = is.pins }
