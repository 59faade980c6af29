-- Bits into which the changes of a step are put one by one.
use Rattle.std.proofs.Common.{◌≡◌, ℕ, ◌+◌, ◌-◌, ◌*◌, ◌<◌, ◌≤◌, Bool, true, false, cond, List, [], ◌∷◌, ◌++◌, length, take, drop, map, set, get_or, replicate, refl, ap, ap₂, sym, ◌∙◌, subst, Option, Some, None, arith, append_assoc, ⊎_elim, true≢false}
use Rattle.std.specs.Prelude.{find, option_map, bytes_eq, IfSome, if◌then◌else◌}
use Rattle.std.specs.Option.{option_or}
use Rattle.std.proofs.lemmas.Bool.{cases_lt}
use Rattle.std.proofs.lemmas.List.{take-append-drop, length-take, length-append, length-replicate, map-append, get_or_append_left, get_or-replicate}
use Rattle.std.proofs.lemmas.List.Folds.{find-append}
use Rattle.qm_model.specs.Bits.{bits}
use Rattle.qm_model.specs.Operations.{Bytes, Operation, IsCommitEnded}
use Rattle.qm_model.specs.Live.{Live, touched}
use Rattle.qm_model.proofs.BitLemmas.{length-bits}
use Rattle.qm_model.proofs.LastWrites.{bytes_same}
use Rattle.qm_bits.specs.Bitmaps.{Bitmap, start, bit_count, all_bits}
use Rattle.qm_chain.specs.Ascending.{IsAscending}
use Rattle.qm_chain.specs.Entries.{keys_of}
use Rattle.qm_step.specs.Changes.{Change, Changes, AreChanges, LeadTo, change_in, place_in, stands_at}
use Rattle.qm_overlay.specs.Marks.{AreMarked, HasLive, IsAlike, cleared, marked}
use Rattle.qm_index.proofs.Basics.{or-none}
use Rattle.qm_overlay.proofs.Laying.{length-all}
use Rattle.qm_overlay.proofs.Marking.{place-within, place-behind, place-once, ended-some, bit-last, begun, done, key-cleared, key-marked, marked-same}
use Rattle.qm_step.proofs.Staged.{staged, change_in-push, entry-fresh, entry-own, entry-more}
use Rattle.qm_step.proofs.Steps.{changed, unchanged}

-- where a key stands once these changes of a base list's keys are put in
abbrev pub stage : Changes → List Operation → Bytes → Option ℕ
stage done base key = staged (change_in done key) (place_in base key)

-- a change among the first is one of all
change_in-front : (done rest : Changes) (key : Bytes) (c : Change) → change_in done key ≡ Some c → change_in (done ++ rest) key ≡ Some c
change_in-front done rest key c is =
    ap (option_map (λ (u : Bytes × Change). u.1)) (find-append (λ u. bytes_eq u.0 key) done rest) ∙ by (find (λ u. bytes_eq u.0 key) done) is
  where
    by : (o : Option (Bytes × Change)) → option_map (λ (u : Bytes × Change). u.1) o ≡ Some c → option_map (λ (u : Bytes × Change). u.1) (option_or o (find (λ u. bytes_eq u.0 key) rest)) ≡ Some c
    by None is = cc
    by (Some u) is = is

module _ (all : Changes) (base tip : List Operation) (are : AreChanges all base tip) where
  whole : base ++ drop (length base) tip ≡ tip
  whole = ap (λ front. front ++ drop (length base) tip) (sym are.begins) ∙ take-append-drop (length base) tip

  -- the tip is no shorter
  pub tip-longer : length base ≤ length tip
  tip-longer = let front = length-take (length base) tip in let same = ap length are.begins in omega (arith, front, same)

  -- a key with a change stands where it says, in the tip
  stands-now : (key : Bytes) (c : Change) (i : ℕ) → change_in all key ≡ Some c → option_map (λ (p : ℕ × Bytes). p.0) c.now ≡ Some i → place_in tip key ≡ Some i
  stands-now key c i is at = ap (option_map (λ (p : ℕ × Bytes). p.0)) (changed all base tip are key c is).0 ∙ at

  -- after the base list
  stands-behind : (key : Bytes) (c : Change) (i : ℕ) → change_in all key ≡ Some c → place_in tip key ≡ Some i → length base ≤ i
  stands-behind key c i is at = by (touched key (drop (length base) tip)) refl (sym (are.each key) ∙ is)
    where
      by : (t : Bool) → touched key (drop (length base) tip) ≡ t → (if t then Some (record { now = stands_at tip key; before = place_in base key }) else None) ≡ Some c → length base ≤ i
      by true again found = place-behind base (drop (length base) tip) key i again (ap (λ ops. place_in ops key) whole ∙ at)
      by false again found = cc

  -- what stands where a key of the base list stood is that key
  stage-once : (done rest : Changes) → done ++ rest ≡ all → (key other : Bytes) (i : ℕ) → place_in base key ≡ Some i → stage done base other ≡ Some i → other ≡ key
  stage-once done rest parts key other i stood there = by (change_in done other) refl there
    where
      by : (o : Option Change) → change_in done other ≡ o → staged o (place_in base other) ≡ Some i → other ≡ key
      by None is at = place-once base other key i at stood
      by (Some c) is at =
          let own : change_in all other ≡ Some c = ap (λ cs. change_in cs other) (sym parts) ∙ change_in-front done rest other c is in
          let behind = stands-behind other c i own (stands-now other c i own at) in
          let within = place-within base key i stood in
          absurd (omega (arith, behind, within))

  module _ (done rest : Changes) (key : Bytes) (c : Change) (parts : done ++ rest ≡ all) (fresh : change_in done key ≡ None) (own : change_in all key ≡ Some c) where
    abbrev now : Option ℕ
    now = option_map (λ p. p.0) c.now

    -- where keys stand once its old place is given up
    abbrev between : Bytes → Option ℕ
    between other = cond (bytes_eq key other) None (stage done base other)

    stood : place_in base key ≡ c.before
    stood = (changed all base tip are key c own).1

    -- where it stands now there is a bit, after the base list
    pub now-within : IfSome now (λ i. (length base ≤ i) × (i < length tip))
    now-within = by now refl
      where
        by : (o : Option ℕ) → option_map (λ (p : ℕ × Bytes). p.0) c.now ≡ o → IfSome o (λ i. (length base ≤ i) × (i < length tip))
        by None is = tt
        by (Some i) is = let at = stands-now key c i own is in (stands-behind key c i own at, place-within tip key i at)

    next-own : stage (done ++ (key, c) ∷ []) base key ≡ now
    next-own =
        ap (λ o. staged o (place_in base key))
        (change_in-push done key c key ∙ ap (λ o. option_or o (cond (bytes_eq key key) (Some c) None)) fresh ∙ ap (λ b. cond b (Some c) None) (bytes_same key))

    next-other : (other : Bytes) → bytes_eq key other ≡ false → stage (done ++ (key, c) ∷ []) base other ≡ between other
    next-other other apart =
        ap (λ o. staged o (place_in base other)) (change_in-push done key c other ∙ ap (λ b. option_or (change_in done other) (cond b (Some c) None)) apart ∙ or-none (change_in done other))
        ∙ sym (ap (λ b. cond b None (stage done base other)) apart)

    -- a key more
    pub stage-more : (old : List Bool) → length tip ≤ length old → length (cleared old c.before) ≡ length old → AreMarked old (stage done base) → AreMarked (marked (cleared old c.before) now) (stage (done ++ (key, c) ∷ []) base)
    stage-more old enough as_long are_old =
        let gone : between key ≡ None = ap (λ b. cond b None (stage done base key)) (bytes_same key) in
        let at : stage done base key ≡ c.before = ap (λ o. staged o (place_in base key)) fresh ∙ stood in
        let once : (k : Bytes) (i : ℕ) → stage done base k ≡ Some i → c.before ≡ Some i → k ≡ key = λ k i there before. stage-once done rest parts key k i (stood ∙ before) there in
        let clear = key-cleared old (stage done base) between key are_old (λ k apart. ap (λ b. cond b None (stage done base k)) apart) c.before at gone once in
        key-marked (cleared old c.before) between (stage (done ++ (key, c) ∷ []) base) key clear next-other now gone next-own (fits now now-within)
      where
        fits : (o : Option ℕ) → IfSome o (λ i. (length base ≤ i) × (i < length tip)) → IfSome o (λ i. i < length (cleared old c.before))
        fits None within = tt
        fits (Some i) within = let high = within.1 in omega (arith, high, enough, as_long)

  -- all of a step's changes
  pub stage-all : (now : List Bool) → AreMarked now (stage all base) → AreMarked now (place_in tip)
  stage-all now are_now = marked-same now (stage all base) (place_in tip) (λ key. by key (change_in all key) refl) are_now
    where
      by : (key : Bytes) (o : Option Change) → change_in all key ≡ o → staged o (place_in base key) ≡ place_in tip key
      by key (Some c) is = ap (option_map (λ (p : ℕ × Bytes). p.0)) (sym (changed all base tip are key c is).0)
      by key None is = ap (λ o. option_map (λ (p : ℕ × Bytes). p.0) (option_map (λ (e : Live). (e.location, e.value)) o)) (sym (unchanged all base tip are key is))

-- steps lead to no shorter list
pub lead-longer : (steps : List Changes) (from tip : List Operation) → LeadTo steps from tip → length from ≤ length tip
lead-longer [] from tip same = let long = ap length same in omega (arith, long)
lead-longer (newest ∷ older) from tip (base, are, lead) =
    let last = tip-longer newest base tip are in
    let rest = lead-longer older from base lead in
    omega (arith, last, rest)

-- Bits of a bitmap.

pub alike-start : (size : ℕ) (old new : Bitmap) → new.pruned ≡ old.pruned → start size new ≡ start size old
alike-start size old new same = ap (λ n. n * (8 * size)) same

pub alike-then : (size : ℕ) (old mid new : Bitmap) → IsAlike size old mid → IsAlike size mid new → IsAlike size old new
alike-then size old mid new first next = record { pruned = next.pruned ∙ first.pruned; count = next.count ∙ first.count }

pub extended-count : (size : ℕ) (old more : Bitmap) (len : ℕ) → bit_count size old ≤ len → more ≡ record { pruned = old.pruned; kept = old.kept ++ replicate (len - bit_count size old) false } → bit_count size more ≡ len
extended-count size old more len enough is =
    let same = ap (bit_count size) is in
    let both = length-append old.kept (replicate (len - bit_count size old) false) in
    let rest = length-replicate (len - bit_count size old) false in
    omega (arith, same, both, rest, enough)

-- a list's bits, with clear ones after them and without that of its last commit
pub bits-begun : (size : ℕ) (old more new : Bitmap) (len before last : ℕ) (from : List Operation) → all_bits size old ≡ bits from → IsCommitEnded from
    → more ≡ record { pruned = old.pruned; kept = old.kept ++ replicate (len - bit_count size old) false } → before ≡ bit_count size old → last ≡ before - 1 → new.pruned ≡ more.pruned → all_bits size new ≡ set (all_bits size more) last false → HasLive size new from
bits-begun size old more new len before last from same ended is before_is last_is pruned cleared_is =
    let n = len - bit_count size old in
    let long : bit_count size old ≡ length from = sym (length-all size old) ∙ ap length same ∙ length-bits from in
    let some = ended-some from ended in
    let all : all_bits size more ≡ bits from ++ replicate n false =
    ap (all_bits size) is ∙ sym (append_assoc (replicate (start size old) false) old.kept (replicate n false)) ∙ ap (λ bs. bs ++ replicate n false) same in
    let place : last ≡ length from - 1 = last_is ∙ ap (λ k. k - 1) (before_is ∙ long) in
    let start_is = alike-start size old new (pruned ∙ ap (λ m. m.pruned) is) in
    record {
      live = subst (λ bs. AreMarked bs (place_in from)) (sym (cleared_is ∙ ap₂ (λ bs k. set bs k false) all place)) (begun from n ended);
      kept = subst (λ k. k < length from) (sym start_is) (⊎_elim
          (λ (low : start size old < length from). low)
          (λ (past : length from ≤ start size old).
          let front = length-replicate {A = Bool} (start size old) false in
          let clear : get_or (all_bits size old) (length from - 1) false ≡ false =
          get_or_append_left (replicate (start size old) false) old.kept false (length from - 1) (omega arith) ∙ get_or-replicate (start size old) (length from - 1) false false (omega arith) in
          absurd (true≢false (sym (bit-last from some) ∙ ap (λ bs. get_or bs (length from - 1) false) (sym same) ∙ clear)))
          (cases_lt (start size old) (length from)));
    }

-- with that of the last operation, they are the list's bits
pub bits-done : (size : ℕ) (now new : Bitmap) (len last : ℕ) (tip : List Operation) → HasLive size now tip → bit_count size now ≡ length tip → len ≡ length tip → last ≡ len - 1 → (start size now ≤ last → all_bits size new ≡ set (all_bits size now) last true)
    → all_bits size new ≡ bits tip
bits-done size now new len last tip has count len_is last_is sets =
    let low = has.kept in
    let place : last ≡ length tip - 1 = last_is ∙ ap (λ k. k - 1) len_is in
    sets (omega arith) ∙ ap (λ k. set (all_bits size now) k true) place ∙ done tip (all_bits size now) has.live (length-all size now ∙ count)

-- over the entries of a diff, at place i
module _ {K E : Type 0} (key : K → Bytes) (what : E → Change) (xs : List (K × E)) (i : ℕ) (d : K × E) (within : i < length xs) (here : d ≡ get_or xs i d) (size : ℕ) (first old mid new : Bitmap) (base tip : List Operation) where
  abbrev view : K × E → Bytes × Change
  view e = (key e.0, what e.1)

  pub stage-next : (before now : Option ℕ) → IsAscending (keys_of key xs) → AreChanges (map view xs) base tip → length tip ≤ bit_count size first → HasLive size first base → IsAlike size first old → IsAlike size old mid →
      before ≡ (what d.1).before → now ≡ option_map (λ (p : ℕ × Bytes). p.0) (what d.1).now →
      all_bits size mid ≡ cleared (all_bits size old) before → (IfSome now (λ at. start size mid ≤ at) → all_bits size new ≡ marked (all_bits size mid) now) →
      AreMarked (all_bits size old) (stage (map view (take i xs)) base) → AreMarked (all_bits size new) (stage (map view (take (i + 1) xs)) base)
  stage-next before now ascends are few has alike next before_is now_is clears marks so_far =
      let parts : map view (take i xs) ++ map view (drop i xs) ≡ map view xs = sym (map-append view (take i xs) (drop i xs)) ∙ ap (map view) (take-append-drop i xs) in
      let fresh = entry-fresh key what xs i d within here ascends in
      let own = entry-own key what xs i d within here ascends in
      let inside = now-within (map view xs) base tip are (map view (take i xs)) (map view (drop i xs)) (key d.0) (what d.1) parts fresh own in
      let mid_is : all_bits size mid ≡ cleared (all_bits size old) (what d.1).before = clears ∙ ap (cleared (all_bits size old)) before_is in
      let long : length (cleared (all_bits size old) (what d.1).before) ≡ length (all_bits size old) = ap length (sym mid_is) ∙ length-all size mid ∙ next.count ∙ sym (length-all size old) in
      let enough : length tip ≤ length (all_bits size old) = let count = length-all size old in let same = alike.count in omega (arith, few, count, same) in
      let start_is : start size mid ≡ start size first = alike-start size first mid (next.pruned ∙ alike.pruned) in
      let new_is : all_bits size new ≡ marked (cleared (all_bits size old) (what d.1).before) (option_map (λ (p : ℕ × Bytes). p.0) (what d.1).now) =
      marks (subst (λ o. IfSome o (λ at. start size mid ≤ at)) (sym now_is) (behind start_is (option_map (λ (p : ℕ × Bytes). p.0) (what d.1).now) inside)) ∙ ap₂ marked mid_is now_is in
      subst (λ bs. AreMarked bs (stage (map view (take (i + 1) xs)) base)) (sym new_is)
      (subst (λ cs. AreMarked (marked (cleared (all_bits size old) (what d.1).before) (option_map (λ (p : ℕ × Bytes). p.0) (what d.1).now)) (stage cs base)) (sym (entry-more key what xs i d within here))
      (stage-more (map view xs) base tip are (map view (take i xs)) (map view (drop i xs)) (key d.0) (what d.1) parts fresh own (all_bits size old) enough long so_far))
    where
      behind : start size mid ≡ start size first → (o : Option ℕ) → IfSome o (λ at. (length base ≤ at) × (at < length tip)) → IfSome o (λ at. start size mid ≤ at)
      behind start_is None inside = tt
      behind start_is (Some at) inside = let low = inside.0 in let kept = has.kept in omega (arith, start_is, low, kept)
