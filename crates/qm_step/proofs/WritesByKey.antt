-- The last writes in maps by key.
use Rattle.std.proofs.Common.{◌≡◌, ℕ, Bool, true, false, cond, List, [], ◌∷◌, ◌++◌, length, map, refl, ap, ap₂, sym, ◌∙◌, Option, Some, None, option_map, Ordering, Less, Equal, Greater}
use Rattle.std.specs.Prelude.{slice_get, bytes_eq}
use Rattle.std.specs.BTreeMap.{insert_entry}
use Rattle.std.specs.Map.{lookup}
use Rattle.std.specs.Option.{option_and_then}
use Rattle.std.specs.Cmp.Lexicographic.{slice_cmp}
use Rattle.std.specs.Ordering.{nat_cmp, is_eq, match_ordering}
use Rattle.std.proofs.lemmas.List.Sums.{fold_push}
use Rattle.std.proofs.lemmas.Map.Text.{is_eq-slice_cmp}
use Rattle.std.proofs.lemmas.Option.{same_Some, slice_get_within}
use Rattle.qm_model.specs.Operations.{Bytes}
use Rattle.qm_model.specs.Writes.{Write, put_write, placed, write_of, last_writes}
use Rattle.qm_model.proofs.LastWrites.{equal_keys}
use Rattle.qm_step.specs.Written.{ArePlaces}
use Rattle.qm_index.proofs.Basics.{bytes-turned}
use Rattle.qm_step.proofs.PlanReads.{slice_get-front}

-- entries by keys with bytes, each of which shows its write's mark
module _ {K X Y : Type 0} (bytes : K → Bytes) (view : X → Y) (mark : Write → Y) where
  abbrev pub entry_shown : K × X → Bytes × Y
  entry_shown e = (bytes e.0, view e.1)

  abbrev pub marked : Write → Bytes × Y
  marked w = (w.key, mark w)

  abbrev pub bytes_cmp : K → K → Ordering
  bytes_cmp a b = slice_cmp nat_cmp (bytes a) (bytes b)

  -- a write put into a map by key is put among the last writes
  pub put-shown : (es : List (K × X)) (us : List Write) (k : K) (x : X) (w : Write) → map entry_shown es ≡ map marked us → bytes k ≡ w.key → view x ≡ mark w →
      map entry_shown (insert_entry bytes_cmp es k x) ≡ map marked (put_write us w)
  put-shown [] [] k x w same key value = ap₂ (λ b y. (b, y) ∷ []) key value
  put-shown [] (u ∷ us) k x w same key value = cc
  put-shown (e ∷ es) [] k x w same key value = cc
  put-shown (e ∷ es) (u ∷ us) k x w same key value =
      by (bytes_cmp k e.0) refl (put-shown es us k x w tail key value)
    where
      head : entry_shown e ≡ marked u
      head = cc

      tail : map entry_shown es ≡ map marked us
      tail = cc

      place : bytes e.0 ≡ u.key
      place = ap (λ (p : Bytes × Y). p.0) head

      turned : slice_cmp nat_cmp w.key u.key ≡ bytes_cmp k e.0
      turned = ap₂ (slice_cmp nat_cmp) (sym key) (sym place)

      by : (o : Ordering) → bytes_cmp k e.0 ≡ o → map entry_shown (insert_entry bytes_cmp es k x) ≡ map marked (put_write us w) →
          map entry_shown (match_ordering (bytes_cmp k e.0) ((k, x) ∷ e ∷ es) ((e.0, x) ∷ es) (e ∷ insert_entry bytes_cmp es k x)) ≡ map marked (placed (slice_cmp nat_cmp w.key u.key) w u us (put_write us w))
      by o is later =
          ap (λ o. map entry_shown (match_ordering o ((k, x) ∷ e ∷ es) ((e.0, x) ∷ es) (e ∷ insert_entry bytes_cmp es k x))) is
          ∙ each o is later
          ∙ ap (λ o. map marked (placed o w u us (put_write us w))) (sym (turned ∙ is))
        where
          each : (o : Ordering) → bytes_cmp k e.0 ≡ o → map entry_shown (insert_entry bytes_cmp es k x) ≡ map marked (put_write us w) →
              map entry_shown (match_ordering o ((k, x) ∷ e ∷ es) ((e.0, x) ∷ es) (e ∷ insert_entry bytes_cmp es k x)) ≡ map marked (placed o w u us (put_write us w))
          each Less is later = ap₂ (λ p rest. p ∷ rest) (ap₂ (λ b y. (b, y)) key value) same
          each Equal is later = ap₂ (λ p rest. p ∷ rest) (ap₂ (λ b y. (b, y)) (sym (equal_keys (bytes k) (bytes e.0) is) ∙ key) value) tail
          each Greater is later = ap₂ (λ p rest. p ∷ rest) head later

  -- what a map by key has under a key is its last write's
  pub looked-up : (es : List (K × X)) (us : List Write) (q : Bytes) → map entry_shown es ≡ map marked us → option_map view (lookup (λ k. is_eq (slice_cmp nat_cmp q (bytes k))) es) ≡ option_map mark (write_of us q)
  looked-up [] [] q same = refl
  looked-up [] (u ∷ us) q same = cc
  looked-up (e ∷ es) [] q same = cc
  looked-up (e ∷ es) (u ∷ us) q same =
      ap (λ t. option_map view (cond t (Some e.1) (lookup (λ k. is_eq (slice_cmp nat_cmp q (bytes k))) es)))
      (is_eq-slice_cmp q (bytes e.0) ∙ ap (bytes_eq q) (ap (λ (p : Bytes × Y). p.0) head) ∙ bytes-turned q u.key)
      ∙ by (bytes_eq u.key q) (looked-up es us q tail)
    where
      head : entry_shown e ≡ marked u
      head = cc

      tail : map entry_shown es ≡ map marked us
      tail = cc

      by : (t : Bool) → option_map view (lookup (λ k. is_eq (slice_cmp nat_cmp q (bytes k))) es) ≡ option_map mark (write_of us q) →
          option_map view (cond t (Some e.1) (lookup (λ k. is_eq (slice_cmp nat_cmp q (bytes k))) es)) ≡ option_map mark (cond t (Some u) (write_of us q))
      by true later = ap (λ (p : Bytes × Y). Some p.1) head
      by false later = later

slice_get-longer : (ws more : List Write) (i : ℕ) (w : Write) → slice_get ws i ≡ Some w → slice_get (ws ++ more) i ≡ Some w
slice_get-longer ws more i w is = slice_get-front ws more i (slice_get_within ws i w is) ∙ is

slice_get-end : (ws : List Write) (w : Write) → slice_get (ws ++ w ∷ []) (length ws) ≡ Some w
slice_get-end [] w = refl
slice_get-end (u ∷ us) w = slice_get-end us w

module _ {K : Type 0} (bytes : K → Bytes) where
  -- places stay if more writes come after them
  places-longer : (es : List (K × ℕ)) (us ws more : List Write) → map (entry_shown bytes (slice_get ws) Some) es ≡ map (marked bytes (slice_get ws) Some) us →
      map (entry_shown bytes (slice_get (ws ++ more)) Some) es ≡ map (marked bytes (slice_get ws) Some) us
  places-longer [] [] ws more same = refl
  places-longer [] (u ∷ us) ws more same = cc
  places-longer (e ∷ es) [] ws more same = cc
  places-longer (e ∷ es) (u ∷ us) ws more same =
      let head : entry_shown bytes (slice_get ws) Some e ≡ marked bytes (slice_get ws) Some u = cc in
      let tail : map (entry_shown bytes (slice_get ws) Some) es ≡ map (marked bytes (slice_get ws) Some) us = cc in
      ap₂ (λ p rest. p ∷ rest)
      (ap₂ (λ b y. (b, y)) (ap (λ (p : Bytes × Option Write). p.0) head) (slice_get-longer ws more e.1 u (ap (λ (p : Bytes × Option Write). p.1) head)))
      (places-longer es us ws more tail)

  -- no writes have no places
  pub places-none : (es : List (K × ℕ)) (ws : List Write) → es ≡ [] → ws ≡ [] → ArePlaces bytes es ws
  places-none es ws none empty = rw (none, empty) refl

  -- one write more takes its key's place
  pub places-more : (es new : List (K × ℕ)) (ws : List Write) (w : Write) (k : K) (at : ℕ) → ArePlaces bytes es ws → bytes k ≡ w.key → at ≡ length ws →
      new ≡ insert_entry (λ a b. slice_cmp nat_cmp (bytes a) (bytes b)) es k at → ArePlaces bytes new (ws ++ w ∷ [])
  places-more es new ws w k at are key here put =
      ap (map (entry_shown bytes (slice_get (ws ++ w ∷ [])) Some)) put
      ∙ put-shown bytes (slice_get (ws ++ w ∷ [])) Some es (last_writes ws) k at w (places-longer es (last_writes ws) ws (w ∷ []) are) key (ap (slice_get (ws ++ w ∷ [])) here ∙ slice_get-end ws w)
      ∙ ap (map (λ (u : Write). (u.key, Some u))) (sym (fold_push put_write [] ws w))

  -- the write at a key's place is its last one
  pub place-read : (es : List (K × ℕ)) (ws : List Write) (q : Bytes) (place : Option ℕ) → ArePlaces bytes es ws → place ≡ lookup (λ k. is_eq (slice_cmp nat_cmp q (bytes k))) es →
      option_and_then (slice_get ws) place ≡ write_of (last_writes ws) q
  place-read es ws q place are is =
      ap (option_and_then (slice_get ws)) is
      ∙ by (lookup (λ k. is_eq (slice_cmp nat_cmp q (bytes k))) es) (write_of (last_writes ws) q) (looked-up bytes (slice_get ws) Some es (last_writes ws) q are)
    where
      by : (o : Option ℕ) (w : Option Write) → option_map (slice_get ws) o ≡ option_map Some w → option_and_then (slice_get ws) o ≡ w
      by None None h = refl
      by None (Some w) h = cc
      by (Some i) None h = cc
      by (Some i) (Some w) h = same_Some _ _ h
