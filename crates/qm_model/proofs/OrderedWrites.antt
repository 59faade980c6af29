-- The writes of an ordered step: the values that they leave, and the ring.
use Rattle.std.proofs.Common.{◌≡◌, ◌+◌, Bool, true, false, List, ◌++◌, length, map, refl, ap, sym, ◌∙◌, Option, Some, None, ◌||◌, ◌&&◌, inl, inr}
use Rattle.std.specs.Prelude.{not, filter_map, fold, option_map, option_and_then, is_some, is_none, if◌then◌else◌}
use Rattle.std.specs.List.{AllByRecursion as Each}
use Rattle.std.specs.Option.{option_or}
use Rattle.std.proofs.lemmas.List.Sums.{fold-append}
use Rattle.std.proofs.lemmas.List.Folds.{list_any-append}
use Rattle.std.proofs.lemmas.List.Elements.{All-from_recursion, recursion_from_All}
use Rattle.qm_model.specs.Operations.{Bytes, Operation, update, delete}
use Rattle.qm_model.specs.Live.{Live, live, live_from, live_of, live_keys, touches, touched, value_of}
use Rattle.qm_model.specs.Keys.{successor, predecessor, contains_key, without, once}
use Rattle.qm_model.specs.Writes.{Write, write_of, last_writes, overwritten}
use Rattle.qm_model.specs.Ordered.{IsRing, rewritten, put_of, deleted_keys, updated_keys, created_keys, ordered_writes}
use Rattle.qm_model.proofs.LastWrites.{bytes_same, last_writes-Rising}
use Rattle.qm_model.proofs.Maps.{after, value_of-append}
use Rattle.qm_model.proofs.KeyOrder.{Has, SameKeys, or-left, or-right, or-false, or-either, and-true, and-both, false-not, not-false, not-true, apart, contains-append, contains-without, predecessor-is, successor-kept, successor-same}
use Rattle.qm_model.proofs.OrderedLists.{Each-all, Each-both, Each-live-append, touched-linked, fold-linked, live-linked, live-contains, live-value, Each-has, fold-made, fold-deletes, given, after-put, after-rewritten, touched-deletes, touched-by, Rising-single, picked, contains-picked, contains-once, Has-found, Has-within}

-- the value of a key after the deletes, the updates, the creates and the links, by which of them have it
abbrev steps : Option Bytes → Option Bytes → Bool → Bool → Bool → Bool → Option Bytes
steps v l d u c b =
    let x = if d then None else l in
    let y = if u then option_or v x else x in
    let z = if c then option_or v y else y in
    if b then option_or l z else z

-- of a written key that is live as l, or not
combine_at : (v : Option Bytes) (l : Option Live) (b : Bool) → (b ≡ true → (is_some v && is_some l) ≡ false) → (b ≡ true → (is_none v && is_some l) ≡ false) →
    steps v (option_map (λ e. e.value) l) (is_none v && is_some l) (is_some v && is_some l) (is_some v && is_none l) b ≡ v
combine_at None None true h k = refl
combine_at None None false h k = refl
combine_at None (Some e) true h k = let no : true ≡ false = k refl in cc
combine_at None (Some e) false h k = refl
combine_at (Some v) None true h k = refl
combine_at (Some v) None false h k = refl
combine_at (Some v) (Some e) true h k = let no : true ≡ false = h refl in cc
combine_at (Some v) (Some e) false h k = refl

combine : (o : Option Write) (l : Option Live) (b : Bool) → (b ≡ true → picked is_some is_some o l ≡ false) → (b ≡ true → picked is_none is_some o l ≡ false) →
    steps (option_and_then (λ w. w.value) o) (option_map (λ e. e.value) l) (picked is_none is_some o l) (picked is_some is_some o l) (picked is_some is_none o l) b ≡ overwritten o (option_map (λ e. e.value) l)
combine None None true h k = refl
combine None None false h k = refl
combine None (Some e) true h k = refl
combine None (Some e) false h k = refl
combine (Some w) l b h k = combine_at w.value l b h k

alive_at : (v : Option Bytes) (l : Option Live) → is_some v ≡ ((is_some l && not (is_none v && is_some l)) || (is_some v && is_none l))
alive_at None None = refl
alive_at None (Some e) = refl
alive_at (Some v) None = refl
alive_at (Some v) (Some e) = refl

-- a key is live after the writes if it was and is not deleted, or is created
alive : (o : Option Write) (l : Option Live) → is_some (overwritten o (option_map (λ e. e.value) l)) ≡ ((is_some l && not (picked is_none is_some o l)) || picked is_some is_none o l)
alive None None = refl
alive None (Some e) = refl
alive (Some w) l = alive_at w.value l

-- a written value is put
pub put-some : (o : Option Write) (l : Option Live) (key : Bytes) → picked is_some is_some o l ≡ true → (v : Bytes) × (option_map (λ value. update key value None) (option_and_then (λ w. w.value) o) ≡ Some (update key v None))
put-some None l key h = absurd (cc)
put-some (Some w) l key h = cases w.value h
  where
    cases : (v : Option Bytes) → (is_some v && is_some l) ≡ true → (x : Bytes) × (option_map (λ value. update key value None) v ≡ Some (update key x None))
    cases None h = absurd (cc)
    cases (Some x) h = (x, refl)

-- a live key is written again
pub rewritten-some : (es : List Live) (key : Bytes) → Has (map (λ e. e.key) es) key → (v : Bytes) × (rewritten es key ≡ Some (update key v None))
rewritten-some es key h = cases (live_of es key) (sym (live-contains es key) ∙ h)
  where
    cases : (o : Option Live) → is_some o ≡ true → (v : Bytes) × (option_map (λ e. update key e.value None) o ≡ Some (update key v None))
    cases None h = absurd (cc)
    cases (Some e) h = (e.value, refl)

module _ (ops : List Operation) (ws : List Write) where
  abbrev pub last : List Write
  last = last_writes ws

  abbrev pub deleted : List Bytes
  deleted = deleted_keys (live ops) last

  abbrev pub updated : List Bytes
  updated = updated_keys (live ops) last

  abbrev pub created : List Bytes
  created = created_keys (live ops) last

  abbrev pub kept : List Bytes
  kept = without deleted (live_keys ops)

  -- the keys before those that are created or deleted
  abbrev pub before_them : List Bytes
  before_them = filter_map (predecessor kept) (created ++ deleted)

  abbrev pub relinked : List Bytes
  relinked = without updated (once before_them)

  abbrev plain : List Operation
  plain = map delete deleted ++ filter_map (put_of last) updated ++ filter_map (put_of last) created ++ filter_map (rewritten (live ops)) relinked

  abbrev made : List Operation
  made = ordered_writes ops ws

  pub in_deleted : (key : Bytes) → contains_key deleted key ≡ picked is_none is_some (write_of last key) (live_of (live ops) key)
  in_deleted key = contains-picked is_none is_some (live ops) last key (Rising-single last (last_writes-Rising ws))

  pub in_updated : (key : Bytes) → contains_key updated key ≡ picked is_some is_some (write_of last key) (live_of (live ops) key)
  in_updated key = contains-picked is_some is_some (live ops) last key (Rising-single last (last_writes-Rising ws))

  pub in_created : (key : Bytes) → contains_key created key ≡ picked is_some is_none (write_of last key) (live_of (live ops) key)
  in_created key = contains-picked is_some is_none (live ops) last key (Rising-single last (last_writes-Rising ws))

  pub in_kept : (key : Bytes) → contains_key kept key ≡ (contains_key (live_keys ops) key && not (contains_key deleted key))
  in_kept key = contains-without deleted (live_keys ops) key

  pub in_relinked : (key : Bytes) → contains_key relinked key ≡ (contains_key before_them key && not (contains_key updated key))
  in_relinked key = contains-without updated (once before_them) key ∙ ap (λ t. t && not (contains_key updated key)) (contains-once before_them key)

  pub before_them-kept : (key : Bytes) → Has before_them key → Has kept key
  before_them-kept key h = Has-within (predecessor kept) kept (λ x y e. let is = predecessor-is kept x y e in is.has) (created ++ deleted) key h

  relinked-updated : (key : Bytes) → Has relinked key → contains_key updated key ≡ false
  relinked-updated key h = not-false (contains_key updated key) (and-true (contains_key before_them key) (not (contains_key updated key)) (sym (in_relinked key) ∙ h)).1

  relinked-deleted : (key : Bytes) → Has relinked key → contains_key deleted key ≡ false
  relinked-deleted key h =
      let found = (and-true (contains_key before_them key) (not (contains_key updated key)) (sym (in_relinked key) ∙ h)).0 in
      not-false (contains_key deleted key) (and-true (contains_key (live_keys ops) key) (not (contains_key deleted key)) (sym (in_kept key) ∙ before_them-kept key found)).1

  -- the writes give each key the value of its last write
  pub ordered-written : (key : Bytes) → value_of (ops ++ ordered_writes ops ws) key ≡ overwritten (write_of (last_writes ws) key) (value_of ops key)
  ordered-written key =
      let f = after key in
      let l = live_of (live ops) key in
      let o = write_of last key in
      let b0 = value_of ops key in
      let ds = map delete deleted in
      let us = filter_map (put_of last) updated in
      let cs = filter_map (put_of last) created in
      let bs = filter_map (rewritten (live ops)) relinked in
      value_of-append ops made key
      ∙ fold-linked (kept ++ created) key b0 plain
      ∙ fold-append f b0 (ds ++ us ++ cs) bs
      ∙ ap (λ b. fold f b bs) (fold-append f b0 (ds ++ us) cs)
      ∙ ap (λ b. fold f (fold f b cs) bs) (fold-append f b0 ds us)
      ∙ ap (λ b. fold f (fold f (fold f b us) cs) bs) (fold-deletes key deleted b0)
      ∙ fold-made (rewritten (live ops)) (λ x. option_map (λ e. e.value) (live_of (live ops) x)) key (after-rewritten (live ops) key) relinked
      (fold f (fold f (if contains_key deleted key then None else b0) us) cs)
      ∙ ap (λ z. if contains_key relinked key then option_or b0 z else z)
      (fold-made (put_of last) (given last) key (after-put last key) created (fold f (if contains_key deleted key then None else b0) us)
      ∙ ap (λ y. if contains_key created key then option_or (given last key) y else y)
      (fold-made (put_of last) (given last) key (after-put last key) updated (if contains_key deleted key then None else b0)))
      ∙ ap (λ d. steps (given last key) b0 d (contains_key updated key) (contains_key created key) (contains_key relinked key)) (in_deleted key)
      ∙ ap (λ u. steps (given last key) b0 (picked is_none is_some o l) u (contains_key created key) (contains_key relinked key)) (in_updated key)
      ∙ ap (λ c. steps (given last key) b0 (picked is_none is_some o l) (picked is_some is_some o l) c (contains_key relinked key)) (in_created key)
      ∙ combine o l (contains_key relinked key) (λ h. sym (in_updated key) ∙ relinked-updated key h) (λ h. sym (in_deleted key) ∙ relinked-deleted key h)

  -- the keys that are live then
  pub written-keys : SameKeys (kept ++ created) (live_keys (ops ++ ordered_writes ops ws))
  written-keys key =
      let l = live_of (live ops) key in
      let o = write_of last key in
      contains-append kept created key
      ∙ ap (λ t. t || contains_key created key) (in_kept key)
      ∙ ap (λ t. (contains_key (live_keys ops) key && not t) || contains_key created key) (in_deleted key)
      ∙ ap (λ t. (contains_key (live_keys ops) key && not (picked is_none is_some o l)) || t) (in_created key)
      ∙ ap (λ t. (t && not (picked is_none is_some o l)) || picked is_some is_none o l) (live-contains (live ops) key)
      ∙ sym (alive o l) ∙ ap is_some (sym (ordered-written key)) ∙ sym (live-value (ops ++ ordered_writes ops ws) key)

  untouched-plain : (key : Bytes) → touched key (ordered_writes ops ws) ≡ false →
      (contains_key deleted key ≡ false) × (touched key (filter_map (put_of last) updated) ≡ false) × (touched key (filter_map (rewritten (live ops)) relinked) ≡ false)
  untouched-plain key h =
      let ds = map delete deleted in
      let us = filter_map (put_of last) updated in
      let cs = filter_map (put_of last) created in
      let bs = filter_map (rewritten (live ops)) relinked in
      let none : touched key plain ≡ false = sym (touched-linked (kept ++ created) key plain) ∙ h in
      let one = or-false (touched key (ds ++ us ++ cs)) (touched key bs) (sym (list_any-append (touches key) (ds ++ us ++ cs) bs) ∙ none) in
      let two = or-false (touched key (ds ++ us)) (touched key cs) (sym (list_any-append (touches key) (ds ++ us) cs) ∙ one.0) in
      let three = or-false (touched key ds) (touched key us) (sym (list_any-append (touches key) ds us) ∙ two.0) in
      (sym (touched-deletes key deleted) ∙ three.0, three.1, one.1)

  -- a live key that the writes do not touch is neither updated nor linked anew
  not-updated : (key : Bytes) → touched key (filter_map (put_of last) updated) ≡ false → contains_key updated key ≡ false
  not-updated key h =
      false-not (contains_key updated key) (λ at.
      let put = put-some (write_of last key) (live_of (live ops) key) key (sym (in_updated key) ∙ at) in
      apart (touched key (filter_map (put_of last) updated)) (touched-by (put_of last) key (update key put.0 None) put.1 (bytes_same key) updated at) h)

  not-relinked : (key : Bytes) → Has (live_keys ops) key → touched key (filter_map (rewritten (live ops)) relinked) ≡ false → contains_key relinked key ≡ false
  not-relinked key lives h =
      false-not (contains_key relinked key) (λ at.
      let again = rewritten-some (live ops) key lives in
      apart (touched key (filter_map (rewritten (live ops)) relinked)) (touched-by (rewritten (live ops)) key (update key again.0 None) again.1 (bytes_same key) relinked at) h)

  -- its next key stays
  same-next : (key : Bytes) → Has (live_keys ops) key → touched key (ordered_writes ops ws) ≡ false → successor (live_keys ops) key ≡ successor (live_keys (ops ++ ordered_writes ops ws)) key
  same-next key at h =
      let parts = untouched-plain key h in
      let updated_not : contains_key updated key ≡ false = not-updated key parts.1 in
      let relinked_not : contains_key relinked key ≡ false = not-relinked key at parts.2 in
      let lone : (x : Bytes) → Has (created ++ deleted) x → predecessor kept x ≡ Some key → ⊥ =
      λ x has is. apart (contains_key relinked key) (in_relinked key ∙ and-both (contains_key before_them key) (not (contains_key updated key)) (Has-found (predecessor kept) (created ++ deleted) x key has is) (not-true (contains_key updated key) updated_not)) relinked_not in
      let stays : Has kept key = in_kept key ∙ and-both (contains_key (live_keys ops) key) (not (contains_key deleted key)) at (not-true (contains_key deleted key) parts.0) in
      let was : successor (live_keys ops) key ≡ successor kept key =
      successor-kept (live_keys ops) kept key (λ x has. (and-true (contains_key (live_keys ops) x) (not (contains_key deleted x)) (sym (in_kept x) ∙ has)).0) stays
      (λ x has gone is. lone x (contains-append created deleted x ∙ or-right (contains_key created x) (contains_key deleted x) (gone-deleted x has gone)) is) in
      let now : successor (kept ++ created) key ≡ successor kept key =
      successor-kept (kept ++ created) kept key (λ x has. contains-append kept created x ∙ or-left (contains_key kept x) (contains_key created x) has) stays
      (λ x has gone is. lone x (contains-append created deleted x ∙ or-left (contains_key created x) (contains_key deleted x) (new-created x has gone)) is) in
      was ∙ sym now ∙ successor-same (kept ++ created) (live_keys (ops ++ ordered_writes ops ws)) key written-keys
    where
      gone-deleted : (x : Bytes) → Has (live_keys ops) x → contains_key kept x ≡ false → Has deleted x
      gone-deleted x has gone = cases (contains_key deleted x) refl
        where
          cases : (t : Bool) → contains_key deleted x ≡ t → Has deleted x
          cases true e = e
          cases false e = absurd (apart (contains_key kept x) (in_kept x ∙ and-both (contains_key (live_keys ops) x) (not (contains_key deleted x)) has (not-true (contains_key deleted x) e)) gone)

      new-created : (x : Bytes) → Has (kept ++ created) x → contains_key kept x ≡ false → Has created x
      new-created x has gone = elim (or-either (contains_key kept x) (contains_key created x) (sym (contains-append kept created x) ∙ has)) [ inl e ↦ absurd (apart (contains_key kept x) e gone) | inr e ↦ e ]

  -- the ring, by recursion
  abbrev Ring : List Operation → Type 0
  Ring list = Each (λ e. e.next ≡ successor (live_keys list) e.key) (live list)

  pub ordered-ring : IsRing ops → IsRing (ops ++ ordered_writes ops ws)
  ordered-ring ring =
      let list = ops ++ ordered_writes ops ws in
      let linked_here : Live → Type 0 = λ e. e.next ≡ successor (live_keys list) e.key in
      let old : Each (λ e. touched e.key (ordered_writes ops ws) ≡ false → linked_here e) (live ops) =
      Each-both (λ e. e.next ≡ successor (live_keys ops) e.key) (λ e. Has (live_keys ops) e.key) (λ e. touched e.key (ordered_writes ops ws) ≡ false → linked_here e)
      (λ e is at h. is ∙ same-next e.key at h) (live ops) (recursion_from_All (λ e. e.next ≡ successor (live_keys ops) e.key) (live ops) ring) (Each-has (live ops)) in
      let new : Each linked_here (live_from (0 + length ops) (ordered_writes ops ws)) =
      Each-all (λ e. e.next ≡ successor (kept ++ created) e.key) linked_here (λ e is. is ∙ successor-same (kept ++ created) (live_keys list) e.key written-keys)
      (live_from (0 + length ops) (ordered_writes ops ws)) (live-linked (kept ++ created) (0 + length ops) plain) in
      All-from_recursion linked_here (live list) (Each-live-append linked_here ops (ordered_writes ops ws) old new)
