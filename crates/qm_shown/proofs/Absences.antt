-- What is proved of the absence of a key.
use Rattle.std.proofs.Common.{◌≡◌, ◌∙◌, ◌<◌, ◌-◌, ℕ, true, false, List, [], ◌∷◌, length, Option, None, Some, arith, ap, sym, refl}
use Rattle.std.specs.Prelude.{option_map, option_and_then, unwrap_or, slice_get, bytes_eq}
use Rattle.std.specs.Option.{option_or}
use Rattle.std.proofs.lemmas.Bool.{false≢true}
use Rattle.std.proofs.lemmas.Slice.Eq.{bytes_eq-Decides}
use Rattle.qm_model.proofs.LastWrites.{bytes_same}
use Rattle.qm_model.specs.Keys.{predecessor}
use Rattle.qm_model.specs.Operations.{Bytes, Operation, update, delete, commit}
use Rattle.qm_model.specs.Live.{Live, live, live_of, live_keys}
use Rattle.qm_model.specs.Bits.{bits}
use Rattle.qm_model.specs.Checks.{span_around}
use Rattle.qm_model.specs.Ranges.{span_of}
use Rattle.qm_step.specs.Changes.{located}
use Rattle.qm_step.specs.Rings.{holder_of}
use Rattle.qm_step.proofs.Standing.{of_key-within, live-of_key}
use Rattle.qm_model.specs.Refused.{KeyExists}
use Rattle.qm_model.specs.Refusals.{existing_refusal}

-- the parts of an update, or else others
key_in : Bytes → Operation → Bytes
key_in d (update k v n) = k
key_in d (delete k) = d
key_in d (commit m f) = d

value_in : Bytes → Operation → Bytes
value_in d (update k v n) = v
value_in d (delete k) = d
value_in d (commit m f) = d

next_in : Option Bytes → Operation → Option Bytes
next_in d (update k v n) = n
next_in d (delete k) = d
next_in d (commit m f) = d

-- whether a key is this one, by its bytes
pub own-key : (k key : Bytes) → bytes_eq key k ≡ true → k ≡ key
own-key k key same = sym ((bytes_eq-Decides key k).0 same)

pub other-key : (k key : Bytes) → bytes_eq key k ≡ false → k ≡ key → ⊥
other-key k key apart same = false≢true (sym apart ∙ ap (bytes_eq key) same ∙ bytes_same key)

-- an update whose span holds a key that is not its own: the key is not live, and the span is that around it
pub record IsAround (list : List Operation) (key : Bytes) (e : Live) : Type 0 where
  pub absent : live_of (live list) key ≡ None
  pub around : span_around list key ≡ Some e

pub spanned-around : (list : List Operation) (key : Bytes) (at : ℕ) (k v : Bytes) (n : Option Bytes) → Some (at, update k v n) ≡ holder_of list key → (k ≡ key → ⊥) → IsAround list key (record { location = at; key = k; value = v; next = n })
unfolding key_in value_in next_in
spanned-around list key at k v n is other = by (live_of (live list) key) (span_around list key) refl refl
  where
    here : (e : Live) → span_of list key ≡ Some e → Some (at, update k v n) ≡ Some (located e)
    here e same = is ∙ ap (option_map located) same

    by : (own around : Option Live) → live_of (live list) key ≡ own → span_around list key ≡ around → IsAround list key (record { location = at; key = k; value = v; next = n })
    by (Some e) around found beside =
        let same = here e (ap (λ o. option_or o (span_around list key)) found) in
        let named : k ≡ e.key = ap (λ (o : Option (ℕ × Operation)). key_in [] (unwrap_or o (at, update k v n)).1) same in
        absurd (other (named ∙ (of_key-within (live list) key e found).1))
    by None None found beside =
        let none : span_of list key ≡ None = ap (λ o. option_or o (span_around list key)) found ∙ beside in
        let no : Some (at, update k v n) ≡ None = is ∙ ap (option_map located) none in absurd (cc)
    by None (Some e) found beside =
        let same = here e (ap (λ o. option_or o (span_around list key)) found ∙ beside) in
        let place : at ≡ e.location = ap (λ (o : Option (ℕ × Operation)). (unwrap_or o (at, update k v n)).0) same in
        let named : k ≡ e.key = ap (λ (o : Option (ℕ × Operation)). key_in [] (unwrap_or o (at, update k v n)).1) same in
        let said : v ≡ e.value = ap (λ (o : Option (ℕ × Operation)). value_in [] (unwrap_or o (at, update k v n)).1) same in
        let names : n ≡ e.next = ap (λ (o : Option (ℕ × Operation)). next_in None (unwrap_or o (at, update k v n)).1) same in
        record { absent = found; around = beside ∙ ap Some (sym (same_live at e.location k e.key v e.value n e.next place named said names)) }
      where
        same_live : (a b : ℕ) (k l v w : Bytes) (n m : Option Bytes) → a ≡ b → k ≡ l → v ≡ w → n ≡ m → ◌≡◌ {A = Live} (record { location = a; key = k; value = v; next = n }) (record { location = b; key = l; value = w; next = m })
        same_live a b k l v w n m p q r s = cc

-- where no span holds it nothing is around it
pub emptied-around : (list : List Operation) (key : Bytes) → None ≡ holder_of list key → (live_of (live list) key ≡ None) × (span_around list key ≡ None)
emptied-around list key is = by (live_of (live list) key) (span_around list key) refl refl
  where
    by : (own around : Option Live) → live_of (live list) key ≡ own → span_around list key ≡ around → (live_of (live list) key ≡ None) × (span_around list key ≡ None)
    by (Some e) around found beside =
        let no : None ≡ Some (located e) = is ∙ ap (option_map located) (ap (λ o. option_or o (span_around list key)) found) in absurd (cc)
    by None None found beside = (found, beside)
    by None (Some e) found beside =
        let no : None ≡ Some (located e) = is ∙ ap (option_map located) (ap (λ o. option_or o (span_around list key)) found ∙ beside) in absurd (cc)

-- the last bit is set
last_set : (op : Operation) (ops : List Operation) → slice_get (bits (op ∷ ops)) (length ops) ≡ Some true
last_set op [] = refl
last_set op (next ∷ ops) = last_set next ops

pub last-set : (ops : List Operation) → 0 < length ops → slice_get (bits ops) (length ops - 1) ≡ Some true
last-set [] some = absurd (omega (arith, some))
last-set (op ∷ ops) some = let same : length (op ∷ ops) - 1 ≡ length ops = omega arith in ap (slice_get (bits (op ∷ ops))) same ∙ last_set op ops

-- an update that is around a key is live
pub around-live : (list : List Operation) (key : Bytes) (e : Live) → span_around list key ≡ Some e → live_of (live list) e.key ≡ Some e
around-live list key e is = by (predecessor (live_keys list) key) refl
  where
    by : (o : Option Bytes) → predecessor (live_keys list) key ≡ o → live_of (live list) e.key ≡ Some e
    by None before = let no : None ≡ Some e = sym (ap (option_and_then (live_of (live list))) before) ∙ is in absurd (cc)
    by (Some p) before =
        let found : live_of (live list) p ≡ Some e = sym (ap (option_and_then (live_of (live list))) before) ∙ is in
        live-of_key list e (of_key-within (live list) p e found).0

-- where the span that holds a key is its own, the key is live
pub spanned-own : (list : List Operation) (key : Bytes) (at : ℕ) (k v : Bytes) (n : Option Bytes) → Some (at, update k v n) ≡ holder_of list key → k ≡ key → existing_refusal (live_of (live list) key) ≡ Some KeyExists
unfolding key_in
spanned-own list key at k v n is own = by (live_of (live list) key) (span_around list key) refl refl
  where
    by : (found around : Option Live) → live_of (live list) key ≡ found → span_around list key ≡ around → existing_refusal (live_of (live list) key) ≡ Some KeyExists
    by (Some e) around found beside = ap existing_refusal found
    by None None found beside =
        let none : span_of list key ≡ None = ap (λ o. option_or o (span_around list key)) found ∙ beside in
        let no : Some (at, update k v n) ≡ None = is ∙ ap (option_map located) none in absurd (cc)
    by None (Some e) found beside =
        let same : Some (at, update k v n) ≡ Some (located e) = is ∙ ap (option_map located) (ap (λ o. option_or o (span_around list key)) found ∙ beside) in
        let named : k ≡ e.key = ap (λ (o : Option (ℕ × Operation)). key_in [] (unwrap_or o (at, update k v n)).1) same in
        let here : live_of (live list) key ≡ Some e = ap (live_of (live list)) (sym own ∙ named) ∙ around-live list key e beside in
        let no : None ≡ Some e = sym found ∙ here in absurd (cc)
