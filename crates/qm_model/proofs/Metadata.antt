-- Metadata that was written is read.
use Rattle.std.proofs.Common.{◌≡◌, ℕ, zero, suc, ◌+◌, ◌*◌, ◌<◌, ◌≤◌, ◌^◌, false, List, [], ◌∷◌, ◌++◌, length, map, drop, refl, ap, sym, ◌∙◌, Option, Some, None, arith, append_assoc, inl, inr}
use Rattle.std.specs.Prelude.{nat_lt, ◌==◌, ◌||◌, not, if◌then◌else◌, find, option_map, is_none, bytes_eq}
use Rattle.std.specs.List.{list_any, AllByRecursion as Each}
use Rattle.std.proofs.lemmas.Bool.{eq-eqb}
use Rattle.std.proofs.lemmas.Bool.Decides.{nat_tests}
use Rattle.std.proofs.lemmas.List.{length-map}
use Rattle.qm_model.specs.Operations.{Bytes, eight_bytes}
use Rattle.qm_model.specs.Forms.{number_of_eight}
use Rattle.qm_model.specs.Trees.{Node, Shape, peaks, leaves_from}
use Rattle.qm_model.specs.Grafted.{pins_from, grafted_pins, metadata, chunk_of, value_over}
use Rattle.qm_model.specs.StoreModel.{Entry}
use Rattle.qm_model.specs.Refused.{Corrupt, CountNotValid, CountTooLarge, MissingPin, InvalidPin}
use Rattle.qm_model.specs.Opening.{Chunks, metadata_key, entry_of, entries_of, count_bytes, count_in, numbered_pins, pins_found, is_wrong_size, when, first_refusal, pruned_bits}
use Rattle.qm_model.specs.Own.{Engine, Log, IsCounted}
use Rattle.qm_model.proofs.Numbers.{length-eight_bytes, number_of_eight-eight_bytes}
use Rattle.qm_model.proofs.LastWrites.{bytes_same}
use Rattle.qm_model.proofs.Maps.{same_key}
use Rattle.qm_model.proofs.KeyOrder.{false-not}
use Rattle.qm_model.proofs.Proving.{true_or_false}

-- Pins under their numbers.

other_number : (i j : ℕ) → i < 2 ^ 64 → j < 2 ^ 64 → (i ≡ j → ⊥) → bytes_eq (metadata_key 0 i) (metadata_key 0 j) ≡ false
other_number i j one other apart = false-not (bytes_eq (metadata_key 0 i) (metadata_key 0 j)) (λ h.
    let same : eight_bytes i ≡ eight_bytes j = ap (λ k. drop 1 k) (same_key (metadata_key 0 i) (metadata_key 0 j) h) in
    apart (sym (number_of_eight-eight_bytes i one) ∙ ap number_of_eight same ∙ number_of_eight-eight_bytes j other))

entry_of-append : (front back : List Entry) (key : Bytes) → entry_of front key ≡ None → entry_of (front ++ back) key ≡ entry_of back key
entry_of-append [] back key none = refl
entry_of-append (e ∷ front) back key none = elim (true_or_false (bytes_eq e.key key)) [
  | inl at ↦ let found : Some e.value ≡ None = sym (ap (λ t. option_map (λ (e : Entry). e.value) (if t then Some e else find (λ e. bytes_eq e.key key) front)) at) ∙ none in absurd (cc)
  | inr other ↦
      ap (λ t. option_map (λ (e : Entry). e.value) (if t then Some e else find (λ e. bytes_eq e.key key) (front ++ back))) other
      ∙ entry_of-append front back key (sym (ap (λ t. option_map (λ (e : Entry). e.value) (if t then Some e else find (λ e. bytes_eq e.key key) front)) other) ∙ none)
]

entry_of-first : (e : Entry) (back : List Entry) → entry_of (e ∷ back) e.key ≡ Some e.value
entry_of-first e back = ap (λ t. option_map (λ (e : Entry). e.value) (if t then Some e else find (λ x. bytes_eq x.key e.key) back)) (bytes_same e.key)

-- no entry before these has the number of a pin from i on
Free : ℕ → List Entry → Type 0
Free i front = (j : ℕ) → i ≤ j → j < 2 ^ 64 → entry_of front (metadata_key 0 j) ≡ None

pins-read : (A : Type 0) (front : List Entry) (i : ℕ) (pins : List Bytes) (row : List A) → length pins ≡ length row → i + length row ≤ 2 ^ 64 → Free i front
    → numbered_pins (front ++ entries_of (pins_from i pins)) i row ≡ map (λ pin. Some pin) pins
unfolding Free
pins-read A front i [] [] long few free = refl
pins-read A front i [] (x ∷ row) long few free = absurd (omega (arith, long))
pins-read A front i (pin ∷ pins) [] long few free = absurd (omega (arith, long))
pins-read A front i (pin ∷ pins) (x ∷ row) long few free =
    let e : Entry = record { key = metadata_key 0 i; value = pin } in
    let here : entry_of (front ++ e ∷ entries_of (pins_from (suc i) pins)) (metadata_key 0 i) ≡ Some pin =
    entry_of-append front (e ∷ entries_of (pins_from (suc i) pins)) (metadata_key 0 i) (free i (omega arith) (omega (arith, few))) ∙ entry_of-first e (entries_of (pins_from (suc i) pins)) in
    let later : numbered_pins ((front ++ e ∷ []) ++ entries_of (pins_from (suc i) pins)) (suc i) row ≡ map (λ pin. Some pin) pins =
    pins-read A (front ++ e ∷ []) (suc i) pins row (omega (arith, long)) (omega (arith, few))
    (λ j low within. entry_of-append front (e ∷ []) (metadata_key 0 j) (free j (omega (arith, low)) within)
    ∙ ap (λ t. option_map (λ (e : Entry). e.value) (if t then Some e else None)) (other_number i j (omega (arith, few)) within (λ same. omega (arith, low, same)))) in
    ap (λ o. o ∷ numbered_pins (front ++ e ∷ entries_of (pins_from (suc i) pins)) (suc i) row) here
    ∙ ap (λ ps. Some pin ∷ ps) (ap (λ es. numbered_pins es (suc i) row) (sym (append_assoc front (e ∷ []) (entries_of (pins_from (suc i) pins)))) ∙ later)

none-missing : (pins : List Bytes) → list_any is_none (map (λ pin. Some pin) pins) ≡ false
none-missing [] = refl
none-missing (pin ∷ pins) = none-missing pins

all-sized : (size : ℕ) (pins : List Bytes) → Each (λ pin. length pin ≡ size) pins → list_any (is_wrong_size size) (map (λ pin. Some pin) pins) ≡ false
all-sized size [] each = refl
all-sized size (pin ∷ pins) each = ap (λ t. not t || list_any (is_wrong_size size) (map (λ pin. Some pin) pins)) (eq-eqb (length pin) size each.0) ∙ all-sized size pins each.1

-- what is read of these parts
all-read : (height size count : ℕ) (pins : List Bytes) (found : List (Option Bytes)) → found ≡ map (λ pin. Some pin) pins → count * 2 ^ height ≤ 2 ^ 62 → Each (λ pin. length pin ≡ size) pins
    → first_refusal (
    when (not (length (eight_bytes count) == 8)) CountNotValid
    ∷ when (nat_lt (2 ^ 62) (count * 2 ^ height)) CountTooLarge
    ∷ when (list_any is_none found) MissingPin
    ∷ when (list_any (is_wrong_size size) found) InvalidPin
    ∷ []) ≡ None
all-read height size count pins found is low each =
    let few : nat_lt (2 ^ 62) (count * 2 ^ height) ≡ false = not_over (count * 2 ^ height) low in
    ap (λ t. first_refusal (when (not t) CountNotValid ∷ when (nat_lt (2 ^ 62) (count * 2 ^ height)) CountTooLarge ∷ when (list_any is_none found) MissingPin ∷ when (list_any (is_wrong_size size) found) InvalidPin ∷ [])) (eq-eqb (length (eight_bytes count)) 8 (length-eight_bytes count))
    ∙ ap (λ t. first_refusal (None ∷ when t CountTooLarge ∷ when (list_any is_none found) MissingPin ∷ when (list_any (is_wrong_size size) found) InvalidPin ∷ [])) few
    ∙ ap (λ t. first_refusal (None ∷ None ∷ when t MissingPin ∷ when (list_any (is_wrong_size size) found) InvalidPin ∷ [])) (ap (list_any is_none) is ∙ none-missing pins)
    ∙ ap (λ t. first_refusal (None ∷ None ∷ None ∷ when t InvalidPin ∷ [])) (ap (list_any (is_wrong_size size)) is ∙ all-sized size pins each)
  where
    not_over : (n : ℕ) → n ≤ 2 ^ 62 → nat_lt (2 ^ 62) n ≡ false
    not_over n low = grind (arith, nat_tests, low)

-- Of the peaks' values.

values-sized : (hash : Bytes → Bytes) (shape : Shape) (g size : ℕ) → ((m : Bytes) → length (hash m) ≡ size) → (leaves : List Bytes) (chunks : ℕ → Bytes) (row : List Node) → Each (λ pin. length pin ≡ size) (map (λ p. value_over hash shape g leaves chunks p.height p.index) row)
values-sized hash shape g size sized leaves chunks [] = tt
values-sized hash shape g size sized leaves chunks (p ∷ row) = (one p.height p.index, values-sized hash shape g size sized leaves chunks row)
  where
    one : (h i : ℕ) → length (value_over hash shape g leaves chunks h i) ≡ size
    one zero i = sized _
    one (suc h) i = sized _

module _ {P : Type 0} (e : Engine P) (c : Chunks) (log : Log) (chunked : e.layout.chunks ≡ Some c) where
  abbrev pins : List Bytes
  pins = grafted_pins e.hash e.layout.shape c.height e.layout.form log.list log.chunks

  abbrev written : List Entry
  written = entries_of (metadata e.hash e.layout.shape c.height e.layout.form log.list log.chunks)

  -- what stands before the pins
  abbrev before : List Entry
  before = entries_of ((1 ∷ eight_bytes 0, eight_bytes log.chunks) ∷ [])

  count-written : count_bytes written ≡ eight_bytes log.chunks
  unfolding eight_bytes
  count-written = refl

  module _ (low : log.chunks * 2 ^ c.height ≤ 2 ^ 62) (sized : (m : Bytes) → length (e.hash m) ≡ e.layout.digest_size) (few : length (peaks e.layout.shape log.chunks) ≤ 2 ^ 64) (small : log.chunks < 2 ^ 64) where
    counted : count_in written ≡ log.chunks
    counted = ap number_of_eight count-written ∙ number_of_eight-eight_bytes log.chunks small

    pinned : pins_found e.layout.shape written log.chunks ≡ map (λ pin. Some pin) pins
    unfolding Free
    pinned = pins-read Node before 0 pins (peaks e.layout.shape log.chunks) (length-map (peaks e.layout.shape log.chunks) (λ p. value_over e.hash e.layout.shape c.height (leaves_from e.hash e.layout.shape e.layout.form 0 log.list) (chunk_of c.height log.list) p.height p.index))
        (omega (arith, few)) free
      where
        free : Free 0 before
        free j at within = refl

    -- what is written of a list is the list's
    pub metadata-counted : IsCounted e c log written
    metadata-counted = record {
      readable =
          ap (λ chunks. refusal chunks (count_in written) (count_bytes written)) chunked
          ∙ ap (λ n. refusal (Some c) n (count_bytes written)) counted
          ∙ ap (λ b. refusal (Some c) log.chunks b) count-written
          ∙ all-read c.height e.layout.digest_size log.chunks pins (pins_found e.layout.shape written log.chunks) pinned low
          (values-sized e.hash e.layout.shape c.height e.layout.digest_size sized (leaves_from e.hash e.layout.shape e.layout.form 0 log.list) (chunk_of c.height log.list) (peaks e.layout.shape log.chunks));
      count = counted;
      pins = pinned;
    }
      where
        refusal : Option Chunks → ℕ → Bytes → Option Corrupt
        refusal chunks n count = first_refusal (
            when (not (length count == 8)) CountNotValid
            ∷ when (nat_lt (2 ^ 62) (pruned_bits chunks n)) CountTooLarge
            ∷ when (list_any is_none (pins_found e.layout.shape written n)) MissingPin
            ∷ when (list_any (is_wrong_size e.layout.digest_size) (pins_found e.layout.shape written n)) InvalidPin
            ∷ [])
