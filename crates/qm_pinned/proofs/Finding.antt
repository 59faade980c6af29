-- Entries by their keys, pins by their numbers, and why they can't be read.
use Rattle.std.proofs.Common.{◌≡◌, ℕ, zero, suc, ◌+◌, ◌*◌, ◌<◌, ◌^◌, Bool, true, false, List, [], ◌∷◌, ◌++◌, length, map, take, get_or, refl, ap, sym, ◌∙◌, subst, Option, Some, None, inl, inr, arith, length-append, append_assoc, append-nil, add-one}
use Rattle.std.specs.Prelude.{nat_lt, ◌||◌, not, if◌then◌else◌, option_map, unwrap_or, is_some, is_none}
use Rattle.std.specs.Bool.{◌==◌}
use Rattle.std.specs.List.{list_any}
use Rattle.std.specs.Option.{option_or}
use Rattle.std.proofs.Math.Nat.{eq-or-lt_of_le}
use Rattle.std.proofs.Math.Seq.{take-suc}
use Rattle.std.proofs.lemmas.Bool.{eq-eqb}
use Rattle.std.proofs.lemmas.List.{length-map, length-take-le, map-append}
use Rattle.std.proofs.lemmas.List.Folds.{list_any-append}
use Rattle.qm_model.specs.Operations.{Bytes, eight_bytes}
use Rattle.qm_model.specs.Forms.{number_of_eight}
use Rattle.qm_model.specs.Trees.{Node, Shape, peaks}
use Rattle.qm_model.specs.Grafted.{pins_from}
use Rattle.qm_model.specs.StoreModel.{Entry}
use Rattle.qm_model.specs.Refused.{Corrupt, CountNotValid, CountTooLarge, MissingPin, InvalidPin}
use Rattle.qm_model.specs.Opening.{Layout, Chunks, entry_of, entries_of, metadata_key, count_bytes, count_in, numbered_pins, pins_found, pruned_bits, is_wrong_size, when, first_refusal, metadata_refusal}
use Rattle.qm_model.proofs.Numbers.{length-eight_bytes, number_of_eight-eight_bytes}
use Rattle.qm_model.proofs.Proving.{true_or_false}
use Rattle.qm_base.specs.declared.error.Corrupt as base
use Rattle.qm_base.specs.declared.error.Error.{Error}
use Rattle.qm_base.specs.declared.error.Error.TheVariants.{DataCorrupted}
use Rattle.qm_base.specs.Views.{corrupt_view}
use Rattle.qm_pinned.specs.Metadata.{IsLaidOut, TellsWhy, counting, numbered, digest_in, count_refusal, pins_refusal}

-- By key.

-- no entry has the key of the count
pub count-none : (es : List Entry) → entry_of es (metadata_key 1 0) ≡ None → (length (count_bytes es) ≡ 8) × (0 ≡ count_in es)
count-none es none =
    let is : count_bytes es ≡ eight_bytes 0 = ap (λ o. unwrap_or o (eight_bytes 0)) none in
    (ap length is ∙ length-eight_bytes 0, sym (ap number_of_eight is ∙ number_of_eight-eight_bytes 0 (omega arith)))

-- By number.

-- one of the first pins decides whether any is so
any-at : (p : Option Bytes → Bool) (es : List Entry) (n m : ℕ) → n < m → p (entry_of es (metadata_key 0 n)) ≡ true → list_any p (numbered es m) ≡ true
any-at p es n zero low at = absurd (omega (arith, low))
any-at p es n (suc m) low at =
    let rest : n < m → list_any p (numbered es m) ≡ true = λ lower. any-at p es n m lower at in
    list_any-append p (numbered es m) (entry_of es (metadata_key 0 m) ∷ [])
    ∙ elim (eq-or-lt_of_le {n = n} {m = m} (omega (arith, low))) [
      | inl same ↦
          let here : p (entry_of es (metadata_key 0 m)) ≡ true = subst (λ k. p (entry_of es (metadata_key 0 k)) ≡ true) same at in
          ap (λ t. list_any p (numbered es m) || (t || false)) here ∙ or-true (list_any p (numbered es m))
      | inr lower ↦ ap (λ t. t || list_any p (entry_of es (metadata_key 0 m) ∷ [])) (rest lower)
    ]
  where
    or-true : (t : Bool) → (t || true) ≡ true
    or-true true = refl
    or-true false = refl

-- one that is not there
pub missing : (es : List Entry) (n m : ℕ) → n < m → entry_of es (metadata_key 0 n) ≡ None → list_any is_none (numbered es m) ≡ true
missing es n m low none = any-at is_none es n m low (ap is_none none)

-- what a test of a value that is lent says
pub none-lent : {B : Type 0} (now : B → Bytes) (o : Option B) (b : Bool) (found : Option Bytes) → is_some o ≡ not b → b ≡ true → option_map now o ≡ found → found ≡ None
none-lent now None b found is at value = sym value
none-lent now (Some x) b found is at value = let no : true ≡ false = is ∙ ap not at in absurd (cc)

wrong-size : (size : ℕ) (o : Option Bytes) → is_none o ≡ false → digest_in size o ≡ None → is_wrong_size size o ≡ true
wrong-size size None there none = absurd (cc)
wrong-size size (Some b) there none = elim (true_or_false (length b == size)) [
  | inl right ↦
      let some : Some b ≡ None = sym (ap (λ t. if t then Some b else None) right) ∙ none in
      absurd (cc)
  | inr wrong ↦ ap not wrong
]

-- one that is there and has not a digest's size, if none is missing
pub invalid : (size : ℕ) (es : List Entry) (n m : ℕ) → n < m → list_any is_none (numbered es m) ≡ false → digest_in size (entry_of es (metadata_key 0 n)) ≡ None → pins_refusal size (numbered es m) ≡ Some InvalidPin
invalid size es n m low there none =
    let here : is_none (entry_of es (metadata_key 0 n)) ≡ false = elim (true_or_false (is_none (entry_of es (metadata_key 0 n)))) [
      | inl lost ↦
          let all : list_any is_none (numbered es m) ≡ true = any-at is_none es n m low lost in
          absurd (cc)
      | inr found ↦ found
    ] in
    let wrong : list_any (is_wrong_size size) (numbered es m) ≡ true = any-at (is_wrong_size size) es n m low (wrong-size size (entry_of es (metadata_key 0 n)) here none) in
    ap (λ t. first_refusal (when t MissingPin ∷ when (list_any (is_wrong_size size) (numbered es m)) InvalidPin ∷ [])) there ∙ ap (λ t. first_refusal (None ∷ when t InvalidPin ∷ [])) wrong

digest-there : (size : ℕ) (o : Option Bytes) (b : Bytes) → Some b ≡ digest_in size o → o ≡ Some b
digest-there size None b is = absurd (cc)
digest-there size (Some x) b is = elim (true_or_false (length x == size)) [
  | inl right ↦ sym (is ∙ ap (λ t. if t then Some x else None) right)
  | inr wrong ↦
      let none : Some b ≡ None = is ∙ ap (λ t. if t then Some x else None) wrong in
      absurd (cc)
]

-- one more pin is read
pub read-next : (D : Type 0) (bytes : D → Bytes) (size : ℕ) (es : List Entry) (n : ℕ) (d : D) (old new : List D) → numbered es n ≡ map (λ pin. Some pin) (map bytes old) → Some (bytes d) ≡ digest_in size (entry_of es (metadata_key 0 n)) → new ≡ old ++ d ∷ []
    → numbered es (n + 1) ≡ map (λ pin. Some pin) (map bytes new)
read-next D bytes size es n d old new before there push =
    ap (numbered es) (add-one n)
    ∙ ap (λ o. numbered es n ++ o ∷ []) (digest-there size (entry_of es (metadata_key 0 n)) (bytes d) there)
    ∙ ap (λ os. os ++ Some (bytes d) ∷ []) before
    ∙ sym (ap (λ ds. map (λ pin. Some pin) (map bytes ds)) push ∙ ap (map (λ pin. Some pin)) (map-append bytes old (d ∷ [])) ∙ map-append (λ pin. Some pin) (map bytes old) (bytes d ∷ []))

-- pins of digests
pub pins-fine : (D : Type 0) (bytes : D → Bytes) (size : ℕ) → ((d : D) → length (bytes d) ≡ size) → (ds : List D) (found : List (Option Bytes)) → found ≡ map (λ pin. Some pin) (map bytes ds) → None ≡ pins_refusal size found
pins-fine D bytes size sized ds found is =
    sym (ap (pins_refusal size) is ∙ ap (λ t. first_refusal (when t MissingPin ∷ when (list_any (is_wrong_size size) (map (λ pin. Some pin) (map bytes ds))) InvalidPin ∷ [])) (none-missing ds) ∙ ap (λ t. first_refusal (None ∷ when t InvalidPin ∷ [])) (all-sized ds))
  where
    none-missing : (ds : List D) → list_any is_none (map (λ pin. Some pin) (map bytes ds)) ≡ false
    none-missing [] = refl
    none-missing (d ∷ ds) = none-missing ds

    all-sized : (ds : List D) → list_any (is_wrong_size size) (map (λ pin. Some pin) (map bytes ds)) ≡ false
    all-sized [] = refl
    all-sized (d ∷ ds) = ap (λ t. not t || list_any (is_wrong_size size) (map (λ pin. Some pin) (map bytes ds))) (eq-eqb (length (bytes d)) size (sized d)) ∙ all-sized ds

-- what is found is one list of pins alone
pub same-pins : (pins others : List Bytes) → map (λ pin. Some pin) pins ≡ map (λ pin. Some pin) others → pins ≡ others
same-pins [] [] is = refl
same-pins [] (b ∷ others) is = absurd (cc)
same-pins (a ∷ pins) [] is = absurd (cc)
same-pins (a ∷ pins) (b ∷ others) is =
    let here : a ≡ b = cc in
    let there : map (λ pin. Some pin) pins ≡ map (λ pin. Some pin) others = cc in
    ap (λ x. x ∷ pins) here ∙ ap (λ xs. b ∷ xs) (same-pins pins others there)

-- the pins of peaks are those of as many numbers
numbered-on : (A : Type 0) (es : List Entry) (i : ℕ) (row : List A) → numbered es i ++ numbered_pins es i row ≡ numbered es (length row + i)
numbered-on A es i [] =
    let end : i ≡ 0 + i = omega arith in
    append-nil (numbered es i) ∙ ap (numbered es) end
numbered-on A es i (x ∷ row) =
    let onward : length row + suc i ≡ length (x ∷ row) + i = omega arith in
    sym (append_assoc (numbered es i) (entry_of es (metadata_key 0 i) ∷ []) (numbered_pins es (suc i) row))
    ∙ numbered-on A es (suc i) row
    ∙ ap (numbered es) onward

pub pins-numbered : (shape : Shape) (es : List Entry) (count : ℕ) → pins_found shape es count ≡ numbered es (length (peaks shape count))
pins-numbered shape es count =
    let all : length (peaks shape count) + 0 ≡ length (peaks shape count) = omega arith in
    numbered-on Node es 0 (peaks shape count) ∙ ap (numbered es) all

pub length-numbered : (es : List Entry) (n : ℕ) → length (numbered es n) ≡ n
length-numbered es zero = refl
length-numbered es (suc n) = length-append (numbered es n) (entry_of es (metadata_key 0 n) ∷ []) ∙ omega (arith, length-numbered es n)

-- Refusals.

-- count before pins
refusals-split : (a b c d : Option Corrupt) → first_refusal (a ∷ b ∷ c ∷ d ∷ []) ≡ option_or (first_refusal (a ∷ b ∷ [])) (first_refusal (c ∷ d ∷ []))
refusals-split (Some a) b c d = refl
refusals-split None (Some b) c d = refl
refusals-split None None c d = refl

pub refusal-split : (shape : Shape) (size height : ℕ) (layout : Layout) (es : List Entry) → IsLaidOut shape size height layout
    → metadata_refusal layout es ≡ option_or (count_refusal height es) (pins_refusal size (numbered es (length (peaks shape (count_in es)))))
refusal-split shape size height layout es laid =
    let n = count_in es in
    ap (λ pins. refusal (pruned_bits layout.chunks n) pins layout.digest_size) (ap (λ s. pins_found s es n) laid.trees ∙ pins-numbered shape es n)
    ∙ ap (λ bits. refusal bits (numbered es (length (peaks shape n))) layout.digest_size) (bits layout.chunks n laid.chunks)
    ∙ ap (λ k. refusal (n * 2 ^ height) (numbered es (length (peaks shape n))) k) laid.digests
    ∙ refusals-split
    (when (not (length (count_bytes es) == 8)) CountNotValid) (when (nat_lt (2 ^ 62) (n * 2 ^ height)) CountTooLarge)
    (when (list_any is_none (numbered es (length (peaks shape n)))) MissingPin) (when (list_any (is_wrong_size size) (numbered es (length (peaks shape n)))) InvalidPin)
  where
    refusal : ℕ → List (Option Bytes) → ℕ → Option Corrupt
    refusal bits pins size = first_refusal (
        when (not (length (count_bytes es) == 8)) CountNotValid
        ∷ when (nat_lt (2 ^ 62) bits) CountTooLarge
        ∷ when (list_any is_none pins) MissingPin
        ∷ when (list_any (is_wrong_size size) pins) InvalidPin
        ∷ [])

    bits : (chunks : Option Chunks) (n : ℕ) → option_map (λ (c : Chunks). c.height) chunks ≡ Some height → pruned_bits chunks n ≡ n * 2 ^ height
    bits None n is = absurd (cc)
    bits (Some c) n is =
        let same : c.height ≡ height = cc in
        ap (λ h. n * 2 ^ h) same

-- what was read can be read
pub all-read : (shape : Shape) (size height k : ℕ) (layout : Layout) (es : List Entry) → IsLaidOut shape size height layout → count_refusal height es ≡ None → k ≡ length (peaks shape (count_in es)) → None ≡ pins_refusal size (numbered es k)
    → metadata_refusal layout es ≡ None
all-read shape size height k layout es laid count peaked pins =
    refusal-split shape size height layout es laid
    ∙ ap (λ r. option_or r (pins_refusal size (numbered es (length (peaks shape (count_in es)))))) count
    ∙ ap (λ n. pins_refusal size (numbered es n)) (sym peaked)
    ∙ sym pins

-- why the count can't be read is why the metadata can't
pub count-refused : (shape : Shape) (size height : ℕ) (layout : Layout) (es : List Entry) → IsLaidOut shape size height layout → (c : base.Corrupt) → count_refusal height es ≡ Some (corrupt_view c) → TellsWhy (DataCorrupted c) (metadata_refusal layout es)
count-refused shape size height layout es laid c is =
    inr (c, refl, refusal-split shape size height layout es laid ∙ ap (λ r. option_or r (pins_refusal size (numbered es (length (peaks shape (count_in es)))))) is)

-- if the count can be read, why the pins can't is why the metadata can't
pub pins-refused : (shape : Shape) (size height k : ℕ) (layout : Layout) (es : List Entry) → IsLaidOut shape size height layout → count_refusal height es ≡ None → k ≡ length (peaks shape (count_in es)) → (e : Error)
    → TellsWhy e (pins_refusal size (numbered es k)) → TellsWhy e (metadata_refusal layout es)
pins-refused shape size height k layout es laid count peaked e (inl memory) = inl memory
pins-refused shape size height k layout es laid count peaked e (inr (c, is, why)) =
    inr (
      c,
      is,
      refusal-split shape size height layout es laid
          ∙ ap (λ r. option_or r (pins_refusal size (numbered es (length (peaks shape (count_in es)))))) count
          ∙ ap (λ n. pins_refusal size (numbered es n)) (sym peaked)
          ∙ why,
    )

-- Writing.

pins_from-append : (i : ℕ) (pins : List Bytes) (pin : Bytes) → pins_from i (pins ++ pin ∷ []) ≡ pins_from i pins ++ (metadata_key 0 (length pins + i), pin) ∷ []
pins_from-append i [] pin =
    let here : i ≡ 0 + i = omega arith in
    ap (λ n. (metadata_key 0 n, pin) ∷ []) here
pins_from-append i (p ∷ pins) pin =
    let onward : length pins + suc i ≡ length (p ∷ pins) + i = omega arith in
    ap (λ rest. (metadata_key 0 i, p) ∷ rest) (pins_from-append (suc i) pins pin ∙ ap (λ n. pins_from (suc i) pins ++ (metadata_key 0 n, pin) ∷ []) onward)

entries_of-append : (xs ys : List (Bytes × Bytes)) → entries_of (xs ++ ys) ≡ entries_of xs ++ entries_of ys
entries_of-append [] ys = refl
entries_of-append (x ∷ xs) ys = ap (λ es. record { key = x.0; value = x.1 } ∷ es) (entries_of-append xs ys)

-- one more pin is written
pub written-next : (D : Type 0) (bytes : D → Bytes) (count i : ℕ) (d : D) (ds : List D) (e : Entry) (old new : List Entry) → i < length ds → d ≡ get_or ds i d → e ≡ record { key = metadata_key 0 i; value = bytes d }
    → old ≡ entries_of (counting count (map bytes (take i ds))) → new ≡ old ++ e ∷ [] → new ≡ entries_of (counting count (map bytes (take (i + 1) ds)))
written-next D bytes count i d ds e old new within is entry before push =
    let pins : List Bytes = map bytes (take i ds) in
    let more : map bytes (take (i + 1) ds) ≡ pins ++ bytes d ∷ [] =
    ap (λ n. map bytes (take n ds)) (add-one i) ∙ ap (map bytes) (take-suc ds i d within) ∙ map-append bytes (take i ds) (get_or ds i d ∷ []) ∙ ap (λ x. pins ++ bytes x ∷ []) (sym is) in
    let long : length pins + 0 ≡ i = omega (arith, length-map (take i ds) bytes, length-take-le i ds (omega (arith, within))) in
    push
    ∙ ap (λ es. es ++ e ∷ []) before
    ∙ ap (λ x. entries_of (counting count pins) ++ x ∷ []) (entry ∙ ap {B = Entry} (λ n. record { key = metadata_key 0 n; value = bytes d }) (sym long))
    ∙ sym (
    ap (λ ps. entries_of (counting count ps)) more
    ∙ ap (λ ps. entries_of ((metadata_key 1 0, eight_bytes count) ∷ ps)) (pins_from-append 0 pins (bytes d))
    ∙ entries_of-append (counting count pins) ((metadata_key 0 (length pins + 0), bytes d) ∷ []))
