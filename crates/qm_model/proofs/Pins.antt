-- What the pins of pruned chunks are, and the chunks before them, whatever comes after a list.
use Rattle.std.proofs.Common.{◌≡◌, ℕ, zero, suc, ◌+◌, ◌*◌, ◌^◌, ◌<◌, ◌≤◌, Bool, true, false, List, [], ◌∷◌, ◌++◌, length, drop, map, get_or, None, Some, arith, ap, ap₂, sym, ◌∙◌, subst, refl, le_refl}
use Rattle.std.specs.Prelude.{◌||◌, if◌then◌else◌, is_some, All}
use Rattle.std.proofs.Math.Nat.{le_trans, pow-suc}
use Rattle.std.proofs.lemmas.List.{get_or-drop, take-append-drop}
use Rattle.std.proofs.lemmas.List.Folds.{list_any-append}
use Rattle.std.proofs.lemmas.Nat.{mul-le}
use Rattle.qm_model.specs.Operations.{Bytes, Operation, update, delete, commit}
use Rattle.qm_model.specs.Forms.{Form}
use Rattle.qm_model.specs.Live.{Live, touches, touched, floor}
use Rattle.qm_model.specs.Trees.{Node, Shape, digest, node_digest, leaves_from, peaks}
use Rattle.qm_model.specs.Families.{Births, IsFamily, HasPeaks}
use Rattle.qm_model.specs.Step.{IsGood}
use Rattle.qm_model.specs.Bits.{is_active, bits}
use Rattle.qm_model.specs.Grafted.{chunk_size, chunk_of, value_over, grafted_pins}
use Rattle.qm_model.specs.Batches.{Begins}
use Rattle.qm_model.specs.StoreModel.{Entry}
use Rattle.qm_model.specs.Opening.{Chunks, pins_found}
use Rattle.qm_model.specs.Own.{Engine, Log, IsCounted}
use Rattle.qm_model.proofs.BitLemmas.{below_clear, packed_clear, chunk_span, chunk_below}

-- A clear bit stays clear, however many operations come.

cleared_by : (e : Live) (t : Bool) → is_some (if t then None else Some e) ≡ false → t ≡ true
cleared_by e true is = refl
cleared_by e false is = absurd (cc)

clear_after : (op : Operation) (rest more : List Operation) → is_active op rest ≡ false → is_active op (rest ++ more) ≡ false
clear_after op [] more is = absurd (cc)
clear_after (update k v n) (r ∷ rest) more is =
    let e : Live = record { location = 0; key = k; value = v; next = n } in
    let again : touched k (r ∷ rest) ≡ true = cleared_by e (touched k (r ∷ rest)) is in
    ap (λ t. is_some {T = Live} (if t then None else Some e)) (list_any-append (touches k) (r ∷ rest) more ∙ ap (λ t. t || touched k more) again)
clear_after (delete k) (r ∷ rest) more is = refl
clear_after (commit m f) (r ∷ rest) more is = refl

pub clear-stays : (from more : List Operation) (i : ℕ) → i < length from → get_or (bits from) i false ≡ false → get_or (bits (from ++ more)) i false ≡ false
clear-stays [] more i low is = absurd (omega (arith, low))
clear-stays (op ∷ rest) more zero low is = clear_after op rest more is
clear-stays (op ∷ rest) more (suc i) low is = clear-stays rest more i (omega (arith, low)) is

-- Nodes whose leaves are all in the first part of a list.

front : {A : Type 0} (xs ys : List A) (a : ℕ) (d : A) → a < length xs → get_or (xs ++ ys) a d ≡ get_or xs a d
front [] ys a d lt = absurd (omega (arith, lt))
front (x ∷ xs) ys zero d lt = refl
front (x ∷ xs) ys (suc a) d lt = front xs ys a d (omega (arith, lt))

pub leaves-more : (hash : Bytes → Bytes) (shape : Shape) (form : Form) (i : ℕ) (xs ys : List Operation) → leaves_from hash shape form i (xs ++ ys) ≡ leaves_from hash shape form i xs ++ leaves_from hash shape form (i + length xs) ys
leaves-more hash shape form i [] ys = let same : i ≡ i + 0 = omega arith in ap (λ j. leaves_from hash shape form j ys) same
leaves-more hash shape form i (x ∷ xs) ys =
    let same : suc i + length xs ≡ i + suc (length xs) = omega arith in
    ap₂ (λ l rest. l ∷ rest) refl (leaves-more hash shape form (suc i) xs ys ∙ ap (λ j. leaves_from hash shape form (suc i) xs ++ leaves_from hash shape form j ys) same)

long-leaves : (hash : Bytes → Bytes) (shape : Shape) (form : Form) (i : ℕ) (xs : List Operation) → length (leaves_from hash shape form i xs) ≡ length xs
long-leaves hash shape form i [] = refl
long-leaves hash shape form i (x ∷ xs) = let rest = long-leaves hash shape form (suc i) xs in omega (arith, rest)

digest-front : (hash : Bytes → Bytes) (shape : Shape) (xs ys : List Bytes) (h a : ℕ) → suc a * 2 ^ h ≤ length xs → digest hash shape (xs ++ ys) h a ≡ digest hash shape xs h a
digest-front hash shape xs ys zero a within = front xs ys a [] (omega (arith, within))
digest-front hash shape xs ys (suc h) a within =
    let halves : suc a * 2 ^ suc h ≡ suc a * (2 ^ h * 2) = ap (λ z. suc a * z) (pow-suc 2 h) in
    ap₂ (node_digest hash (shape.number (record { height = suc h; index = a })))
    (digest-front hash shape xs ys h (2 * a) (omega (arith, within, halves)))
    (digest-front hash shape xs ys h (2 * a + 1) (omega (arith, within, halves)))

-- Pins.

module _ (hash : Bytes → Bytes) (shape : Shape) (g : ℕ) (enough : 3 ≤ g) (form : Form) (ops more : List Operation) (good : IsGood ops) (count : ℕ) (low : count * 2 ^ g ≤ floor ops) where
  -- a chunk below the floor of a good list is zeros in each list that begins with it
  chunk-stays : (c : ℕ) → suc c ≤ count → chunk_of g (ops ++ more) c ≡ chunk_of g ops c
  chunk-stays c first =
      let span = chunk_span g enough in
      let size = chunk_size g in
      let within = good.floor_within in
      let ends : suc c * 2 ^ g ≤ floor ops = le_trans (mul-le (suc c) (2 ^ g) count (2 ^ g) first (le_refl (2 ^ g))) low in
      let start : c * (8 * size) ≡ c * 2 ^ g = ap (λ n. c * n) span in
      packed_clear size (drop (c * (8 * size)) (bits (ops ++ more))) (λ j lt.
      get_or-drop (c * (8 * size)) (bits (ops ++ more)) j false
      ∙ clear-stays ops more (c * (8 * size) + j) (omega (arith, ends, start, span, lt, within)) (below_clear ops good (c * (8 * size) + j) (omega (arith, ends, start, span, lt))))
      ∙ sym (chunk_below g enough ops good c ends)

  value-stays : (k i : ℕ) → suc i * 2 ^ k ≤ count → value_over hash shape g (leaves_from hash shape form 0 (ops ++ more)) (chunk_of g (ops ++ more)) k i ≡ value_over hash shape g (leaves_from hash shape form 0 ops) (chunk_of g ops) k i
  value-stays zero i first =
      let one : suc i ≤ count = omega (arith, first) in
      let within = good.floor_within in
      let long = long-leaves hash shape form 0 ops in
      let ends : suc i * 2 ^ g ≤ floor ops = le_trans (mul-le (suc i) (2 ^ g) count (2 ^ g) one (le_refl (2 ^ g))) low in
      ap₂ (λ c d. hash (c ++ d)) (chunk-stays i one)
      (ap (λ l. digest hash shape l g i) (leaves-more hash shape form 0 ops more)
      ∙ digest-front hash shape (leaves_from hash shape form 0 ops) (leaves_from hash shape form (0 + length ops) more) g i (omega (arith, ends, long, within)))
  value-stays (suc k) i first =
      let halves : suc i * 2 ^ suc k ≡ suc i * (2 ^ k * 2) = ap (λ z. suc i * z) (pow-suc 2 k) in
      ap₂ (node_digest hash (shape.number (record { height = suc k + g; index = i })))
      (value-stays k (2 * i) (omega (arith, first, halves)))
      (value-stays k (2 * i + 1) (omega (arith, first, halves)))

  alike : (xs : List Node) → All (λ p. suc p.index * 2 ^ p.height ≤ count) xs
      → map (λ p. value_over hash shape g (leaves_from hash shape form 0 (ops ++ more)) (chunk_of g (ops ++ more)) p.height p.index) xs ≡ map (λ p. value_over hash shape g (leaves_from hash shape form 0 ops) (chunk_of g ops) p.height p.index) xs
  alike [] inside = refl
  alike (p ∷ ps) inside = ap₂ (λ v vs. v ∷ vs) (value-stays p.height p.index (inside 0 p (omega arith))) (alike ps (λ i x lt. inside (suc i) x (omega (arith, lt))))

  -- the pins of chunks below the floor
  pub pins-stay : All (λ p. suc p.index * 2 ^ p.height ≤ count) (peaks shape count) → grafted_pins hash shape g form (ops ++ more) count ≡ grafted_pins hash shape g form ops count
  pins-stay inside = alike (peaks shape count) inside

pub peaks-inside : (shape : Shape) (births : Births) → IsFamily shape births → HasPeaks shape → (n : ℕ) → n ≤ 2 ^ 62 → All (λ p. suc p.index * 2 ^ p.height ≤ n) (peaks shape n)
peaks-inside shape births family peaked n few = λ k x lt. le_trans (family.inside _) (peaked.born n few k x lt)

module _ {P : Type 0} (e : Engine P) (births : Births) (family : IsFamily e.layout.shape births) (peaked : HasPeaks e.layout.shape) (c : Chunks) (enough : 3 ≤ c.height) where
  abbrev pins_of : List Operation → ℕ → List Bytes
  pins_of list count = grafted_pins e.hash e.layout.shape c.height e.layout.form list count

  same-pins : (settled list : List Operation) (count : ℕ) → IsGood settled → count * 2 ^ c.height ≤ floor settled → count ≤ 2 ^ 62 → Begins settled list → pins_of list count ≡ pins_of settled count
  same-pins settled list count good low few begins =
      let parts : settled ++ drop (length settled) list ≡ list = ap (λ l. l ++ drop (length settled) list) (sym begins) ∙ take-append-drop (length settled) list in
      subst (λ l. pins_of l count ≡ pins_of settled count) parts
      (pins-stay e.hash e.layout.shape c.height enough e.layout.form settled (drop (length settled) list) good count low (peaks-inside e.layout.shape births family peaked count few))

  -- What metadata counts of a list it counts of each list that begins with the same good one, within whose floor the chunks end.
  pub counted-stays : (settled : List Operation) (log other : Log) (entries : List Entry) → IsGood settled → log.chunks * 2 ^ c.height ≤ floor settled → log.chunks ≤ 2 ^ 62 → Begins settled log.list → Begins settled other.list
      → other.chunks ≡ log.chunks → IsCounted e c log entries → IsCounted e c other entries
  counted-stays settled log other entries good low few old new same counted = record {
    readable = counted.readable;
    count = counted.count ∙ sym same;
    pins = subst (λ n. pins_found e.layout.shape entries n ≡ map (λ pin. Some pin) (pins_of other.list n)) (sym same)
        (counted.pins ∙ ap (map (λ pin. Some pin)) (same-pins settled log.list log.chunks good low few old ∙ sym (same-pins settled other.list log.chunks good low few new)));
  }

  -- and if no chunk is pruned, of each list
  pub counted-none : peaks e.layout.shape 0 ≡ [] → (log other : Log) (entries : List Entry) → log.chunks ≡ 0 → other.chunks ≡ log.chunks → IsCounted e c log entries → IsCounted e c other entries
  counted-none bare log other entries none same counted = record {
    readable = counted.readable;
    count = counted.count ∙ sym same;
    pins =
        let found = subst (λ n. pins_found e.layout.shape entries n ≡ map (λ pin. Some pin) (pins_of log.list n)) none counted.pins in
        subst (λ n. pins_found e.layout.shape entries n ≡ map (λ pin. Some pin) (pins_of other.list n)) (sym (same ∙ none))
        (found ∙ ap (map (λ pin. Some pin)) (no-pins log.list ∙ sym (no-pins other.list)));
  }
    where
      no-pins : (list : List Operation) → pins_of list 0 ≡ []
      no-pins list = ap (map (λ p. value_over e.hash e.layout.shape c.height (leaves_from e.hash e.layout.shape e.layout.form 0 list) (chunk_of c.height list) p.height p.index)) bare
