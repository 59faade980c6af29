-- What the activity bits say of a list, and how more operations change them.
use Rattle.std.proofs.Common.{◌≡◌, ℕ, zero, suc, ◌+◌, ◌-◌, ◌*◌, ◌/◌, ◌%◌, ◌^◌, ◌<◌, ◌≤◌, Bool, true, false, List, [], ◌∷◌, ◌++◌, length, take, drop, arith, ap, ap₂, sym, ◌∙◌, refl, Option, None, Some, get_or, ⊎_elim, subst, replicate, append_assoc}
use Rattle.std.specs.Prelude.{◌||◌, ◌==◌, if◌then◌else◌, slice_get, is_some}
use Rattle.std.specs.List.{cons_option, AllByRecursion as Each}
use Rattle.std.specs.Int.{bit_at}
use Rattle.std.proofs.lemmas.Bool.{cases_lt}
use Rattle.std.proofs.lemmas.List.{length-drop, get_or-drop, get_or-take, get_or_past}
use Rattle.std.proofs.lemmas.List.Folds.{list_any-append}
use Rattle.std.proofs.lemmas.Option.{get_or_from_slice_get}
use Rattle.std.proofs.lemmas.Nat.Bits.{bit_at_lowest, bit_at-suc, bit_at-zero}
use Rattle.std.proofs.lemmas.Nat.{pow-add}
use Rattle.qm_model.specs.Operations.{Bytes, Operation, update, delete, commit, IsCommitEnded}
use Rattle.qm_model.specs.Live.{Live, touches, touched, live_at, live_from, live, floor}
use Rattle.qm_model.specs.Writes.{Write, made_inactive}
use Rattle.qm_model.specs.Walk.{Rules, walk}
use Rattle.qm_model.specs.Step.{Kind, step, IsGood}
use Rattle.qm_model.specs.Bits.{is_last, is_active, bits, byte_of, packed, chunk, has_bit}
use Rattle.qm_model.specs.Grafted.{chunk_size, chunk_of}
use Rattle.qm_model.proofs.Proving.{true_or_false}
use Rattle.qm_model.proofs.Speaking.{each_of}

pub length-bits : (ops : List Operation) → length (bits ops) ≡ length ops
length-bits [] = refl
length-bits (op ∷ ops) = let rest = length-bits ops in omega arith

-- the bit of a location, by its operation and the rest of the list
pub bit_of : (ops : List Operation) (i : ℕ) (op : Operation) → slice_get ops i ≡ Some op → slice_get (bits ops) i ≡ Some (is_active op (drop (suc i) ops))
bit_of [] i op at = cc
bit_of (x ∷ ops) zero op at = let same : x ≡ op = cc in ap (λ o. Some (is_active o ops)) same
bit_of (x ∷ ops) (suc i) op at = bit_of ops i op at

-- of lists one after the other
at_left : {X : Type 0} (xs ys : List X) (i : ℕ) (x : X) → slice_get xs i ≡ Some x → slice_get (xs ++ ys) i ≡ Some x
at_left [] ys i x at = cc
at_left (y ∷ xs) ys zero x at = at
at_left (y ∷ xs) ys (suc i) x at = at_left xs ys i x at

drop_left : {X : Type 0} (xs ys : List X) (i : ℕ) (x : X) → slice_get xs i ≡ Some x → drop (suc i) (xs ++ ys) ≡ drop (suc i) xs ++ ys
drop_left [] ys i x at = cc
drop_left (y ∷ xs) ys zero x at = refl
drop_left (y ∷ xs) ys (suc i) x at = drop_left xs ys i x at

not_last : (rest more : List Operation) (next : Operation) → is_last (rest ++ next ∷ more) ≡ false
not_last [] more next = refl
not_last (op ∷ rest) more next = refl

-- the bit of a location of a list, once more stands after it
pub bit_before : (ops more : List Operation) (next : Operation) (i : ℕ) (op : Operation) → slice_get ops i ≡ Some op
    → slice_get (bits (ops ++ next ∷ more)) i ≡ Some (is_some (live_at 0 op (drop (suc i) ops ++ next ∷ more)))
bit_before ops more next i op at =
    bit_of (ops ++ next ∷ more) i op (at_left ops (next ∷ more) i op at)
    ∙ ap (λ rest. Some (is_active op rest)) (drop_left ops (next ∷ more) i op at)
    ∙ ap (λ t. Some (t || is_some (live_at 0 op (drop (suc i) ops ++ next ∷ more)))) (not_last (drop (suc i) ops) more next)

-- an update whose key is written again after it loses its bit
pub superseded_clear : (ops more : List Operation) (next : Operation) (i : ℕ) (k v : Bytes) (n : Option Bytes) → slice_get ops i ≡ Some (update k v n) → touched k (next ∷ more) ≡ true
    → slice_get (bits (ops ++ next ∷ more)) i ≡ Some false
superseded_clear ops more next i k v n at again =
    bit_before ops more next i (update k v n) at
    ∙ ap (λ t. Some (is_some {T = Live} (if t then None else Some (record { location = 0; key = k; value = v; next = n }))))
    (list_any-append (touches k) (drop (suc i) ops) (next ∷ more) ∙ ap (λ t. touched k (drop (suc i) ops) || t) again ∙ or_true (touched k (drop (suc i) ops)))
  where
    or_true : (t : Bool) → (t || true) ≡ true
    or_true true = refl
    or_true false = refl

-- an update whose key nothing after it touches keeps its bit
pub untouched_keeps : (ops more : List Operation) (next : Operation) (i : ℕ) (k v : Bytes) (n : Option Bytes) → slice_get ops i ≡ Some (update k v n) → touched k (drop (suc i) ops) ≡ false → touched k (next ∷ more) ≡ false
    → slice_get (bits (ops ++ next ∷ more)) i ≡ Some true
untouched_keeps ops more next i k v n at none before =
    bit_before ops more next i (update k v n) at
    ∙ ap (λ t. Some (is_some {T = Live} (if t then None else Some (record { location = 0; key = k; value = v; next = n }))))
    (list_any-append (touches k) (drop (suc i) ops) (next ∷ more) ∙ ap₂ (λ s t. s || t) none before)

-- a commit that is not the last operation has no bit, nor has a delete
pub commit_clear : (ops more : List Operation) (next : Operation) (i : ℕ) (m : Option Bytes) (f : ℕ) → slice_get ops i ≡ Some (commit m f) → slice_get (bits (ops ++ next ∷ more)) i ≡ Some false
commit_clear ops more next i m f at = bit_before ops more next i (commit m f) at

pub delete_clear : (ops more : List Operation) (next : Operation) (i : ℕ) (k : Bytes) → slice_get ops i ≡ Some (delete k) → slice_get (bits (ops ++ next ∷ more)) i ≡ Some false
delete_clear ops more next i k at = bit_before ops more next i (delete k) at

-- the last operation has its bit
pub last_set : (ops : List Operation) (op : Operation) → slice_get (bits (ops ++ op ∷ [])) (length ops) ≡ Some true
last_set [] op = refl
last_set (x ∷ ops) op = last_set ops op

-- a live update that stands at a location of a list that begins at `start`
live_there : (start : ℕ) (ops : List Operation) (P : Live → Type 0) → Each P (live_from start ops) → (i : ℕ) (k v : Bytes) (n : Option Bytes) → slice_get ops i ≡ Some (update k v n) → touched k (drop (suc i) ops) ≡ false
    → P (record { location = start + i; key = k; value = v; next = n })
live_there start [] P each i k v n at none = cc
live_there start (x ∷ ops) P each zero k v n at none =
    let same : x ≡ update k v n = cc in
    let one = subst (λ o. Each P (cons_option (live_at start o ops) (live_from (suc start) ops))) same each in
    let first = subst (λ t. Each P (cons_option (if t then None else Some (record { location = start; key = k; value = v; next = n })) (live_from (suc start) ops))) none one in
    let here : start ≡ start + 0 = omega arith in
    subst (λ j. P (record { location = j; key = k; value = v; next = n })) here first.0
live_there start (x ∷ ops) P each (suc i) k v n at none =
    let rest = tail (live_at start x ops) each in
    let next : suc start + i ≡ start + suc i = omega arith in
    subst (λ j. P (record { location = j; key = k; value = v; next = n })) next (live_there (suc start) ops P rest i k v n at none)
  where
    tail : (o : Option Live) → Each P (cons_option o (live_from (suc start) ops)) → Each P (live_from (suc start) ops)
    tail None each = each
    tail (Some e) each = each.1

-- every bit below the floor is clear
pub below_clear : (ops : List Operation) → IsGood ops → (i : ℕ) → i < floor ops → get_or (bits ops) i false ≡ false
below_clear ops good i low = at (slice_get ops i) refl
  where
    middle : (op : Operation) → slice_get ops i ≡ Some op → is_last (drop (suc i) ops) ≡ false
    middle op at = some_left (drop (suc i) ops) (let long = length-drop (suc i) ops in let within = good.floor_within in omega arith)
      where
        some_left : (rest : List Operation) → 0 < length rest → is_last rest ≡ false
        some_left [] lt = absurd (omega arith)
        some_left (x ∷ rest) lt = refl

    dead : (op : Operation) → slice_get ops i ≡ Some op → is_some (live_at 0 op (drop (suc i) ops)) ≡ false
    dead (update k v n) at = ⊎_elim
        (λ (yes : touched k (drop (suc i) ops) ≡ true). ap (λ t. is_some {T = Live} (if t then None else Some (record { location = 0; key = k; value = v; next = n }))) yes)
        (λ (none : touched k (drop (suc i) ops) ≡ false).
        let above = live_there 0 ops (λ e. floor ops ≤ e.location) (each_of (λ e. floor ops ≤ e.location) (live ops) good.above_floor) i k v n at none in absurd (omega arith))
        (true_or_false (touched k (drop (suc i) ops)))
    dead (delete k) at = refl
    dead (commit m f) at = refl

    at : (o : Option Operation) → slice_get ops i ≡ o → get_or (bits ops) i false ≡ false
    at None none = let within = good.floor_within in absurd (missing ops i none (omega arith))
      where
        missing : (xs : List Operation) (j : ℕ) → slice_get xs j ≡ None → j < length xs → ⊥
        missing [] j e lt = omega arith
        missing (x ∷ xs) zero e lt = cc
        missing (x ∷ xs) (suc j) e lt = missing xs j e (omega arith)
    at (Some op) found =
        get_or_from_slice_get (bits ops) i (is_active op (drop (suc i) ops)) false (bit_of ops i op found)
        ∙ ap₂ (λ s t. s || t) (middle op found) (dead op found)

-- Bytes of bits.

-- the bits of a byte
digit : Bool → ℕ
digit b = if b then 1 else 0

byte_bit : (bs : List Bool) (j : ℕ) → bit_at (byte_of bs) j ≡ (if get_or bs j false then 1 else 0)
byte_bit [] j = bit_at-zero j
byte_bit (true ∷ bs) zero = bit_at_lowest (1 + 2 * byte_of bs) ∙ omega arith
byte_bit (false ∷ bs) zero = bit_at_lowest (0 + 2 * byte_of bs) ∙ omega arith
byte_bit (true ∷ bs) (suc j) = let half : (1 + 2 * byte_of bs) / 2 ≡ byte_of bs = omega arith in bit_at-suc (1 + 2 * byte_of bs) j ∙ ap (λ n. bit_at n j) half ∙ byte_bit bs j
byte_bit (false ∷ bs) (suc j) = let half : (0 + 2 * byte_of bs) / 2 ≡ byte_of bs = omega arith in bit_at-suc (0 + 2 * byte_of bs) j ∙ ap (λ n. bit_at n j) half ∙ byte_bit bs j

-- the bits of bytes
packed_bit : (n : ℕ) (bs : List Bool) (i : ℕ) → i < 8 * n → bit_at (get_or (packed n bs) (i / 8) 0) (i % 8) ≡ (if get_or bs i false then 1 else 0)
packed_bit zero bs i lt = absurd (omega arith)
packed_bit (suc n) bs i lt = ⊎_elim
    (λ (here : i < 8).
    let byte : i / 8 ≡ 0 = omega arith in
    let place : i % 8 ≡ i = omega arith in
    ap₂ (λ b p. bit_at (get_or (packed (suc n) bs) b 0) p) byte place ∙ byte_bit (take 8 bs) i ∙ ap (λ t. if t then 1 else 0) (get_or-take 8 bs i false here))
    (λ (later : 8 ≤ i).
    let byte : i / 8 ≡ suc ((i - 8) / 8) = omega arith in
    let place : i % 8 ≡ (i - 8) % 8 = omega arith in
    let back : 8 + (i - 8) ≡ i = omega arith in
    ap₂ (λ b p. bit_at (get_or (packed (suc n) bs) b 0) p) byte place ∙ packed_bit n (drop 8 bs) (i - 8) (omega arith)
    ∙ ap (λ t. if t then 1 else 0) (get_or-drop 8 bs (i - 8) false ∙ ap (λ j. get_or bs j false) back))
    (cases_lt i 8)

-- a place of a chunk has the bit of its location
pub chunk_bit : (size : ℕ) (bs : List Bool) (c i : ℕ) → i < 8 * size → has_bit (chunk size bs c) i ≡ get_or bs (c * (8 * size) + i) false
chunk_bit size bs c i lt =
    ap (λ n. n == 1) (packed_bit size (drop (c * (8 * size)) bs) i lt ∙ ap (λ t. if t then 1 else 0) (get_or-drop (c * (8 * size)) bs i false))
    ∙ is_one (get_or bs (c * (8 * size) + i) false)
  where
    is_one : (t : Bool) → ((if t then 1 else 0) == 1) ≡ t
    is_one true = refl
    is_one false = refl

pub length-packed : (n : ℕ) (bs : List Bool) → length (packed n bs) ≡ n
length-packed zero bs = refl
length-packed (suc n) bs = let rest = length-packed n (drop 8 bs) in omega arith

-- clear bits are bytes of zeros
byte_clear : (bs : List Bool) → ((j : ℕ) → get_or bs j false ≡ false) → byte_of bs ≡ 0
byte_clear [] clear = refl
byte_clear (b ∷ bs) clear =
    let rest = byte_clear bs (λ j. clear (suc j)) in
    ap₂ (λ t n. (if t then 1 else 0) + 2 * n) (clear 0) rest

pub packed_clear : (n : ℕ) (bs : List Bool) → ((j : ℕ) → j < 8 * n → get_or bs j false ≡ false) → packed n bs ≡ replicate n 0
packed_clear zero bs clear = refl
packed_clear (suc n) bs clear = ap₂ (λ b rest. b ∷ rest)
    (byte_clear (take 8 bs) (λ j. ⊎_elim (λ (here : j < 8). get_or-take 8 bs j false here ∙ clear j (omega arith)) (λ (past : 8 ≤ j). get_or_past (take 8 bs) j false (short j past)) (cases_lt j 8)))
    (packed_clear n (drop 8 bs) (λ j lt. get_or-drop 8 bs j false ∙ clear (8 + j) (omega arith)))
  where
    few : (m : ℕ) (xs : List Bool) → length (take m xs) ≤ m
    few zero xs = omega arith
    few (suc m) [] = omega arith
    few (suc m) (x ∷ xs) = let rest = few m xs in omega arith

    short : (j : ℕ) → 8 ≤ j → length (take 8 bs) ≤ j
    short j past = let most = few 8 bs in omega arith

-- a chunk has a bit for each of its locations
pub chunk_span : (g : ℕ) → 3 ≤ g → 8 * chunk_size g ≡ 2 ^ g
chunk_span g enough =
    let split : 3 + (g - 3) ≡ g = omega arith in
    let power : 2 ^ g ≡ 2 ^ 3 * 2 ^ (g - 3) = ap (λ n. 2 ^ n) (sym split) ∙ pow-add 2 3 (g - 3) in
    omega arith

-- a chunk that ends at or below the floor is zeros
pub chunk_below : (g : ℕ) → 3 ≤ g → (ops : List Operation) → IsGood ops → (c : ℕ) → suc c * 2 ^ g ≤ floor ops → chunk_of g ops c ≡ replicate (chunk_size g) 0
chunk_below g enough ops good c low =
    let span = chunk_span g enough in
    let start : c * (8 * chunk_size g) ≡ c * 2 ^ g = ap (λ n. c * n) span in
    packed_clear (chunk_size g) (drop (c * (8 * chunk_size g)) (bits ops)) (λ j lt.
    get_or-drop (c * (8 * chunk_size g)) (bits ops) j false ∙ below_clear ops good (c * (8 * chunk_size g) + j) (omega arith))

-- A step.

tail_of : (xs : List Operation) (op : Operation) → (next : Operation) × (more : List Operation) × (xs ++ op ∷ [] ≡ next ∷ more)
tail_of [] op = (op, [], refl)
tail_of (x ∷ xs) op = (x, xs ++ op ∷ [], refl)

-- a step's list has more operations after the list
pub step_more : {P : Type 0} (kind : Kind) (rules : Rules P) (ops : List Operation) (ws : List Write) (policy : P) (meta : Option Bytes)
    → (next : Operation) × (more : List Operation) × (step kind rules ops ws policy meta ≡ ops ++ next ∷ more)
step_more kind rules ops ws policy meta =
    let made = kind.writes ops ws in
    let written = ops ++ made in
    let w = walk rules written (floor ops) (rules.limits policy (made_inactive ops made)) policy in
    let moved = kind.moves written w.decisions in
    let last = commit meta (if length (live (written ++ moved)) == 0 then length (written ++ moved) else w.floor) in
    let rest = tail_of (made ++ moved) last in
    (rest.0, rest.1, append_assoc written moved (last ∷ []) ∙ append_assoc ops made (moved ++ last ∷ []) ∙ ap (λ xs. ops ++ xs) (sym (append_assoc made moved (last ∷ []))) ∙ ap (λ xs. ops ++ xs) rest.2)

-- the last operation of a commit-ended list is a commit
ended_by : (ops : List Operation) → IsCommitEnded ops → (m : Option Bytes) × (f : ℕ) × (slice_get ops (length ops - 1) ≡ Some (commit m f))
ended_by [] ended = absurd ended
ended_by (update k v n ∷ []) ended = absurd ended
ended_by (delete k ∷ []) ended = absurd ended
ended_by (commit m f ∷ []) ended = (m, f, refl)
ended_by (x ∷ y ∷ ops) ended =
    let rest = ended_by (y ∷ ops) ended in
    let here : length (x ∷ y ∷ ops) - 1 ≡ suc (length (y ∷ ops) - 1) = omega arith in
    (rest.0, rest.1, ap (slice_get (x ∷ y ∷ ops)) here ∙ rest.2)

drop_front : (ops rest : List Operation) → drop (length ops) (ops ++ rest) ≡ rest
drop_front [] rest = refl
drop_front (op ∷ ops) rest = drop_front ops rest

module _ {P : Type 0} (kind : Kind) (rules : Rules P) (ops : List Operation) (ws : List Write) (policy : P) (meta : Option Bytes) where
  -- after a step an update has no bit whose key the step writes again, and the old commit has none
  pub step_clears : (i : ℕ) (k v : Bytes) (n : Option Bytes) → slice_get ops i ≡ Some (update k v n) → touched k (drop (length ops) (step kind rules ops ws policy meta)) ≡ true
      → slice_get (bits (step kind rules ops ws policy meta)) i ≡ Some false
  step_clears i k v n at again =
      let more = step_more kind rules ops ws policy meta in
      ap (λ xs. slice_get (bits xs) i) more.2
      ∙ superseded_clear ops more.1 more.0 i k v n at (ap (touched k) (sym (drop_front ops (more.0 ∷ more.1))) ∙ ap (λ xs. touched k (drop (length ops) xs)) (sym more.2) ∙ again)

  pub step_clears_commit : IsCommitEnded ops → slice_get (bits (step kind rules ops ws policy meta)) (length ops - 1) ≡ Some false
  step_clears_commit ended =
      let more = step_more kind rules ops ws policy meta in
      let last = ended_by ops ended in
      ap (λ xs. slice_get (bits xs) (length ops - 1)) more.2 ∙ commit_clear ops more.1 more.0 (length ops - 1) last.0 last.1 last.2
