-- A range proof of a list is rebuilt to the list's canonical root.
use Rattle.std.proofs.Common.{◌≡◌, ℕ, zero, suc, ◌+◌, ◌-◌, ◌*◌, ◌/◌, ◌^◌, ◌<◌, ◌≤◌, Bool, true, false, List, [], ◌∷◌, ◌++◌, length, map, take, drop, arith, ap, ap₂, sym, ◌∙◌, refl, Option, None, Some, get_or, append_assoc, ⊎_elim, subst}
use Rattle.std.specs.Prelude.{max, min, nat_lt, nat_le, ◌&&◌, bytes_eq, option_map, option_and_then, flat_map, if◌then◌else◌}
use Rattle.std.proofs.lemmas.Bool.{eq-eqb, cases_lt}
use Rattle.std.proofs.lemmas.List.{length-map}
use Rattle.std.proofs.lemmas.List.Sums.{count_by-le-length}
use Rattle.std.proofs.lemmas.Nat.{pow_pos, mod_below, div-add-mod', mul-le}
use Rattle.qm_model.specs.Operations.{Bytes, Operation}
use Rattle.qm_model.specs.Forms.{Form, spelling}
use Rattle.qm_model.specs.Live.{floor}
use Rattle.qm_model.specs.Trees.{Node, Shape, end_of, peaks, node_digest, digest, leaves_from, ops_root}
use Rattle.qm_model.specs.Proofs.{Taken, meets, taken, item_leaves, listed, rebuilt}
use Rattle.qm_model.specs.Bits.{partial_chunk}
use Rattle.qm_model.specs.Grafted.{chunk_node, chunk_of, pending_chunk, chunk_start, grafted_inactive, canonical_input, value_over, grafted_value, grafted_root, pending_digest, partial_digest, partial_of, canonical}
use Rattle.qm_model.specs.RangeProofs.{touched_chunks, chunks_from, chunks_of, listed_over, listed_of, range_proof, rebuilt_over, rebuilt_value, rebuilt_values, agrees, rebuilt_canonical, has_canonical, range_verdict}
use Rattle.qm_model.proofs.LastWrites.{bytes_same}
use Rattle.qm_model.proofs.MmrPeaks.{test_true}
use Rattle.qm_model.proofs.Speaking.{both_true, at_most}
use Rattle.qm_model.proofs.Proving.{true_or_false, less_true, less_tells, operations_leaves, length-item_leaves, rebuilt_listed, items_stand, items_end}

-- chunks one after the other
pub length-chunks_from : (chunks : ℕ → Bytes) (c k : ℕ) → length (chunks_from chunks c k) ≡ k
length-chunks_from chunks c zero = refl
length-chunks_from chunks c (suc k) = let rest = length-chunks_from chunks (suc c) k in omega arith

pub chunk_at : (chunks : ℕ → Bytes) (c k j : ℕ) (d : Bytes) → j < k → get_or (chunks_from chunks c k) j d ≡ chunks (c + j)
chunk_at chunks c zero j d lt = absurd (omega arith)
chunk_at chunks c (suc k) zero d lt = let same : c ≡ c + 0 = omega arith in ap chunks same
chunk_at chunks c (suc k) (suc j) d lt = let same : suc c + j ≡ c + suc j = omega arith in chunk_at chunks (suc c) k j d (omega arith) ∙ ap chunks same

-- what a number divided is, by its bounds
pub quotient_least : (a w i : ℕ) → 0 < w → a < suc i * w → a / w ≤ i
quotient_least a w i some lt = ⊎_elim (λ (past : i < a / w).
    let split = div-add-mod' a w in
    let more : suc i * w ≤ a / w * w = mul-le (suc i) w (a / w) w (omega arith) (omega arith) in absurd (omega arith))
    (λ (ok : a / w ≤ i). ok) (cases_lt i (a / w))

pub quotient_most : (a w i : ℕ) → 0 < w → i * w ≤ a → i ≤ a / w
quotient_most a w i some le = ⊎_elim (λ (past : a / w < i).
    let split = div-add-mod' a w in
    let below = mod_below a w some in
    let more : suc (a / w) * w ≤ i * w = mul-le (suc (a / w)) w i w (omega arith) (omega arith) in absurd (omega arith))
    (λ (ok : i ≤ a / w). ok) (cases_lt (a / w) i)

module _ (hash : Bytes → Bytes) (shape : Shape) (g : ℕ) (list items : List Bytes) (chunks : ℕ → Bytes) (given : List Bytes) (a b : ℕ)
    (stand : (k : ℕ) → a ≤ k → k < b → get_or items (k - a) [] ≡ get_or list k []) (end : a + length items ≡ b) (within : b ≤ length list)
    (own : (c : ℕ) → meets a b (chunk_node g c) ≡ true → get_or given (c - a / 2 ^ g) [] ≡ chunks c) where
  abbrev leaves : List Bytes
  leaves = item_leaves hash shape 0 list

  plain : (h i : ℕ) (ds : List Bytes) → rebuilt hash shape items a h i (listed hash shape leaves a b h i ++ ds) ≡ Some (digest hash shape leaves h i, ds)
  plain h i ds = rebuilt_listed hash shape list items a b stand end within h i ds

  -- what a proof lists of a node over a chunk's is rebuilt to its value, and what follows it is left
  over_listed : (k i : ℕ) (ds : List Bytes) → rebuilt_over hash shape g items a given k i (listed_over hash shape g leaves chunks a b k i ++ ds) ≡ Some (value_over hash shape g leaves chunks k i, ds)
  over_listed zero i ds =
      let l = listed hash shape leaves a b g i in
      let v = value_over hash shape g leaves chunks zero i in
      let wrap : Taken → Taken = option_map (λ t. (hash (get_or given (i - a / 2 ^ g) [] ++ t.0), t.1)) in
      ⊎_elim
      (λ (yes : meets a b (chunk_node g i) ≡ true).
      ap₂ (λ t e. if t then wrap (rebuilt hash shape items a g i ((if e then l else v ∷ []) ++ ds)) else taken ((if e then l else v ∷ []) ++ ds)) (ap (λ e. meets a e (chunk_node g i)) end ∙ yes) yes
      ∙ ap wrap (plain g i ds)
      ∙ ap (λ c. Some (hash (c ++ digest hash shape leaves g i), ds)) (own i yes))
      (λ (none : meets a b (chunk_node g i) ≡ false).
      ap₂ (λ t e. if t then wrap (rebuilt hash shape items a g i ((if e then l else v ∷ []) ++ ds)) else taken ((if e then l else v ∷ []) ++ ds)) (ap (λ e. meets a e (chunk_node g i)) end ∙ none) none)
      (true_or_false (meets a b (chunk_node g i)))
  over_listed (suc k) i ds =
      let x : Node = record { height = suc k + g; index = i } in
      let l = listed_over hash shape g leaves chunks a b k (2 * i) in
      let r = listed_over hash shape g leaves chunks a b k (2 * i + 1) in
      let v = value_over hash shape g leaves chunks (suc k) i in
      let join : Bytes × List Bytes → Taken = λ l. option_map (λ r. (node_digest hash (shape.number x) l.0 r.0, r.1)) (rebuilt_over hash shape g items a given k (2 * i + 1) l.1) in
      let over : List Bytes → Taken = λ es. option_and_then join (rebuilt_over hash shape g items a given k (2 * i) es) in
      ⊎_elim
      (λ (yes : meets a b x ≡ true).
      ap₂ (λ t e. if t then over ((if e then l ++ r else v ∷ []) ++ ds) else taken ((if e then l ++ r else v ∷ []) ++ ds)) (ap (λ e. meets a e x) end ∙ yes) yes
      ∙ ap over (append_assoc l r ds)
      ∙ ap (option_and_then join) (over_listed k (2 * i) (r ++ ds))
      ∙ ap (option_map (λ r. (node_digest hash (shape.number x) (value_over hash shape g leaves chunks k (2 * i)) r.0, r.1))) (over_listed k (2 * i + 1) ds))
      (λ (none : meets a b x ≡ false).
      ap₂ (λ t e. if t then over ((if e then l ++ r else v ∷ []) ++ ds) else taken ((if e then l ++ r else v ∷ []) ++ ds)) (ap (λ e. meets a e x) end ∙ none) none)
      (true_or_false (meets a b x))

  value_listed : (p : Node) (ds : List Bytes) → rebuilt_value hash shape g items a given p (listed_of hash shape g leaves chunks a b p ++ ds) ≡ Some (grafted_value hash shape g leaves chunks p, ds)
  value_listed p ds =
      let low = listed hash shape leaves a b p.height p.index in
      let high = listed_over hash shape g leaves chunks a b (p.height - g) p.index in
      let at : Bool → Taken = λ t. let es = (if t then low else high) ++ ds in if t then rebuilt hash shape items a p.height p.index es else rebuilt_over hash shape g items a given (p.height - g) p.index es in
      let to : Bool → Taken = λ t. Some ((if t then digest hash shape leaves p.height p.index else value_over hash shape g leaves chunks (p.height - g) p.index), ds) in
      ⊎_elim
      (λ (yes : nat_lt p.height g ≡ true). ap at yes ∙ plain p.height p.index ds ∙ sym (ap to yes))
      (λ (none : nat_lt p.height g ≡ false). ap at none ∙ over_listed (p.height - g) p.index ds ∙ sym (ap to none))
      (true_or_false (nat_lt p.height g))

  pub values_listed : (ps : List Node) → rebuilt_values hash shape g items a given ps (flat_map (listed_of hash shape g leaves chunks a b) ps) ≡ Some (map (grafted_value hash shape g leaves chunks) ps)
  values_listed [] = refl
  values_listed (p ∷ ps) =
      let rest = flat_map (listed_of hash shape g leaves chunks a b) ps in
      ap (option_and_then (λ t. option_map (λ rest. t.0 ∷ rest) (rebuilt_values hash shape g items a given ps t.1))) (value_listed p rest)
      ∙ ap (option_map (λ rest. grafted_value hash shape g leaves chunks p ∷ rest)) (values_listed ps)

-- a chunk's digest agrees with the chunk, if it is given
agreed : (hash : Bytes → Bytes) (shape : Shape) (g : ℕ) (items : List Bytes) (a : ℕ) (given : List Bytes) (chunks : ℕ → Bytes)
    → ((c : ℕ) → a / 2 ^ g ≤ c → c < a / 2 ^ g + length given → get_or given (c - a / 2 ^ g) [] ≡ chunks c)
    → (at : Option ℕ) → agrees hash shape g items a given at (option_map (λ c. hash (chunks c)) at) ≡ true
agreed hash shape g items a given chunks own None = refl
agreed hash shape g items a given chunks own (Some c) =
    let t = nat_le (a / 2 ^ g) c && nat_lt c (a / 2 ^ g + length given) in
    let same = bytes_eq (hash (get_or given (c - a / 2 ^ g) [])) (hash (chunks c)) in
    ⊎_elim
    (λ (yes : t ≡ true).
    let within = both_true (nat_le (a / 2 ^ g) c) (nat_lt c (a / 2 ^ g + length given)) yes in
    ap (λ t. if t then same else true) yes ∙ ap (λ d. bytes_eq (hash d) (hash (chunks c))) (own c (at_most (a / 2 ^ g) c within.0) (less_tells c (a / 2 ^ g + length given) within.1)) ∙ bytes_same (hash (chunks c)))
    (λ (none : t ≡ false). ap (λ t. if t then same else true) none)
    (true_or_false t)

module _ (hash : Bytes → Bytes) (shape : Shape) (g : ℕ) (form : Form) (ops : List Operation) (a b : ℕ) (some : a < b) (within : b ≤ length ops) (few : length ops ≤ 2 ^ 62) where
  abbrev list : List Bytes
  list = map (spelling form) ops

  abbrev items : List Bytes
  items = take (b - a) (drop a list)

  abbrev given : List Bytes
  given = chunks_of g ops a b

  size : length list ≡ length ops
  size = length-map ops (spelling form)

  end : a + length items ≡ b
  end = let long = size in items_end list a b some (omega arith)

  given_at : (c : ℕ) → a / 2 ^ g ≤ c → c < a / 2 ^ g + length given → get_or given (c - a / 2 ^ g) [] ≡ chunk_of g ops c
  given_at c from to =
      let long = length-chunks_from (chunk_of g ops) (a / 2 ^ g) (touched_chunks g a b) in
      let at : a / 2 ^ g + (c - a / 2 ^ g) ≡ c = omega arith in
      chunk_at (chunk_of g ops) (a / 2 ^ g) (touched_chunks g a b) (c - a / 2 ^ g) [] (omega arith) ∙ ap (chunk_of g ops) at

  touched : (c : ℕ) → meets a b (chunk_node g c) ≡ true → get_or given (c - a / 2 ^ g) [] ≡ chunk_of g ops c
  touched c does =
      let inside = less_tells (max a (c * 2 ^ g)) (min b (suc c * 2 ^ g)) does in
      let first = quotient_least a (2 ^ g) c (pow_pos g) (omega arith) in
      let last = quotient_most (b - 1) (2 ^ g) c (pow_pos g) (omega arith) in
      let long = length-chunks_from (chunk_of g ops) (a / 2 ^ g) (touched_chunks g a b) in
      given_at c first (omega arith)

  -- the range proof of a list verifies against its canonical root
  pub range_verified : range_verdict hash shape g items a given (range_proof hash shape g form ops a b) (canonical hash shape g form ops) ≡ true
  range_verified =
      let range = range_proof hash shape g form ops a b in
      let leaves = leaves_from hash shape form 0 ops in
      let n = length leaves in
      let row = peaks shape n in
      let inactive = grafted_inactive shape g ops in
      let spelt : leaves ≡ item_leaves hash shape 0 list = operations_leaves hash shape form 0 ops in
      let long : n ≡ length ops = ap length spelt ∙ length-item_leaves hash shape 0 list ∙ size in
      let ended = end in
      let listed_long = size in
      let low : inactive ≤ length (peaks shape (length ops)) = count_by-le-length (λ p. nat_le (end_of p) (chunk_start g (floor ops))) (peaks shape (length ops)) in
      let fewer : inactive ≤ length row = subst (λ m. inactive ≤ length (peaks shape m)) (sym long) low in
      let count : length given ≡ touched_chunks g a (a + length items) =
      length-chunks_from (chunk_of g ops) (a / 2 ^ g) (touched_chunks g a b) ∙ ap (touched_chunks g a) (sym ended) in
      let pending : agrees hash shape g items a given (pending_chunk shape g n) (pending_digest hash shape g ops) ≡ true =
      ap (λ m. agrees hash shape g items a given (pending_chunk shape g m) (pending_digest hash shape g ops)) long
      ∙ agreed hash shape g items a given (chunk_of g ops) given_at (pending_chunk shape g (length ops)) in
      let partial : agrees hash shape g items a given (partial_chunk (2 ^ g) n) (partial_digest hash shape g ops) ≡ true =
      ap (λ m. agrees hash shape g items a given (partial_chunk (2 ^ g) m) (partial_digest hash shape g ops)) long
      ∙ agreed hash shape g items a given (chunk_of g ops) given_at (partial_chunk (2 ^ g) (length ops)) in
      let rebuilt : rebuilt_values hash shape g items a given row range.proof.digests ≡ Some (map (grafted_value hash shape g leaves (chunk_of g ops)) row) =
      subst (λ ls. rebuilt_values hash shape g items a given row (flat_map (listed_of hash shape g ls (chunk_of g ops) a b) row) ≡ Some (map (grafted_value hash shape g ls (chunk_of g ops)) row)) (sym spelt)
      (values_listed hash shape g list items (chunk_of g ops) given a b (items_stand list a b (omega arith)) ended (omega arith) touched row) in
      let parts : rebuilt_canonical hash shape g items a given range (map (grafted_value hash shape g leaves (chunk_of g ops)) row) ≡ canonical hash shape g form ops =
      ap (λ m. hash (canonical_input (ops_root hash shape form ops) (grafted_root hash shape g form ops) (pending_digest hash shape g ops) (partial_of hash shape g m (partial_digest hash shape g ops)))) long in
      let last : has_canonical hash shape g items a given range (canonical hash shape g form ops) (rebuilt_values hash shape g items a given row range.proof.digests) ≡ true =
      ap (has_canonical hash shape g items a given range (canonical hash shape g form ops)) rebuilt
      ∙ ap (λ d. bytes_eq d (canonical hash shape g form ops)) parts ∙ bytes_same (canonical hash shape g form ops) in
      ap₂ (λ s t. s && t) (test_true n (2 ^ 62) (omega arith))
      (ap₂ (λ s t. s && t) (less_true 0 (length items) (omega arith))
      (ap₂ (λ s t. s && t) (test_true (a + length items) n (omega arith))
      (ap₂ (λ s t. s && t) (test_true inactive (length row) fewer)
      (ap₂ (λ s t. s && t) (eq-eqb (length given) (touched_chunks g a (a + length items)) count)
      (ap₂ (λ s t. s && t) pending (ap₂ (λ s t. s && t) partial last))))))
