-- What a view of both trees holds of the nodes that a range proof needs, and what it tells of them.
use Rattle.std.proofs.Common.{◌≡◌, ℕ, zero, suc, ◌+◌, ◌-◌, ◌*◌, ◌/◌, ◌^◌, ◌<◌, ◌≤◌, Bool, true, false, List, [], ◌∷◌, ◌++◌, length, map, arith, ap, ap₂, sym, ◌∙◌, refl, Option, Some, None, IsSome, IfSome, subst, le_refl, ⊎_elim}
use Rattle.std.specs.Prelude.{is_none, is_some, cond, max, min, if◌then◌else◌}
use Rattle.std.specs.List.{AllByRecursion as Each}
use Rattle.std.proofs.lemmas.Bool.{cases_lt}
use Rattle.std.proofs.lemmas.Nat.{pow-add, mul-le}
use Rattle.qm_model.specs.Operations.{Bytes}
use Rattle.qm_model.specs.Trees.{Shape, Node, end_of, leaf, peaks}
use Rattle.qm_model.specs.Families.{Births, IsFamily, HasPeaks, over}
use Rattle.qm_model.specs.Proofs.{meets, start_of, needed, needed_of}
use Rattle.qm_model.specs.Grafted.{raised, lowered, grafted_chunks, needed_size, grafted_value, chunk_values}
use Rattle.qm_model.proofs.Proving.{less_tells}
use Rattle.qm_merkle.proofs.Numbering.{born_once}
use Rattle.qm_base.specs.declared.error.MerkleError.{MerkleError}
use Rattle.qm_base.specs.declared.error.MerkleError.TheVariants as merkle
use Rattle.qm_proofs.specs.Proofs.{Tells, needed_positions, first_lacked, Lacks}
use Rattle.qm_proofs.proofs.Telling.{needed_born, each_row, each_of, each_append}
use Rattle.qm_graft.specs.Grafting.{kept_shape}
use Rattle.qm_graft.specs.Trees.{Stands, held_at}
use Rattle.qm_graft.proofs.There.{held_low, held_high}
use Rattle.qm_graft.proofs.Viewing.{tells_low, tells_high}

-- none of the positions lacks a digest
one_without : {D : Type 0} (found : Option D) (p : ℕ) (rest : Option ℕ) → IsSome found → rest ≡ None → cond (is_none found) (Some p) rest ≡ None
one_without None p rest some none = cc
one_without (Some d) p rest some none = none

none_without : {D : Type 0} (at : ℕ → Option D) (position : Node → ℕ) (xs : List Node) → Each (λ x. IsSome (at (position x))) xs → first_lacked at (map position xs) ≡ None
none_without at position [] all = refl
none_without at position (x ∷ xs) all = one_without (at (position x)) (position x) (first_lacked at (map position xs)) all.0 (none_without at position xs all.1)

-- what holds of each by two things
each_by : {X : Type 0} (P Q R : X → Type 0) → ((x : X) → P x → Q x → R x) → (xs : List X) → Each P xs → Each Q xs → Each R xs
each_by P Q R make [] all more = tt
each_by P Q R make (x ∷ xs) all more = (make x all.0 more.0, each_by P Q R make xs all.1 more.1)

-- what is held of nodes, where it is told what that is
pub told-row : {D : Type 0} (bytes : D → Bytes) (position : Node → ℕ) (held : ℕ → Option D) (value : Node → Bytes) (xs : List Node) (ds : List D) →
    map Some ds ≡ map held (map position xs) → Each (λ x. IfSome (held (position x)) (λ d. bytes d ≡ value x)) xs → map bytes ds ≡ map value xs
told-row bytes position held value [] [] is each = refl
told-row bytes position held value [] (d ∷ ds) is each = cc
told-row bytes position held value (x ∷ xs) [] is each = cc
told-row {D} bytes position held value (x ∷ xs) (d ∷ ds) is each =
    let head : Some d ≡ held (position x) = cc in
    let tail : map Some ds ≡ map held (map position xs) = cc in
    let first : bytes d ≡ value x = subst (λ (o : Option D). IfSome o (λ d. bytes d ≡ value x)) (sym head) each.0 in
    ap₂ (λ v vs. v ∷ vs) first (told-row bytes position held value xs ds tail each.1)

met : (a b s e : ℕ) → max a s < min b e → a < e
met a b s e lt = grind (arith)

-- chunks that end at or before a place end before what goes past it
chunk_before : (c w a e : ℕ) → c * w ≤ a → a < e * w → c < e
chunk_before c w a e from past = ⊎_elim
    (λ (less : c < e). less)
    (λ (more : e ≤ c). let wide = mul-le e w c w more (le_refl w) in absurd (omega (arith, wide, from, past)))
    (cases_lt c e)

module _ (shape : Shape) (births : Births) (family : IsFamily shape births) (peaked : HasPeaks shape) (g : ℕ)
    (grown : (n : ℕ) (x : Node) → shape.birth (raised g x) ≤ n → shape.birth x ≤ grafted_chunks shape g n)
    (absorbed : (n c : ℕ) (x : Node) → 0 < c → needed_size shape g c ≤ n → shape.birth x ≤ c → shape.birth (raised g x) ≤ n) where
  -- a node is none that a tree of operations forgot, nor stands for one that the grafted tree forgot
  abbrev IsBare : ℕ → ℕ → Node → Type 0
  IsBare from chunks x = (x.height < g → from < shape.birth (over x)) × (g ≤ x.height → chunks < shape.birth (over (lowered g x)))

  -- so are the nodes that a proof of leaves behind the forgotten ones needs of such a node
  needed_bare : (from chunks a b h i : ℕ) → from ≤ a → chunks * 2 ^ g ≤ a → IsBare from chunks (record { height = h; index = i }) → Each (IsBare from chunks) (needed a b h i)
  needed_bare from chunks a b zero i low behind bare = at (meets a b (leaf i))
    where
      at : (t : Bool) → Each (IsBare from chunks) (if t then [] else leaf i ∷ [])
      at true = tt
      at false = (bare, tt)
  needed_bare from chunks a b (suc h) i low behind bare =
      at (meets a b node) refl
      (λ is. each_append (IsBare from chunks) (needed a b h (2 * i)) (needed a b h (2 * i + 1))
      (needed_bare from chunks a b h (2 * i) low behind (half (2 * i) (omega arith) is)) (needed_bare from chunks a b h (2 * i + 1) low behind (half (2 * i + 1) (omega arith) is)))
    where
      node : Node
      node = record { height = suc h; index = i }

      past : meets a b node ≡ true → a < end_of node
      past meeting = met a b (start_of node) (end_of node) (less_tells _ _ meeting)

      half : (j : ℕ) → j / 2 ≡ i → meets a b node ≡ true → IsBare from chunks (record { height = h; index = j })
      half j is meeting = (
        λ below.
            let up : shape.birth (over (record { height = h; index = j })) ≡ shape.birth node = ap (λ k. shape.birth (record { height = suc h; index = k })) is in
            omega (arith, up, family.inside node, past meeting, low),
        λ above.
            let high : Node = record { height = suc (h - g); index = i } in
            let up : shape.birth (over (lowered g (record { height = h; index = j }))) ≡ shape.birth high = ap (λ k. shape.birth (record { height = suc (h - g); index = k })) is in
            let split : suc h ≡ suc (h - g) + g = omega (arith, above) in
            let wide : 2 ^ suc h ≡ 2 ^ suc (h - g) * 2 ^ g = ap (λ n. 2 ^ n) split ∙ pow-add 2 (suc (h - g)) g in
            let whole : suc i * 2 ^ suc h ≡ suc i * 2 ^ suc (h - g) * 2 ^ g = ap (λ z. suc i * z) wide ∙ omega arith in
            let before = chunk_before chunks (2 ^ g) a (suc i * 2 ^ suc (h - g)) behind (omega (arith, past meeting, whole)) in
            omega (arith, up, family.inside high, before),
      )

      at : (t : Bool) → meets a b node ≡ t → (meets a b node ≡ true → Each (IsBare from chunks) (needed a b h (2 * i) ++ needed a b h (2 * i + 1))) →
          Each (IsBare from chunks) (if t then needed a b h (2 * i) ++ needed a b h (2 * i + 1) else node ∷ [])
      at false is halves = (bare, tt)
      at true is halves = halves is

  module _ {D : Type 0} (operations grafted : ℕ → Option D) (n : ℕ) (few : n ≤ 2 ^ 62) where
    abbrev view : ℕ → Option D
    view = held_at shape births operations grafted n g

    -- the nodes that a proof needs are born
    born : (a b : ℕ) → Each (λ x. shape.birth x ≤ n) (needed_of shape n a b)
    born a b =
        each_row (λ x. shape.birth x ≤ n) (λ p. needed a b p.height p.index) (λ p. shape.birth p ≤ n) (λ p. needed_born shape births family n a b p.height p.index) (peaks shape n)
        (each_of (λ p. shape.birth p ≤ n) (peaks shape n) (peaked.born n few))

    stands : (x : Node) → shape.birth x ≤ n → Stands shape n (shape.position x) x
    stands x there = (λ i. shape.position x, there)

    -- what is held of the needed nodes are their grafted values
    pub told : (bytes : D → Bytes) (hash : Bytes → Bytes) (leaves : List Bytes) (chunks : ℕ → Bytes) → n ≡ length leaves → Tells shape bytes hash operations leaves →
        Tells (kept_shape shape g) bytes hash grafted (chunk_values hash shape g leaves chunks 0 (grafted_chunks shape g (length leaves))) → (a b : ℕ) (ds : List D) →
        map Some ds ≡ map view (needed_positions shape n a b) → map bytes ds ≡ map (grafted_value hash shape g leaves chunks) (needed_of shape n a b)
    told bytes hash leaves chunks long digests values a b ds is =
        told-row bytes shape.position view (grafted_value hash shape g leaves chunks) (needed_of shape n a b) ds is
        (each_by (λ x. shape.birth x ≤ n) (λ x. shape.birth x ≤ n) (λ x. IfSome (view (shape.position x)) (λ d. bytes d ≡ grafted_value hash shape g leaves chunks x)) one (needed_of shape n a b) (born a b) (born a b))
      where
        one : (x : Node) → shape.birth x ≤ n → shape.birth x ≤ n → IfSome (view (shape.position x)) (λ d. bytes d ≡ grafted_value hash shape g leaves chunks x)
        one x there again =
            let old : shape.birth x ≤ length leaves = omega (arith, there, long) in
            ⊎_elim
            (λ (low : x.height < g). tells_low bytes hash shape births family g leaves chunks operations digests x low old (view (shape.position x))
            (held_low shape births family operations grafted g n (shape.position x) x (stands x there) low))
            (λ (high : g ≤ x.height). tells_high bytes hash shape births family g leaves chunks grafted (omega (arith, long, few)) (grafted_chunks shape g (length leaves)) (grown (length leaves)) values x high old (view (shape.position x))
            (held_high shape births family operations grafted g n (shape.position x) x (stands x there) high))
            (cases_lt x.height g)

    -- the trees hold the nodes that a proof of leaves behind those needs which they forgot
    module _ (from chunks : ℕ)
        (low_held : (x : Node) → shape.birth x ≤ n → from < shape.birth (over x) → IsSome (operations (shape.position x)))
        (high_held : (y : Node) → shape.birth y ≤ grafted_chunks shape g n → chunks < shape.birth (over y) → IsSome (grafted (shape.position y)))
        (may_go : 0 < chunks → needed_size shape g chunks ≤ n) where
      is_held : (x : Node) → shape.birth x ≤ n → IsBare from chunks x → IsSome (view (shape.position x))
      is_held x there bare = ⊎_elim
          (λ (low : x.height < g). ap is_some (held_low shape births family operations grafted g n (shape.position x) x (stands x there) low) ∙ low_held x there (bare.0 low))
          (λ (high : g ≤ x.height).
          let up : x.height ≡ x.height - g + g = omega (arith, high) in
          let raised_is : shape.birth (raised g (lowered g x)) ≤ n = subst (λ h. shape.birth (record { height = h; index = x.index }) ≤ n) up there in
          ap is_some (held_high shape births family operations grafted g n (shape.position x) x (stands x there) high) ∙ high_held (lowered g x) (grown n (lowered g x) raised_is) (bare.1 high))
          (cases_lt x.height g)

      peak_bare : from ≤ n → (p : Node) → n < shape.birth (over p) → IsBare from chunks p
      peak_bare within p late = (
        λ low. omega (arith, within, late),
        λ high. ⊎_elim (λ (ok : chunks < shape.birth (over (lowered g p))). ok)
            (λ (early : shape.birth (over (lowered g p)) ≤ chunks).
            let begun : 0 < chunks = omega (arith, early, born_once shape births family (over (lowered g p))) in
            let more : suc (p.height - g) + g ≡ suc p.height = omega (arith, high) in
            let back = absorbed n chunks (over (lowered g p)) begun (may_go begun) early in
            let same : shape.birth (over p) ≤ n = subst (λ h. shape.birth (record { height = h; index = (over p).index }) ≤ n) more back in
            absurd (omega (arith, same, late)))
            (cases_lt chunks (shape.birth (over (lowered g p)))),
      )

      pub needed_held : (a b : ℕ) → from ≤ a → chunks * 2 ^ g ≤ a → a ≤ n → first_lacked view (needed_positions shape n a b) ≡ None
      needed_held a b low behind within =
          none_without view shape.position (needed_of shape n a b)
          (each_by (λ x. shape.birth x ≤ n) (IsBare from chunks) (λ x. IsSome (view (shape.position x))) is_held (needed_of shape n a b) (born a b)
          (each_row (IsBare from chunks) (λ p. needed a b p.height p.index) (λ p. n < shape.birth (over p)) (λ p late. needed_bare from chunks a b p.height p.index low behind (peak_bare (omega (arith, low, within)) p late)) (peaks shape n)
          (each_of (λ p. n < shape.birth (over p)) (peaks shape n) (peaked.bare n few))))

-- where no node is lacked, the error is want of memory
pub only_memory : {D : Type 0} (at : ℕ → Option D) (positions : List ℕ) (error : MerkleError) → first_lacked at positions ≡ None → Lacks at positions error → error ≡ merkle.Memory
only_memory at positions error none = ⊎_elim (λ (memory : error ≡ merkle.Memory). memory)
    (λ (lack : (p : ℕ) × (first_lacked at positions ≡ Some p) × (error ≡ _)). absurd (apart (first_lacked at positions) lack.0 none lack.1))
  where
    apart : (o : Option ℕ) (p : ℕ) → o ≡ None → o ≡ Some p → ⊥
    apart None p e1 e2 = cc
    apart (Some q) p e1 e2 = cc
