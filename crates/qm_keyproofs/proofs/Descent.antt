-- The value that a claim and the digests of a proof give a node, by the values of its halves.
use Rattle.std.proofs.Common.{◌≡◌, ℕ, zero, suc, ◌+◌, ◌-◌, ◌*◌, ◌<◌, ◌≤◌, Bool, true, false, List, [], ◌++◌, length, arith, ap, ap₂, sym, ◌∙◌, refl, Option, Some, None, ⊎_elim}
use Rattle.std.specs.Prelude.{◌==◌, nat_lt, option_map, option_and_then, if◌then◌else◌, slice_index_or}
use Rattle.std.proofs.lemmas.Bool.{cases_lt}
use Rattle.std.proofs.lemmas.Bool.Decides.{nat_tests}
use Rattle.qm_model.specs.Operations.{Bytes}
use Rattle.qm_model.specs.Trees.{Shape, Node, leaf_digest, node_digest}
use Rattle.qm_model.specs.Proofs.{meets, Taken, taken, rebuilt}
use Rattle.qm_model.specs.Grafted.{chunk_node}
use Rattle.qm_model.specs.RangeProofs.{rebuilt_over}
use Rattle.qm_model.proofs.Proving.{less_true}
use Rattle.qm_merkle.specs.Mems.{left_of, right_of}
use Rattle.qm_proofs.proofs.Halving.{rebuilt_apart, rebuilt_leaf}
use Rattle.qm_keyproofs.specs.Claims.{Claim, chunk_of, own_value, value_of}

less_false : (m n : ℕ) → n ≤ m → nat_lt m n ≡ false
less_false m n low = grind (arith, nat_tests)

same_number : (m n : ℕ) → m ≡ n → (m == n) ≡ true
same_number m n is = grind (arith, nat_tests)

other_low : (m n : ℕ) → m < n → (m == n) ≡ false
other_low m n lt = grind (arith, nat_tests)

other_high : (m n : ℕ) → n < m → (m == n) ≡ false
other_high m n lt = grind (arith, nat_tests)

and_then_same : {A B : Type 0} (f g : A → Option B) → ((x : A) → f x ≡ g x) → (o : Option A) → option_and_then f o ≡ option_and_then g o
and_then_same f g same None = refl
and_then_same f g same (Some x) = same x

map_twice : {A B C : Type 0} (f : B → C) (g : A → B) (h : A → C) → ((x : A) → f (g x) ≡ h x) → (o : Option A) → option_map f (option_map g o) ≡ option_map h o
map_twice f g h same None = refl
map_twice f g h same (Some x) = ap Some (same x)

map_behind : {A B C : Type 0} (f : B → C) (g : A → Option B) (h : A → Option C) → ((x : A) → option_map f (g x) ≡ h x) → (o : Option A) → option_map f (option_and_then g o) ≡ option_and_then h o
map_behind f g h same None = refl
map_behind f g h same (Some x) = same x

module _ (hash : Bytes → Bytes) (shape : Shape) (claim : Claim) where
  abbrev items : List Bytes
  items = claim.items

  abbrev a : ℕ
  a = claim.start

  abbrev g : ℕ
  g = claim.height

  abbrev value : ℕ → ℕ → List Bytes → Taken
  value h i ds = value_of hash shape claim (record { height = h; index = i }) ds

  abbrev plain : ℕ → ℕ → List Bytes → Taken
  plain h i ds = rebuilt hash shape items a h i ds

  abbrev over : ℕ → ℕ → List Bytes → Taken
  over k i ds = rebuilt_over hash shape g items a claim.chunks k i ds

  abbrev does_meet : ℕ → ℕ → Bool
  does_meet h i = meets a (a + length items) (record { height = h; index = i })

  -- below the height of chunks it is the plain digest
  below : (h i : ℕ) (ds : List Bytes) → h < g → value h i ds ≡ plain h i ds
  below h i ds lt = ap (λ t. if t then plain h i ds else over (h - g) i ds) (less_true h g lt)

  -- from there on it is over chunks
  above : (h k i : ℕ) (ds : List Bytes) → h ≡ k + g → value h i ds ≡ over k i ds
  above h k i ds is =
      let up : h - g ≡ k = omega (arith, is) in
      ap (λ t. if t then plain h i ds else over (h - g) i ds) (less_false h g (omega (arith, is))) ∙ ap (λ m. over m i ds) up

  -- the value of a node from those of its halves
  abbrev joined : ℕ → ℕ → Bytes × List Bytes → Bytes × List Bytes → Bytes × List Bytes
  joined h i l r = (own_value hash claim (record { height = suc h; index = i }) (node_digest hash (shape.number (record { height = suc h; index = i })) l.0 r.0), r.1)

  abbrev behind : ℕ → ℕ → Bytes × List Bytes → Taken
  behind h i l = option_map (joined h i l) (value h (2 * i + 1) l.1)

  -- its plain digest
  abbrev plain_joined : ℕ → ℕ → Bytes × List Bytes → Bytes × List Bytes → Bytes × List Bytes
  plain_joined h i l r = (node_digest hash (shape.number (record { height = suc h; index = i })) l.0 r.0, r.1)

  abbrev plain_behind : ℕ → ℕ → Bytes × List Bytes → Taken
  plain_behind h i l = option_map (plain_joined h i l) (plain h (2 * i + 1) l.1)

  plain_halves : (h i : ℕ) (ds : List Bytes) → does_meet (suc h) i ≡ true → plain (suc h) i ds ≡ option_and_then (plain_behind h i) (plain h (2 * i) ds)
  plain_halves h i ds does = ap (λ t. if t then option_and_then (plain_behind h i) (plain h (2 * i) ds) else taken ds) does

  -- what is own of a node is its digest, if it is over no whole chunk or over more of them
  own_plain : (h i : ℕ) (d : Bytes) → (suc h == g) ≡ false → own_value hash claim (record { height = suc h; index = i }) d ≡ d
  own_plain h i d other = ap (λ t. if t then hash (chunk_of claim i ++ d) else d) other

  own_chunk : (h i : ℕ) (d : Bytes) → (suc h == g) ≡ true → own_value hash claim (record { height = suc h; index = i }) d ≡ hash (chunk_of claim i ++ d)
  own_chunk h i d same = ap (λ t. if t then hash (chunk_of claim i ++ d) else d) same

  halves_low : (h i : ℕ) (ds : List Bytes) → suc h < g → does_meet (suc h) i ≡ true → value (suc h) i ds ≡ option_and_then (behind h i) (value h (2 * i) ds)
  halves_low h i ds low does =
      let under : h < g = omega arith in
      below (suc h) i ds low ∙ plain_halves h i ds does
      ∙ and_then_same (plain_behind h i) (behind h i) (λ l. same l (plain h (2 * i + 1) l.1) ∙ ap (option_map (joined h i l)) (sym (below h (2 * i + 1) l.1 under))) (plain h (2 * i) ds)
      ∙ ap (option_and_then (behind h i)) (sym (below h (2 * i) ds under))
    where
      same : (l : Bytes × List Bytes) (o : Taken) → option_map (plain_joined h i l) o ≡ option_map (joined h i l) o
      same l None = refl
      same l (Some r) = ap (λ d. Some (d, r.1)) (sym (own_plain h i (node_digest hash (shape.number (record { height = suc h; index = i })) l.0 r.0) (other_low (suc h) g low)))

  halves_chunk : (h i : ℕ) (ds : List Bytes) → suc h ≡ g → does_meet (suc h) i ≡ true → value (suc h) i ds ≡ option_and_then (behind h i) (value h (2 * i) ds)
  halves_chunk h i ds is does =
      let under : h < g = omega (arith, is) in
      let chunk : Bytes × List Bytes → Bytes × List Bytes = λ t. (hash (chunk_of claim i ++ t.0), t.1) in
      let met : meets a (a + length items) (chunk_node g i) ≡ true = ap (λ m. does_meet m i) (sym is) ∙ does in
      above (suc h) 0 i ds (omega (arith, is))
      ∙ ap (λ t. if t then option_map chunk (plain g i ds) else taken ds) met
      ∙ ap (λ m. option_map chunk (plain m i ds)) (sym is)
      ∙ ap (option_map chunk) (plain_halves h i ds does)
      ∙ map_behind chunk (plain_behind h i) (behind h i) (λ l. map_twice chunk (plain_joined h i l) (joined h i l) (λ r. same l r) (plain h (2 * i + 1) l.1) ∙ ap (option_map (joined h i l)) (sym (below h (2 * i + 1) l.1 under))) (plain h (2 * i) ds)
      ∙ ap (option_and_then (behind h i)) (sym (below h (2 * i) ds under))
    where
      same : (l r : Bytes × List Bytes) → ◌≡◌ {A = Bytes × List Bytes} (hash (chunk_of claim i ++ node_digest hash (shape.number (record { height = suc h; index = i })) l.0 r.0), r.1) (joined h i l r)
      same l r = ap (λ d. (d, r.1)) (sym (own_chunk h i (node_digest hash (shape.number (record { height = suc h; index = i })) l.0 r.0) (same_number (suc h) g is)))

  halves_high : (h k i : ℕ) (ds : List Bytes) → h ≡ k + g → does_meet (suc h) i ≡ true → value (suc h) i ds ≡ option_and_then (behind h i) (value h (2 * i) ds)
  halves_high h k i ds is does =
      let up : suc h ≡ suc k + g = omega (arith, is) in
      above (suc h) (suc k) i ds up
      ∙ ap (λ t. if t then option_and_then (λ l. option_map (λ r. (node_digest hash (shape.number (record { height = suc k + g; index = i })) l.0 r.0, r.1)) (over k (2 * i + 1) l.1)) (over k (2 * i) ds) else taken ds) (ap (λ m. does_meet m i) (sym up) ∙ does)
      ∙ ap (λ m. option_and_then (λ l. option_map (λ r. (node_digest hash (shape.number (record { height = m; index = i })) l.0 r.0, r.1)) (over k (2 * i + 1) l.1)) (over k (2 * i) ds)) (sym up)
      ∙ and_then_same (λ l. option_map (plain_joined h i l) (over k (2 * i + 1) l.1)) (behind h i) (λ l. same l (over k (2 * i + 1) l.1) ∙ ap (option_map (joined h i l)) (sym (above h k (2 * i + 1) l.1 is))) (over k (2 * i) ds)
      ∙ ap (option_and_then (behind h i)) (sym (above h k (2 * i) ds is))
    where
      same : (l : Bytes × List Bytes) (o : Taken) → option_map (plain_joined h i l) o ≡ option_map (joined h i l) o
      same l None = refl
      same l (Some r) = ap (λ d. Some (d, r.1)) (sym (own_plain h i (node_digest hash (shape.number (record { height = suc h; index = i })) l.0 r.0) (other_high (suc h) g (omega (arith, is)))))

  halves_of : (h i : ℕ) (ds : List Bytes) → does_meet (suc h) i ≡ true → value (suc h) i ds ≡ option_and_then (behind h i) (value h (2 * i) ds)
  halves_of h i ds does = ⊎_elim
      (λ (low : suc h < g). halves_low h i ds low does)
      (λ (high : g ≤ suc h). ⊎_elim
      (λ (under : h < g). halves_chunk h i ds (omega arith) does)
      (λ (over_it : g ≤ h). halves_high h (h - g) i ds (omega arith) does)
      (cases_lt h g))
      (cases_lt (suc h) g)

  -- the value of a node over halves, from the left half's and what follows it
  abbrev over_left : Node → Node → Bytes × List Bytes → Taken
  over_left x r l = option_map (λ t. (own_value hash claim x (node_digest hash (shape.number x) l.0 t.0), t.1)) (value_of hash shape claim r l.1)

  value_halves : (x l r : Node) (ds : List Bytes) → 0 < x.height → meets a (a + length items) x ≡ true → l ≡ left_of x → r ≡ right_of x →
      value_of hash shape claim x ds ≡ option_and_then (over_left x r) (value_of hash shape claim l ds)
  value_halves x l r ds high met left right =
      at x.height x.index high met
      ∙ ap₂ (λ (m n : Node). option_and_then (over_left x n) (value_of hash shape claim m ds)) (sym left) (sym right)
    where
      at : (h i : ℕ) → 0 < h → does_meet h i ≡ true →
          value h i ds ≡ option_and_then (over_left (record { height = h; index = i }) (record { height = h - 1; index = 2 * i + 1 })) (value (h - 1) (2 * i) ds)
      at zero i high e = absurd (omega arith)
      at (suc h) i high e =
          let same : h ≡ suc h - 1 = omega arith in
          halves_of h i ds e ∙ ap (λ k. option_and_then (over_left (record { height = suc h; index = i }) (record { height = k; index = 2 * i + 1 })) (value k (2 * i) ds)) same

  -- of a node that has none of the leaves, the first digest that is left
  pub value_apart : (x : Node) (ds : List Bytes) → meets a (a + length items) x ≡ false → taken ds ≡ value_of hash shape claim x ds
  value_apart x ds apart = sym (⊎_elim
      (λ (low : x.height < g). below x.height x.index ds low ∙ sym (rebuilt_apart hash shape items a x ds apart))
      (λ (high : g ≤ x.height). above x.height (x.height - g) x.index ds (omega arith) ∙ at (x.height - g) (omega arith))
      (cases_lt x.height g))
    where
      at : (k : ℕ) → x.height ≡ k + g → over k x.index ds ≡ taken ds
      at zero is =
          let chunk : Bytes × List Bytes → Bytes × List Bytes = λ t. (hash (chunk_of claim x.index ++ t.0), t.1) in
          let same : x.height ≡ g = omega (arith, is) in
          ap (λ t. if t then option_map chunk (plain g x.index ds) else taken ds) (ap (λ m. does_meet m x.index) (sym same) ∙ apart)
      at (suc k) is =
          ap (λ t. if t then option_and_then (λ l. option_map (λ r. (node_digest hash (shape.number (record { height = suc k + g; index = x.index })) l.0 r.0, r.1)) (over k (2 * x.index + 1) l.1)) (over k (2 * x.index) ds) else taken ds) (ap (λ m. does_meet m x.index) (sym is) ∙ apart)

  -- and of a leaf that is one of them, its own
  pub value_leaf : (x : Node) (ds : List Bytes) (d : Bytes) → 0 < g → x.height ≡ 0 → meets a (a + length items) x ≡ true → d ≡ leaf_digest hash (shape.position x) (slice_index_or items (x.index - a) []) →
      ◌≡◌ {A = Taken} (Some (d, ds)) (value_of hash shape claim x ds)
  value_leaf x ds d some low met is = rebuilt_leaf hash shape items a x ds d low met is ∙ sym (below x.height x.index ds (omega (arith, low)))

  module _ (x l r : Node) (ds : List Bytes) (high : 0 < x.height) (met : meets a (a + length items) x ≡ true) (left : l ≡ left_of x) (right : r ≡ right_of x) where
    pub no_left : None ≡ value_of hash shape claim l ds → None ≡ value_of hash shape claim x ds
    no_left none = sym (value_halves x l r ds high met left right ∙ ap (option_and_then (over_left x r)) (sym none))

    pub no_right : (p : Bytes × List Bytes) → Some p ≡ value_of hash shape claim l ds → None ≡ value_of hash shape claim r p.1 → None ≡ value_of hash shape claim x ds
    no_right p some none =
        sym (value_halves x l r ds high met left right ∙ ap (option_and_then (over_left x r)) (sym some)
        ∙ ap (option_map (λ q. (own_value hash claim x (node_digest hash (shape.number x) p.0 q.0), q.1))) (sym none))

    pub both : (p q : Bytes × List Bytes) (d e : Bytes) (number : ℕ) → Some p ≡ value_of hash shape claim l ds → Some q ≡ value_of hash shape claim r p.1 →
        d ≡ node_digest hash number p.0 q.0 → number ≡ shape.number x → e ≡ own_value hash claim x d → ◌≡◌ {A = Taken} (Some (e, q.1)) (value_of hash shape claim x ds)
    both p q d e number some other made at own =
        let hashed : d ≡ node_digest hash (shape.number x) p.0 q.0 = made ∙ ap (λ n. node_digest hash n p.0 q.0) at in
        ap (λ y. Some (y, q.1)) (own ∙ ap (own_value hash claim x) hashed)
        ∙ sym (value_halves x l r ds high met left right ∙ ap (option_and_then (over_left x r)) (sym some)
        ∙ ap (option_map (λ t. (own_value hash claim x (node_digest hash (shape.number x) p.0 t.0), t.1))) (sym other))
