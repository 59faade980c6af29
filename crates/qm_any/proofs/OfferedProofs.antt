-- Which nodes a database holds in its log's tree, by itself and below a batch's layers, and what it lacks of those that it is asked for.
use Rattle.std.proofs.Common.{◌≡◌, ◌∙◌, ⊎_elim, inl, inr, ℕ, zero, suc, ◌-◌, ◌^◌, ◌<◌, ◌≤◌, Bool, true, false, List, [], ◌∷◌, ◌++◌, length, map, arith, ap, ap₂, sym, refl, subst, Option, Some, None, All, Contains}
use Rattle.std.specs.Prelude.{Result, Err, IfErr, ◌&&◌, ◌||◌, ◌==◌, not, nat_le, nat_lt, cond, find, is_none, is_some, option_map, slice_get, IsSome, if◌then◌else◌}
use Rattle.std.specs.List.{list_any, AllByRecursion as Each}
use Rattle.std.specs.Option.{option_or}
use Rattle.std.proofs.lemmas.Bool.{cases_lt, le-leb, lt-leb, le-ltb, lt-ltb}
use Rattle.std.proofs.lemmas.List.{length-map, map-append}
use Rattle.std.proofs.lemmas.List.Elements.{All-head, All-tail, All-contains, Contains-push}
use Rattle.std.proofs.lemmas.List.Folds.{find-append}
use Rattle.qm_model.specs.Operations.{Bytes, Operation}
use Rattle.qm_model.specs.Forms.{Form, spelling}
use Rattle.qm_model.specs.Trees.{Shape, Node, peaks, peak_positions, digest_of}
use Rattle.qm_model.specs.Families.{Births, IsFamily, HasPeaks}
use Rattle.qm_model.specs.Proofs.{needed_of}
use Rattle.qm_model.specs.Proofs.{needed as needs}
use Rattle.qm_model.specs.Batches.{Chain, Commitment, boundary_list}
use Rattle.qm_model.specs.Refused.{Merkle, ElementPruned, RangeOutOfBounds}
use Rattle.qm_model.specs.Refusals.{pins_refusal}
use Rattle.qm_model.proofs.Results.{err-then}
use Rattle.qm_model.specs.Held.{is_between, is_held, first_pruned, pins_lacked, proof_lacked}
use Rattle.qm_base.specs.declared.error.Error.{Error}
use Rattle.qm_base.specs.declared.error.Error.TheVariants as errors
use Rattle.qm_base.specs.declared.error.TreeRefused.TheVariants as refused
use Rattle.qm_chain.specs.Bounds.{knows}
use Rattle.qm_merkle.specs.Mems.{Kept, Gives, Stands, node_at, pin_at}
use Rattle.qm_merkle.specs.Batches.{Layer, found_at, layer_at, layers_at, stops, IsHistory, Leads}
use Rattle.qm_merkle.proofs.Lookups.{node_at-past, node_at-pin}
use Rattle.qm_merkle.proofs.Numbering.{stands_below, stands_past}
use Rattle.qm_proofs.specs.Proofs.{first_lacked, needed_positions}
use Rattle.qm_proofs.proofs.Listing.{lacked_first, lacked_later}
use Rattle.qm_proofs.proofs.Telling.{needed_born, each_of, each_row}
use Rattle.qm_store.specs.declared.Store as store
use Rattle.qm_store.specs.KeptTrees.{KeptTree, IsAdding, held_at, leaves_of}
use Rattle.qm_store.specs.Log.{IsLacked, digests_from}
use Rattle.qm_store.specs.Refusals.{IsDue}
use Rattle.qm_store.proofs.Leaves.{length-digests_from}
use Rattle.qm_any.specs.Databases.{Database, Made, IsDatabase, IsMade, AreAgreed, bases}
use Rattle.qm_any.proofs.Agreed.{known-reached, start-within}
use Rattle.qm_any.specs.Layouts.{hashing_with}

-- a node has a digest if one is given
given-some : {D : Type 0} (bytes : D → Bytes) (found : Option D) (digest : Bytes) → Gives bytes found digest → IsSome found
given-some bytes None digest is = cc
given-some bytes (Some d) digest is = refl

-- there is a pin exactly at the positions that have one
pins-are : {D : Type 0} (qs : List ℕ) (ds : List D) (p : ℕ) → length ds ≡ length qs → is_some (pin_at qs ds p) ≡ list_any (λ q. q == p) qs
pins-are [] ds p long = refl
pins-are (q ∷ qs) [] p long = absurd (omega (arith, long))
pins-are (q ∷ qs) (d ∷ ds) p long = by (q == p) (pins-are qs ds p (omega (arith, long)))
  where
    by : (t : Bool) → is_some (pin_at qs ds p) ≡ list_any (λ q. q == p) qs → is_some (if t then Some d else pin_at qs ds p) ≡ (t || list_any (λ q. q == p) qs)
    by true rest = refl
    by false rest = rest

-- what one or the other has
either-some : {D : Type 0} (first other : Option D) → is_some (option_or first other) ≡ (is_some first || is_some other)
either-some None other = refl
either-some (Some d) other = refl

none-some : {D : Type 0} (found : Option D) → is_none found ≡ not (is_some found)
none-some None = refl
none-some (Some d) = refl

or-true : (b : Bool) → (b || true) ≡ true
or-true true = refl
or-true false = refl

or-false : (b : Bool) → (b || false) ≡ b
or-false true = refl
or-false false = refl

module _ (shape : Shape) (births : Births) (family : IsFamily shape births) where
  past : (x : Node) (n : ℕ) → n < shape.birth x → nat_le (shape.size n) (shape.position x) ≡ true
  past x n late = le-leb (shape.size n) (shape.position x) (stands_past shape births family x n late)

  before : (x : Node) (n : ℕ) → shape.birth x ≤ n → nat_le (shape.size n) (shape.position x) ≡ false
  before x n early = lt-leb (shape.size n) (shape.position x) (stands_below shape births family x n early)

  below : (x : Node) (n : ℕ) → shape.birth x ≤ n → nat_lt (shape.position x) (shape.size n) ≡ true
  below x n early = lt-ltb (shape.position x) (shape.size n) (stands_below shape births family x n early)

  -- a node that came between is there
  between : (x : Node) (low n : ℕ) → low < shape.birth x → shape.birth x ≤ n → is_between shape low n (shape.position x) ≡ true
  between x low n late early = ap₂ (λ a b. a && b) (past x low late) (below x n early)

  not-between : (x : Node) (low n : ℕ) → shape.birth x ≤ low → is_between shape low n (shape.position x) ≡ false
  not-between x low n early = ap (λ a. a && nat_lt (shape.position x) (shape.size n)) (before x low early)

  module _ {D : Type 0} (bytes : D → Bytes) (hash : Bytes → Bytes) where
    -- the tree of a log holds a node of its leaves exactly if that came after its start or is one of the peaks there
    log-held : (kept : Kept D) (leaves : List Bytes) → Stands shape bytes hash kept leaves → (x : Node) → shape.birth x ≤ length leaves
        → is_some (node_at shape kept (shape.position x)) ≡ is_held shape kept.start (length leaves) (shape.position x)
    log-held kept leaves stands x born = ⊎_elim late early (cases_lt kept.start (shape.birth x))
      where
        p : ℕ
        p = shape.position x

        late : kept.start < shape.birth x → is_some (node_at shape kept p) ≡ is_held shape kept.start (length leaves) p
        late after =
            given-some bytes (node_at shape kept p) (digest_of hash shape leaves x) (stands.nodes x after (omega (arith, born, stands.count)))
            ∙ sym (ap (λ b. b || list_any (λ q. q == p) (peak_positions shape kept.start)) (between x kept.start (length leaves) after born))

        long : length kept.pins ≡ length (peak_positions shape kept.start)
        long = sym (length-map kept.pins bytes) ∙ (ap length stands.pins ∙ length-map (peaks shape kept.start) (digest_of hash shape leaves)) ∙ sym (length-map (peaks shape kept.start) shape.position)

        early : shape.birth x ≤ kept.start → is_some (node_at shape kept p) ≡ is_held shape kept.start (length leaves) p
        early first =
            ap is_some (node_at-pin shape kept p (stands_below shape births family x kept.start first))
            ∙ pins-are (peak_positions shape kept.start) kept.pins p long
            ∙ sym (ap (λ b. b || list_any (λ q. q == p) (peak_positions shape kept.start)) (not-between x kept.start (length leaves) first))

    -- a layer has each node that came with it
    layer-has : (layer : Layer D) (old new : List Bytes) → Leads shape bytes hash layer old new → (x : Node) → layer.tree.start < shape.birth x → shape.birth x ≤ length new → IsSome (layer_at shape layer (shape.position x))
    layer-has layer old new leads x late born =
        let p = shape.position x in
        let high = stands_past shape births family x layer.tree.start late in
        ap (λ t. is_some (if t then slice_get layer.tree.nodes (p - shape.size layer.tree.start) else found_at layer.replaced p)) (past x layer.tree.start late)
        ∙ ap is_some (sym (node_at-past shape layer.tree p high))
        ∙ given-some bytes (node_at shape layer.tree p) (digest_of hash shape new x) (leads.stands.nodes x late (omega (arith, born, leads.stands.count)))

    -- layers have the nodes that came since a list through which they lead
    layers-have : (low : ℕ) (layers : List (Layer D)) (new : List Bytes) (lists : List (List Bytes)) → IsHistory shape bytes hash layers (new ∷ lists) → Contains (stops (length new) layers) low
        → (x : Node) → low < shape.birth x → shape.birth x ≤ length new → is_some (layers_at shape layers (shape.position x)) ≡ true
    layers-have low [] new lists history found x late born = absurd (only found)
      where
        only : Contains (length new ∷ []) low → ⊥
        only (zero, lt, is) = omega (arith, is, late, born)
        only (suc k, lt, is) = omega (arith, lt)
    layers-have low (layer ∷ older) new [] history found x late born = absurd history
    layers-have low (layer ∷ older) new (old ∷ lists) history found x late born =
        either-some (layer_at shape layer p) (layers_at shape older p)
        ∙ ⊎_elim own (others (λ early. layers-have low older old lists history.1 there x late early)) (cases_lt layer.tree.start (shape.birth x))
      where
        p : ℕ
        p = shape.position x

        own : layer.tree.start < shape.birth x → (is_some (layer_at shape layer p) || is_some (layers_at shape older p)) ≡ true
        own after = ap (λ b. b || is_some (layers_at shape older p)) (layer-has layer old new history.0 x after born)

        there : Contains (stops (length old) older) low
        there = subst (λ n. Contains (stops n older) low) history.0.start (rest found)
          where
            rest : Contains (length new ∷ stops layer.tree.start older) low → Contains (stops layer.tree.start older) low
            rest (zero, lt, is) = absurd (omega (arith, is, late, born))
            rest (suc k, lt, is) = (k, omega (arith, lt), is)

        others : (shape.birth x ≤ length old → is_some (layers_at shape older p) ≡ true) → shape.birth x ≤ layer.tree.start → (is_some (layer_at shape layer p) || is_some (layers_at shape older p)) ≡ true
        others rest early = ap (λ b. is_some (layer_at shape layer p) || b) (rest (omega (arith, early, history.0.start))) ∙ or-true (is_some (layer_at shape layer p))

    -- and none that came before, if they add nodes alone
    layers-lack : (low : ℕ) (layers : List (Layer D)) (new : List Bytes) (lists : List (List Bytes)) → IsHistory shape bytes hash layers (new ∷ lists) → All (IsAdding shape) layers → All (λ n. low ≤ n) (stops (length new) layers)
        → (x : Node) → shape.birth x ≤ low → is_some (layers_at shape layers (shape.position x)) ≡ false
    layers-lack low [] new lists history adding above x early = refl
    layers-lack low (layer ∷ older) new [] history adding above x early = absurd history
    layers-lack low (layer ∷ older) new (old ∷ lists) history adding above x early =
        either-some (layer_at shape layer p) (layers_at shape older p)
        ∙ ap₂ (λ a b. a || b) (lacks (is_some (layer_at shape layer p)) refl)
        (layers-lack low older old lists history.1 (All-tail (IsAdding shape) layer older adding) (subst (λ n. All (λ m. low ≤ m) (stops n older)) history.0.start rest) x early)
      where
        p : ℕ
        p = shape.position x

        rest : All (λ n. low ≤ n) (stops layer.tree.start older)
        rest = All-tail (λ n. low ≤ n) (length new) (stops layer.tree.start older) above

        first : low ≤ layer.tree.start
        first = head older rest
          where
            head : (older : List (Layer D)) → All (λ n. low ≤ n) (stops layer.tree.start older) → low ≤ layer.tree.start
            head [] all = All-head (λ n. low ≤ n) layer.tree.start [] all
            head (l ∷ ls) all = All-head (λ n. low ≤ n) layer.tree.start (stops l.tree.start ls) all

        lacks : (t : Bool) → is_some (layer_at shape layer p) ≡ t → is_some (layer_at shape layer p) ≡ false
        lacks false is = is
        lacks true is =
            let up : low ≤ length new = All-head (λ n. low ≤ n) (length new) (stops layer.tree.start older) above in
            let after = All-head (IsAdding shape) layer older adding x (omega (arith, up, early, history.0.stands.count)) is in
            absurd (omega (arith, after, first, early))

    -- what a batch's layers hold over a log's tree, with the log's own
    pub batch-held : (low : ℕ) (tree : KeptTree D) (kept : Kept D) (own leaves : List Bytes) (lists : List (List Bytes)) → IsHistory shape bytes hash tree.layers (own ∷ lists) → All (IsAdding shape) tree.layers
        → Contains (stops (length own) tree.layers) low → All (λ n. low ≤ n) (stops (length own) tree.layers) → Stands shape bytes hash kept leaves → low ≤ length leaves
        → (x : Node) → shape.birth x ≤ length own → is_some (held_at shape tree kept (shape.position x)) ≡ (is_held shape kept.start (length leaves) (shape.position x) || is_between shape low (length own) (shape.position x))
    batch-held low tree kept own leaves lists history adding found above stands within x born =
        either-some (layers_at shape tree.layers p) (node_at shape kept p) ∙ ⊎_elim late early (cases_lt low (shape.birth x))
      where
        p : ℕ
        p = shape.position x

        Both : Bool
        Both = is_held shape kept.start (length leaves) p || is_between shape low (length own) p

        late : low < shape.birth x → (is_some (layers_at shape tree.layers p) || is_some (node_at shape kept p)) ≡ Both
        late after =
            ap (λ b. b || is_some (node_at shape kept p)) (layers-have low tree.layers own lists history found x after born)
            ∙ sym (ap (λ b. is_held shape kept.start (length leaves) p || b) (between x low (length own) after born) ∙ or-true (is_held shape kept.start (length leaves) p))

        early : shape.birth x ≤ low → (is_some (layers_at shape tree.layers p) || is_some (node_at shape kept p)) ≡ Both
        early first =
            ap (λ b. b || is_some (node_at shape kept p)) (layers-lack low tree.layers own lists history adding above x first)
            ∙ (log-held kept leaves stands x (omega (arith, first, within))
            ∙ sym (ap (λ b. is_held shape kept.start (length leaves) p || b) (not-between x low (length own) first) ∙ or-false (is_held shape kept.start (length leaves) p)))

-- two tests that agree at the places of nodes find the same first one
find-same : {D : Type 0} (shape : Shape) (at : ℕ → Option D) (holds : ℕ → Bool) (n : ℕ) → ((x : Node) → shape.birth x ≤ n → is_some (at (shape.position x)) ≡ holds (shape.position x))
    → (xs : List Node) → Each (λ x. shape.birth x ≤ n) xs → first_lacked at (map shape.position xs) ≡ find (λ p. not (holds p)) (map shape.position xs)
find-same shape at holds n same [] born = refl
find-same shape at holds n same (x ∷ xs) born =
    let p = shape.position x in
    let test : is_none (at p) ≡ not (holds p) = none-some (at p) ∙ ap not (same x born.0) in
    ap₂ (λ t rest. cond t (Some p) rest) test (find-same shape at holds n same xs born.1)

-- what names the first lacked position refuses for it
lacked-due : {D : Type 0} (at : ℕ → Option D) (holds : ℕ → Bool) (ps : List ℕ) (e : Error) → first_lacked at ps ≡ find (λ p. not (holds p)) ps → IsLacked at ps e → IsDue e (first_pruned holds ps)
lacked-due at holds ps e same lacked = ⊎_elim
    (λ (memory : e ≡ errors.Memory). subst (λ x. IsDue x (first_pruned holds ps)) (sym memory) tt)
    (λ (lack : (p : ℕ) × (first_lacked at ps ≡ Some p) × (e ≡ errors.Merkle (refused.ElementPruned p))).
    subst (λ x. IsDue x (first_pruned holds ps)) (sym lack.2) (ap (option_map (λ p. Merkle (ElementPruned p))) (sym same ∙ lack.1)))
    lacked

-- and of positions after others, none of which is lacked
later-lacked : {D : Type 0} (at : ℕ → Option D) (xs ys : List ℕ) (e : Error) → first_lacked at xs ≡ None → IsLacked at ys e → IsLacked at (xs ++ ys) e
later-lacked at xs ys e none lacked = ⊎_elim
    (λ (memory : e ≡ errors.Memory). inl memory)
    (λ (lack : (p : ℕ) × (first_lacked at ys ≡ Some p) × (e ≡ errors.Merkle (refused.ElementPruned p))). inr (lack.0, lacked_later at xs ys lack.0 none lack.1, lack.2))
    lacked

first-of : {D : Type 0} (at : ℕ → Option D) (xs ys : List ℕ) (e : Error) → IsLacked at xs e → IsLacked at (xs ++ ys) e
first-of at xs ys e lacked = ⊎_elim
    (λ (memory : e ≡ errors.Memory). inl memory)
    (λ (lack : (p : ℕ) × (first_lacked at xs ≡ Some p) × (e ≡ errors.Merkle (refused.ElementPruned p))). inr (lack.0, lacked_first at xs ys lack.0 lack.1, lack.2))
    lacked

none-pruned : (holds : ℕ → Bool) (ps : List ℕ) → find (λ p. not (holds p)) ps ≡ None → first_pruned holds ps ≡ None
none-pruned holds ps none = ap (option_map (λ p. Merkle (ElementPruned p))) none

module _ {D : Type 0} (bytes : D → Bytes) (hash : Bytes → Bytes) (shape : Shape) (births : Births) (family : IsFamily shape births) (peaked : HasPeaks shape) {C : Type 0} (members : store.Ghosts C) (form : Form) (chunk : ℕ) (index_key : Bytes → ℕ) (db : Database C D) (list : List Operation) (is : IsDatabase members (record { hashing = hashing_with bytes hash shape form; chunk = chunk; index_key = index_key }) db list) where
  abbrev leaves : List Bytes
  leaves = digests_from hash shape 0 (map (spelling form) list)

  count : length leaves ≡ length list
  count = length-digests_from hash shape 0 (map (spelling form) list) ∙ length-map list (spelling form)

  begins : db.log.tree.start ≡ members.start db.log.store
  begins = is.lent.logged.start

  size : db.commitment.size ≡ length list
  size = ap (λ k. k.size) is.commitment

  -- the peaks over the list's first operations that the database holds are those that it is not refused for
  module _ (few : db.commitment.size ≤ 2 ^ 62) (n : ℕ) where
    abbrev holds : ℕ → Bool
    holds = is_held shape (members.start db.log.store) (length list)

    node-held : (x : Node) → shape.birth x ≤ length list → is_some (node_at shape db.log.tree (shape.position x)) ≡ holds (shape.position x)
    node-held x born =
        log-held shape births family bytes hash db.log.tree leaves is.lent.logged.tree x (omega (arith, born, count))
        ∙ ap₂ (λ s m. is_held shape s m (shape.position x)) begins count

    peaks-same : n ≤ length list → first_lacked (node_at shape db.log.tree) (peak_positions shape n) ≡ find (λ p. not (holds p)) (peak_positions shape n)
    peaks-same within =
        find-same shape (node_at shape db.log.tree) holds n (λ x born. node-held x (omega (arith, born, within))) (peaks shape n)
        (each_of (λ x. shape.birth x ≤ n) (peaks shape n) (peaked.born n (omega (arith, few, size, within))))

    inside : n ≤ length list → pins_refusal list n ≡ None
    inside within = ap (λ t. if t then Some (Merkle (RangeOutOfBounds n)) else None) (le-ltb (length list) n within)

    outside : length list < n → pins_refusal list n ≡ Some (Merkle (RangeOutOfBounds n))
    outside past = ap (λ t. if t then Some (Merkle (RangeOutOfBounds n)) else None) (lt-ltb (length list) n past)

    pub pins-offered : pins_refusal list n ≡ None → first_lacked (node_at shape db.log.tree) (peak_positions shape n) ≡ None → pins_lacked shape (members.start db.log.store) list n ≡ None
    pins-offered offered held = ⊎_elim
        (λ (past : length list < n). absurd (some-none (sym (outside past) ∙ offered)))
        (λ (within : n ≤ length list). ap₂ option_or offered (none-pruned holds (peak_positions shape n) (sym (peaks-same within) ∙ held)))
        (cases_lt (length list) n)
      where
        some-none : Some (Merkle (RangeOutOfBounds n)) ≡ None → ⊥
        some-none e = cc

    pub pins-due : {X : Type 0} (r : Result X Error) → (db.commitment.size < n → r ≡ Err (errors.Merkle (refused.RangeOutOfBounds n)))
        → (n ≤ db.commitment.size → IfErr r (IsLacked (node_at shape db.log.tree) (peak_positions shape n))) → IfErr r (λ e. IsDue e (pins_lacked shape (members.start db.log.store) list n))
    pins-due r range cause = ⊎_elim
        (λ (past : length list < n). subst (λ r. IfErr r (λ e. IsDue e (pins_lacked shape (members.start db.log.store) list n))) (sym (range (omega (arith, past, size))))
        (ap (λ o. option_or o (first_pruned holds (peak_positions shape n))) (outside past)))
        (λ (within : n ≤ length list). err-then r (cause (omega (arith, within, size))) (λ e lacked.
        subst (λ due. IsDue e due) (sym (ap (λ o. option_or o (first_pruned holds (peak_positions shape n))) (inside within)))
        (lacked-due (node_at shape db.log.tree) holds (peak_positions shape n) e (peaks-same within) lacked)))
        (cases_lt (length list) n)

  -- what the proof of a batch lacks that knows the database's list
  module _ (made : Made D) (chain : Chain) (tip : List Operation) (batch : IsMade (hashing_with bytes hash shape form) made chain tip) (agreed : AreAgreed made) (known : knows made.bounds db.commitment ≡ true) where
    abbrev at : ℕ → Option D
    at = held_at shape made.tree db.log.tree

    abbrev has : ℕ → Bool
    has = λ p. is_held shape (members.start db.log.store) (length list) p || is_between shape (length (boundary_list chain)) (length tip) p

    abbrev own : List Bytes
    own = leaves_of hash shape (map (spelling form) tip)

    long : length own ≡ length tip
    long = length-digests_from hash shape 0 (map (spelling form) tip) ∙ length-map tip (spelling form)

    ends : made.tree.leaves ≡ length own
    ends = batch.tree.leaves ∙ sym (length-digests_from hash shape 0 (map (spelling form) tip))

    abbrev low : ℕ
    low = made.bounds.db.size

    bounded : low ≡ length (boundary_list chain)
    bounded = ap (λ k. k.size) batch.bounds.db

    reached : Contains (stops made.tree.leaves made.tree.layers) low
    reached =
        let ended : map (λ (k : Commitment). k.size) (made.bounds.ancestors ++ made.bounds.db ∷ []) ≡ map (λ (k : Commitment). k.size) made.bounds.ancestors ++ low ∷ [] = map-append (λ (k : Commitment). k.size) made.bounds.ancestors (made.bounds.db ∷ []) in
        All-contains (Contains (stops made.tree.leaves made.tree.layers)) (made.bounds.tip.size ∷ bases made.layers) low agreed.reached
        (subst (λ ns. Contains (made.bounds.tip.size ∷ ns) low) (sym (agreed.starts ∙ ended)) (Contains-push (made.bounds.tip.size ∷ map (λ (k : Commitment). k.size) made.bounds.ancestors) low))

    within : low ≤ length leaves
    within = omega (arith, count, size, All-contains (λ n. low ≤ n) (stops made.tree.leaves made.tree.layers) db.commitment.size agreed.above (known-reached made agreed db.commitment known))

    made-held : (x : Node) → shape.birth x ≤ length tip → is_some (at (shape.position x)) ≡ has (shape.position x)
    made-held x born =
        let p = shape.position x in
        batch-held shape births family bytes hash low made.tree db.log.tree own leaves batch.tree.lists batch.tree.history batch.tree.adding
        (subst (λ n. Contains (stops n made.tree.layers) low) ends reached) (subst (λ n. All (λ m. low ≤ m) (stops n made.tree.layers)) ends agreed.above) is.lent.logged.tree within x (omega (arith, born, long))
        ∙ ap₂ (λ s m. is_held shape s m p || is_between shape low (length own) p) begins count
        ∙ ap₂ (λ l n. is_held shape (members.start db.log.store) (length list) p || is_between shape l n p) bounded long

    abbrev n : ℕ
    n = length tip

    abbrev base : ℕ
    base = length chain.base

    abbrev needed : List ℕ
    needed = needed_positions shape n base n

    tips : made.bounds.tip.size ≡ n
    tips = ap (λ k. k.size) batch.bounds.tip

    from : made.bounds.base.size ≡ base
    from = ap (λ k. k.size) batch.bounds.base

    few : n ≤ 2 ^ 62
    few = omega (arith, agreed.few, tips)

    shorter : base ≤ n
    shorter = omega (arith, start-within made agreed, agreed.leaves, from, tips)

    same : first_lacked at (needed ++ peak_positions shape base) ≡ find (λ p. not (has p)) (needed ++ peak_positions shape base)
    same =
        find-append (λ p. is_none (at p)) needed (peak_positions shape base)
        ∙ ap₂ option_or
        (find-same shape at has n made-held (needed_of shape n base n)
        (each_row (λ x. shape.birth x ≤ n) (λ p. needs base n p.height p.index) (λ p. shape.birth p ≤ n) (λ p. needed_born shape births family n base n p.height p.index) (peaks shape n)
        (each_of (λ p. shape.birth p ≤ n) (peaks shape n) (peaked.born n few))))
        (find-same shape at has base (λ x born. made-held x (omega (arith, born, shorter))) (peaks shape base)
        (each_of (λ p. shape.birth p ≤ base) (peaks shape base) (peaked.born base (omega (arith, few, shorter)))))
        ∙ sym (find-append (λ p. not (has p)) needed (peak_positions shape base))

    listed : needed_positions shape made.bounds.tip.size made.bounds.base.size made.bounds.tip.size ≡ needed
    listed = ap₂ (λ t b. needed_positions shape t b t) tips from

    over : peak_positions shape made.bounds.base.size ≡ peak_positions shape base
    over = ap (peak_positions shape) from

    none : first_lacked at (needed_positions shape made.bounds.tip.size made.bounds.base.size made.bounds.tip.size) ≡ None → first_lacked at needed ≡ None
    none held = subst (λ ps. first_lacked at ps ≡ None) listed held

    pub proof-offered : first_lacked at (needed_positions shape made.bounds.tip.size made.bounds.base.size made.bounds.tip.size) ≡ None → first_lacked at (peak_positions shape made.bounds.base.size) ≡ None
        → proof_lacked shape (members.start db.log.store) list chain tip ≡ None
    proof-offered held pinned =
        none-pruned has (needed ++ peak_positions shape base)
        (sym same ∙ find-append (λ p. is_none (at p)) needed (peak_positions shape base) ∙ ap₂ option_or (none held) (subst (λ ps. first_lacked at ps ≡ None) over pinned))

    pub proof-due : (e : Error) → IsLacked at (needed_positions shape made.bounds.tip.size made.bounds.base.size made.bounds.tip.size) e → IsDue e (proof_lacked shape (members.start db.log.store) list chain tip)
    proof-due e lacked = lacked-due at has (needed ++ peak_positions shape base) e same (first-of at needed (peak_positions shape base) e (subst (λ ps. IsLacked at ps e) listed lacked))

    pub peaks-due : (e : Error) → first_lacked at (needed_positions shape made.bounds.tip.size made.bounds.base.size made.bounds.tip.size) ≡ None → IsLacked at (peak_positions shape made.bounds.base.size) e
        → IsDue e (proof_lacked shape (members.start db.log.store) list chain tip)
    peaks-due e held lacked = lacked-due at has (needed ++ peak_positions shape base) e same (later-lacked at needed (peak_positions shape base) e (none held) (subst (λ ps. IsLacked at ps e) over lacked))
