-- What a step makes of a list, and the merkleized batch of a plan on its parent.
use Rattle.std.proofs.Common.{◌≡◌, ◌≢◌, ◌∙◌, le_refl, ℕ, zero, suc, ◌+◌, ◌-◌, ◌≤◌, ◌<◌, ◌^◌, arith, ap, ap₂, sym, subst, refl, Bool, true, false, List, [], ◌∷◌, ◌++◌, length, take, drop, map, inl, inr, ⊎_elim, Option, Some, None, option_map, option_and_then}
use Rattle.std.specs.Prelude.{All, Contains, IfSome, get_or, is_some, nat_le, nat_lt, filter_map, if◌then◌else◌, slice_get, ◌==◌}
use Rattle.std.specs.List.{cons_option, AllByRecursion as Each}
use Rattle.std.proofs.lemmas.Bool.Decides.{leb_tells}
use Rattle.std.proofs.lemmas.List.{take-map, take-append-le, take-append-drop, length-append, length-drop, length-map, map-append}
use Rattle.std.proofs.lemmas.List.Elements.{All-cons, All-nil, All-head, All-tail, All-contains, All-take, All-drop, All-append, All-weaker, All-from_recursion, recursion_from_All, Contains-append_right}
use Rattle.qm_model.specs.Forms.{Form, IsOf, spelling}
use Rattle.qm_model.specs.Operations.{Bytes, Operation, update, delete, commit}
use Rattle.qm_model.specs.Batches.{Commitment, Chain, Kept, oldest_base}
use Rattle.qm_model.specs.Live.{Live, live, live_of, live_keys, floor, floor_after, last_metadata, metadata_after}
use Rattle.qm_model.specs.Ordered.{IsRing, linked, rewritten, put_of, deleted_keys, updated_keys, created_keys, relinked_keys, evicted_keys, broken_keys, ordered_writes, ordered_moves}
use Rattle.qm_model.specs.Step.{Kind, IsGood, ordered, unordered, step, walk_after}
use Rattle.qm_model.specs.Keys.{without}
use Rattle.qm_model.specs.Walk.{Rules, Walked}
use Rattle.qm_model.specs.Writes.{Write, write_of, last_writes, operation_of, made_inactive, rewrite_of, create_of, unordered_writes}
use Rattle.qm_model.specs.Refusals.{max_spelling, too_long}
use Rattle.qm_model.proofs.OrderedLists.{Each-append}
use Rattle.qm_model.proofs.Proving.{less_tells}
use Rattle.qm_model.proofs.OrderedSteps.{ordered-good, ordered-within, step-ring}
use Rattle.qm_model.proofs.Steps.{step-good, step-within}
use Rattle.qm_model.proofs.Walks.{Walks, walks, walks_within}
use Rattle.qm_base.specs.declared.error.Error.{Error}
use Rattle.qm_base.specs.declared.error.Error.TheVariants as errors
use Rattle.qm_base.specs.declared.error.JournalError.TheVariants as journal
use Rattle.qm_merkle.specs.Batches.{stops, stops_since, lists_since}
use Rattle.qm_merkle.proofs.Since.{stop-since, list-since}
use Rattle.qm_store.specs.KeptTrees.{KeptTree, IsKeptTree}
use Rattle.qm_store.proofs.Kept.{kept-fewer}
use Rattle.qm_chain.specs.Bounds.{Bounds}
use Rattle.qm_step.specs.Kinds.{HasRing, kind_of}
use Rattle.qm_step.specs.Layers.{Layer, LeadThrough}
use Rattle.qm_step.specs.Views.{Plan, IsPlan, stepped}
use Rattle.qm_any.specs.Databases.{Made, AreAgreed, AreLinked, IsMade, IsTree, bases, bases_of, child_boundary, child_made, child_tips, kept_by}
use Rattle.qm_any.proofs.Agreed.{child-starts, child-bases-above, joined-first}
use Rattle.qm_any.specs.Layouts.{Hashing, list_root, spellings}
use Rattle.qm_any.specs.Reasons.{IsSizeError}
use Rattle.qm_any.specs.Tips.{own_spellings, IsLow, IsTooLong}
use Rattle.qm_any.proofs.Known.{contains-mapped, child-linked, child-bases, child-boundary, child-tips}

-- what a list has is in it with one more element before it
contains-behind : {X : Type 0} (y x : X) (xs : List X) → Contains xs x → Contains (y ∷ xs) x
contains-behind y x xs has = Contains-append_right (y ∷ []) xs x has

-- the first of a list is in it
contains-first : {X : Type 0} (x : X) (xs : List X) → Contains (x ∷ xs) x
contains-first x xs = (0, omega arith, refl)

-- what the first elements of a list have, the list has
pub contains-whole : {X : Type 0} (n : ℕ) (xs : List X) (x : X) → Contains (take n xs) x → Contains xs x
contains-whole zero xs x has = absurd (omega (arith, has.1))
contains-whole (suc n) [] x has = absurd (omega (arith, has.1))
contains-whole (suc n) (y ∷ xs) x (zero, within, is) = (0, omega arith, is)
contains-whole (suc n) (y ∷ xs) x (suc k, within, is) = contains-behind y x xs (contains-whole n xs x (k, omega arith, is))

-- the newest steps lead to the same list
leads-first : (keep : ℕ) (layers : List Layer) (list : List Operation) (older : List (List Operation)) → LeadThrough layers list older → LeadThrough (take keep layers) list (take keep older)
leads-first zero layers list older leads = tt
leads-first (suc keep) [] list [] leads = tt
leads-first (suc keep) [] list (base ∷ older) leads = absurd leads
leads-first (suc keep) (layer ∷ layers) list [] leads = absurd leads
leads-first (suc keep) (layer ∷ layers) list (base ∷ older) leads = (leads.0, leads-first keep layers base older leads.1)

-- no list that steps lead through is shorter than the one from which the oldest starts
leads-above : (layers : List Layer) (base : List Operation) (kept : List Kept) → LeadThrough layers base (map (λ (k : Kept). k.base) kept)
    → All (λ (l : List Operation). length (oldest_base base kept) ≤ length l) (base ∷ map (λ (k : Kept). k.base) kept)
leads-above layers base [] leads = All-cons (λ (l : List Operation). length base ≤ length l) base [] (omega arith) (All-nil (λ (l : List Operation). length base ≤ length l))
leads-above [] base (k ∷ ks) leads = absurd leads
leads-above (layer ∷ layers) base (k ∷ ks) leads =
    let high : List Operation → Type 0 = λ l. length (oldest_base k.base ks) ≤ length l in
    let rest = leads-above layers k.base ks leads.1 in
    let first = All-head high k.base (map (λ (k : Kept). k.base) ks) rest in
    All-cons high base (map (λ (k : Kept). k.base) (k ∷ ks)) (omega (arith, first, ap length leads.0.list, length-append k.base layer.operations)) rest

-- what holds of the image of each element
all-mapped : {X Y : Type 0} (f : X → Y) (P : Y → Type 0) (xs : List X) → ((x : X) → Contains xs x → P (f x)) → All P (map f xs)
all-mapped f P [] holds = All-nil P
all-mapped f P (x ∷ xs) holds = All-cons P (f x) (map f xs) (holds x (contains-first x xs)) (all-mapped f P xs (λ y has. holds y (contains-behind x y xs has)))

module _ {D : Type 0} (stands : Commitment) (low count : ℕ) (meta : Option Bytes) (evicted : List (Bytes × Bytes)) where
  -- a batch that is applied where it stands
  abbrev rest_with : List Commitment → List Layer → KeptTree D → Made D
  rest_with ancestors layers tree = record {
    bounds = record { base = stands; db = stands; tip = stands; ancestors = ancestors; inactivity_floor = low };
    layers = layers;
    tree = tree;
    live = count;
    metadata = meta;
    evicted = evicted;
  }

  -- the numbers of a database at rest agree
  pub rest-agreed : (ancestors : List Commitment) (layers : List Layer) (tree : KeptTree D) → ancestors ≡ [] → layers ≡ record { base = stands.size; operations = []; changes = [] } ∷ []
      → tree ≡ record { leaves = stands.size; layers = [] } → stands.size ≤ 2 ^ 62 → count ≤ stands.size → AreAgreed (rest_with ancestors layers tree)
  rest-agreed ancestors layers tree none one bare few within =
      let at : List ℕ = stands.size ∷ [] in
      let stop = contains-first stands.size [] in
      subst (λ ks. AreAgreed (rest_with ks layers tree)) (sym none) (subst (λ ls. AreAgreed (rest_with [] ls tree)) (sym one) (subst (λ t. AreAgreed (rest_with [] (record { base = stands.size; operations = []; changes = [] } ∷ []) t)) (sym bare) (record {
        few = few;
        live = within;
        own = refl;
        starts = refl;
        joined = (omega arith, tt);
        leaves = refl;
        reached = All-cons (Contains at) stands.size at stop (All-cons (Contains at) stands.size [] stop (All-nil (Contains at)));
        above = All-cons (λ n. stands.size ≤ n) stands.size [] (omega arith) (All-nil (λ n. stands.size ≤ n));
      })))

-- of stops, those at so many leaves or more are no fewer
since-above : (low : ℕ) (ns : List ℕ) → All (λ n. low ≤ n) (stops_since low ns)
since-above low [] = All-nil (λ n. low ≤ n)
since-above low (n ∷ ns) = ⊎_elim
    (λ (high : (nat_le low n ≡ true) × (low ≤ n)).
    subst (All (λ n. low ≤ n)) (sym (ap (λ b. if b then n ∷ stops_since low ns else stops_since low ns) high.0)) (All-cons (λ n. low ≤ n) n (stops_since low ns) high.1 (since-above low ns)))
    (λ (less : (nat_le low n ≡ false) × (n < low)).
    subst (All (λ n. low ≤ n)) (sym (ap (λ b. if b then n ∷ stops_since low ns else stops_since low ns) less.0)) (since-above low ns))
    (leb_tells low n)

-- those among the stops, and not below, are among these
all-since : (low : ℕ) (older ns : List ℕ) → All (Contains older) ns → All (λ n. low ≤ n) ns → All (Contains (stops_since low older)) ns
all-since low older [] among above = All-nil (Contains (stops_since low older))
all-since low older (n ∷ ns) among above =
    All-cons (Contains (stops_since low older)) n ns
    (stop-since low older n (All-head (Contains older) n ns among) (All-head (λ n. low ≤ n) n ns above))
    (all-since low older ns (All-tail (Contains older) n ns among) (All-tail (λ n. low ≤ n) n ns above))

module _ {D : Type 0} (parent : Made D) (keep : ℕ) (few : keep ≤ suc (length parent.bounds.ancestors)) (agreed : AreAgreed parent) where
  -- the numbers of a child agree
  pub child-agreed : (plan : Plan) (tree : KeptTree D) (root : Bytes) (meta : Option Bytes) → parent.bounds.tip.size + length plan.operations ≡ tree.leaves → tree.leaves ≤ 2 ^ 62 → plan.live ≤ tree.leaves
      → stops tree.leaves tree.layers ≡ tree.leaves ∷ stops_since (child_boundary keep parent.bounds).size (stops parent.tree.leaves parent.tree.layers) → AreAgreed (child_made parent keep plan tree root meta)
  child-agreed plan tree root meta count room live through =
      let low = (child_boundary keep parent.bounds).size in
      let older = stops parent.tree.leaves parent.tree.layers in
      let since = stops_since low older in
      let sizes = parent.bounds.tip.size ∷ bases (take keep parent.layers) in
      let reached = All-take (Contains older) (suc keep) (parent.bounds.tip.size ∷ bases parent.layers) agreed.reached in
      let kept = subst (λ ns. All (Contains older) (parent.bounds.tip.size ∷ ns)) (take-map (λ (l : Layer). l.base) keep parent.layers) reached in
      let high = child-bases-above parent agreed keep few in
      let last = All-head (λ n. low ≤ n) parent.bounds.tip.size (bases (take keep parent.layers)) high in
      record {
        few = room;
        live = live;
        own = refl;
        starts = child-starts parent agreed keep few ∙ sym (map-append (λ (k : Commitment). k.size) (child_tips keep parent.bounds) (child_boundary keep parent.bounds ∷ []));
        joined = (count, joined-first keep parent.bounds.tip.size parent.layers agreed.joined);
        leaves = refl;
        reached = subst (λ ns. All (Contains ns) (tree.leaves ∷ sizes)) (sym through)
            (All-cons (Contains (tree.leaves ∷ since)) tree.leaves sizes (contains-first tree.leaves since)
            (All-weaker (Contains since) (Contains (tree.leaves ∷ since)) (λ n has. contains-behind tree.leaves n since has) sizes (all-since low older sizes kept high)));
        above = subst (All (λ n. low ≤ n)) (sym through) (All-cons (λ n. low ≤ n) tree.leaves since (omega (arith, last, count)) (since-above low older));
      }

module _ {D : Type 0} (root : Bytes) (meta : Option Bytes) where
  -- a merkleized batch of these parts
  abbrev sealed_with : Commitment → Commitment → ℕ → List Commitment → ℕ → List Layer → KeptTree D → ℕ → List (Bytes × Bytes) → Made D
  sealed_with base db size tips low layers tree count evicted = record {
    bounds = record { base = base; db = db; tip = record { size = size; root = root }; ancestors = tips; inactivity_floor = low };
    layers = layers;
    tree = tree;
    live = count;
    metadata = meta;
    evicted = evicted;
  }

  -- the batch of a plan on its parent, by its parts
  pub sealed-child : (parent : Made D) (keep : ℕ) (plan : Plan) (tree : KeptTree D) (base db : Commitment) (size low count : ℕ) (tips : List Commitment) (layers : List Layer) (kept : KeptTree D) (evicted : List (Bytes × Bytes))
      → base ≡ parent.bounds.tip → db ≡ child_boundary keep parent.bounds → size ≡ tree.leaves → tips ≡ child_tips keep parent.bounds → low ≡ plan.floor
      → layers ≡ record { base = parent.bounds.tip.size; operations = plan.operations; changes = plan.changes } ∷ take keep parent.layers → kept ≡ tree → count ≡ plan.live → evicted ≡ plan.evicted
      → child_made parent keep plan tree root meta ≡ sealed_with base db size tips low layers kept count evicted
  sealed-child parent keep plan tree base db size low count tips layers kept evicted below at end on floor steps same live told =
      let own : List Layer = record { base = parent.bounds.tip.size; operations = plan.operations; changes = plan.changes } ∷ take keep parent.layers in
      sym (ap (λ x. sealed_with x db size tips low layers kept count evicted) below
      ∙ ap (λ x. sealed_with parent.bounds.tip x size tips low layers kept count evicted) at
      ∙ ap (λ x. sealed_with parent.bounds.tip (child_boundary keep parent.bounds) x tips low layers kept count evicted) end
      ∙ ap (λ x. sealed_with parent.bounds.tip (child_boundary keep parent.bounds) tree.leaves x low layers kept count evicted) on
      ∙ ap (λ x. sealed_with parent.bounds.tip (child_boundary keep parent.bounds) tree.leaves (child_tips keep parent.bounds) x layers kept count evicted) floor
      ∙ ap (λ x. sealed_with parent.bounds.tip (child_boundary keep parent.bounds) tree.leaves (child_tips keep parent.bounds) plan.floor x kept count evicted) steps
      ∙ ap (λ x. sealed_with parent.bounds.tip (child_boundary keep parent.bounds) tree.leaves (child_tips keep parent.bounds) plan.floor own x count evicted) same
      ∙ ap (λ x. sealed_with parent.bounds.tip (child_boundary keep parent.bounds) tree.leaves (child_tips keep parent.bounds) plan.floor own tree x evicted) live
      ∙ ap (sealed_with parent.bounds.tip (child_boundary keep parent.bounds) tree.leaves (child_tips keep parent.bounds) plan.floor own tree plan.live) told)

-- the operations of a plan stand after its base list
pub plan-behind : (plan : Plan) (base tip : List Operation) {evicted : List (Bytes × Bytes)} → IsPlan plan base tip evicted → tip ≡ base ++ plan.operations
plan-behind plan base tip is = sym (take-append-drop (length base) tip) ∙ ap₂ (λ front back. front ++ back) is.changes.begins (sym is.operations)

-- and so does their number
pub plan-length : (plan : Plan) (base tip : List Operation) {evicted : List (Bytes × Bytes)} → IsPlan plan base tip evicted → length base + length plan.operations ≡ length tip
plan-length plan base tip is = sym (length-append base plan.operations) ∙ ap length (sym (plan-behind plan base tip is))

-- none of the lists from which a child's steps start has a floor past that of its parent's list
pub child-rises : {D : Type 0} {hashing : Hashing D} (parent : Made D) (keep : ℕ) (chain above : Chain) → IsMade hashing parent above chain.base → chain.kept ≡ kept_by keep above chain.base
    → All (λ (l : List Operation). floor l ≤ floor chain.base) (bases_of chain)
child-rises parent keep chain above made kept =
    let low : List Operation → Type 0 = λ l. floor l ≤ floor chain.base in
    All-cons low chain.base (map (λ (k : Kept). k.base) chain.kept) (le_refl (floor chain.base))
    (subst (All low) (sym (ap (map (λ (k : Kept). k.base)) kept ∙ child-bases keep above chain.base)) (All-take low keep (bases_of above) made.rises))

module _ {D : Type 0} {hashing : Hashing D} (parent : Made D) (keep : ℕ) (chain above : Chain)
    (few : keep ≤ suc (length parent.bounds.ancestors)) (made : IsMade hashing parent above chain.base) (kept : chain.kept ≡ kept_by keep above chain.base) where
  -- a child's steps, after its own, start from the first lists from which the parent's start
  child-older : map (λ (k : Kept). k.base) chain.kept ≡ take keep (bases_of above)
  child-older = ap (map (λ (k : Kept). k.base)) kept ∙ child-bases keep above chain.base

  -- the list on which a child can be made is its parent's or one from which the parent's steps start
  pub child-among : (list : List Operation) → Contains (bases_of chain) list → Contains (chain.base ∷ bases_of above) list
  child-among list has = contains-whole (suc keep) (chain.base ∷ bases_of above) list (subst (λ ls. Contains (chain.base ∷ ls) list) child-older has)

  -- none of the lists from which a child's steps start is shorter than its boundary's
  bases-above : All (λ (l : List Operation). (child_boundary keep parent.bounds).size ≤ length l) (bases_of chain)
  bases-above =
      let size : (child_boundary keep parent.bounds).size ≡ length (oldest_base chain.base chain.kept) = ap (λ c. c.size) (child-boundary parent keep chain above few made kept) in
      let leads : LeadThrough (take keep parent.layers) chain.base (map (λ (k : Kept). k.base) chain.kept) =
      subst (LeadThrough (take keep parent.layers) chain.base) (sym child-older) (leads-first keep parent.layers chain.base (bases_of above) made.steps) in
      subst (λ n. All (λ (l : List Operation). n ≤ length l) (bases_of chain)) (sym size) (leads-above (take keep parent.layers) chain.base chain.kept leads)

  -- the tree that leads through the lists of the parent, from the child's boundary on, leads through the child's
  child-tree : (tree : KeptTree D) (tip : List Operation)
      → IsKeptTree hashing.bytes hashing.hash hashing.shape tree (spellings hashing tip) (lists_since (child_boundary keep parent.bounds).size (map (spellings hashing) (chain.base ∷ bases_of above))) → IsTree hashing tree tip (bases_of chain)
  child-tree tree tip grown =
      let low = (child_boundary keep parent.bounds).size in
      let all = map (spellings hashing) (chain.base ∷ bases_of above) in
      kept-fewer hashing.hash hashing.shape hashing.bytes tree (spellings hashing tip) (lists_since low all) grown (map (spellings hashing) (bases_of chain))
      (all-mapped (spellings hashing) (Contains (lists_since low all)) (bases_of chain)
      (λ l found. list-since low all (spellings hashing l)
      (contains-mapped (spellings hashing) (chain.base ∷ bases_of above) l
      (contains-whole (suc keep) (chain.base ∷ bases_of above) l (subst (λ ls. Contains (chain.base ∷ ls) l) child-older found)))
      (omega (arith, All-contains (λ (l : List Operation). low ≤ length l) (bases_of chain) l bases-above found, length-map l (spelling hashing.form)))))

  -- a plan on the parent's list makes a batch of the child's chain
  pub child-is_made : (plan : Plan) (tree : KeptTree D) (root : Bytes) (meta : Option Bytes) (tip : List Operation) {evicted : List (Bytes × Bytes)} → IsPlan plan chain.base tip evicted
      → IsKeptTree hashing.bytes hashing.hash hashing.shape tree (spellings hashing tip) (lists_since (child_boundary keep parent.bounds).size (map (spellings hashing) (chain.base ∷ bases_of above)))
      → root ≡ list_root hashing tip → meta ≡ last_metadata tip → All (IsOf hashing.form) tip → IsGood tip → floor chain.base ≤ floor tip → HasRing hashing.form tip
      → IsMade hashing (child_made parent keep plan tree root meta) chain tip
  child-is_made plan tree root meta tip is grown standing last all good rises ring =
      record {
        bounds = record {
          base = made.bounds.tip;
          db = child-boundary parent keep chain above few made kept;
          tip = ap₂ (λ (size : ℕ) (r : Bytes). record { size = size; root = r }) (grown.leaves ∙ length-map tip (spelling hashing.form)) standing;
          ancestors = child-tips parent keep chain above few made kept;
        };
        lowest = is.floor;
        live = is.live;
        metadata = last;
        linked = subst (AreLinked chain.base) (sym kept) (child-linked keep above chain.base made.linked);
        steps = (
          record { size = ap (λ c. c.size) made.bounds.tip; list = plan-behind plan chain.base tip is; changes = is.changes },
          subst (LeadThrough (take keep parent.layers) chain.base) (sym child-older) (leads-first keep parent.layers chain.base (bases_of above) made.steps),
        );
        tree = child-tree tree tip grown;
        of = all;
        good = good;
        rises = All-weaker (λ (l : List Operation). floor l ≤ floor chain.base) (λ l. floor l ≤ floor tip) (λ l low. omega (arith, low, rises)) (bases_of chain) (child-rises parent keep chain above made kept);
        ring = ring;
      }

-- an operation of a form has a low floor
low-from : (form : Form) (op : Operation) → IsOf form op → IsLow op
low-from form (update key value next) is = tt
low-from form (delete key) is = tt
low-from form (commit meta low) is = is.1

low-operation : (key : Bytes) (value : Option Bytes) → IsLow (operation_of (record { key = key; value = value }))
low-operation key None = tt
low-operation key (Some value) = tt

-- moves have low floors, as they have none
low-moves : (ds : List Write) → Each IsLow (map operation_of ds)
low-moves [] = tt
low-moves (w ∷ ds) = (low-operation w.key w.value, low-moves ds)

low-cons : (o : Option Operation) (ops : List Operation) → IfSome o IsLow → Each IsLow ops → Each IsLow (cons_option o ops)
low-cons None ops here later = later
low-cons (Some op) ops here later = (here, later)

low-kept : {X : Type 0} (h : X → Option Operation) → ((x : X) → IfSome (h x) IsLow) → (xs : List X) → Each IsLow (filter_map h xs)
low-kept h low [] = tt
low-kept h low (x ∷ xs) = low-cons (h x) (filter_map h xs) (low x) (low-kept h low xs)

low-write : (o : Option Write) → IfSome (option_map operation_of o) IsLow
low-write None = tt
low-write (Some w) = low-operation w.key w.value

low-create : (key : Bytes) (stood : Bool) (o : Option Bytes) → IfSome (if stood then None else option_map (λ value. update key value None) o) IsLow
low-create key true o = tt
low-create key false None = tt
low-create key false (Some value) = tt

-- so are the operations of writes
low-writes : (base : List Operation) (ws : List Write) → All IsLow (unordered_writes base ws)
low-writes base ws =
    let last = last_writes ws in
    let found = live base in
    All-append IsLow (filter_map (rewrite_of last) found) (filter_map (create_of found) last)
    (All-from_recursion IsLow (filter_map (rewrite_of last) found) (low-kept (rewrite_of last) (λ e. low-write (write_of last e.key)) found))
    (All-from_recursion IsLow (filter_map (create_of found) last) (low-kept (create_of found) (λ w. low-create w.key (is_some (live_of found w.key)) w.value) last))

low-put : (key : Bytes) (o : Option Bytes) → IfSome (option_map (λ value. update key value None) o) IsLow
low-put key None = tt
low-put key (Some value) = tt

low-rewritten : (key : Bytes) (o : Option Live) → IfSome (option_map (λ (e : Live). update key e.value None) o) IsLow
low-rewritten key None = tt
low-rewritten key (Some e) = tt

low-deletes : (keys : List Bytes) → Each IsLow (map delete keys)
low-deletes [] = tt
low-deletes (key ∷ keys) = (tt, low-deletes keys)

-- so are operations that name their next keys
low-linked : (keys : List Bytes) (ops : List Operation) → Each IsLow ops → Each IsLow (map (linked keys) ops)
low-linked keys [] lows = tt
low-linked keys (update key value next ∷ ops) lows = (tt, low-linked keys ops lows.1)
low-linked keys (delete key ∷ ops) lows = (tt, low-linked keys ops lows.1)
low-linked keys (commit meta low ∷ ops) lows = (lows.0, low-linked keys ops lows.1)

low-ordered_writes : (base : List Operation) (ws : List Write) → All IsLow (ordered_writes base ws)
low-ordered_writes base ws =
    let last = last_writes ws in
    let found = live base in
    let deleted = deleted_keys found last in
    let updates = filter_map (put_of last) (updated_keys found last) in
    let creates = filter_map (put_of last) (created_keys found last) in
    let again = filter_map (rewritten found) (relinked_keys found last) in
    let put : (key : Bytes) → IfSome (put_of last key) IsLow = λ key. low-put key (option_and_then (λ w. w.value) (write_of last key)) in
    All-from_recursion IsLow (ordered_writes base ws)
    (low-linked (without deleted (map (λ e. e.key) found) ++ created_keys found last) (map delete deleted ++ updates ++ creates ++ again)
    (Each-append IsLow (map delete deleted ++ updates ++ creates) again
    (Each-append IsLow (map delete deleted ++ updates) creates
    (Each-append IsLow (map delete deleted) updates (low-deletes deleted) (low-kept (put_of last) put (updated_keys found last)))
    (low-kept (put_of last) put (created_keys found last)))
    (low-kept (rewritten found) (λ key. low-rewritten key (live_of found key)) (relinked_keys found last))))

low-ordered_moves : (list : List Operation) (ds : List Write) → All IsLow (ordered_moves list ds)
low-ordered_moves list ds =
    let before = live_keys list in
    let again = filter_map (rewritten (live list)) (broken_keys before ds) in
    All-from_recursion IsLow (ordered_moves list ds)
    (low-linked (without (evicted_keys ds) before) (map operation_of ds ++ again)
    (Each-append IsLow (map operation_of ds) again (low-moves ds)
    (low-kept (rewritten (live list)) (λ key. low-rewritten key (live_of (live list) key)) (broken_keys before ds))))

-- the floor of operations with low floors is low
low-floor : (low : ℕ) (ops : List Operation) → low ≤ 2 ^ 62 → Each IsLow ops → floor_after low ops ≤ 2 ^ 62
low-floor low [] few lows = few
low-floor low (update key value next ∷ ops) few lows = low-floor low ops few lows.1
low-floor low (delete key ∷ ops) few lows = low-floor low ops few lows.1
low-floor low (commit meta next ∷ ops) few lows = low-floor next ops lows.0 lows.1

-- the metadata of a list is that of a commit at its end
last-commit : (before : Option Bytes) (ops : List Operation) (meta : Option Bytes) (low : ℕ) → metadata_after before (ops ++ commit meta low ∷ []) ≡ meta
last-commit before [] meta low = refl
last-commit before (update key value next ∷ ops) meta low = last-commit before ops meta low
last-commit before (delete key ∷ ops) meta low = last-commit before ops meta low
last-commit before (commit m f ∷ ops) meta low = last-commit m ops meta low

-- what a kind of database appends has low floors: none of it is a commit
record AreLow (kind : Kind) : Type 0 where
  writes : (base : List Operation) (ws : List Write) → All IsLow (kind.writes base ws)
  moves : (list : List Operation) (ds : List Write) → All IsLow (kind.moves list ds)

unordered-low : AreLow unordered
unordered-low = record { writes = low-writes; moves = λ list ds. All-from_recursion IsLow (map operation_of ds) (low-moves ds) }

ordered-low : AreLow ordered
ordered-low = record { writes = low-ordered_writes; moves = low-ordered_moves }

kind-low : (form : Form) → AreLow (kind_of form)
kind-low form = by form.ordered
  where
    by : (o : Bool) → AreLow (if o then ordered else unordered)
    by true = ordered-low
    by false = unordered-low

-- the list of a step of such a kind has low floors, if that before it has them
step-low : {P : Type 0} (kind : Kind) (rules : Rules P) (base : List Operation) (ws : List Write) (policy : P) (meta : Option Bytes) → AreLow kind → All IsLow base
    → length (step kind rules base ws policy meta) ≤ 2 ^ 62 → All IsLow (step kind rules base ws policy meta)
step-low {P} kind rules base ws policy meta low lows few =
    let made = kind.writes base ws in
    let limits = rules.limits policy (made_inactive base made) in
    let walk : Walked P = walk_after kind rules base ws policy in
    let moves = kind.moves (base ++ made) walk.decisions in
    let list = (base ++ made) ++ moves in
    let below = low-floor 0 base (omega arith) (recursion_from_All IsLow base lows) in
    let path : Walks rules (drop (floor base) (base ++ made)) (floor base) walk.floor walk.decisions =
    walks rules (drop (floor base) (base ++ made)) (floor base) limits.entries limits.skips policy in
    let within = walks_within rules path in
    let count = length-append list (commit meta (if length (live list) == 0 then length list else walk.floor) ∷ []) in
    let size : length list ≤ 2 ^ 62 = omega (arith, few, count) in
    let first : length (base ++ made) ≤ 2 ^ 62 = omega (arith, size, length-append (base ++ made) moves) in
    let end : walk.floor ≤ 2 ^ 62 = omega (arith, within.1, length-drop (floor base) (base ++ made), first, below) in
    All-append IsLow list (commit meta (if length (live list) == 0 then length list else walk.floor) ∷ [])
    (All-append IsLow (base ++ made) moves (All-append IsLow base made lows (low.writes base ws)) (low.moves (base ++ made) walk.decisions))
    (All-cons IsLow (commit meta (if length (live list) == 0 then length list else walk.floor)) [] (by (length (live list) == 0) (length list) walk.floor size end) (All-nil IsLow))
  where
    by : (t : Bool) (n f : ℕ) → n ≤ 2 ^ 62 → f ≤ 2 ^ 62 → (if t then n else f) ≤ 2 ^ 62
    by true n f one other = one
    by false n f one other = other

step-metadata : {P : Type 0} (kind : Kind) (rules : Rules P) (base : List Operation) (ws : List Write) (policy : P) (meta : Option Bytes) → meta ≡ last_metadata (step kind rules base ws policy meta)
step-metadata {P} kind rules base ws policy meta =
    let walk : Walked P = walk_after kind rules base ws policy in
    let written = base ++ kind.writes base ws in
    let list = written ++ kind.moves written walk.decisions in
    sym (last-commit None list meta (if length (live list) == 0 then length list else walk.floor))

-- what a step makes of a list of a database
module _ {P : Type 0} (form : Form) (rules : Rules P) (base : List Operation) (ws : List Write) (policy : P) (meta : Option Bytes) where
  -- its metadata is the one given
  pub stepped-metadata : meta ≡ last_metadata (stepped form rules base ws policy meta)
  stepped-metadata = step-metadata (kind_of form) rules base ws policy meta

  -- it is of the form of its base list, if operations with low floors after that are and it is not too long
  pub stepped-of : (own : List Operation) → All (IsOf form) base → take (length base) (stepped form rules base ws policy meta) ≡ base → own ≡ drop (length base) (stepped form rules base ws policy meta)
      → (All IsLow own → All (IsOf form) own) → length (stepped form rules base ws policy meta) ≤ 2 ^ 62 → All (IsOf form) (stepped form rules base ws policy meta)
  stepped-of own all begins is of few =
      let tip = stepped form rules base ws policy meta in
      let lows = All-drop IsLow (length base) tip (step-low (kind_of form) rules base ws policy meta (kind-low form) (All-weaker (IsOf form) IsLow (low-from form) base all) few) in
      subst (All (IsOf form)) (take-append-drop (length base) tip)
      (All-append (IsOf form) (take (length base) tip) (drop (length base) tip) (subst (All (IsOf form)) (sym begins) all)
      (subst (All (IsOf form)) is (of (subst (All IsLow) (sym is) lows))))

  -- it is good, as its base list is
  pub stepped-good : IsGood base → IsGood (stepped form rules base ws policy meta)
  stepped-good good = by form.ordered
    where
      by : (o : Bool) → IsGood (step (if o then ordered else unordered) rules base ws policy meta)
      by true = ordered-good rules base ws policy meta good
      by false = step-good rules base ws policy meta good

  -- its floor is no lower than that of its base list
  pub stepped-rises : IsGood base → floor base ≤ floor (stepped form rules base ws policy meta)
  stepped-rises good = by form.ordered
    where
      by : (o : Bool) → floor base ≤ floor (step (if o then ordered else unordered) rules base ws policy meta)
      by true = (ordered-within rules base ws policy meta (omega (arith, good.floor_within))).1
      by false = (step-within rules base ws policy meta (omega (arith, good.floor_within))).1

  -- in an ordered database each of its live updates names the next live key, as those of its base list do
  pub stepped-ring : HasRing form base → HasRing form (stepped form rules base ws policy meta)
  stepped-ring = by form.ordered
    where
      by : (o : Bool) → (o ≡ true → IsRing base) → o ≡ true → IsRing (step (if o then ordered else unordered) rules base ws policy meta)
      by true ring is = step-ring rules base ws policy meta (ring refl)
      by false ring is = cc

-- the tips that a child keeps: its parent's own, and the first of those that the parent keeps
pub kept-tips : {A : Type 0} (view : A → Commitment) (bounds : Bounds) (keep : ℕ) (older kept tips : List A) → map view older ≡ bounds.ancestors → 0 < keep → keep ≤ suc (length bounds.ancestors)
    → kept ≡ take (keep - 1) older → map view tips ≡ bounds.tip ∷ map view kept → map view tips ≡ child_tips keep bounds
kept-tips view bounds keep older kept tips same some few front is =
    let less : keep - 1 ≤ length bounds.ancestors = omega arith in
    let count : suc (keep - 1) ≡ keep = omega arith in
    is
    ∙ ap (λ cs. bounds.tip ∷ map view cs) front
    ∙ ap (λ cs. bounds.tip ∷ cs) (sym (take-map view (keep - 1) older) ∙ ap (take (keep - 1)) same ∙ sym (take-append-le (keep - 1) bounds.ancestors (bounds.db ∷ []) less))
    ∙ ap (λ n. child_tips n bounds) count

-- what stands for the boundary of a child that keeps some of its parent's ancestors: the next of these
state-kept : {A : Type 0} (view : A → Commitment) (db : Commitment) (older : List A) (n : ℕ) (state : A) → slice_get older n ≡ Some state → view state ≡ get_or (map view older ++ db ∷ []) n db
state-kept view db [] n state is = absurd cc
state-kept view db (x ∷ xs) zero state is = cc
state-kept view db (x ∷ xs) (suc n) state is = state-kept view db xs n state is

pub child-kept : {A : Type 0} (view : A → Commitment) (bounds : Bounds) (keep : ℕ) (older : List A) (state : A) → map view older ≡ bounds.ancestors → 0 < keep → slice_get older (keep - 1) ≡ Some state → view state ≡ child_boundary keep bounds
child-kept view bounds keep older state same some is =
    let count : suc (keep - 1) ≡ keep = omega arith in
    state-kept view bounds.db older (keep - 1) state is
    ∙ ap (λ cs. get_or (cs ++ bounds.db ∷ []) (keep - 1) bounds.db) same
    ∙ ap (λ n. child_boundary n bounds) count

-- or, if it keeps all of them, its parent's boundary
state-last : {A : Type 0} (view : A → Commitment) (db : Commitment) (older : List A) (n : ℕ) → slice_get older n ≡ None → db ≡ get_or (map view older ++ db ∷ []) n db
state-last view db [] zero is = refl
state-last view db [] (suc n) is = refl
state-last view db (x ∷ xs) zero is = absurd cc
state-last view db (x ∷ xs) (suc n) is = state-last view db xs n is

pub child-last : {A : Type 0} (view : A → Commitment) (bounds : Bounds) (keep : ℕ) (older : List A) → map view older ≡ bounds.ancestors → 0 < keep → slice_get older (keep - 1) ≡ None → bounds.db ≡ child_boundary keep bounds
child-last view bounds keep older same some is =
    let count : suc (keep - 1) ≡ keep = omega arith in
    state-last view bounds.db older (keep - 1) is
    ∙ ap (λ cs. get_or (cs ++ bounds.db ∷ []) (keep - 1) bounds.db) same
    ∙ ap (λ n. child_boundary n bounds) count

-- an error that tells what is too long is not that of a stale batch
pub too_long-fresh : (spelt : List Bytes) (size : ℕ) (e : Error) → IsTooLong spelt size e → e ≢ errors.StaleBatch
too_long-fresh spelt size e (inl long) stale = absurd (cc (long.2, stale))
too_long-fresh spelt size e (inr many) stale = absurd (cc (many.2, stale))

-- nor of a store that failed
pub too_long-cause : (spelt : List Bytes) (size : ℕ) (e : Error) {P : Type 0} → IsTooLong spelt size e → e ≡ errors.Journal journal.Store → P
too_long-cause spelt size e (inl long) fault = absurd (cc (long.2, fault))
too_long-cause spelt size e (inr many) fault = absurd (cc (many.2, fault))

-- nor of an item that is pruned
pub too_long-kept : (spelt : List Bytes) (size : ℕ) (e : Error) → IsTooLong spelt size e → (n : ℕ) → e ≢ errors.Journal (journal.ItemPruned n)
too_long-kept spelt size e (inl long) n pruned = absurd (cc (long.2, pruned))
too_long-kept spelt size e (inr many) n pruned = absurd (cc (many.2, pruned))

-- the first spelling that is too long is past the bound
too_long-past : (spelt : List Bytes) (n : ℕ) → too_long spelt ≡ Some n → max_spelling < n
too_long-past [] n none = absurd (cc none)
too_long-past (first ∷ rest) n told = by (too_long-past rest n) (nat_lt max_spelling (length first)) refl
  where
    by : (too_long rest ≡ Some n → max_spelling < n) → (is_long : Bool) → nat_lt max_spelling (length first) ≡ is_long → max_spelling < n
    by later true long =
        let same : length first ≡ n = cc (subst (λ b. (if b then Some (length first) else too_long rest) ≡ Some n) long told) in
        subst (λ k. max_spelling < k) same (less_tells max_spelling (length first) long)
    by later false short = later (subst (λ b. (if b then Some (length first) else too_long rest) ≡ Some n) short told)

-- it is one of a size
pub too_long-size : (spelt : List Bytes) (size : ℕ) (e : Error) → IsTooLong spelt size e → IsSizeError e
too_long-size spelt size e (inl long) = inl (long.0, too_long-past spelt long.0 long.1, long.2)
too_long-size spelt size e (inr many) = inr (size, many.1, many.2)

-- an error that tells what is too long of the operations of a plan tells it of the own operations of its list
pub plan-refused : (form : Form) (plan : Plan) (base tip : List Operation) (items : List Bytes) (size : ℕ) (e : Error) {evicted : List (Bytes × Bytes)} → IsPlan plan base tip evicted → items ≡ map (spelling form) plan.operations → size ≡ length base + length plan.operations
    → IsTooLong items size e → IsTooLong (own_spellings form base tip) (length tip) e
plan-refused form plan base tip items size e is spelt count long =
    subst (λ n. IsTooLong (own_spellings form base tip) n e) (count ∙ plan-length plan base tip is) (subst (λ xs. IsTooLong xs size e) (spelt ∙ ap (map (spelling form)) is.operations) long)
