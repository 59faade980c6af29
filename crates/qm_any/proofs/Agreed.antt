-- What the numbers of a merkleized batch say of the states of a database that it knows.
use Rattle.std.proofs.Common.{◌≡◌, ◌≤◌, ◌<◌, ◌+◌, ◌∙◌, ◌⊎◌, ℕ, zero, suc, Bool, true, false, ◌||◌, List, [], ◌∷◌, ◌++◌, length, map, take, drop, get_or, All, Contains, inl, inr, ⊎_elim, refl, sym, ap, subst, arith, rules}
use Rattle.std.specs.Prelude.{Result, Ok, Err, OnOk, is_ok}
use Rattle.std.specs.List.{list_any}
use Rattle.std.proofs.lemmas.List.{take-map, take_more, length-append, map-append}
use Rattle.std.proofs.lemmas.List.Elements.{All-nil, All-cons, All-head, All-tail, All-take, All-weaker, All-contains, All-contains_itself, Contains-append_left, Contains-push}
use Rattle.std.proofs.lemmas.List.Folds.{Any-from_list_any}
use Rattle.qm_model.specs.Batches.{Commitment, same}
use Rattle.qm_merkle.specs.Batches.{stops}
use Rattle.qm_chain.specs.Bounds.{is_at, knows}
use Rattle.qm_step.specs.Layers.{Layer}
use Rattle.qm_any.specs.Databases.{Made, AreAgreed, AreJoined, bases, states, child_boundary, child_tips}

-- commitments that are the same have one size
same-size : (a b : Commitment) → same a b ≡ true → a.size ≡ b.size
same-size a b is = search rules

either : (a b : Bool) → (a || b) ≡ true → (a ≡ true) ⊎ (b ≡ true)
either true b is = inl refl
either false b is = inr is

-- what holds of each image holds, through the map, of each element
All-mapped : {X Y : Type 0} (f : X → Y) (P : Y → Type 0) (xs : List X) → All P (map f xs) → All (λ x. P (f x)) xs
All-mapped f P [] all = All-nil (λ x. P (f x))
All-mapped f P (x ∷ xs) all = All-cons (λ x. P (f x)) x xs (All-head P (f x) (map f xs) all) (All-mapped f P xs (All-tail P (f x) (map f xs) all))

-- what holds of each element and of the default holds of the one at a place
All-at : {X : Type 0} (P : X → Type 0) (xs : List X) (k : ℕ) (d : X) → All P xs → P d → P (get_or xs k d)
All-at P [] k d all default = default
All-at P (x ∷ xs) zero d all default = All-head P x xs all
All-at P (x ∷ xs) (suc k) d all default = All-at P xs k d (All-tail P x xs all) default

-- what follows from a test follows if the call that makes it succeeds
pub ok-tested : {X E : Type 0} (r : Result X E) (test : Bool) (P : Type 0) → is_ok r ≡ test → (test ≡ true → P) → OnOk r P
ok-tested (Ok x) test P is give = give (sym is)
ok-tested (Err e) test P is give = tt

-- the newest of layers that are joined starts within the list that they make
first-within : (layers : List Layer) (size base : ℕ) → take 1 (bases layers) ≡ base ∷ [] → AreJoined size layers → base ≤ size
first-within [] size base own joined = absurd (omega (arith, ap length own))
first-within (layer ∷ layers) size base own joined =
    let first : layer.base ≡ base = ap (λ l. get_or l 0 0) own in
    omega (arith, first, joined.0)

-- no list on the way is shorter than the one from which the oldest of joined layers starts
pub joined-above : (layers : List Layer) (size low : ℕ) (front : List ℕ) → AreJoined size layers → size ∷ bases layers ≡ front ++ low ∷ [] → All (λ n. low ≤ n) (size ∷ bases layers)
joined-above [] size low [] joined is =
    let same : size ≡ low = ap (λ l. get_or l 0 0) is in
    All-cons (λ n. low ≤ n) size [] (omega (arith, same)) (All-nil (λ n. low ≤ n))
joined-above [] size low (f ∷ front) joined is = absurd (omega (arith, ap length is, length-append front (low ∷ [])))
joined-above (layer ∷ layers) size low [] joined is = absurd (omega (arith, ap length is))
joined-above (layer ∷ layers) size low (f ∷ front) joined is =
    let rest = joined-above layers layer.base low front joined.1 (ap (drop 1) is) in
    All-cons (λ n. low ≤ n) size (bases (layer ∷ layers)) (omega (arith, joined.0, All-head (λ n. low ≤ n) layer.base (bases layers) rest)) rest

-- the first of joined layers are joined
pub joined-first : (keep size : ℕ) (layers : List Layer) → AreJoined size layers → AreJoined size (take keep layers)
joined-first zero size layers joined = tt
joined-first (suc keep) size [] joined = tt
joined-first (suc keep) size (layer ∷ layers) joined = (joined.0, joined-first keep layer.base layers joined.1)

-- states whose sizes are among these
module _ (sizes : List ℕ) (current : Commitment) where
  -- one that is the same as one of them has its size among these
  any-among : (tips : List Commitment) → All (λ c. Contains sizes c.size) tips → list_any (same current) tips ≡ true → Contains sizes current.size
  any-among tips all is =
      let found = Any-from_list_any (same current) tips is in
      subst (Contains sizes) (sym (same-size current found.1 found.4)) (All-contains (λ c. Contains sizes c.size) tips found.1 all (found.0, found.2, found.3))

  at-among : (boundary : Commitment) (tips : List Commitment) → Contains sizes boundary.size → All (λ c. Contains sizes c.size) tips → is_at current boundary tips ≡ true → Contains sizes current.size
  at-among boundary tips first all is =
      ⊎_elim (λ at. subst (Contains sizes) (sym (same-size current boundary at)) first) (any-among tips all) (either (same current boundary) (list_any (same current) tips) is)

  -- so has one that is the same as the last of them, or as one before it
  ended-among : (boundary : Commitment) (tips : List Commitment) → All (λ c. Contains sizes c.size) (tips ++ boundary ∷ []) → is_at current boundary tips ≡ true → Contains sizes current.size
  ended-among boundary tips all =
      let among : Commitment → Type 0 = λ c. Contains sizes c.size in
      let ended = tips ++ boundary ∷ [] in
      at-among boundary tips (All-contains among ended boundary all (Contains-push tips boundary))
      (All-weaker (Contains tips) among (λ c found. All-contains among ended c all (Contains-append_left tips (boundary ∷ []) c found)) tips (All-contains_itself tips))

module _ {D : Type 0} (batch : Made D) (agreed : AreAgreed batch) where
  -- the tree stops at the sizes of all states
  states-reached : All (λ c. Contains (stops batch.tree.leaves batch.tree.layers) c.size) (states batch.bounds)
  states-reached =
      let sizes = stops batch.tree.leaves batch.tree.layers in
      All-mapped (λ c. c.size) (Contains sizes) (states batch.bounds) (subst (λ l. All (Contains sizes) (batch.bounds.tip.size ∷ l)) agreed.starts agreed.reached)

  -- a state at which the batch can be applied is as long as a list from which one of its steps starts
  pub fits-among : (current : Commitment) → is_at current batch.bounds.db batch.bounds.ancestors ≡ true → Contains (bases batch.layers) current.size
  fits-among current fits =
      let sizes = bases batch.layers in
      let ended = batch.bounds.ancestors ++ batch.bounds.db ∷ [] in
      ended-among sizes current batch.bounds.db batch.bounds.ancestors
      (All-mapped (λ c. c.size) (Contains sizes) ended (subst (All (Contains sizes)) agreed.starts (All-contains_itself sizes))) fits

  -- so its tree stops there
  pub fits-reached : (current : Commitment) → is_at current batch.bounds.db batch.bounds.ancestors ≡ true → Contains (stops batch.tree.leaves batch.tree.layers) current.size
  fits-reached current fits =
      let stop : ℕ → Type 0 = Contains (stops batch.tree.leaves batch.tree.layers) in
      All-contains stop (bases batch.layers) current.size (All-tail stop batch.bounds.tip.size (bases batch.layers) agreed.reached) (fits-among current fits)

  -- one that it knows is where its tree stops
  pub known-reached : (current : Commitment) → knows batch.bounds current ≡ true → Contains (stops batch.tree.leaves batch.tree.layers) current.size
  known-reached current known =
      let sizes = stops batch.tree.leaves batch.tree.layers in
      let ended = batch.bounds.ancestors ++ batch.bounds.db ∷ [] in
      let among : Commitment → Type 0 = λ c. Contains sizes c.size in
      ⊎_elim (λ at. subst (Contains sizes) (sym (same-size current batch.bounds.tip at)) (All-head among batch.bounds.tip ended states-reached))
      (ended-among sizes current batch.bounds.db batch.bounds.ancestors (All-tail among batch.bounds.tip ended states-reached))
      (either (same current batch.bounds.tip) (is_at current batch.bounds.db batch.bounds.ancestors) known)

  -- its boundary is
  pub boundary-reached : Contains (stops batch.tree.leaves batch.tree.layers) batch.bounds.db.size
  boundary-reached =
      All-contains (λ c. Contains (stops batch.tree.leaves batch.tree.layers) c.size) (states batch.bounds) batch.bounds.db states-reached
      (Contains-push (batch.bounds.tip ∷ batch.bounds.ancestors) batch.bounds.db)

  -- and so is one at which a child of it can be made
  pub child-reached : (keep : ℕ) (current : Commitment) → is_at current (child_boundary keep batch.bounds) (child_tips keep batch.bounds) ≡ true → Contains (stops batch.tree.leaves batch.tree.layers) current.size
  child-reached keep current on =
      let sizes = stops batch.tree.leaves batch.tree.layers in
      let among : Commitment → Type 0 = λ c. Contains sizes c.size in
      let all = states batch.bounds in
      at-among sizes current (child_boundary keep batch.bounds) (child_tips keep batch.bounds) (All-at among all keep batch.bounds.db states-reached boundary-reached) (All-take among keep all states-reached) on

  -- the steps that a child keeps, after its own, start where the states end at which it can be applied
  pub child-starts : (keep : ℕ) → keep ≤ suc (length batch.bounds.ancestors)
      → batch.bounds.tip.size ∷ bases (take keep batch.layers) ≡ map (λ c. c.size) (child_tips keep batch.bounds) ++ (child_boundary keep batch.bounds).size ∷ []
  child-starts keep few =
      let size : Commitment → ℕ = λ c. c.size in
      let all = states batch.bounds in
      let within : keep < length all = omega (arith, few, length-append batch.bounds.ancestors (batch.bounds.db ∷ [])) in
      let one : suc keep ≡ keep + 1 = omega arith in
      ap (λ ns. batch.bounds.tip.size ∷ ns) (sym (take-map (λ (l : Layer). l.base) keep batch.layers))
      ∙ ap (λ ns. batch.bounds.tip.size ∷ take keep ns) agreed.starts
      ∙ take-map size (suc keep) all
      ∙ ap (λ n. map size (take n all)) one
      ∙ ap (map size) (take_more all keep batch.bounds.db within)
      ∙ map-append size (child_tips keep batch.bounds) (child_boundary keep batch.bounds ∷ [])

  -- none of these is below the child's boundary
  pub child-bases-above : (keep : ℕ) → keep ≤ suc (length batch.bounds.ancestors) → All (λ n. (child_boundary keep batch.bounds).size ≤ n) (batch.bounds.tip.size ∷ bases (take keep batch.layers))
  child-bases-above keep few =
      joined-above (take keep batch.layers) batch.bounds.tip.size (child_boundary keep batch.bounds).size (map (λ (k : Commitment). k.size) (child_tips keep batch.bounds))
      (joined-first keep batch.bounds.tip.size batch.layers agreed.joined) (child-starts keep few)

  -- nor is a state at which the child can be made
  pub child-above : (keep : ℕ) (current : Commitment) → keep ≤ suc (length batch.bounds.ancestors) → is_at current (child_boundary keep batch.bounds) (child_tips keep batch.bounds) ≡ true → (child_boundary keep batch.bounds).size ≤ current.size
  child-above keep current few on =
      let low = (child_boundary keep batch.bounds).size in
      let sizes = batch.bounds.tip.size ∷ bases (take keep batch.layers) in
      let tips = child_tips keep batch.bounds in
      let ended = tips ++ child_boundary keep batch.bounds ∷ [] in
      let starts : map (λ (k : Commitment). k.size) ended ≡ sizes = map-append (λ (k : Commitment). k.size) tips (child_boundary keep batch.bounds ∷ []) ∙ sym (child-starts keep few) in
      All-contains (λ n. low ≤ n) sizes current.size (child-bases-above keep few)
      (ended-among sizes current (child_boundary keep batch.bounds) tips (All-mapped (λ c. c.size) (Contains sizes) ended (subst (All (Contains sizes)) (sym starts) (All-contains_itself sizes))) on)

  -- the own operations begin within the tree
  pub start-within : batch.bounds.base.size ≤ batch.tree.leaves
  start-within = subst (λ n. batch.bounds.base.size ≤ n) (sym agreed.leaves) (first-within batch.layers batch.bounds.tip.size batch.bounds.base.size agreed.own agreed.joined)
