-- What a list lacks of the list that layers lead to, and the loops over these.
use Rattle.std.proofs.Common.{◌≡◌, ℕ, ◌≤◌, ◌<◌, ◌+◌, true, false, List, [], ◌∷◌, ◌++◌, refl, ap, ap₂, sym, ◌∙◌, subst, arith, append_assoc, length, take, drop, map, get_or, ⊎_elim}
use Rattle.std.specs.Prelude.{All, Contains, nat_le, if◌then◌else◌, Option, Some, None, IsSome, Result, Ok, Err, IfOk}
use Rattle.std.proofs.lemmas.Bool.Decides.{leb_tells}
use Rattle.std.proofs.lemmas.List.{take-map, take_all, append-nil, length-append, map_more, map-append, nil_from_length}
use Rattle.std.proofs.lemmas.List.Elements.{All-nil, All-cons, All-head, All-append, All-take, All-drop, All-contains}
use Rattle.std.proofs.Math.Seq.{take-append_seam, drop-append_seam}
use Rattle.qm_model.specs.Causes.{IsCause}
use Rattle.qm_model.specs.StoreModel.{Stored, Becomes}
use Rattle.qm_model.specs.StoreModel as model
use Rattle.qm_model.specs.Forms.{spelling}
use Rattle.qm_model.specs.Bits.{bits}
use Rattle.qm_model.specs.Live.{floor}
use Rattle.qm_model.specs.Operations.{Bytes, Operation, IsCommitEnded}
use Rattle.qm_model.specs.Batches.{Chain, IsOnChain}
use Rattle.qm_base.specs.declared.error.Error.{Error}
use Rattle.qm_base.specs.declared.error.Error.TheVariants as errors
use Rattle.qm_base.specs.declared.error.JournalError.TheVariants as journal
use Rattle.qm_store.specs.declared.Store as store
use Rattle.qm_store.specs.Log.{IsLog}
use Rattle.qm_bits.specs.Bitmaps.{all_bits}
use Rattle.qm_step.specs.Changes.{Changes, LeadTo}
use Rattle.qm_index.specs.Indexed.{IsIndexed}
use Rattle.qm_step.specs.Layers.{Layer, LeadThrough}
use Rattle.qm_index.proofs.Members.{first_or_later, Contains-first, Contains-later}
use Rattle.qm_store.specs.KeptTrees.{IsKeptTree}
use Rattle.qm_any.specs.Layouts.{Layout, spellings}
use Rattle.qm_store.specs.Given.{Appended}
use Rattle.qm_any.specs.Databases.{Database, Made, IsDatabase, IsMade, bases_of, unapplied, operations_in, bases, AreJoined}
use Rattle.qm_any.proofs.Known.{contains-mapped, on_chain-base}

-- one more after a list is what h makes of one more of another's elements
pub mapped-behind : {A B X Y : Type 0} (h : B → Y) (f : A → B) (view : X → Y) (first : List Y) (xs : List A) (i : ℕ) (d : A) (made more : List X) (x : X) → i < length xs → d ≡ get_or xs i d
    → more ≡ made ++ x ∷ [] → view x ≡ h (f d) → map view made ≡ first ++ map h (map f (take i xs)) → map view more ≡ first ++ map h (map f (take (i + 1) xs))
mapped-behind h f view first xs i d made more x within here pushed shown so_far =
    ap (map view) pushed ∙ map-append view made (x ∷ [])
    ∙ ap₂ (λ ys y. ys ++ y ∷ []) so_far (shown ∙ ap (λ z. h (f z)) here)
    ∙ append_assoc first (map h (map f (take i xs))) (h (f (get_or xs i d)) ∷ [])
    ∙ ap (λ ys. first ++ ys) (sym (ap (map h) (map_more f xs i d within) ∙ map-append h (map f (take i xs)) (f (get_or xs i d) ∷ [])))

-- all of nothing
pub all-none : {Y : Type 0} {P : Type 0} (Q : Y → Type 0) → P → All Q []
all-none Q p = All-nil Q

-- what follows of all so far follows of one more
pub all-behind : {A Y : Type 0} (f : A → Y) (P Q : Y → Type 0) (xs : List A) (i : ℕ) (d : A) → i < length xs → d ≡ get_or xs i d → (P (f d) → Q (f d)) → (All P (map f (take i xs)) → All Q (map f (take i xs)))
    → All P (map f (take (i + 1) xs)) → All Q (map f (take (i + 1) xs))
all-behind f P Q xs i d within here one so_far all =
    let front = map f (take i xs) in
    let more : map f (take (i + 1) xs) ≡ front ++ f d ∷ [] = map_more f xs i d within ∙ ap (λ x. front ++ f x ∷ []) (sym here) in
    let parts : All P (front ++ f d ∷ []) = subst (All P) more all in
    let first : All P front = subst (All P) (take-append_seam front (f d ∷ [])) (All-take P (length front) (front ++ f d ∷ []) parts) in
    let last : All P (f d ∷ []) = subst (All P) (drop-append_seam front (f d ∷ [])) (All-drop P (length front) (front ++ f d ∷ []) parts) in
    subst (All Q) (sym more) (All-append Q front (f d ∷ []) (so_far first) (All-cons Q (f d) [] (one (All-head P (f d) [] last)) (All-nil Q)))

-- and of all of a list that was gone through
pub all-whole : {A Y : Type 0} (f : A → Y) (P Q : Y → Type 0) (xs : List A) (i : ℕ) → length xs ≤ i → (All P (map f (take i xs)) → All Q (map f (take i xs))) → All P (map f xs) → All Q (map f xs)
all-whole f P Q xs i past so_far = subst (λ ys. All P (map f ys) → All Q (map f ys)) (take_all i xs past) so_far

-- the first of what is seen alike are seen alike
pub diffs-first : {X Y V Z : Type 0} (view : X → Z) (value : Y → V) (f : V → Z) (xs : List X) (ys part : List Y) (k : ℕ) → map view xs ≡ map f (map value ys) → part ≡ take k ys → map view (take k xs) ≡ map f (map value part)
diffs-first view value f xs ys part k same first = sym (take-map view k xs) ∙ ap (take k) same ∙ take-map f k (map value ys) ∙ ap (map f) (take-map value k ys ∙ ap (map value) (sym first))

-- the newest layer is lacking if it starts from the list's end or later, and nothing is if it starts before
pub unapplied-more : (n : ℕ) (layer : Layer) (layers : List Layer) → nat_le n layer.base ≡ true → unapplied n (layer ∷ layers) ≡ layer ∷ unapplied n layers
unapplied-more n layer layers from = ap (λ b. if b then layer ∷ unapplied n layers else []) from

pub unapplied-none : (n : ℕ) (layer : Layer) (layers : List Layer) → nat_le n layer.base ≡ false → unapplied n (layer ∷ layers) ≡ []
unapplied-none n layer layers before = ap (λ b. if b then layer ∷ unapplied n layers else []) before

-- no layer starts after the end of the newest
pub joined-below : (size from : ℕ) (layers : List Layer) → AreJoined size layers → Contains (size ∷ bases layers) from → from ≤ size
joined-below size from [] joined among = ⊎_elim
    (λ (same : size ≡ from). omega (arith, same))
    (λ (none : Contains [] from). absurd (omega (arith, none.1)))
    (first_or_later size [] from among)
joined-below size from (layer ∷ layers) joined among = ⊎_elim
    (λ (same : size ≡ from). omega (arith, same))
    (λ (older : Contains (bases (layer ∷ layers)) from). omega (arith, joined.0, joined-below layer.base from layers joined.1 older))
    (first_or_later size (bases (layer ∷ layers)) from among)

-- what a list lacks makes it as long as the newest layer's
pub joined-counts : (size from : ℕ) (layers : List Layer) → AreJoined size layers → Contains (size ∷ bases layers) from → from + length (operations_in (unapplied from layers)) ≡ size
joined-counts size from [] joined among = ⊎_elim
    (λ (same : size ≡ from). omega (arith, same))
    (λ (none : Contains [] from). absurd (omega (arith, none.1)))
    (first_or_later size [] from among)
joined-counts size from (layer ∷ layers) joined among = ⊎_elim
    (λ (high : (nat_le from layer.base ≡ true) × (from ≤ layer.base)).
    let older : Contains (layer.base ∷ bases layers) from = ⊎_elim
    (λ (same : size ≡ from). (0, omega arith, omega (arith, same, high.1, joined.0)))
    (λ (within : Contains (layer.base ∷ bases layers) from). within)
    (first_or_later size (layer.base ∷ bases layers) from among) in
    ap (λ ls. from + length (operations_in ls)) (unapplied-more from layer layers high.0)
    ∙ omega (arith, length-append (operations_in (unapplied from layers)) layer.operations, joined-counts layer.base from layers joined.1 older, joined.0))
    (λ (low : (nat_le from layer.base ≡ false) × (layer.base < from)).
    ap (λ ls. from + length (operations_in ls)) (unapplied-none from layer layers low.0)
    ∙ ⊎_elim
    (λ (same : size ≡ from). omega (arith, same))
    (λ (within : Contains (layer.base ∷ bases layers) from). absurd (omega (arith, low.1, joined-below layer.base from layers joined.1 within)))
    (first_or_later size (layer.base ∷ bases layers) from among))
    (leb_tells from layer.base)

-- no list on the way is longer than the last
pub lead-shorter : (layers : List Layer) (tip : List Operation) (older : List (List Operation)) (lent : List Operation) → LeadThrough layers tip older → Contains (tip ∷ older) lent → length lent ≤ length tip
lead-shorter [] tip [] lent leads among = ⊎_elim
    (λ (same : tip ≡ lent). omega (arith, ap length same))
    (λ (none : Contains [] lent). absurd (omega (arith, none.1)))
    (first_or_later tip [] lent among)
lead-shorter [] tip (base ∷ older) lent leads among = absurd leads
lead-shorter (layer ∷ layers) tip [] lent leads among = absurd leads
lead-shorter (layer ∷ layers) tip (base ∷ older) lent leads among = ⊎_elim
    (λ (same : tip ≡ lent). omega (arith, ap length same))
    (λ (within : Contains (base ∷ older) lent).
    omega (arith, ap length leads.0.list, length-append base layer.operations, lead-shorter layers base older lent leads.1 within))
    (first_or_later tip (base ∷ older) lent among)

-- the list and what it lacks are the list that the layers lead to, and the lacking changes lead from it to this
abbrev pub IsLacked : List Layer → List Operation → List Operation → Type 0
IsLacked lacked lent tip = (tip ≡ lent ++ operations_in lacked) × LeadTo (map (λ l. l.changes) lacked) lent tip

pub lacked-lists : (layers : List Layer) (tip : List Operation) (older : List (List Operation)) (lent : List Operation) → LeadThrough layers tip older → Contains (tip ∷ older) lent → IsLacked (unapplied (length lent) layers) lent tip
lacked-lists [] tip [] lent leads among = ⊎_elim
    (λ (same : tip ≡ lent). (same ∙ sym (append-nil lent), sym same))
    (λ (none : Contains [] lent). absurd (omega (arith, none.1)))
    (first_or_later tip [] lent among)
lacked-lists [] tip (base ∷ older) lent leads among = absurd leads
lacked-lists (layer ∷ layers) tip [] lent leads among = absurd leads
lacked-lists (layer ∷ layers) tip (base ∷ older) lent leads among = ⊎_elim
    (λ (high : (nat_le (length lent) layer.base ≡ true) × (length lent ≤ layer.base)).
    let rest = lacked-lists layers base older lent leads.1 (⊎_elim
    (λ (same : tip ≡ lent).
    let none : layer.operations ≡ [] = nil_from_length layer.operations (omega (arith, high.1, leads.0.size, ap length same, ap length leads.0.list, length-append base layer.operations)) in
    (0, omega arith, sym (append-nil base) ∙ ap (λ ops. base ++ ops) (sym none) ∙ sym leads.0.list ∙ same))
    (λ (within : Contains (base ∷ older) lent). within)
    (first_or_later tip (base ∷ older) lent among)) in
    let lacked = unapplied (length lent) layers in
    subst (λ ls. IsLacked ls lent tip) (sym (unapplied-more (length lent) layer layers high.0)) (
      leads.0.list ∙ ap (λ ops. ops ++ layer.operations) rest.0 ∙ append_assoc lent (operations_in lacked) layer.operations,
      (base, leads.0.changes, rest.1),
    ))
    (λ (low : (nat_le (length lent) layer.base ≡ false) × (layer.base < length lent)).
    subst (λ ls. IsLacked ls lent tip) (sym (unapplied-none (length lent) layer layers low.0))
    (⊎_elim
    (λ (same : tip ≡ lent). (same ∙ sym (append-nil lent), sym same))
    (λ (within : Contains (base ∷ older) lent). absurd (omega (arith, low.1, leads.0.size, lead-shorter layers base older lent leads.1 within)))
    (first_or_later tip (base ∷ older) lent among)))
    (leb_tells (length lent) layer.base)

-- where a layer starts a list of the way ends
pub base-list : (layers : List Layer) (tip : List Operation) (older : List (List Operation)) (n : ℕ) → LeadThrough layers tip older → Contains (bases layers) n → (l : List Operation) × Contains older l × (length l ≡ n)
base-list [] tip older n leads among = absurd (omega (arith, among.1))
base-list (layer ∷ layers) tip [] n leads among = absurd leads
base-list (layer ∷ layers) tip (base ∷ older) n leads among = ⊎_elim
    (λ (same : layer.base ≡ n). (base, Contains-first base older, sym leads.0.size ∙ same))
    (λ (within : Contains (bases layers) n).
    let rest = base-list layers base older n leads.1 within in
    (rest.0, Contains-later base older rest.0 rest.1, rest.2))
    (first_or_later layer.base (bases layers) n among)

-- what lies after a size at which a layer starts is what a list of this size lacks
pub lacked-behind : (layers : List Layer) (tip : List Operation) (older : List (List Operation)) (n : ℕ) → LeadThrough layers tip older → Contains (bases layers) n → drop n tip ≡ operations_in (unapplied n layers)
lacked-behind layers tip older n leads among =
    let here = base-list layers tip older n leads among in
    let lent = here.0 in
    subst (λ m. drop m tip ≡ operations_in (unapplied m layers)) here.2
    (ap (drop (length lent)) (lacked-lists layers tip older lent leads (Contains-later tip older lent here.1)).0
    ∙ drop-append_seam lent (operations_in (unapplied (length lent) layers)))

-- want of memory is no fault
pub memory-cause : (before now : ℕ) (e : Error) → before ≤ now → e ≡ errors.Memory → IsCause before now (e ≡ errors.Journal journal.Store)
memory-cause before now e later is = record { later = later; failed = λ fault. absurd (cc (is, fault)) }

-- what holds of a value by five clauses holds of it by all
pub ok-five : {X E : Type 0} (r : Result X E) {P Q R S T : X → Type 0} → IfOk r P → IfOk r Q → IfOk r R → IfOk r S → IfOk r T → {U : X → Type 0} → ((x : X) → P x → Q x → R x → S x → T x → U x) → IfOk r U
ok-five (Ok x) p q r s t give = give x p q r s t
ok-five (Err e) p q r s t give = tt

-- what grew still tells what it holds
grown-told : (old new : Option Stored) (f : Stored → Stored) → IsSome old → Becomes old new f → IsSome new
grown-told None new f told grown = let none : false ≡ true = told in cc
grown-told (Some s) None f told grown = absurd grown
grown-told (Some s) (Some t) f told grown = refl

module _ {C D : Type 0} (members : store.Ghosts C) (layout : Layout D) where
  -- a database that took what its list lacked of a batch's list stands for that
  pub applied : (db next : Database C D) (batch : Made D) (list : List Operation) (chain : Chain) (tip : List Operation) (n : ℕ) (items : List Bytes) (changes : List Changes)
      → IsDatabase members layout db list → IsMade layout.hashing batch chain tip → IsOnChain list chain → n ≡ db.commitment.size
      → items ≡ map (spelling layout.hashing.form) (operations_in (unapplied n batch.layers)) → changes ≡ map (λ l. l.changes) (unapplied n batch.layers)
      → ((l : List Bytes) (older : List (List Bytes)) → IsLog members layout.hashing.shape layout.hashing.bytes layout.hashing.hash db.log l
      → IsKeptTree layout.hashing.bytes layout.hashing.hash layout.hashing.shape batch.tree (l ++ items) older → Contains ((l ++ items) ∷ older) l → IsLog members layout.hashing.shape layout.hashing.bytes layout.hashing.hash next.log (l ++ items))
      → ((l t : List Operation) → LeadTo changes l t → IsIndexed layout.index_key db.entries l → IsIndexed layout.index_key next.entries t)
      → ((l t : List Operation) → LeadTo changes l t → IsCommitEnded l → batch.bounds.tip.size ≡ length t → all_bits layout.chunk db.activity ≡ bits l → all_bits layout.chunk next.activity ≡ bits t)
      → (next.commitment ≡ batch.bounds.tip) × (next.floor ≡ batch.bounds.inactivity_floor) × (next.live ≡ batch.live) × (next.metadata ≡ batch.metadata)
      → Appended members db.log.store next.log.store items
      → IsDatabase members layout next tip
  applied db next batch list chain tip n items changes is made on at spelled done log index active rest grown =
      let size : length list ≡ n = sym (at ∙ ap (λ k. k.size) is.commitment) in
      let lacked : IsLacked (unapplied n batch.layers) list tip = subst (λ m. IsLacked (unapplied m batch.layers) list tip) size
      (lacked-lists batch.layers tip (bases_of chain) list made.steps (Contains-later tip (bases_of chain) list (on_chain-base list chain made.linked on))) in
      let spelled_list = spellings layout.hashing in
      let older = map spelled_list (bases_of chain) in
      let among = contains-mapped spelled_list (bases_of chain) list (on_chain-base list chain made.linked on) in
      let all : map (spelling layout.hashing.form) list ++ items ≡ map (spelling layout.hashing.form) tip =
      ap (λ xs. map (spelling layout.hashing.form) list ++ xs) spelled ∙ sym (map-append (spelling layout.hashing.form) list (operations_in (unapplied n batch.layers))) ∙ ap (map (spelling layout.hashing.form)) (sym lacked.0) in
      let lead = subst (λ cs. LeadTo cs list tip) (sym done) lacked.1 in
      let logged : IsLog members layout.hashing.shape layout.hashing.bytes layout.hashing.hash next.log (map (spelling layout.hashing.form) tip) =
      subst (IsLog members layout.hashing.shape layout.hashing.bytes layout.hashing.hash next.log) all (log (spelled_list list) older is.lent.logged
      (subst (λ xs. IsKeptTree layout.hashing.bytes layout.hashing.hash layout.hashing.shape batch.tree xs older) (sym all) made.tree)
      (Contains-later (spelled_list list ++ items) older (spelled_list list) among)) in
      let rises : floor list ≤ floor tip = All-contains (λ (l : List Operation). floor l ≤ floor tip) (bases_of chain) list made.rises (on_chain-base list chain made.linked on) in
      record {
        told = grown-told (members.told db.log.store) (members.told next.log.store) (model.appended items) is.told grown.told;
        lent = record {
          indexed = index list tip lead is.lent.indexed;
          logged = logged;
          of = made.of;
        };
        commitment = rest.0 ∙ made.bounds.tip;
        low = omega (arith, logged.start, grown.start, is.lent.logged.start, is.low, rises);
        floor = rest.1 ∙ made.lowest;
        live = rest.2 ∙ made.live;
        metadata = rest.3 ∙ made.metadata;
        active = active list tip lead is.good.commit_ended (ap (λ k. k.size) made.bounds.tip) is.active;
        good = made.good;
        ring = made.ring;
      }

  -- what a database lacks of a batch's list is what lies after its size
  pub lacked-spelled : (batch : Made D) (chain : Chain) (tip : List Operation) (n m : ℕ) (items : List Bytes) → IsMade layout.hashing batch chain tip → n ≡ m → Contains (bases batch.layers) n
      → items ≡ map (spelling layout.hashing.form) (operations_in (unapplied n batch.layers)) → items ≡ map (spelling layout.hashing.form) (drop m tip)
  lacked-spelled batch chain tip n m items made same among spelled =
      spelled ∙ ap (map (spelling layout.hashing.form)) (sym (lacked-behind batch.layers tip (bases_of chain) n made.steps among)) ∙ ap (λ k. map (spelling layout.hashing.form) (drop k tip)) same
