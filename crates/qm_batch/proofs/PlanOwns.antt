-- The own operations of a step: those of its writes, and those of what was decided after them.
use Rattle.std.proofs.Common.{◌≡◌, ℕ, Bool, true, ◌+◌, ◌-◌, cond, List, [], ◌∷◌, ◌++◌, length, length-append, map, count_by, refl, ap, ap₂, sym, ◌∙◌, subst, Option, None, Some, arith, append_assoc}
use Rattle.std.specs.Prelude.{bytes_eq, is_none, is_some, option_map, All}
use Rattle.std.specs.List.{IsDistinct}
use Rattle.std.proofs.lemmas.List.{map-append, length-map}
use Rattle.std.proofs.lemmas.List.Sums.{sum_by-cons}
use Rattle.std.proofs.lemmas.List.Elements.{All-append, All-from_recursion, All-weaker, recursion_from_All}
use Rattle.qm_operations.specs.Parts.{is_update}
use Rattle.qm_model.specs.Keys.{contains_key}
use Rattle.qm_model.specs.Operations.{Bytes, Operation}
use Rattle.qm_model.specs.Live.{Live, live, live_keys, live_of, floor, touches}
use Rattle.qm_model.specs.Writes.{Write, made_inactive}
use Rattle.qm_model.specs.Step.{Kind, committed, evicted_of}
use Rattle.qm_model.specs.Walk.{Limits, Rules, Walked, walk}
use Rattle.qm_model.proofs.Decisions.{decided-live, decided-once}
use Rattle.qm_model.proofs.OrderedLists.{some-map}
use Rattle.qm_step.specs.Bases.{Base, IsBase}
use Rattle.qm_step.specs.Changes.{stands_at}
use Rattle.qm_step.specs.Going.{Decided, write_for, AreDecided}
use Rattle.qm_step.specs.Kinds.{AreWritten, CountsMoves}
use Rattle.qm_step.specs.PlanViews.{decided_view, decided_views}
use Rattle.qm_batch.specs.PlanPaths.{AreBehind, AreOwn}
use Rattle.qm_step.specs.declared.decided.Decided as declared
use Rattle.qm_step.specs.Rings.{touch_in}
use Rattle.qm_step.specs.Touches.{Touch, IsFrom, IsKeyed, Once, operations_of}
use Rattle.qm_step.proofs.Touched.{touched-from, touched-operations}
use Rattle.qm_step.proofs.PlanCounts.{Stood, count-behind}

-- a count by what is shown
pub count-shown : {A X : Type 0} (p : X → Bool) (f : A → X) (xs : List A) → count_by (λ x. p (f x)) xs ≡ count_by p (map f xs)
count-shown p f [] = refl
count-shown p f (x ∷ xs) =
    sum_by-cons (λ x. cond (p (f x)) 1 0) x xs ∙ ap (λ n. cond (p (f x)) 1 0 + n) (count-shown p f xs) ∙ sym (sum_by-cons (λ y. cond (p y) 1 0) (f x) (map f xs))

-- where a key stood, one is live
stood-live : (base : List Operation) (t : Touch) → IsFrom base t → Stood base t
stood-live base t from = λ key hit. ap is_some (from key hit) ∙ some-map (λ (p : ℕ × Bytes). p.0) (stands_at base key) ∙ some-map (λ (e : Live). (e.location, e.value)) (live_of (live base) key)

module _ {P : Type 0} (kind : Kind) (rules : Rules P) (policy next : P) (base : List Operation) (ws : List Write) (made : List Touch) (operations : operations_of made ≡ kind.writes base ws)
    (from : All (IsFrom base) made) (keyed : All IsKeyed made) (once : Once (operations_of made)) (keys behind : ℕ) (all : keys ≡ length (live base))
    (count : behind ≡ keys - count_by (λ t. is_some t.before) made + count_by (λ t. is_update t.operation) made) where
  abbrev writes : List Operation
  writes = kind.writes base ws

  counted : behind ≡ length (live (base ++ writes))
  counted =
      count-behind base made (recursion_from_All IsKeyed made keyed) (recursion_from_All (Stood base) made (All-weaker (IsFrom base) (Stood base) (stood-live base) made from)) once keys behind all count
      ∙ ap (λ ops. length (live (base ++ ops))) operations

  -- how many operations the writes make inactive
  pub are-inactive : length made + keys - behind ≡ made_inactive base writes
  are-inactive =
      let long : length writes ≡ length made = ap length (sym operations) ∙ length-map made (λ (t : Touch). t.operation) in
      ap₂ (λ a b. a + keys - b) (sym long) counted ∙ ap (λ n. length writes + n - length (live (base ++ writes))) all

  abbrev limits : Limits
  limits = rules.limits policy (made_inactive base writes)

  abbrev walked : Walked P
  walked = walk rules (base ++ writes) (floor base) limits policy

  module _ (ds : List Decided) (es : List (Bytes × Bytes)) (end : ℕ) (are : AreDecided base (base ++ writes) ds es end next walked) (counts : CountsMoves kind.moves) where
    abbrev decisions : List Operation
    decisions = kind.moves (base ++ writes) (map write_for ds)

    abbrev moved : List Touch
    moved = map (touch_in base) decisions

    own-operations : operations_of (made ++ moved) ≡ writes ++ decisions
    own-operations =
        map-append (λ (t : Touch). t.operation) made moved ∙ ap₂ (λ a b. a ++ b) operations (touched-operations base decisions)

    own-list : base ++ operations_of (made ++ moved) ≡ (base ++ writes) ++ decisions
    own-list = ap (λ ops. base ++ ops) own-operations ∙ sym (append_assoc base writes decisions)

    own-count : behind - count_by (λ d. is_none d.value) ds ≡ length (live (base ++ operations_of (made ++ moved)))
    own-count =
        let same : map write_for ds ≡ walked.decisions = ap (λ (x : Walked P). x.decisions) are.makes in
        let single : IsDistinct bytes_eq (map (λ (d : Write). d.key) (map write_for ds)) =
        subst (λ (us : List Write). IsDistinct bytes_eq (map (λ (d : Write). d.key) us)) (sym same) (decided-once rules (base ++ writes) (floor base) limits policy) in
        let alive : All (λ (d : Write). contains_key (live_keys (base ++ writes)) d.key ≡ true) (map write_for ds) =
        subst (All (λ (d : Write). contains_key (live_keys (base ++ writes)) d.key ≡ true)) (sym same) (decided-live rules (base ++ writes) (floor base) limits policy) in
        let gone = counts (base ++ writes) (map write_for ds) single alive in
        let shown : count_by (λ (d : Decided). is_none d.value) ds ≡ count_by (λ (d : Write). is_none d.value) (map write_for ds) = count-shown (λ (d : Write). is_none d.value) write_for ds in
        let list = ap (λ ops. length (live ops)) own-list in
        omega (arith, gone, shown, list, counted)

    pub are-own : AreOwn kind rules policy next (made ++ map (touch_in base) (kind.moves (base ++ kind.writes base ws) (map write_for ds))) es (behind - count_by (λ d. is_none d.value) ds) end base ws
    are-own = record {
      from = All-append (IsFrom base) made moved from (All-from_recursion (IsFrom base) moved (touched-from base decisions));
      count = own-count;
      list = λ meta.
          ap (λ ops. committed ops end meta) own-list
          ∙ ap (λ (x : Walked P). committed ((base ++ writes) ++ kind.moves (base ++ writes) x.decisions) x.floor meta) are.makes;
      left = ap (λ (x : Walked P). x.policy) are.makes;
      told = are.told ∙ ap (λ (x : Walked P). evicted_of (base ++ writes) x.decisions) are.makes;
    }

-- a walk decides each key once
pub decided-apart : {P : Type 0} (rules : Rules P) (base list : List Operation) (from : ℕ) (limits : Limits) (policy next : P) (ds : List Decided) (es : List (Bytes × Bytes)) (end : ℕ) → AreDecided base list ds es end next (walk rules list from limits policy) →
    IsDistinct bytes_eq (map (λ d. d.key) (map write_for ds))
decided-apart {P} rules base list from limits policy next ds es end are =
    subst (λ (us : List Write). IsDistinct bytes_eq (map (λ (d : Write). d.key) us)) (sym (ap (λ (x : Walked P). x.decisions) are.makes)) (decided-once rules list from limits policy)

-- the operations of writes stand after a base list and make the one with them
pub written-behind : (kind : Kind) (known : Base) (made : List Touch) (lent base : List Operation) (ws : List Write) → IsBase known lent base → AreWritten kind base ws made → AreBehind known made lent base (base ++ kind.writes base ws)
written-behind kind known made lent base ws is written replaced are = record {
  known = is;
  makes = ap (λ ops. base ++ ops) written.operations;
  from = written.from;
  keyed = written.keyed;
  once = written.once;
  replaced = are;
}

-- how many of the decided keys go
pub evicted-shown : {K V : Type 0} (key : K → Bytes) (value : V → Bytes) (ds : List (declared.Decided K V)) → count_by (λ d. is_none d.value) (decided_views key value ds) ≡ count_by (λ d. is_none d.value) ds
evicted-shown key value [] = refl
evicted-shown {K} {V} key value (d ∷ ds) =
    sum_by-cons (λ (d : Decided). cond (is_none d.value) 1 0) (decided_view key value d) (decided_views key value ds)
    ∙ ap₂ (λ (a : Bool) (b : ℕ). cond a 1 0 + b) (none d.value) (evicted-shown key value ds)
    ∙ sym (sum_by-cons (λ (d : declared.Decided K V). cond (is_none d.value) 1 0) d ds)
  where
    none : (o : Option V) → is_none (option_map value o) ≡ is_none o
    none None = refl
    none (Some v) = refl

-- a list's operations with one after them, as the program has them
pub operations-push : {A O : Type 0} (view : O → Operation) (f : A → Touch) (operation : A → O) (same : (a : A) → (f a).operation ≡ view (operation a)) (touches : List A) (made all : List O) (last : O) (op : Operation) →
    made ≡ map operation touches → all ≡ made ++ last ∷ [] → view last ≡ op → map view all ≡ operations_of (map f touches) ++ op ∷ []
operations-push {A} view f operation same touches made all last op is pushed shown =
    ap (map view) pushed ∙ map-append view made (last ∷ []) ∙ ap₂ (λ xs x. xs ++ x ∷ []) (ap (map view) is ∙ each touches) shown
  where
    each : (ts : List A) → map view (map operation ts) ≡ operations_of (map f ts)
    each [] = refl
    each (t ∷ ts) = ap₂ (λ x xs. x ∷ xs) (sym (same t)) (each ts)

-- how long a base list with own operations is
pub own-length : {A : Type 0} (f : A → Touch) (base : List Operation) (touches : List A) (size : ℕ) → size ≡ length base → size + length touches ≡ length (base ++ operations_of (map f touches))
own-length f base touches size is =
    omega (arith, is, length-append base (operations_of (map f touches)), length-map (map f touches) (λ (t : Touch). t.operation), length-map touches f)
