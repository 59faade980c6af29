-- What each status says, from what the lines' answering gave.
use Rattle.std.proofs.Common.{◌≡◌, ◌⊎◌, ◌+◌, ◌<◌, ◌≤◌, ◌==◌, Bool, true, false, cond, ℕ, List, [], ◌++◌, length, take, Option, Some, None, arith, refl, sym, ◌∙◌, ap, subst, inl, inr, append-nil, IfSome}
use Rattle.std.specs.Prelude.{option_map, is_some, IsSome, nat_lt, bytes_eq, codes, ◌∷◌, ◌||◌}
use Rattle.std.specs.Option.{option_and_then}
use Rattle.std.proofs.lemmas.Bool.{false≢true}
use Rattle.std.proofs.lemmas.Bool.Decides.{nat_tests}
use Rattle.std.proofs.lemmas.List.{take_all}
use Rattle.std.proofs.lemmas.Slice.Eq.{bytes_eq-Decides}
use Rattle.qm_model.specs.Causes.{Grows, GrowsPart}
use Rattle.qm_model.specs.Operations.{Bytes}
use Rattle.qm_model.specs.Own.{Log, IsOwn}
use Rattle.qm_model.specs.StoreModel.{Stored}
use Rattle.qm_model.specs.Policies.{policies}
use Rattle.qm_machine.specs.Grammar.{commands_in, bad_in}
use Rattle.qm_model.specs.Schemes.{Scheme, chunks_of, engine_of}
use Rattle.qm_engine.specs.Answered.{IsAnswered}
use Rattle.qm_filling.specs.Says.{fault_text}
use Rattle.qm_run.specs.Program.{count, state, model_text, IsApart, IsOwnAt, bad_text, IsPartial, SaysOver, Says, machine_of, machine_asked, kind_of_four, kind_of_words, kind_of_databases, fill_words, check_words}
use Rattle.qm_fill.specs.declared.words.Fill.{Fill}
use Rattle.qm_fill.specs.Words.{fill_of, fill_named}
use Rattle.qm_checking.specs.Checking.{Asked, asked_of}
use Rattle.qm_run.specs.declared.kind.Named.{Named}
use Rattle.qm_run.specs.Endings.{tail_text, tail_status}
use Rattle.qm_engine.specs.declared.answers.Ending.{Ending}
use Rattle.qm_engine.specs.declared.answers.Ending.TheVariants.{Done, BadLine, Memory, StoreFault}
use Rattle.qm_engine.proofs.Loops.{log-of}
use Rattle.qm_engine.proofs.Owned.{none-left}

module _ (m : Scheme) (log : Log) (choices : List ℕ) (input : Bytes) (rose : Type 0) where
  pub says_nothing : (s : ℕ) (left : Option Stored) → (s ≡ 1) ⊎ ((s ≡ 3) ⊎ (s ≡ 7)) → SaysOver m log choices input s rose [] left
  says_nothing s left h = record {
    all = λ e. absurd (grind (arith, h, e));
    bad = λ e. absurd (grind (arith, h, e));
    fault = λ e. absurd (grind (arith, h, e));
    part = λ e. absurd (grind (arith, h, e));
    nothing = λ _. refl;
  }

  pub says_part : (s : ℕ) (written : Bytes) (left : Option Stored) (k : ℕ) → (s ≡ 4) ⊎ (s ≡ 5) → IsPartial m log choices input rose written left k → SaysOver m log choices input s rose written left
  says_part s written left k h p = record {
    all = λ e. absurd (grind (arith, h, e));
    bad = λ e. absurd (grind (arith, h, e));
    fault = λ e. absurd (grind (arith, h, e));
    part = λ _. (k, p);
    nothing = λ e. absurd (grind (arith, h, e));
  }

  -- no command was tried
  pub says_unstarted : (stored : Stored) → IsOwn (engine_of m policies) log stored → SaysOver m log choices input 5 rose [] (Some stored)
  says_unstarted stored own = says_part 5 [] (Some stored) 0 (inr refl) (record {
    few = omega arith;
    part = λ _. inl (0, refl);
    store_left = λ _. none-left m policies (Some stored) log (state m log choices input 1).log (log-of m policies (Some stored) stored log refl own) own.kept;
  })

  -- what an ending says of the first k commands: those before a bad line or the end are all, those before a fault are not
  abbrev pub IsWhole : ℕ → Ending → Type 0
  IsWhole k Done = (k ≡ count m log choices input) × (bad_in input ≡ None)
  IsWhole k BadLine = (k ≡ count m log choices input) × (bad_in input ≡ Some (k + 1))
  IsWhole k Memory = Unit {0}
  IsWhole k StoreFault = rose × (k < count m log choices input)

  pub is_whole : (k : ℕ) (ending : Ending) → (ending ≡ Done → (k ≡ count m log choices input) × (bad_in input ≡ None)) → (ending ≡ BadLine → (k ≡ count m log choices input) × (bad_in input ≡ Some (k + 1)))
      → (ending ≡ StoreFault → rose) → (ending ≡ StoreFault → k < count m log choices input) → IsWhole k ending
  is_whole k Done done bad fault short = done refl
  is_whole k BadLine done bad fault short = bad refl
  is_whole k Memory done bad fault short = tt
  is_whole k StoreFault done bad fault short = (fault refl, short refl)

  module _ (text : Bytes) (k : ℕ) (left : Option Stored) (answered : IsAnswered m policies log choices (commands_in input) k text left) where
    pub partial : (ending : Ending) → IsWhole k ending → (n : ℕ) → IsPartial m log choices input rose (take n (text ++ tail_text ending k)) left k
    partial Done is n = record { few = answered.few; part = λ apart. inl (n, rw append-nil (ap (take n) (answered.same apart))); store_left = answered.left }
    partial BadLine is n = record { few = answered.few; part = λ apart. inr (inr (k + 1, is.1, is.0, (n, ap (λ t. take n (t ++ bad_text (k + 1))) (answered.same apart)))); store_left = answered.left }
    partial Memory is n = record { few = answered.few; part = λ apart. inl (n, rw append-nil (ap (take n) (answered.same apart))); store_left = answered.left }
    partial StoreFault is n = record { few = answered.few; part = λ apart. inr (inl (is.0, is.1, (n, ap (λ t. take n (t ++ fault_text)) (answered.same apart)))); store_left = answered.left }

    -- all commands answered: the text, and the store
    finished : k ≡ count m log choices input → IsApart m log choices input (count m log choices input) → (text ≡ model_text m log choices input (count m log choices input)) × IsOwnAt m log choices input left (count m log choices input)
    finished e apart =
        let apart_here : IsApart m log choices input k = subst (IsApart m log choices input) (sym e) apart in
        (answered.same apart_here ∙ ap (model_text m log choices input) e, subst (IsOwnAt m log choices input left) e (answered.whole e apart_here))

    pub whole : (ending : Ending) → IsWhole k ending → SaysOver m log choices input (tail_status ending) rose (text ++ tail_text ending k) left
    whole Done is = record {
      all = λ _. (is.1, λ apart. let f = finished is.0 apart in (append-nil text ∙ f.0, f.1));
      bad = λ e. absurd (omega arith);
      fault = λ e. absurd (omega arith);
      part = λ e. absurd (grind (arith, e));
      nothing = λ e. absurd (grind (arith, e));
    }
    whole BadLine is = record {
      all = λ e. absurd (omega arith);
      bad = λ _. (k + 1, is.1, λ apart. let f = finished is.0 apart in (ap (λ t. t ++ bad_text (k + 1)) f.0, f.1));
      fault = λ e. absurd (omega arith);
      part = λ e. absurd (grind (arith, e));
      nothing = λ e. absurd (grind (arith, e));
    }
    whole Memory is = says_part 5 (text ++ []) left k (inr refl)
        (subst (λ w. IsPartial m log choices input rose w left k) (take_all (length (text ++ [])) (text ++ []) (omega arith)) (partial Memory is (length (text ++ []))))
    whole StoreFault is = record {
      all = λ e. absurd (omega arith);
      bad = λ e. absurd (omega arith);
      fault = λ _. (k, is.1, λ apart. (ap (λ t. t ++ fault_text) (answered.same apart), answered.left apart));
      part = λ e. absurd (grind (arith, e));
      nothing = λ e. absurd (grind (arith, e));
    }

-- What a sink tells, and what a status says of it.
module _ (m : Scheme) (stored : Stored) (input : Bytes) (status : ℕ) (rose : Type 0) (left : Option Stored) where
  abbrev pub Told : Option Bytes → Option Bytes → Type 0
  Told old new = IfSome old (λ before. (written : Bytes) × (new ≡ Some (before ++ written)) × Says m stored input status rose written left)

  pub unchanged : (text : Option Bytes) → Says m stored input status rose [] left → Told text text
  unchanged None says = tt
  unchanged (Some before) says = ([], ap Some (sym (append-nil before)), says)

  pub grown : (old new : Option Bytes) (text : Bytes) → Grows old new text → Says m stored input status rose text left → Told old new
  grown None new text g says = tt
  grown (Some before) new text g says = (text, g, says)

  pub grown_part : (old new : Option Bytes) (text : Bytes) → GrowsPart old new text → ((n : ℕ) → Says m stored input status rose (take n text) left) → Told old new
  grown_part None new text g says = tt
  grown_part (Some before) new text g says = (take g.0 text, g.1, says g.0)

pub each_input : (o : Option Bytes) {Q : Bytes → Type 0} → ((x : Bytes) → Q x) → IfSome o Q
each_input None h = tt
each_input (Some x) h = h x

pub each_more : {A : Type 0} (o : Option A) {P Q : A → Type 0} → IfSome o P → ((x : A) → o ≡ Some x → P x → Q x) → IfSome o Q
each_more None p h = tt
each_more (Some x) p h = h x refl p

-- each of two
pub both : {A B : Type 0} (o : Option A) (i : Option B) {P : A → Type 0} {R : B → Type 0} {Q : A → B → Type 0} → IfSome o P → IfSome i R → ((x : A) (y : B) → P x → R y → Q x y)
    → IfSome o (λ x. IfSome i (Q x))
both None i p r h = tt
both (Some x) None p r h = tt
both (Some x) (Some y) p r h = h x y p r

-- if no kind is named
pub at_none : (kind : Option Named) (Q : Scheme → Type 0) → kind ≡ None → IfSome (option_map machine_of kind) Q
at_none kind Q is = subst (λ k. IfSome (option_map machine_of k) Q) (sym is) tt

-- at the machine of a kind
pub at_kind : (kind : Option Named) (named : Named) (Q : Scheme → Type 0) → kind ≡ Some named → Q (machine_of named) → IfSome (option_map machine_of kind) Q
at_kind kind named Q is given = subst (λ k. IfSome (option_map machine_of k) Q) (sym is) given

-- the chunks of the databases that are named
pub named-chunks : (kind : Option Named) (fill : Option (Fill × Named)) (named : Named) → kind ≡ Some named → option_and_then chunks_of (machine_asked kind fill) ≡ chunks_of (machine_of named)
named-chunks kind fill named is = ap (λ k. option_and_then chunks_of (machine_asked k fill)) is

pub filled-chunks : (kind : Option Named) (fill : Option (Fill × Named)) (asked : Fill × Named) → kind ≡ None → fill ≡ Some asked → option_and_then chunks_of (machine_asked kind fill) ≡ chunks_of (machine_of asked.1)
filled-chunks kind fill asked none is = ap (λ k. option_and_then chunks_of (machine_asked k fill)) none ∙ ap (λ f. option_and_then chunks_of (machine_asked None f)) is

-- what is said of what is not there, or is this one
pub if_none : {A : Type 0} (o : Option A) (Q : A → Type 0) → o ≡ None → IfSome o Q
if_none o Q is = subst (λ x. IfSome x Q) (sym is) tt

-- what is said of what is there
pub if_there : {A : Type 0} (o : Option A) (x : A) (Q : A → Type 0) → o ≡ Some x → IfSome o Q → Q x
if_there o x Q is given = subst (λ y. IfSome y Q) is given

pub if_some : {A : Type 0} (o : Option A) (x : A) (Q : A → Type 0) → o ≡ Some x → Q x → IfSome o Q
if_some o x Q is given = subst (λ y. IfSome y Q) (sym is) given

-- words of a fill are none of a run
no_run : (a b c d : Bytes) → bytes_eq a (codes "fill") ≡ true → kind_of_four a b c d ≡ None
no_run a b c d is = ap (λ (w : Bytes). kind_of_four w b c d) ((bytes_eq-Decides a (codes "fill")).0 is)

named_fill : (name a b : Bytes) (fill : Fill) → fill_named name a b ≡ Some fill → bytes_eq name (codes "fill") ≡ true
named_fill name a b fill is = by (bytes_eq name (codes "fill")) refl
  where
    none-is : None ≡ Some fill → ⊥
    none-is e = cc

    by : (t : Bool) → bytes_eq name (codes "fill") ≡ t → t ≡ true
    by true e = refl
    by false e = absurd (none-is (sym (ap (λ (t : Bool). cond t (fill_of a b) None) e) ∙ is))

pub not_run : (ws : List Bytes) (asked : Fill × Named) → fill_words ws ≡ Some asked → kind_of_words ws ≡ None
not_run [] asked is = refl
not_run (a ∷ []) asked is = refl
not_run (a ∷ b ∷ []) asked is = refl
not_run (a ∷ b ∷ c ∷ []) asked is = refl
not_run (a ∷ b ∷ c ∷ d ∷ []) asked is = by (fill_named a b c) refl
  where
    nothing : None ≡ Some asked → ⊥
    nothing e = cc

    by : (o : Option Fill) → fill_named a b c ≡ o → kind_of_four a b c d ≡ None
    by None e = absurd (nothing (sym (ap (λ (o : Option Fill). option_and_then (λ (found : Fill × List Bytes). option_map (λ named. (found.0, named)) (kind_of_databases found.1)) (option_map (λ fill. (fill, d ∷ [])) o)) e) ∙ is))
    by (Some fill) e = no_run a b c d (named_fill a b c fill e)
not_run (a ∷ b ∷ c ∷ d ∷ e ∷ ws) asked is = refl

-- numbers that a test tells apart
pub differ : (a b : ℕ) → (a == b) ≡ false → a ≡ b → ⊥
differ a b apart same = grind (arith, nat_tests)

pub no_four : {P : Type 0} (s a b c d : ℕ) → (s == a) ≡ false → (s == b) ≡ false → (s == c) ≡ false → (s == d) ≡ false → (s ≡ a) ⊎ ((s ≡ b) ⊎ ((s ≡ c) ⊎ (s ≡ d))) → P
no_four s a b c d p q r t (inl e) = absurd (differ s a p e)
no_four s a b c d p q r t (inr (inl e)) = absurd (differ s b q e)
no_four s a b c d p q r t (inr (inr (inl e))) = absurd (differ s c r e)
no_four s a b c d p q r t (inr (inr (inr e))) = absurd (differ s d t e)

pub at_most_seven : (s : ℕ) → nat_lt s 8 ≡ true → s ≤ 7
at_most_seven s below = grind (arith, nat_tests)

pub not_both : {a b : ℕ} → a < b → b ≤ a → ⊥
not_both p q = omega arith

-- the statuses of lines that were answered
abbrev pub Served : ℕ → Type 0
Served s = (s ≡ 0) ⊎ ((s ≡ 2) ⊎ ((s ≡ 4) ⊎ ((s ≡ 5) ⊎ (s ≡ 6))))

served-numbers : {s : ℕ} → Served s → (s ≤ 7) × (((s ≡ 1) ⊎ ((s ≡ 3) ⊎ (s ≡ 7))) → ⊥)
served-numbers served = (grind (arith, served), λ early. grind (arith, served, early))

pub served-few : {s : ℕ} → Served s → s ≤ 7
served-few served = (served-numbers served).0

pub served-not_early : {P : Type 0} {s : ℕ} → Served s → (s ≡ 1) ⊎ ((s ≡ 3) ⊎ (s ≡ 7)) → P
served-not_early served early = absurd ((served-numbers served).1 early)

pub served-good : {s : ℕ} {bad : Option ℕ} → Served s → (s ≡ 2 → IsSome bad) → (s ≡ 4 → ⊥) → (s ≡ 6 → ⊥) → bad ≡ None → (s ≡ 0) ⊎ (s ≡ 5)
served-good (inl e) some write store none = inl e
served-good (inr (inl e)) some write store none = let is = some e in absurd (cc (is, none))
served-good (inr (inr (inl e))) some write store none = absurd (write e)
served-good (inr (inr (inr (inl e)))) some write store none = inr e
served-good (inr (inr (inr (inr e)))) some write store none = absurd (store e)

pub served-bad : {s : ℕ} {bad : Option ℕ} → Served s → (n : ℕ) → (s ≡ 0 → bad ≡ None) → (s ≡ 4 → ⊥) → (s ≡ 6 → ⊥) → bad ≡ Some n → (s ≡ 2) ⊎ (s ≡ 5)
served-bad (inl e) n none write store some = let is = none e in absurd (cc (is, some))
served-bad (inr (inl e)) n none write store some = inl e
served-bad (inr (inr (inl e))) n none write store some = absurd (write e)
served-bad (inr (inr (inr (inl e)))) n none write store some = inr e
served-bad (inr (inr (inr (inr e)))) n none write store some = absurd (store e)

-- a test of one of two
pub or_left : (a b : Bool) → a ≡ true → (a || b) ≡ true
or_left a b is = ap (λ x. x || b) is

pub or_right : (a b : Bool) → b ≡ true → (a || b) ≡ true
or_right true b is = refl
or_right false b is = is

pub or_none : (a b : Bool) → a ≡ false → b ≡ false → (a || b) ≡ false
or_none a b is none = ap (λ x. x || b) is ∙ none

-- the statuses of a fill
abbrev pub Filled : ℕ → Type 0
Filled s = (s ≡ 0) ⊎ ((s ≡ 4) ⊎ ((s ≡ 5) ⊎ (s ≡ 6)))

pub filled-served : {s : ℕ} → Filled s → Served s
filled-served (inl e) = inl e
filled-served (inr e) = inr (inr e)

pub filled-not_bad : {P : Type 0} {s : ℕ} → Filled s → s ≡ 2 → P
filled-not_bad filled bad = absurd (grind (arith, filled, bad))

pub filled-good : {s : ℕ} → Filled s → (s ≡ 4 → ⊥) → (s ≡ 6 → ⊥) → (s ≡ 0) ⊎ (s ≡ 5)
filled-good (inl e) write store = inl e
filled-good (inr (inl e)) write store = absurd (write e)
filled-good (inr (inr (inl e))) write store = inr e
filled-good (inr (inr (inr e))) write store = absurd (store e)

-- words of a check are none of a run, and none of a fill
pub no_other : (ws : List Bytes) (asked : Asked) → check_words ws ≡ Some asked → (kind_of_words ws ≡ None) × (fill_words ws ≡ None)
no_other [] asked is = (refl, refl)
no_other (name ∷ ws) asked is = subst (λ (w : Bytes). (kind_of_words (w ∷ ws) ≡ None) × (fill_words (w ∷ ws) ≡ None)) (sym ((bytes_eq-Decides name (codes "check")).0 named)) (others ws)
  where
    nothing : None ≡ Some asked → ⊥
    nothing e = cc

    by : (t : Bool) → bytes_eq name (codes "check") ≡ t → t ≡ true
    by true e = refl
    by false e = absurd (nothing (sym (ap (λ (t : Bool). cond t (asked_of 32 ws) None) e) ∙ is))

    named : bytes_eq name (codes "check") ≡ true
    named = by (bytes_eq name (codes "check")) refl

    others : (ws : List Bytes) → (kind_of_words (codes "check" ∷ ws) ≡ None) × (fill_words (codes "check" ∷ ws) ≡ None)
    others [] = (refl, refl)
    others (b ∷ []) = (refl, refl)
    others (b ∷ c ∷ []) = (refl, refl)
    others (b ∷ c ∷ d ∷ []) = (refl, refl)
    others (b ∷ c ∷ d ∷ e ∷ ws) = (refl, refl)

pub or_first : (a b : Bool) → (a || b) ≡ false → a ≡ false
or_first true b is = is
or_first false b is = refl

-- a test whether something is there
pub there : {A : Type 0} (o : Option A) → is_some o ≡ true → (x : A) × (o ≡ Some x)
there None is = absurd (false≢true is)
there (Some x) is = (x, refl)

pub not_there : {A : Type 0} (o : Option A) → is_some o ≡ false → o ≡ None
not_there None is = refl
not_there (Some x) is = absurd (false≢true (sym is))

-- the statuses of a check
pub checked-numbers : {s : ℕ} → (s ≡ 0) ⊎ ((s ≡ 2) ⊎ ((s ≡ 3) ⊎ ((s ≡ 4) ⊎ ((s ≡ 5) ⊎ (s ≡ 7))))) → (s ≤ 7) × (s ≡ 1 → ⊥) × (s ≡ 6 → ⊥)
checked-numbers (inl e) = (omega (arith, e), λ one. omega (arith, e, one), λ six. omega (arith, e, six))
checked-numbers (inr (inl e)) = (omega (arith, e), λ one. omega (arith, e, one), λ six. omega (arith, e, six))
checked-numbers (inr (inr (inl e))) = (omega (arith, e), λ one. omega (arith, e, one), λ six. omega (arith, e, six))
checked-numbers (inr (inr (inr (inl e)))) = (omega (arith, e), λ one. omega (arith, e, one), λ six. omega (arith, e, six))
checked-numbers (inr (inr (inr (inr (inl e))))) = (omega (arith, e), λ one. omega (arith, e, one), λ six. omega (arith, e, six))
checked-numbers (inr (inr (inr (inr (inr e))))) = (omega (arith, e), λ one. omega (arith, e, one), λ six. omega (arith, e, six))
