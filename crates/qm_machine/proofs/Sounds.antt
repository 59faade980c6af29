-- Every command keeps a run over an own store sound.
use Rattle.std.proofs.Common.{◌≡◌, ◌⊎◌, inl, inr, ℕ, suc, zero, ◌≤◌, Bool, true, false, cond, List, [], ◌∷◌, ◌++◌, length, take, get_or, set, Option, Some, None, refl, sym, ap, ◌∙◌, subst, arith, le_refl, le_of_eq, length-take-le, append_assoc}
use Rattle.std.specs.Prelude.{Contains, All, IfSome, ◌==◌, ◌&&◌, ◌*◌, ◌/◌, min, max, nat_lt, ◌^◌, option_map}
use Rattle.std.specs.Option.{option_or}
use native.Mathlib.Nat.{zero-div}
use Rattle.std.proofs.Math.Seq.{take-length, take-append_seam}
use Rattle.std.proofs.Math.Nat.{le_trans}
use Rattle.std.proofs.lemmas.Bool.{cases_lt, ltb-false}
use Rattle.std.proofs.lemmas.Nat.{div-add-mod'}
use Rattle.std.proofs.lemmas.List.Elements.{All-nil}
use Rattle.qm_model.specs.Operations.{Bytes, Operation, fresh, IsCommitEnded}
use Rattle.qm_model.specs.Forms.{Form, IsOf}
use Rattle.qm_model.specs.Live.{floor}
use Rattle.qm_model.specs.Walk.{Rules}
use Rattle.qm_model.specs.Writes.{Write}
use Rattle.qm_model.specs.Slots.{slotted}
use Rattle.qm_model.specs.Slots as slots
use Rattle.qm_model.specs.Ordered.{IsRing}
use Rattle.qm_model.specs.Step.{Kind, Made, IsGood, first, next, step, evicted_by, ordered, unordered}
use Rattle.qm_model.specs.Batches.{Chain, Apart, IsAmong, IsRising, Begins, commitment, fits, readable}
use Rattle.qm_model.specs.Grafted.{boundary}
use Rattle.qm_model.specs.Own.{Engine, Log, no_log, left_at, ArePrompt, ArePruned, IsKept, Takes, OpensParts, settled_list, ended_size, ended_part, KeepsCount}
use Rattle.qm_model.specs.Policies.{policies}
use Rattle.qm_model.proofs.Crashes.{keeps-count}
use Rattle.qm_model.specs.Opening.{Chunks, Opening, refuses, opens, opening, opened_list}
use Rattle.qm_model.specs.Ranges.{key_above, key_below}
use Rattle.qm_model.specs.Refused.{Refused, Merkle, LocationOverflow}
use Rattle.qm_model.specs.Refusals.{tip_refusal, proof_refusal, range_refusal, too_many}
use Rattle.qm_model.specs.Checks.{Checks}
use Rattle.qm_model.specs.Live.{Live, live, live_of}
use Rattle.qm_model.proofs.Chains.{Contains-more, Contains-first, IsAmong-more, begun-among, child-among, take-least, Begins-self, Begins-length, Begins-through, begun-rising, child-rising, known-begins, on_chain-fits}
use Rattle.qm_model.proofs.Steps as steps
use Rattle.qm_model.proofs.OrderedSteps.{made-ordered}
use Rattle.qm_model.proofs.Prefixes.{unordered-begins, ordered-begins}
use Rattle.qm_model.proofs.Boundaries.{boundary-rises}
use Rattle.qm_model.proofs.Openings.{IsPart, ended-part, ended-whole, unordered-parts, ordered-parts, unordered-left, ordered-left, unordered-keeps, ordered-keeps}
use Rattle.qm_machine.specs.Lines.{Line, Open, Batch, Child, Tip, Put, Del, Merkleize, Stage, Expand, Resolve, Apply, Ops, Evicted, Get, Many, Next, Prev, Span, Range, Keys, Info, BatchInfo, Root, BatchRoot, BatchProof, Meta, Prove, Pins, Question, Held, Absent, Witness, Current, Prune, Commit, Sync, Close, Destroy, Crash, Answer}
use Rattle.qm_machine.specs.Lines as lines
use Rattle.qm_machine.specs.Machine.{State, Slot, gone, writing, staged, merkleized, turn, slot_at, with_slot, initial, started, start_child, put_in, list_operations, list_evicted, with_database, closed, settled, commit, restarted, opened_as, if_any, if_current, if_absences, held_at, absent_at, if_checked, asked, answered, found_in, unless, merkleize_tip, merkleize_writes, merkleize_in, resolve_in, apply_in, if_readable, if_staged, stage_in, expand_in, read_in, read, if_ordered, neighbour_in, neighbour_of, info_in, root_in, proof_in, pruned, prune_in}
use Rattle.qm_model.specs.Schemes.{Scheme, Grafts, takes, chunks_of, chunks_after, kind_of, engine_of, layout_of, HasBounds}
use Rattle.qm_model.specs.Held.{pins_lacked, proof_lacked}
use Rattle.qm_machine.specs.Sound.{IsSoundSlot, IsSteady, IsSound}

-- Slots.

slot-more : (had : List (List Operation)) (new : List Operation) (slot : Slot) → IsSoundSlot had slot → IsSoundSlot (new ∷ had) slot
slot-more had new gone is = tt
slot-more had new (writing chain parent ws) is = (IsAmong-more had new chain is.0, is.1)
slot-more had new (staged chain parent ws keys) is = (IsAmong-more had new chain is.0, is.1)
slot-more had new (merkleized chain tip evicted) is = (IsAmong-more had new chain is.0, is.1, Contains-more had new tip is.2, is.3)

set-each : (P : Slot → Type 0) (table : List Slot) (i : ℕ) (slot : Slot) → P gone → P slot → ((h : ℕ) → P (get_or table h gone)) → (h : ℕ) → P (get_or (set table i slot) h gone)
set-each P [] i slot none is each h = none
set-each P (a ∷ table) zero slot none is each zero = is
set-each P (a ∷ table) zero slot none is each (suc h) = each (suc h)
set-each P (a ∷ table) (suc i) slot none is each zero = each zero
set-each P (a ∷ table) (suc i) slot none is each (suc h) = set-each P table i slot none is (λ k. each (suc k)) h

push-each : (P : Slot → Type 0) (table : List Slot) (slot : Slot) → P gone → P slot → ((h : ℕ) → P (get_or table h gone)) → (h : ℕ) → P (get_or (table ++ slot ∷ []) h gone)
push-each P [] slot none is each zero = is
push-each P [] slot none is each (suc h) = none
push-each P (a ∷ table) slot none is each zero = each zero
push-each P (a ∷ table) slot none is each (suc h) = push-each P table slot none is (λ k. each (suc k)) h

-- a step begins with its base
begins-behind : (xs ys bs cs : List Operation) → take (length xs) (((xs ++ ys) ++ bs) ++ cs) ≡ xs
begins-behind xs ys bs cs = ap (take (length xs)) (append_assoc (xs ++ ys) bs cs ∙ append_assoc xs ys (bs ++ cs)) ∙ take-append_seam xs (ys ++ (bs ++ cs))

step-begins : {P : Type 0} (kind : Kind) (rules : Rules P) (ops : List Operation) (ws : List Write) (policy : P) (meta : Option Bytes) → Begins ops (step kind rules ops ws policy meta)
step-begins kind rules ops ws policy meta = begins-behind ops (kind.writes ops ws) (kind.moves (ops ++ kind.writes ops ws) _) _

-- the tip of a batch is no longer than a list may be
behind-none : (o p : Option Refused) → option_or o p ≡ None → p ≡ None
behind-none None p is = is
behind-none (Some r) p is = absurd (cc)

few-enough : (n : ℕ) → too_many n ≡ None → n ≤ 2 ^ 62
few-enough n is = by (nat_lt (2 ^ 62) n) refl is
  where
    by : (b : Bool) → nat_lt (2 ^ 62) n ≡ b → cond b (Some (Merkle (LocationOverflow n))) None ≡ None → n ≤ 2 ^ 62
    by false less none = ltb-false (2 ^ 62) n less
    by true less none = absurd (cc)

short-tip : (form : Form) (chain : Chain) (tip : List Operation) → tip_refusal form chain tip ≡ None → length tip ≤ 2 ^ 62
short-tip form chain tip none = few-enough (length tip) (behind-none _ (too_many (length tip)) none)

-- what steps made is no longer than a list may be
made-few : {P : Type 0} (kind : Kind) (rules : Rules P) (ops : List Operation) → Made kind rules ops → length ops ≤ 2 ^ 62
made-few kind rules ops first = omega arith
made-few kind rules ops (next before ws policy meta made few) = few

-- Logs.

take-begins : (n : ℕ) (list : List Operation) → Begins (take n list) list
take-begins zero list = refl
take-begins (suc n) [] = refl
take-begins (suc n) (op ∷ list) = ap (λ ops. op ∷ ops) (take-begins n list)

module _ (m : Scheme) {P : Type 0} (rules : Rules P) where
  -- databases of a kind, in this layout
  abbrev of_kind : Bool → Engine P
  of_kind b = record { kind = cond b ordered unordered; rules = rules; hash = m.hash; layout = layout_of m }

  -- an opening takes up a beginning, whichever kind of database it is
  opens-parts : ArePrompt (chunks_of m) m.shape → OpensParts (engine_of m rules)
  opens-parts prompt = by m.form.ordered
    where
      by : (b : Bool) → OpensParts (of_kind b)
      by true = ordered-parts rules m.hash (layout_of m) prompt
      by false = unordered-parts rules m.hash (layout_of m) prompt

  -- a commit-ended beginning of a made list is one, and its floor is not above the list's
  begins-made : (prefix ops : List Operation) → Made (kind_of m) rules ops → Begins prefix ops → IsCommitEnded prefix → Made (kind_of m) rules prefix × (floor prefix ≤ floor ops)
  begins-made = by m.form.ordered
    where
      by : (b : Bool) (prefix ops : List Operation) → Made (cond b ordered unordered) rules ops → Begins prefix ops → IsCommitEnded prefix → Made (cond b ordered unordered) rules prefix × (floor prefix ≤ floor ops)
      by true = ordered-begins rules
      by false = unordered-begins rules

  -- a made list is good, and that of an ordered database is a ring
  pub made-good : (list : List Operation) → Made (kind_of m) rules list → IsGood list
  made-good list = by m.form.ordered
    where
      by : (b : Bool) → Made (cond b ordered unordered) rules list → IsGood list
      by true made = (made-ordered rules list made).good
      by false made = steps.made-good rules list made

  pub made-ring : (list : List Operation) → m.form.ordered ≡ true → Made (kind_of m) rules list → IsRing list
  made-ring list is = by m.form.ordered is
    where
      by : (b : Bool) → b ≡ true → Made (cond b ordered unordered) rules list → IsRing list
      by true e made = (made-ordered rules list made).ring
      by false e made = absurd (cc)

  -- a crash leaves a log that databases leave
  pub left-kept : (log : Log) (to : ℕ) → IsKept (engine_of m rules) log → log.stable ≤ to → to ≤ length log.list → IsKept (engine_of m rules) (left_at to log)
  left-kept log to = by m.form.ordered
    where
      by : (b : Bool) → IsKept (of_kind b) log → log.stable ≤ to → to ≤ length log.list → IsKept (of_kind b) (left_at to log)
      by true = ordered-left rules m.hash (layout_of m) log to
      by false = unordered-left rules m.hash (layout_of m) log to

  -- so does a commit
  pub settled-kept : (log : Log) → IsKept (engine_of m rules) log → IsKept (engine_of m rules) (settled log)
  settled-kept log kept =
      subst (λ list. IsKept (engine_of m rules) (record log { list = list; stable = length log.list })) (take-length log.list)
      (left-kept log (length log.list) kept kept.stable (le_refl (length log.list)))

  -- the start is not past what is stable
  pub kept-low : (log : Log) → IsKept (engine_of m rules) log → log.start ≤ log.stable
  kept-low log kept = by (ended-part whole)
    where
      whole : List Operation
      whole = take log.stable log.list

      begins : Begins whole kept.made.whole
      begins = Begins-through whole log.list kept.made.whole (take-begins log.stable log.list) kept.made.begins

      by : IsPart whole (ended_size whole) → log.start ≤ log.stable
      by (inl none) =
          let start = kept.start in
          let low : floor (ended_part whole) ≡ 0 = ap (λ n. floor (take n whole)) none in
          omega (arith, start, low)
      by (inr (some, short, ended)) =
          let part = Begins-through (ended_part whole) whole kept.made.whole (take-begins (ended_size whole) whole) begins in
          let good = made-good (ended_part whole) (begins-made (ended_part whole) kept.made.whole kept.made.made part ended).0 in
          let start = kept.start in
          let inside = good.floor_within in
          omega (arith, start, inside, short, length-take-le (ended_size whole) whole short, length-take-le log.stable log.list kept.stable)

  -- if a list takes the place of a log's, as many chunks may be pruned, if it settles no less
  pruned-more : (chunks : Option Chunks) (log : Log) (list : List Operation) → floor (settled_list log) ≤ floor (ended_part (take log.stable list)) → length (settled_list log) ≤ length (ended_part (take log.stable list))
      → ArePruned (engine_of m rules) chunks log → ArePruned (engine_of m rules) chunks (record log { list = list })
  pruned-more None log list low few is = tt
  pruned-more (Some c) log list low few is = (is.0, le_trans is.1 (boundary-rises m.shape c.height (floor (settled_list log)) (floor (ended_part (take log.stable list))) (length (settled_list log)) (length (ended_part (take log.stable list))) low few))

  -- a prune to a location of the boundary at most
  pruned-chunks : (grafts : Option Grafts) (log : Log) (to : ℕ) → IfSome (option_map (λ (g : Grafts). g.chunks) grafts) (λ c. to ≤ boundary m.shape c.height (settled_list log))
      → ArePruned (engine_of m rules) (option_map (λ (g : Grafts). g.chunks) grafts) log
      → ArePruned (engine_of m rules) (option_map (λ (g : Grafts). g.chunks) grafts) (record log { start = max log.start to; chunks = chunks_after grafts log.chunks to })
  pruned-chunks None log to low is = tt
  pruned-chunks (Some g) log to low is = (by (max log.start to) (most log.start to), below (max log.chunks (to / 2 ^ g.chunks.height)) (most log.chunks (to / 2 ^ g.chunks.height)))
    where
      most : (a b : ℕ) → (max a b ≡ a) ⊎ (max a b ≡ b)
      most a b = elim (cases_lt a b) [ inl less ↦ inr (omega (arith, less)) | inr more ↦ inl (omega (arith, more)) ]

      by : (n : ℕ) → (n ≡ log.start) ⊎ (n ≡ to) → n / 2 ^ g.chunks.height ≤ max log.chunks (to / 2 ^ g.chunks.height)
      by n (inl e) = let low = is.0 in subst (λ k. k / 2 ^ g.chunks.height ≤ max log.chunks (to / 2 ^ g.chunks.height)) (sym e) (omega (arith, low))
      by n (inr e) = subst (λ k. k / 2 ^ g.chunks.height ≤ max log.chunks (to / 2 ^ g.chunks.height)) (sym e) (omega arith)

      below : (n : ℕ) → (n ≡ log.chunks) ⊎ (n ≡ to / 2 ^ g.chunks.height) → n * 2 ^ g.chunks.height ≤ boundary m.shape g.chunks.height (settled_list log)
      below n (inl e) = subst (λ k. k * 2 ^ g.chunks.height ≤ boundary m.shape g.chunks.height (settled_list log)) (sym e) is.1
      below n (inr e) = let split = div-add-mod' to (2 ^ g.chunks.height) in subst (λ k. k * 2 ^ g.chunks.height ≤ boundary m.shape g.chunks.height (settled_list log)) (sym e) (le_trans (omega arith) low)

  -- a prune of a made list to its boundary at most
  pub pruned-kept : HasBounds m → (log : Log) (to : ℕ) → IsKept (engine_of m rules) log → Made (kind_of m) rules log.list → to ≤ m.boundary log.list → IsKept (engine_of m rules) (pruned m.grafts to log)
  pruned-kept bounds log to kept made low = record {
    made = settled_is.made;
    start = let start = settled_is.start in let below = bounds.low log.list in omega (arith, start, ap floor whole, low, below);
    stable = settled_is.stable;
    chunks = pruned-chunks m.grafts (settled log) to (within (chunks_of m) bounds.chunks) settled_is.chunks;
  }
    where
      settled_is : IsKept (engine_of m rules) (settled log)
      settled_is = settled-kept log kept

      whole : settled_list (settled log) ≡ log.list
      whole = ap ended_part (take-length log.list) ∙ ended-whole log.list (made-good log.list made).commit_ended

      within : (chunks : Option Chunks) → IfSome chunks (λ c. (list : List Operation) → m.boundary list ≤ boundary m.shape c.height list) → IfSome chunks (λ c. to ≤ boundary m.shape c.height (settled_list (settled log)))
      within None above = tt
      within (Some c) above = subst (λ list. to ≤ boundary m.shape c.height list) (sym whole) (le_trans low (above log.list))

  -- a crash that chose an end
  pub restarted-kept : (chosen : ℕ) (log : Log) → IsKept (engine_of m rules) log → IsKept (engine_of m rules) (restarted chosen log)
  restarted-kept chosen log kept =
      let low = kept.stable in
      left-kept log (max log.stable (min (length log.list) chosen)) kept (omega arith) (omega (arith, low))

  -- the empty one
  pub empty-kept : IsKept (engine_of m rules) no_log
  empty-kept = record {
    made = record { whole = fresh; made = first; begins = refl; of_form = All-nil (IsOf m.form) };
    start = omega arith;
    stable = omega arith;
    chunks = by (chunks_of m);
  }
    where
      by : (chunks : Option Chunks) → ArePruned (engine_of m rules) chunks no_log
      by None = tt
      by (Some c) = (omega (arith, zero-div (2 ^ c.height)), omega arith)

  -- and a list that begins with the log's
  pub grown-kept : (log : Log) (tip : List Operation) → IsKept (engine_of m rules) log → Begins log.list tip → Made (kind_of m) rules tip → All (IsOf m.form) tip → IsKept (engine_of m rules) (record log { list = tip })
  grown-kept log tip kept begins made of = record {
    made = record { whole = tip; made = made; begins = Begins-self tip; of_form = of };
    start = subst (λ list. log.start ≤ floor (ended_part list)) same kept.start;
    stable = le_trans kept.stable (Begins-length log.list tip begins);
    chunks = pruned-more (chunks_of m) log tip (le_of_eq (ap (λ list. floor (ended_part list)) same)) (le_of_eq (ap (λ list. length (ended_part list)) same)) kept.chunks;
  }
    where
      same : take log.stable log.list ≡ take log.stable tip
      same = ap (take log.stable) (sym begins) ∙ take-least log.stable (length log.list) tip kept.stable

  -- Commands.

  -- the open database's list is of operations of the machine's form
  abbrev pub IsFormed : State → Type 0
  IsFormed s = (list : List Operation) → s.database ≡ Some list → All (IsOf m.form) list

  -- a state that is sound, if its lists are apart and its database's list is formed
  abbrev Sound : Answer × State → Type 0
  Sound turned = Apart m.root (turned.1).had → IsFormed turned.1 → IsSound m rules turned.1

  same : (s : State) (a : Answer) → IsSound m rules s → Sound (a, s)
  same s a is = λ apart formed. is

  either : (b : Bool) (p q : Answer × State) → (b ≡ true → Sound p) → (b ≡ false → Sound q) → Sound (cond b p q)
  either true p q a b = a refl
  either false p q a b = b refl

  with_list : (s : State) (d : Option (List Operation)) (f : List Operation → Answer × State) → IsSound m rules s → ((list : List Operation) → d ≡ Some list → Sound (f list)) → Sound (with_database s d f)
  with_list s None f is each = (λ apart formed. is)
  with_list s (Some list) f is each = each list refl

  ordered_only : (s : State) (offered : Answer × State) → IsSound m rules s → Sound offered → Sound (if_ordered m s offered)
  ordered_only s offered is sound = either m.form.ordered offered _ (λ yes. sound) (λ not. (λ apart formed. is))

  any_only : (s : State) (grafts : Option Grafts) (offered : Answer × State) → IsSound m rules s → Sound offered → Sound (if_any s grafts offered)
  any_only s None offered is sound = sound
  any_only s (Some g) offered is sound = (λ apart formed. is)

  current_only : (s : State) (grafts : Option Grafts) (offered : Grafts → Answer × State) → IsSound m rules s → ((g : Grafts) → Sound (offered g)) → Sound (if_current s grafts offered)
  current_only s None offered is sound = (λ apart formed. is)
  current_only s (Some g) offered is sound = sound g

  unless_due : (s : State) (due : Option Refused) (answer : Answer) → IsSound m rules s → Sound (unless s due answer)
  unless_due s None answer is = same s answer is
  unless_due s (Some r) answer is = (λ apart formed. is)

  held_sound : (s : State) (checks : Checks) (list : List Operation) (found : Option Live) → IsSound m rules s → Sound (held_at s checks list found)
  held_sound s checks list None is = (λ apart formed. is)
  held_sound s checks list (Some e) is = (λ apart formed. is)

  absent_sound : (s : State) (proved : ℕ × Bool) (found : Option Live) → IsSound m rules s → Sound (absent_at s proved found)
  absent_sound s proved None is = (λ apart formed. is)
  absent_sound s proved (Some e) is = (λ apart formed. is)

  absences_sound : (s : State) (check : Option (List Operation → Bytes → ℕ × Bool)) (key : Bytes) → IsSound m rules s
      → Sound (if_absences s check (λ c. with_database s s.database (λ list. absent_at s (c list key) (live_of (live list) key))))
  absences_sound s None key is = (λ apart formed. is)
  absences_sound s (Some c) key is = with_list s s.database _ is (λ list e. absent_sound s (c list key) (live_of (live list) key) is)

  asked_sound : (s : State) (g : Grafts) (checks : Checks) (question : Question) → IsSound m rules s → Sound (asked s g checks question)
  asked_sound s g checks (Held key) is = with_list s s.database _ is (λ list e. held_sound s checks list (live_of (live list) key) is)
  asked_sound s g checks (Absent key) is = absences_sound s checks.absent key is
  asked_sound s g checks (lines.Chunks start max) is = with_list s s.database _ is (λ list e. unless_due s (range_refusal g.chunks.height s.log.chunks s.log.start list start) _ is)
  asked_sound s g checks Witness is = with_list s s.database _ is (λ list e. (λ apart formed. is))

  answered_sound : (s : State) (g : Grafts) (question : Question) → IsSound m rules s → Sound (answered s g question)
  answered_sound s g question is = by g.checks
    where
      by : (checks : Option Checks) → Sound (if_checked s checks (λ checks. asked s g checks question))
      by None = λ apart formed. is
      by (Some checks) = asked_sound s g checks question is

  -- another slot of the table
  slotted_sound : (s : State) (h : ℕ) (slot : Slot) → IsSoundSlot s.had slot → IsSound m rules s → IsSound m rules (with_slot s h slot)
  slotted_sound s h slot one is = record { kept = is.kept; held = is.held; made = is.made; slots = set-each (IsSoundSlot s.had) s.table h slot tt one is.slots }

  -- one more
  started_sound : (s : State) (slot : Slot) → IsSoundSlot s.had slot → IsSound m rules s → Sound (started s slot)
  started_sound s slot one is = λ apart formed. record { kept = is.kept; held = is.held; made = is.made; slots = push-each (IsSoundSlot s.had) s.table slot tt one is.slots }

  -- no database
  closed_sound : (s : State) (log : Log) (choices : List ℕ) → IsKept (engine_of m rules) log → IsSound m rules s → IsSound m rules (record (closed s) { log = log; choices = choices })
  closed_sound s log choices kept is = record { kept = kept; held = λ list some. absurd (cc); made = is.made; slots = is.slots }

  -- a list more that the run has had
  made_more : (had : List (List Operation)) (new : List Operation) → Made (kind_of m) rules new → ((list : List Operation) → Contains had list → Made (kind_of m) rules list)
      → (list : List Operation) → Contains (new ∷ had) list → Made (kind_of m) rules list
  made_more had new one each list (zero, within, at) = subst (Made (kind_of m) rules) at one
  made_more had new one each list (suc k, within, at) = each list (k, omega (arith, within), at)

  -- what an opening takes up, steps made
  pub opened-made : ArePrompt (chunks_of m) m.shape → (s : State) (bound : Option ℕ) (size : ℕ) → IsSound m rules s → opening (layout_of m) (found_in m s.log) bound ≡ opens size → Made (kind_of m) rules (opened_list size s.log.list)
  opened-made prompt s bound size is e = let takes : Takes (engine_of m rules) s.log bound size = opens-parts prompt s.log bound size is.kept e in by takes.part takes.ended
    where
      by : Begins (opened_list size s.log.list) s.log.list ⊎ ((s.log.list ≡ []) × (opened_list size s.log.list ≡ fresh)) → IsCommitEnded (opened_list size s.log.list) → Made (kind_of m) rules (opened_list size s.log.list)
      by (inl begins) ended = (begins-made (opened_list size s.log.list) is.kept.made.whole is.kept.made.made (Begins-through (opened_list size s.log.list) s.log.list is.kept.made.whole begins is.kept.made.begins) ended).0
      by (inr none) ended = subst (Made (kind_of m) rules) (sym none.1) first

  -- and not of a lower floor than the start
  opened-low : ArePrompt (chunks_of m) m.shape → (s : State) → IsSound m rules s → (bound : Option ℕ) (size : ℕ) → opening (layout_of m) (found_in m s.log) bound ≡ opens size → s.log.start ≤ floor (opened_list size s.log.list)
  opened-low prompt s is bound size e =
      let takes : Takes (engine_of m rules) s.log bound size = opens-parts prompt s.log bound size is.kept e in
      let list = opened_list size s.log.list in
      subst (λ ops. s.log.start ≤ floor ops) (ap ended_part (take-length list) ∙ ended-whole list takes.ended) takes.kept.start

  -- what metadata counts of what databases leave stays so
  counts-kept : HasBounds m → (log : Log) → IsKept (engine_of m rules) log → KeepsCount (engine_of m policies) log
  counts-kept bounds log kept = by m.form.ordered kept
    where
      by : (b : Bool) → IsKept (of_kind b) log → KeepsCount (record { kind = cond b ordered unordered; rules = policies; hash = m.hash; layout = layout_of m }) log
      by true kept = keeps-count rules policies (ordered-keeps rules) m.hash m.form m.shape m.digest_size (chunks_of m) bounds.over log kept
      by false kept = keeps-count rules policies (unordered-keeps rules) m.hash m.form m.shape m.digest_size (chunks_of m) bounds.over log kept

  -- what a command has to know
  pub sound-steady : HasBounds m → (s : State) → IsSound m rules s → IsSteady m s
  sound-steady bounds s is = let prompt = bounds.prompt in record {
    of_form = is.kept.made.of_form;
    good = λ bound size e. made-good (opened_list size s.log.list) (opened-made prompt s bound size is e);
    ring = λ bound size e ordered_form. made-ring (opened_list size s.log.list) ordered_form (opened-made prompt s bound size is e);
    low = opened-low prompt s is;
    counts = counts-kept bounds s.log is.kept;
    opened_counts = λ bound size e. let takes : Takes (engine_of m rules) s.log bound size = opens-parts prompt s.log bound size is.kept e in counts-kept bounds _ takes.kept;
    few = le_trans (Begins-length s.log.list is.kept.made.whole is.kept.made.begins) (made-few (kind_of m) rules is.kept.made.whole is.kept.made.made);
    held = is.held;
    within = λ list open_here. (made-good list (is.made list (is.held list open_here).1)).floor_within;
    floors = λ older newer old new begins. (begins-made older newer (is.made newer new) begins (made-good older (is.made older old)).commit_ended).1;
    slots = is.slots;
  }

  opened_sound : ArePrompt (chunks_of m) m.shape → (s : State) (bound : Option ℕ) (o : Opening) → opening (layout_of m) (found_in m s.log) bound ≡ o → IsSound m rules s → Sound (opened_as (closed s) o)
  opened_sound prompt s bound (refuses r) e is = λ apart formed. closed_sound s s.log s.choices is.kept is
  opened_sound prompt s bound (opens size) e is = λ apart formed.
      let list = opened_list size s.log.list in
      let takes : Takes (engine_of m rules) s.log bound size = opens-parts prompt s.log bound size is.kept e in
      record {
        kept = takes.kept;
        held = λ other some. (cc, subst (Contains (list ∷ s.had)) (cc) (Contains-first list s.had));
        made = made_more s.had list (opened-made prompt s bound size is e) is.made;
        slots = λ h. slot-more s.had list (slot_at s.table h) (is.slots h);
      }

  child_sound : (s : State) (h : ℕ) (keep : Option ℕ) (slot : Slot) → IsSoundSlot s.had slot → IsSound m rules s → Sound (start_child s h keep slot)
  child_sound s h keep (merkleized chain tip evicted) one is = started_sound s _ (child-among s.had keep chain tip one.0 one.2, child-rising keep chain tip one.1 one.3) is
  child_sound s h keep gone one is = (λ apart formed. is)
  child_sound s h keep (staged chain parent ws keys) one is = (λ apart formed. is)
  child_sound s h keep (writing chain parent ws) one is = (λ apart formed. is)

  put_sound : (s : State) (h : ℕ) (w : Write) (slot : Slot) → IsSoundSlot s.had slot → IsSound m rules s → Sound (put_in s h w slot)
  put_sound s h w (writing chain parent ws) one is = λ apart formed. slotted_sound s h _ one is
  put_sound s h w gone one is = (λ apart formed. is)
  put_sound s h w (staged chain parent ws keys) one is = (λ apart formed. is)
  put_sound s h w (merkleized chain tip evicted) one is = (λ apart formed. is)

  listed_sound : (s : State) (h : ℕ) (slot : Slot) → IsSound m rules s → Sound (list_operations s h slot)
  listed_sound s h (merkleized chain tip evicted) is = (λ apart formed. is)
  listed_sound s h gone is = (λ apart formed. is)
  listed_sound s h (staged chain parent ws keys) is = (λ apart formed. is)
  listed_sound s h (writing chain parent ws) is = (λ apart formed. is)

  evicted_sound : (s : State) (h : ℕ) (slot : Slot) → IsSound m rules s → Sound (list_evicted s h slot)
  evicted_sound s h (merkleized chain tip evicted) is = (λ apart formed. is)
  evicted_sound s h gone is = (λ apart formed. is)
  evicted_sound s h (staged chain parent ws keys) is = (λ apart formed. is)
  evicted_sound s h (writing chain parent ws) is = (λ apart formed. is)

  readable_sound : (s : State) (list : List Operation) (chain : Chain) (tip : List Operation) (answer : Answer) → IsSound m rules s → Sound (if_readable m s list chain tip answer)
  readable_sound s list chain tip answer is = either (readable m.root (commitment m.root list) chain tip) _ _ (λ yes. same s answer is) (λ not. (λ apart formed. is))

  staged_sound : (s : State) (h : ℕ) (list : List Operation) (chain parent : Chain) (answer : Answer) (slot : Slot) → IsSoundSlot s.had slot → IsSound m rules s → Sound (if_staged m s h list chain parent answer slot)
  staged_sound s h list chain parent answer slot one is =
      either (readable m.root (commitment m.root list) parent chain.base) _ _ (λ yes apart formed. slotted_sound s h slot one is) (λ not apart formed. slotted_sound s h gone tt is)

  stage_sound : (s : State) (h : ℕ) (keys : List Bytes) (list : List Operation) (slot : Slot) → IsSoundSlot s.had slot → IsSound m rules s → Sound (stage_in m s h keys list slot)
  stage_sound s h keys list (writing chain parent ws) one is = staged_sound s h list chain parent _ _ one is
  stage_sound s h keys list gone one is = (λ apart formed. is)
  stage_sound s h keys list (staged chain parent ws ks) one is = (λ apart formed. is)
  stage_sound s h keys list (merkleized chain tip evicted) one is = (λ apart formed. is)

  expand_sound : (s : State) (h : ℕ) (keys : List Bytes) (list : List Operation) (slot : Slot) → IsSoundSlot s.had slot → IsSound m rules s → Sound (expand_in m s h keys list slot)
  expand_sound s h keys list (staged chain parent ws ks) one is = staged_sound s h list chain parent _ _ one is
  expand_sound s h keys list gone one is = (λ apart formed. is)
  expand_sound s h keys list (writing chain parent ws) one is = (λ apart formed. is)
  expand_sound s h keys list (merkleized chain tip evicted) one is = (λ apart formed. is)

  read_in_sound : (s : State) (h : ℕ) (keys : List Bytes) (list : List Operation) (slot : Slot) → IsSound m rules s → Sound (read_in m s h keys list slot)
  read_in_sound s h keys list (writing chain parent ws) is = readable_sound s list parent chain.base _ is
  read_in_sound s h keys list (merkleized chain tip evicted) is = readable_sound s list chain tip _ is
  read_in_sound s h keys list gone is = (λ apart formed. is)
  read_in_sound s h keys list (staged chain parent ws ks) is = (λ apart formed. is)

  read_sound : (s : State) (keys : List Bytes) (from : Option ℕ) → IsSound m rules s → Sound (read m s keys from)
  read_sound s keys None is = with_list s s.database _ is (λ list e. (λ apart formed. is))
  read_sound s keys (Some h) is = with_list s s.database _ is (λ list e. read_in_sound s h keys list (slot_at s.table h) is)

  neighbour_in_sound : (s : State) (h : ℕ) (beside : List Bytes → Option Bytes) (list : List Operation) (slot : Slot) → IsSound m rules s → Sound (neighbour_in m s h beside list slot)
  neighbour_in_sound s h beside list (merkleized chain tip evicted) is = readable_sound s list chain tip _ is
  neighbour_in_sound s h beside list gone is = (λ apart formed. is)
  neighbour_in_sound s h beside list (writing chain parent ws) is = (λ apart formed. is)
  neighbour_in_sound s h beside list (staged chain parent ws ks) is = (λ apart formed. is)

  neighbour_sound : (s : State) (beside : List Bytes → Option Bytes) (from : Option ℕ) → IsSound m rules s → Sound (neighbour_of m s beside from)
  neighbour_sound s beside None is = with_list s s.database _ is (λ list e. (λ apart formed. is))
  neighbour_sound s beside (Some h) is = with_list s s.database _ is (λ list e. neighbour_in_sound s h beside list (slot_at s.table h) is)

  info_sound : (s : State) (h : ℕ) (slot : Slot) → IsSound m rules s → Sound (info_in m s h slot)
  info_sound s h (merkleized chain tip evicted) is = (λ apart formed. is)
  info_sound s h gone is = (λ apart formed. is)
  info_sound s h (staged chain parent ws keys) is = (λ apart formed. is)
  info_sound s h (writing chain parent ws) is = (λ apart formed. is)

  root_sound : (s : State) (h : ℕ) (slot : Slot) → IsSound m rules s → Sound (root_in m s h slot)
  root_sound s h (merkleized chain tip evicted) is = (λ apart formed. is)
  root_sound s h gone is = (λ apart formed. is)
  root_sound s h (staged chain parent ws keys) is = (λ apart formed. is)
  root_sound s h (writing chain parent ws) is = (λ apart formed. is)

  proof_sound : (s : State) (h : ℕ) (list : List Operation) (slot : Slot) → IsSound m rules s → Sound (proof_in m s h list slot)
  proof_sound s h list (merkleized chain tip evicted) is =
      either (readable m.root (commitment m.root list) chain tip) _ _ (λ yes. unless_due s (proof_lacked m.shape s.log.start list chain tip) _ is) (λ not. (λ apart formed. is))
  proof_sound s h list gone is = (λ apart formed. is)
  proof_sound s h list (staged chain parent ws keys) is = (λ apart formed. is)
  proof_sound s h list (writing chain parent ws) is = (λ apart formed. is)

  apply_sound : (s : State) (h : ℕ) (list : List Operation) (slot : Slot) → s.database ≡ Some list → IsSoundSlot s.had slot → IsSound m rules s → Sound (apply_in m s h list slot)
  apply_sound s h list gone e one is = (λ apart formed. is)
  apply_sound s h list (staged chain parent ws keys) e one is = (λ apart formed. is)
  apply_sound s h list (writing chain parent ws) e one is = (λ apart formed. is)
  apply_sound s h list (merkleized chain tip evicted) e one is = either (fits m.root (commitment m.root list) chain) _ _ taken (λ not. (λ apart formed. is))
    where
      taken : fits m.root (commitment m.root list) chain ≡ true → Sound (lines.Applied (length tip), record s { database = Some tip; log = record s.log { list = tip } })
      taken fit apart formed =
          let held = is.held list e in
          let on = on_chain-fits m.root s.had list chain apart held.1 one.0 fit in
          let begins = known-begins list chain tip (inr on) one.1 one.3 in
          record {
            kept = grown-kept s.log tip is.kept (subst (λ l. Begins l tip) (sym held.0) begins) (is.made tip one.2) (formed tip refl);
            held = λ other some. (cc, subst (Contains s.had) (cc) one.2);
            made = is.made;
            slots = is.slots;
          }

  tip_sound : (s : State) (h : ℕ) (chain : Chain) (tip : List Operation) (evicted : List (Bytes × Bytes)) (due : Option Refused) → IsAmong s.had chain → IsRising chain → Begins chain.base tip → (due ≡ None → Made (kind_of m) rules tip) → IsSound m rules s → Sound (merkleize_tip s h chain tip evicted due)
  tip_sound s h chain tip evicted (Some r) among rising begins made is = λ apart formed. slotted_sound s h gone tt is
  tip_sound s h chain tip evicted None among rising begins made is = λ apart formed. record {
    kept = is.kept;
    held = λ list e. ((is.held list e).0, Contains-more s.had tip list (is.held list e).1);
    made = made_more s.had tip (made refl) is.made;
    slots = set-each (IsSoundSlot (tip ∷ s.had)) s.table h (merkleized chain tip evicted) tt (IsAmong-more s.had tip chain among, rising, Contains-first tip s.had, begins) (λ k. slot-more s.had tip (slot_at s.table k) (is.slots k));
  }

  writes_sound : (s : State) (h : ℕ) (policy : P) (meta : Option Bytes) (list : List Operation) (chain : Chain) (ws : List Write) → IsAmong s.had chain → IsRising chain → IsSound m rules s → Sound (merkleize_writes m rules s h policy meta list chain ws)
  writes_sound s h policy meta list chain ws among rising is =
      let tip = step (kind_of m) rules chain.base ws policy meta in
      either (takes m.grafts s.opened chain.instance && fits m.root (commitment m.root list) chain) _ _
      (λ fit. tip_sound s h chain tip (evicted_by (kind_of m) rules chain.base ws policy) (tip_refusal m.form chain tip) among rising (step-begins (kind_of m) rules chain.base ws policy meta) (λ due. next chain.base ws policy meta (is.made chain.base among.base) (short-tip m.form chain tip due)) is)
      (λ unfit apart formed. slotted_sound s h gone tt is)

  merkleize_sound : (s : State) (h : ℕ) (policy : P) (meta : Option Bytes) (list : List Operation) (slot : Slot) → IsSoundSlot s.had slot → IsSound m rules s → Sound (merkleize_in m rules s h policy meta list slot)
  merkleize_sound s h policy meta list (writing chain parent ws) one is = writes_sound s h policy meta list chain ws one.0 one.1 is
  merkleize_sound s h policy meta list gone one is = (λ apart formed. is)
  merkleize_sound s h policy meta list (staged chain parent ws keys) one is = (λ apart formed. is)
  merkleize_sound s h policy meta list (merkleized chain tip evicted) one is = (λ apart formed. is)

  resolve_sound : (s : State) (h : ℕ) (policy : P) (meta : Option Bytes) (given : List slots.Slot) (others : List Write) (list : List Operation) (slot : Slot) → IsSoundSlot s.had slot → IsSound m rules s → Sound (resolve_in m rules s h policy meta given others list slot)
  resolve_sound s h policy meta given others list (staged chain parent ws keys) one is =
      either (length keys == length given) _ _ (λ yes. writes_sound s h policy meta list chain (slotted ws keys given others) one.0 one.1 is) (λ not. (λ apart formed. is))
  resolve_sound s h policy meta given others list gone one is = (λ apart formed. is)
  resolve_sound s h policy meta given others list (writing chain parent ws) one is = (λ apart formed. is)
  resolve_sound s h policy meta given others list (merkleized chain tip evicted) one is = (λ apart formed. is)

  commit_sound : (s : State) → IsSound m rules s → Sound (commit s)
  commit_sound s is = with_list s s.database _ is (λ list e apart formed. record { kept = settled-kept s.log is.kept; held = is.held; made = is.made; slots = is.slots })

  prune_sound : HasBounds m → (s : State) (to : ℕ) (list : List Operation) → s.database ≡ Some list → IsSound m rules s → Sound (prune_in m s to list)
  prune_sound bounds s to list e is = either (nat_lt (m.boundary list) to) _ _ (λ past apart formed. is) done
    where
      done : nat_lt (m.boundary list) to ≡ false → Sound (lines.Done, record s { log = pruned m.grafts to s.log })
      done within apart formed =
          let held = is.held list e in
          let below = ltb-false (m.boundary list) to within in
          record {
            kept = pruned-kept bounds s.log to is.kept (subst (Made (kind_of m) rules) (sym held.0) (is.made list held.1)) (subst (λ ops. to ≤ m.boundary ops) (sym held.0) below);
            held = is.held;
            made = is.made;
            slots = is.slots;
          }

  -- where boundaries are where they are to be
  pub turn-sound : (bounds : HasBounds m) (s : State) (line : Line P) → IsSound m rules s → Sound (turn m rules s line)
  turn-sound bounds s (Open bound) is = opened_sound bounds.prompt s bound (opening (layout_of m) (found_in m s.log) bound) refl is
  turn-sound bounds s Batch is = with_list s s.database _ is (λ list e. started_sound s _ (begun-among s.had s.opened list (is.held list e).1, begun-rising s.opened list) is)
  turn-sound bounds s (Child h keep) is = child_sound s h keep (slot_at s.table h) (is.slots h) is
  turn-sound bounds s Tip is = with_list s s.database _ is (λ list e. started_sound s _ (begun-among s.had s.opened list (is.held list e).1, begun-rising s.opened list, (is.held list e).1, Begins-self list) is)
  turn-sound bounds s (Put h key value) is = put_sound s h _ (slot_at s.table h) (is.slots h) is
  turn-sound bounds s (Del h key) is = put_sound s h _ (slot_at s.table h) (is.slots h) is
  turn-sound bounds s (Merkleize h policy meta) is = with_list s s.database _ is (λ list e. merkleize_sound s h policy meta list (slot_at s.table h) (is.slots h) is)
  turn-sound bounds s (Stage h keys) is = with_list s s.database _ is (λ list e. stage_sound s h keys list (slot_at s.table h) (is.slots h) is)
  turn-sound bounds s (Expand h keys) is = with_list s s.database _ is (λ list e. expand_sound s h keys list (slot_at s.table h) (is.slots h) is)
  turn-sound bounds s (Resolve h policy meta given others) is = with_list s s.database _ is (λ list e. resolve_sound s h policy meta given others list (slot_at s.table h) (is.slots h) is)
  turn-sound bounds s (Apply h) is = with_list s s.database _ is (λ list e. apply_sound s h list (slot_at s.table h) e (is.slots h) is)
  turn-sound bounds s (Ops h) is = listed_sound s h (slot_at s.table h) is
  turn-sound bounds s (Evicted h) is = evicted_sound s h (slot_at s.table h) is
  turn-sound bounds s (Get key from) is = read_sound s (key ∷ []) from is
  turn-sound bounds s (Many keys from) is = read_sound s keys from is
  turn-sound bounds s (Next key from) is = ordered_only s _ is (neighbour_sound s (λ keys. key_above keys key) from is)
  turn-sound bounds s (Prev key from) is = ordered_only s _ is (neighbour_sound s (λ keys. key_below keys key) from is)
  turn-sound bounds s (Span key) is = ordered_only s _ is (with_list s s.database _ is (λ list e. (λ apart formed. is)))
  turn-sound bounds s (lines.All key) is = ordered_only s _ is (with_list s s.database _ is (λ list e. (λ apart formed. is)))
  turn-sound bounds s (Range low high) is = ordered_only s _ is (with_list s s.database _ is (λ list e. (λ apart formed. is)))
  turn-sound bounds s (Keys low high) is = ordered_only s _ is (with_list s s.database _ is (λ list e. (λ apart formed. is)))
  turn-sound bounds s Info is = with_list s s.database _ is (λ list e. (λ apart formed. is))
  turn-sound bounds s (BatchInfo h) is = info_sound s h (slot_at s.table h) is
  turn-sound bounds s Root is = with_list s s.database _ is (λ list e. (λ apart formed. is))
  turn-sound bounds s (BatchRoot h) is = root_sound s h (slot_at s.table h) is
  turn-sound bounds s (BatchProof h) is = any_only s m.grafts _ is (with_list s s.database _ is (λ list e. proof_sound s h list (slot_at s.table h) is))
  turn-sound bounds s Meta is = with_list s s.database _ is (λ list e. (λ apart formed. is))
  turn-sound bounds s (Prove size start count) is = with_list s s.database _ is (λ list e. unless_due s (proof_refusal s.log.start list size start) _ is)
  turn-sound bounds s (Pins n) is = with_list s s.database _ is (λ list e. unless_due s (pins_lacked m.shape s.log.start list n) _ is)
  turn-sound bounds s (Current question) is = current_only s m.grafts _ is (λ g. answered_sound s g question is)
  turn-sound bounds s (Prune to) is = with_list s s.database _ is (λ list e. prune_sound bounds s to list e is)
  turn-sound bounds s Commit is = commit_sound s is
  turn-sound bounds s Sync is = commit_sound s is
  turn-sound bounds s Close is = with_list s s.database _ is (λ list e apart formed. closed_sound s s.log s.choices is.kept is)
  turn-sound bounds s Destroy is = with_list s s.database _ is (λ list e apart formed. closed_sound s no_log s.choices empty-kept is)
  turn-sound bounds s (Crash keep) is = λ apart formed. closed_sound s _ _ (restarted-kept _ s.log is.kept) is

  -- a run begins so
  pub initial-sound : (log : Log) (choices : List ℕ) → IsKept (engine_of m rules) log → IsSound m rules (initial log choices)
  initial-sound log choices kept = record {
    kept = kept;
    held = λ list some. absurd (cc);
    made = λ list had. absurd (omega (arith, had.1));
    slots = by;
  }
    where
      by : (h : ℕ) → IsSoundSlot [] (slot_at (gone ∷ []) h)
      by zero = tt
      by (suc h) = tt
