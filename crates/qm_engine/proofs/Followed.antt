-- What may be left of a log by a command that fails is a log that databases leave.
use Rattle.std.proofs.Common.{◌≡◌, ◌⊎◌, inl, inr, ℕ, suc, zero, ◌+◌, ◌≤◌, Bool, true, false, cond, List, [], ◌∷◌, ◌++◌, length, take, drop, Option, Some, None, refl, sym, ap, ◌∙◌, subst, arith, le_refl, append-nil}
use Rattle.std.specs.Prelude.{All, ◌&&◌, ◌*◌, ◌^◌, ◌==◌, min, max, nat_lt, ◌<◌, slice_index_or}
use Rattle.std.proofs.Math.Seq.{take-add}
use Rattle.std.proofs.Math.Nat.{le_trans}
use Rattle.std.proofs.lemmas.Bool.{ltb-false, ltb-true}
use Rattle.std.proofs.lemmas.Nat.{mul-le, pow_pos}
use Rattle.std.proofs.lemmas.List.Elements.{All-take}
use Rattle.qm_model.specs.Operations.{Bytes, Operation, fresh}
use Rattle.qm_model.specs.Forms.{IsOf}
use Rattle.qm_model.specs.Live.{Live, floor, live, live_of}
use Rattle.qm_model.specs.Checks.{Checks}
use Rattle.qm_model.specs.Grafted.{boundary}
use Rattle.qm_model.specs.Walk.{Rules}
use Rattle.qm_model.specs.Writes.{Write}
use Rattle.qm_model.specs.Slots.{slotted}
use Rattle.qm_model.specs.Slots as slots
use Rattle.qm_model.specs.Step.{Made, step, evicted_by, ordered, unordered}
use Rattle.qm_model.specs.Batches.{Chain, Apart, Begins, commitment, fits, readable}
use Rattle.qm_model.specs.Own.{Log, taken_up, ArePrompt, ArePruned, IsPartMade, IsKept, Takes, OpensParts, ended_part}
use Rattle.qm_model.specs.Opening.{Chunks, Opening, refuses, opens, opening, opened_list}
use Rattle.qm_model.specs.Ranges.{key_above, key_below}
use Rattle.qm_model.specs.Refused.{Refused}
use Rattle.qm_model.specs.Refusals.{tip_refusal, proof_refusal, range_refusal}
use Rattle.qm_model.proofs.Chains.{take-least, Begins-self, Begins-length, Begins-through, known-begins, on_chain-fits}
use Rattle.qm_model.proofs.Boundaries.{quotient-rises}
use Rattle.qm_model.proofs.Openings.{Keeps, unordered-keeps, ordered-keeps, unordered-parts, ordered-parts, begins_take, begins_both, floor-rises, length-rises, pruned-rises}
use Rattle.qm_machine.specs.Lines.{Line, Open, Batch, Child, Tip, Put, Del, Merkleize, Stage, Expand, Resolve, Apply, Ops, Evicted, Get, Many, Next, Prev, Span, Range, Keys, Info, BatchInfo, Root, BatchRoot, BatchProof, Meta, Prove, Pins, Question, Held, Absent, Witness, Current, Prune, Commit, Sync, Close, Destroy, Crash, Answer}
use Rattle.qm_machine.specs.Lines as lines
use Rattle.qm_machine.specs.Machine.{State, Slot, gone, writing, staged, merkleized, turn, slot_at, start_child, put_in, list_operations, list_evicted, with_database, closed, commit, opened_as, found_in, unless, merkleize_tip, merkleize_writes, merkleize_in, resolve_in, apply_in, if_readable, if_staged, stage_in, expand_in, read_in, read, if_ordered, if_any, if_current, if_absences, held_at, absent_at, if_checked, asked, answered, neighbour_in, neighbour_of, info_in, root_in, proof_in, pruned, prune_in}
use Rattle.qm_model.specs.Schemes.{Grafts, Scheme, HasBounds, takes, chunks_of, kind_of, engine_of, layout_of}
use Rattle.qm_model.specs.Held.{pins_lacked, proof_lacked}
use Rattle.qm_machine.specs.Sound.{IsSoundSlot, IsSound}
use Rattle.qm_engine.specs.Stores.{MayBe, grown, cut, counted, moved, emptied, least}
use Rattle.qm_machine.proofs.Sounds.{settled-kept, pruned-kept, restarted-kept, empty-kept, grown-kept}

-- The log after a command follows the one before: its list begins with the list before, or is a beginning of that, and then it is
-- empty, or of no lower start and no fewer pruned chunks.
abbrev pub Followed : Log → Log → Type 0
Followed before after = Begins before.list after.list ⊎ (Begins after.list before.list × ((after.list ≡ []) ⊎ ((before.start ≤ after.start) × (before.chunks ≤ after.chunks))))

-- Beginnings.

drop_all : (n : ℕ) (list : List Operation) → length list ≤ n → drop n list ≡ []
drop_all zero [] low = refl
drop_all (suc n) [] low = refl
drop_all zero (op ∷ list) low = absurd (omega (arith, low))
drop_all (suc n) (op ∷ list) low = drop_all n list (omega (arith, low))

take_nothing : (n : ℕ) → take {A = Operation} n [] ≡ []
take_nothing zero = refl
take_nothing (suc n) = refl

-- two lists have the same first operations, if one begins with the other
same_front : (n : ℕ) (short long : List Operation) → Begins short long → n ≤ length short → take n short ≡ take n long
same_front n short long begins low = ap (take n) (sym begins) ∙ take-least n (length short) long low

-- a list with a first part of what follows it in another one
abbrev with_part : List Operation → List Operation → ℕ → List Operation
with_part list longer count = list ++ take count (drop (length list) longer)

-- is a beginning of that one, if that begins with the list
part_of : (list longer : List Operation) (count : ℕ) → Begins list longer → with_part list longer count ≡ take (length list + count) longer
part_of list longer count begins = ap (λ ops. ops ++ take count (drop (length list) longer)) (sym begins) ∙ sym (take-add (length list) count longer)

-- and the list itself, if it begins with that one
no_part : (list shorter : List Operation) (count : ℕ) → Begins shorter list → with_part list shorter count ≡ list
no_part list shorter count begins =
    ap (λ ops. list ++ take count ops) (drop_all (length list) shorter (Begins-length shorter list begins)) ∙ (ap (λ ops. list ++ ops) (take_nothing count) ∙ append-nil list)

module _ (m : Scheme) {P : Type 0} (rules : Rules P) where
  -- databases leave this log
  abbrev Kept : Log → Type 0
  Kept log = IsKept (engine_of m rules) log

  -- this list is a beginning of one that steps made
  abbrev PartMade : List Operation → Type 0
  PartMade list = IsPartMade (engine_of m rules) list

  -- databases leave as many chunks of this log pruned
  abbrev Pruned : Log → Type 0
  Pruned log = ArePruned (engine_of m rules) (chunks_of m) log

  keeps : Keeps (kind_of m) rules
  keeps = by m.form.ordered
    where
      by : (b : Bool) → Keeps (cond b ordered unordered) rules
      by true = ordered-keeps rules
      by false = unordered-keeps rules

  part-made : (n : ℕ) (list : List Operation) → PartMade list → PartMade (take n list)
  part-made n list made = record {
    whole = made.whole;
    made = made.made;
    begins = Begins-through (take n list) list made.whole (begins_take n list) made.begins;
    of_form = All-take (IsOf m.form) n list made.of_form;
  }

  -- what is pruned tells nothing of a list but of what is stable of it
  pruned-alike : (log : Log) (list : List Operation) (n : ℕ) → take log.stable log.list ≡ take n list → Pruned log → Pruned (record log { list = list; stable = n })
  pruned-alike log list n same = by (chunks_of m)
    where
      by : (chunks : Option Chunks) → ArePruned (engine_of m rules) chunks log → ArePruned (engine_of m rules) chunks (record log { list = list; stable = n })
      by None is = tt
      by (Some c) is = (is.0, subst (λ ops. log.chunks * 2 ^ c.height ≤ boundary m.shape c.height (ended_part ops)) same is.1)

  -- if more is stable, no less is settled, and of no lower floor
  stays-kept : (log : Log) (stable : ℕ) → PartMade log.list → log.start ≤ floor (ended_part (take log.stable log.list)) → Pruned log → log.stable ≤ stable → stable ≤ length log.list → Kept (record log { stable = stable })
  stays-kept log stable made low pruned_is more within =
      let front = begins_both log.stable stable log.list more in
      let rise : floor (ended_part (take log.stable log.list)) ≤ floor (ended_part (take stable log.list)) = floor-rises keeps (take log.stable log.list) (take stable log.list) made.whole made.made front
      (Begins-through (take stable log.list) log.list made.whole (begins_take stable log.list) made.begins) in
      record {
        made = made;
        start = le_trans low rise;
        stable = within;
        chunks = pruned-rises keeps m.hash (layout_of m) (chunks_of m) log log.list stable rise (length-rises (take log.stable log.list) (take stable log.list) front) pruned_is;
      }

  -- a log with a longer list, of which no less is stable
  onward-kept : (log : Log) (list : List Operation) (stable : ℕ) → Kept log → PartMade list → Begins log.list list → log.stable ≤ stable → stable ≤ length list → Kept (record log { list = list; stable = stable })
  onward-kept log list stable kept made begins more within =
      let same = same_front log.stable log.list list begins kept.stable in
      stays-kept (record log { list = list }) stable made (subst (λ ops. log.start ≤ floor (ended_part ops)) same kept.start) (pruned-alike log list log.stable same kept.chunks) more within

  -- What a failed command leaves.

  -- the list before, with a first part of what the command appends to it
  pub grown-kept-part : (before after : Log) (count stable : ℕ) → IsKept (engine_of m rules) before → IsKept (engine_of m rules) after → Followed before after → before.stable ≤ stable
      → stable ≤ length (before.list ++ take count (drop (length before.list) after.list))
      → IsKept (engine_of m rules) (record before { list = before.list ++ take count (drop (length before.list) after.list); stable = stable })
  grown-kept-part before after count stable kept next (inl begins) more within =
      let size = length before.list + count in
      let is : with_part before.list after.list count ≡ take size after.list = part_of before.list after.list count begins in
      let shorter : length before.list ≤ size = omega arith in
      let front : Begins before.list (take size after.list) = take-least (length before.list) size after.list shorter ∙ begins in
      subst (λ list. Kept (record before { list = list; stable = stable })) (sym is)
      (onward-kept before (take size after.list) stable kept (part-made size after.list next.made) front more (subst (λ list. stable ≤ length list) is within))
  grown-kept-part before after count stable kept next (inr (begins, low)) more within =
      let is : with_part before.list after.list count ≡ before.list = no_part before.list after.list count begins in
      subst (λ list. Kept (record before { list = list; stable = stable })) (sym is)
      (onward-kept before before.list stable kept kept.made (Begins-self before.list) more (subst (λ list. stable ≤ length list) is within))

  -- if this much of a log's list is stable, no settled commit needs an operation below the start, and as many chunks may be pruned
  abbrev IsLow : Log → ℕ → Type 0
  IsLow log n = (log.start ≤ floor (ended_part (take n log.list))) × Pruned (record log { stable = n })

  -- if the command keeps less of the list than was stable, it is so of what is stable after it
  low-after : (before after : Log) → Kept before → Kept after → Followed before after → (length after.list == 0) ≡ false → length after.list < before.stable → IsLow before after.stable
  low-after before after kept next (inl begins) some short = let size = Begins-length before.list after.list begins in let low = kept.stable in absurd (omega (arith, size, low, short))
  low-after before after kept next (inr (begins, inl none)) some short = absurd (cc)
  low-after before after kept next (inr (begins, inr (low, few))) some short =
      (subst (λ ops. before.start ≤ floor (ended_part ops)) same (le_trans low next.start), by (chunks_of m) kept.chunks next.chunks)
    where
      same : take after.stable after.list ≡ take after.stable before.list
      same = same_front after.stable after.list before.list begins next.stable

      by : (chunks : Option Chunks) → ArePruned (engine_of m rules) chunks before → ArePruned (engine_of m rules) chunks after → ArePruned (engine_of m rules) chunks (record before { stable = after.stable })
      by None old new = tt
      by (Some c) old new = (old.0, le_trans (mul-le before.chunks (2 ^ c.height) after.chunks (2 ^ c.height) few (le_refl (2 ^ c.height))) (subst (λ ops. after.chunks * 2 ^ c.height ≤ boundary m.shape c.height (ended_part ops)) same new.1))

  -- it is so of some size up to this one
  abbrev HasLow : Log → ℕ → Type 0
  HasLow log size = (n : ℕ) × (n ≤ size) × IsLow log n

  -- of one up to the least that the command keeps
  low-least : (before after : Log) → Kept before → Kept after → Followed before after → HasLow before (least before after)
  low-least before after kept next followed = by (length after.list == 0) refl
    where
      shorter : (b : Bool) → nat_lt (length after.list) before.stable ≡ b → (length after.list == 0) ≡ false → HasLow before (min before.stable (length after.list))
      shorter false long some = let is = ltb-false (length after.list) before.stable long in (before.stable, omega (arith, is), (kept.start, kept.chunks))
      shorter true short some =
          let is = ltb-true (length after.list) before.stable short in
          let low = next.stable in
          (after.stable, omega (arith, is, low), low-after before after kept next followed some is)

      by : (b : Bool) → (length after.list == 0) ≡ b → HasLow before (cond b before.stable (min before.stable (length after.list)))
      by true none = (before.stable, le_refl before.stable, (kept.start, kept.chunks))
      by false some = shorter (nat_lt (length after.list) before.stable) refl some

  -- a beginning of the list before
  pub cut-kept-part : (before after : Log) (to stable : ℕ) → IsKept (engine_of m rules) before → IsKept (engine_of m rules) after → Followed before after → least before after ≤ to → least before after ≤ stable
      → stable ≤ length (take to before.list) → IsKept (engine_of m rules) (record before { list = take to before.list; stable = stable })
  cut-kept-part before after to stable kept next followed long enough within =
      let (known, few, low) = low-least before after kept next followed in
      let least_known : known ≤ to = le_trans few long in
      let same = sym (take-least known to before.list least_known) in
      stays-kept (record before { list = take to before.list; stable = known }) stable (part-made to before.list kept.made)
      (subst (λ ops. before.start ≤ floor (ended_part ops)) same low.0) (pruned-alike (record before { stable = known }) (take to before.list) known same low.1) (le_trans few enough) within

  -- whatever may be left
  pub may-kept : (before after log : Log) → IsKept (engine_of m rules) before → IsKept (engine_of m rules) after → Followed before after → MayBe before after log → log.stable ≤ length log.list → IsKept (engine_of m rules) log
  may-kept before after _ kept next followed (grown count stable more same) within = grown-kept-part before after count stable kept next followed more within
  may-kept before after _ kept next followed (cut to stable final long enough) within = cut-kept-part before after to stable kept next followed long enough within
  may-kept before after _ kept next followed (counted more starts) within = record { made = next.made; start = le_trans starts next.start; stable = next.stable; chunks = by (chunks_of m) next.chunks }
    where
      by : (chunks : Option Chunks) → ArePruned (engine_of m rules) chunks after → ArePruned (engine_of m rules) chunks (record after { start = before.start })
      by None is = tt
      by (Some c) is = (le_trans (quotient-rises before.start after.start (2 ^ c.height) (pow_pos c.height) starts) is.0, is.1)
  may-kept before after _ kept next followed (moved past) within = next
  may-kept before after _ kept next followed (emptied none) within = empty-kept m rules

  -- Commands.

  -- the log after it is one that databases leave, and follows the one before
  abbrev Follows : State → Answer × State → Type 0
  Follows s turned = IsKept (engine_of m rules) (turned.1).log × Followed s.log (turned.1).log

  -- it may stay as it is
  unmoved : (s : State) → IsSound m rules s → IsKept (engine_of m rules) s.log × Followed s.log s.log
  unmoved s is = (is.kept, inl (Begins-self s.log.list))

  stays : (s : State) (log : Log) → IsSound m rules s → log ≡ s.log → IsKept (engine_of m rules) log × Followed s.log log
  stays s log is e = subst (λ log. IsKept (engine_of m rules) log × Followed s.log log) (sym e) (unmoved s is)

  either : (s : State) (b : Bool) (p q : Answer × State) → (b ≡ true → Follows s p) → (b ≡ false → Follows s q) → Follows s (cond b p q)
  either s true p q a b = a refl
  either s false p q a b = b refl

  with_list : (s : State) (d : Option (List Operation)) (f : List Operation → Answer × State) → IsSound m rules s → ((list : List Operation) → d ≡ Some list → Follows s (f list)) → Follows s (with_database s d f)
  with_list s None f is each = unmoved s is
  with_list s (Some list) f is each = each list refl

  -- Those that leave the log.

  abbrev Stays : State → Answer × State → Type 0
  Stays s turned = (turned.1).log ≡ s.log

  either_stays : (s : State) (b : Bool) (p q : Answer × State) → Stays s p → Stays s q → Stays s (cond b p q)
  either_stays s true p q a b = a
  either_stays s false p q a b = b

  listed : (s : State) (d : Option (List Operation)) (f : List Operation → Answer × State) → ((list : List Operation) → Stays s (f list)) → Stays s (with_database s d f)
  listed s None f each = refl
  listed s (Some list) f each = each list

  ordered_only : (s : State) (offered : Answer × State) → Stays s offered → Stays s (if_ordered m s offered)
  ordered_only s offered stays = either_stays s m.form.ordered offered _ stays refl

  any_only : (s : State) (grafts : Option Grafts) (offered : Answer × State) → Stays s offered → Stays s (if_any s grafts offered)
  any_only s None offered stays = stays
  any_only s (Some g) offered stays = refl

  current_only : (s : State) (grafts : Option Grafts) (offered : Grafts → Answer × State) → ((g : Grafts) → Stays s (offered g)) → Stays s (if_current s grafts offered)
  current_only s None offered stays = refl
  current_only s (Some g) offered stays = stays g

  unless_due : (s : State) (due : Option Refused) (answer : Answer) → Stays s (unless s due answer)
  unless_due s None answer = refl
  unless_due s (Some r) answer = refl

  held_stays : (s : State) (checks : Checks) (list : List Operation) (found : Option Live) → Stays s (held_at s checks list found)
  held_stays s checks list None = refl
  held_stays s checks list (Some e) = refl

  absent_stays : (s : State) (proved : ℕ × Bool) (found : Option Live) → Stays s (absent_at s proved found)
  absent_stays s proved None = refl
  absent_stays s proved (Some e) = refl

  absences_stay : (s : State) (check : Option (List Operation → Bytes → ℕ × Bool)) (key : Bytes) → Stays s (if_absences s check (λ c. with_database s s.database (λ list. absent_at s (c list key) (live_of (live list) key))))
  absences_stay s None key = refl
  absences_stay s (Some c) key = listed s s.database _ (λ list. absent_stays s (c list key) (live_of (live list) key))

  asked_stays : (s : State) (g : Grafts) (checks : Checks) (question : Question) → Stays s (asked s g checks question)
  asked_stays s g checks (Held key) = listed s s.database _ (λ list. held_stays s checks list (live_of (live list) key))
  asked_stays s g checks (Absent key) = absences_stay s checks.absent key
  asked_stays s g checks (lines.Chunks start max) = listed s s.database _ (λ list. unless_due s (range_refusal g.chunks.height s.log.chunks s.log.start list start) _)
  asked_stays s g checks Witness = listed s s.database _ (λ list. refl)

  answered_stays : (s : State) (g : Grafts) (question : Question) → Stays s (answered s g question)
  answered_stays s g question = by g.checks
    where
      by : (checks : Option Checks) → Stays s (if_checked s checks (λ checks. asked s g checks question))
      by None = refl
      by (Some checks) = asked_stays s g checks question

  child_stays : (s : State) (h : ℕ) (keep : Option ℕ) (slot : Slot) → Stays s (start_child s h keep slot)
  child_stays s h keep (merkleized chain tip evicted) = refl
  child_stays s h keep gone = refl
  child_stays s h keep (staged chain parent ws keys) = refl
  child_stays s h keep (writing chain parent ws) = refl

  put_stays : (s : State) (h : ℕ) (w : Write) (slot : Slot) → Stays s (put_in s h w slot)
  put_stays s h w (writing chain parent ws) = refl
  put_stays s h w gone = refl
  put_stays s h w (staged chain parent ws keys) = refl
  put_stays s h w (merkleized chain tip evicted) = refl

  operations_stay : (s : State) (h : ℕ) (slot : Slot) → Stays s (list_operations s h slot)
  operations_stay s h (merkleized chain tip evicted) = refl
  operations_stay s h gone = refl
  operations_stay s h (staged chain parent ws keys) = refl
  operations_stay s h (writing chain parent ws) = refl

  evicted_stay : (s : State) (h : ℕ) (slot : Slot) → Stays s (list_evicted s h slot)
  evicted_stay s h (merkleized chain tip evicted) = refl
  evicted_stay s h gone = refl
  evicted_stay s h (staged chain parent ws keys) = refl
  evicted_stay s h (writing chain parent ws) = refl

  readable_stays : (s : State) (list : List Operation) (chain : Chain) (tip : List Operation) (answer : Answer) → Stays s (if_readable m s list chain tip answer)
  readable_stays s list chain tip answer = either_stays s (readable m.root (commitment m.root list) chain tip) _ _ refl refl

  staged_stays : (s : State) (h : ℕ) (list : List Operation) (chain parent : Chain) (answer : Answer) (slot : Slot) → Stays s (if_staged m s h list chain parent answer slot)
  staged_stays s h list chain parent answer slot = either_stays s (readable m.root (commitment m.root list) parent chain.base) _ _ refl refl

  stage_stays : (s : State) (h : ℕ) (keys : List Bytes) (list : List Operation) (slot : Slot) → Stays s (stage_in m s h keys list slot)
  stage_stays s h keys list (writing chain parent ws) = staged_stays s h list chain parent _ _
  stage_stays s h keys list gone = refl
  stage_stays s h keys list (staged chain parent ws ks) = refl
  stage_stays s h keys list (merkleized chain tip evicted) = refl

  expand_stays : (s : State) (h : ℕ) (keys : List Bytes) (list : List Operation) (slot : Slot) → Stays s (expand_in m s h keys list slot)
  expand_stays s h keys list (staged chain parent ws ks) = staged_stays s h list chain parent _ _
  expand_stays s h keys list gone = refl
  expand_stays s h keys list (writing chain parent ws) = refl
  expand_stays s h keys list (merkleized chain tip evicted) = refl

  read_in_stays : (s : State) (h : ℕ) (keys : List Bytes) (list : List Operation) (slot : Slot) → Stays s (read_in m s h keys list slot)
  read_in_stays s h keys list (writing chain parent ws) = readable_stays s list parent chain.base _
  read_in_stays s h keys list (merkleized chain tip evicted) = readable_stays s list chain tip _
  read_in_stays s h keys list gone = refl
  read_in_stays s h keys list (staged chain parent ws ks) = refl

  read_stays : (s : State) (keys : List Bytes) (from : Option ℕ) → Stays s (read m s keys from)
  read_stays s keys None = listed s s.database _ (λ list. refl)
  read_stays s keys (Some h) = listed s s.database _ (λ list. read_in_stays s h keys list (slot_at s.table h))

  neighbour_in_stays : (s : State) (h : ℕ) (beside : List Bytes → Option Bytes) (list : List Operation) (slot : Slot) → Stays s (neighbour_in m s h beside list slot)
  neighbour_in_stays s h beside list (merkleized chain tip evicted) = readable_stays s list chain tip _
  neighbour_in_stays s h beside list gone = refl
  neighbour_in_stays s h beside list (writing chain parent ws) = refl
  neighbour_in_stays s h beside list (staged chain parent ws ks) = refl

  neighbour_stays : (s : State) (beside : List Bytes → Option Bytes) (from : Option ℕ) → Stays s (neighbour_of m s beside from)
  neighbour_stays s beside None = listed s s.database _ (λ list. refl)
  neighbour_stays s beside (Some h) = listed s s.database _ (λ list. neighbour_in_stays s h beside list (slot_at s.table h))

  info_stays : (s : State) (h : ℕ) (slot : Slot) → Stays s (info_in m s h slot)
  info_stays s h (merkleized chain tip evicted) = refl
  info_stays s h gone = refl
  info_stays s h (staged chain parent ws keys) = refl
  info_stays s h (writing chain parent ws) = refl

  root_stays : (s : State) (h : ℕ) (slot : Slot) → Stays s (root_in m s h slot)
  root_stays s h (merkleized chain tip evicted) = refl
  root_stays s h gone = refl
  root_stays s h (staged chain parent ws keys) = refl
  root_stays s h (writing chain parent ws) = refl

  proof_stays : (s : State) (h : ℕ) (list : List Operation) (slot : Slot) → Stays s (proof_in m s h list slot)
  proof_stays s h list (merkleized chain tip evicted) =
      either_stays s (readable m.root (commitment m.root list) chain tip) _ _ (unless_due s (proof_lacked m.shape s.log.start list chain tip) _) refl
  proof_stays s h list gone = refl
  proof_stays s h list (staged chain parent ws keys) = refl
  proof_stays s h list (writing chain parent ws) = refl

  tip_stays : (s : State) (h : ℕ) (chain : Chain) (tip : List Operation) (evicted : List (Bytes × Bytes)) (due : Option Refused) → Stays s (merkleize_tip s h chain tip evicted due)
  tip_stays s h chain tip evicted None = refl
  tip_stays s h chain tip evicted (Some r) = refl

  writes_stay : (s : State) (h : ℕ) (policy : P) (meta : Option Bytes) (list : List Operation) (chain : Chain) (ws : List Write) → Stays s (merkleize_writes m rules s h policy meta list chain ws)
  writes_stay s h policy meta list chain ws =
      let tip = step (kind_of m) rules chain.base ws policy meta in
      let evicted = evicted_by (kind_of m) rules chain.base ws policy in
      either_stays s (takes m.grafts s.opened chain.instance && fits m.root (commitment m.root list) chain) _ _ (tip_stays s h chain tip evicted (tip_refusal m.form chain tip)) refl

  merkleize_stays : (s : State) (h : ℕ) (policy : P) (meta : Option Bytes) (list : List Operation) (slot : Slot) → Stays s (merkleize_in m rules s h policy meta list slot)
  merkleize_stays s h policy meta list (writing chain parent ws) = writes_stay s h policy meta list chain ws
  merkleize_stays s h policy meta list gone = refl
  merkleize_stays s h policy meta list (staged chain parent ws keys) = refl
  merkleize_stays s h policy meta list (merkleized chain tip evicted) = refl

  resolve_stays : (s : State) (h : ℕ) (policy : P) (meta : Option Bytes) (given : List slots.Slot) (others : List Write) (list : List Operation) (slot : Slot) → Stays s (resolve_in m rules s h policy meta given others list slot)
  resolve_stays s h policy meta given others list (staged chain parent ws keys) =
      either_stays s (length keys == length given) _ _ (writes_stay s h policy meta list chain (slotted ws keys given others)) refl
  resolve_stays s h policy meta given others list gone = refl
  resolve_stays s h policy meta given others list (writing chain parent ws) = refl
  resolve_stays s h policy meta given others list (merkleized chain tip evicted) = refl

  -- Those that change it.

  -- an opening takes up a beginning, whichever kind of database it is
  opens-parts : ArePrompt (chunks_of m) m.shape → OpensParts (engine_of m rules)
  opens-parts prompt = by m.form.ordered
    where
      by : (b : Bool) → OpensParts (record { kind = cond b ordered unordered; rules = rules; hash = m.hash; layout = layout_of m })
      by true = ordered-parts rules m.hash (layout_of m) prompt
      by false = unordered-parts rules m.hash (layout_of m) prompt

  -- a beginning of the list, or of an empty store the fresh list
  opened-part : (log : Log) (list : List Operation) → Begins list log.list ⊎ ((log.list ≡ []) × (list ≡ fresh)) → Followed log (taken_up list log)
  opened-part log list (inl begins) = inr (begins, inr (le_refl log.start, le_refl log.chunks))
  opened-part log list (inr (none, new)) = inl (subst (λ ops. Begins ops list) (sym none) refl)

  opened_follows : ArePrompt (chunks_of m) m.shape → (s : State) (bound : Option ℕ) (o : Opening) → opening (layout_of m) (found_in m s.log) bound ≡ o → IsSound m rules s → Follows s (opened_as (closed s) o)
  opened_follows prompt s bound (refuses r) e is = unmoved s is
  opened_follows prompt s bound (opens size) e is =
      let takes : Takes (engine_of m rules) s.log bound size = opens-parts prompt s.log bound size is.kept e in
      (takes.kept, opened-part s.log (opened_list size s.log.list) takes.part)

  -- the tips of the table's batches are of the machine's form
  abbrev AreFormed : State → Type 0
  AreFormed s = (h : ℕ) (chain : Chain) (tip : List Operation) (evicted : List (Bytes × Bytes)) → slot_at s.table h ≡ merkleized chain tip evicted → All (IsOf m.form) tip

  -- a batch that fits makes a list that begins with the database's
  apply_follows : (s : State) (h : ℕ) (list : List Operation) (slot : Slot) → s.database ≡ Some list → IsSoundSlot s.had slot → IsSound m rules s → Apart m.root s.had
      → ((chain : Chain) (tip : List Operation) (evicted : List (Bytes × Bytes)) → slot ≡ merkleized chain tip evicted → All (IsOf m.form) tip) → Follows s (apply_in m s h list slot)
  apply_follows s h list gone e one is apart formed = unmoved s is
  apply_follows s h list (staged chain parent ws keys) e one is apart formed = unmoved s is
  apply_follows s h list (writing chain parent ws) e one is apart formed = unmoved s is
  apply_follows s h list (merkleized chain tip evicted) e one is apart formed =
      either s (fits m.root (commitment m.root list) chain) _ _
      (λ fit.
      let held = is.held list e in
      let on = on_chain-fits m.root s.had list chain apart held.1 one.0 fit in
      let begins : Begins s.log.list tip = subst (λ ops. Begins ops tip) (sym held.0) (known-begins list chain tip (inr on) one.1 one.3) in
      (grown-kept m rules s.log tip is.kept begins (is.made tip one.2) (formed chain tip evicted refl), inl begins))
      (λ unfit. unmoved s is)

  commit_follows : (s : State) → IsSound m rules s → Follows s (commit s)
  commit_follows s is = with_list s s.database _ is (λ list e. (settled-kept m rules s.log is.kept, inl (Begins-self s.log.list)))

  prune_follows : HasBounds m → (s : State) (to : ℕ) (list : List Operation) → s.database ≡ Some list → IsSound m rules s → Follows s (prune_in m s to list)
  prune_follows bounds s to list e is = either s (nat_lt (m.boundary list) to) _ _ (λ past. unmoved s is) done
    where
      done : nat_lt (m.boundary list) to ≡ false → Follows s (lines.Done, record s { log = pruned m.grafts to s.log })
      done within =
          let held = is.held list e in (
            pruned-kept m rules bounds s.log to is.kept (subst (Made (kind_of m) rules) (sym held.0) (is.made list held.1)) (subst (λ ops. to ≤ m.boundary ops) (sym held.0) (ltb-false (m.boundary list) to within)),
            inl (Begins-self s.log.list),
          )

  destroy_follows : (s : State) → IsSound m rules s → Follows s (turn m rules s Destroy)
  destroy_follows s is = with_list s s.database _ is (λ list e. (empty-kept m rules, inr (refl, inl refl)))

  crash_follows : (s : State) (keep : ℕ) → IsSound m rules s → Follows s (turn m rules s (Crash keep))
  crash_follows s keep is =
      let chosen = slice_index_or s.choices 0 0 in
      (restarted-kept m rules chosen s.log is.kept, inr (begins_take (max s.log.stable (min (length s.log.list) chosen)) s.log.list, inr (le_refl s.log.start, le_refl s.log.chunks)))

  -- whichever command it is
  pub turn-followed : HasBounds m → (s : State) (line : Line P) → IsSound m rules s → Apart m.root s.had
      → ((h : ℕ) (chain : Chain) (tip : List Operation) (evicted : List (Bytes × Bytes)) → slot_at s.table h ≡ merkleized chain tip evicted → All (IsOf m.form) tip)
      → IsKept (engine_of m rules) ((turn m rules s line).1).log × Followed s.log ((turn m rules s line).1).log
  turn-followed bounds s (Open bound) is apart formed = opened_follows bounds.prompt s bound (opening (layout_of m) (found_in m s.log) bound) refl is
  turn-followed bounds s Batch is apart formed = stays s _ is (listed s s.database _ (λ list. refl))
  turn-followed bounds s (Child h keep) is apart formed = stays s _ is (child_stays s h keep (slot_at s.table h))
  turn-followed bounds s Tip is apart formed = stays s _ is (listed s s.database _ (λ list. refl))
  turn-followed bounds s (Put h key value) is apart formed = stays s _ is (put_stays s h _ (slot_at s.table h))
  turn-followed bounds s (Del h key) is apart formed = stays s _ is (put_stays s h _ (slot_at s.table h))
  turn-followed bounds s (Merkleize h policy meta) is apart formed = stays s _ is (listed s s.database _ (λ list. merkleize_stays s h policy meta list (slot_at s.table h)))
  turn-followed bounds s (Stage h keys) is apart formed = stays s _ is (listed s s.database _ (λ list. stage_stays s h keys list (slot_at s.table h)))
  turn-followed bounds s (Expand h keys) is apart formed = stays s _ is (listed s s.database _ (λ list. expand_stays s h keys list (slot_at s.table h)))
  turn-followed bounds s (Resolve h policy meta given others) is apart formed = stays s _ is (listed s s.database _ (λ list. resolve_stays s h policy meta given others list (slot_at s.table h)))
  turn-followed bounds s (Apply h) is apart formed = with_list s s.database _ is (λ list e. apply_follows s h list (slot_at s.table h) e (is.slots h) is apart (formed h))
  turn-followed bounds s (Ops h) is apart formed = stays s _ is (operations_stay s h (slot_at s.table h))
  turn-followed bounds s (Evicted h) is apart formed = stays s _ is (evicted_stay s h (slot_at s.table h))
  turn-followed bounds s (Get key from) is apart formed = stays s _ is (read_stays s (key ∷ []) from)
  turn-followed bounds s (Many keys from) is apart formed = stays s _ is (read_stays s keys from)
  turn-followed bounds s (Next key from) is apart formed = stays s _ is (ordered_only s _ (neighbour_stays s (λ keys. key_above keys key) from))
  turn-followed bounds s (Prev key from) is apart formed = stays s _ is (ordered_only s _ (neighbour_stays s (λ keys. key_below keys key) from))
  turn-followed bounds s (Span key) is apart formed = stays s _ is (ordered_only s _ (listed s s.database _ (λ list. refl)))
  turn-followed bounds s (lines.All key) is apart formed = stays s _ is (ordered_only s _ (listed s s.database _ (λ list. refl)))
  turn-followed bounds s (Range low high) is apart formed = stays s _ is (ordered_only s _ (listed s s.database _ (λ list. refl)))
  turn-followed bounds s (Keys low high) is apart formed = stays s _ is (ordered_only s _ (listed s s.database _ (λ list. refl)))
  turn-followed bounds s Info is apart formed = stays s _ is (listed s s.database _ (λ list. refl))
  turn-followed bounds s (BatchInfo h) is apart formed = stays s _ is (info_stays s h (slot_at s.table h))
  turn-followed bounds s Root is apart formed = stays s _ is (listed s s.database _ (λ list. refl))
  turn-followed bounds s (BatchRoot h) is apart formed = stays s _ is (root_stays s h (slot_at s.table h))
  turn-followed bounds s (BatchProof h) is apart formed = stays s _ is (any_only s m.grafts _ (listed s s.database _ (λ list. proof_stays s h list (slot_at s.table h))))
  turn-followed bounds s Meta is apart formed = stays s _ is (listed s s.database _ (λ list. refl))
  turn-followed bounds s (Prove size start count) is apart formed = stays s _ is (listed s s.database _ (λ list. unless_due s (proof_refusal s.log.start list size start) _))
  turn-followed bounds s (Pins n) is apart formed = stays s _ is (listed s s.database _ (λ list. unless_due s (pins_lacked m.shape s.log.start list n) _))
  turn-followed bounds s (Current question) is apart formed = stays s _ is (current_only s m.grafts (λ g. answered s g question) (λ g. answered_stays s g question))
  turn-followed bounds s (Prune to) is apart formed = with_list s s.database _ is (λ list e. prune_follows bounds s to list e is)
  turn-followed bounds s Commit is apart formed = commit_follows s is
  turn-followed bounds s Sync is apart formed = commit_follows s is
  turn-followed bounds s Close is apart formed = stays s _ is (listed s s.database _ (λ list. refl))
  turn-followed bounds s Destroy is apart formed = destroy_follows s is
  turn-followed bounds s (Crash keep) is apart formed = crash_follows s keep is
