-- Runs of the machine: one command more, and lists that a run has had stay so.
use Rattle.std.proofs.Common.{◌≡◌, ℕ, Bool, true, false, cond, List, [], ◌∷◌, ◌++◌, Option, Some, None, refl, ap}
use Rattle.std.specs.Prelude.{Contains, length, nat_lt, ◌==◌, ◌&&◌}
use Rattle.qm_model.specs.Checks.{Checks}
use Rattle.qm_model.specs.Live.{Live, live, live_of}
use Rattle.qm_model.specs.Operations.{Bytes, Operation}
use Rattle.qm_model.specs.Opening.{Opening, refuses, opens, opening, opened_list}
use Rattle.qm_model.specs.Walk.{Rules}
use Rattle.qm_model.specs.Writes.{Write}
use Rattle.qm_model.specs.Slots.{slotted}
use Rattle.qm_model.specs.Slots as slots
use Rattle.qm_model.specs.Batches.{Chain, Apart, commitment, fits, readable}
use Rattle.qm_machine.specs.Lines.{Line, Open, Batch, Child, Tip, Put, Del, Merkleize, Stage, Expand, Resolve, Apply, Ops, Evicted, Get, Many, Next, Prev, Span, All, Range, Keys, Info, BatchInfo, Root, BatchRoot, BatchProof, Meta, Prove, Pins, Question, Held, Absent, Witness, Current, Prune, Commit, Sync, Close, Destroy, Crash, Answer}
use Rattle.qm_machine.specs.Lines as lines
use Rattle.qm_model.specs.Refused.{Refused}
use Rattle.qm_machine.specs.Machine.{State, Slot, choices_after, gone, writing, staged, merkleized, turn, answers, state_after, slot_at, start_child, put_in, list_operations, list_evicted, with_database, opened_as, found_in, closed, unless, merkleize_tip, merkleize_writes, merkleize_in, resolve_in, apply_in, if_readable, if_staged, stage_in, expand_in, read_in, read, if_ordered, neighbour_in, neighbour_of, info_in, root_in, proof_in, prune_in, if_any, if_current, if_absences, held_at, absent_at, answered}
use Rattle.qm_machine.specs.Machine.{asked, if_checked}
use Rattle.qm_model.specs.Schemes.{Scheme, layout_of, Grafts, takes}
use Rattle.qm_model.specs.Held.{pins_lacked, proof_lacked}
use Rattle.qm_model.specs.Ranges.{key_above, key_below}
use Rattle.qm_model.specs.Refusals.{tip_refusal, proof_refusal, range_refusal}
use Rattle.qm_model.proofs.Chains.{Contains-more}

pub state_after-push : (m : Scheme) {P : Type 0} (rules : Rules P) (s : State) (lines : List (Line P)) (line : Line P) → state_after m rules s (lines ++ line ∷ []) ≡ (turn m rules (state_after m rules s lines) line).1
state_after-push m rules s [] line = refl
state_after-push m rules s (l ∷ lines) line = state_after-push m rules (turn m rules s l).1 lines line

pub answers-push : (m : Scheme) {P : Type 0} (rules : Rules P) (s : State) (lines : List (Line P)) (line : Line P) → answers m rules s (lines ++ line ∷ []) ≡ answers m rules s lines ++ (turn m rules (state_after m rules s lines) line).0 ∷ []
answers-push m rules s [] line = refl
answers-push m rules s (l ∷ lines) line = ap (λ r. (turn m rules s l).0 ∷ r) (answers-push m rules (turn m rules s l).1 lines line)

-- what an answer leaves keeps each list that was had, and the choices to come
abbrev Keeps : State → Answer × State → Type 0
Keeps s next = ((x : List Operation) → Contains s.had x → Contains (next.1).had x) × ((next.1).choices ≡ s.choices)

either : (s : State) (t : Bool) (p q : Answer × State) → Keeps s p → Keeps s q → Keeps s (cond t p q)
either s true p q a b = a
either s false p q a b = b

with_list : (s : State) (d : Option (List Operation)) (f : List Operation → Answer × State) → ((list : List Operation) → Keeps s (f list)) → Keeps s (with_database s d f)
with_list s None f h = (λ x a. a, refl)
with_list s (Some list) f h = h list

opened : (s : State) (o : Opening) → Keeps s (opened_as s o)
opened s (refuses r) = (λ x a. a, refl)
opened s (opens size) = (λ x a. Contains-more s.had (opened_list size s.log.list) x a, refl)

put_keeps : (s : State) (h : ℕ) (w : Write) (slot : Slot) → Keeps s (put_in s h w slot)
put_keeps s h w gone = (λ x a. a, refl)
put_keeps s h w (staged chain parent ws keys) = (λ x a. a, refl)
put_keeps s h w (writing chain parent ws) = (λ x a. a, refl)
put_keeps s h w (merkleized chain tip evicted) = (λ x a. a, refl)

listed_keeps : (s : State) (h : ℕ) (slot : Slot) → Keeps s (list_operations s h slot)
listed_keeps s h gone = (λ x a. a, refl)
listed_keeps s h (staged chain parent ws keys) = (λ x a. a, refl)
listed_keeps s h (writing chain parent ws) = (λ x a. a, refl)
listed_keeps s h (merkleized chain tip evicted) = (λ x a. a, refl)

evicted_keeps : (s : State) (h : ℕ) (slot : Slot) → Keeps s (list_evicted s h slot)
evicted_keeps s h gone = (λ x a. a, refl)
evicted_keeps s h (staged chain parent ws keys) = (λ x a. a, refl)
evicted_keeps s h (writing chain parent ws) = (λ x a. a, refl)
evicted_keeps s h (merkleized chain tip evicted) = (λ x a. a, refl)

child_keeps : (s : State) (h : ℕ) (keep : Option ℕ) (slot : Slot) → Keeps s (start_child s h keep slot)
child_keeps s h keep gone = (λ x a. a, refl)
child_keeps s h keep (staged chain parent ws keys) = (λ x a. a, refl)
child_keeps s h keep (writing chain parent ws) = (λ x a. a, refl)
child_keeps s h keep (merkleized chain tip evicted) = (λ x a. a, refl)

unless_keeps : (s : State) (due : Option Refused) (answer : Answer) → Keeps s (unless s due answer)
unless_keeps s None answer = (λ x a. a, refl)
unless_keeps s (Some r) answer = (λ x a. a, refl)

any_keeps : (s : State) (grafts : Option Grafts) (offered : Answer × State) → Keeps s offered → Keeps s (if_any s grafts offered)
any_keeps s None offered keeps = keeps
any_keeps s (Some g) offered keeps = (λ x a. a, refl)

current_keeps : (s : State) (grafts : Option Grafts) (offered : Grafts → Answer × State) → ((g : Grafts) → Keeps s (offered g)) → Keeps s (if_current s grafts offered)
current_keeps s None offered keeps = (λ x a. a, refl)
current_keeps s (Some g) offered keeps = keeps g

absences_keep : (s : State) (check : Option (List Operation → Bytes → ℕ × Bool)) (offered : (List Operation → Bytes → ℕ × Bool) → Answer × State) → ((c : List Operation → Bytes → ℕ × Bool) → Keeps s (offered c)) → Keeps s (if_absences s check offered)
absences_keep s None offered keeps = (λ x a. a, refl)
absences_keep s (Some c) offered keeps = keeps c

held_keeps : (s : State) (checks : Checks) (list : List Operation) (found : Option Live) → Keeps s (held_at s checks list found)
held_keeps s checks list None = (λ x a. a, refl)
held_keeps s checks list (Some e) = (λ x a. a, refl)

absent_keeps : (s : State) (proved : ℕ × Bool) (found : Option Live) → Keeps s (absent_at s proved found)
absent_keeps s proved None = (λ x a. a, refl)
absent_keeps s proved (Some e) = (λ x a. a, refl)

asked_keeps : (s : State) (g : Grafts) (checks : Checks) (question : Question) → Keeps s (asked s g checks question)
asked_keeps s g checks (Held key) = with_list s s.database _ (λ list. held_keeps s checks list (live_of (live list) key))
asked_keeps s g checks (Absent key) = absences_keep s checks.absent _ (λ check. with_list s s.database _ (λ list. absent_keeps s (check list key) (live_of (live list) key)))
asked_keeps s g checks (lines.Chunks start max) = with_list s s.database _ (λ list. unless_keeps s (range_refusal g.chunks.height s.log.chunks s.log.start list start) _)
asked_keeps s g checks Witness = with_list s s.database _ (λ list. (λ x a. a, refl))

answered_keeps : (s : State) (g : Grafts) (question : Question) → Keeps s (answered s g question)
answered_keeps s g question = by g.checks
  where
    by : (checks : Option Checks) → Keeps s (if_checked s checks (λ checks. asked s g checks question))
    by None = (λ x a. a, refl)
    by (Some checks) = asked_keeps s g checks question

tip_keeps : (s : State) (h : ℕ) (chain : Chain) (tip : List Operation) (evicted : List (Bytes × Bytes)) (due : Option Refused) → Keeps s (merkleize_tip s h chain tip evicted due)
tip_keeps s h chain tip evicted None = (λ x a. Contains-more s.had tip x a, refl)
tip_keeps s h chain tip evicted (Some r) = (λ x a. a, refl)

module _ (m : Scheme) where
  apply_keeps : (s : State) (h : ℕ) (list : List Operation) (slot : Slot) → Keeps s (apply_in m s h list slot)
  apply_keeps s h list gone = (λ x a. a, refl)
  apply_keeps s h list (staged chain parent ws keys) = (λ x a. a, refl)
  apply_keeps s h list (writing chain parent ws) = (λ x a. a, refl)
  apply_keeps s h list (merkleized chain tip evicted) = either s (fits m.root (commitment m.root list) chain) _ _ (λ x a. a, refl) (λ x a. a, refl)

  readable_keeps : (s : State) (list : List Operation) (chain : Chain) (tip : List Operation) (answer : Answer) → Keeps s (if_readable m s list chain tip answer)
  readable_keeps s list chain tip answer = either s (readable m.root (commitment m.root list) chain tip) _ _ (λ x a. a, refl) (λ x a. a, refl)

  read_in_keeps : (s : State) (h : ℕ) (keys : List Bytes) (list : List Operation) (slot : Slot) → Keeps s (read_in m s h keys list slot)
  read_in_keeps s h keys list gone = (λ x a. a, refl)
  read_in_keeps s h keys list (staged chain parent ws ks) = (λ x a. a, refl)
  read_in_keeps s h keys list (writing chain parent ws) = readable_keeps s list parent chain.base _
  read_in_keeps s h keys list (merkleized chain tip evicted) = readable_keeps s list chain tip _

  staged_keeps : (s : State) (h : ℕ) (list : List Operation) (chain parent : Chain) (answer : Answer) (slot : Slot) → Keeps s (if_staged m s h list chain parent answer slot)
  staged_keeps s h list chain parent answer slot = either s (readable m.root (commitment m.root list) parent chain.base) _ _ (λ x a. a, refl) (λ x a. a, refl)

  stage_keeps : (s : State) (h : ℕ) (keys : List Bytes) (list : List Operation) (slot : Slot) → Keeps s (stage_in m s h keys list slot)
  stage_keeps s h keys list gone = (λ x a. a, refl)
  stage_keeps s h keys list (writing chain parent ws) = staged_keeps s h list chain parent _ _
  stage_keeps s h keys list (staged chain parent ws ks) = (λ x a. a, refl)
  stage_keeps s h keys list (merkleized chain tip evicted) = (λ x a. a, refl)

  expand_keeps : (s : State) (h : ℕ) (keys : List Bytes) (list : List Operation) (slot : Slot) → Keeps s (expand_in m s h keys list slot)
  expand_keeps s h keys list gone = (λ x a. a, refl)
  expand_keeps s h keys list (writing chain parent ws) = (λ x a. a, refl)
  expand_keeps s h keys list (staged chain parent ws ks) = staged_keeps s h list chain parent _ _
  expand_keeps s h keys list (merkleized chain tip evicted) = (λ x a. a, refl)

  read_keeps : (s : State) (keys : List Bytes) (from : Option ℕ) → Keeps s (read m s keys from)
  read_keeps s keys None = with_list s s.database _ (λ list. (λ x a. a, refl))
  read_keeps s keys (Some h) = with_list s s.database _ (λ list. read_in_keeps s h keys list (slot_at s.table h))

  ordered_keeps : (s : State) (offered : Answer × State) → Keeps s offered → Keeps s (if_ordered m s offered)
  ordered_keeps s offered keeps = either s m.form.ordered _ _ keeps (λ x a. a, refl)

  neighbour_in_keeps : (s : State) (h : ℕ) (beside : List Bytes → Option Bytes) (list : List Operation) (slot : Slot) → Keeps s (neighbour_in m s h beside list slot)
  neighbour_in_keeps s h beside list gone = (λ x a. a, refl)
  neighbour_in_keeps s h beside list (staged chain parent ws ks) = (λ x a. a, refl)
  neighbour_in_keeps s h beside list (writing chain parent ws) = (λ x a. a, refl)
  neighbour_in_keeps s h beside list (merkleized chain tip evicted) = readable_keeps s list chain tip _

  neighbour_keeps : (s : State) (beside : List Bytes → Option Bytes) (from : Option ℕ) → Keeps s (neighbour_of m s beside from)
  neighbour_keeps s beside None = with_list s s.database _ (λ list. (λ x a. a, refl))
  neighbour_keeps s beside (Some h) = with_list s s.database _ (λ list. neighbour_in_keeps s h beside list (slot_at s.table h))

  info_keeps : (s : State) (h : ℕ) (slot : Slot) → Keeps s (info_in m s h slot)
  info_keeps s h gone = (λ x a. a, refl)
  info_keeps s h (staged chain parent ws keys) = (λ x a. a, refl)
  info_keeps s h (writing chain parent ws) = (λ x a. a, refl)
  info_keeps s h (merkleized chain tip evicted) = (λ x a. a, refl)

  root_keeps : (s : State) (h : ℕ) (slot : Slot) → Keeps s (root_in m s h slot)
  root_keeps s h gone = (λ x a. a, refl)
  root_keeps s h (staged chain parent ws keys) = (λ x a. a, refl)
  root_keeps s h (writing chain parent ws) = (λ x a. a, refl)
  root_keeps s h (merkleized chain tip evicted) = (λ x a. a, refl)

  proof_keeps : (s : State) (h : ℕ) (list : List Operation) (slot : Slot) → Keeps s (proof_in m s h list slot)
  proof_keeps s h list gone = (λ x a. a, refl)
  proof_keeps s h list (staged chain parent ws keys) = (λ x a. a, refl)
  proof_keeps s h list (writing chain parent ws) = (λ x a. a, refl)
  proof_keeps s h list (merkleized chain tip evicted) = either s (readable m.root (commitment m.root list) chain tip) _ _ (unless_keeps s (proof_lacked m.shape s.log.start list chain tip) _) (λ x a. a, refl)

  prune_keeps : (s : State) (to : ℕ) (list : List Operation) → Keeps s (prune_in m s to list)
  prune_keeps s to list = either s (nat_lt (m.boundary list) to) _ _ (λ x a. a, refl) (λ x a. a, refl)

module _ (m : Scheme) {P : Type 0} (rules : Rules P) where
  writes_keep : (s : State) (h : ℕ) (policy : P) (meta : Option Bytes) (list : List Operation) (chain : Chain) (ws : List Write) → Keeps s (merkleize_writes m rules s h policy meta list chain ws)
  writes_keep s h policy meta list chain ws = either s (takes m.grafts s.opened chain.instance && fits m.root (commitment m.root list) chain) _ _ (tip_keeps s h chain _ _ (tip_refusal m.form chain _)) (λ x a. a, refl)

  resolve_keeps : (s : State) (h : ℕ) (policy : P) (meta : Option Bytes) (given : List slots.Slot) (others : List Write) (list : List Operation) (slot : Slot) → Keeps s (resolve_in m rules s h policy meta given others list slot)
  resolve_keeps s h policy meta given others list gone = (λ x a. a, refl)
  resolve_keeps s h policy meta given others list (writing chain parent ws) = (λ x a. a, refl)
  resolve_keeps s h policy meta given others list (merkleized chain tip evicted) = (λ x a. a, refl)
  resolve_keeps s h policy meta given others list (staged chain parent ws keys) =
      either s (length keys == length given) _ _ (writes_keep s h policy meta list chain (slotted ws keys given others)) (λ x a. a, refl)

  merkleize_keeps : (s : State) (h : ℕ) (policy : P) (meta : Option Bytes) (list : List Operation) (slot : Slot) → Keeps s (merkleize_in m rules s h policy meta list slot)
  merkleize_keeps s h policy meta list gone = (λ x a. a, refl)
  merkleize_keeps s h policy meta list (staged chain parent ws keys) = (λ x a. a, refl)
  merkleize_keeps s h policy meta list (merkleized chain tip evicted) = (λ x a. a, refl)
  merkleize_keeps s h policy meta list (writing chain parent ws) = writes_keep s h policy meta list chain ws

  abbrev Turns : State → Line P → Type 0
  Turns s line = ((x : List Operation) → Contains s.had x → Contains ((turn m rules s line).1).had x) × (((turn m rules s line).1).choices ≡ choices_after line s.choices)

  turn_keeps : (s : State) (line : Line P) → Turns s line
  turn_keeps s (Open bound) = opened (closed s) (opening (layout_of m) (found_in m s.log) bound)
  turn_keeps s Batch = with_list s s.database _ (λ list. (λ x a. a, refl))
  turn_keeps s (Child h keep) = child_keeps s h keep (slot_at s.table h)
  turn_keeps s Tip = with_list s s.database _ (λ list. (λ x a. a, refl))
  turn_keeps s (Put h key value) = put_keeps s h _ (slot_at s.table h)
  turn_keeps s (Del h key) = put_keeps s h _ (slot_at s.table h)
  turn_keeps s (Merkleize h policy meta) = with_list s s.database _ (λ list. merkleize_keeps s h policy meta list (slot_at s.table h))
  turn_keeps s (Stage h keys) = with_list s s.database _ (λ list. stage_keeps m s h keys list (slot_at s.table h))
  turn_keeps s (Expand h keys) = with_list s s.database _ (λ list. expand_keeps m s h keys list (slot_at s.table h))
  turn_keeps s (Resolve h policy meta given others) = with_list s s.database _ (λ list. resolve_keeps s h policy meta given others list (slot_at s.table h))
  turn_keeps s (Apply h) = with_list s s.database _ (λ list. apply_keeps m s h list (slot_at s.table h))
  turn_keeps s (Ops h) = listed_keeps s h (slot_at s.table h)
  turn_keeps s (Evicted h) = evicted_keeps s h (slot_at s.table h)
  turn_keeps s (Get key from) = read_keeps m s (key ∷ []) from
  turn_keeps s (Many keys from) = read_keeps m s keys from
  turn_keeps s (Next key from) = ordered_keeps m s _ (neighbour_keeps m s (λ keys. key_above keys key) from)
  turn_keeps s (Prev key from) = ordered_keeps m s _ (neighbour_keeps m s (λ keys. key_below keys key) from)
  turn_keeps s (Span key) = ordered_keeps m s _ (with_list s s.database _ (λ list. (λ x a. a, refl)))
  turn_keeps s (All key) = ordered_keeps m s _ (with_list s s.database _ (λ list. (λ x a. a, refl)))
  turn_keeps s (Range low high) = ordered_keeps m s _ (with_list s s.database _ (λ list. (λ x a. a, refl)))
  turn_keeps s (Keys low high) = ordered_keeps m s _ (with_list s s.database _ (λ list. (λ x a. a, refl)))
  turn_keeps s Info = with_list s s.database _ (λ list. (λ x a. a, refl))
  turn_keeps s (BatchInfo h) = info_keeps m s h (slot_at s.table h)
  turn_keeps s Root = with_list s s.database _ (λ list. (λ x a. a, refl))
  turn_keeps s (BatchRoot h) = root_keeps m s h (slot_at s.table h)
  turn_keeps s (BatchProof h) = any_keeps s m.grafts _ (with_list s s.database _ (λ list. proof_keeps m s h list (slot_at s.table h)))
  turn_keeps s Meta = with_list s s.database _ (λ list. (λ x a. a, refl))
  turn_keeps s (Prove size start max) = with_list s s.database _ (λ list. unless_keeps s (proof_refusal s.log.start list size start) _)
  turn_keeps s (Pins n) = with_list s s.database _ (λ list. unless_keeps s (pins_lacked m.shape s.log.start list n) _)
  turn_keeps s (Current question) = current_keeps s m.grafts _ (λ g. answered_keeps s g question)
  turn_keeps s (Prune to) = with_list s s.database _ (λ list. prune_keeps m s to list)
  turn_keeps s Commit = with_list s s.database _ (λ list. (λ x a. a, refl))
  turn_keeps s Sync = with_list s s.database _ (λ list. (λ x a. a, refl))
  turn_keeps s Close = with_list s s.database _ (λ list. (λ x a. a, refl))
  turn_keeps s Destroy = with_list s s.database _ (λ list. (λ x a. a, refl))
  turn_keeps s (Crash keep) = (λ x a. a, refl)

  -- what a longer run keeps apart, a shorter one does
  pub Apart-before : (s : State) (line : Line P) → Apart m.root ((turn m rules s line).1).had → Apart m.root s.had
  Apart-before s line apart = λ a b in_a in_b e. apart a b ((turn_keeps s line).0 a in_a) ((turn_keeps s line).0 b in_b) e

  pub turn-choices : (s : State) (line : Line P) → ((turn m rules s line).1).choices ≡ choices_after line s.choices
  turn-choices s line = (turn_keeps s line).1
