-- The loop over the commands: one more, and its ends.
use Rattle.std.proofs.Common.{◌≡◌, ◌≤◌, ◌<◌, ℕ, suc, ◌+◌, List, [], ◌∷◌, ◌++◌, length, get_or, take, map, Option, Some, None, IfSome, arith, refl, sym, ◌∙◌, ap, subst, add-one}
use Rattle.std.specs.Prelude.{All, Contains, IfNone, slice_index_or, ⊤}
use Rattle.std.proofs.lemmas.List.{take_all, take_more, get_or-map, length-map}
use Rattle.qm_model.specs.Causes.{Rose}
use Rattle.qm_model.specs.Own.{Log, IsKept, IsOwn}
use Rattle.qm_model.specs.StoreModel.{Stored, end_of, Turns}
use Rattle.qm_model.specs.Walk.{Rules}
use Rattle.qm_model.specs.Policies.{policies}
use Rattle.qm_model.specs.Opening.{Chunks}
use Rattle.qm_model.specs.Batches.{Apart, Chain}
use Rattle.qm_machine.specs.Lines.{Line, Answer}
use Rattle.qm_machine.specs.Machine.{State, initial, slot_at, turn, answers, state_after}
use Rattle.qm_model.specs.Schemes.{HasBounds, Scheme, chunks_of, engine_of}
use Rattle.qm_machine.proofs.Runs.{state_after-push, answers-push, Apart-before}
use Rattle.qm_engine.specs.Stores.{HasLog, IsLeft}
use Rattle.qm_engine.specs.Runs.{IsRun, IsOwnStore, IsOwnLeft}
use Rattle.qm_engine.specs.Parts.{IsBounded, IsPart, Between}
use Rattle.qm_model.specs.Operations.{Bytes, Operation}
use Rattle.qm_model.specs.Forms.{IsOf}
use Rattle.qm_machine.specs.Machine.{choices_after}
use Rattle.qm_machine.specs.Sound.{IsSteady}
use Rattle.qm_machine.proofs.Runs.{turn-choices}
use Rattle.qm_machine.proofs.Sounds.{IsFormed, turn-sound, sound-steady, initial-sound}
use Rattle.qm_store.specs.declared.Store as stores
use Rattle.qm_store.specs.declared.refusal.Given.{Given}
use Rattle.qm_store.specs.declared.refusal.Given.TheVariants.{Database, Store}
use Rattle.qm_offer.specs.declared.meaning.Meaning as meaning
use Rattle.qm_engine.specs.declared.session.Session.{Session}
use Rattle.qm_engine.specs.declared.table.Slot.{Slot}
use Rattle.qm_engine.specs.declared.table.Slot.TheVariants.{Gone, Writing, Staged, Merkleized}
use Rattle.qm_machine.specs.Machine as machine
use Rattle.qm_lines.specs.declared.reply.Reply as reply
use Rattle.qm_engine.specs.declared.session.Turn.{Turn}
use Rattle.qm_engine.specs.declared.session.Turn.TheVariants.{Reply}
use Rattle.qm_engine.specs.Session.{HeldIs, SlotIs, Holds, Stands, IfReply, IsChosen}
use Rattle.qm_engine.specs.Stores.{HasEnds}
use Rattle.qm_engine.proofs.LastingStores.{beside-self, turns-told, turns-through}
use Rattle.qm_engine.proofs.Owned.{counted-alike, own-of, none-left, owned}
use Rattle.qm_engine.proofs.Followed.{turn-followed}

-- what is told of a turn that replied, of a step that ended the run, and of one that did not
pub reply-at : {K V D : Type 0} (P : reply.Reply K V D → Type 0) {turn : Turn K V D} {r : reply.Reply K V D} → turn ≡ Reply r → IfReply turn P → P r
reply-at P is told = subst (λ t. IfReply t P) is told

pub ended-at : {X : Type 0} (P : X → Type 0) {o : Option X} {x : X} → o ≡ Some x → IfSome o P → P x
ended-at P is told = subst (λ o. IfSome o P) is told

pub none-at : {X : Type 0} (P : Type 0) {o : Option X} → o ≡ None → IfNone o P → P
none-at P is told = subst (λ o. IfNone o P) is told

pub line_here : {A B : Type 0} (f : A → B) (xs : List A) (i : ℕ) (x : A) → i < length xs → x ≡ get_or xs i x → f x ≡ get_or (map f xs) i (f x)
line_here f xs i x h e = ap f e ∙ sym (get_or-map f xs i x (f x) h)

-- a command of a run is among its lines
pub command-among : {A B : Type 0} (f : A → B) (xs : List A) (i : ℕ) (x : A) → i < length xs → x ≡ get_or xs i x → Contains (map f xs) (f x)
command-among f xs i x h e = (i, subst (λ n. i < n) (sym (length-map xs f)) h, sym (line_here f xs i x h e))

pub Rose-wider : (a b c d : ℕ) → a ≤ b → Rose b c → c ≤ d → Rose a d
Rose-wider a b c d p q r = omega arith

-- what is told of an own store has its log
pub log-of : (m : Scheme) {P : Type 0} (rules : Rules P) (told : Option Stored) (stored : Stored) (log : Log) → told ≡ Some stored → IsOwn (engine_of m rules) log stored → HasLog m told log
log-of m rules told stored log is own = let has = own.stored in record { stored = stored; is = is; has = record { start = has.start; items = has.items; head = has.head; metadata = counted-alike m rules policies (chunks_of m) log stored has.metadata; stable = has.stable } }

module _ (m : Scheme) {P : Type 0} (rules : Rules P) (start : State) (lines : List (Line P)) where
  -- the state after the first commands, so many
  abbrev so_far_state : ℕ → State
  so_far_state i = state_after m rules start (take i lines)

  abbrev so_far_answers : ℕ → List Answer
  so_far_answers i = answers m rules start (take i lines)

  -- the state after one command more
  after_more : (i : ℕ) (line : Line P) → i < length lines → line ≡ get_or lines i line → take (i + 1) lines ≡ take i lines ++ line ∷ []
  after_more i line h here = take_more lines i line h ∙ ap (λ x. take i lines ++ x ∷ []) (sym here)

  -- What is told of the answers grows by one.
  pub loop_step : {T : Type 0} (told : List Answer → T) (more : T → Answer → T) → ((given : List Answer) (a : Answer) → told (given ++ a ∷ []) ≡ more (told given) a)
      → (i : ℕ) (line : Line P) (old new : T) (Before After : State → Type 0) → i < length lines → line ≡ get_or lines i line
      → (Apart m.root (state_after m rules start (take i lines)).had → (old ≡ told (answers m rules start (take i lines))) × Before (state_after m rules start (take i lines)))
      → ((s : State) → Before s → Apart m.root ((turn m rules s line).1).had → (new ≡ more old (turn m rules s line).0) × After (turn m rules s line).1)
      → Apart m.root (state_after m rules start (take (i + 1) lines)).had → (new ≡ told (answers m rules start (take (i + 1) lines))) × After (state_after m rules start (take (i + 1) lines))
  loop_step told more push i line old new Before After h here so_far one =
      let Goal : List (Line P) → Type 0 = λ t. Apart m.root (state_after m rules start t).had → (new ≡ told (answers m rules start t)) × After (state_after m rules start t) in
      let s : State = so_far_state i in
      subst Goal (sym (after_more i line h here)) (rw (state_after-push m rules start (take i lines) line, answers-push m rules start (take i lines) line) (λ apart.
      let before = so_far (Apart-before m rules s line apart) in
      let now = one s before.1 apart in
      (now.0 ∙ ap (λ r. more r (turn m rules s line).0) before.0 ∙ sym (push (so_far_answers i) (turn m rules s line).0), now.1)))

  -- what is left if the next command ended the run
  pub left_in : (i : ℕ) (line : Line P) (left : Option Stored) (Before : State → Type 0) → i < length lines → line ≡ get_or lines i line
      → (Apart m.root (state_after m rules start (take i lines)).had → Before (state_after m rules start (take i lines)))
      → ((s : State) → Before s → Apart m.root s.had → IsOwnLeft m rules left s.log ((turn m rules s line).1).log)
      → Apart m.root (state_after m rules start (take i lines)).had → IsOwnLeft m rules left (state_after m rules start (take i lines)).log (state_after m rules start (take (suc i) lines)).log
  left_in i line left Before h here so_far leaves apart =
      let s : State = so_far_state i in
      let next : (so_far_state (suc i)).log ≡ ((turn m rules s line).1).log =
      ap (λ n. (so_far_state n).log) (sym (add-one i)) ∙ ap (λ t. (state_after m rules start t).log) (after_more i line h here) ∙ ap (λ (x : State). x.log) (state_after-push m rules start (take i lines) line) in
      subst (IsOwnLeft m rules left s.log) (sym next) (leaves s (so_far apart) apart)

  -- after the last command the state stays
  pub after_all : (i : ℕ) → length lines ≤ i → (state_after m rules start (take (suc i) lines)).log ≡ (state_after m rules start (take i lines)).log
  after_all i h = ap (λ (t : List (Line P)). (state_after m rules start t).log) (take_all (suc i) lines (omega arith) ∙ sym (take_all i lines h))

  -- the part ended in a command
  pub ended_in : (i : ℕ) (line : Line P) (given : List Answer) (left : Option Stored) (Before : State → Type 0) → i < length lines → line ≡ get_or lines i line → length given ≡ i
      → (Apart m.root (state_after m rules start (take i lines)).had → (given ≡ answers m rules start (take i lines)) × Before (state_after m rules start (take i lines)))
      → (IsBounded left → (s : State) → Before s → Apart m.root s.had → IsOwnLeft m rules left s.log ((turn m rules s line).1).log)
      → IsPart m rules start lines given left
  ended_in i line given left Before h here e so_far leaves = record {
    few = omega (arith, e);
    same = subst (λ n. Apart m.root (so_far_state n).had → given ≡ so_far_answers n) (sym e) (λ apart. (so_far apart).0);
    left = λ bounded. subst (λ n. Apart m.root (so_far_state n).had → IsOwnLeft m rules left (so_far_state n).log (so_far_state (suc n)).log) (sym e)
        (left_in i line left Before h here (λ apart. (so_far apart).1) (leaves bounded));
  }

  -- the store is as it was after the commands answered
  pub ended_at : (i : ℕ) (given : List Answer) (left : Option Stored) → i ≤ length lines → length given ≡ i
      → (Apart m.root (state_after m rules start (take i lines)).had → (given ≡ answers m rules start (take i lines)) × HasLog m left (state_after m rules start (take i lines)).log × IsKept (engine_of m rules) (state_after m rules start (take i lines)).log)
      → IsPart m rules start lines given left
  ended_at i given left h e so_far = record {
    few = omega (arith, e);
    same = subst (λ n. Apart m.root (so_far_state n).had → given ≡ so_far_answers n) (sym e) (λ apart. (so_far apart).0);
    left = λ bounded. subst (λ n. Apart m.root (so_far_state n).had → IsOwnLeft m rules left (so_far_state n).log (so_far_state (suc n)).log) (sym e)
        (λ apart. none-left m rules left (so_far_state i).log (so_far_state (suc i)).log (so_far apart).1 (so_far apart).2);
  }

-- a run of one part
module _ (m : Scheme) {P : Type 0} (rules : Rules P) (log : Log) (choices : List ℕ) (lines : List (Line P)) (given : List Answer) (left : Option Stored) where
  pub run-of : IsBounded left → IsPart m rules (initial log choices) lines given left
      → (length given ≡ length lines → Apart m.root (state_after m rules (initial log choices) lines).had → IsOwnStore m rules left (state_after m rules (initial log choices) lines).log)
      → IsRun m rules log choices lines given left
  run-of bounded part own = record {
    few = part.few;
    same = part.same;
    whole = λ all. subst (λ (t : List (Line P)). Apart m.root (state_after m rules (initial log choices) t).had → IsOwnStore m rules left (state_after m rules (initial log choices) t).log)
        (sym (take_all (length given) lines (omega (arith, all)))) (own all);
    left = part.left bounded;
  }

  -- one that answers nothing, and leaves the store
  pub run-none : given ≡ [] → HasLog m left log → IsKept (engine_of m rules) log → IsRun m rules log choices lines given left
  run-none none has kept = subst (λ gs. IsRun m rules log choices lines gs left) (sym none) (record {
    few = omega arith;
    same = λ apart. refl;
    whole = λ all apart. own-of m rules left log has kept;
    left = λ apart. none-left m rules left log (state_after m rules (initial log choices) (take 1 lines)).log has kept;
  })

pub each : {A : Type 0} (o : Option A) {Q : A → Type 0} → ((x : A) → o ≡ Some x → Q x) → IfSome o Q
each None h = tt
each (Some x) h = h x refl

module _ {X C B S M : Type 0} (members : stores.Ghosts C) (means : meaning.Ghosts X C B S M) {P : Type 0} (rules : Rules P) where
  -- a run begins so
  pub begins-between : (session : Session X C B S M) (log : Log) (choices : List ℕ) → Stands members means session (initial log choices) → IsKept (engine_of means.scheme rules) log → Between members means rules session choices (initial log choices)
  begins-between session log choices stands kept = record { stands = stands; sound = initial-sound means.scheme rules log choices kept; choices = refl }

  -- the list of a database that is held is of its form
  formed : (held : Given X C) (table : List (Slot B S M)) (opened : ℕ) (s : State) → Holds members means held table opened s → IsFormed means.scheme rules s
  formed held table opened s k list is = by held (subst (HeldIs members means s.opened s.had held) is k.database)
    where
      by : (held : Given X C) → HeldIs members means s.opened s.had held (Some list) → All (IsOf means.scheme.form) list
      by (Database x) at = means.formed x list at.0
      by (Store c) at = absurd at

  -- and goes on
  pub goes-between : HasBounds means.scheme → (old new : Session X C B S M) (more rest : List ℕ) (line : Line P) (T : State → Type 0) → IsChosen line more
      → ((s : State) → Stands members means old s → IsSteady means.scheme s → s.choices ≡ more ++ rest → Apart means.scheme.root ((turn means.scheme rules s line).1).had → T s × Stands members means new (turn means.scheme rules s line).1)
      → (s : State) → Between members means rules old (more ++ rest) s → Apart means.scheme.root ((turn means.scheme rules s line).1).had → T s × Between members means rules new rest (turn means.scheme rules s line).1
  goes-between bounds old new more rest line T chosen did s between apart =
      let done = did s between.stands (sound-steady means.scheme rules bounds s between.sound) between.choices apart in (
        done.0,
        record {
          stands = done.1;
          sound = turn-sound means.scheme rules bounds s line between.sound apart (formed new.held new.table.items new.opened (turn means.scheme rules s line).1 done.1);
          choices = turn-choices means.scheme rules s line ∙ (ap (choices_after line) between.choices ∙ chosen rest);
        },
      )

  -- the tips of batches are of its form
  tips-formed : (session : Session X C B S M) (s : State) → Stands members means session s → (h : ℕ) (chain : Chain) (tip : List Operation) (evicted : List (Bytes × Bytes)) → slot_at s.table h ≡ machine.merkleized chain tip evicted → All (IsOf means.scheme.form) tip
  tips-formed session s stands h chain tip evicted named =
      by (slice_index_or session.table.items h Gone) (subst (SlotIs members means s.had (slice_index_or session.table.items h Gone)) named (stands.slots h))
    where
      by : (a : Slot B S M) → SlotIs members means s.had a (machine.merkleized chain tip evicted) → All (IsOf means.scheme.form) tip
      by (Merkleized b) is = means.made_formed b chain tip is.0
      by Gone is = absurd is
      by (Writing b) is = absurd is
      by (Staged b) is = absurd is

  -- what a command may leave there is one that databases leave
  pub own-left : HasBounds means.scheme → (session : Session X C B S M) (rest : List ℕ) (line : Line P) (left : Option Stored) (s : State) → IfSome left (λ t. t.stable ≤ end_of t) → Between members means rules session rest s → Apart means.scheme.root s.had
      → IsLeft means.scheme left s.log ((turn means.scheme rules s line).1).log → IsOwnLeft means.scheme rules left s.log ((turn means.scheme rules s line).1).log
  own-left bounds session rest line left s stable between apart is =
      let next = turn-followed means.scheme rules bounds s line between.sound apart (tips-formed session s between.stands) in
      owned means.scheme rules s.log ((turn means.scheme rules s line).1).log between.sound.kept next.0 next.1 left stable is

-- The choices that a run's store made, by its parts.

pub none-more : (chunks : Option Chunks) (o new : Option Stored) (stored : Stored) (more : List ℕ) → o ≡ Some stored → new ≡ o → Turns o new (HasEnds chunks ⊤ more) → more ≡ []
none-more chunks o new stored more is same told =
    turns-told ⊤ ⊤ chunks more [] stored (Some stored) (subst (λ p. Turns (Some stored) p (HasEnds chunks ⊤ more)) (same ∙ is) (subst (λ p. Turns p new (HasEnds chunks ⊤ more)) is told)) (beside-self {Destroyed = ⊤} chunks stored)

pub more-parts : (A B : Type 0) (chunks : Option Chunks) (o p q : Option Stored) (stored : Stored) (a b more : List ℕ) → o ≡ Some stored → Turns o p (HasEnds chunks A a) → Turns p q (HasEnds chunks B b) → Turns o q (HasEnds chunks ⊤ more) → more ≡ a ++ b
more-parts A B chunks o p q stored a b more is one two told =
    turns-told ⊤ ⊤ chunks more (a ++ b) stored q (subst (λ x. Turns x q (HasEnds chunks ⊤ more)) is told) (subst (λ x. Turns x q (HasEnds chunks ⊤ (a ++ b))) is (turns-through chunks a b o p q (λ before. tt) (λ behind. tt) one two))
