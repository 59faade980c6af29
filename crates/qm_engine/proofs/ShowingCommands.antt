-- The commands that only a current database offers: proofs of keys, of absences, of ranges and of the operations root.
use Rattle.std.proofs.Common.{◌≡◌, ◌∙◌, ◌+◌, ℕ, Bool, true, false, ◌&&◌, List, length, Option, Some, None, option_map, Result, Err, refl, sym, ap, ap₂, subst}
use Rattle.std.specs.Prelude.{IfSome, IsSome, is_some, unwrap_or}
use Rattle.qm_model.specs.Batches.{Apart}
use Rattle.qm_model.specs.Checks.{Checks}
use Rattle.qm_model.specs.Live.{Live, live, live_of}
use Rattle.qm_model.specs.Opening.{Chunks}
use Rattle.qm_model.specs.Operations.{Bytes, Operation}
use Rattle.qm_model.specs.Refusals.{existing_refusal, lacking_refusal, proof_count, range_refusal}
use Rattle.qm_model.specs.Refused as refusals
use Rattle.qm_model.specs.Schemes.{Grafts, Scheme}
use Rattle.qm_model.specs.Taken.{counted_in}
use Rattle.qm_machine.specs.Lines.{Answer, Question, Held, Absent, Witness}
use Rattle.qm_machine.specs.Lines as lines
use Rattle.qm_machine.specs.Machine.{State, with_database, unless, if_current, if_checked, if_absences, answered, asked, held_at, absent_at, chunks_in}
use Rattle.qm_machine.specs.Machine as machine
use Rattle.qm_base.specs.declared.error.Error.{Error}
use Rattle.qm_lines.specs.Views.{answer_view, refused_view}
use Rattle.qm_lines.specs.declared.reply.Reply as reply
use Rattle.qm_lines.specs.declared.reply.Refused.TheVariants as refused
use Rattle.qm_lines.specs.declared.reply.Reply.TheVariants as replies
use Rattle.qm_store.specs.declared.Store as stores
use Rattle.qm_store.specs.declared.refusal.Given.TheVariants.{Database, Store}
use Rattle.qm_store.specs.Refusals.{refusal_of, IsDue}
use Rattle.qm_offer.specs.declared.meaning.Meaning as meaning
use Rattle.qm_offer.specs.Words.{AtChecks, ReadsOnly}
use Rattle.qm_engine.specs.declared.session.Session.{Session}
use Rattle.qm_engine.specs.declared.session.Turn.{Turn}
use Rattle.qm_engine.specs.declared.session.Turn.TheVariants.{Reply}
use Rattle.qm_engine.specs.Shown.{offers, proves}
use Rattle.qm_engine.specs.Stores.{IsStored}
use Rattle.qm_engine.specs.Turn.{turn_of_error}
use Rattle.qm_engine.specs.Session.{HeldIs, Holds, Stands, Answers, TurnReads}
use Rattle.qm_engine.proofs.Commands.{by_refusal, due_told, refuses, some_is, some-map, Holds-kept}
use Rattle.qm_engine.proofs.Commands as commands
use Rattle.qm_engine.proofs.LastingStores.{IsBare, counted-is}
use Rattle.qm_engine.proofs.LastingCommands.{fault-told}
use Rattle.qm_engine.proofs.ReadStores.{Does, Told, stayed, refusal-never, none_open, read_left, turn_reads}

-- both hold
and-both : (a b : Bool) → (a && b) ≡ true → (a ≡ true) × (b ≡ true)
and-both true b both = (refl, both)
and-both false b both = absurd (cc)

-- what holds of a thing in two ways
some-both : {A : Type 0} (P Q : A → Type 0) (told : Option A) → IfSome told P → IfSome told Q → IfSome told (λ x. P x × Q x)
some-both P Q None p q = tt
some-both P Q (Some x) p q = (p, q)

-- what follows from what holds of the checks
checks-map : (m : Scheme) (P : Chunks → Checks → Type 0) {Q : Grafts → Checks → Type 0} → ((g : Grafts) (c : Checks) → P g.chunks c → Q g c) → AtChecks m P → IfSome m.grafts (λ g. IfSome g.checks (Q g))
checks-map m P next = some-map m.grafts (λ g. some-map g.checks (λ c. next g c))

checks-both : (m : Scheme) (P Q : Chunks → Checks → Type 0) → AtChecks m P → AtChecks m Q → AtChecks m (λ chunks c. P chunks c × Q chunks c)
checks-both m P Q p q = some-map m.grafts (λ g both. some-both (P g.chunks) (Q g.chunks) g.checks both.0 both.1) (some-both (λ g. IfSome g.checks (P g.chunks)) (λ g. IfSome g.checks (Q g.chunks)) m.grafts p q)

some-same : {A : Type 0} (x y : A) → Some x ≡ Some y → x ≡ y
some-same x y is = ap (λ o. unwrap_or o x) is

none-some : {A : Type 0} (x : A) → None ≡ Some x → ⊥
none-some x is = absurd (cc)

-- A question that is offered is answered by the checks.
module _ (s : State) (question : Question) (Q : Answer × State → Type 0) where
  by_checks : (g : Grafts) (checks : Option Checks) → IsSome checks → IfSome checks (λ c. Q (asked s g c question)) → Q (if_checked s checks (λ c. asked s g c question))
  by_checks g None some each = absurd (cc)
  by_checks g (Some c) some each = each

  with_checks : (grafts : Option Grafts) → is_some grafts ≡ true → IfSome grafts (λ g. IsSome g.checks) → IfSome grafts (λ g. IfSome g.checks (λ c. Q (asked s g c question))) → Q (if_current s grafts (λ g. answered s g question))
  with_checks None current checked each = absurd (cc)
  with_checks (Some g) current checked each = by_checks g g.checks checked each

-- It leaves the state as it is.
module _ (s : State) where
  database_state : (d : Option (List Operation)) (f : List Operation → Answer × State) → ((list : List Operation) → (f list).1 ≡ s) → (with_database s d f).1 ≡ s
  database_state None f same = refl
  database_state (Some list) f same = same list

  unless_state : (due : Option refusals.Refused) (answer : Answer) → (unless s due answer).1 ≡ s
  unless_state None answer = refl
  unless_state (Some r) answer = refl

  held_state : (c : Checks) (list : List Operation) (e : Option Live) → (held_at s c list e).1 ≡ s
  held_state c list None = refl
  held_state c list (Some e) = refl

  absent_state : (proved : ℕ × Bool) (e : Option Live) → (absent_at s proved e).1 ≡ s
  absent_state proved None = refl
  absent_state proved (Some e) = refl

  absences_state : (absent : Option (List Operation → Bytes → ℕ × Bool)) (f : (List Operation → Bytes → ℕ × Bool) → Answer × State) → ((check : List Operation → Bytes → ℕ × Bool) → (f check).1 ≡ s) → (if_absences s absent f).1 ≡ s
  absences_state None f same = refl
  absences_state (Some check) f same = same check

  asked_state : (g : Grafts) (c : Checks) (question : Question) → (asked s g c question).1 ≡ s
  asked_state g c (Held key) = database_state s.database _ (λ list. held_state c list (live_of (live list) key))
  asked_state g c (Absent key) = absences_state c.absent _ (λ check. database_state s.database _ (λ list. absent_state (check list key) (live_of (live list) key)))
  asked_state g c (lines.Chunks start max) = database_state s.database _ (λ list. unless_state _ _)
  asked_state g c Witness = database_state s.database _ (λ list. refl)

  checked_state : (g : Grafts) (checks : Option Checks) (question : Question) → (if_checked s checks (λ c. asked s g c question)).1 ≡ s
  checked_state g None question = refl
  checked_state g (Some c) question = asked_state g c question

  current_state : (grafts : Option Grafts) (question : Question) → (if_current s grafts (λ g. answered s g question)).1 ≡ s
  current_state None question = refl
  current_state (Some g) question = checked_state g g.checks question

-- The answers to single questions.
module _ (s : State) (list : List Operation) where
  held_found : (c : Checks) (e : Option Live) (i : ℕ) (accepted : Bool) → option_map {U = ℕ × Bool} (λ e. (e.location, c.held list e)) e ≡ Some (i, accepted) → lines.HeldAt i accepted ≡ (held_at s c list e).0
  held_found c None i accepted is = absurd (cc)
  held_found c (Some e) i accepted is =
      let same : ◌≡◌ {A = ℕ × Bool} (e.location, c.held list e) (i, accepted) = cc in
      sym (ap (λ (p : ℕ × Bool). lines.HeldAt p.0 p.1) same)

  held_lacked : (c : Checks) (e : Option Live) (r : refusals.Refused) → lacking_refusal e ≡ Some r → lines.Refuses r ≡ (held_at s c list e).0
  held_lacked c None r is = sym (ap refuses is)
  held_lacked c (Some e) r is = absurd (cc)

  absent_found : (proved : ℕ × Bool) (e : Option Live) (i : ℕ) (accepted : Bool) → e ≡ None → (i, accepted) ≡ proved → lines.AbsentAt i accepted ≡ (absent_at s proved e).0
  absent_found proved e i accepted none same =
      subst (λ o. lines.AbsentAt i accepted ≡ (absent_at s proved o).0) (sym none) (ap (λ (p : ℕ × Bool). lines.AbsentAt p.0 p.1) same)

  absent_lacked : (proved : ℕ × Bool) (e : Option Live) (r : refusals.Refused) → existing_refusal e ≡ Some r → lines.Refuses r ≡ (absent_at s proved e).0
  absent_lacked proved None r is = absurd (cc)
  absent_lacked proved (Some e) r is = sym (ap refuses is)

  unless_due : (due : Option refusals.Refused) (answer : Answer) (r : refusals.Refused) → due ≡ Some r → lines.Refuses r ≡ (unless s due answer).0
  unless_due None answer r is = absurd (cc)
  unless_due (Some other) answer r is = sym (ap refuses is)

-- What a call of a database comes to that it is asked in this state.
module _ {X C B S M K V D : Type 0} (members : stores.Ghosts C) (means : meaning.Ghosts X C B S M) (key : K → Bytes) (value : V → Bytes) (digest : D → Bytes) (checked : IfSome means.scheme.grafts (λ g. IsSome g.checks)) where
  module _ (s : State) (list : List Operation) (is_open : s.database ≡ Some list) where
    -- the turn gives the machine's answer
    abbrev Gives : Question → Turn K V D → Type 0
    Gives question turn = Answers members means key value digest turn s (machine.current means.scheme s question)

    answers : (question : Question) (turn : Turn K V D) (P : Chunks → Checks → Type 0) → offers means.scheme question ≡ true → AtChecks means.scheme P
        → ((g : Grafts) (c : Checks) → P g.chunks c → Answers members means key value digest turn s (asked s g c question)) → Gives question turn
    answers question turn P offered at each = with_checks s question (Answers members means key value digest turn s) means.scheme.grafts (and-both _ _ offered).0 checked (checks-map means.scheme P each at)

    -- over the list that is open
    at_list : (f : List Operation → Answer × State) (answer : Answer) → answer ≡ (f list).0 → answer ≡ (with_database s s.database f).0
    at_list f answer is = subst (λ d. answer ≡ (with_database s d f).0) (sym is_open) is

    -- an error that is due
    errs : (error : Error) (due : Option refusals.Refused) (next : Answer × State) → IsDue error due → ((r : refusals.Refused) → due ≡ Some r → lines.Refuses r ≡ next.0) → Answers members means key value digest (turn_of_error error) s next
    errs error due next is each = by_refusal error (λ r. Apart means.scheme.root s.had → answer_view key value digest r ≡ next.0) (λ r told apart. each (refused_view r) (due_told (refusal_of error) due (refused_view r) is told))

    pub held_ok : (k : Bytes) (i : ℕ) (accepted : Bool) → offers means.scheme (Held k) ≡ true → AtChecks means.scheme (λ chunks c. option_map {U = ℕ × Bool} (λ e. (e.location, c.held list e)) (live_of (live list) k) ≡ Some (i, accepted)) → Gives (Held k) (Reply (replies.Held i accepted))
    held_ok k i accepted offered at = answers (Held k) (Reply (replies.Held i accepted)) (λ chunks c. option_map {U = ℕ × Bool} (λ e. (e.location, c.held list e)) (live_of (live list) k) ≡ Some (i, accepted)) offered at (λ g c is apart.
        at_list (λ list. held_at s c list (live_of (live list) k)) (lines.HeldAt i accepted) (held_found s list c (live_of (live list) k) i accepted is))

    pub held_err : (k : Bytes) (error : Error) → offers means.scheme (Held k) ≡ true → AtChecks means.scheme (λ chunks c. IsDue error (lacking_refusal (live_of (live list) k))) → Gives (Held k) (turn_of_error error)
    held_err k error offered at = answers (Held k) (turn_of_error error) (λ chunks c. IsDue error (lacking_refusal (live_of (live list) k))) offered at (λ g c due.
        errs error (lacking_refusal (live_of (live list) k)) (asked s g c (Held k)) due (λ r is. at_list (λ list. held_at s c list (live_of (live list) k)) (lines.Refuses r) (held_lacked s list c (live_of (live list) k) r is)))

    -- by the check of absences
    absences_asked : (k : Bytes) (turn : Turn K V D) (absent : Option (List Operation → Bytes → ℕ × Bool)) → is_some absent ≡ true
        → IfSome absent (λ check. Answers members means key value digest turn s (with_database s s.database (λ list. absent_at s (check list k) (live_of (live list) k))))
        → Answers members means key value digest turn s (if_absences s absent (λ check. with_database s s.database (λ list. absent_at s (check list k) (live_of (live list) k))))
    absences_asked k turn None some each = absurd (cc)
    absences_asked k turn (Some check) some each = each

    absent_asked : (k : Bytes) (turn : Turn K V D) (P : (List Operation → Bytes → ℕ × Bool) → Type 0) → offers means.scheme (Absent k) ≡ true → AtChecks means.scheme (λ chunks c. is_some c.absent ≡ means.scheme.form.ordered)
        → AtChecks means.scheme (λ chunks c. IfSome c.absent P)
        → ((check : List Operation → Bytes → ℕ × Bool) → P check → Answers members means key value digest turn s (with_database s s.database (λ list. absent_at s (check list k) (live_of (live list) k)))) → Gives (Absent k) turn
    absent_asked k turn P offered absences at each = answers (Absent k) turn (λ chunks c. (is_some c.absent ≡ means.scheme.form.ordered) × IfSome c.absent P) offered (checks-both means.scheme (λ chunks c. is_some c.absent ≡ means.scheme.form.ordered) (λ chunks c. IfSome c.absent P) absences at) (λ g c both.
        absences_asked k turn c.absent (both.0 ∙ (and-both _ _ offered).1) (some-map c.absent each both.1))

    -- where an absence is offered there is a check of it, which was told
    absence_told : (k : Bytes) (told : Option (ℕ × Bool)) → AtChecks means.scheme (λ chunks c. told ≡ option_map (λ check. check list k) c.absent) → AtChecks means.scheme (λ chunks c. IfSome c.absent (λ check. live_of (live list) k ≡ None))
        → AtChecks means.scheme (λ chunks c. IfSome c.absent (λ check. (live_of (live list) k ≡ None) × (told ≡ Some (check list k))))
    absence_told k told shown absent = checks-map means.scheme (λ chunks c. (told ≡ option_map (λ check. check list k) c.absent) × IfSome c.absent (λ check. live_of (live list) k ≡ None)) (λ g c both. by c.absent both.0 both.1)
        (checks-both means.scheme (λ chunks c. told ≡ option_map (λ check. check list k) c.absent) (λ chunks c. IfSome c.absent (λ check. live_of (live list) k ≡ None)) shown absent)
      where
        by : (absent : Option (List Operation → Bytes → ℕ × Bool)) → told ≡ option_map (λ check. check list k) absent → IfSome absent (λ check. live_of (live list) k ≡ None) → IfSome absent (λ check. (live_of (live list) k ≡ None) × (told ≡ Some (check list k)))
        by None is none = tt
        by (Some check) is none = (none, is)

    pub absent_ok : (k : Bytes) (told : Option (ℕ × Bool)) (i : ℕ) (accepted : Bool) → told ≡ Some (i, accepted) → offers means.scheme (Absent k) ≡ true → AtChecks means.scheme (λ chunks c. is_some c.absent ≡ means.scheme.form.ordered)
        → AtChecks means.scheme (λ chunks c. told ≡ option_map (λ check. check list k) c.absent) → AtChecks means.scheme (λ chunks c. IfSome c.absent (λ check. live_of (live list) k ≡ None)) → Gives (Absent k) (Reply (replies.Absent i accepted))
    absent_ok k told i accepted some offered absences shown absent = absent_asked k (Reply (replies.Absent i accepted)) (λ check. (live_of (live list) k ≡ None) × (told ≡ Some (check list k))) offered absences (absence_told k told shown absent) (λ check is apart.
        at_list (λ list. absent_at s (check list k) (live_of (live list) k)) (lines.AbsentAt i accepted) (absent_found s list (check list k) (live_of (live list) k) i accepted is.0 (some-same (i, accepted) (check list k) (sym some ∙ is.1))))

    -- it is told where it is offered
    pub absent_none : (k : Bytes) (told : Option (ℕ × Bool)) → told ≡ None → offers means.scheme (Absent k) ≡ true → AtChecks means.scheme (λ chunks c. is_some c.absent ≡ means.scheme.form.ordered)
        → AtChecks means.scheme (λ chunks c. told ≡ option_map (λ check. check list k) c.absent) → AtChecks means.scheme (λ chunks c. IfSome c.absent (λ check. live_of (live list) k ≡ None)) → (turn : Turn K V D) → Gives (Absent k) turn
    absent_none k told none offered absences shown absent turn = absent_asked k turn (λ check. (live_of (live list) k ≡ None) × (told ≡ Some (check list k))) offered absences (absence_told k told shown absent) (λ check is. absurd (none-some (check list k) (sym none ∙ is.1)))

    pub absent_err : (k : Bytes) (error : Error) → offers means.scheme (Absent k) ≡ true → AtChecks means.scheme (λ chunks c. is_some c.absent ≡ means.scheme.form.ordered)
        → AtChecks means.scheme (λ chunks c. IfSome c.absent (λ check. IsDue error (existing_refusal (live_of (live list) k)))) → Gives (Absent k) (turn_of_error error)
    absent_err k error offered absences at = absent_asked k (turn_of_error error) (λ check. IsDue error (existing_refusal (live_of (live list) k))) offered absences at (λ check due.
        errs error (existing_refusal (live_of (live list) k)) (with_database s s.database (λ list. absent_at s (check list k) (live_of (live list) k))) due
        (λ r is. at_list (λ list. absent_at s (check list k) (live_of (live list) k)) (lines.Refuses r) (absent_lacked s list (check list k) (live_of (live list) k) r is)))

    -- over a store that tells the machine's start and count
    module _ (bare : IsBare means.scheme) (store : C) (is_stored : IsStored members means.scheme store s.log) (start max : ℕ) where
      at_log : (Q : ℕ → ℕ → Type 0) → IfSome (members.told store) (λ t. Q (counted_in means.scheme t) (members.start store)) → Q s.log.chunks s.log.start
      at_log Q each =
          let told = some_is (members.told store) is_stored.told.stored (λ t. Q (counted_in means.scheme t) (members.start store)) is_stored.told.is each in
          subst (Q s.log.chunks) is_stored.start (subst (λ n. Q n (members.start store)) (counted-is means.scheme bare s.log is_stored.told.stored is_stored.told.has) told)

      abbrev count : ℕ
      count = proof_count (length list) start max

      pub chunks_ok : (operations chunks : ℕ) (accepted : Bool) → offers means.scheme (lines.Chunks start max) ≡ true
          → AtChecks means.scheme (λ h c. IfSome (members.told store) (λ t. range_refusal h.height (counted_in means.scheme t) (members.start store) list start ≡ None))
          → AtChecks means.scheme (λ h c. (operations ≡ count) × ((chunks, accepted) ≡ c.range list start (start + count)))
          → Gives (lines.Chunks start max) (Reply (replies.Chunks operations chunks accepted))
      chunks_ok operations chunks accepted offered none shown = answers (lines.Chunks start max) (Reply (replies.Chunks operations chunks accepted)) (λ h c. IsOffered h × Is c) offered (checks-both means.scheme (λ h c. IsOffered h) (λ h c. Is c) none shown) (λ g c both apart.
          let proved = c.range list start (start + count) in
          at_list (chunks_in s g c start max) (lines.Chunked operations chunks accepted)
          (subst (λ due. lines.Chunked operations chunks accepted ≡ (unless s due (lines.Chunked count proved.0 proved.1)).0)
          (sym (at_log (λ n kept. range_refusal g.chunks.height n kept list start ≡ None) both.0))
          (ap₂ (λ (n : ℕ) (p : ℕ × Bool). lines.Chunked n p.0 p.1) (both.1).0 (both.1).1)))
        where
          IsOffered : Chunks → Type 0
          IsOffered h = IfSome (members.told store) (λ t. range_refusal h.height (counted_in means.scheme t) (members.start store) list start ≡ None)

          Is : Checks → Type 0
          Is c = (operations ≡ count) × ((chunks, accepted) ≡ c.range list start (start + count))

      pub chunks_err : (error : Error) → offers means.scheme (lines.Chunks start max) ≡ true
          → AtChecks means.scheme (λ h c. IfSome (members.told store) (λ t. IsDue error (range_refusal h.height (counted_in means.scheme t) (members.start store) list start)))
          → Gives (lines.Chunks start max) (turn_of_error error)
      chunks_err error offered at = answers (lines.Chunks start max) (turn_of_error error) (λ h c. IfSome (members.told store) (λ t. IsDue error (range_refusal h.height (counted_in means.scheme t) (members.start store) list start))) offered at (λ g c told.
          let due = range_refusal g.chunks.height s.log.chunks s.log.start list start in
          errs error due (asked s g c (lines.Chunks start max)) (at_log (λ n kept. IsDue error (range_refusal g.chunks.height n kept list start)) told)
          (λ r is. at_list (chunks_in s g c start max) (lines.Refuses r) (unless_due s list due _ r is)))

    pub witness_ok : (accepted : Bool) → offers means.scheme Witness ≡ true → AtChecks means.scheme (λ chunks c. accepted ≡ c.witness list) → Gives Witness (Reply (replies.Witness accepted))
    witness_ok accepted offered at = answers Witness (Reply (replies.Witness accepted)) (λ chunks c. accepted ≡ c.witness list) offered at (λ g c is apart.
        at_list (λ list. (lines.Witnessed (c.witness list), s)) (lines.Witnessed accepted) (ap lines.Witnessed is))

  -- At each way out of the command.
  module _ (old : Session X C B S M) (question : Question) where
    abbrev pub Shows : Turn K V D → Type 0
    Shows turn = Told members means key value digest old (λ s. machine.current means.scheme s question) old.held turn

    -- the database is not asked this
    pub not_offered : AtChecks means.scheme (λ chunks c. is_some c.absent ≡ means.scheme.form.ordered) → offers means.scheme question ≡ false → Shows (Reply (replies.Refused refused.NotOffered))
    not_offered absences never = stayed members means key value digest old (λ s. machine.current means.scheme s question) (Reply (replies.Refused refused.NotOffered)) (refusal-never members means key value digest old refl)
        (λ s k. by s k means.scheme.grafts absences never)
      where
        Refuses : Answer × State → Type 0
        Refuses = Does members means key value digest old old.held (Reply (replies.Refused refused.NotOffered))

        none : (s : State) → Stands members means old s → (absent : Option (List Operation → Bytes → ℕ × Bool)) (f : (List Operation → Bytes → ℕ × Bool) → Answer × State) → is_some absent ≡ false → Refuses (if_absences s absent f)
        none s k None f is = λ apart. (refl, k)
        none s k (Some check) f is = absurd (cc)

        asks : (s : State) → Stands members means old s → (g : Grafts) (c : Checks) (question : Question) → is_some c.absent ≡ means.scheme.form.ordered → proves means.scheme.form.ordered question ≡ false → Refuses (asked s g c question)
        asks s k g c (Absent key) absences never = none s k c.absent _ (absences ∙ never)
        asks s k g c (Held key) absences never = absurd (cc)
        asks s k g c (lines.Chunks start max) absences never = absurd (cc)
        asks s k g c Witness absences never = absurd (cc)

        at : (s : State) → Stands members means old s → (g : Grafts) (checks : Option Checks) → IfSome checks (λ c. is_some c.absent ≡ means.scheme.form.ordered) → proves means.scheme.form.ordered question ≡ false → Refuses (if_checked s checks (λ c. asked s g c question))
        at s k g None absences never = λ apart. (refl, k)
        at s k g (Some c) absences never = asks s k g c question absences never

        by : (s : State) → Stands members means old s → (grafts : Option Grafts) → IfSome grafts (λ g. IfSome g.checks (λ c. is_some c.absent ≡ means.scheme.form.ordered)) → (is_some grafts && proves means.scheme.form.ordered question) ≡ false
            → Refuses (if_current s grafts (λ g. answered s g question))
        by s k None absences never = λ apart. (refl, k)
        by s k (Some g) absences never = at s k g g.checks absences never

    -- no database is open
    pub none_shown : AtChecks means.scheme (λ chunks c. is_some c.absent ≡ means.scheme.form.ordered) → offers means.scheme question ≡ true → {c : C} → old.held ≡ Store c → {turn : Turn K V D} → turn ≡ Reply (replies.Refused refused.NoDatabase) → Shows turn
    none_shown absences offered is {turn} e = stayed members means key value digest old (λ s. machine.current means.scheme s question) turn (refusal-never members means key value digest old e)
        (λ s k. with_checks s question (Does members means key value digest old old.held turn) means.scheme.grafts (and-both _ _ offered).0 checked
        (checks-map means.scheme (λ chunks c. is_some c.absent ≡ means.scheme.form.ordered) (λ g c has. asks s k g c question has (and-both _ _ offered).1) absences))
      where
        none : (s : State) → Stands members means old s → (f : List Operation → Answer × State) → Does members means key value digest old old.held turn (with_database s s.database f)
        none s k f = (none_open members means key value digest old (λ _. f) is e).machine s k

        absences_none : (s : State) → Stands members means old s → (absent : Option (List Operation → Bytes → ℕ × Bool)) (f : (List Operation → Bytes → ℕ × Bool) → List Operation → Answer × State) → is_some absent ≡ true
            → Does members means key value digest old old.held turn (if_absences s absent (λ check. with_database s s.database (f check)))
        absences_none s k None f some = absurd (cc)
        absences_none s k (Some check) f some = none s k (f check)

        asks : (s : State) → Stands members means old s → (g : Grafts) (c : Checks) (question : Question) → is_some c.absent ≡ means.scheme.form.ordered → proves means.scheme.form.ordered question ≡ true → Does members means key value digest old old.held turn (asked s g c question)
        asks s k g c (Held key) has ordered = none s k (λ list. held_at s c list (live_of (live list) key))
        asks s k g c (Absent key) has ordered = absences_none s k c.absent (λ check list. absent_at s (check list key) (live_of (live list) key)) (has ∙ ordered)
        asks s k g c (lines.Chunks start max) has ordered = none s k (chunks_in s g c start max)
        asks s k g c Witness has ordered = none s k (λ list. (lines.Witnessed (c.witness list), s))

  -- the database answered
  pub told_shown : (old : Session X C B S M) (question : Question) {x after : X} → old.held ≡ Database x → (turn : Turn K V D) → TurnReads members means x after turn
      → ((s : State) (list : List Operation) → s.database ≡ Some list → means.stands x list → IsStored members means.scheme (means.inside x) s.log → Answers members means key value digest turn s (machine.current means.scheme s question))
      → Told members means key value digest old (λ s. machine.current means.scheme s question) (Database after) turn
  told_shown old question {x} {after} is turn reads each = read_left members means key value digest old is turn reads (λ s. machine.current means.scheme s question)
      (λ s k. let held_here : Holds members means (Database x) old.table.items old.opened s = subst (λ h. Holds members means h old.table.items old.opened s) is k in
      by s held_here s.database refl held_here.database)
    where
      by : (s : State) → Holds members means (Database x) old.table.items old.opened s → (d : Option (List Operation)) → s.database ≡ d → HeldIs members means s.opened s.had (Database x) d
          → Does members means key value digest old (Database after) turn (machine.current means.scheme s question)
      by s k None is_open h = absurd h
      by s k (Some list) is_open h =
          commands.answered members means key value digest turn (Database after) old.table.items old.opened s (machine.current means.scheme s question) (current_state s means.scheme.grafts question)
          (Holds-kept members means x after old.table.items old.opened s (reads.same, reads.store, reads.numbered) k) (each s list is_open h.0 k.store)

-- a database without chunks under its root is not asked
pub not_asked : {X C B S M K V D : Type 0} (members : stores.Ghosts C) (means : meaning.Ghosts X C B S M) (key : K → Bytes) (value : V → Bytes) (digest : D → Bytes) (old : Session X C B S M) (question : Question) → means.scheme.grafts ≡ None
    → Told members means key value digest old (λ s. machine.current means.scheme s question) old.held (Reply (replies.Refused refused.NotOffered))
not_asked members means key value digest old question bare = stayed members means key value digest old (λ s. machine.current means.scheme s question) (Reply (replies.Refused refused.NotOffered)) (refusal-never members means key value digest old refl)
    (λ s k. subst (λ grafts. Does members means key value digest old old.held (Reply (replies.Refused refused.NotOffered)) (if_current s grafts (λ g. answered s g question))) (sym bare) (λ apart. (refl, k)))

-- What a call of a database comes to as a turn, if it answers so to each state that it is asked in.
module _ {X C B S M K V D T : Type 0} (members : stores.Ghosts C) (means : meaning.Ghosts X C B S M) (key : K → Bytes) (value : V → Bytes) (digest : D → Bytes) {x after : X} {called : Result T Error} (reads : ReadsOnly means members x after called) (question : Question) where
  -- the turn answers the question
  abbrev pub IsAnswer : Turn K V D → Type 0
  IsAnswer turn = offers means.scheme question ≡ true → (s : State) (list : List Operation) → s.database ≡ Some list → means.stands x list → IsStored members means.scheme (means.inside x) s.log
      → Answers members means key value digest turn s (machine.current means.scheme s question)

  abbrev pub Shown : Turn K V D → Type 0
  Shown turn = record { machine : IsAnswer turn; reads : TurnReads members means x after turn }

  pub shown_ok : (r : reply.Reply K V D) → IsAnswer (Reply r) → Shown (Reply r)
  shown_ok r each = record { machine = each; reads = turn_reads members means reads (Reply r) (λ e. absurd (cc e)) }

  pub shown_err : {turn : Turn K V D} (error : Error) → called ≡ Err error → turn ≡ turn_of_error error → IsAnswer (turn_of_error error) → Shown turn
  shown_err {turn} error was e each = subst Shown (sym e) (record { machine = each; reads = turn_reads members means reads (turn_of_error error) (λ fault. was ∙ ap Err (fault-told error fault)) })
