-- The commit-ended beginnings of a made list are made.
use Rattle.std.proofs.Common.{◌≡◌, ℕ, List, [], ◌∷◌, ◌++◌, ◌⊎◌, inl, inr, length, drop, map, refl, ap, sym, ◌∙◌, Option, Some, None, append_assoc, append-nil, subst, arith, le_refl, ◌≤◌}
use Rattle.std.specs.Prelude.{filter_map, option_map, option_and_then, is_some, IfSome, if◌then◌else◌, ◌==◌, Bool, true, false}
use Rattle.std.specs.List.{cons_option, AllByRecursion as Each}
use Rattle.std.proofs.lemmas.List.{take-append-drop}
use Rattle.qm_model.specs.Operations.{Bytes, Operation, update, delete, commit, fresh, IsCommitEnded}
use Rattle.qm_model.specs.Live.{Live, live, live_of, live_keys, floor}
use Rattle.qm_model.specs.Writes.{Write, write_of, last_writes, operation_of, rewrite_of, create_of, unordered_writes, made_inactive}
use Rattle.qm_model.specs.Walk.{Rules, walk}
use Rattle.qm_model.specs.Ordered.{linked, rewritten, put_of, deleted_keys, updated_keys, created_keys, evicted_keys, broken_keys, ordered_writes, ordered_moves}
use Rattle.qm_model.specs.Keys.{predecessor, without, once}
use Rattle.qm_model.specs.Step.{Kind, unordered, ordered, step, Made, first, next}
use Rattle.qm_model.specs.Batches.{Begins}
use Rattle.qm_model.proofs.Steps.{step-within, made-good}
use Rattle.qm_model.proofs.OrderedLists.{Each-append}
use Rattle.qm_model.proofs.OrderedSteps.{ordered-within, made-ordered}

-- an operation that is no commit
abbrev pub IsPlain : Operation → Type 0
IsPlain (update k v n) = Unit {0}
IsPlain (delete k) = Unit {0}
IsPlain (commit m f) = ⊥

-- what neither kind appends is a commit

Plain-each : {X : Type 0} (make : X → Operation) → ((x : X) → IsPlain (make x)) → (xs : List X) → Each IsPlain (map make xs)
Plain-each make h [] = tt
Plain-each make h (x ∷ xs) = (h x, Plain-each make h xs)

Plain-found : {X : Type 0} (make : X → Option Operation) → ((x : X) → IfSome (make x) IsPlain) → (xs : List X) → Each IsPlain (filter_map make xs)
Plain-found make h [] = tt
Plain-found make h (x ∷ xs) = cases (make x) (h x) (Plain-found make h xs)
  where
    cases : (o : Option Operation) → IfSome o IsPlain → Each IsPlain (filter_map make xs) → Each IsPlain (cons_option o (filter_map make xs))
    cases None here later = later
    cases (Some op) here later = (here, later)

Plain-linked : (keys : List Bytes) (ops : List Operation) → Each IsPlain ops → Each IsPlain (map (linked keys) ops)
Plain-linked keys [] h = tt
Plain-linked keys (update k v n ∷ ops) h = (tt, Plain-linked keys ops h.1)
Plain-linked keys (delete k ∷ ops) h = (tt, Plain-linked keys ops h.1)
Plain-linked keys (commit m f ∷ ops) h = absurd h.0

plain_write : (w : Write) → IsPlain (operation_of w)
plain_write w = cases w.value
  where
    cases : (v : Option Bytes) → IsPlain (operation_of (record { key = w.key; value = v }))
    cases None = tt
    cases (Some v) = tt

plain_rewrite : (ws : List Write) (e : Live) → IfSome (rewrite_of ws e) IsPlain
plain_rewrite ws e = cases (write_of ws e.key)
  where
    cases : (o : Option Write) → IfSome (option_map operation_of o) IsPlain
    cases None = tt
    cases (Some w) = plain_write w

plain_update : (key : Bytes) (v : Option Bytes) → IfSome (option_map (λ value. update key value None) v) IsPlain
plain_update key None = tt
plain_update key (Some v) = tt

plain_create : (entries : List Live) (w : Write) → IfSome (create_of entries w) IsPlain
plain_create entries w = cases (is_some (live_of entries w.key))
  where
    cases : (t : Bool) → IfSome (if t then None else option_map (λ value. update w.key value None) w.value) IsPlain
    cases true = tt
    cases false = plain_update w.key w.value

plain_again : (entries : List Live) (key : Bytes) → IfSome (rewritten entries key) IsPlain
plain_again entries key = cases (live_of entries key)
  where
    cases : (o : Option Live) → IfSome (option_map (λ e. update key e.value None) o) IsPlain
    cases None = tt
    cases (Some e) = tt

plain_put : (ws : List Write) (key : Bytes) → IfSome (put_of ws key) IsPlain
plain_put ws key = plain_update key (option_and_then (λ w. w.value) (write_of ws key))

unordered-plain : (ops : List Operation) (ws : List Write) → Each IsPlain (unordered_writes ops ws)
unordered-plain ops ws =
    Each-append IsPlain (filter_map (rewrite_of (last_writes ws)) (live ops)) (filter_map (create_of (live ops)) (last_writes ws))
    (Plain-found (rewrite_of (last_writes ws)) (plain_rewrite (last_writes ws)) (live ops)) (Plain-found (create_of (live ops)) (plain_create (live ops)) (last_writes ws))

module _ (es : List Live) (ws : List Write) where
  four-plain : (keys ds us cs bs : List Bytes) → Each IsPlain (map (linked keys) (map delete ds ++ filter_map (put_of ws) us ++ filter_map (put_of ws) cs ++ filter_map (rewritten es) bs))
  four-plain keys ds us cs bs =
      let deletes = map delete ds in
      let updates = filter_map (put_of ws) us in
      let creates = filter_map (put_of ws) cs in
      let links = filter_map (rewritten es) bs in
      Plain-linked keys (deletes ++ updates ++ creates ++ links)
      (Each-append IsPlain (deletes ++ updates ++ creates) links
      (Each-append IsPlain (deletes ++ updates) creates
      (Each-append IsPlain deletes updates (Plain-each delete (λ k. tt) ds) (Plain-found (put_of ws) (plain_put ws) us))
      (Plain-found (put_of ws) (plain_put ws) cs))
      (Plain-found (rewritten es) (plain_again es) bs))

ordered-plain : (ops : List Operation) (ws : List Write) → Each IsPlain (ordered_writes ops ws)
ordered-plain ops ws =
    let es = live ops in
    let last = last_writes ws in
    let deleted = deleted_keys es last in
    let updated = updated_keys es last in
    let created = created_keys es last in
    let kept = without deleted (map (λ e. e.key) es) in
    four-plain es last (kept ++ created) deleted updated created (without updated (once (filter_map (predecessor kept) (created ++ deleted))))

ordered-moves-plain : (ops : List Operation) (ds : List Write) → Each IsPlain (ordered_moves ops ds)
ordered-moves-plain ops ds =
    let again = filter_map (rewritten (live ops)) (broken_keys (live_keys ops) ds) in
    Plain-linked (without (evicted_keys ds) (live_keys ops)) (map operation_of ds ++ again)
    (Each-append IsPlain (map operation_of ds) again (Plain-each operation_of plain_write ds) (Plain-found (rewritten (live ops)) (plain_again (live ops)) (broken_keys (live_keys ops) ds)))

-- two ways to cut one list
cut : (a b c d : List Operation) → a ++ b ≡ c ++ d → ((e : List Operation) × (a ++ e ≡ c)) ⊎ ((e : List Operation) × (a ≡ c ++ e) × (e ++ b ≡ d))
cut [] b c d h = inl (c, refl)
cut (x ∷ a) b [] d h = inr (x ∷ a, refl, h)
cut (x ∷ a) b (y ∷ c) d h =
    let same : x ≡ y = cc in
    let rest : a ++ b ≡ c ++ d = cc in
    elim (cut a b c d rest) [ inl e ↦ inl (e.0, ap (λ t. x ∷ t) e.1 ∙ ap (λ z. z ∷ c) same) | inr e ↦ inr (e.0, ap (λ t. x ∷ t) e.1 ∙ ap (λ z. z ∷ (c ++ e.0)) same, e.2) ]

-- the end of a commit-ended list is commit-ended
ended_rest : (xs : List Operation) (y : Operation) (ys : List Operation) → IsCommitEnded (xs ++ y ∷ ys) → IsCommitEnded (y ∷ ys)
ended_rest [] y ys h = h
ended_rest (x ∷ []) y ys h = h
ended_rest (x ∷ z ∷ xs) y ys h = ended_rest (z ∷ xs) y ys h

plain_end : (op : Operation) → IsPlain op → IsCommitEnded (op ∷ []) → ⊥
plain_end (update k v n) p h = h
plain_end (delete k) p h = h
plain_end (commit m f) p h = p

-- a commit-ended beginning of one commit after others is all of it
to_commit : (e rest plain : List Operation) (c : Operation) → Each IsPlain plain → IsCommitEnded e → e ++ rest ≡ plain ++ c ∷ [] → e ≡ plain ++ c ∷ []
to_commit [] rest plain c each ended h = absurd ended
to_commit (x ∷ []) rest [] c each ended h = let same : x ≡ c = cc in ap (λ z. z ∷ []) same
to_commit (x ∷ y ∷ e) rest [] c each ended h = absurd (more (tail h))
  where
    tail : x ∷ y ∷ (e ++ rest) ≡ c ∷ [] → y ∷ (e ++ rest) ≡ []
    tail h = cc

    more : y ∷ (e ++ rest) ≡ [] → ⊥
    more h = cc
to_commit (x ∷ []) rest (p ∷ plain) c each ended h =
    let same : x ≡ p = cc in
    absurd (plain_end p each.0 (subst (λ z. IsCommitEnded (z ∷ [])) same ended))
to_commit (x ∷ y ∷ e) rest (p ∷ plain) c each ended h =
    let same : x ≡ p = cc in
    let later : (y ∷ e) ++ rest ≡ plain ++ c ∷ [] = cc in
    ap (λ z. z ∷ y ∷ e) same ∙ ap (λ t. p ∷ t) (to_commit (y ∷ e) rest plain c each.1 ended later)

-- a kind that appends no commit among writes and moves
pub record IsPlainKind (kind : Kind) : Type 0 where
  pub writes : (ops : List Operation) (ws : List Write) → Each IsPlain (kind.writes ops ws)
  pub moves : (ops : List Operation) (ds : List Write) → Each IsPlain (kind.moves ops ds)

pub unordered-kind : IsPlainKind unordered
unordered-kind = record { writes = unordered-plain; moves = λ ops ds. Plain-each operation_of plain_write ds }

pub ordered-kind : IsPlainKind ordered
ordered-kind = record { writes = ordered-plain; moves = ordered-moves-plain }

of_fresh : (prefix rest : List Operation) → prefix ++ rest ≡ fresh → IsCommitEnded prefix → prefix ≡ fresh
of_fresh prefix rest h ended = to_commit prefix rest [] (commit None 0) tt ended h

-- a commit-ended list that begins one step's, but ends past what the step began with, is the step's
past : (ops prefix rest e : List Operation) → IsCommitEnded prefix → prefix ≡ ops ++ e
    → (writes moves : List Operation) (c : Operation) → Each IsPlain writes → Each IsPlain moves → e ++ rest ≡ writes ++ (moves ++ c ∷ []) → (prefix ≡ ops) ⊎ (prefix ≡ ((ops ++ writes) ++ moves) ++ c ∷ [])
past ops prefix rest [] ended is writes moves c pw pm h = inl (is ∙ append-nil ops)
past ops prefix rest (x ∷ e) ended is writes moves c pw pm h =
    let here : IsCommitEnded (x ∷ e) = ended_rest ops x e (subst IsCommitEnded is ended) in
    let whole : x ∷ e ≡ (writes ++ moves) ++ c ∷ [] =
    to_commit (x ∷ e) rest (writes ++ moves) c (Each-append IsPlain writes moves pw pm) here (h ∙ sym (append_assoc writes moves (c ∷ []))) in
    inr (is ∙ ap (λ t. ops ++ t) whole ∙ sym (append_assoc ops (writes ++ moves) (c ∷ [])) ∙ ap (λ t. t ++ c ∷ []) (sym (append_assoc ops writes moves)))

-- a kind whose steps do not lower the floor of a made list
abbrev pub Rises : {P : Type 0} → Kind → Rules P → Type 0
Rises {P} kind rules = (ops : List Operation) (ws : List Write) (policy : P) (meta : Option Bytes) → Made kind rules ops → floor ops ≤ floor (step kind rules ops ws policy meta)

module _ {P : Type 0} (kind : Kind) (rules : Rules P) (plain : IsPlainKind kind) (rises : Rises kind rules) where
  -- a list that was made, with a floor that is not above the given one
  abbrev Was : ℕ → List Operation → Type 0
  Was f list = Made kind rules list × (floor list ≤ f)

  later : (f g : ℕ) (list : List Operation) → f ≤ g → Was f list → Was g list
  later f g list h was = let low = was.1 in (was.0, omega arith)

  made-prefix : (ops : List Operation) → Made kind rules ops → (prefix rest : List Operation) → prefix ++ rest ≡ ops → IsCommitEnded prefix → Was (floor ops) prefix
  made-prefix _ first prefix rest h ended = subst (Was (floor fresh)) (sym (of_fresh prefix rest h ended)) (first, omega arith)
  made-prefix _ (next ops ws policy meta before short) prefix rest h ended =
      let writes = kind.writes ops ws in
      let w = walk rules (ops ++ writes) (floor ops) (rules.limits policy (made_inactive ops writes)) policy in
      let moves = kind.moves (ops ++ writes) w.decisions in
      let c = commit meta (if length (live ((ops ++ writes) ++ moves)) == 0 then length ((ops ++ writes) ++ moves) else w.floor) in
      let parts : ((ops ++ writes) ++ moves) ++ c ∷ [] ≡ ops ++ (writes ++ (moves ++ c ∷ [])) = append_assoc (ops ++ writes) moves (c ∷ []) ∙ append_assoc ops writes (moves ++ c ∷ []) in
      let all = step kind rules ops ws policy meta in
      let up : floor ops ≤ floor all = rises ops ws policy meta before in
      elim (cut prefix rest ops (writes ++ (moves ++ c ∷ [])) (h ∙ parts)) [
        | inl e ↦ later (floor ops) (floor all) prefix up (made-prefix ops before prefix e.0 e.1 ended)
        | inr e ↦ elim (past ops prefix rest e.0 ended e.1 writes moves c (plain.writes ops ws) (plain.moves (ops ++ writes) w.decisions) e.2) [
          | inl same ↦ subst (Was (floor all)) (sym same) (before, up)
          | inr same ↦ subst (Was (floor all)) (sym same) (next ops ws policy meta before short, le_refl (floor all))
        ]
      ]

  -- a commit-ended beginning of a made list is made, and its floor is not above the list's
  pub begins-made : (prefix ops : List Operation) → Made kind rules ops → Begins prefix ops → IsCommitEnded prefix → Made kind rules prefix × (floor prefix ≤ floor ops)
  begins-made prefix ops made begins ended =
      made-prefix ops made prefix (drop (length prefix) ops) (ap (λ t. t ++ drop (length prefix) ops) (sym begins) ∙ take-append-drop (length prefix) ops) ended

module _ {P : Type 0} (rules : Rules P) where
  unordered-rises : Rises unordered rules
  unordered-rises ops ws policy meta made =
      let within = (made-good rules ops made).floor_within in
      (step-within rules ops ws policy meta (omega arith)).1

  ordered-rises : Rises ordered rules
  ordered-rises ops ws policy meta made =
      let within = (made-ordered rules ops made).good.floor_within in
      (ordered-within rules ops ws policy meta (omega arith)).1

  pub unordered-begins : (prefix ops : List Operation) → Made unordered rules ops → Begins prefix ops → IsCommitEnded prefix → Made unordered rules prefix × (floor prefix ≤ floor ops)
  unordered-begins = begins-made unordered rules unordered-kind unordered-rises

  pub ordered-begins : (prefix ops : List Operation) → Made ordered rules ops → Begins prefix ops → IsCommitEnded prefix → Made ordered rules prefix × (floor prefix ≤ floor ops)
  ordered-begins = begins-made ordered rules ordered-kind ordered-rises
