-- What a store in memory notes of its calls tells each earlier state.
use Rattle.std.proofs.Common.{◌≡◌, ◌∙◌, ℕ, suc, ◌+◌, ◌-◌, ◌<◌, ◌≤◌, Bool, true, false, List, [], ◌∷◌, ◌++◌, length, take, drop, min, get_or, refl, sym, ap, ap₂, subst, arith, append-nil, Option, Some, None}
use Rattle.std.specs.Prelude.{All, bytes_eq, filter, not, slice_get}
use Rattle.std.specs.List.{insert, remove}
use Rattle.std.proofs.lemmas.List.{take_all, take-append-drop, length-append}
use Rattle.std.proofs.Math.ListN.{drop_of_length-le}
use Rattle.std.proofs.Math.Seq.{take-append_seam}
use Rattle.std.proofs.lemmas.List.Sums.{prefix_len-le-length}
use Rattle.std.proofs.lemmas.Option.{slice_get_read}
use Rattle.std.proofs.lemmas.List.Elements.{All-filter, filter_passes, All-tail}
use Rattle.std.proofs.lemmas.Slice.Eq.{bytes_eq-Decides}
use Rattle.qm_model.specs.Operations.{Bytes}
use Rattle.qm_model.specs.StoreModel.{Entry, Named, Rest, Stored, rest_of, found_by, cut_by, appended, settled, rewound, pruned, with_metadata, restarted, destroyed}
use Rattle.qm_memory.specs.Changes.{Change, grew, settled_from, rewound_from, pruned_from, put_new, put_over, restarted_from, emptied, AreNamedOnce, appending, settling, rewinding, pruning, restarting, emptying, place_of, replaced, put_in_turn, put_over_older, putting, undone, found_at, past_of}

-- Metadata by name.

abbrev others : Bytes → List Named → List Named
others name ms = filter (λ m. not (bytes_eq name m.name)) ms

-- none goes if none has the name
others-all : (name : Bytes) (ms : List Named) → All (λ o. bytes_eq name o.name ≡ false) ms → others name ms ≡ ms
others-all name [] none = refl
others-all name (m ∷ ms) none =
    let here : bytes_eq name m.name ≡ false = none 0 m (omega arith) in
    rw here (ap (λ xs. m ∷ xs) (others-all name ms (All-tail (λ o. bytes_eq name o.name ≡ false) m ms none)))

-- if the names differ, the one at the place of the name is all that goes
pub others-removed : (name : Bytes) (ms : List Named) → AreNamedOnce ms → remove ms (place_of name ms) ≡ others name ms
others-removed name [] once = refl
others-removed name (m ∷ ms) once = at (bytes_eq name m.name) refl (others-removed name ms once.1)
  where
    at : (b : Bool) → bytes_eq name m.name ≡ b → remove ms (place_of name ms) ≡ others name ms → remove (m ∷ ms) (place_of name (m ∷ ms)) ≡ others name (m ∷ ms)
    at true is rest = rw is (sym (others-all name ms (subst (λ n. All (λ o. bytes_eq n o.name ≡ false) ms) (sym ((bytes_eq-Decides name m.name).0 is)) once.0)))
    at false is rest = let up : 1 + place_of name ms ≡ suc (place_of name ms) = omega arith in rw (is, up) (ap (λ xs. m ∷ xs) rest)

-- if it stands nowhere, nothing goes
pub others-absent : (name : Bytes) (ms : List Named) → AreNamedOnce ms → place_of name ms ≡ length ms → others name ms ≡ ms
others-absent name ms once absent =
    sym (others-removed name ms once) ∙ ap (λ n. remove ms n) absent ∙ ap₂ (λ xs ys. xs ++ ys) (take_all (length ms) ms (omega arith)) (drop_of_length-le ms {i = suc (length ms)} (omega arith)) ∙ append-nil ms

-- a place is one of a list, or its end
pub place-within : (name : Bytes) (ms : List Named) → place_of name ms ≤ length ms
place-within name ms = prefix_len-le-length (λ m. not (bytes_eq name m.name)) ms

-- what is replaced, if it stands there
pub putting-over : (name : Bytes) (ms : List Named) (named : Named) → place_of name ms < length ms → named ≡ get_or ms (place_of name ms) named → put_over (place_of name ms) named ≡ putting name ms
putting-over name ms named within is = ap (λ o. replaced (place_of name ms) o) (sym (slice_get_read ms (length ms) (place_of name ms) named refl within is))

-- if it is put back there, all is as it was
abbrev put_back : ℕ → Option Named → List Named → List Named
put_back place None ms = ms
put_back place (Some named) ms = insert ms place named

put_back-cons : (m : Named) (place : ℕ) (o : Option Named) (ms : List Named) → put_back (suc place) o (m ∷ ms) ≡ m ∷ put_back place o ms
put_back-cons m place None ms = refl
put_back-cons m place (Some named) ms = refl

others-back : (name : Bytes) (ms : List Named) → AreNamedOnce ms → put_back (place_of name ms) (slice_get ms (place_of name ms)) (others name ms) ≡ ms
others-back name [] once = refl
others-back name (m ∷ ms) once = at (bytes_eq name m.name) refl (others-back name ms once.1)
  where
    at : (b : Bool) → bytes_eq name m.name ≡ b → put_back (place_of name ms) (slice_get ms (place_of name ms)) (others name ms) ≡ ms
        → put_back (place_of name (m ∷ ms)) (slice_get (m ∷ ms) (place_of name (m ∷ ms))) (others name (m ∷ ms)) ≡ m ∷ ms
    at true is rest = rw is (ap (λ xs. m ∷ xs) (others-all name ms (subst (λ n. All (λ o. bytes_eq n o.name ≡ false) ms) (sym ((bytes_eq-Decides name m.name).0 is)) once.0)))
    at false is rest = let up : 1 + place_of name ms ≡ suc (place_of name ms) = omega arith in rw (is, up) (put_back-cons m (place_of name ms) (slice_get ms (place_of name ms)) (others name ms) ∙ ap (λ xs. m ∷ xs) rest)

once-filter : (p : Named → Bool) (ms : List Named) → AreNamedOnce ms → AreNamedOnce (filter p ms)
once-filter p [] once = tt
once-filter p (m ∷ ms) once = at (p m) refl (once-filter p ms once.1)
  where
    at : (b : Bool) → p m ≡ b → AreNamedOnce (filter p ms) → AreNamedOnce (filter p (m ∷ ms))
    at true is rest = rw is (All-filter p (λ o. bytes_eq m.name o.name ≡ false) ms once.0, rest)
    at false is rest = rw is rest

not-true : (b : Bool) → not b ≡ true → b ≡ false
not-true true is = sym is
not-true false is = refl

differ : (name : Bytes) (ms : List Named) → All (λ o. not (bytes_eq name o.name) ≡ true) ms → All (λ o. bytes_eq name o.name ≡ false) ms
differ name ms all k d within = not-true _ (all k d within)

-- a put keeps the names apart
pub once-put : (name : Bytes) (entries : List Entry) (ms : List Named) → AreNamedOnce ms → AreNamedOnce (record { name = name; entries = entries } ∷ others name ms)
once-put name entries ms once = (differ name (others name ms) (filter_passes _ ms), once-filter _ ms once)

-- what is put last stands over those before
pub put-last : (ms older : List Named) (m : Named) → put_in_turn (ms ++ m ∷ []) older ≡ put_over_older m (put_in_turn ms older)
put-last [] older m = refl
put-last (n ∷ ms) older m = put-last ms (put_over_older n older) m

-- Each call undone.

-- a store with another past
abbrev pub passed : List Rest → Stored → Stored
passed past s = record s { past = past }

pub undone-append : (more : List Bytes) (s : Stored) → undone (appending more s) (appended more s) ≡ passed (found_by s) s
undone-append more s =
    let count : length (s.items ++ more) - length more ≡ length s.items = omega (arith, length-append s.items more) in
    ap {B = Stored} (λ items. record s { items = items; past = found_by s }) (ap (λ n. take n (s.items ++ more)) count ∙ take-append_seam s.items more)

pub undone-settle : (s : Stored) → undone (settling s) (settled s) ≡ passed (found_by s) s
undone-settle s = refl

pub undone-rewind : (to : ℕ) (s : Stored) → undone (rewinding to s) (rewound to s) ≡ passed (rewound to s).past s
undone-rewind to s = ap {B = Stored} (λ items. record s { items = items; past = (rewound to s).past }) (take-append-drop (to - s.start) s.items)

pub undone-prune : (to : ℕ) (head : Bytes) (s : Stored) → undone (pruning to s) (pruned to head s) ≡ passed (found_by s) s
undone-prune to head s = ap {B = Stored} (λ items. record s { items = items; past = found_by s }) (take-append-drop (to - s.start) s.items)

pub undone-restart : (to : ℕ) (s : Stored) → undone (restarting to s) (restarted to s) ≡ passed (found_by s) s
undone-restart to s =
    let count : length (s.ends ++ to ∷ []) - 1 ≡ length s.ends = omega (arith, length-append s.ends (to ∷ [])) in
    ap {B = Stored} (λ items. record s { items = items; ends = take (length (s.ends ++ to ∷ []) - 1) (s.ends ++ to ∷ []); past = found_by s }) (take-append-drop (to - s.start) s.items)
    ∙ ap {B = Stored} (λ ends. record s { ends = ends; past = found_by s }) (ap (λ n. take n (s.ends ++ to ∷ [])) count ∙ take-append_seam s.ends (to ∷ []))

pub undone-destroy : (s : Stored) → undone (emptying s) (destroyed s) ≡ passed [] s
undone-destroy s = refl

undone-replaced : (place : ℕ) (o : Option Named) (m : Named) (ms : List Named) (s : Stored) → undone (replaced place o) (record s { metadata = m ∷ ms }) ≡ record s { metadata = put_back place o ms }
undone-replaced place None m ms s = refl
undone-replaced place (Some named) m ms s = refl

-- of a store whose names differ
pub undone-put : (name : Bytes) (entries : List Entry) (s : Stored) → AreNamedOnce s.metadata → undone (putting name s.metadata) (with_metadata name entries s) ≡ passed (found_by s) s
undone-put name entries s once =
    undone-replaced (place_of name s.metadata) (slice_get s.metadata (place_of name s.metadata)) (record { name = name; entries = entries }) (others name s.metadata) (passed (found_by s) s)
    ∙ ap {B = Stored} (λ ms. record s { metadata = ms; past = found_by s }) (others-back name s.metadata once)

-- What was noted does not depend on the past that is told.

undone-passed : (change : Change) (past : List Rest) (s : Stored) → rest_of (undone change (passed past s)) ≡ rest_of (undone change s)
undone-passed (grew count) past s = refl
undone-passed (settled_from stable) past s = refl
undone-passed (rewound_from gone stable) past s = refl
undone-passed (pruned_from start head gone) past s = refl
undone-passed put_new past s = refl
undone-passed (put_over place named) past s = refl
undone-passed (restarted_from gone stable) past s = refl
undone-passed (emptied held) past s = refl

-- of stores that a crash finds alike
undone-alike : (change : Change) (s t : Stored) → rest_of s ≡ rest_of t → rest_of (undone change s) ≡ rest_of (undone change t)
undone-alike (grew count) s t same = ap (λ (r : Rest). record r { items = take (length r.items - count) r.items }) same
undone-alike (settled_from stable) s t same = ap (λ (r : Rest). record r { stable = stable }) same
undone-alike (rewound_from gone stable) s t same = ap (λ (r : Rest). record r { items = r.items ++ gone; stable = stable }) same
undone-alike (pruned_from start head gone) s t same = ap (λ (r : Rest). record r { start = start; head = head; items = gone ++ r.items }) same
undone-alike put_new s t same = ap (λ (r : Rest). record r { metadata = drop 1 r.metadata }) same
undone-alike (put_over place named) s t same = ap (λ (r : Rest). record r { metadata = insert (drop 1 r.metadata) place named }) same
undone-alike (restarted_from gone stable) s t same = ap (λ (r : Rest). record r { items = r.items ++ gone; stable = stable }) same
undone-alike (emptied held) s t same = refl

found-alike : (change : Change) (s t : Stored) (after : ℕ) (past : List Rest) → rest_of s ≡ rest_of t → found_at change s after past ≡ found_at change t after past
found-alike (grew count) s t after past same = ap (λ r. r ∷ past) same
found-alike (settled_from stable) s t after past same = ap (λ r. r ∷ past) same
found-alike (rewound_from [] stable) s t after past same = refl
found-alike (rewound_from (gone ∷ more) stable) s t after past same = ap (λ (r : Rest). record r { stable = after } ∷ past) same
found-alike (pruned_from start head gone) s t after past same = ap (λ r. r ∷ past) same
found-alike put_new s t after past same = ap (λ r. r ∷ past) same
found-alike (put_over place named) s t after past same = ap (λ r. r ∷ past) same
found-alike (restarted_from gone stable) s t after past same = ap (λ r. r ∷ past) same
found-alike (emptied held) s t after past same = ap (λ r. r ∷ past) same

pub past-alike : (changes : List Change) (s t : Stored) → rest_of s ≡ rest_of t → past_of changes s ≡ past_of changes t
past-alike [] s t same = refl
past-alike (change ∷ changes) s t same =
    let back = undone-alike change s t same in
    found-alike change (undone change s) (undone change t) s.stable (past_of changes (undone change s)) back
    ∙ ap₂ (λ n past. found_at change (undone change t) n past) (ap (λ (r : Rest). r.stable) same) (past-alike changes (undone change s) (undone change t) back)

-- A call that came off notes what it found.
pub past-made : (change : Change) (f : Stored → Stored) (changes : List Change) (s : Stored) (past : List Rest) → undone change (f s) ≡ passed past s → found_at change s (f s).stable s.past ≡ (f s).past → s.past ≡ past_of changes s
    → past_of (change ∷ changes) (f s) ≡ (f s).past
past-made change f changes s past back noted was =
    ap (λ t. found_at change t (f s).stable (past_of changes t)) back
    ∙ (found-alike change (passed past s) s (f s).stable (past_of changes (passed past s)) refl
    ∙ (ap (found_at change s (f s).stable) (past-alike changes (passed past s) s refl ∙ sym was) ∙ noted))

-- so a store in memory tells each call as the definitions do
pub past-append : (more : List Bytes) (changes : List Change) (s : Stored) → s.past ≡ past_of changes s → past_of (appending more s ∷ changes) (appended more s) ≡ (appended more s).past
past-append more changes s was = past-made (appending more s) (appended more) changes s (found_by s) (undone-append more s) refl was

pub past-settle : (changes : List Change) (s : Stored) → s.past ≡ past_of changes s → past_of (settling s ∷ changes) (settled s) ≡ (settled s).past
past-settle changes s was = past-made (settling s) settled changes s (found_by s) (undone-settle s) refl was

pub past-rewind : (to : ℕ) (changes : List Change) (s : Stored) → s.past ≡ past_of changes s → past_of (rewinding to s ∷ changes) (rewound to s) ≡ (rewound to s).past
past-rewind to changes s was = past-made (rewinding to s) (rewound to) changes s (rewound to s).past (undone-rewind to s) (by (drop (to - s.start) s.items)) was
  where
    by : (gone : List Bytes) → found_at (rewound_from gone s.stable) s (min s.stable to) s.past ≡ cut_by to s gone
    by [] = refl
    by (item ∷ items) = refl

pub past-prune : (to : ℕ) (head : Bytes) (changes : List Change) (s : Stored) → s.past ≡ past_of changes s → past_of (pruning to s ∷ changes) (pruned to head s) ≡ (pruned to head s).past
past-prune to head changes s was = past-made (pruning to s) (pruned to head) changes s (found_by s) (undone-prune to head s) refl was

pub past-put : (name : Bytes) (entries : List Entry) (changes : List Change) (s : Stored) → AreNamedOnce s.metadata → s.past ≡ past_of changes s → past_of (putting name s.metadata ∷ changes) (with_metadata name entries s) ≡ (with_metadata name entries s).past
past-put name entries changes s once was = past-made (putting name s.metadata) (with_metadata name entries) changes s (found_by s) (undone-put name entries s once) (by (place_of name s.metadata) (slice_get s.metadata (place_of name s.metadata))) was
  where
    by : (place : ℕ) (o : Option Named) → found_at (replaced place o) s s.stable s.past ≡ found_by s
    by place None = refl
    by place (Some named) = refl

pub past-restart : (to : ℕ) (changes : List Change) (s : Stored) → s.past ≡ past_of changes s → past_of (restarting to s ∷ changes) (restarted to s) ≡ (restarted to s).past
past-restart to changes s was = past-made (restarting to s) (restarted to) changes s (found_by s) (undone-restart to s) refl was

pub past-destroy : (changes : List Change) (s : Stored) → s.past ≡ past_of changes s → past_of (emptying s ∷ changes) (destroyed s) ≡ (destroyed s).past
past-destroy changes s was = past-made (emptying s) destroyed changes s [] (undone-destroy s) refl was
