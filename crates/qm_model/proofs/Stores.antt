-- Laws of what the calls of a store make of it.
use Rattle.std.proofs.Common.{◌≡◌, ◌∙◌, inl, ℕ, ◌+◌, ◌-◌, ◌≤◌, min, Bool, true, false, List, [], ◌∷◌, length, drop, refl, sym, ap, subst, arith, append-nil, Option, Some, None}
use Rattle.std.specs.Prelude.{bytes_eq, filter, not}
use Rattle.std.proofs.lemmas.Slice.Eq.{bytes_eq-Decides}
use Rattle.std.proofs.lemmas.List.Elements.{All-nil, All-cons, All-contains}
use Rattle.std.proofs.lemmas.List.{take_all, drop_all, take-append-le, length-append, length-take, length-drop}
use Rattle.qm_model.specs.Operations.{Bytes}
use Rattle.qm_model.specs.StoreModel.{Entry, Named, Rest, Stored, end_of, rest_of, at_rest, metadata_in, appended, settled, cut, cut_by, rewound, pruned, with_metadata, left_at, restarted, destroyed, MayEnd, IsImage, IsOldOrNew, RewindLeaves, HasRestarted, ReadsAs, HasAppended, DestroyLeaves, Turns, MayBeLeft, Fails}

-- Where a store ends.

pub end-appended : (more : List Bytes) (s : Stored) → end_of (appended more s) ≡ end_of s + length more
end-appended more s = omega (arith, length-append s.items more)

pub end-left_at : (to : ℕ) (s : Stored) → s.start ≤ to → to ≤ end_of s → end_of (left_at to s) ≡ to
end-left_at to s from within = omega (arith, from, within, length-take (to - s.start) s.items)

pub end-rewound : (to : ℕ) (s : Stored) → s.start ≤ to → to ≤ end_of s → end_of (rewound to s) ≡ to
end-rewound to s from within = end-left_at to s from within

pub end-pruned : (to : ℕ) (head : Bytes) (s : Stored) → s.start ≤ to → to ≤ end_of s → end_of (pruned to head s) ≡ end_of s
end-pruned to head s from within = omega (arith, from, within, length-drop (to - s.start) s.items)

-- The stable length stays inside.

-- it is a location of the items, or their end
pub record IsInside (s : Stored) : Type 0 where
  pub start : s.start ≤ s.stable
  pub stable : s.stable ≤ end_of s

pub inside-appended : (more : List Bytes) (s : Stored) → IsInside s → IsInside (appended more s)
inside-appended more s inside = record { start = inside.start; stable = omega (arith, inside.stable, end-appended more s) }

pub inside-settled : (s : Stored) → IsInside (settled s)
inside-settled s = record { start = omega arith; stable = omega arith }

pub inside-rewound : (to : ℕ) (s : Stored) → s.start ≤ to → to ≤ end_of s → IsInside s → IsInside (rewound to s)
inside-rewound to s from within inside = record { start = omega (arith, from, inside.start); stable = omega (arith, end-rewound to s from within) }

pub inside-pruned : (to : ℕ) (head : Bytes) (s : Stored) → s.start ≤ to → to ≤ s.stable → IsInside s → IsInside (pruned to head s)
inside-pruned to head s from before inside = record { start = before; stable = omega (arith, inside.stable, end-pruned to head s from (omega (arith, before, inside.stable))) }

pub inside-with_metadata : (name : Bytes) (entries : List Entry) (s : Stored) → IsInside s → IsInside (with_metadata name entries s)
inside-with_metadata name entries s inside = record { start = inside.start; stable = inside.stable }

pub inside-left_at : (to : ℕ) (s : Stored) → MayEnd to s → IsInside s → IsInside (left_at to s)
inside-left_at to s may inside =
    let from : s.start ≤ to = omega (arith, may.stable, inside.start) in
    record { start = from; stable = omega (arith, end-left_at to s from may.within) }

pub inside-restarted : (to : ℕ) (s : Stored) → MayEnd to s → IsInside s → IsInside (restarted to s)
inside-restarted to s may inside =
    let left = inside-left_at to s may inside in
    record { start = left.start; stable = left.stable }

pub inside-destroyed : (s : Stored) → IsInside (destroyed s)
inside-destroyed s = record { start = omega arith; stable = omega arith }

pub inside-image : (s image : Stored) → IsImage s image → IsInside s → IsInside image
inside-image s image is inside =
    let left = inside-left_at is.to s is.may inside in
    subst IsInside (sym is.same) (record { start = left.start; stable = left.stable })

pub inside-has_restarted : (s new : Stored) → HasRestarted s new → IsInside s → IsInside new
inside-has_restarted s new is inside = subst IsInside (sym is.same) (inside-restarted is.to s is.may inside)

-- A store that is left as it was.

-- all of its items are those up to its end
pub cut-whole : (s : Stored) → cut (end_of s) s ≡ s.items
cut-whole s = take_all (end_of s - s.start) s.items (omega arith)

-- a rewind to the end changes nothing
pub rewound-whole : (s : Stored) → s.stable ≤ end_of s → rewound (end_of s) s ≡ s
rewound-whole s within =
    let least : min s.stable (end_of s) ≡ s.stable = omega (arith, within) in
    let none : drop (end_of s - s.start) s.items ≡ [] = drop_all (end_of s - s.start) s.items (omega arith) in
    ap {B = Stored} (λ gone. record s { items = cut (end_of s) s; stable = min s.stable (end_of s); past = cut_by (end_of s) s gone }) none
    ∙ (ap {B = Stored} (λ items. record s { items = items; stable = min s.stable (end_of s) }) (cut-whole s) ∙ ap {B = Stored} (λ n. record s { stable = n }) least)

-- a crash may leave all of it
pub image-whole : (s : Stored) → s.stable ≤ end_of s → IsImage s (left_at (end_of s) s)
image-whole s within = record { to = end_of s; may = record { stable = within; within = omega arith }; same = refl }

reads-whole : (s : Stored) → s ≡ record (left_at (end_of s) s) { stable = s.stable }
reads-whole s = ap {B = Stored} (λ items. record s { items = items }) (sym (cut-whole s))

-- so a call that leaves it as it was leaves what one may that failed
pub reads-kept : (s : Stored) → IsInside s → ReadsAs s.stable (IsImage s) s
reads-kept s inside = record { image = left_at (end_of s) s; left = image-whole s inside.stable; reads = reads-whole s; least_stable = omega arith; within = inside.stable }

pub reads-kept-or : (f : Stored → Stored) (s : Stored) → IsInside s → ReadsAs s.stable (IsOldOrNew f s) s
reads-kept-or f s inside = record { image = left_at (end_of s) s; left = inl (image-whole s inside.stable); reads = reads-whole s; least_stable = omega arith; within = inside.stable }

pub reads-kept-rewind : (to : ℕ) (s : Stored) → IsInside s → ReadsAs (min s.stable to) (RewindLeaves to s) s
reads-kept-rewind to s inside = record {
  image = left_at (end_of s) s;
  left = record { to = end_of s; may = record { stable = omega (arith, inside.stable); within = omega arith }; same = refl };
  reads = reads-whole s;
  least_stable = omega arith;
  within = inside.stable;
}

pub reads-kept-append : (more : List Bytes) (s : Stored) → IsInside s → HasAppended more s s
reads-kept-append more s inside = record {
  count = 0;
  reads = ap {B = Stored} (λ items. record s { items = items }) (sym (append-nil s.items));
  least_stable = omega arith;
  within = λ was. was;
}

pub reads-kept-destroy : (s : Stored) → IsInside s → DestroyLeaves s s
reads-kept-destroy s inside = inl (reads-kept s inside)

-- Crashes at any moment.

-- a call that notes nothing
pub fails-unmoved : (R Q : Stored → Stored → Type 0) (s : Stored) → R s s → Fails R Q s s
fails-unmoved R Q s kept = record { now = kept; notes = []; past = refl; each = λ image may. let none = may.among.1 in absurd (omega (arith, none)) }

-- what holds of more holds of a call that failed
pub fails-weaker : (R Q S T : Stored → Stored → Type 0) (s new : Stored) → ((t : Stored) → R s t → S s t) → ((t : Stored) → Q s t → T s t) → Fails R Q s new → Fails S T s new
fails-weaker R Q S T s new now each fails = record { now = now new fails.now; notes = fails.notes; past = fails.past; each = λ image may. each (record image { ends = s.ends }) (fails.each image may) }

-- one that found the store as it was
pub found-image : (s image : Stored) → MayBeLeft (rest_of s ∷ []) image → IsImage s (record image { ends = s.ends })
found-image s image may = by may.found is may.left
  where
    is : may.found ≡ rest_of s
    is = All-contains (λ r. r ≡ rest_of s) (rest_of s ∷ []) may.found (All-cons (λ r. r ≡ rest_of s) (rest_of s) [] refl (All-nil (λ r. r ≡ rest_of s))) may.among

    by : (r : Rest) → r ≡ rest_of s → IsImage (at_rest r) image → IsImage s (record image { ends = s.ends })
    by r same i =
        let j : IsImage (at_rest (rest_of s)) image = subst (λ r. IsImage (at_rest r) image) same i in
        record { to = j.to; may = record { stable = j.may.stable; within = j.may.within }; same = ap (λ (x : Stored). record x { ends = s.ends }) j.same }

-- an image of a store is one of it with items appended
pub image-grown : (more : List Bytes) (s image : Stored) → IsImage s image → IsImage (appended more s) image
image-grown more s image i =
    let within = i.may.within in
    record {
      to = i.to;
      may = record { stable = i.may.stable; within = omega (arith, within, length-append s.items more) };
      same = i.same ∙ ap {B = Stored} (λ items. record s { items = items; stable = i.to; past = image.past }) (sym (take-append-le (i.to - s.start) s.items more (omega (arith, within))));
    }

-- what a crash leaves is what a call may leave that failed
pub reads-image : (least : ℕ) (s image : Stored) → s.start ≤ s.stable → least ≤ s.stable → IsImage s image → ReadsAs least (IsImage s) image
reads-image least s image start low i =
    let stable = ap (λ (x : Stored). x.stable) i.same in
    let from = i.may.stable in
    let within = i.may.within in
    record {
      image = image;
      left = i;
      reads = refl;
      least_stable = omega (arith, low, from, stable);
      within = omega (arith, stable, start, from, within, ap (λ (x : Stored). x.start) i.same, ap (λ (x : Stored). length x.items) i.same, length-take (i.to - s.start) s.items);
    }

-- what is left now of a call that failed
pub leaves-now : (o n : Option Stored) (R Q : Stored → Stored → Type 0) → Turns o n (Fails R Q) → Turns o n R
leaves-now None n R Q fails = fails
leaves-now (Some s) None R Q fails = absurd fails
leaves-now (Some s) (Some t) R Q fails = fails.now

-- Metadata.

bytes_eq-same : (name : Bytes) → bytes_eq name name ≡ true
bytes_eq-same name = (bytes_eq-Decides name name).1 refl

bytes_eq-differs : (other name : Bytes) → (other ≡ name → ⊥) → bytes_eq other name ≡ false
bytes_eq-differs other name differs = no (bytes_eq other name) (bytes_eq-Decides other name).0
  where
    no : (b : Bool) → (b ≡ true → other ≡ name) → b ≡ false
    no true same = absurd (differs (same refl))
    no false same = refl

-- what was put under a name is found there
pub metadata_in-same : (name : Bytes) (entries : List Entry) (s : Stored) → metadata_in (with_metadata name entries s).metadata name ≡ entries
metadata_in-same name entries s = rw (bytes_eq-same name) refl

-- without the metadata of a name, that of another is found as before
others : (name other : Bytes) (ms : List Named) → (other ≡ name → ⊥) → metadata_in (filter (λ m. not (bytes_eq name m.name)) ms) other ≡ metadata_in ms other
others name other [] differs = refl
others name other (m ∷ ms) differs = at (bytes_eq name m.name) refl (others name other ms differs)
  where
    at : (b : Bool) → bytes_eq name m.name ≡ b → metadata_in (filter (λ o. not (bytes_eq name o.name)) ms) other ≡ metadata_in ms other → metadata_in (filter (λ o. not (bytes_eq name o.name)) (m ∷ ms)) other ≡ metadata_in (m ∷ ms) other
    at true is rest =
        let here : bytes_eq other m.name ≡ false = bytes_eq-differs other m.name (λ same. differs (same ∙ sym ((bytes_eq-Decides name m.name).0 is))) in
        rw (is, here) rest
    at false is rest = rw (is, rest) refl

-- and what stands under another name stays
pub metadata_in-other : (name other : Bytes) (entries : List Entry) (s : Stored) → (other ≡ name → ⊥) → metadata_in (with_metadata name entries s).metadata other ≡ metadata_in s.metadata other
metadata_in-other name other entries s differs = rw (bytes_eq-differs other name differs) (others name other s.metadata differs)
