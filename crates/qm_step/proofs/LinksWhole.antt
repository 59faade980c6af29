-- The maps of neighbours and of names give the operations of ordered writes their keys.
use Rattle.std.proofs.Common.{◌≡◌, Bool, true, false, List, ◌++◌, map, ap, ap₂, sym, ◌∙◌, refl, Option, Some, None, ◌&&◌, inl, inr}
use Rattle.std.specs.Prelude.{not, filter, filter_map, option_and_then, unwrap_or, is_some, is_none, if◌then◌else◌}
use Rattle.std.proofs.lemmas.List.{map-append}
use Rattle.qm_model.specs.Operations.{Bytes, Operation, delete}
use Rattle.qm_model.specs.Live.{Live, live, live_of, live_keys}
use Rattle.qm_model.specs.Keys.{successor, predecessor, contains_key, without}
use Rattle.qm_model.specs.Writes.{Write, write_of, last_writes}
use Rattle.qm_model.specs.Ordered.{IsRing, linked, rewritten, put_of, ordered_writes}
use Rattle.qm_model.proofs.LastWrites.{last_writes-Rising}
use Rattle.qm_model.proofs.KeyOrder.{Has, or-left, or-right, or-either, and-true, and-both, not-false, not-true, contains-append, contains-without, successor-some, predecessor-is, predecessor-some}
use Rattle.qm_model.proofs.OrderedLists.{live-contains, Rising-single, picked}
use Rattle.qm_model.proofs.OrderedWrites.{deleted, updated, created, kept, relinked, before_them, in_kept, in_deleted, in_updated, in_created, in_relinked, before_them-kept}
use Rattle.qm_step.specs.Rings.{touch_in, linked_in, is_changed, neighbour_in}
use Rattle.qm_step.specs.Links.{of_kind, key_after, named, touch_of, after_of, before_of, next_of, SameKeys, relinked_touches}
use Rattle.qm_step.specs.declared.links.Kind.TheVariants.{Delete, Update, Create}
use Rattle.qm_step.proofs.LinksNext.{before-among, after-among, neighbour-names}
use Rattle.qm_step.proofs.LinksMade.{filter_map-same, Has-made, Has-from, Has-also, before-changed, before-is, next-changed, next-is, after-live, after-created, after-either, is_gone, is_put, is_new, kind-touches, deletes-made, puts-made, own-writes, named-linked, named-deletes}

new-changes : (a n s : Bool) → (a && n) ≡ true → (if a then n else s) ≡ true
new-changes true n s h = h
new-changes false n s h = absurd (cc)

gone-changes : (v : Option Bytes) (n s : Bool) → (is_none v && s) ≡ true → (if is_some v then n else s) ≡ true
gone-changes None n s h = h
gone-changes (Some x) n s h = absurd (cc)

not-both : (o : Option Write) (l : Option Live) → picked is_some is_none o l ≡ true → (picked is_none is_some o l ≡ false) × (is_some l ≡ false)
not-both None l h = absurd (cc)
not-both (Some w) l h = by w.value l h
  where
    by : (v : Option Bytes) (l : Option Live) → (is_some v && is_none l) ≡ true → ((is_none v && is_some l) ≡ false) × (is_some l ≡ false)
    by None l h = absurd (cc)
    by (Some x) None h = (refl, refl)
    by (Some x) (Some e) h = absurd (cc)

put-stays : (o : Option Write) (l : Option Live) → picked is_some is_some o l ≡ true → (is_some l && not (picked is_none is_some o l)) ≡ true
put-stays None l h = absurd (cc)
put-stays (Some w) l h = by w.value l h
  where
    by : (v : Option Bytes) (l : Option Live) → (is_some v && is_some l) ≡ true → (is_some l && not (is_none v && is_some l)) ≡ true
    by None l h = absurd (cc)
    by (Some x) None h = absurd (cc)
    by (Some x) (Some e) h = refl

map-four : {X Y Z : Type 0} (f : Y → Z) (g : X → Y) (a b c d : List X) → map f (map g (a ++ b ++ c ++ d)) ≡ map f (map g a) ++ map f (map g b) ++ map f (map g c) ++ map f (map g d)
map-four f g a b c d =
    ap (map f) (map-append g (a ++ b ++ c) d ∙ ap (λ t. t ++ map g d) (map-append g (a ++ b) c ∙ ap (λ t. t ++ map g c) (map-append g a b)))
    ∙ map-append f (map g a ++ map g b ++ map g c) (map g d) ∙ ap (λ t. t ++ map f (map g d)) (map-append f (map g a ++ map g b) (map g c) ∙ ap (λ t. t ++ map f (map g c)) (map-append f (map g a) (map g b)))

module _ (base : List Operation) (ws : List Write) (ring : IsRing base) where
  abbrev us : List Write
  us = last_writes ws

  abbrev all : List Bytes
  all = live_keys base

  abbrev gets : Write → Bool
  gets w = is_some w.value && is_some (live_of (live base) w.key)

  abbrev goes : Write → Bool
  goes w = is_none w.value && is_some (live_of (live base) w.key)

  abbrev comes : Write → Bool
  comes w = is_some w.value && is_none (live_of (live base) w.key)

  abbrev many : List Bytes
  many = kept base ws ++ created base ws

  abbrev changed : List Bytes
  changed = created base ws ++ deleted base ws

  abbrev name : Write → Option Bytes
  name w = after_of (linked_in base w)

  abbrev before : Write → Option Bytes
  before w = option_and_then before_of (neighbour_in base w)

  abbrev next : Write → Option Bytes
  next w = option_and_then next_of (neighbour_in base w)

  comes-changed : (w : Write) → comes w ≡ true → is_changed (live base) w ≡ true
  comes-changed w h = new-changes (is_some w.value) (is_none (live_of (live base) w.key)) (is_some (live_of (live base) w.key)) h

  goes-changed : (w : Write) → goes w ≡ true → is_changed (live base) w ≡ true
  goes-changed w h = gone-changes w.value (is_none (live_of (live base) w.key)) (is_some (live_of (live base) w.key)) h

  -- a key that comes or goes has its neighbour
  before-there : (x q : Bytes) → Has changed x → predecessor all x ≡ Some q → Has (filter_map before us) q
  before-there x q at is = elim (or-either (contains_key (created base ws) x) (contains_key (deleted base ws) x) (sym (contains-append (created base ws) (deleted base ws) x) ∙ at)) [
    | inl new ↦ Has-made (λ (w : Write). w.key) comes before us x q new (λ w c same. before-changed base w (comes-changed w c) ∙ ap (predecessor all) same ∙ is)
    | inr old ↦ Has-made (λ (w : Write). w.key) goes before us x q old (λ w c same. before-changed base w (goes-changed w c) ∙ ap (predecessor all) same ∙ is)
  ]

  before-live : (q : Bytes) → Has (filter_map before us) q → Has all q
  before-live q h = Has-from before (Has all) (λ w s e. let is = predecessor-is all w.key s (before-is base w s e).0 in is.has) us q h

  next-live : (s : Bytes) → Has (filter_map next us) s → Has all s
  next-live s h = Has-from next (Has all) (λ w s e. next-is base ring w s e) us s h

  stays-not : (s : Bytes) → Has (kept base ws) s → (Has all s) × (contains_key (deleted base ws) s ≡ false)
  stays-not s h =
      let both = and-true (contains_key all s) (not (contains_key (deleted base ws) s)) (sym (in_kept base ws s) ∙ h) in
      (both.0, not-false (contains_key (deleted base ws) s) both.1)

  stays-if : (s : Bytes) → Has all s → contains_key (deleted base ws) s ≡ false → Has (kept base ws) s
  stays-if s at none = in_kept base ws s ∙ and-both (contains_key all s) (not (contains_key (deleted base ws) s)) at (not-true (contains_key (deleted base ws) s) none)

  new-not : (s : Bytes) → Has (created base ws) s → (contains_key (deleted base ws) s ≡ false) × (contains_key all s ≡ false)
  new-not s h =
      let both = not-both (write_of us s) (live_of (live base) s) (sym (in_created base ws s) ∙ h) in
      (in_deleted base ws s ∙ both.0, live-contains (live base) s ∙ both.1)

  updated-stays : (k : Bytes) → Has (updated base ws) k → Has (kept base ws) k
  updated-stays k h =
      in_kept base ws k ∙ ap₂ (λ a b. a && not b) (live-contains (live base) k) (in_deleted base ws k) ∙ put-stays (write_of us k) (live_of (live base) k) (sym (in_updated base ws k) ∙ h)

  left-many : (k : Bytes) → Has (kept base ws) k → Has many k
  left-many k h = contains-append (kept base ws) (created base ws) k ∙ or-left (contains_key (kept base ws) k) (contains_key (created base ws) k) h

  right-many : (k : Bytes) → Has (created base ws) k → Has many k
  right-many k h = contains-append (kept base ws) (created base ws) k ∙ or-right (contains_key (kept base ws) k) (contains_key (created base ws) k) h

  module _ (gone befores afters : List Bytes) (same_gone : SameKeys gone (deleted base ws)) (same_befores : SameKeys befores (without gone (filter_map before us)))
      (same_afters : SameKeys afters (without gone (filter_map name us) ++ without gone (filter_map next us))) where
    in_without : (xs : List Bytes) (s : Bytes) → Has (without gone xs) s → Has xs s × (contains_key (deleted base ws) s ≡ false)
    in_without xs s h =
        let both = and-true (contains_key xs s) (not (contains_key gone s)) (sym (contains-without gone xs s) ∙ h) in
        (both.0, sym (same_gone s) ∙ not-false (contains_key gone s) both.1)

    to_without : (xs : List Bytes) (s : Bytes) → Has xs s → contains_key (deleted base ws) s ≡ false → Has (without gone xs) s
    to_without xs s at none = contains-without gone xs s ∙ and-both (contains_key xs s) (not (contains_key gone s)) at (not-true (contains_key gone s) (same_gone s ∙ none))

    from_befores : (q : Bytes) → Has befores q → Has (filter_map before us) q × (contains_key (deleted base ws) q ≡ false)
    from_befores q h = in_without (filter_map before us) q (sym (same_befores q) ∙ h)

    before-same : (x : Bytes) → Has changed x → predecessor (kept base ws) x ≡ predecessor befores x
    before-same = before-among all (deleted base ws) (created base ws) befores
        (λ q h. let from = from_befores q h in stays-if q (before-live q from.0) from.1)
        (λ x q at is stays. same_befores q ∙ to_without (filter_map before us) q (before-there x q at is) (stays-not q stays).1)

    by_name : (s : Bytes) → Has (filter_map name us) s → contains_key (deleted base ws) s ≡ false → Has afters s
    by_name s at none =
        same_afters s ∙ contains-append (without gone (filter_map name us)) (without gone (filter_map next us)) s
        ∙ or-left (contains_key (without gone (filter_map name us)) s) (contains_key (without gone (filter_map next us)) s) (to_without (filter_map name us) s at none)

    by_next : (s : Bytes) → Has (filter_map next us) s → contains_key (deleted base ws) s ≡ false → Has afters s
    by_next s at none =
        same_afters s ∙ contains-append (without gone (filter_map name us)) (without gone (filter_map next us)) s
        ∙ or-right (contains_key (without gone (filter_map name us)) s) (contains_key (without gone (filter_map next us)) s) (to_without (filter_map next us) s at none)

    afters-many : (s : Bytes) → Has afters s → Has many s
    afters-many s h = elim (or-either (contains_key (without gone (filter_map name us)) s) (contains_key (without gone (filter_map next us)) s) (sym (contains-append (without gone (filter_map name us)) (without gone (filter_map next us)) s) ∙ sym (same_afters s) ∙ h)) [
      | inl by ↦ let from = in_without (filter_map name us) s by in
          elim (after-either base ring us s from.0) [ inl old ↦ left-many s (stays-if s old from.1) | inr new ↦ right-many s new ]
      | inr by ↦ let from = in_without (filter_map next us) s by in left-many s (stays-if s (next-live s from.0) from.1)
    ]

    -- the key that the live update of a written key names
    by_written : (test : Write → Bool) → ((w : Write) → test w ≡ true → is_some (live_of (live base) w.key) ≡ true) → (t s : Bytes) → Has (map (λ w. w.key) (filter test us)) t → successor all t ≡ Some s → Has (kept base ws) s → Has afters s
    by_written test lives t s at is stays =
        by_name s (Has-made (λ (w : Write). w.key) test name us t s at (λ w c same. after-live base ring w (lives w c) ∙ ap (successor all) same ∙ is)) (stays-not s stays).1

    after-is : (k : Bytes) → Has many k → ((s : Bytes) → successor all k ≡ Some s → Has (kept base ws) s → Has afters s) → Some (key_after afters k) ≡ successor many k
    after-is k at own =
        let found = successor-some many k k at in
        ap (λ o. Some (unwrap_or o k))
        (after-among all (deleted base ws) (created base ws) afters afters-many
        (by_written goes (λ w c. (and-true (is_none w.value) (is_some (live_of (live base) w.key)) c).1))
        (λ s new. by_name s (Has-made (λ (w : Write). w.key) comes name us s s new (λ w c same. after-created base w c ∙ ap (λ z. Some z) same)) (new-not s new).0)
        k found.0 (own found.0) found.1)
        ∙ sym found.1

    after-updated : (k : Bytes) → Has (updated base ws) k → Some (key_after afters k) ≡ successor many k
    after-updated k at = after-is k (left-many k (updated-stays k at)) (λ s is stays. by_written gets (λ w c. (and-true (is_some w.value) (is_some (live_of (live base) w.key)) c).1) k s at is stays)

    after-new : (k : Bytes) → Has (created base ws) k → Some (key_after afters k) ≡ successor many k
    after-new k at = after-is k (right-many k at) (λ s is stays.
        let lives = stays-not s stays in
        let front = predecessor-some all k s lives.0 in
        by_next s (Has-made (λ (w : Write). w.key) comes next us k s at (λ w c same.
        next-changed base ring w front.0 (comes-changed w c) (ap (predecessor all) same ∙ front.1) ∙ neighbour-names all k front.0 s (new-not k at).1 front.1 is)) lives.1)

    after-relinked : (k : Bytes) → Has (relinked base ws) k → Some (key_after afters k) ≡ successor many k
    after-relinked k at =
        let them : Has (before_them base ws) k = (and-true (contains_key (before_them base ws) k) (not (contains_key (updated base ws) k)) (sym (in_relinked base ws k) ∙ at)).0 in
        after-is k (left-many k (before_them-kept base ws k them)) (λ s is stays.
        let same : before_them base ws ≡ filter_map (predecessor befores) changed = filter_map-same (predecessor (kept base ws)) (predecessor befores) changed before-same in
        let one : Has befores k = Has-from (predecessor befores) (Has befores) (λ x q e. let found = predecessor-is befores x q e in found.has) changed k (sym (ap (λ ks. contains_key ks k) same) ∙ them) in
        by_next s (Has-also before next us k s (λ w e. let of = before-is base w k e in next-changed base ring w k of.1 of.0 ∙ is) (from_befores k one).0) (stays-not s stays).1)

    pub written-touches : map (touch_of afters) (of_kind Delete (map (linked_in base) us)) ++ map (touch_of afters) (of_kind Update (map (linked_in base) us)) ++ map (touch_of afters) (of_kind Create (map (linked_in base) us))
        ++ relinked_touches base afters (updated base ws) (filter_map (predecessor befores) changed)
        ≡ map (touch_in base) (ordered_writes base ws)
    written-touches =
        let put = λ (k : Bytes). option_and_then (λ (w : Write). w.value) (write_of us k) in
        let own = own-writes us (Rising-single us (last_writes-Rising ws)) in
        let deletes = kind-touches base afters Delete goes (is_gone base) us
        ∙ ap (λ ops. map (touch_in base) (map (named afters) ops)) (deletes-made goes (λ w c. (and-true (is_none w.value) (is_some (live_of (live base) w.key)) c).0) us)
        ∙ ap (map (touch_in base)) (named-deletes afters many (deleted base ws)) in
        let updates = kind-touches base afters Update gets (is_put base) us
        ∙ ap (λ ops. map (touch_in base) (map (named afters) ops)) (puts-made us gets (λ w c. (and-true (is_some w.value) (is_some (live_of (live base) w.key)) c).0) us own)
        ∙ ap (map (touch_in base)) (named-linked (λ v. v) put afters many (updated base ws) after-updated) in
        let creates = kind-touches base afters Create comes (is_new base) us
        ∙ ap (λ ops. map (touch_in base) (map (named afters) ops)) (puts-made us comes (λ w c. (and-true (is_some w.value) (is_none (live_of (live base) w.key)) c).0) us own)
        ∙ ap (map (touch_in base)) (named-linked (λ v. v) put afters many (created base ws) after-new) in
        let links = ap (relinked_touches base afters (updated base ws)) (sym (filter_map-same (predecessor (kept base ws)) (predecessor befores) changed before-same))
        ∙ ap (map (touch_in base)) (named-linked (λ (e : Live). e.value) (live_of (live base)) afters many (relinked base ws) after-relinked) in
        ap₂ (λ a b. a ++ b) (ap₂ (λ a b. a ++ b) (ap₂ (λ a b. a ++ b) deletes updates) creates) links
        ∙ sym (map-four (touch_in base) (linked many) (map delete (deleted base ws)) (filter_map (put_of us) (updated base ws)) (filter_map (put_of us) (created base ws)) (filter_map (rewritten (live base)) (relinked base ws)))
