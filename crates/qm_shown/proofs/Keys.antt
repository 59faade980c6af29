-- What is proved of a live update, and why not.
use Rattle.std.proofs.Common.{◌≡◌, ◌∙◌, ◌≤◌, ◌*◌, ◌^◌, ◌-◌, ℕ, true, List, length, Option, None, Some, arith, ap, sym, refl, subst}
use Rattle.std.specs.Prelude.{option_map, unwrap_or, IfSome, slice_get}
use Rattle.std.proofs.lemmas.Nat.{pow_pos}
use Rattle.qm_model.specs.Operations.{Bytes, Operation, update}
use Rattle.qm_model.specs.Live.{Live, live, live_of}
use Rattle.qm_model.specs.Bits.{bits}
use Rattle.qm_model.specs.Refused.{Refused}
use Rattle.qm_base.specs.declared.error.Error.{Error}
use Rattle.qm_bits.specs.Bitmaps.{all_bits}
use Rattle.qm_step.specs.Changes.{located, next_in, update_of}
use Rattle.qm_step.specs.Lent.{NoneBelow}
use Rattle.qm_step.proofs.Standing.{of_key-within}
use Rattle.qm_store.specs.declared.Store as store
use Rattle.qm_graft.specs.Grafting.{grafting}
use Rattle.qm_makers.proofs.Chunking.{chunk_kept}
use Rattle.qm_any.specs.Databases as anys
use Rattle.qm_any.specs.Layouts.{Layout}
use Rattle.qm_any.proofs.Reading.{good-none}
use Rattle.qm_store.specs.Refusals.{refusal_of, IsDue}
use Rattle.qm_store.specs.Reads.{IsReadError}
use Rattle.qm_any.proofs.Offered.{log-kept, log-rose}
use Rattle.qm_shown.specs.Refusals.{from_refusal, IsCaused, IsUnread}
use Rattle.qm_shown.proofs.Absences.{last-set}
use Rattle.qm_shown.proofs.Ended.{offered-from}
use Rattle.qm_shown.proofs.LiveBits.{live-set, set-kept, set-within}

-- a live update that is found with its location
pub record IsFound (list : List Operation) (key : Bytes) (at : ℕ) : Type 0 where
  pub entry : Live
  pub found : live_of (live list) key ≡ Some entry
  pub here : entry.location ≡ at

pub found-at : (list : List Operation) (key : Bytes) (at : ℕ) (op : Operation) → Some (at, op) ≡ update_of list key → IsFound list key at
found-at list key at op is = by (live_of (live list) key) refl
  where
    by : (o : Option Live) → live_of (live list) key ≡ o → IsFound list key at
    by None e = let no : Some (at, op) ≡ None = is ∙ ap (option_map located) e in absurd (cc)
    by (Some e) is_e = let same : Some (at, op) ≡ Some (located e) = is ∙ ap (option_map located) is_e in record { entry = e; found = is_e; here = sym (ap (λ (o : Option (ℕ × Operation)). unwrap_or (option_map (λ p. p.0) o) at) same) }

pub found-none : (list : List Operation) (key : Bytes) → None ≡ update_of list key → live_of (live list) key ≡ None
found-none list key is = by (live_of (live list) key) refl
  where
    by : (o : Option Live) → live_of (live list) key ≡ o → live_of (live list) key ≡ None
    by None e = e
    by (Some e) is_e = let no : None ≡ Some (located e) = is ∙ ap (option_map located) is_e in absurd (cc)

-- what is made of where a live update stands is made of where it is found
pub made-at : {A : Type 0} (list : List Operation) (key : Bytes) (at : ℕ) (op : Operation) (f : ℕ → A) (shown : A) → update_of list key ≡ Some (at, op) → shown ≡ f at → option_map (λ e. f e.location) (live_of (live list) key) ≡ Some shown
made-at list key at op f shown is made = let there = found-at list key at op (sym is) in ap (option_map (λ e. f e.location)) there.found ∙ ap (λ n. Some (f n)) there.here ∙ ap Some (sym made)

apart : {A : Type 0} (x : A) → None ≡ Some x → ⊥
apart x is = cc

-- the key that a live update names next
pub next-at : (list : List Operation) (key : Bytes) (at : ℕ) (k v : Bytes) (n : Option Bytes) → update_of list key ≡ Some (at, update k v n) → option_map (λ e. e.next) (live_of (live list) key) ≡ Some n
next-at list key at k v n is = by (live_of (live list) key) refl
  where
    by : (o : Option Live) → live_of (live list) key ≡ o → option_map (λ e. e.next) o ≡ Some n
    by None found = absurd (apart (at, update k v n) (sym (ap (option_map located) found) ∙ is))
    by (Some e) found =
        let same : Some (located e) ≡ Some (at, update k v n) = sym (ap (option_map located) found) ∙ is in
        ap Some (ap (λ (o : Option (ℕ × Operation)). next_in (unwrap_or o (at, update k v n)).1) same)

module _ {C D : Type 0} (members : store.Ghosts C) (chunk : ℕ) (db : anys.Database C D) (list : List Operation) (span : 2 ^ grafting chunk ≡ 8 * chunk) (same : all_bits chunk db.activity ≡ bits list) where
  -- a set bit's location is within the list and what is kept of it
  pub set-offered : (at : ℕ) → slice_get (bits list) at ≡ Some true → members.start db.log.store ≤ at → from_refusal members chunk db list at ≡ None
  set-offered at set from =
      let kept = set-kept chunk db.activity list at same set in
      let wide = ap (λ w. db.activity.pruned * w) span in
      offered-from (grafting chunk) db.activity.pruned (members.start db.log.store) list at (set-within list at set)
      (chunk_kept (2 ^ grafting chunk) db.activity.pruned at (pow_pos (grafting chunk)) (omega (arith, kept, wide))) from

  -- so is that of a live update, where none stands before what the store has
  pub live-offered : (key : Bytes) (at : ℕ) → IsFound list key at → NoneBelow (members.start db.log.store) list → from_refusal members chunk db list at ≡ None
  live-offered key at there none =
      let among = of_key-within (live list) key there.entry there.found in
      let from : members.start db.log.store ≤ there.entry.location = subst (λ (e : Live). members.start db.log.store ≤ e.location) among.0.2 (none among.0.0 there.entry among.0.1) in
      set-offered at (ap (slice_get (bits list)) (sym there.here) ∙ live-set list key there.entry there.found) (omega (arith, from, there.here))

-- what the store of a database has begins at the floor of its list, or before it: no live update stands before it
pub kept-none : {C D : Type 0} (members : store.Ghosts C) (layout : Layout D) (db : anys.Database C D) (list : List Operation) → anys.IsDatabase members layout db list → NoneBelow (members.start db.log.store) list
kept-none members layout db list is = good-none (members.start db.log.store) list is.good (omega (arith, is.low, is.lent.logged.start))

-- the proof that a key is absent from an emptied list is offered: its last location is kept
pub last-offered : {C D : Type 0} (members : store.Ghosts C) (layout : Layout D) (db : anys.Database C D) (list : List Operation) → 2 ^ grafting layout.chunk ≡ 8 * layout.chunk → anys.IsDatabase members layout db list
    → from_refusal members layout.chunk db list (length list - 1) ≡ None
last-offered members layout db list span is =
    let within = is.good.floor_within in
    set-offered members layout.chunk db list span is.active (length list - 1) (last-set list (omega (arith, within))) (omega (arith, is.low, is.lent.logged.start, within))

-- an error of a read of a database is no stale batch, and a fault of the store only if its count rose
pub read-caused : {C D : Type 0} (members : store.Ghosts C) (old new : anys.Database C D) (e : Error) → IsReadError members old.log new.log e → IsCaused members old new e
read-caused members old new e why = record { fresh = log-kept members old.log new.log e why; cause = log-rose members old.log new.log e why }

-- so is one that neither is
pub unread-caused : {C D : Type 0} (members : store.Ghosts C) (old new : anys.Database C D) (e : Error) → IsUnread e → IsCaused members old new e
unread-caused members old new e why = record { fresh = why.0; cause = λ fault. absurd (why.1 fault) }

-- what refuses for nothing is due whatever is
pub none-due : (e : Error) (due : Option Refused) → refusal_of e ≡ None → IsDue e due
none-due e due none = subst (λ (o : Option Refused). IfSome o (λ r. due ≡ Some r)) (sym none) tt

pub due-as : (e : Error) (a b : Option Refused) → a ≡ b → IsDue e a → IsDue e b
due-as e a b same due = subst (IsDue e) same due

-- an error that refuses for nothing is due whatever is
pub call-due : (e : Error) (due : Option Refused) → IsDue e None → IsDue e due
call-due e due is = by (refusal_of e) is
  where
    by : (o : Option Refused) → IfSome o (λ r. None ≡ Some r) → IfSome o (λ r. due ≡ Some r)
    by None is = tt
    by (Some r) is = absurd (cc)

-- what is due for nothing refuses for nothing
pub due-none : (e : Error) → IsDue e None → refusal_of e ≡ None
due-none e is = by (refusal_of e) refl is
  where
    by : (o : Option Refused) → refusal_of e ≡ o → IfSome o (λ r. None ≡ Some r) → refusal_of e ≡ None
    by None same is = same
    by (Some r) same is = absurd (cc is)
