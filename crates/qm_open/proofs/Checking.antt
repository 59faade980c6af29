-- What the checks of head, items and links come to.
use Rattle.std.proofs.Common.{◌≡◌, ◌≢◌, ◌⊎◌, inl, inr, ◌*◌, Bool, true, false, [], ◌∷◌, eq-eqb, ne_eqb, ◌∙◌, ◌≤◌, ℕ, List, length, arith, refl, ap, ap₂, sym, subst, Option, Some, None}
use native.Mathlib.Nat.{mul_comm}
use Rattle.std.specs.Prelude.{not, ◌==◌, is_none, IfSome, OnOk, Result, Ok, Err}
use Rattle.std.specs.List.{list_any}
use Rattle.qm_model.specs.Causes.{IsCause}
use Rattle.qm_model.specs.Forms.{Form}
use Rattle.qm_model.specs.Trees.{Shape, peaks}
use Rattle.qm_model.specs.StoreModel.{Stored}
use Rattle.qm_model.specs.Opening as opening
use Rattle.qm_model.specs.Opening.{when, first_refusal}
use Rattle.qm_model.specs.Refused.{Refused, DataCorrupted, HeadDoesNotMatch, ItemDoesNotDecode, LinksFormNoRing}
use Rattle.qm_base.specs.declared.error.Error.TheVariants as errors
use Rattle.qm_base.specs.declared.error.JournalError.TheVariants as journal
use Rattle.qm_base.specs.declared.error.Corrupt.TheVariants as corrupt
use Rattle.qm_store.specs.Refusals.{IsDue}
use Rattle.qm_open.specs.Selecting.{any_layout, any_found, content_refusal}
use Rattle.qm_build.specs.Reads.{items_within, KeepsLog, IsRebuildError}
use Rattle.qm_model.specs.Operations.{Bytes, Operation}
use Rattle.qm_build.proofs.Reading.{operations-then, caused}
use Rattle.qm_bits.specs.Bitmaps.{Bitmap}
use Rattle.qm_store.specs.declared.Store as store
use Rattle.qm_base.specs.declared.error.Error.{Error}
use Rattle.qm_store.specs.Log.{Log}
use Rattle.qm_open.specs.Opened.{IsOpened}
use Rattle.qm_open.specs.Broken.{links_broken}

abbrev pub three : Bool → Bool → Bool → Option Refused
three matches lost apart = first_refusal (when (not matches) (DataCorrupted HeadDoesNotMatch) ∷ when lost (DataCorrupted ItemDoesNotDecode) ∷ when apart (DataCorrupted LinksFormNoRing) ∷ [])

module _ (form : Form) (shape : Shape) (size : ℕ) (s : Stored) (start : ℕ) (from : s.start ≡ start) (at : opening.Selected) where
  abbrev apart : Bool
  apart = links_broken form s at.floor at.size

  abbrev content : Option Refused
  content = content_refusal (any_layout form shape size) (any_found form s) (Some at)

  in-three : content ≡ three (length s.head == size * length (peaks shape s.start)) (list_any is_none (items_within form s at.floor at.size)) apart
  in-three = refl

  turned : length (peaks shape start) * size ≡ size * length (peaks shape s.start)
  turned = mul_comm (length (peaks shape start)) size ∙ ap (λ n. size * length (peaks shape n)) (sym from)

  head-refused : length s.head ≢ length (peaks shape start) * size → content ≡ Some (DataCorrupted HeadDoesNotMatch)
  head-refused other = ap (λ b. three b (list_any is_none (items_within form s at.floor at.size)) apart) (ne_eqb (length s.head) (size * length (peaks shape s.start)) (λ is. other (is ∙ sym turned)))

  item-refused : length s.head ≡ length (peaks shape start) * size → list_any is_none (items_within form s at.floor at.size) ≡ true → content ≡ Some (DataCorrupted ItemDoesNotDecode)
  item-refused long lost = ap₂ (λ b l. three b l apart) (eq-eqb (length s.head) (size * length (peaks shape s.start)) (long ∙ turned)) lost

  -- nothing is refused of an unordered list, nor of one whose links form a ring
  pub content-accepted : length s.head ≡ length (peaks shape start) * size → list_any is_none (items_within form s at.floor at.size) ≡ false → apart ≡ false → content ≡ None
  content-accepted long whole ring = ap₂ (λ b l. three b l apart) (eq-eqb (length s.head) (size * length (peaks shape s.start)) (long ∙ turned)) whole ∙ ap (three true false) ring

  links-refused : length s.head ≡ length (peaks shape start) * size → list_any is_none (items_within form s at.floor at.size) ≡ false → apart ≡ true → content ≡ Some (DataCorrupted LinksFormNoRing)
  links-refused long whole none = ap₂ (λ b l. three b l apart) (eq-eqb (length s.head) (size * length (peaks shape s.start)) (long ∙ turned)) whole ∙ ap (three true false) none

  -- an error of an opening is due
  pub opened-due : (e : Error) → (e ≡ errors.DataCorrupted corrupt.HeadDoesNotMatch → length s.head ≢ length (peaks shape start) * size)
      → (e ≡ errors.DataCorrupted corrupt.ItemDoesNotDecode → (length s.head ≡ length (peaks shape start) * size) × (list_any is_none (items_within form s at.floor at.size) ≡ true))
      → (e ≡ errors.Memory) ⊎ ((e ≡ errors.Journal journal.Store) ⊎ ((e ≡ errors.DataCorrupted corrupt.HeadDoesNotMatch) ⊎ (e ≡ errors.DataCorrupted corrupt.ItemDoesNotDecode)))
      → IsDue e content
  opened-due e head item (inl memory) = subst (λ e. IsDue e content) (sym memory) tt
  opened-due e head item (inr (inl fault)) = subst (λ e. IsDue e content) (sym fault) tt
  opened-due e head item (inr (inr (inl other))) = subst (λ e. IsDue e content) (sym other) (head-refused (head other))
  opened-due e head item (inr (inr (inr lost))) = let both = item lost in subst (λ e. IsDue e content) (sym lost) (item-refused both.0 both.1)

  -- and so is one of the look at the links after it
  pub links-due : {C D : Type 0} (members : store.Ghosts C) (old new : Log C D) (e : Error) → length s.head ≡ length (peaks shape start) * size → list_any is_none (items_within form s at.floor at.size) ≡ false
      → (e ≡ errors.DataCorrupted corrupt.LinksFormNoRing → apart ≡ true) → (e ≡ errors.DataCorrupted corrupt.ItemDoesNotDecode → list_any is_none (items_within form s at.floor at.size) ≡ true)
      → IsRebuildError members old new e ⊎ ((form.ordered ≡ true) × (e ≡ errors.DataCorrupted corrupt.LinksFormNoRing)) → IsDue e content
  links-due members old new e long whole none lost (inl (inl (inl memory))) = subst (λ e. IsDue e content) (sym memory) tt
  links-due members old new e long whole none lost (inl (inl (inr (fault, rose)))) = subst (λ e. IsDue e content) (sym fault) tt
  links-due members old new e long whole none lost (inl (inr item)) = let no : true ≡ false = sym (lost item) ∙ whole in absurd cc
  links-due members old new e long whole none lost (inr (kind, links)) = subst (λ e. IsDue e content) (sym links) (links-refused long whole (none links))

-- what was opened is still what it was, after reads
pub opened-read : {C D : Type 0} (members : store.Ghosts C) (shape : Shape) (bytes : D → Bytes) (hash : Bytes → Bytes) (form : Form) (index_key : Bytes → ℕ) (n : ℕ) (old new : Log C D) (entries : List (ℕ × List ℕ)) (live_keys : ℕ) (activity : Bitmap) (root : Bytes)
    (meta : Option Bytes) (list : List Operation) → KeepsLog members shape bytes hash old new → IsOpened members shape bytes hash form index_key n old entries live_keys activity root meta list
    → IsOpened members shape bytes hash form index_key n new entries live_keys activity root meta list
opened-read members shape bytes hash form index_key n old new entries live_keys activity root meta list read is = record {
  has = operations-then members shape bytes hash form old new list read is.has;
  indexed = is.indexed;
  counted = is.counted;
  active = is.active;
  root_is = is.root_is;
  metadata_is = is.metadata_is;
}

-- an error of the look at the links tells of the store only if its count of faults rose
pub links-caused : {C D K : Type 0} (members : store.Ghosts C) (first : C) (old new : Log C D) (e : Error) → members.faults first ≤ members.faults old.store → members.faults old.store ≤ members.faults new.store
    → IsRebuildError members old new e ⊎ (K × (e ≡ errors.DataCorrupted corrupt.LinksFormNoRing)) → IsCause (members.faults first) (members.faults new.store) (e ≡ errors.Journal journal.Store)
links-caused members first old new e before after (inl failed) = caused members (record { store = first; tree = old.tree }) old new e before after failed
links-caused members first old new e before after (inr (kind, links)) = record { later = omega (arith, before, after); failed = λ fault. absurd cc }

-- what holds of what is told, if that is known
pub each-known : {X : Type 0} (o : Option X) {Q : X → Type 0} → ((x : X) → o ≡ Some x → Q x) → IfSome o Q
each-known None all = tt
each-known (Some x) all = all x refl

pub known-at : {X : Type 0} (P : X → Type 0) (o : Option X) (x : X) → o ≡ Some x → IfSome o P → P x
known-at P None x is p = cc
known-at P (Some y) x is p = let same : y ≡ x = cc in subst P same p

pub on-ok : {X E : Type 0} {P : Type 0} (r : Result X E) → P → OnOk r P
on-ok (Ok x) p = p
on-ok (Err e) p = tt
