-- The writes that are wanted: recorded ones, those of slots, and others.
use Rattle.std.proofs.Common.{◌≡◌, ℕ, ◌+◌, ◌<◌, ◌⊎◌, inl, inr, List, [], ◌∷◌, ◌++◌, length, take, map, get_or, refl, ap, ap₂, sym, ◌∙◌, Option, Some, None, option_map, append_assoc, append-nil, Bor}
use Rattle.std.specs.Prelude.{filter_map, option_to_list, option_copied, zip}
use Rattle.std.specs.List.{cons_option}
use Rattle.std.proofs.lemmas.List.{map_more}
use Rattle.qm_base.specs.Slots.{slot_view, slot_views}
use Rattle.qm_base.specs.declared.slot.Slot.{Slot}
use Rattle.qm_base.specs.declared.write.Write as written
use Rattle.qm_model.specs.Operations.{Bytes}
use Rattle.qm_model.specs.Slots.{slotted, write_in}
use Rattle.qm_model.specs.Writes.{Write}
use Rattle.qm_step.specs.Views.{keys_of, write_view}
use Rattle.qm_step.specs.declared.wanted.Read.{Read}

-- if nothing was read the recorded writes are wanted
pub slotted-none : (ws : List Write) → slotted ws [] [] [] ≡ ws
slotted-none ws = append-nil (ws ++ []) ∙ append-nil ws

lent-shown : {X Y : Type 0} (f : X → Y) (r : Option (Bor X)) (o : Option X) → option_copied r ≡ o → option_map (λ x. f x.now) r ≡ option_map f o
lent-shown {X} f r o is = by r ∙ ap (option_map f) is
  where
    by : (r : Option (Bor X)) → option_map (λ x. f x.now) r ≡ option_map f (option_copied r)
    by None = refl
    by (Some x) = refl

module _ {K V : Type 0} (key : K → Bytes) (value : V → Bytes) where
  -- one write more of a list
  pub write-next : (ws : List Write) (xs : List (written.Write K V)) (i : ℕ) (d : written.Write K V) (lent : Option (Bor V)) → i < length xs → d ≡ get_or xs i d → option_copied lent ≡ d.value →
      (ws ++ map (write_view key value) (take i xs)) ++ record { key = key d.key; value = option_map (λ v. value v.now) lent } ∷ [] ≡ ws ++ map (write_view key value) (take (i + 1) xs)
  write-next ws xs i d lent within here is =
      append_assoc ws (map (write_view key value) (take i xs)) _
      ∙ ap (λ us. ws ++ us)
      (ap (λ o. map (write_view key value) (take i xs) ++ record { key = key d.key; value = o } ∷ []) (lent-shown value lent d.value is)
      ∙ ap (λ x. map (write_view key value) (take i xs) ++ write_view key value x ∷ []) here
      ∙ sym (map_more (write_view key value) xs i d within))

  -- the writes of the slots of reads
  abbrev pub slot_writes : {F U : Type 0} → List (Read F U K V) → List (Slot V) → List Write
  slot_writes reads slots = filter_map write_in (zip (keys_of key reads) (slot_views value slots))

  -- one slot on
  pub slot-next : {F U : Type 0} (ws all : List Write) (reads later : List (Read F U K V)) (slots rest : List (Slot V)) (r : Read F U K V) (s : Slot V) → reads ≡ r ∷ later → slots ≡ s ∷ rest → ws ++ slot_writes reads slots ≡ all →
      (ws ++ option_to_list (write_in (key r.key, slot_view value s))) ++ slot_writes later rest ≡ all
  slot-next ws all reads later slots rest r s first second so_far =
      append_assoc ws (option_to_list (write_in (key r.key, slot_view value s))) (slot_writes later rest)
      ∙ ap (λ us. ws ++ us) (one (write_in (key r.key, slot_view value s))) ∙ ap₂ (λ a b. ws ++ slot_writes a b) (sym first) (sym second) ∙ so_far
    where
      one : (o : Option Write) → option_to_list o ++ slot_writes later rest ≡ cons_option o (slot_writes later rest)
      one None = refl
      one (Some w) = refl

  -- no slot is left
  pub slots-all : {F U : Type 0} (ws all : List Write) (reads : List (Read F U K V)) (slots : List (Slot V)) → (reads ≡ []) ⊎ (slots ≡ []) → ws ++ slot_writes reads slots ≡ all → ws ≡ all
  slots-all ws all reads slots (inl none) so_far = sym (append-nil ws) ∙ ap (λ a. ws ++ slot_writes a slots) (sym none) ∙ so_far
  slots-all {F} {U} ws all reads slots (inr none) so_far = sym (append-nil ws) ∙ ap (λ us. ws ++ us) (sym (no-slots reads)) ∙ ap (λ b. ws ++ slot_writes reads b) (sym none) ∙ so_far
    where
      no-slots : (reads : List (Read F U K V)) → slot_writes reads [] ≡ []
      no-slots [] = refl
      no-slots (r ∷ reads) = refl
