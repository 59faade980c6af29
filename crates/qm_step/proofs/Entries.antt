-- The parts of a diff's entry, and of the change that it stands for; the place of an update.
use Rattle.std.proofs.Common.{◌≡◌, ℕ, Bool, true, false, cond, List, [], ◌∷◌, Option, Some, None, Bor, map, refl, ap, sym, ◌∙◌}
use Rattle.std.specs.Prelude.{bytes_eq, find, option_map}
use Rattle.qm_chain.specs.declared.diff.DiffEntry.{DiffEntry}
use Rattle.qm_chain.specs.declared.diff.DiffEntry.TheVariants.{Active, Deleted}
use Rattle.qm_chain.specs.Diffs.{loc_of, base_old_loc_of}
use Rattle.qm_chain.specs.Entries.{entry_of}
use Rattle.qm_model.specs.Live.{Live, live, live_of}
use Rattle.qm_model.specs.Operations.{Bytes, Operation}
use Rattle.qm_step.specs.Changes.{Change, Changes, change_in, link_in, link_of, located, place_in, update_of}
use Rattle.qm_step.specs.Views.{change_view, changes_view}

module _ {F V : Type 0} (value : V → Bytes) where
  pub view-before : (e : DiffEntry F V) → (change_view value e).before ≡ base_old_loc_of e
  view-before (Active v loc old) = refl
  view-before (Deleted old) = refl

  pub view-now : (e : DiffEntry F V) → option_map (λ (p : ℕ × Bytes). p.0) (change_view value e).now ≡ loc_of e
  view-now (Active v loc old) = refl
  view-now (Deleted old) = refl

-- where a key stands is where its live update does
pub link-of_update : (list : List Operation) (key : Bytes) → option_map link_of (update_of list key) ≡ link_in list key
link-of_update list key = by (live_of (live list) key)
  where
    by : (o : Option Live) → option_map link_of (option_map located o) ≡ option_map (λ (e : Live). (e.location, e.next)) o
    by None = refl
    by (Some e) = refl

pub place-of_link : (list : List Operation) (key : Bytes) → option_map (λ (p : ℕ × Option Bytes). p.0) (link_in list key) ≡ place_in list key
place-of_link list key = by (live_of (live list) key)
  where
    by : (o : Option Live) → option_map (λ (p : ℕ × Option Bytes). p.0) (option_map (λ (e : Live). (e.location, e.next)) o) ≡ option_map (λ (p : ℕ × Bytes). p.0) (option_map (λ (e : Live). (e.location, e.value)) o)
    by None = refl
    by (Some e) = refl

-- the change of a key, whether the first entry is its own or not
pub change_in-cons : (k key : Bytes) (what : Change) (rest : Changes) → change_in ((k, what) ∷ rest) key ≡ cond (bytes_eq k key) (Some what) (change_in rest key)
change_in-cons k key what rest = by (bytes_eq k key)
  where
    by : (t : Bool) → option_map (λ (c : Bytes × Change). c.1) (cond t (Some (k, what)) (find (λ c. bytes_eq c.0 key) rest)) ≡ cond t (Some what) (change_in rest key)
    by true = refl
    by false = refl

-- what changes do to a key is what the entry of the key does
pub change-of_entry : {K E : Type 0} (key : K → Bytes) (what : E → Change) (entries : List (K × E)) (k : Bytes) →
    change_in (map (λ e. (key e.0, what e.1)) entries) k ≡ option_map what (option_map (λ (e : K × E). e.1) (entry_of key entries k))
change-of_entry key what [] k = refl
change-of_entry {K} {E} key what (e ∷ entries) k =
    change_in-cons (key e.0) k (what e.1) (map (λ u. (key u.0, what u.1)) entries) ∙ ap (cond (bytes_eq (key e.0) k) (Some (what e.1))) (change-of_entry key what entries k) ∙ by (bytes_eq (key e.0) k)
  where
    by : (t : Bool) → cond t (Some (what e.1)) (option_map what (option_map (λ (u : K × E). u.1) (entry_of key entries k))) ≡ option_map what (option_map (λ (u : K × E). u.1) (cond t (Some e) (entry_of key entries k)))
    by true = refl
    by false = refl

-- what was found of a key
pub change-found : {F K V : Type 0} (key : K → Bytes) (value : V → Bytes) (found : Option (Bor (DiffEntry F V))) (entries : List (K × DiffEntry F V)) (k : Bytes) (changes : Changes) →
    option_map (λ e. e.now) found ≡ option_map (λ (e : K × DiffEntry F V). e.1) (entry_of key entries k) → changes_view key value entries ≡ changes → option_map (λ e. change_view value e.now) found ≡ change_in changes k
change-found {F} {K} {V} key value found entries k changes is shown =
    by found ∙ ap (option_map (change_view value)) is ∙ sym (change-of_entry key (change_view value) entries k) ∙ ap (λ cs. change_in cs k) shown
  where
    by : (o : Option (Bor (DiffEntry F V))) → option_map (λ e. change_view value e.now) o ≡ option_map (change_view value) (option_map (λ (e : Bor (DiffEntry F V)). e.now) o)
    by None = refl
    by (Some e) = refl
