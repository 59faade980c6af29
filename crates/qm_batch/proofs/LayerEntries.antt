-- What an entry of a layer says of its key's live update.
use Rattle.std.proofs.Common.{◌≡◌, ◌∙◌, ◌-◌, ℕ, List, ap, map, refl, sym, Option, Some, None, get_or, length, drop, ◌∷◌, ◌+◌, ◌<◌}
use Rattle.std.specs.Borrow.{Bor}
use Rattle.std.specs.Prelude.{option_map, option_and_then, slice_get, is_some, IfSome}
use Rattle.std.specs.Option.{option_or}
use Rattle.std.proofs.Math.Dec.{ltb}
use Rattle.std.proofs.lemmas.List.{drop_more}
use Rattle.std.proofs.lemmas.Bool.{ltb-true, ltb-false}
use Rattle.std.proofs.lemmas.Option.{same_Some, slice_get-map, slice_get_past, slice_get_read}
use Rattle.qm_model.specs.Operations.{Bytes, Operation}
use Rattle.qm_chain.specs.Diffs.{loc_of}
use Rattle.qm_chain.specs.declared.diff.DiffEntry.{DiffEntry}
use Rattle.qm_chain.specs.declared.diff.DiffEntry.TheVariants.{Active, Deleted}
use Rattle.qm_step.specs.Changes.{Change, change_in, link_of, said_by, update_at}
use Rattle.qm_step.specs.Layers.{Layer, nearest_layer, update_by}
use Rattle.qm_step.specs.Views.{change_view}

-- an entry that deletes its key leaves it no update
pub none-at : {F V : Type 0} (value : V → Bytes) (layer : Layer) (entry : DiffEntry F V) → loc_of entry ≡ None → None ≡ update_by layer (change_view value entry)
none-at value layer (Active v loc old) is = cc
none-at value layer (Deleted old) is = refl

-- an entry that names a location leaves the update there
pub some-at : {F V : Type 0} (value : V → Bytes) (layer : Layer) (entry : DiffEntry F V) (at : ℕ) → loc_of entry ≡ Some at →
    update_by layer (change_view value entry) ≡ option_map (λ op. (at, op)) (update_at layer.operations (at - layer.base))
some-at value layer (Active v loc old) at is = ap (λ n. option_map (λ op. (n, op)) (update_at layer.operations (n - layer.base))) (same_Some loc at is)
some-at value layer (Deleted old) at is = cc

-- what the list of the operations' views says at the place of one
pub said-there : {A : Type 0} (view : A → Operation) (ops : List A) (list : List Operation) (i n : ℕ) (op : A) → map view ops ≡ list → i ≡ n → slice_get ops i ≡ Some op → update_at list n ≡ said_by (view op)
said-there view ops list i n op same place is =
    ap (λ l. update_at l n) (sym same) ∙ ap (update_at (map view ops)) (sym place) ∙ ap (option_and_then said_by) (slice_get-map view ops i ∙ ap (option_map view) is)

-- and at a place after them
pub none-there : {A : Type 0} (view : A → Operation) (ops : List A) (list : List Operation) (i n : ℕ) → map view ops ≡ list → i ≡ n → slice_get ops i ≡ None → update_at list n ≡ None
none-there view ops list i n same place is =
    ap (λ l. update_at l n) (sym same) ∙ ap (update_at (map view ops)) (sym place) ∙ ap (option_and_then said_by) (slice_get-map view ops i ∙ ap (option_map view) is)

-- the place of what stands at a location, and the key that it names
pub linked : (at : ℕ) (o : Option Operation) → option_map (λ op. link_of (at, op)) o ≡ option_map link_of (option_map (λ op. (at, op)) o)
linked at None = refl
linked at (Some op) = refl

-- what the list of the operations' views says at the place at which one was looked for
pub said-at : {A : Type 0} (view : A → Operation) (ops : List A) (list : List Operation) (i n : ℕ) (o : Option (Bor A)) → map view ops ≡ list → i ≡ n → is_some o ≡ ltb i (length ops) → IfSome o (λ x. x.now ≡ get_or ops i x.now) →
    option_and_then said_by (option_map (λ op. view op.now) o) ≡ update_at list n
said-at view ops list i n None same place known shown = sym (none-there view ops list i n same place (slice_get_past ops i (ltb-false i (length ops) (sym known))))
said-at view ops list i n (Some op) same place known shown = sym (said-there view ops list i n op.now same place (slice_get_read ops (length ops) i op.now refl (ltb-true i (length ops) (sym known)) shown))

-- the first of the layers from a place on that do anything to a key
module _ {A : Type 0} (value : A → Layer) (layers : List A) (i : ℕ) (d : A) (key : Bytes) (within : i < length layers) (is : d ≡ get_or layers i d) where
  nearest-drop : nearest_layer (map value (drop i layers)) key
      ≡ option_or (option_map (λ change. (value d, change)) (change_in (value d).changes key)) (nearest_layer (map value (drop (i + 1) layers)) key)
  nearest-drop =
      ap (λ ls. nearest_layer (map value ls) key) (drop_more layers i d within)
      ∙ ap (λ l. nearest_layer (value l ∷ map value (drop (i + 1) layers)) key) (sym is)

  pub nearest-here : (change : Change) → Some change ≡ change_in (value d).changes key → nearest_layer (map value (drop i layers)) key ≡ Some (value d, change)
  nearest-here change found =
      nearest-drop ∙ ap (λ o. option_or (option_map (λ change. (value d, change)) o) (nearest_layer (map value (drop (i + 1) layers)) key)) (sym found)

  pub nearest-older : None ≡ change_in (value d).changes key → nearest_layer (map value (drop i layers)) key ≡ nearest_layer (map value (drop (i + 1) layers)) key
  nearest-older none =
      nearest-drop ∙ ap (λ o. option_or (option_map (λ change. (value d, change)) o) (nearest_layer (map value (drop (i + 1) layers)) key)) (sym none)
