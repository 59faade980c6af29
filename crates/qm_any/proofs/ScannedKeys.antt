-- The keys of a range's pairs.
use Rattle.std.proofs.Common.{◌≡◌, ◌∙◌, refl, sym, ap, true, List, [], ◌∷◌, map, Option, Some, None, ◌&&◌}
use Rattle.std.specs.Prelude.{filter_map, option_map}
use Rattle.std.specs.List.{cons_option}
use Rattle.std.specs.Option.{is_some}
use Rattle.qm_model.specs.Operations.{Bytes, Operation}
use Rattle.qm_model.specs.Live.{Live, live, live_of, live_keys}
use Rattle.qm_model.specs.Keys.{by_key, contains_key}
use Rattle.qm_model.specs.Ranges.{Limit, is_after, is_before, keys_in, pairs_in}
use Rattle.qm_model.proofs.KeyOrder.{Has, Has-first, Has-later, and-true, contains-filter}
use Rattle.qm_model.proofs.OrderedLists.{live-contains}
use Rattle.qm_model.proofs.OrderedMoves.{contains-by_key}
use Rattle.qm_batch.specs.Scans.{valued}

abbrev firsts : List (Bytes × Bytes) → List Bytes
firsts ps = map (λ p. p.0) ps

-- each live key has a value
valued-keys : (list : List Operation) (ks : List Bytes) → ((x : Bytes) → Has ks x → Has (live_keys list) x) → firsts (filter_map (valued list) ks) ≡ ks
valued-keys list [] h = refl
valued-keys list (k ∷ ks) h =
    by (live_of (live list) k) (sym (live-contains (live list) k) ∙ h k (Has-first k ks)) (valued-keys list ks (λ x at. h x (Has-later k ks x at)))
  where
    by : (o : Option Live) → is_some o ≡ true → firsts (filter_map (valued list) ks) ≡ ks → firsts (cons_option (option_map (λ v. (k, v)) (option_map (λ (e : Live). e.value) o)) (filter_map (valued list) ks)) ≡ k ∷ ks
    by None some later = absurd (cc)
    by (Some e) some later = ap (λ xs. k ∷ xs) later

pub keys-of_pairs : (low high : Limit) (list : List Operation) → map (λ p. p.0) (pairs_in low high list) ≡ keys_in low high list
keys-of_pairs low high list = valued-keys list (keys_in low high list) (λ x at.
    sym (contains-by_key (live_keys list) x)
    ∙ (and-true (contains_key (by_key (live_keys list)) x) (is_after low x && is_before high x) (sym (contains-filter (λ k. is_after low k && is_before high k) (by_key (live_keys list)) x) ∙ at)).0)
