-- The live updates of a list with more operations at its end.
use Rattle.std.proofs.Common.{◌≡◌, ℕ, suc, ◌≤◌, Bool, true, false, cond, List, ◌∷◌, ◌++◌, length, refl, ap, ◌∙◌, Option, Some, None, arith, ◌||◌}
use Rattle.std.specs.Prelude.{◌==◌, not, option_map, if◌then◌else◌}
use Rattle.std.specs.List.{cons_option, AllByRecursion as Each}
use Rattle.std.proofs.lemmas.Bool.{eq-eqb, eqb-true}
use Rattle.std.proofs.lemmas.List.Elements.{All-contains, All-from_recursion}
use Rattle.qm_model.specs.Operations.{Bytes, Operation, update}
use Rattle.qm_model.specs.Live.{Live, live, live_from, live_of, touches, touched}
use Rattle.qm_model.proofs.LastWrites.{bytes_same}
use Rattle.qm_model.proofs.Pushes.{Within, live_from-within}
use Rattle.qm_step.specs.Changes.{stands_at}
use Rattle.qm_step.specs.Touches.{is_there}
use Rattle.qm_step.proofs.Appends.{own-live}
use Rattle.qm_step.proofs.Standing.{of_key-within}

-- if an update of a key is in front of others, the key's live update is among them
pub last_of : (front : List Operation) (op : Operation) (rest : List Operation) (key : Bytes) → touches key op ≡ true → live_of (live (front ++ op ∷ rest)) key ≡ live_of (live_from (length front) (op ∷ rest)) key
last_of front op rest key h = own-live front (op ∷ rest) key (ap (λ t. t || touched key rest) h)

elsewhere : (i n : ℕ) (es : List Live) (key : Bytes) → Each (Within (suc i) n) es → is_there (option_map (λ e. (e.location, e.value)) (live_of es key)) i ≡ false
elsewhere i n es key within = by (live_of es key) refl
  where
    apart : (e : Live) → suc i ≤ e.location → (t : Bool) → (e.location == i) ≡ t → t ≡ false
    apart e above false is = refl
    apart e above true is = let same : e.location ≡ i = eqb-true e.location i is in absurd (omega arith)

    by : (o : Option Live) → live_of es key ≡ o → is_there (option_map (λ (e : Live). (e.location, e.value)) o) i ≡ false
    by None is = refl
    by (Some e) is =
        let within_it = All-contains (Within (suc i) n) es e (All-from_recursion (Within (suc i) n) es within) (of_key-within es key e is).0 in
        apart e within_it.0 (e.location == i) refl

-- the key of an update stands at its location if nothing after it touches the key
module _ (front : List Operation) (k v : Bytes) (n : Option Bytes) (rest : List Operation) where
  abbrev list : List Operation
  list = front ++ update k v n ∷ rest

  stands_if : (t : Bool) → touched k rest ≡ t → stands_at list k ≡ option_map (λ (e : Live). (e.location, e.value)) (live_of (cons_option (if t then None else Some (record { location = length front; key = k; value = v; next = n })) (live_from (suc (length front)) rest)) k)
  stands_if t is =
      ap (option_map (λ (e : Live). (e.location, e.value)))
      (last_of front (update k v n) rest k (bytes_same k)
      ∙ ap (λ b. live_of (cons_option (if b then None else Some (record { location = length front; key = k; value = v; next = n })) (live_from (suc (length front)) rest)) k) is)

  pub stands-untouched : touched k rest ≡ false → stands_at list k ≡ Some (length front, v)
  stands-untouched is =
      stands_if false is
      ∙ ap (λ b. option_map (λ (e : Live). (e.location, e.value)) (cond b (Some (record { location = length front; key = k; value = v; next = n })) (live_of (live_from (suc (length front)) rest) k))) (bytes_same k)

  pub there-touched : (t : Bool) → touched k rest ≡ t → is_there (stands_at list k) (length front) ≡ not t
  there-touched true is = ap (λ o. is_there o (length front)) (stands_if true is) ∙ elsewhere (length front) (length rest) (live_from (suc (length front)) rest) k (live_from-within (suc (length front)) rest)
  there-touched false is = ap (λ o. is_there o (length front)) (stands-untouched is) ∙ eq-eqb (length front) (length front) refl
