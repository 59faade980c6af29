-- Where a key stands once the first changes of a step are put in, and steps of which the oldest is put in.
use Rattle.std.proofs.Common.{◌≡◌, ℕ, ◌+◌, ◌<◌, Bool, true, false, cond, List, [], ◌∷◌, ◌++◌, refl, ap, sym, ◌∙◌, subst, Option, Some, None, map, length, get_or, take}
use Rattle.std.specs.Prelude.{find, option_map, bytes_eq}
use Rattle.std.specs.Option.{option_or}
use Rattle.std.proofs.lemmas.List.{take_more, map-append}
use Rattle.std.proofs.lemmas.List.Folds.{find-append}
use Rattle.qm_model.specs.Operations.{Bytes, Operation}
use Rattle.qm_chain.specs.Ascending.{IsAscending}
use Rattle.qm_chain.specs.Entries.{keys_of, entry_of}
use Rattle.qm_chain.proofs.Halves.{entry_new, entry_here}
use Rattle.qm_step.specs.Changes.{Change, Changes, AreChanges, LeadTo, change_in}
use Rattle.qm_step.proofs.Entries.{change-of_entry}

-- one change more
pub change_in-push : (done : Changes) (key : Bytes) (c : Change) (other : Bytes) → change_in (done ++ (key, c) ∷ []) other ≡ option_or (change_in done other) (cond (bytes_eq key other) (Some c) None)
change_in-push done key c other =
    ap (option_map (λ (u : Bytes × Change). u.1)) (find-append (λ u. bytes_eq u.0 other) done ((key, c) ∷ []))
    ∙ by (find (λ u. bytes_eq u.0 other) done) (bytes_eq key other)
  where
    by : (o : Option (Bytes × Change)) (t : Bool) → option_map (λ (u : Bytes × Change). u.1) (option_or o (cond t (Some (key, c)) None)) ≡ option_or (option_map (λ (u : Bytes × Change). u.1) o) (cond t (Some c) None)
    by None true = refl
    by None false = refl
    by (Some u) t = refl

-- where a key stands after a change, or without one
abbrev pub staged : Option Change → Option ℕ → Option ℕ
staged None before = before
staged (Some c) before = option_map (λ p. p.0) c.now

-- over the entries of a diff, at place i
module _ {K E : Type 0} (key : K → Bytes) (what : E → Change) (xs : List (K × E)) (i : ℕ) (d : K × E) (within : i < length xs) (here : d ≡ get_or xs i d) where
  abbrev view : K × E → Bytes × Change
  view e = (key e.0, what e.1)

  -- none before it is of its key
  pub entry-fresh : IsAscending (keys_of key xs) → change_in (map view (take i xs)) (key d.0) ≡ None
  entry-fresh ascends =
      change-of_entry key what (take i xs) (key d.0)
      ∙ ap (λ o. option_map what (option_map (λ (e : K × E). e.1) o)) (subst (λ e. entry_of key (take i xs) (key e.0) ≡ None) (sym here) (entry_new key xs i d within ascends))

  -- it is its key's
  pub entry-own : IsAscending (keys_of key xs) → change_in (map view xs) (key d.0) ≡ Some (what d.1)
  entry-own ascends =
      change-of_entry key what xs (key d.0)
      ∙ ap (λ o. option_map what (option_map (λ (e : K × E). e.1) o)) (subst (λ e. entry_of key xs (key e.0) ≡ Some e) (sym here) (entry_here key xs i d within ascends))

  pub entry-more : map view (take (i + 1) xs) ≡ map view (take i xs) ++ view d ∷ []
  entry-more = ap (map view) (take_more xs i d within) ∙ map-append view (take i xs) (get_or xs i d ∷ []) ∙ ap (λ e. map view (take i xs) ++ view e ∷ []) (sym here)

-- steps of which the oldest is put in
pub lead-oldest : (newer : List Changes) (oldest : Changes) (from tip : List Operation) → LeadTo (newer ++ oldest ∷ []) from tip → (next : List Operation) × AreChanges oldest from next × LeadTo newer next tip
lead-oldest [] oldest from tip (base, are, same) = (tip, subst (λ b. AreChanges oldest b tip) (sym same) are, refl)
lead-oldest (newest ∷ newer) oldest from tip (base, are, lead) =
    let rest = lead-oldest newer oldest from base lead in
    (rest.0, rest.1, (base, are, rest.2))

-- the oldest of the steps up to place n
pub lead-at : {A : Type 0} (f : A → Changes) (xs : List A) (n end : ℕ) (d : A) (from tip : List Operation) → n < length xs → end ≡ n + 1 → d ≡ get_or xs n d → LeadTo (map f (take end xs)) from tip →
    (next : List Operation) × AreChanges (f d) from next × LeadTo (map f (take n xs)) next tip
lead-at f xs n end d from tip within is here lead =
    let more : map f (take end xs) ≡ map f (take n xs) ++ f d ∷ [] =
    ap (λ m. map f (take m xs)) is ∙ ap (map f) (take_more xs n d within) ∙ map-append f (take n xs) (get_or xs n d ∷ []) ∙ ap (λ e. map f (take n xs) ++ f e ∷ []) (sym here) in
    lead-oldest (map f (take n xs)) (f d) from tip (subst (λ cs. LeadTo cs from tip) more lead)
