-- The sites of the last writes.
use Rattle.std.proofs.Common.{◌≡◌, ℕ, List, [], ◌∷◌, ◌++◌, map, refl, ap, ap₂, sym, ◌∙◌, Option, Some, None}
use Rattle.std.specs.Prelude.{option_map, option_to_list}
use Rattle.std.proofs.lemmas.List.{map-append}
use Rattle.qm_model.specs.Operations.{Bytes, Operation}
use Rattle.qm_model.specs.Writes.{Write}
use Rattle.qm_step.specs.PlanViews.{keyed, last_write_view, linked_view, site_in, site_view}
use Rattle.qm_step.specs.Rings.{linked_in}
use Rattle.qm_step.specs.Views.{stands_view}
use Rattle.qm_step.specs.declared.site.Site.{Site}
use Rattle.qm_step.specs.declared.found.Stands.{Stands}
use Rattle.qm_step.proofs.Entries.{place-of_link}
use Rattle.qm_step.proofs.Steps.{map-twice}

-- what is said of each last write, by the entries that have them
pub lasts-shown : {A X : Type 0} (view : A → Bytes × Write) (what : Write → X) (es : List A) (us : List Write) → map view es ≡ map keyed us → map (λ e. what (view e).1) es ≡ map what us
lasts-shown {A} {X} view what es us same =
    let second : Bytes × Write → X = λ p. what p.1 in
    sym (map-twice second view es) ∙ ap (map second) same ∙ map-twice second keyed us

-- without the key that is named
abbrev placed : Write × Option (ℕ × Option Bytes) → Write × Option ℕ
placed p = (p.0, option_map (λ q. q.0) p.1)

placed-in : (base : List Operation) (ws : List Write) → map placed (map (linked_in base) ws) ≡ map (site_in base) ws
placed-in base [] = refl
placed-in base (w ∷ ws) = ap₂ (λ x xs. (w, x) ∷ xs) (place-of_link base w.key) (placed-in base ws)

module _ {K V : Type 0} (key : K → Bytes) (value : V → Bytes) where
  placed-views : (sites : List (Site K V)) → map placed (map (linked_view key value) sites) ≡ map (site_view key value) sites
  placed-views [] = refl
  placed-views (s ∷ sites) = ap₂ (λ x xs. (last_write_view key value s.write, x) ∷ xs) (by s.stands) (placed-views sites)
    where
      by : (o : Option (Stands K)) → option_map (λ (q : ℕ × Option Bytes). q.0) (option_map (stands_view key) o) ≡ option_map (λ (t : Stands K). t.at) o
      by None = refl
      by (Some t) = refl

  -- where the keys stand
  pub sites-placed : (base : List Operation) (sites : List (Site K V)) (ws : List Write) → map (linked_view key value) sites ≡ map (linked_in base) ws → map (site_view key value) sites ≡ map (site_in base) ws
  sites-placed base sites ws are = sym (placed-views sites) ∙ ap (map placed) are ∙ placed-in base ws

-- one thing more, if there is one, as it is shown
pub pushed-shown : {X Y : Type 0} (f : X → Y) (new old : List X) (x : Option X) → new ≡ old ++ option_to_list x → map f new ≡ map f old ++ option_to_list (option_map f x)
pushed-shown {X} {Y} f new old x pushed = ap (map f) pushed ∙ map-append f old (option_to_list x) ∙ ap (λ ys. map f old ++ ys) (by x)
  where
    by : (o : Option X) → map f (option_to_list o) ≡ option_to_list (option_map f o)
    by None = refl
    by (Some x) = refl
