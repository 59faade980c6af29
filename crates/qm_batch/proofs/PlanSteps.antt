-- The plan of a step, from its parts.
use Rattle.std.proofs.Common.{◌≡◌, ℕ, List, [], ◌∷◌, ◌++◌, length, take, drop, ap, sym, ◌∙◌, subst, Option, append_assoc, refl}
use Rattle.std.specs.Prelude.{◌==◌, if◌then◌else◌}
use Rattle.std.proofs.lemmas.List.{drop_at, take_at}
use Rattle.qm_model.specs.Operations.{Bytes, Operation, update, delete, commit}
use Rattle.qm_model.specs.Live.{live, floor_after}
use Rattle.qm_model.specs.Step.{committed}
use Rattle.qm_model.proofs.Pushes.{live-commit}
use Rattle.qm_step.specs.Changes.{Changes, change_of, AreChanges}
use Rattle.qm_step.specs.Views.{IsPlan}
use Rattle.qm_step.proofs.PlanDiffs.{change-push}

floor-last : (f : ℕ) (ops : List Operation) (m : Option Bytes) (g : ℕ) → floor_after f (ops ++ commit m g ∷ []) ≡ g
floor-last f [] m g = refl
floor-last f (update k v n ∷ rest) m g = floor-last f rest m g
floor-last f (delete k ∷ rest) m g = floor-last f rest m g
floor-last f (commit m2 f2 ∷ rest) m g = floor-last f2 rest m g

-- a commit changes no key
commit-change : (base own : List Operation) (m : Option Bytes) (f : ℕ) (q : Bytes) → change_of base ((base ++ own) ++ commit m f ∷ []) q ≡ change_of base (base ++ own) q
commit-change base own m f q = change-push base own q (commit m f)

-- the plan of own operations with a commit after them
pub own-plan : (base own : List Operation) (changes : Changes) (evicted : List (Bytes × Bytes)) (live_keys place end : ℕ) (meta : Option Bytes) → live_keys ≡ length (live (base ++ own)) → place ≡ (if live_keys == 0 then length (base ++ own) else end) →
    AreChanges changes base (base ++ own) →
    IsPlan (record { operations = own ++ commit meta place ∷ []; changes = changes; floor = place; live = live_keys; evicted = evicted }) base (committed (base ++ own) end meta) evicted
own-plan base own changes evicted live_keys place end meta count at are =
    let ops = base ++ own in
    let is : (if length (live ops) == 0 then length ops else end) ≡ place = ap (λ n. if n == 0 then length ops else end) (sym count) ∙ sym at in
    subst (λ n. IsPlan (record { operations = own ++ commit meta place ∷ []; changes = changes; floor = place; live = live_keys; evicted = evicted }) base (ops ++ commit meta n ∷ []) evicted) (sym is)
    (record {
      operations = sym (ap (drop (length base)) (append_assoc base own (commit meta place ∷ [])) ∙ drop_at base (own ++ commit meta place ∷ []) (length base) refl);
      changes = record {
        begins = ap (take (length base)) (append_assoc base own (commit meta place ∷ [])) ∙ take_at base (own ++ commit meta place ∷ []) (length base) refl;
        each = λ q. are.each q ∙ sym (commit-change base own meta place q);
      };
      floor = sym (floor-last 0 ops meta place);
      live = count ∙ sym (ap length (live-commit ops meta place));
      told = refl;
    })
