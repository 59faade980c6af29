-- What a step tells of the keys that it evicts.
use Rattle.std.proofs.Common.{◌≡◌, ℕ, true, List, [], ◌∷◌, map, refl, ap, sym, ◌∙◌, Option, Some, None, subst}
use Rattle.std.specs.Prelude.{All, option_map, is_some}
use Rattle.std.specs.List.{cons_option, AllByRecursion as Each}
use Rattle.std.proofs.lemmas.List.Elements.{All-from_recursion}
use Rattle.qm_model.specs.Operations.{Bytes, Operation}
use Rattle.qm_model.specs.Live.{live_keys, value_of}
use Rattle.qm_model.specs.Writes.{Write}
use Rattle.qm_model.specs.Ordered.{evicted_keys}
use Rattle.qm_model.specs.Walk.{Rules, Limits, walk}
use Rattle.qm_model.specs.Step.{evicted_of}
use Rattle.qm_model.proofs.KeyOrder.{Has}
use Rattle.qm_model.proofs.OrderedLists.{live-value}
use Rattle.qm_model.proofs.Decisions.{walk-live}

-- each evicted key had a value, and is told with it
record IsTold (ops : List Operation) (ds : List Write) : Type 0 where
  keys : map (λ x. x.0) (evicted_of ops ds) ≡ evicted_keys ds
  values : Each (λ x. value_of ops x.0 ≡ Some x.1) (evicted_of ops ds)

told : (ops : List Operation) (ds : List Write) → Each (λ d. Has (live_keys ops) d.key) ds → IsTold ops ds
told ops [] live = record { keys = refl; values = tt }
told ops (d ∷ ds) live = by d.value (value_of ops d.key) refl (sym (live-value ops d.key) ∙ live.0) (told ops ds live.1)
  where
    by : (value had : Option Bytes) → value_of ops d.key ≡ had → is_some (value_of ops d.key) ≡ true → IsTold ops ds → IsTold ops (record { key = d.key; value = value } ∷ ds)
    by (Some value) had is some rest = record { keys = rest.keys; values = rest.values }
    by None None is some rest = let wrong : is_some {T = Bytes} None ≡ true = ap is_some (sym is) ∙ some in absurd (cc)
    by None (Some had) is some rest = record {
      keys = ap (λ o. map (λ x. x.0) (cons_option (option_map (λ value. (d.key, value)) o) (evicted_of ops ds))) is ∙ ap (λ ks. d.key ∷ ks) rest.keys;
      values = subst (λ o. Each (λ x. value_of ops x.0 ≡ Some x.1) (cons_option (option_map (λ value. (d.key, value)) o) (evicted_of ops ds))) (sym is) (is, rest.values);
    }

module _ {P : Type 0} (rules : Rules P) (ops : List Operation) (f : ℕ) (limits : Limits) (p : P) where
  abbrev ds : List Write
  ds = (walk rules ops f limits p).decisions

  pub evicted-keys : map (λ x. x.0) (evicted_of ops ds) ≡ evicted_keys ds
  evicted-keys = (told ops ds (walk-live rules ops f limits p)).keys

  pub evicted-values : All (λ x. value_of ops x.0 ≡ Some x.1) (evicted_of ops ds)
  evicted-values = All-from_recursion (λ x. value_of ops x.0 ≡ Some x.1) (evicted_of ops ds) (told ops ds (walk-live rules ops f limits p)).values
