-- What one more operation makes of what was built.
use Rattle.std.proofs.Common.{◌≡◌, ℕ, ◌+◌, ◌-◌, ◌≤◌, Bool, false, List, [], ◌∷◌, ◌++◌, length, drop, refl, ap, ap₂, sym, ◌∙◌, subst, Option, Some, None, arith}
use Rattle.std.specs.Prelude.{Contains, IfSome, slice_get}
use Rattle.std.proofs.lemmas.List.{length-take, length-drop}
use Rattle.std.proofs.lemmas.Option.{slice_get_within}
use Rattle.qm_model.specs.Operations.{Bytes, Operation}
use Rattle.qm_operations.specs.Parts.{key_of, is_update}
use Rattle.qm_index.specs.Buckets.{bucket_at}
use Rattle.qm_index.specs.Places.{Places, AreApart, HasPlaces, place_of, moved}
use Rattle.qm_index.proofs.Placing.{apart-moved}
use Rattle.qm_build.specs.Building.{between, places_from, cleared, counted_after, ArePlaced, IsFound}
use Rattle.qm_build.proofs.Finding.{between-more, found-place, nowhere}
use Rattle.qm_build.proofs.Pushing.{left_at, offset, places-push, places-commit, length-moved, bits-push, bits-commit}

module _ (index_key : Bytes → ℕ) (old : List (ℕ × List ℕ)) (live_keys : ℕ) (bits : List Bool) (floor at : ℕ) (ops : List Operation) (op : Operation) (low : floor ≤ at) (here : slice_get ops at ≡ Some op) (are : ArePlaced index_key old live_keys bits floor (between floor at ops)) where
  abbrev part : List Operation
  part = between floor at ops

  abbrev ps : Places
  ps = places_from floor part

  next : between floor (at + 1) ops ≡ part ++ op ∷ []
  next = between-more floor at ops op low here

  end_is : floor + length part ≡ at
  end_is =
      let within = slice_get_within ops at op here in
      let cut = length-take (at - floor) (drop floor ops) in
      let left = length-drop floor ops in
      omega arith

  -- what a look through its bucket says of a key
  pub stood : (key : Bytes) (found : Option ℕ) → IfSome found (λ n. Contains (bucket_at old (index_key key)) n) → IsFound ops key (bucket_at old (index_key key)) found → place_of ps key ≡ found
  stood key None within is = nowhere index_key old floor at ops low (let inside = slice_get_within ops at op here in omega arith) are.apart are.indexed key is
  stood key (Some n) within is = found-place index_key old floor at ops low (let inside = slice_get_within ops at op here in omega arith) are.apart are.indexed key (Some n) is n refl within

  pub placed-more : (new : List (ℕ × List ℕ)) (live_now : ℕ) (bits_now : List Bool) (key : Bytes) (found : Option ℕ) → key_of op ≡ Some key → place_of ps key ≡ found
      → ((ps : Places) → AreApart ps → HasPlaces index_key old ps → place_of ps key ≡ found → HasPlaces index_key new (moved ps key (left_at op at)))
      → live_now ≡ counted_after live_keys found (is_update op) → bits_now ≡ cleared bits (offset floor found) ++ is_update op ∷ []
      → ArePlaced index_key new live_now bits_now floor (between floor (at + 1) ops)
  placed-more new live_now bits_now key found of_key place moves counts marks =
      let after : places_from floor (part ++ op ∷ []) ≡ moved ps key (left_at op at) = places-push floor part op key of_key ∙ ap (λ n. moved ps key (left_at op n)) end_is in
      subst (ArePlaced index_key new live_now bits_now floor) (sym next) (record {
        indexed = subst (HasPlaces index_key new) (sym after) (moves ps are.apart are.indexed place);
        apart = subst AreApart (sym after) (apart-moved key ps (left_at op at) are.apart);
        counted = counts ∙ ap (λ n. counted_after n found (is_update op)) are.counted ∙ length-moved ps key found op at are.apart place ∙ ap length (sym after);
        marked = marks ∙ ap₂ (λ bs o. cleared bs (offset floor o) ++ is_update op ∷ []) are.marked (sym place) ∙ sym (bits-push floor part op key of_key);
      })

  -- an operation without a key
  pub placed-commit : (live_now : ℕ) (bits_now : List Bool) → key_of op ≡ None → live_now ≡ live_keys → bits_now ≡ bits ++ false ∷ [] → ArePlaced index_key old live_now bits_now floor (between floor (at + 1) ops)
  placed-commit live_now bits_now of_none counts marks =
      let after = places-commit floor part op of_none in
      subst (ArePlaced index_key old live_now bits_now floor) (sym next) (record {
        indexed = subst (HasPlaces index_key old) (sym after) are.indexed;
        apart = subst AreApart (sym after) are.apart;
        counted = counts ∙ are.counted ∙ ap length (sym after);
        marked = marks ∙ ap (λ bs. bs ++ false ∷ []) are.marked ∙ sym (bits-commit part op of_none);
      })
