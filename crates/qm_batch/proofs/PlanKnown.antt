-- What is known of keys.
use Rattle.std.proofs.Common.{◌≡◌, ℕ, ◌<◌, length, get_or, Bool, true, false, cond, List, [], ◌∷◌, refl, ap, sym, ◌∙◌, subst, Option, Some, Ordering, Less, Equal, Greater, Bor}
use Rattle.std.specs.Prelude.{All, option_map}
use Rattle.std.specs.BTreeMap.{insert_entry}
use Rattle.std.specs.Map.{lookup}
use Rattle.std.specs.Cmp.Lexicographic.{slice_cmp}
use Rattle.std.specs.Ordering.{nat_cmp, is_eq, match_ordering}
use Rattle.std.proofs.lemmas.List.Elements.{All-nil, All-cons, All-head, All-tail, All-same, All-get_or}
use Rattle.std.proofs.lemmas.Map.Text.{is_eq-slice_cmp}
use Rattle.std.proofs.lemmas.Option.{same_Some}
use Rattle.qm_model.specs.Operations.{Bytes, Operation}
use Rattle.qm_model.proofs.LastWrites.{equal_keys}
use Rattle.qm_model.proofs.Maps.{same_key}
use Rattle.qm_step.specs.Changes.{update_of}
use Rattle.qm_step.specs.Views.{read_view, AreReads}
use Rattle.qm_step.specs.declared.wanted.Read.{Read}

-- of each entry it is known what its key has
module _ {X Y : Type 0} (what : X → Y) (there : Bytes → Y) where
  abbrev IsKnown : Bor Bytes × X → Type 0
  IsKnown e = what e.1 ≡ there e.0.now

  abbrev by_bytes : Bor Bytes → Bor Bytes → Ordering
  by_bytes a b = slice_cmp nat_cmp a.now b.now

  pub known-none : (es : List (Bor Bytes × X)) → es ≡ [] → All IsKnown es
  known-none es is = All-same IsKnown es [] is (All-nil IsKnown)

  known-put : (es : List (Bor Bytes × X)) (k : Bor Bytes) (x : X) → what x ≡ there k.now → All IsKnown es → All IsKnown (insert_entry by_bytes es k x)
  known-put [] k x here all = All-cons IsKnown (k, x) [] here (All-nil IsKnown)
  known-put (e ∷ es) k x here all = by (by_bytes k e.0) refl (known-put es k x here rest)
    where
      rest : All IsKnown es
      rest = All-tail IsKnown e es all

      by : (o : Ordering) → by_bytes k e.0 ≡ o → All IsKnown (insert_entry by_bytes es k x) → All IsKnown (match_ordering o ((k, x) ∷ e ∷ es) ((e.0, x) ∷ es) (e ∷ insert_entry by_bytes es k x))
      by Less is later = All-cons IsKnown (k, x) (e ∷ es) here all
      by Equal is later = All-cons IsKnown (e.0, x) es (here ∙ ap there (equal_keys k.now e.0.now is)) rest
      by Greater is later = All-cons IsKnown e (insert_entry by_bytes es k x) (All-head IsKnown e es all) later

  -- one key more
  pub known-more : (es new : List (Bor Bytes × X)) (k : Bor Bytes) (x : X) → new ≡ insert_entry by_bytes es k x → what x ≡ there k.now → All IsKnown es → All IsKnown new
  known-more es new k x put here all = All-same IsKnown new (insert_entry by_bytes es k x) put (known-put es k x here all)

  -- what is known of a key is what it has
  pub known-there : (es : List (Bor Bytes × X)) (q : Bytes) (x : X) → All IsKnown es → lookup (λ k. is_eq (slice_cmp nat_cmp q k.now)) es ≡ Some x → what x ≡ there q
  known-there [] q x all is = cc
  known-there (e ∷ es) q x all is = by (is_eq (slice_cmp nat_cmp q e.0.now)) refl is (known-there es q x (All-tail IsKnown e es all))
    where
      rest : Option X
      rest = lookup (λ k. is_eq (slice_cmp nat_cmp q k.now)) es

      by : (t : Bool) → is_eq (slice_cmp nat_cmp q e.0.now) ≡ t → cond t (Some e.1) rest ≡ Some x → (rest ≡ Some x → what x ≡ there q) → what x ≡ there q
      by true same found later =
          ap what (sym (same_Some e.1 x found)) ∙ All-head IsKnown e es all ∙ ap there (sym (same_key q e.0.now (sym (is_eq-slice_cmp q e.0.now) ∙ same)))
      by false other found later = later found

-- what was read of a key is what its list has of it
pub read-known : {F U K V : Type 0} (view : U → Operation) (key : K → Bytes) (base : List Operation) (reads : List (Read F U K V)) (i : ℕ) (r : Read F U K V) → AreReads view key reads base → i < length reads → r ≡ get_or reads i r →
    option_map (read_view view) r.found ≡ update_of base (key r.key)
read-known {F} {U} {K} {V} view key base reads i r are within here = subst IsFound (sym here) (All-get_or IsFound reads i r within are)
  where
    IsFound : Read F U K V → Type 0
    IsFound r = option_map (read_view view) r.found ≡ update_of base (key r.key)
