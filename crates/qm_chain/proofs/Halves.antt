-- The entry of a key among entries that ascend, looked for by halves or by its place.
use Rattle.std.proofs.Common.{◌≡◌, ◌∙◌, ap, sym, subst, ℕ, ◌+◌, ◌<◌, length, get_or, take, drop, true, false, cond, List, [], ◌∷◌, ◌++◌, Some, None}
use Rattle.std.specs.Prelude.{bytes_eq}
use Rattle.std.specs.List.{AllByRecursion as Each}
use Rattle.std.specs.Option.{option_or}
use Rattle.std.specs.Cmp.Lexicographic.{slice_cmp}
use Rattle.std.specs.Ordering.{nat_cmp, is_lt, is_eq, ordering_reverse}
use Rattle.std.specs.declared.cmp.Ordering.TheVariants.{Less, Equal, Greater}
use Rattle.std.proofs.lemmas.Cmp.{nat_list_cmp_total}
use Rattle.std.proofs.lemmas.List.{drop_more, take-append-drop}
use Rattle.std.proofs.lemmas.List.Folds.{find-append}
use Rattle.std.proofs.lemmas.Map.Text.{is_eq-slice_cmp}
use Rattle.std.proofs.lemmas.Slice.Eq.{bytes_eq-Decides}
use Rattle.qm_model.specs.Operations.{Bytes}
use Rattle.qm_model.specs.Keys.{key_lt}
use Rattle.qm_chain.specs.Ascending.{IsAscending}
use Rattle.qm_chain.specs.Entries.{keys_of, entry_of}
use Rattle.qm_chain.proofs.KeyOrder.{Ascends, ascends_from, ascending_from, each_weaker, lt_on, apart, eq_back, same_key}
use Rattle.qm_chain.proofs.Merging.{none_where, each_keys, or_none}

module _ {K E : Type 0} (bytes : K → Bytes) where
  -- the entries in front of one are below it
  front_below : (front behind : List (K × E)) (m : K × E) → Ascends (keys_of bytes (front ++ m ∷ behind)) → Each (λ e. key_lt (bytes e.0) (bytes m.0) ≡ true) front
  front_below [] behind m h = tt
  front_below (e ∷ front) behind m h = (at front (each_keys bytes (λ k. key_lt (bytes e.0) k ≡ true) (front ++ m ∷ behind) h.0), front_below front behind m h.1)
    where
      at : (front : List (K × E)) → Each (λ u. key_lt (bytes e.0) (bytes u.0) ≡ true) (front ++ m ∷ behind) → key_lt (bytes e.0) (bytes m.0) ≡ true
      at [] h = h.0
      at (u ∷ front) h = at front h.1

  front_ascends : (front back : List (K × E)) → Ascends (keys_of bytes (front ++ back)) → Ascends (keys_of bytes front)
  front_ascends [] back h = tt
  front_ascends (e ∷ front) back h = (first front h.0, front_ascends front back h.1)
    where
      first : (front : List (K × E)) → Each (λ k. key_lt (bytes e.0) k ≡ true) (keys_of bytes (front ++ back)) → Each (λ k. key_lt (bytes e.0) k ≡ true) (keys_of bytes front)
      first [] h = tt
      first (u ∷ front) h = (h.0, first front h.1)

  back_ascends : (front back : List (K × E)) → Ascends (keys_of bytes (front ++ back)) → Ascends (keys_of bytes back)
  back_ascends [] back h = h
  back_ascends (e ∷ front) back h = back_ascends front back h.1

  module _ (rest front back behind : List (K × E)) (m : K × E) (k : Bytes) (whole : front ++ back ≡ rest) (is : back ≡ m ∷ behind) (ascending : IsAscending (keys_of bytes rest)) where
    parts : front ++ m ∷ behind ≡ rest
    parts = ap (λ b. front ++ b) (sym is) ∙ whole

    ascends : Ascends (keys_of bytes (front ++ m ∷ behind))
    ascends = subst (λ es. Ascends (keys_of bytes es)) (sym parts) (ascends_from (keys_of bytes rest) ascending)

    -- in the front, or else from the middle on
    either_half : entry_of bytes rest k ≡ option_or (entry_of bytes front k) (entry_of bytes (m ∷ behind) k)
    either_half = ap (λ es. entry_of bytes es k) (sym parts) ∙ find-append (λ (e : K × E). bytes_eq (bytes e.0) k) front (m ∷ behind)

    none_in_front : ((a : Bytes) → key_lt a (bytes m.0) ≡ true → bytes_eq a k ≡ false) → entry_of bytes rest k ≡ entry_of bytes (m ∷ behind) k
    none_in_front before =
        either_half
        ∙ ap (λ o. option_or o (entry_of bytes (m ∷ behind) k))
        (none_where bytes front k (each_weaker (λ e. key_lt (bytes e.0) (bytes m.0) ≡ true) (λ e. bytes_eq (bytes e.0) k ≡ false) (λ e h. before (bytes e.0) h) front (front_below front behind m ascends)))

    -- a key above the middle is after it
    pub behind_kept : slice_cmp nat_cmp (bytes m.0) k ≡ Less → IsAscending (keys_of bytes behind) × (entry_of bytes behind k ≡ entry_of bytes rest k)
    behind_kept below =
        let lower : key_lt (bytes m.0) k ≡ true = ap is_lt below in (
          ascending_from (keys_of bytes behind) (back_ascends front (m ∷ behind) ascends).1,
          sym (none_in_front (λ a h. apart a k (lt_on a (bytes m.0) k h lower)) ∙ ap (λ t. cond t (Some m) (entry_of bytes behind k)) (apart (bytes m.0) k lower)),
        )

    -- a key below it is in front of it
    pub front_kept : slice_cmp nat_cmp (bytes m.0) k ≡ Greater → IsAscending (keys_of bytes front) × (entry_of bytes front k ≡ entry_of bytes rest k)
    front_kept above =
        let lower : key_lt k (bytes m.0) ≡ true = ap is_lt (nat_list_cmp_total.antisymm k (bytes m.0) ∙ ap ordering_reverse above) in
        let later : Each (λ e. key_lt (bytes m.0) (bytes e.0) ≡ true) behind = each_keys bytes (λ j. key_lt (bytes m.0) j ≡ true) behind (back_ascends front (m ∷ behind) ascends).0 in
        let none : entry_of bytes (m ∷ behind) k ≡ None =
        none_where bytes (m ∷ behind) k (
          eq_back k (bytes m.0) (apart k (bytes m.0) lower),
          each_weaker (λ e. key_lt (bytes m.0) (bytes e.0) ≡ true) (λ e. bytes_eq (bytes e.0) k ≡ false)
              (λ e h. eq_back k (bytes e.0) (apart k (bytes e.0) (lt_on k (bytes m.0) (bytes e.0) lower h))) behind later,
        ) in (
          ascending_from (keys_of bytes front) (front_ascends front (m ∷ behind) ascends),
          sym (either_half ∙ ap (option_or (entry_of bytes front k)) none ∙ or_none (entry_of bytes front k)),
        )

    -- or it is that of the middle
    pub here_found : slice_cmp nat_cmp (bytes m.0) k ≡ Equal → Some m ≡ entry_of bytes rest k
    here_found equal =
        let same : bytes_eq (bytes m.0) k ≡ true = sym (is_eq-slice_cmp (bytes m.0) k) ∙ ap is_eq equal in
        sym (none_in_front (λ a h. equal_apart a h) ∙ ap (λ t. cond t (Some m) (entry_of bytes behind k)) same)
      where
        equal_apart : (a : Bytes) → key_lt a (bytes m.0) ≡ true → bytes_eq a k ≡ false
        equal_apart a h = apart a k (subst (λ j. key_lt a j ≡ true) ((bytes_eq-Decides (bytes m.0) k).0 (sym (is_eq-slice_cmp (bytes m.0) k) ∙ ap is_eq equal)) h)

  -- the entry at a place: its key is new there, and it is that of its key
  module _ (es : List (K × E)) (i : ℕ) (d : K × E) (within : i < length es) (ascending : IsAscending (keys_of bytes es)) where
    abbrev here : K × E
    here = get_or es i d

    split : take i es ++ here ∷ drop (i + 1) es ≡ es
    split = ap (λ back. take i es ++ back) (sym (drop_more es i d within)) ∙ take-append-drop i es

    pub entry_new : entry_of bytes (take i es) (bytes here.0) ≡ None
    entry_new =
        none_where bytes (take i es) (bytes here.0)
        (each_weaker (λ e. key_lt (bytes e.0) (bytes here.0) ≡ true) (λ e. bytes_eq (bytes e.0) (bytes here.0) ≡ false) (λ e h. apart (bytes e.0) (bytes here.0) h) (take i es)
        (front_below (take i es) (drop (i + 1) es) here (subst (λ xs. Ascends (keys_of bytes xs)) (sym split) (ascends_from (keys_of bytes es) ascending))))

    pub entry_here : entry_of bytes es (bytes here.0) ≡ Some here
    entry_here =
        ap (λ xs. entry_of bytes xs (bytes here.0)) (sym split) ∙ find-append (λ (e : K × E). bytes_eq (bytes e.0) (bytes here.0)) (take i es) (here ∷ drop (i + 1) es)
        ∙ ap (λ o. option_or o (entry_of bytes (here ∷ drop (i + 1) es) (bytes here.0))) entry_new
        ∙ ap (λ t. cond t (Some here) (entry_of bytes (drop (i + 1) es) (bytes here.0))) (same_key (bytes here.0))
