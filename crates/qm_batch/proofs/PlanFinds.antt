-- Where the operations of a base list are found, and where its keys stand.
use Rattle.std.proofs.Common.{◌≡◌, ℕ, suc, ◌+◌, ◌-◌, ◌≤◌, ◌<◌, Bool, true, false, List, [], ◌∷◌, ◌++◌, length, map, drop, get_or, refl, ap, sym, ◌∙◌, subst, Option, Some, None, arith, ◌||◌, ◌⊎◌, inl, inr, append_assoc, append-nil, length-append, true≢false, Bor, leb}
use Rattle.std.specs.Prelude.{◌==◌, Contains, slice_get, option_map, option_and_then, MatchOption, All, if◌then◌else◌}
use Rattle.std.specs.List.{list_any}
use Rattle.std.proofs.lemmas.Bool.{eqb-true, eq-eqb, leb-true, cases_lt, le-leb, lt-leb}
use Rattle.std.specs.Option.{option_copied}
use Rattle.std.specs.Slice.{IsItemAt}
use Rattle.std.proofs.lemmas.List.{drop_more}
use Rattle.std.proofs.lemmas.Option.{same_Some, slice_get_within, slice_get-map, slice_get_past, slice_get_read}
use Rattle.qm_model.specs.Operations.{Bytes, Operation, update}
use Rattle.qm_model.specs.Live.{Live, live, live_of, touched}
use Rattle.qm_model.proofs.Maps.{same_key}
use Rattle.qm_index.specs.Buckets.{bucket_at}
use Rattle.qm_operations.specs.Parts.{update_key}
use Rattle.qm_step.specs.Changes.{place_in, stands_at, update_at, update_from, said_by}
use Rattle.qm_step.specs.Layers.{Layer, LeadThrough, LeadOver}
use Rattle.qm_index.specs.Indexed.{IsIndexed}
use Rattle.qm_step.specs.Touches.{Touch, is_replaced, is_there, live_update_at, moved_touch, operations_of, IsFrom, IsKeyed, IsMoveAt}
use Rattle.qm_index.proofs.Members.{Contains-first, first_or_later}
use Rattle.qm_step.proofs.PlanWalks.{none-past}
use Rattle.qm_step.proofs.PlanReads.{slice_get-front, slice_get-behind, update-here, front-none, front-touched, front-gone, front-live}
use Rattle.qm_step.proofs.PlanReplaced.{touched-replaced}
use Rattle.qm_batch.proofs.Spellings.{keyed-update, keyless-said}
use Rattle.qm_step.proofs.Reading.{in-bucket, own-bucket}
use Rattle.qm_step.proofs.Standing.{live-stands, live-of_key}
use Rattle.qm_index.proofs.Basics.{or-later}

-- the operation at a location, if a layer has it
abbrev pub found_in : List Layer → ℕ → Option Operation
found_in [] at = None
found_in (layer ∷ layers) at = if leb layer.base at then slice_get layer.operations (at - layer.base) else found_in layers at

-- a list on the way begins the base list
pub begins : (layers : List Layer) (base : List Operation) (older : List (List Operation)) (lent : List Operation) → LeadThrough layers base older → Contains (base ∷ older) lent → (more : List Operation) × (base ≡ lent ++ more)
begins [] base [] lent leads among = by (first_or_later base [] lent among)
  where
    by : (base ≡ lent) ⊎ Contains [] lent → (more : List Operation) × (base ≡ lent ++ more)
    by (inl same) = ([], same ∙ sym (append-nil lent))
    by (inr within) = let none = within.1 in absurd (omega (arith, none))
begins [] base (b ∷ older) lent leads among = absurd leads
begins (layer ∷ layers) base [] lent leads among = absurd leads
begins (layer ∷ layers) tip (base ∷ older) lent leads among = by (first_or_later tip (base ∷ older) lent among) (begins layers base older lent leads.1)
  where
    by : (tip ≡ lent) ⊎ Contains (base ∷ older) lent → (Contains (base ∷ older) lent → (more : List Operation) × (base ≡ lent ++ more)) → (more : List Operation) × (tip ≡ lent ++ more)
    by (inl same) next = ([], same ∙ sym (append-nil lent))
    by (inr within) next =
        let rest = next within in
        (rest.0 ++ layer.operations, (leads.0).list ∙ ap (λ ops. ops ++ layer.operations) rest.1 ∙ append_assoc lent rest.0 layer.operations)

-- the operation of a base list is that of the layers, or else that of the lent list
pub found-base : (layers : List Layer) (base : List Operation) (older : List (List Operation)) (lent : List Operation) (at : ℕ) → LeadThrough layers base older → Contains (base ∷ older) lent → at < length base →
    MatchOption (found_in layers at) (slice_get base at ≡ slice_get lent at) (λ op. slice_get base at ≡ Some op)
found-base [] base [] lent at leads among within = by (first_or_later base [] lent among)
  where
    by : (base ≡ lent) ⊎ Contains [] lent → slice_get base at ≡ slice_get lent at
    by (inl same) = ap (λ ops. slice_get ops at) same
    by (inr within) = let none = within.1 in absurd (omega (arith, none))
found-base [] base (b ∷ older) lent at leads among within = absurd leads
found-base (layer ∷ layers) base [] lent at leads among within = absurd leads
found-base (layer ∷ layers) tip (base ∷ older) lent at leads among within =
    by (leb layer.base at) refl (λ x in_it. found-base layers base older x at leads.1 in_it)
  where
    step_size : layer.base ≡ length base
    step_size = (leads.0).size

    list : tip ≡ base ++ layer.operations
    list = (leads.0).list

    whole : length tip ≡ length base + length layer.operations
    whole = ap length list ∙ length-append base layer.operations

    at_end : (o : Option Operation) → slice_get layer.operations (at - layer.base) ≡ o → layer.base ≤ at → MatchOption o (slice_get tip at ≡ slice_get lent at) (λ op. slice_get tip at ≡ Some op)
    at_end None is past = absurd (omega (arith, none-past layer.operations (at - layer.base) is, whole, step_size, within, past))
    at_end (Some op) is past =
        ap (λ ops. slice_get ops at) list ∙ slice_get-behind base layer.operations at (omega (arith, step_size, past)) ∙ ap (λ n. slice_get layer.operations (at - n)) (sym step_size) ∙ is

    below : leb layer.base at ≡ false → at < length base
    below apart = elim (cases_lt at (length base)) [ inl low ↦ low | inr high ↦ absurd (true≢false (sym (le-leb layer.base at (omega (arith, step_size, high))) ∙ apart)) ]

    here : at < length base → slice_get tip at ≡ slice_get base at
    here low = ap (λ ops. slice_get ops at) list ∙ slice_get-front base layer.operations at low

    lower : at < length base → (x : List Operation) → slice_get x at ≡ slice_get lent at → (o : Option Operation) → MatchOption o (slice_get base at ≡ slice_get x at) (λ op. slice_get base at ≡ Some op) →
        MatchOption o (slice_get tip at ≡ slice_get lent at) (λ op. slice_get tip at ≡ Some op)
    lower low x same None h = here low ∙ h ∙ same
    lower low x same (Some op) h = here low ∙ h

    by : (t : Bool) → leb layer.base at ≡ t →
        ((x : List Operation) → Contains (base ∷ older) x → at < length base → MatchOption (found_in layers at) (slice_get base at ≡ slice_get x at) (λ op. slice_get base at ≡ Some op)) →
        MatchOption (if t then slice_get layer.operations (at - layer.base) else found_in layers at) (slice_get tip at ≡ slice_get lent at) (λ op. slice_get tip at ≡ Some op)
    by true is next = at_end (slice_get layer.operations (at - layer.base)) refl (leb-true layer.base at is)
    by false is next = either (first_or_later tip (base ∷ older) lent among)
      where
        low : at < length base
        low = below is

        either : (tip ≡ lent) ⊎ Contains (base ∷ older) lent → MatchOption (found_in layers at) (slice_get tip at ≡ slice_get lent at) (λ op. slice_get tip at ≡ Some op)
        either (inl same) = lower low base (sym (here low) ∙ ap (λ ops. slice_get ops at) same) (found_in layers at) (next base (Contains-first base older) low)
        either (inr within_it) = lower low lent refl (found_in layers at) (next lent within_it low)

-- a result that shows it
pub match-shown : {X : Type 0} (f : X → Operation) (r : Option X) (o at_base at_lent : Option Operation) → option_map f r ≡ o → MatchOption o (at_base ≡ at_lent) (λ op. at_base ≡ Some op) → MatchOption r (at_base ≡ at_lent) (λ x. at_base ≡ Some (f x))
match-shown f None o at_base at_lent same h = subst (λ o. MatchOption o (at_base ≡ at_lent) (λ op. at_base ≡ Some op)) (sym same) h
match-shown f (Some x) o at_base at_lent same h = subst (λ o. MatchOption o (at_base ≡ at_lent) (λ op. at_base ≡ Some op)) (sym same) h

-- a location is in its bucket if the key of the update there stands there
module _ (index_key : Bytes → ℕ) (entries : List (ℕ × List ℕ)) (layers : List Layer) (lent base : List Operation) (indexed : IsIndexed index_key entries lent) (from : LeadOver layers lent base)
    (key value : Bytes) (next : Option Bytes) (at : ℕ) (is : update_at base at ≡ Some (update key value next)) where
  within-lent : (said : Operation) → update_at lent at ≡ Some said → said ≡ update key value next
  within-lent said h =
      let more = begins layers base from.older lent from.steps from.among in
      let place = update-here lent at said h in
      let front : slice_get base at ≡ slice_get lent at = ap (λ ops. slice_get ops at) more.1 ∙ slice_get-front lent more.0 at (slice_get_within lent at said place) in
      same_Some said (update key value next) (sym h ∙ sym (ap (option_and_then said_by) front) ∙ is)

  yes-there : Contains (bucket_at entries (index_key key)) at → is_there (stands_at lent key) at ≡ true
  yes-there h =
      let e = in-bucket index_key entries lent indexed key at h in
      let stands : update_at lent at ≡ Some (update_from e.0) = ap (update_at lent) (sym e.2) ∙ live-stands lent e.0 e.1 in
      let same : update_from e.0 ≡ update key value next = within-lent (update_from e.0) stands in
      let of_it : (e.0).key ≡ key = cc in
      let own : live_of (live lent) key ≡ Some e.0 = ap (live_of (live lent)) (sym of_it) ∙ live-of_key lent e.0 e.1 in
      ap (λ o. is_there (option_map (λ (e : Live). (e.location, e.value)) o) at) own ∙ eq-eqb (e.0).location at e.2

  there-yes : is_there (stands_at lent key) at ≡ true → Contains (bucket_at entries (index_key key)) at
  there-yes h = by (live_of (live lent) key) refl h
    where
      by : (o : Option Live) → live_of (live lent) key ≡ o → is_there (option_map (λ (e : Live). (e.location, e.value)) o) at ≡ true → Contains (bucket_at entries (index_key key)) at
      by None own h = absurd (true≢false (sym h))
      by (Some e) own h = subst (Contains (bucket_at entries (index_key key))) (eqb-true e.location at h) (own-bucket index_key entries lent indexed key e own)

  any-in : (xs : List ℕ) → list_any (λ x. x == at) xs ≡ true → Contains xs at
  any-in [] h = absurd (true≢false (sym h))
  any-in (x ∷ xs) h = one (x == at) refl h (any-in xs)
    where
      one : (t : Bool) → (x == at) ≡ t → (t || list_any (λ x. x == at) xs) ≡ true → (list_any (λ x. x == at) xs ≡ true → Contains xs at) → Contains (x ∷ xs) at
      one true same h later = (0, omega arith, eqb-true x at same)
      one false same h later = let rest = later h in let place = rest.1 in (suc rest.0, omega (arith, place), rest.2)

  in-any : (xs : List ℕ) → Contains xs at → list_any (λ x. x == at) xs ≡ true
  in-any [] h = let none = h.1 in absurd (omega (arith, none))
  in-any (x ∷ xs) h = by (first_or_later x xs at h) (in-any xs)
    where
      by : (x ≡ at) ⊎ Contains xs at → (Contains xs at → list_any (λ x. x == at) xs ≡ true) → list_any (λ x. x == at) (x ∷ xs) ≡ true
      by (inl same) later = ap (λ t. t || list_any (λ x. x == at) xs) (eq-eqb x at same)
      by (inr within) later = or-later (x == at) (list_any (λ x. x == at) xs) (later within)

  pub bucket-there : (bucket : List ℕ) → bucket ≡ bucket_at entries (index_key key) → list_any (λ x. x == at) bucket ≡ is_there (stands_at lent key) at
  bucket-there bucket is_bucket = by (list_any (λ x. x == at) bucket) refl (is_there (stands_at lent key) at) refl
    where
      by : (s : Bool) → list_any (λ x. x == at) bucket ≡ s → (t : Bool) → is_there (stands_at lent key) at ≡ t → s ≡ t
      by true one true two = refl
      by false one false two = refl
      by true one false two = sym (yes-there (subst (λ xs. Contains xs at) is_bucket (any-in bucket one))) ∙ two
      by false one true two = sym one ∙ in-any bucket (subst (λ xs. Contains xs at) (sym is_bucket) (there-yes two))

place-there : (o : Option (ℕ × Bytes)) (at : ℕ) → is_there o at ≡ true → option_map (λ (p : ℕ × Bytes). p.0) o ≡ Some at
place-there None at h = absurd (true≢false (sym h))
place-there (Some p) at h = ap (λ n. Some n) (eqb-true p.0 at h)

-- what is left of the update at a location of the base list, with operations after that
module _ (base : List Operation) (made : List Touch) (at : ℕ) (within : at < length base) (found : Option Operation) (said : found ≡ update_at base at) where
  abbrev own : List Operation
  own = operations_of made

  pub standing-none : found ≡ None → IsMoveAt None base (base ++ own) at
  standing-none none = record { operation = front-none base own at within (sym none ∙ said); from = tt }

  module _ (k v : Bytes) (n : Option Bytes) (is : found ≡ Some (update k v n)) (from : All (IsFrom base) made) (keyed : All IsKeyed made) where
    here : update_at base at ≡ Some (update k v n)
    here = sym said ∙ is

    touched-there : is_there (stands_at base k) at ≡ true → touched k own ≡ is_replaced made at
    touched-there there = touched-replaced base k v n at here (place-there (stands_at base k) at there) made from keyed

    -- it is replaced
    pub standing-replaced : is_replaced made at ≡ true → IsMoveAt None base (base ++ own) at
    standing-replaced replaced = record { operation = by (is_there (stands_at base k) at) refl; from = tt }
      where
        by : (t : Bool) → is_there (stands_at base k) at ≡ t → None ≡ live_update_at (base ++ own) at
        by true there = front-touched base own at within k v n here (touched-there there ∙ replaced)
        by false gone = front-gone base own at within k v n here gone

    -- its key stands elsewhere or nowhere
    pub standing-gone : is_there (stands_at base k) at ≡ false → IsMoveAt None base (base ++ own) at
    standing-gone gone = record { operation = front-gone base own at within k v n here gone; from = tt }

    -- it is live, and not replaced
    pub standing-live : is_replaced made at ≡ false → is_there (stands_at base k) at ≡ true → IsMoveAt (Some (moved_touch (at, update k v n))) base (base ++ own) at
    standing-live kept there = record {
      operation = front-live base own at within k v n here there (touched-there there ∙ kept);
      from = λ key hit. sym (ap (place_in base) (sym (same_key k key hit)) ∙ place-there (stands_at base k) at there);
    }

-- what a walk moves of the operation at a location of the base list
module _ (base : List Operation) (made : List Touch) (at : ℕ) (op : Operation) (there : slice_get base at ≡ Some op) where
  abbrev IsMoved : Option Operation → Type 0
  IsMoved o = IsMoveAt (option_map (λ said. moved_touch (at, said)) o) base (base ++ operations_of made) at

  at_within : at < length base
  at_within = slice_get_within base at op there

  says_it : said_by op ≡ update_at base at
  says_it = sym (ap (option_and_then said_by) there)

  -- it is no update
  pub moved-keyless : update_key op ≡ None → IsMoved None
  moved-keyless none = standing-none base made at at_within (said_by op) says_it (keyless-said op none)

  module _ (from : All (IsFrom base) made) (keyed : All IsKeyed made) (k : Bytes) (own : update_key op ≡ Some k) where
    parts : (v : Bytes) × (n : Option Bytes) × (op ≡ update k v n)
    parts = keyed-update op k own

    is_it : said_by op ≡ Some (update k parts.0 parts.1)
    is_it = ap said_by parts.2

    -- it is replaced
    pub moved-replaced : is_replaced made at ≡ true → IsMoved None
    moved-replaced replaced = standing-replaced base made at at_within (said_by op) says_it k parts.0 parts.1 is_it from keyed replaced

    -- it is not, and it is live or not
    pub moved-live : is_replaced made at ≡ false → (live_there : Bool) → ((v : Bytes) (n : Option Bytes) → update_at base at ≡ Some (update k v n) → live_there ≡ is_there (stands_at base k) at) →
        IsMoved (if live_there then said_by op else None)
    moved-live kept live_there tells = by live_there (tells parts.0 parts.1 (sym says_it ∙ is_it))
      where
        by : (t : Bool) → t ≡ is_there (stands_at base k) at → IsMoved (if t then said_by op else None)
        by true h = subst IsMoved (sym is_it) (standing-live base made at at_within (said_by op) says_it k parts.0 parts.1 is_it from keyed kept (sym h))
        by false h = standing-gone base made at at_within (said_by op) says_it k parts.0 parts.1 is_it from keyed (sym h)

  -- the update that is found is what moves
  pub moved-found : {U : Type 0} (view : U → Operation) (found : Option U) (t : Bool) → t ≡ true → option_map view found ≡ said_by op → IsMoved (if t then said_by op else None) →
      IsMoveAt (option_map (λ u. moved_touch (at, view u)) found) base (base ++ operations_of made) at
  moved-found view found t moves shown moved = by found (subst IsMoved (sym shown) (subst (λ t. IsMoved (if t then said_by op else None)) moves moved))
    where
      by : (o : Option _) → IsMoved (option_map view o) → IsMoveAt (option_map (λ u. moved_touch (at, view u)) o) base (base ++ operations_of made) at
      by None h = h
      by (Some u) h = h

  -- else nothing does
  pub moved-not : (t : Bool) → t ≡ false → IsMoved (if t then said_by op else None) → IsMoved None
  moved-not t stays moved = subst (λ t. IsMoved (if t then said_by op else None)) stays moved

-- the operation at a location of a layer
module _ {A : Type 0} (value : A → Layer) (layers : List A) (i : ℕ) (d : A) (at : ℕ) (within : i < length layers) (is : d ≡ get_or layers i d) where
  found-drop : found_in (map value (drop i layers)) at ≡ (if leb (value d).base at then slice_get (value d).operations (at - (value d).base) else found_in (map value (drop (i + 1) layers)) at)
  found-drop =
      ap (λ ls. found_in (map value ls) at) (drop_more layers i d within)
      ∙ ap (λ l. found_in (value l ∷ map value (drop (i + 1) layers)) at) (sym is)

  pub found-here : (value d).base ≤ at → found_in (map value (drop i layers)) at ≡ slice_get (value d).operations (at - (value d).base)
  found-here low = found-drop ∙ ap (λ t. if t then slice_get (value d).operations (at - (value d).base) else found_in (map value (drop (i + 1) layers)) at) (le-leb (value d).base at low)

  -- and one that is in older layers
  pub found-older : at < (value d).base → found_in (map value (drop i layers)) at ≡ found_in (map value (drop (i + 1) layers)) at
  found-older high = found-drop ∙ ap (λ t. if t then slice_get (value d).operations (at - (value d).base) else found_in (map value (drop (i + 1) layers)) at) (lt-leb (value d).base at high)

pub got-shown : {X Y : Type 0} (f : X → Y) (r : Option (Bor X)) (ops : List X) (i : ℕ) → option_copied r ≡ slice_get ops i → option_map (λ o. f o.now) r ≡ slice_get (map f ops) i
got-shown f r ops i h = by r ∙ ap (option_map f) h ∙ sym (slice_get-map f ops i)
  where
    by : (r : Option (Bor _)) → option_map (λ o. f o.now) r ≡ option_map f (option_copied r)
    by None = refl
    by (Some x) = refl

pub match-some : {X : Type 0} (r : Option X) (x : X) (P : Type 0) (Q : X → Type 0) → r ≡ Some x → MatchOption r P Q → Q x
match-some r x P Q is h = subst (λ r. MatchOption r P Q) is h

pub match-none : {X : Type 0} (r : Option X) (P : Type 0) (Q : X → Type 0) → r ≡ None → MatchOption r P Q → P
match-none r P Q is h = subst (λ r. MatchOption r P Q) is h

-- what an index of a slice gives
pub got : {X : Type 0} (r : Option (Bor X)) (xs : List X) (i : ℕ) → IsItemAt xs i r → option_copied r ≡ slice_get xs i
got None xs i h = sym (slice_get_past xs i h.3)
got (Some x) xs i h = sym (slice_get_read xs (length xs) i x.now refl (h.3).0 h.1)

pub got-one : {X Y : Type 0} (f : X → Y) (r : Option (Bor X)) (xs : List X) (i j : ℕ) (x : Bor X) → IsItemAt xs i r → r ≡ Some x → i ≡ j → slice_get (map f xs) j ≡ Some (f x.now)
got-one f r xs i j x h is same =
    slice_get-map f xs j ∙ ap (option_map f) (ap (slice_get xs) (sym same) ∙ sym (got r xs i h) ∙ ap option_copied is)

pub got-none : {X Y : Type 0} (f : X → Y) (r : Option (Bor X)) (xs : List X) (i j : ℕ) → IsItemAt xs i r → r ≡ None → i ≡ j → slice_get (map f xs) j ≡ None
got-none f r xs i j h is same = slice_get-map f xs j ∙ ap (option_map f) (ap (slice_get xs) (sym same) ∙ sym (got r xs i h) ∙ ap option_copied is)
