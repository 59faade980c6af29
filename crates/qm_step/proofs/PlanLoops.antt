-- Steps of the loops that make a plan.
use Rattle.std.proofs.Common.{◌≡◌, ℕ, zero, suc, ◌+◌, ◌≤◌, ◌<◌, cond, List, [], ◌∷◌, ◌++◌, length, length-append, take, map, get_or, refl, ap, ap₂, sym, ◌∙◌, subst, Option, Some, None, arith, Ordering, Less, Equal, Greater, Bor, append_assoc, append-nil}
use Rattle.std.specs.Prelude.{filter_map, slice_get, option_map, option_to_list, All}
use Rattle.std.specs.BTreeMap.{insert_entry}
use Rattle.std.specs.List.{cons_option, AllByRecursion as Each}
use Rattle.std.specs.Cmp.Lexicographic.{slice_cmp}
use Rattle.std.specs.Ordering.{nat_cmp, is_lt, match_ordering}
use Rattle.std.proofs.lemmas.List.{take_all, take_more, map-append, map_more, length-map, length-take, get_or-map}
use Rattle.std.proofs.lemmas.List.Sums.{fold_push}
use Rattle.std.proofs.lemmas.List.Elements.{filter_map-append, All-nil, All-cons, All-head, All-tail, All-same}
use Rattle.std.proofs.lemmas.Option.{same_Some, slice_get-map, slice_get_read, get_or_from_slice_get, slice_get_within}
use Rattle.qm_model.specs.Operations.{Bytes, Operation}
use Rattle.qm_model.specs.Live.{Live, live, live_of}
use Rattle.qm_model.specs.Writes.{Write, put_write, last_writes, write_of, operation_of, create_of}
use Rattle.qm_model.proofs.LastWrites.{Rising}
use Rattle.qm_step.specs.Changes.{place_in}
use Rattle.qm_step.specs.PlanViews.{keyed, site_in}
use Rattle.qm_step.specs.Touches.{Touch, operations_of, rewrite_here, new_touch}
use Rattle.qm_step.proofs.WritesByKey.{put-shown}
use Rattle.qm_step.proofs.PlanPlaces.{one-more, none-more, live-rises}
use Rattle.qm_chain.proofs.KeyOrder.{apart}
use Rattle.qm_step.proofs.Standing.{live-apart}

-- a map of the last writes by key
module _ {X : Type 0} (view : X → Write) where
  abbrev pub shown : Bor Bytes × X → Bytes × Write
  shown e = (e.0.now, view e.1)

  abbrev key_cmp : Bor Bytes → Bor Bytes → Ordering
  key_cmp a b = slice_cmp nat_cmp a.now b.now

  -- one write more
  pub put-more : (es new : List (Bor Bytes × X)) (ws : List Write) (k : Bor Bytes) (x : X) → k.now ≡ (view x).key → new ≡ insert_entry key_cmp es k x → map shown es ≡ map keyed (last_writes ws) →
      map shown new ≡ map keyed (last_writes (ws ++ view x ∷ []))
  put-more es new ws k x key put so_far =
      ap (map shown) put ∙ put-shown (λ (b : Bor Bytes). b.now) view (λ w. w) es (last_writes ws) k x (view x) so_far key refl
      ∙ ap (map keyed) (sym (fold_push put_write [] ws (view x)))

each-at : {X : Type 0} (P : X → Type 0) (xs : List X) (i : ℕ) (x : X) → Each P xs → slice_get xs i ≡ Some x → P x
each-at P [] i x each is = cc
each-at P (y ∷ ys) zero x each is = subst P (same_Some y x is) each.0
each-at P (y ∷ ys) (suc i) x each is = each-at P ys i x each.1 is

-- among writes whose keys rise none before has the key of one
first-of : (us : List Write) (i : ℕ) (w : Write) → Rising us → slice_get us i ≡ Some w → write_of (take i us) w.key ≡ None
first-of [] i w rising is = cc
first-of (u ∷ us) zero w rising is = refl
first-of (u ∷ us) (suc i) w rising is =
    ap (λ t. cond t (Some u) (write_of (take i us) w.key)) (apart u.key w.key (ap is_lt (each-at (λ x. slice_cmp nat_cmp u.key x.key ≡ Less) us i w rising.0 is))) ∙ first-of us i w rising.1 is

-- what is shown of each site is said of the write at its place
module _ {A X : Type 0} (view : A → X) (what : Write → X) (us : List Write) (sites : List A) (are : map view sites ≡ map what us) (i : ℕ) (d : A) (within : i < length sites) (here : d ≡ get_or sites i d) where
  -- the write at this place
  pub write-here : (w : Write) × (slice_get us i ≡ Some w) × (what w ≡ view d)
  write-here = by (slice_get us i) refl
      (sym (slice_get-map what us i) ∙ sym (ap (λ l. slice_get l i) are) ∙ slice_get-map view sites i ∙ ap (option_map view) (slice_get_read sites (length sites) i d refl within here))
    where
      by : (o : Option Write) → slice_get us i ≡ o → option_map what o ≡ Some (view d) → (w : Write) × (slice_get us i ≡ Some w) × (what w ≡ view d)
      by None is h = cc
      by (Some w) is h = (w, is, same_Some (what w) (view d) h)

  pub taken-here : take (i + 1) us ≡ take i us ++ (write-here.0) ∷ []
  taken-here =
      let w = write-here.0 in
      take_more us i w (slice_get_within us i w write-here.1) ∙ ap (λ x. take i us ++ x ∷ []) (get_or_from_slice_get us i w w write-here.1)

  -- one more of what some of the writes make
  pub made-more : {Y : Type 0} (make : Write → Option Y) (before new : List Y) (y : Option Y) → y ≡ make (write-here.0) → new ≡ before ++ option_to_list y → before ≡ filter_map make (take i us) → new ≡ filter_map make (take (i + 1) us)
  made-more make before new y makes pushed so_far =
      let w = write-here.0 in
      pushed ∙ ap₂ (λ xs o. xs ++ option_to_list o) so_far makes ∙ ap (λ ys. filter_map make (take i us) ++ ys) (one (make w)) ∙ sym (filter_map-append make (take i us) (w ∷ [])) ∙ ap (filter_map make) (sym taken-here)
    where
      one : {Y : Type 0} (o : Option Y) → option_to_list o ≡ cons_option o []
      one None = refl
      one (Some y) = refl

module _ {A : Type 0} (view : A → Write × Option ℕ) (base : List Operation) (us : List Write) (sites : List A) (are : map view sites ≡ map (site_in base) us) (i : ℕ) (d : A)
    (within : i < length sites) (here : d ≡ get_or sites i d) where
  -- the write at this place
  abbrev site-here : (w : Write) × (slice_get us i ≡ Some w) × (site_in base w ≡ view d)
  site-here = write-here view (site_in base) us sites are i d within here

  taken : take (i + 1) us ≡ take i us ++ (site-here.0) ∷ []
  taken = taken-here view (site_in base) us sites are i d within here

  write-is : site-here.0 ≡ (view d).0
  write-is = ap (λ (p : Write × Option ℕ). p.0) site-here.2

  place-is : place_in base (site-here.0).key ≡ (view d).1
  place-is = ap (λ (p : Write × Option ℕ). p.1) site-here.2

  -- one write more to a live key
  pub rewrite-more : (es new : List (ℕ × Operation)) (at : ℕ) → Rising us → (view d).1 ≡ Some at → new ≡ insert_entry nat_cmp es at (operation_of (view d).0) → es ≡ filter_map (rewrite_here (take i us)) (live base) →
      new ≡ filter_map (rewrite_here (take (i + 1) us)) (live base)
  rewrite-more es new at rising stands put so_far = by (live_of (live base) (site-here.0).key) refl (place-is ∙ stands)
    where
      by : (o : Option Live) → live_of (live base) (site-here.0).key ≡ o → option_map (λ (p : ℕ × Bytes). p.0) (option_map (λ (e : Live). (e.location, e.value)) o) ≡ Some at →
          new ≡ filter_map (rewrite_here (take (i + 1) us)) (live base)
      by None is h = cc
      by (Some e) is h =
          let place : e.location ≡ at = same_Some e.location at h in
          put ∙ ap₂ (λ xs n. insert_entry nat_cmp xs n (operation_of (view d).0)) so_far (sym place)
          ∙ ap (λ w. insert_entry nat_cmp (filter_map (rewrite_here (take i us)) (live base)) e.location (operation_of w)) (sym write-is)
          ∙ one-more (take i us) site-here.0 (live base) e (live-apart 0 base) (live-rises 0 base) (first-of us i site-here.0 rising site-here.1) is
          ∙ ap (λ ws. filter_map (rewrite_here ws) (live base)) (sym taken)

  -- one write more to a key that is not live
  pub rewrite-same : (es new : List (ℕ × Operation)) → (view d).1 ≡ None → new ≡ es → es ≡ filter_map (rewrite_here (take i us)) (live base) → new ≡ filter_map (rewrite_here (take (i + 1) us)) (live base)
  rewrite-same es new none same so_far = by (live_of (live base) (site-here.0).key) refl (place-is ∙ none)
    where
      by : (o : Option Live) → live_of (live base) (site-here.0).key ≡ o → option_map (λ (p : ℕ × Bytes). p.0) (option_map (λ (e : Live). (e.location, e.value)) o) ≡ None →
          new ≡ filter_map (rewrite_here (take (i + 1) us)) (live base)
      by None is h =
          same ∙ so_far ∙ none-more (take i us) site-here.0 (live base) is ∙ ap (λ ws. filter_map (rewrite_here ws) (live base)) (sym taken)
      by (Some e) is h = cc

  pub rewrite-next : (es new : List (ℕ × Operation)) → Rising us → ((at : ℕ) → (view d).1 ≡ Some at → new ≡ insert_entry nat_cmp es at (operation_of (view d).0)) → ((view d).1 ≡ None → new ≡ es) →
      es ≡ filter_map (rewrite_here (take i us)) (live base) → new ≡ filter_map (rewrite_here (take (i + 1) us)) (live base)
  rewrite-next es new rising some none so_far = by (view d).1 refl
    where
      by : (o : Option ℕ) → (view d).1 ≡ o → new ≡ filter_map (rewrite_here (take (i + 1) us)) (live base)
      by None is = rewrite-same es new is (none is) so_far
      by (Some at) is = rewrite-more es new at rising is (some at is) so_far

  -- one create more
  pub create-more : (before old new : List Touch) (made : Option Touch) → ((w : Write) → view d ≡ site_in base w → made ≡ option_map new_touch (create_of (live base) w)) → new ≡ old ++ option_to_list made →
      old ≡ before ++ map new_touch (filter_map (create_of (live base)) (take i us)) → new ≡ before ++ map new_touch (filter_map (create_of (live base)) (take (i + 1) us))
  create-more before old new made is pushed so_far =
      let w = site-here.0 in
      let h = create_of (live base) in
      let front = filter_map h (take i us) in
      pushed ∙ ap₂ (λ a o. a ++ option_to_list o) so_far (is w (sym site-here.2)) ∙ append_assoc before (map new_touch front) (option_to_list (option_map new_touch (h w)))
      ∙ ap (λ xs. before ++ (map new_touch front ++ xs)) (one (h w))
      ∙ ap (λ xs. before ++ xs) (sym (map-append new_touch front (cons_option (h w) [])))
      ∙ ap (λ xs. before ++ map new_touch xs) (sym (filter_map-append h (take i us) (w ∷ [])))
      ∙ ap (λ ws. before ++ map new_touch (filter_map h ws)) (sym taken)
    where
      one : (o : Option Operation) → option_to_list (option_map new_touch o) ≡ map new_touch (cons_option o [])
      one None = refl
      one (Some op) = refl

-- what holds of each key of a map, and of one more
pub insert-keeps : {K X : Type 0} (P : K → Type 0) (cmp : K → K → Ordering) (es : List (K × X)) (k : K) (x : X) → P k → All (λ e. P e.0) es → All (λ e. P e.0) (insert_entry cmp es k x)
insert-keeps {K} {X} P cmp [] k x here all = All-cons (λ (e : K × X). P e.0) (k, x) [] here (All-nil (λ (e : K × X). P e.0))
insert-keeps {K} {X} P cmp (e ∷ es) k x here all = by (cmp k e.0) (insert-keeps P cmp es k x here rest)
  where
    Q : K × X → Type 0
    Q e = P e.0

    first : P e.0
    first = All-head Q e es all

    rest : All Q es
    rest = All-tail Q e es all

    by : (o : Ordering) → All Q (insert_entry cmp es k x) → All Q (match_ordering o ((k, x) ∷ e ∷ es) ((e.0, x) ∷ es) (e ∷ insert_entry cmp es k x))
    by Less later = All-cons Q (k, x) (e ∷ es) here all
    by Equal later = All-cons Q (e.0, x) es first rest
    by Greater later = All-cons Q e (insert_entry cmp es k x) first later

-- elements that go from a list that is left to one that is made
module _ {A B Y : Type 0} (f : A → Y) (h : B → Y) (made : List A) (rest : List B) (all : List Y) where
  pub drained-more : (made' : List A) (rest' : List B) (a : A) (b : B) → rest ≡ b ∷ rest' → made' ≡ made ++ a ∷ [] → f a ≡ h b → map f made ++ map h rest ≡ all → map f made' ++ map h rest' ≡ all
  drained-more made' rest' a b more pushed same so_far =
      ap (λ xs. map f xs ++ map h rest') pushed ∙ ap (λ xs. xs ++ map h rest') (map-append f made (a ∷ [])) ∙ append_assoc (map f made) (f a ∷ []) (map h rest')
      ∙ ap (λ y. map f made ++ y ∷ map h rest') same ∙ ap (λ xs. map f made ++ map h xs) (sym more) ∙ so_far

  pub drained-all : rest ≡ [] → map f made ++ map h rest ≡ all → map f made ≡ all
  drained-all none so_far = sym (append-nil (map f made)) ∙ ap (λ xs. map f made ++ map h xs) (sym none) ∙ so_far

  -- before the last of them there is room for one more
  pub drained-room : (b : B) (rest' : List B) → rest ≡ b ∷ rest' → map f made ++ map h rest ≡ all → length made < length all
  drained-room b rest' more so_far = omega (arith, ap length so_far, length-append (map f made) (map h rest), length-map made f, length-map rest h, ap length more)

pub none-first : (es : List Live) → [] ≡ filter_map (rewrite_here []) es
none-first [] = refl
none-first (e ∷ es) = none-first es

-- all that was taken
pub taken-all : {A B C : Type 0} (f : A → C) (h : B → C) (xs : List A) (ys : List B) (i : ℕ) → map f xs ≡ map h ys → length xs ≤ i → take i ys ≡ ys
taken-all f h xs ys i same past =
    let long : length (map f xs) ≡ length (map h ys) = ap length same in
    take_all i ys (omega (arith, long, length-map xs f, length-map ys h, past))

-- what holds of the image of a list
pub all-mapped : {A X : Type 0} (P : X → Type 0) (f : A → X) (xs : List A) (i : ℕ) (d : A) → All P (map f xs) → i < length xs → d ≡ get_or xs i d → P (f d)
all-mapped P f xs i d all within here =
    subst P (get_or-map f xs i d (f d) within ∙ ap f (sym here)) (all i (f d) (omega (arith, within, length-map xs f)))

-- one operation more after a base list
module _ {A : Type 0} (f : A → Touch) (base : List Operation) (xs : List A) (i : ℕ) where
  pub own-more : (d : A) → i < length xs → d ≡ get_or xs i d → (base ++ operations_of (map f (take i xs))) ++ (f d).operation ∷ [] ≡ base ++ operations_of (map f (take (i + 1) xs))
  own-more d within here =
      append_assoc base (operations_of (map f (take i xs))) ((f d).operation ∷ [])
      ∙ ap (λ z. base ++ (operations_of (map f (take i xs)) ++ (f z).operation ∷ [])) here
      ∙ ap (λ ops. base ++ ops)
      (sym (ap operations_of (map_more f xs i d within) ∙ map-append (λ (t : Touch). t.operation) (map f (take i xs)) (f (get_or xs i d) ∷ [])))

  pub own-long : (size : ℕ) → size ≡ length base → i ≤ length xs → size + i ≡ length (base ++ operations_of (map f (take i xs)))
  own-long size is within =
      omega (arith, is, within, length-append base (operations_of (map f (take i xs))), length-map (map f (take i xs)) (λ (t : Touch). t.operation), length-map (take i xs) f, length-take i xs)

pub insert-kept : {K X : Type 0} (P : K → Type 0) (cmp : K → K → Ordering) (es new : List (K × X)) (k : K) (x : X) → new ≡ insert_entry cmp es k x → P k → All (λ e. P e.0) es → All (λ e. P e.0) new
insert-kept {K} {X} P cmp es new k x is here all = All-same (λ (e : K × X). P e.0) new (insert_entry cmp es k x) is (insert-keeps P cmp es k x here all)

pub none-kept : {K X : Type 0} (P : K → Type 0) (es : List (K × X)) → es ≡ [] → All (λ e. P e.0) es
none-kept {K} {X} P es is = All-same (λ (e : K × X). P e.0) es [] is (All-nil (λ (e : K × X). P e.0))

-- one more of what is put after others
pub pushed-more : {A B Y : Type 0} (f : A → Y) (h : B → Y) (made made' : List A) (front : List Y) (seen : List B) (a : A) (b : B) → made' ≡ made ++ a ∷ [] → f a ≡ h b → map f made ≡ front ++ map h seen → map f made' ≡ front ++ map h (seen ++ b ∷ [])
pushed-more f h made made' front seen a b pushed same so_far =
    ap (map f) pushed ∙ map-append f made (a ∷ []) ∙ ap₂ (λ xs y. xs ++ y ∷ []) so_far same ∙ append_assoc front (map h seen) (h b ∷ []) ∙ ap (λ xs. front ++ xs) (sym (map-append h seen (b ∷ [])))
