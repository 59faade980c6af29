-- Each step keeps the rule.
use Rattle.std.proofs.Common.{◌≡◌, ◌≢◌, ◌⊎◌, ◌↔◌, ℕ, zero, suc, ◌+◌, ◌-◌, ◌*◌, ◌^◌, ◌%◌, ◌<◌, ◌≤◌, List, [], ◌∷◌, ◌++◌, length, set, replicate, Bool, true, false, true≢false, refl, sym, ap, ◌∙◌, subst, inl, inr, ⊎_elim, arith, length-append, length-set, get_or-set_same, get_or-set_other, mod-eq_of_lt}
use Rattle.std.specs.Prelude.{slice_index, Contains, bit_or}
use Rattle.std.specs.Int.{bit_at}
use Rattle.std.proofs.lemmas.Nat.Bits.{bit_at_or, bit_at-lt, bit_at-pow_same, bit_at-pow_other, bit_at-zero}
use Rattle.std.proofs.lemmas.Nat.{pow_below}
use mathlib.Core.Logic.{dite}
use mathlib.Core.Option.{none, some, some-ne-none, some-injective}
use native.Mathlib.Decide.{ℕ_discrete}
use lib.ListN.{get_elem?}
use Rattle.atomic_table.specs.Table.{Me, step, keeps, Allows, Splits, Joins, Final, Seen, opening}
use Rattle.atomic_table.proofs.Lists.{at_set, set_here, set_else}
use Rattle.qm_crew.specs.declared.board.View.{View}
use Rattle.qm_crew.proofs.Times.{times, times-append, times_from, times_to, hit, miss}
use Rattle.qm_crew.specs.Views.{leader, worker, nobody, marking, with_one_out, taken_in, one_unspent, total, unspent, IsMarked, IsSet, Fits, IsLed, AreMarks, IsMarking, Marked}

total_set : (f : View → ℕ) (views : List View) (id : ℕ) (v w : View) → get_elem? views id ≡ some v → total f (set views id w) + f v ≡ total f views + f w
total_set f [] id v w e = absurd (some-ne-none v (sym e))
total_set f (x ∷ xs) zero v w e = let is : f x ≡ f v = ap f (some-injective x v e) in omega arith
total_set f (x ∷ xs) (suc id) v w e = let r = total_set f xs id v w e in omega arith

total_snoc : (f : View → ℕ) (views : List View) (v : View) → total f (views ++ v ∷ []) ≡ total f views + f v
total_snoc f [] v = omega arith
total_snoc f (x ∷ xs) v = let r = total_snoc f xs v in omega arith

total_le : (f : View → ℕ) (views : List View) (id : ℕ) (v : View) → get_elem? views id ≡ some v → f v ≤ total f views
total_le f [] id v e = absurd (some-ne-none v (sym e))
total_le f (x ∷ xs) zero v e = let is : f x ≡ f v = ap f (some-injective x v e) in omega arith
total_le f (x ∷ xs) (suc id) v e = let r = total_le f xs id v e in omega arith

at_below : (views : List View) (id : ℕ) (v : View) → get_elem? views id ≡ some v → id < length views
at_below [] id v e = absurd (some-ne-none v (sym e))
at_below (x ∷ xs) zero v e = omega arith
at_below (x ∷ xs) (suc id) v e = let r = at_below xs id v e in omega arith

snoc_cases : (views : List View) (a b : View) (j : ℕ) → get_elem? (views ++ a ∷ []) j ≡ some b → (get_elem? views j ≡ some b) ⊎ ((j ≡ length views) × (a ≡ b))
snoc_cases [] a b zero e = inr (refl, some-injective a b e)
snoc_cases [] a b (suc j) e = absurd (some-ne-none b (sym e))
snoc_cases (x ∷ xs) a b zero e = inl e
snoc_cases (x ∷ xs) a b (suc j) e = ⊎_elim (λ h. inl h) (λ h. inr (ap suc h.0, h.1)) (snoc_cases xs a b j e)

-- how often the views mark the place
abbrev marks_at : ℕ → List View → ℕ
marks_at p views = total (λ v. times p v.marks) views

marked_from : (p : ℕ) (views : List View) → IsMarked views p → 0 < marks_at p views
marked_from p views (id, v, at, has) = let le = total_le (λ u. times p u.marks) views id v at in let some_there = times_from p v.marks has in omega arith

marked_to : (p : ℕ) (views : List View) → 0 < marks_at p views → IsMarked views p
marked_to p [] some_there = absurd (omega arith)
marked_to p (x ∷ xs) some_there = dite (ℕ_discrete (times p x.marks) 0)
    (λ e. let r = marked_to p xs (omega arith) in (suc r.0, r.1, r.2, r.3))
    (λ n. (0, x, refl, times_to p x.marks (omega arith)))

-- views that mark the same places
same_marks : (words : List ℕ) (views now : List View) → ((p : ℕ) → marks_at p now ≡ marks_at p views) → AreMarks words views → AreMarks words now
same_marks words views now same are word bit below small =
    let p : ℕ = 64 * word + bit in
    let e = same p in
    let h = are word bit below small in
    ((λ is. let m = marked_from p views (h.0 is) in marked_to p now (omega arith)), (λ m. let k = marked_from p now m in h.1 (marked_to p views (omega arith))))

fits_set : (lead out id : ℕ) (views : List View) (w : View) → ((j : ℕ) (u : View) → j ≢ id → get_elem? views j ≡ some u → Fits lead out j u) → Fits lead out id w → (j : ℕ) (u : View) → get_elem? (set views id w) j ≡ some u → Fits lead out j u
fits_set lead out id views w others mine j u e =
    ⊎_elim
    (λ (x : (j ≡ id) × (w ≡ u)). subst (λ (y : ℕ × View). Fits lead out y.0 y.1) (λ i. (sym x.0 i, x.1 i)) mine)
    (λ (x : (j ≢ id) × (get_elem? views j ≡ some u)). others j u x.0 x.1)
    (at_set views id j w u e)

off : false ≡ true → ⊥
off e = true≢false (sym e)

-- who leads is the lead
lead_is : (lead out id : ℕ) (v : View) → Fits lead out id v → v.lead ≡ true → id ≡ lead
lead_is lead out id v f leads = dite (ℕ_discrete id lead) (λ e. e) (λ n. absurd (off (sym (f.follows n).0 ∙ leads)))

one_of : (b : Bool) → b ≡ false → one_unspent b ≡ 1
one_of b e = ap one_unspent e

-- ---- the table at the start
zeros_at : (n i : ℕ) → slice_index (replicate n 0) i ≡ 0
zeros_at zero i = refl
zeros_at (suc n) zero = refl
zeros_at (suc n) (suc i) = zeros_at n i

pub begins : (n : ℕ) → IsMarking (opening (replicate n 0) [] (leader [] 0))
begins n = record {
  bits = λ word bit below small. (
    (λ is. absurd (let z = zeros_at n word in let q : bit_at (slice_index (replicate n 0) word) bit ≡ 0 = subst (λ x. bit_at x bit ≡ 0) (sym z) (bit_at-zero bit) in omega arith)),
    (λ m. absurd (let k = marked_from (64 * word + bit) (leader [] 0 ∷ []) m in omega arith)),
  );
  led = record {
    lead = 0;
    out = 0;
    there = omega arith;
    fits = one;
    count = refl;
  };
}
  where
    one : (id : ℕ) (v : View) → get_elem? (leader [] 0 ∷ []) id ≡ some v → Fits 0 0 id v
    one zero v e = subst (Fits 0 0 0) (some-injective _ _ e) record { leads = λ _. (refl, refl, refl); follows = λ n. absurd (n refl); empty = λ c. absurd (off c) }
    one (suc id) v e = absurd (some-ne-none v (sym e))

-- ---- a mark
-- `1 << bit`
pub one_shifted : (bit : ℕ) → bit < 64 → 1 * 2 ^ bit % 18446744073709551616 ≡ 2 ^ bit
one_shifted bit small = let l : 2 ^ bit < 18446744073709551616 = pow_below bit 64 small in let m : 1 * 2 ^ bit ≡ 2 ^ bit = omega arith in ap (λ (n : ℕ). n % 18446744073709551616) m ∙ mod-eq_of_lt l

pow_apart : (a b : ℕ) → 2 ^ a ≡ 2 ^ b → a ≡ b
pow_apart a b e = dite (ℕ_discrete b a) (λ same. sym same)
    (λ n. absurd (let x = bit_at-pow_same b in let y = bit_at-pow_other a b n in let z : bit_at (2 ^ a) b ≡ bit_at (2 ^ b) b = ap (λ (m : ℕ). bit_at m b) e in omega arith))

marked_led : (views : List View) (id place : ℕ) (v : View) → get_elem? views id ≡ some v → v.spent ≡ false → IsLed views → IsLed (set views id (marking v place))
marked_led views id place v at fresh led =
    let f = led.fits id v at in
    let sum = total_set (λ u. one_unspent u.spent) views id v (marking v place) at in
    let c = led.count in
    record {
      lead = led.lead;
      out = led.out;
      there = subst (λ (n : ℕ). led.lead < n) (sym (length-set views id (marking v place))) led.there;
      fits = fits_set led.lead led.out id views (marking v place) (λ j u _ e. led.fits j u e) record { leads = f.leads; follows = f.follows; empty = λ spent. absurd (off (sym fresh ∙ spent)) };
      count = omega arith;
    }

or_here : (x bit : ℕ) → bit_at (bit_or x (2 ^ bit)) bit ≡ 1
or_here x bit = let m = bit_at_or x (2 ^ bit) bit in let l = bit_at-lt x bit in let s = bit_at-pow_same bit in omega arith

or_else : (x bit i : ℕ) → i ≢ bit → bit_at (bit_or x (2 ^ bit)) i ≡ bit_at x i
or_else x bit i n = let m = bit_at_or x (2 ^ bit) i in let s = bit_at-pow_other bit i n in omega arith

marked_bits : (words : List ℕ) (views : List View) (id word bit : ℕ) (v : View) → bit < 64 → get_elem? views id ≡ some v → AreMarks words views
    → AreMarks (set words word (bit_or (slice_index words word) (2 ^ bit))) (set views id (marking v (64 * word + bit)))
marked_bits words views id word bit v small at are word' bit' below' small' =
    let w = marking v (64 * word + bit) in
    let p : ℕ = 64 * word' + bit' in
    let place : ℕ = 64 * word + bit in
    let now = bit_or (slice_index words word) (2 ^ bit) in
    let below : word' < length words = subst (λ (n : ℕ). word' < n) (length-set words word now) below' in
    let sum = total_set (λ u. times p u.marks) views id v w at in
    let more = times-append p v.marks (place ∷ []) in
    let h = are word' bit' below small' in
    let same : (place ≢ p) → bit_at (slice_index (set words word now) word') bit' ≡ bit_at (slice_index words word') bit' → IsSet (set words word now) word' bit' ↔ IsMarked (set views id w) p =
    λ apart e. let none_more = miss place p apart in (
      (λ is. let m = marked_from p views (h.0 (sym e ∙ is)) in marked_to p (set views id w) (omega arith)),
      (λ m. let k = marked_from p (set views id w) m in e ∙ h.1 (marked_to p views (omega arith))),
    ) in
    dite (ℕ_discrete word' word)
    (λ e. dite (ℕ_discrete bit' bit)
    (λ f. let is : place ≡ p = omega arith in let one_more = hit place p is in let b : word < length words = subst (λ (n : ℕ). n < length words) e below in (
      (λ _. marked_to p (set views id w) (omega arith)),
      (λ _. subst (λ (n : ℕ × ℕ). IsSet (set words word now) n.0 n.1) (λ i. (sym e i, sym f i))
          (subst (λ (n : ℕ). bit_at n bit ≡ 1) (sym (get_or-set_same words word now 0 b)) (or_here (slice_index words word) bit))),
    ))
    (λ f. let b : word < length words = subst (λ (n : ℕ). n < length words) e below in
    same (λ q. f (omega arith))
    (subst (λ (n : ℕ). bit_at (slice_index (set words word now) n) bit' ≡ bit_at (slice_index words n) bit') (sym e)
    (subst (λ (n : ℕ). bit_at n bit' ≡ bit_at (slice_index words word) bit') (sym (get_or-set_same words word now 0 b)) (or_else (slice_index words word) bit bit' f)))))
    (λ e. same (λ q. e (omega arith)) (ap (λ (n : ℕ). bit_at n bit') (get_or-set_other words word word' now 0 e)))

pub marks : (slots id : ℕ) (me : Me (Unit {0}) View) (word bit k : ℕ) → bit < 64 → k ≡ 2 ^ bit → me.0.spent ≡ false
    → Allows IsMarking slots id me word (λ n. bit_or n k) (Marked (step slots word k 0 none) me)
marks slots id me word bit k small is fresh s r wide at fits = (
  marking me.0 (64 * word + bit),
  keeps,
  tt,
  record {
    bits = subst (λ (n : ℕ). AreMarks (set s.words word (bit_or (slice_index s.words word) n)) (set s.views id (marking me.0 (64 * word + bit)))) (sym is) (marked_bits s.words s.views id word bit me.0 small at r.bits);
    led = marked_led s.views id (64 * word + bit) me.0 at fresh r.led;
  },
  λ b _ e. ap (λ (n : ℕ). (marking me.0 (64 * word + n), me.1)) (pow_apart bit b (sym is ∙ e)),
)

-- ---- a seat is split off
pub splits : (id : ℕ) (v : View) → v.lead ≡ true → Splits IsMarking id v (with_one_out v) (worker [])
splits id v leads s r at =
    let led = r.led in
    let views = s.views in
    let left = with_one_out v in
    let f = led.fits id v at in
    let here = lead_is led.lead led.out id v f leads in
    let lasts = f.leads here in
    let c = led.count in
    let long : length (set views id left) ≡ length views = length-set views id left in
    let sum = total_set (λ u. one_unspent u.spent) views id v left at in
    let one_more = total_snoc (λ u. one_unspent u.spent) (set views id left) (worker []) in
    record {
      bits = same_marks s.words views (set views id left ++ worker [] ∷ [])
          (λ p. let a = total_set (λ u. times p u.marks) views id v left at in let b = total_snoc (λ u. times p u.marks) (set views id left) (worker []) in omega arith)
          r.bits;
      led = record {
        lead = led.lead;
        out = led.out + 1;
        there = let n = length-append (set views id left) (worker [] ∷ []) in let t = led.there in omega arith;
        fits = λ j u e. ⊎_elim
            (λ old. fits_set led.lead (led.out + 1) id views left
            (λ i y apart e'. let g = led.fits i y e' in record { leads = λ is. absurd (apart (is ∙ sym here)); follows = g.follows; empty = g.empty })
            record { leads = λ _. (leads, lasts.1, ap (λ (n : ℕ). n + 1) lasts.2); follows = λ n. absurd (n here); empty = λ spent. absurd (off (sym lasts.1 ∙ spent)) }
            j u old)
            (λ new. subst (Fits led.lead (led.out + 1) j) new.1 record { leads = λ is. absurd (let t = led.there in let q = new.0 in omega arith); follows = λ _. (refl, refl); empty = λ _. refl })
            (snoc_cases (set views id left) (worker []) u j e);
        count = omega arith;
      };
    }

-- ---- a seat is joined
pub joins : (id : ℕ) (v : View) (other : ℕ) (w : View) → v.lead ≡ true → w.spent ≡ false → Joins IsMarking id v other w (taken_in v w) nobody
joins id v other w leads fresh s r at apart there =
    let led = r.led in
    let views = s.views in
    let both = taken_in v w in
    let mid = set views id both in
    let f = led.fits id v at in
    let here = lead_is led.lead led.out id v f leads in
    let lasts = f.leads here in
    let away : other ≢ led.lead = λ e. apart (e ∙ sym here) in
    let c = led.count in
    let o : v.out ≡ led.out = lasts.2 in
    let sum = total_set (λ u. one_unspent u.spent) views id v both at in
    let sum' = total_set (λ u. one_unspent u.spent) mid other w nobody there in
    let one = one_of w.spent fresh in
    let still : get_elem? (set mid other nobody) id ≡ some both = set_else mid other id nobody (λ e. apart (sym e)) ∙ set_here views id both (at_below views id v at) in
    let mine = total_le (λ u. one_unspent u.spent) (set mid other nobody) id both still in
    let lead_one = one_of v.spent lasts.1 in
    record {
      bits = same_marks s.words views (set mid other nobody)
          (λ p. let a = total_set (λ u. times p u.marks) views id v both at in let b = total_set (λ u. times p u.marks) mid other w nobody there in let m = times-append p v.marks w.marks in omega arith)
          r.bits;
      led = record {
        lead = led.lead;
        out = v.out - 1;
        there = let n = length-set views id both in let m = length-set mid other nobody in let t = led.there in omega arith;
        fits = fits_set led.lead (v.out - 1) other mid nobody
            (λ j u _ e. fits_set led.lead (v.out - 1) id views both
            (λ i y far e'. let g = led.fits i y e' in record { leads = λ is. absurd (far (is ∙ sym here)); follows = g.follows; empty = g.empty })
            record { leads = λ _. (leads, lasts.1, refl); follows = λ n. absurd (n here); empty = λ spent. absurd (off (sym lasts.1 ∙ spent)) }
            j u e)
            record { leads = λ is. absurd (away is); follows = λ _. (refl, refl); empty = λ _. refl };
        count = omega arith;
      };
    }

-- ---- the table at the end
spent_if : (b : Bool) → one_unspent b ≡ 0 → b ≡ true
spent_if true e = refl
spent_if false e = absurd (omega arith)

all_spent : (p : ℕ) (views : List View) → unspent views ≡ 0 → ((id : ℕ) (v : View) → get_elem? views id ≡ some v → v.spent ≡ true → v.marks ≡ []) → marks_at p views ≡ 0
all_spent p [] none_left empty = refl
all_spent p (x ∷ xs) none_left empty =
    let m : times p x.marks ≡ 0 = ap (times p) (empty 0 x refl (spent_if x.spent (omega arith))) in
    let r = all_spent p xs (omega arith) (λ id. empty (suc id)) in omega arith

empty_set : (views : List View) (id : ℕ) → ((j : ℕ) (u : View) → get_elem? views j ≡ some u → u.spent ≡ true → u.marks ≡ []) → (j : ℕ) (u : View) → get_elem? (set views id nobody) j ≡ some u → u.spent ≡ true → u.marks ≡ []
empty_set views id empty j u e spent = ⊎_elim
    (λ (x : (j ≡ id) × (nobody ≡ u)). ap (λ (y : View). y.marks) (sym x.1))
    (λ (x : (j ≢ id) × (get_elem? views j ≡ some u)). empty j u x.1 spent)
    (at_set views id j nobody u e)

pub ends : (ws : List ℕ) (xs : List (Unit {0})) (id : ℕ) (v : View) → v.lead ≡ true → v.out ≡ 0 → Final {S = Unit {0}} (Seen IsMarking id v) ws xs
    → (word bit : ℕ) → word < length ws → bit < 64 → IsSet ws word bit ↔ Contains v.marks (64 * word + bit)
ends ws xs id v leads none_out (s, seen, words, _, _) word bit below small =
    let led = seen.0.led in
    let at = seen.1 in
    let f = led.fits id v at in
    let lasts = f.leads (lead_is led.lead led.out id v f leads) in
    let p : ℕ = 64 * word + bit in
    let c = led.count in
    let o : v.out ≡ led.out = lasts.2 in
    let lead_one = one_of v.spent lasts.1 in
    let sum = total_set (λ u. one_unspent u.spent) s.views id v nobody at in
    let rest = all_spent p (set s.views id nobody) (omega arith) (empty_set s.views id (λ j u e. (led.fits j u e).empty)) in
    let sum' = total_set (λ u. times p u.marks) s.views id v nobody at in
    let h = seen.0.bits word bit (subst (λ (l : List ℕ). word < length l) (sym words) below) small in
    let is : IsSet s.words word bit ↔ Contains v.marks p = (
      (λ is. let m = marked_from p s.views (h.0 is) in times_to p v.marks (omega arith)),
      (λ has. let m = times_from p v.marks has in h.1 (marked_to p s.views (omega arith))),
    ) in
    subst (λ (l : List ℕ). IsSet l word bit ↔ Contains v.marks p) words is
