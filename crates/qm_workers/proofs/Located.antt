-- Which locations stand once one of them was taken out, or another put in.
use Rattle.std.proofs.Common.{◌≡◌, ◌≢◌, ◌⊎◌, ⊎_elim, inl, inr, ℕ, Bool, true, false, List, refl, ap, sym, ◌∙◌, Option, Some, None}
use Rattle.std.specs.Prelude.{Contains}
use Rattle.std.specs.declared.cmp.Ordering.{Ordering}
use Rattle.std.specs.declared.cmp.Ordering.TheVariants.{Less, Equal, Greater}
use Rattle.std.specs.Ordering.{nat_cmp, is_eq}
use Rattle.std.specs.BTreeMap.{is_at}
use Rattle.std.specs.BTreeSet.{BTreeSet, contains, UpdatesBy}
use Rattle.std.specs.Cmp.{nat_cmp_total}
use Rattle.std.proofs.lemmas.Bool.{true≢false, cases_eq}
use Rattle.std.proofs.lemmas.Map.Lookups.{exact_unsigned}
use Rattle.std.proofs.lemmas.Map.Views.{btree_set_contains_iff}
use Rattle.std.proofs.lemmas.Option.{same_Some, none-some}
use Rattle.qm_workers.specs.Working.{IsReplaced}

has : (s : BTreeSet ℕ) (n : ℕ) → Contains s.keys n → contains nat_cmp s n ≡ true
has s n inside = (btree_set_contains_iff nat_cmp_total exact_unsigned s n).1 inside

inside : (s : BTreeSet ℕ) (n : ℕ) → contains nat_cmp s n ≡ true → Contains s.keys n
inside s n is = (btree_set_contains_iff nat_cmp_total exact_unsigned s n).0 is

-- a query finds its own number alone
its-own : (at n : ℕ) → is_at (nat_cmp at) n ≡ true → at ≡ n
its-own at n is = exact_unsigned at n (by (nat_cmp at n) is)
  where
    by : (o : Ordering) → is_eq o ≡ true → o ≡ Equal
    by Less is = cc
    by Equal is = refl
    by Greater is = cc

else-same : (s n : BTreeSet ℕ) (at q : ℕ) (b : Bool) → UpdatesBy nat_cmp (nat_cmp at) s n b → (at ≡ q → ⊥) → contains nat_cmp n q ≡ contains nat_cmp s q
else-same s n at q b updates other = by (is_at (nat_cmp at) q) refl
  where
    by : (t : Bool) → is_at (nat_cmp at) q ≡ t → contains nat_cmp n q ≡ contains nat_cmp s q
    by true is = absurd (other (its-own at q is))
    by false is = updates.2 q is

pub same : (found : Option ℕ) (xs : List ℕ) → found ≡ None → IsReplaced found None xs xs
same found xs none = record {
  there = λ at is. absurd (none-some at is);
  kept = λ at had other. had;
  from = λ at had. inr (had, λ is. none-some at (sym none ∙ is));
}

pub removed : (s n : BTreeSet ℕ) (at : ℕ) → UpdatesBy nat_cmp (nat_cmp at) s n false → IsReplaced (Some at) None s.keys n.keys
removed s n at updates = record {
  there = λ q is. absurd (none-some q is);
  kept = λ q had other. inside n q (else-same s n at q false updates (λ e. other (ap Some e)) ∙ has s q had);
  from = λ q had. inr (by q had);
}
  where
    gone : (q : ℕ) → Contains n.keys q → at ≡ q → ⊥
    gone q had e = true≢false (sym (has n q had) ∙ ap (contains nat_cmp n) (sym e) ∙ updates.1)

    by : (q : ℕ) → Contains n.keys q → Contains s.keys q × (Some at ≢ Some q)
    by q had = (inside s q (sym (else-same s n at q false updates (gone q had)) ∙ has n q had), λ is. gone q had (same_Some at q is))

pub put : (s n : BTreeSet ℕ) (at : ℕ) → UpdatesBy nat_cmp (nat_cmp at) s n true → IsReplaced None (Some at) s.keys n.keys
put s n at updates = record {
  there = λ q is. inside n q (ap (contains nat_cmp n) (sym (same_Some at q is)) ∙ updates.1);
  kept = λ q had other. by q had (cases_eq at q);
  from = λ q had. back q had (cases_eq at q);
}
  where
    by : (q : ℕ) → Contains s.keys q → (at ≡ q) ⊎ (at ≡ q → ⊥) → Contains n.keys q
    by q had (inl e) = inside n q (ap (contains nat_cmp n) (sym e) ∙ updates.1)
    by q had (inr other) = inside n q (else-same s n at q true updates other ∙ has s q had)

    back : (q : ℕ) → Contains n.keys q → (at ≡ q) ⊎ (at ≡ q → ⊥) → (Some at ≡ Some q) ⊎ (Contains s.keys q × (None ≢ Some q))
    back q had (inl e) = inl (ap Some e)
    back q had (inr other) = inr (inside s q (sym (else-same s n at q true updates other) ∙ has n q had), λ is. none-some q is)

-- one was taken out, and then another put in
pub then : (found now : Option ℕ) (a b c : List ℕ) → IsReplaced found None a b → IsReplaced None now b c → IsReplaced found now a c
then found now a b c first second = record {
  there = second.there;
  kept = λ at had other. second.kept at (first.kept at had other) (λ is. none-some at is);
  from = λ at had. ⊎_elim (λ own. inl own) (λ before. ⊎_elim (λ is. absurd (none-some at is)) (λ kept. inr kept) (first.from at before.0)) (second.from at had);
}
