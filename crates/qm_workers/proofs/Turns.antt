-- Operations in a row, and a turn of them.
use Rattle.std.proofs.Common.{◌≡◌, ◌⊎◌, inl, inr, ℕ, zero, suc, ◌+◌, ◌*◌, ◌^◌, ◌≤◌, List, [], ◌∷◌, length, refl, ap, sym, ◌∙◌, subst, None, arith}
use Rattle.qm_model.specs.Operations.{Bytes}
use Rattle.qm_workers.specs.Working.{Move, Work, left_of, asked, Goes, Stays}

module _ (index_key : Bytes → ℕ) where
  pub goes-same : (a b : Work) → b ≡ a → Goes index_key a b
  goes-same a b same = subst (Goes index_key a) (sym same) (record { failed = λ no_more. no_more; within = λ no_more from to within. within; done = λ no_more ops final most bound has. has })

  pub goes-then : (a b c : Work) → Goes index_key a b → Goes index_key b c → Goes index_key a c
  goes-then a b c first second = record {
    failed = λ no_more. first.failed (second.failed no_more);
    within = λ no_more from to within. second.within no_more from to (first.within (second.failed no_more) from to within);
    done = λ no_more ops final most bound has. second.done no_more ops final most bound (first.done (second.failed no_more) ops final most bound has);
  }

  -- who has operations left has at least so much to do
  left-least : (w : Work) → length w.coming * 2 ^ 64 ≤ left_of index_key w
  left-least w = by w.coming refl
    where
      by : (ms : List Move) → w.coming ≡ ms → length w.coming * 2 ^ 64 ≤ left_of index_key w
      by [] is = subst (λ ms. length ms * 2 ^ 64 ≤ left_of index_key (record w { coming = ms })) (sym is) (omega arith)
      by (m ∷ ms) is = subst (λ ms. length ms * 2 ^ 64 ≤ left_of index_key (record w { coming = ms })) (sym is) (omega arith)

  pub left-none : (w : Work) → w.coming ≡ [] → left_of index_key w ≡ 0
  left-none w is = ap (λ ms. left_of index_key (record w { coming = ms })) is

  pub none-left : (ms : List Move) → length ms ≡ 0 → ms ≡ []
  none-left [] is = refl
  none-left (m ∷ ms) is = absurd (omega (arith, is))

  -- a turn that ends when nothing can be done has no more left
  pub turn-less : (old at new : Work) (n : ℕ) → length at.coming + n ≡ length old.coming → (n ≡ 0 → at ≡ old) → (new.coming ≡ []) ⊎ Stays index_key at new → left_of index_key new ≤ left_of index_key old
  turn-less old at new n long start (inl none) = let e = left-none new none in omega (arith, e)
  turn-less old at new zero long start (inr stays) = let e = ap (left_of index_key) (stays.same ∙ start refl) in omega (arith, e)
  turn-less old at new (suc n) long start (inr stays) =
      let least = left-least old in
      let few = stays.few in
      let same = ap (λ (w : Work). length w.coming) stays.same in
      omega (arith, least, few, long, same)

  pub turn-quiet : (at new : Work) → (new.coming ≡ []) ⊎ Stays index_key at new → asked index_key new ≡ None → new.coming ≡ []
  turn-quiet at new (inl none) quiet = none
  turn-quiet at new (inr stays) quiet = absurd (stays.asks quiet)
