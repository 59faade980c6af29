use Rattle.std.proofs.Common.{◌≡◌, ◌∙◌, ◌∷◌, ◌++◌, [], ap, arith, length, sym}
use Rattle.qm_index.specs.Held.{values_in}
use Rattle.qm_index.proofs.bucket.with_one_more.Goals as goal

pub push_reserved-requires : goal.push_reserved-requires
push_reserved-requires g c = omega (arith, c.in-Ok.ensures.len, c.in-Ok.ensures.capacity)

pub push_reserved-requires-in-Ok : goal.push_reserved-requires-in-Ok
push_reserved-requires-in-Ok g c = omega (arith, c.in-Ok.ensures.len, c.in-Ok.ensures.capacity, c.push_reserved.ensures.len, c.push_reserved.ensures.capacity)

pub returns-in-Ok : goal.returns-in-Ok
returns-in-Ok g c =
    let both : c.push_reserved-in-Ok.new.self.items ≡ c.in-One.first ∷ c.args.value ∷ [] =
    c.push_reserved-in-Ok.ensures.items ∙ ap (λ xs. xs ++ c.args.value ∷ []) (c.push_reserved.ensures.items ∙ ap (λ xs. xs ++ c.in-One.first ∷ []) c.in-Ok.ensures.items) in
    record {
      held = omega (arith, ap length both);
      ok = both ∙ ap (λ h. values_in h ++ c.args.value ∷ []) (sym c.in-One.is);
      err = tt;
    }

pub returns-in-Err : goal.returns-in-Err
returns-in-Err g c = record {
  held = tt;
  ok = tt;
  err = ap values_in (sym c.in-One.is);
}
