use Rattle.std.proofs.Common.{refl, ◌≡◌, ◌∙◌, ◌<◌, ◌+◌, ◌-◌, ◌^◌, ◌++◌, ◌∷◌, [], suc, length, ap, ap₂, sym, subst, arith}
use Rattle.std.proofs.lemmas.List.{length-append}
use Rattle.std.proofs.lemmas.Result.{err_from_is_err_and}
use Rattle.qm_merkle.specs.Mems.{Kept, IsWhole, Stands, more}
use Rattle.qm_merkle.proofs.Growth.{stands-grown, grown-fields}
use Rattle.qm_merkle.proofs.mem.Mem.add.Goals as goal

pub invariant_of-self-2 : goal.invariant_of-self-2
invariant_of-self-2 g c =
    let shape = g.F.Family.shape in
    let inside = c.self.inside in
    let whole = c.self.invariant.1 in
    let next : c.new-self-inside.result ≡ suc inside.leaves = omega (arith, c.new-self-inside.ensures) in
    let few : inside.leaves < 2 ^ 62 = omega (arith, c.requires, ap (λ k. k.leaves) c.self.view_is) in (
      c.self.invariant.0,
      record {
        order = omega (arith, whole.order);
        few = omega arith;
        pinned = whole.pinned;
        full = omega (
          arith,
          whole.full,
          ap length c.in_ok-extend_from_slice.ensures.items,
          length-append inside.nodes.items c.deref.result.now,
          ap length c.deref.ensures.value,
          c.in_ok-births.ensures.count,
          ap (λ k. g.F.Family.births.count k.leaves) c.self.view_is,
          g.met.F.Family.numbered.sized inside.leaves,
          ap shape.size next,
        );
      },
    )

pub returns-in_err-births : goal.returns-in_err-births
returns-in_err-births g c =
    let exit = err_from_is_err_and c.from_residual.result c.from_residual.ensures.1 in
    record {
      bounds = rw exit.1 tt;
      stands = λ leaves stands. rw exit.1 tt;
      made = rw exit.1 tt;
      err = rw exit.1 refl;
    }

pub returns-in_err-extend_from_slice-clause-bounds : goal.returns-in_err-extend_from_slice-clause-bounds
returns-in_err-extend_from_slice-clause-bounds g c = let exit = err_from_is_err_and c.from_residual-in_err-extend_from_slice.result c.from_residual-in_err-extend_from_slice.ensures.1 in rw exit.1 tt

pub returns-in_err-extend_from_slice-clause-stands : goal.returns-in_err-extend_from_slice-clause-stands
returns-in_err-extend_from_slice-clause-stands g c = λ leaves stands. let exit = err_from_is_err_and c.from_residual-in_err-extend_from_slice.result c.from_residual-in_err-extend_from_slice.ensures.1 in rw exit.1 tt

pub returns-in_err-extend_from_slice-clause-made : goal.returns-in_err-extend_from_slice-clause-made
returns-in_err-extend_from_slice-clause-made g c = let exit = err_from_is_err_and c.from_residual-in_err-extend_from_slice.result c.from_residual-in_err-extend_from_slice.ensures.1 in rw exit.1 tt

pub returns : goal.returns
returns g c = record {
  bounds = (ap (λ k. k.start) c.self.view_is, omega (arith, c.new-self-inside.ensures, ap (λ k. k.leaves) c.self.view_is));
  made =
      let kept = c.args.self.now in
      let one : kept.leaves + 1 ≡ suc kept.leaves = omega arith in
      let brought : length c.births.new.buffer.items ≡ g.F.Family.shape.size (kept.leaves + 1) - g.F.Family.shape.size kept.leaves =
      omega (arith, c.in_ok-births.ensures.count, g.met.F.Family.numbered.sized kept.leaves, ap g.F.Family.shape.size one) in
      c.in_ok-births.ensures.made ∙ ap (λ n. more c.args.hasher.now (n - 1)) brought;
  stands = λ leaves stands.
      let shape = g.F.Family.shape in
      let bytes = g.D.Digest.bytes in
      let kept = c.args.self.now in
      let whole = subst (IsWhole shape) c.self.view_is c.self.invariant.1 in
      let next : Kept g.row.D.Denot = record { start = c.self.inside.start; leaves = c.new-self-inside.result; pins = c.self.inside.pins.items; nodes = c.extend_from_slice.new.self.items } in
      let leaves_is : kept.leaves ≡ c.self.inside.leaves = ap (λ k. k.leaves) (sym c.self.view_is) in
      let is = grown-fields kept c.births.new.buffer.items next (ap (λ k. k.start) (sym c.self.view_is)) (omega (arith, c.new-self-inside.ensures)) (ap (λ k. k.pins) (sym c.self.view_is))
      (ap₂ (λ xs ys. xs ++ ys) (ap (λ k. k.nodes) (sym c.self.view_is)) (sym c.deref.ensures.value) ∙ sym c.in_ok-extend_from_slice.ensures.items) in
      subst (λ k. Stands shape bytes g.H.Hasher.hash k (leaves ++ bytes c.args.leaf ∷ [])) is
      (stands-grown shape g.F.Family.births g.met.F.Family.numbered g.met.F.Family.peaked bytes g.H.Hasher.hash kept whole leaves stands c.args.leaf c.births.new.buffer.items c.in_ok-births.ensures.count (c.in_ok-births.ensures.born leaves stands));
  err = tt;
}
