use Rattle.std.proofs.Common.{◌≡◌, ◌≤◌, ◌<◌, ◌^◌, arith, sym, ◌∙◌, le_refl, ⊎_elim}
use Rattle.std.proofs.lemmas.Bool.{cases_lt}
use Rattle.qm_merkle.proofs.Numbering.{sizes, sizes_tell, same_size}
use Rattle.qm_merkle.proofs.mem.leaves_past.Goals as goal

pub location_to_position-requires : goal.location_to_position-requires
location_to_position-requires g c =
    let r = c.requires in
    omega (arith, r.1, sizes_tell g.F.Family.shape g.F.Family.births g.met.F.Family.numbered c.args.start r.0 (omega (arith, r.2)))

pub leaves-init : goal.leaves-init
leaves-init g c = record {
  from = omega arith;
  few = le_refl (2 ^ 62);
  between = λ n is few. (omega (arith, sizes_tell g.F.Family.shape g.F.Family.births g.met.F.Family.numbered c.args.start n (omega arith)), few);
}

pub location_to_position-requires-in-leaves : goal.location_to_position-requires-in-leaves
location_to_position-requires-in-leaves g c = omega (arith, c.new.ensures, c.leaves.invariant.few)

pub overflow_sub-get : goal.overflow_sub-get
overflow_sub-get g c =
    let up : c.args.start ≤ c.new.result = omega (arith, c.new.ensures, c.leaves.invariant.from) in
    omega (arith, sizes g.F.Family.shape g.F.Family.births g.met.F.Family.numbered c.args.start c.new.result up, c.location_to_position.ensures.size, c.location_to_position-in-leaves.ensures.size)

pub leaves-preserved-then-get-before : goal.leaves-preserved-then-get-before
leaves-preserved-then-get-before g c = record {
  from = omega (arith, c.leaves.invariant.from);
  few = c.leaves.invariant.few;
  between = λ n is few.
      let up : c.args.start ≤ c.new.result = omega (arith, c.new.ensures, c.leaves.invariant.from) in
      let before = sizes g.F.Family.shape g.F.Family.births g.met.F.Family.numbered c.args.start c.new.result up in
      let above : c.new.result < n = ⊎_elim (λ (lt : c.new.result < n). lt)
      (λ (le : n ≤ c.new.result). absurd (omega (arith, sizes g.F.Family.shape g.F.Family.births g.met.F.Family.numbered n c.new.result le, c.location_to_position.ensures.size, c.location_to_position-in-leaves.ensures.size)))
      (cases_lt c.new.result n) in
      let old = c.leaves.invariant.between n is few in
      (omega (arith, c.new.ensures), old.1);
}

pub leaves-preserved : goal.leaves-preserved
leaves-preserved g c = record {
  from = c.leaves.invariant.from;
  few = omega (arith, c.leaves.invariant.few);
  between = λ n is few.
      let up : c.args.start ≤ c.new.result = omega (arith, c.new.ensures, c.leaves.invariant.from) in
      let before = sizes g.F.Family.shape g.F.Family.births g.met.F.Family.numbered c.args.start c.new.result up in
      let old = c.leaves.invariant.between n is few in
      (old.0, omega (arith, c.new.ensures, sizes_tell g.F.Family.shape g.F.Family.births g.met.F.Family.numbered n c.new.result (omega (arith, c.location_to_position.ensures.size, c.location_to_position-in-leaves.ensures.size))));
}

pub returns : goal.returns
returns g c = λ n is.
    let r = c.requires in
    let same : n ≡ r.0 = same_size g.F.Family.shape g.F.Family.births g.met.F.Family.numbered n r.0 (is ∙ sym r.2) in
    let found = c.leaves.invariant.between r.0 r.2 r.1 in
    omega (arith, found.0, found.1, c.new-2.ensures)
