use Rattle.std.proofs.Common.{◌≡◌, ◌∙◌, ◌<◌, All, Some, ap, arith, length, subst}
use Rattle.std.specs.Ordering.{nat_cmp}
use Rattle.std.specs.List.Sorted.{IsStrictlySortedBy}
use Rattle.std.specs.Map.{keys_of}
use Rattle.std.proofs.lemmas.Result.{err_from_is_err_and}
use Rattle.qm_model.specs.Trees.{leaf}
use Rattle.qm_merkle.specs.Batches.{found_at}
use Rattle.qm_merkle.proofs.Rows.{taken-start, taken-more, taken-absent, taken-before, taken-over, taken-row, taken-right}
use Rattle.qm_merkle.proofs.batch.UnmerkleizedBatch.replaced_leaves.Given
use Rattle.qm_merkle.proofs.batch.UnmerkleizedBatch.replaced_leaves.Goals as goal

pub loop-location-init : goal.loop-location-init
loop-location-init g c =
    let is : c.self.inside.replaced.entries ≡ c.args.self.now.replaced = ap (λ d. d.replaced) c.self.view_is in
    let gives = c.into_iter-location-iterator.ensures.into_iter_gives in
    record {
      taken = taken-start (gives.0 ∙ is) (subst (λ es. All (λ e. found_at es e.0 ≡ Some e.1) es) is gives.6) (subst (λ es. IsStrictlySortedBy nat_cmp (keys_of es)) is gives.5) c.requires c.in_ok-row.ensures.items;
      room = omega (arith, c.in_ok-row.ensures.exact, c.len.ensures.len, ap length is);
    }

pub location_to_position-position-requires : goal.location_to_position-position-requires
location_to_position-position-requires g c =
    let early = taken-before g.met.F.Family.numbered c.loop-location.invariant.taken c.in-Some.ensures.steps c.args.self.now.base (subst (λ d. All (λ e. e.0 < d.base) d.replaced) c.self.view_is c.self.invariant.2) in
    omega (arith, early, c.new.ensures, c.self.invariant.1, ap (λ d. d.base) c.self.view_is)

pub loop-location-preserved : goal.loop-location-preserved
loop-location-preserved g c =
    let at : c.get.result ≡ g.F.Family.shape.position (leaf c.in-Some.location.now) = c.get.ensures ∙ c.location_to_position-position.ensures.place ∙ ap (λ n. g.F.Family.shape.position (leaf n)) c.new.ensures in
    record {
      taken = taken-more g.met.F.Family.numbered c.loop-location.invariant.taken c.in-Some.ensures.steps at
          c.in_ok-replace.ensures.here c.in_ok-replace.ensures.other c.push_reserved.ensures.items
          (c.in_ok-replace.ensures.count (taken-absent g.met.F.Family.numbered c.loop-location.invariant.taken c.in-Some.ensures.steps at));
      room = c.push_reserved.ensures.capacity ∙ c.loop-location.invariant.room;
    }

pub push_reserved-requires : goal.push_reserved-requires
push_reserved-requires g c =
    let taken = c.loop-location.invariant.taken in
    omega (arith, taken.count, taken.rows, ap length c.in-Some.ensures.steps, c.loop-location.invariant.room, ap (λ d. length d.replaced) c.self.view_is, c.loop-location.row.ok.0)

below : (g : Given.Over) (c : goal.In-None g) → All (λ e. e.0 < c.args.self.now.base) c.args.self.now.replaced
below g c = subst (λ d. All (λ e. e.0 < d.base) d.replaced) c.self.view_is c.self.invariant.2

pub returns : goal.returns
returns g c = record {
  few = omega (arith, c.self.invariant.1, ap (λ d. d.base) c.self.view_is);
  own = taken-over g.met.F.Family.numbered c.loop-location.invariant.taken c.in-None.ensures.steps.0 c.args.self.now.base (below g c);
  row = taken-row g.met.F.Family.numbered c.loop-location.invariant.taken c.in-None.ensures.steps.0 c.args.self.now.base (below g c);
  digests = taken-right g.met.F.Family.numbered c.loop-location.invariant.taken c.in-None.ensures.steps.0 c.args.self.now.base (below g c);
  count = omega (arith, c.loop-location.invariant.taken.count, ap length c.in-None.ensures.steps.0);
  rows = omega (arith, c.loop-location.invariant.taken.rows, c.loop-location.invariant.taken.count, ap length c.in-None.ensures.steps.0);
}

pub returns-in_err-row : goal.returns-in_err-row
returns-in_err-row g c =
    let exit = err_from_is_err_and c.from_residual.result c.from_residual.ensures.1 in
    record {
      few = omega (arith, c.self.invariant.1, ap (λ d. d.base) c.self.view_is);
      own = rw exit.1 tt;
      row = rw exit.1 tt;
      digests = λ bytes hash list count. rw exit.1 tt;
      count = rw exit.1 tt;
      rows = rw exit.1 tt;
    }

pub returns-in_err-replace : goal.returns-in_err-replace
returns-in_err-replace g c =
    let exit = err_from_is_err_and c.from_residual-in_err-replace.result c.from_residual-in_err-replace.ensures.1 in
    record {
      few = omega (arith, c.self.invariant.1, ap (λ d. d.base) c.self.view_is);
      own = rw exit.1 tt;
      row = rw exit.1 tt;
      digests = λ bytes hash list count. rw exit.1 tt;
      count = rw exit.1 tt;
      rows = rw exit.1 tt;
    }
