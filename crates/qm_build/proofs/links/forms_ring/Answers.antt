use Rattle.std.proofs.Common.{◌≡◌, ◌<◌, ◌≤◌, ap, sym, subst, arith, Some, ℕ, Vec, Global, inl, refl}
use Rattle.std.proofs.lemmas.Result.{err_from_is_err_and}
use Rattle.std.specs.Prelude.{IfSome, filter_map}
use Rattle.qm_operations.specs.Views.{operation_view}
use Rattle.qm_model.specs.Opening.{is_ring}
use Rattle.qm_build.specs.Linked.{AreLinks}
use Rattle.qm_build.specs.Reads.{operation_at, items_within}
use Rattle.qm_build.proofs.Reading.{read-none, read-then, error-then}
use Rattle.qm_build.proofs.Decoding.{each, over, then-told, one-undecoded}
use Rattle.qm_build.proofs.Linking.{links-none}
use Rattle.qm_build.proofs.Onward.{three, none-within, one-within}
use Rattle.qm_build.proofs.links.forms_ring.Goals as goal

pub loop-at-init : goal.loop-at-init
loop-at-init g c = record {
  read = read-none g.C.Store g.F.Family.shape g.H.Digest.Digest.bytes g.H.Hasher.hash c.args.log.now;
  low = omega arith;
  links = each (g.C.Store.told c.args.log.now.store) (λ s.
      subst (AreLinks (λ (v : Vec ℕ Global). v.items) c.new-links.result.entries) (sym (ap (filter_map (λ item. item)) (none-within g.U.Update.form s c.args.from)))
      (links-none (λ (v : Vec ℕ Global). v.items) c.new-links.result.entries c.new-links.ensures.empty));
}

pub loop-at-preserved : goal.loop-at-preserved
loop-at-preserved g c =
    let members = g.C.Store in
    let shape = g.F.Family.shape in
    let bytes = g.H.Digest.Digest.bytes in
    let hash = g.H.Hasher.hash in
    let form = g.U.Update.form in
    let before = c.loop-at.invariant.read in
    let low = c.loop-at.invariant.low in
    let op = operation_view g.U.Update.view g.U.Key.ByteString.bytes g.U.Value.ByteString.bytes c.in_ok-operation.operation in
    record {
      read = read-then members shape bytes hash c.args.log.now c.loop-at.log c.read_operation.new.log before c.read_operation.ensures.read;
      low = omega (arith, low);
      links =
          three (members.told c.args.log.now.store) c.loop-at.invariant.links
          (subst (λ o. IfSome o (λ s. operation_at form s c.loop-at.at ≡ Some op)) before.kept.told c.in_ok-operation.ensures.held)
          (g.met.C.Store.told_start c.args.log.now.store)
          (λ s are here start.
          let first : s.start ≤ c.args.from = omega (arith, start, c.bounds-size.ensures.first, c.requires.kept) in
          subst (AreLinks (λ (v : Vec ℕ Global). v.items) c.put.new.links.entries) (sym (one-within form s c.args.from c.loop-at.at op first low here))
          (c.in_ok-put.ensures (filter_map (λ item. item) (items_within form s c.args.from c.loop-at.at)) are));
    }

pub returns : goal.returns
returns g c = record {
  ring =
      let last : c.loop-at.at ≡ c.args.log.now.tree.leaves = omega (arith, c.loop-at.auto.at-end, c.loop-at-test.false, c.bounds-size.ensures.size) in
      then-told (g.C.Store.told c.args.log.now.store) c.loop-at.invariant.links (λ s _ are.
      subst (λ to. c.is_closed.result ≡ is_ring (filter_map (λ item. item) (items_within g.U.Update.form s c.args.from to))) last
      (c.is_closed.ensures (filter_map (λ item. item) (items_within g.U.Update.form s c.args.from c.loop-at.at)) are));
  corrupt = each (g.C.Store.told c.args.log.now.store) (λ s. tt);
  read = c.loop-at.invariant.read;
  error = tt;
}

pub returns-in_err-operation : goal.returns-in_err-operation
returns-in_err-operation g c =
    let exit = err_from_is_err_and c.from_residual.result c.from_residual.ensures.1 in
    record {
      ring = rw exit.1 tt;
      corrupt =
          let form = g.U.Update.form in
          let at = c.loop-at.at in
          rw (exit.1, exit.2) (over (g.C.Store.told c.args.log.now.store) (g.C.Store.told c.loop-at.log.store) c.loop-at.invariant.read.kept.told c.in_err-operation.ensures.corrupt (g.met.C.Store.told_start c.args.log.now.store) (λ s corrupt start is.
          let low : s.start ≤ c.args.from = omega (arith, start, c.bounds-size.ensures.first, c.requires.kept) in
          let less : at < c.args.log.now.tree.leaves = omega (arith, c.loop-at-test.true, c.bounds-size.ensures.size) in
          one-undecoded form s c.args.from c.args.log.now.tree.leaves at low c.loop-at.invariant.low less (corrupt is)));
      read = read-then g.C.Store g.F.Family.shape g.H.Digest.Digest.bytes g.H.Hasher.hash c.args.log.now c.loop-at.log c.read_operation.new.log c.loop-at.invariant.read c.read_operation.ensures.read;
      error = rw (exit.1, exit.2) (error-then g.C.Store g.F.Family.shape g.H.Digest.Digest.bytes g.H.Hasher.hash c.args.log.now c.loop-at.log c.read_operation.new.log _ c.loop-at.invariant.read c.in_err-operation.ensures.error);
    }

pub returns-in_err-put : goal.returns-in_err-put
returns-in_err-put g c =
    let told = g.C.Store.told c.args.log.now.store in
    let exit = err_from_is_err_and c.from_residual-in_err-put.result c.from_residual-in_err-put.ensures.1 in
    rw (exit.1, exit.2) (record {
      ring = tt;
      corrupt = each told (λ s is. absurd cc);
      read = read-then g.C.Store g.F.Family.shape g.H.Digest.Digest.bytes g.H.Hasher.hash c.args.log.now c.loop-at.log c.read_operation.new.log c.loop-at.invariant.read c.read_operation.ensures.read;
      error = inl (inl refl);
    })
