use Rattle.std.proofs.Common.{◌≡◌, ℕ, ◌+◌, ◌-◌, ◌^◌, ◌<◌, ◌≤◌, ◌∙◌, ap, sym, subst, length, set, true, arith, Some, inl, refl}
use Rattle.std.proofs.Math.ListN.{length-set}
use Rattle.std.proofs.lemmas.List.{length-map}
use Rattle.std.proofs.lemmas.Result.{err_from_is_err_and}
use Rattle.qm_model.specs.Forms.{spelling}
use Rattle.qm_model.proofs.Results.{told-any}
use Rattle.qm_operations.specs.Views.{operation_view}
use Rattle.qm_store.proofs.Stores.{both}
use Rattle.std.proofs.lemmas.Option.{none-some}
use Rattle.qm_build.specs.Cached.{given}
use Rattle.qm_model.specs.Operations.{Operation}
use Rattle.qm_build.specs.Reads.{SpellsAt, Spells, operations_within}
use Rattle.qm_build.specs.Building.{ArePlaced, between}
use Rattle.qm_build.specs.Built.{NoneBelow, IsBuilt, IsRebuilt}
use Rattle.qm_build.proofs.Reading.{decodes-anyway, read-none, read-then, fault-then, error-then, operations-then, told}
use Rattle.qm_build.proofs.Within.{within-none}
use Rattle.qm_build.proofs.Spelling.{from-told, use-told, at-told, there-is, same-spelled, spelled-some, spelled-more, padded, padded-drop, store-spells, list-spells}
use Rattle.qm_build.proofs.Whole.{placed-none, built, rebuilt}
use Rattle.qm_build.proofs.Decoding.{each, over, all-decoded, one-undecoded}
use Rattle.qm_build.proofs.build.build_snapshot.Goals as goal

pub loop-at-init : goal.loop-at-init
loop-at-init g c = record {
  read = read-none g.C.Store g.F.Family.shape g.H.Digest.Digest.bytes g.H.Hasher.hash c.args.log.now;
  here = omega (arith, ap length c.new-2.ensures);
  within = within-none (g.I.Unordered.entries c.args.index.now) c.get-floor.result c.get-floor.result c.requires.empty;
  counted = omega arith;
  placed = λ ops size.
      each (g.C.Store.told c.args.log.now.store) (λ s spells. (
        (subst (λ bits. ArePlaced g.I.Unordered.index_key (g.I.Unordered.entries c.args.index.now) 0 bits c.get-floor.result (between c.get-floor.result c.get-floor.result ops)) (sym c.new-2.ensures)
            (placed-none g.I.Unordered.index_key (g.I.Unordered.entries c.args.index.now) c.get-floor.result ops c.requires.empty)),
        (λ at key is. absurd (none-some key (ap (λ v. given v at) (sym c.in_ok-cache.ensures) ∙ is))),
      ));
  decode = each (g.C.Store.told c.args.log.now.store) (λ s i low less. absurd (omega (arith, low, less)));
}

pub loop-at-preserved : goal.loop-at-preserved
loop-at-preserved g c =
    let members = g.C.Store in
    let shape = g.F.Family.shape in
    let bytes = g.H.Digest.Digest.bytes in
    let hash = g.H.Hasher.hash in
    let form = g.U.Update.form in
    let before = c.loop-at.invariant.read in
    let read = read-then members shape bytes hash c.args.log.now c.loop-at.log c.read_operation.new.log before c.read_operation.ensures.read in
    record {
      read = read-then members shape bytes hash c.args.log.now c.read_operation.new.log c.put.new.log read c.put.ensures.read;
      here = omega (arith, c.loop-at.invariant.here, c.in_ok-put.ensures.long);
      within = c.in_ok-put.ensures.within;
      counted = c.in_ok-put.ensures.counted;
      placed = λ ops size.
          let view = operation_view g.U.Update.view g.U.Key.ByteString.bytes g.U.Value.ByteString.bytes c.in_ok-operation.operation in
          let at = c.loop-at.at in
          let low : c.get-floor.result ≤ at = omega (arith, c.loop-at.invariant.here) in
          let own = there-is ops at (omega (arith, size, c.loop-at-test.true, c.bounds-size.ensures.size)) in
          at-told (members.told c.args.log.now.store) (λ s is spells.
          let spelled = from-told (λ u. SpellsAt form u at view) (members.told c.loop-at.log.store) s (before.kept.told ∙ is) c.in_ok-operation.ensures.spelled in
          let here = own.1 ∙ ap Some (same-spelled form s at own.0 view (spells at own.0 low own.1) spelled) in
          use-told (members.told c.args.log.now.store) s is (c.loop-at.invariant.placed ops size) (λ t one before_it.
          let so_far = before_it (subst (λ u. Spells form u c.get-floor.result ops) (sym one) spells) in
          use-told (members.told c.read_operation.new.log.store) s (read.kept.told ∙ is) (c.in_ok-put.ensures.placed ops here so_far.0 so_far.1) (λ v other after_it.
          after_it (subst (λ u. Spells form u c.get-floor.result ops) (sym other) spells))));
      decode =
          over (members.told c.args.log.now.store) (members.told c.loop-at.log.store) before.kept.told c.in_ok-operation.ensures.spelled c.loop-at.invariant.decode
          (λ s here all. spelled-more form s c.get-floor.result c.loop-at.at (operation_view g.U.Update.view g.U.Key.ByteString.bytes g.U.Value.ByteString.bytes c.in_ok-operation.operation) all here);
    }

pub returns : goal.returns
returns g c = record {
  built = λ ops has none.
      let index_key = g.I.Unordered.index_key in
      let entries = g.I.Unordered.entries c.loop-at.index in
      let live = c.loop-at.snapshot.live in
      let floor = c.get-floor.result in
      let size = c.bounds-size.result.1 in
      let low : floor < size = omega (arith, c.get-floor.ensures, c.bounds-size.ensures.size, c.requires.below) in
      let all : size ≡ length ops = c.bounds-size.ensures.size ∙ has.logged.size ∙ length-map ops (spelling g.U.Update.form) in
      let last : c.loop-at.at ≡ size = omega (arith, c.loop-at.auto.at-end, c.loop-at-test.false) in
      let kept : c.args.log.now.tree.start ≤ floor = omega (arith, c.get-floor.ensures, c.requires.kept) in
      at-told (g.C.Store.told c.args.log.now.store) (λ s is.
      let start = from-told (λ u. u.start ≡ g.C.Store.start c.args.log.now.store) (g.C.Store.told c.args.log.now.store) s is (g.met.C.Store.told_start c.args.log.now.store) in
      let spells = list-spells g.C.Store g.F.Family.shape g.H.Digest.Digest.bytes g.H.Hasher.hash g.U.Update.form c.args.log.now ops s floor has is start kept in
      use-told (g.C.Store.told c.args.log.now.store) s is (c.loop-at.invariant.placed ops (sym c.bounds-size.ensures.size ∙ all)) (λ t same if_spelled.
      let placed = if_spelled (subst (λ u. Spells g.U.Update.form u floor ops) (sym same) spells) in
      subst (λ bits. IsBuilt index_key entries live bits c.args.floor ops) (sym c.set_bit.ensures)
      (subst (λ f. IsBuilt index_key entries live (set c.loop-at.snapshot.activity (size - floor - 1) true) f ops) c.get-floor.ensures
      (built index_key entries live c.loop-at.snapshot.activity floor size ops low all (subst (λ f. NoneBelow f ops) (sym c.get-floor.ensures) none)
      (subst (λ to. ArePlaced index_key entries live c.loop-at.snapshot.activity floor (between floor to ops)) last placed.0)))));
  rebuilt =
      let index_key = g.I.Unordered.index_key in
      let entries = g.I.Unordered.entries c.loop-at.index in
      let form = g.U.Update.form in
      let live = c.loop-at.snapshot.live in
      let floor = c.get-floor.result in
      let size = c.bounds-size.result.1 in
      let leaves = c.args.log.now.tree.leaves in
      let low : floor < size = omega (arith, c.get-floor.ensures, c.bounds-size.ensures.size, c.requires.below) in
      let last : c.loop-at.at ≡ size = omega (arith, c.loop-at.auto.at-end, c.loop-at-test.false) in
      at-told (g.C.Store.told c.args.log.now.store) (λ s is.
      let start = from-told (λ u. u.start ≡ g.C.Store.start c.args.log.now.store) (g.C.Store.told c.args.log.now.store) s is (g.met.C.Store.told_start c.args.log.now.store) in
      let first : s.start ≤ floor = omega (arith, start, c.bounds-size.ensures.first, c.requires.kept, c.get-floor.ensures) in
      let decode = from-told (λ u. (i : ℕ) → floor ≤ i → i < c.loop-at.at → (op : Operation) × SpellsAt form u i op) (g.C.Store.told c.args.log.now.store) s is c.loop-at.invariant.decode in
      let part = operations_within form s floor size in
      let all = store-spells form s floor size first (omega (arith, low)) (λ i more less. decode i more (omega (arith, less, last))) in
      use-told (g.C.Store.told c.args.log.now.store) s is (c.loop-at.invariant.placed (padded form s floor part) (sym c.bounds-size.ensures.size ∙ all.0)) (λ t same if_spelled.
      let placed = if_spelled (subst (λ u. Spells form u floor (padded form s floor part)) (sym same) all.1) in
      let made = rebuilt index_key entries live c.loop-at.snapshot.activity floor size (padded form s floor part) low all.0
      (subst (λ to. ArePlaced index_key entries live c.loop-at.snapshot.activity floor (between floor to (padded form s floor part))) last placed.0) in
      let whole = subst (IsRebuilt index_key entries live (set c.loop-at.snapshot.activity (size - floor - 1) true) floor) (padded-drop form s floor part) made in
      let marked = subst (λ bits. IsRebuilt index_key entries live bits floor part) (sym c.set_bit.ensures) whole in
      let ended = subst (λ to. IsRebuilt index_key entries live c.set_bit.new.self floor (operations_within form s floor to)) c.bounds-size.ensures.size marked in
      subst (λ f. IsRebuilt index_key entries live c.set_bit.new.self f (operations_within form s f leaves)) c.get-floor.ensures ended));
  decodes = λ ops has. told-any _ (g.C.Store.told c.args.log.now.store) tt;
  long =
      let same : length c.set_bit.new.self ≡ length c.loop-at.snapshot.activity = ap length c.set_bit.ensures ∙ simp length-set in
      (omega (arith, same, c.loop-at.invariant.here, c.loop-at.auto.at-end, c.loop-at-test.false, c.get-floor.ensures, c.bounds-size.ensures.size, c.requires.below), omega (arith, same, c.loop-at.invariant.counted));
  decoded =
      let floor = c.get-floor.result in
      let last : c.loop-at.at ≡ c.args.log.now.tree.leaves = omega (arith, c.loop-at.auto.at-end, c.loop-at-test.false, c.bounds-size.ensures.size) in
      both (g.C.Store.told c.args.log.now.store) c.loop-at.invariant.decode (g.met.C.Store.told_start c.args.log.now.store) (λ s all start.
      let low : s.start ≤ c.args.floor = omega (arith, start, c.bounds-size.ensures.first, c.requires.kept) in
      all-decoded g.U.Update.form s c.args.floor c.args.log.now.tree.leaves low (λ i more less. let own = all i (omega (arith, more, c.get-floor.ensures)) (omega (arith, less, last)) in spelled-some g.U.Update.form s i own.0 own.1));
  corrupt = each (g.C.Store.told c.args.log.now.store) (λ s. tt);
  read = c.loop-at.invariant.read;
  error = tt;
}

pub returns-in_err-operation : goal.returns-in_err-operation
returns-in_err-operation g c =
    let members = g.C.Store in
    let shape = g.F.Family.shape in
    let bytes = g.H.Digest.Digest.bytes in
    let hash = g.H.Hasher.hash in
    let form = g.U.Update.form in
    let log = c.args.log.now in
    let made = c.loop-at.log in
    let new = c.read_operation.new.log in
    let at = c.loop-at.at in
    let told_here = members.told log.store in
    let before = c.loop-at.invariant.read in
    let refused = c.in_err-operation.ensures in
    let exit = err_from_is_err_and c.from_residual-in_err-operation.result c.from_residual-in_err-operation.ensures.1 in
    rw (exit.1, exit.2) (record {
      built = λ ops has none. told-any _ told_here tt;
      rebuilt = each told_here (λ s. tt);
      decodes = λ ops has. told _ (members.told made.store) told_here before.kept.told (refused.decodes ops (operations-then members shape bytes hash form log made ops before has));
      long = tt;
      decoded = each told_here (λ s. tt);
      corrupt =
          over told_here (members.told made.store) before.kept.told refused.corrupt (g.met.C.Store.told_start log.store) (λ s corrupt start is.
          let low : s.start ≤ c.args.floor = omega (arith, start, c.bounds-size.ensures.first, c.requires.kept) in
          let more : c.args.floor ≤ at = omega (arith, c.loop-at.invariant.here, c.get-floor.ensures) in
          let less : at < log.tree.leaves = omega (arith, c.loop-at-test.true, c.bounds-size.ensures.size) in
          one-undecoded form s c.args.floor log.tree.leaves at low more less (corrupt is));
      read = read-then members shape bytes hash log made new before c.read_operation.ensures.read;
      error = error-then members shape bytes hash log made new c.in_err-operation.field-0.0 before refused.error;
    })

-- where the log of a walk stands, from what it was before
starts-at : (start start' floor from at count : ℕ) → start' ≡ start → start ≤ floor → from ≡ floor → at ≡ from + count → start' ≤ at
starts-at start start' floor from at count same kept is here = omega arith

starts-by : (start start' floor from : ℕ) → start' ≡ start → start ≤ floor → from ≡ floor → start' ≤ from
starts-by start start' floor from same kept is = omega arith

ends-past : (leaves leaves' size at : ℕ) → leaves' ≡ leaves → size ≡ leaves → at < size → at < leaves'
ends-past leaves leaves' size at same is before = omega arith

few : (size at : ℕ) → size ≤ 2 ^ 62 → at < size → at < 2 ^ 62
few size at limit before = omega arith

-- there is an item from the floor on
some-from : (floor from size leaves : ℕ) → from ≡ floor → size ≡ leaves → floor < leaves → (from ≤ size) × (1 ≤ size - from)
some-from floor from size leaves is all below = (omega arith, omega arith)

pub read_operation-requires-clause-kept : goal.read_operation-requires-clause-kept
read_operation-requires-clause-kept g c = starts-at _ _ _ _ _ _ (ap (λ t. t.start) c.loop-at.invariant.read.tree) c.requires.kept c.get-floor.ensures c.loop-at.invariant.here

pub read_operation-requires-clause-below : goal.read_operation-requires-clause-below
read_operation-requires-clause-below g c = ends-past _ _ _ _ (ap (λ t. t.leaves) c.loop-at.invariant.read.tree) c.bounds-size.ensures.size c.loop-at-test.true

pub put-requires-clause-kept : goal.put-requires-clause-kept
put-requires-clause-kept g c = starts-by _ _ _ _ (ap (λ t. t.start) (c.read_operation.ensures.read.tree ∙ c.loop-at.invariant.read.tree)) c.requires.kept c.get-floor.ensures

pub put-requires-clause-below : goal.put-requires-clause-below
put-requires-clause-below g c = ends-past _ _ _ _ (ap (λ t. t.leaves) (c.read_operation.ensures.read.tree ∙ c.loop-at.invariant.read.tree)) c.bounds-size.ensures.size c.loop-at-test.true

pub put-requires-clause-few : goal.put-requires-clause-few
put-requires-clause-few g c = few _ _ c.bounds-size.ensures.limit c.loop-at-test.true

pub put-requires-clause-here : goal.put-requires-clause-here
put-requires-clause-here g c = c.loop-at.invariant.here

pub put-requires-clause-within : goal.put-requires-clause-within
put-requires-clause-within g c = c.loop-at.invariant.within

pub put-requires-clause-counted : goal.put-requires-clause-counted
put-requires-clause-counted g c = c.loop-at.invariant.counted

pub overflow_sub-size : goal.overflow_sub-size
overflow_sub-size g c = (some-from _ _ _ _ c.get-floor.ensures c.bounds-size.ensures.size c.requires.below).0

pub overflow_sub-size-2 : goal.overflow_sub-size-2
overflow_sub-size-2 g c = (some-from _ _ _ _ c.get-floor.ensures c.bounds-size.ensures.size c.requires.below).1

pub set_bit-requires : goal.set_bit-requires
set_bit-requires g c = omega (arith, c.loop-at.invariant.here, c.loop-at.auto.at-end, c.loop-at-test.false, c.get-floor.ensures, c.bounds-size.ensures.size, c.requires.below)

pub returns-in_err-cache : goal.returns-in_err-cache
returns-in_err-cache g c =
    let told = g.C.Store.told c.args.log.now.store in
    let exit = err_from_is_err_and c.from_residual.result c.from_residual.ensures.1 in
    rw (exit.1, exit.2) (record {
      built = λ ops has none. told-any _ told tt;
      rebuilt = each told (λ s. tt);
      decodes = λ ops has. told-any _ told (λ is. cc);
      long = tt;
      decoded = each told (λ s. tt);
      corrupt = each told (λ s. λ is. absurd cc);
      read = read-none g.C.Store g.F.Family.shape g.H.Digest.Digest.bytes g.H.Hasher.hash c.args.log.now;
      error = inl (inl refl);
    })

pub returns-in_err-put : goal.returns-in_err-put
returns-in_err-put g c =
    let members = g.C.Store in
    let shape = g.F.Family.shape in
    let bytes = g.H.Digest.Digest.bytes in
    let hash = g.H.Hasher.hash in
    let told = g.C.Store.told c.args.log.now.store in
    let exit = err_from_is_err_and c.from_residual-in_err-put.result c.from_residual-in_err-put.ensures.1 in
    let read = read-then members shape bytes hash c.args.log.now c.loop-at.log c.read_operation.new.log c.loop-at.invariant.read c.read_operation.ensures.read in
    let error = c.in_err-put.field-0.0 in
    let other = decodes-anyway members c.read_operation.new.log c.put.new.log error c.in_err-put.ensures.error in
    rw (exit.1, exit.2) (record {
      built = λ ops has none. told-any _ told tt;
      rebuilt = each told (λ s. tt);
      decodes = λ ops has. told-any _ told other;
      long = tt;
      decoded = each told (λ s. tt);
      corrupt = each told (λ s is. absurd (other is));
      read = read-then members shape bytes hash c.args.log.now c.read_operation.new.log c.put.new.log read c.put.ensures.read;
      error = inl (fault-then members shape bytes hash c.args.log.now c.read_operation.new.log c.put.new.log error read c.in_err-put.ensures.error);
    })
