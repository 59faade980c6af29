use Rattle.std.proofs.Common.{◌≡◌, ◌≤◌, ◌<◌, ◌∙◌, ◌-◌, ◌++◌, ap, sym, subst, arith, drop, false, replicate, inl, refl, ℕ, IfSome}
use Rattle.std.specs.Prelude.{All, is_none}
use Rattle.std.specs.List.{list_any}
use Rattle.std.proofs.lemmas.Option.{IfSome_then}
use Rattle.std.proofs.lemmas.Result.{err_from_is_err_and}
use Rattle.qm_base.specs.declared.error.Corrupt.TheVariants as corrupt
use Rattle.qm_base.specs.declared.error.Error.TheVariants as errors
use Rattle.qm_model.specs.Bits.{bits}
use Rattle.qm_model.specs.Live.{live}
use Rattle.qm_build.specs.Built.{NoneBelow}
use Rattle.qm_build.specs.Reads.{HasOperations, KeepsLog, IsRebuildError, IsUndecoded, items_within}
use Rattle.qm_build.proofs.Reading.{error-then, operations-then, read-then}
use Rattle.qm_build.proofs.Decoding.{each, known, over, one-undecoded, then-told}
use Rattle.qm_open.proofs.Rebuilt.{from-floor}
use Rattle.qm_open.proofs.parts.rebuilt.Goals as goal

-- want of memory is no item that spells no operation
no-item : errors.Memory ≡ errors.DataCorrupted corrupt.ItemDoesNotDecode → ⊥
no-item is = cc

-- the last item is from the floor on
last-below : (floor leaves : ℕ) → floor < leaves → (floor ≤ leaves - 1) × (leaves - 1 < leaves)
last-below floor leaves below = (omega arith, omega arith)

pub returns-in_err-snapshot : goal.returns-in_err-snapshot
returns-in_err-snapshot g c =
    let exit = err_from_is_err_and c.from_residual.result c.from_residual.ensures.1 in
    let told = g.C.Store.told c.args.log.now.store in
    rw (exit.1, exit.2) (record {
      opened = λ ops has good low. each told (λ _. tt);
      pruned = tt;
      bits = tt;
      decoded = each told (λ _. tt);
      undecoded = λ is. IfSome_then told (rw c.new.ensures at c.in_err-snapshot.ensures.corrupt) (λ s lost. lost is);
      read = c.build_snapshot.ensures.read;
      error = c.in_err-snapshot.ensures.error;
    })

pub returns-in_err-root : goal.returns-in_err-root
returns-in_err-root g c =
    let members = g.C.Store in
    let log = c.args.log.now in
    let told = members.told log.store in
    let exit = err_from_is_err_and c.from_residual-in_err-root.result c.from_residual-in_err-root.ensures.1 in
    rw (exit.1, exit.2) (record {
      opened = λ ops has good low. each told (λ _. tt);
      pruned = tt;
      bits = tt;
      decoded = each told (λ _. tt);
      undecoded = λ is. absurd (no-item is);
      read = subst (KeepsLog members g.F.Family.shape g.H.Digest.Digest.bytes g.H.Hasher.hash log) (sym c.root_of.ensures.same) c.build_snapshot.ensures.read;
      error = inl (inl refl);
    })

pub returns-in_err-activity : goal.returns-in_err-activity
returns-in_err-activity g c =
    let members = g.C.Store in
    let log = c.args.log.now in
    let told = members.told log.store in
    let exit = err_from_is_err_and c.from_residual-in_err-activity.result c.from_residual-in_err-activity.ensures.1 in
    rw (exit.1, exit.2) (record {
      opened = λ ops has good low. each told (λ _. tt);
      pruned = tt;
      bits = tt;
      decoded = each told (λ _. tt);
      undecoded = λ is. absurd (no-item is);
      read = subst (KeepsLog members g.F.Family.shape g.H.Digest.Digest.bytes g.H.Hasher.hash log) (sym c.root_of.ensures.same) c.build_snapshot.ensures.read;
      error = inl (inl refl);
    })

pub returns-in_err-metadata : goal.returns-in_err-metadata
returns-in_err-metadata g c =
    let members = g.C.Store in
    let shape = g.F.Family.shape in
    let bytes = g.H.Digest.Digest.bytes in
    let hash = g.H.Hasher.hash in
    let log = c.args.log.now in
    let made = c.build_snapshot.new.log in
    let new = c.last_metadata.new.log in
    let told = members.told log.store in
    let same : c.root_of.new.log ≡ made = c.root_of.ensures.same in
    let first = c.build_snapshot.ensures.read in
    let exit = err_from_is_err_and c.from_residual-in_err-metadata.result c.from_residual-in_err-metadata.ensures.1 in
    rw (exit.1, exit.2) (record {
      opened = λ ops has good low. each told (λ _. tt);
      pruned = tt;
      bits = tt;
      decoded = each told (λ _. tt);
      undecoded = λ is.
          let form = g.U.Update.form in
          over told (members.told c.root_of.new.log.store) (ap (λ l. members.told l.store) same ∙ first.kept.told) c.in_err-metadata.ensures.corrupt (g.met.C.Store.told_start log.store) (λ s corrupt start.
          let low : s.start ≤ c.args.floor = subst (λ n. n ≤ c.args.floor) (sym (start ∙ c.bounds.ensures.first)) c.requires.kept in
          let below = last-below c.args.floor log.tree.leaves c.requires.below in
          one-undecoded form s c.args.floor log.tree.leaves (log.tree.leaves - 1) low below.0 below.1 (subst (λ t. IsUndecoded form s (t.leaves - 1)) (ap (λ l. l.tree) same ∙ first.tree) (corrupt is)));
      read = read-then members shape bytes hash log made new first (subst (λ l. KeepsLog members shape bytes hash l new) same c.last_metadata.ensures.read);
      error = error-then members shape bytes hash log made new c.in_err-metadata.field-0.0 first (subst (λ l. IsRebuildError members l new c.in_err-metadata.field-0.0) same c.in_err-metadata.ensures.error);
    })

pub returns : goal.returns
returns g c =
    let members = g.C.Store in
    let shape = g.F.Family.shape in
    let bytes = g.H.Digest.Digest.bytes in
    let hash = g.H.Hasher.hash in
    let form = g.U.Update.form in
    let floor = c.args.floor in
    let log = c.args.log.now in
    let made = c.build_snapshot.new.log in
    let new = c.last_metadata.new.log in
    let told = members.told log.store in
    let same : c.root_of.new.log ≡ made = c.root_of.ensures.same in
    let first = c.build_snapshot.ensures.read in
    let last = subst (λ l. KeepsLog members shape bytes hash l new) same c.last_metadata.ensures.read in
    let snapshot = c.in_ok-snapshot.ensures in
    let bit = c.in_ok-activity.ensures in
    record {
      opened = λ ops has good low.
          let below : NoneBelow floor ops = subst (λ n. All (λ e. n ≤ e.location) (live ops)) (sym low) good.above_floor in
          let has_made = operations-then members shape bytes hash form log made ops first has in
          then-told told (snapshot.built ops has (subst (λ n. NoneBelow n ops) (sym c.new.ensures) below)) (λ held is built.
          let there = subst (λ l. HasOperations members shape bytes hash form l ops) (sym same) has_made in
          let behind = built.active ∙ ap (λ n. drop n (bits ops)) c.new.ensures in
          record {
            has = operations-then members shape bytes hash form made new ops last has_made;
            indexed = built.indexed;
            counted = built.counted;
            active = bit.bits ∙ ap (λ bs. replicate floor false ++ bs) behind ∙ from-floor ops floor good low;
            root_is = c.in_ok-root.ensures.value ops has_made low;
            metadata_is = known (members.told c.root_of.new.log.store) held (ap (λ l. members.told l.store) same ∙ first.kept.told ∙ is) (c.in_ok-metadata.ensures.value ops there good.commit_ended);
          });
      pruned = bit.pruned;
      bits = (omega (arith, bit.count, snapshot.long.0, c.new.ensures), omega (arith, snapshot.long.0, snapshot.long.1));
      decoded = subst (λ n. IfSome told (λ s. list_any is_none (items_within form s n log.tree.leaves) ≡ false)) c.new.ensures snapshot.decoded;
      undecoded = tt;
      read = read-then members shape bytes hash log made new first last;
      error = tt;
    }
