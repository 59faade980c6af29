use Rattle.std.proofs.Common.{◌≢◌, ◌<◌, ◌≤◌, ◌∙◌, ap, sym, subst, get_or, length, Some, true≢false, arith}
use Rattle.std.specs.Prelude.{All}
use Rattle.std.proofs.lemmas.List.{take_all}
use Rattle.std.proofs.lemmas.List.Elements.{All-nil, All-more}
use Rattle.std.proofs.lemmas.Option.{IfSome_then, slice_get-get_or}
use Rattle.std.proofs.lemmas.Result.{err_from_is_err_and}
use Rattle.qm_index.specs.Buckets.{bucket_at}
use Rattle.qm_build.specs.Building.{key_at}
use Rattle.qm_build.specs.Reads.{SpellsAt}
use Rattle.qm_build.proofs.Decoding.{each, over}
use Rattle.qm_build.proofs.Reading.{read-none, read-then, fault-then}
use Rattle.qm_build.proofs.Spelling.{use-told, at-told, there-is}
use Rattle.qm_build.proofs.read.find.Goals as goal

pub loop-place-preserved : goal.loop-place-preserved
loop-place-preserved g c = record {
  read = read-then g.C.Store g.F.Family.shape g.H.Digest.Digest.bytes g.H.Hasher.hash c.args.log.now c.loop-place.log c.is_of_key.new.log c.loop-place.invariant.read c.is_of_key.ensures.read;
  none = λ ops from inside keys.
      let read = c.loop-place.invariant.read in
      let bucket = bucket_at (g.I.Unordered.entries c.args.index.now) (g.I.Unordered.index_key c.args.key.now) in
      let place = c.loop-place.place in
      let at = c.get-location.ensures ∙ c.index-bucket-place.is in
      let within : place < length bucket = omega (arith, c.loop-place-test.true, ap length c.bucket-bucket.ensures.value) in
      let there = at ∙ ap (λ xs. get_or xs place c.index-bucket-place.result) c.bucket-bucket.ensures.value in
      let ends = subst (λ n. (from ≤ n) × (n < length ops)) (sym there) (inside place c.index-bucket-place.result within) in
      let own = there-is ops c.get-location.result ends.1 in
      over (g.C.Store.told c.args.log.now.store) (g.C.Store.told c.loop-place.log.store) read.kept.told (c.in_ok-is_of_key.ensures.value ops own.0 own.1 keys) (c.loop-place.invariant.none ops from inside keys) (λ s said before spells.
      All-more (λ at. key_at ops at ≢ Some c.args.key.now) c.bucket-bucket.result.now place c.index-bucket-place.result c.loop-place-test.true (before spells)
      (subst (λ n. key_at ops n ≢ Some c.args.key.now) at
      (λ here. true≢false (sym ((said (spells c.get-location.result own.0 ends.0 own.1)).1 here) ∙ c.if-branch.false))));
}

pub loop-place-init : goal.loop-place-init
loop-place-init g c = record {
  read = read-none g.C.Store g.F.Family.shape g.H.Digest.Digest.bytes g.H.Hasher.hash c.args.log.now;
  none = λ ops from inside keys. each (g.C.Store.told c.args.log.now.store) (λ s spells. All-nil (λ at. key_at ops at ≢ Some c.args.key.now));
}

pub returns : goal.returns
returns g c = record {
  key = λ ops from inside keys.
      IfSome_then (g.C.Store.told c.args.log.now.store) (c.loop-place.invariant.none ops from inside keys) (λ s all spells.
      subst (All (λ at. key_at ops at ≢ Some c.args.key.now)) (take_all c.loop-place.place c.bucket-bucket.result.now (omega (arith, c.loop-place-test.false)) ∙ c.bucket-bucket.ensures.value) (all spells));
  place = tt;
  read = c.loop-place.invariant.read;
  error = tt;
}

pub returns-in_err-is_of_key : goal.returns-in_err-is_of_key
returns-in_err-is_of_key g c =
    let members = g.C.Store in
    let shape = g.F.Family.shape in
    let bytes = g.H.Digest.Digest.bytes in
    let hash = g.H.Hasher.hash in
    let exit = err_from_is_err_and c.from_residual.result c.from_residual.ensures.1 in
    record {
      place = rw exit.1 tt;
      key = λ ops from inside keys. each (g.C.Store.told c.args.log.now.store) (λ s spells. rw exit.1 tt);
      read = read-then members shape bytes hash c.args.log.now c.loop-place.log c.is_of_key.new.log c.loop-place.invariant.read c.is_of_key.ensures.read;
      error = rw (exit.1, exit.2) (fault-then members shape bytes hash c.args.log.now c.loop-place.log c.is_of_key.new.log _ c.loop-place.invariant.read c.in_err-is_of_key.ensures.error);
    }

pub returns-then-branch : goal.returns-then-branch
returns-then-branch g c =
    let members = g.C.Store in
    let shape = g.F.Family.shape in
    let bytes = g.H.Digest.Digest.bytes in
    let hash = g.H.Hasher.hash in
    let before = c.loop-place.invariant.read in
    let at = c.get-location.ensures ∙ c.index-bucket-place.is in
    let bucket = bucket_at (g.I.Unordered.entries c.args.index.now) (g.I.Unordered.index_key c.args.key.now) in
    let within : c.loop-place.place < length bucket = omega (arith, c.loop-place-test.true, ap length c.bucket-bucket.ensures.value) in
    record {
      place = slice_get-get_or bucket c.loop-place.place c.index-bucket-place.result within ∙ ap Some (sym (at ∙ ap (λ xs. get_or xs c.loop-place.place c.index-bucket-place.result) c.bucket-bucket.ensures.value));
      key = λ ops from inside keys.
          let there = at ∙ ap (λ xs. get_or xs c.loop-place.place c.index-bucket-place.result) c.bucket-bucket.ensures.value in
          let ends = subst (λ n. (from ≤ n) × (n < length ops)) (sym there) (inside c.loop-place.place c.index-bucket-place.result within) in
          let own = there-is ops c.get-location.result ends.1 in
          at-told (members.told c.args.log.now.store) (λ s is spells.
          use-told (members.told c.loop-place.log.store) s (before.kept.told ∙ is) (c.in_ok-is_of_key.ensures.value ops own.0 own.1 keys) (λ t same said.
          (said (subst (λ u. SpellsAt g.U.Update.form u c.get-location.result own.0) (sym same) (spells c.get-location.result own.0 ends.0 own.1))).0 c.if-branch.true));
      read = read-then members shape bytes hash c.args.log.now c.loop-place.log c.is_of_key.new.log before c.is_of_key.ensures.read;
      error = tt;
    }
