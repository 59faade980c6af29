use Rattle.std.proofs.Common.{◌≡◌, ◌+◌, ◌<◌, ◌≤◌, ◌++◌, ◌∷◌, [], ◌∙◌, ap, ap₂, sym, subst, length, Some, arith, ⊎_elim, inl, refl}
use Rattle.std.specs.Prelude.{All, IfSome, option_map}
use Rattle.std.specs.Bool.{then_some}
use Rattle.std.proofs.lemmas.Result.{err_from_is_err_and}
use Rattle.std.proofs.lemmas.Option.{IfSome_then, slice_get_within}
use Rattle.qm_model.proofs.Results.{err-then}
use Rattle.qm_operations.specs.Views.{operation_view}
use Rattle.qm_index.specs.Buckets.{bucket_at}
use Rattle.qm_index.specs.Places.{HasPlaces, moved}
use Rattle.qm_store.proofs.Stores.{ok-both}
use Rattle.qm_build.specs.declared.read.Found.{Found}
use Rattle.qm_build.specs.Building.{cleared, counted_after}
use Rattle.qm_build.specs.Cached.{given}
use Rattle.qm_build.proofs.Keeping.{kept_on-was}
use Rattle.qm_build.proofs.Caching.{own-key}
use Rattle.qm_build.proofs.Decoding.{any-ok, each}
use Rattle.qm_build.proofs.Pushing.{left_at}
use Rattle.qm_build.proofs.Reading.{read-none}
use Rattle.qm_build.proofs.Putting.{stood, placed-more, placed-commit}
use Rattle.qm_build.proofs.Within.{within-wider, found-within, found-contained, found-offset, left-within}
use Rattle.qm_build.proofs.build.put.Goals as goal

pub returns-in_default : goal.returns-in_default
returns-in_default g c =
    let noted = c.note.ensures in
    let result = c.note.result in
    record {
      placed = λ ops here placed keys.
          let op = operation_view g.U.Update.view g.U.Key.ByteString.bytes g.U.Value.ByteString.bytes c.args.operation in
          let low : c.args.floor ≤ c.args.at = omega (arith, c.requires.here) in
          each (g.C.Store.told c.args.log.now.store)
          (λ s spells. ok-both result noted.live noted.active (λ live active. (
            placed-commit g.I.Unordered.index_key (g.I.Unordered.entries c.args.index.now) c.args.snapshot.now.live c.args.snapshot.now.activity c.args.floor c.args.at ops op low here placed
                c.note.new.snapshot.live c.note.new.snapshot.activity (sym c.in_default.ensures) live active,
            keys,
          )));
      long = noted.long;
      within = any-ok result (within-wider (g.I.Unordered.entries c.args.index.now) c.args.floor c.args.at (c.args.at + 1) (omega arith) c.requires.within);
      counted = noted.counted;
      read = read-none g.C.Store g.F.Family.shape g.H.Digest.Digest.bytes g.H.Hasher.hash c.args.log.now;
      error = err-then result noted.memory (λ e memory. inl memory);
    }

pub returns : goal.returns
returns g c =
    let noted = c.note-2.ensures in
    let result = c.note-2.result in
    record {
      placed = λ ops here placed keys.
          let index_key = g.I.Unordered.index_key in
          let old = g.I.Unordered.entries c.args.index.now in
          let new = g.I.Unordered.entries c.move_key.new.index in
          let op = operation_view g.U.Update.view g.U.Key.ByteString.bytes g.U.Value.ByteString.bytes c.args.operation in
          let key = c.as_bytes-bytes.result.now in
          let found = option_map (λ (f : Found). f.location) c.in_ok-found.found in
          let low : c.args.floor ≤ c.args.at = omega (arith, c.requires.here) in
          let left : c.then_some.result ≡ left_at op c.args.at = c.then_some.ensures ∙ ap₂ (λ t n. then_some t n) c.is_update-is_update.ensures c.new.ensures in
          let inside : All (λ n. (c.args.floor ≤ n) × (n < length ops)) (bucket_at old (index_key key)) =
          λ n d less. let ends = c.requires.within (index_key key) n d less in let last = slice_get_within ops c.args.at op here in (ends.0, omega (arith, ends.1, last)) in
          IfSome_then (g.C.Store.told c.args.log.now.store) (c.in_ok-found.ensures.key ops c.args.floor inside keys) (λ s found_is spells.
          let is = found_is spells in
          let place = stood index_key old c.args.snapshot.now.live c.args.snapshot.now.activity c.args.floor c.args.at ops op low here placed key found (found-contained (bucket_at old (index_key key)) c.in_ok-found.found c.in_ok-found.ensures.place) is in
          ok-both result noted.live noted.active (λ live active. (
            placed-more index_key old c.args.snapshot.now.live c.args.snapshot.now.activity c.args.floor c.args.at ops op low here placed
                new c.note-2.new.snapshot.live c.note-2.new.snapshot.activity key found
                (sym c.in-Some.ensures ∙ ap Some (sym c.as_bytes-bytes.ensures.value)) place
                (λ ps apart has place. subst (λ o. HasPlaces index_key new (moved ps key o)) left (c.in_ok-move_key.ensures.moved ps apart has place))
                (live ∙ ap (counted_after c.args.snapshot.now.live found) c.is_update-is_update.ensures)
                (active ∙ ap₂ (λ o t. cleared c.args.snapshot.now.activity o ++ t ∷ []) (found-offset c.args.floor c.in_ok-found.found) c.is_update-is_update.ensures),
            (λ at key is. ⊎_elim
                (λ own. own-key g.U.Key.ByteString.bytes ops op c.args.at at c.in-Some.key key here (sym c.is_update-is_update.ensures ∙ own.0) (sym c.in-Some.ensures) own.1 own.2)
                (λ old. keys at key old)
                (kept_on-was c.args.cache.now found c.is_update-is_update.result c.args.at c.in-Some.key at key (ap (λ v. given v at) (sym c.keep.ensures) ∙ is))),
          )));
      long = noted.long;
      within =
          let op = operation_view g.U.Update.view g.U.Key.ByteString.bytes g.U.Value.ByteString.bytes c.args.operation in
          let low : c.args.floor ≤ c.args.at = omega (arith, c.requires.here) in
          let here : c.then_some.result ≡ left_at op c.args.at = c.then_some.ensures ∙ ap₂ (λ t n. then_some t n) c.is_update-is_update.ensures c.new.ensures in
          any-ok result (c.in_ok-move_key.ensures.within c.args.floor (c.args.at + 1)
          (within-wider (g.I.Unordered.entries c.args.index.now) c.args.floor c.args.at (c.args.at + 1) (omega arith) c.requires.within)
          (subst (λ o. IfSome o (λ n. (c.args.floor ≤ n) × (n < c.args.at + 1))) (sym here) (left-within op c.args.floor c.args.at low)));
      counted = noted.counted;
      read = c.find.ensures.read;
      error = err-then result noted.memory (λ e memory. inl memory);
    }

pub move_key-requires : goal.move_key-requires
move_key-requires g c = c.in_ok-found.ensures.place

pub note-requires : goal.note-requires
note-requires g c = record {
  within = tt;
  few = omega (arith, c.requires.here, c.requires.few);
  counted = c.requires.counted;
}

pub note-requires-2 : goal.note-requires-2
note-requires-2 g c = record {
  within = let bucket = bucket_at (g.I.Unordered.entries c.args.index.now) (g.I.Unordered.index_key c.as_bytes-bytes.result.now) in
      found-within bucket (λ n. (c.args.floor ≤ n) × (n < c.args.floor + length c.args.snapshot.now.activity)) c.in_ok-found.found
      (subst (λ to. All (λ n. (c.args.floor ≤ n) × (n < to)) bucket) c.requires.here (c.requires.within (g.I.Unordered.index_key c.as_bytes-bytes.result.now))) c.in_ok-found.ensures.place;
  few = omega (arith, c.requires.here, c.requires.few);
  counted = c.requires.counted;
}

pub returns-in_err-found : goal.returns-in_err-found
returns-in_err-found g c =
    let exit = err_from_is_err_and c.from_residual.result c.from_residual.ensures.1 in
    rw (exit.1, exit.2) (record {
      placed = λ ops here placed keys. each (g.C.Store.told c.args.log.now.store) (λ s spells. tt);
      long = tt;
      within = tt;
      counted = tt;
      read = c.find.ensures.read;
      error = c.in_err-found.ensures.error;
    })

pub returns-in_err-move_key : goal.returns-in_err-move_key
returns-in_err-move_key g c =
    let exit = err_from_is_err_and c.from_residual-in_err-move_key.result c.from_residual-in_err-move_key.ensures.1 in
    rw (exit.1, exit.2) (record {
      placed = λ ops here placed keys. each (g.C.Store.told c.args.log.now.store) (λ s spells. tt);
      long = tt;
      within = tt;
      counted = tt;
      read = c.find.ensures.read;
      error = inl refl;
    })
