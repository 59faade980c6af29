use Rattle.std.proofs.Common.{◌≡◌, ◌<◌, ◌≤◌, ap, sym, ◌∙◌, subst, Some, refl}
use Rattle.std.specs.Prelude.{IfSome, option_map, slice_get}
use Rattle.std.specs.Bool.{then_some}
use Rattle.qm_index.specs.Buckets.{bucket_at}
use Rattle.qm_index.specs.Places.{HasPlaces, place_of, moved}
use Rattle.qm_build.specs.declared.read.Found.{Found}
use Rattle.qm_build.proofs.Within.{found-contained}
use Rattle.qm_workers.specs.Known.{knowledge}
use Rattle.qm_workers.specs.Working.{move_of, work_of}
use Rattle.qm_workers.proofs.Seeking.{front-found, front-place}
use Rattle.qm_workers.proofs.Doing.{done-next, within-next, now-within}
use Rattle.qm_workers.proofs.worker.Worker.move_to.Goals as goal

pub move_key-requires : goal.move_key-requires
move_key-requires g c =
    let k = knowledge g.K.ByteString.bytes c.args.self.now.keys in
    let key = g.K.ByteString.bytes c.args.task.key in
    let entries = g.I.Unordered.entries c.args.self.now.index in
    subst (λ bs. IfSome c.args.found (λ f. slice_get (bucket_at entries (g.I.Unordered.index_key bs)) f.place ≡ Some f.location)) (sym c.as_bytes.ensures.value)
    (front-place k key (bucket_at entries (g.I.Unordered.index_key key)) c.args.found c.requires)

pub returns : goal.returns
returns g c =
    let bytes = g.K.ByteString.bytes in
    let index_key = g.I.Unordered.index_key in
    let entries = g.I.Unordered.entries c.args.self.now.index in
    let new = g.I.Unordered.entries c.move_key.new.index in
    let k = knowledge bytes c.args.self.now.keys in
    let key = bytes c.args.task.key in
    let m = move_of bytes c.args.task in
    let old = work_of g.I.Unordered.entries bytes c.args.self.now in
    let bucket = bucket_at entries (index_key key) in
    let found = option_map (λ (f : Found). f.location) c.args.found in
    let now_is : c.then_some-now.result ≡ then_some m.is_update m.at = c.then_some-now.ensures ∙ ap (then_some m.is_update) c.new.ensures in
    record {
      coming = refl;
      failed = refl;
      within = λ from to within. within-next from to m old _ within refl (λ standing.
          c.in_ok-move_key.ensures.within from to standing (subst (λ o. IfSome o (λ at. (from ≤ at) × (at < to))) (sym now_is) (now-within from to m old within)))
          found c.in_ok-replace.ensures;
      done = λ ops final most bound has.
          done-next index_key ops final most old m old.coming found new c.replace.new.located.keys (knowledge bytes c.remember.new.keys) c.counted-self.result old.failed bound has
          (front-found ops k has.known key bucket c.args.found c.requires)
          (found-contained bucket c.args.found (front-place k key bucket c.args.found c.requires))
          (λ ps apart places stands.
          subst (λ bs. HasPlaces index_key new (moved ps bs (then_some m.is_update m.at))) c.as_bytes.ensures.value
          (subst (λ o. HasPlaces index_key new (moved ps c.as_bytes.result.now o)) now_is
          (c.in_ok-move_key.ensures.moved ps apart places (ap (place_of ps) c.as_bytes.ensures.value ∙ stands))))
          c.in_ok-replace.ensures
          c.counted-self.ensures
          (λ are own. c.in_ok-remember.ensures ops are own);
    }
