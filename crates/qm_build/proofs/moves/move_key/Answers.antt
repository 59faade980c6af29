use Rattle.std.proofs.Common.{◌≡◌, ◌≤◌, ◌<◌, ◌∙◌, ap, sym, subst, Some}
use Rattle.std.specs.Prelude.{IfSome, option_map, slice_get}
use Rattle.std.proofs.lemmas.Option.{slice_get_within}
use Rattle.std.proofs.lemmas.Result.{on_ok_weaker}
use Rattle.qm_index.specs.Buckets.{bucket_at}
use Rattle.qm_index.specs.Places.{HasPlaces, moved}
use Rattle.qm_index.proofs.Moving.{updated, removed, inserted, unmoved}
use Rattle.qm_build.specs.declared.read.Found.{Found}
use Rattle.qm_build.proofs.Within.{within-set, within-push, within-remove}
use Rattle.qm_build.proofs.moves.move_key.Goals as goal

pub returns-in-Some-Some : goal.returns-in-Some-Some
returns-in-Some-Some g c = record {
  moved = λ ps apart has stood.
      let index_key = g.I.Unordered.index_key in
      let old = g.I.Unordered.entries c.args.index.now in
      let new = g.I.Unordered.entries c.update_at.new.self in
      let key = c.args.key.now in
      let own = subst (λ o. IfSome o (λ (f : Found). slice_get (bucket_at old (index_key key)) f.place ≡ Some f.location)) c.in-Some-Some.is-0 c.requires in
      let place = stood ∙ ap (option_map (λ (f : Found). f.location)) c.in-Some-Some.is-0 in
      subst (λ o. HasPlaces index_key new (moved ps key o)) (sym c.in-Some-Some.is-1)
      (updated index_key old new ps key apart has c.in-Some-Some.found.place (slice_get_within (bucket_at old (index_key key)) c.in-Some-Some.found.place c.in-Some-Some.found.location own)
      (place ∙ sym own) c.in-Some-Some.now c.update_at.ensures.update);
  within = λ from to within here.
      let old = g.I.Unordered.entries c.args.index.now in
      let new = g.I.Unordered.entries c.update_at.new.self in
      let k = g.I.Unordered.index_key c.args.key.now in
      within-set old new k from to within c.in-Some-Some.found.place c.in-Some-Some.now c.update_at.ensures.update (subst (λ o. IfSome o (λ at. (from ≤ at) × (at < to))) c.in-Some-Some.is-1 here);
}

pub returns-in-Some-None : goal.returns-in-Some-None
returns-in-Some-None g c = record {
  moved = λ ps apart has stood.
      let index_key = g.I.Unordered.index_key in
      let old = g.I.Unordered.entries c.args.index.now in
      let new = g.I.Unordered.entries c.remove_at.new.self in
      let key = c.args.key.now in
      let own = subst (λ o. IfSome o (λ (f : Found). slice_get (bucket_at old (index_key key)) f.place ≡ Some f.location)) c.in-Some-None.is-0 c.requires in
      let place = stood ∙ ap (option_map (λ (f : Found). f.location)) c.in-Some-None.is-0 in
      subst (λ o. HasPlaces index_key new (moved ps key o)) (sym c.in-Some-None.is-1)
      (removed index_key old new ps key apart has c.in-Some-None.found.place (slice_get_within (bucket_at old (index_key key)) c.in-Some-None.found.place c.in-Some-None.found.location own)
      (place ∙ sym own) c.remove_at.ensures.remove);
  within = λ from to within here.
      let old = g.I.Unordered.entries c.args.index.now in
      let new = g.I.Unordered.entries c.remove_at.new.self in
      let k = g.I.Unordered.index_key c.args.key.now in
      let own = subst (λ o. IfSome o (λ (f : Found). slice_get (bucket_at old k) f.place ≡ Some f.location)) c.in-Some-None.is-0 c.requires in
      within-remove old new k from to within c.in-Some-None.found.place (slice_get_within (bucket_at old k) c.in-Some-None.found.place c.in-Some-None.found.location own) c.remove_at.ensures.remove;
}

pub returns-in-None-Some : goal.returns-in-None-Some
returns-in-None-Some g c = record {
  moved = λ ps apart has stood.
      let index_key = g.I.Unordered.index_key in
      let old = g.I.Unordered.entries c.args.index.now in
      let new = g.I.Unordered.entries c.insert.new.self in
      let key = c.args.key.now in
      let place = stood ∙ ap (option_map (λ (f : Found). f.location)) c.in-None-Some.is-0 in
      on_ok_weaker c.insert.result (λ puts.
      subst (λ o. HasPlaces index_key new (moved ps key o)) (sym c.in-None-Some.is-1)
      (inserted index_key old new ps key apart has place c.in-None-Some.now puts)) c.insert.ensures.ok;
  within = λ from to within here.
      let old = g.I.Unordered.entries c.args.index.now in
      let new = g.I.Unordered.entries c.insert.new.self in
      let k = g.I.Unordered.index_key c.args.key.now in
      on_ok_weaker c.insert.result (λ puts.
      within-push old new k from to within c.in-None-Some.now puts (subst (λ o. IfSome o (λ at. (from ≤ at) × (at < to))) c.in-None-Some.is-1 here)) c.insert.ensures.ok;
}

pub returns-in-None-None : goal.returns-in-None-None
returns-in-None-None g c = record {
  moved = λ ps apart has stood.
      let index_key = g.I.Unordered.index_key in
      let old = g.I.Unordered.entries c.args.index.now in
      let key = c.args.key.now in
      let place = stood ∙ ap (option_map (λ (f : Found). f.location)) c.in-None-None.is-0 in
      subst (λ o. HasPlaces index_key old (moved ps key o)) (sym c.in-None-None.is-1)
      (unmoved index_key old old ps key apart has place);
  within = λ from to within here. within;
}
