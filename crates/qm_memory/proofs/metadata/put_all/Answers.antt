use Rattle.std.proofs.Common.{◌≡◌, ◌∙◌, ◌∷◌, [], map, ap, subst, sym}
use Rattle.std.proofs.lemmas.List.{map-append}
use Rattle.qm_model.specs.StoreModel.{Named}
use Rattle.qm_memory.specs.ChangeViews.{named_of}
use Rattle.qm_memory.specs.Changes.{AreNamedOnce, put_in_turn, put_over_older}
use Rattle.qm_memory.proofs.Changes.{put-last, once-put}
use Rattle.qm_memory.proofs.metadata.put_all.Goals as goal

pub loop-name-preserved : goal.loop-name-preserved
loop-name-preserved c =
    let m : Named = named_of (c.in-Some.name, c.in-Some.entries) in
    let put : c.put.new.metadata.items ≡ put_over_older m c.loop-name.kept.items = c.in_ok-put.ensures in
    record {
      put = put ∙ ap (put_over_older m) c.loop-name.invariant.put ∙ sym (put-last (map named_of c.loop-name.yielded) [] m) ∙ ap (λ ms. put_in_turn ms []) (sym (map-append named_of c.loop-name.yielded ((c.in-Some.name, c.in-Some.entries) ∷ [])));
      once = subst AreNamedOnce (sym put) (once-put m.name m.entries c.loop-name.kept.items c.loop-name.invariant.once);
    }
