use Rattle.std.proofs.Common.{◌≡◌, ◌++◌, ◌∷◌, [], sym, ap, ◌∙◌, rules}
use Rattle.std.proofs.lemmas.List.{append_assoc, map-append}
use Rattle.std.proofs.lemmas.List.Elements.{All-push, All-same}
use Rattle.std.specs.Vec.Iter.{into_iter_items}
use Rattle.qm_crew.specs.Views.{leader, with_one_out}
use Rattle.qm_crew.specs.declared.crew.Marker.{Marker}
use Rattle.qm_crew.specs.Crews.{AreWithin, IsReady, places_of}
use Rattle.qm_crew.proofs.Moves.{splits}
use Rattle.qm_crew.proofs.Unions.{all_middle}
use Rattle.qm_crew.proofs.crew.seat_crew.Goals as goal

pub split_seat-seat-requires : goal.split_seat-seat-requires
split_seat-seat-requires c =
    let i = c.loop-places.invariant in
    (i.2 ∙ c.requires.table, c.requires.some, splits _ _ (ap (λ m. m.0.lead) i.3))

pub loop-places-preserved : goal.loop-places-preserved
loop-places-preserved c =
    let i = c.loop-places.invariant in
    let s = c.split_seat-seat.ensures in
    let p = c.in_ok-push.ensures in
    let next : into_iter_items c.loop-places.places-iterator ≡ c.in-Some.places ∷ into_iter_items c.next.new.self = search rules in
    let whole : c.loop-places.yielded ++ c.in-Some.places ∷ into_iter_items c.next.new.self ≡ c.args.lists.items = search rules in
    let started : into_iter_items c.into_iter-places-iterator.result ≡ c.args.lists.items = search rules in
    let within = all_middle (λ l. AreWithin c.args.board.now.table_id.words l.items) c.loop-places.yielded c.in-Some.places (into_iter_items c.next.new.self) c.args.lists.items whole c.requires.within in
    let w : Marker = record { seat = c.split_seat-seat.result; places = c.in-Some.places } in (
      append_assoc c.loop-places.yielded (c.in-Some.places ∷ []) (into_iter_items c.next.new.self) ∙ whole ∙ sym started,
      search rules,
      s.0 ∙ i.2,
      s.2 ∙ ap (λ m. (with_one_out m.0, m.1)) i.3 ∙ ap (λ n. (leader [] n, [])) (sym p.len),
      All-same (IsReady c.args.board.now.table_id) c.push.new.self.items _ p.items (All-push (IsReady c.args.board.now.table_id) c.loop-places.crew.items w i.4 record { seated = s.3 ∙ (i.2 ∙ c.requires.table); fresh = s.4; within = within }),
      ap places_of p.items ∙ map-append (λ x. x.places.items) c.loop-places.crew.items (w ∷ []) ∙ ap (λ l. l ++ c.in-Some.places.items ∷ []) i.5 ∙ sym (map-append (λ x. x.items) c.loop-places.yielded (c.in-Some.places ∷ [])),
    )
