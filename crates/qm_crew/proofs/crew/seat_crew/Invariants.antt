use Rattle.std.proofs.Common.{◌≡◌, ◌++◌, [], All, vec_len, length}
use Rattle.std.specs.Vec.Iter.{into_iter_items, into_iter_len}
use Rattle.qm_crew.specs.Views.{leader}
use Rattle.qm_crew.specs.Crews.{IsReady, places_of, places_in}
use Rattle.qm_crew.proofs.crew.seat_crew.Given as goal

abbrev pub invariant-loop-places : goal.invariant-loop-places
invariant-loop-places l =
    (l.yielded ++ into_iter_items l.places-iterator ≡ into_iter_items l.initial.places-iterator)
    × (into_iter_len l.places-iterator ≡ length (into_iter_items l.places-iterator))
    × (l.lead.table_id ≡ l.initial.lead.table_id)
    × (l.lead.me ≡ (leader [] (vec_len l.crew), []))
    × All (IsReady l.board.table_id) l.crew.items
    × (places_of l.crew.items ≡ places_in l.yielded)
