use Rattle.std.proofs.Common.{◌≡◌, ◌∷◌, [], length, Some, ap, ◌∙◌, arith, rules}
use Rattle.std.proofs.lemmas.List.{map-append}
use Rattle.std.proofs.lemmas.List.Elements.{All-pop}
use Rattle.qm_crew.specs.Crews.{IsDone, places_of}
use Rattle.qm_crew.proofs.Moves.{joins}
use Rattle.qm_crew.proofs.Times.{times, times-append, sum_times, sum_times-append}
use Rattle.qm_crew.proofs.Unions.{are_from, no_sum}
use Rattle.qm_crew.proofs.crew.gather.Goals as goal

pub join_seat-requires : goal.join_seat-requires
join_seat-requires c =
    let i = c.loop-marker.invariant in
    let d = (All-pop (IsDone c.args.board.now.table_id) c.loop-marker.crew.items c.pop.new.self.items (Some c.in-Some.marker) c.in-Some.ensures.items i.2).1 in
    (i.0 ∙ c.requires.table, d.seated, ap (λ m. m.1) d.marked, c.requires.some, joins _ _ _ _ i.1.0 (ap (λ m. m.0.spent) d.marked))

pub loop-marker-preserved : goal.loop-marker-preserved
loop-marker-preserved c =
    let i = c.loop-marker.invariant in
    let all = All-pop (IsDone c.args.board.now.table_id) c.loop-marker.crew.items c.pop.new.self.items (Some c.in-Some.marker) c.in-Some.ensures.items i.2 in
    let d = all.1 in
    let j = c.join_seat.ensures in
    let now = ap (λ m. m.0) j.2 in
    let len = c.in-Some.ensures.len in
    let out = i.1.1 in (
      j.0 ∙ i.0,
      (ap (λ v. v.lead) now ∙ i.1.0, ap (λ v. v.out) now ∙ (omega arith)),
      all.0,
      (λ p.
          let e = i.3 p in
          let s = ap (λ ws. sum_times p (places_of ws)) c.in-Some.ensures.items in
          let m = ap (sum_times p) (map-append (λ w. w.places.items) c.pop.new.self.items (c.in-Some.marker ∷ [])) in
          let a = sum_times-append p (places_of c.pop.new.self.items) (c.in-Some.marker.places.items ∷ []) in
          let t = ap (λ v. times p v.marks) now in
          let b = times-append p c.loop-marker.lead.me.0.marks c.in-Some.marker.seat.me.0.marks in
          let w = ap (λ m. times p m.0.marks) d.marked in
          omega arith),
    )

pub returns-clause-marks : goal.returns-clause-marks
returns-clause-marks c =
    let i = c.loop-marker.invariant in
    let empty : length c.loop-marker.crew.items ≡ 0 = let z = c.in_default.ensures.cases.0 in search rules in
    are_from c.loop-marker.lead.me.0.marks (places_of c.args.crew.items) (λ p. let e = i.3 p in let n = no_sum p c.loop-marker.crew.items empty in omega arith)
