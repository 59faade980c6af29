use Rattle.std.proofs.Common.{◌≡◌, ◌<◌, ℕ, [], List, length, replicate, sym, ap, ◌∙◌, subst, rules}
use Rattle.atomic_table.specs.Table.{opening}
use Rattle.std.proofs.lemmas.List.Elements.{All-same}
use Rattle.qm_crew.specs.Views.{leader, IsMarking}
use Rattle.qm_crew.specs.Crews.{IsDone, places_of, places_in, AreFrom, AreUnion}
use Rattle.qm_crew.proofs.Moves.{begins}
use Rattle.qm_crew.proofs.Unions.{written, are_union}
use Rattle.qm_crew.proofs.crew.marked_by.Goals as goal

pub of_words-requires : goal.of_words-requires
of_words-requires g c =
    let zeros : c.as_slice.result.now ≡ replicate c.args.words 0 = search rules in
    subst (λ (ws : List ℕ). IsMarking (opening ws [] (leader [] 0))) (sym zeros) (begins c.args.words)

pub gather-requires-clause-done : goal.gather-requires-clause-done
gather-requires-clause-done g c =
    let len : length c.mark.new.crew ≡ c.in_ok-crew.crew.len = search rules in
    let long : length c.in_ok-crew.crew.items ≡ c.in_ok-crew.crew.len = search rules in
    All-same (IsDone c.in_ok-table.table.shared.table_id) _ c.mark.new.crew (written c.in_ok-crew.crew.len c.mark.new.crew c.in_ok-crew.crew.items len long) c.mark.ensures.marked.done

pub returns-clause-union : goal.returns-clause-union
returns-clause-union g c =
    let len : length c.mark.new.crew ≡ c.in_ok-crew.crew.len = search rules in
    let long : length c.in_ok-crew.crew.items ≡ c.in_ok-crew.crew.len = search rules in
    let crew = written c.in_ok-crew.crew.len c.mark.new.crew c.in_ok-crew.crew.items len long in
    let bits_len : length c.copy_out.new.bits ≡ c.in_ok-bits.bits.len = search rules in
    let bits_long : length c.in_ok-bits.bits.items ≡ c.in_ok-bits.bits.len = search rules in
    let bits = written c.in_ok-bits.bits.len c.copy_out.new.bits c.in_ok-bits.bits.items bits_len bits_long in
    let old : c.as_mut_slice.result.now ≡ c.in_ok-crew.crew.items = search rules in
    let places = ap places_of crew ∙ c.mark.ensures.marked.same ∙ ap places_of old ∙ c.in_ok-crew.ensures.same in
    let from = subst (λ (ls : List (List ℕ)). AreFrom c.gather.new.lead.me.0.marks ls) places c.gather.ensures.marks in
    let same_len : length c.copy_out.new.bits ≡ length c.as_mut_slice-2.result.now = c.copy_out.ensures.long in
    subst (λ (ws : List ℕ). AreUnion ws (places_in c.args.lists.items)) (sym bits)
    (are_union c.copy_out.new.bits c.gather.new.lead.me.0.marks (places_in c.args.lists.items)
    (λ word bit below small. c.copy_out.ensures.bits word bit (subst (λ (n : ℕ). word < n) same_len below) small) from)
