use Rattle.std.proofs.Common.{◌≡◌, ℕ, Vec, Global, map}
use Rattle.std.specs.List.{list_all}
use Rattle.std.specs.List.Sorted.{IsStrictlySortedBy}
use Rattle.std.specs.Cmp.Lexicographic.{slice_cmp}
use Rattle.std.specs.Ordering.{nat_cmp}
use Rattle.qm_build.proofs.Linking.{is_next}
use Rattle.qm_build.proofs.links.is_closed.Given as goal

abbrev pub invariant-loop-key : goal.invariant-loop-key
invariant-loop-key l =
    let bytes = λ (v : Vec ℕ Global). v.items in
    let next = is_next bytes (map (λ e. bytes e.0) l.links.entries) in
    record {
      same : list_all next l.links.entries ≡ list_all next l.key-iterator;
      sorted : IsStrictlySortedBy (λ a b. slice_cmp nat_cmp (bytes a) (bytes b)) (map (λ e. e.0) l.links.entries);
    }
