use Rattle.std.proofs.Common.{◌+◌, ◌≤◌, ℕ, sym, map, ◌≡◌, ◌∙◌, ◌∷◌, [], ◌++◌, refl, length, ap, arith, vec_len}
use Rattle.std.proofs.lemmas.List.{length-append, append-nil, take_all}
use Rattle.std.proofs.lemmas.Grind.{common_steps}
use Rattle.std.proofs.lemmas.List.Sums.{sum_by-drop_more}
use Rattle.std.proofs.lemmas.Slice.{pushed}
use Rattle.qm_memory.specs.Mem.{cut}
use Rattle.qm_memory.proofs.Cuts.{ends-push, cut-push}
use Rattle.qm_memory.proofs.items.put_all.Goals as goal

pub loop-item-preserved : goal.loop-item-preserved
loop-item-preserved c =
    let bytes = c.loop-item.bytes.items in
    let ends = c.loop-item.ends.items in
    let item = c.item-item.result.items in
    let grown : c.extend_from_slice.new.self.items ≡ bytes ++ item = pushed c.deref.result.now refl c.unwrap.ensures c.extend_from_slice.ensures.items ∙ ap (λ x. bytes ++ x) c.deref.ensures.value in
    let end : c.len.result ≡ length (bytes ++ item) = c.len.ensures ∙ c.extend_from_slice.new.self.ok.0 ∙ ap length grown in
    let later : c.push_reserved.new.self.items ≡ ends ++ length (bytes ++ item) ∷ [] = c.push_reserved.ensures.items ∙ ap (λ n. ends ++ n ∷ []) end in
    record {
      ends = rw (later, grown) (ends-push 0 ends bytes item c.loop-item.invariant.ends);
      items = let one = cut-push 0 ends bytes item c.loop-item.invariant.ends in rw (later, grown) (grind (arith, common_steps));
      places = omega arith;
      room = omega (arith, c.extend_from_slice.new.self.ok.0, ap length grown, length-append bytes item, c.loop-item.bytes.ok.0, c.item-item.result.ok.0, sum_by-drop_more (λ v. vec_len v) c.args.added.now c.loop-item.item-index c.item-item.result c.loop-item-test.true, ap (λ v. vec_len v) c.item-item.is);
    }

pub loop-item-init : goal.loop-item-init
loop-item-init c = record { ends = c.requires.ends; items = sym (append-nil _); places = omega (arith, c.requires.places); room = c.requires.room }

-- there is room for the next of those that there is room for
next_fits : (had len next rest all capacity : ℕ) → had + all ≤ capacity → all ≡ next + rest → len ≡ next → had + len ≤ capacity
next_fits had len next rest all capacity room split is = omega arith

pub unwrap-requires : goal.unwrap-requires
unwrap-requires c =
    let item = c.item-item.result in
    let split = sum_by-drop_more (λ v. vec_len v) c.args.added.now c.loop-item.item-index item c.loop-item-test.true in
    c.extend_from_slice.ensures.succeeds
    (next_fits (vec_len c.loop-item.bytes) (length c.deref.result.now) _ _ _ _ c.loop-item.invariant.room split (c.deref.ensures.len ∙ ap (λ v. vec_len v) c.item-item.is))

pub push_reserved-requires : goal.push_reserved-requires
push_reserved-requires c = omega (arith, c.loop-item.invariant.places, c.loop-item-test.true)

pub returns : goal.returns
returns c = record {
  ends = c.loop-item.invariant.ends;
  items = c.loop-item.invariant.items ∙ ap (λ xs. cut 0 c.args.ends.now.items c.args.bytes.now.items ++ map (λ v. v.items) xs) (take_all c.loop-item.item-index c.args.added.now c.loop-item-test.false);
}
