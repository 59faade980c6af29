use Rattle.std.proofs.Common.{◌≡◌, ◌∙◌, ◌+◌, ◌*◌, ◌<◌, ◌≤◌, ◌++◌, ◌∷◌, ℕ, List, [], length, map, ap, ap₂, sym, subst, arith, IfSome, length-append, length-take}
use Rattle.std.proofs.Math.Nat.{le_antisymm, mul-le-mul_right}
use Rattle.std.proofs.lemmas.List.{append-nil}
use Rattle.std.proofs.lemmas.Result.{IfOk-from_err}
use Rattle.std.specs.List.{concat}
use Rattle.qm_model.proofs.Results.{ok-then}
use Rattle.qm_store.proofs.Leaves.{pieces-next}
use Rattle.qm_store.proofs.log.bare_tree.Goals as goal

pub loop-preserved : goal.loop-preserved
loop-preserved g c =
    let bytes = g.D.Digest.bytes in
    let piece = subst (λ o. IfSome o (λ d. bytes d ≡ c.split_at.result.0.now)) c.unwrap.ensures c.from_bytes.ensures.value in
    record {
      made = omega (arith, ap length c.push_reserved.ensures.items, length-append c.loop.pins.items (c.unwrap.result ∷ []), c.loop.invariant.made);
      bytes = ap₂ (λ xs ys. concat (map bytes xs) ++ ys) c.push_reserved.ensures.items c.split_at.ensures.back
          ∙ pieces-next bytes c.loop.pins.items c.unwrap.result c.SIZE.result c.loop.rest.now c.args.bytes.now (piece ∙ c.split_at.ensures.front) c.loop.invariant.bytes;
      left = omega (arith, c.loop.invariant.left, c.split_at.ensures.back_len, c.split_at.ensures.front_len, ap length c.split_at.ensures.front, length-take c.SIZE.result c.loop.rest.now, c.SIZE.ensures);
      room = c.push_reserved.ensures.capacity ∙ c.loop.invariant.room;
    }

none-yet : (size n m : ℕ) → n ≡ m → 0 * size + n ≡ m
none-yet size n m same = omega arith

pub loop-init : goal.loop-init
loop-init g c = record {
  made = ap length c.in_ok-pins.ensures.items;
  bytes = ap (λ pins. concat (map g.D.Digest.bytes pins) ++ c.args.bytes.now) c.in_ok-pins.ensures.items;
  left = none-yet g.D.Digest.SIZE (length c.args.bytes.now) (c.args.count * g.D.Digest.SIZE) c.requires.long;
  room = c.in_ok-pins.ensures.exact;
}

pub push_reserved-requires : goal.push_reserved-requires
push_reserved-requires g c = omega (arith, c.loop.invariant.made, c.loop.invariant.room, c.loop-test.true)

-- one piece more is there
room : (i count size rest : ℕ) → i < count → i * size + rest ≡ count * size → size ≤ rest
room i count size rest within whole = let more : (i + 1) * size ≤ count * size = mul-le-mul_right size (omega arith) in let one : (i + 1) * size ≡ i * size + size = grind arith in omega arith

pub split_at-requires : goal.split_at-requires
split_at-requires g c = subst (λ n. n ≤ length c.loop.rest.now) (sym c.SIZE.ensures) (room c.loop.counter c.args.count g.D.Digest.SIZE (length c.loop.rest.now) c.loop-test.true c.loop.invariant.left)

pub unwrap-requires : goal.unwrap-requires
unwrap-requires g c = c.from_bytes.ensures.some.1 (c.split_at.ensures.front_len ∙ c.SIZE.ensures)

pub returns-in_err-pins : goal.returns-in_err-pins
returns-in_err-pins g c = record { start = IfOk-from_err c.from_residual.result _ c.from_residual.ensures.0; pins = IfOk-from_err c.from_residual.result _ c.from_residual.ensures.0 }

-- no byte is left after the last piece
all-read : (i count size : ℕ) (made rest bytes : List ℕ) → i ≡ count → made ++ rest ≡ bytes → i * size + length rest ≡ count * size → made ≡ bytes
all-read i count size made [] bytes last so_far whole = sym (append-nil made) ∙ so_far
all-read i count size made (x ∷ rest) bytes last so_far whole = let same : i * size ≡ count * size = ap (λ n. n * size) last in absurd (omega arith)

-- none more
none-more : (n k : ℕ) → k ≡ 0 → n ≡ n + k
none-more n k none = omega arith

pub from_pruned_with_retained-requires : goal.from_pruned_with_retained-requires
from_pruned_with_retained-requires g c =
    let last = le_antisymm c.loop.auto.counter-end c.loop-test.false in
    record {
      pins = c.loop.invariant.made ∙ last ∙ c.requires.count;
      size = (c.args.start, c.requires.few, none-more _ _ (ap length c.new.ensures.items));
    }

pub returns : goal.returns
returns g c =
    let last = le_antisymm c.loop.auto.counter-end c.loop-test.false in
    let tree = c.from_pruned_with_retained.result in
    let made = c.from_pruned_with_retained.ensures c.args.start (none-more _ _ (ap length c.new.ensures.items)) in
    let spelled =
    all-read c.loop.counter c.args.count g.D.Digest.SIZE (concat (map g.D.Digest.bytes c.loop.pins.items)) c.loop.rest.now c.args.bytes.now last c.loop.invariant.bytes c.loop.invariant.left in
    record {
      start = ok-then tree made (λ m is. (ap (λ m. m.start) is, ap (λ m. m.leaves) is));
      pins = ok-then tree made (λ m is. (ap (λ m. length m.pins) is ∙ c.loop.invariant.made ∙ last, ap (λ m. concat (map g.D.Digest.bytes m.pins)) is ∙ spelled));
    }
