use Rattle.std.proofs.Common.{◌≡◌, ◌∙◌, ℕ, ◌+◌, ◌-◌, ◌*◌, ◌^◌, ◌<◌, ◌≤◌, [], ◌++◌, ap, arith, false, length, replicate}
use Rattle.std.proofs.lemmas.List.{take_all}
use Rattle.std.proofs.lemmas.Result.{IfOk-from_err}
use Rattle.qm_bits.specs.Bitmaps.{Bitmap, bit_count}
use Rattle.qm_open.proofs.Rebuilt.{clear-below, one-more}
use Rattle.qm_open.proofs.parts.activity_from.Goals as goal

pub loop-at-init : goal.loop-at-init
loop-at-init g c =
    let size = g.N.Chunks.LEN in
    let floor = c.args.floor in
    let is : c.extend_to.new.self ≡ record { pruned = c.args.chunks; kept = replicate (floor - (c.args.chunks * (8 * size) + 0)) false } = c.in_ok-extend_to.ensures.ok ∙ ap (λ (m : Bitmap). record { pruned = m.pruned; kept = m.kept ++ replicate (floor - bit_count size m) false }) c.new_with_pruned_chunks-activity.ensures in
    let made = clear-below size c.args.chunks floor c.extend_to.new.self is c.requires.below in
    record { pruned = ap (λ m. m.pruned) is; bits = made.0; count = made.1 }

pub loop-at-preserved : goal.loop-at-preserved
loop-at-preserved g c =
    let made = one-more g.N.Chunks.LEN c.loop-at.activity c.push.new.self (replicate c.args.floor false) c.args.behind.now c.loop-at.at c.args.floor (rw c.get_bit.ensures at c.in_ok-push.ensures.ok) (omega (arith, c.loop-at-test.true, c.len-at-end.ensures.value)) c.loop-at.invariant.bits c.loop-at.invariant.count in
    record { pruned = ap (λ m. m.pruned) c.in_ok-push.ensures.ok ∙ c.loop-at.invariant.pruned; bits = made.0; count = made.1 }

-- no bit is after the pruned chunks
begins : (size chunks floor long : ℕ) (map : Bitmap) → map ≡ record { pruned = chunks; kept = [] } → chunks * (8 * size) ≤ floor → floor + long ≤ 2 ^ 62 → (bit_count size map ≤ floor) × (floor ≤ 2 ^ 62)
begins size chunks floor long map is below few = let none = ap (bit_count size) is in (omega arith, omega arith)

-- there is room for the next bit
next_fits : (floor at end long count : ℕ) → end ≡ long → at < end → floor + long ≤ 2 ^ 62 → count ≡ floor + at → (count < 2 ^ 62) × (at < long)
next_fits floor at end long count is before few here = (omega arith, omega arith)

-- all bits are there
all_there : (at end long : ℕ) → end ≡ long → at ≤ end → end ≤ at → (at ≡ long) × (long ≤ at)
all_there at end long is most past = (omega arith, omega arith)

pub extend_to-requires : goal.extend_to-requires
extend_to-requires g c =
    let begins = begins g.N.Chunks.LEN c.args.chunks c.args.floor (length c.args.behind.now) c.new_with_pruned_chunks-activity.result c.new_with_pruned_chunks-activity.ensures c.requires.below c.requires.few in
    record { not_below = begins.0; bounded = begins.1 }

pub push-requires : goal.push-requires
push-requires g c = (next_fits c.args.floor c.loop-at.at c.len-at-end.result (length c.args.behind.now) _ c.len-at-end.ensures.value c.loop-at-test.true c.requires.few c.loop-at.invariant.count).0

pub get_bit-requires : goal.get_bit-requires
get_bit-requires g c = (next_fits c.args.floor c.loop-at.at c.len-at-end.result (length c.args.behind.now) _ c.len-at-end.ensures.value c.loop-at-test.true c.requires.few c.loop-at.invariant.count).1

pub returns-in_err-extend_to : goal.returns-in_err-extend_to
returns-in_err-extend_to g c =
    let result = c.from_residual.result in
    let failed = c.from_residual.ensures.0 in
    record { pruned = IfOk-from_err result _ failed; bits = IfOk-from_err result _ failed; count = IfOk-from_err result _ failed }

pub returns-in_err-push : goal.returns-in_err-push
returns-in_err-push g c =
    let result = c.from_residual-in_err-push.result in
    let failed = c.from_residual-in_err-push.ensures.0 in
    record { pruned = IfOk-from_err result _ failed; bits = IfOk-from_err result _ failed; count = IfOk-from_err result _ failed }

pub returns : goal.returns
returns g c =
    let behind = c.args.behind.now in
    let all = all_there c.loop-at.at c.len-at-end.result (length behind) c.len-at-end.ensures.value c.loop-at.auto.at-end c.loop-at-test.false in
    record {
      pruned = c.loop-at.invariant.pruned;
      bits = c.loop-at.invariant.bits ∙ ap (λ bs. replicate c.args.floor false ++ bs) (take_all c.loop-at.at behind all.1);
      count = c.loop-at.invariant.count ∙ ap (λ n. c.args.floor + n) all.0;
    }
