use Rattle.std.proofs.Common.{◌≡◌, ◌+◌, ◌++◌, ◌∙◌, ap, sym, subst, arith, w64}
use Rattle.std.specs.Int.{to_le_bytes}
use Rattle.qm_bits.proofs.Packing.{AreBytes, bytes_none, bytes_more, bytes_are}
use Rattle.qm_bits.proofs.words.bytes.Goals as goal

pub loop-k-init : goal.loop-k-init
loop-k-init c = subst (λ bytes. AreBytes c.args.words.now c.args.first 0 bytes) (sym c.in_ok-bytes.ensures.items) (bytes_none c.args.words.now c.args.first)

pub loop-k-preserved : goal.loop-k-preserved
loop-k-preserved c =
    subst (λ bytes. AreBytes c.args.words.now c.args.first (c.loop-k.k + 1) bytes)
    (sym (c.in_ok-extend_from_slice.ensures.items ∙ ap (λ more. c.loop-k.bytes.items ++ more) (c.to_le_bytes.ensures ∙ ap (to_le_bytes w64) c.word_at.ensures)))
    (bytes_more c.args.words.now c.args.first c.loop-k.k c.loop-k.bytes.items c.loop-k.invariant)

pub returns : goal.returns
returns c =
    let all : c.loop-k.k ≡ c.args.count = omega arith in
    bytes_are c.args.words.now c.args.first c.args.count c.loop-k.bytes.items (subst (λ k. AreBytes c.args.words.now c.args.first k c.loop-k.bytes.items) all c.loop-k.invariant)
