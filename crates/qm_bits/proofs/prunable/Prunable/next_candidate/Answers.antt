use Rattle.std.proofs.Common.{◌∙◌, ap, sym, get_or, min, false, arith}
use Rattle.qm_bits.specs.Bitmaps.{start, bit_count}
use Rattle.qm_bits.proofs.Kept.{none_clear, none_found, search_clear, search_found}
use Rattle.qm_bits.proofs.prunable.Prunable.next_candidate.Goals as goal

pub next_set-requires-clause-within : goal.next_set-requires-clause-within
next_set-requires-clause-within g c =
    let from = ap (start g.N.Chunks.LEN) c.self.view_is in
    let count = ap (bit_count g.N.Chunks.LEN) c.self.view_is in
    omega (arith, c.start-start.ensures.value, c.len.ensures.value)

pub next_set-requires-clause-order : goal.next_set-requires-clause-order
next_set-requires-clause-order g c = omega (arith, c.if-end-first.false)

pub overflow_sub-first : goal.overflow_sub-first
overflow_sub-first g c = omega (arith, c.max-first.ensures)

pub overflow_sub-end : goal.overflow_sub-end
overflow_sub-end g c = omega (arith, c.if-end-first.false, c.max-first.ensures)

pub overflow_add-result : goal.overflow_add-result
overflow_add-result g c = omega (arith, c.if-end-first.false, c.max-first.ensures, c.min-end.ensures, c.next_set.ensures.between, c.ranges.tip.fits)

pub returns-then-end-first : goal.returns-then-end-first
returns-then-end-first g c =
    let end = c.min-end.ensures ∙ ap (λ n. min c.args.tip n) c.len.ensures.value in
    record {
      between = (omega (arith, c.max.ensures), omega (arith, c.max.ensures, c.min-end.ensures, c.requires));
      clear = λ i after before.
          none_clear g.N.Chunks.LEN c.args.self.now c.args.from c.args.tip c.start-start.result c.max-first.result c.min-end.result c.start-start.ensures.value c.max-first.ensures end c.if-end-first.true i after (omega (arith, before, c.max.ensures));
      found = λ before.
          rw c.max.ensures (none_found g.N.Chunks.LEN c.args.self.now c.args.from c.args.tip c.start-start.result c.max-first.result c.min-end.result c.start-start.ensures.value c.max-first.ensures end c.if-end-first.true (omega (arith, before, c.max.ensures)));
    }

pub returns : goal.returns
returns g c =
    let end = c.min-end.ensures ∙ ap (λ n. min c.args.tip n) c.len.ensures.value in
    record {
      between = (omega (arith, c.if-end-first.false, c.max-first.ensures, c.next_set.ensures.between), omega (arith, c.if-end-first.false, c.max-first.ensures, c.min-end.ensures, c.next_set.ensures.between));
      clear = search_clear g.N.Chunks.LEN c.args.self.now c.args.from c.args.tip c.start-start.result c.max-first.result c.min-end.result c.next_set.result c.start-start.ensures.value c.max-first.ensures end c.next_set.ensures.between.0 c.next_set.ensures.between.1 c.if-end-first.false
          (λ i after before. ap (λ m. get_or m.kept i false) (sym c.self.view_is) ∙ c.next_set.ensures.clear i after before);
      found = search_found g.N.Chunks.LEN c.args.self.now c.args.from c.args.tip c.start-start.result c.max-first.result c.min-end.result c.next_set.result c.start-start.ensures.value c.max-first.ensures end c.next_set.ensures.between.0 c.next_set.ensures.between.1 c.if-end-first.false
          (λ inside. ap (λ m. get_or m.kept c.next_set.result false) (sym c.self.view_is) ∙ c.next_set.ensures.set inside);
    }
