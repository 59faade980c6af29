use Rattle.std.proofs.Common.{◌≡◌, ◌-◌, ◌*◌, ◌≤◌, ◌∙◌, ◌++◌, ap, arith, false, length, replicate, subst, sym, Bool}
use Rattle.std.proofs.lemmas.List.{length-replicate}
use Rattle.std.proofs.lemmas.Result.{on_ok_weaker, on_err_weaker}
use Rattle.qm_bits.specs.Bitmaps.{Bitmap, start, bit_count}
use Rattle.qm_bits.proofs.Kept.{grown_fits}
use Rattle.qm_bits.proofs.prunable.Prunable.extend_to.Goals as goal

pub overflow_sub-length : goal.overflow_sub-length
overflow_sub-length g c = omega (arith, c.start.ensures.value, c.requires.not_below)

pub extend_to-requires-clause-not_below : goal.extend_to-requires-clause-not_below
extend_to-requires-clause-not_below g c =
    let from = c.start.ensures.value ∙ ap (start g.N.Chunks.LEN) (sym c.self.view_is) in
    let below = subst (λ m. bit_count g.N.Chunks.LEN m ≤ c.args.len) (sym c.self.view_is) c.requires.not_below in
    omega (arith, from, below)

pub extend_to-requires-clause-bounded : goal.extend_to-requires-clause-bounded
extend_to-requires-clause-bounded g c = omega (arith, c.requires.bounded)

pub invariant_of-self : goal.invariant_of-self
invariant_of-self g c =
    let bits = c.self.inside.bits in
    let more = c.args.len - c.start.result - length bits in
    let from = c.start.ensures.value ∙ ap (start g.N.Chunks.LEN) (sym c.self.view_is) in
    let below = subst (λ m. bit_count g.N.Chunks.LEN m ≤ c.args.len) (sym c.self.view_is) c.requires.not_below in
    grown_fits (c.self.inside.pruned * (8 * g.N.Chunks.LEN)) bits (replicate more false) c.extend_to.new.self c.extend_to.result c.extend_to.ensures.ok c.extend_to.ensures.err
    (omega (arith, from, below, c.requires.bounded, length-replicate {A = Bool} more false))

pub returns : goal.returns
returns g c =
    let bits = c.self.inside.bits in
    let from = c.start.ensures.value ∙ ap (start g.N.Chunks.LEN) (sym c.self.view_is) in
    let more : c.args.len - c.start.result - length bits ≡ c.args.len - bit_count g.N.Chunks.LEN (record { pruned = c.self.inside.pruned; kept = bits }) = omega (arith, from) in
    record {
      ok = on_ok_weaker c.extend_to.result
          (λ longer. ap {B = Bitmap} (λ bits. record { pruned = c.self.inside.pruned; kept = bits }) (longer ∙ ap (λ n. bits ++ replicate n false) more)
          ∙ ap {B = Bitmap} (λ m. record { pruned = m.pruned; kept = m.kept ++ replicate (c.args.len - bit_count g.N.Chunks.LEN m) false }) c.self.view_is)
          c.extend_to.ensures.ok;
      err = on_err_weaker c.extend_to.result (λ same. ap {B = Bitmap} (λ bits. record { pruned = c.self.inside.pruned; kept = bits }) same ∙ c.self.view_is) c.extend_to.ensures.err;
    }
