use Rattle.std.proofs.Common.{◌≡◌, ◌∙◌, ◌≤◌, ap, refl, sym, subst, arith, None, IsSome, false}
use Rattle.std.specs.Option.{is_some}
use Rattle.std.proofs.lemmas.Result.{on_err_weaker, on_ok_weaker}
use Rattle.qm_bits.specs.Bitmaps.{bit_count}
use Rattle.qm_overlay.specs.Layers.{Overlay, IsClearBehind, IsFrom, changed_at, laid}
use Rattle.qm_overlay.proofs.Laying.{some_bits, hold_same, hold_clear, none_there, either, ok_of_err, on_err, on_ok_both}
use Rattle.qm_overlay.proofs.overlay.ChunkOverlay.hold.Goals as goal

pub read-requires : goal.read-requires
read-requires g c = c.requires.kept

pub returns-in_err-bits : goal.returns-in_err-bits
returns-in_err-bits g c = record {
  count = refl;
  held = ok_of_err _ c.from_residual.result c.from_residual.ensures.0;
  same = refl;
  from = λ least low is. is;
  err = on_err c.from_residual.result refl;
}

pub invariant_of-self : goal.invariant_of-self
invariant_of-self g c =
    let base = g.B.Readable.bitmap c.args.base.now in
    let old : Overlay = record { count = c.self.inside.len; changed = c.self.inside.changed.entries } in
    let new : Overlay = record { count = c.self.inside.len; changed = c.insert_in.new.changed.entries } in
    let absent : is_some (changed_at old.changed c.args.chunk) ≡ false = sym c.contains_key.ensures ∙ c.if-contains_key.false in
    let least : bit_count g.N.Chunks.LEN base ≤ old.count = subst (λ o. bit_count g.N.Chunks.LEN base ≤ o.count) (sym c.self.view_is) c.requires.not_below in (
      either c.insert_in.result
          (on_ok_both c.insert_in.result c.insert_in.ensures.here c.insert_in.ensures.other (λ here other.
          hold_clear g.N.Chunks.LEN base old new c.args.chunk c.in_ok-bits.bits (some_bits g.N.Chunks.LEN g.met.N.Chunks.least) refl least (none_there (changed_at old.changed c.args.chunk) absent) here other c.in_ok-bits.ensures c.self.invariant.0))
          (on_err_weaker c.insert_in.result (λ same. subst (λ e. IsClearBehind g.N.Chunks.LEN (record { count = c.self.inside.len; changed = e })) (sym same) c.self.invariant.0) c.insert_in.ensures.err),
      c.self.invariant.1,
    )

pub returns : goal.returns
returns g c =
    let base = g.B.Readable.bitmap c.args.base.now in
    let old : Overlay = record { count = c.self.inside.len; changed = c.self.inside.changed.entries } in
    let new : Overlay = record { count = c.self.inside.len; changed = c.insert_in.new.changed.entries } in
    let absent : is_some (changed_at old.changed c.args.chunk) ≡ false = sym c.contains_key.ensures ∙ c.if-contains_key.false in
    let least : bit_count g.N.Chunks.LEN base ≤ old.count = subst (λ o. bit_count g.N.Chunks.LEN base ≤ o.count) (sym c.self.view_is) c.requires.not_below in
    let left = on_err_weaker c.insert_in.result (λ same. ap {B = Overlay} (λ e. record { count = c.self.inside.len; changed = e }) same ∙ c.self.view_is) c.insert_in.ensures.err in
    record {
      count = ap (λ o. o.count) c.self.view_is;
      held = on_ok_weaker c.insert_in.result (ap is_some) c.insert_in.ensures.here;
      same =
          either c.insert_in.result
          (on_ok_both c.insert_in.result c.insert_in.ensures.here c.insert_in.ensures.other (λ here other.
          hold_same g.N.Chunks.LEN base old new c.args.chunk c.in_ok-bits.bits (some_bits g.N.Chunks.LEN g.met.N.Chunks.least) refl least (none_there (changed_at old.changed c.args.chunk) absent) here other c.in_ok-bits.ensures
          ∙ ap (λ o. laid g.N.Chunks.LEN o base) c.self.view_is))
          (on_err_weaker c.insert_in.result (ap (λ o. laid g.N.Chunks.LEN o base)) left);
      from = λ least low is.
          either c.insert_in.result
          (on_ok_weaker c.insert_in.result (λ other k lt. other k (λ same. omega (arith, lt, low, same)) ∙ subst (λ o. changed_at o.changed k ≡ None) (sym c.self.view_is) (is k lt)) c.insert_in.ensures.other)
          (on_err_weaker c.insert_in.result (λ same. subst (IsFrom least) (sym same) is) left);
      err = left;
    }

pub returns-then-contains_key : goal.returns-then-contains_key
returns-then-contains_key g c = record {
  count = refl;
  held = subst (λ o. IsSome (changed_at o.changed c.args.chunk)) c.self.view_is (sym c.contains_key.ensures ∙ c.if-contains_key.true);
  same = refl;
  from = λ least low is. is;
  err = tt;
}
