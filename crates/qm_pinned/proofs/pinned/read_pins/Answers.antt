use Rattle.std.proofs.Common.{◌≡◌, ◌∙◌, ap, sym, subst, refl, inl, inr, false, map, length, Some, arith}
use Rattle.std.specs.Prelude.{is_none, option_map}
use Rattle.std.specs.List.{list_any}
use Rattle.std.proofs.lemmas.Result.{IfOk-from_err, err_from_is_err_and}
use Rattle.qm_base.specs.declared.error.Corrupt.TheVariants as corrupt
use Rattle.qm_pinned.specs.Metadata.{numbered}
use Rattle.qm_pinned.proofs.Finding.{invalid, read-next}
use Rattle.qm_pinned.proofs.pinned.read_pins.Goals as goal

pub loop-number-init : goal.loop-number-init
loop-number-init g c = record {
  pins = sym (ap (λ ds. map (λ pin. Some pin) (map g.D.Digest.bytes ds)) c.in_ok-pins.ensures.items);
  count = ap length c.in_ok-pins.ensures.items;
  room = c.in_ok-pins.ensures.exact;
}

pub loop-number-preserved : goal.loop-number-preserved
loop-number-preserved g c = record {
  pins =
      read-next _ g.D.Digest.bytes g.D.Digest.SIZE c.args.entries.now c.loop-number.number _ _ _ c.loop-number.invariant.pins
      (sym (ap (option_map g.D.Digest.bytes) c.in-Some.is) ∙ c.read_pin.ensures) c.push_reserved.ensures.items;
  count = omega (arith, c.push_reserved.ensures.len, c.loop-number.invariant.count);
  room = c.push_reserved.ensures.capacity ∙ c.loop-number.invariant.room;
}

pub push_reserved-requires : goal.push_reserved-requires
push_reserved-requires g c = omega (arith, c.loop-number.invariant.count, c.loop-number.invariant.room, c.loop-number-test.true)

pub returns-in-None-clause-refused : goal.returns-in-None-clause-refused
returns-in-None-clause-refused g c =
    let entries = c.args.entries.now in
    let there : list_any is_none (numbered entries c.args.count) ≡ false = grind arith in
    inr (
      corrupt.InvalidPin,
      refl,
      invalid g.D.Digest.SIZE entries c.loop-number.number c.args.count c.loop-number-test.true there
          (sym c.read_pin.ensures ∙ ap (option_map g.D.Digest.bytes) c.in-None.is),
    )

pub returns-in_err-pins : goal.returns-in_err-pins
returns-in_err-pins g c =
    let result = c.from_residual.result in
    let failed = c.from_residual.ensures.0 in
    let exit = err_from_is_err_and result c.from_residual.ensures.1 in
    record { pins = IfOk-from_err result _ failed; refused = rw (exit.1, exit.2) (inl refl); whole = IfOk-from_err result _ failed }

pub returns : goal.returns
returns g c =
    let over : c.loop-number.number ≡ c.args.count = omega (arith, c.loop-number.auto.number-end, c.loop-number-test.false) in
    record {
      pins = subst (λ n. numbered c.args.entries.now n ≡ map (λ pin. Some pin) (map g.D.Digest.bytes c.loop-number.pins.items)) over c.loop-number.invariant.pins;
      refused = tt;
      whole = c.loop-number.invariant.count ∙ over;
    }
