use Rattle.std.proofs.Common.{◌≡◌, ◌∙◌, ap, sym, None}
use Rattle.std.specs.Prelude.{not}
use Rattle.qm_model.specs.Opening.{entry_of, metadata_key}
use Rattle.qm_pinned.proofs.Finding.{missing, none-lent}
use Rattle.qm_pinned.proofs.pinned.has_pins.Goals as goal

pub returns-then-is_none : goal.returns-then-is_none
returns-then-is_none c =
    let entries = c.args.entries.now in
    let none : entry_of entries (metadata_key 0 c.loop-number.number) ≡ None =
    ap (λ n. entry_of entries (metadata_key 0 n)) (sym c.from.ensures)
    ∙ none-lent _ c.value_of.result c.is_none.result _ c.is_none.ensures c.if-is_none.true c.value_of.ensures in
    ap not (sym (missing entries c.loop-number.number c.args.count c.loop-number-test.true none))
