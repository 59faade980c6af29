use Rattle.std.proofs.Common.{◌∙◌, ap, sym, length}
use Rattle.std.proofs.lemmas.Result.{err_from_is_err_and}
use Rattle.qm_model.specs.Trees.{peaks}
use Rattle.qm_pinned.specs.Metadata.{numbered}
use Rattle.qm_pinned.proofs.Finding.{pins-fine, pins-numbered, all-read, count-refused, pins-refused}
use Rattle.qm_pinned.proofs.pinned.read.Goals as goal

pub returns-in_err-chunks-clause-refused : goal.returns-in_err-chunks-clause-refused
returns-in_err-chunks-clause-refused g c = λ layout laid.
    let exit = err_from_is_err_and c.from_residual.result c.from_residual.ensures.1 in
    rw (exit.1, exit.2) (count-refused g.F.Family.shape g.D.Digest.SIZE c.args.height layout c.args.entries.now laid c.in_err-chunks.field-0.0 c.in_err-chunks.ensures.refused)

pub returns-in_err-pins-clause-refused : goal.returns-in_err-pins-clause-refused
returns-in_err-pins-clause-refused g c = λ layout laid.
    let exit = err_from_is_err_and c.from_residual-in_err-pins.result c.from_residual-in_err-pins.ensures.1 in
    let peaked = c.peak_count.ensures ∙ ap (λ n. length (peaks g.F.Family.shape n)) (c.new.ensures ∙ c.in_ok-chunks.ensures.count) in
    rw (exit.1, exit.2) (pins-refused g.F.Family.shape g.D.Digest.SIZE c.args.height c.peak_count.result layout c.args.entries.now laid c.in_ok-chunks.ensures.readable peaked c.in_err-pins.field-0.0 c.in_err-pins.ensures.refused)

pub returns-clause-readable : goal.returns-clause-readable
returns-clause-readable g c = λ layout laid.
    let peaked = c.peak_count.ensures ∙ ap (λ n. length (peaks g.F.Family.shape n)) (c.new.ensures ∙ c.in_ok-chunks.ensures.count) in
    all-read g.F.Family.shape g.D.Digest.SIZE c.args.height c.peak_count.result layout c.args.entries.now laid c.in_ok-chunks.ensures.readable peaked
    (pins-fine _ g.D.Digest.bytes g.D.Digest.SIZE g.met.D.Digest.sized c.in_ok-pins.pins.items (numbered c.args.entries.now c.peak_count.result) c.in_ok-pins.ensures.pins)

pub returns-clause-pins : goal.returns-clause-pins
returns-clause-pins g c =
    pins-numbered g.F.Family.shape c.args.entries.now c.in_ok-chunks.chunks
    ∙ ap (numbered c.args.entries.now) (ap (λ n. length (peaks g.F.Family.shape n)) (sym c.new.ensures) ∙ sym c.peak_count.ensures)
    ∙ c.in_ok-pins.ensures.pins

pub returns-clause-whole : goal.returns-clause-whole
returns-clause-whole g c = c.in_ok-pins.ensures.whole ∙ c.peak_count.ensures ∙ ap (λ n. length (peaks g.F.Family.shape n)) c.new.ensures
