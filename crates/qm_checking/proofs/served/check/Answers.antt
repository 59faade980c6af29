-- What a check does of words that ask for one, and of others.
use Rattle.std.proofs.Common.{refl, inl, inr, ap, sym, ◌∙◌}
use Rattle.std.specs.Prelude.{option_map}
use Rattle.std.proofs.lemmas.Bool.{eqb-false}
use Rattle.qm_graft.specs.Grafting.{grafting}
use Rattle.qm_checking.specs.Views.{asked_view}
use Rattle.qm_checking.proofs.Sayings.{if_none, if_some, if_each, early}
use Rattle.qm_checking.proofs.served.check.Goals as goal

pub returns-in-Ok-Some-clause-checked : goal.returns-in-Ok-Some-clause-checked
returns-in-Ok-Some-clause-checked g c = if_some _ _ _ (sym (ap (option_map (asked_view g.H.Digest.Digest.bytes)) c.in-Ok-Some.field-0-is) ∙ c.in-Ok-Some.ensures) c.serve_check.ensures.checked

pub returns-in-Ok-Some-clause-untouched : goal.returns-in-Ok-Some-clause-untouched
returns-in-Ok-Some-clause-untouched g c = c.serve_check.ensures.untouched

pub returns-in-Ok-Some-clause-steady : goal.returns-in-Ok-Some-clause-steady
returns-in-Ok-Some-clause-steady g c = c.serve_check.ensures.steady

pub returns-in-Ok-None-clause-checked : goal.returns-in-Ok-None-clause-checked
returns-in-Ok-None-clause-checked g c = if_none _ _ (sym (ap (option_map (asked_view g.H.Digest.Digest.bytes)) c.in-Ok-None.field-0-is) ∙ c.in-Ok-None.ensures)

pub returns-in-Ok-None-clause-untouched : goal.returns-in-Ok-None-clause-untouched
returns-in-Ok-None-clause-untouched g c = λ e. refl

pub returns-in-Ok-None-clause-steady : goal.returns-in-Ok-None-clause-steady
returns-in-Ok-None-clause-steady g c = λ other. refl

pub returns-in-Err-clause-checked : goal.returns-in-Err-clause-checked
returns-in-Err-clause-checked g c = if_each _ _ (λ asked. early g.H.Hasher.hash (grafting g.N.Chunks.LEN) g.N.Chunks.LEN g.H.Digest.Digest.SIZE asked 5 (inr (inl refl)) (g.S.Source.left c.args.source.now) (g.S.Source.left c.args.source.now) (g.S.Source.faults c.args.source.now) (g.S.Source.faults c.args.source.now) (g.K.Sink.text c.args.sink.now) (g.K.Sink.faults c.args.sink.now) (λ e. absurd (eqb-false 5 3 refl e)) (λ e. absurd (eqb-false 5 7 refl e)))

pub returns-in-Err-clause-untouched : goal.returns-in-Err-clause-untouched
returns-in-Err-clause-untouched g c = λ e. refl

pub returns-in-Err-clause-steady : goal.returns-in-Err-clause-steady
returns-in-Err-clause-steady g c = λ other. refl
