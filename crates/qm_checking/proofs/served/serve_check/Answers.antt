-- What each end of a check says.
use Rattle.std.proofs.Common.{◌≡◌, ap, sym, subst, ◌∙◌, refl, inl, inr, Err, IfSome, ⊎_elim}
use Rattle.std.proofs.lemmas.Bool.{eqb-false}
use Rattle.qm_model.specs.Causes.{Grows, GrowsPart}
use Rattle.qm_graft.specs.Grafting.{grafting}
use Rattle.qm_checking.specs.Says.{IsChecked}
use Rattle.qm_checking.specs.Views.{asked_view}
use Rattle.qm_checking.proofs.Sayings.{no_answer, early, whole, part}
use Rattle.qm_checking.proofs.served.serve_check.Goals as goal

pub returns-in-Err-Memory-clause-checked : goal.returns-in-Err-Memory-clause-checked
returns-in-Err-Memory-clause-checked g c = early g.H.Hasher.hash (grafting g.N.Chunks.LEN) g.N.Chunks.LEN g.H.Digest.Digest.SIZE (asked_view g.H.Digest.Digest.bytes c.args.asked.now) 5 (inr (inl refl)) (g.S.Source.left c.args.source.now) (g.S.Source.left c.read_all.new.source) (g.S.Source.faults c.args.source.now) (g.S.Source.faults c.read_all.new.source) (g.K.Sink.text c.args.sink.now) (g.K.Sink.faults c.args.sink.now) (λ e. absurd (eqb-false 5 3 refl e)) (λ e. absurd (eqb-false 5 7 refl e))

pub returns-in-Err-Memory-clause-untouched : goal.returns-in-Err-Memory-clause-untouched
returns-in-Err-Memory-clause-untouched g c = λ e. refl

pub returns-in-Err-Memory-clause-steady : goal.returns-in-Err-Memory-clause-steady
returns-in-Err-Memory-clause-steady g c = λ other. c.in-Err-Memory.ensures.steady (λ e. absurd (cc e))

pub returns-in-Err-Failed-clause-checked : goal.returns-in-Err-Failed-clause-checked
returns-in-Err-Failed-clause-checked g c = early g.H.Hasher.hash (grafting g.N.Chunks.LEN) g.N.Chunks.LEN g.H.Digest.Digest.SIZE (asked_view g.H.Digest.Digest.bytes c.args.asked.now) 3 (inl refl) (g.S.Source.left c.args.source.now) (g.S.Source.left c.read_all.new.source) (g.S.Source.faults c.args.source.now) (g.S.Source.faults c.read_all.new.source) (g.K.Sink.text c.args.sink.now) (g.K.Sink.faults c.args.sink.now) (λ e. c.in-Err-Failed.ensures.cause.failed (ap Err c.in-Err-Failed.field-0-is)) (λ e. absurd (eqb-false 3 7 refl e))

pub returns-in-Err-Failed-clause-untouched : goal.returns-in-Err-Failed-clause-untouched
returns-in-Err-Failed-clause-untouched g c = λ e. refl

pub returns-in-Err-Failed-clause-steady : goal.returns-in-Err-Failed-clause-steady
returns-in-Err-Failed-clause-steady g c = λ other. absurd (other refl)

pub returns-in-Err-TooLong-clause-checked : goal.returns-in-Err-TooLong-clause-checked
returns-in-Err-TooLong-clause-checked g c = early g.H.Hasher.hash (grafting g.N.Chunks.LEN) g.N.Chunks.LEN g.H.Digest.Digest.SIZE (asked_view g.H.Digest.Digest.bytes c.args.asked.now) 7 (inr (inr refl)) (g.S.Source.left c.args.source.now) (g.S.Source.left c.read_all.new.source) (g.S.Source.faults c.args.source.now) (g.S.Source.faults c.read_all.new.source) (g.K.Sink.text c.args.sink.now) (g.K.Sink.faults c.args.sink.now) (λ e. absurd (eqb-false 7 3 refl e)) (λ e. c.in-Err-TooLong.ensures.long (ap Err c.in-Err-TooLong.field-0-is))

pub returns-in-Err-TooLong-clause-untouched : goal.returns-in-Err-TooLong-clause-untouched
returns-in-Err-TooLong-clause-untouched g c = λ e. refl

pub returns-in-Err-TooLong-clause-steady : goal.returns-in-Err-TooLong-clause-steady
returns-in-Err-TooLong-clause-steady g c = λ other. c.in-Err-TooLong.ensures.steady (λ e. absurd (cc e))

pub returns-in_default-clause-checked : goal.returns-in_default-clause-checked
returns-in_default-clause-checked g c = early g.H.Hasher.hash (grafting g.N.Chunks.LEN) g.N.Chunks.LEN g.H.Digest.Digest.SIZE (asked_view g.H.Digest.Digest.bytes c.args.asked.now) 5 (inr (inl refl)) (g.S.Source.left c.args.source.now) (g.S.Source.left c.read_all.new.source) (g.S.Source.faults c.args.source.now) (g.S.Source.faults c.read_all.new.source) (g.K.Sink.text c.args.sink.now) (g.K.Sink.faults c.args.sink.now) (λ e. absurd (eqb-false 5 3 refl e)) (λ e. absurd (eqb-false 5 7 refl e))

pub returns-in_default-clause-untouched : goal.returns-in_default-clause-untouched
returns-in_default-clause-untouched g c = λ e. refl

pub returns-in_default-clause-steady : goal.returns-in_default-clause-steady
returns-in_default-clause-steady g c = λ other. c.in-Ok.ensures.steady (λ e. absurd (cc e))

pub returns-in-Ok-write_all-clause-checked : goal.returns-in-Ok-write_all-clause-checked
returns-in-Ok-write_all-clause-checked g c =
    subst (λ status. IsChecked g.H.Hasher.hash (grafting g.N.Chunks.LEN) g.N.Chunks.LEN g.H.Digest.Digest.SIZE (asked_view g.H.Digest.Digest.bytes c.args.asked.now) status (g.S.Source.left c.args.source.now) (g.S.Source.left c.read_all.new.source) (g.S.Source.faults c.args.source.now) (g.S.Source.faults c.read_all.new.source) (g.K.Sink.text c.args.sink.now) (g.K.Sink.text c.write_all.new.sink) (g.K.Sink.faults c.args.sink.now) (g.K.Sink.faults c.write_all.new.sink)) (sym c.status_of.ensures)
    (whole g.H.Hasher.hash (grafting g.N.Chunks.LEN) g.N.Chunks.LEN g.H.Digest.Digest.SIZE (asked_view g.H.Digest.Digest.bytes c.args.asked.now) c.in-Ok-verdict.verdict c.deref.result.now c.in-Ok-verdict.ensures.checked c.in-Ok-verdict.ensures.says (g.S.Source.left c.args.source.now) (g.S.Source.left c.read_all.new.source) (subst (λ bytes. IfSome (g.S.Source.left c.args.source.now) (λ input. bytes ≡ input)) (sym c.deref.ensures.value) c.in-Ok.ensures.all) c.in-Ok.ensures.end
    (g.S.Source.faults c.args.source.now) (g.S.Source.faults c.read_all.new.source) (g.K.Sink.text c.args.sink.now) (g.K.Sink.text c.write_all.new.sink) (g.K.Sink.faults c.args.sink.now) (g.K.Sink.faults c.write_all.new.sink)
    (subst (Grows (g.K.Sink.text c.args.sink.now) (g.K.Sink.text c.write_all.new.sink)) (c.as_bytes.ensures.value ∙ c.text_of.ensures) c.in-Ok-write_all.ensures.ok))

pub returns-in-Ok-write_all-clause-untouched : goal.returns-in-Ok-write_all-clause-untouched
returns-in-Ok-write_all-clause-untouched g c = ⊎_elim (λ e. no_answer c.in-Ok-verdict.verdict 3 refl refl (sym c.status_of.ensures ∙ e)) (λ e. no_answer c.in-Ok-verdict.verdict 7 refl refl (sym c.status_of.ensures ∙ e))

pub returns-in-Ok-write_all-clause-steady : goal.returns-in-Ok-write_all-clause-steady
returns-in-Ok-write_all-clause-steady g c = λ other. c.in-Ok.ensures.steady (λ e. absurd (cc e))

pub returns-in-Err-Failed-write_all-clause-checked : goal.returns-in-Err-Failed-write_all-clause-checked
returns-in-Err-Failed-write_all-clause-checked g c =
    part g.H.Hasher.hash (grafting g.N.Chunks.LEN) g.N.Chunks.LEN g.H.Digest.Digest.SIZE (asked_view g.H.Digest.Digest.bytes c.args.asked.now) c.in-Ok-verdict.verdict c.deref.result.now c.in-Ok-verdict.ensures.checked c.in-Ok-verdict.ensures.says (g.S.Source.left c.args.source.now) (g.S.Source.left c.read_all.new.source) (subst (λ bytes. IfSome (g.S.Source.left c.args.source.now) (λ input. bytes ≡ input)) (sym c.deref.ensures.value) c.in-Ok.ensures.all) c.in-Ok.ensures.end
    (g.S.Source.faults c.args.source.now) (g.S.Source.faults c.read_all.new.source) (g.K.Sink.text c.args.sink.now) (g.K.Sink.text c.write_all.new.sink) (g.K.Sink.faults c.args.sink.now) (g.K.Sink.faults c.write_all.new.sink) 4 (inl refl)
    (λ e. c.in-Err-Failed-write_all.ensures.cause.failed (ap Err c.in-Err-Failed-write_all.field-0-is)) (subst (GrowsPart (g.K.Sink.text c.args.sink.now) (g.K.Sink.text c.write_all.new.sink)) (c.as_bytes.ensures.value ∙ c.text_of.ensures) c.in-Err-Failed-write_all.ensures.err)

pub returns-in-Err-Failed-write_all-clause-untouched : goal.returns-in-Err-Failed-write_all-clause-untouched
returns-in-Err-Failed-write_all-clause-untouched g c = ⊎_elim (λ e. absurd (eqb-false 4 3 refl e)) (λ e. absurd (eqb-false 4 7 refl e))

pub returns-in-Err-Failed-write_all-clause-steady : goal.returns-in-Err-Failed-write_all-clause-steady
returns-in-Err-Failed-write_all-clause-steady g c = λ other. c.in-Ok.ensures.steady (λ e. absurd (cc e))

pub returns-clause-checked : goal.returns-clause-checked
returns-clause-checked g c =
    part g.H.Hasher.hash (grafting g.N.Chunks.LEN) g.N.Chunks.LEN g.H.Digest.Digest.SIZE (asked_view g.H.Digest.Digest.bytes c.args.asked.now) c.in-Ok-verdict.verdict c.deref.result.now c.in-Ok-verdict.ensures.checked c.in-Ok-verdict.ensures.says (g.S.Source.left c.args.source.now) (g.S.Source.left c.read_all.new.source) (subst (λ bytes. IfSome (g.S.Source.left c.args.source.now) (λ input. bytes ≡ input)) (sym c.deref.ensures.value) c.in-Ok.ensures.all) c.in-Ok.ensures.end
    (g.S.Source.faults c.args.source.now) (g.S.Source.faults c.read_all.new.source) (g.K.Sink.text c.args.sink.now) (g.K.Sink.text c.write_all.new.sink) (g.K.Sink.faults c.args.sink.now) (g.K.Sink.faults c.write_all.new.sink) 5 (inr refl)
    (λ e. absurd (eqb-false 5 4 refl e)) (subst (GrowsPart (g.K.Sink.text c.args.sink.now) (g.K.Sink.text c.write_all.new.sink)) (c.as_bytes.ensures.value ∙ c.text_of.ensures) c.in-Err-Memory-write_all.ensures.err)

pub returns-clause-untouched : goal.returns-clause-untouched
returns-clause-untouched g c = ⊎_elim (λ e. absurd (eqb-false 5 3 refl e)) (λ e. absurd (eqb-false 5 7 refl e))

pub returns-clause-steady : goal.returns-clause-steady
returns-clause-steady g c = λ other. c.in-Ok.ensures.steady (λ e. absurd (cc e))
