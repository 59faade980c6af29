use Rattle.std.specs.Prelude.{⊤}
use Rattle.std.proofs.Common.{◌≡◌, ℕ, List, ◌++◌, [], take, refl, sym, ◌∙◌, subst, inl, inr}
use Rattle.qm_model.specs.Causes.{Rose, Grows, GrowsPart}
use Rattle.qm_model.specs.Operations.{Bytes}
use Rattle.qm_model.specs.Own.{Log}
use Rattle.qm_model.specs.StoreModel.{Turns}
use Rattle.qm_engine.specs.Stores.{HasEnds}
use Rattle.qm_model.specs.Schemes.{chunks_of}
use Rattle.qm_run.specs.Endings.{tail_text, tail_status}
use Rattle.qm_run.proofs.Sayings.{Told, IsWhole, is_whole, each_more, says_part, partial, whole, unchanged, grown, grown_part}
use Rattle.qm_run.proofs.program.serve.Goals as goal

pub returns-in-Err-clause-headline : goal.returns-in-Err-clause-headline
returns-in-Err-clause-headline g c =
    let input : Bytes = c.args.input.now in
    let rose : Type 0 = Rose (g.C.Store.faults c.args.store) (g.C.Store.faults c.answer_lines-text.result.store) in
    let left = g.C.Store.told c.answer_lines-text.result.store in
    let ending = c.answer_lines-text.result.ending in
    let text = c.answer_lines-text.result.text.items in
    let k : ℕ = c.answer_lines-text.result.answered in
    each_more (g.C.Store.told c.args.store) c.answer_lines-text.ensures.machine (λ stored told answered.
    let is : (log : Log) (choices : List ℕ) → IsWhole g.X.Meaning.scheme log choices input rose k ending = λ log choices. is_whole g.X.Meaning.scheme log choices input rose k ending c.answer_lines-text.ensures.done c.answer_lines-text.ensures.bad c.answer_lines-text.ensures.fault c.answer_lines-text.ensures.short in
    unchanged g.X.Meaning.scheme stored input 5 rose left (g.K.Sink.text c.args.sink.now)
    (λ log own choices turns. says_part g.X.Meaning.scheme log choices input rose 5 [] left k (inr refl)
    (partial g.X.Meaning.scheme log choices input rose text k left (answered log own choices (subst (λ o. Turns o left (HasEnds (chunks_of g.X.Meaning.scheme) ⊤ choices)) (sym told) turns)) ending (is log choices) 0)))

pub returns-in-Ok-write_all-clause-headline : goal.returns-in-Ok-write_all-clause-headline
returns-in-Ok-write_all-clause-headline g c =
    let input : Bytes = c.args.input.now in
    let rose : Type 0 = Rose (g.C.Store.faults c.args.store) (g.C.Store.faults c.answer_lines-text.result.store) in
    let left = g.C.Store.told c.answer_lines-text.result.store in
    let ending = c.answer_lines-text.result.ending in
    let text = c.answer_lines-text.result.text.items in
    let k : ℕ = c.answer_lines-text.result.answered in
    let spelt : c.deref.result.now ≡ text ++ tail_text ending k = c.deref.ensures.value ∙ c.in-Ok.ensures in
    each_more (g.C.Store.told c.args.store) c.answer_lines-text.ensures.machine (λ stored told answered.
    let is : (log : Log) (choices : List ℕ) → IsWhole g.X.Meaning.scheme log choices input rose k ending = λ log choices. is_whole g.X.Meaning.scheme log choices input rose k ending c.answer_lines-text.ensures.done c.answer_lines-text.ensures.bad c.answer_lines-text.ensures.fault c.answer_lines-text.ensures.short in
    subst (λ s. Told g.X.Meaning.scheme stored input s rose left (g.K.Sink.text c.args.sink.now) (g.K.Sink.text c.write_all.new.sink)) (sym c.status_of.ensures)
    (grown g.X.Meaning.scheme stored input (tail_status ending) rose left (g.K.Sink.text c.args.sink.now) (g.K.Sink.text c.write_all.new.sink) (text ++ tail_text ending k)
    (subst (Grows (g.K.Sink.text c.args.sink.now) (g.K.Sink.text c.write_all.new.sink)) spelt c.in-Ok-write_all.ensures.ok)
    (λ log own choices turns. whole g.X.Meaning.scheme log choices input rose text k left (answered log own choices (subst (λ o. Turns o left (HasEnds (chunks_of g.X.Meaning.scheme) ⊤ choices)) (sym told) turns)) ending (is log choices))))

pub returns-in-Err-Failed-clause-headline : goal.returns-in-Err-Failed-clause-headline
returns-in-Err-Failed-clause-headline g c =
    let input : Bytes = c.args.input.now in
    let rose : Type 0 = Rose (g.C.Store.faults c.args.store) (g.C.Store.faults c.answer_lines-text.result.store) in
    let left = g.C.Store.told c.answer_lines-text.result.store in
    let ending = c.answer_lines-text.result.ending in
    let text = c.answer_lines-text.result.text.items in
    let k : ℕ = c.answer_lines-text.result.answered in
    let spelt : c.deref.result.now ≡ text ++ tail_text ending k = c.deref.ensures.value ∙ c.in-Ok.ensures in
    each_more (g.C.Store.told c.args.store) c.answer_lines-text.ensures.machine (λ stored told answered.
    let is : (log : Log) (choices : List ℕ) → IsWhole g.X.Meaning.scheme log choices input rose k ending = λ log choices. is_whole g.X.Meaning.scheme log choices input rose k ending c.answer_lines-text.ensures.done c.answer_lines-text.ensures.bad c.answer_lines-text.ensures.fault c.answer_lines-text.ensures.short in
    grown_part g.X.Meaning.scheme stored input 4 rose left (g.K.Sink.text c.args.sink.now) (g.K.Sink.text c.write_all.new.sink) (text ++ tail_text ending k)
    (subst (GrowsPart (g.K.Sink.text c.args.sink.now) (g.K.Sink.text c.write_all.new.sink)) spelt c.in-Err-Failed.ensures.err)
    (λ n log own choices turns. says_part g.X.Meaning.scheme log choices input rose 4 (take n (text ++ tail_text ending k)) left k (inl refl)
    (partial g.X.Meaning.scheme log choices input rose text k left (answered log own choices (subst (λ o. Turns o left (HasEnds (chunks_of g.X.Meaning.scheme) ⊤ choices)) (sym told) turns)) ending (is log choices) n)))

pub returns-clause-headline : goal.returns-clause-headline
returns-clause-headline g c =
    let input : Bytes = c.args.input.now in
    let rose : Type 0 = Rose (g.C.Store.faults c.args.store) (g.C.Store.faults c.answer_lines-text.result.store) in
    let left = g.C.Store.told c.answer_lines-text.result.store in
    let ending = c.answer_lines-text.result.ending in
    let text = c.answer_lines-text.result.text.items in
    let k : ℕ = c.answer_lines-text.result.answered in
    let spelt : c.deref.result.now ≡ text ++ tail_text ending k = c.deref.ensures.value ∙ c.in-Ok.ensures in
    each_more (g.C.Store.told c.args.store) c.answer_lines-text.ensures.machine (λ stored told answered.
    let is : (log : Log) (choices : List ℕ) → IsWhole g.X.Meaning.scheme log choices input rose k ending = λ log choices. is_whole g.X.Meaning.scheme log choices input rose k ending c.answer_lines-text.ensures.done c.answer_lines-text.ensures.bad c.answer_lines-text.ensures.fault c.answer_lines-text.ensures.short in
    grown_part g.X.Meaning.scheme stored input 5 rose left (g.K.Sink.text c.args.sink.now) (g.K.Sink.text c.write_all.new.sink) (text ++ tail_text ending k)
    (subst (GrowsPart (g.K.Sink.text c.args.sink.now) (g.K.Sink.text c.write_all.new.sink)) spelt c.in-Err-Memory.ensures.err)
    (λ n log own choices turns. says_part g.X.Meaning.scheme log choices input rose 5 (take n (text ++ tail_text ending k)) left k (inr refl)
    (partial g.X.Meaning.scheme log choices input rose text k left (answered log own choices (subst (λ o. Turns o left (HasEnds (chunks_of g.X.Meaning.scheme) ⊤ choices)) (sym told) turns)) ending (is log choices) n)))
