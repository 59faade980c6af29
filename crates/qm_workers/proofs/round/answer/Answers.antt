use Rattle.std.proofs.Common.{◌<◌, ap, sym, subst, ◌∙◌, arith, refl}
use Rattle.std.specs.Prelude.{option_map, option_and_then}
use Rattle.std.proofs.lemmas.Option.{IfSome_then}
use Rattle.std.proofs.lemmas.Result.{err_from_is_err_and}
use Rattle.qm_operations.specs.Parts.{update_key}
use Rattle.qm_build.proofs.Decoding.{each}
use Rattle.qm_build.proofs.Spelling.{there-is}
use Rattle.qm_workers.specs.Working.{Work, work_of}
use Rattle.qm_workers.proofs.Asking.{left-told, asked-within, done-told, within-told}
use Rattle.qm_workers.proofs.round.answer.Goals as goal

pub key_at-requires : goal.key_at-requires
key_at-requires g c =
    let log = c.args.log.now in
    let here = asked-within g.I.Unordered.index_key log.tree.start log.tree.leaves (work_of g.I.Unordered.entries g.U.Key.ByteString.bytes c.args.worker.now) c.in-Some.location c.requires (sym c.asked.ensures ∙ c.in-Some.is) in
    record { kept = here.0; below = here.1 }

pub returns-clause-told : goal.returns-clause-told
returns-clause-told g c =
    let index_key = g.I.Unordered.index_key in
    let bytes = g.U.Key.ByteString.bytes in
    let log = c.args.log.now in
    let old = work_of g.I.Unordered.entries bytes c.args.worker.now in
    let new = work_of g.I.Unordered.entries bytes c.tell.new.self in
    let at = c.in-Some.location in
    record {
      done = λ ops from size within.
          let here = asked-within index_key from log.tree.leaves old at within (sym c.asked.ensures ∙ c.in-Some.is) in
          let own = there-is ops at (subst (λ n. at < n) size here.1) in
          IfSome_then (g.C.Store.told log.store) (c.in_ok-key.ensures.value own.0) (λ s says spells final most has.
          done-told index_key ops final most at (option_map bytes c.in_ok-key.key) old new c.in_ok-tell.ensures (ap (option_and_then update_key) own.1 ∙ sym (says (spells at own.0 here.0 own.1))) has);
      within = λ from to within. within-told from to at (option_map bytes c.in_ok-key.key) old new c.in_ok-tell.ensures within;
      failed = ap (λ (w : Work). w.failed) c.in_ok-tell.ensures.same;
      coming = ap (λ (w : Work). w.coming) c.in_ok-tell.ensures.same;
    }

pub returns-in_default-clause-told : goal.returns-in_default-clause-told
returns-in_default-clause-told g c = record {
  done = λ ops from size within. each (g.C.Store.told c.args.log.now.store) (λ s spells final most has. has);
  within = λ from to within. within;
  failed = refl;
  coming = refl;
}

pub returns-clause-no_more : goal.returns-clause-no_more
returns-clause-no_more g c =
    let bytes = g.U.Key.ByteString.bytes in
    let less = left-told g.I.Unordered.index_key c.in-Some.location (option_map bytes c.in_ok-key.key) (work_of g.I.Unordered.entries bytes c.args.worker.now) (work_of g.I.Unordered.entries bytes c.tell.new.self) c.in_ok-tell.ensures (sym c.asked.ensures ∙ c.in-Some.is) in
    omega (arith, less)

pub returns-clause-less : goal.returns-clause-less
returns-clause-less g c = λ did.
    let bytes = g.U.Key.ByteString.bytes in
    left-told g.I.Unordered.index_key c.in-Some.location (option_map bytes c.in_ok-key.key) (work_of g.I.Unordered.entries bytes c.args.worker.now) (work_of g.I.Unordered.entries bytes c.tell.new.self) c.in_ok-tell.ensures (sym c.asked.ensures ∙ c.in-Some.is)

pub returns-in_err-key-clause-corrupt : goal.returns-in_err-key-clause-corrupt
returns-in_err-key-clause-corrupt g c =
    let log = c.args.log.now in
    let at = c.in-Some.location in
    let old = work_of g.I.Unordered.entries g.U.Key.ByteString.bytes c.args.worker.now in
    let exit = err_from_is_err_and c.from_residual.result c.from_residual.ensures.1 in
    rw (exit.1, exit.2) (IfSome_then (g.C.Store.told log.store) c.in_err-key.ensures.corrupt (λ s lost is from within.
    let here = asked-within g.I.Unordered.index_key from log.tree.leaves old at within (sym c.asked.ensures ∙ c.in-Some.is) in (at, here.0, here.1, lost is)))
