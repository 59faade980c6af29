use Rattle.std.proofs.Common.{◌∙◌, ap, subst, sym, refl}
use Rattle.std.proofs.lemmas.Option.{IfSome_then}
use Rattle.qm_base.specs.Views.{pair_view}
use Rattle.qm_step.proofs.Reading.{lent-then, told, whole-then}
use Rattle.qm_batch.specs.Scans.{IsStep, Scanning, left_of}
use Rattle.qm_batch.proofs.Going.{told-any, told-two}
use Rattle.qm_base.proofs.Reading.{reads-on, reads-short, read-none, reads-then}
use Rattle.std.specs.Option.{option_transpose}
use Rattle.qm_batch.proofs.scan.Scan.next.Goals as goal

pub returns-in-Some : goal.returns-in-Some
returns-in-Some g c = record {
  value = λ list is. told-any (g.L.Items.reads.told c.args.log.now) (λ _. ap (λ (s : Scanning). left_of g.I.Unordered.index_key s list) c.in-Some.ensures);
  reads = reads-short g.L.Items.reads _ (read-none g.L.Items.reads g.met.L.Items.unread c.args.log.now) tt;
}

pub returns-in-Some-take : goal.returns-in-Some-take
returns-in-Some-take g c = record {
  value = λ list is.
      IfSome_then (g.L.Items.reads.told c.args.log.now) (c.read_on.ensures.value list is) (λ _ same. sym (same ∙ ap (λ (s : Scanning). left_of g.I.Unordered.index_key s list) c.in_default.ensures.1) ∙ ap (λ (s : Scanning). left_of g.I.Unordered.index_key s list) c.in-Some-take.ensures);
  reads = reads-short g.L.Items.reads _ c.read_on.ensures.reads.left tt;
}

pub returns-in-Err : goal.returns-in-Err
returns-in-Err g c = record {
  value = λ list is.
      IfSome_then (g.L.Items.reads.told c.args.log.now) (c.read_on.ensures.value list is) (λ _ same. same ∙ ap (λ (s : Scanning). left_of g.I.Unordered.index_key s list) c.in_default.ensures.1);
  reads = reads-on g.L.Items.reads _ c.in-Err.ensures.reads refl refl;
}

pub returns : goal.returns
returns g c = record {
  value = λ list is.
      let read = c.read_on.ensures.reads.left in
      let mid = lent-then g.L.Items.reads _ g.I.Unordered.index_key (g.I.Unordered.entries c.args.index.now) c.args.log.now c.read_on.new.log list read is in
      let view = pair_view g.U.Key.ByteString.bytes g.U.Value.ByteString.bytes in
      told-two (g.L.Items.reads.told c.args.log.now) (c.read_on.ensures.value list is) (told _ _ _ read.told (c.next_behind.ensures.value list mid))
      (λ _ same step. subst (λ before. IsStep view before (left_of g.I.Unordered.index_key c.next_behind.new.self list) c.next_behind.result) (ap (λ (s : Scanning). left_of g.I.Unordered.index_key s list) c.in_default-take.ensures.1 ∙ same ∙ ap (λ (s : Scanning). left_of g.I.Unordered.index_key s list) c.in_default.ensures.1) step);
  reads =
      reads-then g.L.Items.reads g.met.L.Items.read_again g.met.L.Items.failed_later (option_transpose c.next_behind.result) c.read_on.ensures.reads.left (whole-then g.L.Items.reads _ g.I.Unordered.index_key _ _ _ c.read_on.ensures.reads.left)
      c.next_behind.ensures.reads;
}
