use Rattle.std.proofs.Common.{◌∙◌, ap, sym, refl}
use Rattle.std.proofs.lemmas.Option.{IfSome_then}
use Rattle.qm_batch.specs.Scans.{Scanning, left_of}
use Rattle.qm_batch.proofs.Going.{told-two}
use Rattle.qm_base.proofs.Reading.{reads-on, reads-short}
use Rattle.qm_batch.proofs.scan.Scan.next_behind.Goals as goal

pub returns-in-Some : goal.returns-in-Some
returns-in-Some g c = record {
  value = λ list is.
      IfSome_then (g.L.Items.reads.told c.args.log.now) (c.read_on.ensures.value list is) (λ _ same. sym same ∙ ap (λ (s : Scanning). left_of g.I.Unordered.index_key s list) c.in-Some.ensures);
  reads = reads-short g.L.Items.reads _ c.read_on.ensures.reads.left tt;
}

pub returns-in-None : goal.returns-in-None
returns-in-None g c = record {
  value = λ list is.
      told-two (g.L.Items.reads.told c.args.log.now) (c.read_on.ensures.value list is) (c.in-Ok.ensures.over list is)
      (λ _ same gone. let none = gone c.requires.begun c.in-None.ensures.0 in (sym same ∙ none, ap (λ (s : Scanning). left_of g.I.Unordered.index_key s list) c.in-None.ensures.1 ∙ none));
  reads = reads-short g.L.Items.reads _ c.read_on.ensures.reads.left tt;
}

pub returns-in-Err : goal.returns-in-Err
returns-in-Err g c = record {
  value = c.in-Err.ensures.value;
  reads = reads-on g.L.Items.reads _ c.in-Err.ensures.reads refl refl;
}
