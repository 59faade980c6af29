use Rattle.std.proofs.Common.{◌≡◌, ◌<◌, [], length, map, Ok, Err, arith, sym, ◌∙◌, ap, subst, append-nil}
use Rattle.std.specs.List.{zip}
use Rattle.std.proofs.lemmas.List.{length-map}
use Rattle.qm_lines.specs.Parsed.{byte_line}
use Rattle.qm_lines.specs.Views.{answer_view}
use Rattle.qm_engine.specs.declared.runs.End.TheVariants as ends
use Rattle.qm_fill.specs.Summary.{both, counts_of}
use Rattle.qm_filling.specs.Filled.{Fills}
use Rattle.qm_model.specs.Schemes.{chunks_of}
use Rattle.qm_engine.proofs.LastingStores.{turns-looser}
use Rattle.qm_filling.proofs.Parted.{some_given, part_counted}
use Rattle.qm_filling.proofs.Joined.{gave_up, err-is, not-done}
use Rattle.qm_filling.proofs.parts.fill_part.Goals as goal

pub returns-in-Ok : goal.returns-in-Ok
returns-in-Ok g c =
    let m = g.X.Meaning.scheme in
    let cs = c.args.commands.now in
    let part = c.run_part-replies in
    let told = part.ensures.ends in
    let view = answer_view (λ k. k) (λ v. v) g.X.Digest.Digest.bytes in
    let answers = map view part.result.replies.items in
    let is : c.in-Ok.tally ≡ both c.args.tally (counts_of (zip (map byte_line cs) answers)) = c.in-Ok.ensures ∙ ap (λ rs. both c.args.tally (counts_of (zip (map byte_line cs) (map view rs)))) c.deref.ensures.value in
    subst (λ t. Fills g.C.Store g.X.Meaning (map byte_line cs) c.args.session c.args.tally part.result.session (Ok t)) (sym is)
    (part_counted g.C.Store g.X.Meaning cs answers c.args.session part.result.session c.args.tally part.ensures.machine (part.ensures.onward c.in-Done.is) (length-map part.result.replies.items view ∙ part.ensures.done c.in-Done.is)
    (told.0, turns-looser (chunks_of m) told.0 _ _ (λ destroys. tt) told.1) part.ensures.later part.ensures.opened)

pub returns-in-Done : goal.returns-in-Done
returns-in-Done g c =
    let m = g.X.Meaning.scheme in
    let cs = c.args.commands.now in
    let part = c.run_part-replies in
    let told = part.ensures.ends in
    let view = answer_view (λ k. k) (λ v. v) g.X.Digest.Digest.bytes in
    let answers = map view part.result.replies.items in
    let lines = map byte_line cs in
    subst (λ ls. Fills g.C.Store g.X.Meaning ls c.args.session c.args.tally part.result.session (Err ends.Memory)) (append-nil lines)
    (gave_up g.C.Store g.X.Meaning lines [] c.args.session part.result.session part.result.session c.args.tally _
    (part_counted g.C.Store g.X.Meaning cs answers c.args.session part.result.session c.args.tally part.ensures.machine (part.ensures.onward c.in-Done.is) (length-map part.result.replies.items view ∙ part.ensures.done c.in-Done.is)
    (told.0, turns-looser (chunks_of m) told.0 _ _ (λ destroys. tt) told.1) part.ensures.later part.ensures.opened))

pub returns : goal.returns
returns g c =
    let m = g.X.Meaning.scheme in
    let cs = c.args.commands.now in
    let part = c.run_part-replies in
    let answers = map (answer_view (λ k. k) (λ v. v) g.X.Digest.Digest.bytes) part.result.replies.items in
    let other = not-done part.result.end c.in-Memory.is in
    let short : length answers < length cs = omega (arith, part.ensures.short other, length-map part.result.replies.items (answer_view (λ k. k) (λ v. v) g.X.Digest.Digest.bytes)) in
    record {
      all = tt;
      counted = tt;
      stopped = (
        other,
        (
          length answers,
          omega (arith, short, length-map cs byte_line),
          λ is. omega (arith, short, length-map cs byte_line),
          λ s more rest chose between bounded. some_given m s cs answers _ (part.ensures.machine s more rest chose between) bounded short,
        ),
      );
      ends = (part.ensures.ends.0, turns-looser (chunks_of m) part.ensures.ends.0 _ _ (λ destroys. tt) part.ensures.ends.1);
      later = part.ensures.later;
      fault = λ e. part.ensures.fault (err-is e);
      opened = omega (arith, part.ensures.opened, length-map cs byte_line);
    }
