use Rattle.std.proofs.Common.{◌≡◌, ◌∙◌, ap, arith, length, sym}
use Rattle.std.specs.List.{remove}
use Rattle.std.proofs.lemmas.List.Edits.{length-remove}
use Rattle.qm_index.specs.Held.{values_in}
use Rattle.qm_index.proofs.Maps.{only-last, remove_filled}
use Rattle.qm_index.proofs.bucket.Bucket.remove.Goals as goal
use Rattle.qm_index.proofs.bucket.Bucket.remove.Goals.{in-One-1, in-More-1}

pub remove-requires : goal.remove-requires
remove-requires g c =
    let same = ap values_in (sym c.in-More.is) ∙ c.self.view_is in
    omega (arith, ap length same, c.requires.place, c.in-More.values.ok.0)

pub invariant_of-self : goal.invariant_of-self
invariant_of-self g c = tt

pub invariant_of-self-in-Some-2 : goal.invariant_of-self-in-Some-2
invariant_of-self-in-Some-2 g c = tt

pub returns-in-Some : goal.returns-in-Some
returns-in-Some g c =
    let left = c.remove.ensures.items ∙ ap (λ vs. remove vs c.args.i) (ap values_in (sym c.in-More.is) ∙ c.self.view_is) in
    let last = only-last c.pop.new.self.items c.remove.new.self.items c.in-Some.last c.in-Some.ensures.items (omega (arith, c.if-len-eq1.true, c.len.ensures, c.remove.new.self.ok.0)) in
    let value : c.match-self-2.self ≡ remove c.args.self.now c.args.i = elim c.match-self-2.branch [
      | in-One-1 w ↦ w.self-is ∙ last ∙ left
      | in-More-1 w ↦ w.self-is ∙ last ∙ left
    ] in
    record {
      value = value;
      some = λ none. remove_filled c.args.self.now c.args.i c.requires.place c.requires.several (sym value ∙ none);
    }

pub invariant_of-self-else-len-eq1 : goal.invariant_of-self-else-len-eq1
invariant_of-self-else-len-eq1 g c =
    let left = c.remove.ensures.items ∙ ap (λ vs. remove vs c.args.i) (ap values_in (sym c.in-More.is) ∙ c.self.view_is) in
    omega (arith, ap length left, length-remove c.args.self.now c.args.i c.requires.place, c.requires.several, c.len.ensures, c.if-len-eq1.false, c.remove.new.self.ok.0)

pub returns-else-len-eq1 : goal.returns-else-len-eq1
returns-else-len-eq1 g c =
    let left = c.remove.ensures.items ∙ ap (λ vs. remove vs c.args.i) (ap values_in (sym c.in-More.is) ∙ c.self.view_is) in
    record {
      value = left;
      some = λ none. remove_filled c.args.self.now c.args.i c.requires.place c.requires.several (sym left ∙ none);
    }

pub invariant_of-self-in_default : goal.invariant_of-self-in_default
invariant_of-self-in_default g c = c.self.invariant

pub returns-in_default : goal.returns-in_default
returns-in_default g c =
    let one = ap length (ap values_in (sym c.in_default.is) ∙ c.self.view_is) in
    absurd (omega (arith, one, c.requires.several))
