use Rattle.std.proofs.Common.{◌≡◌, ◌⊎◌, ◌∙◌, ℕ, List, length, map, take, drop, true, All, ap, sym, arith, rules, subst, zero, suc, ◌∷◌, []}
use Rattle.std.proofs.lemmas.Bool.{false≢true}
use Rattle.std.proofs.lemmas.List.{length-map}
use Rattle.qm_model.specs.Operations.{Bytes}
use Rattle.qm_model.specs.Trees.{root}
use Rattle.qm_model.specs.Proofs.{item_leaves, verdict, checked_inputs, root_inputs, Collides}
use Rattle.qm_model.proofs.Speaking.{speaks}
use Rattle.qm_proofs.specs.Proofs.{proof_view}
use Rattle.std.specs.Prelude.{bytes_eq}
use Rattle.qm_merkle.proofs.Numbering.{birth-born}
use Rattle.qm_proofs.proofs.Folding.{verdict_is, verdict_none, verdict_unfit}
use Rattle.qm_proofs.proofs.Proof.verify.Goals as goal

-- digests of the proof's type are as long as hashes
all_sized : {D : Type 0} (bytes : D → Bytes) (size : ℕ) → ((d : D) → length (bytes d) ≡ size) → (ds : List D) → All (λ d. length d ≡ size) (map bytes ds)
all_sized bytes size sized [] k d lt = absurd (omega arith)
all_sized bytes size sized (x ∷ ds) zero d lt = sized x
all_sized bytes size sized (x ∷ ds) (suc k) d lt = all_sized bytes size sized ds k d (omega arith)

pub returns-in-Some-clause-answer : goal.returns-in-Some-clause-answer
returns-in-Some-clause-answer g c =
    let items = map g.E.Spelled.spelling c.args.elements.now in
    let proof = proof_view g.D.Digest.bytes c.args.self.now in
    let about = c.is_about.ensures.0 c.if-not-is_about.false in
    let long = length-map c.args.elements.now g.E.Spelled.spelling in
    let compared : c.eq.result ≡ bytes_eq (g.D.Digest.bytes c.in-Some.rebuilt) (g.D.Digest.bytes c.args.root.now) = search rules in
    compared ∙ sym (verdict_is g.H.Hasher.hash g.F.Family.shape items c.args.start proof (g.D.Digest.bytes c.in-Some.rebuilt) (g.D.Digest.bytes c.args.root.now)
    about.0 (omega (arith, about.1, long)) (omega (arith, about.2, long, c.get.ensures)) about.3 c.in-Some.ensures)

pub returns-in-Some-clause-speaks : goal.returns-in-Some-clause-speaks
returns-in-Some-clause-speaks g c = λ list inactive few low is yes_is.
    let hash = g.H.Hasher.hash in
    let shape = g.F.Family.shape in
    let items = map g.E.Spelled.spelling c.args.elements.now in
    let proof = proof_view g.D.Digest.bytes c.args.self.now in
    let born = λ (k : ℕ). ap shape.birth (sym (g.met.F.Family.numbered.first k)) ∙ birth-born shape g.F.Family.births g.met.F.Family.numbered k 0 (g.met.F.Family.numbered.some k) in
    let said : verdict hash shape items c.args.start proof (root hash shape (item_leaves hash shape 0 list) inactive) ≡ true =
    ap (verdict hash shape items c.args.start proof) (sym is) ∙ sym (returns-in-Some-clause-answer g c) ∙ yes_is in
    subst (λ n. (take n (drop c.args.start list) ≡ items) ⊎ Collides hash (checked_inputs hash shape items c.args.start proof) (root_inputs hash shape list inactive)) (length-map c.args.elements.now g.E.Spelled.spelling)
    (speaks hash g.D.Digest.SIZE g.met.H.Hasher.sized shape g.F.Family.births g.met.F.Family.numbered g.met.F.Family.peaked born list items c.args.start inactive few low proof
    (all_sized g.D.Digest.bytes g.D.Digest.SIZE g.met.D.Digest.sized c.args.self.now.digests.items) said)

pub returns-then-not-is_about : goal.returns-then-not-is_about
returns-then-not-is_about g c = record {
  answer =
      let long = length-map c.args.elements.now g.E.Spelled.spelling in
      verdict_unfit g.H.Hasher.hash g.F.Family.shape (map g.E.Spelled.spelling c.args.elements.now) c.args.start (proof_view g.D.Digest.bytes c.args.self.now) (g.D.Digest.bytes c.args.root.now)
      (λ few some within inactive. absurd (false≢true (sym c.if-not-is_about.true ∙ c.is_about.ensures.1 (few, omega (arith, some, long), omega (arith, within, long, c.get.ensures), inactive))));
  speaks = λ list inactive few low is yes_is. absurd (false≢true yes_is);
}

pub root-requires-clause-few : goal.root-requires-clause-few
root-requires-clause-few g c = (c.is_about.ensures.0 c.if-not-is_about.false).0

pub root-requires-clause-some : goal.root-requires-clause-some
root-requires-clause-some g c = (c.is_about.ensures.0 c.if-not-is_about.false).1

pub root-requires-clause-within : goal.root-requires-clause-within
root-requires-clause-within g c = omega (arith, (c.is_about.ensures.0 c.if-not-is_about.false).2, c.get.ensures)

pub root-requires-clause-inactive : goal.root-requires-clause-inactive
root-requires-clause-inactive g c = (c.is_about.ensures.0 c.if-not-is_about.false).3

pub returns-in-None : goal.returns-in-None
returns-in-None g c = record {
  answer = verdict_none g.H.Hasher.hash g.F.Family.shape (map g.E.Spelled.spelling c.args.elements.now) c.args.start (proof_view g.D.Digest.bytes c.args.self.now) (g.D.Digest.bytes c.args.root.now) c.in-None.ensures;
  speaks = λ list inactive few low is yes_is. absurd (false≢true yes_is);
}
