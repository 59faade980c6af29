use Rattle.std.proofs.Common.{arith, ◌∙◌, ◌∷◌, [], ap, sym, subst}
use Rattle.std.proofs.lemmas.Grind.{common_steps}
use Rattle.qm_bits.specs.Bitmaps.{all_bits}
use Rattle.qm_roots.specs.Canonical.{IsCanonical}
use Rattle.qm_roots.specs.Kept.{IsKept}
use Rattle.qm_current.specs.Databases.{Database, Made}
use Rattle.qm_current.proofs.Resting.{rests}
use Rattle.qm_current.proofs.db.Db.to_batch.Goals as goal

pub returns-clause-value : goal.returns-clause-value
returns-clause-value g c = grind (arith, common_steps)

pub returns-clause-made : goal.returns-clause-made
returns-clause-made g c = λ list is.
    let bytes = g.H.Digest.Digest.bytes in
    let hash = g.H.Hasher.hash in
    let shape = g.F.Family.shape in
    let size = g.N.Chunks.LEN in
    let form = g.U.Update.form in
    let value = returns-clause-value g c in
    let same = sym c.self.view_is in
    let canonical = subst (λ (d : Database g.row.C.Denot g.row.H-Digest.Denot). IsCanonical bytes hash shape size form d.canonical list) same is.canonical in
    let active = ap (all_bits size) (c.bitmap.ensures ∙ ap (λ (d : Database g.row.C.Denot g.row.H-Digest.Denot). d.any.activity) c.self.view_is) ∙ is.any.active in
    let kept = c.in_ok-kept.ensures.kept hash form list canonical active in
    rests c.args.self.now list is _ value.0 value.1
    (subst (λ (b : Made g.row.H-Digest.Denot). IsKept bytes hash shape size form b.kept list (list ∷ [])) (sym c.in_ok-new.ensures.ok) kept)
