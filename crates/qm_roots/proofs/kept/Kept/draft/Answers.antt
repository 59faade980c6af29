use Rattle.std.proofs.Common.{◌∙◌, ◌∷◌, ap, sym, subst}
use Rattle.qm_merkle.specs.Batches.{IsHistory, lists_since}
use Rattle.qm_graft.specs.Grafting.{grafting, kept_shape}
use Rattle.qm_roots.specs.Kept.{Kept, layers_of}
use Rattle.qm_roots.proofs.kept.Kept.draft.Goals as goal

pub returns-in_ok-draft-in-Some-clause-history : goal.returns-in_ok-draft-in-Some-clause-history
returns-in_ok-draft-in-Some-clause-history g c = λ hash list values lists history found stands.
    let shape = kept_shape g.F.Family.shape (grafting g.N.Chunks.LEN) in
    let draft = c.in_ok-draft-in-Some.draft in
    let same = sym (ap (λ (k : Kept g.row.D.Denot). k.layers) c.self.view_is) ∙ ap layers_of c.in-Some.is in
    subst (λ n. IsHistory shape g.D.Digest.bytes hash draft.layers (lists_since n (values ∷ lists))) c.new.ensures
    (c.in_ok-draft-in-Some.ensures.history hash (values ∷ lists) (subst (λ ls. IsHistory shape g.D.Digest.bytes hash ls (values ∷ lists)) same history))
