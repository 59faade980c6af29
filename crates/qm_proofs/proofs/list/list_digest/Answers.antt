use Rattle.std.proofs.Common.{◌++◌, ◌∷◌, ◌∙◌, [], map, ap, sym, refl, inl, inr, Some, None}
use Rattle.std.specs.Prelude.{cond, is_none}
use Rattle.std.proofs.lemmas.List.{map-append}
use Rattle.std.proofs.lemmas.Result.{err_from_is_err_and}
use Rattle.qm_base.specs.declared.error.MerkleError.TheVariants.{ElementPruned}
use Rattle.qm_proofs.proofs.list.list_digest.Goals as goal

pub place-position-requires : goal.place-position-requires
place-position-requires g c = c.requires

pub returns-in_err-add-in-Some : goal.returns-in_err-add-in-Some
returns-in_err-add-in-Some g c =
    let exit = err_from_is_err_and c.from_residual.result c.from_residual.ensures.1 in
    record {
      digests = rw exit.1 tt;
      cause = rw (exit.1, exit.2) (inl refl);
    }

pub returns-in_ok-add-in-Some : goal.returns-in_ok-add-in-Some
returns-in_ok-add-in-Some g c = record {
  digests =
      let old = c.args.digests.now.items in
      ap (map Some) c.in_ok-add-in-Some.ensures ∙ map-append Some old (c.in-Some.digest ∷ [])
      ∙ ap (λ o. map Some old ++ o ∷ []) (c.in-Some.ensures ∙ ap (g.N.Nodes.node_at c.args.nodes.now) c.place-position.ensures);
  cause = tt;
}

pub returns-in-None : goal.returns-in-None
returns-in-None g c = record {
  digests = tt;
  cause =
      let at = g.N.Nodes.node_at c.args.nodes.now in
      let p = g.F.Family.shape.position c.args.node in
      let none = c.in-None.ensures ∙ ap at c.place-position.ensures in
      inr (p, ap (λ o. cond (is_none o) (Some p) None) (sym none), ap ElementPruned (c.get.ensures ∙ c.place-position.ensures));
}
