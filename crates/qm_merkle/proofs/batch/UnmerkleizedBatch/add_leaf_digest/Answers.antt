use Rattle.std.proofs.Common.{◌∙◌, ◌++◌, ◌∷◌, [], List, map, ap}
use Rattle.std.proofs.lemmas.Result.{IfOk-from_err, err_from_is_err_and}
use Rattle.qm_merkle.specs.Batches.{Draft}
use Rattle.qm_merkle.proofs.batch.UnmerkleizedBatch.add_leaf_digest.Goals as goal

pub returns-in_err-push : goal.returns-in_err-push
returns-in_err-push g c =
    let result = c.from_residual.result in
    let exit = err_from_is_err_and result c.from_residual.ensures.1 in
    let inside = c.self.inside in
    let draft : List g.row.D.Denot → Draft g.row.D.Denot = λ added. record { start = inside.start; base = inside.base; layers = map (λ r. r.value) inside.layers.items; replaced = inside.replaced.entries; added = added } in
    record {
      ok = IfOk-from_err result _ c.from_residual.ensures.0;
      err = rw exit.1 (ap draft c.in_err-push.ensures.items ∙ c.self.view_is);
    }

pub returns : goal.returns
returns g c =
    let inside = c.self.inside in
    let draft : List g.row.D.Denot → Draft g.row.D.Denot = λ added. record { start = inside.start; base = inside.base; layers = map (λ r. r.value) inside.layers.items; replaced = inside.replaced.entries; added = added } in
    let longer : Draft g.row.D.Denot → Draft g.row.D.Denot = λ d. record d { added = d.added ++ c.args.digest ∷ [] } in
    record {
      ok = ap draft c.in_ok-push.ensures.items ∙ ap longer c.self.view_is;
      err = tt;
    }
