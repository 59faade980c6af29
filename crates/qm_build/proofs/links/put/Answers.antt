use Rattle.std.proofs.Common.{◌∙◌, ◌++◌, ◌∷◌, [], ℕ, Vec, Global, ap, sym, subst, None}
use Rattle.std.specs.Prelude.{bytes_eq}
use Rattle.qm_model.specs.Live.{touches}
use Rattle.qm_operations.specs.Views.{operation_view}
use Rattle.qm_build.specs.Linked.{AreLinks}
use Rattle.qm_build.proofs.Linking.{named_by, links-more, links-commit}
use Rattle.qm_build.proofs.links.put.Goals as goal

pub returns-in-Delete : goal.returns-in-Delete
returns-in-Delete g c = λ ops are.
    let view = operation_view g.U.Update.view g.U.Key.ByteString.bytes g.U.Value.ByteString.bytes in
    let updates = c.remove.ensures.updates in
    links-more (λ (v : Vec ℕ Global). v.items) c.args.links.now.entries c.remove.new.self.entries ops (view c.args.operation) c.as_bytes.result.now None
    (λ q. ap (λ o. touches q (view o)) c.in-Delete.is ∙ ap (λ b. bytes_eq b q) (sym c.as_bytes.ensures.value))
    (sym (ap (λ o. named_by (view o)) c.in-Delete.is))
    updates.1 updates.3 are

pub returns : goal.returns
returns g c = λ ops are.
    let view = operation_view g.U.Update.view g.U.Key.ByteString.bytes g.U.Value.ByteString.bytes in
    subst (λ o. AreLinks (λ (v : Vec ℕ Global). v.items) c.args.links.now.entries (ops ++ view o ∷ [])) (sym c.in-CommitFloor.is)
    (links-commit (λ (v : Vec ℕ Global). v.items) c.args.links.now.entries ops _ _ are)
