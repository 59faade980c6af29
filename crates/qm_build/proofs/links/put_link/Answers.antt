use Rattle.std.proofs.Common.{◌∙◌, ap, sym, Some, ℕ, Vec, Global}
use Rattle.std.specs.Prelude.{bytes_eq}
use Rattle.qm_model.specs.Live.{touches}
use Rattle.qm_build.proofs.Linking.{named_by, links-more}
use Rattle.qm_build.proofs.links.put_link.Goals as goal

pub returns : goal.returns
returns g c = λ ops are.
    let updates = c.in_ok-insert.ensures.updates in
    links-more (λ (v : Vec ℕ Global). v.items) c.args.links.now.entries c.insert.new.self.entries ops (g.U.Update.view c.args.update.now) c.in_ok-key.key.items (Some c.in_ok-next.next)
    (λ q. ap (touches q) c.parts.ensures.parts ∙ ap (λ b. bytes_eq b q) (sym c.in_ok-key.ensures))
    (ap Some c.in_ok-next.ensures ∙ sym (ap named_by c.parts.ensures.parts))
    updates.1 updates.3 are
