use Rattle.std.proofs.Common.{◌∙◌, ◌&&◌, ℕ, Vec, Global, map, ap, sym}
use Rattle.std.specs.List.{list_all}
use Rattle.qm_model.specs.Operations.{Bytes}
use Rattle.qm_build.proofs.Linking.{is_next, next-named, links-ring}
use Rattle.qm_build.proofs.links.is_closed.Goals as goal

abbrev bytes : Vec ℕ Global → Bytes
bytes v = v.items

pub loop-key-init : goal.loop-key-init
loop-key-init c =
    let gives = c.into_iter-key-iterator.ensures.into_iter_gives in
    record {
      same = ap (list_all (is_next bytes (map (λ e. bytes e.0) c.args.links.now.entries))) (sym gives.0);
      sorted = gives.5;
    }

pub loop-key-preserved : goal.loop-key-preserved
loop-key-preserved c =
    let next = is_next bytes (map (λ e. bytes e.0) c.args.links.now.entries) in
    record {
      same = c.loop-key.invariant.same ∙ ap (list_all next) c.in-Some.ensures.steps ∙ ap (λ t. t && list_all next c.next.new.self) (next-named bytes (map (λ e. bytes e.0) c.args.links.now.entries) (c.in-Some.key.now, c.in-Some.next.now) _ c.names.result c.key_behind.ensures c.names.ensures ∙ c.if-not-names.false);
      sorted = c.loop-key.invariant.sorted;
    }

pub returns : goal.returns
returns c = λ ops are.
    let next = is_next bytes (map (λ e. bytes e.0) c.args.links.now.entries) in
    sym (c.loop-key.invariant.same ∙ ap (list_all next) c.in-None.ensures.steps.0) ∙ links-ring bytes c.args.links.now.entries ops c.loop-key.invariant.sorted are

pub returns-then-not-names : goal.returns-then-not-names
returns-then-not-names c = λ ops are.
    let next = is_next bytes (map (λ e. bytes e.0) c.args.links.now.entries) in
    sym (c.loop-key.invariant.same ∙ ap (list_all next) c.in-Some.ensures.steps ∙ ap (λ t. t && list_all next c.next.new.self) (next-named bytes (map (λ e. bytes e.0) c.args.links.now.entries) (c.in-Some.key.now, c.in-Some.next.now) _ c.names.result c.key_behind.ensures c.names.ensures ∙ c.if-not-names.true))
    ∙ links-ring bytes c.args.links.now.entries ops c.loop-key.invariant.sorted are
