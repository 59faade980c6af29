use Rattle.std.proofs.Common.{◌++◌, ◌<◌, ◌∙◌, map, ap, sym, arith, subst, append-nil, Some}
use Rattle.std.proofs.lemmas.List.{map-append}
use Rattle.std.proofs.lemmas.Result.{MatchResult-weaker, IfOk-weaker, err_from_is_err_and}
use Rattle.qm_model.specs.Proofs.{needed}
use Rattle.qm_proofs.specs.Proofs.{Lacks}
use Rattle.qm_proofs.proofs.Halving.{needed_apart, needed_none, needed_halves}
use Rattle.qm_proofs.proofs.Listing.{lacks_first, lacks_later, none_lacked_more, listed_row}
use Rattle.qm_proofs.proofs.list.+list_node.Goals as goal

pub returns-then-not-meets-clause-cause : goal.returns-then-not-meets-clause-cause
returns-then-not-meets-clause-cause g t c =
    let at = g.N.Nodes.node_at c.args.nodes.now in
    let only = ap (map g.F.Family.shape.position) (needed_apart c.args.start c.args.end c.args.node (sym c.if-not-meets.ensures)) in
    MatchResult-weaker c.list_digest.result c.list_digest.ensures.cause (λ x u. u) (λ e lack. subst (λ ps. Lacks at ps e) (sym only) lack)

pub returns-in_err-list_node-clause-cause : goal.returns-in_err-list_node-clause-cause
returns-in_err-list_node-clause-cause g t c =
    let exit = err_from_is_err_and c.from_residual.result c.from_residual.ensures.1 in
    let at = g.N.Nodes.node_at c.args.nodes.now in
    let position = g.F.Family.shape.position in
    let a = c.args.start in
    let b = c.args.end in
    let x = c.args.node in
    let l = c.halves-left.result.0 in
    let r = c.halves-left.result.1 in
    let high : 0 < x.height = omega (arith, c.height.ensures, c.if-height-eq0.false) in
    let split = needed_halves a b x l r high (sym c.meets.ensures ∙ c.if-not-meets.false) c.halves-left.ensures.left c.halves-left.ensures.right in
    let rows = ap (map position) split ∙ map-append position (needed a b l.height l.index) (needed a b r.height r.index) in
    rw (exit.1, exit.2) (lacks_first at (map position (needed a b l.height l.index)) (map position (needed a b r.height r.index)) _ _ rows c.in_err-list_node.ensures.cause)

pub returns-clause-digests : goal.returns-clause-digests
returns-clause-digests g t c =
    let at = g.N.Nodes.node_at c.args.nodes.now in
    let position = g.F.Family.shape.position in
    let a = c.args.start in
    let b = c.args.end in
    let x = c.args.node in
    let l = c.halves-left.result.0 in
    let r = c.halves-left.result.1 in
    let high : 0 < x.height = omega (arith, c.height.ensures, c.if-height-eq0.false) in
    let split = needed_halves a b x l r high (sym c.meets.ensures ∙ c.if-not-meets.false) c.halves-left.ensures.left c.halves-left.ensures.right in
    let rows = ap (map position) split ∙ map-append position (needed a b l.height l.index) (needed a b r.height r.index) in
    let old = map Some c.args.digests.now.items in
    IfOk-weaker c.list_node-2.result _ _
    (λ u then. listed_row at old _ _ (map position (needed a b l.height l.index)) (map position (needed a b r.height r.index)) c.in_ok-list_node.ensures.digests then ∙ ap (λ ps. old ++ map at ps) (sym rows))
    c.list_node-2.ensures.digests

pub returns-clause-cause : goal.returns-clause-cause
returns-clause-cause g t c =
    let at = g.N.Nodes.node_at c.args.nodes.now in
    let position = g.F.Family.shape.position in
    let a = c.args.start in
    let b = c.args.end in
    let x = c.args.node in
    let l = c.halves-left.result.0 in
    let r = c.halves-left.result.1 in
    let high : 0 < x.height = omega (arith, c.height.ensures, c.if-height-eq0.false) in
    let split = needed_halves a b x l r high (sym c.meets.ensures ∙ c.if-not-meets.false) c.halves-left.ensures.left c.halves-left.ensures.right in
    let rows = ap (map position) split ∙ map-append position (needed a b l.height l.index) (needed a b r.height r.index) in
    let none = none_lacked_more at c.args.digests.now.items _ (map position (needed a b l.height l.index)) c.in_ok-list_node.ensures.digests in
    MatchResult-weaker c.list_node-2.result c.list_node-2.ensures.cause (λ u v. v)
    (λ e lack. lacks_later at (map position (needed a b l.height l.index)) (map position (needed a b r.height r.index)) _ e rows none lack)

pub meets-requires : goal.meets-requires
meets-requires g t c = c.requires

pub list_digest-requires : goal.list_digest-requires
list_digest-requires g t c = c.requires

pub returns-then-not-meets-clause-digests : goal.returns-then-not-meets-clause-digests
returns-then-not-meets-clause-digests g t c =
    let at = g.N.Nodes.node_at c.args.nodes.now in
    let only = ap (map g.F.Family.shape.position) (needed_apart c.args.start c.args.end c.args.node (sym c.if-not-meets.ensures)) in
    let old = map Some c.args.digests.now.items in
    IfOk-weaker c.list_digest.result _ _ (λ u then. then ∙ ap (λ ps. old ++ map at ps) (sym only)) c.list_digest.ensures.digests

pub returns-then-height-eq0-clause-digests : goal.returns-then-height-eq0-clause-digests
returns-then-height-eq0-clause-digests g t c =
    let old = map Some c.args.digests.now.items in
    let none = needed_none c.args.start c.args.end c.args.node (sym c.height.ensures ∙ c.if-height-eq0.true) (sym c.meets.ensures ∙ c.if-not-meets.false) in
    sym (append-nil old) ∙ ap (λ xs. old ++ map (g.N.Nodes.node_at c.args.nodes.now) (map g.F.Family.shape.position xs)) (sym none)

pub returns-then-height-eq0-clause-cause : goal.returns-then-height-eq0-clause-cause
returns-then-height-eq0-clause-cause g t c = tt

pub halves-left-requires-clause-high : goal.halves-left-requires-clause-high
halves-left-requires-clause-high g t c = omega (arith, c.height.ensures, c.if-height-eq0.false)

pub halves-left-requires-clause-within : goal.halves-left-requires-clause-within
halves-left-requires-clause-within g t c = c.requires

pub list_node-requires : goal.list_node-requires
list_node-requires g t c κs within =
    (omega (arith, c.decreases, c.halves-left.ensures.below), (within.0, (within.1.0, (within.1.1, c.halves-left.ensures.inside.0))))

pub list_node-requires-2 : goal.list_node-requires-2
list_node-requires-2 g t c κs within =
    (omega (arith, c.decreases, c.halves-left.ensures.below), (within.0, (within.1.0, (within.1.1, c.halves-left.ensures.inside.1))))

pub returns-in_err-list_node-clause-digests : goal.returns-in_err-list_node-clause-digests
returns-in_err-list_node-clause-digests g t c =
    let exit = err_from_is_err_and c.from_residual.result c.from_residual.ensures.1 in
    rw exit.1 tt
