use Rattle.std.proofs.Common.{◌≡◌, ◌+◌, ◌-◌, ◌^◌, ◌<◌, ◌≤◌, ◌++◌, ◌∷◌, [], length, arith, sym, ap, ◌∙◌, subst}
use Rattle.std.proofs.lemmas.Result.{on_ok_weaker, on_err_weaker}
use Rattle.qm_index.specs.Buckets.{bucket_at, IsIndex, Puts}
use Rattle.qm_index.specs.Partitioned.{joined, joined_parts, partitioned}
use Rattle.qm_index.proofs.Partitions.{whole-key, joined-index, changes-put, insert-parts}
use Rattle.qm_index.proofs.partitioned.IndexUnordered.insert.Goals as goal

pub returns-then-partition-self-clause-index : goal.returns-then-partition-self-clause-index
returns-then-partition-self-clause-index g c = subst (λ parts. IsIndex (joined_parts parts)) c.self.view_is (joined-index c.self.inside.first c.self.inside.parts c.self.invariant.0.indices)

pub returns-in_err-hold-clause-index : goal.returns-in_err-hold-clause-index
returns-in_err-hold-clause-index g c = subst (λ es. IsIndex es) (sym (c.in_err-hold.ensures.same c.self.inside.first)) (joined-index c.self.inside.first c.self.inside.parts c.self.invariant.0.indices)

pub invariant_of-self-2 : goal.invariant_of-self-2
invariant_of-self-2 g c =
    let small : c.index_key-index_key.result < 2 ^ 64 = omega arith in
    let up : c.self.inside.first ≤ c.capped-partition.result = c.if-partition-self.false in
    let room : (c.capped-partition.result - c.self.inside.first) + 1 ≤ c.self.inside.count = let below = c.if-self-partition.false in omega (arith, below) in
    let are = c.in_ok-hold.ensures.are c.self.inside.count room c.self.invariant.0 in
    (insert-parts c.hold.new.self c.insert.new.self (c.capped-partition.result - c.self.inside.first) c.index_key-index_key.result (λ values. values ++ c.args.value ∷ []) c.insert.result c.self.inside.count are small c.insert.ensures.ok c.insert.ensures.err, c.self.invariant.1)

pub returns-clause-ok : goal.returns-clause-ok
returns-clause-ok g c =
    let whole = whole-key g.P.Prefix.WIDTH g.T.Translator.index_key c.args.key.now c.rest_of.result.now c.capped-partition.result c.index_key-index_key.result c.width.result c.width-2.result c.capped-partition.ensures.value c.width.ensures c.index_key-index_key.ensures c.rest_of.ensures c.width-2.ensures in
    let small : c.index_key-index_key.result < 2 ^ 64 = omega arith in
    let up : c.self.inside.first ≤ c.capped-partition.result = c.if-partition-self.false in
    let room : (c.capped-partition.result - c.self.inside.first) + 1 ≤ c.self.inside.count = let below = c.if-self-partition.false in omega (arith, below) in
    let are = c.in_ok-hold.ensures.are c.self.inside.count room c.self.invariant.0 in
    let there : c.capped-partition.result - c.self.inside.first < length c.hold.new.self = let long = c.in_ok-hold.ensures.long in omega (arith, long) in
    let old : joined c.self.inside.first c.hold.new.self ≡ joined_parts c.args.self.now = c.in_ok-hold.ensures.same c.self.inside.first ∙ ap joined_parts c.self.view_is in
    on_ok_weaker c.insert.result
    (λ changes. subst (λ es. Puts es (joined c.self.inside.first c.insert.new.self) (partitioned g.P.Prefix.WIDTH g.T.Translator.index_key c.args.key.now) (bucket_at es (partitioned g.P.Prefix.WIDTH g.T.Translator.index_key c.args.key.now) ++ c.args.value ∷ [])) old
    (changes-put c.self.inside.first c.capped-partition.result c.index_key-index_key.result (partitioned g.P.Prefix.WIDTH g.T.Translator.index_key c.args.key.now) c.hold.new.self are.indices small whole c.insert.new.self (λ values. values ++ c.args.value ∷ []) up there changes))
    c.insert.ensures.ok

pub returns-clause-err : goal.returns-clause-err
returns-clause-err g c = on_err_weaker c.insert.result (λ same. ap (joined c.self.inside.first) same ∙ c.in_ok-hold.ensures.same c.self.inside.first ∙ ap joined_parts c.self.view_is) c.insert.ensures.err

pub returns-clause-index : goal.returns-clause-index
returns-clause-index g c = joined-index c.self.inside.first _ (invariant_of-self-2 g c).0.indices
