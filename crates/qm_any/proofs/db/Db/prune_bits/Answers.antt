use Rattle.std.proofs.Common.{◌≡◌, ◌∙◌, ap, arith, subst, sym}
use Rattle.qm_bits.specs.Bitmaps.{bit_count}
use Rattle.qm_any.specs.Databases.{Database, IsDatabase}
use Rattle.qm_any.specs.Layouts.{layout_of}
use Rattle.qm_any.specs.Lasting.{bits_from}
use Rattle.qm_any.proofs.Lasting.{count-kept, cut-is, cut-stands}
use Rattle.qm_any.proofs.db.Db.prune_bits.Goals as goal

pub returns-clause-stands : goal.returns-clause-stands
returns-clause-stands g c = λ list low is.
    let layout = layout_of g.N.Chunks.LEN g.H.Digest.Digest.bytes g.H.Hasher g.F.Family g.U.Update g.I.Unordered in
    let state = c.into_parts-log.result.1 in
    let old = c.into_parts-log.result.0 in
    let was = subst (λ db. IsDatabase g.C.Store layout db list) c.into_parts-log.ensures.whole is in
    subst (λ db. IsDatabase g.C.Store layout db list) (sym (cut-is g.C.Store g.N.Chunks.LEN _ state c.prune_to_bit.new.self c.args.to old c.over.result c.over.ensures c.prune_to_bit.ensures c.state.view_is))
    (cut-stands g.C.Store layout c.args.to state old old list low was.low (λ told. told) was.lent.logged was)

pub returns-clause-pruned : goal.returns-clause-pruned
returns-clause-pruned g c =
    cut-is g.C.Store g.N.Chunks.LEN _ c.into_parts-log.result.1 c.prune_to_bit.new.self c.args.to c.into_parts-log.result.0 c.over.result c.over.ensures c.prune_to_bit.ensures c.state.view_is
    ∙ ap (λ (db : Database _ _). record db { activity = bits_from g.N.Chunks.LEN c.args.to db.activity }) (sym c.into_parts-log.ensures.whole)

pub invariant_of-state : goal.invariant_of-state
invariant_of-state g c =
    let chunk = g.N.Chunks.LEN in
    let was = c.state.invariant in
    let size = ap (λ db. db.commitment.size) c.into_parts-log.ensures.whole in
    let inside = ap (λ v. v.commitment.size) c.state.view_is in
    (was.0, subst (λ a. bit_count chunk a ≡ c.state.inside.commitment.size) (sym c.prune_to_bit.ensures) (count-kept chunk c.args.to c.state.inside.activity (omega (arith, c.requires.size, size, inside, was.1)) ∙ was.1))
