use Rattle.std.proofs.Common.{◌≡◌, ◌∙◌, ◌%◌, ◌^◌, ap, sym, rules}
use Rattle.std.specs.Prelude.{bytes_eq, option_map}
use Rattle.std.proofs.lemmas.Bool.{false≢true}
use Rattle.qm_model.specs.Grafted.{canonical_input}
use Rattle.qm_keyproofs.specs.Views.{range_view}
use Rattle.qm_keyproofs.proofs.Verdicts.{verdict_unfit, verdict_other, verdict_none, verdict_is}
use Rattle.qm_keyproofs.proofs.range.RangeProof.shows.Goals as goal

pub returns-then-not-is_about : goal.returns-then-not-is_about
returns-then-not-is_about g c =
    verdict_unfit g.H.Hasher.hash g.F.Family.shape (g.C.Claimed.claim c.args.claim.now) (range_view g.D.Digest.bytes c.args.self.now) (g.D.Digest.bytes c.args.root.now)
    (λ fits. absurd (false≢true (sym c.if-not-is_about.true ∙ c.is_about.ensures.1 fits)))

pub returns-then-not-has_digests : goal.returns-then-not-has_digests
returns-then-not-has_digests g c =
    verdict_other g.H.Hasher.hash g.F.Family.shape (g.C.Claimed.claim c.args.claim.now) (range_view g.D.Digest.bytes c.args.self.now) (g.D.Digest.bytes c.args.root.now)
    (sym c.has_digests.ensures ∙ c.if-not-has_digests.true)

pub returns-in-None : goal.returns-in-None
returns-in-None g c =
    verdict_none g.H.Hasher.hash g.F.Family.shape (g.C.Claimed.claim c.args.claim.now) (range_view g.D.Digest.bytes c.args.self.now) (g.D.Digest.bytes c.args.root.now)
    c.in-None.ensures

pub returns-in-Some : goal.returns-in-Some
returns-in-Some g c =
    let claim = g.C.Claimed.claim c.args.claim.now in
    let range = range_view g.D.Digest.bytes c.args.self.now in
    let compared : c.eq.result ≡ bytes_eq (g.D.Digest.bytes c.canonical.result) (g.D.Digest.bytes c.args.root.now) = search rules in
    let hashed = c.canonical.ensures ∙ ap (λ h. g.H.Hasher.hash (canonical_input range.ops_root (g.D.Digest.bytes c.in-Some.grafted) range.pending (option_map (λ d. (range.proof.leaves % 2 ^ h, d)) range.partial))) c.height.ensures in
    compared
    ∙ sym (verdict_is g.H.Hasher.hash g.F.Family.shape claim range (g.D.Digest.bytes c.args.root.now) (g.D.Digest.bytes c.in-Some.grafted) (g.D.Digest.bytes c.canonical.result)
    (c.is_about.ensures.0 c.if-not-is_about.false) (sym c.has_digests.ensures ∙ c.if-not-has_digests.false) c.in-Some.ensures hashed)

pub has_digests-requires-clause-few : goal.has_digests-requires-clause-few
has_digests-requires-clause-few g c = (c.is_about.ensures.0 c.if-not-is_about.false).0

pub grafted_root-requires-clause-few : goal.grafted_root-requires-clause-few
grafted_root-requires-clause-few g c = (c.is_about.ensures.0 c.if-not-is_about.false).0

pub grafted_root-requires-clause-some : goal.grafted_root-requires-clause-some
grafted_root-requires-clause-some g c = (c.is_about.ensures.0 c.if-not-is_about.false).1

pub grafted_root-requires-clause-within : goal.grafted_root-requires-clause-within
grafted_root-requires-clause-within g c = (c.is_about.ensures.0 c.if-not-is_about.false).2

pub grafted_root-requires-clause-inactive : goal.grafted_root-requires-clause-inactive
grafted_root-requires-clause-inactive g c = (c.is_about.ensures.0 c.if-not-is_about.false).3
