use Rattle.std.proofs.Common.{◌≡◌, ◌∙◌, ◌*◌, ◌/◌, ◌^◌, ℕ, suc, arith, ap, ap₂}
use Rattle.std.proofs.lemmas.Nat.{pow_pos, div-add-mod'}
use Rattle.qm_model.specs.Operations.{Bytes}
use Rattle.qm_model.specs.RangeProofs as range_proofs
use Rattle.qm_model.specs.Grafted.{chunk_of}
use Rattle.qm_graft.specs.Grafting.{grafting}
use Rattle.qm_graft.proofs.Fitting.{grafting-span}
use Rattle.qm_makers.proofs.Chunking.{chunk_is, chunk_kept}
use Rattle.qm_makers.proofs.parts.Parts.operation_proof.Goals as goal

same_operation : {n m : ℕ} {a b : Bytes} {p q : range_proofs.RangeProof} → n ≡ m → a ≡ b → p ≡ q →
    ◌≡◌ {A = range_proofs.OperationProof} (record { location = n; chunk = a; range = p }) (record { location = m; chunk = b; range = q })
same_operation {m = m} {a = a} {p = p} place chunk range = ap (λ n. record { location = n; chunk = a; range = p }) place ∙ ap₂ (λ a p. record { location = m; chunk = a; range = p }) chunk range

pub chunk_at-requires-clause-kept : goal.chunk_at-requires-clause-kept
chunk_at-requires-clause-kept g c =
    let h = grafting g.N.Chunks.LEN in
    let kept = chunk_kept (2 ^ h) c.args.self.now.bits.now.pruned c.args.at (pow_pos h) c.requires.bits in
    let same = ap₂ (λ n k. n / 2 ^ k) c.get-3.ensures c.height.ensures.exact in
    omega (arith, kept, same)

pub chunk_at-requires-clause-begun : goal.chunk_at-requires-clause-begun
chunk_at-requires-clause-begun g c =
    let w = 2 ^ c.height.result in
    let split = div-add-mod' c.get-3.result w in
    let wide = ap (λ n. c.get-3.result / w * n) c.height.ensures.span in
    omega (arith, split, wide, c.get-3.ensures, c.requires.within, c.requires.grafted.bits)

pub returns-clause-proof : goal.returns-clause-proof
returns-clause-proof g c = λ form ops are.
    let size = g.N.Chunks.LEN in
    let h = grafting size in
    let power = g.met.N.Chunks.power in
    let place = ap₂ (λ n k. n / 2 ^ k) c.get-3.ensures c.height.ensures.exact in
    let first = c.new.ensures ∙ c.get-2.ensures in
    let past : c.new-end.result ≡ suc c.args.at = omega (arith, c.new-end.ensures, c.get.ensures) in
    same_operation (λ i. c.args.at)
    (c.in_ok-chunk.ensures ∙ chunk_is h size c.args.self.now.bits.now ops (grafting-span size power.0 power.1) are.bits_are _ ∙ ap (chunk_of h ops) place)
    (c.in_ok-range_proof.ensures.proof form ops are ∙ ap₂ (range_proofs.range_proof g.H.Hasher.hash g.F.Family.shape h form ops) first past)
