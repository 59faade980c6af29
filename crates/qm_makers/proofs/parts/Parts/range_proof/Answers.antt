use Rattle.std.proofs.Common.{◌≡◌, ◌∙◌, ◌%◌, ◌^◌, ℕ, length, arith, ap, ap₂, sym, subst, refl, Some, None}
use Rattle.std.specs.Prelude.{Option, option_map}
use Rattle.qm_model.specs.Operations.{Bytes}
use Rattle.qm_model.specs.Trees.{leaves_from}
use Rattle.qm_model.specs.Proofs.{Proof}
use Rattle.qm_model.specs.Grafted.{chunk_of, chunk_values, grafted_chunks, partial_digest}
use Rattle.qm_model.specs.RangeProofs.{RangeProof}
use Rattle.qm_merkle.specs.Mems.{Stands}
use Rattle.qm_bits.specs.Bitmaps.{bit_count, all_bits}
use Rattle.qm_chunks.specs.Views.{partial_view}
use Rattle.qm_graft.specs.Grafting.{grafting, kept_shape}
use Rattle.qm_graft.proofs.Fitting.{grafting-span}
use Rattle.qm_graft.proofs.Rooting.{bits-count, length-leaves, pending-is, partial-is}
use Rattle.qm_makers.proofs.parts.Parts.range_proof.Goals as goal

same_range : {p q : Proof} {a b : Option Bytes} {c d : Option Bytes} {r s : Bytes} → p ≡ q → a ≡ b → c ≡ d → r ≡ s →
    ◌≡◌ {A = RangeProof} (record { proof = p; pending = a; partial = c; ops_root = r }) (record { proof = q; pending = b; partial = d; ops_root = s })
same_range {q = q} {a = a} {b = b} {c = c} {r = r} {s = s} proof pending partial root =
    ap₂ (λ p r. record { proof = p; pending = a; partial = c; ops_root = r }) proof root ∙ ap₂ (λ a c. record { proof = q; pending = a; partial = c; ops_root = s }) pending partial

-- the digest of a partial chunk, without the number of its bits
seconds : {D : Type 0} (bytes : D → Bytes) (o : Option (ℕ × D)) → option_map bytes (option_map (λ p. p.1) o) ≡ option_map (λ (p : ℕ × Bytes). p.1) (partial_view bytes o)
seconds bytes None = refl
seconds bytes (Some p) = refl

second : (n : ℕ) (o : Option Bytes) → option_map (λ (p : ℕ × Bytes). p.1) (option_map (λ d. (n, d)) o) ≡ o
second n None = refl
second n (Some d) = refl

pub pending_digest-requires-clause-few : goal.pending_digest-requires-clause-few
pending_digest-requires-clause-few g c = omega (arith, c.requires.grafted.bits, c.in_ok-proof.ensures.few)

pub returns-clause-proof : goal.returns-clause-proof
returns-clause-proof g c = λ form ops are.
    let bytes = g.D.Digest.bytes in
    let hash = g.H.Hasher.hash in
    let shape = g.F.Family.shape in
    let size = g.N.Chunks.LEN in
    let height = grafting size in
    let power = g.met.N.Chunks.power in
    let span = grafting-span size power.0 power.1 in
    let map = c.args.self.now.bits.now in
    let grafted = c.args.self.now.grafted.now in
    let list = leaves_from hash shape form 0 ops in
    let chunks = chunk_of height ops in
    let count = length-leaves hash shape form 0 ops in
    let long = bits-count size map ops are.bits_are in
    let values = subst (λ n. Stands (kept_shape shape height) bytes hash grafted (chunk_values hash shape height list chunks 0 (grafted_chunks shape height n))) (sym count) are.values_are in
    same_range (c.in_ok-proof.ensures.proof hash list chunks ops count are.floor_is are.operations_are values)
    (c.in_ok-pending.ensures.digest ∙ pending-is hash shape height size (bit_count size map) (all_bits size map) ops span are.bits_are long)
    (ap (option_map bytes) c.digest_in.ensures ∙ seconds bytes c.in_ok-partial.partial
    ∙ ap (option_map (λ (p : ℕ × Bytes). p.1)) (c.in_ok-partial.ensures.digest ∙ partial-is hash shape height size (bit_count size map) (all_bits size map) ops span are.bits_are long)
    ∙ second (length ops % 2 ^ height) (partial_digest hash shape height ops))
    are.root_is
