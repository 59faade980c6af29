use Rattle.std.proofs.Common.{◌≡◌, ◌+◌, ◌++◌, ◌∷◌, ◌∙◌, [], List, ℕ, ap, subst, suc, length, length-append, append_assoc, arith}
use Rattle.std.specs.Prelude.{option_map}
use Rattle.qm_model.specs.Forms.{metadata_field, value_size}
use Rattle.qm_model.specs.Operations.{eight_bytes}
use Rattle.qm_model.proofs.Numbers.{length-eight_bytes}
use Rattle.qm_operations.proofs.feed.feed_plain_commit.Goals as goal

counted : (a : ℕ) (k e : List ℕ) → a ≡ length k → length e ≡ 8 → 9 + a ≡ suc (length (k ++ e))
counted a k e meta eight = omega (arith, meta, eight, length-append k e)

fed : (m k e : List ℕ) → ((m ++ 3 ∷ []) ++ k) ++ e ≡ m ++ 3 ∷ (k ++ e)
fed m k e = simp append_assoc

pub returns : goal.returns
returns g c =
    let meta = option_map g.V.ByteString.bytes c.args.metadata.now in
    let field = metadata_field (value_size c.args.sizes) meta in
    let first = c.feed_metadata-metadata.ensures in
    record {
      holds = λ m holds.
          let begun = subst (λ size. g.H.Hasher.holds c.feed_metadata-metadata.new.hasher ((m ++ 3 ∷ []) ++ metadata_field size meta)) c.value_size.ensures (first.holds (m ++ 3 ∷ []) (c.update.ensures m holds)) in
          subst (g.H.Hasher.holds c.update-2.new.self) (ap (λ bs. ((m ++ 3 ∷ []) ++ field) ++ bs) c.eight_bytes.ensures ∙ fed m field (eight_bytes c.args.floor)) (c.update-2.ensures ((m ++ 3 ∷ []) ++ field) begun);
      count = counted c.feed_metadata-metadata.result field (eight_bytes c.args.floor) (first.count ∙ ap (λ size. length (metadata_field size meta)) c.value_size.ensures) (length-eight_bytes c.args.floor);
    }
