use Rattle.std.proofs.Common.{◌≡◌, ◌+◌, ◌++◌, ◌∷◌, [], List, ℕ, subst, suc, length, length-append, append_assoc, arith}
use Rattle.std.specs.Prelude.{option_map}
use Rattle.qm_model.specs.Forms.{field, optional_field, key_size, value_size}
use Rattle.qm_operations.proofs.feed.feed_plain_update.Goals as goal

counted : (a b d : ℕ) (k v n : List ℕ) → a ≡ length k → b ≡ length v → d ≡ length n → 1 + a + b + d ≡ suc (length (k ++ (v ++ n)))
counted a b d k v n key value next = omega (arith, key, value, next, length-append k (v ++ n), length-append v n)

fed : (m k v n : List ℕ) → (((m ++ 1 ∷ []) ++ k) ++ v) ++ n ≡ m ++ 1 ∷ (k ++ (v ++ n))
fed m k v n = simp append_assoc

pub returns : goal.returns
returns g c =
    let sizes = c.args.sizes in
    let key = field (key_size sizes) (g.K.ByteString.bytes c.args.key.now) in
    let value = field (value_size sizes) (g.V.ByteString.bytes c.args.value.now) in
    let next = optional_field (key_size sizes) (option_map (λ k. g.K.ByteString.bytes k.now) c.args.next) in
    let first = c.feed_field-key.ensures in
    let second = c.feed_field-value.ensures in
    let third = c.feed_next-next.ensures in
    record {
      holds = λ m holds.
          let begun = (rw c.key_size.ensures at first.holds) (m ++ 1 ∷ []) (c.update.ensures m holds) in
          let more = (rw c.value_size.ensures at second.holds) ((m ++ 1 ∷ []) ++ key) begun in
          subst (g.H.Hasher.holds c.feed_next-next.new.hasher) (fed m key value next) ((rw c.key_size-2.ensures at third.holds) (((m ++ 1 ∷ []) ++ key) ++ value) more);
      count = counted c.feed_field-key.result c.feed_field-value.result c.feed_next-next.result key value next (rw c.key_size.ensures at first.count) (rw c.value_size.ensures at second.count) (rw c.key_size-2.ensures at third.count);
    }
