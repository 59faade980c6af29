-- What a yes to a claim says of a list of either kind.
use Rattle.std.proofs.Common.{◌≡◌, ◌⊎◌, ℕ, zero, suc, subst, map, ◌+◌, ◌*◌, ◌^◌, ◌≤◌, Bool, true, false, List, [], ◌∷◌, ◌++◌, length, arith, length-append, not, ap, sym, ◌∙◌, refl, Option, Some, None, All, ⊎_elim, inl, inr, option_map}
use Rattle.std.specs.Prelude.{slice_get, IfSome, if◌then◌else◌, bytes_eq, ◌%◌, nat_le, nat_lt}
use Rattle.std.specs.List.{AllByRecursion as Each}
use Rattle.std.specs.Option.{option_and_then}
use Rattle.std.proofs.lemmas.Bool.{true≢false, eqb-true, leb-true}
use Rattle.std.proofs.lemmas.Option.{none-some}
use Rattle.std.proofs.lemmas.List.Elements.{All-nil, All-cons}
use Rattle.qm_model.specs.Operations.{Bytes, Operation, update, four_bytes}
use Rattle.qm_model.specs.Forms.{Form, field, IsKey, IsValue, IsOf, spelling, read_key, read_value, read_next, is_end, at_end, decoded}
use Rattle.qm_model.specs.Live.{value_of}
use Rattle.qm_model.specs.Ordered.{IsRing}
use Rattle.qm_model.specs.Step.{IsGood}
use Rattle.qm_model.specs.Trees.{Shape, leaf}
use Rattle.qm_model.specs.Families.{Births, IsFamily, HasPeaks}
use Rattle.qm_model.specs.Proofs.{Collides}
use Rattle.qm_model.specs.Bits.{has_bit}
use Rattle.qm_model.specs.Grafted.{chunk_size, canonical}
use Rattle.qm_model.specs.RangeProofs.{OperationProof, spanned, emptied, key_inputs, key_verdict, in_span, canonical_inputs, IsSized, OperationSays}
use Rattle.qm_client.specs.ProofForms.{KeyProof, held, linked, absent, with_lengths, IsOperationOf, IsProofOf}
use Rattle.qm_client.specs.Claims.{Claim, has, lacks, IsClaim, ClaimSays, claim_verdict, claim_inputs}
use Rattle.qm_model.proofs.Numbers.{length-four_bytes}
use Rattle.qm_model.proofs.Forms.{decoded-spelling}
use Rattle.qm_model.proofs.Forms.{read_key-field, read_value-field}
use Rattle.qm_model.proofs.Proving.{true_or_false}
use Rattle.qm_model.proofs.Speaking.{both_true, each_of}
use Rattle.qm_model.proofs.KeySpeaking.{operation_speaks, key_speaks_of_the_map, spanned_speaks, emptied_speaks}

-- What stands at a place of a list.

each_there : (P : Operation → Type 0) (ops : List Operation) → Each P ops → (i : ℕ) (op : Operation) → slice_get ops i ≡ Some op → P op
each_there P [] all i op at = cc
each_there P (x ∷ ops) all zero op at = let same : x ≡ op = cc in subst P same all.0
each_there P (x ∷ ops) all (suc i) op at = each_there P ops all.1 i op at

spelled_at : (form : Form) (ops : List Operation) (i : ℕ) (item : Bytes) → slice_get (map (spelling form) ops) i ≡ Some item → (op : Operation) × (slice_get ops i ≡ Some op) × (spelling form op ≡ item)
spelled_at form [] i item at = cc
spelled_at form (x ∷ ops) zero item at = let same : spelling form x ≡ item = cc in (x, refl, same)
spelled_at form (x ∷ ops) (suc i) item at = spelled_at form ops i item at

-- An update of one kind of databases is spelled as no operation of the other kind.

module _ (form : Form) (key value : Bytes) (is_key : IsKey (with_lengths form) key) (is_value : IsValue (with_lengths form) value) where
  abbrev F : Form
  F = with_lengths form

  abbrev at_next : Option (Option Bytes × Bytes) → Option Operation
  at_next o = option_and_then (λ (n : Option Bytes × Bytes). at_end None (update key value n.0, n.1)) o

  -- what is decoded of key, value and the rest
  decoded_next : (back : Bytes) → decoded F (1 ∷ (field None key ++ (field None value ++ back))) ≡ at_next (read_next F back)
  decoded_next back =
      ap (option_and_then (λ (k : Bytes × Bytes). option_and_then (λ v. option_and_then (λ n. at_end None (update k.0 v.0 n.0, n.1)) (read_next F v.1)) (read_value F k.1))) (read_key-field F key (field None value ++ back) is_key)
      ∙ ap (option_and_then (λ (v : Bytes × Bytes). option_and_then (λ n. at_end None (update key v.0 n.0, n.1)) (read_next F v.1))) (read_value-field F value back is_value)

  -- with a next key, which the unordered kind does not read
  left_over : (b : ℕ) (bs : Bytes) → at_end None (update key value None, b ∷ bs) ≡ None
  left_over b bs = ⊎_elim
      (λ (h : is_end None (b ∷ bs) ≡ true). let wrong = eqb-true _ _ h in absurd (omega arith))
      (λ (h : is_end None (b ∷ bs) ≡ false). ap (λ t. if t then Some (update key value None) else None) h)
      (true_or_false (is_end None (b ∷ bs)))

  not_empty : (bs : Bytes) → length bs ≡ 0 → bs ≡ []
  not_empty [] none = refl
  not_empty (b ∷ bs) none = absurd (omega arith)

  linked_unread : (next : Bytes) → form.ordered ≡ false → decoded F (spelling F (update key value (Some next))) ≡ None
  linked_unread next kind = decoded_next (field None next) ∙ ap (λ t. at_next (if t then option_map (λ p. (Some p.0, p.1)) (read_key F (field None next)) else Some (None, field None next))) kind ∙ unread (field None next) refl
    where
      unread : (bs : Bytes) → bs ≡ field None next → at_end None (update key value None, bs) ≡ None
      unread [] same =
          let long = length-four_bytes (length next) in
          let sum : length (four_bytes (length next) ++ next) ≡ 0 = sym (ap length same) in
          absurd (omega (arith, long, sum, length-append (four_bytes (length next)) next))
      unread (b ∷ bs) same = left_over b bs

  plain_unread : form.ordered ≡ true → decoded F (spelling F (update key value None)) ≡ None
  plain_unread kind = decoded_next [] ∙ ap (λ t. at_next (if t then option_map (λ p. (Some p.0, p.1)) (read_key F []) else Some (None, []))) kind

  -- so an operation of a database with this spelling is of its kind
  linked_kind : (next : Bytes) (op : Operation) → IsOf F op → spelling F op ≡ spelling F (update key value (Some next)) → form.ordered ≡ true
  linked_kind next op is same = ⊎_elim (λ (h : form.ordered ≡ true). h)
      (λ (h : form.ordered ≡ false). absurd (none-some op (sym (linked_unread next h) ∙ (ap (decoded F) (sym same) ∙ decoded-spelling F op is))))
      (true_or_false form.ordered)

  plain_kind : (op : Operation) → IsOf F op → spelling F op ≡ spelling F (update key value None) → form.ordered ≡ false
  plain_kind op is same = ⊎_elim (λ (h : form.ordered ≡ true). absurd (none-some op (sym (plain_unread h) ∙ (ap (decoded F) (sym same) ∙ decoded-spelling F op is))))
      (λ (h : form.ordered ≡ false). h)
      (true_or_false form.ordered)

-- the digests and the chunk of a proof that is spelled are as long as those of the program
sized_of : (g size : ℕ) (proof : OperationProof) → IsOperationOf (chunk_size g) size proof → IsSized size g proof.range (proof.chunk ∷ [])
sized_of g size proof is = record {
  digests = (is.range).digests;
  pending = (is.range).pending;
  partial = (is.range).partial;
  ops_root = (is.range).ops_root;
  whole_chunks = All-cons (λ c. length c ≡ chunk_size g) proof.chunk [] is.chunk (All-nil (λ c. length c ≡ chunk_size g));
}

module _ (hash : Bytes → Bytes) (size : ℕ) (sized : (m : Bytes) → length (hash m) ≡ size) (shape : Shape) (births : Births) (family : IsFamily shape births) (peaked : HasPeaks shape) (leaf_born : (k : ℕ) → shape.birth (leaf k) ≡ suc k)
    (prompt : (h i : ℕ) → shape.birth (record { height = h; index = i }) ≤ suc (suc i) * 2 ^ h) (g : ℕ) (enough : 3 ≤ g) (form : Form) (ops : List Operation) (few : length ops ≤ 2 ^ 62) (fit : All (IsOf (with_lengths form)) ops) where
  abbrev D : Form
  D = with_lengths form

  abbrev rooted : List Bytes
  rooted = canonical_inputs hash shape g D ops

  -- the update of a proof that is verified is of the list's kind, or hashes collide
  kind_speaks : (proof : OperationProof) (key value : Bytes) (next : Option Bytes) (ordered : Bool) → IsOperationOf (chunk_size g) size proof
      → ((op : Operation) → IsOf D op → spelling D op ≡ spelling D (update key value next) → form.ordered ≡ ordered)
      → key_verdict hash shape g D proof key value next (canonical hash shape g D ops) ≡ true
      → (form.ordered ≡ ordered) ⊎ Collides hash (key_inputs hash shape g D proof key value next) rooted
  kind_speaks proof key value next ordered is kind e = ⊎_elim
      (λ (says : OperationSays D ops proof.location (spelling D (update key value next))).
      let found = spelled_at D ops proof.location (spelling D (update key value next)) says.0 in
      inl (kind found.0 (each_there (IsOf D) ops (each_of (IsOf D) ops fit) proof.location found.0 found.1) found.2))
      (λ clash. inr clash)
      (operation_speaks hash size sized shape births family peaked leaf_born prompt g enough D ops few proof (spelling D (update key value next)) (sized_of g size proof is) e)

  -- a key has the value, whichever kind of proof says so
  has_speaks : (proof : OperationProof) (key value : Bytes) (next : Option Bytes) → IsOperationOf (chunk_size g) size proof → IsClaim form (has key value) → IfSome next (IsKey D)
      → key_verdict hash shape g D proof key value next (canonical hash shape g D ops) ≡ true
      → (value_of ops key ≡ Some value) ⊎ Collides hash (key_inputs hash shape g D proof key value next) rooted
  has_speaks proof key value None is short keyed e = ⊎_elim
      (λ (plain : form.ordered ≡ false). key_speaks_of_the_map hash size sized shape births family peaked leaf_born prompt g enough D ops few fit proof key value None (short.0, short.1, sym plain, tt) (sized_of g size proof is) e)
      (λ clash. inr clash)
      (kind_speaks proof key value None false is (plain_kind form key value short.0 short.1) e)
  has_speaks proof key value (Some next) is short keyed e = ⊎_elim
      (λ (kind : form.ordered ≡ true). key_speaks_of_the_map hash size sized shape births family peaked leaf_born prompt g enough D ops few fit proof key value (Some next) (short.0, short.1, sym kind, keyed) (sized_of g size proof is) e)
      (λ clash. inr clash)
      (kind_speaks proof key value (Some next) true is (linked_kind form key value short.0 short.1 next) e)

  -- of a good list, in an ordered database with its ring, a yes says the claim
  pub claim_speaks : IsGood ops → (form.ordered ≡ true → IsRing ops) → (proof : KeyProof) (claim : Claim) → IsProofOf form (chunk_size g) size proof → IsClaim form claim
      → claim_verdict hash shape g form proof claim (canonical hash shape g D ops) ≡ true
      → ClaimSays ops claim ⊎ Collides hash (claim_inputs hash shape g form proof claim) rooted
  claim_speaks good ring (held proof) (has key value) is short e = has_speaks proof key value None is short tt e
  claim_speaks good ring (linked proof next) (has key value) is short e = has_speaks proof key value (Some next) is.0 short is.1 e
  claim_speaks good ring (absent (spanned proof key value next)) (lacks x) is short e =
      let first = both_true (not (bytes_eq key x)) _ e in
      let second = both_true (in_span key next x) _ first.1 in
      ⊎_elim
      (λ (kind : form.ordered ≡ true). spanned_speaks hash size sized shape births family peaked leaf_born prompt g enough D ops few fit proof key value next x (ring kind) (is.1, is.2, sym kind, is.3) (sized_of g size proof is.0) e)
      (λ clash. inr clash)
      (kind_speaks proof key value (Some next) true is.0 (linked_kind form key value is.1 is.2 next) second.1)
  claim_speaks good ring (absent (emptied proof meta)) (lacks x) is short e =
      let n = proof.range.proof.leaves in
      let tests = both_true (has_bit proof.chunk (proof.location % 2 ^ g)) _ e in
      let bounded = both_true (nat_le n (2 ^ 62)) _ tests.1 in
      let some = both_true (nat_lt 0 1) _ bounded.1 in
      let within = both_true (nat_le (proof.location + 1) n) _ some.1 in
      let low = leb-true _ _ bounded.0 in
      let high = leb-true _ _ within.0 in
      emptied_speaks hash size sized shape births family peaked leaf_born prompt g enough D ops few fit proof meta x good (is.1, omega (arith, low, high)) (sized_of g size proof is.0) e
  claim_speaks good ring (held proof) (lacks x) is short e = absurd (true≢false (sym e))
  claim_speaks good ring (linked proof next) (lacks x) is short e = absurd (true≢false (sym e))
  claim_speaks good ring (absent proof) (has key value) is short e = absurd (true≢false (sym e))
