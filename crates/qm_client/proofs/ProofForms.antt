-- Proofs of keys are read from their spelling, and from no other bytes.
use Rattle.std.proofs.Common.{◌≡◌, ℕ, zero, suc, ◌<◌, ◌≤◌, ◌^◌, length, refl, ap, sym, ◌∙◌, arith, List, [], ◌∷◌, ◌++◌, Option, Some, None, Result, Ok, Err, option_map, subst, append_assoc, append-nil}
use Rattle.std.specs.Prelude.{All, IfOk, IfSome, IfNone, nat_le, ◌==◌, if◌then◌else◌}
use Rattle.std.specs.List.{concat}
use Rattle.std.specs.Option.{option_and_then}
use Rattle.std.proofs.lemmas.Bool.{le-leb, leb-true, eqb-true}
use Rattle.std.proofs.lemmas.Option.{IfSome_then, same_Some, none-some}
use Rattle.std.proofs.lemmas.List.Elements.{All-nil, All-cons, All-head, All-tail}
use Rattle.qm_model.specs.Operations.{Bytes, four_bytes, eight_bytes}
use Rattle.qm_model.specs.Forms.{Form, field, metadata_field, IsKey, IsValue, number_of_four, number_of_eight, first_bytes, read_key, read_value, read_metadata, is_end, at_end}
use Rattle.qm_model.specs.RangeProofs.{RangeProof, OperationProof, spanned, emptied}
use Rattle.qm_client.specs.ProofForms.{KeyProof, held, linked, absent, most_digests, with_lengths, digest_field, digests_spelling, range_spelling, operation_spelling, proof_spelling, IsRangeOf, IsOperationOf, IsProofOf, IsProofSpelling, Reader, both, mapped, read_eight, read_count, read_each, read_digests, read_digest, range_of, read_range, operation_of, read_operation, spanned_of, read_whole, read_proof}
use Rattle.qm_model.proofs.Numbers.{AreBytes, length-four_bytes, length-eight_bytes, number_of_four-four_bytes, number_of_eight-eight_bytes, four_bytes-number_of_four, eight_bytes-number_of_eight}
use Rattle.qm_model.proofs.Options.{IfSome-and_then, IfSome-map, IfSome-if}
use Rattle.qm_model.proofs.Forms.{first_bytes-append, read_key-field, read_value-field, read_metadata-field, IsCut, first_bytes-cut, IsRead, read_key-read, read_value-read, read_metadata-read, IsMetadata}

-- A reader takes back what is fit and was written, whatever stands behind it, and gives only what, written, the bytes begin with.
record Codec {A : Type 0} (write : A → Bytes) (IsFit : A → Type 0) (read : Reader A) : Type 0 where
  takes : (x : A) (back : Bytes) → IsFit x → read (write x ++ back) ≡ Some (x, back)
  gives : (bs : Bytes) → AreBytes bs → IfSome (read bs) (IsRead write IsFit bs)

-- one thing and another

abbrev written : {A B : Type 0} → (A → Bytes) → (B → Bytes) → A × B → Bytes
written first second p = first p.0 ++ second p.1

abbrev AreFit : {A B : Type 0} → (A → Type 0) → (B → Type 0) → A × B → Type 0
AreFit One Other p = One p.0 × Other p.1

both-codec : {A B : Type 0} (w : A → Bytes) (I : A → Type 0) (r : Reader A) (v : B → Bytes) (J : B → Type 0) (s : Reader B) → Codec w I r → Codec v J s → Codec (written w v) (AreFit I J) (both r s)
both-codec {A} {B} w I r v J s one other = record {
  takes = λ p back fit.
      ap (both r s) (append_assoc (w p.0) (v p.1) back)
      ∙ ap (option_and_then (λ (a : A × Bytes). option_map (λ (b : B × Bytes). ((a.0, b.0), b.1)) (s a.1))) (one.takes p.0 (v p.1 ++ back) fit.0)
      ∙ ap (option_map (λ (b : B × Bytes). ((p.0, b.0), b.1))) (other.takes p.1 back fit.1);
  gives = λ bs below.
      IfSome-and_then (IsRead w I bs) (IsRead (written w v) (AreFit I J) bs) (r bs) (λ a. option_map (λ b. ((a.0, b.0), b.1)) (s a.1)) (one.gives bs below)
      (λ a front. IfSome-map (IsRead v J a.1) (IsRead (written w v) (AreFit I J) bs) (s a.1) (λ b. ((a.0, b.0), b.1)) (other.gives a.1 front.back)
      (λ b rest. record {
        whole = append_assoc (w a.0) (v b.0) b.1 ∙ (ap (λ t. w a.0 ++ t) rest.whole ∙ front.whole);
        fit = (front.fit, rest.fit);
        back = rest.back;
      }));
}

-- a thing as what it stands for
record IsSame {A B : Type 0} (f : A → B) (g : B → A) (w : A → Bytes) (I : A → Type 0) (v : B → Bytes) (J : B → Type 0) : Type 0 where
  again : (y : B) → f (g y) ≡ y
  wrote : (y : B) → v y ≡ w (g y)
  fits : (y : B) → J y → I (g y)
  writes : (x : A) → v (f x) ≡ w x
  fit : (x : A) → I x → J (f x)

mapped-codec : {A B : Type 0} (f : A → B) (g : B → A) (w : A → Bytes) (I : A → Type 0) (v : B → Bytes) (J : B → Type 0) (r : Reader A) → IsSame f g w I v J → Codec w I r → Codec v J (mapped f r)
mapped-codec {A} {B} f g w I v J r same codec = record {
  takes = λ y back fit.
      ap (λ t. mapped f r (t ++ back)) (same.wrote y) ∙ ap (option_map (λ (a : A × Bytes). (f a.0, a.1))) (codec.takes (g y) back (same.fits y fit)) ∙ ap (λ z. Some (z, back)) (same.again y);
  gives = λ bs below.
      IfSome-map (IsRead w I bs) (IsRead v J bs) (r bs) (λ a. (f a.0, a.1)) (codec.gives bs below)
      (λ a read. record { whole = ap (λ t. t ++ a.1) (same.writes a.0) ∙ read.whole; fit = same.fit a.0 read.fit; back = read.back });
}

-- Numbers, digests, keys and values.

abbrev plain : Bytes → Bytes
plain bs = bs

abbrev HasLength : ℕ → Bytes → Type 0
HasLength n bs = length bs ≡ n

first_bytes-codec : (n : ℕ) → Codec plain (HasLength n) (first_bytes n)
first_bytes-codec n = record {
  takes = λ bs back long. first_bytes-append n bs back long;
  gives = λ bs below. IfSome_then {X = Bytes × Bytes} _ {Q = IsRead plain (HasLength n) bs} (first_bytes-cut n bs below) (λ p cut. record { whole = cut.whole; fit = cut.count; back = cut.back });
}

abbrev IsWord : ℕ → Type 0
IsWord n = n < 2 ^ 64

number_of_eight_below : (bs : Bytes) → AreBytes bs → number_of_eight bs < 2 ^ 64
unfolding number_of_eight
number_of_eight_below bs below = omega (arith, below 0, below 1, below 2, below 3, below 4, below 5, below 6, below 7)

read_eight-codec : Codec eight_bytes IsWord read_eight
read_eight-codec = record {
  takes = λ n back below. ap (option_map (λ (p : Bytes × Bytes). (number_of_eight p.0, p.1))) (first_bytes-append 8 (eight_bytes n) back (length-eight_bytes n)) ∙ ap (λ m. Some (m, back)) (number_of_eight-eight_bytes n below);
  gives = λ bs below. IfSome-map (IsCut 8 bs) (IsRead eight_bytes IsWord bs) (first_bytes 8 bs) (λ p. (number_of_eight p.0, p.1)) (first_bytes-cut 8 bs below)
      (λ p cut. record { whole = ap (λ t. t ++ p.1) (eight_bytes-number_of_eight p.0 cut.count cut.front) ∙ cut.whole; fit = number_of_eight_below p.0 cut.front; back = cut.back });
}

abbrev IsCount : ℕ → Type 0
IsCount n = n ≤ most_digests

read_count-codec : Codec four_bytes IsCount read_count
read_count-codec = record {
  takes = λ n back few.
      ap (option_and_then (λ (p : Bytes × Bytes). if nat_le (number_of_four p.0) most_digests then Some (number_of_four p.0, p.1) else None)) (first_bytes-append 4 (four_bytes n) back (length-four_bytes n))
      ∙ ap (λ m. if nat_le m most_digests then Some (m, back) else None) (number_of_four-four_bytes n (omega (arith, few)))
      ∙ ap (λ t. if t then Some (n, back) else None) (le-leb n most_digests few);
  gives = λ bs below. IfSome-and_then (IsCut 4 bs) (IsRead four_bytes IsCount bs) (first_bytes 4 bs) (λ p. if nat_le (number_of_four p.0) most_digests then Some (number_of_four p.0, p.1) else None) (first_bytes-cut 4 bs below)
      (λ p cut. IfSome-if (IsRead four_bytes IsCount bs) (nat_le (number_of_four p.0) most_digests) (Some (number_of_four p.0, p.1)) None
      (λ few. record { whole = ap (λ t. t ++ p.1) (four_bytes-number_of_four p.0 cut.count cut.front) ∙ cut.whole; fit = leb-true _ _ few; back = cut.back })
      (λ _. tt));
}

-- so many digests
abbrev AreEach : ℕ → ℕ → List Bytes → Type 0
AreEach size n ds = (length ds ≡ n) × All (HasLength size) ds

each-takes : (size n : ℕ) (ds : List Bytes) (back : Bytes) → AreEach size n ds → read_each size n (concat ds ++ back) ≡ Some (ds, back)
each-takes size zero [] back are = refl
each-takes size zero (d ∷ ds) back are = let wrong = are.0 in absurd (omega arith)
each-takes size (suc n) [] back are = let wrong = are.0 in absurd (omega arith)
each-takes size (suc n) (d ∷ ds) back are =
    let long = are.0 in
    let less : length ds ≡ n = omega arith in
    ap (read_each size (suc n)) (append_assoc d (concat ds) back)
    ∙ ap (option_and_then (λ (d : Bytes × Bytes). option_map (λ (ds : List Bytes × Bytes). (d.0 ∷ ds.0, ds.1)) (read_each size n d.1))) (first_bytes-append size d (concat ds ++ back) (All-head (HasLength size) d ds are.1))
    ∙ ap (option_map (λ (ds : List Bytes × Bytes). (d ∷ ds.0, ds.1))) (each-takes size n ds back (less, All-tail (HasLength size) d ds are.1))

each-gives : (size n : ℕ) (bs : Bytes) → AreBytes bs → IfSome (read_each size n bs) (IsRead concat (AreEach size n) bs)
each-gives size zero bs below = record { whole = refl; fit = (refl, All-nil (HasLength size)); back = below }
each-gives size (suc n) bs below =
    IfSome-and_then (IsCut size bs) (IsRead concat (AreEach size (suc n)) bs) (first_bytes size bs) (λ d. option_map (λ ds. (d.0 ∷ ds.0, ds.1)) (read_each size n d.1)) (first_bytes-cut size bs below)
    (λ d cut. IfSome-map (IsRead concat (AreEach size n) d.1) (IsRead concat (AreEach size (suc n)) bs) (read_each size n d.1) (λ ds. (d.0 ∷ ds.0, ds.1)) (each-gives size n d.1 cut.back)
    (λ ds read. record {
      whole = append_assoc d.0 (concat ds.0) ds.1 ∙ (ap (λ t. d.0 ++ t) read.whole ∙ cut.whole);
      fit = (ap suc (read.fit).0, All-cons (HasLength size) d.0 ds.0 cut.count (read.fit).1);
      back = read.back;
    }))

abbrev AreDigests : ℕ → List Bytes → Type 0
AreDigests size ds = (length ds ≤ most_digests) × All (HasLength size) ds

read_digests-codec : (size : ℕ) → Codec digests_spelling (AreDigests size) (read_digests size)
read_digests-codec size = record {
  takes = λ ds back are.
      ap (read_digests size) (append_assoc (four_bytes (length ds)) (concat ds) back)
      ∙ ap (option_and_then (λ (n : ℕ × Bytes). read_each size n.0 n.1)) (read_count-codec.takes (length ds) (concat ds ++ back) are.0)
      ∙ each-takes size (length ds) ds back (refl, are.1);
  gives = λ bs below.
      IfSome-and_then (IsRead four_bytes IsCount bs) (IsRead digests_spelling (AreDigests size) bs) (read_count bs) (λ n. read_each size n.0 n.1) (read_count-codec.gives bs below)
      (λ n count. IfSome_then _ {Q = IsRead digests_spelling (AreDigests size) bs} (each-gives size n.0 n.1 count.back)
      (λ ds read. record {
        whole = append_assoc (four_bytes (length ds.0)) (concat ds.0) ds.1 ∙ (ap (λ t. four_bytes (length ds.0) ++ t) read.whole ∙ (ap (λ m. four_bytes m ++ n.1) (read.fit).0 ∙ count.whole));
        fit = (subst (λ m. m ≤ most_digests) (sym (read.fit).0) count.fit, (read.fit).1);
        back = read.back;
      }));
}

abbrev IsDigest : ℕ → Option Bytes → Type 0
IsDigest size digest = IfSome digest (HasLength size)

digest-takes : (size : ℕ) (digest : Option Bytes) (back : Bytes) → IsDigest size digest → read_digest size (digest_field digest ++ back) ≡ Some (digest, back)
digest-takes size None back is = refl
digest-takes size (Some d) back is = ap (option_map (λ (p : Bytes × Bytes). (Some p.0, p.1))) (first_bytes-append size d back is)

digest-gives : (size : ℕ) (bs : Bytes) → AreBytes bs → IfSome (read_digest size bs) (IsRead digest_field (IsDigest size) bs)
digest-gives size [] below = tt
digest-gives size (mark ∷ bs) below =
    let below_rest : AreBytes bs = λ i. below (suc i) in
    IfSome-if (IsRead digest_field (IsDigest size) (mark ∷ bs)) (mark == 0) _ _
    (λ h. record { whole = ap (λ m. m ∷ bs) (sym (eqb-true mark 0 h)); fit = tt; back = below_rest })
    (λ _. IfSome-if (IsRead digest_field (IsDigest size) (mark ∷ bs)) (mark == 1) _ _
    (λ h. IfSome-map (IsCut size bs) (IsRead digest_field (IsDigest size) (mark ∷ bs)) (first_bytes size bs) (λ p. (Some p.0, p.1)) (first_bytes-cut size bs below_rest)
    (λ p cut. record { whole = rw (eqb-true mark 1 h) (ap (λ r. 1 ∷ r) cut.whole); fit = cut.count; back = cut.back }))
    (λ _. tt))

read_digest-codec : (size : ℕ) → Codec digest_field (IsDigest size) (read_digest size)
read_digest-codec size = record { takes = digest-takes size; gives = digest-gives size }

-- Proofs of operations.

abbrev Parts : Type 0
Parts = ℕ × (ℕ × (List Bytes × (Option Bytes × (Option Bytes × Bytes))))

abbrev parts_of : RangeProof → Parts
parts_of range = (range.proof.leaves, (range.proof.inactive, (range.proof.digests, (range.pending, (range.partial, range.ops_root)))))

abbrev parts_spelling : Parts → Bytes
parts_spelling = written eight_bytes (written eight_bytes (written digests_spelling (written digest_field (written digest_field plain))))

abbrev ArePartsOf : ℕ → Parts → Type 0
ArePartsOf size = AreFit IsWord (AreFit IsWord (AreFit (AreDigests size) (AreFit (IsDigest size) (AreFit (IsDigest size) (HasLength size)))))

parts-codec : (size : ℕ) → Codec parts_spelling (ArePartsOf size) (both read_eight (both read_eight (both (read_digests size) (both (read_digest size) (both (read_digest size) (first_bytes size))))))
parts-codec size =
    both-codec _ _ _ _ _ _ read_eight-codec (both-codec _ _ _ _ _ _ read_eight-codec (both-codec _ _ _ _ _ _ (read_digests-codec size)
    (both-codec _ _ _ _ _ _ (read_digest-codec size) (both-codec _ _ _ _ _ _ (read_digest-codec size) (first_bytes-codec size)))))

range-codec : (size : ℕ) → Codec range_spelling (IsRangeOf size) (read_range size)
range-codec size = mapped-codec range_of parts_of parts_spelling (ArePartsOf size) range_spelling (IsRangeOf size) _
    (record {
      again = λ y. refl;
      wrote = λ y. refl;
      fits = λ y is. (is.leaves, (is.inactive, ((is.count, is.digests), (is.pending, (is.partial, is.ops_root)))));
      writes = λ x. refl;
      fit = λ x is. record { leaves = is.0; inactive = is.1.0; count = is.1.1.0.0; digests = is.1.1.0.1; pending = is.1.1.1.0; partial = is.1.1.1.1.0; ops_root = is.1.1.1.1.1 };
    })
    (parts-codec size)

operation-codec : (chunk size : ℕ) → Codec operation_spelling (IsOperationOf chunk size) (read_operation chunk size)
operation-codec chunk size = mapped-codec operation_of (λ p. (p.location, (p.chunk, p.range))) (written eight_bytes (written plain range_spelling)) (AreFit IsWord (AreFit (HasLength chunk) (IsRangeOf size))) operation_spelling (IsOperationOf chunk size) _
    (record {
      again = λ y. refl;
      wrote = λ y. refl;
      fits = λ y is. (is.location, (is.chunk, is.range));
      writes = λ x. refl;
      fit = λ x is. record { location = is.0; chunk = is.1.0; range = is.1.1 };
    })
    (both-codec _ _ _ _ _ _ read_eight-codec (both-codec _ _ _ _ _ _ (first_bytes-codec chunk) (range-codec size)))

module _ (form : Form) where
  key-codec : Codec (field None) (IsKey (with_lengths form)) (read_key (with_lengths form))
  key-codec = record { takes = read_key-field (with_lengths form); gives = read_key-read (with_lengths form) }

  value-codec : Codec (field None) (IsValue (with_lengths form)) (read_value (with_lengths form))
  value-codec = record { takes = read_value-field (with_lengths form); gives = read_value-read (with_lengths form) }

  metadata-codec : Codec (metadata_field None) (IsMetadata (with_lengths form)) (read_metadata (with_lengths form))
  metadata-codec = record { takes = read_metadata-field (with_lengths form); gives = read_metadata-read (with_lengths form) }

-- Whole proofs.

-- one was read of all the bytes
record IsWhole {A : Type 0} (f : A → KeyProof) (w : A → Bytes) (I : A → Type 0) (bs : Bytes) (proof : KeyProof) : Type 0 where
  of : A
  same : f of ≡ proof
  spelled : w of ≡ bs
  fit : I of

module _ {A : Type 0} (f : A → KeyProof) (w : A → Bytes) (I : A → Type 0) (r : Reader A) (codec : Codec w I r) where
  whole-takes : (x : A) → I x → read_whole f r (w x) ≡ Some (f x)
  whole-takes x fit =
      ap (read_whole f r) (sym (append-nil (w x))) ∙ ap (λ o. option_and_then (at_end None) (option_map (λ (a : A × Bytes). (f a.0, a.1)) o)) (codec.takes x [] fit)

  whole-gives : (bs : Bytes) → AreBytes bs → IfSome (read_whole f r bs) (IsWhole f w I bs)
  whole-gives bs below = cases (r bs) (codec.gives bs below)
    where
      ended : (x : A) (back : Bytes) → IsRead w I bs (x, back) → IfSome (at_end None (f x, back)) (IsWhole f w I bs)
      ended x [] read = record { of = x; same = refl; spelled = sym (append-nil (w x)) ∙ read.whole; fit = read.fit }
      ended x (b ∷ back) read = IfSome-if (IsWhole f w I bs) (is_end None (b ∷ back)) (Some (f x)) None (λ h. let wrong = eqb-true _ _ h in absurd (omega arith)) (λ _. tt)

      cases : (o : Option (A × Bytes)) → IfSome o (IsRead w I bs) → IfSome (option_and_then (at_end None) (option_map (λ a. (f a.0, a.1)) o)) (IsWhole f w I bs)
      cases None read = tt
      cases (Some p) read = ended p.0 p.1 read

module _ (form : Form) (chunk size : ℕ) where
  abbrev IsOwn : OperationProof → Type 0
  IsOwn = IsOperationOf chunk size

  abbrev own : Reader OperationProof
  own = read_operation chunk size

  abbrev key : Reader Bytes
  key = read_key (with_lengths form)

  abbrev value : Reader Bytes
  value = read_value (with_lengths form)

  abbrev metadata : Reader (Option Bytes)
  metadata = read_metadata (with_lengths form)

  abbrev IsSpan : OperationProof × (Bytes × (Bytes × Bytes)) → Type 0
  IsSpan = AreFit IsOwn (AreFit (IsKey (with_lengths form)) (AreFit (IsValue (with_lengths form)) (IsKey (with_lengths form))))

  abbrev span_spelling : OperationProof × (Bytes × (Bytes × Bytes)) → Bytes
  span_spelling = written operation_spelling (written (field None) (written (field None) (field None)))

  linked-codec : Codec (written operation_spelling (field None)) (AreFit IsOwn (IsKey (with_lengths form))) (both own key)
  linked-codec = both-codec _ _ _ _ _ _ (operation-codec chunk size) (key-codec form)

  spanned-codec : Codec span_spelling IsSpan (both own (both key (both value key)))
  spanned-codec = both-codec _ _ _ _ _ _ (operation-codec chunk size) (both-codec _ _ _ _ _ _ (key-codec form) (both-codec _ _ _ _ _ _ (value-codec form) (key-codec form)))

  emptied-codec : Codec (written operation_spelling (metadata_field None)) (AreFit IsOwn (IsMetadata (with_lengths form))) (both own metadata)
  emptied-codec = both-codec _ _ _ _ _ _ (operation-codec chunk size) (metadata-codec form)

  -- the spelling is read as its proof
  pub read-proof_spelling : (proof : KeyProof) → IsProofOf form chunk size proof → read_proof form chunk size (proof_spelling proof) ≡ Some proof
  read-proof_spelling (held p) is = whole-takes held operation_spelling IsOwn own (operation-codec chunk size) p is
  read-proof_spelling (linked p next) is = whole-takes (λ p. linked p.0 p.1) _ _ _ linked-codec (p, next) is
  read-proof_spelling (absent (spanned p k v n)) is = whole-takes spanned_of span_spelling IsSpan _ spanned-codec (p, (k, (v, n))) (is.0, (is.1, (is.2, is.3)))
  read-proof_spelling (absent (emptied p meta)) is = whole-takes (λ p. absent (emptied p.0 p.1)) _ _ _ emptied-codec (p, meta) is

  -- what is read of bytes is spelled by them
  pub proof_spelling-read : (bs : Bytes) → AreBytes bs → IfSome (read_proof form chunk size bs) (IsProofSpelling form chunk size bs)
  proof_spelling-read [] below = tt
  proof_spelling-read (tag ∷ bs) below =
      let rest : AreBytes bs = λ i. below (suc i) in
      let Is : KeyProof → Type 0 = IsProofSpelling form chunk size (tag ∷ bs) in
      IfSome-if Is (tag == 1) _ _
      (λ h. IfSome_then _ {Q = Is} (whole-gives (λ p. linked p.0 p.1) _ _ _ linked-codec bs rest) (λ proof whole. of_whole proof whole.same (record { of = whole.fit; spelled = ap (λ t. 1 ∷ t) whole.spelled ∙ ap (λ t. t ∷ bs) (sym (eqb-true tag 1 h)) })))
      (λ _. IfSome-if Is (tag == 2) _ _
      (λ h. IfSome_then _ {Q = Is} (whole-gives spanned_of span_spelling IsSpan _ spanned-codec bs rest)
      (λ proof whole. of_whole proof whole.same (record { of = ((whole.fit).0, (whole.fit).1.0, (whole.fit).1.1.0, (whole.fit).1.1.1); spelled = ap (λ t. 2 ∷ t) whole.spelled ∙ ap (λ t. t ∷ bs) (sym (eqb-true tag 2 h)) })))
      (λ _. IfSome-if Is (tag == 3) _ _
      (λ h. IfSome_then _ {Q = Is} (whole-gives (λ p. absent (emptied p.0 p.1)) _ _ _ emptied-codec bs rest) (λ proof whole. of_whole proof whole.same (record { of = whole.fit; spelled = ap (λ t. 3 ∷ t) whole.spelled ∙ ap (λ t. t ∷ bs) (sym (eqb-true tag 3 h)) })))
      (λ _. IfSome-if Is (tag == 4) _ _
      (λ h. IfSome_then _ {Q = Is} (whole-gives held operation_spelling IsOwn own (operation-codec chunk size) bs rest) (λ proof whole. of_whole proof whole.same (record { of = whole.fit; spelled = ap (λ t. 4 ∷ t) whole.spelled ∙ ap (λ t. t ∷ bs) (sym (eqb-true tag 4 h)) })))
      (λ _. tt))))
    where
      of_whole : {mine : KeyProof} (proof : KeyProof) → mine ≡ proof → IsProofSpelling form chunk size (tag ∷ bs) mine → IsProofSpelling form chunk size (tag ∷ bs) proof
      of_whole proof same is = subst (IsProofSpelling form chunk size (tag ∷ bs)) same is

  -- proofs with one spelling are one
  pub proof_spelling-once : (a b : KeyProof) → IsProofOf form chunk size a → IsProofOf form chunk size b → proof_spelling a ≡ proof_spelling b → a ≡ b
  proof_spelling-once a b one other same = same_Some a b (sym (read-proof_spelling a one) ∙ (ap (read_proof form chunk size) same ∙ read-proof_spelling b other))

-- What a decoder finds.
module _ {D E : Type 0} (view : D → KeyProof) (form : Form) (chunk size : ℕ) (bs : Bytes) where
  pub found_proof : (r : Result (Option D) E) → AreBytes bs → IfOk r (λ found. option_map view found ≡ read_proof form chunk size bs) → IfOk r (λ found. IfSome found (λ p. IsProofSpelling form chunk size bs (view p)))
  found_proof (Err e) below is = tt
  found_proof (Ok None) below is = tt
  found_proof (Ok (Some p)) below is = subst (λ o. IfSome o (IsProofSpelling form chunk size bs)) (sym is) (proof_spelling-read form chunk size bs below)

  pub found_no_proof : (r : Result (Option D) E) → IfOk r (λ found. option_map view found ≡ read_proof form chunk size bs) → IfOk r (λ found. IfNone found ((p : KeyProof) → ¬ IsProofSpelling form chunk size bs p))
  found_no_proof (Err e) is = tt
  found_no_proof (Ok None) is = λ p h. none-some p (is ∙ (ap (read_proof form chunk size) (sym h.spelled) ∙ read-proof_spelling form chunk size p h.of))
  found_no_proof (Ok (Some p)) is = tt
