-- The decoder and the spelling, in any form.
use Rattle.std.proofs.Common.{◌≡◌, ℕ, zero, suc, lit<, ◌+◌, ◌-◌, ◌<◌, ◌≤◌, ◌^◌, length, take, refl, ap, sym, ◌∙◌, arith, [], ◌∷◌, ◌++◌, Bool, true, false, Option, Some, None, Result, Ok, Err, option_map, subst, append_assoc}
use Rattle.std.specs.Prelude.{All, IfOk, IfSome, IfNone, nat_le, ◌==◌, max, replicate, is_some, if◌then◌else◌}
use Rattle.std.specs.Option.{option_and_then}
use Rattle.std.proofs.lemmas.Bool.{le-leb, leb-true, eqb-true, eq-eqb, and_parts}
use Rattle.std.proofs.lemmas.Option.{IfSome_then, none-some, same_Some}
use Rattle.std.proofs.lemmas.List.{take_at, drop_at, append-nil, length-append, length-replicate, take-append-drop, length-take-le, get_or-drop}
use Rattle.qm_model.specs.Operations.{Bytes, Operation, update, delete, commit, four_bytes, eight_bytes}
use Rattle.qm_model.specs.Forms.{Form, key_size, value_size, field, optional_field, metadata_field, plain, longest, padded, spelling, IsSized, IsKey, IsValue, IsOf, IsSpelling, number_of_four, number_of_eight, first_bytes, read_field, tested, read_key, read_value, read_next, read_metadata, read_floor, are_zeros, is_end, at_end, decoded_update, decoded_delete, decoded_commit, by_tag, is_long, decoded}
use Rattle.qm_model.proofs.Numbers.{AreBytes, length-four_bytes, length-eight_bytes, number_of_four-four_bytes, number_of_eight-eight_bytes, four_bytes-number_of_four, eight_bytes-number_of_eight, number_of_four_below}
use Rattle.qm_model.proofs.Options.{IfSome-and_then, IfSome-map, IfSome-if}

-- The spelling is decoded to its operation.

pub first_bytes-append : (n : ℕ) (front back : Bytes) → length front ≡ n → first_bytes n (front ++ back) ≡ Some (front, back)
first_bytes-append n front back len =
    let le : nat_le n (length (front ++ back)) ≡ true = le-leb _ _ (omega (arith, length-append front back)) in
    rw le (rw (take_at front back n len, drop_at front back n len))

read_field-field : (size : Option ℕ) (bs back : Bytes) → IsSized size bs → read_field size (field size bs ++ back) ≡ Some (bs, back)
read_field-field None bs back short =
    rw (append_assoc (four_bytes (length bs)) bs back, first_bytes-append 4 (four_bytes (length bs)) (bs ++ back) (length-four_bytes _), number_of_four-four_bytes _ short)
    (first_bytes-append (length bs) bs back refl)
read_field-field (Some n) bs back sized = first_bytes-append n bs back sized

pub read_key-field : (form : Form) (bs back : Bytes) → IsKey form bs → read_key form (field (key_size form.sizes) bs ++ back) ≡ Some (bs, back)
read_key-field form bs back is =
    ap (option_and_then (tested form.is_key)) (read_field-field (key_size form.sizes) bs back is.sized) ∙ ap (λ t. if t then Some (bs, back) else None) is.known

pub read_value-field : (form : Form) (bs back : Bytes) → IsValue form bs → read_value form (field (value_size form.sizes) bs ++ back) ≡ Some (bs, back)
read_value-field form bs back is =
    ap (option_and_then (tested form.is_value)) (read_field-field (value_size form.sizes) bs back is.sized) ∙ ap (λ t. if t then Some (bs, back) else None) is.known

read_next-field : (form : Form) (next : Option Bytes) (back : Bytes) → is_some next ≡ form.ordered → IfSome next (IsKey form) →
    read_next form (optional_field (key_size form.sizes) next ++ back) ≡ Some (next, back)
read_next-field form None back kind is = ap (λ t. if t then option_map (λ p. (Some p.0, p.1)) (read_key form back) else Some (None, back)) (sym kind)
read_next-field form (Some key) back kind is =
    ap (λ t. if t then option_map (λ p. (Some p.0, p.1)) (read_key form (field (key_size form.sizes) key ++ back)) else Some (None, field (key_size form.sizes) key ++ back)) (sym kind)
    ∙ ap (option_map (λ (p : Bytes × Bytes). (Some p.0, p.1))) (read_key-field form key back is)

pub read_metadata-field : (form : Form) (meta : Option Bytes) (back : Bytes) → IfSome meta (IsValue form) →
    read_metadata form (metadata_field (value_size form.sizes) meta ++ back) ≡ Some (meta, back)
read_metadata-field form None back is = refl
read_metadata-field form (Some value) back is = ap (option_map (λ (p : Bytes × Bytes). (Some p.0, p.1))) (read_value-field form value back is)

read_floor-eight_bytes : (n : ℕ) (back : Bytes) → n ≤ 2 ^ 62 → read_floor (eight_bytes n ++ back) ≡ Some (n, back)
read_floor-eight_bytes n back below =
    let le : nat_le n (2 ^ 62) ≡ true = le-leb _ _ below in
    rw (first_bytes-append 8 (eight_bytes n) back (length-eight_bytes n), number_of_eight-eight_bytes n (omega arith), le)

at_end-is : {A : Type 0} (sizes : Option (ℕ × ℕ)) (x : A) (back : Bytes) → is_end sizes back ≡ true → at_end sizes (x, back) ≡ Some x
at_end-is sizes x back is = ap (λ t. if t then Some x else None) is

by_tag-plain : (form : Form) (op : Operation) (back : Bytes) → IsOf form op → is_end form.sizes back ≡ true → by_tag form (plain form.sizes op ++ back) ≡ Some op
by_tag-plain form (update key value next) back is done =
    let k = key_size form.sizes in
    let v = value_size form.sizes in
    ap (decoded_update form) (append_assoc (field k key) (field v value ++ optional_field k next) back ∙ ap (λ r. field k key ++ r) (append_assoc (field v value) (optional_field k next) back))
    ∙ ap (option_and_then (λ (k : Bytes × Bytes). option_and_then (λ v. option_and_then (λ n. at_end form.sizes (update k.0 v.0 n.0, n.1)) (read_next form v.1)) (read_value form k.1)))
    (read_key-field form key (field v value ++ (optional_field k next ++ back)) is.0)
    ∙ ap (option_and_then (λ (v : Bytes × Bytes). option_and_then (λ n. at_end form.sizes (update key v.0 n.0, n.1)) (read_next form v.1)))
    (read_value-field form value (optional_field k next ++ back) is.1)
    ∙ ap (option_and_then (λ (n : Option Bytes × Bytes). at_end form.sizes (update key value n.0, n.1))) (read_next-field form next back (is.2) (is.3))
    ∙ at_end-is form.sizes (update key value next) back done
by_tag-plain form (delete key) back is done =
    ap (option_and_then (λ (k : Bytes × Bytes). at_end form.sizes (delete k.0, k.1))) (read_key-field form key back is)
    ∙ at_end-is form.sizes (delete key) back done
by_tag-plain form (commit meta floor) back is done =
    ap (decoded_commit form) (append_assoc (metadata_field (value_size form.sizes) meta) (eight_bytes floor) back)
    ∙ ap (option_and_then (λ (m : Option Bytes × Bytes). option_and_then (λ f. at_end form.sizes (commit m.0 f.0, f.1)) (read_floor m.1)))
    (read_metadata-field form meta (eight_bytes floor ++ back) is.0)
    ∙ ap (option_and_then (λ (f : ℕ × Bytes). at_end form.sizes (commit meta f.0, f.1))) (read_floor-eight_bytes floor back is.1)
    ∙ at_end-is form.sizes (commit meta floor) back done

-- what follows an operation without padding
padding : Bool → Option (ℕ × ℕ) → Bytes → Bytes
padding ordered None bs = []
padding ordered (Some p) bs = replicate (longest ordered p - length bs) 0

padded-is : (ordered : Bool) (sizes : Option (ℕ × ℕ)) (bs : Bytes) → padded ordered sizes bs ≡ bs ++ padding ordered sizes bs
unfolding padding
padded-is ordered None bs = sym (append-nil bs)
padded-is ordered (Some p) bs = refl

zeros-are : (n : ℕ) → are_zeros (replicate n 0) ≡ true
zeros-are zero = refl
zeros-are (suc n) = zeros-are n

padding-ends : (ordered : Bool) (sizes : Option (ℕ × ℕ)) (bs : Bytes) → is_end sizes (padding ordered sizes bs) ≡ true
unfolding padding
padding-ends ordered None bs = refl
padding-ends ordered (Some p) bs = zeros-are (longest ordered p - length bs)

abbrev IsOfSized : Bool → Option (ℕ × ℕ) → Operation → Type 0
IsOfSized ordered s (update key value next) = IsSized (key_size s) key × IsSized (value_size s) value × (is_some next ≡ ordered) × IfSome next (IsSized (key_size s))
IsOfSized ordered s (delete key) = IsSized (key_size s) key
IsOfSized ordered s (commit meta floor) = IfSome meta (IsSized (value_size s))

-- an operation of fixed sizes is no longer than the longest
fixed_within : (form : Form) (p : ℕ × ℕ) (op : Operation) → form.sizes ≡ Some p → IsOf form op → length (plain (Some p) op) ≤ longest form.ordered p
fixed_within form p op same is = within op (subst (λ s. IsOfSized form.ordered s op) same (sized op is))
  where
    sized : (op : Operation) → IsOf form op → IsOfSized form.ordered form.sizes op
    sized (update key value None) is = ((is.0).sized, (is.1).sized, is.2, tt)
    sized (update key value (Some next)) is = ((is.0).sized, (is.1).sized, is.2, (is.3).sized)
    sized (delete key) is = is.sized
    sized (commit None floor) is = tt
    sized (commit (Some meta) floor) is = (is.0).sized

    more : (t : Bool) (n k v extra : ℕ) → true ≡ t → n ≡ 1 + k + v + k → n ≤ max (1 + k + v + (if t then k else 0)) extra
    more true n k v extra is len = omega (arith, len)
    more false n k v extra is len = cc

    within : (op : Operation) → IsOfSized form.ordered (Some p) op → length (plain (Some p) op) ≤ longest form.ordered p
    within (update key value None) is =
        let k = is.0 in
        let v = is.1 in
        let len : length (key ++ (value ++ [])) ≡ p.0 + p.1 = length-append key (value ++ []) ∙ ap (λ n. length key + n) (length-append value []) ∙ omega (arith, k, v) in
        omega (arith, len)
    within (update key value (Some next)) is =
        let k = is.0 in
        let v = is.1 in
        let n = is.3 in
        let len : suc (length (key ++ (value ++ next))) ≡ 1 + p.0 + p.1 + p.0 = ap suc (length-append key (value ++ next) ∙ ap (λ n. length key + n) (length-append value next)) ∙ omega (arith, k, v, n) in
        more form.ordered (suc (length (key ++ (value ++ next)))) p.0 p.1 (10 + p.1) is.2 len
    within (delete key) is = omega (arith, is)
    within (commit None floor) is = let len = length-eight_bytes floor in omega (arith, len)
    within (commit (Some meta) floor) is =
        let len = length-append meta (eight_bytes floor) in
        let eight = length-eight_bytes floor in
        omega (arith, len, eight, is)

is_long-spelling : (form : Form) (op : Operation) → IsOf form op → is_long form.ordered form.sizes (spelling form op) ≡ true
is_long-spelling form op is = by form.sizes refl
  where
    by : (s : Option (ℕ × ℕ)) → form.sizes ≡ s → is_long form.ordered s (padded form.ordered s (plain s op)) ≡ true
    by None same = refl
    by (Some p) same =
        let within = fixed_within form p op same is in
        let rest = length-append (plain (Some p) op) (replicate (longest form.ordered p - length (plain (Some p) op)) 0) in
        let zeros = length-replicate {A = ℕ} (longest form.ordered p - length (plain (Some p) op)) 0 in
        eq-eqb _ _ (omega (arith, within, rest, zeros))

pub decoded-spelling : (form : Form) (op : Operation) → IsOf form op → decoded form (spelling form op) ≡ Some op
decoded-spelling form op is =
    ap (λ t. if t then by_tag form (spelling form op) else None) (is_long-spelling form op is)
    ∙ ap (by_tag form) (padded-is form.ordered form.sizes (plain form.sizes op))
    ∙ by_tag-plain form op (padding form.ordered form.sizes (plain form.sizes op)) is (padding-ends form.ordered form.sizes (plain form.sizes op))

-- operations with one spelling are one
pub spelling-once : (form : Form) (a b : Operation) → IsOf form a → IsOf form b → spelling form a ≡ spelling form b → a ≡ b
spelling-once form a b one other same = same_Some a b (sym (decoded-spelling form a one) ∙ (ap (decoded form) same ∙ decoded-spelling form b other))

-- bytes spell one operation at most
pub IsSpelling-once : (form : Form) (bs : Bytes) (a b : Operation) → IsSpelling form bs a → IsSpelling form bs b → a ≡ b
IsSpelling-once form bs a b spells_a spells_b = spelling-once form a b spells_a.of spells_b.of (spells_a.spelled ∙ sym spells_b.spelled)

-- If bytes are decoded to an operation, they are its spelling.

pub AreBytes-all : (bs : Bytes) → All (λ b. b < 256) bs → AreBytes bs
AreBytes-all [] all i = lit< tt
AreBytes-all (b ∷ bs) all zero = all 0 0 (omega arith)
AreBytes-all (b ∷ bs) all (suc i) = AreBytes-all bs (λ k d lt. all (suc k) d (omega arith)) i

AreBytes-take : (n : ℕ) (bs : Bytes) → AreBytes bs → AreBytes (take n bs)
AreBytes-take zero bs below i = lit< tt
AreBytes-take (suc n) [] below i = lit< tt
AreBytes-take (suc n) (b ∷ bs) below zero = below zero
AreBytes-take (suc n) (b ∷ bs) below (suc i) = AreBytes-take n bs (λ j. below (suc j)) i

-- bytes before others, which together are these
pub record IsCut (n : ℕ) (bs : Bytes) (p : Bytes × Bytes) : Type 0 where
  pub whole : p.0 ++ p.1 ≡ bs
  pub count : length p.0 ≡ n
  pub front : AreBytes p.0
  pub back : AreBytes p.1

pub first_bytes-cut : (n : ℕ) (bs : Bytes) → AreBytes bs → IfSome (first_bytes n bs) (IsCut n bs)
first_bytes-cut n bs below =
    IfSome-if (IsCut n bs) (nat_le n (length bs)) _ _
    (λ h. record {
      whole = take-append-drop n bs;
      count = length-take-le n bs (leb-true _ _ h);
      front = AreBytes-take n bs below;
      back = λ i. rw (get_or-drop n bs i 0) (below (n + i));
    })
    (λ _. tt)

-- what was read, spelled before the rest, which together are these bytes
pub record IsRead {A : Type 0} (spelled : A → Bytes) (IsFit : A → Type 0) (bs : Bytes) (p : A × Bytes) : Type 0 where
  pub whole : spelled p.0 ++ p.1 ≡ bs
  pub fit : IsFit p.0
  pub back : AreBytes p.1

field_of_cuts : (bs : Bytes) (p q : Bytes × Bytes) → IsCut 4 bs p → IsCut (number_of_four p.0) p.1 q → IsRead (field None) (IsSized None) bs q
field_of_cuts bs p q first second = record {
  whole =
      rw (second.count, four_bytes-number_of_four p.0 first.count first.front, append_assoc p.0 q.0 q.1, second.whole) first.whole;
  fit = rw second.count (number_of_four_below p.0 first.front);
  back = second.back;
}

read_field-read : (size : Option ℕ) (bs : Bytes) → AreBytes bs → IfSome (read_field size bs) (IsRead (field size) (IsSized size) bs)
read_field-read None bs below =
    IfSome-and_then (IsCut 4 bs) (IsRead (field None) (IsSized None) bs) (first_bytes 4 bs) (λ p. first_bytes (number_of_four p.0) p.1) (first_bytes-cut 4 bs below)
    (λ p first. IfSome_then _ (first_bytes-cut (number_of_four p.0) p.1 first.back) (λ q second. field_of_cuts bs p q first second))
read_field-read (Some n) bs below =
    IfSome_then {X = Bytes × Bytes} _ {Q = IsRead (field (Some n)) (IsSized (Some n)) bs} (first_bytes-cut n bs below) (λ q cut. record { whole = cut.whole; fit = cut.count; back = cut.back })

pub read_key-read : (form : Form) (bs : Bytes) → AreBytes bs → IfSome (read_key form bs) (IsRead (field (key_size form.sizes)) (IsKey form) bs)
read_key-read form bs below =
    IfSome-and_then (IsRead (field (key_size form.sizes)) (IsSized (key_size form.sizes)) bs) _ (read_field (key_size form.sizes) bs) (tested form.is_key) (read_field-read (key_size form.sizes) bs below)
    (λ p read. IfSome-if _ (form.is_key p.0) _ _ (λ is. record { whole = read.whole; fit = record { known = is; sized = read.fit }; back = read.back }) (λ _. tt))

pub read_value-read : (form : Form) (bs : Bytes) → AreBytes bs → IfSome (read_value form bs) (IsRead (field (value_size form.sizes)) (IsValue form) bs)
read_value-read form bs below =
    IfSome-and_then (IsRead (field (value_size form.sizes)) (IsSized (value_size form.sizes)) bs) _ (read_field (value_size form.sizes) bs) (tested form.is_value) (read_field-read (value_size form.sizes) bs below)
    (λ p read. IfSome-if _ (form.is_value p.0) _ _ (λ is. record { whole = read.whole; fit = record { known = is; sized = read.fit }; back = read.back }) (λ _. tt))

abbrev IsNext : Form → Option Bytes → Type 0
IsNext form next = (is_some next ≡ form.ordered) × IfSome next (IsKey form)

read_next-read : (form : Form) (bs : Bytes) → AreBytes bs → IfSome (read_next form bs) (IsRead (optional_field (key_size form.sizes)) (IsNext form) bs)
read_next-read form bs below =
    IfSome-if _ form.ordered _ _
    (λ is. IfSome-map (IsRead (field (key_size form.sizes)) (IsKey form) bs) _ (read_key form bs) (λ p. (Some p.0, p.1)) (read_key-read form bs below)
    (λ p read. record { whole = read.whole; fit = (sym is, read.fit); back = read.back }))
    (λ is. record { whole = refl; fit = (sym is, tt); back = below })

abbrev pub IsMetadata : Form → Option Bytes → Type 0
IsMetadata form meta = IfSome meta (IsValue form)

pub read_metadata-read : (form : Form) (bs : Bytes) → AreBytes bs → IfSome (read_metadata form bs) (IsRead (metadata_field (value_size form.sizes)) (IsMetadata form) bs)
read_metadata-read form [] below = tt
read_metadata-read form (mark ∷ bs) below =
    let below_rest : AreBytes bs = λ i. below (suc i) in
    IfSome-if (IsRead (metadata_field (value_size form.sizes)) (IsMetadata form) (mark ∷ bs)) (mark == 0) _ _
    (λ h. record { whole = ap (λ m. m ∷ bs) (sym (eqb-true mark 0 h)); fit = tt; back = below_rest })
    (λ _. IfSome-if (IsRead (metadata_field (value_size form.sizes)) (IsMetadata form) (mark ∷ bs)) (mark == 1) _ _
    (λ h. IfSome-map (IsRead (field (value_size form.sizes)) (IsValue form) bs) (IsRead (metadata_field (value_size form.sizes)) (IsMetadata form) (mark ∷ bs)) (read_value form bs) (λ p. (Some p.0, p.1)) (read_value-read form bs below_rest)
    (λ p read. record { whole = rw (eqb-true mark 1 h) (ap (λ r. 1 ∷ r) read.whole); fit = read.fit; back = read.back }))
    (λ _. tt))

read_floor-read : (bs : Bytes) → AreBytes bs → IfSome (read_floor bs) (IsRead eight_bytes (λ n. n ≤ 2 ^ 62) bs)
read_floor-read bs below =
    IfSome-and_then (IsCut 8 bs) _ (first_bytes 8 bs) _ (first_bytes-cut 8 bs below)
    (λ p cut. IfSome-if _ (nat_le (number_of_eight p.0) (2 ^ 62)) _ _
    (λ h. record { whole = rw (eight_bytes-number_of_eight p.0 cut.count cut.front) cut.whole; fit = leb-true _ _ h; back = cut.back })
    (λ _. tt))

-- the bytes begin with the operation, and only padding follows it
record IsPlain (form : Form) (bs : Bytes) (op : Operation) : Type 0 where
  back : Bytes
  whole : plain form.sizes op ++ back ≡ bs
  ended : is_end form.sizes back ≡ true
  of : IsOf form op

at_end-plain : (form : Form) (bs : Bytes) (op : Operation) (back : Bytes) → plain form.sizes op ++ back ≡ bs → IsOf form op → IfSome (at_end form.sizes (op, back)) (IsPlain form bs)
at_end-plain form bs op back whole of = IfSome-if _ (is_end form.sizes back) _ _ (λ ended. record { back = back; whole = whole; ended = ended; of = of }) (λ _. tt)

decoded_update-is : (form : Form) (bs : Bytes) → AreBytes bs → IfSome (decoded_update form bs) (IsPlain form (1 ∷ bs))
decoded_update-is form bs below =
    let ks = key_size form.sizes in
    let vs = value_size form.sizes in
    IfSome-and_then (IsRead (field ks) (IsKey form) bs) _ (read_key form bs) _ (read_key-read form bs below)
    (λ k key. IfSome-and_then (IsRead (field vs) (IsValue form) k.1) _ (read_value form k.1) _ (read_value-read form k.1 key.back)
    (λ v value. IfSome-and_then (IsRead (optional_field ks) (IsNext form) v.1) _ (read_next form v.1) _ (read_next-read form v.1 value.back)
    (λ n next. at_end-plain form (1 ∷ bs) (update k.0 v.0 n.0) n.1
    (ap (λ r. 1 ∷ r) (append_assoc (field ks k.0) (field vs v.0 ++ optional_field ks n.0) n.1 ∙ ap (λ r. field ks k.0 ++ r) (append_assoc (field vs v.0) (optional_field ks n.0) n.1 ∙ ap (λ r. field vs v.0 ++ r) next.whole ∙ value.whole) ∙ key.whole))
    (key.fit, value.fit, next.fit.0, next.fit.1))))

decoded_delete-is : (form : Form) (bs : Bytes) → AreBytes bs → IfSome (decoded_delete form bs) (IsPlain form (2 ∷ bs))
decoded_delete-is form bs below =
    IfSome-and_then (IsRead (field (key_size form.sizes)) (IsKey form) bs) _ (read_key form bs) _ (read_key-read form bs below)
    (λ k key. at_end-plain form (2 ∷ bs) (delete k.0) k.1 (ap (λ r. 2 ∷ r) key.whole) key.fit)

decoded_commit-is : (form : Form) (bs : Bytes) → AreBytes bs → IfSome (decoded_commit form bs) (IsPlain form (3 ∷ bs))
decoded_commit-is form bs below =
    let vs = value_size form.sizes in
    IfSome-and_then (IsRead (metadata_field vs) (IsMetadata form) bs) _ (read_metadata form bs) _ (read_metadata-read form bs below)
    (λ m meta. IfSome-and_then (IsRead eight_bytes (λ n. n ≤ 2 ^ 62) m.1) _ (read_floor m.1) _ (read_floor-read m.1 meta.back)
    (λ f floor. at_end-plain form (3 ∷ bs) (commit m.0 f.0) f.1
    (ap (λ r. 3 ∷ r) (append_assoc (metadata_field vs m.0) (eight_bytes f.0) f.1 ∙ ap (λ r. metadata_field vs m.0 ++ r) floor.whole ∙ meta.whole))
    (meta.fit, floor.fit)))

by_tag-is : (form : Form) (bs : Bytes) → AreBytes bs → IfSome (by_tag form bs) (IsPlain form bs)
by_tag-is form [] below = tt
by_tag-is form (tag ∷ bs) below =
    let below_rest : AreBytes bs = λ i. below (suc i) in
    IfSome-if (IsPlain form (tag ∷ bs)) (tag == 1) _ _ (λ h. rw (eqb-true tag 1 h) (decoded_update-is form bs below_rest))
    (λ _. IfSome-if (IsPlain form (tag ∷ bs)) (tag == 2) _ _ (λ h. rw (eqb-true tag 2 h) (decoded_delete-is form bs below_rest))
    (λ _. IfSome-if (IsPlain form (tag ∷ bs)) (tag == 3) _ _ (λ h. rw (eqb-true tag 3 h) (decoded_commit-is form bs below_rest))
    (λ _. tt)))

zeros-same : (bs : Bytes) → are_zeros bs ≡ true → bs ≡ replicate (length bs) 0
zeros-same [] is = refl
zeros-same (b ∷ bs) is =
    let both = and_parts _ _ is in
    ap (λ x. x ∷ bs) (eqb-true b 0 both.0) ∙ ap (λ r. 0 ∷ r) (zeros-same bs both.1)

-- padding of bytes of the right length is what pads
padded-back : (ordered : Bool) (sizes : Option (ℕ × ℕ)) (bs front back : Bytes) → front ++ back ≡ bs → is_end sizes back ≡ true → is_long ordered sizes bs ≡ true → padded ordered sizes front ≡ bs
padded-back ordered None bs front [] whole ended long = sym (append-nil front) ∙ whole
padded-back ordered None bs front (b ∷ back) whole ended long = let wrong = eqb-true _ _ ended in absurd (omega (arith, wrong))
padded-back ordered (Some p) bs front back whole ended long =
    let len = ap length whole in
    let sum = length-append front back in
    let all = eqb-true _ _ long in
    let rest : longest ordered p - length front ≡ length back = omega (arith, len, sum, all) in
    ap (λ n. front ++ replicate n 0) rest ∙ ap (λ r. front ++ r) (sym (zeros-same back ended)) ∙ whole

pub spelling-decoded : (form : Form) (bs : Bytes) → AreBytes bs → IfSome (decoded form bs) (IsSpelling form bs)
spelling-decoded form bs below =
    IfSome-if _ (is_long form.ordered form.sizes bs) _ _
    (λ long. IfSome_then _ {Q = IsSpelling form bs} (by_tag-is form bs below)
    (λ op is. record { of = is.of; spelled = padded-back form.ordered form.sizes bs (plain form.sizes op) is.back is.whole is.ended long }))
    (λ _. tt)

-- What the decoder finds.

module _ {D E : Type 0} (view : D → Operation) (form : Form) (bs : Bytes) where
  pub found_spelling : (r : Result (Option D) E) → AreBytes bs → IfOk r (λ found. option_map view found ≡ decoded form bs) → IfOk r (λ found. IfSome found (λ op. IsSpelling form bs (view op)))
  found_spelling (Err e) below is = tt
  found_spelling (Ok None) below is = tt
  found_spelling (Ok (Some op)) below is = subst (λ o. IfSome o (IsSpelling form bs)) (sym is) (spelling-decoded form bs below)

  pub found_none : (r : Result (Option D) E) → IfOk r (λ found. option_map view found ≡ decoded form bs) → IfOk r (λ found. IfNone found ((op : Operation) → ¬ IsSpelling form bs op))
  found_none (Err e) is = tt
  found_none (Ok None) is = λ op h. none-some op (is ∙ (ap (decoded form) (sym h.spelled) ∙ decoded-spelling form op h.of))
  found_none (Ok (Some op)) is = tt
