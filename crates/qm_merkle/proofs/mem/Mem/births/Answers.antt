use Rattle.std.proofs.Common.{◌≡◌, ◌+◌, ◌-◌, ◌++◌, ◌<◌, ◌≤◌, ◌∷◌, ◌∙◌, [], ℕ, List, Option, Some, length, get_or, refl, arith, ap, sym, ⊎_elim, subst}
use Rattle.std.specs.Prelude.{slice_get, option_map}
use Rattle.std.proofs.lemmas.Bool.{cases_lt}
use Rattle.std.proofs.lemmas.List.{length-append, get_or-append_right}
use Rattle.std.proofs.lemmas.Result.{IfOk-from_err}
use Rattle.qm_model.specs.Trees.{Node, leaf, digest_of}
use Rattle.qm_model.specs.Operations.{Bytes}
use Rattle.qm_merkle.specs.Mems.{Gives, AreBorn, more}
use Rattle.qm_merkle.proofs.Growth.{slice_get-left, slice_get-right}
use Rattle.qm_merkle.proofs.mem.Mem.births.Goals as goal

-- each of a row and the next
each_next : {D : Type 0} (P : ℕ → Option D → Type 0) (xs ys : List D) (d : D) (n : ℕ) → length xs ≡ n → ys ≡ xs ++ d ∷ [] → length ys ≡ n + 1 → ((k : ℕ) → k < length xs → P k (slice_get xs k)) → P n (slice_get (d ∷ []) 0) → (k : ℕ) → k < length ys → P k (slice_get ys k)
each_next P xs ys d n count is long all last k lt = ⊎_elim
    (λ (old : k < length xs). subst (P k) (sym (ap (λ zs. slice_get zs k) is ∙ slice_get-left xs (d ∷ []) k old)) (all k old))
    (λ (new : length xs ≤ k).
    let same : n ≡ k = omega arith in
    let at : length xs + 0 ≡ n = omega arith in
    subst (λ j. P j (slice_get ys j)) same (subst (P n) (sym (ap (λ zs. slice_get zs n) is ∙ ap (slice_get (xs ++ d ∷ [])) (sym at) ∙ slice_get-right xs (d ∷ []) 0)) last))
    (cases_lt k (length xs))

-- the first is the leaf's own
first_born : {D : Type 0} (bytes : D → Bytes) (made : List D) (d : D) (leaves : List Bytes) (digest : Node → Bytes) (born : ℕ → Node) (n : ℕ) → made ≡ d ∷ [] → n ≡ length leaves → born 0 ≡ leaf n → ((i : ℕ) → digest (leaf i) ≡ get_or (leaves ++ bytes d ∷ []) i []) →
    (k : ℕ) → k < length made → Gives bytes (slice_get made k) (digest (born k))
first_born bytes made d leaves digest born n is count first reads k lt =
    let same : 0 ≡ k = omega (arith, ap length is, lt) in
    let end : digest (born 0) ≡ bytes d = ap digest first ∙ reads n ∙ ap (λ i. get_or (leaves ++ bytes d ∷ []) i []) count ∙ get_or-append_right leaves (bytes d ∷ []) (length leaves) (length leaves) [] refl (omega arith) ∙ ap (λ i. get_or (bytes d ∷ []) i []) (less (length leaves)) in
    subst (λ j. Gives bytes (slice_get made j) (digest (born j))) same (ap (λ xs. option_map bytes (slice_get xs 0)) is ∙ ap Some (sym end))
  where
    less : (m : ℕ) → m - m ≡ 0
    less m = omega arith

pub parent-digest-requires-clause-room : goal.parent-digest-requires-clause-room
parent-digest-requires-clause-room g c = omega (arith, c.loop-number-test.true, c.birth_count-count.ensures, ap (λ k. g.F.Family.births.count k.leaves) c.self.view_is)

pub loop-number-preserved : goal.loop-number-preserved
loop-number-preserved g c =
    let shape = g.F.Family.shape in
    let births = g.F.Family.births in
    let bytes = g.D.Digest.bytes in
    let hash = g.H.Hasher.hash in
    let n = c.args.self.now.leaves in
    let made = c.loop-number.buffer.items in
    let d = c.parent-digest.result in
    let more_made : c.push_reserved-in-loop-number.new.self.items ≡ made ++ d ∷ [] = c.push_reserved-in-loop-number.ensures.items in
    let count : length c.push_reserved-in-loop-number.new.self.items ≡ c.loop-number.number + 1 = omega (arith, ap length more_made, length-append made (d ∷ []), c.loop-number.invariant.count) in record {
      count = count;
      born = λ leaves stands.
          let list = leaves ++ bytes c.args.leaf ∷ [] in
          let before = c.loop-number.invariant.born leaves stands in
          let last = c.parent-digest.ensures.digest leaves c.args.leaf stands (subst (AreBorn shape births bytes hash n list) (sym c.deref.ensures.value) before) in
          each_next (λ k found. Gives bytes found (digest_of hash shape list (births.born n k))) made c.push_reserved-in-loop-number.new.self.items d c.loop-number.number c.loop-number.invariant.count more_made count before (ap Some last);
      room = omega (arith, c.loop-number.invariant.room, c.push_reserved-in-loop-number.ensures.capacity);
      made = omega (arith, c.parent-digest.ensures.made, c.loop-number.invariant.made, c.loop-number.auto.number);
    }

pub returns-in_err-reserve : goal.returns-in_err-reserve
returns-in_err-reserve g c = record {
  count = IfOk-from_err c.from_residual.result _ c.from_residual.ensures.0;
  born = λ leaves stands. IfOk-from_err c.from_residual.result _ c.from_residual.ensures.0;
  made = IfOk-from_err c.from_residual.result _ c.from_residual.ensures.0;
}

pub push_reserved-requires-in-loop-number : goal.push_reserved-requires-in-loop-number
push_reserved-requires-in-loop-number g c = omega (arith, c.loop-number.invariant.count, c.loop-number.invariant.room, c.loop-number-test.true, c.birth_count-count.ensures, ap (λ k. g.F.Family.births.count k.leaves) c.self.view_is)

pub loop-number-init : goal.loop-number-init
loop-number-init g c =
    let made = c.push_reserved.ensures.items ∙ ap (λ xs. xs ++ c.args.leaf ∷ []) (c.reserve.ensures.items ∙ c.clear.ensures.items) in
    let family = g.met.F.Family.numbered in
    record {
      count = ap length made;
      born = λ leaves stands k lt. first_born g.D.Digest.bytes c.push_reserved.new.self.items c.args.leaf leaves (digest_of g.H.Hasher.hash g.F.Family.shape (leaves ++ g.D.Digest.bytes c.args.leaf ∷ [])) (g.F.Family.births.born c.args.self.now.leaves)
          c.args.self.now.leaves made stands.count (family.first c.args.self.now.leaves) (λ _. refl) k lt;
      room = omega (arith, c.in_ok-reserve.ensures.ok, c.push_reserved.ensures.capacity, c.birth_count-count.ensures, ap (λ k. g.F.Family.births.count k.leaves) c.self.view_is);
      made = omega arith;
    }

pub push_reserved-requires : goal.push_reserved-requires
push_reserved-requires g c = omega (arith, c.in_ok-reserve.ensures.ok, c.birth_count-count.ensures, g.met.F.Family.numbered.some c.self.inside.leaves)

pub returns : goal.returns
returns g c = record {
  born = c.loop-number.invariant.born;
  made = c.loop-number.invariant.made ∙ ap (λ n. more c.args.hasher.now (n - 1)) (sym c.loop-number.invariant.count);
  count =
      let some = g.met.F.Family.numbered.some c.self.inside.leaves in
      omega (arith, c.loop-number.invariant.count, c.loop-number-test.false, c.loop-number.auto.number-end (omega (arith, some, c.birth_count-count.ensures)), c.birth_count-count.ensures, ap (λ k. g.F.Family.births.count k.leaves) c.self.view_is);
}
