use Rattle.std.proofs.Common.{◌≡◌, ◌≢◌, ◌∙◌, ◌<◌, ◌+◌, ◌-◌, ◌++◌, ◌==◌, ⊎_elim, ℕ, Bool, true, false, length, map, take, drop, max, arith, ap, ap₂, sym}
use Rattle.std.proofs.lemmas.Bool.Decides.{eqb_tells}
use Rattle.std.proofs.lemmas.List.{nil_from_length}
use Rattle.qm_model.specs.Operations.{eight_bytes}
use Rattle.qm_model.specs.Trees.{fold_inactive, fold_right}
use Rattle.qm_merkle.specs.Mems.{more}
use Rattle.qm_merkle.proofs.Rooting.{more_twice}
use Rattle.qm_merkle.proofs.hasher.StandardHasher.root.Goals as goal

none : (n : ℕ) (test : Bool) → test ≡ (n == 0) → test ≡ true → n ≡ 0
none n test is holds = ⊎_elim
    (λ (same : (n == 0 ≡ true) × (n ≡ 0)). same.1)
    (λ (other : (n == 0 ≡ false) × (n ≢ 0)). let never : true ≡ false = sym holds ∙ is ∙ other.0 in absurd cc)
    (eqb_tells n 0)

some : (n : ℕ) (test : Bool) → test ≡ (n == 0) → test ≡ false → 0 < n
some n test is fails = ⊎_elim
    (λ (same : (n == 0 ≡ true) × (n ≡ 0)). let never : true ≡ false = sym same.0 ∙ sym is ∙ fails in absurd cc)
    (λ (other : (n == 0 ≡ false) × (n ≢ 0)). let apart = other.1 in omega (arith, apart))
    (eqb_tells n 0)

-- what a fold and the root make
made : (n a b c : ℕ) → 0 < n → b ≡ more a (n - 1) → c ≡ more b 1 → c ≡ more a (max 1 n)
made n a b c pos before last =
    let all : n - 1 + 1 ≡ max 1 n = omega arith in
    last ∙ ap (λ x. more x 1) before ∙ more_twice a (n - 1) 1 ∙ ap (more a) all

pub returns-then-is_empty : goal.returns-then-is_empty
returns-then-is_empty g c =
    let hash = g.H.Hasher.hash in
    let bytes = g.H.Digest.Digest.bytes in
    let peaks = c.args.peaks.now in
    let empty = none (length peaks) c.is_empty.result c.is_empty.ensures c.if-is_empty.true in
    let inactive : c.args.inactive ≡ 0 = omega (arith, c.requires, empty) in
    record {
      digest = c.sealed.ensures.digest
          ∙ ap₂ (λ k ps. hash ((eight_bytes c.args.leaves ++ eight_bytes c.args.inactive) ++ fold_right hash (fold_inactive hash (take k (map bytes ps)) ++ drop k (map bytes ps)))) (sym inactive) (sym (nil_from_length peaks empty));
      made = c.sealed.ensures.made ∙ ap (λ n. more c.args.self.now (max 1 n)) (sym empty);
    }

pub returns : goal.returns
returns g c =
    let hash = g.H.Hasher.hash in
    record {
      digest = c.sealed-2.ensures.digest ∙ ap (λ x. hash ((eight_bytes c.args.leaves ++ eight_bytes c.args.inactive) ++ x)) (c.bytes.ensures ∙ c.folded-folded.ensures.digest);
      made = made (length c.args.peaks.now) c.args.self.now c.folded-folded.new.self c.sealed-2.new.self (some (length c.args.peaks.now) c.is_empty.result c.is_empty.ensures c.if-is_empty.false) c.folded-folded.ensures.made c.sealed-2.ensures.made;
    }
