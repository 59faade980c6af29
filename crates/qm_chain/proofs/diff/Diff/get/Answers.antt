use Rattle.std.proofs.Common.{◌≡◌, ap, ap₂, sym, ◌∙◌, ◌++◌, ◌/◌, ◌∷◌, [], List, None, arith, length, refl, subst, true, true≢false}
use Rattle.std.specs.Cmp.Lexicographic.{slice_cmp}
use Rattle.std.specs.Ordering.{nat_cmp}
use Rattle.std.specs.Prelude.{◌==◌, option_map}
use Rattle.std.proofs.lemmas.Bool.{eq-eqb, eqb-true}
use Rattle.std.proofs.lemmas.List.{take-append-drop}
use Rattle.qm_model.specs.Operations.{Bytes}
use Rattle.qm_chain.specs.Ascending.{IsAscending}
use Rattle.qm_chain.specs.Entries.{entry_of, keys_of}
use Rattle.qm_chain.proofs.Halves.{behind_kept, front_kept, here_found}
use Rattle.qm_chain.proofs.diff.Diff.get.Goals as goal

-- no entry at all has none of a key
nothing-in : {K E : Type 0} (bytes : K → Bytes) (entries : List (K × E)) (key : Bytes) → true ≡ (length entries == 0) → None ≡ option_map (λ e. e.1) (entry_of bytes entries key)
nothing-in bytes [] key none = refl
nothing-in bytes (e ∷ entries) key none = let no : length (e ∷ entries) ≡ 0 = eqb-true (length (e ∷ entries)) 0 (sym none) in absurd (omega (arith, no))

pub loop-key-preserved-in-Less : goal.loop-key-preserved-in-Less
loop-key-preserved-in-Less g c =
    let found = behind_kept g.K.ByteString.bytes c.loop-key.rest.now c.split_at.result.0.now c.split_at.result.1.now c.in_ok-middle.behind.now c.in_ok-middle.middle.now c.args.key.now
    (ap₂ (λ a b. a ++ b) c.split_at.ensures.front c.split_at.ensures.back ∙ take-append-drop (length c.loop-key.rest.now / 2) c.loop-key.rest.now) c.in_ok-middle.ensures.cases.0 c.loop-key.invariant.ascending
    (ap (λ b. slice_cmp nat_cmp b c.args.key.now) (sym c.as_bytes.ensures.value) ∙ sym c.cmp.ensures ∙ c.in-Less.is) in
    record { ascending = found.0; same = found.1 ∙ c.loop-key.invariant.same }

pub returns-in-Equal : goal.returns-in-Equal
returns-in-Equal g c =
    let found = here_found g.K.ByteString.bytes c.loop-key.rest.now c.split_at.result.0.now c.split_at.result.1.now c.in_ok-middle.behind.now c.in_ok-middle.middle.now c.args.key.now
    (ap₂ (λ a b. a ++ b) c.split_at.ensures.front c.split_at.ensures.back ∙ take-append-drop (length c.loop-key.rest.now / 2) c.loop-key.rest.now) c.in_ok-middle.ensures.cases.0 c.loop-key.invariant.ascending
    (ap (λ b. slice_cmp nat_cmp b c.args.key.now) (sym c.as_bytes.ensures.value) ∙ sym c.cmp.ensures ∙ c.in-Equal.is) in
    ap (option_map (λ e. e.1)) (found ∙ c.loop-key.invariant.same)

pub loop-key-preserved : goal.loop-key-preserved
loop-key-preserved g c =
    let found = front_kept g.K.ByteString.bytes c.loop-key.rest.now c.split_at.result.0.now c.split_at.result.1.now c.in_ok-middle.behind.now c.in_ok-middle.middle.now c.args.key.now
    (ap₂ (λ a b. a ++ b) c.split_at.ensures.front c.split_at.ensures.back ∙ take-append-drop (length c.loop-key.rest.now / 2) c.loop-key.rest.now) c.in_ok-middle.ensures.cases.0 c.loop-key.invariant.ascending
    (ap (λ b. slice_cmp nat_cmp b c.args.key.now) (sym c.as_bytes.ensures.value) ∙ sym c.cmp.ensures ∙ c.in-Greater.is) in
    record { ascending = found.0; same = found.1 ∙ c.loop-key.invariant.same }

pub loop-key-init : goal.loop-key-init
loop-key-init g c = record { ascending = subst (λ entries. IsAscending (keys_of g.K.ByteString.bytes entries)) (sym c.entries-rest.ensures.value) c.entries-rest.ensures.ascending; same = ap (λ entries. entry_of g.K.ByteString.bytes entries c.args.key.now) c.entries-rest.ensures.value }

pub split_at-requires : goal.split_at-requires
split_at-requires g c = omega arith

pub loop-key-smaller-in-Less : goal.loop-key-smaller-in-Less
loop-key-smaller-in-Less g c = omega (arith, c.split_at.ensures.back_len, ap length c.in_ok-middle.ensures.cases.0)

pub loop-key-smaller : goal.loop-key-smaller
loop-key-smaller g c = omega (arith, c.split_at.ensures.front_len, c.split_at.ensures.back_len, ap length c.in_ok-middle.ensures.cases.0)

pub returns-in_err-middle : goal.returns-in_err-middle
returns-in_err-middle g c =
    let none : length c.loop-key.rest.now ≡ 0 = omega (arith, c.split_at.ensures.back_len, c.in_err-middle.ensures.cases) in
    absurd (true≢false (sym (eq-eqb (length c.loop-key.rest.now) 0 none) ∙ sym c.loop-key-test.ensures))

pub returns : goal.returns
returns g c = nothing-in g.K.ByteString.bytes c.loop-key.rest.now c.args.key.now c.loop-key-test.ensures ∙ ap (option_map (λ e. e.1)) c.loop-key.invariant.same
