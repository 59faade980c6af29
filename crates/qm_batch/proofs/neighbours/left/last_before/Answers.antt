use Rattle.std.proofs.Common.{◌≡◌, ◌<◌, ◌∙◌, ◌∷◌, ◌++◌, ◌/◌, ap, ap₂, arith, sym, map, length, List, [], Some, true, false, refl}
use Rattle.std.specs.Prelude.{option_map, ◌==◌}
use Rattle.std.specs.Option.{option_or}
use Rattle.std.proofs.lemmas.Bool.{eqb-true}
use Rattle.std.proofs.lemmas.List.{take-append-drop}
use Rattle.qm_model.specs.Ranges.{is_before}
use Rattle.qm_chain.proofs.KeyOrder.{ascends_from}
use Rattle.qm_index.proofs.Basics.{or-none}
use Rattle.qm_step.specs.Nearest.{last_key, limit_view}
use Rattle.qm_step.proofs.LastKeys.{go-behind, go-front}
use Rattle.qm_batch.proofs.neighbours.left.last_before.Goals as goal

-- whether entries are left
none-left : {X : Type 0} (xs : List X) → true ≡ (length xs == 0) → xs ≡ []
none-left [] h = refl
none-left (x ∷ xs) h = let none = eqb-true (length (x ∷ xs)) 0 (sym h) in absurd (omega (arith, none))

some-left : {X : Type 0} (xs : List X) → false ≡ (length xs == 0) → 0 < length xs
some-left [] h = cc
some-left (x ∷ xs) h = omega arith

pub loop-rest-init : goal.loop-rest-init
loop-rest-init g c =
    let keys = map (λ e. g.K.ByteString.bytes e.0) c.args.entries.now in
    record { ascending = ascends_from keys c.requires; last = sym (or-none (last_key (limit_view c.args.limit) keys)) }

pub loop-rest-preserved-then-is_before : goal.loop-rest-preserved-then-is_before
loop-rest-preserved-then-is_before g c =
    let limit = limit_view c.args.limit in
    let found = go-behind (λ e. g.K.ByteString.bytes e.0) limit c.loop-rest.rest.now c.split_at.result.0.now c.split_at.result.1.now c.in_ok-middle.behind.now c.in_ok-middle.middle.now
    (ap₂ (λ a b. a ++ b) c.split_at.ensures.front c.split_at.ensures.back ∙ take-append-drop (length c.loop-rest.rest.now / 2) c.loop-rest.rest.now) c.in_ok-middle.ensures.cases.0 c.loop-rest.invariant.ascending _ _
    (ap (is_before limit) (sym c.as_bytes-key.ensures.value) ∙ sym c.is_before.ensures ∙ c.if-is_before.true) c.loop-rest.invariant.last in
    record { ascending = found.0; last = found.1 ∙ ap (λ k. option_or (last_key limit (map (λ e. g.K.ByteString.bytes e.0) c.in_ok-middle.behind.now)) (Some k)) (sym c.as_bytes-key.ensures.value) }

pub loop-rest-preserved : goal.loop-rest-preserved
loop-rest-preserved g c =
    let limit = limit_view c.args.limit in
    let found = go-front (λ e. g.K.ByteString.bytes e.0) limit c.loop-rest.rest.now c.split_at.result.0.now c.split_at.result.1.now c.in_ok-middle.behind.now c.in_ok-middle.middle.now
    (ap₂ (λ a b. a ++ b) c.split_at.ensures.front c.split_at.ensures.back ∙ take-append-drop (length c.loop-rest.rest.now / 2) c.loop-rest.rest.now) c.in_ok-middle.ensures.cases.0 c.loop-rest.invariant.ascending _ _
    (ap (is_before limit) (sym c.as_bytes-key.ensures.value) ∙ sym c.is_before.ensures ∙ c.if-is_before.false) c.loop-rest.invariant.last in
    record { ascending = found.0; last = found.1 }

pub split_at-requires : goal.split_at-requires
split_at-requires g c = omega arith

pub returns-in_err-middle : goal.returns-in_err-middle
returns-in_err-middle g c =
    let some = some-left c.loop-rest.rest.now c.loop-rest-test.ensures in
    absurd (omega (arith, some, c.in_err-middle.ensures.cases, c.split_at.ensures.back_len))

pub loop-rest-smaller-then-is_before : goal.loop-rest-smaller-then-is_before
loop-rest-smaller-then-is_before g c = let back = ap length c.in_ok-middle.ensures.cases.0 in omega (arith, back, c.split_at.ensures.back_len)

pub loop-rest-smaller : goal.loop-rest-smaller
loop-rest-smaller g c = let back = ap length c.in_ok-middle.ensures.cases.0 in omega (arith, back, c.split_at.ensures.back_len, c.split_at.ensures.front_len)

pub returns : goal.returns
returns g c =
    let none = none-left c.loop-rest.rest.now c.loop-rest-test.ensures in
    sym (c.loop-rest.invariant.last ∙ ap (λ es. option_or (last_key (limit_view c.args.limit) (map (λ e. g.K.ByteString.bytes e.0) es)) (option_map (λ k. k.now) c.loop-rest.last)) none)
