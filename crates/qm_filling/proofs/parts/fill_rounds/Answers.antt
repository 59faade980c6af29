use Rattle.std.proofs.Common.{◌≡◌, ◌+◌, ◌-◌, ℕ, length, map, Ok, Err, arith, sym, ◌∙◌, ap, subst}
use Rattle.std.proofs.lemmas.List.{length-map}
use Rattle.qm_lines.specs.Parsed.{byte_line}
use Rattle.qm_fill.specs.Commands.{Progress, round, rounds}
use Rattle.qm_fill.proofs.Parts.{rounds-more}
use Rattle.qm_engine.specs.declared.runs.End.TheVariants as ends
use Rattle.qm_filling.specs.Filled.{Fills}
use Rattle.qm_filling.proofs.Parted.{rounds-rest, round-length}
use Rattle.qm_filling.proofs.Joined.{nothing, joined, ended, gave_up}
use Rattle.qm_filling.proofs.parts.fill_rounds.Goals as goal

pub loop-round-init : goal.loop-round-init
loop-round-init g c = record {
  seed = ap (λ (r : Progress). r.seed) c.new-rounds.ensures;
  given = ap (λ (r : Progress). r.given) c.new-rounds.ensures;
  so_far = nothing g.C.Store g.X.Meaning c.args.session c.args.tally;
}

pub returns-in_default : goal.returns-in_default
returns-in_default g c =
    let seed : ℕ = c.args.fill.seed in
    let i : ℕ = c.loop-round._round in
    let behind = rounds-rest seed i (c.args.fill.rounds - i) in
    let all : i + (c.args.fill.rounds - i) ≡ c.args.fill.rounds = omega (arith, c.loop-round-test.true) in
    subst (λ ls. Fills g.C.Store g.X.Meaning ls c.args.session c.args.tally c.loop-round.session (Err ends.Memory)) (sym behind.1 ∙ ap (rounds seed) all)
    (gave_up g.C.Store g.X.Meaning (rounds seed i) behind.0 c.args.session c.loop-round.session c.loop-round.session c.args.tally c.loop-round.tally c.loop-round.invariant.so_far)

pub fill_part-next-requires-clause-opened : goal.fill_part-next-requires-clause-opened
fill_part-next-requires-clause-opened g c =
    let seed : ℕ = c.args.fill.seed in
    let i : ℕ = c.loop-round._round in
    let here : map byte_line c.deref.result.now ≡ round seed (i + 1) = rw (c.loop-round.invariant.seed, c.loop-round.invariant.given) at (ap (map byte_line) c.deref.ensures.value ∙ c.in-Ok.ensures.round) in
    let few : length c.deref.result.now ≡ length (round seed (i + 1)) = sym (length-map c.deref.result.now byte_line) ∙ ap length here in
    omega (arith, few, round-length seed i, c.loop-round.invariant.so_far.opened, c.requires.opened, c.loop-round-test.true)

pub fill_part-next-requires-clause-counted : goal.fill_part-next-requires-clause-counted
fill_part-next-requires-clause-counted g c =
    let seed : ℕ = c.args.fill.seed in
    let i : ℕ = c.loop-round._round in
    let here : map byte_line c.deref.result.now ≡ round seed (i + 1) = rw (c.loop-round.invariant.seed, c.loop-round.invariant.given) at (ap (map byte_line) c.deref.ensures.value ∙ c.in-Ok.ensures.round) in
    let few : length c.deref.result.now ≡ length (round seed (i + 1)) = sym (length-map c.deref.result.now byte_line) ∙ ap length here in
    omega (arith, few, round-length seed i, c.loop-round.invariant.so_far.counted, c.requires.counted, c.loop-round-test.true)

pub returns-in-Err : goal.returns-in-Err
returns-in-Err g c =
    let seed : ℕ = c.args.fill.seed in
    let i : ℕ = c.loop-round._round in
    let here : map byte_line c.deref.result.now ≡ round seed (i + 1) = rw (c.loop-round.invariant.seed, c.loop-round.invariant.given) at (ap (map byte_line) c.deref.ensures.value ∙ c.in-Ok.ensures.round) in
    let part = subst (λ r. Fills g.C.Store g.X.Meaning (round seed (i + 1)) c.loop-round.session c.loop-round.tally c.fill_part-next.result.0 r) c.in-Err.is
    (subst (λ ls. Fills g.C.Store g.X.Meaning ls c.loop-round.session c.loop-round.tally c.fill_part-next.result.0 c.fill_part-next.result.1) here c.fill_part-next.ensures) in
    let more = subst (λ ls. Fills g.C.Store g.X.Meaning ls c.args.session c.args.tally c.fill_part-next.result.0 (Err c.in-Err.end)) (sym (rounds-more seed i))
    (joined g.C.Store g.X.Meaning (rounds seed i) (round seed (i + 1)) c.args.session c.loop-round.session c.fill_part-next.result.0 c.args.tally c.loop-round.tally (Err c.in-Err.end) c.loop-round.invariant.so_far part) in
    let behind = rounds-rest seed (i + 1) (c.args.fill.rounds - (i + 1)) in
    let all : i + 1 + (c.args.fill.rounds - (i + 1)) ≡ c.args.fill.rounds = omega (arith, c.loop-round-test.true) in
    subst (λ ls. Fills g.C.Store g.X.Meaning ls c.args.session c.args.tally c.fill_part-next.result.0 (Err c.in-Err.end)) (sym behind.1 ∙ ap (rounds seed) all)
    (ended g.C.Store g.X.Meaning (rounds seed (i + 1)) behind.0 c.args.session c.fill_part-next.result.0 c.fill_part-next.result.0 c.args.tally c.in-Err.end more)

pub loop-round-preserved : goal.loop-round-preserved
loop-round-preserved g c =
    let seed : ℕ = c.args.fill.seed in
    let i : ℕ = c.loop-round._round in
    let here : map byte_line c.deref.result.now ≡ round seed (i + 1) = rw (c.loop-round.invariant.seed, c.loop-round.invariant.given) at (ap (map byte_line) c.deref.ensures.value ∙ c.in-Ok.ensures.round) in
    let part = subst (λ r. Fills g.C.Store g.X.Meaning (round seed (i + 1)) c.loop-round.session c.loop-round.tally c.fill_part-next.result.0 r) c.in-Ok-counted.is
    (subst (λ ls. Fills g.C.Store g.X.Meaning ls c.loop-round.session c.loop-round.tally c.fill_part-next.result.0 c.fill_part-next.result.1) here c.fill_part-next.ensures) in
    record {
      seed = ap (λ (r : Progress). r.seed) c.in-Ok.ensures.moved ∙ c.loop-round.invariant.seed;
      given = ap (λ (r : Progress). r.given) c.in-Ok.ensures.moved ∙ ap (λ n. n + 1) c.loop-round.invariant.given;
      so_far = subst (λ ls. Fills g.C.Store g.X.Meaning ls c.args.session c.args.tally c.fill_part-next.result.0 (Ok c.in-Ok-counted.tally)) (sym (rounds-more seed i))
          (joined g.C.Store g.X.Meaning (rounds seed i) (round seed (i + 1)) c.args.session c.loop-round.session c.fill_part-next.result.0 c.args.tally c.loop-round.tally (Ok c.in-Ok-counted.tally) c.loop-round.invariant.so_far part);
    }

pub returns : goal.returns
returns g c =
    let all : c.loop-round._round ≡ c.args.fill.rounds = omega (arith, c.loop-round-test.false, c.loop-round.auto._round-end) in
    subst (λ n. Fills g.C.Store g.X.Meaning (rounds c.args.fill.seed n) c.args.session c.args.tally c.loop-round.session (Ok c.loop-round.tally)) all c.loop-round.invariant.so_far
