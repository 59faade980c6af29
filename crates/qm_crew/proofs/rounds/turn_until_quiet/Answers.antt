use Rattle.std.proofs.Common.{suc, arith, ◌∙◌}
use Rattle.qm_crew.proofs.Lefts.{sum_by-turned}
use Rattle.qm_crew.proofs.Leading.{crew-push}
use Rattle.qm_crew.proofs.rounds.turn_until_quiet.Goals as goal

pub loop-smaller : goal.loop-smaller
loop-smaller g c =
    let turned = sum_by-turned g.A.Answers.left g.T.Runs.turns c.requires.turns c.loop.crew c.run.new.crew c.run.ensures.turned in
    let told = c.in_ok-answer_all.ensures.less c.if-not-branch.false in
    omega (arith, turned, told)

pub loop-preserved : goal.loop-preserved
loop-preserved g c =
    let i = c.loop.invariant in
    let turned = c.run.ensures.turned in
    let told = c.in_ok-answer_all.ensures.told in (
      c.run.ensures.ready,
      told.long ∙ (turned.long ∙ i.1),
      g.met.A.Answers.leaves_on _ _ _ i.2 c.in_ok-answer_all.ensures.leaves,
      (suc i.3.0, crew-push _ _ _ _ _ _ _ i.3.1 turned (record { long = told.long; each = λ k d below. g.met.A.Answers.tells_on _ _ _ _ i.2 (told.each k d below) })),
    )

pub returns-then-not-branch-clause-round : goal.returns-then-not-branch-clause-round
returns-then-not-branch-clause-round g c =
    let i = c.loop.invariant in
    let told = c.in_ok-answer_all.ensures.told in
    record { more = i.3.0; led = crew-push _ _ _ _ _ _ _ i.3.1 c.run.ensures.turned (record { long = told.long; each = λ k d below. g.met.A.Answers.tells_on _ _ _ _ i.2 (told.each k d below) }) }
