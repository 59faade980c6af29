use Rattle.std.proofs.Common.{◌≡◌, ◌/◌, ◌*◌, ◌^◌, ap, arith}
use Rattle.qm_model.specs.Mmr.{mmr}
use Rattle.qm_model.specs.Mmb.{mmb}
use Rattle.qm_model.specs.Grafted.{prunable_chunks}
use Rattle.qm_model.proofs.GraftedLemmas.{prunable_most}
use Rattle.qm_chunks.proofs.Waiting.{few_wait, prompt_needed, delayed_needed, mountain_needed}
use Rattle.qm_chunks.proofs.laws.few_chunks_wait.Goals as goal

pub returns-clause-every : goal.returns-clause-every
returns-clause-every g c h floor n order = few_wait g.F.Family.shape h floor n 3 (prompt_needed g.F.Family.shape g.met.F.Graftable.prompt h) order

pub returns-clause-delayed : goal.returns-clause-delayed
returns-clause-delayed g c h floor n order = few_wait mmb h floor n 2 (delayed_needed h) order

pub returns-clause-mountains : goal.returns-clause-mountains
returns-clause-mountains g c h floor n order =
    let least = few_wait mmr h floor n 0 (mountain_needed h) order in
    let most = prunable_most mmr h n (floor / 2 ^ h) in
    let all : prunable_chunks mmr h n (floor / 2 ^ h) ≡ floor / 2 ^ h = omega arith in
    ap (λ k. k * 2 ^ h) all
