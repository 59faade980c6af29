use Rattle.std.proofs.Common.{rules}
use Rattle.qm_crew.proofs.Unions.{same_places}
use Rattle.qm_crew.proofs.crew.mark_all.Goals as goal

pub returns : goal.returns
returns g c = record {
  long = search rules;
  done = search rules;
  same = same_places c.args.crew.now c.for_each_mut.new.s (search rules) (λ i d below. search rules);
}
