use Rattle.qm_model.proofs.OrderedLists.{contains-once}
use Rattle.qm_model.proofs.KeySorts.{by_key-sorted_by, by_key-permutation, once-distinct, by_key-sorted, rising-by_key}
use Rattle.qm_model.proofs.laws.keys_are_sorted_once.Goals as goal

pub returns-clause-sorted : goal.returns-clause-sorted
returns-clause-sorted c keys = by_key-sorted_by keys

pub returns-clause-moved : goal.returns-clause-moved
returns-clause-moved c keys = by_key-permutation keys

pub returns-clause-differ : goal.returns-clause-differ
returns-clause-differ c keys = once-distinct keys

pub returns-clause-same : goal.returns-clause-same
returns-clause-same c keys key = contains-once keys key

pub returns-clause-rise : goal.returns-clause-rise
returns-clause-rise c keys distinct = by_key-sorted keys distinct

pub returns-clause-known : goal.returns-clause-known
returns-clause-known c xs keys up same = rising-by_key xs keys up same
