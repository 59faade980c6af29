use Rattle.std.proofs.Common.{map}
use Rattle.std.specs.Map.{keys_of}
use Rattle.qm_index.proofs.Neighbours.{stood-same, nearest-next, nearest-prev, least-first}
use Rattle.qm_index.proofs.laws.neighbours_have_the_nearest_keys.Goals as goal

pub returns-clause-next : goal.returns-clause-next
returns-clause-next g c index_key entries elements key monotone is stands bytes =
    nearest-next index_key (map (λ e. e.0) elements) (keys_of entries) (stood-same index_key (λ e. e.0) (λ e. e.1) entries elements is stands) monotone key bytes

pub returns-clause-prev : goal.returns-clause-prev
returns-clause-prev g c index_key entries elements key monotone is stands bytes =
    nearest-prev index_key (map (λ e. e.0) elements) (keys_of entries) (stood-same index_key (λ e. e.0) (λ e. e.1) entries elements is stands) monotone key bytes

pub returns-clause-first : goal.returns-clause-first
returns-clause-first g c index_key entries elements monotone is stands bytes =
    least-first index_key (map (λ e. e.0) elements) (keys_of entries) (stood-same index_key (λ e. e.0) (λ e. e.1) entries elements is stands) monotone bytes
