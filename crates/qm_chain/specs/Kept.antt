-- Policies that write each value, or stop at each.
use Rattle.std.specs.Prelude.{◌≡◌, ℕ, false, refl}
use Rattle.qm_model.specs.Operations.{Bytes}
use Rattle.qm_model.specs.Walk.{Limits, write, stop, evict}
use Rattle.qm_chain.specs.Policies.{Keeps}

write-evict : (value : Bytes) → write value ≡ evict → ⊥
write-evict value h = cc

stop-evict : stop ≡ evict → ⊥
stop-evict h = cc

pub keeping : {P : Type 0} (limits : P → ℕ → Limits) (p : P) (location remaining : ℕ) (key value : Bytes) → false ≡ false →
    Keeps (record { limits = limits; decide = λ p location remaining key value. (write value, p) }) (λ _. false) p location remaining key value
keeping limits p location remaining key value calm = record { not_evicted = write-evict value; kept = refl }

pub stopping : {P : Type 0} (limits : P → ℕ → Limits) (p : P) (location remaining : ℕ) (key value : Bytes) → false ≡ false →
    Keeps (record { limits = limits; decide = λ p location remaining key value. (stop, p) }) (λ _. false) p location remaining key value
stopping limits p location remaining key value calm = record { not_evicted = stop-evict; kept = refl }
