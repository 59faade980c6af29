-- What a round leads to.
use Rattle.std.proofs.Common.{ℕ, zero, suc, List, refl, sym, ◌∙◌, subst, arith}
use Rattle.std.specs.Prelude.{slice_index_or}
use Rattle.qm_crew.specs.Turned.{AreTurned, Leads}

-- what turns keep, and answers, a round keeps
pub leads-keep : {W : Type 0} (turns tells : W → W → Type 0) (P : W → Type 0) → ((a b : W) → turns a b → P a → P b) → ((a b : W) → tells a b → P a → P b)
    → (n : ℕ) (old new : W) → Leads turns tells n old new → P old → P new
leads-keep turns tells P turn tell zero old new same holds = subst P (sym same) holds
leads-keep turns tells P turn tell (suc n) old new (turned, told, t, a, rest) holds = leads-keep turns tells P turn tell n told new rest (tell turned told a (turn old turned t holds))

-- by answers that may tell more
pub leads-wider : {W : Type 0} (turns tells more : W → W → Type 0) → ((a b : W) → tells a b → more a b) → (n : ℕ) (old new : W) → Leads turns tells n old new → Leads turns more n old new
leads-wider turns tells more wider zero old new same = same
leads-wider turns tells more wider (suc n) old new (turned, told, t, a, rest) = (turned, told, t, wider turned told a, leads-wider turns tells more wider n told new rest)

-- one turn more, with its answer
pub leads-push : {W : Type 0} (turns tells : W → W → Type 0) (n : ℕ) (old new turned told : W) → Leads turns tells n old new → turns new turned → tells turned told → Leads turns tells (suc n) old told
leads-push turns tells zero old new turned told same t a = (turned, told, subst (λ w. turns w turned) same t, a, refl)
leads-push turns tells (suc n) old new turned told (u, v, first, answer, rest) t a = (u, v, first, answer, leads-push turns tells n v new turned told rest t a)

-- no turn yet
pub crew-begun : {W : Type 0} (turns tells : W → W → Type 0) (crew : List W) → AreTurned (Leads turns tells 0) crew crew
crew-begun turns tells crew = record { long = refl; each = λ i d below. refl }

-- the same of a crew
pub crew-push : {W : Type 0} (turns tells : W → W → Type 0) (n : ℕ) (old new turned told : List W)
    → AreTurned (Leads turns tells n) old new → AreTurned turns new turned → AreTurned tells turned told → AreTurned (Leads turns tells (suc n)) old told
crew-push turns tells n old new turned told led t a =
    let l = led.long in
    let m = t.long in
    let k = a.long in
    record {
      long = k ∙ (m ∙ l);
      each = λ i d below. leads-push turns tells n (slice_index_or old i d) (slice_index_or new i d) (slice_index_or turned i d) (slice_index_or told i d)
          (led.each i d below) (t.each i d (omega (arith, below, l))) (a.each i d (omega (arith, below, l, m)));
    }
