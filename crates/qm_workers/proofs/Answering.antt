-- An answer by a log that was read before.
use Rattle.std.proofs.Common.{◌≡◌, ◌≤◌, ◌<◌, ℕ, false, List, length, get_or, refl, arith, ap, sym, ◌∙◌, subst, Option, Some, None}
use Rattle.std.specs.Prelude.{IfSome, All}
use Rattle.qm_crew.specs.Turned.{AreTurned, Turns}
use Rattle.qm_model.specs.Operations.{Bytes}
use Rattle.qm_model.specs.Forms.{Form}
use Rattle.qm_model.specs.StoreModel.{Stored}
use Rattle.qm_model.specs.Trees.{Shape}
use Rattle.qm_store.specs.declared.Store as store
use Rattle.qm_store.specs.Log.{Log}
use Rattle.qm_build.specs.Reads.{Spells, KeepsLog, IsUndecoded}
use Rattle.qm_build.proofs.Decoding.{each}
use Rattle.std.proofs.lemmas.Option.{IfSome_then}
use Rattle.qm_workers.specs.Working.{Work, DoneStays, Goes, MayTurn, IsWithin, left_of, asked}
use Rattle.qm_workers.specs.Answering.{IsAnswered, HasWorked, IsThrough}

module _ {C D : Type 0} (members : store.Ghosts C) (shape : Shape) (bytes : D → Bytes) (hash : Bytes → Bytes) (form : Form) where
  pub answered-before : (index_key : Bytes → ℕ) (a b : Log C D) (old new : Work) → KeepsLog members shape bytes hash a b → IsAnswered members form index_key b old new → IsAnswered members form index_key a old new
  answered-before index_key a b old new read answered = record {
    done = λ ops from size within.
        let leaves : b.tree.leaves ≡ a.tree.leaves = ap (λ t. t.leaves) read.tree in
        subst (λ o. IfSome o (λ s. Spells form s from ops → DoneStays index_key ops old new)) read.kept.told
        (answered.done ops from (leaves ∙ size) (subst (λ n. IsWithin from n old) (sym leaves) within));
    within = answered.within;
    failed = answered.failed;
    coming = answered.coming;
  }

  -- an item that spells no operation is one of the log that was read before
  pub undecoded-before : (a b : Log C D) (E : Type 0) (Here Before : ℕ → Type 0) → KeepsLog members shape bytes hash a b
      → IfSome (members.told b.store) (λ s. E → (from : ℕ) → Here from → (at : ℕ) × (from ≤ at) × (at < b.tree.leaves) × IsUndecoded form s at)
      → ((from : ℕ) → Before from → Here from)
      → IfSome (members.told a.store) (λ s. E → (from : ℕ) → Before from → (at : ℕ) × (from ≤ at) × (at < a.tree.leaves) × IsUndecoded form s at)
  undecoded-before a b E Here Before read lost one = IfSome_then (members.told a.store) (subst (λ o. IfSome o (λ s. E → (from : ℕ) → Here from → (at : ℕ) × (from ≤ at) × (at < b.tree.leaves) × IsUndecoded form s at)) read.kept.told lost) (λ s found is from before.
      let one_is = found is from (one from before) in
      let leaves : b.tree.leaves ≡ a.tree.leaves = ap (λ t. t.leaves) read.tree in
      (one_is.0, one_is.1, subst (λ n. one_is.0 < n) leaves one_is.2, one_is.3))

module _ {C D : Type 0} (members : store.Ghosts C) (form : Form) (index_key : Bytes → ℕ) (log : Log C D) where
  pub worked-same : (a : Work) → HasWorked members form index_key log a a
  worked-same a = record {
    failed = λ no_more. no_more;
    within = λ no_more from to within. within;
    done = λ no_more ops from size within. each (members.told log.store) (λ s spells final most bound has. has);
  }

  -- a turn more
  pub worked-turn : (a b c : Work) → HasWorked members form index_key log a b → Goes index_key b c → HasWorked members form index_key log a c
  worked-turn a b c worked goes = record {
    failed = λ no_more. worked.failed (goes.failed no_more);
    within = λ no_more from to within. goes.within no_more from to (worked.within (goes.failed no_more) from to within);
    done = λ no_more ops from size within. IfSome_then (members.told log.store) (worked.done (goes.failed no_more) ops from size within) (λ s before spells final most bound has.
        goes.done no_more ops final most bound (before spells final most bound has));
  }

  -- and an answer
  pub worked-answer : (a b c : Work) → HasWorked members form index_key log a b → IsAnswered members form index_key log b c → HasWorked members form index_key log a c
  worked-answer a b c worked told = record {
    failed = λ no_more. worked.failed (sym told.failed ∙ no_more);
    within = λ no_more from to within. told.within from to (worked.within (sym told.failed ∙ no_more) from to within);
    done = λ no_more ops from size within.
        both-told (members.told log.store) (worked.done (sym told.failed ∙ no_more) ops from size within) (told.done ops from size (worked.within (sym told.failed ∙ no_more) from log.tree.leaves within)) (λ s before after spells final most bound has.
        after spells final most (before spells final most bound has));
  }
    where
      both-told : {P Q R : Stored → Type 0} (o : Option Stored) → IfSome o P → IfSome o Q → ((s : Stored) → P s → Q s → R s) → IfSome o R
      both-told None p q f = tt
      both-told (Some s) p q f = f s p q

-- A crew of such workers.
module _ {C D W : Type 0} (members : store.Ghosts C) (form : Form) (index_key : Bytes → ℕ) (log : Log C D) (view : W → Work) where
  abbrev pub AreWorked : List W → List W → Type 0
  AreWorked = AreTurned (λ a b. HasWorked members form index_key log (view a) (view b))

  pub crew-same : (crew : List W) → AreWorked crew crew
  crew-same crew = record { long = refl; each = λ j d below. worked-same members form index_key log (view (get_or crew j d)) }

  pub crew-turned : (turns : W → W → Type 0) → ((a b : W) → turns a b → Turns (λ w. left_of index_key (view w)) (λ x y. MayTurn index_key (view x) (view y)) a b)
      → (first crew run : List W) → AreWorked first crew → AreTurned turns crew run → AreWorked first run
  crew-turned turns law first crew run worked turned =
      let long = worked.long in
      record {
        long = turned.long ∙ long;
        each = λ j d below. worked-turn members form index_key log (view (get_or first j d)) (view (get_or crew j d)) (view (get_or run j d)) (worked.each j d below)
            ((law (get_or crew j d) (get_or run j d) (turned.each j d (omega (arith, below, long)))).may).goes;
      }

  pub crew-told : (first run told : List W) → AreWorked first run → AreTurned (λ a b. IsAnswered members form index_key log (view a) (view b)) run told → AreWorked first told
  crew-told first run told worked answered =
      let long = worked.long in
      record {
        long = answered.long ∙ long;
        each = λ j d below. worked-answer members form index_key log (view (get_or first j d)) (view (get_or run j d)) (view (get_or told j d)) (worked.each j d below) (answered.each j d (omega (arith, below, long)));
      }

  pub crew-within : (first run : List W) → AreWorked first run → All (λ w. (view w).failed ≡ false) run → (from to : ℕ) → All (λ w. IsWithin from to (view w)) first → All (λ w. IsWithin from to (view w)) run
  crew-within first run worked none from to within j d below =
      let long = worked.long in
      let inside : j < length first = omega (arith, below, long) in
      (worked.each j d inside).within (none j d below) from to (within j d inside)

  -- nobody asked, so all are through
  pub crew-through : (turns : W → W → Type 0) → ((a b : W) → turns a b → Turns (λ w. left_of index_key (view w)) (λ x y. MayTurn index_key (view x) (view y)) a b)
      → (crew run told : List W) → AreTurned turns crew run → AreTurned (λ a b. IsAnswered members form index_key log (view a) (view b)) run told
      → All (λ w. (view w).failed ≡ false) run → All (λ w. asked index_key (view w) ≡ None) run → All (λ w. IsThrough (view w)) told
  crew-through turns law crew run told turned answered none quiet j d below =
      let long = answered.long in
      let longer = turned.long in
      let inside : j < length run = omega (arith, below, long) in
      let one = answered.each j d inside in
      record {
        failed = one.failed ∙ none j d inside;
        coming = one.coming ∙ (law (get_or crew j d) (get_or run j d) (turned.each j d (omega (arith, inside, longer)))).may.quiet (quiet j d inside);
      }
