-- The loop over the lines of an input: one line more, and its ends.
use Rattle.std.proofs.Common.{◌≡◌, ◌≢◌, inl, ◌≤◌, ◌<◌, ℕ, suc, ◌+◌, List, [], ◌∷◌, ◌++◌, length, length-append, take, Option, Some, None, IfSome, option_map, arith, refl, sym, ◌∙◌, ap, subst}
use Rattle.std.specs.Prelude.{IfNone, IsSome, Contains}
use Rattle.std.proofs.lemmas.List.{flat_map_more}
use Rattle.qm_model.specs.Operations.{Bytes}
use Rattle.qm_model.specs.Own.{Log, IsKept}
use Rattle.qm_model.specs.StoreModel.{Stored, end_of}
use Rattle.qm_model.specs.Batches.{Apart}
use Rattle.qm_model.proofs.Chains.{Begins-self}
use Rattle.qm_model.specs.Policies.{Policy, policies}
use Rattle.qm_machine.specs.Lines.{Line, Answer, Destroy}
use Rattle.qm_machine.specs.Machine.{State, choices_after, initial, turn, answers}
use Rattle.qm_model.specs.Schemes.{HasBounds, Scheme, engine_of}
use Rattle.qm_machine.specs.Grammar.{lines_of, line_of, commands_in}
use Rattle.qm_machine.specs.Text.{reply_line, text_of}
use Rattle.qm_machine.proofs.Relabelled.{relabelled, turn_relabelled, choices-relabelled}
use Rattle.qm_lines.specs.declared.policy.AnyPolicy.{AnyPolicy}
use Rattle.qm_lines.specs.declared.command.Command.{Command}
use Rattle.qm_lines.specs.declared.command.Command.TheVariants as commands
use Rattle.qm_lines.specs.declared.command.BatchCommand.{BatchCommand}
use Rattle.qm_lines.specs.declared.command.BatchCommand.TheVariants as batches
use Rattle.qm_lines.specs.declared.command.MakingCommand.{MakingCommand}
use Rattle.qm_lines.specs.declared.command.MakingCommand.TheVariants as makings
use Rattle.qm_lines.specs.declared.command.StagedCommand.{StagedCommand}
use Rattle.qm_lines.specs.declared.command.StagedCommand.TheVariants as stagings
use Rattle.qm_lines.specs.declared.command.ReadCommand.{ReadCommand}
use Rattle.qm_lines.specs.declared.command.ReadCommand.TheVariants as reads
use Rattle.qm_lines.specs.declared.command.InfoCommand.{InfoCommand}
use Rattle.qm_lines.specs.declared.command.InfoCommand.TheVariants as infos
use Rattle.qm_lines.specs.declared.command.StoreCommand.{StoreCommand}
use Rattle.qm_lines.specs.declared.command.StoreCommand.TheVariants as stored
use Rattle.qm_lines.specs.Policies.{policy_view, rules_of}
use Rattle.qm_lines.specs.Parsed.{byte_line}
use Rattle.qm_lines.specs.Views.{line_view}
use Rattle.qm_lines.proofs.SameWalks.{same_step, same_evicted}
use Rattle.qm_lines.proofs.Inputs.{IsAt, at_within, at_command, at_more, at_bad}
use Rattle.qm_engine.specs.Stores.{HasLog, IsLeft}
use Rattle.qm_store.specs.declared.Store as stores
use Rattle.qm_machine.specs.Sound.{IsSteady}
use Rattle.qm_offer.specs.declared.meaning.Meaning as meaning
use Rattle.qm_engine.specs.declared.answers.Ending.TheVariants as endings
use Rattle.qm_engine.specs.declared.runs.End.{End}
use Rattle.qm_engine.specs.declared.runs.End.TheVariants as ends
use Rattle.qm_engine.specs.declared.session.Session.{Session}
use Rattle.qm_engine.specs.Session.{Stands, IsChosen}
use Rattle.qm_engine.specs.Runs.{after, IsOwnStore, IsOwnLeft}
use Rattle.qm_engine.specs.Answered.{after_line, IsAnswered}
use Rattle.qm_engine.specs.Parts.{Between}
use Rattle.qm_engine.proofs.Loops.{loop_step, left_in, after_all, goes-between, own-left}
use Rattle.qm_engine.proofs.Owned.{own-of, none-left, owned}

abbrev with_line : Bytes → Answer → Bytes
with_line text answer = text ++ (reply_line answer ++ 10 ∷ [])

text_of-push : (given : List Answer) (a : Answer) → text_of (given ++ a ∷ []) ≡ with_line (text_of given) a
text_of-push given a = sym (flat_map_more (λ r. reply_line r ++ 10 ∷ []) [] given a)

-- a command as it stands, and under the definitions' policies
abbrev pub own_line : Command Bytes Bytes AnyPolicy → Line AnyPolicy
own_line = line_view (λ k. k) (λ v. v) (λ p. p)

relabelled_batch : (c : BatchCommand Bytes Bytes) → relabelled policy_view (own_line (commands.Batch c)) ≡ byte_line (commands.Batch c)
relabelled_batch batches.Batch = refl
relabelled_batch (batches.Child h keep) = refl
relabelled_batch batches.Tip = refl
relabelled_batch (batches.Put h key value) = refl
relabelled_batch (batches.Del h key) = refl

relabelled_making : (c : MakingCommand Bytes AnyPolicy) → relabelled policy_view (own_line (commands.Making c)) ≡ byte_line (commands.Making c)
relabelled_making (makings.Merkleize h policy meta) = refl
relabelled_making (makings.Apply h) = refl

relabelled_staged : (c : StagedCommand Bytes Bytes AnyPolicy) → relabelled policy_view (own_line (commands.Staged c)) ≡ byte_line (commands.Staged c)
relabelled_staged (stagings.Stage h keys) = refl
relabelled_staged (stagings.Expand h keys) = refl
relabelled_staged (stagings.Resolve h policy meta resolution) = refl

relabelled_read : (c : ReadCommand Bytes) → relabelled policy_view (own_line (commands.Read c)) ≡ byte_line (commands.Read c)
relabelled_read (reads.Get key from) = refl
relabelled_read (reads.Many keys from) = refl
relabelled_read (reads.Next key from) = refl
relabelled_read (reads.Prev key from) = refl
relabelled_read (reads.Span key) = refl
relabelled_read (reads.All key) = refl
relabelled_read (reads.Range low high) = refl
relabelled_read (reads.Keys low high) = refl

relabelled_info : (c : InfoCommand Bytes) → relabelled policy_view (own_line (commands.Info c)) ≡ byte_line (commands.Info c)
relabelled_info (infos.Ops h) = refl
relabelled_info (infos.Evicted h) = refl
relabelled_info infos.Info = refl
relabelled_info (infos.BatchInfo h) = refl
relabelled_info infos.Root = refl
relabelled_info (infos.BatchRoot h) = refl
relabelled_info (infos.BatchProof h) = refl
relabelled_info infos.Meta = refl
relabelled_info (infos.Prove size start max) = refl
relabelled_info (infos.Pins n) = refl
relabelled_info (infos.Current question) = refl

relabelled_store : (c : StoreCommand) → relabelled policy_view (own_line (commands.Store c)) ≡ byte_line (commands.Store c)
relabelled_store (stored.Open bound) = refl
relabelled_store (stored.Prune to) = refl
relabelled_store stored.Commit = refl
relabelled_store stored.Sync = refl
relabelled_store stored.Close = refl
relabelled_store stored.Destroy = refl
relabelled_store (stored.Crash keep) = refl

relabelled_line : (c : Command Bytes Bytes AnyPolicy) → relabelled policy_view (own_line c) ≡ byte_line c
relabelled_line (commands.Batch c) = relabelled_batch c
relabelled_line (commands.Making c) = relabelled_making c
relabelled_line (commands.Staged c) = relabelled_staged c
relabelled_line (commands.Read c) = relabelled_read c
relabelled_line (commands.Info c) = relabelled_info c
relabelled_line (commands.Store c) = relabelled_store c

pub same_turn : (m : Scheme) (s : State) (c : Command Bytes Bytes AnyPolicy) → turn m rules_of s (own_line c) ≡ turn m policies s (byte_line c)
same_turn m s c = turn_relabelled policy_view rules_of policies same_step same_evicted m s (own_line c) ∙ ap (turn m policies s) (relabelled_line c)

-- which takes the same of the choices to come
pub same_chosen : (c : Command Bytes Bytes AnyPolicy) (more : List ℕ) → IsChosen (own_line c) more → IsChosen (byte_line c) more
same_chosen c more chosen rest = ap (λ line. choices_after line (more ++ rest)) (sym (relabelled_line c)) ∙ (choices-relabelled policy_view (own_line c) (more ++ rest) ∙ chosen rest)

-- and destroys the store only if this does
pub same_destroy : (c : Command Bytes Bytes AnyPolicy) → own_line c ≡ Destroy → byte_line c ≡ Destroy
same_destroy c is = sym (relabelled_line c) ∙ ap (relabelled policy_view) is

-- the next line of an input
module _ (input rest line behind : Bytes) (k : ℕ) (at : IsAt input rest k) (found : lines_of rest ≡ line ∷ lines_of behind) where
  pub at_next : (o : Option (Line Policy)) → line_of line ≡ o → IsSome o → IsAt input behind (k + 1)
  at_next None e some = absurd (cc some)
  at_next (Some c) e some = at_more input rest line behind k at found c e

  -- it is a command, and the first k are not all
  pub at_short : (o : Option (Line Policy)) → line_of line ≡ o → IsSome o → k < length (commands_in input)
  at_short None e some = absurd (cc some)
  at_short (Some c) e some = at_within input rest line behind k at found c e

  -- one that destroys the store is among the commands
  pub at_destroy : line_of line ≡ Some Destroy → Contains (commands_in input) Destroy
  at_destroy is = (k, at_within input rest line behind k at found Destroy is, sym (at_command input rest line behind k at found Destroy is))

  module _ (m : Scheme) (log : Log) (choices : List ℕ) where
    -- it was answered
    pub line_step : (o : Option (Line Policy)) → line_of line ≡ o → IsSome o → (old new : Bytes) (Before After : State → Type 0)
        → (Apart m.root (after m policies log choices (commands_in input) k).had → (old ≡ text_of (answers m policies (initial log choices) (take k (commands_in input)))) × Before (after m policies log choices (commands_in input) k))
        → ((s : State) → Before s → IfSome o (λ c. Apart m.root ((turn m policies s c).1).had → (new ≡ with_line old (turn m policies s c).0) × After (turn m policies s c).1))
        → Apart m.root (after m policies log choices (commands_in input) (k + 1)).had → (new ≡ text_of (answers m policies (initial log choices) (take (k + 1) (commands_in input)))) × After (after m policies log choices (commands_in input) (k + 1))
    line_step None e some old new Before After so_far one = absurd (cc some)
    line_step (Some c) e some old new Before After so_far one =
        loop_step m policies (initial log choices) (commands_in input) text_of with_line text_of-push k c old new Before After
        (at_within input rest line behind k at found c e) (at_command input rest line behind k at found c e) so_far one

    -- what is left if the loop ended at it
    line_left : (o : Option (Line Policy)) → line_of line ≡ o → (left : Option Stored) (Before : State → Type 0)
        → (Apart m.root (after m policies log choices (commands_in input) k).had → Before (after m policies log choices (commands_in input) k))
        → ((s : State) → Before s → Apart m.root s.had → IsOwnLeft m policies left s.log (after_line m policies s o).log)
        → Apart m.root (after m policies log choices (commands_in input) k).had → IsOwnLeft m policies left (after m policies log choices (commands_in input) k).log (after m policies log choices (commands_in input) (suc k)).log
    line_left None e left Before so_far leaves = λ apart.
        let s : State = after m policies log choices (commands_in input) k in
        subst (IsOwnLeft m policies left s.log) (sym (after_all m policies (initial log choices) (commands_in input) k (omega (arith, (at_bad input rest line behind k at found e).0)))) (leaves s (so_far apart) apart)
    line_left (Some c) e left Before so_far leaves =
        left_in m policies (initial log choices) (commands_in input) k c left Before (at_within input rest line behind k at found c e) (at_command input rest line behind k at found c e) so_far leaves

    -- what is left if all commands were answered before it
    line_whole : (o : Option (Line Policy)) → line_of line ≡ o → (left : Option Stored) (Before : State → Type 0)
        → (Apart m.root (after m policies log choices (commands_in input) k).had → Before (after m policies log choices (commands_in input) k))
        → ((s : State) → Before s → o ≡ None → IsOwnStore m policies left s.log)
        → k ≡ length (commands_in input) → Apart m.root (after m policies log choices (commands_in input) k).had → IsOwnStore m policies left (after m policies log choices (commands_in input) k).log
    line_whole None e left Before so_far stays all = λ apart. stays (after m policies log choices (commands_in input) k) (so_far apart) refl
    line_whole (Some c) e left Before so_far stays all = let short = at_within input rest line behind k at found c e in absurd (omega (arith, short, all))

    -- the loop ended at it
    pub answered_in : (text : Bytes) (left : Option Stored) (Before : State → Type 0)
        → (Apart m.root (after m policies log choices (commands_in input) k).had → (text ≡ text_of (answers m policies (initial log choices) (take k (commands_in input)))) × Before (after m policies log choices (commands_in input) k))
        → ((s : State) → Before s → line_of line ≡ None → IsOwnStore m policies left s.log)
        → ((s : State) → Before s → Apart m.root s.had → IsOwnLeft m policies left s.log (after_line m policies s (line_of line)).log)
        → IsAnswered m policies log choices (commands_in input) k text left
    answered_in text left Before so_far stays leaves = record {
      few = at.few;
      same = λ apart. (so_far apart).0;
      whole = line_whole (line_of line) refl left Before (λ apart. (so_far apart).1) stays;
      left = line_left (line_of line) refl left Before (λ apart. (so_far apart).1) leaves;
    }

-- the loop ended after the last line, or before the first
pub answered_at : (m : Scheme) (log : Log) (choices : List ℕ) (input : Bytes) (k : ℕ) (text : Bytes) (left : Option Stored) → k ≤ length (commands_in input)
    → (Apart m.root (after m policies log choices (commands_in input) k).had → (text ≡ text_of (answers m policies (initial log choices) (take k (commands_in input)))) × HasLog m left (after m policies log choices (commands_in input) k).log × IsKept (engine_of m policies) (after m policies log choices (commands_in input) k).log)
    → IsAnswered m policies log choices (commands_in input) k text left
answered_at m log choices input k text left few so_far = record {
  few = few;
  same = λ apart. (so_far apart).0;
  whole = λ all apart. own-of m policies left _ (so_far apart).1 (so_far apart).2;
  left = λ apart. none-left m policies left (after m policies log choices (commands_in input) k).log (after m policies log choices (commands_in input) (suc k)).log (so_far apart).1 (so_far apart).2;
}

-- between two lines of a sound run: the next one was answered
pub line_goes : {X C B S M : Type 0} (members : stores.Ghosts C) (means : meaning.Ghosts X C B S M) → HasBounds means.scheme → (old new : Session X C B S M) (more rest : List ℕ) (before text : Bytes) (o : Option (Line Policy)) → IfSome o (λ c. IsChosen c more)
    → ((s : State) → Stands members means old s → IsSteady means.scheme s → s.choices ≡ more ++ rest → IfSome o (λ c. Apart means.scheme.root ((turn means.scheme policies s c).1).had → (text ≡ with_line before (turn means.scheme policies s c).0) × Stands members means new (turn means.scheme policies s c).1))
    → (s : State) → Between members means policies old (more ++ rest) s → IfSome o (λ c. Apart means.scheme.root ((turn means.scheme policies s c).1).had → (text ≡ with_line before (turn means.scheme policies s c).0) × Between members means policies new rest (turn means.scheme policies s c).1)
line_goes members means bounds old new more rest before text None chosen did s between = tt
line_goes members means bounds old new more rest before text (Some c) chosen did s between =
    goes-between members means policies bounds old new more rest c (λ s. text ≡ with_line before (turn means.scheme policies s c).0) chosen did s between

-- between two lines of a sound run: what the next one may leave is a store that databases leave
pub line-own : {X C B S M : Type 0} (members : stores.Ghosts C) (means : meaning.Ghosts X C B S M) → HasBounds means.scheme → (session : Session X C B S M) (rest : List ℕ) (o : Option (Line Policy)) (left : Option Stored) (s : State) → IfSome left (λ t. t.stable ≤ end_of t)
    → Between members means policies session rest s → Apart means.scheme.root s.had → IsLeft means.scheme left s.log (after_line means.scheme policies s o).log → IsOwnLeft means.scheme policies left s.log (after_line means.scheme policies s o).log
line-own members means bounds session rest None left s stable between apart is = owned means.scheme policies s.log s.log between.sound.kept between.sound.kept (inl (Begins-self s.log.list)) left stable is
line-own members means bounds session rest (Some line) left s stable between apart is = own-left members means policies bounds session rest line left s stable between apart is

-- what holds, if there is none; and what follows, if there is one
pub none-any : {X : Type 0} (o : Option X) {P : Type 0} → P → IfNone o P
none-any None p = p
none-any (Some x) p = tt

pub none-then : {X P Q : Type 0} (o : Option X) → (P → Q) → IfNone o P → IfNone o Q
none-then None next p = next p
none-then (Some x) next p = tt

pub some-then : {X : Type 0} (o : Option X) {P Q : X → Type 0} → IfSome o P → ((x : X) → P x → Q x) → IfSome o Q
some-then None p next = tt
some-then (Some x) p next = next x p

-- endings, each of which is no other
pub memory_cause : (endings.Memory ≢ endings.Done) × (endings.Memory ≢ endings.BadLine)
memory_cause = (λ e. absurd (cc e), λ e. absurd (cc e))

pub fault_cause : (endings.StoreFault ≢ endings.Done) × (endings.StoreFault ≢ endings.BadLine)
fault_cause = (λ e. absurd (cc e), λ e. absurd (cc e))

pub bad-not_done : endings.BadLine ≢ endings.Done
bad-not_done e = cc

pub bad-no_fault : Some endings.BadLine ≢ Some endings.StoreFault
bad-no_fault e = cc

pub memory-no_fault : Some endings.Memory ≢ Some endings.StoreFault
memory-no_fault e = cc

pub memory-not_bad : Some endings.Memory ≢ Some endings.BadLine
memory-not_bad e = cc

pub none-not_some : {X : Type 0} (x : X) → None ≢ Some x
none-not_some x e = cc

pub end-memory_not_done : ends.Memory ≢ ends.Done
end-memory_not_done e = cc

pub end-fault_not_done : ends.StoreFault ≢ ends.Done
end-fault_not_done e = cc

-- a run whose end is none of the others is done
pub is-done : (e : End) → (e ≢ ends.Done → ⊥) → e ≡ ends.Done
is-done ends.Done not_other = refl
is-done ends.Memory not_other = absurd (not_other end-memory_not_done)
is-done ends.StoreFault not_other = absurd (not_other end-fault_not_done)

pub end-memory_no_fault : Some ends.Memory ≢ Some ends.StoreFault
end-memory_no_fault e = cc

pub memory-not_fault : endings.Memory ≢ endings.StoreFault
memory-not_fault e = cc

pub done-not_bad : endings.Done ≢ endings.BadLine
done-not_bad e = cc

pub done-not_fault : endings.Done ≢ endings.StoreFault
done-not_fault e = cc

pub end-memory_not_fault : ends.Memory ≢ ends.StoreFault
end-memory_not_fault e = cc

pub end-done_not_fault : ends.Done ≢ ends.StoreFault
end-done_not_fault e = cc

-- one more at most
pub one_at_most : (n : ℕ) → n ≤ n + 1
one_at_most n = omega arith

-- the command that a line is
pub line_is : {o : Option (Command Bytes Bytes AnyPolicy)} {c : Command Bytes Bytes AnyPolicy} {line : Option (Line Policy)} → o ≡ Some c → option_map byte_line o ≡ line → Some (byte_line c) ≡ line
line_is {line = line} is told = subst (λ o. option_map byte_line o ≡ line) is told

pub one_longer : {A : Type 0} {new : List A} (old : List A) (x : A) → new ≡ old ++ x ∷ [] → length new ≡ length old + 1
one_longer old x is = ap length is ∙ length-append old (x ∷ [])
