-- What runs do under the policies that lines name they do under those of the definitions, each of which is one of these.
use Rattle.std.proofs.Common.{◌≡◌, List, [], ◌∷◌, length, map, Option, Some, None, refl, sym, ◌∙◌, ap, subst}
use Rattle.std.specs.Prelude.{◌≤◌, ◌^◌, option_map}
use Rattle.qm_model.specs.Operations.{Bytes, Operation}
use Rattle.qm_model.specs.Writes.{Write}
use Rattle.qm_model.specs.Policies.{Policy, policies, proportional, hold, bounded, rule}
use Rattle.qm_model.specs.Walk.{Rules}
use Rattle.qm_model.specs.Step.{Kind, Made, first, next, step}
use Rattle.qm_model.specs.Own.{Log, IsKept}
use Rattle.qm_model.specs.Own as own
use Rattle.qm_model.specs.Opening.{Chunks}
use Rattle.qm_model.specs.StoreModel.{Stored}
use Rattle.qm_model.specs.Schemes.{Scheme, chunks_of, engine_of, kind_of}
use Rattle.qm_machine.specs.Lines.{Answer}
use Rattle.qm_machine.specs.Machine.{State, turn, answers, state_after}
use Rattle.qm_lines.specs.declared.command.Command.{Command}
use Rattle.qm_lines.specs.declared.policy.AnyPolicy.{AnyPolicy}
use Rattle.qm_lines.specs.declared.policy.AnyPolicy.TheVariants.{Proportional, Hold, Bounded, Rule}
use Rattle.qm_lines.specs.Policies.{policy_view, rules_of}
use Rattle.qm_lines.specs.Parsed.{byte_line}
use Rattle.qm_lines.proofs.SameWalks.{same_step}
use Rattle.qm_engine.specs.Runs.{IsOwnLeft}
use Rattle.qm_engine.proofs.Answerings.{own_line, same_turn}
use Rattle.qm_engine.proofs.Owned.{own-of}

-- the policy of a line that is this one
abbrev named : Policy → AnyPolicy
named proportional = Proportional (record {})
named hold = Hold (record {})
named (bounded entries skips) = Bounded (record { entries = entries; skips = skips })
named (rule entries skips drops stops swap spare) = Rule (record { entries = entries; skips = skips; drop = drops; stop = stops; swap = swap; spare = spare })

same_option : (o : Option Bytes) → option_map (λ v. v) o ≡ o
same_option None = refl
same_option (Some v) = refl

same_swap : (o : Option (Bytes × Bytes)) → option_map (λ (p : Bytes × Bytes). (p.0, p.1)) o ≡ o
same_swap None = refl
same_swap (Some (a, b)) = refl

named-is : (p : Policy) → policy_view (named p) ≡ p
named-is proportional = refl
named-is hold = refl
named-is (bounded entries skips) = refl
named-is (rule entries skips drops stops swap spare) =
    ap (λ d. rule entries skips d (option_map (λ v. v) stops) (option_map (λ (p : Bytes × Bytes). (p.0, p.1)) swap) spare) (same_option drops)
    ∙ ap (λ s. rule entries skips drops s (option_map (λ (p : Bytes × Bytes). (p.0, p.1)) swap) spare) (same_option stops)
    ∙ ap (λ s. rule entries skips drops stops s spare) (same_swap swap)

-- a step under it
named_step : (kind : Kind) (ops : List Operation) (ws : List Write) (p : Policy) (meta : Option Bytes) → step kind rules_of ops ws (named p) meta ≡ step kind policies ops ws p meta
named_step kind ops ws p meta = same_step kind ops ws (named p) meta ∙ ap (λ q. step kind policies ops ws q meta) (named-is p)

made-named : (kind : Kind) (ops : List Operation) → Made kind policies ops → Made kind rules_of ops
made-named kind _ first = first
made-named kind _ (next ops ws policy meta made short) =
    let is = named_step kind ops ws policy meta in
    subst (Made kind rules_of) is (next ops ws (named policy) meta (made-named kind ops made) (subst (λ list. length list ≤ 2 ^ 62) (sym is) short))

made-defined : (kind : Kind) (ops : List Operation) → Made kind rules_of ops → Made kind policies ops
made-defined kind _ first = first
made-defined kind _ (next ops ws policy meta made short) =
    let is = same_step kind ops ws policy meta in
    subst (Made kind policies) (sym is) (next ops ws (policy_view policy) meta (made-defined kind ops made) (subst (λ list. length list ≤ 2 ^ 62) is short))

-- the same stores are own
module _ (m : Scheme) where
  part-alike : {P Q : Type 0} (a : Rules P) (b : Rules Q) → ((ops : List Operation) → Made (kind_of m) a ops → Made (kind_of m) b ops) → (log : Log) → IsKept (engine_of m a) log → IsKept (engine_of m b) log
  part-alike a b crossed log kept =
      let part = kept.made in
      record {
        made = record { whole = part.whole; made = crossed part.whole part.made; begins = part.begins; of_form = part.of_form };
        start = kept.start;
        stable = kept.stable;
        chunks = by (chunks_of m) kept.chunks;
      }
    where
      by : (chunks : Option Chunks) → own.ArePruned (engine_of m a) chunks log → own.ArePruned (engine_of m b) chunks log
      by None is = tt
      by (Some c) is = is

  pub kept-named : (log : Log) → IsKept (engine_of m policies) log → IsKept (engine_of m rules_of) log
  kept-named = part-alike policies rules_of (made-named (kind_of m))

  pub kept-defined : (log : Log) → IsKept (engine_of m rules_of) log → IsKept (engine_of m policies) log
  kept-defined = part-alike rules_of policies (made-defined (kind_of m))

  pub left-defined : (told : Option Stored) (before after : Log) → IsOwnLeft m rules_of told before after → IsOwnLeft m policies told before after
  left-defined told before after is = record { left = is.left; own = own-of m policies told is.left.log is.left.has (kept-defined is.left.log is.own.own.kept) }

  -- and commands are answered the same
  pub same_state : (s : State) (cs : List (Command Bytes Bytes AnyPolicy)) → state_after m rules_of s (map own_line cs) ≡ state_after m policies s (map byte_line cs)
  same_state s [] = refl
  same_state s (c ∷ cs) = ap (λ (t : Answer × State). state_after m rules_of t.1 (map own_line cs)) (same_turn m s c) ∙ same_state (turn m policies s (byte_line c)).1 cs

  pub same_answers : (s : State) (cs : List (Command Bytes Bytes AnyPolicy)) → answers m rules_of s (map own_line cs) ≡ answers m policies s (map byte_line cs)
  same_answers s [] = refl
  same_answers s (c ∷ cs) =
      ap (λ (t : Answer × State). t.0 ∷ answers m rules_of t.1 (map own_line cs)) (same_turn m s c) ∙ ap (λ given. (turn m policies s (byte_line c)).0 ∷ given) (same_answers (turn m policies s (byte_line c)).1 cs)
