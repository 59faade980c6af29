-- What a walk of a plan goes over, and the own operations that a plan has.
use Rattle.std.specs.Prelude.{◌≡◌, ℕ, List, ◌++◌, length, All, Option}
use Rattle.std.specs.BTreeSet.{BTreeSet}
use Rattle.qm_model.specs.Operations.{Bytes, Operation}
use Rattle.qm_model.specs.Live.{live}
use Rattle.qm_model.specs.Step.{Kind, committed, evicted_by, policy_after, step}
use Rattle.qm_model.specs.Walk.{Rules}
use Rattle.qm_model.specs.Writes.{Write}
use Rattle.qm_batch.specs.declared.plan.walk.Found as found
use Rattle.qm_batch.specs.declared.plan.walk.Path as path
use Rattle.qm_step.specs.Bases.{Base, IsBase, base_view}
use Rattle.qm_step.specs.PlanViews.{touch_views}
use Rattle.qm_step.specs.Touches.{Touch, AreReplaced, IsFrom, IsKeyed, Once, operations_of}

-- what a walk goes over: what is known of a base list, the operations that are put after it, and the locations of the base
-- list whose live updates these replace
pub record Path : Type 0 where
  pub base : Base
  pub made : List Touch
  pub replaced : BTreeSet ℕ

-- it goes over this base list, of which the operations make this list; each is of a key, and of each key is one at most
pub record IsPath (path : Path) (lent base list : List Operation) : Type 0 where
  pub known : IsBase path.base lent base
  pub makes : base ++ operations_of path.made ≡ list
  pub from : All (IsFrom base) path.made
  pub keyed : All IsKeyed path.made
  pub once : Once (operations_of path.made)
  pub replaced : AreReplaced path.replaced path.made

-- these operations stand after a base list of which this is known, and make this list: with the locations that they replace
-- they are what a walk goes over
abbrev pub AreBehind : Base → List Touch → (lent base list : List Operation) → Type 0
AreBehind known made lent base list = (replaced : BTreeSet ℕ) → AreReplaced replaced made → IsPath (record { base = known; made = made; replaced = replaced }) lent base list

-- a live update, with where its key stands in the base list
abbrev pub found_view : {U : Type 0} → (U → Operation) → found.Found U → Touch
found_view update_view f = record { operation = update_view f.update; before = f.before }

-- these own operations of a step touch keys of its base list, leave so many keys live, and make with a floor the step's
-- list; the policy before it and after it is this one, and these are the keys that it evicts
pub record AreOwn {P : Type 0} (kind : Kind) (rules : Rules P) (policy next : P) (touches : List Touch) (evicted : List (Bytes × Bytes)) (keys end : ℕ) (base : List Operation) (ws : List Write) : Type 0 where
  pub from : All (IsFrom base) touches
  pub count : keys ≡ length (live (base ++ operations_of touches))
  pub list : (meta : Option Bytes) → committed (base ++ operations_of touches) end meta ≡ step kind rules base ws policy meta
  pub left : next ≡ policy_after kind rules base ws policy
  pub told : evicted ≡ evicted_by kind rules base ws policy

module _ {U K V : Type 0} (update_view : U → Operation) (key : K → Bytes) (value : V → Bytes) where
  -- what a walk goes over
  abbrev pub path_view : {F I : Type 0} → path.Path F I U K V → Path
  path_view p = record { base = base_view p.base.now; made = touch_views update_view key value p.made.now; replaced = p.replaced }
