-- What a kind of database appends, as a plan has it.
use Rattle.std.specs.Prelude.{◌≡◌, ◌+◌, true, if◌then◌else◌, List, ◌++◌, length, map, count_by, is_none, bytes_eq, All}
use Rattle.std.specs.List.{IsDistinct}
use Rattle.qm_model.specs.Keys.{contains_key}
use Rattle.qm_model.specs.Operations.{Operation}
use Rattle.qm_model.specs.Live.{live, live_keys}
use Rattle.qm_model.specs.Forms.{Form}
use Rattle.qm_model.specs.Ordered.{IsRing}
use Rattle.qm_model.specs.Step.{Kind, ordered, unordered}
use Rattle.qm_model.specs.Writes.{Write}
use Rattle.qm_step.specs.Touches.{Touch, IsFrom, IsKeyed, Once, operations_of}

-- a database of this form is of this kind
abbrev pub kind_of : Form → Kind
kind_of form = if form.ordered then ordered else unordered

-- in an ordered database each live update names the next live key
abbrev pub HasRing : Form → List Operation → Type 0
HasRing form list = form.ordered ≡ true → IsRing list

-- the operations of writes to a base list, each with where its key stood there; each is of a key, and of each key is one at
-- most
pub record AreWritten (kind : Kind) (base : List Operation) (ws : List Write) (touches : List Touch) : Type 0 where
  pub operations : operations_of touches ≡ kind.writes base ws
  pub from : All (IsFrom base) touches
  pub keyed : All IsKeyed touches
  pub once : Once (operations_of touches)

-- after what is decided of live keys, of each once, as many keys are live as before, without those that go
abbrev pub CountsMoves : (List Operation → List Write → List Operation) → Type 0
CountsMoves moves = (list : List Operation) (ds : List Write) → IsDistinct bytes_eq (map (λ d. d.key) ds) → All (λ d. contains_key (live_keys list) d.key ≡ true) ds →
    length (live (list ++ moves list ds)) + count_by (λ d. is_none d.value) ds ≡ length (live list)
