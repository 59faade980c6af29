-- What is asked of an ordered database, and its answer.
use Rattle.std.specs.Prelude.{List, Option, option_map}
use Rattle.qm_model.specs.Operations.{Bytes, Operation}
use Rattle.qm_model.specs.Live.{live, live_of, live_keys}
use Rattle.qm_model.specs.Ranges.{key_above, key_below, span_of, keys_in, pairs_in}
use Rattle.qm_machine.specs.Lines as lines
use Rattle.qm_base.specs.Views.{limit_of}
use Rattle.qm_engine.specs.declared.turns.ordered.Side.{Side}
use Rattle.qm_engine.specs.declared.turns.ordered.Side.TheVariants.{Above, Below}
use Rattle.qm_engine.specs.declared.turns.ordered.Question.{Question}
use Rattle.qm_engine.specs.declared.turns.ordered.Question.TheVariants.{Neighbour, Span, All, Range, Keys}

-- the nearest of the keys on this side of the given one
abbrev pub key_beside : Side → Bytes → List Bytes → Option Bytes
key_beside Above key keys = key_above keys key
key_beside Below key keys = key_below keys key

-- the answer on this list
abbrev pub answer_to : {K : Type 0} → (K → Bytes) → Question K → List Operation → lines.Answer
answer_to key (Neighbour side k) list = lines.Neighbour (key_beside side (key k.now) (live_keys list))
answer_to key (Span k) list = lines.Spanning (span_of list (key k.now))
answer_to key (All k) list = lines.Whole (option_map (λ e. (e.value, e.next)) (live_of (live list) (key k.now)))
answer_to key (Range low high) list = lines.Ranged (pairs_in (limit_of key low.now) (limit_of key high.now) list)
answer_to key (Keys low high) list = lines.Keyed (keys_in (limit_of key low.now) (limit_of key high.now) list)
