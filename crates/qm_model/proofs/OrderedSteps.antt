-- What a step of an ordered list keeps.
use Rattle.std.proofs.Common.{◌≡◌, suc, ◌+◌, ◌<◌, ◌≤◌, false, List, [], ◌++◌, length, take, drop, map, refl, ap, sym, ◌∙◌, Option, Some, None, arith, subst, length-append, length-drop}
use Rattle.std.specs.Prelude.{filter_map, option_map, ◌↔◌, All}
use Rattle.std.specs.List.{AllByRecursion as Each}
use Rattle.std.proofs.lemmas.List.{take-append-drop}
use Rattle.std.proofs.lemmas.List.Folds.{list_any-append}
use Rattle.std.proofs.lemmas.List.Elements.{All-nil, All-from_recursion, recursion_from_All}
use Rattle.qm_model.specs.Operations.{Bytes, Operation, fresh}
use Rattle.qm_model.specs.Live.{Live, live, live_from, live_of, live_keys, touches, touched, floor, value_of}
use Rattle.qm_model.specs.Keys.{successor, without}
use Rattle.qm_model.specs.Writes.{Write, write_of, last_writes, made_inactive, operation_of, overwritten}
use Rattle.qm_model.specs.Walk.{Rules, Walked, walk}
use Rattle.qm_model.specs.Ordered.{IsRing, rewritten, evicted_keys, broken_keys, ordered_writes, ordered_moves}
use Rattle.qm_model.specs.Step.{ordered, step, IsGood, IsOrderedGood, Made, first, next}
use Rattle.qm_model.specs.Policies.{OnlyKeeps, NeverMoves}
use Rattle.qm_model.proofs.LastWrites.{write_of-key}
use Rattle.qm_model.proofs.Pushes.{Within, live_from-within}
use Rattle.qm_model.proofs.Walks.{Walks, walks, walks_within}
use Rattle.qm_model.proofs.Floors.{NoneBelow, walked-NoneBelow}
use Rattle.qm_model.proofs.Steps.{commit_floor, committed-ended, committed-within, committed-below, committed-empty, committed-live, fresh-good}
use Rattle.qm_model.proofs.Keeping.{Keeps, Walks-Keeps, nothing_decided}
use Rattle.qm_model.proofs.KeyOrder.{Has, or-false}
use Rattle.qm_model.proofs.OrderedLists.{Each-all, Each-live-append, Each-live-old, touched-linked, Single}
use Rattle.qm_model.proofs.Decisions.{walk-single, walk-live}
use Rattle.qm_model.proofs.OrderedWrites.{ordered-written, ordered-ring}
use Rattle.qm_model.proofs.OrderedMoves.{ordered-moved, moved-ring, write_of-each}

module _ {P : Type 0} (rules : Rules P) (ops : List Operation) (ws : List Write) (policy : P) (meta : Option Bytes) where
  abbrev made : List Operation
  made = ordered_writes ops ws

  abbrev written : List Operation
  written = ops ++ ordered_writes ops ws

  -- the walk of a step, over the list with the writes
  abbrev walked : Walked P
  walked = walk rules (ops ++ ordered_writes ops ws) (floor ops) (rules.limits policy (made_inactive ops (ordered_writes ops ws))) policy

  -- the list with the writes and the moves
  abbrev moved : List Operation
  moved = (ops ++ ordered_writes ops ws) ++ ordered_moves (ops ++ ordered_writes ops ws) walked.decisions

  walked-walks : Walks rules (drop (floor ops) written) (floor ops) walked.floor walked.decisions
  walked-walks =
      let limits = rules.limits policy (made_inactive ops made) in
      walks rules (drop (floor ops) written) (floor ops) limits.entries limits.skips policy

  walked-single : Single walked.decisions
  walked-single = walk-single rules written (floor ops) (rules.limits policy (made_inactive ops made)) policy

  walked-live : Each (λ d. Has (live_keys written) d.key) walked.decisions
  walked-live = walk-live rules written (floor ops) (rules.limits policy (made_inactive ops made)) policy

  -- the walk ends inside the list with the writes
  walked-inside : floor ops ≤ length ops → (floor ops ≤ walked.floor) × (walked.floor ≤ length written)
  walked-inside low =
      let near = walks_within rules walked-walks in
      (omega arith, omega (arith, length-append ops made, length-drop (floor ops) written))

  moved-long : length written ≤ length moved
  moved-long = omega (arith, length-append written (ordered_moves written walked.decisions))

  pub ordered-within : floor ops ≤ length ops →
      (floor (step ordered rules ops ws policy meta) < length (step ordered rules ops ws policy meta)) × (floor ops ≤ floor (step ordered rules ops ws policy meta))
  ordered-within low =
      let inside = walked-inside low in
      let long = moved-long in
      committed-within moved walked.floor meta (floor ops) (omega arith) inside.0

  -- no live update stands below the walk's end
  moved-below : IsGood ops → NoneBelow walked.floor moved
  moved-below good =
      let within = good.floor_within in
      let inside = walked-inside (omega arith) in
      let ds = walked.decisions in
      let moves = ordered_moves written ds in
      let plain : NoneBelow walked.floor (written ++ map operation_of ds) =
      walked-NoneBelow rules ops made (floor ops) walked.floor ds walked-walks (omega arith) (recursion_from_All (λ e. floor ops ≤ e.location) (live ops) good.above_floor) in
      let high : Live → Type 0 = λ e. walked.floor ≤ e.location in
      let old : Each (λ e. touched e.key moves ≡ false → high e) (live written) =
      Each-all (λ e. touched e.key (map operation_of ds) ≡ false → high e) (λ e. touched e.key moves ≡ false → high e)
      (λ e h none. h (fewer e.key none)) (live written) (Each-live-old high written (map operation_of ds) plain) in
      let new : Each high (live_from (0 + length written) moves) =
      Each-all (Within (0 + length written) (length moves)) high (λ e h. let low = h.0 in omega arith) (live_from (0 + length written) moves) (live_from-within (0 + length written) moves) in
      Each-live-append high written moves old new
    where
      fewer : (key : Bytes) → touched key (ordered_moves written walked.decisions) ≡ false → touched key (map operation_of walked.decisions) ≡ false
      fewer key none =
          let ms = map operation_of walked.decisions in
          let bs = filter_map (rewritten (live written)) (broken_keys (live_keys written) walked.decisions) in
          (or-false (touched key ms) (touched key bs) (sym (list_any-append (touches key) ms bs) ∙ sym (touched-linked (without (evicted_keys walked.decisions) (live_keys written)) key (ms ++ bs)) ∙ none)).0

  pub ordered-below : IsGood ops → All (λ e. floor (step ordered rules ops ws policy meta) ≤ e.location) (live (step ordered rules ops ws policy meta))
  ordered-below good =
      All-from_recursion (λ e. floor (step ordered rules ops ws policy meta) ≤ e.location) (live (step ordered rules ops ws policy meta))
      (committed-below moved walked.floor meta (moved-below good))

  pub ordered-empty : IsGood ops →
      (live (step ordered rules ops ws policy meta) ≡ []) ↔ (suc (floor (step ordered rules ops ws policy meta)) ≡ length (step ordered rules ops ws policy meta))
  ordered-empty good = committed-empty moved walked.floor meta (moved-below good)

  pub ordered-good : IsGood ops → IsGood (step ordered rules ops ws policy meta)
  ordered-good good =
      let within = good.floor_within in
      record {
        commit_ended = committed-ended moved meta (commit_floor (live moved) (length moved) walked.floor);
        floor_within = (ordered-within (omega arith)).0;
        above_floor = ordered-below good;
        empty_floor = ordered-empty good;
      }

  -- each live update names the next live key
  pub step-ring : IsRing ops → IsRing (step ordered rules ops ws policy meta)
  step-ring ring =
      subst (λ es. All (λ e. e.next ≡ successor (map (λ e. e.key) es) e.key) es) (sym (committed-live moved walked.floor meta))
      (moved-ring written walked.decisions walked-single walked-live (ordered-ring ops ws ring))

  -- the map after a step: the writes, then the decisions
  pub ordered-map : (key : Bytes) → value_of (step ordered rules ops ws policy meta) key ≡ overwritten (write_of walked.decisions key) (overwritten (write_of (last_writes ws) key) (value_of ops key))
  ordered-map key =
      ap (λ es. option_map (λ e. e.value) (live_of es key)) (committed-live moved walked.floor meta)
      ∙ ordered-moved written walked.decisions walked-single walked-live key ∙ ap (overwritten (write_of walked.decisions key)) (ordered-written ops ws key)

  -- a step whose moves keep the map changes it as its writes say
  step-map : (key : Bytes) → Each (Keeps written) walked.decisions → value_of (step ordered rules ops ws policy meta) key ≡ overwritten (write_of (last_writes ws) key) (value_of ops key)
  step-map key keeps = ordered-map key ∙ ap (overwritten (write_of walked.decisions key)) (sym (ordered-written ops ws key)) ∙ cases (write_of walked.decisions key) refl ∙ ordered-written ops ws key
    where
      cases : (o : Option Write) → write_of walked.decisions key ≡ o → overwritten o (value_of written key) ≡ value_of written key
      cases None is = refl
      cases (Some d) is = write_of-each (Keeps written) walked.decisions key d keeps is ∙ ap (value_of written) (write_of-key walked.decisions key d is)

  pub ordered-keeps : (key : Bytes) → OnlyKeeps rules → value_of (step ordered rules ops ws policy meta) key ≡ overwritten (write_of (last_writes ws) key) (value_of ops key)
  ordered-keeps key only = step-map key (subst (λ t. Each (Keeps t) walked.decisions) (take-append-drop (floor ops) written) (Walks-Keeps rules only walked-walks (take (floor ops) written)))

  pub ordered-holds : (key : Bytes) → NeverMoves rules → value_of (step ordered rules ops ws policy meta) key ≡ overwritten (write_of (last_writes ws) key) (value_of ops key)
  ordered-holds key never =
      let limits = rules.limits policy (made_inactive ops made) in
      step-map key (subst (Each (Keeps written)) (sym (nothing_decided rules (drop (floor ops) written) (floor ops) limits.entries limits.skips policy (never policy (made_inactive ops made)))) tt)

fresh-ring : IsRing fresh
fresh-ring = All-nil (λ (e : Live). e.next ≡ successor [] e.key)

pub made-ordered : {P : Type 0} (rules : Rules P) (ops : List Operation) → Made ordered rules ops → IsOrderedGood ops
made-ordered rules _ first = record { good = fresh-good; ring = fresh-ring }
made-ordered rules _ (next ops ws policy meta before short) =
    let was = made-ordered rules ops before in
    record { good = ordered-good rules ops ws policy meta was.good; ring = step-ring rules ops ws policy meta was.ring }
