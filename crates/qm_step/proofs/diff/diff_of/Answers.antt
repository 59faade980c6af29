use Rattle.std.proofs.Common.{◌≡◌, ◌∙◌, arith, ap₂, map, true, Bor, List, ℕ, ◌++◌, ap}
use Rattle.std.proofs.lemmas.List.{length-map}
use Rattle.std.proofs.lemmas.Result.{IfOk-from_err}
use Rattle.qm_step.proofs.PlanEntries.{entry_shown, note_shown, kept-first, kept-rest, ascends-shown}
use Rattle.qm_step.proofs.PlanLoops.{drained-more, drained-room, drained-all}
use Rattle.std.proofs.lemmas.List.Elements.{All-same}
use Rattle.qm_step.specs.Views.{changes_view}
use Rattle.qm_step.proofs.diff.diff_of.Goals as goal

pub loop-key-preserved : goal.loop-key-preserved
loop-key-preserved g c =
    let key = g.K.ByteString.bytes in
    let value = g.V.ByteString.bytes in
    let more = c.in-Some.ensures.steps in
    record {
      value = drained-more (entry_shown key value) (note_shown value) c.loop-key.entries.items c.loop-key.key-iterator (map (note_shown value) c.args.notes.now.entries)
          c.push_reserved.new.self.items c.next.new.self _ (c.in-Some.key.now, c.in-Some.noted.now) more c.push_reserved.ensures.items (ap₂ (λ k what. (k, what)) c.in_ok-key.ensures c.in_ok-entry.ensures) c.loop-key.invariant.value;
      room = c.push_reserved.ensures.capacity ∙ c.loop-key.invariant.room;
      known = kept-rest (λ (k : Bor (List ℕ)). g.K.ByteString.has k.now ≡ true) c.loop-key.key-iterator c.next.new.self (c.in-Some.key.now, c.in-Some.noted.now) more c.loop-key.invariant.known;
    }

pub from_bytes-requires : goal.from_bytes-requires
from_bytes-requires g c =
    kept-first (λ (k : Bor (List ℕ)). g.K.ByteString.has k.now ≡ true) c.loop-key.key-iterator c.next.new.self (c.in-Some.key.now, c.in-Some.noted.now)
    c.in-Some.ensures.steps c.loop-key.invariant.known

pub push_reserved-requires : goal.push_reserved-requires
push_reserved-requires g c =
    let key = g.K.ByteString.bytes in
    let value = g.V.ByteString.bytes in
    let room = drained-room (entry_shown key value) (note_shown value) c.loop-key.entries.items c.loop-key.key-iterator (map (note_shown value) c.args.notes.now.entries) (c.in-Some.key.now, c.in-Some.noted.now) c.next.new.self
    c.in-Some.ensures.steps c.loop-key.invariant.value in
    omega (arith, room, length-map c.args.notes.now.entries (note_shown value), c.loop-key.invariant.room, c.loop-key.entries.ok.0)

pub new-requires : goal.new-requires
new-requires g c =
    let key = g.K.ByteString.bytes in
    let value = g.V.ByteString.bytes in
    ascends-shown key value c.loop-key.entries.items c.args.notes.now.entries
    (drained-all (entry_shown key value) (note_shown value) c.loop-key.entries.items c.loop-key.key-iterator (map (note_shown value) c.args.notes.now.entries)
    c.in-None.ensures.steps.0 c.loop-key.invariant.value)
    c.into_iter-key-iterator.ensures.into_iter_gives.5

pub returns-in_err-entries : goal.returns-in_err-entries
returns-in_err-entries g c = IfOk-from_err c.from_residual.result _ c.from_residual.ensures.0

pub returns-in_err-key : goal.returns-in_err-key
returns-in_err-key g c = IfOk-from_err c.from_residual-in_err-key.result _ c.from_residual-in_err-key.ensures.0

pub returns-in_err-entry : goal.returns-in_err-entry
returns-in_err-entry g c = IfOk-from_err c.from_residual-in_err-entry.result _ c.from_residual-in_err-entry.ensures.0

pub loop-key-init : goal.loop-key-init
loop-key-init g c =
    let key = g.K.ByteString.bytes in
    let value = g.V.ByteString.bytes in
    let made = c.in_ok-entries.ensures in
    let all = c.into_iter-key-iterator.ensures.into_iter_gives.0 in
    record {
      value = ap₂ (λ xs es. map (entry_shown key value) xs ++ map (note_shown value) es) made.items all;
      room = made.exact ∙ c.len.ensures.len;
      known = All-same (λ e. g.K.ByteString.has e.0.now ≡ true) c.into_iter-key-iterator.result c.args.notes.now.entries all c.requires;
    }

pub returns : goal.returns
returns g c =
    let key = g.K.ByteString.bytes in
    let value = g.V.ByteString.bytes in
    ap (changes_view key value) c.new.ensures
    ∙ drained-all (entry_shown key value) (note_shown value) c.loop-key.entries.items c.loop-key.key-iterator (map (note_shown value) c.args.notes.now.entries)
    c.in-None.ensures.steps.0 c.loop-key.invariant.value
