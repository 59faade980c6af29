use Rattle.std.proofs.Common.{◌≡◌, ◌<◌, ◌≤◌, ℕ, None, true, false, length, get_or}
use Rattle.std.specs.Prelude.{sum_by}
use Rattle.qm_build.specs.Reads.{KeepsLog}
use Rattle.qm_workers.specs.Working.{work_of, asked, left_of}
use Rattle.qm_workers.specs.Answering.{IsAnswered}
use Rattle.qm_workers.proofs.round.answer_all.Given as goal

abbrev pub invariant-loop-i : goal.invariant-loop-i
invariant-loop-i g l =
    let index_key = g.I.Unordered.index_key in
    let entries = g.I.Unordered.entries in
    let bytes = g.U.Key.ByteString.bytes in record {
      long : length l.crew ≡ length l.initial.crew;
      read : KeepsLog g.C.Store g.F.Family.shape g.H.Digest.Digest.bytes g.H.Hasher.hash l.initial.log l.log;
      no_more : sum_by (λ w. left_of index_key (work_of entries bytes w)) l.crew ≤ sum_by (λ w. left_of index_key (work_of entries bytes w)) l.initial.crew;
      less : l.any ≡ true → sum_by (λ w. left_of index_key (work_of entries bytes w)) l.crew < sum_by (λ w. left_of index_key (work_of entries bytes w)) l.initial.crew;
      quiet : l.any ≡ false → (j : ℕ) (d : _) → j < l.i → asked index_key (work_of entries bytes (get_or l.initial.crew j d)) ≡ None;
      told : (j : ℕ) (d : _) → j < l.i → IsAnswered g.C.Store g.U.Update.form index_key l.initial.log (work_of entries bytes (get_or l.initial.crew j d)) (work_of entries bytes (get_or l.crew j d));
      same : (j : ℕ) (d : _) → l.i ≤ j → get_or l.crew j d ≡ get_or l.initial.crew j d;
    }
