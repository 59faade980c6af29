use Rattle.std.proofs.Common.{◌∙◌, refl, subst, take, arith}
use Rattle.std.specs.Io.KnownBytes.{Consumes}
use Rattle.qm_lines.proofs.Causes.{all_read, calm, caused, extended, failed-not_long, long-not_failed, memory-not_failed, memory-not_long, ok-no_err, read_on, short_on, too_long}
use Rattle.qm_lines.proofs.whole.read_all.Goals as goal

pub returns-in-Err : goal.returns-in-Err
returns-in-Err g c = record {
  all = tt;
  short = tt;
  end = tt;
  long = λ e. absurd (failed-not_long e);
  cause = caused _ _ _ _ c.loop-all.invariant.steady c.in-Err.ensures.cause (λ e. refl);
  steady = λ h. absurd (h refl);
}

pub returns-in-Ok-eq0 : goal.returns-in-Ok-eq0
returns-in-Ok-eq0 g c =
    let end = c.in-Ok-eq0.ensures.bytes.1 c.in-Ok-eq0.field-0-test (omega arith) in
    record {
      all = all_read _ _ _ _ c.loop-all.invariant.read (subst (λ n. Consumes (g.S.Source.left c.loop-all.source) (g.S.Source.left c.read.new.self) (take n c.read.new.out)) c.in-Ok-eq0.field-0-test c.in-Ok-eq0.ensures.bytes.0) end;
      short = c.loop-all.invariant.short;
      end = end;
      long = λ e. absurd (ok-no_err _ _ e);
      cause = calm _ _ _ _ c.loop-all.invariant.steady c.in-Ok-eq0.ensures.steady (ok-no_err _ _);
      steady = λ h. c.in-Ok-eq0.ensures.steady ∙ c.loop-all.invariant.steady;
    }

pub returns-then-is_err : goal.returns-then-is_err
returns-then-is_err g c = record {
  all = tt;
  short = tt;
  end = tt;
  long = λ e. absurd (memory-not_long e);
  cause = calm _ _ _ _ c.loop-all.invariant.steady c.in-Ok.ensures.steady memory-not_failed;
  steady = λ h. c.in-Ok.ensures.steady ∙ c.loop-all.invariant.steady;
}

pub returns-then-count-len : goal.returns-then-count-len
returns-then-count-len g c = record {
  all = tt;
  short = tt;
  end = tt;
  long = λ e. too_long _ _ _ _ _ c.loop-all.invariant.read c.in-Ok.ensures.bytes.0 _ c.in-Ok.count c.len.result c.if-count-len.true (c.len.ensures ∙ c.loop-all.all.ok.0) c.in-Ok.ensures.bound.1;
  cause = calm _ _ _ _ c.loop-all.invariant.steady c.in-Ok.ensures.steady long-not_failed;
  steady = λ h. c.in-Ok.ensures.steady ∙ c.loop-all.invariant.steady;
}

pub loop-all-preserved : goal.loop-all-preserved
loop-all-preserved g c =
    let items = extended c.extend_from_slice.result c.is_err.result c.extend_from_slice.new.self.items c.loop-all.all.items (take c.in-Ok.count c.read.new.out) c.extend_from_slice.ensures.items c.is_err.ensures.value c.if-is_err.false in
    record {
      short = short_on c.extend_from_slice.new.self.items c.loop-all.all.items (take c.in-Ok.count c.read.new.out) items c.if-count-len.false (c.len.ensures ∙ c.loop-all.all.ok.0) c.in-Ok.ensures.bound.1 c.loop-all.invariant.short;
      read = rw items (read_on _ _ _ _ _ c.loop-all.invariant.read c.in-Ok.ensures.bytes.0);
      steady = c.in-Ok.ensures.steady ∙ c.loop-all.invariant.steady;
    }
