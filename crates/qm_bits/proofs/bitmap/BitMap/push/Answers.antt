use Rattle.std.proofs.lemmas.Result.{err_from_is_err_and}
use Rattle.qm_bits.proofs.Held.{pushed}
use Rattle.qm_bits.proofs.bitmap.BitMap.push.Goals as goal

pub returns : goal.returns
returns c = record {
  ok = pushed c.args.self.now c.extend_to.new.self c.set_bit.new.self c.len-at.result c.args.value c.len-at.ensures.value c.in_ok-extend_to.ensures.ok c.set_bit.ensures;
  err = tt;
}

pub returns-in_err-extend_to : goal.returns-in_err-extend_to
returns-in_err-extend_to c =
    let exit = err_from_is_err_and c.from_residual.result c.from_residual.ensures.1 in
    rw exit.1 (record { ok = tt; err = c.in_err-extend_to.ensures.err })
