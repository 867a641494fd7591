-- Each write takes the next bytes.
use Rattle.std.proofs.Common.{◌≤◌, ◌-◌, arith, length, drop}
use Rattle.std.proofs.lemmas.List.{length-drop, length-take-le}
use Rattle.picky_wire.proofs.WriteLemmas.{more_written}
use Rattle.picky_wire.proofs.write.write_all.Goals as goal

pub bytes-preserved : goal.bytes-preserved
bytes-preserved g c =
    let rest : length c.args.bytes.now - c.bytes.at ≤ length (drop c.bytes.at c.args.bytes.now) =
    omega (arith, length-drop c.bytes.at c.args.bytes.now) in
    let piece = length-take-le (length c.args.bytes.now - c.bytes.at) (drop c.bytes.at c.args.bytes.now) rest in
    record {
      within = omega (arith, c.in-Ok.ensures.bound, piece);
      written = λ told.
          more_written c.bytes.at c.in-Ok.n c.args.bytes.now _ _ _ (c.bytes.invariant.written told)
          (c.in-Ok.ensures.appended (c.bytes.invariant.told told));
      told = λ told. c.in-Ok.ensures.keeps.told (c.bytes.invariant.told told);
      calm = omega (arith, c.in-Ok.ensures.keeps.calm, c.bytes.invariant.calm);
    }
