-- One byte more than the limit was taken.
use Rattle.std.proofs.Common.{◌≡◌, ◌∙◌, length, drop, sym, ap, arith}
use Rattle.std.proofs.lemmas.List.{length-append, drop_at}
use Rattle.picky_input.proofs.input.read_input.Goals as goal

pub returns-clause-too_long : goal.returns-clause-too_long
returns-clause-too_long g c = λ told is.
    let same = c.chunks.invariant.taken told in
    let rest = g.S.Source.left c.chunks.source in
    let len : length c.chunks.input.items ≡ 16777217 = omega arith in (
      omega (arith, ap length same, length-append c.chunks.input.items rest, len, c.chunks-test.false),
      sym (ap (drop 16777217) same ∙ drop_at c.chunks.input.items rest 16777217 len),
    )
