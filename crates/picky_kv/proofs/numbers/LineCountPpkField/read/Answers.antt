-- What std's parse reads is the number that the text writes, and it refuses the other texts.
use Rattle.std.proofs.Common.{◌^◌, refl, rules}
use Rattle.picky_kv.specs.NumberFields.{count_field}
use Rattle.picky_kv.specs.carried.Numbers.{number_below_numeral}
use Rattle.picky_kv.proofs.NumberLemmas.{number_below_none}
use Rattle.picky_kv.proofs.numbers.LineCountPpkField.read.Goals as goal

pub returns-in-Ok : goal.returns-in-Ok
unfolding count_field
returns-in-Ok c =
    let read = c.in-Ok.ensures.value.0 in
    rw (number_below_numeral (2 ^ 16) c.args.text.now read.0.0 read.0.1, read.1) refl

pub returns-in-Err : goal.returns-in-Err
unfolding count_field
returns-in-Err c =
    rw (number_below_none (2 ^ 16) c.args.text.now c.in-Err.ensures.value.0) (search rules)
