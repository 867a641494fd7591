-- A value of 2^32 bytes or more makes any block too long.
use Rattle.std.proofs.Common.{inr}
use Rattle.picky_kv.proofs.WriteLemmas.{block_too_long}
use Rattle.picky_kv.proofs.writer.PuttyKvWriter.write_multiline_key_value.Goals as goal

pub returns-in-Err-TooLong-clause-gives : goal.returns-in-Err-TooLong-clause-gives
returns-in-Err-TooLong-clause-gives g c =
    let long = rw c.in-Err-TooLong.field-0-is at c.in-Err-TooLong.ensures.text in
    let text = g.T.Value.PpkField.field.spelling c.args.value.now in
    inr (block_too_long c.args.self.now _ text long)
