use Rattle.std.proofs.Common.{refl}
use Rattle.picky_ask.proofs.SignLemmas.{refused_long}
use Rattle.picky_ask_verifier.proofs.question.key_blob.Goals as goal

pub returns-in-Err-TooLong-clause-too_long_only_if_long : goal.returns-in-Err-TooLong-clause-too_long_only_if_long
returns-in-Err-TooLong-clause-too_long_only_if_long c = λ _.
    refused_long c.args.key.now c.args.key.now c.in-Err-TooLong.field-0 refl c.in-Err-TooLong.field-0-is c.in-Err-TooLong.ensures
