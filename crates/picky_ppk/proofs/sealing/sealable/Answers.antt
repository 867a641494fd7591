-- The draft is judged without being made.
use Rattle.std.proofs.Common.{◌∙◌, ap, arith, length}
use Rattle.picky_ppk.proofs.SealedLemmas.{draft_fits, draft_too_long, undrawn_refused}
use Rattle.picky_ppk.proofs.sealing.sealable.Goals as goal

pub returns-then-as_slice-padding-gt-MAX_LEN-clause-err : goal.returns-then-as_slice-padding-gt-MAX_LEN-clause-err
returns-then-as_slice-padding-gt-MAX_LEN-clause-err c =
    draft_too_long c.args.passphrase.now c.args.config c.args.salt.now c.args.padding.now c.args.file.now c.requires.salt
    c.in-Ok.ensures.ok (omega (arith, ap length c.as_slice.ensures.bytes))

pub returns-else-as_slice-padding-gt-MAX_LEN-clause-ok : goal.returns-else-as_slice-padding-gt-MAX_LEN-clause-ok
returns-else-as_slice-padding-gt-MAX_LEN-clause-ok c =
    draft_fits c.args.passphrase.now c.args.config c.args.salt.now c.args.padding.now c.args.file.now c.requires.salt
    c.in-Ok.ensures.ok (omega (arith, ap length c.as_slice.ensures.bytes))

pub returns-in-Err-clause-err : goal.returns-in-Err-clause-err
returns-in-Err-clause-err c =
    let refused = undrawn_refused c.args.passphrase.now c.args.config c.args.salt.now c.args.padding.now c.args.file.now
    c.requires.salt c.in-Err.ensures.err.0 in
    (refused.0, c.in-Err.ensures.err.1 ∙ refused.1)
