-- With a passphrase.
use Rattle.std.proofs.Common.{ap, arith, length}
use Rattle.picky_sshkey.proofs.WrittenLemmas.{sealed_len}
use Rattle.picky_sshkey.proofs.draft.envelope_len.Goals as goal

pub returns-in-Some : goal.returns-in-Some
returns-in-Some c = λ block len.
    omega (arith, sealed_len c.args.key.now _ block c.in-Some.is c.requires.range, ap length c.as_slice.ensures.bytes, c.requires.outer, len)
