-- A blank is left out.
use Rattle.std.proofs.Common.{◌≡◌, true, arith, ap, length}
use Rattle.std.proofs.lemmas.Grind.{common_steps}
use Rattle.picky_sshkey_blob.specs.Pem.{is_blank}
use Rattle.picky_sshkey_blob.proofs.PackedLaws.{packed_front}
use Rattle.picky_sshkey_blob.proofs.pem.without_blanks.Goals as goal

pub blanks-preserved : goal.blanks-preserved
blanks-preserved c =
    let begins = c.in-Some.ensures.cases.0 in
    let blank : is_blank c.in-Some.first.now ≡ true = grind (arith, common_steps, c.if-not-is_blank.false, c.is_blank.ensures) in (
      packed_front c.args.bytes.now c.blanks.rest.now c.in-Some.more.now c.in-Some.first.now begins blank
          c.blanks.invariant.0,
      omega (arith, c.blanks.invariant.1, ap length begins),
    )
