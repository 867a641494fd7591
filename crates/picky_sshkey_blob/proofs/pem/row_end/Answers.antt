-- A blank stands where the search found one.
use Rattle.std.proofs.Common.{sym}
use Rattle.std.proofs.lemmas.List.Quantifiers.{position-Some}
use Rattle.picky_sshkey_blob.specs.Pem.{is_blank}
use Rattle.picky_sshkey_blob.proofs.pem.row_end.Goals as goal

pub returns-in-Some-clause-blank : goal.returns-in-Some-clause-blank
returns-in-Some-clause-blank c =
    λ inside. (position-Some is_blank c.args.bytes.now c.in-Some.at 0 (sym c.in-Some.ensures)).1
