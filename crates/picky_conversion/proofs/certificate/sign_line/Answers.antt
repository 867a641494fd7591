-- The line of the certificate that was signed.
use Rattle.picky_wire.specs.Count.{Rose}
use Rattle.picky_cert_builder.specs.Drafted.{draft_shown}
use Rattle.picky_conversion.proofs.SignedLemmas.{signed_line_answers}
use Rattle.picky_conversion.proofs.certificate.sign_line.Goals as goal

pub returns-in-Ok-clause-answers : goal.returns-in-Ok-clause-answers
returns-in-Ok-clause-answers g c =
    signed_line_answers (g.G.Signer.signs c.args.signer.now) (draft_shown c.args.draft) c.in-Ok.certificate
    (Rose (g.G.Signer.faults c.args.signer.now) (g.G.Signer.faults c.sign.new.signer)) c.line_of-line.result c.requires.back c.in-Ok.ensures.answers
    c.signature_keeps_its_ranges.ensures c.line_of-line.ensures.ok c.line_of-line.ensures.too_long c.line_of-line.ensures.others
