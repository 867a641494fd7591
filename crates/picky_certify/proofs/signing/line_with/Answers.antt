-- With each signature the line of a draft is read back.
use Rattle.picky_cert_builder.specs.Draft.{signed_with}
use Rattle.picky_cert_builder.proofs.MadeLaws.{signed_line}
use Rattle.picky_certify.proofs.signing.line_with.Goals as goal

pub returns-in-Ok-clause-back : goal.returns-in-Ok-clause-back
returns-in-Ok-clause-back c =
    let signed = signed_with c.args.certificate c.args.signature in
    c.requires c.args.signature c.signature_keeps_its_ranges.ensures (signed_line signed c.in-Ok.text c.in-Ok.ensures).1
