-- What the builder makes of the request.
use Rattle.std.proofs.Common.{◌<◌, ◌^◌, subst, arith}
use Rattle.picky_wire.specs.Count.{Rose}
use Rattle.picky_cert_builder.specs.Built.{IsBuilt}
use Rattle.picky_cert_builder.specs.declared.builder.SshCertificateBuilder.{SshCertificateBuilder}
use Rattle.picky_cert_builder.specs.Draft.{requested}
use Rattle.picky_cert_builder.specs.Keeps.{IsRequest}
use Rattle.picky_ledger.proofs.IssuedLemmas.{built_fields, built_is_entry}
use Rattle.picky_ledger.proofs.apply.certificate_for.Goals as goal

pub returns-in-Ok-clause-fields : goal.returns-in-Ok-clause-fields
returns-in-Ok-clause-fields g c =
    let signs = g.G.Signer.signs c.args.signer.now in
    let rose = Rose (g.G.Signer.faults c.args.signer.now) (g.G.Signer.faults c.built-certificate.new.signer) in
    let answers = subst
    (λ (b : SshCertificateBuilder). IsBuilt signs (requested b c.args.nonce.now) rose c.built-certificate.result) c.in-Ok.ensures
    c.built-certificate.ensures.answers in
    built_fields signs c.args.issuer.now.inner_key c.args.serial c.args.request c.args.nonce.now rose c.built-certificate.result answers

pub returns-in-Ok-clause-entry : goal.returns-in-Ok-clause-entry
returns-in-Ok-clause-entry g c = λ line utf8 asks.
    let signs = g.G.Signer.signs c.args.signer.now in
    let rose = Rose (g.G.Signer.faults c.args.signer.now) (g.G.Signer.faults c.built-certificate.new.signer) in
    let made = c.built-certificate.ensures in
    let fits : c.args.serial < 2 ^ 64 = omega (arith, c.ranges.serial) in
    let answers = subst
    (λ (b : SshCertificateBuilder). IsBuilt signs (requested b c.args.nonce.now) rose c.built-certificate.result) c.in-Ok.ensures
    made.answers in
    built_is_entry signs c.args.issuer.now.inner_key c.args.serial c.args.request c.args.nonce.now rose c.built-certificate.result
    fits (subst IsRequest c.in-Ok.ensures made.request) made.bytes made.len made.signature answers line utf8 asks
