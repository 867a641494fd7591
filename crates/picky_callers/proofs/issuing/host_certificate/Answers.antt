-- What is built is what is asked, signed; else it is refused.
use Rattle.std.proofs.Common.{◌≡◌, ◌⊎◌, Err, IfErr, IfOk, IsOk, subst}
use Rattle.picky.specs.Count.{Rose}
use Rattle.picky.specs.Draft.{requested}
use Rattle.picky.specs.declared.ssh.SshCertificateGenerationError.TheVariants as errors
use Rattle.picky_callers.specs.Issued.{IsIssued}
use Rattle.picky_callers.proofs.IssuedLemmas.{built_is_signed, unbuilt_is_refused}
use Rattle.picky_callers.proofs.issuing.host_certificate.Goals as goal

pub returns-clause-ok : goal.returns-clause-ok
returns-clause-ok g c =
    subst (λ b. IfOk c.build-built.result (IsIssued (g.G.Signer.signs c.args.signer.now) b c.args.nonce.now))
    c.request_for-builder.ensures
    (built_is_signed (g.G.Signer.signs c.args.signer.now) (requested c.request_for-builder.result c.args.nonce.now) _
    c.build-built.result c.build-built.ensures.answers)

pub returns-clause-refused : goal.returns-clause-refused
returns-clause-refused g c =
    subst (λ b. IfErr c.build-built.result (λ e. (e ≡ errors.NoMemory)
    ⊎ ((e ≡ errors.SignatureError) × IsOk (requested b c.args.nonce.now)
    × Rose (g.G.Signer.faults c.args.signer.now) (g.G.Signer.faults c.build-built.new.signer)) ⊎ (requested b c.args.nonce.now ≡ Err e)))
    c.request_for-builder.ensures
    (unbuilt_is_refused (g.G.Signer.signs c.args.signer.now) (requested c.request_for-builder.result c.args.nonce.now) _
    c.build-built.result c.build-built.ensures.answers)
