-- The certificate is the one that is seen, and a refusal that of the part at which the view is stopped.
use Rattle.std.proofs.Common.{sym, ◌∙◌, ap, Ok}
use Rattle.picky_cert.proofs.LineLemmas.{blob_certificate_seen, refused_as}
use Rattle.picky_cert.proofs.line.certificate_of_blob.Goals as goal

pub returns-in_ok-to_certificate-in-Ok-clause-gives : goal.returns-in_ok-to_certificate-in-Ok-clause-gives
returns-in_ok-to_certificate-in-Ok-clause-gives c =
    blob_certificate_seen c.args.blob.now _ _ c.in-Ok.ensures.seen.sees ∙ ap (λ v. Ok v) (sym c.in_ok-to_certificate-in-Ok.ensures)

pub returns-in-Err-clause-gives : goal.returns-in-Err-clause-gives
returns-in-Err-clause-gives c =
    refused_as c.args.blob.now _ c.certificate_view_refusal.result c.in-Err.ensures.seen.sees
    c.certificate_view_refusal.ensures
