-- The key is the subject's of the certificate that is seen, and a refusal that of the part at which the view is stopped.
use Rattle.std.proofs.Common.{sym, ◌∙◌, ap, Ok}
use Rattle.picky_wire_base.specs.Outcome.{map_ok}
use Rattle.picky_cert.specs.Certificate.{subject_key}
use Rattle.picky_cert.proofs.LineLemmas.{blob_certificate_seen, no_subject, refused_as}
use Rattle.picky_cert.proofs.line.subject_of_blob.Goals as goal

pub returns-in_ok-to_key-in-Ok : goal.returns-in_ok-to_key-in-Ok
returns-in_ok-to_key-in-Ok c =
    ap (map_ok subject_key) (blob_certificate_seen c.args.blob.now _ _ c.in-Ok.ensures.seen.sees) ∙ ap (λ k. Ok k) (sym c.in_ok-to_key-in-Ok.ensures)

pub returns-in-Err : goal.returns-in-Err
returns-in-Err c =
    no_subject c.args.blob.now c.certificate_view_refusal.result
    (refused_as c.args.blob.now _ c.certificate_view_refusal.result c.in-Err.ensures.seen.sees
    c.certificate_view_refusal.ensures)
