-- No suite is asked, so what is refused is the key text, or what is asked for.
use Rattle.std.proofs.Common.{refl}
use Rattle.picky_wire_base.specs.Outcome.{map_ok}
use Rattle.picky_cert.specs.Spelled.{signed_of}
use Rattle.picky_conversion.specs.Certify.{drafting}
use Rattle.picky_certify.specs.Certify.{plain_outside}
use Rattle.picky_certify.proofs.AskedLemmas.{no_fault, plain_refused}
use Rattle.picky_certify.proofs.certifying.signed_bytes.Goals as goal

pub returns-in-Err : goal.returns-in-Err
returns-in-Err c =
    let says = map_ok (λ u. signed_of u.certificate) (drafting (plain_outside c.args.fresh.now) c.args.request c.args.key.now) in
    plain_refused says says _ c.in-Err.e c.conversion_refusal.result refl (no_fault (plain_outside c.args.fresh.now) c.args.key.now c.in-Err.e _ refl) c.conversion_refusal.ensures
    (rw c.new-suite.ensures.meanings at c.in-Err.ensures.gives)
