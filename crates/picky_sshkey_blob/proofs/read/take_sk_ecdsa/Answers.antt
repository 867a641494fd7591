-- One field after another.
use Rattle.std.proofs.Common.{refl}
use Rattle.std.proofs.lemmas.Result.{err_from_is_err_and}
use Rattle.picky_wire_base.specs.Combine.{at}
use Rattle.picky_wire_base.specs.Wire.{string, text}
use Rattle.picky_wire_base.specs.Numbers.{byte}
use Rattle.picky_sshkey_blob.specs.Blob.{private_sk_ecdsa_fields}
use Rattle.picky_sshkey_blob.specs.inner.Stop.{secret_stop}
use Rattle.picky_sshkey_blob.proofs.TakesLemmas.{part_ends, part_passes, part_stops, field_takes}
use Rattle.picky_sshkey_blob.proofs.read.take_sk_ecdsa.Goals as goal

pub returns-in_err-flags : goal.returns-in_err-flags
unfolding private_sk_ecdsa_fields
returns-in_err-flags g c =
    let p = err_from_is_err_and c.from_residual-in_err-flags.result c.from_residual-in_err-flags.ensures.1 in
    rw (p.1, p.2) (part_passes secret_stop (at 1 text) _ _ (field_takes secret_stop 1 text _ (λ f. refl) c.in_ok-take_text.ensures.takes)
    (part_passes secret_stop (at 2 string) _ _ (field_takes secret_stop 2 string _ (λ f. refl) c.in_ok-point.ensures.takes)
    (part_passes secret_stop (at 3 text) _ _ (field_takes secret_stop 3 text _ (λ f. refl) c.in_ok-application.ensures.takes)
    (part_stops secret_stop (at 4 byte) _ _ (field_takes secret_stop 4 byte _ (λ f. refl) c.in_err-flags.ensures.takes)))))

pub returns-in_err-handle : goal.returns-in_err-handle
unfolding private_sk_ecdsa_fields
returns-in_err-handle g c =
    let p = err_from_is_err_and c.from_residual-in_err-handle.result c.from_residual-in_err-handle.ensures.1 in
    rw (p.1, p.2) (part_passes secret_stop (at 1 text) _ _ (field_takes secret_stop 1 text _ (λ f. refl) c.in_ok-take_text.ensures.takes)
    (part_passes secret_stop (at 2 string) _ _ (field_takes secret_stop 2 string _ (λ f. refl) c.in_ok-point.ensures.takes)
    (part_passes secret_stop (at 3 text) _ _ (field_takes secret_stop 3 text _ (λ f. refl) c.in_ok-application.ensures.takes)
    (part_passes secret_stop (at 4 byte) _ _ (field_takes secret_stop 4 byte _ (λ f. refl) c.in_ok-flags.ensures.takes)
    (part_stops secret_stop (at 5 string) _ _ (field_takes secret_stop 5 string _ (λ f. refl) c.in_err-handle.ensures.takes))))))

pub returns-in_err-take_bytes : goal.returns-in_err-take_bytes
unfolding private_sk_ecdsa_fields
returns-in_err-take_bytes g c =
    let p = err_from_is_err_and c.from_residual-in_err-take_bytes.result c.from_residual-in_err-take_bytes.ensures.1 in
    rw (p.1, p.2) (part_passes secret_stop (at 1 text) _ _ (field_takes secret_stop 1 text _ (λ f. refl) c.in_ok-take_text.ensures.takes)
    (part_passes secret_stop (at 2 string) _ _ (field_takes secret_stop 2 string _ (λ f. refl) c.in_ok-point.ensures.takes)
    (part_passes secret_stop (at 3 text) _ _ (field_takes secret_stop 3 text _ (λ f. refl) c.in_ok-application.ensures.takes)
    (part_passes secret_stop (at 4 byte) _ _ (field_takes secret_stop 4 byte _ (λ f. refl) c.in_ok-flags.ensures.takes)
    (part_passes secret_stop (at 5 string) _ _ (field_takes secret_stop 5 string _ (λ f. refl) c.in_ok-handle.ensures.takes)
    (part_stops secret_stop (at 6 string) _ _ (field_takes secret_stop 6 string _ (λ f. refl) c.in_err-take_bytes.ensures.takes)))))))

pub returns : goal.returns
unfolding private_sk_ecdsa_fields
returns g c =
    part_passes secret_stop (at 1 text) _ _ (field_takes secret_stop 1 text _ (λ f. refl) c.in_ok-take_text.ensures.takes)
    (part_passes secret_stop (at 2 string) _ _ (field_takes secret_stop 2 string _ (λ f. refl) c.in_ok-point.ensures.takes)
    (part_passes secret_stop (at 3 text) _ _ (field_takes secret_stop 3 text _ (λ f. refl) c.in_ok-application.ensures.takes)
    (part_passes secret_stop (at 4 byte) _ _ (field_takes secret_stop 4 byte _ (λ f. refl) c.in_ok-flags.ensures.takes)
    (part_passes secret_stop (at 5 string) _ _ (field_takes secret_stop 5 string _ (λ f. refl) c.in_ok-handle.ensures.takes)
    (part_passes secret_stop (at 6 string) _ _ (field_takes secret_stop 6 string _ (λ f. refl) c.in_ok-take_bytes.ensures.takes)
    (part_ends secret_stop _ _))))))
