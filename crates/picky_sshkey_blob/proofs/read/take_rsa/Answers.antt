-- One number after another.
use Rattle.std.proofs.Common.{refl}
use Rattle.std.proofs.lemmas.Result.{err_from_is_err_and}
use Rattle.picky_wire_base.specs.Combine.{at}
use Rattle.picky_wire_base.specs.Mpint.{mpint}
use Rattle.picky_sshkey_blob.specs.Blob.{private_rsa_fields}
use Rattle.picky_sshkey_blob.specs.inner.Stop.{secret_stop}
use Rattle.picky_sshkey_blob.proofs.TakesLemmas.{part_ends, part_passes, part_stops, field_takes}
use Rattle.picky_sshkey_blob.proofs.read.take_rsa.Goals as goal

pub returns-in_err-iqmp : goal.returns-in_err-iqmp
unfolding private_rsa_fields
returns-in_err-iqmp g c =
    let p = err_from_is_err_and c.from_residual-in_err-iqmp.result c.from_residual-in_err-iqmp.ensures.1 in
    rw (p.1, p.2) (part_passes secret_stop (at 1 mpint) _ _ (field_takes secret_stop 1 mpint _ (λ f. refl) c.in_ok-n.ensures.takes)
    (part_passes secret_stop (at 2 mpint) _ _ (field_takes secret_stop 2 mpint _ (λ f. refl) c.in_ok-e.ensures.takes)
    (part_passes secret_stop (at 3 mpint) _ _ (field_takes secret_stop 3 mpint _ (λ f. refl) c.in_ok-d.ensures.takes)
    (part_stops secret_stop (at 4 mpint) _ _ (field_takes secret_stop 4 mpint _ (λ f. refl) c.in_err-iqmp.ensures.takes)))))

pub returns-in_err-p : goal.returns-in_err-p
unfolding private_rsa_fields
returns-in_err-p g c =
    let p = err_from_is_err_and c.from_residual-in_err-p.result c.from_residual-in_err-p.ensures.1 in
    rw (p.1, p.2) (part_passes secret_stop (at 1 mpint) _ _ (field_takes secret_stop 1 mpint _ (λ f. refl) c.in_ok-n.ensures.takes)
    (part_passes secret_stop (at 2 mpint) _ _ (field_takes secret_stop 2 mpint _ (λ f. refl) c.in_ok-e.ensures.takes)
    (part_passes secret_stop (at 3 mpint) _ _ (field_takes secret_stop 3 mpint _ (λ f. refl) c.in_ok-d.ensures.takes)
    (part_passes secret_stop (at 4 mpint) _ _ (field_takes secret_stop 4 mpint _ (λ f. refl) c.in_ok-iqmp.ensures.takes)
    (part_stops secret_stop (at 5 mpint) _ _ (field_takes secret_stop 5 mpint _ (λ f. refl) c.in_err-p.ensures.takes))))))

pub returns-in_err-q : goal.returns-in_err-q
unfolding private_rsa_fields
returns-in_err-q g c =
    let p = err_from_is_err_and c.from_residual-in_err-q.result c.from_residual-in_err-q.ensures.1 in
    rw (p.1, p.2) (part_passes secret_stop (at 1 mpint) _ _ (field_takes secret_stop 1 mpint _ (λ f. refl) c.in_ok-n.ensures.takes)
    (part_passes secret_stop (at 2 mpint) _ _ (field_takes secret_stop 2 mpint _ (λ f. refl) c.in_ok-e.ensures.takes)
    (part_passes secret_stop (at 3 mpint) _ _ (field_takes secret_stop 3 mpint _ (λ f. refl) c.in_ok-d.ensures.takes)
    (part_passes secret_stop (at 4 mpint) _ _ (field_takes secret_stop 4 mpint _ (λ f. refl) c.in_ok-iqmp.ensures.takes)
    (part_passes secret_stop (at 5 mpint) _ _ (field_takes secret_stop 5 mpint _ (λ f. refl) c.in_ok-p.ensures.takes)
    (part_stops secret_stop (at 6 mpint) _ _ (field_takes secret_stop 6 mpint _ (λ f. refl) c.in_err-q.ensures.takes)))))))

pub returns : goal.returns
unfolding private_rsa_fields
returns g c =
    part_passes secret_stop (at 1 mpint) _ _ (field_takes secret_stop 1 mpint _ (λ f. refl) c.in_ok-n.ensures.takes)
    (part_passes secret_stop (at 2 mpint) _ _ (field_takes secret_stop 2 mpint _ (λ f. refl) c.in_ok-e.ensures.takes)
    (part_passes secret_stop (at 3 mpint) _ _ (field_takes secret_stop 3 mpint _ (λ f. refl) c.in_ok-d.ensures.takes)
    (part_passes secret_stop (at 4 mpint) _ _ (field_takes secret_stop 4 mpint _ (λ f. refl) c.in_ok-iqmp.ensures.takes)
    (part_passes secret_stop (at 5 mpint) _ _ (field_takes secret_stop 5 mpint _ (λ f. refl) c.in_ok-p.ensures.takes)
    (part_passes secret_stop (at 6 mpint) _ _ (field_takes secret_stop 6 mpint _ (λ f. refl) c.in_ok-q.ensures.takes)
    (part_ends secret_stop _ _))))))
