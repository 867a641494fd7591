-- What is signed binds all that a certificate says, and is seen before its signature.
use Rattle.std.specs.Prelude.{◌≡◌, List, ℕ, ◌++◌, Ok, length, take, drop}
use Rattle.std.proofs.Common.{◌∙◌, sym, ap, arith, refl}
use Rattle.std.proofs.Math.Seq.{take-append_seam}
use Rattle.std.proofs.lemmas.List.{length-append}
use Rattle.picky_wire_base.specs.Grammar.{Grammar}
use Rattle.picky_wire_base.specs.carried.Outcome.{and_then_ok, same_pair}
use Rattle.picky_cert_blob.specs.Layout.{body, signature_part}
use Rattle.picky_cert_blob.proofs.SignedLaws.{read_bodies_bind}
use Rattle.picky_cert_blob.proofs.SpellLaws.{body_reads_back}
use Rattle.picky_cert.specs.declared.certificate.SshCertificate.{SshCertificate}
use Rattle.picky_cert.specs.declared.view.CertView.{CertView}
use Rattle.picky_cert.specs.Certificate.{certificate, certified, said, signed_in}
use Rattle.picky_cert.specs.Keeps.{IsCertificate, IsWellFormed}
use Rattle.picky_cert.specs.Spelled.{signed_of}
use Rattle.picky_cert.specs.View.{CertLies}

-- what is said stands in front
said_in_front : (blob : List ℕ) (c : SshCertificate) (rest : List ℕ) → certificate.read blob ≡ Ok (c, rest)
    → (behind : List ℕ) × (body.read blob ≡ Ok (said c, behind))
unfolding certificate
said_in_front blob c rest read =
    let step = and_then_ok (body.read blob) _ (c, rest) read in
    let next = and_then_ok (signature_part.read step.0.1) _ (c, rest) step.2 in
    let made = (same_pair _ (certified step.0.0 next.0.0) c next.0.1 rest refl next.2).0 in
    (step.0.1, step.1 ∙ ap (λ v. Ok (said v, step.0.1)) made)

pub signed_binds : (x y : List ℕ) (c d : SshCertificate) (r s more : List ℕ) → certificate.read x ≡ Ok (c, r)
    → certificate.read y ≡ Ok (d, s) → signed_in y ≡ signed_in x ++ more → said c ≡ said d
signed_binds x y c d r s more read_c read_d same =
    let of_c = said_in_front x c r read_c in
    let of_d = said_in_front y d s read_d in
    read_bodies_bind x y (said c) (said d) of_c.0 of_d.0 more of_c.1 of_d.1 same

-- ---- what is seen as signed

-- A view's part is all bytes before the signature.
pub signed_part_is_front : (blob : List ℕ) (view : CertView) → CertLies blob view → view.signed.bytes.now ≡ signed_in blob
signed_part_is_front blob view lies =
    let at_front = lies.2 in
    let part = lies.3 in
    let len : length view.signed.bytes.now ≡ body.used blob = omega (arith, part.ends, at_front) in
    part.are ∙ ap (λ n. take (length view.signed.bytes.now) (drop n blob)) at_front ∙ ap (λ n. take n blob) len

-- bytes in front that are read as a value
front_is_taken : {E A : Type 0} (G : Grammar E A) (front more : List ℕ) (v : A) → G.read (front ++ more) ≡ Ok (v, more)
    → take (G.used (front ++ more)) (front ++ more) ≡ front
front_is_taken G front more v read =
    let takes = G.takes (front ++ more) v more read in
    let len : G.used (front ++ more) ≡ length front = omega (arith, takes, length-append front more) in
    ap (λ n. take n (front ++ more)) len ∙ take-append_seam front more

-- Of a certificate that is written these are its signed bytes.
pub written_is_seen : (c : SshCertificate) (more : List ℕ) → IsCertificate c → IsWellFormed c
    → signed_in (signed_of c ++ more) ≡ signed_of c
unfolding signed_of
written_is_seen c more is formed =
    front_is_taken body (signed_of c) more (said c) (body_reads_back (said c) more is.said formed)

pub ruleset seen_laws = (signed_part_is_front, written_is_seen)
