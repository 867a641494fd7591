-- A certificate that is read keeps the ranges of its parts, and its type is for its subject's key.
use Rattle.std.specs.Prelude.{◌≡◌, List, [], ◌++◌, ℕ, drop, IfOk, Result, Ok, Err}
use Rattle.std.proofs.Common.{sym, ap, ◌∙◌, subst, refl, arith}
use Rattle.std.proofs.lemmas.List.{append-nil}
use Rattle.std.proofs.lemmas.Str.{IsUtf8-nil}
use Rattle.picky_wire_base.specs.Numbers.{IsBytes}
use Rattle.picky_wire_base.proofs.Numbers.{bytes_in_front, bytes_behind}
use Rattle.picky_keys.specs.Key.{IsText}
use Rattle.picky_keys.proofs.ByteLaws.{no_bytes}
use Rattle.picky_cert_parts.specs.declared.signature.SshSignature.{SshSignature}
use Rattle.picky_cert_parts.specs.Signature.{IsSignature, signature}
use Rattle.picky_cert_parts.proofs.SpellingLaws.{signature_keeps}
use Rattle.picky_cert_blob.specs.declared.part.CertPart.{CertPart}
use Rattle.picky_cert_blob.specs.Keeps.{FitsSubject}
use Rattle.picky_cert_blob.specs.Layout.{Body, body, signature_part}
use Rattle.picky_wire_base.specs.View.{SeenAt}
use Rattle.picky_wire_base.specs.declared.stopped.Stopped.{Stopped}
use Rattle.picky_cert_blob.proofs.KeepLaws.{body_keeps}
use Rattle.picky_cert.specs.declared.certificate.SshCertificate.{SshCertificate}
use Rattle.picky_cert.specs.declared.view.CertView.{CertView}
use Rattle.picky_cert.specs.Certificate.{certificate, certified, said}
use Rattle.picky_cert.specs.Keeps.{IsCertificate}
use Rattle.picky_cert.specs.View.{cert_seen, CertLies}

no_text : IsText []
no_text = record { string = record { bytes = no_bytes; short = omega arith }; utf8 = IsUtf8-nil }

signature_part_keeps : (s : SshSignature) (bytes : List ℕ) → IsBytes bytes → signature_part.piece s bytes → IsSignature s
unfolding signature_part
signature_part_keeps s bytes each spells =
    signature_keeps (bytes ++ []) s [] (subst IsBytes (sym (append-nil bytes)) each) (signature.complete s bytes [] spells)

-- the two pieces of a certificate's: what is signed, and the signature
pub record CertPiece (c : SshCertificate) (bytes : List ℕ) : Type 0 where
  pub signed : List ℕ
  pub behind : List ℕ
  pub body : body.piece (said c) signed
  pub signature : signature_part.piece c.signature behind
  pub bare : certified (said c) c.signature ≡ c
  pub are : bytes ≡ signed ++ behind

made_piece : (b : Body) (s : SshSignature) (signed behind bytes : List ℕ) → body.piece b signed → signature_part.piece s behind
    → bytes ≡ signed ++ behind → CertPiece (certified b s) bytes
made_piece b s signed behind bytes body_is signature_is are = record {
  signed = signed;
  behind = behind;
  body = body_is;
  signature = signature_is;
  bare = refl;
  are = are;
}

pub cert_piece : (c : SshCertificate) (bytes : List ℕ) → certificate.piece c bytes → CertPiece c bytes
unfolding certificate
cert_piece c bytes (b, x, y, b_is, (s, z, w, s_is, (is, none), inner), outer) =
    subst (λ v. CertPiece v bytes) (sym is)
    (made_piece b s x z bytes b_is s_is (outer ∙ ap (λ r. x ++ r) (inner ∙ ap (λ r. z ++ r) none ∙ append-nil z)))

-- What bytes spell keeps its ranges, and is of a type for its subject's key.
pub spelled_keeps : (c : SshCertificate) (bytes : List ℕ) → IsBytes bytes → certificate.piece c bytes
    → IsCertificate c × FitsSubject (said c).head
spelled_keeps c bytes each spells =
    let piece = cert_piece c bytes spells in
    let whole = subst IsBytes piece.are each in
    let kept = body_keeps (said c) piece.signed (bytes_in_front piece.signed piece.behind whole) piece.body in (
      record {
        said = kept.0;
        signature = signature_part_keeps c.signature piece.behind (bytes_behind piece.signed piece.behind whole) piece.signature;
        comment = subst IsText (ap (λ v. v.comment) piece.bare) no_text;
      },
      kept.1,
    )

-- So does what is read.
read_keeps : (bytes : List ℕ) (c : SshCertificate) (rest : List ℕ) → IsBytes bytes → certificate.read bytes ≡ Ok (c, rest)
    → IsCertificate c × FitsSubject (said c).head
read_keeps bytes c rest each read =
    let fits = certificate.sound bytes c rest read in
    spelled_keeps c fits.0 (bytes_in_front fits.0 rest (subst IsBytes fits.2 each)) fits.1

pub read_is_certificate : (bytes : List ℕ) (c : SshCertificate) (rest : List ℕ) → IsBytes bytes
    → certificate.read bytes ≡ Ok (c, rest) → IsCertificate c
read_is_certificate bytes c rest each read = (read_keeps bytes c rest each read).0

pub read_fits_subject : (bytes : List ℕ) (c : SshCertificate) (rest : List ℕ) → IsBytes bytes
    → certificate.read bytes ≡ Ok (c, rest) → FitsSubject (said c).head
read_fits_subject bytes c rest each read = (read_keeps bytes c rest each read).1

-- So does what is seen.
pub seen_is_certificate : (bytes : List ℕ) (r : Result (CertView × ℕ) (Stopped CertPart)) → IsBytes bytes
    → SeenAt cert_seen (CertLies bytes) certificate bytes 0 r → IfOk r (λ found. IsCertificate (cert_seen found.0))
seen_is_certificate bytes (Ok (view, next)) each seen =
    read_is_certificate bytes (cert_seen view) (drop next bytes) each seen.sees
seen_is_certificate bytes (Err stopped) each seen = tt
