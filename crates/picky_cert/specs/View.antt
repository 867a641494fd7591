-- What a certificate's view shows, and where its parts lie.
use Rattle.std.specs.Prelude.{◌≡◌, List, ℕ}
use Rattle.picky_wire.specs.Principals.{IsPrincipal}
use Rattle.picky_wire_base.specs.View.{Lies, end_of}
use Rattle.picky_wire_base.specs.declared.view.Stuck.{Stuck}
use Rattle.picky_wire_base.specs.declared.view.Stuck.TheVariants as stucks
use Rattle.picky_cert_blob.specs.declared.part.CertPart.{CertPart}
use Rattle.picky_cert_blob.specs.declared.body.BodyView.{BodyView}
use Rattle.picky_cert.specs.declared.certificate.SshCertificate.{SshCertificate}
use Rattle.picky_cert_blob.specs.declared.signature.SignatureView.{SignatureView}
use Rattle.picky_wire_base.specs.declared.stopped.Stopped.{Stopped}
use Rattle.picky_cert.specs.declared.view.CertView.{CertView}
use Rattle.picky_cert.specs.Certificate.{certified}
use Rattle.picky_cert_blob.specs.Layout.{body}
use Rattle.picky_cert_blob.specs.CertSeen.{BodyLies, SignatureLies, body_seen, signature_seen}

-- what is signed
abbrev pub body_in : CertView → BodyView
body_in view = record {
  head = record { cert_key_type = view.cert_key_type; nonce = view.nonce; key = view.public_key };
  terms = record {
    serial = view.serial;
    cert_type = view.cert_type;
    key_id = view.key_id;
    principals = view.valid_principals;
    after = view.valid_after;
    before = view.valid_before;
  };
  grants = record { options = view.critical_options; extensions = view.extensions; issuer = view.signature_key };
}

abbrev pub signature_in : CertView → SignatureView
signature_in view = record { format = view.format; payload = view.signature; sk = view.sk }

-- the certificate that the parts make
abbrev pub cert_seen : CertView → SshCertificate
cert_seen view = certified (body_seen (body_in view)) (signature_seen (signature_in view))

-- each part lies where its field ends, and all bytes before the signature are signed
abbrev pub CertLies : List ℕ → CertView → Type 0
CertLies blob view =
    let signed_end = end_of body blob 0 in
    BodyLies blob 0 (body_in view) × SignatureLies blob signed_end (signature_in view) × (view.signed.at ≡ 0)
    × Lies blob signed_end view.signed

-- ---- a part that doesn't fit

-- a name that is refused is text
abbrev pub NamesPrincipal : Stuck → Type 0
NamesPrincipal (stucks.Name name) = IsPrincipal name.bytes.now
NamesPrincipal stuck = Unit {0}

abbrev pub IsCertRefusal : Stopped CertPart → Type 0
IsCertRefusal stopped = NamesPrincipal stopped.stuck
