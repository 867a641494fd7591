-- What a certificate's view shows: its values, and its parts with their places.
use Rattle.std.specs.Prelude.{ℕ, Option}
use Rattle.picky_wire_base.specs.View.{part_shown}
use Rattle.picky_cert_parts.specs.declared.signature_format.SshSignatureFormat.{SshSignatureFormat}
use Rattle.picky_cert_blob.specs.Shown.{BodyShown, Placed, body_shown, signature_shown}
use Rattle.picky_cert.specs.declared.view.CertView.{CertView}
use Rattle.picky_cert.specs.View.{body_in, signature_in}

abbrev pub CertShown : Type 0
CertShown = BodyShown × (SshSignatureFormat × Placed × Option (ℕ × ℕ)) × Placed

-- what is signed, the signature, and the signed bytes
abbrev pub cert_shown : CertView → CertShown
cert_shown view = (body_shown (body_in view), signature_shown (signature_in view), part_shown view.signed)
