-- What each view of a certificate's parts shows: its values, and its parts with their places.
use Rattle.std.specs.Prelude.{List, ℕ, Option}
use Rattle.picky_wire_base.specs.Flaw.{Why}
use Rattle.picky_wire.specs.declared.timestamp.Timestamp.{Timestamp}
use Rattle.picky_wire_base.specs.View.{part_shown, stuck_shown}
use Rattle.picky_keys.specs.declared.key.SshBasePublicKey.{SshBasePublicKey}
use Rattle.picky_keys.specs.View.{view_shown}
use Rattle.picky_cert_parts.specs.declared.cert_key_type.SshCertKeyType.{SshCertKeyType}
use Rattle.picky_cert_parts.specs.declared.signature_format.SshSignatureFormat.{SshSignatureFormat}
use Rattle.picky_cert_parts.specs.declared.cert_type.SshCertType.{SshCertType}
use Rattle.picky_cert_blob.specs.declared.body.BodyView.{BodyView}
use Rattle.picky_cert_blob.specs.declared.grants.GrantsView.{GrantsView}
use Rattle.picky_cert_blob.specs.declared.head.HeadView.{HeadView}
use Rattle.picky_cert_blob.specs.declared.part.CertPart.{CertPart}
use Rattle.picky_cert_blob.specs.declared.signature.SignatureView.{SignatureView}
use Rattle.picky_wire_base.specs.declared.stopped.Stopped.{Stopped}
use Rattle.picky_cert_blob.specs.declared.terms.TermsView.{TermsView}

-- where a part stands, and its bytes
abbrev pub Placed : Type 0
Placed = ℕ × List ℕ

abbrev pub head_shown : HeadView → SshCertKeyType × Placed × (SshBasePublicKey × List ℕ)
head_shown view = (view.cert_key_type, part_shown view.nonce, view_shown view.key)

abbrev pub terms_shown : TermsView → ℕ × SshCertType × Placed × Placed × Timestamp × Timestamp
terms_shown view =
    (view.serial, view.cert_type, part_shown view.key_id, part_shown view.principals, view.after, view.before)

abbrev pub grants_shown : GrantsView → Placed × Placed × (SshBasePublicKey × List ℕ)
grants_shown view = (part_shown view.options, part_shown view.extensions, view_shown view.issuer)

abbrev pub signature_shown : SignatureView → SshSignatureFormat × Placed × Option (ℕ × ℕ)
signature_shown view = (view.format, part_shown view.payload, view.sk)

abbrev pub BodyShown : Type 0
BodyShown =
    (SshCertKeyType × Placed × (SshBasePublicKey × List ℕ)) × (ℕ × SshCertType × Placed × Placed × Timestamp × Timestamp)
    × (Placed × Placed × (SshBasePublicKey × List ℕ))

abbrev pub body_shown : BodyView → BodyShown
body_shown view = (head_shown view.head, terms_shown view.terms, grants_shown view.grants)
