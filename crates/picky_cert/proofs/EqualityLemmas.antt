-- Two certificates are equal exactly where their fields are, and two views where what they show is.
use Rattle.std.specs.Prelude.{◌≡◌, ◌↔◌, ◌&&◌, Bool, IsTrue, ℕ, Option, nat_eq}
use Rattle.std.specs.Option.{option_eq}
use Rattle.std.proofs.Common.{rules, ap}
use Rattle.std.proofs.lemmas.Bool.Decides.{Decides-and, Decides-like}
use Rattle.picky_wire_base.specs.contracts.view.PartPartialEq.TheImpl as place
use Rattle.picky_wire_base.specs.declared.view.Part.{Part}
use Rattle.picky_wire_base.specs.View.{part_shown}
use Rattle.picky_keys.specs.contracts.view.PublicViewPartialEq.TheImpl as seen
use Rattle.picky_keys.specs.declared.view.PublicView.{PublicView}
use Rattle.picky_keys.specs.View.{view_shown}
use Rattle.picky_cert_parts.specs.contracts.signature_format.SshSignatureFormatPartialEq.TheImpl as format
use Rattle.picky_cert_parts.specs.declared.signature_format.SshSignatureFormat.{SshSignatureFormat}
use Rattle.picky_cert_parts.specs.contracts.signature.SshSignaturePartialEq.TheImpl as signature
use Rattle.picky_cert_parts.specs.declared.signature.SshSignature.{SshSignature}
use Rattle.picky_cert_parts.proofs.EqualityLemmas.{bytes_equal, extensions_equal, key_equal, key_type_equal, moment_equal, number_equal}
use Rattle.picky_cert_parts.proofs.EqualityLemmas.{options_equal, texts_equal, type_equal}
use Rattle.picky_cert.specs.contracts.certificate.SshCertificatePartialEq.TheImpl as whole
use Rattle.picky_cert.specs.declared.certificate.SshCertificate.{SshCertificate}
use Rattle.picky_cert.specs.contracts.view.CertViewPartialEq.TheImpl as view
use Rattle.picky_cert.specs.declared.view.CertView.{CertView}
use Rattle.picky_cert.specs.Shown.{CertShown, cert_shown}

-- ---- the certificates

signature_equal : (a b : SshSignature) → IsTrue (signature.ghosts.eq a b) ↔ (a ≡ b)
signature_equal = search rules

-- each field is the same
abbrev SameFields : SshCertificate → SshCertificate → Type 0
SameFields c d =
    ((c.cert_key_type ≡ d.cert_key_type)
    × ((c.public_key ≡ d.public_key)
    × ((c.nonce ≡ d.nonce)
    × ((c.serial ≡ d.serial)
    × ((c.cert_type ≡ d.cert_type)
    × ((c.key_id ≡ d.key_id)
    × ((c.valid_principals ≡ d.valid_principals)
    × ((c.valid_after ≡ d.valid_after)
    × ((c.valid_before ≡ d.valid_before)
    × ((c.critical_options ≡ d.critical_options)
    × ((c.extensions ≡ d.extensions)
    × ((c.signature_key ≡ d.signature_key)
    × ((c.signature ≡ d.signature)
    × (c.comment ≡ d.comment))))))))))))))

same_certificate : (c d : SshCertificate) → SameFields c d → c ≡ d
same_certificate c d (e0, (e1, (e2, (e3, (e4, (e5, (e6, (e7, (e8, (e9, (e10, (e11, (e12, e13))))))))))))) = λ i. record {
  cert_key_type = e0 i;
  public_key = e1 i;
  nonce = e2 i;
  serial = e3 i;
  cert_type = e4 i;
  key_id = e5 i;
  valid_principals = e6 i;
  valid_after = e7 i;
  valid_before = e8 i;
  critical_options = e9 i;
  extensions = e10 i;
  signature_key = e11 i;
  signature = e12 i;
  comment = e13 i;
}

same_fields : (c d : SshCertificate) → c ≡ d → SameFields c d
same_fields c d same = (
  ap (λ k. k.cert_key_type) same,
  (
    ap (λ k. k.public_key) same,
    (
      ap (λ k. k.nonce) same,
      (
        ap (λ k. k.serial) same,
        (
          ap (λ k. k.cert_type) same,
          (
            ap (λ k. k.key_id) same,
            (
              ap (λ k. k.valid_principals) same,
              (
                ap (λ k. k.valid_after) same,
                (
                  ap (λ k. k.valid_before) same,
                  (
                    ap (λ k. k.critical_options) same,
                    (
                      ap (λ k. k.extensions) same,
                      (
                        ap (λ k. k.signature_key) same,
                        (
                          ap (λ k. k.signature) same,
                          ap (λ k. k.comment) same,
                        ),
                      ),
                    ),
                  ),
                ),
              ),
            ),
          ),
        ),
      ),
    ),
  ),
)

pub certificate_equal : (c d : SshCertificate) → IsTrue (whole.ghosts.eq c d) ↔ (c ≡ d)
certificate_equal c d =
    Decides-like _ (same_certificate c d) (same_fields c d)
    (Decides-and _ _ (key_type_equal c.cert_key_type d.cert_key_type)
    (Decides-and _ _ (key_equal c.public_key d.public_key)
    (Decides-and _ _ (bytes_equal c.nonce d.nonce)
    (Decides-and _ _ (number_equal c.serial d.serial)
    (Decides-and _ _ (type_equal c.cert_type d.cert_type)
    (Decides-and _ _ (bytes_equal c.key_id d.key_id)
    (Decides-and _ _ (texts_equal c.valid_principals d.valid_principals)
    (Decides-and _ _ (moment_equal c.valid_after d.valid_after)
    (Decides-and _ _ (moment_equal c.valid_before d.valid_before)
    (Decides-and _ _ (options_equal c.critical_options d.critical_options)
    (Decides-and _ _ (extensions_equal c.extensions d.extensions)
    (Decides-and _ _ (key_equal c.signature_key d.signature_key)
    (Decides-and _ _ (signature_equal c.signature d.signature)
    (bytes_equal c.comment d.comment))))))))))))))

-- ---- the fields of a view

place_equal : (a b : Part) → IsTrue (place.ghosts.eq a b) ↔ (part_shown a ≡ part_shown b)
place_equal = search rules

seen_equal : (a b : PublicView) → IsTrue (seen.ghosts.eq a b) ↔ (view_shown a ≡ view_shown b)
seen_equal = search rules

format_equal : (a b : SshSignatureFormat) → IsTrue (format.ghosts.eq a b) ↔ (a ≡ b)
format_equal = search rules

-- both numbers are equal
abbrev both_equal : ℕ × ℕ → ℕ × ℕ → Bool
both_equal a b = nat_eq a.0 b.0 && nat_eq a.1 b.1

sk_equal : (a b : Option (ℕ × ℕ)) → IsTrue (option_eq both_equal a b) ↔ (a ≡ b)
sk_equal = search rules

-- ---- the views

-- each field shows the same
abbrev SameShown : CertView → CertView → Type 0
SameShown v w =
    ((v.cert_key_type ≡ w.cert_key_type)
    × ((part_shown v.nonce ≡ part_shown w.nonce)
    × ((view_shown v.public_key ≡ view_shown w.public_key)
    × ((v.serial ≡ w.serial)
    × ((v.cert_type ≡ w.cert_type)
    × ((part_shown v.key_id ≡ part_shown w.key_id)
    × ((part_shown v.valid_principals ≡ part_shown w.valid_principals)
    × ((v.valid_after ≡ w.valid_after)
    × ((v.valid_before ≡ w.valid_before)
    × ((part_shown v.critical_options ≡ part_shown w.critical_options)
    × ((part_shown v.extensions ≡ part_shown w.extensions)
    × ((view_shown v.signature_key ≡ view_shown w.signature_key)
    × ((v.format ≡ w.format)
    × ((part_shown v.signature ≡ part_shown w.signature)
    × ((v.sk ≡ w.sk)
    × (part_shown v.signed ≡ part_shown w.signed))))))))))))))))

same_view : (v w : CertView) → SameShown v w → cert_shown v ≡ cert_shown w
same_view v w (e0, (e1, (e2, (e3, (e4, (e5, (e6, (e7, (e8, (e9, (e10, (e11, (e12, (e13, (e14, e15))))))))))))))) =
    λ i. (((e0 i, e1 i, e2 i), (e3 i, e4 i, e5 i, e6 i, e7 i, e8 i), (e9 i, e10 i, e11 i)), (e12 i, e13 i, e14 i), e15 i)

same_shown : (v w : CertView) → cert_shown v ≡ cert_shown w → SameShown v w
same_shown v w same =
    (ap (λ (s : CertShown). s.0.0.0) same, (ap (λ (s : CertShown). s.0.0.1) same, (ap (λ (s : CertShown). s.0.0.2) same, (ap (λ (s : CertShown). s.0.1.0) same, (ap (λ (s : CertShown). s.0.1.1) same, (ap (λ (s : CertShown). s.0.1.2) same, (ap (λ (s : CertShown). s.0.1.3) same, (ap (λ (s : CertShown). s.0.1.4) same, (ap (λ (s : CertShown). s.0.1.5) same, (ap (λ (s : CertShown). s.0.2.0) same, (ap (λ (s : CertShown). s.0.2.1) same, (ap (λ (s : CertShown). s.0.2.2) same, (ap (λ (s : CertShown). s.1.0) same, (ap (λ (s : CertShown). s.1.1) same, (ap (λ (s : CertShown). s.1.2) same, ap (λ (s : CertShown). s.2) same)))))))))))))))

pub view_equal : (v w : CertView) → IsTrue (view.ghosts.eq v w) ↔ (cert_shown v ≡ cert_shown w)
view_equal v w =
    Decides-like _ (same_view v w) (same_shown v w)
    (Decides-and _ _ (key_type_equal v.cert_key_type w.cert_key_type)
    (Decides-and _ _ (place_equal v.nonce w.nonce)
    (Decides-and _ _ (seen_equal v.public_key w.public_key)
    (Decides-and _ _ (number_equal v.serial w.serial)
    (Decides-and _ _ (type_equal v.cert_type w.cert_type)
    (Decides-and _ _ (place_equal v.key_id w.key_id)
    (Decides-and _ _ (place_equal v.valid_principals w.valid_principals)
    (Decides-and _ _ (moment_equal v.valid_after w.valid_after)
    (Decides-and _ _ (moment_equal v.valid_before w.valid_before)
    (Decides-and _ _ (place_equal v.critical_options w.critical_options)
    (Decides-and _ _ (place_equal v.extensions w.extensions)
    (Decides-and _ _ (seen_equal v.signature_key w.signature_key)
    (Decides-and _ _ (format_equal v.format w.format)
    (Decides-and _ _ (place_equal v.signature w.signature)
    (Decides-and _ _ (sk_equal v.sk w.sk)
    (place_equal v.signed w.signed))))))))))))))))
