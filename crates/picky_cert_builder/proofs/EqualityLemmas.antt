-- What is asked of two certificates is equal exactly where its fields are.
use Rattle.std.specs.Prelude.{◌≡◌, ◌↔◌, IsTrue}
use Rattle.std.proofs.Common.{rules, ap}
use Rattle.std.proofs.lemmas.Bool.Decides.{Decides-and, Decides-like}
use Rattle.picky_cert_parts.proofs.EqualityLemmas.{algorithm_equal, bytes_equal, extensions_equal, key_equal, key_type_equal, may_equal}
use Rattle.picky_cert_parts.proofs.EqualityLemmas.{moment_equal, number_equal, options_equal, texts_equal, type_equal}
use Rattle.picky_cert_builder.specs.contracts.builder.SshCertificateBuilderPartialEq.TheImpl as whole
use Rattle.picky_cert_builder.specs.contracts.issuer.IssuerKeyPartialEq.TheImpl as issuer
use Rattle.picky_cert_builder.specs.declared.builder.SshCertificateBuilder.{SshCertificateBuilder}
use Rattle.picky_cert_builder.specs.declared.issuer.IssuerKey.{IssuerKey}

issuer_equal : (a b : IssuerKey) → IsTrue (issuer.ghosts.eq a b) ↔ (a ≡ b)
issuer_equal = search rules

-- each field is the same
abbrev SameFields : SshCertificateBuilder → SshCertificateBuilder → Type 0
SameFields b d =
    ((b.cert_key_type ≡ d.cert_key_type)
    × ((b.public_key ≡ d.public_key)
    × ((b.serial ≡ d.serial)
    × ((b.cert_type ≡ d.cert_type)
    × ((b.key_id ≡ d.key_id)
    × ((b.valid_principals ≡ d.valid_principals)
    × ((b.valid_after ≡ d.valid_after)
    × ((b.valid_before ≡ d.valid_before)
    × ((b.critical_options ≡ d.critical_options)
    × ((b.extensions ≡ d.extensions)
    × ((b.issuer ≡ d.issuer)
    × ((b.signature_algo ≡ d.signature_algo)
    × (b.comment ≡ d.comment)))))))))))))

same_builder : (b d : SshCertificateBuilder) → SameFields b d → b ≡ d
same_builder b d (e0, (e1, (e2, (e3, (e4, (e5, (e6, (e7, (e8, (e9, (e10, (e11, e12)))))))))))) = λ i. record {
  cert_key_type = e0 i;
  public_key = e1 i;
  serial = e2 i;
  cert_type = e3 i;
  key_id = e4 i;
  valid_principals = e5 i;
  valid_after = e6 i;
  valid_before = e7 i;
  critical_options = e8 i;
  extensions = e9 i;
  issuer = e10 i;
  signature_algo = e11 i;
  comment = e12 i;
}

same_fields : (b d : SshCertificateBuilder) → b ≡ d → SameFields b d
same_fields b d same = (
  ap (λ k. k.cert_key_type) same,
  (
    ap (λ k. k.public_key) same,
    (
      ap (λ k. k.serial) same,
      (
        ap (λ k. k.cert_type) same,
        (
          ap (λ k. k.key_id) same,
          (
            ap (λ k. k.valid_principals) same,
            (
              ap (λ k. k.valid_after) same,
              (
                ap (λ k. k.valid_before) same,
                (
                  ap (λ k. k.critical_options) same,
                  (
                    ap (λ k. k.extensions) same,
                    (
                      ap (λ k. k.issuer) same,
                      (
                        ap (λ k. k.signature_algo) same,
                        ap (λ k. k.comment) same,
                      ),
                    ),
                  ),
                ),
              ),
            ),
          ),
        ),
      ),
    ),
  ),
)

pub builder_equal : (b d : SshCertificateBuilder) → IsTrue (whole.ghosts.eq b d) ↔ (b ≡ d)
builder_equal b d =
    Decides-like _ (same_builder b d) (same_fields b d)
    (Decides-and _ _ (may_equal _ key_type_equal b.cert_key_type d.cert_key_type)
    (Decides-and _ _ (may_equal _ key_equal b.public_key d.public_key)
    (Decides-and _ _ (may_equal _ number_equal b.serial d.serial)
    (Decides-and _ _ (may_equal _ type_equal b.cert_type d.cert_type)
    (Decides-and _ _ (may_equal _ bytes_equal b.key_id d.key_id)
    (Decides-and _ _ (may_equal _ texts_equal b.valid_principals d.valid_principals)
    (Decides-and _ _ (may_equal _ moment_equal b.valid_after d.valid_after)
    (Decides-and _ _ (may_equal _ moment_equal b.valid_before d.valid_before)
    (Decides-and _ _ (may_equal _ options_equal b.critical_options d.critical_options)
    (Decides-and _ _ (may_equal _ extensions_equal b.extensions d.extensions)
    (Decides-and _ _ (may_equal _ issuer_equal b.issuer d.issuer)
    (Decides-and _ _ (may_equal _ algorithm_equal b.signature_algo d.signature_algo)
    (may_equal _ bytes_equal b.comment d.comment)))))))))))))
