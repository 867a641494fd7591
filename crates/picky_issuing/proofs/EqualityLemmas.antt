-- What is asked of two certificates is equal exactly where its fields are.
use Rattle.std.specs.Prelude.{◌≡◌, ◌↔◌, IsTrue}
use Rattle.std.proofs.Common.{ap}
use Rattle.std.proofs.lemmas.Bool.Decides.{Decides-and, Decides-like}
use Rattle.picky_cert_parts.proofs.EqualityLemmas.{algorithm_equal, bytes_equal, extensions_equal, key_type_equal, may_equal, moment_equal}
use Rattle.picky_cert_parts.proofs.EqualityLemmas.{number_equal, options_equal, texts_equal, type_equal}
use Rattle.picky_issuing.specs.contracts.options.CertOptionsPartialEq.TheImpl as whole
use Rattle.picky_issuing.specs.declared.options.CertOptions.{CertOptions}

-- each field is the same
abbrev SameFields : CertOptions → CertOptions → Type 0
SameFields c d =
    ((c.cert_key_type ≡ d.cert_key_type)
    × ((c.cert_type ≡ d.cert_type)
    × ((c.serial ≡ d.serial)
    × ((c.key_id ≡ d.key_id)
    × ((c.principals ≡ d.principals)
    × ((c.valid_after ≡ d.valid_after)
    × ((c.valid_before ≡ d.valid_before)
    × ((c.critical_options ≡ d.critical_options)
    × ((c.extensions ≡ d.extensions)
    × (c.signature_algo ≡ d.signature_algo))))))))))

same_options : (c d : CertOptions) → SameFields c d → c ≡ d
same_options c d (e0, (e1, (e2, (e3, (e4, (e5, (e6, (e7, (e8, e9))))))))) = λ i. record {
  cert_key_type = e0 i;
  cert_type = e1 i;
  serial = e2 i;
  key_id = e3 i;
  principals = e4 i;
  valid_after = e5 i;
  valid_before = e6 i;
  critical_options = e7 i;
  extensions = e8 i;
  signature_algo = e9 i;
}

same_fields : (c d : CertOptions) → c ≡ d → SameFields c d
same_fields c d same = (
  ap (λ k. k.cert_key_type) same,
  (
    ap (λ k. k.cert_type) same,
    (
      ap (λ k. k.serial) same,
      (
        ap (λ k. k.key_id) same,
        (
          ap (λ k. k.principals) same,
          (
            ap (λ k. k.valid_after) same,
            (
              ap (λ k. k.valid_before) same,
              (
                ap (λ k. k.critical_options) same,
                (
                  ap (λ k. k.extensions) same,
                  ap (λ k. k.signature_algo) same,
                ),
              ),
            ),
          ),
        ),
      ),
    ),
  ),
)

pub cert_options_equal : (c d : CertOptions) → IsTrue (whole.ghosts.eq c d) ↔ (c ≡ d)
cert_options_equal c d =
    Decides-like _ (same_options c d) (same_fields c d)
    (Decides-and _ _ (may_equal _ key_type_equal c.cert_key_type d.cert_key_type)
    (Decides-and _ _ (may_equal _ type_equal c.cert_type d.cert_type)
    (Decides-and _ _ (may_equal _ number_equal c.serial d.serial)
    (Decides-and _ _ (may_equal _ bytes_equal c.key_id d.key_id)
    (Decides-and _ _ (texts_equal c.principals d.principals)
    (Decides-and _ _ (may_equal _ moment_equal c.valid_after d.valid_after)
    (Decides-and _ _ (may_equal _ moment_equal c.valid_before d.valid_before)
    (Decides-and _ _ (options_equal c.critical_options d.critical_options)
    (Decides-and _ _ (extensions_equal c.extensions d.extensions)
    (may_equal _ algorithm_equal c.signature_algo d.signature_algo))))))))))
