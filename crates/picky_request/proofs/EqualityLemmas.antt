-- Two requests are equal exactly where their fields are.
use Rattle.std.specs.Prelude.{◌≡◌, ◌↔◌, IsTrue}
use Rattle.std.proofs.Common.{ap}
use Rattle.std.proofs.lemmas.Bool.Decides.{Decides-and, Decides-like}
use Rattle.picky_cert_parts.proofs.EqualityLemmas.{bytes_equal, key_equal, moment_equal, texts_equal, type_equal}
use Rattle.picky_request.specs.contracts.request.CertRequestLinePartialEq.TheImpl as whole
use Rattle.picky_request.specs.declared.request.CertRequestLine.{CertRequestLine}

-- each field is the same
abbrev SameFields : CertRequestLine → CertRequestLine → Type 0
SameFields r s =
    ((r.id ≡ s.id)
    × ((r.cert_type ≡ s.cert_type)
    × ((r.principals ≡ s.principals)
    × ((r.valid_after ≡ s.valid_after)
    × ((r.valid_before ≡ s.valid_before)
    × (r.key ≡ s.key))))))

same_request : (r s : CertRequestLine) → SameFields r s → r ≡ s
same_request r s (e0, (e1, (e2, (e3, (e4, e5))))) = λ i. record {
  id = e0 i;
  cert_type = e1 i;
  principals = e2 i;
  valid_after = e3 i;
  valid_before = e4 i;
  key = e5 i;
}

same_fields : (r s : CertRequestLine) → r ≡ s → SameFields r s
same_fields r s same = (
  ap (λ k. k.id) same,
  (
    ap (λ k. k.cert_type) same,
    (
      ap (λ k. k.principals) same,
      (ap (λ k. k.valid_after) same, (ap (λ k. k.valid_before) same, ap (λ k. k.key) same)),
    ),
  ),
)

pub requests_equal : (r s : CertRequestLine) → IsTrue (whole.ghosts.eq r s) ↔ (r ≡ s)
requests_equal r s =
    Decides-like _ (same_request r s) (same_fields r s)
    (Decides-and _ _ (bytes_equal r.id s.id)
    (Decides-and _ _ (type_equal r.cert_type s.cert_type)
    (Decides-and _ _ (texts_equal r.principals s.principals)
    (Decides-and _ _ (moment_equal r.valid_after s.valid_after)
    (Decides-and _ _ (moment_equal r.valid_before s.valid_before) (key_equal r.key s.key))))))
