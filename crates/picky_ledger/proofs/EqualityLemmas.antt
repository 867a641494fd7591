-- Two entries are equal exactly where their fields are.
use Rattle.std.specs.Prelude.{◌≡◌, ◌↔◌, IsTrue}
use Rattle.std.proofs.Common.{ap}
use Rattle.std.proofs.lemmas.Bool.Decides.{Decides-and, Decides-like}
use Rattle.picky_cert_parts.proofs.EqualityLemmas.{bytes_equal, number_equal}
use Rattle.picky_cert.proofs.EqualityLemmas.{certificate_equal}
use Rattle.picky_ledger.specs.contracts.entry.EntryPartialEq.TheImpl as whole
use Rattle.picky_ledger.specs.declared.entry.Entry.{Entry}

-- each field is the same
abbrev SameFields : Entry → Entry → Type 0
SameFields e d = ((e.id ≡ d.id) × ((e.serial ≡ d.serial) × ((e.request ≡ d.request) × (e.certificate ≡ d.certificate))))

same_entry : (e d : Entry) → SameFields e d → e ≡ d
same_entry e d (e0, (e1, (e2, e3))) = λ i. record {
  id = e0 i;
  serial = e1 i;
  request = e2 i;
  certificate = e3 i;
}

same_fields : (e d : Entry) → e ≡ d → SameFields e d
same_fields e d same =
    (ap (λ k. k.id) same, (ap (λ k. k.serial) same, (ap (λ k. k.request) same, ap (λ k. k.certificate) same)))

pub entries_equal : (e d : Entry) → IsTrue (whole.ghosts.eq e d) ↔ (e ≡ d)
entries_equal e d =
    Decides-like _ (same_entry e d) (same_fields e d)
    (Decides-and _ _ (bytes_equal e.id d.id)
    (Decides-and _ _ (number_equal e.serial d.serial)
    (Decides-and _ _ (bytes_equal e.request d.request) (certificate_equal e.certificate d.certificate))))
