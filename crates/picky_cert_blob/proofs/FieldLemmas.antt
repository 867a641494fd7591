-- Lemmas on the fields of a certificate, seen at their places.
use Rattle.std.specs.Prelude.{◌≡◌, List, ℕ, drop, Some, Result, Ok, Err}
use Rattle.std.proofs.Common.{ap}
use Rattle.picky_wire_base.specs.Flaw.{Reason, Why}
use Rattle.picky_wire_base.specs.Grammar.{Grammar}
use Rattle.picky_wire_base.specs.Outcome.{map_err}
use Rattle.picky_wire_base.specs.Table.{find_entry}
use Rattle.picky_wire_base.specs.carried.Table.{found_has_key}
use Rattle.picky_cert_parts.specs.declared.cert_key_type.SshCertKeyType.{SshCertKeyType}
use Rattle.picky_cert_parts.specs.CertNames.{cert_key_type_name}
use Rattle.picky_cert_parts.specs.CertNameTables.{cert_key_types}
use Rattle.picky_wire_base.specs.declared.view.Stuck.{Stuck}
use Rattle.picky_wire_base.specs.View.{Seen, why_in, why_of}
use Rattle.picky_cert_blob.specs.declared.part.CertPart.{CertPart}
use Rattle.picky_cert_blob.specs.Reason.{in_key, within}
use Rattle.picky_wire_base.specs.View.{SeenAt}

in_key_why : {A : Type 0} (part : CertPart) (r : Result A Reason) (why : Why) → map_err why_in r ≡ Err why
    → map_err (in_key part) r ≡ Err (part, why)
in_key_why part (Ok x) why is = cc is
in_key_why part (Err e) why is =
    let same : e.1 ≡ why = cc is in
    ap (λ w. Err (part, w)) same

in_key_read : {A : Type 0} (part : CertPart) (r : Result (A × List ℕ) Reason) (x : A × List ℕ) → r ≡ Ok x
    → map_err (in_key part) r ≡ Ok x
in_key_read part r x is = ap (map_err (in_key part)) is

pub key_in_part_seen : {X A : Type 0} (part : CertPart) (shows : X → A) (lies : X → Type 0) (layout : Grammar Reason A)
    (from next : ℕ) (blob : List ℕ) (x : X) → Seen shows lies why_in layout blob from (Ok (x, next))
    → SeenAt shows lies (within part layout) blob from (Ok (x, next))
key_in_part_seen part shows lies layout from next blob x seen = record {
  sees = in_key_read part (layout.read (drop from blob)) (shows x, drop next blob) seen.sees;
  placed = seen.placed;
}

pub key_in_part_stuck : {X A : Type 0} (part : CertPart) (shows : X → A) (lies : X → Type 0) (layout : Grammar Reason A)
    (from : ℕ) (blob : List ℕ) (stuck : Stuck) → Seen {X = X} shows lies why_in layout blob from (Err stuck)
    → SeenAt {X = X} shows lies (within part layout) blob from (Err (record { place = part; stuck = stuck }))
key_in_part_stuck part shows lies layout from blob stuck seen = record {
  sees = in_key_why part (layout.read (drop from blob)) (why_of stuck) seen.sees;
  placed = seen.placed;
}

pub ruleset key_in_part = (key_in_part_seen, key_in_part_stuck)

-- the type that is found for a name has it
pub type_has_name : (name : List ℕ) (t : SshCertKeyType) → find_entry cert_key_types name ≡ Some t → cert_key_type_name t ≡ name
unfolding cert_key_types
type_has_name name t found = found_has_key cert_key_types name t found
