-- A key fits a type of certificates exactly where the type is for the key's kind.
use Rattle.std.specs.Prelude.{◌≡◌, ◌↔◌, true, Option, Some, None}
use Rattle.std.proofs.Common.{refl, sym, ◌∙◌, ap}
use Rattle.std.proofs.lemmas.Slice.Eq.{bytes_eq-Decides}
use Rattle.picky_wire_base.specs.Table.{find_entry}
use Rattle.picky_keys.specs.declared.kind.KeyKind.{KeyKind}
use Rattle.picky_keys.specs.KeyNames.{kind_name}
use Rattle.picky_keys.specs.KeyNameTables.{key_types}
use Rattle.picky_keys.proofs.KeyNames.{kind_of_name}
use Rattle.picky_keys.specs.declared.key.SshBasePublicKey.{SshBasePublicKey}
use Rattle.picky_keys.specs.Key.{kind_of}
use Rattle.picky_cert_parts.specs.declared.cert_key_type.SshCertKeyType.{SshCertKeyType}
use Rattle.picky_cert_blob.specs.Subject.{subject_kind, is_for, fits_subject}

-- kinds of one name are one kind
one_kind : (k l : KeyKind) → kind_name k ≡ kind_name l → k ≡ l
one_kind k l same =
    let both : Some k ≡ Some l = sym (kind_of_name k) ∙ ap (find_entry key_types) same ∙ kind_of_name l in
    cc both

kind_is_it : (kind : Option KeyKind) (other : KeyKind) → is_for kind other ≡ true → kind ≡ Some other
kind_is_it (Some kind) other fits = ap Some (one_kind kind other ((bytes_eq-Decides (kind_name kind) (kind_name other)).0 fits))
kind_is_it None other fits = cc fits

pub fits_where_kind : (t : SshCertKeyType) (key : SshBasePublicKey)
    → (fits_subject t key ≡ true) ↔ (subject_kind t ≡ Some (kind_of key))
fits_where_kind t key = (
  kind_is_it (subject_kind t) (kind_of key),
  λ same. ap (λ kind. is_for kind (kind_of key)) same ∙ (bytes_eq-Decides (kind_name (kind_of key)) (kind_name (kind_of key))).1 refl,
)
