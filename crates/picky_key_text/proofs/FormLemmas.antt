-- Lemmas on the first word of a text.
use Rattle.std.specs.Prelude.{◌≡◌, false, is_some, List, ℕ, IsUtf8}
use Rattle.std.proofs.Common.{ap, sym, ◌∙◌, subst}
use Rattle.picky_wire_base.proofs.Table.{none_is_found}
use Rattle.picky_wire_base.specs.Table.{find_entry}
use Rattle.picky_cert_parts.specs.CertNameTables.{cert_key_types}
use Rattle.picky_cert_parts.proofs.TypeNameLaws.{cert_key_type_name_utf8, cert_key_type_has_name}

-- bytes that aren't UTF-8 name no type of certificates
pub no_text_is_no_type : (word : List ℕ) → (IsUtf8 word → ⊥) → is_some (find_entry cert_key_types word) ≡ false
no_text_is_no_type word other =
    ap is_some (none_is_found cert_key_types word (λ t has.
    other (subst IsUtf8 (sym (cert_key_type_has_name t) ∙ has) (cert_key_type_name_utf8 t))))
