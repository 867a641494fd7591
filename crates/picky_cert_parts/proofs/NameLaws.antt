-- The entries of the tables and their names.
use Rattle.std.specs.Prelude.{◌≡◌, List, ℕ, Some}
use Rattle.picky_wire_base.specs.Table.{find_entry}
use Rattle.picky_wire_base.specs.carried.Table.{found_has_key}
use Rattle.picky_cert_parts.specs.CertNameTables.{cert_key_types, option_types, signature_formats}
use Rattle.picky_cert_parts.specs.CertNames.{cert_key_type_name, option_name, format_name}
use Rattle.picky_cert_parts.specs.carried.CertNames.{own_cert_key_type, own_option, own_format}
use Rattle.picky_cert_parts.specs.declared.cert_key_type.SshCertKeyType.{SshCertKeyType}
use Rattle.picky_cert_parts.specs.declared.option_type.SshCriticalOptionType.{SshCriticalOptionType}
use Rattle.picky_cert_parts.specs.declared.signature_format.SshSignatureFormat.{SshSignatureFormat}

pub key_type_of_name : (t : SshCertKeyType) → find_entry cert_key_types (cert_key_type_name t) ≡ Some t
unfolding cert_key_types
key_type_of_name t = own_cert_key_type t

pub name_of_key_type : (name : List ℕ) (t : SshCertKeyType) → find_entry cert_key_types name ≡ Some t → cert_key_type_name t ≡ name
unfolding cert_key_types
name_of_key_type name t found = found_has_key cert_key_types name t found

pub option_of_name : (t : SshCriticalOptionType) → find_entry option_types (option_name t) ≡ Some t
unfolding option_types
option_of_name t = own_option t

pub name_of_option : (name : List ℕ) (t : SshCriticalOptionType) → find_entry option_types name ≡ Some t → option_name t ≡ name
unfolding option_types
name_of_option name t found = found_has_key option_types name t found

pub format_of_name : (t : SshSignatureFormat) → find_entry signature_formats (format_name t) ≡ Some t
unfolding signature_formats
format_of_name t = own_format t

pub name_of_format : (name : List ℕ) (t : SshSignatureFormat) → find_entry signature_formats name ≡ Some t → format_name t ≡ name
unfolding signature_formats
name_of_format name t found = found_has_key signature_formats name t found

pub ruleset name_laws = (
  key_type_of_name,
  name_of_key_type,
  option_of_name,
  name_of_option,
  format_of_name,
  name_of_format,
)
