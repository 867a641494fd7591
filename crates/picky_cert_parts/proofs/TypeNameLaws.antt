-- The names of the types of certificates are text.
use Rattle.std.specs.Prelude.{◌≡◌, true, IsUtf8}
use Rattle.std.proofs.Common.{refl, sym, subst, ◌∙◌}
use Rattle.picky_wire_base.specs.Named.{is_name}
use Rattle.picky_wire_base.specs.Wire.{text}
use Rattle.picky_wire_base.proofs.Named.{named_spells}
use Rattle.picky_cert_parts.specs.declared.cert_key_type.SshCertKeyType.{SshCertKeyType}
use Rattle.picky_cert_parts.specs.declared.cert_key_type.SshCertKeyType.TheVariants as keytypes
use Rattle.picky_cert_parts.specs.CertNames.{cert_key_type_name}
use Rattle.picky_cert_parts.specs.CertNameTables.{cert_key_types}

-- each is ASCII and short
pub cert_key_type_name_good : (t : SshCertKeyType) → is_name (cert_key_types.key t) ≡ true
unfolding cert_key_types cert_key_type_name
cert_key_type_name_good keytypes.SshRsaV01 = refl
cert_key_type_name_good keytypes.SshDssV01 = refl
cert_key_type_name_good keytypes.RsaSha2_256V01 = refl
cert_key_type_name_good keytypes.RsaSha2_512v01 = refl
cert_key_type_name_good keytypes.EcdsaSha2Nistp256V01 = refl
cert_key_type_name_good keytypes.EcdsaSha2Nistp384V01 = refl
cert_key_type_name_good keytypes.EcdsaSha2Nistp521V01 = refl
cert_key_type_name_good keytypes.SshEd25519V01 = refl
cert_key_type_name_good keytypes.SkSshSha2Nistp256V01 = refl
cert_key_type_name_good keytypes.SkSshEd25519V01 = refl

-- The key of an entry is its name.
pub cert_key_type_has_name : (t : SshCertKeyType) → cert_key_types.key t ≡ cert_key_type_name t
unfolding cert_key_types
cert_key_type_has_name t = refl

-- Each name is text.
pub cert_key_type_name_utf8 : (t : SshCertKeyType) → IsUtf8 (cert_key_type_name t)
unfolding cert_key_types text
cert_key_type_name_utf8 t =
    let spells = named_spells 0 cert_key_types t (cert_key_type_name_good t) in
    subst IsUtf8 (sym (spells.2 ∙ spells.1.2.1)) spells.1.2.0
