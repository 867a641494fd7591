-- The one spelling of a certificate's parts that is written (OpenSSH's PROTOCOL.certkeys).
use Rattle.std.specs.Prelude.{List, [], ◌∷◌, ℕ}
use Rattle.std.specs.Int.{w64, to_be_bytes}
use Rattle.std.specs.List.{concat, flat_map}
use Rattle.picky_wire_base.specs.Wire.{string_of}
use Rattle.picky_keys.specs.Blob.{blob_of, fields_spelled}
use Rattle.picky_cert_parts.specs.CertNames.{cert_key_type_name}
use Rattle.picky_cert_parts.specs.CertType.{cert_type_of}
use Rattle.picky_cert_parts.specs.CriticalOption.{option_of}
use Rattle.picky_cert_parts.specs.Extension.{extension_of}
use Rattle.picky_cert_blob.specs.Layout.{Body, Grants, Head, Terms}

-- who is certified
unfoldable pub head_spelled : Head → List ℕ
head_spelled h = concat (string_of (cert_key_type_name h.cert_key_type) ∷ string_of h.nonce ∷ fields_spelled h.key ∷ [])

-- the names for which it is valid, one string after another
abbrev pub principals_block : Terms → List ℕ
principals_block t = flat_map string_of t.principals

-- for what and how long
unfoldable pub terms_spelled : Terms → List ℕ
terms_spelled t =
    concat (to_be_bytes w64 t.serial ∷ cert_type_of t.cert_type ∷ string_of t.key_id ∷ string_of (principals_block t)
    ∷ to_be_bytes w64 t.after.0 ∷ to_be_bytes w64 t.before.0 ∷ [])

-- the options and the extensions, one after another
abbrev pub options_block : Grants → List ℕ
options_block g = flat_map option_of g.options

abbrev pub extensions_block : Grants → List ℕ
extensions_block g = flat_map extension_of g.extensions

-- what is granted, nothing reserved, and by whom
unfoldable pub grants_spelled : Grants → List ℕ
grants_spelled g =
    concat (string_of (options_block g) ∷ string_of (extensions_block g) ∷ string_of [] ∷ string_of (blob_of g.issuer) ∷ [])

-- all that is signed
unfoldable pub body_spelled : Body → List ℕ
body_spelled b = concat (head_spelled b.head ∷ terms_spelled b.terms ∷ grants_spelled b.grants ∷ [])
