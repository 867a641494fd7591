-- The types of several literals each, after PuTTY's manual, Appendix C.
use Rattle.std.specs.Prelude.{ℕ, List, [], ◌∷◌, codes}
use Rattle.picky_kv_words.specs.Literal.{LiteralRow}
use Rattle.picky_kv_words.specs.declared.choices.PpkVersionKey.{PpkVersionKey}
use Rattle.picky_kv_words.specs.declared.choices.PpkVersionKey.TheVariants.{V2, V3}
use Rattle.picky_kv_words.specs.declared.choices.PpkEncryptionValue.{PpkEncryptionValue}
use Rattle.picky_kv_words.specs.declared.choices.PpkEncryptionValue.TheVariants.{None, Aes256Cbc}
use Rattle.picky_kv_words.specs.declared.choices.Argon2FlavourValue.{Argon2FlavourValue}
use Rattle.picky_kv_words.specs.declared.choices.Argon2FlavourValue.TheVariants.{Argon2d, Argon2i, Argon2id}

-- the key of the first line: PuTTY-User-Key-File-2 or PuTTY-User-Key-File-3
abbrev pub version_literal : PpkVersionKey → List ℕ
version_literal V2 = codes "PuTTY-User-Key-File-2"
version_literal V3 = codes "PuTTY-User-Key-File-3"

-- its row
abbrev pub version_row : LiteralRow PpkVersionKey
version_row = record {
  name = codes "PpkVersionKey";
  literal = version_literal;
  expected = codes "[PuTTY-User-Key-File-2, PuTTY-User-Key-File-3]";
}

-- in this order
abbrev pub versions : List PpkVersionKey
versions = V2 ∷ V3 ∷ []

-- how the private key is encrypted
abbrev pub encryption_literal : PpkEncryptionValue → List ℕ
encryption_literal None = codes "none"
encryption_literal Aes256Cbc = codes "aes256-cbc"

-- its row
abbrev pub encryption_row : LiteralRow PpkEncryptionValue
encryption_row = record {
  name = codes "PpkEncryptionValue";
  literal = encryption_literal;
  expected = codes "[none, aes256-cbc]";
}

-- in this order
abbrev pub encryptions : List PpkEncryptionValue
encryptions = None ∷ Aes256Cbc ∷ []

-- the flavour of Argon2
abbrev pub flavour_literal : Argon2FlavourValue → List ℕ
flavour_literal Argon2d = codes "Argon2d"
flavour_literal Argon2i = codes "Argon2i"
flavour_literal Argon2id = codes "Argon2id"

-- its row
abbrev pub flavour_row : LiteralRow Argon2FlavourValue
flavour_row = record {
  name = codes "Argon2FlavourValue";
  literal = flavour_literal;
  expected = codes "[Argon2d, Argon2i, Argon2id]";
}

-- in this order
abbrev pub flavours : List Argon2FlavourValue
flavours = Argon2d ∷ Argon2i ∷ Argon2id ∷ []
