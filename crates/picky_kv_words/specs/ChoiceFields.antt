-- The types of several literals each, as fields.
use Rattle.picky_kv_words.specs.Field.{Field}
use Rattle.picky_kv_words.specs.Literal.{literal_field}
use Rattle.picky_kv_words.specs.declared.choices.PpkVersionKey.{PpkVersionKey}
use Rattle.picky_kv_words.specs.declared.choices.PpkEncryptionValue.{PpkEncryptionValue}
use Rattle.picky_kv_words.specs.declared.choices.Argon2FlavourValue.{Argon2FlavourValue}
use Rattle.picky_kv_words.specs.Choices.{version_row, versions, encryption_row, encryptions}
use Rattle.picky_kv_words.specs.Choices.{flavour_row, flavours}
use Rattle.picky_kv_words.specs.carried.Choices.{versions_are_named, encryptions_are_named}
use Rattle.picky_kv_words.specs.carried.Choices.{flavours_are_named}

-- the type of the first line's key
unfoldable pub version_field : Field PpkVersionKey
version_field = literal_field version_row versions versions_are_named

-- the type of the encryption
unfoldable pub encryption_field : Field PpkEncryptionValue
encryption_field = literal_field encryption_row encryptions encryptions_are_named

-- the type of the flavour
unfoldable pub flavour_field : Field Argon2FlavourValue
flavour_field = literal_field flavour_row flavours flavours_are_named
