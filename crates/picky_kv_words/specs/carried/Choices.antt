-- Each literal stands for one value.
use Rattle.std.specs.Prelude.{refl}
use Rattle.picky_kv_words.specs.Literal.{AreNamed}
use Rattle.picky_kv_words.specs.declared.choices.PpkVersionKey.TheVariants.{V2, V3}
use Rattle.picky_kv_words.specs.declared.choices.PpkEncryptionValue.TheVariants.{None, Aes256Cbc}
use Rattle.picky_kv_words.specs.declared.choices.Argon2FlavourValue.TheVariants.{Argon2d, Argon2i, Argon2id}
use Rattle.picky_kv_words.specs.Choices.{version_literal, versions, encryption_literal, encryptions}
use Rattle.picky_kv_words.specs.Choices.{flavour_literal, flavours}

-- each by its literal
pub versions_are_named : AreNamed version_literal versions
versions_are_named V2 = refl
versions_are_named V3 = refl

-- each by its literal
pub encryptions_are_named : AreNamed encryption_literal encryptions
encryptions_are_named None = refl
encryptions_are_named Aes256Cbc = refl

-- each by its literal
pub flavours_are_named : AreNamed flavour_literal flavours
flavours_are_named Argon2d = refl
flavours_are_named Argon2i = refl
flavours_are_named Argon2id = refl
