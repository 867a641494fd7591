-- The keys of lines are plain, and base64 is ASCII, so that it can be cut anywhere.
use Rattle.std.specs.Prelude.{refl, ℕ, List}
use Rattle.std.specs.Str.{IsAscii}
use Rattle.picky_text.proofs.Base64Laws.{base64_is_ascii}
use Rattle.picky_kv_words.specs.Literal.{IsPlain}
use Rattle.picky_kv_words.specs.Argon2Keys.{key_derivation_key, argon2_memory_key, argon2_passes_key}
use Rattle.picky_kv_words.specs.Argon2Keys.{argon2_parallelism_key, argon2_salt_key}
use Rattle.picky_kv_words.specs.declared.choices.PpkVersionKey.TheVariants.{V2, V3}
use Rattle.picky_kv_words.specs.ChoiceFields.{version_field}
use Rattle.picky_kv_words.specs.Keys.{encryption_key, comment_key, public_lines_key, private_lines_key}
use Rattle.picky_kv_words.specs.Keys.{private_mac_key}
use Rattle.picky_kv_words.specs.ValueFields.{base64_field}

-- it is plain
pub key_derivation_key_is_plain : IsPlain key_derivation_key
unfolding key_derivation_key
key_derivation_key_is_plain _ = refl

-- it is plain
pub argon2_memory_key_is_plain : IsPlain argon2_memory_key
unfolding argon2_memory_key
argon2_memory_key_is_plain _ = refl

-- it is plain
pub argon2_passes_key_is_plain : IsPlain argon2_passes_key
unfolding argon2_passes_key
argon2_passes_key_is_plain _ = refl

-- it is plain
pub argon2_parallelism_key_is_plain : IsPlain argon2_parallelism_key
unfolding argon2_parallelism_key
argon2_parallelism_key_is_plain _ = refl

-- it is plain
pub argon2_salt_key_is_plain : IsPlain argon2_salt_key
unfolding argon2_salt_key
argon2_salt_key_is_plain _ = refl

-- it is plain
pub version_field_is_plain : IsPlain version_field
unfolding version_field
version_field_is_plain V2 = refl
version_field_is_plain V3 = refl

-- it is plain
pub encryption_key_is_plain : IsPlain encryption_key
unfolding encryption_key
encryption_key_is_plain _ = refl

-- it is plain
pub comment_key_is_plain : IsPlain comment_key
unfolding comment_key
comment_key_is_plain _ = refl

-- it is plain
pub public_lines_key_is_plain : IsPlain public_lines_key
unfolding public_lines_key
public_lines_key_is_plain _ = refl

-- it is plain
pub private_lines_key_is_plain : IsPlain private_lines_key
unfolding private_lines_key
private_lines_key_is_plain _ = refl

-- it is plain
pub private_mac_key_is_plain : IsPlain private_mac_key
unfolding private_mac_key
private_mac_key_is_plain _ = refl

-- base64 can be cut anywhere
pub base64_field_is_ascii : (bytes : List ℕ) → IsAscii (base64_field.spelling bytes)
unfolding base64_field
base64_field_is_ascii bytes = base64_is_ascii bytes
