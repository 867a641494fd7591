-- The keys of Argon2, one literal each, after PuTTY's manual, Appendix C.
use Rattle.std.specs.Prelude.{[], ◌∷◌, codes, refl}
use Rattle.picky_kv_words.specs.Field.{Field}
use Rattle.picky_kv_words.specs.Literal.{LiteralRow, single_row, literal_field}
use Rattle.picky_kv_words.specs.declared.argon2_keys.PpkKeyDerivationKey.{PpkKeyDerivationKey}
use Rattle.picky_kv_words.specs.declared.argon2_keys.PpkArgon2MemoryKey.{PpkArgon2MemoryKey}
use Rattle.picky_kv_words.specs.declared.argon2_keys.PpkArgon2PassesKey.{PpkArgon2PassesKey}
use Rattle.picky_kv_words.specs.declared.argon2_keys.PpkArgon2ParallelismKey.{PpkArgon2ParallelismKey}
use Rattle.picky_kv_words.specs.declared.argon2_keys.PpkArgon2SaltKey.{PpkArgon2SaltKey}

-- the key of the line that names the flavour of Argon2
abbrev pub key_derivation_key_row : LiteralRow PpkKeyDerivationKey
key_derivation_key_row = single_row (codes "PpkKeyDerivationKey") (codes "Key-Derivation")

-- its type
unfoldable pub key_derivation_key : Field PpkKeyDerivationKey
key_derivation_key = literal_field key_derivation_key_row (record {} ∷ []) (λ _. refl)

-- the key of the line of Argon2's memory
abbrev pub argon2_memory_key_row : LiteralRow PpkArgon2MemoryKey
argon2_memory_key_row = single_row (codes "PpkArgon2MemoryKey") (codes "Argon2-Memory")

-- its type
unfoldable pub argon2_memory_key : Field PpkArgon2MemoryKey
argon2_memory_key = literal_field argon2_memory_key_row (record {} ∷ []) (λ _. refl)

-- the key of the line of Argon2's passes
abbrev pub argon2_passes_key_row : LiteralRow PpkArgon2PassesKey
argon2_passes_key_row = single_row (codes "PpkArgon2PassesKey") (codes "Argon2-Passes")

-- its type
unfoldable pub argon2_passes_key : Field PpkArgon2PassesKey
argon2_passes_key = literal_field argon2_passes_key_row (record {} ∷ []) (λ _. refl)

-- the key of the line of Argon2's parallelism
abbrev pub argon2_parallelism_key_row : LiteralRow PpkArgon2ParallelismKey
argon2_parallelism_key_row =
    single_row (codes "PpkArgon2ParallelismKey") (codes "Argon2-Parallelism")

-- its type
unfoldable pub argon2_parallelism_key : Field PpkArgon2ParallelismKey
argon2_parallelism_key = literal_field argon2_parallelism_key_row (record {} ∷ []) (λ _. refl)

-- the key of the line of Argon2's salt
abbrev pub argon2_salt_key_row : LiteralRow PpkArgon2SaltKey
argon2_salt_key_row = single_row (codes "PpkArgon2SaltKey") (codes "Argon2-Salt")

-- its type
unfoldable pub argon2_salt_key : Field PpkArgon2SaltKey
argon2_salt_key = literal_field argon2_salt_key_row (record {} ∷ []) (λ _. refl)
