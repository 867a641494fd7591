-- A PuTTY private key file, line by line, as it is read (PuTTY's manual, Appendix C, "PPK file format").
use Rattle.std.specs.Prelude.{◌≡◌, List, ℕ}
use Rattle.picky_text.specs.Lines.{lines}
use Rattle.picky_kv.specs.Keys.{encryption_key, comment_key, public_lines_key, private_lines_key, private_mac_key}
use Rattle.picky_kv.specs.Argon2Keys.{key_derivation_key, argon2_memory_key, argon2_passes_key}
use Rattle.picky_kv.specs.Argon2Keys.{argon2_parallelism_key, argon2_salt_key}
use Rattle.picky_kv.specs.ChoiceFields.{version_field, encryption_field, flavour_field}
use Rattle.picky_kv.specs.declared.PpkVersionKey.{PpkVersionKey}
use Rattle.picky_kv.specs.declared.PpkVersionKey.TheVariants.{V2, V3}
use Rattle.picky_kv.specs.declared.PpkEncryptionValue.{PpkEncryptionValue}
use Rattle.picky_kv.specs.declared.PpkEncryptionValue.TheVariants.{None, Aes256Cbc}
use Rattle.picky_kv.specs.ValueFields.{comment_field, base64_field, hex_field}
use Rattle.picky_kv.specs.AlgorithmField.{algorithm_field}
use Rattle.picky_kv.specs.NumberFields.{u32_field}
use Rattle.picky_kv.specs.Parts.{IsPair, IsBlock}
use Rattle.picky_ppk_parts.specs.declared.material.Argon2Params.{Argon2Params}
use Rattle.picky_ppk_file.specs.declared.file.PpkSealing.{PpkSealing}
use Rattle.picky_ppk_file.specs.declared.file.PpkSealing.TheVariants.{Unsealed, SealedV2, SealedV3}
use Rattle.picky_ppk_file.specs.declared.file.PpkFile.{PpkFile}

-- Key-Derivation: Argon2id
-- Argon2-Memory: 8192
-- Argon2-Passes: 34
-- Argon2-Parallelism: 1
-- Argon2-Salt: hex
pub record SaysArgon2 (ls : List (List ℕ)) (params : Argon2Params) (after : List (List ℕ)) : Type 0 where
  pub after_flavor : List (List ℕ)
  pub after_memory : List (List ℕ)
  pub after_passes : List (List ℕ)
  pub after_parallelism : List (List ℕ)
  pub flavor : IsPair key_derivation_key flavour_field ls (record {}) params.flavor after_flavor
  pub memory : IsPair argon2_memory_key u32_field after_flavor (record {}) params.memory after_memory
  pub passes : IsPair argon2_passes_key u32_field after_memory (record {}) params.passes after_passes
  pub parallelism : IsPair argon2_parallelism_key u32_field after_passes (record {}) params.parallelism after_parallelism
  pub salt : IsPair argon2_salt_key hex_field after_parallelism (record {}) params.salt after

-- the version and the encryption say what seals the file; a sealed file of version 3 says it in five lines
abbrev pub SaysSealing : PpkVersionKey → PpkEncryptionValue → List (List ℕ) → PpkSealing → List (List ℕ) → Type 0
SaysSealing version None ls (Unsealed of) after = (of ≡ version) × (after ≡ ls)
SaysSealing V2 Aes256Cbc ls SealedV2 after = after ≡ ls
SaysSealing V3 Aes256Cbc ls (SealedV3 params) after = SaysArgon2 ls params after
SaysSealing version encryption ls sealing after = ⊥

-- PuTTY-User-Key-File-3: algorithm
-- Encryption: none, or aes256-cbc
-- Comment: comment
-- Public-Lines: how many, and these lines
-- what seals it
-- Private-Lines: how many, and these lines
-- Private-MAC: hex
-- and whatever follows
pub record SaysFile (text : List ℕ) (f : PpkFile) : Type 0 where
  pub version : PpkVersionKey
  pub encryption_value : PpkEncryptionValue
  pub after_header : List (List ℕ)
  pub after_encryption : List (List ℕ)
  pub after_comment : List (List ℕ)
  pub after_public : List (List ℕ)
  pub after_sealing : List (List ℕ)
  pub after_private : List (List ℕ)
  pub rest : List (List ℕ)
  pub header : IsPair version_field algorithm_field (lines text) version f.algorithm after_header
  pub encryption : IsPair encryption_key encryption_field after_header (record {}) encryption_value after_encryption
  pub comment : IsPair comment_key comment_field after_encryption (record {}) f.comment after_comment
  pub public_key : IsBlock public_lines_key base64_field after_comment (record {}) f.public_key after_public
  pub sealing : SaysSealing version encryption_value after_public f.sealing after_sealing
  pub private_bytes : IsBlock private_lines_key base64_field after_sealing (record {}) f.private_bytes after_private
  pub mac : IsPair private_mac_key hex_field after_private (record {}) f.mac rest
