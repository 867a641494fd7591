-- What a PuTTY private key file says of itself, and the ranges of its fields.
use Rattle.std.specs.Prelude.{◌^◌, ◌<◌, List, ℕ, Bool, true, false, Option, Some, length}
use Rattle.std.specs.Prelude as std
use Rattle.picky_kv.specs.declared.PpkVersionKey.{PpkVersionKey}
use Rattle.picky_kv.specs.declared.PpkVersionKey.TheVariants.{V2, V3}
use Rattle.picky_kv.specs.declared.PpkEncryptionValue.{PpkEncryptionValue}
use Rattle.picky_kv.specs.declared.PpkEncryptionValue.TheVariants as encryptions
use Rattle.picky_kv.specs.Values.{AreFewBytes}
use Rattle.picky_ppk_parts.specs.declared.material.Argon2Params.{Argon2Params}
use Rattle.picky_ppk_file.specs.declared.file.PpkSealing.{PpkSealing}
use Rattle.picky_ppk_file.specs.declared.file.PpkSealing.TheVariants.{Unsealed, SealedV2, SealedV3}
use Rattle.picky_ppk_file.specs.declared.file.PpkFile.{PpkFile}

-- the version
abbrev pub version_of : PpkSealing → PpkVersionKey
version_of (Unsealed version) = version
version_of SealedV2 = V2
version_of (SealedV3 params) = V3

-- whether the private bytes are sealed
abbrev pub is_sealed : PpkSealing → Bool
is_sealed (Unsealed version) = false
is_sealed SealedV2 = true
is_sealed (SealedV3 params) = true

-- the encryption that its line names
abbrev pub encryption_of : PpkSealing → PpkEncryptionValue
encryption_of (Unsealed version) = encryptions.None
encryption_of SealedV2 = encryptions.Aes256Cbc
encryption_of (SealedV3 params) = encryptions.Aes256Cbc

-- what Argon2 is run with
abbrev pub params_of : PpkSealing → Option Argon2Params
params_of (Unsealed version) = std.None
params_of SealedV2 = std.None
params_of (SealedV3 params) = Some params

-- ---- ranges

-- each number has 32 bits, and a length of the wire can say the salt's
pub record AreParams (params : Argon2Params) : Type 0 where
  pub memory : params.memory < 2 ^ 32
  pub passes : params.passes < 2 ^ 32
  pub parallelism : params.parallelism < 2 ^ 32
  pub salt : AreFewBytes params.salt

abbrev pub IsSealing : PpkSealing → Type 0
IsSealing (Unsealed version) = Unit {0}
IsSealing SealedV2 = Unit {0}
IsSealing (SealedV3 params) = AreParams params

-- and each field's
pub record IsFile (f : PpkFile) : Type 0 where
  pub sealing : IsSealing f.sealing
  pub comment : length f.comment < 2 ^ 32
  pub public_key : AreFewBytes f.public_key
  pub private_bytes : AreFewBytes f.private_bytes
  pub mac : AreFewBytes f.mac
