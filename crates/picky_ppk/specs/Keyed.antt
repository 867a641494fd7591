-- The keys of a sealed file, and which passphrases make any.
use Rattle.std.specs.Prelude.{List, ℕ, Bool, true}
use Rattle.picky_suite.specs.Meanings.{Meanings}
use Rattle.picky_ppk_parts.specs.Keys.{Keys}
use Rattle.picky_ppk_parts.specs.Mac.{mac_key_v2}
use Rattle.picky_ppk_parts.specs.Material.{cipher_key_v2, cipher_iv_v2, params_fit, derived_v3, parts_of}
use Rattle.picky_ppk_file.specs.declared.file.PpkSealing.{PpkSealing}
use Rattle.picky_ppk_file.specs.declared.file.PpkSealing.TheVariants.{Unsealed, SealedV2, SealedV3}

-- SHA-1 makes them of the passphrase in version 2
abbrev pub keys_v2 : List ℕ → Keys
keys_v2 pass = record { key = cipher_key_v2 pass; iv = cipher_iv_v2; mac_key = mac_key_v2 pass }

-- Argon2 can be run, where it is
abbrev pub can_derive : PpkSealing → List ℕ → Bool
can_derive (Unsealed version) pass = true
can_derive SealedV2 pass = true
can_derive (SealedV3 params) pass = params_fit params pass

-- the keys
abbrev pub keys_under : Meanings → PpkSealing → List ℕ → Keys
keys_under m (Unsealed version) pass = keys_v2 pass
keys_under m SealedV2 pass = keys_v2 pass
keys_under m (SealedV3 params) pass = parts_of (derived_v3 m params pass)
