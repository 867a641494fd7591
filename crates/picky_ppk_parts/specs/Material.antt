-- The keys that a passphrase makes: of version 2 by SHA-1, of version 3 by Argon2 (PuTTY's manual, Appendix C).
use Rattle.std.specs.Prelude.{List, ℕ, ◌++◌, Bool, length, take, drop, replicate, Result, Ok, Err, if◌then◌else◌}
use Rattle.std.specs.Int.{w32, to_be_bytes}
use Rattle.sha1.specs.Sha1.{sha1}
use Rattle.picky_kv.specs.declared.Argon2FlavourValue.{Argon2FlavourValue}
use Rattle.picky_kv.specs.declared.Argon2FlavourValue.TheVariants as values
use Rattle.picky_suite.specs.declared.flavour.Flavour.{Flavour}
use Rattle.picky_suite.specs.declared.flavour.Flavour.TheVariants as flavours
use Rattle.picky_suite.specs.Meanings.{Meanings}
use Rattle.picky_suite.specs.Ranges.{argon2_fits}
use Rattle.picky_ppk_parts.specs.declared.error.PuttyError.{PuttyError}
use Rattle.picky_ppk_parts.specs.declared.error.PuttyError.TheVariants as errors
use Rattle.picky_ppk_parts.specs.declared.material.Argon2Params.{Argon2Params}
use Rattle.picky_ppk_parts.specs.Keys.{Keys}

-- ---- version 2

-- SHA-1 of a counter and the passphrase
abbrev pub counted_digest : ℕ → List ℕ → List ℕ
counted_digest n pass = sha1 (to_be_bytes w32 n ++ pass)

-- 32 bytes of two such digests
unfoldable pub cipher_key_v2 : List ℕ → List ℕ
cipher_key_v2 pass = counted_digest 0 pass ++ take 12 (counted_digest 1 pass)

-- 16 zeros
abbrev pub cipher_iv_v2 : List ℕ
cipher_iv_v2 = replicate 16 0

-- ---- version 3

-- the flavour that a value names
abbrev pub flavour_named : Argon2FlavourValue → Flavour
flavour_named values.Argon2d = flavours.Argon2d
flavour_named values.Argon2i = flavours.Argon2i
flavour_named values.Argon2id = flavours.Argon2id

-- Argon2 can be run with these numbers
unfoldable pub params_fit : Argon2Params → List ℕ → Bool
params_fit params pass =
    argon2_fits params.memory params.passes params.parallelism (length pass) (length params.salt)

-- the 80 bytes that it gives then
unfoldable pub derived_v3 : Meanings → Argon2Params → List ℕ → List ℕ
derived_v3 m params pass =
    m.argon2 (flavour_named params.flavor) params.memory params.passes params.parallelism pass params.salt

-- of which 32 are the cipher's key, 16 its iv and 32 the MAC's key
abbrev pub parts_of : List ℕ → Keys
parts_of derived = record { key = take 32 derived; iv = take 16 (drop 32 derived); mac_key = drop 16 (drop 32 derived) }

-- the keys, or the refusal
unfoldable pub material_v3 : Meanings → Argon2Params → List ℕ → Result Keys PuttyError
material_v3 m params pass =
    if params_fit params pass then Ok (parts_of (derived_v3 m params pass)) else Err errors.Argon2
