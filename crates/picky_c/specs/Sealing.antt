-- What a caller chooses to seal a private key under, as a target.
use Rattle.std.specs.Prelude.{◌==◌, ℕ, Option, None, Some, if◌then◌else◌}
use Rattle.picky_kv.specs.declared.PpkVersionKey.TheVariants.{V2, V3}
use Rattle.picky_kv.specs.declared.Argon2FlavourValue.{Argon2FlavourValue as Flavour}
use Rattle.picky_kv.specs.declared.Argon2FlavourValue.TheVariants.{Argon2d, Argon2i, Argon2id}
use Rattle.picky_ppk_parts.specs.declared.config.PpkEncryptionConfig.{PpkEncryptionConfig}
use Rattle.picky_ppk.specs.declared.layout.PpkLayout.TheVariants.{Number, Putty}
use Rattle.picky_target.specs.declared.target.KeyTarget.{KeyTarget}
use Rattle.picky_target.specs.declared.target.KeyTarget.TheVariants as targets
use Rattle.picky_c.specs.declared.sealing.PickySealing.{PickySealing}

abbrev pub flavour_numbered : ℕ → Option Flavour
flavour_numbered number =
    if number == 0 then Some Argon2d
    else if number == 1 then Some Argon2i
    else if number == 2 then Some Argon2id
    else None

-- what Argon2 is run with
abbrev pub config_with : PickySealing → Flavour → PpkEncryptionConfig
config_with s flavour = record {
  argon2_flavour = flavour;
  argon2_memory = s.memory;
  argon2_passes = s.passes;
  argon2_parallelism = s.lanes;
  argon2_salt_size = s.salt_len;
}

abbrev pub config_of : PickySealing → Option Flavour → Option PpkEncryptionConfig
config_of s None = None
config_of s (Some flavour) = Some (config_with s flavour)

abbrev pub sealing_config : PickySealing → Option PpkEncryptionConfig
sealing_config s = config_of s (flavour_numbered s.flavour)

-- PuTTY's file of a number
abbrev pub file_numbered : ℕ → PpkEncryptionConfig → Option KeyTarget
file_numbered number config =
    if number == 2 then Some (targets.Ppk V2 config Number)
    else if number == 3 then Some (targets.Ppk V3 config Number)
    else if number == 6 then Some (targets.Ppk V2 config Putty)
    else if number == 7 then Some (targets.Ppk V3 config Putty)
    else None

abbrev pub file_under : ℕ → Option PpkEncryptionConfig → Option KeyTarget
file_under number None = None
file_under number (Some config) = file_numbered number config

-- a private key's text of a number, sealed so where there is a passphrase
abbrev pub sealing_target : PickySealing → Option KeyTarget
sealing_target s =
    if s.target == 1 then Some (targets.OpenSsh s.rounds) else file_under s.target (sealing_config s)
