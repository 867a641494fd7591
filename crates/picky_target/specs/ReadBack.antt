-- What a target keeps of a meaning, what its text is read back under, and the numbers that a file can say.
use Rattle.std.specs.Prelude.{◌<◌, ◌^◌, List, ℕ, Option}
use Rattle.picky_suite.specs.Meanings.{Meanings}
use Rattle.picky_ppk_parts.specs.declared.config.PpkEncryptionConfig.{PpkEncryptionConfig}
use Rattle.picky_key_text.specs.declared.meaning.Meaning.{Meaning}
use Rattle.picky_key_text.specs.Key.{public_key, public_meaning}
use Rattle.picky_key_text.specs.Reader.{Reader}
use Rattle.picky_target.specs.declared.target.KeyTarget.{KeyTarget}
use Rattle.picky_target.specs.declared.target.KeyTarget.TheVariants as targets

-- a public target keeps the public part
abbrev pub kept : KeyTarget → Meaning → Meaning
kept (targets.OpenSsh rounds) meaning = meaning
kept (targets.Ppk version config layout) meaning = meaning
kept targets.OpenSshPublic meaning = public_meaning (public_key meaning)
kept targets.PuttyPublic meaning = public_meaning (public_key meaning)

abbrev pub under : Meanings → Option (List ℕ) → Reader
under m pass = record { meanings = m; pass = pass }

-- each number of a configuration has 32 bits
pub record IsConfig (config : PpkEncryptionConfig) : Type 0 where
  pub memory : config.argon2_memory < 2 ^ 32
  pub passes : config.argon2_passes < 2 ^ 32
  pub parallelism : config.argon2_parallelism < 2 ^ 32
  pub salt_size : config.argon2_salt_size < 2 ^ 32

-- so has each of a target
abbrev pub IsTarget : KeyTarget → Type 0
IsTarget (targets.OpenSsh rounds) = rounds < 2 ^ 32
IsTarget (targets.Ppk version config layout) = IsConfig config
IsTarget targets.OpenSshPublic = Unit {0}
IsTarget targets.PuttyPublic = Unit {0}
