-- How a file of version 3 is sealed unless something else is said.
use Rattle.picky_kv.specs.declared.Argon2FlavourValue.TheVariants.{Argon2id}
use Rattle.picky_ppk_parts.specs.declared.config.PpkEncryptionConfig.{PpkEncryptionConfig}

-- Argon2id in one lane, with 8 MiB and 34 passes, and a salt of 16 bytes
abbrev pub default_config : PpkEncryptionConfig
default_config = record {
  argon2_flavour = Argon2id;
  argon2_memory = 8192;
  argon2_passes = 34;
  argon2_parallelism = 1;
  argon2_salt_size = 16;
}
