-- What is written of a key, before its block is sealed.
use Rattle.std.specs.Prelude.{◌≡◌, ◌<◌, ◌^◌, length, true}
use Rattle.picky_keys.specs.Blob.{blob_of}
use Rattle.picky_sshkey_blob.specs.Key.{public_part}
use Rattle.picky_sshkey.specs.declared.private_key.SshPrivateKey.{SshPrivateKey}
use Rattle.picky_sshkey.specs.declared.draft.PrivateKeyDraft.{PrivateKeyDraft}
use Rattle.picky_sshkey.specs.Kdf.{HasSaltRoom}
use Rattle.picky_sshkey.specs.Kept.{IsSshPrivateKey}
use Rattle.picky_sshkey.specs.Written.{envelope_of, may_derive, plain_block, written_option}

pub record IsDraft (key : SshPrivateKey) (draft : PrivateKeyDraft) : Type 0 where
  pub range : may_derive key.passphrase key.kdf.option ≡ true
  pub kept : IsSshPrivateKey key
  pub outer : draft.outer ≡ blob_of (public_part key.base_key)
  pub block : draft.block.items ≡ plain_block key
  pub block_short : length (plain_block key) < 2 ^ 32
  pub len : draft.len ≡ length (envelope_of key (plain_block key))
  pub short : draft.len < 2 ^ 32
  pub room : HasSaltRoom (written_option key.passphrase key.kdf.option)
