-- The block that is written of a private key: its fields are a piece of the layout, and it is bytes.
use Rattle.std.specs.Prelude.{◌<◌, ◌≤◌, ◌+◌, ◌-◌, ◌%◌, ◌^◌, ◌++◌, List, [], ℕ, zero, suc}
use Rattle.std.specs.Prelude.{Option, None, Some, length}
use Rattle.std.specs.Int.{w32, to_be_bytes}
use Rattle.std.proofs.Common.{arith, refl}
use Rattle.picky_wire_base.specs.Numbers.{IsBytes}
use Rattle.picky_wire_base.specs.Wire.{string_of}
use Rattle.picky_wire_base.proofs.Numbers.{uint32_spells}
use Rattle.picky_wire_base.proofs.Strings.{text_spells}
use Rattle.picky_keys.proofs.ByteLaws.{bytes_first, bytes_joined, no_bytes, number_bytes, string_bytes_each}
use Rattle.picky_sshkey_blob.specs.Blob.{secret_of}
use Rattle.picky_sshkey.specs.declared.private_key.SshPrivateKey.{SshPrivateKey}
use Rattle.picky_sshkey.specs.Kept.{IsSshPrivateKey}
use Rattle.picky_sshkey.specs.PrivateBlock.{PrivateBlock, check_numbers, private_block}
use Rattle.picky_sshkey.specs.Written.{count_up, unpadded_block, block_padding, plain_block, unit_of}
use Rattle.picky_sshkey_blob.specs.carried.Blob.{secret_spells}
use Rattle.picky_sshkey.proofs.SecretLaws.{secret_is_bytes}

-- the block of a key, before it is sealed
abbrev pub block_read : SshPrivateKey → PrivateBlock
block_read key = record { check = key.check; key = key.base_key; comment = key.comment }

-- Two equal numbers are a piece.
checks_spell : (n : ℕ) → n < 2 ^ 32 → check_numbers.piece n (to_be_bytes w32 n ++ (to_be_bytes w32 n ++ []))
unfolding check_numbers
checks_spell n small = (
  n,
  _,
  _,
  uint32_spells n small,
  (n, _, _, (n, uint32_spells n small, (refl, refl)), (refl, refl), refl),
  refl,
)

-- The fields that are written are a piece of the block's layout.
pub block_spells : (key : SshPrivateKey) → IsSshPrivateKey key → private_block.piece (block_read key) (unpadded_block key)
unfolding private_block unpadded_block
block_spells key kept = (
  key.check,
  to_be_bytes w32 key.check ++ (to_be_bytes w32 key.check ++ []),
  secret_of key.base_key ++ (string_of key.comment ++ []),
  checks_spell key.check kept.check,
  (
    key.base_key,
    _,
    _,
    secret_spells key.base_key kept.base_key,
    (key.comment, _, _, text_spells key.comment kept.comment.string.short kept.comment.utf8, (refl, refl), refl),
    refl,
  ),
  refl,
)

-- Numbers from n on are bytes, as long as they are below 256.
count_bytes : (n more : ℕ) → n + more ≤ 256 → IsBytes (count_up n more)
count_bytes n zero small = no_bytes
count_bytes n (suc more) small = bytes_first n (count_up (n + 1) more) (omega arith) (count_bytes (n + 1) more (omega arith))

-- A padding fills at most 16 bytes.
unit_small : (given : Option (List ℕ)) → unit_of given ≤ 16
unit_small None = omega arith
unit_small (Some pass) = omega arith

-- The block that is written is bytes.
pub block_is_bytes : (key : SshPrivateKey) → IsSshPrivateKey key → IsBytes (plain_block key)
unfolding plain_block unpadded_block
block_is_bytes key kept =
    let check = number_bytes key.check in
    let small = unit_small key.passphrase in
    let fields : List ℕ = secret_of key.base_key ++ (string_of key.comment ++ []) in
    bytes_joined (unpadded_block key) (block_padding (unit_of key.passphrase) (unpadded_block key))
    (bytes_joined (to_be_bytes w32 key.check) (to_be_bytes w32 key.check ++ fields) check
    (bytes_joined (to_be_bytes w32 key.check) fields check
    (bytes_joined _ _ (secret_is_bytes key.base_key kept.base_key)
    (bytes_joined _ [] (string_bytes_each key.comment kept.comment.string.bytes) no_bytes))))
    (count_bytes 1 (unit_of key.passphrase - length (unpadded_block key) % unit_of key.passphrase) (omega (arith, small)))
