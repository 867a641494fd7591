-- What the pieces of an envelope and of a block keep, where they are bytes.
use Rattle.std.specs.Prelude.{List, [], ◌∷◌, ℕ, ◌<◌, ◌^◌}
use Rattle.std.proofs.Common.{arith, subst, sym}
use Rattle.picky_wire_base.specs.Numbers.{IsBytes}
use Rattle.picky_wire_base.proofs.Numbers.{bytes_in_front, bytes_behind, uint32_exact}
use Rattle.picky_keys.proofs.ByteLaws.{no_bytes}
use Rattle.picky_keys.specs.Key.{IsText}
use Rattle.picky_keys.proofs.KeyLaws.{string_keeps, text_keeps}
use Rattle.picky_sshkey_blob.specs.Key.{IsPrivateKey}
use Rattle.picky_sshkey_blob.proofs.KeyLaws.{spelled_is_key}
use Rattle.picky_sshkey.specs.declared.kdf.KdfOption.{KdfOption}
use Rattle.picky_sshkey.specs.Envelope.{Envelope, envelope, envelope_fields, envelope_parts}
use Rattle.picky_sshkey.specs.Kdf.{kdf_fields, kdf_option, option_inside}
use Rattle.picky_sshkey.specs.KdfLayout.{IsKdfOption}
use Rattle.picky_sshkey.specs.PrivateBlock.{PrivateBlock, check_numbers, private_block}

-- ---- the options

-- Fields that are bytes are in their ranges.
fields_keep : (option : KdfOption) (bytes : List ℕ) → IsBytes bytes → kdf_fields.piece option bytes → IsKdfOption option
unfolding kdf_fields
fields_keep option bytes each (salt, x1, y1, salt_is, (rounds, x2, y2, rounds_is, (is, none), j2), j1) =
    let b1 = subst IsBytes j1 each in
    let number = uint32_exact rounds x2 (bytes_in_front x2 y2 (subst IsBytes j2 (bytes_behind x1 y1 b1))) rounds_is in
    subst IsKdfOption (sym is)
    (record { salt = string_keeps salt x1 (bytes_in_front x1 y1 b1) salt_is; rounds = number.1 })

-- So are those that a string of bytes says.
said_keep : (block : List ℕ) (option : KdfOption) → IsBytes block → option_inside.means block option → IsKdfOption option
said_keep [] option each is =
    subst IsKdfOption (sym is)
    (record { salt = record { bytes = no_bytes; short = omega arith }; rounds = omega arith })
said_keep (b ∷ block) option each (rest, (front, spells, whole)) =
    fields_keep option front (bytes_in_front front rest (subst IsBytes whole each)) spells

-- Options that bytes spell are in their ranges.
pub option_keeps : (option : KdfOption) (bytes : List ℕ) → IsBytes bytes → kdf_option.piece option bytes → IsKdfOption option
unfolding kdf_option
option_keeps option bytes each (block, spells, means) =
    said_keep block option (string_keeps block bytes each spells).bytes means

-- ---- the envelope

-- what an envelope's parts keep
abbrev pub EnvelopeKeeps : Envelope → Type 0
EnvelopeKeeps e = IsKdfOption e.option × IsBytes e.outer × IsBytes e.block

-- So do the parts after the names.
parts_keep : (cipher kdf : List ℕ) (e : Envelope) (bytes : List ℕ) → IsBytes bytes
    → (envelope_parts cipher kdf).piece e bytes → EnvelopeKeeps e
unfolding envelope_parts
parts_keep cipher kdf e bytes each (option, x1, y1, option_is, (keys, x2, y2, keys_is, (outer, x3, y3, outer_is, (block, x4, y4, block_is, (is, none), j4), j3), j2), j1) =
    let b1 = subst IsBytes j1 each in
    let b2 = subst IsBytes j2 (bytes_behind x1 y1 b1) in
    let b3 = subst IsBytes j3 (bytes_behind x2 y2 b2) in
    let b4 = subst IsBytes j4 (bytes_behind x3 y3 b3) in
    subst EnvelopeKeeps (sym is) (
      option_keeps option x1 (bytes_in_front x1 y1 b1) option_is,
      (string_keeps outer x3 (bytes_in_front x3 y3 b3) outer_is).bytes,
      (string_keeps block x4 (bytes_in_front x4 y4 b4) block_is).bytes,
    )

-- The parts of an envelope that bytes spell keep it.
pub envelope_keeps : (e : Envelope) (bytes : List ℕ) → IsBytes bytes → envelope.piece e bytes
    → EnvelopeKeeps e
unfolding envelope envelope_fields
envelope_keeps e bytes each (front, x1, y1, front_is, (end, x2, y2, end_is, (cipher, x3, y3, cipher_is, (kdf, x4, y4, kdf_is, parts, j4), j3), j2), j1) =
    let b1 = subst IsBytes j1 each in
    let b2 = subst IsBytes j2 (bytes_behind x1 y1 b1) in
    let b3 = subst IsBytes j3 (bytes_behind x2 y2 b2) in
    let b4 = subst IsBytes j4 (bytes_behind x3 y3 b3) in
    parts_keep cipher kdf e y4 (bytes_behind x4 y4 b4) parts

-- ---- the block

-- what a block's parts keep
pub record BlockKeeps (block : PrivateBlock) : Type 0 where
  pub check : block.check < 2 ^ 32
  pub key : IsPrivateKey block.key
  pub comment : IsText block.comment

-- A check number in bytes is below 2^32.
number_keeps : (check : ℕ) (bytes : List ℕ) → IsBytes bytes → check_numbers.piece check bytes → check < 2 ^ 32
unfolding check_numbers
number_keeps check bytes each (n, x, y, n_is, (again, x2, y2, again_is, (is, none), j2), j1) =
    subst (λ m. m < 2 ^ 32) (sym is) (uint32_exact n x (bytes_in_front x y (subst IsBytes j1 each)) n_is).1

-- The parts of a block that bytes spell keep it.
pub block_keeps : (block : PrivateBlock) (bytes : List ℕ) → IsBytes bytes → private_block.piece block bytes
    → BlockKeeps block
unfolding private_block
block_keeps block bytes each (check, x1, y1, check_is, (key, x2, y2, key_is, (comment, x3, y3, comment_is, (is, none), j3), j2), j1) =
    let b1 = subst IsBytes j1 each in
    let b2 = subst IsBytes j2 (bytes_behind x1 y1 b1) in
    let b3 = subst IsBytes j3 (bytes_behind x2 y2 b2) in
    subst BlockKeeps (sym is)
    (record {
      check = number_keeps check x1 (bytes_in_front x1 y1 b1) check_is;
      key = spelled_is_key key x2 (bytes_in_front x2 y2 b2) key_is;
      comment = text_keeps comment x3 (bytes_in_front x3 y3 b3) comment_is;
    })
