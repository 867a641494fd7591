-- The envelope that is written of a private key: it is a piece of its layout, how long it is, and that it is bytes.
use Rattle.std.specs.Prelude.{◌≡◌, ◌<◌, ◌+◌, ◌-◌, ◌^◌, ◌++◌, ◌==◌, ◌&&◌, Bool, true, false, List, [], ◌∷◌, ℕ}
use Rattle.std.specs.Prelude.{Option, None, Some, length, if◌then◌else◌, codes}
use Rattle.std.specs.Int.{w32, to_be_bytes}
use Rattle.std.specs.List.{concat}
use Rattle.std.proofs.Common.{arith, refl}
use Rattle.std.proofs.lemmas.Bool.{eqb-true, lt-ltb}
use Rattle.std.proofs.lemmas.List.{length-append}
use Rattle.picky_wire_base.specs.Numbers.{IsBytes}
use Rattle.picky_wire_base.specs.Wire.{string_of}
use Rattle.picky_wire_base.proofs.Fixed.{fixed_uint32_spells, raw_spells}
use Rattle.picky_wire_base.proofs.Numbers.{byte_spells}
use Rattle.picky_wire_base.proofs.Strings.{string_spells, text_spells}
use Rattle.picky_keys.specs.Blob.{blob_of}
use Rattle.picky_keys.proofs.ByteLaws.{bytes_by_test, bytes_first, bytes_joined, no_bytes, number_bytes, string_bytes_each}
use Rattle.picky_keys.proofs.LineLaws.{blob_is_bytes}
use Rattle.picky_sshkey_blob.specs.Key.{public_part}
use Rattle.picky_sshkey_blob.proofs.KeyLaws.{public_part_is_key}
use Rattle.picky_sshkey.specs.declared.kdf.KdfOption.{KdfOption}
use Rattle.picky_sshkey.specs.declared.private_key.SshPrivateKey.{SshPrivateKey}
use Rattle.picky_sshkey.specs.Envelope.{Envelope, envelope, envelope_fields, envelope_parts, magic}
use Rattle.picky_sshkey.specs.Kdf.{HasSaltRoom, is_no_option, kdf_option_of, no_option, option_fields}
use Rattle.picky_sshkey.specs.KdfLayout.{IsKdfOption, unwritten}
use Rattle.picky_sshkey.specs.Kept.{IsSshPrivateKey}
use Rattle.picky_sshkey.specs.Written.{envelope_of, written_cipher, written_kdf, written_option}
use Rattle.picky_sshkey.specs.carried.Kdf.{option_spells}
use Rattle.picky_wire_base.proofs.PieceLemmas.{length-string_of}
use Rattle.picky_sshkey.proofs.KdfLemmas.{option_len}
use Rattle.picky_sshkey.proofs.NameLaws.{cipher_is_name, kdf_is_name}

-- ---- the options

-- No salt and 0 rounds keep what options do.
none_is_short : IsKdfOption no_option
none_is_short = record { salt = record { bytes = no_bytes; short = omega arith }; rounds = omega arith }

-- The options that are written keep what the key's do.
pub written_keeps : (given : Option (List ℕ)) (option : KdfOption) → IsKdfOption option
    → IsKdfOption (written_option given option)
written_keeps None option keeps = none_is_short
written_keeps (Some pass) option keeps = keeps

-- Of two tests that pass, the first does.
and_left : (a b : Bool) → (a && b) ≡ true → a ≡ true
and_left true b is = refl
and_left false b is = cc is

-- Options whose string is short have room in it.
pub room_of : (option : KdfOption) → length (kdf_option_of option) < 2 ^ 32 → HasSaltRoom option
room_of option short = go (is_no_option option) refl
  where
    go : (no : Bool) → is_no_option option ≡ no → HasSaltRoom option
    go true is =
        let empty = eqb-true (length option.salt) 0 (and_left (length option.salt == 0) (option.rounds == 0) is) in
        omega (arith, empty)
    go false is = omega (arith, short, option_len option is)

-- Options that have room are written.
unwritten_of : (option : KdfOption) → HasSaltRoom option → unwritten option ≡ None
unwritten_of option room = rw (lt-ltb (length option.salt) (2 ^ 32 - 8) room) refl

-- Options that are written are bytes.
option_is_bytes : (option : KdfOption) → IsKdfOption option → IsBytes (kdf_option_of option)
unfolding kdf_option_of
option_is_bytes option keeps = string_bytes_each (option_fields option) (go (is_no_option option))
  where
    go : (no : Bool) → IsBytes (if no then [] else string_of option.salt ++ to_be_bytes w32 option.rounds)
    go true = no_bytes
    go false =
        bytes_joined (string_of option.salt) (to_be_bytes w32 option.rounds) (string_bytes_each option.salt keeps.salt.bytes)
        (number_bytes option.rounds)

-- ---- the envelope

-- the envelope of a key round a block
abbrev pub envelope_read : SshPrivateKey → List ℕ → Envelope
envelope_read key block = record {
  cipher = written_cipher key.passphrase;
  kdf = written_kdf key.passphrase;
  option = written_option key.passphrase key.kdf.option;
  outer = blob_of (public_part key.base_key);
  block = block;
}

-- eight parts are as long as they are together
eight_parts : (a b c d e f g h : List ℕ) → length (concat (a ∷ b ∷ c ∷ d ∷ e ∷ f ∷ g ∷ h ∷ []))
    ≡ length a + length b + length c + length d + length e + length f + length g + length h
eight_parts a b c d e f g h =
    omega (
      arith,
      length-append a (b ++ (c ++ (d ++ (e ++ (f ++ (g ++ (h ++ []))))))),
      length-append b (c ++ (d ++ (e ++ (f ++ (g ++ (h ++ [])))))),
      length-append c (d ++ (e ++ (f ++ (g ++ (h ++ []))))),
      length-append d (e ++ (f ++ (g ++ (h ++ [])))),
      length-append e (f ++ (g ++ (h ++ []))),
      length-append f (g ++ (h ++ [])),
      length-append g (h ++ []),
      length-append h [],
    )

-- the length of what stands before the block
abbrev front_len : SshPrivateKey → ℕ
front_len key = length magic + 1 + length (string_of (written_cipher key.passphrase))
    + length (string_of (written_kdf key.passphrase))
    + length (kdf_option_of (written_option key.passphrase key.kdf.option)) + 4
    + length (string_of (blob_of (public_part key.base_key)))

-- An envelope is as long as what stands before its block, and the block's string.
pub length-envelope_of : (key : SshPrivateKey) (block : List ℕ)
    → length (envelope_of key block) ≡ front_len key + (4 + length block)
unfolding envelope_of
length-envelope_of key block =
    omega (
      arith,
      eight_parts magic (0 ∷ []) (string_of (written_cipher key.passphrase)) (string_of (written_kdf key.passphrase))
          (kdf_option_of (written_option key.passphrase key.kdf.option)) (to_be_bytes w32 1)
          (string_of (blob_of (public_part key.base_key))) (string_of block),
      length-string_of block,
    )

-- the parts of an envelope that is short
record IsShort (key : SshPrivateKey) (block : List ℕ) : Type 0 where
  outer : length (blob_of (public_part key.base_key)) < 2 ^ 32
  inner : length block < 2 ^ 32
  room : HasSaltRoom (written_option key.passphrase key.kdf.option)

-- The parts of a short envelope are short.
parts_short : (key : SshPrivateKey) (block : List ℕ) → length (envelope_of key block) < 2 ^ 32 → IsShort key block
parts_short key block short =
    let len = length-envelope_of key block in
    record {
      outer = omega (arith, short, len, length-string_of (blob_of (public_part key.base_key)));
      inner = omega (arith, short, len);
      room = room_of (written_option key.passphrase key.kdf.option) (omega (arith, short, len));
    }

-- What is written after the names is a piece of its layout.
parts_spell : (key : SshPrivateKey) (block : List ℕ) → IsSshPrivateKey key → IsShort key block
    → (envelope_parts (written_cipher key.passphrase) (written_kdf key.passphrase)).piece (envelope_read key block)
    (concat (kdf_option_of (written_option key.passphrase key.kdf.option) ∷ to_be_bytes w32 1
    ∷ string_of (blob_of (public_part key.base_key)) ∷ string_of block ∷ []))
unfolding envelope_parts
parts_spell key block kept short =
    let option = written_option key.passphrase key.kdf.option in
    let keeps = written_keeps key.passphrase key.kdf.option kept.option in (
      option,
      _,
      _,
      option_spells option keeps (unwritten_of option short.room),
      (
        1,
        _,
        _,
        fixed_uint32_spells 5 1 (omega arith),
        (
          blob_of (public_part key.base_key),
          _,
          _,
          string_spells (blob_of (public_part key.base_key)) short.outer,
          (block, _, _, string_spells block short.inner, (refl, refl), refl),
          refl,
        ),
        refl,
      ),
      refl,
    )

-- The envelope that is written is a piece of its layout, where it is short.
pub envelope_spells : (key : SshPrivateKey) (block : List ℕ) → IsSshPrivateKey key → length (envelope_of key block) < 2 ^ 32
    → envelope.piece (envelope_read key block) (envelope_of key block)
unfolding envelope envelope_fields envelope_of
envelope_spells key block kept short =
    let cipher = cipher_is_name key.passphrase in
    let kdf = kdf_is_name key.passphrase in (
      magic,
      _,
      _,
      raw_spells 0 magic,
      (
        0,
        _,
        _,
        byte_spells 0 (omega arith),
        (
          written_cipher key.passphrase,
          _,
          _,
          text_spells (written_cipher key.passphrase) cipher.short cipher.utf8,
          (
            written_kdf key.passphrase,
            _,
            _,
            text_spells (written_kdf key.passphrase) kdf.short kdf.utf8,
            parts_spell key block kept (parts_short key block short),
            refl,
          ),
          refl,
        ),
        refl,
      ),
      refl,
    )

-- The magic is bytes.
magic_bytes : IsBytes magic
unfolding magic
magic_bytes = bytes_by_test (codes "openssh-key-v1") refl

-- It is bytes, where its block is.
pub envelope_is_bytes : (key : SshPrivateKey) (block : List ℕ) → IsSshPrivateKey key → IsBytes block
    → IsBytes (envelope_of key block)
unfolding envelope_of
envelope_is_bytes key block kept each =
    let option = written_option key.passphrase key.kdf.option in
    let keeps = written_keeps key.passphrase key.kdf.option kept.option in
    let outer = blob_is_bytes (public_part key.base_key) (public_part_is_key key.base_key kept.base_key) in
    bytes_joined _ _ magic_bytes (bytes_joined (0 ∷ []) _ (bytes_first 0 [] (omega arith) no_bytes)
    (bytes_joined _ _ (string_bytes_each _ (cipher_is_name key.passphrase).bytes)
    (bytes_joined _ _ (string_bytes_each _ (kdf_is_name key.passphrase).bytes)
    (bytes_joined _ _ (option_is_bytes option keeps) (bytes_joined (to_be_bytes w32 1) _ (number_bytes 1)
    (bytes_joined _ _ (string_bytes_each _ outer) (bytes_joined _ [] (string_bytes_each block each) no_bytes)))))))
