-- The cipher and the key derivation of `MemorySuite`, for tests alone: they keep the laws of a suite, and nothing
-- that they seal is safe.
use Rattle.std.specs.Prelude.{ℕ, zero, suc, ◌+◌, ◌/◌, List, [], ◌∷◌, ◌++◌, length, take, drop, bit_xor}
use Rattle.std.specs.Int.{w32, to_be_bytes}
use Rattle.std.specs.List.{flat_map}
use Rattle.sha2.specs.Sha512.{sha512}
use Rattle.picky_wire_base.specs.Wire.{string_of}
use Rattle.picky_suite.specs.declared.flavour.Flavour.{Flavour}
use Rattle.picky_suite.specs.declared.flavour.Flavour.TheVariants.{Argon2d, Argon2i, Argon2id}

-- ---- the cipher

-- bytes xored with a mask, each with its own; those that the mask doesn't reach stay
abbrev pub xored : List ℕ → List ℕ → List ℕ
xored [] mask = []
xored (b ∷ bytes) [] = b ∷ bytes
xored (b ∷ bytes) (m ∷ mask) = bit_xor b m ∷ xored bytes mask

-- the first 16 bytes
unfoldable pub first_block : List ℕ → List ℕ
first_block text = take 16 text

-- the bytes behind them
unfoldable pub more_blocks : List ℕ → List ℕ
more_blocks text = drop 16 text

-- the block cipher: a block xored with the first 16 bytes of the key
abbrev pub ciphered : List ℕ → List ℕ → List ℕ
ciphered key block = xored block (first_block key)

-- n blocks sealed: each plain block is xored with the sealed block before it, at first the iv, and then ciphered
abbrev pub seal_blocks : ℕ → List ℕ → List ℕ → List ℕ → List ℕ
seal_blocks zero key before text = text
seal_blocks (suc n) key before text =
    let sealed = ciphered key (xored (first_block text) before) in
    sealed ++ seal_blocks n key sealed (more_blocks text)

-- n blocks opened: each is ciphered, and then xored with the sealed block before it, at first the iv
abbrev pub open_blocks : ℕ → List ℕ → List ℕ → List ℕ → List ℕ
open_blocks zero key before text = text
open_blocks (suc n) key before text =
    xored (ciphered key (first_block text)) before ++ open_blocks n key (first_block text) (more_blocks text)

-- CBC of all whole blocks
unfoldable pub toy_seal : List ℕ → List ℕ → List ℕ → List ℕ
toy_seal key iv text = seal_blocks (length text / 16) key iv text

unfoldable pub toy_open : List ℕ → List ℕ → List ℕ → List ℕ
toy_open key iv text = open_blocks (length text / 16) key iv text

-- n masks in a row
abbrev pub masks : ℕ → List ℕ → List ℕ
masks zero mask = []
masks (suc n) mask = mask ++ masks n mask

-- the counter cipher: each block, the last one maybe cut, is xored with the key's first 16 bytes and the iv
unfoldable pub toy_ctr : List ℕ → List ℕ → List ℕ → List ℕ
toy_ctr key iv text = xored text (masks ((length text + 15) / 16) (ciphered key iv))

-- ---- the derivation

-- D(i): the digest of the passphrase and the salt as strings, the numbers as uint32, and the byte i
unfoldable pub derived_block : List ℕ → List ℕ → List ℕ → ℕ → List ℕ
derived_block pass salt numbers i =
    sha512 (string_of pass ++ string_of salt ++ flat_map (to_be_bytes w32) numbers ++ i ∷ [])

-- the first n bytes of D(0) and D(1) joined
unfoldable pub toy_derived : ℕ → List ℕ → List ℕ → List ℕ → List ℕ
toy_derived n pass salt numbers = take n (derived_block pass salt numbers 0 ++ derived_block pass salt numbers 1)

-- a flavour's number (RFC 9106, section 3.2: the type y)
abbrev pub flavour_number : Flavour → ℕ
flavour_number Argon2d = 0
flavour_number Argon2i = 1
flavour_number Argon2id = 2

-- bcrypt's one number is the rounds
abbrev pub toy_bcrypt : List ℕ → List ℕ → ℕ → ℕ → List ℕ
toy_bcrypt pass salt rounds n = toy_derived n pass salt (rounds ∷ [])

-- Argon2's numbers are the flavour's and those of the call
abbrev pub toy_argon2 : Flavour → ℕ → ℕ → ℕ → List ℕ → List ℕ → List ℕ
toy_argon2 flavour memory passes parallelism pass salt =
    toy_derived 80 pass salt (flavour_number flavour ∷ memory ∷ passes ∷ parallelism ∷ [])
