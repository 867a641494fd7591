-- HMAC, after RFC 2104, section 2, over a digest h that works on blocks of 64 bytes.
use Rattle.std.specs.Prelude.{ℕ, ◌-◌, nat_lt, bit_xor, List, ◌++◌, length, map, replicate, if◌then◌else◌}

-- B, the bytes of a block
abbrev pub hash_block_len : ℕ
hash_block_len = 64

-- ipad is this byte, B times
abbrev pub inner_pad : ℕ
inner_pad = 0x36

-- opad is this byte, B times
abbrev pub outer_pad : ℕ
outer_pad = 0x5C

-- the key itself, or its digest where it has more than B bytes
abbrev pub short_key : (List ℕ → List ℕ) → List ℕ → List ℕ
short_key h key = if nat_lt hash_block_len (length key) then h key else key

-- a short key with zero bytes appended, up to B bytes
abbrev pub padded_key : List ℕ → List ℕ
padded_key short = short ++ replicate (hash_block_len - length short) 0

-- K: the B bytes that a key stands for
abbrev pub block_key : (List ℕ → List ℕ) → List ℕ → List ℕ
block_key h key = padded_key (short_key h key)

-- a block with each of its bytes xored with the pad's
abbrev pub xored_block : List ℕ → ℕ → List ℕ
xored_block block pad = map (λ byte. bit_xor byte pad) block

-- H(K XOR ipad, text): the digest of the first block followed by the message
abbrev pub inner_digest : (List ℕ → List ℕ) → List ℕ → List ℕ → List ℕ
inner_digest h key message = h (xored_block (block_key h key) inner_pad ++ message)

-- H(K XOR opad, H(K XOR ipad, text)): the MAC of the message under the key
abbrev pub hmac : (List ℕ → List ℕ) → List ℕ → List ℕ → List ℕ
hmac h key message = h (xored_block (block_key h key) outer_pad ++ inner_digest h key message)
