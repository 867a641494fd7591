-- What the calls of a suite may be given: numbers, lengths and sizes.
use Rattle.std.specs.Prelude.{◌≡◌, ℕ, ◌*◌, ◌%◌, ◌^◌, ◌<◌, ◌≤◌}
use Rattle.std.specs.Prelude.{◌⊎◌, Bool, ◌&&◌, nat_lt, nat_le, List, length}

-- bcrypt derives from a passphrase and a salt that aren't empty, each below 2^32 bytes, in one round at least
abbrev pub BcryptOk : ℕ → ℕ → ℕ → Type 0
BcryptOk pass_len salt_len rounds =
    (1 ≤ pass_len) × (pass_len < 2 ^ 32) × (1 ≤ salt_len) × (salt_len < 2 ^ 32) × (1 ≤ rounds)

-- the same as a test
unfoldable pub bcrypt_fits : ℕ → ℕ → ℕ → Bool
bcrypt_fits pass_len salt_len rounds =
    nat_le 1 pass_len && nat_lt pass_len (2 ^ 32) && nat_le 1 salt_len && nat_lt salt_len (2 ^ 32)
    && nat_le 1 rounds

-- Argon2's numbers (RFC 9106, section 3.1): 1 to 2^24 - 1 lanes, 8 blocks of memory a lane at least, one pass at
-- least, a passphrase below 2^32 bytes, and a salt of at least 8
abbrev pub Argon2Ok : ℕ → ℕ → ℕ → ℕ → ℕ → Type 0
Argon2Ok memory passes parallelism pass_len salt_len =
    (1 ≤ parallelism) × (parallelism ≤ 16777215) × (8 * parallelism ≤ memory) × (1 ≤ passes)
    × (pass_len < 2 ^ 32) × (8 ≤ salt_len) × (salt_len < 2 ^ 32)

-- the same as a test
unfoldable pub argon2_fits : ℕ → ℕ → ℕ → ℕ → ℕ → Bool
argon2_fits memory passes parallelism pass_len salt_len =
    nat_le 1 parallelism && nat_le parallelism 16777215 && nat_le (8 * parallelism) memory && nat_le 1 passes
    && nat_lt pass_len (2 ^ 32) && nat_le 8 salt_len && nat_lt salt_len (2 ^ 32)

-- bcrypt gives a key of 16 or 32 bytes, and an iv of 16
abbrev pub IsBcryptLen : ℕ → Type 0
IsBcryptLen n = (n ≡ 32) ⊎ (n ≡ 48)

-- a key of AES-128 or of AES-256
abbrev pub IsCipherKey : List ℕ → Type 0
IsCipherKey key = (length key ≡ 16) ⊎ (length key ≡ 32)

-- a text of whole blocks
abbrev pub IsWhole : List ℕ → Type 0
IsWhole text = length text % 16 ≡ 0
