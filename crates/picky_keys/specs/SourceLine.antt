-- A public key line in front of a source's bytes: what is taken, what it means, and the order of its refusals.
use Rattle.std.specs.Prelude.{◌≡◌, ◌+◌, ◌^◌, false, List, ℕ, length, drop, Result, Ok, Err, if◌then◌else◌}
use Rattle.std.specs.List.{after_first, AllByRecursion}
use Rattle.picky_wire_base.specs.Outcome.{and_then}
use Rattle.picky_text.specs.Words.{ends_line, line_in_front}
use Rattle.picky_wire.specs.declared.error.WireError.{WireError}
use Rattle.picky_wire.specs.declared.error.WireError.TheVariants as wire
use Rattle.picky_keys.specs.declared.error.SshPublicKeyError.{SshPublicKeyError}
use Rattle.picky_keys.specs.declared.key.SshPublicKey.{SshPublicKey}
use Rattle.picky_keys.specs.FromWire.{public_key_error}
use Rattle.picky_keys.specs.LineRefusal.{is_short, line_meaning}

-- no byte of these ends a line
abbrev pub Stays : List ℕ → Type 0
Stays bytes = AllByRecursion (λ b. ends_line b ≡ false) bytes

-- what is left after the line and the one byte that ends it; of a line of 2^32 bytes or more that many are taken
unfoldable pub after_line : List ℕ → List ℕ
after_line bytes =
    if is_short (line_in_front bytes) then after_first ends_line bytes else drop (2 ^ 32) bytes

-- how many bytes a line asks for: its own and the one that ends it, or 2^32
unfoldable pub line_used : List ℕ → ℕ
line_used bytes = if is_short (line_in_front bytes) then length (line_in_front bytes) + 1 else 2 ^ 32

-- the line in front, and what is left after it; or the error that says that it is too long
unfoldable pub read_line : {E : Type 0} → (WireError → E) → List ℕ → Result (List ℕ × List ℕ) E
read_line of bytes =
    if is_short (line_in_front bytes) then Ok (line_in_front bytes, after_line bytes) else Err (of wire.TooLong)

-- the key that the source's bytes begin with and what is left, or the first reason why there is none
unfoldable pub source_meaning : List ℕ → Result (SshPublicKey × List ℕ) SshPublicKeyError
source_meaning bytes =
    and_then (read_line public_key_error bytes) (λ line. and_then (line_meaning line.0) (λ key. Ok (key, line.1)))

-- a line means the value
abbrev pub HasLine : {A E : Type 0} → (List ℕ → Result A E) → A → Type 0
HasLine meaning value = (line : List ℕ) × (meaning line ≡ Ok value)
