-- AES-256-CBC over the private bytes, by what a suite's calls mean (PuTTY's manual, Appendix C).
use Rattle.std.specs.Prelude.{List, ℕ, ◌%◌, ◌==◌, Bool, length, Result, Ok, Err, if◌then◌else◌}
use Rattle.picky_suite.specs.Meanings.{Meanings}
use Rattle.picky_ppk_parts.specs.declared.error.PuttyError.{PuttyError}
use Rattle.picky_ppk_parts.specs.declared.error.PuttyError.TheVariants as errors

-- whole blocks of 16 bytes
abbrev pub is_aligned : List ℕ → Bool
is_aligned message = length message % 16 == 0

-- the message sealed, and the message opened
unfoldable pub sealed_message : Meanings → (key iv message : List ℕ) → Result (List ℕ) PuttyError
sealed_message m key iv message = if is_aligned message then Ok (m.cbc_seal key iv message) else Err errors.Aes

unfoldable pub opened_message : Meanings → (key iv message : List ℕ) → Result (List ℕ) PuttyError
opened_message m key iv message = if is_aligned message then Ok (m.cbc_open key iv message) else Err errors.Aes
