-- Base64 as RFC 4648, section 4, writes it: padded, and nothing else.
use Rattle.std.specs.Prelude.{List, ℕ, Option}
use Rattle.base64.specs.Engines.{standard}
use Rattle.base64.specs.GeneralPurpose.{encode_of, decoded_of}
use Rattle.std.proofs.Common.{ℕ, ◌==◌, ◌||◌, Bool, IsTrue, List}
use Rattle.std.specs.List.{AllByRecursion}
use Rattle.std.specs.Char.{is_ascii_alphanumeric}

-- the base64 text of the bytes
unfoldable pub base64_of : List ℕ → List ℕ
base64_of bytes = encode_of standard bytes

-- the bytes whose base64 text this is, where there are such
unfoldable pub decoded : List ℕ → Option (List ℕ)
decoded body = decoded_of standard body

-- a letter, a digit, `+`, `/` or `=`
abbrev pub is_base64_symbol : ℕ → Bool
is_base64_symbol b = is_ascii_alphanumeric b || b == 43 || b == 47 || b == 61

-- each byte is such a symbol
abbrev pub AreBase64Symbols : List ℕ → Type 0
AreBase64Symbols body = AllByRecursion (λ b. IsTrue (is_base64_symbol b)) body
