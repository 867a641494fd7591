-- The test of UTF-8.
use Rattle.std.proofs.Common.{◌≡◌, ℕ, List, [], true}
use Rattle.std.proofs.lemmas.Str.{IsUtf8-nil, is_utf8-from_IsUtf8}
use Rattle.std.specs.Str.{IsUtf8, is_utf8}

pub is_text : (bytes : List ℕ) → IsUtf8 bytes → is_utf8 bytes ≡ true
is_text bytes is = is_utf8-from_IsUtf8 bytes is

pub nothing_is_text : (bytes : List ℕ) → bytes ≡ [] → IsUtf8 bytes
nothing_is_text bytes is = rw is IsUtf8-nil
