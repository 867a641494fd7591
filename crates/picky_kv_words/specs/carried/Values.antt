-- Bytes are read back from their hex, and fewer than 2^32 are not long.
use Rattle.std.specs.Prelude.{◌≡◌, ℕ, ◌^◌, ◌<◌, false, List, length, Some}
use Rattle.std.proofs.Common.{arith, ap}
use Rattle.std.proofs.lemmas.Bool.Decides.{nat_tests}
use Rattle.std.specs.Result.{result_ok}
use Rattle.hex.specs.Hex.{encode_lower}
use Rattle.hex.proofs.HexLemmas.{decode_of-encode_lower}
use Rattle.picky_wire_base.specs.Numbers.{IsBytes}
use Rattle.picky_kv_words.specs.Values.{is_long, hex_decoded}

-- fewer are not
pub short_is_not_long : (bytes : List ℕ) → length bytes < 2 ^ 32 → is_long bytes ≡ false
short_is_not_long bytes short = grind (arith, nat_tests)

-- bytes are read back from their hex text
pub hex_is_read_back : (bytes : List ℕ) → IsBytes bytes
    → hex_decoded (encode_lower bytes) ≡ Some bytes
unfolding hex_decoded
hex_is_read_back bytes small = ap result_ok (decode_of-encode_lower bytes small)
