-- The MAC of a PuTTY private key file: what it covers, its keys and its value (PuTTY's manual, Appendix C, "PPK file
-- format", and of version 2 "PPK version 2").
use Rattle.std.specs.Prelude.{List, [], ◌∷◌, ◌++◌, ℕ, ◌&&◌, codes, Result, Ok, Err, if◌then◌else◌}
use Rattle.std.specs.List.{concat}
use Rattle.sha1.specs.Sha1.{sha1}
use Rattle.picky_wire_base.specs.Wire.{string_of}
use Rattle.picky_kv.specs.declared.PpkVersionKey.{PpkVersionKey}
use Rattle.picky_kv.specs.declared.PpkVersionKey.TheVariants.{V2, V3}
use Rattle.picky_suite.specs.Meanings.{Meanings}
use Rattle.picky_keys.specs.LineRefusal.{is_short}
use Rattle.picky_ppk_parts.specs.declared.error.PuttyError.{PuttyError}
use Rattle.picky_ppk_parts.specs.declared.error.PuttyError.TheVariants as errors
use Rattle.picky_ppk_parts.specs.declared.mac.Mac.{Mac}
use Rattle.picky_ppk_parts.specs.declared.mac.Mac.TheVariants as macs

-- ---- what it covers

-- string algorithm
-- string encryption
-- string comment
-- string public blob
-- string private bytes, which aren't sealed, with their padding
unfoldable pub mac_input : (algorithm encryption comment public private : List ℕ) → List ℕ
mac_input algorithm encryption comment public private = concat (
    string_of algorithm ∷ string_of encryption ∷ string_of comment ∷ string_of public ∷ string_of private ∷ [])

-- the same, where a length of the wire can say each field's
unfoldable pub input_bytes : (algorithm encryption comment public private : List ℕ) → Result (List ℕ) PuttyError
input_bytes algorithm encryption comment public private =
    if is_short algorithm && is_short encryption && is_short comment && is_short public && is_short private
    then Ok (mac_input algorithm encryption comment public private) else Err errors.TooLong

-- ---- its keys

unfoldable pub mac_key_label : List ℕ
mac_key_label = codes "putty-private-key-file-mac-key"

-- the key of version 2 is made of the passphrase, which is empty where the file isn't sealed
unfoldable pub mac_key_v2 : List ℕ → List ℕ
mac_key_v2 pass = sha1 (mac_key_label ++ pass)

-- the key of a file that isn't sealed
unfoldable pub plain_mac_key : PpkVersionKey → List ℕ
plain_mac_key V2 = mac_key_v2 []
plain_mac_key V3 = []

-- ---- its value

-- HMAC-SHA-1 in version 2, HMAC-SHA-256 in version 3
abbrev pub mac_of : Meanings → PpkVersionKey → (key input : List ℕ) → List ℕ
mac_of m V2 key input = m.hmac_sha1 key input
mac_of m V3 key input = m.hmac_sha256 key input

-- the bytes of a MAC
abbrev pub mac_bytes : Mac → List ℕ
mac_bytes (macs.V2 bytes) = bytes
mac_bytes (macs.V3 bytes) = bytes
