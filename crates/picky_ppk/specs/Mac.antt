-- The MAC that a PuTTY private key file carries (PuTTY's manual, Appendix C).
use Rattle.std.specs.Prelude.{◌≡◌, false, List, ℕ}
use Rattle.picky_kv.specs.Choices.{encryption_literal}
use Rattle.picky_kv.specs.Algorithm.{algorithm_literal}
use Rattle.picky_suite.specs.Meanings.{Meanings}
use Rattle.picky_ppk_parts.specs.Mac.{mac_input, mac_of, plain_mac_key}
use Rattle.picky_ppk_file.specs.declared.file.PpkFile.{PpkFile}
use Rattle.picky_ppk_file.specs.File.{version_of, encryption_of, is_sealed}

-- what it covers: the file's fields, and the private bytes that aren't sealed, with their padding
abbrev pub covered : PpkFile → List ℕ → List ℕ
covered f private =
    mac_input (algorithm_literal f.algorithm) (encryption_literal (encryption_of f.sealing)) f.comment f.public_key private

-- its value under a key
abbrev pub mac_under : Meanings → (key : List ℕ) → PpkFile → (private : List ℕ) → List ℕ
mac_under m key f private = mac_of m (version_of f.sealing) key (covered f private)

-- the MAC of a file that isn't sealed
unfoldable pub own_mac : Meanings → PpkFile → List ℕ
own_mac m f = mac_under m (plain_mac_key (version_of f.sealing)) f f.private_bytes

-- the file carries the MAC of its own version and fields
abbrev pub CarriesMac : Meanings → PpkFile → Type 0
CarriesMac m f = (is_sealed f.sealing ≡ false) × (f.mac ≡ own_mac m f)

-- the same file with its own MAC
abbrev pub with_own_mac : Meanings → PpkFile → PpkFile
with_own_mac m f = record f { mac = own_mac m f }
