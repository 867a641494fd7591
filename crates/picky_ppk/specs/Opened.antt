-- A sealed file opened under a passphrase (PuTTY's manual, Appendix C), and the order in which it is refused.
use Rattle.std.specs.Prelude.{List, ℕ, ◌&&◌, Bool, not, take, Result, Ok, Err, if◌then◌else◌}
use Rattle.std.specs.Str.{bytes_eq}
use Rattle.picky_wire_base.specs.Outcome.{and_then}
use Rattle.picky_suite.specs.Meanings.{Meanings}
use Rattle.picky_ppk_parts.specs.declared.error.PuttyError.{PuttyError}
use Rattle.picky_ppk_parts.specs.declared.error.PuttyError.TheVariants as errors
use Rattle.picky_ppk_parts.specs.Aes.{is_aligned}
use Rattle.picky_ppk_parts.specs.Counted.{counted}
use Rattle.picky_ppk_parts.specs.Keys.{Keys}
use Rattle.picky_ppk_file.specs.declared.file.PpkFile.{PpkFile}
use Rattle.picky_ppk_file.specs.declared.file.PpkSealing.TheVariants.{Unsealed}
use Rattle.picky_ppk_file.specs.File.{version_of, is_sealed}
use Rattle.picky_ppk.specs.Keyed.{can_derive, keys_under}
use Rattle.picky_ppk.specs.Mac.{mac_under, with_own_mac}

-- ---- what is judged before the suite is asked

abbrev pub is_openable : List ℕ → PpkFile → Bool
is_openable pass f = is_sealed f.sealing && can_derive f.sealing pass && is_aligned f.private_bytes

-- the reason why it isn't
abbrev pub not_openable : List ℕ → PpkFile → PuttyError
not_openable pass f =
    if not (is_sealed f.sealing) then errors.AlreadyDecrypted
    else if not (can_derive f.sealing pass) then errors.Argon2 else errors.Aes

-- ---- what is judged of what it gives

-- the file that isn't sealed, of these private bytes
abbrev pub unsealed : Meanings → PpkFile → (private : List ℕ) → PpkFile
unsealed m f private =
    with_own_mac m (record f { sealing = Unsealed (version_of f.sealing); private_bytes = private })

-- the opened bytes, where the file's MAC covers them, cut after their counted strings
abbrev pub opened_file : Meanings → Keys → PpkFile → (plain : List ℕ) → Result PpkFile PuttyError
opened_file m keys f plain =
    if bytes_eq (mac_under m keys.mac_key f plain) f.mac
    then and_then (counted f.algorithm plain) (λ n. Ok (unsealed m f (take n plain)))
    else Err errors.MacValidation

-- the file opened, or the first reason why it isn't
unfoldable pub decrypted : Meanings → (pass : List ℕ) → PpkFile → Result PpkFile PuttyError
decrypted m pass f =
    let keys = keys_under m f.sealing pass in
    if is_openable pass f then opened_file m keys f (m.cbc_open keys.key keys.iv f.private_bytes)
    else Err (not_openable pass f)
