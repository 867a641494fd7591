-- A key's file in each layout of an Ed25519 secret: the number that this project writes (`Secret` of picky_ppk_parts), and the
-- string of its 32 bytes that PuTTY's own programs write (PuTTY's manual, Appendix C).
use Rattle.std.specs.Prelude.{◌≡◌, List, ℕ, Option, None, Some, Result, Ok, Err, if◌then◌else◌}
use Rattle.picky_wire_base.specs.Outcome.{and_then}
use Rattle.picky_wire_base.specs.Wire.{string_of}
use Rattle.picky_kv.specs.declared.PpkVersionKey.{PpkVersionKey}
use Rattle.picky_kv.specs.declared.algorithm.PpkKeyAlgorithmValue.{PpkKeyAlgorithmValue}
use Rattle.picky_suite.specs.Meanings.{Meanings}
use Rattle.picky_keys.specs.LineRefusal.{is_short}
use Rattle.picky_sshkey_blob.specs.declared.key.SshBasePrivateKey.{SshBasePrivateKey}
use Rattle.picky_sshkey_blob.specs.declared.key.SshBasePrivateKey.TheVariants as keys
use Rattle.picky_sshkey_blob.specs.Key.{public_part}
use Rattle.picky_ppk_parts.specs.declared.error.PuttyError.{PuttyError}
use Rattle.picky_ppk_parts.specs.declared.error.PuttyError.TheVariants as errors
use Rattle.picky_ppk_parts.specs.declared.key_parts.KeyParts.{KeyParts}
use Rattle.picky_ppk_parts.specs.KeyParts.{blob_within, private_algorithm}
use Rattle.picky_ppk_parts.specs.Secret.{secret_bytes}
use Rattle.picky_ppk_file.specs.declared.file.PpkFile.{PpkFile}
use Rattle.picky_ppk.specs.declared.layout.PpkLayout.{PpkLayout}
use Rattle.picky_ppk.specs.declared.layout.PpkLayout.TheVariants as layouts
use Rattle.picky_ppk.specs.Changed.{file_of_parts}
use Rattle.picky_ppk.specs.ForPutty.{HasPuttySecret}
use Rattle.picky_ppk.specs.Mac.{CarriesMac}
use Rattle.picky_ppk.specs.Opened.{decrypted}

-- the private bytes of a key in a layout; only an Ed25519 secret has two
unfoldable pub laid_secret : PpkLayout → SshBasePrivateKey → List ℕ
laid_secret layouts.Number key = secret_bytes key
laid_secret layouts.Putty (keys.Rsa n e d iqmp p q) = secret_bytes (keys.Rsa n e d iqmp p q)
laid_secret layouts.Putty (keys.Ec curve point secret) = secret_bytes (keys.Ec curve point secret)
laid_secret layouts.Putty (keys.Ed secret public) = string_of secret
laid_secret layouts.Putty (keys.SkEcdsaSha2NistP256 point application flags handle) =
    secret_bytes (keys.SkEcdsaSha2NistP256 point application flags handle)
laid_secret layouts.Putty (keys.SkEd25519 key application flags handle) = secret_bytes (keys.SkEd25519 key application flags handle)

-- the public key's blob and the private bytes, where a length of the wire can say the length of each
abbrev pub laid_under : PpkLayout → SshBasePrivateKey → PpkKeyAlgorithmValue → Result KeyParts PuttyError
laid_under layout key algorithm =
    and_then (blob_within (public_part key)) (λ blob.
    if is_short (laid_secret layout key)
    then Ok (record { algorithm = algorithm; blob = blob; private_bytes = laid_secret layout key }) else Err errors.TooLong)

-- the parts of a key in a layout, or the first reason why it has none
unfoldable pub laid_parts : PpkLayout → SshBasePrivateKey → Result KeyParts PuttyError
laid_parts layout key = and_then (private_algorithm key) (laid_under layout key)

-- a key and a comment as a file of a version in a layout
unfoldable pub laid_file : Meanings → PpkVersionKey → PpkLayout → SshBasePrivateKey → (comment : List ℕ)
    → Result PpkFile PuttyError
laid_file m version layout key comment =
    and_then (laid_parts layout key) (λ parts. Ok (file_of_parts m version comment parts))

-- the file has PuTTY's own layout, and its own MAC where it isn't sealed: where it is, what the passphrase opens of it has both
abbrev pub HasPuttyLayout : Meanings → Option (List ℕ) → PpkFile → Type 0
HasPuttyLayout m None f = CarriesMac m f × HasPuttySecret f
HasPuttyLayout m (Some pass) f = (opened : PpkFile) × (decrypted m pass f ≡ Ok opened) × CarriesMac m opened × HasPuttySecret opened
