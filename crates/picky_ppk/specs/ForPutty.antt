-- A PuTTY private key file as PuTTY's own programs read and write it (PuTTY's manual, Appendix C): an Ed25519 secret is a
-- string of its 32 bytes. The number that is written elsewhere (`Secret` of picky_ppk_parts) is read as the same secret.
use Rattle.std.specs.Prelude.{◌≡◌, List, ℕ, Bool, true, false, length, Result, Ok, if◌then◌else◌}
use Rattle.picky_wire_base.specs.Outcome.{and_then}
use Rattle.picky_wire_base.specs.Wire.{string_of}
use Rattle.picky_kv.specs.declared.algorithm.PpkKeyAlgorithmValue.{PpkKeyAlgorithmValue}
use Rattle.picky_kv.specs.declared.algorithm.PpkKeyAlgorithmValue.TheVariants as algorithms
use Rattle.picky_suite.specs.Meanings.{Meanings}
use Rattle.picky_sshkey_blob.specs.declared.key.SshBasePrivateKey.{SshBasePrivateKey}
use Rattle.picky_sshkey_blob.specs.declared.key.SshBasePrivateKey.TheVariants as keys
use Rattle.picky_ppk_parts.specs.declared.error.PuttyError.{PuttyError}
use Rattle.picky_ppk_file.specs.declared.file.PpkFile.{PpkFile}
use Rattle.picky_ppk.specs.Mac.{with_own_mac}
use Rattle.picky_ppk.specs.Changed.{open_file}
use Rattle.picky_ppk.specs.KeyOf.{base_key_of}

-- the algorithm is the one whose secret PuTTY lays out otherwise
abbrev pub is_ed25519 : PpkKeyAlgorithmValue → Bool
is_ed25519 algorithms.Rsa = false
is_ed25519 algorithms.Dss = false
is_ed25519 algorithms.EcdsaSha2Nistp256 = false
is_ed25519 algorithms.EcdsaSha2Nistp384 = false
is_ed25519 algorithms.EcdsaSha2Nistp521 = false
is_ed25519 algorithms.Ed25519 = true
is_ed25519 algorithms.Ed448 = false

-- the private bytes are the string of 32, where the file is Ed25519's
abbrev pub HasPuttySecret : PpkFile → Type 0
HasPuttySecret f =
    is_ed25519 f.algorithm ≡ true → (secret : List ℕ) × (length secret ≡ 32) × (f.private_bytes ≡ string_of secret)

-- the file with the secret of this key so, where it is Ed25519's
abbrev pub with_putty_secret : PpkFile → SshBasePrivateKey → PpkFile
with_putty_secret f (keys.Ed secret public) = record f { private_bytes = string_of secret }
with_putty_secret f (keys.Rsa n e d iqmp p q) = f
with_putty_secret f (keys.Ec curve point secret) = f
with_putty_secret f (keys.SkEcdsaSha2NistP256 point application flags handle) = f
with_putty_secret f (keys.SkEd25519 key application flags handle) = f

-- an Ed25519 file with its own key's secret so; of other files nothing is read
unfoldable pub putty_fields : PpkFile → Result PpkFile PuttyError
putty_fields f =
    if is_ed25519 f.algorithm then and_then (base_key_of f) (λ key. Ok (with_putty_secret f key)) else Ok f

-- the file for PuTTY with its own MAC, or the first reason why there is none
unfoldable pub for_putty : Meanings → PpkFile → Result PpkFile PuttyError
for_putty m f = and_then (open_file f) (λ f. and_then (putty_fields f) (λ fields. Ok (with_own_mac m fields)))
