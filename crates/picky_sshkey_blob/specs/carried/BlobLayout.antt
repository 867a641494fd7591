-- What an element of the wire promises of its layout, for a private key's blob.
use Rattle.std.specs.Prelude.{◌≡◌, ◌≢◌, List, ℕ, Bool, true, false, if◌then◌else◌, ◌==◌, Result, Ok, Err}
use Rattle.std.proofs.Common.{refl, ◌∙◌}
use Rattle.picky_wire_base.specs.Flaw.{Reason, Short, NotUtf8, Big, Flawed, Length, Magic, Name, Number}
use Rattle.picky_wire_base.specs.Outcome.{map_err}
use Rattle.picky_wire_base.specs.Row.{Solid}
use Rattle.picky_wire_base.proofs.Solid.{refuses_empty}
use Rattle.picky_wire_base.specs.Wire.{byte_array, uint32, string, text}
use Rattle.picky_wire.specs.declared.error.WireError.TheVariants as wire
use Rattle.picky_keys.specs.Blob.{key_type}
use Rattle.picky_sshkey_blob.specs.declared.error.SshPrivateKeyError.{SshPrivateKeyError}
use Rattle.picky_sshkey_blob.specs.declared.error.SshPrivateKeyError.TheVariants as errors
use Rattle.picky_sshkey_blob.specs.FromWire.{private_key_error}
use Rattle.picky_sshkey_blob.specs.Blob.{secret}
use Rattle.picky_sshkey_blob.specs.BlobRefusal.{private_error, read_secret}
use Rattle.picky_sshkey_blob.specs.BlobLayout.{secret_layout}

-- A blob has at least one byte.
pub secret_solid : Solid secret.piece
unfolding secret key_type text string uint32 byte_array
secret_solid = refuses_empty secret (0, Flawed Short) refl

pub secret_reads_layout : (bytes : List ℕ) → read_secret bytes ≡ secret_layout.read bytes
unfolding read_secret
secret_reads_layout bytes = refl

-- no fault of a source, and no want of memory
abbrev IsOwn : SshPrivateKeyError → Type 0
IsOwn e = (e ≢ private_key_error wire.ReadFault) × (e ≢ private_key_error wire.NoMemory)

either_own : (b : Bool) → IsOwn (if b then errors.InvalidKeyFormat else errors.KeyError)
either_own true = (λ is. cc is, λ is. cc is)
either_own false = (λ is. cc is, λ is. cc is)

error_own : (reason : Reason) → IsOwn (private_error reason)
error_own (i, Flawed Short) = (λ is. cc is, λ is. cc is)
error_own (i, Flawed NotUtf8) = (λ is. cc is, λ is. cc is)
error_own (i, Flawed Big) = (λ is. cc is, λ is. cc is)
error_own (i, Length) = either_own (i == 2)
error_own (i, Magic) = (λ is. cc is, λ is. cc is)
error_own (i, Name name) = (λ is. cc is, λ is. cc is)
error_own (i, Number n) = (λ is. cc is, λ is. cc is)

refused_by : {A : Type 0} (r : Result (A × List ℕ) Reason) (e : SshPrivateKeyError) → map_err private_error r ≡ Err e
    → IsOwn e
refused_by (Ok found) e is = cc is
refused_by (Err reason) e is =
    let same : private_error reason ≡ e = cc is in
    let kept = error_own reason in
    (λ other. kept.0 (same ∙ other), λ other. kept.1 (same ∙ other))

-- No bytes are refused for a fault or for want of memory.
pub secret_own : (bytes : List ℕ) (e : SshPrivateKeyError) → read_secret bytes ≡ Err e
    → (e ≢ private_key_error wire.ReadFault) × (e ≢ private_key_error wire.NoMemory)
unfolding read_secret
secret_own bytes e refused = refused_by (secret.read bytes) e refused
