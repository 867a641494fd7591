-- What an element of the wire promises of its layout, for the blob.
use Rattle.std.specs.Prelude.{◌≡◌, ◌≢◌, List, ℕ, Result, Ok, Err}
use Rattle.std.proofs.Common.{refl, ◌∙◌}
use Rattle.picky_wire_base.specs.Flaw.{Reason, Short, NotUtf8, Big, Flawed, Length, Magic, Name, Number}
use Rattle.picky_wire_base.specs.Outcome.{map_err}
use Rattle.picky_wire_base.specs.Row.{Solid}
use Rattle.picky_wire_base.proofs.Solid.{refuses_empty}
use Rattle.picky_wire_base.specs.Wire.{byte_array, uint32, string, text}
use Rattle.picky_wire.specs.declared.error.WireError.TheVariants as wire
use Rattle.picky_keys.specs.declared.error.SshPublicKeyError.{SshPublicKeyError}
use Rattle.picky_keys.specs.FromWire.{public_key_error}
use Rattle.picky_keys.specs.Blob.{key_type, blob}
use Rattle.picky_keys.specs.BlobRefusal.{blob_error, read_blob}
use Rattle.picky_keys.specs.BlobLayout.{blob_layout}

-- A blob has at least one byte.
pub blob_solid : Solid blob.piece
unfolding blob key_type text string uint32 byte_array
blob_solid = refuses_empty blob (0, Flawed Short) refl

pub blob_reads_layout : (bytes : List ℕ) → read_blob bytes ≡ blob_layout.read bytes
unfolding read_blob
blob_reads_layout bytes = refl

no_fault : (reason : Reason) → (blob_error reason ≢ public_key_error wire.ReadFault)
    × (blob_error reason ≢ public_key_error wire.NoMemory)
no_fault (i, Flawed Short) = (λ is. cc is, λ is. cc is)
no_fault (i, Flawed NotUtf8) = (λ is. cc is, λ is. cc is)
no_fault (i, Flawed Big) = (λ is. cc is, λ is. cc is)
no_fault (i, Length) = (λ is. cc is, λ is. cc is)
no_fault (i, Magic) = (λ is. cc is, λ is. cc is)
no_fault (i, Name name) = (λ is. cc is, λ is. cc is)
no_fault (i, Number n) = (λ is. cc is, λ is. cc is)

refused_by : {A : Type 0} (r : Result (A × List ℕ) Reason) (e : SshPublicKeyError) → map_err blob_error r ≡ Err e
    → (e ≢ public_key_error wire.ReadFault) × (e ≢ public_key_error wire.NoMemory)
refused_by (Ok found) e is = cc is
refused_by (Err reason) e is =
    let same : blob_error reason ≡ e = cc is in
    let kept = no_fault reason in
    (λ other. kept.0 (same ∙ other), λ other. kept.1 (same ∙ other))

-- No bytes are refused for a fault or for want of memory.
pub blob_own : (bytes : List ℕ) (e : SshPublicKeyError) → read_blob bytes ≡ Err e
    → (e ≢ public_key_error wire.ReadFault) × (e ≢ public_key_error wire.NoMemory)
unfolding read_blob
blob_own bytes e refused = refused_by (blob.read bytes) e refused
