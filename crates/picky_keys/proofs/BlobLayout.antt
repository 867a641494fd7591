-- The laws of the blob's layout as an element of the wire.
use Rattle.std.specs.Prelude.{◌≡◌, List, ℕ, ◌++◌, drop, Result, Ok, Err}
use Rattle.std.proofs.Common.{refl, ap, ◌∙◌}
use Rattle.picky_wire_base.specs.Flaw.{Reason}
use Rattle.picky_wire_base.specs.View.{Sees, why_in}
use Rattle.picky_wire_base.specs.declared.view.Stuck.{Stuck}
use Rattle.picky_wire_base.specs.Grammar.{Fits}
use Rattle.picky_wire_base.specs.Outcome.{map_err}
use Rattle.picky_wire_base.specs.carried.Outcome.{map_err_ok}
use Rattle.picky_keys.specs.declared.key.SshBasePublicKey.{SshBasePublicKey}
use Rattle.picky_keys.specs.Key.{IsKey}
use Rattle.picky_keys.specs.Blob.{blob, blob_of}
use Rattle.picky_keys.specs.BlobRefusal.{blob_error, read_blob, why_error}
use Rattle.picky_keys.specs.View.{answer_of, key_seen}
use Rattle.picky_keys.specs.declared.view.PublicView.{PublicView}
use Rattle.picky_keys.specs.carried.Blob.{blob_spells}

-- What is read in front is spelled there.
pub blob_sound : (bytes : List ℕ) (key : SshBasePublicKey) (rest : List ℕ) → read_blob bytes ≡ Ok (key, rest)
    → Fits blob.piece key bytes rest
unfolding read_blob
blob_sound bytes key rest read = blob.sound bytes key rest (map_err_ok blob_error (blob.read bytes) (key, rest) read)

-- What is spelled in front is read.
pub blob_complete : (key : SshBasePublicKey) (front rest : List ℕ) → blob.piece key front
    → read_blob (front ++ rest) ≡ Ok (key, rest)
unfolding read_blob
blob_complete key front rest spells = ap (map_err blob_error) (blob.complete key front rest spells)

-- What is written is read back whatever follows.
pub blob_is_read_back : (key : SshBasePublicKey) (rest : List ℕ) → IsKey key
    → read_blob (blob_of key ++ rest) ≡ Ok (key, rest)
blob_is_read_back key rest is = blob_complete key (blob_of key) rest (blob_spells key is)

reasons : {A : Type 0} (r : Result A Reason) → map_err blob_error r ≡ map_err why_error (map_err why_in r)
reasons (Ok found) = refl
reasons (Err reason) = refl

-- What a view sees is what the reader reads.
pub view_reads : (bytes : List ℕ) (from : ℕ) (r : Result (PublicView × ℕ) Stuck)
    → Sees key_seen why_in blob bytes from r → read_blob (drop from bytes) ≡ answer_of bytes r
unfolding read_blob
view_reads bytes from (Ok (view, next)) sees = ap (map_err blob_error) sees
view_reads bytes from (Err stuck) sees = reasons (blob.read (drop from bytes)) ∙ ap (map_err why_error) sees
