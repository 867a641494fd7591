-- A blob that is written is read back.
use Rattle.std.specs.Prelude.{◌≡◌, List, ℕ, ◌++◌, Ok}
use Rattle.picky_keys.specs.declared.key.SshBasePublicKey.{SshBasePublicKey}
use Rattle.picky_keys.specs.Key.{IsKey}
use Rattle.picky_keys.specs.Blob.{blob, blob_of}
use Rattle.picky_keys.specs.carried.Blob.{blob_spells}

-- It is read back whatever follows.
pub blob_reads_back : (key : SshBasePublicKey) (rest : List ℕ) → IsKey key
    → blob.read (blob_of key ++ rest) ≡ Ok (key, rest)
blob_reads_back key rest is = blob.complete key (blob_of key) rest (blob_spells key is)
