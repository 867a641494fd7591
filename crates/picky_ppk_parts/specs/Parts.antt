-- The key that an algorithm, a public blob and private bytes stand for.
use Rattle.std.specs.Prelude.{◌≡◌, List, ℕ}
use Rattle.picky_wire_base.specs.Front.{Begins}
use Rattle.picky_kv.specs.declared.algorithm.PpkKeyAlgorithmValue.{PpkKeyAlgorithmValue}
use Rattle.picky_keys.specs.declared.public_key.PublicKey.{PublicKey}
use Rattle.picky_keys.specs.Blob.{blob as blob_layout}
use Rattle.picky_sshkey_blob.specs.declared.key.SshBasePrivateKey.{SshBasePrivateKey}
use Rattle.picky_ppk_parts.specs.Algorithm.{algorithm_of, ssh_key_of}
use Rattle.picky_ppk_parts.specs.Secret.{ppk_secret_fields}

-- the blob begins with a spelling of a public key that the algorithm names, and the private bytes with one of the key's
-- secret; what follows either says nothing
pub record StandsForKey (algorithm : PpkKeyAlgorithmValue) (blob private : List ℕ) (key : SshBasePrivateKey) : Type 0 where
  pub public : PublicKey
  pub named : algorithm ≡ algorithm_of public
  pub blob_begins : Begins blob_layout.piece blob (ssh_key_of public)
  pub private_begins : Begins (ppk_secret_fields public).piece private key
