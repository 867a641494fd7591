-- The blob's layout, as an element of the wire carries it.
use Rattle.picky_wire_base.specs.Grammar.{Grammar}
use Rattle.picky_wire_base.specs.Combine.{tag}
use Rattle.picky_keys.specs.declared.error.SshPublicKeyError.{SshPublicKeyError}
use Rattle.picky_keys.specs.declared.key.SshBasePublicKey.{SshBasePublicKey}
use Rattle.picky_keys.specs.Blob.{blob}
use Rattle.picky_keys.specs.BlobRefusal.{blob_error}

-- the layout of a blob, with this layer's errors
abbrev pub blob_layout : Grammar SshPublicKeyError SshBasePublicKey
blob_layout = tag blob_error blob
