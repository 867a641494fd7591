-- The private blob's layout, as an element of the wire carries it.
use Rattle.picky_wire_base.specs.Grammar.{Grammar}
use Rattle.picky_wire_base.specs.Combine.{tag}
use Rattle.picky_sshkey_blob.specs.declared.error.SshPrivateKeyError.{SshPrivateKeyError}
use Rattle.picky_sshkey_blob.specs.declared.key.SshBasePrivateKey.{SshBasePrivateKey}
use Rattle.picky_sshkey_blob.specs.Blob.{secret}
use Rattle.picky_sshkey_blob.specs.BlobRefusal.{private_error}

-- the layout of a blob, with this layer's errors
abbrev pub secret_layout : Grammar SshPrivateKeyError SshBasePrivateKey
secret_layout = tag private_error secret
