-- A key and its comment: its public part, and the two kinds of a meaning.
use Rattle.std.specs.Prelude.{List, ℕ}
use Rattle.picky_keys.specs.declared.key.SshBasePublicKey.{SshBasePublicKey}
use Rattle.picky_keys.specs.declared.key.SshPublicKey.{SshPublicKey}
use Rattle.picky_sshkey_blob.specs.declared.key.SshBasePrivateKey.{SshBasePrivateKey}
use Rattle.picky_sshkey_blob.specs.Key.{public_part as private_public_part}
use Rattle.picky_cert.specs.declared.certificate.SshCertificate.{SshCertificate}
use Rattle.picky_key_text.specs.declared.meaning.Key.{Key}
use Rattle.picky_key_text.specs.declared.meaning.Key.TheVariants.{Private, Public}
use Rattle.picky_key_text.specs.declared.meaning.Meaning.{Meaning}

-- the public part of a key
abbrev pub public_part : Key → SshBasePublicKey
public_part (Private key) = private_public_part key
public_part (Public key) = key

-- the same with the comment, as a line has them
abbrev pub public_key : Meaning → SshPublicKey
public_key meaning = record { inner_key = public_part meaning.key; comment = meaning.comment }

-- the meaning of a public key and its comment
abbrev pub public_meaning : SshPublicKey → Meaning
public_meaning key = record { key = Public key.inner_key; comment = key.comment }

-- the meaning of a certificate: its subject's key, and its own comment
abbrev pub certificate_meaning : SshCertificate → Meaning
certificate_meaning c = record { key = Public c.public_key.inner_key; comment = c.comment }

-- and of a private key and its comment
abbrev pub private_meaning : SshBasePrivateKey → List ℕ → Meaning
private_meaning key comment = record { key = Private key; comment = comment }
