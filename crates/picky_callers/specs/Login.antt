-- When a certificate lets a user in, its signature and issuer aside (OpenSSH's PROTOCOL.certkeys).
use Rattle.std.specs.Prelude.{◌≡◌, ◌≤◌, ◌<◌, List, ℕ, Contains}
use Rattle.picky.specs.declared.ssh.SshCertificate.{SshCertificate}
use Rattle.picky.specs.declared.ssh.SshCertType.TheVariants.{Client}
use Rattle.picky.specs.declared.wire.Timestamp.{Timestamp}

-- it is a user's, it names this one, and it is valid at the moment: from the first time on, and before the second
pub record Allows (c : SshCertificate) (user : List ℕ) (now : Timestamp) : Type 0 where
  pub client : c.cert_type ≡ Client
  pub named : Contains c.valid_principals user
  pub after : c.valid_after.0 ≤ now.0
  pub before : now.0 < c.valid_before.0
