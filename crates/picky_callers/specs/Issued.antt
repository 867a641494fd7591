-- What is asked of a host's certificate, and what is issued (OpenSSH's PROTOCOL.certkeys).
use Rattle.std.specs.Prelude.{◌≡◌, List, ℕ, Some, Ok}
use Rattle.picky.specs.BuilderRequest.{empty}
use Rattle.picky.specs.Draft.{IsSigned, Unsigned, requested}
use Rattle.picky.specs.declared.ssh.IssuerKey.TheVariants as issuers
use Rattle.picky.specs.declared.ssh.PublicKey.{PublicKey}
use Rattle.picky.specs.declared.ssh.SignatureAlgorithm.{SignatureAlgorithm}
use Rattle.picky.specs.declared.ssh.SshCertKeyType.{SshCertKeyType}
use Rattle.picky.specs.declared.ssh.SshCertType.TheVariants.{Host}
use Rattle.picky.specs.declared.ssh.SshCertificate.{SshCertificate}
use Rattle.picky.specs.declared.ssh.SshCertificateBuilder.{SshCertificateBuilder}
use Rattle.picky.specs.declared.ssh.SshPublicKey.{SshPublicKey}
use Rattle.picky.specs.declared.wire.Timestamp.{Timestamp}

-- a host goes by these names from one moment to another; all else is left to its default
abbrev pub host_request : (issuer : SshPublicKey) → SshCertKeyType → (host : SshPublicKey) → (names : List (List ℕ))
    → (valid_after valid_before : Timestamp) → SshCertificateBuilder
host_request issuer key_type host names valid_after valid_before = record empty {
  cert_key_type = Some key_type;
  public_key = Some host;
  cert_type = Some Host;
  valid_principals = Some names;
  valid_after = Some valid_after;
  valid_before = Some valid_before;
  issuer = Some (issuers.Public issuer.inner_key);
}

-- the certificate is the one that the request comes to, and has a signature that is good under the issuer's key for exactly the
-- bytes that are signed of it
abbrev pub IsIssued : (PublicKey → SignatureAlgorithm → List ℕ → List ℕ → Type 0) → SshCertificateBuilder → (nonce : List ℕ)
    → SshCertificate → Type 0
IsIssued signs request nonce c = (u : Unsigned) × (requested request nonce ≡ Ok u) × IsSigned signs u c
