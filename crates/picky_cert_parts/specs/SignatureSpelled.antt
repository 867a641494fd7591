-- What the bytes are that are read as a signature (RFC 4253, section 6.6; OpenSSH's PROTOCOL.certkeys; PROTOCOL.u2f).
use Rattle.std.specs.Prelude.{◌≡◌, ◌<◌, ◌^◌, ◌++◌, List, ℕ, true}
use Rattle.picky_cert_parts.specs.declared.signature.SshSignature.{SshSignature}
use Rattle.picky_cert_parts.specs.Signature.{behind_total, blob_fits, IsSignature}

-- they are the signature behind some total, and then the rest
pub record SignatureSpelled (bytes : List ℕ) (s : SshSignature) (rest : List ℕ) : Type 0 where
  pub total : ℕ
  pub small : total < 2 ^ 32
  pub are : bytes ≡ behind_total total s ++ rest
  pub is : IsSignature s
  pub fits : blob_fits s.format s.blob ≡ true
