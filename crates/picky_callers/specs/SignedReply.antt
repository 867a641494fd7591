-- The reply of an agent that is asked for a signature (draft-miller-ssh-agent-04, section 3.6).
use Rattle.std.specs.Prelude.{◌≡◌, ◌⊎◌, ℕ, List}
use Rattle.picky.specs.AgentRequest.{SignRequest}
use Rattle.picky.specs.Reply.{failure, fitted, signed_reply}
use Rattle.picky.specs.Signs.{SignRelation}
use Rattle.picky.specs.SshPublicKey.{public_key_of}
use Rattle.picky.specs.declared.ssh.SignatureAlgorithm.{SignatureAlgorithm}
use Rattle.picky.specs.declared.ssh.SshSignatureFormat.{SshSignatureFormat}

-- it has a signature that is good under the key that is named, of the bytes that are to be signed
pub record IsSignedReply (signs : SignRelation) (asked : SignRequest) (reply : List ℕ) : Type 0 where
  pub algorithm : SignatureAlgorithm
  pub format : SshSignatureFormat
  pub signature : List ℕ
  pub good : signs (public_key_of asked.key) algorithm asked.message signature
  pub replies : reply ≡ fitted (signed_reply format signature)

abbrev pub FailsOrIsSigned : SignRelation → SignRequest → (reply : List ℕ) → Type 0
FailsOrIsSigned signs asked reply = (reply ≡ failure) ⊎ IsSignedReply signs asked reply
