-- What an agent replies: a byte, its type, and then the fields of that type (draft-miller-ssh-agent-04).
use Rattle.std.specs.Prelude.{ℕ, List, [], ◌∷◌, ◌++◌, ◌^◌, length, nat_lt, if◌then◌else◌, flat_map}
use Rattle.std.specs.Int.{w32, to_be_bytes}
use Rattle.picky_wire_base.specs.Wire.{string_of}
use Rattle.picky_keys.specs.Blob.{blob_of}
use Rattle.picky_sshkey_blob.specs.Key.{public_part}
use Rattle.picky_cert_parts.specs.declared.signature_format.SshSignatureFormat.{SshSignatureFormat}
use Rattle.picky_cert_parts.specs.CertNames.{format_name}
use Rattle.picky_agent_state.specs.declared.identity.Identity.{Identity}

-- SSH_AGENT_FAILURE
abbrev pub failure : List ℕ
failure = 5 ∷ []

-- SSH_AGENT_SUCCESS
abbrev pub success : List ℕ
success = 6 ∷ []

-- a reply that would reach 2^32 bytes is the failure
abbrev pub fitted : (reply : List ℕ) → List ℕ
fitted reply = if nat_lt (length reply) (2 ^ 32) then reply else failure

-- string public key
-- string comment
abbrev pub entry : Identity → List ℕ
entry identity = string_of (blob_of (public_part identity.key)) ++ string_of identity.comment

-- SSH_AGENT_IDENTITIES_ANSWER
-- uint32 count
-- the entry of each identity
abbrev pub listing : List Identity → List ℕ
listing identities = 12 ∷ to_be_bytes w32 (length identities) ++ flat_map entry identities

-- SSH_AGENT_SIGN_RESPONSE
-- string of: string format, string signature
abbrev pub signed_reply : SshSignatureFormat → (signature : List ℕ) → List ℕ
signed_reply format signature = 14 ∷ string_of (string_of (format_name format) ++ string_of signature)
