-- The parts of an identity that a message adds.
use Rattle.std.specs.Prelude.{ℕ, List, [], ◌∷◌, ◌++◌, Option, None, Some, Result}
use Rattle.std.specs.Option.{ok_or}
use Rattle.picky_wire_base.specs.Outcome.{and_then}
use Rattle.picky_keys.specs.KeyNames.{curve_identifier, kind_name}
use Rattle.picky_sshkey_blob.specs.declared.key.SshBasePrivateKey.{SshBasePrivateKey}
use Rattle.picky_sshkey_blob.specs.declared.key.SshBasePrivateKey.TheVariants as keys
use Rattle.picky_sshkey_blob.specs.Key.{private_kind_of}
use Rattle.picky_agent_state.specs.declared.identity.Identity.{Identity}
use Rattle.picky_agent_bytes.specs.Bare.{added_by}
use Rattle.picky_agent_bytes.specs.declared.secret.AgentSecret.{AgentSecret}
use Rattle.picky_agent_bytes.specs.declared.secret.AgentSecret.TheVariants as secrets
use Rattle.picky_agent_bytes.specs.declared.secret.RsaPart.{RsaPart}
use Rattle.picky_agent_bytes.specs.declared.secret.RsaPart.TheVariants as rsa
use Rattle.picky_agent_bytes.specs.declared.secret.EcPart.{EcPart}
use Rattle.picky_agent_bytes.specs.declared.secret.EcPart.TheVariants as ec
use Rattle.picky_agent_bytes.specs.declared.secret.EdPart.{EdPart}
use Rattle.picky_agent_bytes.specs.declared.secret.EdPart.TheVariants as ed
use Rattle.picky_agent_bytes.specs.declared.secret.SkPart.{SkPart}
use Rattle.picky_agent_bytes.specs.declared.secret.SkPart.TheVariants as sk
use Rattle.picky_agent_bytes.specs.declared.error.AgentCallError.{AgentCallError}
use Rattle.picky_agent_bytes.specs.declared.error.AgentCallError.TheVariants as errors

abbrev pub rsa_part : RsaPart → SshBasePrivateKey → Option (List ℕ)
rsa_part rsa.N (keys.Rsa n e d iqmp p q) = Some n
rsa_part rsa.E (keys.Rsa n e d iqmp p q) = Some e
rsa_part rsa.D (keys.Rsa n e d iqmp p q) = Some d
rsa_part rsa.Iqmp (keys.Rsa n e d iqmp p q) = Some iqmp
rsa_part rsa.P (keys.Rsa n e d iqmp p q) = Some p
rsa_part rsa.Q (keys.Rsa n e d iqmp p q) = Some q
rsa_part part key = None

abbrev pub ec_part : EcPart → SshBasePrivateKey → Option (List ℕ)
ec_part ec.Curve (keys.Ec curve point secret) = Some (curve_identifier curve)
ec_part ec.Point (keys.Ec curve point secret) = Some point
ec_part ec.Secret (keys.Ec curve point secret) = Some secret
ec_part part key = None

-- the secret is that of 64 bytes, whose second half is the public key
abbrev pub ed_part : EdPart → SshBasePrivateKey → Option (List ℕ)
ed_part ed.Public (keys.Ed secret public) = Some public
ed_part ed.Secret (keys.Ed secret public) = Some (secret ++ public)
ed_part part key = None

abbrev pub sk_part : SkPart → SshBasePrivateKey → Option (List ℕ)
sk_part sk.Public (keys.SkEcdsaSha2NistP256 point application flags handle) = Some point
sk_part sk.Application (keys.SkEcdsaSha2NistP256 point application flags handle) = Some application
sk_part sk.Flags (keys.SkEcdsaSha2NistP256 point application flags handle) = Some (flags ∷ [])
sk_part sk.Handle (keys.SkEcdsaSha2NistP256 point application flags handle) = Some handle
sk_part sk.Public (keys.SkEd25519 key application flags handle) = Some key
sk_part sk.Application (keys.SkEd25519 key application flags handle) = Some application
sk_part sk.Flags (keys.SkEd25519 key application flags handle) = Some (flags ∷ [])
sk_part sk.Handle (keys.SkEd25519 key application flags handle) = Some handle
sk_part part key = None

-- the part, where the key has it
abbrev pub part_of : AgentSecret → Identity → Option (List ℕ)
part_of secrets.KeyType identity = Some (kind_name (private_kind_of identity.key))
part_of secrets.Comment identity = Some identity.comment
part_of (secrets.Rsa part) identity = rsa_part part identity.key
part_of (secrets.Ec part) identity = ec_part part identity.key
part_of (secrets.Ed part) identity = ed_part part identity.key
part_of (secrets.Sk part) identity = sk_part part identity.key

abbrev pub secret_part : (message : List ℕ) → AgentSecret → Result (List ℕ) AgentCallError
secret_part message part = and_then (added_by message) (λ identity. ok_or (part_of part identity) errors.NoSuchPart)
