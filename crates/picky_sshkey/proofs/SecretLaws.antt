-- The one spelling of a private key's blob that is written is bytes.
use Rattle.std.specs.Prelude.{[], ℕ, zero, suc, ◌++◌}
use Rattle.std.specs.Int.{w8, to_be_bytes}
use Rattle.std.proofs.Common.{arith}
use Rattle.picky_wire_base.specs.Numbers.{IsBytes}
use Rattle.picky_keys.specs.declared.curve.EcCurve.TheVariants.{NistP256}
use Rattle.picky_keys.proofs.ByteLaws.{bytes_joined, string_bytes_each, mpint_bytes_each, no_bytes, name_bytes, identifier_bytes}
use Rattle.picky_sshkey_blob.specs.declared.key.SshBasePrivateKey.{SshBasePrivateKey}
use Rattle.picky_sshkey_blob.specs.declared.key.SshBasePrivateKey.TheVariants as keys
use Rattle.picky_sshkey_blob.specs.Key.{IsPrivateKey, private_kind_of}
use Rattle.picky_sshkey_blob.specs.Blob.{private_fields_spelled, secret_of}

byte_bytes : (n : ℕ) → IsBytes (to_be_bytes w8 n)
byte_bytes n zero = omega arith
byte_bytes n (suc i) = omega arith

private_fields_bytes : (key : SshBasePrivateKey) → IsPrivateKey key → IsBytes (private_fields_spelled key)
unfolding private_fields_spelled
private_fields_bytes (keys.Rsa n e d iqmp p q) is =
    bytes_joined _ _ (mpint_bytes_each n is.0.bytes) (bytes_joined _ _ (mpint_bytes_each e is.1.bytes)
    (bytes_joined _ _ (mpint_bytes_each d is.2.bytes) (bytes_joined _ _ (mpint_bytes_each iqmp is.3.bytes)
    (bytes_joined _ _ (mpint_bytes_each p is.4.bytes)
    (bytes_joined _ _ (mpint_bytes_each q is.5.bytes) no_bytes)))))
private_fields_bytes (keys.Ec curve point number) is =
    bytes_joined _ _ (string_bytes_each _ (identifier_bytes curve))
    (bytes_joined _ _ (string_bytes_each point is.0.bytes)
    (bytes_joined _ _ (mpint_bytes_each number is.1.bytes) no_bytes))
private_fields_bytes (keys.Ed seed public) is =
    bytes_joined _ _ (string_bytes_each public is.1.bytes)
    (bytes_joined _ _ (string_bytes_each (seed ++ public) (bytes_joined seed public is.0.bytes is.1.bytes)) no_bytes)
private_fields_bytes (keys.SkEcdsaSha2NistP256 point application flags handle) is =
    bytes_joined _ _ (string_bytes_each _ (identifier_bytes NistP256))
    (bytes_joined _ _ (string_bytes_each point is.0.bytes)
    (bytes_joined _ _ (string_bytes_each application is.1.string.bytes)
    (bytes_joined (to_be_bytes w8 flags) _ (byte_bytes flags) (bytes_joined _ _ (string_bytes_each handle is.3.bytes)
    (bytes_joined _ [] (string_bytes_each [] no_bytes) no_bytes)))))
private_fields_bytes (keys.SkEd25519 key application flags handle) is =
    bytes_joined _ _ (string_bytes_each key is.0.bytes)
    (bytes_joined _ _ (string_bytes_each application is.1.string.bytes)
    (bytes_joined (to_be_bytes w8 flags) _ (byte_bytes flags) (bytes_joined _ _ (string_bytes_each handle is.3.bytes)
    (bytes_joined _ [] (string_bytes_each [] no_bytes) no_bytes))))

-- The blob that is written is bytes.
pub secret_is_bytes : (key : SshBasePrivateKey) → IsPrivateKey key → IsBytes (secret_of key)
unfolding secret_of
secret_is_bytes key is =
    bytes_joined _ _ (string_bytes_each _ (name_bytes (private_kind_of key))) (private_fields_bytes key is)
