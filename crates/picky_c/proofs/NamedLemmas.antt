-- The name of a refusal's number is what the program says of it.
use Rattle.std.proofs.Common.{◌≡◌, ◌+◌, ◌++◌, refl, subst, sym}
use Rattle.std.specs.Prelude.{codes}
use Rattle.picky_key_text.specs.declared.error.ReadError.{ReadError}
use Rattle.picky_target.specs.declared.error.ConvertError.{ConvertError}
use Rattle.picky_conversion.specs.Want.{WantsMemory}
use Rattle.picky_keys.specs.declared.error.SshPublicKeyError.{SshPublicKeyError}
use Rattle.picky_keys.specs.declared.error.SshPublicKeyError.TheVariants as public
use Rattle.picky_sshkey_blob.specs.declared.error.SshPrivateKeyError.{SshPrivateKeyError}
use Rattle.picky_sshkey_blob.specs.declared.error.SshPrivateKeyError.TheVariants as private
use Rattle.picky_cert_parts.specs.declared.error.SshCertificateError.{SshCertificateError}
use Rattle.picky_cert_parts.specs.declared.error.SshCertificateError.TheVariants as certificate
use Rattle.picky_ppk_parts.specs.declared.error.PuttyError.{PuttyError}
use Rattle.picky_ppk_parts.specs.declared.error.PuttyError.TheVariants as putty
use Rattle.picky_key_text.specs.declared.error.ReadError.TheVariants as input
use Rattle.picky_target.specs.declared.error.ConvertError.TheVariants as errors
use Rattle.picky_cert_builder.specs.RefusalName.{request_name}
use Rattle.picky_cert_builder.specs.declared.error.SshCertificateGenerationError.{SshCertificateGenerationError}
use Rattle.picky_cert_builder.specs.declared.error.SshCertificateGenerationError.TheVariants as requests
use Rattle.picky_convert.specs.Report.{certificate_name, name, path, private_name, public_name, putty_name}
use Rattle.picky_c.specs.Name.{error_name}
use Rattle.picky_c.specs.Number.{IsAnswered, certificate_number, error_number, private_number, public_number}
use Rattle.picky_c.specs.Number.{putty_number, request_number}
use Rattle.picky_c.specs.declared.error.PickyError.TheVariants as calls

input_private : (e : SshPrivateKeyError) → codes "refused: " ++ error_name (100 + private_number e) ≡ codes "refused: input.private." ++ private_name e
unfolding error_name
input_private private.FromUtf8Error = refl
input_private (private.IoError kind) = refl
input_private (private.UnsupportedKeyType name) = refl
input_private (private.UnsupportedCipher name) = refl
input_private (private.UnsupportedKdf name) = refl
input_private private.InvalidAuthMagicHeader = refl
input_private (private.InvalidKeysAmount amount) = refl
input_private (private.InvalidCheckNumbers first second) = refl
input_private private.InvalidKeyFormat = refl
input_private private.DecryptionError = refl
input_private private.HashingError = refl
input_private private.MissingPassphrase = refl
input_private private.KeyError = refl
input_private (private.PemError e) = refl
input_private private.SuiteFault = refl
input_private private.TooLong = refl
input_private private.NoMemory = refl
input_private private.PublicKeyMismatch = refl

input_public : (e : SshPublicKeyError) → codes "refused: " ++ error_name (200 + public_number e) ≡ codes "refused: input.public." ++ public_name e
unfolding error_name
input_public (public.IoError kind) = refl
input_public public.InvalidUtf8 = refl
input_public public.Base64DecodeError = refl
input_public public.UnknownKeyType = refl
input_public public.KeyError = refl
input_public public.TooLong = refl
input_public public.NoMemory = refl

input_certificate : (e : SshCertificateError) → codes "refused: " ++ error_name (300 + certificate_number e) ≡ codes "refused: input.cert." ++ certificate_name e
unfolding error_name
input_certificate (certificate.CertificateProcessingError kind) = refl
input_certificate (certificate.UnsupportedCertificateType name) = refl
input_certificate (certificate.SshCriticalOptionError e) = refl
input_certificate (certificate.SshExtensionError e) = refl
input_certificate certificate.InvalidUtf8 = refl
input_certificate certificate.Base64DecodeError = refl
input_certificate (certificate.InvalidCertificateType e) = refl
input_certificate (certificate.InvalidCertificateKeyType name) = refl
input_certificate (certificate.InvalidPublicKey e) = refl
input_certificate certificate.KeyError = refl
input_certificate certificate.SubjectMismatch = refl
input_certificate (certificate.SshSignatureError e) = refl
input_certificate certificate.TooLong = refl
input_certificate certificate.NoMemory = refl

input_putty : (e : PuttyError) → codes "refused: " ++ error_name (400 + putty_number e) ≡ codes "refused: input.putty." ++ putty_name e
unfolding error_name
input_putty putty.EndOfInput = refl
input_putty (putty.InvalidInput context expected actual) = refl
input_putty putty.InvalidKeyValueFormat = refl
input_putty putty.Aes = refl
input_putty putty.Argon2 = refl
input_putty putty.MacValidation = refl
input_putty putty.PublicAndPrivateKeyMismatch = refl
input_putty putty.InvalidPrivateKeyData = refl
input_putty putty.InvalidPublicKeyData = refl
input_putty putty.InvalidPublicKeyContainer = refl
input_putty putty.InvalidPublicKeyComment = refl
input_putty putty.AlreadyDecrypted = refl
input_putty putty.AlreadyEncrypted = refl
input_putty putty.Encrypted = refl
input_putty (putty.NotSupported feature) = refl
input_putty (putty.SshPublicKey e) = refl
input_putty (putty.IoError kind) = refl
input_putty putty.SuiteFault = refl
input_putty putty.TooLong = refl
input_putty putty.TooManyLines = refl
input_putty putty.NoMemory = refl

output_private : (e : SshPrivateKeyError) → codes "refused: " ++ error_name (500 + private_number e) ≡ codes "refused: output.private." ++ private_name e
unfolding error_name
output_private private.FromUtf8Error = refl
output_private (private.IoError kind) = refl
output_private (private.UnsupportedKeyType name) = refl
output_private (private.UnsupportedCipher name) = refl
output_private (private.UnsupportedKdf name) = refl
output_private private.InvalidAuthMagicHeader = refl
output_private (private.InvalidKeysAmount amount) = refl
output_private (private.InvalidCheckNumbers first second) = refl
output_private private.InvalidKeyFormat = refl
output_private private.DecryptionError = refl
output_private private.HashingError = refl
output_private private.MissingPassphrase = refl
output_private private.KeyError = refl
output_private (private.PemError e) = refl
output_private private.SuiteFault = refl
output_private private.TooLong = refl
output_private private.NoMemory = refl
output_private private.PublicKeyMismatch = refl

output_putty : (e : PuttyError) → codes "refused: " ++ error_name (600 + putty_number e) ≡ codes "refused: output.putty." ++ putty_name e
unfolding error_name
output_putty putty.EndOfInput = refl
output_putty (putty.InvalidInput context expected actual) = refl
output_putty putty.InvalidKeyValueFormat = refl
output_putty putty.Aes = refl
output_putty putty.Argon2 = refl
output_putty putty.MacValidation = refl
output_putty putty.PublicAndPrivateKeyMismatch = refl
output_putty putty.InvalidPrivateKeyData = refl
output_putty putty.InvalidPublicKeyData = refl
output_putty putty.InvalidPublicKeyContainer = refl
output_putty putty.InvalidPublicKeyComment = refl
output_putty putty.AlreadyDecrypted = refl
output_putty putty.AlreadyEncrypted = refl
output_putty putty.Encrypted = refl
output_putty (putty.NotSupported feature) = refl
output_putty (putty.SshPublicKey e) = refl
output_putty (putty.IoError kind) = refl
output_putty putty.SuiteFault = refl
output_putty putty.TooLong = refl
output_putty putty.TooManyLines = refl
output_putty putty.NoMemory = refl

issuer_private : (e : SshPrivateKeyError) → codes "refused: " ++ error_name (1100 + private_number e) ≡ codes "refused: issuer.private." ++ private_name e
unfolding error_name
issuer_private private.FromUtf8Error = refl
issuer_private (private.IoError kind) = refl
issuer_private (private.UnsupportedKeyType name) = refl
issuer_private (private.UnsupportedCipher name) = refl
issuer_private (private.UnsupportedKdf name) = refl
issuer_private private.InvalidAuthMagicHeader = refl
issuer_private (private.InvalidKeysAmount amount) = refl
issuer_private (private.InvalidCheckNumbers first second) = refl
issuer_private private.InvalidKeyFormat = refl
issuer_private private.DecryptionError = refl
issuer_private private.HashingError = refl
issuer_private private.MissingPassphrase = refl
issuer_private private.KeyError = refl
issuer_private (private.PemError e) = refl
issuer_private private.SuiteFault = refl
issuer_private private.TooLong = refl
issuer_private private.NoMemory = refl
issuer_private private.PublicKeyMismatch = refl

issuer_public : (e : SshPublicKeyError) → codes "refused: " ++ error_name (1200 + public_number e) ≡ codes "refused: issuer.public." ++ public_name e
unfolding error_name
issuer_public (public.IoError kind) = refl
issuer_public public.InvalidUtf8 = refl
issuer_public public.Base64DecodeError = refl
issuer_public public.UnknownKeyType = refl
issuer_public public.KeyError = refl
issuer_public public.TooLong = refl
issuer_public public.NoMemory = refl

issuer_certificate : (e : SshCertificateError) → codes "refused: " ++ error_name (1300 + certificate_number e) ≡ codes "refused: issuer.cert." ++ certificate_name e
unfolding error_name
issuer_certificate (certificate.CertificateProcessingError kind) = refl
issuer_certificate (certificate.UnsupportedCertificateType name) = refl
issuer_certificate (certificate.SshCriticalOptionError e) = refl
issuer_certificate (certificate.SshExtensionError e) = refl
issuer_certificate certificate.InvalidUtf8 = refl
issuer_certificate certificate.Base64DecodeError = refl
issuer_certificate (certificate.InvalidCertificateType e) = refl
issuer_certificate (certificate.InvalidCertificateKeyType name) = refl
issuer_certificate (certificate.InvalidPublicKey e) = refl
issuer_certificate certificate.KeyError = refl
issuer_certificate certificate.SubjectMismatch = refl
issuer_certificate (certificate.SshSignatureError e) = refl
issuer_certificate certificate.TooLong = refl
issuer_certificate certificate.NoMemory = refl

issuer_putty : (e : PuttyError) → codes "refused: " ++ error_name (1400 + putty_number e) ≡ codes "refused: issuer.putty." ++ putty_name e
unfolding error_name
issuer_putty putty.EndOfInput = refl
issuer_putty (putty.InvalidInput context expected actual) = refl
issuer_putty putty.InvalidKeyValueFormat = refl
issuer_putty putty.Aes = refl
issuer_putty putty.Argon2 = refl
issuer_putty putty.MacValidation = refl
issuer_putty putty.PublicAndPrivateKeyMismatch = refl
issuer_putty putty.InvalidPrivateKeyData = refl
issuer_putty putty.InvalidPublicKeyData = refl
issuer_putty putty.InvalidPublicKeyContainer = refl
issuer_putty putty.InvalidPublicKeyComment = refl
issuer_putty putty.AlreadyDecrypted = refl
issuer_putty putty.AlreadyEncrypted = refl
issuer_putty putty.Encrypted = refl
issuer_putty (putty.NotSupported feature) = refl
issuer_putty (putty.SshPublicKey e) = refl
issuer_putty (putty.IoError kind) = refl
issuer_putty putty.SuiteFault = refl
issuer_putty putty.TooLong = refl
issuer_putty putty.TooManyLines = refl
issuer_putty putty.NoMemory = refl

requested : (e : SshCertificateGenerationError) → codes "refused: " ++ error_name (800 + request_number e) ≡ codes "refused: request." ++ request_name e
unfolding error_name
requested (requests.UnsupportedCertificateKeyType t) = refl
requested requests.IncorrectSignatureAlgorithm = refl
requested requests.MissingPublicKey = refl
requested requests.MissingCertificateType = refl
requested requests.InvalidTime = refl
requested requests.MissingSignatureKey = refl
requested requests.HostCertificateExtensions = refl
requested requests.HostCertificateCriticalOptions = refl
requested requests.NoKeyType = refl
requested requests.SignatureError = refl
requested requests.TooLong = refl
requested requests.NoMemory = refl

no_read_memory : (e : ReadError) → e ≡ input.NoMemory → WantsMemory (errors.Input e)
no_read_memory e want = let wants : WantsMemory (errors.Input input.NoMemory) = tt in subst (λ d. WantsMemory (errors.Input d)) (sym want) wants

input_named : (e : ReadError) → (e ≡ input.NoMemory → ⊥)
    → codes "refused: " ++ error_name (error_number (calls.Refused (errors.Input e))) ≡ path (errors.Input e) ++ name (errors.Input e)
input_named (input.Private e) other = input_private e
input_named (input.Public e) other = input_public e
input_named (input.Certificate e) other = input_certificate e
input_named (input.Putty e) other = input_putty e
input_named input.NoMemory other = absurd (other refl)

no_issuer_memory : (e : ReadError) → e ≡ input.NoMemory → WantsMemory (errors.Issuer e)
no_issuer_memory e want =
    let wants : WantsMemory (errors.Issuer input.NoMemory) = tt in subst (λ d. WantsMemory (errors.Issuer d)) (sym want) wants

issuer_named : (e : ReadError) → (e ≡ input.NoMemory → ⊥)
    → codes "refused: " ++ error_name (error_number (calls.Refused (errors.Issuer e))) ≡ path (errors.Issuer e) ++ name (errors.Issuer e)
issuer_named (input.Private e) other = issuer_private e
issuer_named (input.Public e) other = issuer_public e
issuer_named (input.Certificate e) other = issuer_certificate e
issuer_named (input.Putty e) other = issuer_putty e
issuer_named input.NoMemory other = absurd (other refl)

pub refusal_named : (e : ConvertError) → IsAnswered e
    → codes "refused: " ++ error_name (error_number (calls.Refused e)) ≡ path e ++ name e
unfolding error_name
refusal_named (errors.Input e) is = input_named e (λ want. is.no_memory (no_read_memory e want))
refusal_named (errors.Issuer e) is = issuer_named e (λ want. is.no_memory (no_issuer_memory e want))
refusal_named (errors.Request e) is = requested e
refusal_named errors.NoPrivateKey is = refl
refusal_named errors.CommentNotCarried is = refl
refusal_named (errors.Private e) is = output_private e
refusal_named (errors.Putty e) is = output_putty e
refusal_named errors.FreshTooShort is = refl
refusal_named errors.TooLong is = refl
refusal_named errors.TooManyLines is = refl
refusal_named errors.NoMemory is = absurd (is.no_memory refl)
