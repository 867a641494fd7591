-- The number of each reason why a call hands out no bytes. Those of one kind of text stand in a hundred, in the order of its errors.
use Rattle.std.specs.Prelude.{◌+◌, ℕ}
use Rattle.picky_keys.specs.declared.error.SshPublicKeyError.{SshPublicKeyError}
use Rattle.picky_keys.specs.declared.error.SshPublicKeyError.TheVariants as public
use Rattle.picky_sshkey_blob.specs.declared.error.SshPrivateKeyError.{SshPrivateKeyError}
use Rattle.picky_sshkey_blob.specs.declared.error.SshPrivateKeyError.TheVariants as private
use Rattle.picky_cert_parts.specs.declared.error.SshCertificateError.{SshCertificateError}
use Rattle.picky_cert_parts.specs.declared.error.SshCertificateError.TheVariants as certificate
use Rattle.picky_ppk_parts.specs.declared.error.PuttyError.{PuttyError}
use Rattle.picky_ppk_parts.specs.declared.error.PuttyError.TheVariants as putty
use Rattle.picky_key_text.specs.declared.error.ReadError.{ReadError}
use Rattle.picky_key_text.specs.declared.error.ReadError.TheVariants as input
use Rattle.picky_cert_builder.specs.declared.error.SshCertificateGenerationError.{SshCertificateGenerationError}
use Rattle.picky_cert_builder.specs.declared.error.SshCertificateGenerationError.TheVariants as requests
use Rattle.picky_target.specs.declared.error.ConvertError.{ConvertError}
use Rattle.picky_target.specs.declared.error.ConvertError.TheVariants as errors
use Rattle.picky_conversion.specs.Want.{IsFault, WantsMemory}
use Rattle.picky_policy.specs.declared.decision.Denial.{Denial}
use Rattle.picky_policy.specs.declared.decision.Denial.TheVariants as denials
use Rattle.picky_agent_bytes.specs.declared.error.AgentBytesError.{AgentBytesError}
use Rattle.picky_agent_bytes.specs.declared.error.AgentBytesError.TheVariants as states
use Rattle.picky_c.specs.declared.error.AnswersError.{AnswersError}
use Rattle.picky_c.specs.declared.error.AnswersError.TheVariants as answers
use Rattle.picky_c.specs.declared.error.PickyError.{PickyError}
use Rattle.picky_c.specs.declared.error.PickyError.TheVariants as calls

-- the place of an OpenSSH private key's error in its hundred
abbrev pub private_number : SshPrivateKeyError → ℕ
private_number private.FromUtf8Error = 0
private_number (private.IoError kind) = 1
private_number (private.UnsupportedKeyType name) = 2
private_number (private.UnsupportedCipher name) = 3
private_number (private.UnsupportedKdf name) = 4
private_number private.InvalidAuthMagicHeader = 5
private_number (private.InvalidKeysAmount amount) = 6
private_number (private.InvalidCheckNumbers first second) = 7
private_number private.InvalidKeyFormat = 8
private_number private.DecryptionError = 9
private_number private.HashingError = 10
private_number private.MissingPassphrase = 11
private_number private.KeyError = 12
private_number (private.PemError e) = 13
private_number private.SuiteFault = 14
private_number private.TooLong = 15
private_number private.NoMemory = 16
private_number private.PublicKeyMismatch = 17

-- of a public key line's
abbrev pub public_number : SshPublicKeyError → ℕ
public_number (public.IoError kind) = 0
public_number public.InvalidUtf8 = 1
public_number public.Base64DecodeError = 2
public_number public.UnknownKeyType = 3
public_number public.KeyError = 4
public_number public.TooLong = 5
public_number public.NoMemory = 6

-- of a certificate's
abbrev pub certificate_number : SshCertificateError → ℕ
certificate_number (certificate.CertificateProcessingError kind) = 0
certificate_number (certificate.UnsupportedCertificateType name) = 1
certificate_number (certificate.SshCriticalOptionError e) = 2
certificate_number (certificate.SshExtensionError e) = 3
certificate_number certificate.InvalidUtf8 = 4
certificate_number certificate.Base64DecodeError = 5
certificate_number (certificate.InvalidCertificateType e) = 6
certificate_number (certificate.InvalidCertificateKeyType name) = 7
certificate_number (certificate.InvalidPublicKey e) = 8
certificate_number certificate.KeyError = 9
certificate_number certificate.SubjectMismatch = 10
certificate_number (certificate.SshSignatureError e) = 11
certificate_number certificate.TooLong = 12
certificate_number certificate.NoMemory = 13

-- of a PuTTY text's
abbrev pub putty_number : PuttyError → ℕ
putty_number putty.EndOfInput = 0
putty_number (putty.InvalidInput context expected actual) = 1
putty_number putty.InvalidKeyValueFormat = 2
putty_number putty.Aes = 3
putty_number putty.Argon2 = 4
putty_number putty.MacValidation = 5
putty_number putty.PublicAndPrivateKeyMismatch = 6
putty_number putty.InvalidPrivateKeyData = 7
putty_number putty.InvalidPublicKeyData = 8
putty_number putty.InvalidPublicKeyContainer = 9
putty_number putty.InvalidPublicKeyComment = 10
putty_number putty.AlreadyDecrypted = 11
putty_number putty.AlreadyEncrypted = 12
putty_number putty.Encrypted = 13
putty_number (putty.NotSupported feature) = 14
putty_number (putty.SshPublicKey e) = 15
putty_number (putty.IoError kind) = 16
putty_number putty.SuiteFault = 17
putty_number putty.TooLong = 18
putty_number putty.TooManyLines = 19
putty_number putty.NoMemory = 20

-- of a key text that means nothing
abbrev pub read_number : ReadError → ℕ
read_number (input.Private e) = 100 + private_number e
read_number (input.Public e) = 200 + public_number e
read_number (input.Certificate e) = 300 + certificate_number e
read_number (input.Putty e) = 400 + putty_number e
read_number input.NoMemory = 2

-- of an issuer's text that means nothing
abbrev pub issuer_number : ReadError → ℕ
issuer_number (input.Private e) = 1100 + private_number e
issuer_number (input.Public e) = 1200 + public_number e
issuer_number (input.Certificate e) = 1300 + certificate_number e
issuer_number (input.Putty e) = 1400 + putty_number e
issuer_number input.NoMemory = 2

-- the place of a request's refusal in its hundred
abbrev pub request_number : SshCertificateGenerationError → ℕ
request_number (requests.UnsupportedCertificateKeyType t) = 0
request_number requests.IncorrectSignatureAlgorithm = 1
request_number requests.MissingPublicKey = 2
request_number requests.MissingCertificateType = 3
request_number requests.InvalidTime = 4
request_number requests.MissingSignatureKey = 5
request_number requests.HostCertificateExtensions = 6
request_number requests.HostCertificateCriticalOptions = 7
request_number requests.NoKeyType = 8
request_number requests.SignatureError = 9
request_number requests.TooLong = 10
request_number requests.NoMemory = 11

-- of a conversion's refusal
abbrev pub refused_number : ConvertError → ℕ
refused_number (errors.Input e) = read_number e
refused_number (errors.Issuer e) = issuer_number e
refused_number (errors.Request e) = 800 + request_number e
refused_number errors.NoPrivateKey = 8
refused_number errors.CommentNotCarried = 9
refused_number (errors.Private e) = 500 + private_number e
refused_number (errors.Putty e) = 600 + putty_number e
refused_number errors.FreshTooShort = 10
refused_number errors.TooLong = 11
refused_number errors.TooManyLines = 12
refused_number errors.NoMemory = 2

-- of answers
abbrev pub answers_number : AnswersError → ℕ
answers_number answers.EndsInEntry = 0
answers_number answers.LengthPastEnd = 1
answers_number answers.NoQuestion = 2
answers_number answers.WrongLength = 3
answers_number answers.Contradiction = 4
answers_number answers.Misplaced = 5
answers_number answers.TooLong = 6
answers_number answers.UnknownByte = 7

-- of a denial
abbrev pub denial_number : Denial → ℕ
denial_number denials.NoLine = 0
denial_number denials.NoAuthority = 1
denial_number denials.NotClient = 2
denial_number denials.NotYet = 3
denial_number denials.Expired = 4
denial_number denials.Principal = 5
denial_number denials.CriticalOption = 6
denial_number denials.BadSignature = 7

-- of an agent's state
abbrev pub state_number : AgentBytesError → ℕ
state_number states.TooLong = 0
state_number states.Short = 1
state_number states.NotKept = 2
state_number states.TooMany = 3
state_number states.NotCanonical = 4
state_number states.NoMemory = 5

-- of a call
abbrev pub error_number : PickyError → ℕ
error_number calls.BufferTooSmall = 1
error_number calls.NoMemory = 2
error_number calls.TextNotUtf8 = 3
error_number calls.PassNotUtf8 = 4
error_number calls.NoSuchTarget = 5
error_number calls.NoSuchPart = 6
error_number calls.NoCipher = 7
error_number calls.Asked = 13
error_number calls.CommentNotUtf8 = 14
error_number calls.NoSuchSealing = 15
error_number calls.NoSuchPlace = 16
error_number calls.NoSuchOption = 17
error_number calls.NoKey = 18
error_number calls.IssuerNotUtf8 = 19
error_number calls.WordNotUtf8 = 20
error_number calls.BadWords = 21
error_number calls.AuthorizedNotUtf8 = 22
error_number calls.OfferNotUtf8 = 23
error_number calls.UserNotUtf8 = 24
error_number calls.NoMessage = 25
error_number calls.MessageTooLong = 26
error_number calls.NotAdd = 27
error_number calls.SignatureTooLong = 28
error_number calls.LedgerNotUtf8 = 29
error_number calls.RequestsNotUtf8 = 30
error_number calls.BadLine = 31
error_number calls.LeftNotUtf8 = 32
error_number calls.RightNotUtf8 = 33
error_number (calls.Answers e) = 700 + answers_number e
error_number (calls.Refused e) = refused_number e
error_number (calls.Denied e) = 900 + denial_number e
error_number (calls.State e) = 1000 + state_number e

-- what a call answers as a refusal: no want of memory, and no fault of the suite
pub record IsAnswered (e : ConvertError) : Type 0 where
  pub no_memory : WantsMemory e → ⊥
  pub no_fault : IsFault e → ⊥
