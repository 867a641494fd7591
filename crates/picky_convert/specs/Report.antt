-- The line that says on standard error how a run ended.
use Rattle.std.specs.Prelude.{List, [], ◌++◌, ℕ, codes}
use Rattle.picky_keys.specs.declared.error.SshPublicKeyError.{SshPublicKeyError}
use Rattle.picky_keys.specs.declared.error.SshPublicKeyError.TheVariants as public
use Rattle.picky_sshkey_blob.specs.declared.error.SshPrivateKeyError.{SshPrivateKeyError}
use Rattle.picky_sshkey_blob.specs.declared.error.SshPrivateKeyError.TheVariants as private
use Rattle.picky_cert_parts.specs.declared.error.SshCertificateError.{SshCertificateError}
use Rattle.picky_cert_parts.specs.declared.error.SshCertificateError.TheVariants as certificate
use Rattle.picky_ppk_parts.specs.declared.error.PuttyError.{PuttyError}
use Rattle.picky_ppk_parts.specs.declared.error.PuttyError.TheVariants as putty
use Rattle.picky_key_text.specs.declared.error.ReadError.{ReadError}
use Rattle.picky_key_text.specs.declared.error.ReadError.TheVariants as input
pub use Rattle.picky_cert_builder.specs.RefusalName.{request_name}
use Rattle.picky_target.specs.declared.error.ConvertError.{ConvertError}
use Rattle.picky_target.specs.declared.error.ConvertError.TheVariants as convert
use Rattle.picky_convert.specs.declared.error.Status.{Status}
use Rattle.picky_convert.specs.declared.error.Status.TheVariants as statuses

-- the name of a layer's error
abbrev pub public_name : SshPublicKeyError → List ℕ
public_name (public.IoError kind) = codes "IoError"
public_name public.InvalidUtf8 = codes "InvalidUtf8"
public_name public.Base64DecodeError = codes "Base64DecodeError"
public_name public.UnknownKeyType = codes "UnknownKeyType"
public_name public.KeyError = codes "KeyError"
public_name public.TooLong = codes "TooLong"
public_name public.NoMemory = codes "NoMemory"

abbrev pub private_name : SshPrivateKeyError → List ℕ
private_name private.FromUtf8Error = codes "FromUtf8Error"
private_name (private.IoError kind) = codes "IoError"
private_name (private.UnsupportedKeyType name) = codes "UnsupportedKeyType"
private_name (private.UnsupportedCipher name) = codes "UnsupportedCipher"
private_name (private.UnsupportedKdf name) = codes "UnsupportedKdf"
private_name private.InvalidAuthMagicHeader = codes "InvalidAuthMagicHeader"
private_name (private.InvalidKeysAmount amount) = codes "InvalidKeysAmount"
private_name (private.InvalidCheckNumbers first second) = codes "InvalidCheckNumbers"
private_name private.InvalidKeyFormat = codes "InvalidKeyFormat"
private_name private.DecryptionError = codes "DecryptionError"
private_name private.HashingError = codes "HashingError"
private_name private.MissingPassphrase = codes "MissingPassphrase"
private_name private.KeyError = codes "KeyError"
private_name (private.PemError e) = codes "PemError"
private_name private.SuiteFault = codes "SuiteFault"
private_name private.TooLong = codes "TooLong"
private_name private.NoMemory = codes "NoMemory"
private_name private.PublicKeyMismatch = codes "PublicKeyMismatch"

abbrev pub certificate_name : SshCertificateError → List ℕ
certificate_name (certificate.CertificateProcessingError kind) = codes "CertificateProcessingError"
certificate_name (certificate.UnsupportedCertificateType name) = codes "UnsupportedCertificateType"
certificate_name (certificate.SshCriticalOptionError e) = codes "SshCriticalOptionError"
certificate_name (certificate.SshExtensionError e) = codes "SshExtensionError"
certificate_name certificate.InvalidUtf8 = codes "InvalidUtf8"
certificate_name certificate.Base64DecodeError = codes "Base64DecodeError"
certificate_name (certificate.InvalidCertificateType e) = codes "InvalidCertificateType"
certificate_name (certificate.InvalidCertificateKeyType name) = codes "InvalidCertificateKeyType"
certificate_name (certificate.InvalidPublicKey e) = codes "InvalidPublicKey"
certificate_name certificate.KeyError = codes "KeyError"
certificate_name certificate.SubjectMismatch = codes "SubjectMismatch"
certificate_name (certificate.SshSignatureError e) = codes "SshSignatureError"
certificate_name certificate.TooLong = codes "TooLong"
certificate_name certificate.NoMemory = codes "NoMemory"

abbrev pub putty_name : PuttyError → List ℕ
putty_name putty.EndOfInput = codes "EndOfInput"
putty_name (putty.InvalidInput context expected actual) = codes "InvalidInput"
putty_name putty.InvalidKeyValueFormat = codes "InvalidKeyValueFormat"
putty_name putty.Aes = codes "Aes"
putty_name putty.Argon2 = codes "Argon2"
putty_name putty.MacValidation = codes "MacValidation"
putty_name putty.PublicAndPrivateKeyMismatch = codes "PublicAndPrivateKeyMismatch"
putty_name putty.InvalidPrivateKeyData = codes "InvalidPrivateKeyData"
putty_name putty.InvalidPublicKeyData = codes "InvalidPublicKeyData"
putty_name putty.InvalidPublicKeyContainer = codes "InvalidPublicKeyContainer"
putty_name putty.InvalidPublicKeyComment = codes "InvalidPublicKeyComment"
putty_name putty.AlreadyDecrypted = codes "AlreadyDecrypted"
putty_name putty.AlreadyEncrypted = codes "AlreadyEncrypted"
putty_name putty.Encrypted = codes "Encrypted"
putty_name (putty.NotSupported feature) = codes "NotSupported"
putty_name (putty.SshPublicKey e) = codes "SshPublicKey"
putty_name (putty.IoError kind) = codes "IoError"
putty_name putty.SuiteFault = codes "SuiteFault"
putty_name putty.TooLong = codes "TooLong"
putty_name putty.TooManyLines = codes "TooManyLines"
putty_name putty.NoMemory = codes "NoMemory"

-- the path to a refusal of the key text, and its name
abbrev pub input_path : ReadError → List ℕ
input_path (input.Private e) = codes "refused: input.private."
input_path (input.Public e) = codes "refused: input.public."
input_path (input.Certificate e) = codes "refused: input.cert."
input_path (input.Putty e) = codes "refused: input.putty."
input_path input.NoMemory = codes "refused: input."

abbrev pub input_name : ReadError → List ℕ
input_name (input.Private e) = private_name e
input_name (input.Public e) = public_name e
input_name (input.Certificate e) = certificate_name e
input_name (input.Putty e) = putty_name e
input_name input.NoMemory = codes "NoMemory"

-- and of the issuer's text
abbrev pub issuer_path : ReadError → List ℕ
issuer_path (input.Private e) = codes "refused: issuer.private."
issuer_path (input.Public e) = codes "refused: issuer.public."
issuer_path (input.Certificate e) = codes "refused: issuer.cert."
issuer_path (input.Putty e) = codes "refused: issuer.putty."
issuer_path input.NoMemory = codes "refused: issuer."

-- of a conversion's
abbrev pub path : ConvertError → List ℕ
path (convert.Input e) = input_path e
path (convert.Issuer e) = issuer_path e
path (convert.Request e) = codes "refused: request."
path (convert.Private e) = codes "refused: output.private."
path (convert.Putty e) = codes "refused: output.putty."
path e = codes "refused: "

abbrev pub name : ConvertError → List ℕ
name (convert.Input e) = input_name e
name (convert.Issuer e) = input_name e
name (convert.Request e) = request_name e
name convert.NoPrivateKey = codes "NoPrivateKey"
name convert.CommentNotCarried = codes "CommentNotCarried"
name (convert.Private e) = private_name e
name (convert.Putty e) = putty_name e
name convert.FreshTooShort = codes "FreshTooShort"
name convert.TooLong = codes "TooLong"
name convert.TooManyLines = codes "TooManyLines"
name convert.NoMemory = codes "NoMemory"

-- the path that a status says, which only a refusal has
abbrev pub status_path : Status → List ℕ
status_path (statuses.Refused e) = path e
status_path status = []

-- what a status says of itself
abbrev pub word : Status → List ℕ
word statuses.Done = []
word (statuses.Refused e) = path e ++ name e
word statuses.Usage = codes "usage: keyconv openssh|ppk2|ppk3|ssh-pub|putty-pub|cert|tbs|fingerprint|sample"
word statuses.ReadFault = codes "read fault"
word statuses.WriteFault = codes "write fault"
word statuses.OutsideFault = codes "outside fault"
word statuses.NoMemory = codes "out of memory"
word statuses.InputTooLong = codes "input too long"
word statuses.InputNotUtf8 = codes "input not UTF-8"

-- the line of each status but Done
unfoldable pub report : Status → List ℕ
report status = codes "keyconv: " ++ word status ++ codes "\n"

-- the number of each status
abbrev pub exit_code : Status → ℕ
exit_code statuses.Done = 0
exit_code (statuses.Refused e) = 1
exit_code statuses.Usage = 2
exit_code statuses.ReadFault = 3
exit_code statuses.WriteFault = 4
exit_code statuses.OutsideFault = 5
exit_code statuses.NoMemory = 6
exit_code statuses.InputTooLong = 7
exit_code statuses.InputNotUtf8 = 8
