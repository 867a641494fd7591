-- The name of each number that a call answers. It is the one that keyconv says of the refusal: a path, and a variant's name.
use Rattle.std.specs.Prelude.{◌≡◌, ◌==◌, ◌-◌, ◌/◌, ◌%◌, ◌++◌, ◌∷◌, [], List, ℕ, codes, length, replicate, get_or}
use Rattle.std.specs.Prelude.{if◌then◌else◌}

-- the names of a call itself, by number
abbrev pub own_names : List (List ℕ)
own_names =
    codes "Ok" ∷ codes "BufferTooSmall" ∷ codes "NoMemory" ∷ codes "TextNotUtf8" ∷ codes "PassNotUtf8" ∷
    codes "NoSuchTarget" ∷ codes "NoSuchPart" ∷ codes "NoCipher" ∷ codes "NoPrivateKey" ∷
    codes "CommentNotCarried" ∷ codes "FreshTooShort" ∷ codes "TooLong" ∷ codes "TooManyLines" ∷
    codes "Asked" ∷ codes "CommentNotUtf8" ∷ codes "NoSuchSealing" ∷ codes "NoSuchPlace" ∷
    codes "NoSuchOption" ∷ codes "NoKey" ∷ codes "IssuerNotUtf8" ∷ codes "WordNotUtf8" ∷ codes "BadWords" ∷
    codes "AuthorizedNotUtf8" ∷ codes "OfferNotUtf8" ∷ codes "UserNotUtf8" ∷ codes "NoMessage" ∷
    codes "MessageTooLong" ∷ codes "NotAdd" ∷ codes "SignatureTooLong" ∷ codes "LedgerNotUtf8" ∷
    codes "RequestsNotUtf8" ∷ codes "BadLine" ∷ codes "LeftNotUtf8" ∷ codes "RightNotUtf8" ∷ []

-- the names of an OpenSSH private key, by number
abbrev pub private_names : List (List ℕ)
private_names =
    codes "FromUtf8Error" ∷ codes "IoError" ∷ codes "UnsupportedKeyType" ∷ codes "UnsupportedCipher" ∷
    codes "UnsupportedKdf" ∷ codes "InvalidAuthMagicHeader" ∷ codes "InvalidKeysAmount" ∷
    codes "InvalidCheckNumbers" ∷ codes "InvalidKeyFormat" ∷ codes "DecryptionError" ∷ codes "HashingError" ∷
    codes "MissingPassphrase" ∷ codes "KeyError" ∷ codes "PemError" ∷ codes "SuiteFault" ∷ codes "TooLong" ∷
    codes "NoMemory" ∷ codes "PublicKeyMismatch" ∷ []

-- the names of a public key line, by number
abbrev pub public_names : List (List ℕ)
public_names =
    codes "IoError" ∷ codes "InvalidUtf8" ∷ codes "Base64DecodeError" ∷ codes "UnknownKeyType" ∷
    codes "KeyError" ∷ codes "TooLong" ∷ codes "NoMemory" ∷ []

-- the names of a certificate, by number
abbrev pub certificate_names : List (List ℕ)
certificate_names =
    codes "CertificateProcessingError" ∷ codes "UnsupportedCertificateType" ∷ codes "SshCriticalOptionError" ∷
    codes "SshExtensionError" ∷ codes "InvalidUtf8" ∷ codes "Base64DecodeError" ∷
    codes "InvalidCertificateType" ∷ codes "InvalidCertificateKeyType" ∷ codes "InvalidPublicKey" ∷
    codes "KeyError" ∷ codes "SubjectMismatch" ∷ codes "SshSignatureError" ∷ codes "TooLong" ∷
    codes "NoMemory" ∷ []

-- the names of PuTTY's texts, by number
abbrev pub putty_names : List (List ℕ)
putty_names =
    codes "EndOfInput" ∷ codes "InvalidInput" ∷ codes "InvalidKeyValueFormat" ∷ codes "Aes" ∷ codes "Argon2" ∷
    codes "MacValidation" ∷ codes "PublicAndPrivateKeyMismatch" ∷ codes "InvalidPrivateKeyData" ∷
    codes "InvalidPublicKeyData" ∷ codes "InvalidPublicKeyContainer" ∷ codes "InvalidPublicKeyComment" ∷
    codes "AlreadyDecrypted" ∷ codes "AlreadyEncrypted" ∷ codes "Encrypted" ∷ codes "NotSupported" ∷
    codes "SshPublicKey" ∷ codes "IoError" ∷ codes "SuiteFault" ∷ codes "TooLong" ∷ codes "TooManyLines" ∷
    codes "NoMemory" ∷ []

-- the names of a request, by number
abbrev pub request_names : List (List ℕ)
request_names =
    codes "UnsupportedCertificateKeyType" ∷ codes "IncorrectSignatureAlgorithm" ∷ codes "MissingPublicKey" ∷
    codes "MissingCertificateType" ∷ codes "InvalidTime" ∷ codes "MissingSignatureKey" ∷
    codes "HostCertificateExtensions" ∷ codes "HostCertificateCriticalOptions" ∷ codes "NoKeyType" ∷
    codes "SignatureError" ∷ codes "TooLong" ∷ codes "NoMemory" ∷ []

-- the names of answers, by number
abbrev pub answers_names : List (List ℕ)
answers_names =
    codes "EndsInEntry" ∷ codes "LengthPastEnd" ∷ codes "NoQuestion" ∷ codes "WrongLength" ∷ codes "Contradiction" ∷
    codes "Misplaced" ∷ codes "TooLong" ∷ codes "UnknownByte" ∷ []

-- the names of a denial, by number
abbrev pub denied_names : List (List ℕ)
denied_names =
    codes "NoLine" ∷ codes "NoAuthority" ∷ codes "NotClient" ∷ codes "NotYet" ∷ codes "Expired" ∷
    codes "Principal" ∷ codes "CriticalOption" ∷ codes "BadSignature" ∷ []

-- the names of an agent's state, by number
abbrev pub state_names : List (List ℕ)
state_names =
    codes "TooLong" ∷ codes "Short" ∷ codes "NotKept" ∷ codes "TooMany" ∷ codes "NotCanonical" ∷
    codes "NoMemory" ∷ []

-- the names of a hundred, by its number
abbrev pub names_in : ℕ → List (List ℕ)
names_in group =
    if group == 0 then own_names
    else if group == 1 then private_names
    else if group == 2 then public_names
    else if group == 3 then certificate_names
    else if group == 4 then putty_names
    else if group == 5 then private_names
    else if group == 6 then putty_names
    else if group == 7 then answers_names
    else if group == 8 then request_names
    else if group == 9 then denied_names
    else if group == 10 then state_names
    else if group == 11 then private_names
    else if group == 12 then public_names
    else if group == 13 then certificate_names
    else if group == 14 then putty_names
    else []

-- the path to them
abbrev pub path_to : ℕ → List ℕ
path_to group =
    if group == 1 then codes "input.private."
    else if group == 2 then codes "input.public."
    else if group == 3 then codes "input.cert."
    else if group == 4 then codes "input.putty."
    else if group == 5 then codes "output.private."
    else if group == 6 then codes "output.putty."
    else if group == 7 then codes "answers."
    else if group == 8 then codes "request."
    else if group == 9 then codes "denied."
    else if group == 10 then codes "state."
    else if group == 11 then codes "issuer.private."
    else if group == 12 then codes "issuer.public."
    else if group == 13 then codes "issuer.cert."
    else if group == 14 then codes "issuer.putty."
    else []

-- the name in a hundred; [] where the number has none
abbrev pub leaf_name : ℕ → List ℕ
leaf_name number = get_or (names_in (number / 100)) (number % 100) []

-- a number's whole name; [] where it has none
abbrev pub with_path : (path name : List ℕ) → List ℕ
with_path path [] = []
with_path path (b ∷ more) = path ++ (b ∷ more)

unfoldable pub error_name : ℕ → List ℕ
error_name number = with_path (path_to (number / 100)) (leaf_name number)

-- the version of this library
abbrev pub version : List ℕ
version = codes "0.1.0"

-- the text is the name, with zeros behind it
abbrev pub IsNamed : (name text : List ℕ) → Type 0
IsNamed name text = text ≡ name ++ replicate (48 - length name) 0
