-- The name of a request's refusal.
use Rattle.std.specs.Prelude.{List, ℕ, codes}
use Rattle.picky_cert_builder.specs.declared.error.SshCertificateGenerationError.{SshCertificateGenerationError}
use Rattle.picky_cert_builder.specs.declared.error.SshCertificateGenerationError.TheVariants as requests

-- that of its variant, without what the variant carries
abbrev pub request_name : SshCertificateGenerationError → List ℕ
request_name (requests.UnsupportedCertificateKeyType t) = codes "UnsupportedCertificateKeyType"
request_name requests.IncorrectSignatureAlgorithm = codes "IncorrectSignatureAlgorithm"
request_name requests.MissingPublicKey = codes "MissingPublicKey"
request_name requests.MissingCertificateType = codes "MissingCertificateType"
request_name requests.InvalidTime = codes "InvalidTime"
request_name requests.MissingSignatureKey = codes "MissingSignatureKey"
request_name requests.HostCertificateExtensions = codes "HostCertificateExtensions"
request_name requests.HostCertificateCriticalOptions = codes "HostCertificateCriticalOptions"
request_name requests.NoKeyType = codes "NoKeyType"
request_name requests.SignatureError = codes "SignatureError"
request_name requests.TooLong = codes "TooLong"
request_name requests.NoMemory = codes "NoMemory"
