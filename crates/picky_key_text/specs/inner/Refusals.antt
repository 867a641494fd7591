-- A layer's refusal as the text's, where want of memory is the outer want.
use Rattle.picky_keys.specs.declared.error.SshPublicKeyError.{SshPublicKeyError}
use Rattle.picky_keys.specs.declared.error.SshPublicKeyError.TheVariants as public
use Rattle.picky_sshkey_blob.specs.declared.error.SshPrivateKeyError.{SshPrivateKeyError}
use Rattle.picky_sshkey_blob.specs.declared.error.SshPrivateKeyError.TheVariants as private
use Rattle.picky_cert_parts.specs.declared.error.SshCertificateError.{SshCertificateError}
use Rattle.picky_cert_parts.specs.declared.error.SshCertificateError.TheVariants as certificate
use Rattle.picky_ppk_parts.specs.declared.error.PuttyError.{PuttyError}
use Rattle.picky_ppk_parts.specs.declared.error.PuttyError.TheVariants as putty
use Rattle.picky_key_text.specs.declared.error.ReadError.{ReadError}
use Rattle.picky_key_text.specs.declared.error.ReadError.TheVariants as errors

abbrev pub envelope_refusal : SshPrivateKeyError → ReadError
envelope_refusal private.NoMemory = errors.NoMemory
envelope_refusal e = errors.Private e

abbrev pub putty_refusal : PuttyError → ReadError
putty_refusal putty.NoMemory = errors.NoMemory
putty_refusal e = errors.Putty e

abbrev pub line_refusal : SshPublicKeyError → ReadError
line_refusal public.NoMemory = errors.NoMemory
line_refusal e = errors.Public e

abbrev pub certificate_refusal : SshCertificateError → ReadError
certificate_refusal certificate.NoMemory = errors.NoMemory
certificate_refusal e = errors.Certificate e
