-- Two refusals of a key text are equal exactly where their contents are.
use Rattle.std.specs.Prelude.{◌≡◌, ◌↔◌, IsTrue}
use Rattle.std.proofs.Common.{rules, ap, refl}
use Rattle.picky_keys.specs.contracts.error.SshPublicKeyErrorPartialEq.TheImpl as public
use Rattle.picky_keys.specs.declared.error.SshPublicKeyError.{SshPublicKeyError}
use Rattle.picky_sshkey_blob.specs.contracts.error.SshPrivateKeyErrorPartialEq.TheImpl as private
use Rattle.picky_sshkey_blob.specs.declared.error.SshPrivateKeyError.{SshPrivateKeyError}
use Rattle.picky_cert_parts.specs.contracts.error.SshCertificateErrorPartialEq.TheImpl as certificate
use Rattle.picky_cert_parts.specs.declared.error.SshCertificateError.{SshCertificateError}
use Rattle.picky_ppk_parts.specs.contracts.error.PuttyErrorPartialEq.TheImpl as putty
use Rattle.picky_ppk_parts.specs.declared.error.PuttyError.{PuttyError}
use Rattle.picky_key_text.specs.contracts.error.ReadErrorPartialEq.TheImpl as whole
use Rattle.picky_key_text.specs.declared.error.ReadError.{ReadError}
use Rattle.picky_key_text.specs.declared.error.ReadError.TheVariants as errors

-- so are those of a layer
public_equal : (a b : SshPublicKeyError) → IsTrue (public.ghosts.eq a b) ↔ (a ≡ b)
public_equal = search rules

pub private_equal : (a b : SshPrivateKeyError) → IsTrue (private.ghosts.eq a b) ↔ (a ≡ b)
private_equal = search rules

certificate_equal : (a b : SshCertificateError) → IsTrue (certificate.ghosts.eq a b) ↔ (a ≡ b)
certificate_equal = search rules

pub putty_equal : (a b : PuttyError) → IsTrue (putty.ghosts.eq a b) ↔ (a ≡ b)
putty_equal = search rules

pub read_equal : (a b : ReadError) → IsTrue (whole.ghosts.eq a b) ↔ (a ≡ b)
read_equal (errors.Private e) (errors.Private f) =
    let each = private_equal e f in (λ equal. ap errors.Private (each.0 equal), λ same. each.1 (cc same))
read_equal (errors.Public e) (errors.Public f) =
    let each = public_equal e f in (λ equal. ap errors.Public (each.0 equal), λ same. each.1 (cc same))
read_equal (errors.Certificate e) (errors.Certificate f) =
    let each = certificate_equal e f in (λ equal. ap errors.Certificate (each.0 equal), λ same. each.1 (cc same))
read_equal (errors.Putty e) (errors.Putty f) =
    let each = putty_equal e f in (λ equal. ap errors.Putty (each.0 equal), λ same. each.1 (cc same))
read_equal errors.NoMemory errors.NoMemory = (λ equal. refl, λ same. refl)
read_equal a b = (λ equal. cc equal, λ same. cc same)
