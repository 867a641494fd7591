-- Two refusals are equal exactly where their contents are.
use Rattle.std.specs.Prelude.{◌≡◌, ◌↔◌, Bool, IsTrue}
use Rattle.std.proofs.Common.{rules, ap}
use Rattle.picky_sshkey_blob.specs.declared.error.SshPrivateKeyError.{SshPrivateKeyError}
use Rattle.picky_sshkey_blob.specs.contracts.error.SshPrivateKeyErrorPartialEq.TheImpl as private
use Rattle.picky_ppk_parts.specs.declared.error.PuttyError.{PuttyError}
use Rattle.picky_ppk_parts.specs.contracts.error.PuttyErrorPartialEq.TheImpl as putty
use Rattle.picky_cert_builder.specs.declared.error.SshCertificateGenerationError.{SshCertificateGenerationError}
use Rattle.picky_cert_builder.specs.contracts.error.SshCertificateGenerationErrorPartialEq.TheImpl as request
use Rattle.picky_key_text.specs.contracts.error.ReadErrorPartialEq.TheImpl as read
use Rattle.picky_key_text.specs.declared.error.ReadError.{ReadError}
use Rattle.picky_key_text.proofs.EqualityLaws.{private_equal, putty_equal, read_equal}
use Rattle.picky_target.specs.declared.error.ConvertError.{ConvertError}
use Rattle.picky_target.specs.declared.error.ConvertError.TheVariants as errors
use Rattle.picky_target.specs.contracts.error.ConvertErrorPartialEq.TheImpl as convert

request_equal : (a b : SshCertificateGenerationError) → IsTrue (request.ghosts.eq a b) ↔ (a ≡ b)
request_equal = search rules

-- A refusal with another inside is equal where that is.
wrapped : {A B : Type 0} (f : A → B) (x y : A) (b : Bool) → (IsTrue b ↔ (x ≡ y)) → (f x ≡ f y → x ≡ y) → IsTrue b ↔ (f x ≡ f y)
wrapped f x y b each inner = (λ is. ap f (each.0 is), λ same. each.1 (inner same))

-- Each variant beside all, in turn: what is said of both at once takes a proof for each pair.
input_beside : (e : ReadError) (b : ConvertError) → IsTrue (convert.ghosts.eq (errors.Input e) b) ↔ (errors.Input e ≡ b)
input_beside e (errors.Input f) = wrapped errors.Input e f (read.ghosts.eq e f) (read_equal e f) (λ same. cc same)
input_beside e b = (λ is. cc is, λ same. cc same)

issuer_beside : (e : ReadError) (b : ConvertError) → IsTrue (convert.ghosts.eq (errors.Issuer e) b) ↔ (errors.Issuer e ≡ b)
issuer_beside e (errors.Issuer f) = wrapped errors.Issuer e f (read.ghosts.eq e f) (read_equal e f) (λ same. cc same)
issuer_beside e b = (λ is. cc is, λ same. cc same)

request_beside : (e : SshCertificateGenerationError) (b : ConvertError) → IsTrue (convert.ghosts.eq (errors.Request e) b) ↔ (errors.Request e ≡ b)
request_beside e (errors.Request f) = wrapped errors.Request e f (request.ghosts.eq e f) (request_equal e f) (λ same. cc same)
request_beside e b = (λ is. cc is, λ same. cc same)

private_beside : (e : SshPrivateKeyError) (b : ConvertError) → IsTrue (convert.ghosts.eq (errors.Private e) b) ↔ (errors.Private e ≡ b)
private_beside e (errors.Private f) = wrapped errors.Private e f (private.ghosts.eq e f) (private_equal e f) (λ same. cc same)
private_beside e b = (λ is. cc is, λ same. cc same)

putty_beside : (e : PuttyError) (b : ConvertError) → IsTrue (convert.ghosts.eq (errors.Putty e) b) ↔ (errors.Putty e ≡ b)
putty_beside e (errors.Putty f) = wrapped errors.Putty e f (putty.ghosts.eq e f) (putty_equal e f) (λ same. cc same)
putty_beside e b = (λ is. cc is, λ same. cc same)

pub convert_equal : (a b : ConvertError) → IsTrue (convert.ghosts.eq a b) ↔ (a ≡ b)
convert_equal (errors.Input e) = input_beside e
convert_equal (errors.Issuer e) = issuer_beside e
convert_equal (errors.Request e) = request_beside e
convert_equal (errors.Private e) = private_beside e
convert_equal (errors.Putty e) = putty_beside e
convert_equal errors.NoPrivateKey = search rules
convert_equal errors.CommentNotCarried = search rules
convert_equal errors.FreshTooShort = search rules
convert_equal errors.TooLong = search rules
convert_equal errors.TooManyLines = search rules
convert_equal errors.NoMemory = search rules
