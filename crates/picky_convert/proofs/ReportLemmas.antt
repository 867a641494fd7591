-- The line of a status: its length, and the pieces that it is written in.
use Rattle.std.proofs.Common.{◌≡◌, ◌<◌, ◌++◌, ℕ, List, [], ◌∷◌, length, arith, sym, ap, ◌∙◌, append_assoc}
use Rattle.std.proofs.lemmas.List.{length-append}
use Rattle.std.specs.List.{concat}
use Rattle.std.specs.Prelude.{codes}
use Rattle.picky_keys.specs.declared.error.SshPublicKeyError.{SshPublicKeyError}
use Rattle.picky_keys.specs.declared.error.SshPublicKeyError.TheVariants as public
use Rattle.picky_sshkey_blob.specs.declared.error.SshPrivateKeyError.{SshPrivateKeyError}
use Rattle.picky_sshkey_blob.specs.declared.error.SshPrivateKeyError.TheVariants as private
use Rattle.picky_cert_parts.specs.declared.error.SshCertificateError.{SshCertificateError}
use Rattle.picky_cert_parts.specs.declared.error.SshCertificateError.TheVariants as certificate
use Rattle.picky_ppk_parts.specs.declared.error.PuttyError.{PuttyError}
use Rattle.picky_ppk_parts.specs.declared.error.PuttyError.TheVariants as putty
use Rattle.picky_key_text.specs.declared.error.ReadError.{ReadError}
use Rattle.picky_key_text.specs.declared.error.ReadError.TheVariants as input
use Rattle.picky_cert_builder.specs.declared.error.SshCertificateGenerationError.{SshCertificateGenerationError}
use Rattle.picky_cert_builder.specs.declared.error.SshCertificateGenerationError.TheVariants as requests
use Rattle.picky_target.specs.declared.error.ConvertError.{ConvertError}
use Rattle.picky_target.specs.declared.error.ConvertError.TheVariants as convert
use Rattle.picky_convert.specs.declared.error.Status.{Status}
use Rattle.picky_convert.specs.declared.error.Status.TheVariants as statuses
use Rattle.picky_convert.specs.Report.{certificate_name, input_name, input_path, issuer_path, name, path, private_name}
use Rattle.picky_convert.specs.Report.{public_name, putty_name, report, request_name, word}

-- ---- a name is short

public_short : (e : SshPublicKeyError) → length (public_name e) < 100
public_short (public.IoError kind) = omega arith
public_short e = omega arith

private_short : (e : SshPrivateKeyError) → length (private_name e) < 100
private_short (private.IoError kind) = omega arith
private_short e = omega arith

certificate_short : (e : SshCertificateError) → length (certificate_name e) < 100
certificate_short (certificate.CertificateProcessingError kind) = omega arith
certificate_short e = omega arith

putty_short : (e : PuttyError) → length (putty_name e) < 100
putty_short (putty.IoError kind) = omega arith
putty_short e = omega arith

input_short : (e : ReadError) → length (input_name e) < 100
input_short (input.Private e) = private_short e
input_short (input.Public e) = public_short e
input_short (input.Certificate e) = certificate_short e
input_short (input.Putty e) = putty_short e
input_short input.NoMemory = omega arith

input_path_short : (e : ReadError) → length (input_path e) < 100
input_path_short (input.Private e) = omega arith
input_path_short e = omega arith

issuer_path_short : (e : ReadError) → length (issuer_path e) < 100
issuer_path_short (input.Private e) = omega arith
issuer_path_short e = omega arith

request_short : (e : SshCertificateGenerationError) → length (request_name e) < 100
request_short (requests.UnsupportedCertificateKeyType t) = omega arith
request_short e = omega arith

name_short : (e : ConvertError) → length (name e) < 100
name_short (convert.Input e) = input_short e
name_short (convert.Issuer e) = input_short e
name_short (convert.Request e) = request_short e
name_short (convert.Private e) = private_short e
name_short (convert.Putty e) = putty_short e
name_short e = omega arith

path_short : (e : ConvertError) → length (path e) < 100
path_short (convert.Input e) = input_path_short e
path_short (convert.Issuer e) = issuer_path_short e
path_short e = omega arith

word_short : (status : Status) → length (word status) < 200
word_short (statuses.Refused e) = omega (arith, path_short e, name_short e, length-append (path e) (name e))
word_short status = omega arith

-- so are its two parts
pub parts_short : (status : Status) (front back : List ℕ) → front ++ back ≡ word status
    → (length front < 4294967296) × (length back < 4294967296)
parts_short status front back is =
    let short = word_short status in
    let len = length-append front back in
    let same = ap length is in
    (omega arith, omega arith)

-- ---- the line in four pieces

pub line_of_pieces : (status : Status) (head first second end front back : List ℕ) → head ≡ codes "keyconv: " → first ≡ front
    → second ≡ back → end ≡ codes "\n" → front ++ back ≡ word status
    → concat (head ∷ first ∷ second ∷ end ∷ []) ≡ report status
unfolding report
line_of_pieces status head first second end front back head_is first_is second_is end_is is =
    rw (head_is, first_is, second_is, end_is)
    (ap (λ w. codes "keyconv: " ++ w) (sym (append_assoc front back (codes "\n")) ∙ ap (λ w. w ++ codes "\n") is))
