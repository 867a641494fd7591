-- Each target's text is read in its own form.
use Rattle.std.specs.Prelude.{Bool, true, false, if◌then◌else◌, is_some}
use Rattle.std.proofs.Common.{◌≡◌, ℕ, List, ◌∷◌, ◌++◌, refl, ap, ◌∙◌}
use Rattle.picky_wire_base.specs.Table.{find_entry}
use Rattle.picky_text.proofs.WordLaws.{words_at_space}
use Rattle.picky_keys.proofs.ByteLaws.{name_is_word}
use Rattle.picky_cert_parts.specs.CertNames.{cert_key_type_name}
use Rattle.picky_cert_parts.specs.CertNameTables.{cert_key_types}
use Rattle.picky_keys.specs.declared.curve.EcCurve.TheVariants.{NistP256, NistP384, NistP521}
use Rattle.picky_keys.specs.declared.curve.EdAlgorithm.TheVariants.{Ed25519}
use Rattle.picky_keys.specs.declared.kind.KeyKind.{KeyKind}
use Rattle.picky_keys.specs.declared.kind.KeyKind.TheVariants as kinds
use Rattle.picky_keys.specs.KeyNames.{curve_key_type, ed_key_type, kind_name}
use Rattle.picky_sshkey_blob.specs.Pem.{header, pem_lines, pem_text}
use Rattle.picky_text.specs.Lines.{text_of}
use Rattle.picky_text.specs.declared.lines.LineEnd.{LineEnd}
use Rattle.picky_kv.specs.ChoiceFields.{version_field}
use Rattle.picky_kv.specs.declared.PpkVersionKey.{PpkVersionKey}
use Rattle.picky_kv.specs.declared.PpkVersionKey.TheVariants.{V2, V3}
use Rattle.picky_kv.specs.AlgorithmField.{algorithm_field}
use Rattle.picky_kv.specs.declared.algorithm.PpkKeyAlgorithmValue.{PpkKeyAlgorithmValue}
use Rattle.picky_keys.specs.declared.key.SshPublicKey.{SshPublicKey}
use Rattle.picky_keys.specs.Key.{kind_of}
use Rattle.picky_keys.specs.Line.{line_body, line_of as public_line_of}
use Rattle.picky_ppk_file.specs.declared.file.PpkFile.{PpkFile}
use Rattle.picky_ppk_file.specs.File.{version_of}
use Rattle.picky_ppk_file.specs.Written.{line_end_of, file_lines, file_text, line_under}
use Rattle.picky_ppk_file.specs.PuttyPublic.{putty_public, putty_header}
use Rattle.picky_key_text.specs.Form.{envelope_start, form_of, is_certificate, ppk_start, putty_public_start}
use Rattle.picky_key_text.specs.declared.form.Form.TheVariants as forms

pub envelope_form : (content : List ℕ) → form_of (pem_text content) ≡ forms.Envelope
unfolding pem_text pem_lines header envelope_start
envelope_form content = refl

first_line_form : (end : LineEnd) (version : PpkVersionKey) (algorithm : PpkKeyAlgorithmValue) (more : List (List ℕ))
    → form_of (text_of end (line_under version_field algorithm_field version algorithm ∷ more)) ≡ forms.Ppk
unfolding text_of version_field envelope_start ppk_start
first_line_form end V2 algorithm more = refl
first_line_form end V3 algorithm more = refl

pub file_form : (f : PpkFile) → form_of (file_text f) ≡ forms.Ppk
unfolding file_text file_lines
file_form f = first_line_form (line_end_of (version_of f.sealing)) (version_of f.sealing) f.algorithm _

pub putty_form : (blob comment : List ℕ) → form_of (putty_public blob comment) ≡ forms.PuttyPublic
unfolding putty_public text_of putty_header envelope_start ppk_start putty_public_start
putty_form blob comment = refl

-- a key type's name is no certificate type's
no_cert_name : (kind : KeyKind) → is_some (find_entry cert_key_types (kind_name kind)) ≡ false
unfolding kind_name curve_key_type ed_key_type cert_key_types cert_key_type_name
no_cert_name kinds.Rsa = refl
no_cert_name (kinds.Ec NistP256) = refl
no_cert_name (kinds.Ec NistP384) = refl
no_cert_name (kinds.Ec NistP521) = refl
no_cert_name (kinds.Ed Ed25519) = refl
no_cert_name kinds.SkEcdsaSha2NistP256 = refl
no_cert_name kinds.SkEd25519 = refl

no_certificate : (kind : KeyKind) (rest : List ℕ) → is_certificate (kind_name kind ++ 32 ∷ rest) ≡ false
no_certificate kind rest =
    ap (λ word. is_some (find_entry cert_key_types word)) (words_at_space (kind_name kind) rest (name_is_word kind)).0
    ∙ no_cert_name kind

line_unless : (b : Bool) → b ≡ false → (if b then forms.Certificate else forms.PublicLine) ≡ forms.PublicLine
line_unless true is = cc is
line_unless false is = refl

name_form : (kind : KeyKind) (a b c : List ℕ) → form_of (kind_name kind ++ 32 ∷ a ++ b ++ c) ≡ forms.PublicLine
unfolding kind_name curve_key_type ed_key_type envelope_start ppk_start putty_public_start
name_form kinds.Rsa a b c = line_unless _ (no_certificate kinds.Rsa (a ++ b ++ c))
name_form (kinds.Ec NistP256) a b c = line_unless _ (no_certificate (kinds.Ec NistP256) (a ++ b ++ c))
name_form (kinds.Ec NistP384) a b c = line_unless _ (no_certificate (kinds.Ec NistP384) (a ++ b ++ c))
name_form (kinds.Ec NistP521) a b c = line_unless _ (no_certificate (kinds.Ec NistP521) (a ++ b ++ c))
name_form (kinds.Ed Ed25519) a b c = line_unless _ (no_certificate (kinds.Ed Ed25519) (a ++ b ++ c))
name_form kinds.SkEcdsaSha2NistP256 a b c = line_unless _ (no_certificate kinds.SkEcdsaSha2NistP256 (a ++ b ++ c))
name_form kinds.SkEd25519 a b c = line_unless _ (no_certificate kinds.SkEd25519 (a ++ b ++ c))

pub line_form : (key : SshPublicKey) → form_of (public_line_of key) ≡ forms.PublicLine
unfolding public_line_of
line_form key = name_form (kind_of key.inner_key) (line_body key) (32 ∷ key.comment) _
