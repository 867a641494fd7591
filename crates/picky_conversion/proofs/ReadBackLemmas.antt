-- The line of a certificate that was signed means its subject's key and its comment.
use Rattle.std.specs.Prelude.{◌≡◌, ◌<◌, ◌^◌, ◌++◌, ◌∷◌, [], List, ℕ, Result, Ok, Err, IfOk, length, take, true, is_some, Bool}
use Rattle.std.specs.Prelude.{false, if◌then◌else◌}
use Rattle.std.specs.Str.{trim_end}
use Rattle.std.proofs.{Common.{refl, sym, ap, ◌∙◌, subst, arith}, lemmas.List.{append-nil, length-take}}
use Rattle.picky_wire_base.specs.{Numbers.{IsBytes}, Table.{find_entry}, Gives.{Gives}}
use Rattle.picky_text.proofs.WordLaws.{words_at_space}
use Rattle.picky_text.specs.{Lines.{HasNo}, Base64.{base64_of}}
use Rattle.picky_keys.specs.Key.{IsString}
use Rattle.picky_cert_parts.specs.declared.cert_key_type.SshCertKeyType.{SshCertKeyType}
use Rattle.picky_cert_parts.specs.{CertNames.{cert_key_type_name}, CertNameTables.{cert_key_types}}
use Rattle.picky_cert_parts.specs.declared.cert_key_type.SshCertKeyType.TheVariants as types
use Rattle.picky_cert.specs.declared.certificate.SshCertificate.{SshCertificate}
use Rattle.picky_cert.specs.{Line.{IsCertificateLine, IsReadBackCertificate}, LineRefusal.{cert_line_text}}
use Rattle.picky_cert.specs.Spelled.{cert_blob_of, cert_line_of}
use Rattle.picky_cert.proofs.ReadBackLaws.{line_says, type_name_is_word}
use Rattle.picky_cert_builder.specs.declared.draft.CertificateDraft.{CertificateDraft}
use Rattle.picky_cert_builder.specs.{Draft.{Unsigned, signed_with}, Drafted.{draft_shown}}
use Rattle.picky_cert_builder.specs.Keeps.{IsRequest, without_key_comments}
use Rattle.picky_cert_builder.proofs.MadeLaws.{made_comment, made_key, signed_is_kept, signed_line}
use Rattle.picky_key_text.specs.declared.form.Form.TheVariants as forms
use Rattle.picky_key_text.specs.{declared.meaning.Key.TheVariants.{Public}, declared.meaning.Meaning.{Meaning}}
use Rattle.picky_key_text.specs.Form.{envelope_start, form_of, is_certificate, ppk_start, putty_public_start}
use Rattle.picky_key_text.specs.{Key.{certificate_meaning, public_key, public_meaning}, Reader.{Reader}}
use Rattle.picky_key_text.specs.Reads.{Means, Reads}
use Rattle.picky_target.specs.{declared.error.ConvertError.{ConvertError}, Judged.{carries_comment}}
use Rattle.picky_target.specs.declared.error.ConvertError.TheVariants as errors
use Rattle.picky_target.specs.declared.target.KeyTarget.TheVariants as targets
use Rattle.picky_target.proofs.ByteLemmas.{take_bytes}
use Rattle.picky_conversion.specs.{declared.request.CertRequest.{CertRequest}, Certified.{IsLineOf, SignRelation}}
use Rattle.picky_conversion.specs.{Drafted.{IsDrafted, drafted, drafted_of}, inner.Signed.{IsReadBack}}
use Rattle.picky_conversion.specs.Request.{builder_asked}
use Rattle.picky_conversion.proofs.DraftedLaws.{drafted_where}

-- ---- its form

-- each name is in the table
named : (t : SshCertKeyType) → is_some (find_entry cert_key_types (cert_key_type_name t)) ≡ true
unfolding cert_key_types cert_key_type_name
named types.SshRsaV01 = refl
named types.SshDssV01 = refl
named types.RsaSha2_256V01 = refl
named types.RsaSha2_512v01 = refl
named types.EcdsaSha2Nistp256V01 = refl
named types.EcdsaSha2Nistp384V01 = refl
named types.EcdsaSha2Nistp521V01 = refl
named types.SshEd25519V01 = refl
named types.SkSshSha2Nistp256V01 = refl
named types.SkSshEd25519V01 = refl

certifies : (t : SshCertKeyType) (rest : List ℕ) → is_certificate (cert_key_type_name t ++ 32 ∷ rest) ≡ true
certifies t rest =
    ap (λ word. is_some (find_entry cert_key_types word)) (words_at_space (cert_key_type_name t) rest (type_name_is_word t)).0
    ∙ named t

form_where : (b : Bool) → b ≡ true → (if b then forms.Certificate else forms.PublicLine) ≡ forms.Certificate
form_where true is = refl
form_where false is = cc is

name_form : (t : SshCertKeyType) (a b c : List ℕ) → form_of (cert_key_type_name t ++ 32 ∷ a ++ b ++ c) ≡ forms.Certificate
unfolding cert_key_type_name envelope_start ppk_start putty_public_start
name_form types.SshRsaV01 a b c = form_where _ (certifies types.SshRsaV01 (a ++ b ++ c))
name_form types.SshDssV01 a b c = form_where _ (certifies types.SshDssV01 (a ++ b ++ c))
name_form types.RsaSha2_256V01 a b c = form_where _ (certifies types.RsaSha2_256V01 (a ++ b ++ c))
name_form types.RsaSha2_512v01 a b c = form_where _ (certifies types.RsaSha2_512v01 (a ++ b ++ c))
name_form types.EcdsaSha2Nistp256V01 a b c = form_where _ (certifies types.EcdsaSha2Nistp256V01 (a ++ b ++ c))
name_form types.EcdsaSha2Nistp384V01 a b c = form_where _ (certifies types.EcdsaSha2Nistp384V01 (a ++ b ++ c))
name_form types.EcdsaSha2Nistp521V01 a b c = form_where _ (certifies types.EcdsaSha2Nistp521V01 (a ++ b ++ c))
name_form types.SshEd25519V01 a b c = form_where _ (certifies types.SshEd25519V01 (a ++ b ++ c))
name_form types.SkSshSha2Nistp256V01 a b c = form_where _ (certifies types.SkSshSha2Nistp256V01 (a ++ b ++ c))
name_form types.SkSshEd25519V01 a b c = form_where _ (certifies types.SkSshEd25519V01 (a ++ b ++ c))

line_form : (c : SshCertificate) → form_of (cert_line_of c) ≡ forms.Certificate
unfolding cert_line_of
line_form c = name_form c.cert_key_type (base64_of (cert_blob_of c)) (32 ∷ c.comment) _

-- ---- what it means

-- a first part of 32 bytes is a string
nonce_is_string : (fresh : List ℕ) → IsBytes fresh → IsString (take 32 fresh)
nonce_is_string fresh bytes =
    record { bytes = take_bytes 32 fresh bytes; short = omega (arith, length-take 32 fresh) }

-- Signed, it has a line that is read back.
pub line_is_kept : (request : CertRequest) (m : Meaning) (fresh : List ℕ) (u : Unsigned) (bytes : List ℕ)
    → IsRequest (builder_asked request m) → IsBytes fresh → IsString bytes → IsDrafted request m fresh u
    → length (cert_line_of (signed_with u.certificate bytes)) < 2 ^ 32 → IsReadBackCertificate (without_key_comments (signed_with u.certificate bytes))
line_is_kept request m fresh u bytes kept are_bytes is_bytes is short =
    let b = builder_asked request m in
    let comment : m.comment ≡ u.certificate.comment = made_comment b (take 32 fresh) u is.is in
    signed_is_kept b (take 32 fresh) u bytes kept (nonce_is_string fresh are_bytes) is_bytes is.is
    (subst (HasNo 13) comment is.comment.no_cr) (subst (HasNo 10) comment is.comment.no_lf)
    (subst (λ t. trim_end t ≡ t) comment is.comment.trimmed) short

-- It means the subject's key and the comment.
pub line_means : (request : CertRequest) (m : Meaning) (fresh : List ℕ) (u : Unsigned) (bytes text : List ℕ) (r : Reader)
    → IsDrafted request m fresh u → IsReadBackCertificate (without_key_comments (signed_with u.certificate bytes))
    → cert_line_text (signed_with u.certificate bytes) ≡ Ok text → Reads r text (public_meaning (public_key m))
line_means request m fresh u bytes text r is kept written =
    let b = builder_asked request m in
    let c : SshCertificate = without_key_comments (signed_with u.certificate bytes) in
    let line = signed_line (signed_with u.certificate bytes) text written in
    let key : public_key m ≡ u.certificate.public_key = cc (made_key b (take 32 fresh) u is.is) in
    let comment : m.comment ≡ u.certificate.comment = made_comment b (take 32 fresh) u is.is in
    let says = subst (λ t. IsCertificateLine t c) (append-nil (cert_line_of c)) (line_says c [] kept) in
    let same : public_meaning (public_key m) ≡ certificate_meaning c =
    ap (λ k. record { key = Public k.inner_key; comment = m.comment }) key
    ∙ ap (λ t. record { key = Public u.certificate.public_key.inner_key; comment = t }) comment in
    subst (λ t. Reads r t (public_meaning (public_key m))) line.0
    (subst (λ f. Means f r (cert_line_of c) (public_meaning (public_key m))) (sym (line_form c)) (c, says, same))

-- So does each text that is one.
pub line_is_read_back : (signs : SignRelation) (request : CertRequest) (m : Meaning) (fresh : List ℕ) (u : Unsigned) (text : List ℕ)
    (r : Reader) → IsDrafted request m fresh u → IsLineOf signs u text → Reads r text (public_meaning (public_key m))
line_is_read_back signs request m fresh u text r is line =
    let bytes = line.1.0 in
    line_means request m fresh u bytes text r is
    (subst (λ c. IsReadBackCertificate (without_key_comments c)) line.1.1 line.2)
    (subst (λ c. cert_line_text c ≡ Ok text) line.1.1 line.3)

-- Whatever signature a draft gets, its line is read back.
pub draft_reads_back : (request : CertRequest) (m : Meaning) (fresh : List ℕ) (r : Result CertificateDraft ConvertError)
    → carries_comment targets.OpenSshPublic m.comment ≡ true → IsRequest (builder_asked request m) → IsBytes fresh
    → Gives errors.NoMemory draft_shown r (drafted_of (builder_asked request m) fresh) → IfOk r (λ d. IsReadBack d.certificate)
unfolding drafted
draft_reads_back request m fresh (Ok d) carries kept are_bytes gives =
    let is : drafted request m fresh ≡ Ok (draft_shown d) = rw carries gives in
    λ bytes is_bytes short. line_is_kept request m fresh (draft_shown d) bytes kept are_bytes is_bytes
    ((drafted_where request m fresh (draft_shown d)).0 is) short
draft_reads_back request m fresh (Err e) carries kept are_bytes gives = tt
