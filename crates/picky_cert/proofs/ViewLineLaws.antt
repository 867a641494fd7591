-- A line without a comment means what the view of its bytes shows.
use Rattle.std.specs.Prelude.{◌≡◌, ◌++◌, ◌∷◌, ◌<◌, ◌^◌, ◌==◌, false, List, [], ℕ, length, slice_index, Some, Result, Ok, Err}
use Rattle.std.specs.{List.{AllByRecursion, position_or_len}, Str.{trim_end}}
use Rattle.std.proofs.{Common.{sym, ◌∙◌, ap, subst, refl, inl, inr}, lemmas.Bool.{cases_Bool, lt-ltb}}
use Rattle.std.proofs.lemmas.Str.{IsUtf8-nil}
use Rattle.picky_wire_base.specs.{Flaw.{Why}, Front.{read_front}, Numbers.{IsBytes}, Outcome.{and_then, map_err}}
use Rattle.picky_wire_base.specs.{Gives.{Gives}, View.{Sees}}
use Rattle.picky_text.specs.Base64.{base64_of}
use Rattle.picky_text.specs.Words.{IsWord, behind_word, body_word, ends_word, first_word, rest_of_line, rest_text}
use Rattle.picky_text.proofs.{Base64Laws.{base64_is_read_back}, ListLaws.{none_before_first, uncut}}
use Rattle.picky_text.proofs.WordLaws.{base64_is_word, rest_text_is, trim_end_front, words_at_space}
use Rattle.picky_keys.specs.LineRefusal.{comment_text}
use Rattle.picky_cert_parts.specs.declared.cert_key_type.SshCertKeyType.{SshCertKeyType}
use Rattle.picky_cert_parts.specs.declared.error.SshCertificateError.{SshCertificateError}
use Rattle.picky_cert_parts.specs.CertNames.{cert_key_type_name}
use Rattle.picky_cert_parts.specs.declared.error.SshCertificateError.TheVariants as errors
use Rattle.picky_cert_blob.specs.{declared.part.CertPart.{CertPart}, Reason.{CertReason, cert_why_in}}
use Rattle.picky_cert.specs.{declared.certificate.SshCertificate.{SshCertificate}, declared.view.CertView.{CertView}}
use Rattle.picky_cert.specs.{Certificate.{certificate, refused_part}, CertRefusal.{cert_error}, Line.{bare_line}}
use Rattle.picky_cert.specs.LineRefusal.{blob_certificate, body_certificate, cert_line_meaning, cert_words_meaning}
use Rattle.picky_cert.specs.View.{cert_seen}
use Rattle.picky_cert.proofs.{KeepLaws.{cert_piece}, LineLaws.{word_type_of}, ReadBackLaws.{type_name_is_word}}

-- ---- the words of the line

-- no byte of a word ends it
stays : (word : List ℕ) → IsWord word → AllByRecursion (λ b. ends_word b ≡ false) word
unfolding first_word
stays word is =
    subst (AllByRecursion (λ b. ends_word b ≡ false)) (words_at_space word [] is).0
    (none_before_first ends_word (word ++ 32 ∷ []))

-- nothing follows a word that stands alone
word_alone : (word : List ℕ) → IsWord word → (first_word word ≡ word) × (behind_word word ≡ [])
unfolding first_word behind_word
word_alone word is =
    let whole = uncut ends_word word (stays word is) in
    let after = elim (cases_Bool (slice_index word (position_or_len ends_word word) == 32)) as (λ _. behind_word word ≡ []) [
      | inl space ↦ rw space whole.1
      | inr other ↦ rw other refl
    ] in
    (whole.0, after)

-- nothing is left of an empty line
nothing_in_front : (front white : List ℕ) → front ++ white ≡ [] → front ≡ []
nothing_in_front [] white none = refl
nothing_in_front (b ∷ front) white none = cc none

empty_rest : rest_of_line [] ≡ []
unfolding rest_of_line
empty_rest =
    let front = trim_end_front [] IsUtf8-nil in
    nothing_in_front (trim_end []) front.0 front.1

-- the line's words
record AreWords (line name body : List ℕ) : Type 0 where
  name_is : first_word line ≡ name
  body_is : body_word line ≡ body
  comment_is : comment_text line ≡ Some []

bare_words : (t : SshCertKeyType) (blob : List ℕ) → IsBytes blob
    → AreWords (bare_line t blob) (cert_key_type_name t) (base64_of blob)
bare_words t blob small =
    let name = words_at_space (cert_key_type_name t) (base64_of blob) (type_name_is_word t) in
    let body = word_alone (base64_of blob) (base64_is_word blob small) in
    let behind = ap behind_word name.1 ∙ body.1 in
    record {
      name_is = name.0;
      body_is = ap first_word name.1 ∙ body.0;
      comment_is = ap rest_text behind ∙ rest_text_is [] IsUtf8-nil ∙ ap Some empty_rest;
    }

-- ---- its meaning

-- what is read of bytes has no comment
bare_as_read : (blob : List ℕ) (r : Result (SshCertificate × List ℕ) CertReason) → certificate.read blob ≡ r
    → and_then (map_err cert_error (and_then r (λ first. Ok first.0))) (λ (c : SshCertificate). Ok (record c { comment = [] }))
    ≡ map_err cert_error (and_then r (λ first. Ok first.0))
bare_as_read blob (Ok (c, rest)) read =
    let fits = certificate.sound blob c rest read in
    let piece = cert_piece c fits.0 fits.1 in
    let same : record c { comment = [] } ≡ c = ap (λ (v : SshCertificate). record v { comment = [] }) (sym piece.bare) ∙ piece.bare in
    ap (λ v. Ok v) same
bare_as_read blob (Err reason) read = refl

-- The line means the certificate in front of its bytes, or is refused as they are.
pub bare_line_means : (t : SshCertKeyType) (blob : List ℕ) → IsBytes blob → length (base64_of blob) < 2 ^ 32
    → cert_line_meaning (bare_line t blob) ≡ map_err cert_error (read_front certificate blob)
unfolding cert_line_meaning cert_words_meaning body_certificate blob_certificate
bare_line_means t blob small short =
    let words = bare_words t blob small in
    let named = word_type_of (first_word (bare_line t blob)) t words.name_is in
    rw (named, words.comment_is, words.body_is, lt-ltb (length (base64_of blob)) (2 ^ 32) short, base64_is_read_back blob small)
    (bare_as_read blob (certificate.read blob) refl)

-- So a call that answers what the line means answers what its bytes begin with.
pub bare_line_gives : (t : SshCertKeyType) (blob text : List ℕ) (result : Result SshCertificate SshCertificateError)
    → Gives errors.NoMemory (λ c. c) result (cert_line_meaning text) → IsBytes blob → length (base64_of blob) < 2 ^ 32
    → text ≡ bare_line t blob → Gives errors.NoMemory (λ c. c) result (map_err cert_error (read_front certificate blob))
bare_line_gives t blob text result gives small short is =
    subst (λ says. Gives errors.NoMemory (λ (c : SshCertificate). c) result says) (ap cert_line_meaning is ∙ bare_line_means t blob small short) gives

-- ---- what the view shows

-- what is seen is the line's certificate
pub seen_is_meant : (t : SshCertKeyType) (blob : List ℕ) (view : CertView) (next : ℕ) → IsBytes blob
    → length (base64_of blob) < 2 ^ 32 → Sees cert_seen cert_why_in certificate blob 0 (Ok (view, next))
    → cert_line_meaning (bare_line t blob) ≡ Ok (cert_seen view)
seen_is_meant t blob view next small short sees =
    bare_line_means t blob small short ∙ ap (λ r. map_err cert_error (and_then r (λ first. Ok first.0))) sees

-- bytes that are stuck at a part are refused as it is
stuck_as_read : (r : Result (SshCertificate × List ℕ) CertReason) (why : Why) (part : CertPart)
    → map_err cert_why_in r ≡ Err why → refused_part r ≡ Some part
    → map_err cert_error (and_then r (λ first. Ok first.0)) ≡ Err (cert_error (part, why))
stuck_as_read (Ok found) why part stuck at = cc stuck
stuck_as_read (Err reason) why part stuck at =
    let same_why : reason.1 ≡ why = cc stuck in
    let same_part : reason.0 ≡ part = cc at in
    let same : reason ≡ (part, why) = λ i. (same_part i, same_why i) in
    ap (λ (r : CertReason). Err (cert_error r)) same

pub stuck_is_refused : (t : SshCertKeyType) (blob : List ℕ) (why : Why) (part : CertPart) → IsBytes blob
    → length (base64_of blob) < 2 ^ 32 → map_err cert_why_in (certificate.read blob) ≡ Err why
    → refused_part (certificate.read blob) ≡ Some part → cert_line_meaning (bare_line t blob) ≡ Err (cert_error (part, why))
stuck_is_refused t blob why part small short stuck at =
    bare_line_means t blob small short ∙ stuck_as_read (certificate.read blob) why part stuck at

pub ruleset view_line_laws = (seen_is_meant, stuck_is_refused)
