-- The laws of a certificate's line: its meaning is what it says, and what it means keeps its ranges.
use Rattle.std.specs.Prelude.{◌≡◌, ◌&&◌, ◌^◌, Bool, true, false, if◌then◌else◌, nat_lt, List, ℕ, length, Option, Some, None, Ok}
use Rattle.std.specs.Prelude.{Err}
use Rattle.std.specs.{Option.{ok_or}, Str.{is_utf8}}
use Rattle.std.proofs.{Common.{sym, ◌∙◌, ap, subst, refl}, lemmas.Bool.{ltb-true, lt-ltb, and_parts}}
use Rattle.std.proofs.lemmas.Str.{is_utf8-from_IsUtf8}
use Rattle.picky_wire_base.specs.{carried.Outcome.{and_then_ok, map_err_ok}, Front.{read_front}, Grammar.{Fits}}
use Rattle.picky_wire_base.specs.{Numbers.{IsBytes}, Table.{find_entry}}
use Rattle.picky_wire_base.proofs.Numbers.{bytes_in_front}
use Rattle.picky_text.specs.Base64.{base64_of, decoded}
use Rattle.picky_text.specs.Words.{first_word, behind_word, body_word, after_body, comment_of}
use Rattle.picky_text.proofs.Base64Laws.{base64_is_read_back, base64_is_of_what_it_gives, decoded_is_bytes}
use Rattle.picky_text.proofs.WordLaws.{rest_text_is, rest_text_says, rest_of_line_is_text}
use Rattle.picky_keys.specs.{Key.{IsText}, LineRefusal.{comment_text, is_short, is_short_text}}
use Rattle.picky_keys.proofs.{ByteLaws.{after_bytes, word_is_bytes, utf8_is_bytes}, LineLaws.{chosen, some_of}}
use Rattle.picky_cert_parts.specs.declared.cert_key_type.SshCertKeyType.{SshCertKeyType}
use Rattle.picky_cert_parts.specs.{declared.error.SshCertificateError.{SshCertificateError}, CertNamed.{entry_or}}
use Rattle.picky_cert_parts.specs.{CertNames.{cert_key_type_name}, CertNameTables.{cert_key_types}}
use Rattle.picky_cert_parts.specs.declared.error.SshCertificateError.TheVariants as errors
use Rattle.picky_cert_parts.proofs.NameLaws.{key_type_of_name, name_of_key_type}
use Rattle.picky_cert_parts.proofs.TypeNameLaws.{cert_key_type_name_utf8}
use Rattle.picky_cert_blob.specs.Keeps.{FitsSubject}
use Rattle.picky_cert.specs.declared.certificate.SshCertificate.{SshCertificate}
use Rattle.picky_cert.specs.{Certificate.{certificate, certified, said}, CertRefusal.{cert_error}}
use Rattle.picky_cert.specs.{Keeps.{IsCertificate}, Line.{IsCertificateLine}}
use Rattle.picky_cert.specs.LineRefusal.{blob_certificate, body_certificate, cert_line_meaning, word_type, cert_words_meaning}
use Rattle.picky_cert.specs.{Want.{IsReadFault, WantsMemory}, carried.LineOwn.{line_own}}
use Rattle.picky_cert.proofs.KeepLaws.{cert_piece, spelled_keeps}

-- ---- the name of a type

-- the name of a type names it
pub word_type_of : (word : List ℕ) (t : SshCertKeyType) → word ≡ cert_key_type_name t → word_type word ≡ Ok t
unfolding word_type
word_type_of word t is =
    let utf8 = ap is_utf8 is ∙ is_utf8-from_IsUtf8 _ (cert_key_type_name_utf8 t) in
    let found = ap (find_entry cert_key_types) is ∙ key_type_of_name t in
    rw (utf8, found) refl

no_entry : (b : Bool) (d e : SshCertificateError) (t : SshCertKeyType) → (if b then Err d else Err e) ≡ Ok t → ⊥
no_entry true d e t is = cc is
no_entry false d e t is = cc is

entry_says : (word : List ℕ) (o : Option SshCertKeyType) (t : SshCertKeyType)
    → entry_or errors.InvalidCertificateKeyType errors.TooLong word o ≡ Ok t → o ≡ Some t
entry_says word (Some s) t is = cc is
entry_says word None t is =
    absurd (no_entry (nat_lt (length word) (2 ^ 32)) (errors.InvalidCertificateKeyType word) errors.TooLong t is)

word_type_says : (word : List ℕ) (t : SshCertKeyType) → word_type word ≡ Ok t → word ≡ cert_key_type_name t
unfolding word_type
word_type_says word t means =
    let named = chosen (is_utf8 word) _ errors.InvalidUtf8 t means in
    sym (name_of_key_type word t (entry_says word (find_entry cert_key_types word) t named.1))

-- ---- a body and its certificate

-- bytes have the certificate that they fit
blob_certificate_of : (bytes rest : List ℕ) (c : SshCertificate) → Fits certificate.piece c bytes rest → blob_certificate bytes ≡ Ok c
unfolding blob_certificate
blob_certificate_of bytes rest c fits =
    let read = ap certificate.read fits.2 ∙ certificate.complete c fits.0 rest fits.1 in
    rw read refl

-- and fit the one that they have
blob_certificate_fits : (bytes : List ℕ) (c : SshCertificate) → blob_certificate bytes ≡ Ok c
    → (rest : List ℕ) × Fits certificate.piece c bytes rest
unfolding blob_certificate
blob_certificate_fits bytes c has =
    let front = map_err_ok cert_error (read_front certificate bytes) c has in
    let found = and_then_ok (certificate.read bytes) (λ first. Ok first.0) c front in
    let same : found.0.0 ≡ c = cc found.2 in
    (found.0.1, subst (λ v. Fits certificate.piece v bytes found.0.1) same (certificate.sound bytes found.0.0 found.0.1 found.1))

-- a body is the base64 of the bytes whose certificate it has
body_certificate_of : (body bytes rest : List ℕ) (c : SshCertificate) → IsBytes bytes → body ≡ base64_of bytes
    → Fits certificate.piece c bytes rest → body_certificate body ≡ Ok c
unfolding body_certificate
body_certificate_of body bytes rest c small is fits =
    let some = ap decoded is ∙ base64_is_read_back bytes small in
    rw some (blob_certificate_of bytes rest c fits)

-- the bytes whose base64 the body is, and which the certificate fits
record IsBodyOf (body : List ℕ) (c : SshCertificate) : Type 0 where
  blob_bytes : List ℕ
  are_bytes : IsBytes blob_bytes
  is : body ≡ base64_of blob_bytes
  rest : List ℕ
  fits : Fits certificate.piece c blob_bytes rest

body_certificate_says : (body : List ℕ) (c : SshCertificate) → IsBytes body → body_certificate body ≡ Ok c → IsBodyOf body c
unfolding body_certificate
body_certificate_says body c small has =
    let step = and_then_ok (ok_or (decoded body) errors.Base64DecodeError) blob_certificate c has in
    let some = some_of (decoded body) errors.Base64DecodeError step.0 step.1 in
    let fits = blob_certificate_fits step.0 c step.2 in
    record {
      blob_bytes = step.0;
      are_bytes = decoded_is_bytes body step.0 small some;
      is = base64_is_of_what_it_gives body step.0 small some;
      rest = fits.0;
      fits = fits.1;
    }

-- ---- a line's meaning

-- A line means what it says.
pub line_meaning_of : (text : List ℕ) (c : SshCertificate) → IsCertificateLine text c → cert_line_meaning text ≡ Ok c
unfolding cert_line_meaning cert_words_meaning
line_meaning_of text c line =
    let named = word_type_of (first_word text) line.key_type line.name in
    let body = body_certificate_of (body_word text) line.blob_bytes line.rest (certified (said c) c.signature) line.are_bytes
    line.body line.fits in
    let body_fits = lt-ltb (length (body_word text)) (2 ^ 32) line.body_short in
    let comment = rest_text_is (after_body text) line.comment_utf8 in
    let comment_fits = lt-ltb (length (comment_of text)) (2 ^ 32) line.comment_short in
    rw (named, comment, body_fits, comment_fits, body) (ap (λ v. Ok v) (sym line.bare))

-- It says what it means.
pub line_meaning_says : (text : List ℕ) (c : SshCertificate) → IsBytes text → cert_line_meaning text ≡ Ok c → IsCertificateLine text c
unfolding cert_line_meaning cert_words_meaning
line_meaning_says text c small means =
    let named = and_then_ok (word_type (first_word text)) _ c means in
    let body_fits = is_short (body_word text) in
    let fits = is_short_text (comment_text text) in
    let short = chosen (body_fits && fits) _ errors.TooLong c named.2 in
    let both = and_parts body_fits fits short.0 in
    let step = and_then_ok (body_certificate (body_word text)) _ c short.1 in
    let last = and_then_ok (ok_or (comment_text text) errors.InvalidUtf8) _ c step.2 in
    let some = some_of (comment_text text) errors.InvalidUtf8 last.0 last.1 in
    let comment = rest_text_says (after_body text) last.0 some in
    let comment_fits = ap is_short_text (ap Some comment.1 ∙ sym some) ∙ both.1 in
    let body = body_certificate_says (body_word text) step.0 (word_is_bytes (behind_word text) (after_bytes text small)) step.1 in
    let is : record step.0 { comment = last.0 } ≡ c = cc last.2 in
    let piece = cert_piece step.0 body.fits.0 body.fits.1 in
    subst (IsCertificateLine text) {x = record step.0 { comment = last.0 }} is (record {
      key_type = named.0;
      name = word_type_says (first_word text) named.0 named.1;
      blob_bytes = body.blob_bytes;
      are_bytes = body.are_bytes;
      body = body.is;
      body_short = ltb-true (length (body_word text)) (2 ^ 32) both.0;
      rest = body.rest;
      fits = subst (λ v. Fits certificate.piece v body.blob_bytes body.rest) (sym piece.bare) body.fits;
      bare = ap (λ (v : SshCertificate). record v { comment = last.0 }) (sym piece.bare)
          ∙ ap (λ l. record (certified (said step.0) step.0.signature) { comment = l }) (sym comment.1);
      comment_utf8 = comment.0;
      comment_short = ltb-true (length (comment_of text)) (2 ^ 32) comment_fits;
    })

-- A line has one meaning.
pub one_line_meaning : (text : List ℕ) (c d : SshCertificate) → IsCertificateLine text c → IsCertificateLine text d → c ≡ d
one_line_meaning text c d first second =
    let both = sym (line_meaning_of text c first) ∙ line_meaning_of text d second in cc both

-- No line is refused for a fault, or for want of memory.
pub line_no_fault : (text : List ℕ) (e : SshCertificateError) → cert_line_meaning text ≡ Err e → IsReadFault e → ⊥
line_no_fault text e refused = (line_own text e refused).no_fault

pub line_no_want : (text : List ℕ) (e : SshCertificateError) → cert_line_meaning text ≡ Err e → WantsMemory e → ⊥
line_no_want text e refused = (line_own text e refused).no_want

-- What a line says keeps its ranges, and is of a type for its subject's key.
bare_keeps : (text : List ℕ) (c : SshCertificate) → IsCertificateLine text c
    → IsCertificate (certified (said c) c.signature) × FitsSubject (said c).head
bare_keeps text c line =
    let front = bytes_in_front line.fits.0 line.rest (subst IsBytes line.fits.2 line.are_bytes) in
    spelled_keeps (certified (said c) c.signature) line.fits.0 front line.fits.1

pub line_keeps : (text : List ℕ) (c : SshCertificate) → IsCertificateLine text c → IsCertificate c
line_keeps text c line =
    let kept = (bare_keeps text c line).0 in
    let utf8 = rest_of_line_is_text (after_body text) line.comment_utf8 in
    let comment : IsText (comment_of text) =
    record { string = record { bytes = utf8_is_bytes (comment_of text) utf8; short = line.comment_short }; utf8 = utf8 } in
    record {
      said = kept.said;
      signature = kept.signature;
      comment = subst IsText (sym (ap (λ v. v.comment) line.bare)) comment;
    }

pub line_fits_subject : (text : List ℕ) (c : SshCertificate) → IsCertificateLine text c → FitsSubject (said c).head
line_fits_subject text c line = (bare_keeps text c line).1
