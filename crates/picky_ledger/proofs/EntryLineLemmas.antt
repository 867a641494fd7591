-- The line of an entry: it has no LF, and its id stands before its first space.
use Rattle.std.proofs.Common.{◌≡◌, ◌≢◌, ◌<◌, ◌^◌, ◌∙◌, ◌++◌, ◌∷◌, ◌==◌, ℕ, Bool, List}
use Rattle.std.proofs.Common.{Some, ap, arith, false, length, nat_lt, not, refl, subst, sym, true}
use Rattle.std.proofs.lemmas.Bool.{and_parts}
use Rattle.std.proofs.lemmas.List.{length-append}
use Rattle.std.specs.Char.{is_whitespace}
use Rattle.std.specs.List.{after_first, before_first, list_any, position_or_len}
use Rattle.std.specs.Str.{IsUtf8, chars}
use Rattle.picky_text.specs.Base64.{base64_of}
use Rattle.picky_text.specs.Lines.{HasNo}
use Rattle.picky_text.proofs.Base64Laws.{base64_has_no}
use Rattle.picky_text.proofs.ListLaws.{all_append}
use Rattle.picky_cert_parts.specs.CertNames.{cert_key_type_name}
use Rattle.picky_cert.specs.declared.certificate.SshCertificate.{SshCertificate}
use Rattle.picky_cert.specs.Line.{IsReadBackCertificate}
use Rattle.picky_cert.specs.Spelled.{cert_blob_of, cert_line_of}
use Rattle.picky_cert.proofs.ByteLaws.{blob_bytes}
use Rattle.picky_keys.proofs.ByteLaws.{utf8_is_bytes}
use Rattle.picky_cert.proofs.ReadBackLaws.{type_name_is_word}
use Rattle.picky_request.specs.Request.{cut_at_space, is_space}
use Rattle.picky_request.proofs.LineLaws.{chosen, goes_on, line_is_one, some_same}
use Rattle.picky_ledger.specs.declared.entry.Entry.{Entry}
use Rattle.picky_ledger.specs.Entry.{IsEntry, certificate_in, entry_front, entry_in, entry_of, front_of, request_under}
use Rattle.picky_ledger.proofs.CertificateLineLemmas.{line_length}
use Rattle.picky_ledger.proofs.SidesLemmas.{no_white_no_lf, sides_are_text}

-- ---- no LF

id_has_no_lf : (e : Entry) → IsEntry e → HasNo 10 e.id
id_has_no_lf e is =
    let asks = (line_is_one e.request is.asks (utf8_is_bytes e.request is.text)).0 is.request in
    let utf8 = (sides_are_text 32 is.asks.id _ (omega arith) (subst IsUtf8 asks.whole is.text)).0 in
    let id = and_parts (not (length is.asks.id == 0)) (not (list_any is_whitespace (chars is.asks.id))) asks.is_id in
    subst (HasNo 10) is.id (no_white_no_lf is.asks.id utf8 (false_of (list_any is_whitespace (chars is.asks.id)) id.1))
  where
    false_of : (b : Bool) → not b ≡ true → b ≡ false
    false_of false is_true = refl
    false_of true is_true = absurd (cc is_true)

front_has_no_lf : (c : SshCertificate) → IsReadBackCertificate c → HasNo 10 (front_of c)
unfolding front_of
front_has_no_lf c kept =
    let P : ℕ → Type 0 = λ b. b ≢ 10 in
    let name : List ℕ = cert_key_type_name c.cert_key_type in
    let body : List ℕ = base64_of (cert_blob_of c) in
    let space : 32 ≢ 10 = λ same. omega (arith, same) in
    all_append P (name ++ 32 ∷ body) (32 ∷ c.comment)
    (all_append P name (32 ∷ body) (type_name_is_word c.cert_key_type).2
    (space, base64_has_no 10 (cert_blob_of c) (blob_bytes c kept.is) refl))
    (space, kept.no_lf)

pub entry_has_no_lf : (e : Entry) → IsEntry e → length (entry_front e) < 2 ^ 32 → HasNo 10 (entry_front e)
unfolding entry_front
entry_has_no_lf e is short =
    let P : ℕ → Type 0 = λ b. b ≢ 10 in
    let front : List ℕ = front_of e.certificate in
    let word : List ℕ = base64_of e.request in
    let behind : List ℕ = word ++ 32 ∷ front in
    let fits : length (cert_line_of e.certificate) < 2 ^ 32 =
    omega (arith, short, line_length e.certificate, length-append e.id (32 ∷ behind), length-append word (32 ∷ front)) in
    let space : 32 ≢ 10 = λ same. omega (arith, same) in
    all_append P e.id (32 ∷ behind) (id_has_no_lf e is) (
      space,
      all_append P word (32 ∷ front) (base64_has_no 10 e.request (utf8_is_bytes e.request is.text) refl)
          (space, front_has_no_lf e.certificate (is.kept fits)),
    )

-- ---- the id

cut_before : (text : List ℕ) (cut : List ℕ × List ℕ) → cut_at_space text ≡ Some cut → before_first is_space text ≡ cut.0
cut_before text cut says =
    let parts : List ℕ × List ℕ = (before_first is_space text, after_first is_space text) in
    let here = chosen (nat_lt (position_or_len is_space text) (length text)) (Some parts) cut says in
    ap (λ (p : List ℕ × List ℕ). p.0) (some_same parts cut here.1)

pub said_id : (line : List ℕ) (e : Entry) → entry_in line ≡ Some e → e.id ≡ before_first is_space line
unfolding entry_in
said_id line e says =
    let id = goes_on (cut_at_space line) _ e says in
    let word = goes_on (cut_at_space id.0.1) _ e id.2 in
    let request = goes_on (request_under id.0.0 word.0.0) _ e word.2 in
    let c = goes_on (certificate_in word.0.1) _ e request.2 in
    let made : entry_of id.0.0 request.0 c.0 ≡ e = some_same (entry_of id.0.0 request.0 c.0) e c.2 in
    sym (cut_before line id.0 id.1 ∙ ap (λ (x : Entry). x.id) made)
