-- An entry's line says the entry, and a line that says an entry is its line.
use Rattle.std.proofs.Common.{◌≡◌, ℕ, ◌<◌, ◌^◌, ◌++◌, Bool, true, List, [], ◌∷◌, length}
use Rattle.std.proofs.Common.{Option, Some, None, Result, Ok, Err, refl, sym, ◌∙◌, ap, subst, arith, if◌then◌else◌}
use Rattle.std.specs.Result.{result_ok}
use Rattle.std.specs.Str.{bytes_eq, is_utf8, IsUtf8}
use Rattle.std.proofs.lemmas.List.{length-append}
use Rattle.std.proofs.lemmas.Slice.Eq.{bytes_eq-Decides}
use Rattle.std.proofs.lemmas.Str.{is_utf8-from_IsUtf8, IsUtf8-from_is_utf8}
use Rattle.picky_wire_base.specs.Numbers.{IsBytes}
use Rattle.picky_wire_base.proofs.Numbers.{bytes_behind, bytes_in_front}
use Rattle.picky_text.specs.Base64.{base64_of, decoded}
use Rattle.picky_text.specs.Lines.{HasNo}
use Rattle.picky_text.proofs.Base64Laws.{base64_has_no, base64_is_of_what_it_gives, base64_is_read_back}
use Rattle.picky_cert_parts.specs.declared.error.SshCertificateError.{SshCertificateError}
use Rattle.picky_cert.specs.declared.certificate.SshCertificate.{SshCertificate}
use Rattle.picky_cert.specs.Line.{IsReadBackCertificate}
use Rattle.picky_cert.specs.LineRefusal.{cert_line_meaning}
use Rattle.picky_cert.specs.Spelled.{cert_line_of}
use Rattle.picky_keys.proofs.ByteLaws.{utf8_is_bytes}
use Rattle.picky_cert.proofs.CanonicalLaws.{text_is_kept}
use Rattle.picky_request.specs.Request.{cut_at_space, request_in}
use Rattle.picky_request.specs.declared.request.CertRequestLine.{CertRequestLine}
use Rattle.picky_request.proofs.LineLaws.{chosen, cut_is, cut_says, goes_on, line_is_one, some_same, then_is}
use Rattle.picky_ledger.specs.declared.entry.Entry.{Entry}
use Rattle.picky_ledger.specs.Entry.{certificate_in, entry_front, entry_in, entry_of, front_of, if_canonical, if_named, if_text}
use Rattle.picky_ledger.specs.Entry.{is_named, request_under, base64_text_in, IsEntry}
use Rattle.picky_ledger.proofs.CertificateLineLemmas.{front_reads_back, line_length}

same_bytes : (xs ys : List ℕ) → xs ≡ ys → bytes_eq xs ys ≡ true
same_bytes xs ys same = (bytes_eq-Decides xs ys).1 same

bytes_same : (xs ys : List ℕ) → bytes_eq xs ys ≡ true → xs ≡ ys
bytes_same xs ys is = (bytes_eq-Decides xs ys).0 is

-- ---- the text of a word

encoded_is_read : (text : List ℕ) → IsUtf8 text → base64_text_in (base64_of text) ≡ Some text
unfolding base64_text_in
encoded_is_read text utf8 =
    then_is (decoded (base64_of text)) text if_text (base64_is_read_back text (utf8_is_bytes text utf8))
    ∙ ap (λ (b : Bool). if b then Some text else None) (is_utf8-from_IsUtf8 text utf8)

read_is_encoded : (word text : List ℕ) → IsBytes word → base64_text_in word ≡ Some text → (word ≡ base64_of text) × IsUtf8 text
unfolding base64_text_in
read_is_encoded word text each reads =
    let bytes = goes_on (decoded word) if_text text reads in
    let utf8 = chosen (is_utf8 bytes.0) (Some bytes.0) text bytes.2 in
    let same : bytes.0 ≡ text = some_same bytes.0 text utf8.1 in (
      base64_is_of_what_it_gives word text each (bytes.1 ∙ utf8.1),
      IsUtf8-from_is_utf8 text (subst (λ t. is_utf8 t ≡ true) same utf8.0),
    )

-- ---- the request line of a word

request_is_read : (e : Entry) → IsEntry e → request_under e.id (base64_of e.request) ≡ Some e.request
unfolding request_under
request_is_read e is =
    then_is (base64_text_in (base64_of e.request)) e.request (if_named e.id) (encoded_is_read e.request is.text)
    ∙ ap (λ o. if is_named e.id o then Some e.request else None) is.request
    ∙ ap (λ (b : Bool). if b then Some e.request else None) (same_bytes is.asks.id e.id is.id)

-- a line is a request with an id
record AsksUnder (id line : List ℕ) : Type 0 where
  asks : CertRequestLine
  request : request_in line ≡ Some asks
  is : asks.id ≡ id
  text : IsUtf8 line

named_asks : (id line : List ℕ) (o : Option CertRequestLine) → request_in line ≡ o → is_named id o ≡ true → IsUtf8 line
    → AsksUnder id line
named_asks id line None request named utf8 = absurd (cc named)
named_asks id line (Some r) request named utf8 =
    record { asks = r; request = request; is = bytes_same r.id id named; text = utf8 }

read_asks : (id word line : List ℕ) → IsBytes word → request_under id word ≡ Some line
    → (word ≡ base64_of line) × AsksUnder id line
unfolding request_under
read_asks id word line each reads =
    let text = goes_on (base64_text_in word) (if_named id) line reads in
    let named = chosen (is_named id (request_in text.0)) (Some text.0) line text.2 in
    let same : text.0 ≡ line = some_same text.0 line named.1 in
    let encoded = read_is_encoded word line each (text.1 ∙ named.1) in (
      encoded.0,
      named_asks id line (request_in line) refl (subst (λ t. is_named id (request_in t) ≡ true) same named.0) encoded.1,
    )

-- ---- the certificate of a text

certificate_is_read : (c : SshCertificate) → IsReadBackCertificate c → certificate_in (front_of c) ≡ Some c
unfolding certificate_in
certificate_is_read c kept =
    then_is (result_ok (cert_line_meaning (front_of c))) c (if_canonical (front_of c)) (ap result_ok (front_reads_back c kept))
    ∙ ap (λ (b : Bool). if b then Some c else None) (same_bytes (front_of c) (front_of c) refl)

ok_read : (read : Result SshCertificate SshCertificateError) (c : SshCertificate) → result_ok read ≡ Some c → read ≡ Ok c
ok_read (Ok d) c is = ap Ok (some_same d c is)
ok_read (Err e) c is = absurd (cc is)

read_is_canonical : (text : List ℕ) (c : SshCertificate) → certificate_in text ≡ Some c
    → (cert_line_meaning text ≡ Ok c) × (front_of c ≡ text)
unfolding certificate_in
read_is_canonical text c reads =
    let read = goes_on (result_ok (cert_line_meaning text)) (if_canonical text) c reads in
    let canonical = chosen (bytes_eq (front_of read.0) text) (Some read.0) c read.2 in
    let same : read.0 ≡ c = some_same read.0 c canonical.1 in
    let is : bytes_eq (front_of c) text ≡ true = subst (λ d. bytes_eq (front_of d) text ≡ true) same canonical.0 in
    (ok_read (cert_line_meaning text) c (read.1 ∙ canonical.1), bytes_same (front_of c) text is)

-- ---- the entry of a line

-- the words of a line say what the line says
pub words_are : (line id rest word text request : List ℕ) (c : SshCertificate) → cut_at_space line ≡ Some (id, rest)
    → cut_at_space rest ≡ Some (word, text) → request_under id word ≡ Some request → certificate_in text ≡ Some c
    → entry_in line ≡ Some (entry_of id request c)
unfolding entry_in
words_are line id rest word text request c of_line of_rest asked says =
    then_is (cut_at_space line) (id, rest) _ of_line
    ∙ then_is (cut_at_space rest) (word, text) _ of_rest
    ∙ then_is (request_under id word) request _ asked
    ∙ then_is (certificate_in text) c _ says

-- the line of an entry says the entry
pub entry_is_read : (e : Entry) → IsEntry e → length (entry_front e) < 2 ^ 32 → entry_in (entry_front e) ≡ Some e
unfolding entry_front
entry_is_read e is short =
    let c : SshCertificate = e.certificate in
    let word : List ℕ = base64_of e.request in
    let rest : List ℕ = word ++ 32 ∷ front_of c in
    let line : List ℕ = e.id ++ 32 ∷ rest in
    let bytes : IsBytes e.request = utf8_is_bytes e.request is.text in
    let asks = (line_is_one e.request is.asks bytes).0 is.request in
    let id_parted : HasNo 32 e.id = subst (HasNo 32) is.id asks.id_parted in
    let word_parted : HasNo 32 word = base64_has_no 32 e.request bytes refl in
    let fits : length (cert_line_of c) < 2 ^ 32 =
    omega (arith, short, line_length c, length-append e.id (32 ∷ rest), length-append word (32 ∷ front_of c)) in
    words_are line e.id rest word (front_of c) e.request c (cut_is line e.id rest refl id_parted)
    (cut_is rest word (front_of c) refl word_parted) (request_is_read e is) (certificate_is_read c (is.kept fits))
    ∙ ap (λ n. Some (record { id = e.id; serial = n; request = e.request; certificate = c })) is.serial

-- bytes that a space parts
parted_bytes : (front rest : List ℕ) → IsBytes (front ++ 32 ∷ rest) → IsBytes front × IsBytes rest
parted_bytes front rest each =
    let behind = bytes_behind front (32 ∷ rest) each in
    (bytes_in_front front (32 ∷ rest) each, bytes_behind (32 ∷ []) rest behind)

-- what the words of a line say is an entry, whose line it is
words_say : (line id rest word text request : List ℕ) (c : SshCertificate) → IsBytes line → length line < 2 ^ 32
    → line ≡ id ++ 32 ∷ rest → rest ≡ word ++ 32 ∷ text → request_under id word ≡ Some request → certificate_in text ≡ Some c
    → IsEntry (entry_of id request c) × (line ≡ entry_front (entry_of id request c))
unfolding entry_front
words_say line id rest word text request c each short of_id of_word asked says =
    let behind : IsBytes rest = (parted_bytes id rest (subst IsBytes of_id each)).1 in
    let parted = parted_bytes word text (subst IsBytes of_word behind) in
    let asks = read_asks id word request parted.0 asked in
    let canonical = read_is_canonical text c says in
    let kept : length (cert_line_of c) < 2 ^ 32 → IsReadBackCertificate c = text_is_kept text c parted.1 canonical.0 in
    let fits : length (cert_line_of c) < 2 ^ 32 =
    omega (
      arith,
      short,
      ap length of_id,
      ap length of_word,
      length-append id (32 ∷ rest),
      length-append word (32 ∷ text),
      line_length c,
      ap length canonical.1,
    ) in (
      record {
        asks = asks.1.asks;
        request = asks.1.request;
        id = asks.1.is;
        text = asks.1.text;
        serial = refl;
        fits = (kept fits).is.said.terms.serial;
        kept = kept;
      },
      of_id
          ∙ ap (λ l. id ++ 32 ∷ l)
          (of_word ∙ ap (λ w. w ++ 32 ∷ text) asks.0 ∙ ap (λ t. base64_of request ++ 32 ∷ t) (sym canonical.1)),
    )

same_entry : (line : List ℕ) (x e : Entry) → IsEntry x × (line ≡ entry_front x) → Some x ≡ Some e
    → IsEntry e × (line ≡ entry_front e)
same_entry line x e is same = subst (λ y. IsEntry y × (line ≡ entry_front y)) (some_same x e same) is

-- a line that says an entry is the line of that
pub entry_read_is : (line : List ℕ) (e : Entry) → IsUtf8 line → length line < 2 ^ 32 → entry_in line ≡ Some e
    → IsEntry e × (line ≡ entry_front e)
unfolding entry_in
entry_read_is line e utf8 short says =
    let id = goes_on (cut_at_space line) _ e says in
    let word = goes_on (cut_at_space id.0.1) _ e id.2 in
    let request = goes_on (request_under id.0.0 word.0.0) _ e word.2 in
    let c = goes_on (certificate_in word.0.1) _ e request.2 in
    let of_id = cut_says line id.0 id.1 in
    let of_word = cut_says id.0.1 word.0 word.1 in
    let said = words_say line id.0.0 id.0.1 word.0.0 word.0.1 request.0 c.0 (utf8_is_bytes line utf8) short of_id.0 of_word.0
    request.1 c.1 in
    same_entry line (entry_of id.0.0 request.0 c.0) e said c.2
