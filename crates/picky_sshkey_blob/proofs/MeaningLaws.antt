-- The laws of what a text says: it says what it means, which is one content.
use Rattle.std.proofs.Common.{◌≡◌, ◌<◌, ◌^◌, ℕ, List, ◌++◌, length, Option, Some, None, Ok, refl, sym, ap, ◌∙◌, subst}
use Rattle.std.specs.Option.{ok_or}
use Rattle.std.proofs.lemmas.Bool.{ltb-true, lt-ltb}
use Rattle.std.proofs.lemmas.List.{append_assoc}
use Rattle.picky_wire_base.specs.Numbers.{IsBytes}
use Rattle.picky_wire_base.specs.carried.Outcome.{and_then_ok, passed_ok}
use Rattle.picky_wire_base.proofs.Numbers.{bytes_in_front, bytes_behind}
use Rattle.picky_text.specs.Base64.{base64_of, decoded}
use Rattle.picky_text.proofs.Base64Laws.{base64_is_read_back, base64_is_of_what_it_gives, decoded_is_bytes}
use Rattle.picky_sshkey_blob.specs.Pem.{header, footer, packed, IsPem}
use Rattle.picky_sshkey_blob.specs.PemRefusal.{after_header, before_footer, of_body, short_content, pem_content}
use Rattle.picky_sshkey_blob.specs.declared.pem_error.PemError.TheVariants as errors
use Rattle.picky_text.proofs.FrontLaws.{behind_says}
use Rattle.picky_sshkey_blob.proofs.FooterLaws.{before_first_footer, before_footer_says}
use Rattle.picky_sshkey_blob.proofs.PackedLaws.{packed_is_bytes}
use Rattle.picky_sshkey_blob.proofs.ParseLemmas.{header_read, body_read}

-- ---- a text means what it says

-- the content of a body
pub body_means : (body content : List ℕ) → packed body ≡ base64_of content → IsBytes content → length content < 2 ^ 32
    → of_body body ≡ Ok content
unfolding of_body short_content
body_means body content is small short =
    let some = ap decoded is ∙ base64_is_read_back content small in
    rw (some, lt-ltb (length content) (2 ^ 32) short) refl

-- the two ways in which the parts of a text are joined
pub parts : (body rest : List ℕ) → body ++ footer ++ rest ≡ body ++ (footer ++ rest)
parts body rest = append_assoc body footer rest

whole_parts : (body rest : List ℕ) → header ++ body ++ footer ++ rest ≡ header ++ (body ++ (footer ++ rest))
whole_parts body rest = append_assoc (header ++ body) footer rest ∙ append_assoc header body (footer ++ rest)

-- A text has the content that it says.
pub pem_means : (text content : List ℕ) → IsPem text content → pem_content text ≡ Ok content
pem_means text content says =
    let after : List ℕ = says.body ++ (footer ++ says.rest) in
    let first = λ (a b : List ℕ) (less : length a < length says.body) (same : after ≡ a ++ (footer ++ b)).
    says.first a b less (parts says.body says.rest ∙ same ∙ sym (parts a b)) in
    body_read text after says.body (header_read text after (says.whole ∙ whole_parts says.body says.rest))
    (before_first_footer says.body says.rest first)
    ∙ body_means says.body content says.body_is says.bytes says.short

-- It says one content.
pub one_pem : (text x y : List ℕ) → IsPem text x → IsPem text y → x ≡ y
one_pem text x y first second =
    let both = sym (pem_means text x first) ∙ pem_means text y second in
    cc both

-- ---- it says what it means

some_of : {A E : Type 0} (o : Option A) (e : E) (x : A) → ok_or o e ≡ Ok x → o ≡ Some x
some_of (Some y) e x same = cc same
some_of None e x same = cc same

-- the parts of a content that is read
record IsRead (text content : List ℕ) : Type 0 where
  after : List ℕ
  body : List ℕ
  header_is : after_header text ≡ Some after
  footer_is : before_footer after ≡ Some body
  decoded_is : decoded (packed body) ≡ Some content
  short : length content < 2 ^ 32

read_parts : (text content : List ℕ) → pem_content text ≡ Ok content → IsRead text content
unfolding pem_content of_body short_content
read_parts text content means =
    let one = and_then_ok (ok_or (after_header text) errors.HeaderNotFound) _ content means in
    let two = and_then_ok (ok_or (before_footer one.0) errors.FooterNotFound) of_body content one.2 in
    let three = and_then_ok (ok_or (decoded (packed two.0)) errors.BadBase64) short_content content two.2 in
    let passed = passed_ok _ errors.TooLong three.0 content three.2 in
    record {
      after = one.0;
      body = two.0;
      header_is = some_of (after_header text) errors.HeaderNotFound one.0 one.1;
      footer_is = some_of (before_footer one.0) errors.FooterNotFound two.0 two.1;
      decoded_is = some_of (decoded (packed two.0)) errors.BadBase64 three.0 three.1 ∙ ap Some passed.1;
      short = subst (λ c. length c < 2 ^ 32) passed.1 (ltb-true (length three.0) (2 ^ 32) passed.0);
    }

after_header_says : (text after : List ℕ) → after_header text ≡ Some after → text ≡ header ++ after
unfolding after_header
after_header_says text after is = behind_says header text after is

-- A text of bytes says the content that it has.
pub pem_says : (text content : List ℕ) → IsBytes text → pem_content text ≡ Ok content → IsPem text content
pem_says text content small means =
    let read = read_parts text content means in
    let head = after_header_says text read.after read.header_is in
    let cut = before_footer_says read.after read.body read.footer_is in
    let whole = head ∙ ap (λ l. header ++ l) cut.is in
    let behind = bytes_behind header (read.body ++ (footer ++ cut.rest)) (subst IsBytes whole small) in
    let body = packed_is_bytes read.body (bytes_in_front read.body (footer ++ cut.rest) behind) in
    record {
      body = read.body;
      rest = cut.rest;
      whole = whole ∙ sym (whole_parts read.body cut.rest);
      first = λ a b less same. cut.first a b less (sym (parts read.body cut.rest) ∙ same ∙ parts a b);
      body_is = base64_is_of_what_it_gives (packed read.body) content body read.decoded_is;
      bytes = decoded_is_bytes (packed read.body) content body read.decoded_is;
      short = read.short;
    }
