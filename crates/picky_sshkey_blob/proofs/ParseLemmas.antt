-- What `strip_prefix` and `split_once` say of a text, in the words of the definition.
use Rattle.std.proofs.Common.{◌≡◌, ◌≢◌, ◌<◌, ◌≤◌, ℕ, List, ◌++◌, length, take, drop, Some, None, Err, refl, sym, ap, ◌∙◌, arith}
use Rattle.std.proofs.lemmas.List.{take-append-drop, drop_at, length-append}
use Rattle.std.specs.Str.Pattern.{FindsText, SplitsAroundMatch, FindsTextPrefix, StripsPrefix}
use Rattle.picky_sshkey_blob.specs.Pem.{header, footer}
use Rattle.picky_sshkey_blob.specs.PemRefusal.{after_header, before_footer, of_body, pem_content}
use Rattle.picky_sshkey_blob.specs.declared.pem_error.PemError.TheVariants as errors
use Rattle.picky_text.proofs.FrontLaws.{behind_front, behind_none}
use Rattle.picky_sshkey_blob.proofs.FooterLaws.{before_first_footer, before_no_footer}

-- ---- the steps

-- a text without the header
pub no_header_read : (text : List ℕ) → ((rest : List ℕ) → text ≢ header ++ rest)
    → pem_content text ≡ Err errors.HeaderNotFound
unfolding pem_content after_header
no_header_read text none = rw (behind_none header text none) refl

-- a text with it
pub header_read : (text after : List ℕ) → text ≡ header ++ after → after_header text ≡ Some after
unfolding after_header
header_read text after is = ap after_header is ∙ behind_front header after

-- without a footer behind it
pub no_footer_read : (text after : List ℕ) → after_header text ≡ Some after → before_footer after ≡ None
    → pem_content text ≡ Err errors.FooterNotFound
unfolding pem_content
no_footer_read text after header none = rw (header, none) refl

-- and with one
pub body_read : (text after body : List ℕ) → after_header text ≡ Some after → before_footer after ≡ Some body
    → pem_content text ≡ of_body body
unfolding pem_content
body_read text after body header footer = rw (header, footer) refl

-- ---- std's words

-- what is stripped of the header
pub header_front : (text after : List ℕ) → StripsPrefix (FindsTextPrefix header) text after
    → after_header text ≡ Some after
header_front text after (n, (len, is, cut), rest, all) =
    header_read text after (is ∙ ap (λ r. header ++ r) (sym rest))

-- no footer was found
pub no_footer_found : (after : List ℕ) → FindsText footer after None → before_footer after ≡ None
no_footer_found after none = before_no_footer after (λ a b is.
    let short : length a ≤ length after = omega (arith, ap length is, length-append a (footer ++ b)) in
    none (length a) short b (ap (drop (length a)) is ∙ drop_at a (footer ++ b) (length a) refl))

-- what stands before the first that was
pub footer_found : (after body rest : List ℕ) → SplitsAroundMatch (FindsText footer) after body rest
    → before_footer after ≡ Some body
footer_found after body rest (i, j, (none, at), body_is, rest_is, order, len, all) =
    let whole : after ≡ body ++ (footer ++ rest) = sym (take-append-drop i after)
    ∙ ap (λ r. take i after ++ r) (at.split ∙ ap (λ r. footer ++ r) (sym rest_is))
    ∙ ap (λ l. l ++ (footer ++ rest)) (sym body_is) in
    let first = λ (a b : List ℕ) (less : length a < length body) (same : body ++ (footer ++ rest) ≡ a ++ (footer ++ b)).
    none (length a) (omega arith) b (ap (drop (length a)) (whole ∙ same) ∙ drop_at a (footer ++ b) (length a) refl) in
    ap before_footer whole ∙ before_first_footer body rest first
