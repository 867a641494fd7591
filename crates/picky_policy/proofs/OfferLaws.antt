-- A text is read as an offer exactly where it is one.
use Rattle.std.proofs.Common.{◌≡◌, ◌++◌, ℕ, List, Result, Ok, Err, refl, sym, ◌∙◌, ap, subst}
use Rattle.picky_wire_base.specs.Numbers.{IsBytes}
use Rattle.picky_wire_base.specs.Outcome.{map_err, map_ok}
use Rattle.picky_text.specs.Base64.{base64_of, decoded}
use Rattle.picky_text.specs.Words.{body_word}
use Rattle.picky_text.proofs.Base64Laws.{base64_is_read_back}
use Rattle.picky_keys.specs.LineRefusal.{line_meaning}
use Rattle.picky_keys.proofs.LineLaws.{line_meaning_of, line_meaning_says}
use Rattle.picky_cert.specs.Certificate.{certificate, certified, said, signed_in}
use Rattle.picky_cert.specs.Line.{IsCertificateLine}
use Rattle.picky_cert.specs.LineRefusal.{cert_line_meaning}
use Rattle.picky_cert.specs.declared.certificate.SshCertificate.{SshCertificate}
use Rattle.picky_cert.proofs.LineLaws.{line_meaning_of as certificate_meaning_of, line_meaning_says as certificate_meaning_says}
use Rattle.picky_cert.proofs.SignedLaws.{signed_binds}
use Rattle.picky_key_text.specs.Form.{form_of}
use Rattle.picky_key_text.specs.declared.error.ReadError.TheVariants as errors
use Rattle.picky_key_text.specs.declared.form.Form.{Form}
use Rattle.picky_key_text.specs.declared.form.Form.TheVariants as forms
use Rattle.picky_policy.specs.Offer.{IsOffer, message_in, offer_as, offer_in, signed_or_none}
use Rattle.picky_policy.specs.declared.offer.Offer.{Offer}
use Rattle.picky_policy.specs.declared.offer.Offer.TheVariants as offers

-- what was read and then made another value
both_ok : {A B E F : Type 0} (make : A → B) (wrap : E → F) (read : Result A E) (y : B)
    → map_ok make (map_err wrap read) ≡ Ok y → (x : A) × (read ≡ Ok x) × (make x ≡ y)
both_ok make wrap (Ok x) y is = (x, refl, cc is)
both_ok make wrap (Err e) y is = absurd (cc is)

-- the message of a certificate's line is what is signed of the bytes that it says
message_is : (text blob : List ℕ) → IsBytes blob → body_word text ≡ base64_of blob → message_in text ≡ signed_in blob
unfolding message_in
message_is text blob each body = ap signed_or_none (ap decoded body ∙ base64_is_read_back blob each)

says_as : (text : List ℕ) (offer : Offer) (form : Form) → IsBytes text → form_of text ≡ form → offer_as form text ≡ Ok offer
    → IsOffer text offer
says_as text offer forms.Envelope each at is = absurd (cc is)
says_as text offer forms.Ppk each at is = absurd (cc is)
says_as text offer forms.PuttyPublic each at is = absurd (cc is)
says_as text offer forms.Certificate each at is =
    let read = both_ok (λ c. offers.Certificate c (message_in text)) errors.Certificate (cert_line_meaning text) offer is in
    let line = certificate_meaning_says text read.0 each read.1 in
    subst (IsOffer text) read.2 (
      line.blob_bytes,
      line.are_bytes,
      at,
      line,
      line.body,
      message_is text line.blob_bytes line.are_bytes line.body,
    )
says_as text offer forms.PublicLine each at is =
    let read = both_ok offers.Key errors.Public (line_meaning text) offer is in
    subst (IsOffer text) read.2 (at, line_meaning_says text read.0 each read.1)

pub offer_says : (text : List ℕ) (offer : Offer) → IsBytes text → offer_in text ≡ Ok offer → IsOffer text offer
unfolding offer_in
offer_says text offer each is = says_as text offer (form_of text) each refl is

pub offer_is : (text : List ℕ) (offer : Offer) → IsOffer text offer → offer_in text ≡ Ok offer
unfolding offer_in
offer_is text (offers.Key key) (at, line) =
    ap (λ f. offer_as f text) at
    ∙ ap (λ r. map_ok offers.Key (map_err errors.Public r)) (line_meaning_of text key line)
offer_is text (offers.Certificate c message) (blob, each, at, line, body, same) =
    ap (λ f. offer_as f text) at
    ∙ ap (λ r. map_ok (λ d. offers.Certificate d (message_in text)) (map_err errors.Certificate r))
    (certificate_meaning_of text c line)
    ∙ ap (λ m. Ok (offers.Certificate c m)) (message_is text blob each body ∙ sym same)

-- the message binds all that is said
pub offers_bind : (x y : List ℕ) (c d : SshCertificate) (m more : List ℕ) → IsBytes x → IsBytes y
    → offer_in x ≡ Ok (offers.Certificate c m) → offer_in y ≡ Ok (offers.Certificate d (m ++ more)) → said c ≡ said d
offers_bind x y c d m more small_x small_y read_x read_y =
    let of_x = offer_says x (offers.Certificate c m) small_x read_x in
    let of_y = offer_says y (offers.Certificate d (m ++ more)) small_y read_y in
    let line_x = of_x.3 in
    let line_y = of_y.3 in
    let blob_x = seen x c line_x in
    let blob_y = seen y d line_y in
    let message_x : m ≡ signed_in line_x.blob_bytes =
    of_x.5 ∙ sym (message_is x of_x.0 of_x.1 of_x.4) ∙ message_is x line_x.blob_bytes line_x.are_bytes line_x.body in
    let message_y : m ++ more ≡ signed_in line_y.blob_bytes =
    of_y.5 ∙ sym (message_is y of_y.0 of_y.1 of_y.4) ∙ message_is y line_y.blob_bytes line_y.are_bytes line_y.body in
    signed_binds line_x.blob_bytes line_y.blob_bytes (certified (said c) c.signature) (certified (said d) d.signature)
    line_x.rest line_y.rest more blob_x blob_y (sym message_y ∙ ap (λ l. l ++ more) message_x)
  where
    seen : (text : List ℕ) (e : SshCertificate) (line : IsCertificateLine text e)
        → certificate.read line.blob_bytes ≡ Ok (certified (said e) e.signature, line.rest)
    seen text e line =
        ap certificate.read line.fits.2
        ∙ certificate.complete (certified (said e) e.signature) line.fits.0 line.rest line.fits.1
