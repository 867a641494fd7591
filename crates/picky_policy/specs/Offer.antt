-- An offer: the key that one logs in with, or a certificate for it.
use Rattle.std.specs.Prelude.{◌≡◌, ℕ, List, [], Option, Some, None, Result, Err}
use Rattle.picky_wire_base.specs.Numbers.{IsBytes}
use Rattle.picky_wire_base.specs.Outcome.{map_err, map_ok}
use Rattle.picky_text.specs.Base64.{base64_of, decoded}
use Rattle.picky_text.specs.Words.{body_word}
use Rattle.picky_keys.specs.Line.{IsPublicLine}
use Rattle.picky_keys.specs.LineRefusal.{line_meaning}
use Rattle.picky_keys.specs.declared.error.SshPublicKeyError.TheVariants as public
use Rattle.picky_cert.specs.Certificate.{signed_in}
use Rattle.picky_cert.specs.Line.{IsCertificateLine}
use Rattle.picky_cert.specs.LineRefusal.{cert_line_meaning}
use Rattle.picky_key_text.specs.Form.{form_of}
use Rattle.picky_key_text.specs.declared.error.ReadError.{ReadError}
use Rattle.picky_key_text.specs.declared.error.ReadError.TheVariants as errors
use Rattle.picky_key_text.specs.declared.form.Form.{Form}
use Rattle.picky_key_text.specs.declared.form.Form.TheVariants as forms
use Rattle.picky_policy.specs.declared.offer.Offer.{Offer}
use Rattle.picky_policy.specs.declared.offer.Offer.TheVariants as offers

-- what is signed: of a certificate its bytes before the signature, as they were read; of a key nothing
abbrev pub message_of : Offer → List ℕ
message_of (offers.Key key) = []
message_of (offers.Certificate c message) = message

-- a public key line; or a certificate's line, with what is signed of the bytes that it says in base64
abbrev pub IsOffer : (text : List ℕ) → Offer → Type 0
IsOffer text (offers.Key key) = (form_of text ≡ forms.PublicLine) × IsPublicLine text key
IsOffer text (offers.Certificate c message) =
    (blob : List ℕ) × IsBytes blob × (form_of text ≡ forms.Certificate) × IsCertificateLine text c
    × (body_word text ≡ base64_of blob) × (message ≡ signed_in blob)

-- what is signed of the bytes, where there are such
abbrev pub signed_or_none : Option (List ℕ) → List ℕ
signed_or_none None = []
signed_or_none (Some blob) = signed_in blob

-- the message of a certificate's line, which says bytes
unfoldable pub message_in : (text : List ℕ) → List ℕ
message_in text = signed_or_none (decoded (body_word text))

-- the offer of a text, by its form, or why it is none: private keys and PuTTY's texts are no public key line
abbrev pub offer_as : Form → (text : List ℕ) → Result Offer ReadError
offer_as forms.Envelope text = Err (errors.Public public.UnknownKeyType)
offer_as forms.Ppk text = Err (errors.Public public.UnknownKeyType)
offer_as forms.PuttyPublic text = Err (errors.Public public.UnknownKeyType)
offer_as forms.Certificate text =
    map_ok (λ c. offers.Certificate c (message_in text)) (map_err errors.Certificate (cert_line_meaning text))
offer_as forms.PublicLine text = map_ok offers.Key (map_err errors.Public (line_meaning text))

unfoldable pub offer_in : (text : List ℕ) → Result Offer ReadError
offer_in text = offer_as (form_of text) text
