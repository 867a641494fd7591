-- Certificates issued from one source: the issuer's text, a line that is exactly two percent signs, and the key text.
use Rattle.std.specs.Prelude.{◌≡◌, ◌⊎◌, ◌&&◌, ◌||◌, List, [], ℕ, Bool, false, Option, None, Some, Result, Ok, is_ok}
use Rattle.picky_wire_base.specs.Outcome.{and_then, map_err, map_ok}
use Rattle.picky_suite.specs.Failures.{IsAskedFault}
use Rattle.picky_cert_builder.specs.Draft.{Unsigned}
use Rattle.picky_issuing.specs.declared.options.CertOptions.{CertOptions}
use Rattle.picky_issuing.specs.Parts.{issuer_text_part, key_part}
use Rattle.picky_key_text.specs.declared.meaning.Key.{Key}
use Rattle.picky_key_text.specs.declared.meaning.Meaning.{Meaning}
use Rattle.picky_key_text.specs.Order.{asks, fault_of as input_fault, reading}
use Rattle.picky_key_text.specs.Reads.{Reads}
use Rattle.picky_target.specs.declared.error.ConvertError.{ConvertError}
use Rattle.picky_target.specs.declared.error.ConvertError.TheVariants as errors
use Rattle.picky_conversion.specs.Request.{request_by}
use Rattle.picky_conversion.specs.Certified.{SignRelation}
use Rattle.picky_conversion.specs.Drafted.{IsDrafted}
use Rattle.picky_conversion.specs.Certify.{IsToBeSigned, certification, drafting, hex_line}
use Rattle.picky_conversion.specs.Outside.{Outside, reader}
use Rattle.picky_conversion.specs.To.{CanConvert, Certified, IsConverted}

-- ---- the issuer: the key that its text means, where there is one

abbrev pub issuer_read : Outside → Option (List ℕ) → Result (Option Key) ConvertError
issuer_read o None = Ok None
issuer_read o (Some text) = and_then (map_err errors.Issuer (reading (reader o) text)) (λ meaning. Ok (Some meaning.key))

abbrev pub IsIssuer : Outside → Option (List ℕ) → Option Key → Type 0
IsIssuer o None issuer = issuer ≡ None
IsIssuer o (Some text) issuer = (meaning : Meaning) × Reads (reader o) text meaning × (issuer ≡ Some meaning.key)

-- ---- what is issued, or the first reason why nothing is

unfoldable pub issued : Outside → CertOptions → List ℕ → Result Unsigned ConvertError
issued o options input =
    and_then (issuer_read o (issuer_text_part input)) (λ issuer. certification o (request_by options issuer) (key_part input))

-- the same without a line
unfoldable pub unsigned : Outside → CertOptions → List ℕ → Result Unsigned ConvertError
unsigned o options input =
    and_then (issuer_read o (issuer_text_part input)) (λ issuer. drafting o (request_by options issuer) (key_part input))

-- what is to be signed, in hex
abbrev pub issued_bytes : Outside → CertOptions → List ℕ → Result (List ℕ) ConvertError
issued_bytes o options input = map_ok hex_line (unsigned o options input)

-- ---- the suite: it is asked to open the issuer's text, and the key text where the issuer is read

abbrev pub asks_issuer : Outside → Option (List ℕ) → Bool
asks_issuer o None = false
asks_issuer o (Some text) = asks o.pass_in text

abbrev pub asks_key : Outside → List ℕ → Bool
asks_key o input = is_ok (issuer_read o (issuer_text_part input)) && asks o.pass_in (key_part input)

unfoldable pub issuing_asks : Outside → List ℕ → Bool
issuing_asks o input = asks_issuer o (issuer_text_part input) || asks_key o input

-- its fault, where it was asked and counted one
abbrev pub issuer_fault : Option (List ℕ) → ConvertError
issuer_fault None = errors.Issuer (input_fault [])
issuer_fault (Some text) = errors.Issuer (input_fault text)

abbrev pub IsIssuingFault : Outside → List ℕ → ConvertError → Type 0 → Type 0
IsIssuingFault o input e rose =
    ((e ≡ issuer_fault (issuer_text_part input)) × IsAskedFault (asks_issuer o (issuer_text_part input)) rose)
    ⊎ ((e ≡ errors.Input (input_fault (key_part input))) × IsAskedFault (asks_key o input) rose)

-- ---- the text

abbrev pub IsIssued : SignRelation → Outside → CertOptions → (input text : List ℕ) → Type 0
IsIssued signs o options input text =
    (issuer : Option Key) × IsIssuer o (issuer_text_part input) issuer
    × IsConverted signs o (Certified (request_by options issuer)) (key_part input) text

abbrev pub IsIssuedBytes : Outside → CertOptions → (input text : List ℕ) → Type 0
IsIssuedBytes o options input text =
    (issuer : Option Key) × IsIssuer o (issuer_text_part input) issuer
    × IsToBeSigned o (request_by options issuer) (key_part input) text

-- ---- where there is one

abbrev pub CanIssue : Outside → CertOptions → List ℕ → Type 0
CanIssue o options input =
    (issuer : Option Key) × IsIssuer o (issuer_text_part input) issuer
    × (meaning : Meaning) × Reads (reader o) (key_part input) meaning
    × CanConvert o (Certified (request_by options issuer)) meaning

abbrev pub CanIssueBytes : Outside → CertOptions → List ℕ → Type 0
CanIssueBytes o options input =
    (issuer : Option Key) × IsIssuer o (issuer_text_part input) issuer
    × (meaning : Meaning) × Reads (reader o) (key_part input) meaning
    × (u : Unsigned) × IsDrafted (request_by options issuer) meaning o.output.fresh u
