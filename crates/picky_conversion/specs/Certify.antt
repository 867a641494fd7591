-- The conversion to a certificate's line: what is to be signed for what a key text means, and the line once it is signed.
use Rattle.std.specs.Prelude.{◌≡◌, List, [], ◌∷◌, ◌++◌, ℕ, Result}
use Rattle.hex.specs.Hex.{encode_lower}
use Rattle.picky_wire_base.specs.Outcome.{and_then, map_err}
use Rattle.picky_suite.specs.Failures.{IsAskedFault}
use Rattle.picky_cert.specs.Spelled.{signed_of}
use Rattle.picky_cert_builder.specs.Draft.{Unsigned}
use Rattle.picky_key_text.specs.declared.meaning.Meaning.{Meaning}
use Rattle.picky_key_text.specs.Key.{public_key, public_meaning}
use Rattle.picky_key_text.specs.Order.{asks, fault_of as input_fault, reading}
use Rattle.picky_key_text.specs.Reads.{Reads}
use Rattle.picky_target.specs.declared.error.ConvertError.{ConvertError}
use Rattle.picky_target.specs.declared.error.ConvertError.TheVariants as errors
use Rattle.picky_conversion.specs.declared.request.CertRequest.{CertRequest}
use Rattle.picky_conversion.specs.Certified.{IsLineOf, SignRelation}
use Rattle.picky_conversion.specs.Drafted.{IsDrafted, IsLineDrafted, drafted, line_drafted}
use Rattle.picky_conversion.specs.Outside.{Outside, reader, reader_back}

-- the certificate whose line is to be signed, or the first reason why there is none
unfoldable pub certification : Outside → CertRequest → List ℕ → Result Unsigned ConvertError
certification o request input =
    and_then (map_err errors.Input (reading (reader o) input)) (λ meaning. line_drafted request meaning o.output.fresh)

-- the signed bytes in lower-case hex, and LF
abbrev pub hex_line : Unsigned → List ℕ
hex_line u = encode_lower (signed_of u.certificate) ++ 10 ∷ []

-- the certificate that is to be signed, without a line
unfoldable pub drafting : Outside → CertRequest → List ℕ → Result Unsigned ConvertError
drafting o request input =
    and_then (map_err errors.Input (reading (reader o) input)) (λ meaning. drafted request meaning o.output.fresh)

-- the suite's fault in reading the key text, where it was asked and counted one
abbrev pub IsInputFault : Outside → List ℕ → ConvertError → Type 0 → Type 0
IsInputFault o input e rose = (e ≡ errors.Input (input_fault input)) × IsAskedFault (asks o.pass_in input) rose

-- the text is the line of the certificate that the request asks of the one thing that the key text means, with a good
-- signature of exactly its signed bytes; and it is read back
pub record IsCertified (signs : SignRelation) (o : Outside) (request : CertRequest) (input text : List ℕ) : Type 0 where
  pub meaning : Meaning
  pub reads : Reads (reader o) input meaning
  pub one : (other : Meaning) → Reads (reader o) input other → other ≡ meaning
  pub unsigned : Unsigned
  pub drafted : IsLineDrafted request meaning o.output.fresh unsigned
  pub is : IsLineOf signs unsigned text
  pub read_back : Reads (reader_back o) text (public_meaning (public_key meaning))

-- the text is what is to be signed of it, in hex
pub record IsToBeSigned (o : Outside) (request : CertRequest) (input text : List ℕ) : Type 0 where
  pub meaning : Meaning
  pub reads : Reads (reader o) input meaning
  pub one : (other : Meaning) → Reads (reader o) input other → other ≡ meaning
  pub unsigned : Unsigned
  pub drafted : IsDrafted request meaning o.output.fresh unsigned
  pub is : text ≡ hex_line unsigned
