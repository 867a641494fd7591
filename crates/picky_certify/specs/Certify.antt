-- What is certified by words, an issuer's text and a key text: what is to be signed, or the first reason why nothing is.
use Rattle.std.specs.Prelude.{◌≡◌, List, [], ℕ, Option, None, Some, Result, Ok, Err}
use Rattle.std.specs.Option.{ok_or}
use Rattle.picky_wire_base.specs.Outcome.{and_then, map_err, map_ok}
use Rattle.picky_suite.specs.Meanings.{plain}
use Rattle.picky_ask.specs.Table.{table_of}
use Rattle.picky_ask.specs.declared.question.Entry.{Entry}
use Rattle.picky_ask.specs.declared.table.TableError.{TableError}
use Rattle.picky_cert.specs.Spelled.{signed_of}
use Rattle.picky_cert_builder.specs.Draft.{Unsigned}
use Rattle.picky_issuing.specs.Options.{options_named}
use Rattle.picky_issuing.specs.declared.options.CertOptions.{CertOptions}
use Rattle.picky_key_text.specs.declared.meaning.Key.{Key}
use Rattle.picky_conversion.specs.Certified.{SignRelation}
use Rattle.picky_conversion.specs.Certify.{certification, drafting}
use Rattle.picky_conversion.specs.Issue.{IsIssuer, issuer_read}
use Rattle.picky_conversion.specs.Outside.{Outside}
use Rattle.picky_conversion.specs.Request.{request_by}
use Rattle.picky_conversion.specs.To.{Certified, IsConverted}
use Rattle.picky_conversion.specs.declared.request.CertRequest.{CertRequest}
use Rattle.picky_certify.specs.Refusal.{conversion_refusal, table_refusal}
use Rattle.picky_certify.specs.Texts.{utf8, words_judged}
use Rattle.picky_certify.specs.declared.error.CertifyError.{CertifyError}
use Rattle.picky_certify.specs.declared.error.CertifyError.TheVariants as errors

-- what is given beside the answers
pub record Given : Type 0 where
  pub words : List (List ℕ)
  pub issuer : List ℕ
  pub key : List ℕ
  pub fresh : List ℕ

abbrev pub given : (words : List (List ℕ)) (issuer key fresh : List ℕ) → Given
given words issuer key fresh = record { words = words; issuer = issuer; key = key; fresh = fresh }

-- no passphrase, and a suite without ciphers
abbrev pub plain_outside : (fresh : List ℕ) → Outside
plain_outside fresh = record { meanings = plain; pass_in = None; output = record { pass = None; fresh = fresh } }

-- what the words ask, of the issuer whose text this is
abbrev pub request_as : (words : List (List ℕ)) (issuer : List ℕ) → Result CertRequest CertifyError
request_as words issuer =
    and_then (ok_or (options_named words) errors.Words) (λ options.
    map_ok (request_by options) (map_err conversion_refusal (issuer_read (plain_outside []) (Some issuer))))

-- the certificate whose line is to be signed of a request and a key text, and the bytes that are signed of it, without a line
abbrev pub unsigned_of_request : CertRequest → (key fresh : List ℕ) → Result Unsigned CertifyError
unsigned_of_request request key fresh = map_err conversion_refusal (certification (plain_outside fresh) request key)

abbrev pub bytes_of_request : CertRequest → (key fresh : List ℕ) → Result (List ℕ) CertifyError
bytes_of_request request key fresh =
    map_err conversion_refusal (map_ok (λ u. signed_of u.certificate) (drafting (plain_outside fresh) request key))

-- the same of what is text
abbrev pub certified_texts : Given → Result Unsigned CertifyError
certified_texts g = and_then (request_as g.words g.issuer) (λ request. unsigned_of_request request g.key g.fresh)

abbrev pub drafted_texts : Given → Result (List ℕ) CertifyError
drafted_texts g = and_then (request_as g.words g.issuer) (λ request. bytes_of_request request g.key g.fresh)

-- by answers, which have to be a table
abbrev pub certified_under : (answers : List ℕ) → Given → Result Unsigned CertifyError
certified_under answers g = and_then (map_err table_refusal (table_of answers)) (λ entries. certified_texts g)

-- what is said where both texts are text, and then where the words are, too
abbrev pub if_texts : {A : Type 0} → (Given → Result A CertifyError) → Given → Result A CertifyError
if_texts says g =
    and_then (utf8 errors.IssuerNotUtf8 g.issuer) (λ issuer. and_then (utf8 errors.KeyNotUtf8 g.key) (λ key. says g))

abbrev pub if_all_texts : {A : Type 0} → (Given → Result A CertifyError) → Given → Result A CertifyError
if_all_texts says g = and_then (words_judged g.words) (λ words. if_texts says (record g { words = words }))

-- the bytes that a device signs, or the first reason why there are none
abbrev pub draft_in : Given → Result (List ℕ) CertifyError
draft_in g = if_all_texts drafted_texts g

-- the certificate whose line a table of answers signs, or the first reason why there is none
abbrev pub certified_in : Given → (answers : List ℕ) → Result Unsigned CertifyError
certified_in g answers = if_all_texts (certified_under answers) g

-- the entries of the answers; none where they are no table
abbrev pub entries_in : Result (List Entry) TableError → List Entry
entries_in (Ok entries) = entries
entries_in (Err e) = []

-- The line is that of a certificate of what the key text means: what the words ask, of the issuer that the other text means,
-- with a good signature of exactly its signed bytes. And it is read back.
pub record IsCertifiedLine (signs : SignRelation) (g : Given) (line : List ℕ) : Type 0 where
  pub options : CertOptions
  pub asked : options_named g.words ≡ Some options
  pub issuer : Option Key
  pub issues : IsIssuer (plain_outside g.fresh) (Some g.issuer) issuer
  pub is : IsConverted signs (plain_outside g.fresh) (Certified (request_by options issuer)) g.key line
