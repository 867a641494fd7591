-- What a call answers, by what the steps before it do; and what a line is.
use Rattle.std.proofs.Common.{◌≡◌, ◌∷◌, ◌∙◌, ℕ, List, [], Option, Some, Result, Ok, Err, ap, sym, subst, refl, ◌⊎◌, inl, inr}
use Rattle.std.specs.Option.{ok_or}
use Rattle.std.specs.Str.{IsUtf8, is_utf8}
use Rattle.std.specs.Prelude.{Bool, true, false, if◌then◌else◌}
use Rattle.std.proofs.lemmas.Str.{IsUtf8-from_is_utf8}
use Rattle.picky_wire_base.specs.Outcome.{and_then, map_err, map_ok}
use Rattle.picky_wire_base.specs.carried.Outcome.{and_then_ok, map_err_ok}
use Rattle.picky_ask.specs.Table.{table_of}
use Rattle.picky_ask.specs.declared.question.Entry.{Entry}
use Rattle.picky_cert_builder.specs.Draft.{Unsigned}
use Rattle.picky_issuing.specs.Options.{options_named}
use Rattle.picky_issuing.specs.declared.options.CertOptions.{CertOptions}
use Rattle.picky_key_text.specs.Order.{reading}
use Rattle.picky_key_text.specs.declared.error.ReadError.{ReadError}
use Rattle.picky_key_text.specs.declared.meaning.Key.{Key}
use Rattle.picky_key_text.specs.declared.meaning.Meaning.{Meaning}
use Rattle.picky_target.specs.declared.error.ConvertError.{ConvertError}
use Rattle.picky_target.specs.declared.error.ConvertError.TheVariants as conversions
use Rattle.picky_conversion.specs.Certified.{IsLineOf, SignRelation}
use Rattle.picky_conversion.specs.Certify.{certification}
use Rattle.picky_conversion.specs.Chain.{IsGiven}
use Rattle.picky_conversion.specs.Drafted.{line_drafted}
use Rattle.picky_conversion.specs.Issue.{IsIssuer, issuer_read}
use Rattle.picky_conversion.specs.Outside.{Outside, reader}
use Rattle.picky_conversion.specs.Request.{request_by}
use Rattle.picky_conversion.specs.declared.request.CertRequest.{CertRequest}
use Rattle.picky_conversion.proofs.CertifyLemmas.{certification_of}
use Rattle.picky_conversion.proofs.ConvertLemmas.{says_in}
use Rattle.picky_conversion.proofs.IssuedLemmas.{certified_is}
use Rattle.picky_keys.specs.LineRefusal.{is_short}
use Rattle.picky_keys.proofs.LineLaws.{some_of}
use Rattle.picky_certify.specs.Certify.{Given, IsCertifiedLine, certified_in, plain_outside, request_as, unsigned_of_request}
use Rattle.picky_certify.specs.Certified.{GivesCertified, IfLine, SignedBy}
use Rattle.picky_certify.specs.Refusal.{conversion_refusal, table_refusal}
use Rattle.picky_certify.specs.Texts.{utf8, word_judged, words_judged}
use Rattle.picky_certify.specs.declared.error.CertifyError.{CertifyError}
use Rattle.picky_certify.specs.declared.error.CertifyError.TheVariants as errors
use Rattle.picky_certify.specs.declared.signing.Certified.{Certified}
use Rattle.picky_certify.specs.declared.signing.Certified.TheVariants as rounds

-- ---- what passed is as it was given

passed : (b : Bool) (bytes text : List ℕ) (e : CertifyError) → (if b then Ok bytes else Err e) ≡ Ok text → (b ≡ true) × (bytes ≡ text)
passed true bytes text e is = (refl, cc is)
passed false bytes text e is = cc is

passed_text : (e : CertifyError) (bytes text : List ℕ) → utf8 e bytes ≡ Ok text → IsUtf8 bytes × (bytes ≡ text)
passed_text e bytes text is =
    let done = passed (is_utf8 bytes) bytes text e is in
    (IsUtf8-from_is_utf8 bytes done.0, done.1)

short_or : (b : Bool) (word text : List ℕ) → (if b then Ok word else Err errors.TooLong) ≡ Ok text → word ≡ text
short_or true word text is = cc is
short_or false word text is = cc is

word_kept : (word text : List ℕ) → word_judged word ≡ Ok text → word ≡ text
word_kept word text is = go (is_utf8 word) is
  where
    go : (b : Bool) → (if b then (if is_short word then Ok word else Err errors.TooLong) else Err errors.WordNotUtf8) ≡ Ok text
        → word ≡ text
    go true same = short_or (is_short word) word text same
    go false same = cc same

mapped_ok : {A B E : Type 0} (f : A → B) (r : Result A E) (y : B) → map_ok f r ≡ Ok y → (x : A) × (r ≡ Ok x) × (f x ≡ y)
mapped_ok f (Ok x) y is = (x, refl, cc is)
mapped_ok f (Err e) y is = cc is

words_kept : (words texts : List (List ℕ)) → words_judged words ≡ Ok texts → words ≡ texts
unfolding words_judged
words_kept [] texts is = cc is
words_kept (word ∷ more) texts is =
    let first = and_then_ok (word_judged word) (λ word. map_ok (λ more. word ∷ more) (words_judged more)) texts is in
    let rest = mapped_ok (λ more. first.0 ∷ more) (words_judged more) texts first.2 in
    let one = word_kept word first.0 first.1 in
    let all = words_kept more rest.0 rest.1 in
    ap (λ w. w ∷ more) one ∙ ap (λ m. first.0 ∷ m) all ∙ rest.2

-- ---- the line

-- the issuer's text means the key that was read
issuer_means : (fresh text : List ℕ) (issuer : Option Key) → IsGiven (plain_outside fresh) → IsUtf8 text
    → issuer_read (plain_outside fresh) (Some text) ≡ Ok issuer → IsIssuer (plain_outside fresh) (Some text) issuer
issuer_means fresh text issuer given utf8 is =
    let o : Outside = plain_outside fresh in
    let read = and_then_ok (map_err conversions.Issuer (reading (reader o) text)) (λ meaning. Ok (Some meaning.key)) issuer is in
    let means = map_err_ok conversions.Issuer (reading (reader o) text) read.0 read.1 in
    (read.0, says_in o text read.0 given utf8 means, sym (cc read.2))

-- what the words ask, and of whom
record IsAsked (words : List (List ℕ)) (text : List ℕ) (request : CertRequest) : Type 0 where
  options : CertOptions
  asked : options_named words ≡ Some options
  issuer : Option Key
  read : issuer_read (plain_outside []) (Some text) ≡ Ok issuer
  is : request_by options issuer ≡ request

is_asked : (words : List (List ℕ)) (text : List ℕ) (request : CertRequest) → request_as words text ≡ Ok request
    → IsAsked words text request
is_asked words text request is =
    let read = map_err conversion_refusal (issuer_read (plain_outside []) (Some text)) in
    let named = and_then_ok (ok_or (options_named words) errors.Words) (λ options. map_ok (request_by options) read) request is in
    let by = mapped_ok (request_by named.0) read request named.2 in
    record {
      options = named.0;
      asked = some_of (options_named words) errors.Words named.0 named.1;
      issuer = by.0;
      read = map_err_ok conversion_refusal (issuer_read (plain_outside []) (Some text)) by.0 by.1;
      is = by.2;
    }

pub line_is_certified : (signs : SignRelation) (g : Given) (answers : List ℕ) (u : Unsigned) (line : List ℕ)
    → IsGiven (plain_outside g.fresh) → certified_in g answers ≡ Ok u → IsLineOf signs u line → IsCertifiedLine signs g line
line_is_certified signs g answers u line given is signed =
    let o : Outside = plain_outside g.fresh in
    let words = and_then_ok (words_judged g.words) _ u is in
    let issuer = and_then_ok (utf8 errors.IssuerNotUtf8 g.issuer) _ u words.2 in
    let key = and_then_ok (utf8 errors.KeyNotUtf8 g.key) _ u issuer.2 in
    let table = and_then_ok (map_err table_refusal (table_of answers)) _ u key.2 in
    let request = and_then_ok (request_as words.0 g.issuer) _ u table.2 in
    let made = map_err_ok conversion_refusal (certification o request.0 g.key) u request.2 in
    let asked = is_asked words.0 g.issuer request.0 request.1 in
    let issuer_text = passed_text errors.IssuerNotUtf8 g.issuer issuer.0 issuer.1 in
    let key_text = passed_text errors.KeyNotUtf8 g.key key.0 key.1 in
    record {
      options = asked.options;
      asked = ap options_named (words_kept g.words words.0 words.1) ∙ asked.asked;
      issuer = asked.issuer;
      issues = issuer_means g.fresh g.issuer asked.issuer given issuer_text.0 asked.read;
      is = certified_is signs o (request_by asked.options asked.issuer) g.key line u given key_text.0
          (subst (λ r. certification o r g.key ≡ Ok u) (sym asked.is) made) signed;
    }

pub round_is_certified : (g : Given) (answers : List ℕ) (says : Result Unsigned CertifyError) (entries : List Entry)
    (round : Result Certified CertifyError) → IsGiven (plain_outside g.fresh) → certified_in g answers ≡ says
    → GivesCertified says entries round → IfLine round (IsCertifiedLine (SignedBy entries) g)
round_is_certified g answers (Ok u) entries (Ok (rounds.Line bytes)) given is signs =
    line_is_certified (SignedBy entries) g answers u bytes.items given is signs
round_is_certified g answers (Err f) entries (Ok (rounds.Line bytes)) given is signs = absurd signs
round_is_certified g answers says entries (Ok (rounds.Question bytes)) given is signs = tt
round_is_certified g answers says entries (Err e) given is signs = tt

-- ---- what is made of a meaning

read_or : (fresh key : List ℕ) (r : Result Meaning ReadError) (meaning : Meaning)
    → map_err conversion_refusal (map_err conversions.Input r) ≡ Ok meaning → r ≡ Ok meaning
read_or fresh key (Ok m) meaning is = cc is
read_or fresh key (Err e) meaning is = cc is

-- what a meaning's draft is
pub drafts : (request : CertRequest) (key fresh : List ℕ) (meaning : Meaning)
    → map_err conversion_refusal (map_err conversions.Input (reading (reader (plain_outside [])) key)) ≡ Ok meaning
    → unsigned_of_request request key fresh ≡ map_err conversion_refusal (line_drafted request meaning fresh)
drafts request key fresh meaning is =
    let means : reading (reader (plain_outside fresh)) key ≡ Ok meaning = read_or fresh key (reading (reader (plain_outside [])) key) meaning is in
    ap (map_err conversion_refusal) (certification_of (plain_outside fresh) request key meaning means)

pub refuses_input : (request : CertRequest) (key fresh : List ℕ) (e : CertifyError)
    → map_err conversion_refusal (map_err conversions.Input (reading (reader (plain_outside [])) key)) ≡ Err e
    → unsigned_of_request request key fresh ≡ Err e
unfolding certification
refuses_input request key fresh e is = go (reading (reader (plain_outside [])) key) is
  where
    go : (r : Result Meaning ReadError) → map_err conversion_refusal (map_err conversions.Input r) ≡ Err e
        → map_err conversion_refusal (and_then (map_err conversions.Input r) (λ m. line_drafted request m fresh)) ≡ Err e
    go (Ok m) same = cc same
    go (Err f) same = let one : conversion_refusal (conversions.Input f) ≡ e = cc same in ap Err one

pub input_refused : (request : CertRequest) (key fresh : List ℕ) (e : CertifyError)
    → (e ≡ errors.NoMemory) ⊎ (map_err conversion_refusal (map_err conversions.Input (reading (reader (plain_outside [])) key)) ≡ Err e)
    → (e ≡ errors.NoMemory) ⊎ (unsigned_of_request request key fresh ≡ Err e)
input_refused request key fresh e (inl want) = inl want
input_refused request key fresh e (inr refused) = inr (refuses_input request key fresh e refused)

pub draft_refused : (request : CertRequest) (key fresh : List ℕ) (meaning : Meaning) (e : ConvertError) (g : CertifyError)
    → map_err conversion_refusal (map_err conversions.Input (reading (reader (plain_outside [])) key)) ≡ Ok meaning
    → g ≡ conversion_refusal e → (e ≡ conversions.NoMemory) ⊎ (line_drafted request meaning fresh ≡ Err e)
    → (g ≡ errors.NoMemory) ⊎ (unsigned_of_request request key fresh ≡ Err g)
draft_refused request key fresh meaning e g means is (inl want) = inl (is ∙ ap conversion_refusal want)
draft_refused request key fresh meaning e g means is (inr refused) =
    inr (drafts request key fresh meaning means ∙ ap (map_err conversion_refusal) refused ∙ ap Err (sym is))
