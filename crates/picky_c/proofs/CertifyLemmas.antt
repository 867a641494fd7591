-- What is refused of a certificate that is asked for is answered as a refusal.
use Rattle.std.proofs.Common.{◌≡◌, ℕ, List, [], ◌∷◌, Some, Result, Ok, Err, ap}
use Rattle.std.specs.{Option.{ok_or}, Prelude.{if◌then◌else◌}, Str.{is_utf8}}
use Rattle.picky_wire_base.specs.Outcome.{and_then, map_err, map_ok}
use Rattle.picky_ask.specs.Table.{table_of}
use Rattle.picky_ask.specs.declared.table.TableError.{TableError}
use Rattle.picky_ask.specs.declared.table.TableError.TheVariants as tables
use Rattle.picky_cert.specs.Spelled.{signed_of}
use Rattle.picky_issuing.specs.Options.{options_named}
use Rattle.picky_keys.specs.LineRefusal.{is_short}
use Rattle.picky_sshkey.proofs.RefusalLaws.{Refuses, err_as, if_as, map_as, ok_as, some_as, then_as}
use Rattle.picky_key_text.specs.Order.{reading}
use Rattle.picky_key_text.proofs.FileRefusalLemmas.{mapped_as}
use Rattle.picky_target.specs.declared.error.ConvertError.{ConvertError}
use Rattle.picky_target.specs.declared.error.ConvertError.TheVariants as refusals
use Rattle.picky_conversion.specs.{Certify.{certification, drafting}, Issue.{issuer_read}, Outside.{Outside, reader}, Request.{request_by}}
use Rattle.picky_conversion.specs.declared.request.CertRequest.{CertRequest}
use Rattle.picky_conversion.proofs.CertifyLemmas.{certification_is_own, drafting_is_own}
use Rattle.picky_conversion.proofs.JudgedLemmas.{issuer_is_own}
use Rattle.picky_certify.specs.Certify.{Given, bytes_of_request, certified_in, certified_texts, certified_under, draft_in, drafted_texts}
use Rattle.picky_certify.specs.Certify.{if_all_texts, if_texts, plain_outside, request_as, unsigned_of_request}
use Rattle.picky_certify.specs.Refusal.{conversion_refusal, table_refusal}
use Rattle.picky_certify.specs.Texts.{utf8, word_judged, words_judged}
use Rattle.picky_certify.specs.declared.error.CertifyError.{CertifyError}
use Rattle.picky_certify.specs.declared.error.CertifyError.TheVariants as certify
use Rattle.picky_c.specs.Number.{IsAnswered}
use Rattle.picky_c.proofs.LawLemmas.{own_is_answered}

-- a refusal that is a conversion's is answered as one
abbrev IsAnsweredOf : CertifyError → Type 0
IsAnsweredOf (certify.Refused e) = IsAnswered e
IsAnsweredOf e = Unit {0}

seen_as : {E A B : Type 0} (P : E → Type 0) (view : A → B) (r : Result A E) → Refuses P r → Refuses P (map_ok view r)
seen_as P view (Ok x) such e is = cc is
seen_as P view (Err why) such e is = let same : why ≡ e = cc is in such e (ap Err same)

-- ---- what is given

text_as : (why : CertifyError) (bytes : List ℕ) → IsAnsweredOf why → Refuses IsAnsweredOf (utf8 why bytes)
text_as why bytes such = if_as IsAnsweredOf (is_utf8 bytes) (Ok bytes) (Err why) (ok_as IsAnsweredOf bytes) (err_as IsAnsweredOf why such)

word_as : (word : List ℕ) → Refuses IsAnsweredOf (word_judged word)
word_as word =
    if_as IsAnsweredOf (is_utf8 word) (if is_short word then Ok word else Err certify.TooLong) (Err certify.WordNotUtf8)
    (if_as IsAnsweredOf (is_short word) (Ok word) (Err certify.TooLong) (ok_as IsAnsweredOf word) (err_as IsAnsweredOf certify.TooLong tt))
    (err_as IsAnsweredOf certify.WordNotUtf8 tt)

words_as : (words : List (List ℕ)) → Refuses IsAnsweredOf (words_judged words)
unfolding words_judged
words_as [] = ok_as IsAnsweredOf []
words_as (word ∷ more) =
    then_as IsAnsweredOf (word_judged word) (λ word. map_ok (λ more. word ∷ more) (words_judged more)) (word_as word)
    (λ word. seen_as IsAnsweredOf (λ more. word ∷ more) (words_judged more) (words_as more))

texts_as : {A : Type 0} (says : Given → Result A CertifyError) (g : Given) → ((g : Given) → Refuses IsAnsweredOf (says g))
    → Refuses IsAnsweredOf (if_texts says g)
texts_as says g each =
    then_as IsAnsweredOf (utf8 certify.IssuerNotUtf8 g.issuer) (λ issuer. and_then (utf8 certify.KeyNotUtf8 g.key) (λ key. says g))
    (text_as certify.IssuerNotUtf8 g.issuer tt)
    (λ issuer. then_as IsAnsweredOf (utf8 certify.KeyNotUtf8 g.key) (λ key. says g) (text_as certify.KeyNotUtf8 g.key tt) (λ key. each g))

all_as : {A : Type 0} (says : Given → Result A CertifyError) (g : Given) → ((g : Given) → Refuses IsAnsweredOf (says g))
    → Refuses IsAnsweredOf (if_all_texts says g)
all_as says g each =
    then_as IsAnsweredOf (words_judged g.words) (λ words. if_texts says (record g { words = words })) (words_as g.words)
    (λ words. texts_as says (record g { words = words }) each)

table_own : (e : TableError) → IsAnsweredOf (table_refusal e)
table_own tables.EndsInEntry = tt
table_own tables.LengthPastEnd = tt
table_own tables.NoQuestion = tt
table_own tables.NoMemory = tt

-- ---- what is asked for

kept : (e : ConvertError) → IsAnswered e → IsAnsweredOf (conversion_refusal e)
kept (refusals.Input e) is = is
kept (refusals.Issuer e) is = is
kept (refusals.Request e) is = is
kept refusals.NoPrivateKey is = is
kept refusals.CommentNotCarried is = is
kept (refusals.Private e) is = is
kept (refusals.Putty e) is = is
kept refusals.FreshTooShort is = is
kept refusals.TooLong is = is
kept refusals.TooManyLines is = is
kept refusals.NoMemory is = tt

converted_as : {A : Type 0} (r : Result A ConvertError) → Refuses IsAnswered r → Refuses IsAnsweredOf (map_err conversion_refusal r)
converted_as r such = mapped_as IsAnsweredOf conversion_refusal r (λ e was. kept e (such e was))

issuer_as : (o : Outside) (text : List ℕ) → Refuses IsAnswered (issuer_read o (Some text))
issuer_as o text =
    then_as IsAnswered (map_err refusals.Issuer (reading (reader o) text)) (λ meaning. Ok (Some meaning.key))
    (mapped_as IsAnswered refusals.Issuer (reading (reader o) text)
    (λ e was. own_is_answered (refusals.Issuer e) (issuer_is_own (reader o) text e was)))
    (λ meaning. ok_as IsAnswered (Some meaning.key))

request_asked : (words : List (List ℕ)) (issuer : List ℕ) → Refuses IsAnsweredOf (request_as words issuer)
request_asked words issuer =
    let key = issuer_read (plain_outside []) (Some issuer) in
    then_as IsAnsweredOf (ok_or (options_named words) certify.Words)
    (λ options. map_ok (request_by options) (map_err conversion_refusal key))
    (some_as IsAnsweredOf (options_named words) certify.Words tt)
    (λ options. seen_as IsAnsweredOf (request_by options) (map_err conversion_refusal key)
    (converted_as key (issuer_as (plain_outside []) issuer)))

-- ---- what is to be signed, and its line

bytes_as : (request : CertRequest) (key fresh : List ℕ) → Refuses IsAnsweredOf (bytes_of_request request key fresh)
bytes_as request key fresh =
    let drafts = drafting (plain_outside fresh) request key in
    converted_as (map_ok (λ u. signed_of u.certificate) drafts) (seen_as IsAnswered (λ u. signed_of u.certificate) drafts
    (λ e was. own_is_answered e (drafting_is_own (plain_outside fresh) request key e was)))

unsigned_as : (request : CertRequest) (key fresh : List ℕ) → Refuses IsAnsweredOf (unsigned_of_request request key fresh)
unsigned_as request key fresh =
    converted_as (certification (plain_outside fresh) request key)
    (λ e was. own_is_answered e (certification_is_own (plain_outside fresh) request key e was))

drafted_as : (g : Given) → Refuses IsAnsweredOf (drafted_texts g)
drafted_as g =
    then_as IsAnsweredOf (request_as g.words g.issuer) (λ request. bytes_of_request request g.key g.fresh) (request_asked g.words g.issuer)
    (λ request. bytes_as request g.key g.fresh)

certified_as : (answers : List ℕ) (g : Given) → Refuses IsAnsweredOf (certified_under answers g)
certified_as answers g =
    then_as IsAnsweredOf (map_err table_refusal (table_of answers)) (λ entries. certified_texts g)
    (map_as IsAnsweredOf table_refusal (table_of answers) table_own)
    (λ entries. then_as IsAnsweredOf (request_as g.words g.issuer) (λ request. unsigned_of_request request g.key g.fresh)
    (request_asked g.words g.issuer) (λ request. unsigned_as request g.key g.fresh))

pub draft_answered : (g : Given) (e : ConvertError) → draft_in g ≡ Err (certify.Refused e) → IsAnswered e
draft_answered g e is = all_as drafted_texts g drafted_as (certify.Refused e) is

pub line_answered : (g : Given) (answers : List ℕ) (e : ConvertError) → certified_in g answers ≡ Err (certify.Refused e) → IsAnswered e
line_answered g answers e is = all_as (certified_under answers) g (certified_as answers) (certify.Refused e) is
