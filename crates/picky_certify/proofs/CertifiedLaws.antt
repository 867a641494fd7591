-- What a line is that was signed by a table, and what is asked for.
use Rattle.std.specs.Prelude.{◌≡◌, ℕ, List, Option, Some, Result, Ok, Err}
use Rattle.std.proofs.Common.{refl, ◌∙◌}
use Rattle.picky_wire_base.specs.Outcome.{and_then, map_err, map_ok}
use Rattle.picky_wire_base.specs.carried.Outcome.{and_then_ok, map_err_ok}
use Rattle.picky_keys.specs.declared.algorithm.SignatureAlgorithm.{SignatureAlgorithm}
use Rattle.picky_keys.specs.declared.public_key.PublicKey.{PublicKey}
use Rattle.picky_ask.specs.Table.{table_of}
use Rattle.picky_ask.specs.declared.question.Entry.{Entry}
use Rattle.picky_cert_builder.specs.Draft.{Unsigned}
use Rattle.picky_issuing.specs.Options.{options_named}
use Rattle.picky_issuing.specs.Parts.{issuer_text_part, key_part}
use Rattle.picky_issuing.specs.declared.options.CertOptions.{CertOptions}
use Rattle.picky_key_text.specs.Order.{reading}
use Rattle.picky_key_text.specs.declared.meaning.Key.{Key}
use Rattle.picky_target.specs.declared.error.ConvertError.{ConvertError}
use Rattle.picky_target.specs.declared.error.ConvertError.TheVariants as conversions
use Rattle.picky_conversion.specs.Certified.{SignRelation}
use Rattle.picky_conversion.specs.Certify.{certification, drafting}
use Rattle.picky_conversion.specs.Drafted.{line_drafted}
use Rattle.picky_conversion.specs.Issue.{issued, issuer_read}
use Rattle.picky_conversion.specs.Outside.{Outside, reader}
use Rattle.picky_conversion.specs.Request.{request_by}
use Rattle.picky_conversion.specs.declared.request.CertRequest.{CertRequest}
use Rattle.picky_conversion.proofs.CertifyLemmas.{drafting_of}
use Rattle.picky_conversion.proofs.DraftedLaws.{drafted_where, line_drafted_where}
use Rattle.picky_certify.specs.Certify.{Given, IsCertifiedLine, certified_in, certified_texts, draft_in, given, plain_outside, request_as}
use Rattle.picky_certify.specs.Certified.{SignedBy, question_for}
use Rattle.picky_certify.specs.Refusal.{conversion_refusal, table_refusal}
use Rattle.picky_certify.specs.Texts.{utf8, words_judged}
use Rattle.picky_certify.specs.declared.error.CertifyError.TheVariants as errors

-- ---- the same line, by another relation of good signatures

pub line_of_more : (good : SignRelation) (entries : List Entry) (g : Given) (line : List ℕ)
    → ((key : PublicKey) (algorithm : SignatureAlgorithm) (message signature : List ℕ)
    → SignedBy entries key algorithm message signature → good key algorithm message signature)
    → IsCertifiedLine (SignedBy entries) g line → IsCertifiedLine good g line
line_of_more good entries g line each is =
    let made = is.is in
    let signed = made.is.1 in
    record {
      options = is.options;
      asked = is.asked;
      issuer = is.issuer;
      issues = is.issues;
      is = record {
        meaning = made.meaning;
        reads = made.reads;
        one = made.one;
        unsigned = made.unsigned;
        drafted = made.drafted;
        is = (made.is.0, (signed.0, signed.1, each _ _ _ _ signed.2), made.is.2, made.is.3);
        read_back = made.read_back;
      };
    }

-- ---- what is asked for

-- what has a line is drafted without one
certification_drafts : (o : Outside) (request : CertRequest) (input : List ℕ) (u : Unsigned) → certification o request input ≡ Ok u
    → drafting o request input ≡ Ok u
unfolding certification
certification_drafts o request input u is =
    let steps = and_then_ok (map_err conversions.Input (reading (reader o) input)) (λ m. line_drafted request m o.output.fresh) u is in
    let means = map_err_ok conversions.Input (reading (reader o) input) steps.0 steps.1 in
    let drafted = (line_drafted_where request steps.0 o.output.fresh u).0 steps.2 in
    drafting_of o request input steps.0 means ∙ (drafted_where request steps.0 o.output.fresh u).1 drafted.drafted

draft_from : (g : Given) (u : Unsigned) (words : List (List ℕ)) (issuer key : List ℕ) (request : CertRequest)
    → words_judged g.words ≡ Ok words → utf8 errors.IssuerNotUtf8 g.issuer ≡ Ok issuer → utf8 errors.KeyNotUtf8 g.key ≡ Ok key
    → request_as words g.issuer ≡ Ok request → drafting (plain_outside g.fresh) request g.key ≡ Ok u
    → draft_in g ≡ Ok (question_for u).text
draft_from g u words issuer key request is_words is_issuer is_key is_request is = rw (is_words, is_issuer, is_key, is_request, is) refl

pub draft_is_asked : (g : Given) (answers : List ℕ) (u : Unsigned) → certified_in g answers ≡ Ok u
    → draft_in g ≡ Ok (question_for u).text
draft_is_asked g answers u is =
    let words = and_then_ok (words_judged g.words) _ u is in
    let issuer = and_then_ok (utf8 errors.IssuerNotUtf8 g.issuer) _ u words.2 in
    let key = and_then_ok (utf8 errors.KeyNotUtf8 g.key) _ u issuer.2 in
    let table = and_then_ok (map_err table_refusal (table_of answers)) _ u key.2 in
    let request = and_then_ok (request_as words.0 g.issuer) _ u table.2 in
    let made = map_err_ok conversion_refusal (certification (plain_outside g.fresh) request.0 g.key) u request.2 in
    let drafted = certification_drafts (plain_outside g.fresh) request.0 g.key u made in
    draft_from g u words.0 issuer.0 key.0 request.0 words.1 issuer.1 key.1 request.1 drafted

-- ---- a source and its parts

parts_of_read : (options : CertOptions) (key fresh : List ℕ) (r : Result (Option Key) ConvertError)
    → and_then (map_ok (request_by options) (map_err conversion_refusal r)) (λ request.
    map_err conversion_refusal (certification (plain_outside fresh) request key))
    ≡ map_err conversion_refusal (and_then r (λ issuer. certification (plain_outside fresh) (request_by options issuer) key))
parts_of_read options key fresh (Ok issuer) = refl
parts_of_read options key fresh (Err e) = refl

pub source_comes_to_its_parts : (words : List (List ℕ)) (options : CertOptions) (source issuer fresh : List ℕ)
    → options_named words ≡ Some options → issuer_text_part source ≡ Some issuer
    → certified_texts (given words issuer (key_part source) fresh)
    ≡ map_err conversion_refusal (issued (plain_outside fresh) options source)
unfolding issued
source_comes_to_its_parts words options source issuer fresh named part =
    rw (named, part) (parts_of_read options (key_part source) fresh (issuer_read (plain_outside fresh) (Some issuer)))
