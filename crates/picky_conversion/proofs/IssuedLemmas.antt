-- What is answered of a certificate that is issued is the relation's, and there is one where there can be.
use Rattle.std.proofs.Common.{◌≡◌, ℕ, List, Option, None, Some, Result, Ok, Err, refl, sym, ap, subst}
use Rattle.std.specs.Option.{IfSome}
use Rattle.std.specs.Str.{IsUtf8}
use Rattle.picky_wire_base.specs.carried.Outcome.{and_then_ok, map_err_ok}
use Rattle.picky_wire_base.specs.Outcome.{map_err, map_ok}
use Rattle.picky_cert_builder.specs.Draft.{Unsigned}
use Rattle.picky_issuing.specs.declared.options.CertOptions.{CertOptions}
use Rattle.picky_issuing.specs.Parts.{issuer_text_part, key_part}
use Rattle.picky_issuing.proofs.PartsText.{parts_are_text}
use Rattle.picky_key_text.specs.declared.meaning.Key.{Key}
use Rattle.picky_key_text.specs.declared.meaning.Meaning.{Meaning}
use Rattle.picky_key_text.specs.Order.{reading}
use Rattle.picky_key_text.specs.Reads.{Reads}
use Rattle.picky_key_text.proofs.ReadingLaws.{reading_of as read}
use Rattle.picky_target.specs.declared.error.ConvertError.{ConvertError}
use Rattle.picky_target.specs.declared.error.ConvertError.TheVariants as errors
use Rattle.picky_conversion.specs.declared.request.CertRequest.{CertRequest}
use Rattle.picky_conversion.specs.Certified.{IsLineOf, SignRelation}
use Rattle.picky_conversion.specs.Drafted.{IsDrafted, IsLineDrafted, drafted, line_drafted}
use Rattle.picky_conversion.proofs.DraftedLaws.{drafted_where, line_drafted_where}
use Rattle.picky_conversion.proofs.ReadBackLemmas.{line_is_read_back}
use Rattle.picky_conversion.specs.Certify.{IsCertified, IsToBeSigned, certification, drafting, hex_line}
use Rattle.picky_conversion.specs.Chain.{IsGiven}
use Rattle.picky_conversion.specs.Issue.{CanIssue, CanIssueBytes, IsIssued, IsIssuedBytes, IsIssuer, issued, issued_bytes}
use Rattle.picky_conversion.specs.Issue.{issuer_read, unsigned}
use Rattle.picky_conversion.specs.Request.{request_by}
use Rattle.picky_conversion.specs.Made.{IsLeft, IsMadeText, IsUnwritten, ToSign, Whole, WritesMade}
use Rattle.picky_conversion.specs.Outside.{Outside, reader, reader_back}
use Rattle.picky_conversion.proofs.ConvertLemmas.{means_one, says_in}

-- a value that was mapped
map_ok_ok : {E A B : Type 0} (f : A → B) (r : Result A E) (y : B) → map_ok f r ≡ Ok y → (x : A) × (r ≡ Ok x) × (y ≡ f x)
map_ok_ok f (Ok x) y is = (x, refl, sym (cc is))
map_ok_ok f (Err e) y is = cc is

-- ---- the text of what is come to

-- where no device signs
pub whole_of : (signs : SignRelation) (says : Result (List ℕ) ConvertError) (text : List ℕ) → WritesMade signs (map_ok Whole says) text
    → says ≡ Ok text
whole_of signs (Ok t) text (made, is, of) =
    let same : made ≡ Whole t = cc is in
    ap Ok (sym (subst (λ m. IsMadeText signs m text) same of))
whole_of signs (Err e) text (made, is, of) = cc is

-- and then nothing is left unwritten
pub none_left : (signs : SignRelation) (says : Result (List ℕ) ConvertError) (rose : Type 0) (e : ConvertError)
    → IsLeft signs (map_ok Whole says) rose e → ⊥
none_left signs (Ok t) rose e (made, is, left) =
    let same : made ≡ Whole t = cc is in subst (λ m. IsUnwritten signs m rose e) same left
none_left signs (Err f) rose e (made, is, left) = cc is

-- where one does
pub signed_of_it : (signs : SignRelation) (says : Result Unsigned ConvertError) (text : List ℕ) → WritesMade signs (map_ok ToSign says) text
    → (u : Unsigned) × (says ≡ Ok u) × IsLineOf signs u text
signed_of_it signs (Ok u) text (made, is, of) =
    let same : made ≡ ToSign u = cc is in
    (u, refl, subst (λ m. IsMadeText signs m text) same of)
signed_of_it signs (Err e) text (made, is, of) = cc is

-- the line of a certificate
pub certified_is : (signs : SignRelation) (o : Outside) (request : CertRequest) (input text : List ℕ) (u : Unsigned) → IsGiven o
    → IsUtf8 input → certification o request input ≡ Ok u → IsLineOf signs u text → IsCertified signs o request input text
unfolding certification
certified_is signs o request input text u given utf8 done line =
    let steps = and_then_ok (map_err errors.Input (reading (reader o) input)) (λ m. line_drafted request m o.output.fresh) u done in
    let means = map_err_ok errors.Input (reading (reader o) input) steps.0 steps.1 in
    let drafted = (line_drafted_where request steps.0 o.output.fresh u).0 steps.2 in
    record {
      meaning = steps.0;
      reads = says_in o input steps.0 given utf8 means;
      one = λ other reads. means_one (reader o) input steps.0 other means reads;
      unsigned = u;
      drafted = drafted;
      is = line;
      read_back = line_is_read_back signs request steps.0 o.output.fresh u text (reader_back o) drafted.drafted line;
    }

to_be_signed_is : (o : Outside) (request : CertRequest) (input text : List ℕ) (u : Unsigned) → IsGiven o → IsUtf8 input
    → drafting o request input ≡ Ok u → text ≡ hex_line u → IsToBeSigned o request input text
unfolding drafting
to_be_signed_is o request input text u given utf8 done is =
    let steps = and_then_ok (map_err errors.Input (reading (reader o) input)) (λ m. drafted request m o.output.fresh) u done in
    let means = map_err_ok errors.Input (reading (reader o) input) steps.0 steps.1 in
    record {
      meaning = steps.0;
      reads = says_in o input steps.0 given utf8 means;
      one = λ other reads. means_one (reader o) input steps.0 other means reads;
      unsigned = u;
      drafted = (drafted_where request steps.0 o.output.fresh u).0 steps.2;
      is = is;
    }

issuer_says : (o : Outside) (part : Option (List ℕ)) (issuer : Option Key) → IsGiven o → IfSome part IsUtf8
    → issuer_read o part ≡ Ok issuer → IsIssuer o part issuer
issuer_says o None issuer given utf8 is = sym (cc is)
issuer_says o (Some text) issuer given utf8 is =
    let steps = and_then_ok (map_err errors.Issuer (reading (reader o) text)) (λ m. Ok (Some m.key)) issuer is in
    let means = map_err_ok errors.Issuer (reading (reader o) text) steps.0 steps.1 in
    (steps.0, says_in o text steps.0 given utf8 means, sym (cc steps.2))

pub issued_is : (signs : SignRelation) (o : Outside) (options : CertOptions) (input text : List ℕ) (u : Unsigned) → IsGiven o
    → IsUtf8 input → issued o options input ≡ Ok u → IsLineOf signs u text → IsIssued signs o options input text
unfolding issued
issued_is signs o options input text u given utf8 done line =
    let parts = parts_are_text input utf8 in
    let steps = and_then_ok (issuer_read o (issuer_text_part input)) _ u done in (
      steps.0,
      issuer_says o (issuer_text_part input) steps.0 given parts.0 steps.1,
      certified_is signs o (request_by options steps.0) (key_part input) text u given parts.1 steps.2 line,
    )

pub issued_bytes_is : (o : Outside) (options : CertOptions) (input text : List ℕ) → IsGiven o → IsUtf8 input
    → issued_bytes o options input ≡ Ok text → IsIssuedBytes o options input text
unfolding unsigned
issued_bytes_is o options input text given utf8 done =
    let parts = parts_are_text input utf8 in
    let mapped = map_ok_ok hex_line (unsigned o options input) text done in
    let steps = and_then_ok (issuer_read o (issuer_text_part input)) _ mapped.0 mapped.1 in (
      steps.0,
      issuer_says o (issuer_text_part input) steps.0 given parts.0 steps.1,
      to_be_signed_is o (request_by options steps.0) (key_part input) text mapped.0 given parts.1 steps.2 mapped.2,
    )

-- ---- and there is one where it can be issued

issuer_of : (o : Outside) (part : Option (List ℕ)) (issuer : Option Key) → IsIssuer o part issuer → issuer_read o part ≡ Ok issuer
issuer_of o None issuer is = ap Ok (sym is)
issuer_of o (Some text) issuer is = rw (read (reader o) text is.0 is.1) (ap Ok (sym is.2))

pub certification_from : (o : Outside) (request : CertRequest) (input : List ℕ) (m : Meaning) (u : Unsigned)
    → Reads (reader o) input m → IsLineDrafted request m o.output.fresh u → certification o request input ≡ Ok u
unfolding certification
certification_from o request input m u reads is =
    rw (read (reader o) input m reads) ((line_drafted_where request m o.output.fresh u).1 is)

drafting_from : (o : Outside) (request : CertRequest) (input : List ℕ) (m : Meaning) (u : Unsigned)
    → Reads (reader o) input m → IsDrafted request m o.output.fresh u → drafting o request input ≡ Ok u
unfolding drafting
drafting_from o request input m u reads is =
    rw (read (reader o) input m reads) ((drafted_where request m o.output.fresh u).1 is)

pub issued_from : (o : Outside) (options : CertOptions) (input : List ℕ) → CanIssue o options input
    → (u : Unsigned) × (issued o options input ≡ Ok u)
unfolding issued
issued_from o options input (issuer, is, m, reads, can) = (
  can.0,
  rw (issuer_of o (issuer_text_part input) issuer is) (certification_from o (request_by options issuer) (key_part input) m can.0 reads can.1),
)

pub unsigned_from : (o : Outside) (options : CertOptions) (input : List ℕ) → CanIssueBytes o options input
    → (u : Unsigned) × (unsigned o options input ≡ Ok u)
unfolding unsigned
unsigned_from o options input (issuer, is, m, reads, u, drafted) = (
  u,
  rw (issuer_of o (issuer_text_part input) issuer is) (drafting_from o (request_by options issuer) (key_part input) m u reads drafted),
)
