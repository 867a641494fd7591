-- A text that was written is converted to itself, and private targets lose nothing.
use Rattle.std.proofs.Common.{◌≡◌, ℕ, List, [], ◌∷◌, true, Option, None, Some, Ok, refl, sym, ap, ◌∙◌, subst}
use Rattle.std.specs.Str.{IsUtf8}
use Rattle.picky_wire_base.specs.{carried.Outcome.{and_then_ok, map_err_ok}, Outcome.{map_err, map_ok}}
use Rattle.picky_cert_builder.specs.Draft.{Unsigned}
use Rattle.picky_issuing.specs.{declared.options.CertOptions.{CertOptions}, Parts.{issuer_text_part, key_part}}
use Rattle.picky_conversion.specs.{declared.request.CertRequest.{CertRequest}, Drafted.{line_drafted}}
use Rattle.picky_conversion.specs.Chain.{IsGiven, ChainStep, last_of, through}
use Rattle.picky_conversion.specs.{Certify.{certification, drafting, hex_line}, Convert.{conversion}}
use Rattle.picky_conversion.specs.Issue.{issued, issued_bytes, issuer_read, unsigned}
use Rattle.picky_conversion.specs.Request.{request_by}
use Rattle.picky_conversion.specs.Outside.{Outside, reader}
use Rattle.picky_conversion.proofs.{DraftedLaws.{drafted_where, line_drafted_where}, CertifyLemmas.{drafting_of}}
use Rattle.picky_conversion.proofs.{IssueLemmas.{unsigned_by}, ConvertLemmas.{conversion_from, conversion_parts}}
use Rattle.picky_target.specs.declared.error.ConvertError.TheVariants as errors
use Rattle.picky_key_text.specs.{declared.meaning.Key.{Key}, declared.meaning.Meaning.{Meaning}, Kept.{IsKeptMeaning}}
use Rattle.picky_key_text.specs.{Key.{public_part}, Order.{reading}}
use Rattle.picky_key_text.specs.declared.meaning.Key.TheVariants as keys
use Rattle.picky_target.specs.{declared.target.KeyTarget.{KeyTarget}, Carried.{need_under}, Judged.{judged_meaning}}
use Rattle.picky_target.specs.{Output.{Output}, ReadBack.{IsTarget, kept, under}, Texts.{text_for}}
use Rattle.picky_target.specs.Written.{keeps_secret}
use Rattle.picky_target.specs.declared.target.KeyTarget.TheVariants as targets
use Rattle.picky_suite.specs.Meanings.{Meanings}
use Rattle.picky_target.proofs.JudgedLaws.{judged_carries as carries}
use Rattle.picky_target.proofs.{ReadBackLaws.{spelled_is_read_back as read_back}, TextLaws.{text_spells as spells}}
use Rattle.picky_key_text.proofs.{KeptLaws.{meaning_is_kept as kept_in}, ReadingLaws.{reading_of as read}}

-- ---- what is kept is judged and written as the whole

no_need_of_line : (pass : Option (List ℕ)) (key : Key) → need_under targets.OpenSshPublic pass key ≡ 0
no_need_of_line None key = refl
no_need_of_line (Some pass) (keys.Private key) = refl
no_need_of_line (Some pass) (keys.Public key) = refl

no_need_of_public : (pass : Option (List ℕ)) (key : Key) → need_under targets.PuttyPublic pass key ≡ 0
no_need_of_public None key = refl
no_need_of_public (Some pass) (keys.Private key) = refl
no_need_of_public (Some pass) (keys.Public key) = refl

pub judged_kept : (out : Output) (to : KeyTarget) (meaning : Meaning) → judged_meaning out to (kept to meaning) ≡ judged_meaning out to meaning
unfolding judged_meaning
judged_kept out (targets.OpenSsh rounds) meaning = refl
judged_kept out (targets.Ppk version config layout) meaning = refl
judged_kept out targets.OpenSshPublic meaning =
    rw (no_need_of_line out.pass (keys.Public (public_part meaning.key)), no_need_of_line out.pass meaning.key) refl
judged_kept out targets.PuttyPublic meaning =
    rw (no_need_of_public out.pass (keys.Public (public_part meaning.key)), no_need_of_public out.pass meaning.key) refl

pub text_kept : (m : Meanings) (out : Output) (to : KeyTarget) (meaning : Meaning)
    → text_for m out to (kept to meaning) ≡ text_for m out to meaning
text_kept m out (targets.OpenSsh rounds) meaning = refl
text_kept m out (targets.Ppk version config layout) meaning = refl
text_kept m out targets.OpenSshPublic meaning = refl
text_kept m out targets.PuttyPublic meaning = refl

-- what is written of a meaning that was read means what is kept of it
pub text_means : (o : Outside) (to : KeyTarget) (meaning : Meaning) → IsGiven o → IsTarget to → IsKeptMeaning meaning
    → judged_meaning o.output to meaning ≡ Ok tt
    → reading (under o.meanings o.output.pass) (text_for o.meanings o.output to meaning) ≡ Ok (kept to meaning)
text_means o to meaning given fits is_kept passed =
    let text = text_for o.meanings o.output to meaning in
    read (under o.meanings o.output.pass) text (kept to meaning)
    (read_back o.meanings o.output to meaning text fits is_kept given.fresh given.pass
    (carries o.output to meaning passed) (spells o.meanings o.output to meaning))

pub text_is_kept : (o : Outside) (to : KeyTarget) (input text : List ℕ) → IsGiven o → IsTarget to → IsUtf8 input
    → conversion o to input ≡ Ok text → conversion (record o { pass_in = o.output.pass }) to text ≡ Ok text
text_is_kept o to input text given fits utf8 done =
    let parts = conversion_parts o to input text done in
    let meaning = parts.meaning in
    let is_kept = kept_in (reader o) input meaning utf8 given.pass_in parts.means in
    let means = text_means o to meaning given fits is_kept parts.passed in
    let again = record o { pass_in = o.output.pass } in
    subst (λ t. conversion again to t ≡ Ok t) parts.is
    (conversion_from again to (text_for o.meanings o.output to meaning) (kept to meaning) means
    (judged_kept o.output to meaning ∙ parts.passed) ∙ ap Ok (text_kept o.meanings o.output to meaning))

-- ---- a list of conversions

keeps_all : (to : KeyTarget) (meaning : Meaning) → keeps_secret to ≡ true → kept to meaning ≡ meaning
keeps_all (targets.OpenSsh rounds) meaning private = refl
keeps_all (targets.Ppk version config layout) meaning private = refl
keeps_all targets.OpenSshPublic meaning private = cc private
keeps_all targets.PuttyPublic meaning private = cc private

-- the text is what the target writes of the meaning
record IsWritten (m : Meanings) (out : Output) (to : KeyTarget) (meaning : Meaning) (text : List ℕ) : Type 0 where
  passed : judged_meaning out to meaning ≡ Ok tt
  is : text_for m out to meaning ≡ text

step_written : (o : Outside) (step : ChainStep) (input next : List ℕ) (meaning : Meaning) → reading (reader o) input ≡ Ok meaning
    → conversion (record o { output = step.output }) step.target input ≡ Ok next
    → IsWritten o.meanings step.output step.target meaning next
step_written o step input next meaning means done =
    let parts = conversion_parts (record o { output = step.output }) step.target input next done in
    let same : parts.meaning ≡ meaning = let read_so = parts.means in cc (read_so, means) in
    subst (λ n. IsWritten o.meanings step.output step.target n next) same (record { passed = parts.passed; is = parts.is })

-- the meaning stays from step to step
chain_written : (o : Outside) (step : ChainStep) (steps : List ChainStep) (input text : List ℕ) (meaning : Meaning) → IsKeptMeaning meaning
    → reading (reader o) input ≡ Ok meaning → through o (step ∷ steps) input ≡ Ok text
    → IsWritten o.meanings (last_of step steps).output (last_of step steps).target meaning text
chain_written o step [] input text meaning is_kept means done =
    let first = and_then_ok (conversion (record o { output = step.output }) step.target input) (λ next. Ok next) text done in
    let is : first.0 ≡ text = cc first.2 in
    subst (IsWritten o.meanings step.output step.target meaning) is (step_written o step input first.0 meaning means first.1)
chain_written o step (next ∷ steps) input text meaning is_kept means done =
    let later = record o { pass_in = step.output.pass } in
    let first = and_then_ok (conversion (record o { output = step.output }) step.target input)
    (λ between. through later (next ∷ steps) between) text done in
    let written = step_written o step input first.0 meaning means first.1 in
    let given : IsGiven (record { meanings = o.meanings; pass_in = None; output = step.output }) = record {
      pass_in = tt;
      pass = step.pass;
      fresh = step.fresh;
    } in
    let whole = text_means (record { meanings = o.meanings; pass_in = None; output = step.output }) step.target meaning given step.fits is_kept written.passed in
    let again : reading (reader later) first.0 ≡ Ok meaning =
    subst (λ t. reading (reader later) t ≡ Ok meaning) written.is (whole ∙ ap Ok (keeps_all step.target meaning step.private)) in
    chain_written later next steps first.0 text meaning is_kept again first.2

pub chain_is_direct : (o : Outside) (steps : List ChainStep) (step : ChainStep) (input text : List ℕ) → IsGiven o → IsUtf8 input
    → through o (step ∷ steps) input ≡ Ok text
    → conversion (record o { output = (last_of step steps).output }) (last_of step steps).target input ≡ Ok text
chain_is_direct o steps step input text given utf8 done =
    let first = and_then_ok (conversion (record o { output = step.output }) step.target input)
    (λ between. through (record o { pass_in = step.output.pass }) steps between) text done in
    let parts = conversion_parts (record o { output = step.output }) step.target input first.0 first.1 in
    let is_kept = kept_in (reader o) input parts.meaning utf8 given.pass_in parts.means in
    let written = chain_written o step steps input text parts.meaning is_kept parts.means done in
    conversion_from (record o { output = (last_of step steps).output }) (last_of step steps).target input parts.meaning parts.means
    written.passed ∙ ap Ok written.is

-- ---- what is signed of a certificate that is issued

certification_drafts : (o : Outside) (request : CertRequest) (input : List ℕ) (u : Unsigned) → certification o request input ≡ Ok u
    → drafting o request input ≡ Ok u
unfolding certification
certification_drafts o request input u done =
    let meaning = and_then_ok (map_err errors.Input (reading (reader o) input)) (λ m. line_drafted request m o.output.fresh) u done in
    let means = map_err_ok errors.Input (reading (reader o) input) meaning.0 meaning.1 in
    let draft = ((line_drafted_where request meaning.0 o.output.fresh u).0 meaning.2).drafted in
    drafting_of o request input meaning.0 means ∙ (drafted_where request meaning.0 o.output.fresh u).1 draft

issued_is_unsigned : (o : Outside) (options : CertOptions) (input : List ℕ) (u : Unsigned) → issued o options input ≡ Ok u
    → unsigned o options input ≡ Ok u
unfolding issued
issued_is_unsigned o options input u done =
    let issuer = and_then_ok (issuer_read o (issuer_text_part input)) _ u done in
    sym (unsigned_by o options input issuer.0 issuer.1)
    ∙ certification_drafts o (request_by options issuer.0) (key_part input) u issuer.2

pub printed_is_signed : (o : Outside) (options : CertOptions) (input : List ℕ) (u : Unsigned) → issued o options input ≡ Ok u
    → issued_bytes o options input ≡ Ok (hex_line u)
printed_is_signed o options input u done = ap (map_ok hex_line) (issued_is_unsigned o options input u done)
