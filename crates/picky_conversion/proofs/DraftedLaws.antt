-- The order of a request's refusals ends in a certificate exactly where the request comes to it.
use Rattle.std.specs.Prelude.{◌↔◌, ◌^◌, ◌≡◌, Bool, true, false, List, ℕ, Result, Ok, Err, length, nat_le, take, if◌then◌else◌}
use Rattle.std.proofs.Common.{refl, ap, ◌∙◌, subst, ◌⊎◌, inl, inr}
use Rattle.std.proofs.lemmas.Bool.{leb-true, le-leb, lt-ltb, ltb-true}
use Rattle.picky_wire_base.specs.Outcome.{and_then, map_err}
use Rattle.picky_wire_base.specs.carried.Outcome.{and_then_ok, map_err_ok}
use Rattle.picky_keys.specs.LineRefusal.{is_short}
use Rattle.picky_cert_builder.specs.declared.builder.SshCertificateBuilder.{SshCertificateBuilder}
use Rattle.picky_cert_builder.specs.declared.error.SshCertificateGenerationError.{SshCertificateGenerationError}
use Rattle.picky_cert_builder.specs.declared.error.SshCertificateGenerationError.TheVariants as requests
use Rattle.picky_cert_builder.specs.Draft.{Unsigned, requested}
use Rattle.picky_cert_builder.specs.Request.{terms_of}
use Rattle.picky_cert_builder.specs.Terms.{judged_terms}
use Rattle.picky_cert_builder.proofs.MadeLaws.{requested_is_made}
use Rattle.picky_key_text.specs.declared.meaning.Meaning.{Meaning}
use Rattle.picky_target.specs.declared.error.ConvertError.TheVariants as errors
use Rattle.picky_target.specs.declared.target.KeyTarget.TheVariants as targets
use Rattle.picky_target.specs.Judged.{carries_comment}
use Rattle.picky_target.proofs.PlaceLemmas.{comment_holds, comment_test}
use Rattle.picky_conversion.specs.declared.request.CertRequest.{CertRequest}
use Rattle.picky_conversion.specs.Drafted.{IsDrafted, IsLineDrafted, drafted, drafted_of, if_line_fits, line_drafted, nonce_in}
use Rattle.picky_conversion.specs.Drafted.{request_refusal, unsigned_line}
use Rattle.picky_conversion.specs.Request.{builder_asked}

-- what passed a test
passes : {A E : Type 0} (b : Bool) (x : Result A E) (e : E) (y : A)
    → (if b then x else Err e) ≡ Ok y → (b ≡ true) × (x ≡ Ok y)
passes true x e y same = (refl, same)
passes false x e y same = cc same

-- a refusal of the first is that of both
refused_once : {A B E F : Type 0} (refuse : E → F) (first : Result A E) (next : A → Result B E)
    → and_then (map_err refuse first) (λ _. map_err refuse (and_then first next)) ≡ map_err refuse (and_then first next)
refused_once refuse (Ok x) next = refl
refused_once refuse (Err e) next = refl

-- where there are fresh bytes enough, the order is that of the request itself, which judges its terms first
pub drafted_with : (b : SshCertificateBuilder) (fresh nonce : List ℕ) → nonce_in fresh ≡ Ok nonce
    → drafted_of b fresh ≡ map_err request_refusal (requested b nonce)
unfolding drafted_of requested
drafted_with b fresh nonce is = rw is (refused_once request_refusal (judged_terms (terms_of b)) _)

pub refused_with : (b : SshCertificateBuilder) (fresh nonce : List ℕ) (e : SshCertificateGenerationError)
    → nonce_in fresh ≡ Ok nonce → (e ≡ requests.NoMemory) ⊎ (requested b nonce ≡ Err e)
    → (request_refusal e ≡ errors.NoMemory) ⊎ (drafted_of b fresh ≡ Err (request_refusal e))
refused_with b fresh nonce e is (inl want) = inl (ap request_refusal want)
refused_with b fresh nonce e is (inr refused) =
    inr (drafted_with b fresh nonce is ∙ ap (map_err request_refusal) refused)

drafted_is : (request : CertRequest) (m : Meaning) (fresh : List ℕ) (u : Unsigned) → drafted request m fresh ≡ Ok u
    → IsDrafted request m fresh u
unfolding drafted drafted_of
drafted_is request m fresh u is =
    let comment = passes (carries_comment targets.OpenSshPublic m.comment) _ errors.CommentNotCarried u is in
    let terms = and_then_ok (map_err request_refusal (judged_terms (terms_of (builder_asked request m)))) (λ _.
    and_then (nonce_in fresh) (λ nonce. map_err request_refusal (requested (builder_asked request m) nonce))) u comment.1 in
    let second = and_then_ok (nonce_in fresh) (λ nonce. map_err request_refusal (requested (builder_asked request m) nonce)) u terms.2 in
    let nonce = passes (nat_le 32 (length fresh)) (Ok (take 32 fresh)) errors.FreshTooShort second.0 second.1 in
    let made = map_err_ok request_refusal (requested (builder_asked request m) second.0) u second.2 in
    let front : take 32 fresh ≡ second.0 = cc nonce.1 in
    record {
      comment = comment_holds targets.OpenSshPublic m.comment comment.0;
      enough = leb-true 32 (length fresh) nonce.0;
      is = rw front made;
    }

is_drafted : (request : CertRequest) (m : Meaning) (fresh : List ℕ) (u : Unsigned) → IsDrafted request m fresh u
    → drafted request m fresh ≡ Ok u
unfolding drafted drafted_of
is_drafted request m fresh u is =
    let fit = (requested_is_made (builder_asked request m) _ u is.is).judged in
    rw (comment_test targets.OpenSshPublic m.comment is.comment, fit, le-leb 32 (length fresh) is.enough, is.is) refl

line_is : (request : CertRequest) (m : Meaning) (fresh : List ℕ) (u : Unsigned) → line_drafted request m fresh ≡ Ok u
    → IsLineDrafted request m fresh u
unfolding line_drafted
line_is request m fresh u is =
    let first = and_then_ok (drafted request m fresh) if_line_fits u is in
    let short = passes (is_short (unsigned_line first.0.certificate)) (Ok first.0) errors.TooLong u first.2 in
    let same : first.0 ≡ u = cc short.1 in
    record {
      drafted = drafted_is request m fresh u (first.1 ∙ ap Ok same);
      short = ltb-true (length (unsigned_line u.certificate)) (2 ^ 32) (subst (λ v. is_short (unsigned_line v.certificate) ≡ true) same short.0);
    }

is_line : (request : CertRequest) (m : Meaning) (fresh : List ℕ) (u : Unsigned) → IsLineDrafted request m fresh u
    → line_drafted request m fresh ≡ Ok u
unfolding line_drafted
is_line request m fresh u is =
    rw (is_drafted request m fresh u is.drafted, lt-ltb (length (unsigned_line u.certificate)) (2 ^ 32) is.short) refl

pub drafted_where : (request : CertRequest) (m : Meaning) (fresh : List ℕ) (u : Unsigned)
    → (drafted request m fresh ≡ Ok u) ↔ IsDrafted request m fresh u
drafted_where request m fresh u = (drafted_is request m fresh u, is_drafted request m fresh u)

pub line_drafted_where : (request : CertRequest) (m : Meaning) (fresh : List ℕ) (u : Unsigned)
    → (line_drafted request m fresh ≡ Ok u) ↔ IsLineDrafted request m fresh u
line_drafted_where request m fresh u = (line_is request m fresh u, is_line request m fresh u)
