-- What the order of a request's refusals doesn't answer: want of memory, and the device's fault.
use Rattle.std.specs.Prelude.{◌≡◌, ◌≢◌, Bool, true, false, List, ℕ, Option, Some, None, Result, Ok, Err, nat_le, if◌then◌else◌}
use Rattle.std.specs.Option.{ok_or}
use Rattle.std.proofs.Common.{refl, subst}
use Rattle.picky_wire_base.specs.Outcome.{and_then}
use Rattle.picky_wire.specs.declared.timestamp.Timestamp.{Timestamp}
use Rattle.picky_keys.specs.LineRefusal.{is_short}
use Rattle.picky_cert.specs.Spelled.{signed_of}
use Rattle.picky_cert_blob.specs.Subject.{is_for, subject_kind}
use Rattle.picky_cert_parts.specs.declared.cert_key_type.SshCertKeyType.{SshCertKeyType}
use Rattle.picky_cert_parts.specs.declared.cert_type.SshCertType.{SshCertType}
use Rattle.picky_cert_parts.specs.declared.cert_type.SshCertType.TheVariants.{Client, Host}
use Rattle.picky_cert_builder.specs.declared.builder.SshCertificateBuilder.{SshCertificateBuilder}
use Rattle.picky_cert_builder.specs.declared.error.SshCertificateGenerationError.{SshCertificateGenerationError}
use Rattle.picky_cert_builder.specs.declared.error.SshCertificateGenerationError.TheVariants as errors
use Rattle.picky_cert_builder.specs.declared.terms.RequestTerms.{RequestTerms}
use Rattle.picky_cert_builder.specs.Algorithm.{format_of}
use Rattle.picky_cert_builder.specs.Draft.{certificate_of, requested}
use Rattle.picky_cert_builder.specs.Request.{terms_of}
use Rattle.picky_cert_builder.specs.Terms.{algorithm_by, granted, is_made, judged_signature, judged_subject, judged_terms}
use Rattle.picky_cert_builder.specs.Terms.{judged_use, ordered}

abbrev pub IsOwnGeneration : SshCertificateGenerationError → Type 0
IsOwnGeneration e = (e ≢ errors.NoMemory) × (e ≢ errors.SignatureError)

-- ---- steps

next_is : {A B : Type 0} (r : Result A SshCertificateGenerationError) (next : A → Result B SshCertificateGenerationError)
    (e : SshCertificateGenerationError) → ((f : SshCertificateGenerationError) → r ≡ Err f → IsOwnGeneration f)
    → ((x : A) (f : SshCertificateGenerationError) → next x ≡ Err f → IsOwnGeneration f) → and_then r next ≡ Err e → IsOwnGeneration e
next_is (Ok x) next e first second is = second x e is
next_is (Err f) next e first second is = let same : f ≡ e = cc is in subst IsOwnGeneration same (first f refl)

given_is : {A : Type 0} (o : Option A) (unset e : SshCertificateGenerationError) → IsOwnGeneration unset → ok_or o unset ≡ Err e → IsOwnGeneration e
given_is (Some x) unset e own is = cc is
given_is None unset e own is = let same : unset ≡ e = cc is in subst IsOwnGeneration same own

either_is : {A : Type 0} (b : Bool) (x y : Result A SshCertificateGenerationError) (e : SshCertificateGenerationError)
    → (x ≡ Err e → IsOwnGeneration e) → (y ≡ Err e → IsOwnGeneration e) → (if b then x else y) ≡ Err e → IsOwnGeneration e
either_is true x y e first second is = first is
either_is false x y e first second is = second is

refused_is : {A : Type 0} (f e : SshCertificateGenerationError) → IsOwnGeneration f
    → ◌≡◌ {A = Result A SshCertificateGenerationError} (Err f) (Err e) → IsOwnGeneration e
refused_is f e own is = let same : f ≡ e = cc is in subst IsOwnGeneration same own

-- ---- each part

subject_is : (r : RequestTerms) (e : SshCertificateGenerationError) → judged_subject r ≡ Err e → IsOwnGeneration e
unfolding judged_subject
subject_is r e is =
    next_is (ok_or r.cert_key_type errors.NoKeyType) _ e (λ f. given_is r.cert_key_type errors.NoKeyType f (λ is. cc is, λ is. cc is))
    (λ t f. either_is (is_made t) _ (Err (errors.UnsupportedCertificateKeyType t)) f
    (next_is (ok_or r.subject errors.MissingPublicKey) _ f
    (λ g. given_is r.subject errors.MissingPublicKey g (λ is. cc is, λ is. cc is))
    (λ kind g. either_is (is_for (subject_kind t) kind) (Ok t) (Err (errors.UnsupportedCertificateKeyType t)) g (λ is. cc is)
    (refused_is (errors.UnsupportedCertificateKeyType t) g (λ is. cc is, λ is. cc is))))
    (refused_is (errors.UnsupportedCertificateKeyType t) f (λ is. cc is, λ is. cc is))) is

ordered_is : (a b : Option Timestamp) (e : SshCertificateGenerationError) → ordered a b ≡ Err e → IsOwnGeneration e
ordered_is (Some a) (Some b) e is =
    either_is (nat_le a.0 b.0) (Ok (a, b)) (Err errors.InvalidTime) e (λ is. cc is)
    (refused_is errors.InvalidTime e (λ is. cc is, λ is. cc is)) is
ordered_is (Some a) None e is = refused_is errors.InvalidTime e (λ is. cc is, λ is. cc is) is
ordered_is None b e is = refused_is errors.InvalidTime e (λ is. cc is, λ is. cc is) is

granted_is : (r : RequestTerms) (kind : SshCertType) (times : Timestamp × Timestamp) (e : SshCertificateGenerationError)
    → granted r kind times ≡ Err e → IsOwnGeneration e
granted_is r Client times e is = cc is
granted_is r Host times e is =
    either_is r.has_extensions (Err errors.HostCertificateExtensions) _ e
    (refused_is errors.HostCertificateExtensions e (λ is. cc is, λ is. cc is))
    (either_is r.has_critical_options (Err errors.HostCertificateCriticalOptions) (Ok (Host, times)) e
    (refused_is errors.HostCertificateCriticalOptions e (λ is. cc is, λ is. cc is)) (λ is. cc is)) is

use_is : (r : RequestTerms) (e : SshCertificateGenerationError) → judged_use r ≡ Err e → IsOwnGeneration e
unfolding judged_use
use_is r e is =
    next_is (ok_or r.cert_type errors.MissingCertificateType) _ e
    (λ f. given_is r.cert_type errors.MissingCertificateType f (λ is. cc is, λ is. cc is))
    (λ kind f. next_is (ordered r.valid_after r.valid_before) (λ times. granted r kind times) f (ordered_is r.valid_after r.valid_before)
    (λ times g. granted_is r kind times g)) is

signature_is : (r : RequestTerms) (t : SshCertKeyType) (e : SshCertificateGenerationError) → judged_signature r t ≡ Err e → IsOwnGeneration e
unfolding judged_signature
signature_is r t e is =
    next_is (ok_or r.issuer errors.MissingSignatureKey) _ e
    (λ f. given_is r.issuer errors.MissingSignatureKey f (λ is. cc is, λ is. cc is))
    (λ kind f. next_is (ok_or (format_of kind (algorithm_by r.signature_algo t)) errors.IncorrectSignatureAlgorithm) _ f
    (λ g. given_is (format_of kind (algorithm_by r.signature_algo t)) errors.IncorrectSignatureAlgorithm g (λ is. cc is, λ is. cc is))
    (λ format g is. cc is)) is

pub judged_is_own : (r : RequestTerms) (e : SshCertificateGenerationError) → judged_terms r ≡ Err e → IsOwnGeneration e
unfolding judged_terms
judged_is_own r e is =
    next_is (judged_subject r) _ e (subject_is r)
    (λ t f. next_is (judged_use r) _ f (use_is r)
    (λ used g. next_is (judged_signature r t) _ g (signature_is r t) (λ signed h is. cc is))) is

-- Neither is a request's.
pub requested_is_own : (b : SshCertificateBuilder) (nonce : List ℕ) (e : SshCertificateGenerationError)
    → requested b nonce ≡ Err e → IsOwnGeneration e
unfolding requested
requested_is_own b nonce e is =
    next_is (judged_terms (terms_of b)) _ e (judged_is_own (terms_of b))
    (λ fit f. next_is (ok_or b.public_key errors.MissingPublicKey) _ f
    (λ g. given_is b.public_key errors.MissingPublicKey g (λ is. cc is, λ is. cc is))
    (λ key g. next_is (ok_or b.issuer errors.MissingSignatureKey) _ g
    (λ h. given_is b.issuer errors.MissingSignatureKey h (λ is. cc is, λ is. cc is))
    (λ issuer h. either_is (is_short (signed_of (certificate_of b fit key issuer nonce))) _ (Err errors.TooLong) h (λ is. cc is)
    (refused_is errors.TooLong h (λ is. cc is, λ is. cc is))))) is
