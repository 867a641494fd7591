-- The terms of a request are judged fit exactly where a certificate is made for them.
use Rattle.std.specs.Prelude.{◌≡◌, ◌↔◌, ◌≤◌, Bool, true, false, Option, Some, None, Result, Ok, Err, nat_le, if◌then◌else◌}
use Rattle.std.specs.Option.{ok_or}
use Rattle.std.proofs.{Common.{refl, sym, ap, ◌∙◌, subst}, lemmas.Bool.{le-leb, leb-true}}
use Rattle.std.proofs.lemmas.Slice.Eq.{bytes_eq-Decides}
use Rattle.picky_keys.specs.declared.algorithm.SignatureAlgorithm.{SignatureAlgorithm}
use Rattle.picky_keys.specs.{declared.kind.KeyKind.{KeyKind}, KeyNames.{kind_name}, KeyNameTables.{key_types}}
use Rattle.picky_keys.specs.{declared.key.SshPublicKey.{SshPublicKey}, Key.{kind_of}}
use Rattle.picky_keys.proofs.{KeyNames.{kind_of_name}, LineLaws.{chosen}}
use Rattle.picky_wire_base.specs.{Table.{find_entry}, carried.Outcome.{and_then_ok}}
use Rattle.picky_wire.specs.declared.timestamp.Timestamp.{Timestamp}
use Rattle.picky_cert_parts.specs.declared.cert_key_type.SshCertKeyType.{SshCertKeyType}
use Rattle.picky_cert_parts.specs.declared.signature_format.SshSignatureFormat.{SshSignatureFormat}
use Rattle.picky_cert_parts.specs.declared.cert_type.SshCertType.{SshCertType}
use Rattle.picky_cert_parts.specs.declared.cert_type.SshCertType.TheVariants.{Client, Host}
use Rattle.picky_cert_blob.specs.Subject.{fits_subject, is_for, subject_kind}
use Rattle.picky_cert_builder.specs.declared.builder.SshCertificateBuilder.{SshCertificateBuilder}
use Rattle.picky_cert_builder.specs.{declared.terms.FitTerms.{FitTerms}, declared.terms.RequestTerms.{RequestTerms}}
use Rattle.picky_cert_builder.specs.{Algorithm.{format_of}, Fit.{IsFit}, Request.{subject_kind_in, terms_of}}
use Rattle.picky_cert_builder.specs.Terms.{algorithm_by, fit_of, granted, is_made, judged_signature, judged_subject}
use Rattle.picky_cert_builder.specs.Terms.{judged_terms, judged_use, ordered}
use Rattle.picky_cert_builder.specs.declared.error.SshCertificateGenerationError.TheVariants as errors

-- ---- steps

pub some_of_ok : {E A : Type 0} (o : Option A) (e : E) (x : A) → ok_or o e ≡ Ok x → o ≡ Some x
some_of_ok (Some y) e x is = let same : y ≡ x = cc is in ap Some same
some_of_ok None e x is = cc is

-- what isn't refused passed the test
not_refused : {E A : Type 0} (b : Bool) (e : E) (r : Result A E) (y : A) → (if b then Err e else r) ≡ Ok y
    → (b ≡ false) × (r ≡ Ok y)
not_refused true e r y is = cc is
not_refused false e r y is = (refl, is)

-- a kind is for the kind of its name, which is itself
kind_is_it : (kind : Option KeyKind) (other : KeyKind) → is_for kind other ≡ true → kind ≡ Some other
kind_is_it (Some kind) other fits =
    let same = (bytes_eq-Decides (kind_name kind) (kind_name other)).0 fits in
    sym (kind_of_name kind) ∙ ap (find_entry key_types) same ∙ kind_of_name other
kind_is_it None other fits = cc fits

for_itself : (kind : Option KeyKind) (other : KeyKind) → kind ≡ Some other → is_for kind other ≡ true
for_itself kind other same =
    ap (λ k. is_for k other) same ∙ (bytes_eq-Decides (kind_name other) (kind_name other)).1 refl

-- ---- what is judged fit

-- the type is made, and for the subject's kind
record IsSubject (r : RequestTerms) (t : SshCertKeyType) : Type 0 where
  pub key_type : r.cert_key_type ≡ Some t
  pub made : is_made t ≡ true
  pub subject : (kind : KeyKind) × (r.subject ≡ Some kind) × (subject_kind t ≡ Some kind)

subject_of : (r : RequestTerms) (t u : SshCertKeyType) (kind : KeyKind) → r.cert_key_type ≡ Some u → is_made u ≡ true
    → r.subject ≡ Some kind → subject_kind u ≡ Some kind → u ≡ t → IsSubject r t
subject_of r t u kind named made given fits same =
    subst (IsSubject r) same (record { key_type = named; made = made; subject = (kind, given, fits) })

subject_says : (r : RequestTerms) (t : SshCertKeyType) → judged_subject r ≡ Ok t → IsSubject r t
unfolding judged_subject
subject_says r t is =
    let named = and_then_ok (ok_or r.cert_key_type errors.NoKeyType) _ t is in
    let made = chosen (is_made named.0) _ (errors.UnsupportedCertificateKeyType named.0) t named.2 in
    let given = and_then_ok (ok_or r.subject errors.MissingPublicKey) _ t made.1 in
    let passed = chosen (is_for (subject_kind named.0) given.0) (Ok named.0) (errors.UnsupportedCertificateKeyType named.0) t given.2 in
    subject_of r t named.0 given.0 (some_of_ok r.cert_key_type errors.NoKeyType named.0 named.1) made.0
    (some_of_ok r.subject errors.MissingPublicKey given.0 given.1) (kind_is_it (subject_kind named.0) given.0 passed.0) (cc passed.1)

-- both times are given, the first not past the second
record AreOrdered (first last : Option Timestamp) (times : Timestamp × Timestamp) : Type 0 where
  pub after : first ≡ Some times.0
  pub before : last ≡ Some times.1
  pub ordered : times.0.0 ≤ times.1.0

times_of : (after before : Timestamp) (times : Timestamp × Timestamp) → nat_le after.0 before.0 ≡ true → (after, before) ≡ times
    → AreOrdered (Some after) (Some before) times
times_of after before times le same =
    subst (AreOrdered (Some after) (Some before)) same (record { after = refl; before = refl; ordered = leb-true after.0 before.0 le })

ordered_says : (after before : Option Timestamp) (times : Timestamp × Timestamp) → ordered after before ≡ Ok times
    → AreOrdered after before times
ordered_says (Some after) (Some before) times is =
    let passed = chosen (nat_le after.0 before.0) (Ok (after, before)) errors.InvalidTime times is in
    times_of after before times passed.0 (cc passed.1)
ordered_says (Some after) None times is = cc is
ordered_says None before times is = cc is

-- a host's certificate has neither extensions nor critical options
record IsGranted (r : RequestTerms) (kind : SshCertType) (times : Timestamp × Timestamp)
    (used : SshCertType × (Timestamp × Timestamp)) : Type 0 where
  pub same : (kind, times) ≡ used
  pub host : kind ≡ Host → (r.has_extensions ≡ false) × (r.has_critical_options ≡ false)

granted_says : (r : RequestTerms) (kind : SshCertType) (times : Timestamp × Timestamp)
    (used : SshCertType × (Timestamp × Timestamp)) → granted r kind times ≡ Ok used → IsGranted r kind times used
granted_says r Client times used is = record { same = cc is; host = λ other. cc other }
granted_says r Host times used is =
    let extensions = not_refused r.has_extensions errors.HostCertificateExtensions _ used is in
    let options = not_refused r.has_critical_options errors.HostCertificateCriticalOptions (Ok (Host, times)) used extensions.1 in
    record { same = cc options.1; host = λ _. (extensions.0, options.0) }

record IsUse (r : RequestTerms) (used : SshCertType × (Timestamp × Timestamp)) : Type 0 where
  pub cert_type : r.cert_type ≡ Some used.0
  pub times : AreOrdered r.valid_after r.valid_before used.1
  pub host : used.0 ≡ Host → (r.has_extensions ≡ false) × (r.has_critical_options ≡ false)

use_says : (r : RequestTerms) (used : SshCertType × (Timestamp × Timestamp)) → judged_use r ≡ Ok used → IsUse r used
unfolding judged_use
use_says r used is =
    let kind = and_then_ok (ok_or r.cert_type errors.MissingCertificateType) _ used is in
    let times = and_then_ok (ordered r.valid_after r.valid_before) _ used kind.2 in
    let grants = granted_says r kind.0 times.0 used times.2 in
    subst (IsUse r) grants.same (record {
      cert_type = some_of_ok r.cert_type errors.MissingCertificateType kind.0 kind.1;
      times = ordered_says r.valid_after r.valid_before times.0 times.1;
      host = grants.host;
    })

-- the issuer's kind of key signs by the algorithm, in the format
record IsSigning (r : RequestTerms) (t : SshCertKeyType) (signed : SignatureAlgorithm × SshSignatureFormat) : Type 0 where
  pub algorithm : signed.0 ≡ algorithm_by r.signature_algo t
  pub signature : (kind : KeyKind) × (r.issuer ≡ Some kind) × (format_of kind signed.0 ≡ Some signed.1)

signature_says : (r : RequestTerms) (t : SshCertKeyType) (signed : SignatureAlgorithm × SshSignatureFormat)
    → judged_signature r t ≡ Ok signed → IsSigning r t signed
unfolding judged_signature
signature_says r t signed is =
    let algorithm : SignatureAlgorithm = algorithm_by r.signature_algo t in
    let kind = and_then_ok (ok_or r.issuer errors.MissingSignatureKey) _ signed is in
    let format = and_then_ok (ok_or (format_of kind.0 algorithm) errors.IncorrectSignatureAlgorithm) _ signed kind.2 in
    let same : (algorithm, format.0) ≡ signed = cc format.2 in
    subst (IsSigning r t) same (record {
      algorithm = refl;
      signature = (
        kind.0,
        some_of_ok r.issuer errors.MissingSignatureKey kind.0 kind.1,
        some_of_ok (format_of kind.0 algorithm) errors.IncorrectSignatureAlgorithm format.0 format.1,
      );
    })

-- Terms that are judged fit are.
pub judged_is_fit : (r : RequestTerms) (fit : FitTerms) → judged_terms r ≡ Ok fit → IsFit r fit
unfolding judged_terms
judged_is_fit r fit is =
    let subject = and_then_ok (judged_subject r) _ fit is in
    let used = and_then_ok (judged_use r) _ fit subject.2 in
    let signed = and_then_ok (judged_signature r subject.0) _ fit used.2 in
    let who = subject_says r subject.0 subject.1 in
    let what = use_says r used.0 used.1 in
    let how = signature_says r subject.0 signed.0 signed.1 in
    let same : fit_of subject.0 used.0 signed.0 ≡ fit = cc signed.2 in
    subst (IsFit r) same (record {
      key_type = who.key_type;
      made = who.made;
      subject = who.subject;
      cert_type = what.cert_type;
      after = what.times.after;
      before = what.times.before;
      ordered = what.times.ordered;
      host = what.host;
      algorithm = how.algorithm;
      signature = how.signature;
    })

-- ---- what is fit is judged so

fit_subject : (r : RequestTerms) (fit : FitTerms) → IsFit r fit → judged_subject r ≡ Ok fit.cert_key_type
unfolding judged_subject
fit_subject r fit is = rw (is.key_type, is.made, is.subject.1, for_itself (subject_kind fit.cert_key_type) is.subject.0 is.subject.2) refl

grant_passes : (r : RequestTerms) (kind : SshCertType) (times : Timestamp × Timestamp)
    → (kind ≡ Host → (r.has_extensions ≡ false) × (r.has_critical_options ≡ false)) → granted r kind times ≡ Ok (kind, times)
grant_passes r Client times host = refl
grant_passes r Host times host = rw ((host refl).0, (host refl).1) refl

fit_use : (r : RequestTerms) (fit : FitTerms) → IsFit r fit
    → judged_use r ≡ Ok (fit.cert_type, (fit.valid_after, fit.valid_before))
unfolding judged_use
fit_use r fit is =
    rw (is.cert_type, is.after, is.before, le-leb fit.valid_after.0 fit.valid_before.0 is.ordered)
    (grant_passes r fit.cert_type (fit.valid_after, fit.valid_before) is.host)

fit_signature : (r : RequestTerms) (fit : FitTerms) → IsFit r fit
    → judged_signature r fit.cert_key_type ≡ Ok (fit.signature_algo, fit.format)
unfolding judged_signature
fit_signature r fit is = rw (is.signature.1, sym is.algorithm, is.signature.2) refl

-- Terms that are fit are judged so.
pub fit_is_judged : (r : RequestTerms) (fit : FitTerms) → IsFit r fit → judged_terms r ≡ Ok fit
unfolding judged_terms
fit_is_judged r fit is = rw (fit_subject r fit is, fit_use r fit is, fit_signature r fit is) refl

pub judged_where_fit : (r : RequestTerms) (fit : FitTerms) → (judged_terms r ≡ Ok fit) ↔ IsFit r fit
judged_where_fit r fit = (judged_is_fit r fit, fit_is_judged r fit)

-- A certificate's type is for its subject's key.
pub judged_fits : (b : SshCertificateBuilder) (fit : FitTerms) (key : SshPublicKey) → judged_terms (terms_of b) ≡ Ok fit
    → b.public_key ≡ Some key → fits_subject fit.cert_key_type key.inner_key ≡ true
judged_fits b fit key is given =
    let fits = judged_is_fit (terms_of b) fit is in
    let same : fits.subject.0 ≡ kind_of key.inner_key = cc (fits.subject.1, ap subject_kind_in given) in
    for_itself (subject_kind fit.cert_key_type) (kind_of key.inner_key) (fits.subject.2 ∙ ap Some same)
