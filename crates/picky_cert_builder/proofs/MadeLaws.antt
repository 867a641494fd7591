-- A certificate that is made has its parts in their ranges, is well formed, and is read back once it is signed.
use Rattle.std.specs.Prelude.{◌≡◌, ◌<◌, ◌^◌, ◌++◌, Bool, true, false, List, [], ◌∷◌, ℕ, Option, Some, None, Ok, All, length}
use Rattle.std.specs.Prelude.{Err, if◌then◌else◌, not}
use Rattle.std.specs.{Option.{IfSome, ok_or}, Str.{trim_end}}
use Rattle.std.proofs.{Common.{refl, sym, ap, subst, arith}, lemmas.Bool.{ltb-true}}
use Rattle.std.proofs.lemmas.List.Elements.{All-from_recursion, All-nil, All-cons, All-head, All-tail}
use Rattle.std.proofs.lemmas.Str.{IsUtf8-nil}
use Rattle.picky_wire_base.specs.carried.Outcome.{and_then_ok}
use Rattle.picky_keys.specs.declared.algorithm.HashAlgorithm.TheVariants as hashes
use Rattle.picky_keys.specs.declared.algorithm.SignatureAlgorithm.{SignatureAlgorithm}
use Rattle.picky_keys.specs.declared.curve.EcCurve.TheVariants.{NistP256, NistP384, NistP521}
use Rattle.picky_keys.specs.{declared.kind.KeyKind.{KeyKind}, declared.key.SshPublicKey.{SshPublicKey}}
use Rattle.picky_keys.specs.{Key.{IsKey, IsString, IsText}, LineRefusal.{is_short}}
use Rattle.picky_keys.specs.declared.algorithm.SignatureAlgorithm.TheVariants as algorithms
use Rattle.picky_keys.specs.declared.kind.KeyKind.TheVariants as kinds
use Rattle.picky_wire.specs.Principals.{IsPrincipal}
use Rattle.picky_cert_parts.specs.declared.signature_format.SshSignatureFormat.{SshSignatureFormat}
use Rattle.picky_cert_parts.specs.{CertNames.{is_sk}, declared.cert_type.SshCertType.{SshCertType}}
use Rattle.picky_cert_parts.specs.declared.cert_type.SshCertType.TheVariants.{Client, Host}
use Rattle.picky_cert_parts.specs.{declared.extension.SshExtension.{SshExtension}, Extension.{IsExtension}}
use Rattle.picky_cert_parts.specs.{Signature.{blob_fits}, CriticalOption.{IsCriticalOption}}
use Rattle.picky_cert_parts.specs.declared.signature_format.SshSignatureFormat.TheVariants as formats
use Rattle.picky_cert_parts.specs.declared.error.SshCertificateError.TheVariants as refusals
use Rattle.picky_cert_parts.specs.declared.error.SshSignatureError.TheVariants as signatures
use Rattle.picky_text.specs.Lines.{HasNo}
use Rattle.picky_keys.proofs.{ByteLaws.{no_bytes}, LineLaws.{chosen}}
use Rattle.picky_cert_blob.specs.Subject.{fits_subject}
use Rattle.picky_cert.specs.declared.certificate.SshCertificate.{SshCertificate}
use Rattle.picky_cert.specs.{Keeps.{IsCertificate, IsWellFormed}, Line.{IsReadBackCertificate}}
use Rattle.picky_cert.specs.{LineRefusal.{cert_line_meaning, cert_line_text}, Spelled.{cert_blob_of, cert_line_of, signed_of}}
use Rattle.picky_cert.proofs.{FormedLaws.{short_is_formed}, ReadBackLaws.{line_reads_back}}
use Rattle.picky_cert_builder.specs.declared.builder.SshCertificateBuilder.{SshCertificateBuilder}
use Rattle.picky_cert_builder.specs.{declared.issuer.IssuerKey.{IssuerKey}, declared.terms.FitTerms.{FitTerms}}
use Rattle.picky_cert_builder.specs.{declared.terms.RequestTerms.{RequestTerms}, Algorithm.{format_of}}
use Rattle.picky_cert_builder.specs.ByName.{in_order, put}
use Rattle.picky_cert_builder.specs.Draft.{Unsigned, certificate_of, or_empty, or_permits, or_zero, requested, signed_with}
use Rattle.picky_cert_builder.specs.Draft.{unsigned_of}
use Rattle.picky_cert_builder.specs.{Fit.{IsFit}, Issuer.{issuer_part}, Keeps.{IsRequest, without_key_comments}}
use Rattle.picky_cert_builder.specs.{Permits.{permits}, Request.{terms_of}, Terms.{judged_terms}}
use Rattle.picky_cert_builder.specs.declared.error.SshCertificateGenerationError.TheVariants as errors
use Rattle.picky_cert_builder.proofs.FitLaws.{judged_fits, judged_is_fit, some_of_ok}

-- ---- lists in order

put_keeps : {X : Type 0} (P : X → Type 0) (less : X → X → Bool) (x : X) (ys : List X) → P x → All P ys → All P (put less x ys)
put_keeps P less x [] px all = All-cons P x [] px (All-nil P)
put_keeps P less x (y ∷ ys) px all =
    elim (less y x) as (λ b. All P (if b then y ∷ put less x ys else x ∷ y ∷ ys)) [
      | true ↦ All-cons P y (put less x ys) (All-head P y ys all) (put_keeps P less x ys px (All-tail P y ys all))
      | false ↦ All-cons P x (y ∷ ys) px all
    ]

order_keeps : {X : Type 0} (P : X → Type 0) (less : X → X → Bool) (xs : List X) → All P xs → All P (in_order less xs)
order_keeps P less [] all = All-nil P
order_keeps P less (x ∷ xs) all =
    put_keeps P less x (in_order less xs) (All-head P x xs all) (order_keeps P less xs (All-tail P x xs all))

-- ---- parts

some_keeps : {A : Type 0} (P : A → Type 0) (o : Option A) (x : A) → IfSome o P → o ≡ Some x → P x
some_keeps P (Some y) x p is = let same : y ≡ x = cc is in subst P same p
some_keeps P None x p is = cc is

empty_keeps : {A : Type 0} (P : List A → Type 0) (o : Option (List A)) → IfSome o P → P [] → P (or_empty o)
empty_keeps P (Some xs) p none = p
empty_keeps P None p none = none

zero_keeps : (o : Option ℕ) → IfSome o (λ n. n < 2 ^ 64) → or_zero o < 2 ^ 64
zero_keeps (Some n) p = p
zero_keeps None p = omega arith

no_string : IsString []
no_string = record { bytes = no_bytes; short = omega arith }

no_text : IsText []
no_text = record { string = no_string; utf8 = IsUtf8-nil }

permits_keep : All IsExtension permits
permits_keep = All-from_recursion IsExtension permits
    ((tt, no_string), ((tt, no_string), ((tt, no_string), ((tt, no_string), ((tt, no_string), tt)))))

or_permits_keep : (kind : SshCertType) (xs : List SshExtension) → All IsExtension xs → All IsExtension (or_permits kind xs)
or_permits_keep Client [] all = permits_keep
or_permits_keep Client (x ∷ xs) all = all
or_permits_keep Host xs all = all

-- ---- what was judged

-- a security key's format is none of those that are made
format_is_plain : (kind : KeyKind) (algorithm : SignatureAlgorithm) (format : SshSignatureFormat)
    → format_of kind algorithm ≡ Some format → is_sk format ≡ false
format_is_plain kinds.Rsa (algorithms.RsaPkcs1v15 hashes.SHA1) format is = let same : formats.SshRsa ≡ format = cc is in ap is_sk (sym same)
format_is_plain kinds.Rsa (algorithms.RsaPkcs1v15 hashes.SHA2_256) format is = let same : formats.RsaSha256 ≡ format = cc is in ap is_sk (sym same)
format_is_plain kinds.Rsa (algorithms.RsaPkcs1v15 hashes.SHA2_512) format is = let same : formats.RsaSha512 ≡ format = cc is in ap is_sk (sym same)
format_is_plain (kinds.Ec NistP256) (algorithms.Ecdsa hashes.SHA2_256) format is = let same : formats.EcdsaSha2Nistp256 ≡ format = cc is in ap is_sk (sym same)
format_is_plain (kinds.Ec NistP384) (algorithms.Ecdsa hashes.SHA2_384) format is = let same : formats.EcdsaSha2Nistp384 ≡ format = cc is in ap is_sk (sym same)
format_is_plain (kinds.Ec NistP521) (algorithms.Ecdsa hashes.SHA2_512) format is = let same : formats.EcdsaSha2Nistp521 ≡ format = cc is in ap is_sk (sym same)
format_is_plain (kinds.Ed curve) algorithms.Ed25519 format is = let same : formats.SshEd25519 ≡ format = cc is in ap is_sk (sym same)
format_is_plain kind algorithm format is = cc is

fit_is_plain : (r : RequestTerms) (fit : FitTerms) → IsFit r fit → is_sk fit.format ≡ false
fit_is_plain r fit is = format_is_plain is.signature.0 fit.signature_algo fit.format is.signature.2

-- ---- the certificate

-- what a request comes to
pub record IsMade (b : SshCertificateBuilder) (nonce : List ℕ) (u : Unsigned) : Type 0 where
  pub fit : FitTerms
  pub key : SshPublicKey
  pub issuer : IssuerKey
  pub judged : judged_terms (terms_of b) ≡ Ok fit
  pub key_is : b.public_key ≡ Some key
  pub issuer_is : b.issuer ≡ Some issuer
  pub is : certificate_of b fit key issuer nonce ≡ u.certificate
  pub short : length (signed_of u.certificate) < 2 ^ 32

pub requested_is_made : (b : SshCertificateBuilder) (nonce : List ℕ) (u : Unsigned) → requested b nonce ≡ Ok u → IsMade b nonce u
unfolding requested
requested_is_made b nonce u is =
    let fit = and_then_ok (judged_terms (terms_of b)) _ u is in
    let key = and_then_ok (ok_or b.public_key errors.MissingPublicKey) _ u fit.2 in
    let issuer = and_then_ok (ok_or b.issuer errors.MissingSignatureKey) _ u key.2 in
    let c : SshCertificate = certificate_of b fit.0 key.0 issuer.0 nonce in
    let passed = chosen (is_short (signed_of c)) (Ok (unsigned_of c fit.0.signature_algo)) errors.TooLong u issuer.2 in
    let same : unsigned_of c fit.0.signature_algo ≡ u = cc passed.1 in
    let is_certificate : c ≡ u.certificate = ap (λ v. v.certificate) same in
    record {
      fit = fit.0;
      key = key.0;
      issuer = issuer.0;
      judged = fit.1;
      key_is = some_of_ok b.public_key errors.MissingPublicKey key.0 key.1;
      issuer_is = some_of_ok b.issuer errors.MissingSignatureKey issuer.0 issuer.1;
      is = is_certificate;
      short = subst (λ d. length (signed_of d) < 2 ^ 32) is_certificate (ltb-true (length (signed_of c)) (2 ^ 32) passed.0);
    }

certificate_keeps : (b : SshCertificateBuilder) (fit : FitTerms) (key : SshPublicKey) (issuer : IssuerKey) (nonce : List ℕ)
    → IsRequest b → IsString nonce → IsFit (terms_of b) fit → b.public_key ≡ Some key → b.issuer ≡ Some issuer
    → IsCertificate (certificate_of b fit key issuer nonce)
certificate_keeps b fit key issuer nonce kept is_nonce says key_is issuer_is = record {
  said = record {
    head = record { nonce = is_nonce; key = some_keeps (λ k. IsKey k.inner_key) b.public_key key kept.key key_is };
    terms = record {
      serial = zero_keeps b.serial kept.serial;
      key_id = empty_keeps IsText b.key_id kept.key_id no_text;
      principals = empty_keeps (All IsPrincipal) b.valid_principals kept.principals (All-nil IsPrincipal);
      after = some_keeps (λ t. t.0 < 2 ^ 64) b.valid_after fit.valid_after kept.after says.after;
      before = some_keeps (λ t. t.0 < 2 ^ 64) b.valid_before fit.valid_before kept.before says.before;
    };
    grants = record {
      options = order_keeps IsCriticalOption _ (or_empty b.critical_options)
          (empty_keeps (All IsCriticalOption) b.critical_options kept.options (All-nil IsCriticalOption));
      extensions = order_keeps IsExtension _ (or_permits fit.cert_type (or_empty b.extensions)) (or_permits_keep fit.cert_type
          (or_empty b.extensions) (empty_keeps (All IsExtension) b.extensions kept.extensions (All-nil IsExtension)));
      issuer = some_keeps (λ i. IsKey (issuer_part i)) b.issuer issuer kept.issuer issuer_is;
    };
  };
  signature = no_string;
  comment = empty_keeps IsText b.comment kept.comment no_text;
}

-- What is made has its parts in their ranges.
pub made_keeps : (b : SshCertificateBuilder) (nonce : List ℕ) (u : Unsigned) → IsRequest b → IsString nonce
    → requested b nonce ≡ Ok u → IsCertificate u.certificate
made_keeps b nonce u kept is_nonce is =
    let made = requested_is_made b nonce u is in
    subst IsCertificate made.is
    (certificate_keeps b made.fit made.key made.issuer nonce kept is_nonce (judged_is_fit (terms_of b) made.fit made.judged) made.key_is
    made.issuer_is)

-- It is well formed.
pub made_is_formed : (b : SshCertificateBuilder) (nonce : List ℕ) (u : Unsigned) → requested b nonce ≡ Ok u
    → IsWellFormed u.certificate
made_is_formed b nonce u is =
    let made = requested_is_made b nonce u is in
    let fits = judged_fits b made.fit made.key made.judged made.key_is in
    short_is_formed u.certificate (subst (λ c. fits_subject c.cert_key_type c.public_key.inner_key ≡ true) made.is fits) made.short

-- its signature's format is no security key's
made_is_plain : (b : SshCertificateBuilder) (nonce : List ℕ) (u : Unsigned) → requested b nonce ≡ Ok u
    → is_sk u.certificate.signature.format ≡ false
made_is_plain b nonce u is =
    let made = requested_is_made b nonce u is in
    subst (λ c. is_sk c.signature.format ≡ false) made.is
    (fit_is_plain (terms_of b) made.fit (judged_is_fit (terms_of b) made.fit made.judged))

-- Signed, it has a line that is read back, the comments of its keys aside.
pub signed_is_kept : (b : SshCertificateBuilder) (nonce : List ℕ) (u : Unsigned) (bytes : List ℕ) → IsRequest b
    → IsString nonce → IsString bytes → requested b nonce ≡ Ok u → HasNo 13 u.certificate.comment
    → HasNo 10 u.certificate.comment → trim_end u.certificate.comment ≡ u.certificate.comment
    → length (cert_line_of (signed_with u.certificate bytes)) < 2 ^ 32 → IsReadBackCertificate (without_key_comments (signed_with u.certificate bytes))
unfolding cert_line_of cert_blob_of signed_of
signed_is_kept b nonce u bytes kept is_nonce is_bytes is no_cr no_lf trimmed short =
    let keeps = made_keeps b nonce u kept is_nonce is in
    record {
      is = record { said = keeps.said; signature = is_bytes; comment = keeps.comment };
      formed = made_is_formed b nonce u is;
      signed = ap not (made_is_plain b nonce u is);
      bare = refl;
      no_cr = no_cr;
      no_lf = no_lf;
      trimmed = trimmed;
      utf8 = keeps.comment.utf8;
      short = short;
    }

-- So it is read back, whatever follows it.
pub signed_is_read_back : (b : SshCertificateBuilder) (nonce : List ℕ) (u : Unsigned) (bytes more : List ℕ) → IsRequest b
    → IsString nonce → IsString bytes → requested b nonce ≡ Ok u → HasNo 13 u.certificate.comment
    → HasNo 10 u.certificate.comment → trim_end u.certificate.comment ≡ u.certificate.comment
    → length (cert_line_of (signed_with u.certificate bytes)) < 2 ^ 32
    → cert_line_meaning (cert_line_of (signed_with u.certificate bytes) ++ more) ≡ Ok (without_key_comments (signed_with u.certificate bytes))
unfolding cert_line_of cert_blob_of signed_of
signed_is_read_back b nonce u bytes more kept is_nonce is_bytes is no_cr no_lf trimmed short =
    line_reads_back (without_key_comments (signed_with u.certificate bytes)) more
    (signed_is_kept b nonce u bytes kept is_nonce is_bytes is no_cr no_lf trimmed short)

-- ---- its subject, its comment and its line

pub made_key : (b : SshCertificateBuilder) (nonce : List ℕ) (u : Unsigned) → requested b nonce ≡ Ok u
    → b.public_key ≡ Some u.certificate.public_key
made_key b nonce u is =
    let made = requested_is_made b nonce u is in
    subst (λ c. b.public_key ≡ Some c.public_key) made.is made.key_is

pub made_comment : (b : SshCertificateBuilder) (nonce : List ℕ) (u : Unsigned) → requested b nonce ≡ Ok u
    → or_empty b.comment ≡ u.certificate.comment
made_comment b nonce u is = ap (λ c. c.comment) (requested_is_made b nonce u is).is

-- a line that is written is short, and no other for the comments of its keys
pub signed_line : (c : SshCertificate) (text : List ℕ) → cert_line_text c ≡ Ok text
    → (cert_line_of (without_key_comments c) ≡ text) × (length (cert_line_of c) < 2 ^ 32)
unfolding cert_line_text cert_line_of cert_blob_of signed_of
signed_line c text is =
    let subject = chosen (fits_subject c.cert_key_type c.public_key.inner_key) _ refusals.SubjectMismatch text is in
    let format = chosen (blob_fits c.signature.format c.signature.blob) _ (refusals.SshSignatureError signatures.BlobMismatch) text subject.1 in
    let short = chosen (is_short (cert_line_of c)) (Ok (cert_line_of c)) refusals.TooLong text format.1 in
    (cc short.1, ltb-true (length (cert_line_of c)) (2 ^ 32) short.0)

-- Its line is refused by its length alone.
pub made_line : (b : SshCertificateBuilder) (nonce : List ℕ) (u : Unsigned) (bytes : List ℕ) → requested b nonce ≡ Ok u
    → cert_line_text (signed_with u.certificate bytes)
    ≡ (if is_short (cert_line_of (signed_with u.certificate bytes)) then Ok (cert_line_of (signed_with u.certificate bytes))
    else Err refusals.TooLong)
unfolding cert_line_text
made_line b nonce u bytes is =
    let made = requested_is_made b nonce u is in
    let fits = judged_fits b made.fit made.key made.judged made.key_is in
    let fits_it = subst (λ c. fits_subject c.cert_key_type c.public_key.inner_key ≡ true) made.is fits in
    let plain = made_is_plain b nonce u is in
    rw (fits_it, plain) refl
