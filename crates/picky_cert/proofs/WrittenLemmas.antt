-- A part of a certificate that is too long makes the whole too long.
use Rattle.std.specs.Prelude.{◌≡◌, Bool, true, false, if◌then◌else◌, List, [], ◌∷◌, ◌++◌, ℕ, ◌≤◌, ◌^◌, length, nat_lt, Some, None}
use Rattle.std.specs.Int.{w32, w64, to_be_bytes}
use Rattle.std.specs.List.{concat}
use Rattle.std.proofs.Common.{◌∙◌, ap, arith, refl, append_assoc}
use Rattle.std.proofs.lemmas.Bool.{ltb-false}
use Rattle.std.proofs.lemmas.List.{append-nil, length-append}
use Rattle.picky_wire_base.specs.Wire.{string_of}
use Rattle.picky_wire_base.proofs.PieceLemmas.{length-string_of}
use Rattle.picky_text.proofs.Base64Laws.{length_base64}
use Rattle.picky_keys.specs.Blob.{blob_of as key_blob_of}
use Rattle.picky_cert_parts.specs.declared.error.SshSignatureError.{SshSignatureError}
use Rattle.picky_cert_parts.specs.declared.error.SshSignatureError.TheVariants as errors
use Rattle.picky_cert_parts.specs.declared.signature_format.SshSignatureFormat.{SshSignatureFormat}
use Rattle.picky_cert_parts.specs.declared.signature.SshSignature.{SshSignature}
use Rattle.picky_cert_parts.specs.declared.signature.SshSignatureBlob.{SshSignatureBlob}
use Rattle.picky_cert_parts.specs.declared.signature.SshSignatureBlob.TheVariants as blobs
use Rattle.picky_cert_parts.specs.Signature.{behind_total, blob_fits, signature_of, signature_reason, total_of}
use Rattle.picky_cert_parts.specs.CertNumber.{cert_type_number}
use Rattle.picky_cert_parts.specs.CertType.{cert_type_of}
use Rattle.picky_cert_blob.specs.Layout.{Grants, Terms}
use Rattle.picky_cert_blob.specs.Spelled.{body_spelled, extensions_block, grants_spelled, options_block, principals_block, terms_spelled}
use Rattle.picky_cert.specs.declared.certificate.SshCertificate.{SshCertificate}
use Rattle.picky_cert.specs.Certificate.{said}
use Rattle.picky_cert.specs.Spelled.{cert_blob_of, cert_line_of, signed_of}

-- ---- what is signed

pub principals_within : (t : Terms) → length (principals_block t) ≤ length (terms_spelled t)
unfolding terms_spelled
principals_within t = simp (length-append, length-string_of) (omega arith)

pub options_within : (g : Grants) → length (options_block g) ≤ length (grants_spelled g)
unfolding grants_spelled
options_within g = simp (length-append, length-string_of) (omega arith)

pub extensions_within : (g : Grants) → length (extensions_block g) ≤ length (grants_spelled g)
unfolding grants_spelled
extensions_within g = simp (length-append, length-string_of) (omega arith)

pub issuer_within : (g : Grants) → length (key_blob_of g.issuer) ≤ length (grants_spelled g)
unfolding grants_spelled
issuer_within g = simp (length-append, length-string_of) (omega arith)

pub terms_within : (c : SshCertificate) → length (terms_spelled (said c).terms) ≤ length (signed_of c)
unfolding signed_of body_spelled
terms_within c = simp length-append (omega arith)

pub grants_within : (c : SshCertificate) → length (grants_spelled (said c).grants) ≤ length (signed_of c)
unfolding signed_of body_spelled
grants_within c = simp length-append (omega arith)

pub ruleset parts_within = (principals_within, options_within, extensions_within, issuer_within, terms_within, grants_within)

-- the terms are pushed in two parts
pub terms_pushed : (t : Terms) (block front back out mid end : List ℕ) → block ≡ principals_block t
    → front ≡ concat (to_be_bytes w64 t.serial ∷ to_be_bytes w32 (cert_type_number t.cert_type) ∷ string_of t.key_id ∷ [])
    → back ≡ concat (string_of block ∷ to_be_bytes w64 t.after.0 ∷ to_be_bytes w64 t.before.0 ∷ [])
    → mid ≡ out ++ front → end ≡ mid ++ back → end ≡ out ++ terms_spelled t
unfolding terms_spelled cert_type_of
terms_pushed t block front back out mid end is first second pushed_first pushed_second =
    let tail : List ℕ = to_be_bytes w64 t.after.0 ++ (to_be_bytes w64 t.before.0 ++ []) in
    let names : string_of block ++ tail ≡ string_of (principals_block t) ++ tail = ap (λ b. string_of b ++ tail) is in
    let key : (string_of t.key_id ++ []) ++ (string_of block ++ tail) ≡ string_of t.key_id ++ (string_of (principals_block t) ++ tail) =
    ap (λ k. k ++ (string_of block ++ tail)) (append-nil (string_of t.key_id)) ∙ ap (λ b. string_of t.key_id ++ b) names in
    let joined : front ++ back ≡ to_be_bytes w64 t.serial ++ (to_be_bytes w32 (cert_type_number t.cert_type)
    ++ (string_of t.key_id ++ (string_of (principals_block t) ++ tail))) =
    ap (λ f. f ++ back) first ∙ ap (λ b. concat (to_be_bytes w64 t.serial ∷ to_be_bytes w32 (cert_type_number t.cert_type)
    ∷ string_of t.key_id ∷ []) ++ b) second
    ∙ ap (λ b. to_be_bytes w64 t.serial ++ (to_be_bytes w32 (cert_type_number t.cert_type) ++ b)) key in
    pushed_second ∙ ap (λ m. m ++ back) pushed_first ∙ append_assoc out front back ∙ ap (λ b. out ++ b) joined

-- ---- a signature

total_in_blob : (total : ℕ) (format : SshSignatureFormat) (blob : SshSignatureBlob)
    → total_of (record { format = format; blob = blob }) ≤ length (behind_total total (record { format = format; blob = blob }))
unfolding behind_total
total_in_blob total format (blobs.Standard payload) = simp (length-append, length-string_of) (omega arith)
total_in_blob total format (blobs.Sk payload flags counter) = simp (length-append, length-string_of) (omega arith)

pub total_within : (s : SshSignature) → total_of s ≤ length (signature_of s)
unfolding signature_of
total_within s = total_in_blob (total_of s) s.format s.blob

over : (b : Bool) (e : SshSignatureError) → (if b then None else Some errors.TooLong) ≡ Some e → b ≡ false
over true e is = cc is
over false e is = refl

-- where its blob fits, it isn't written for its length alone
pub long_total : (s : SshSignature) (e : SshSignatureError) → blob_fits s.format s.blob ≡ true → signature_reason s ≡ Some e
    → 2 ^ 32 ≤ length (signature_of s)
long_total s e fits refused =
    let long = over (nat_lt (total_of s) (2 ^ 32)) e (rw fits at refused) in
    omega (arith, total_within s, ltb-false (total_of s) (2 ^ 32) long)

-- ---- a line

pub signed_within : (c : SshCertificate) → length (signed_of c) ≤ length (cert_blob_of c)
unfolding cert_blob_of
signed_within c = simp length-append (omega arith)

pub signature_within : (c : SshCertificate) → length (signature_of c.signature) ≤ length (cert_blob_of c)
unfolding cert_blob_of
signature_within c = simp length-append (omega arith)

pub blob_within : (c : SshCertificate) → length (cert_blob_of c) ≤ length (cert_line_of c)
unfolding cert_line_of
blob_within c = simp length-append (omega (arith, length_base64 (cert_blob_of c)))

pub ruleset line_within = (total_within, signed_within, signature_within, blob_within)
