-- A file that is sealed and opened again is the same.
use Rattle.std.proofs.Common.{◌≡◌, ◌++◌, ◌%◌, ◌∙◌, ℕ, List, Bool, true, false, ap, sym, refl, subst, arith, eq-eqb}
use Rattle.std.proofs.Common.{length, take, length-append, Ok, Err}
use Rattle.std.specs.Prelude.{◌&&◌, if◌then◌else◌}
use Rattle.std.specs.Str.{bytes_eq}
use Rattle.std.proofs.Math.Seq.{take-append_seam, take-length}
use Rattle.std.proofs.lemmas.Slice.Eq.{bytes_eq-Decides}
use Rattle.picky_wire_base.specs.Outcome.{and_then}
use Rattle.picky_wire_base.specs.carried.Outcome.{passed_ok}
use Rattle.picky_kv.specs.declared.PpkVersionKey.{PpkVersionKey}
use Rattle.picky_kv.specs.declared.PpkVersionKey.TheVariants.{V2, V3}
use Rattle.picky_suite.specs.Meanings.{Meanings}
use Rattle.picky_suite.specs.Ranges.{IsWhole}
use Rattle.picky_ppk_parts.specs.declared.config.PpkEncryptionConfig.{PpkEncryptionConfig}
use Rattle.picky_ppk_parts.specs.declared.error.PuttyError.TheVariants as errors
use Rattle.picky_ppk_parts.specs.Aes.{is_aligned}
use Rattle.picky_ppk_parts.specs.Counted.{counted}
use Rattle.picky_ppk_parts.specs.Keys.{Keys}
use Rattle.picky_ppk_parts.proofs.CountedLaws.{counted_is_a_front}
use Rattle.picky_ppk_file.specs.declared.file.PpkFile.{PpkFile}
use Rattle.picky_ppk_file.specs.declared.file.PpkSealing.{PpkSealing}
use Rattle.picky_ppk_file.specs.declared.file.PpkSealing.TheVariants.{Unsealed, SealedV2, SealedV3}
use Rattle.picky_ppk_file.specs.File.{version_of, is_sealed}
use Rattle.picky_ppk.specs.Keyed.{can_derive, keys_under}
use Rattle.picky_ppk.specs.Mac.{CarriesMac, mac_under, own_mac}
use Rattle.picky_ppk.specs.Sealed.{lacking, padding_len, sealing_under, file_to_seal, seal_draft, is_sealable, not_sealable, encrypted}
use Rattle.picky_ppk.specs.Opened.{is_openable, not_openable, opened_file, unsealed, decrypted}

-- ---- tests

if_true : {A : Type 0} (b : Bool) (x y : A) → b ≡ true → (if b then x else y) ≡ x
if_true true x y is = refl
if_true false x y is = cc is

middle_true : (a b c : Bool) → (a && b && c) ≡ true → b ≡ true
middle_true true true c is = refl
middle_true true false c is = cc is
middle_true false b c is = cc is

all_true : (a b c : Bool) → a ≡ true → b ≡ true → c ≡ true → (a && b && c) ≡ true
all_true a b c a_is b_is c_is = rw (a_is, b_is) c_is

-- ---- what seals

sealing_version : (v : PpkVersionKey) (config : PpkEncryptionConfig) (salt : List ℕ)
    → version_of (sealing_under v config salt) ≡ v
sealing_version V2 config salt = refl
sealing_version V3 config salt = refl

sealing_seals : (v : PpkVersionKey) (config : PpkEncryptionConfig) (salt : List ℕ)
    → is_sealed (sealing_under v config salt) ≡ true
sealing_seals V2 config salt = refl
sealing_seals V3 config salt = refl

open_sealing : (s : PpkSealing) → is_sealed s ≡ false → Unsealed (version_of s) ≡ s
open_sealing (Unsealed version) is = refl
open_sealing SealedV2 is = cc is
open_sealing (SealedV3 params) is = cc is

-- ---- the padding

padded_is_whole : (private padding : List ℕ) → length padding ≡ lacking private → IsWhole (private ++ padding)
padded_is_whole private padding len = omega (arith, length-append private padding, len)

-- The private bytes and any padding are counted as the private bytes.
padded_counted : (f : PpkFile) (padding : List ℕ)
    → counted f.algorithm f.private_bytes ≡ Ok (length f.private_bytes)
    → counted f.algorithm (f.private_bytes ++ padding) ≡ Ok (length f.private_bytes)
padded_counted f padding is =
    ap (λ p. counted f.algorithm (p ++ padding)) (sym (take-length f.private_bytes))
    ∙ (counted_is_a_front f.algorithm f.private_bytes padding (length f.private_bytes) is).1

-- ---- the file

-- with another sealing and its own MAC
abbrev resealed : Meanings → PpkFile → PpkSealing → PpkFile
resealed m f sealing = record f { sealing = sealing; mac = own_mac m (record f { sealing = sealing }) }

-- What was sealed of a file's own bytes is, unsealed, the file.
unsealed_again : (m : Meanings) (keys : Keys) (config : PpkEncryptionConfig) (salt padding : List ℕ) (f : PpkFile)
    → CarriesMac m f → unsealed m (seal_draft m keys (file_to_seal config salt padding f)) f.private_bytes ≡ f
unfolding own_mac
unsealed_again m keys config salt padding f carries =
    let sealing : Unsealed (version_of (sealing_under (version_of f.sealing) config salt)) ≡ f.sealing =
    ap Unsealed (sealing_version (version_of f.sealing) config salt) ∙ open_sealing f.sealing carries.0 in
    ap (resealed m f) sealing ∙ ap (λ mac. record f { mac = mac }) (sym carries.1)

-- The draft sealed is opened.
pub draft_opened : (m : Meanings) (pass : List ℕ) (config : PpkEncryptionConfig) (salt padding : List ℕ) (f : PpkFile)
    → CarriesMac m f → counted f.algorithm f.private_bytes ≡ Ok (length f.private_bytes)
    → length padding ≡ padding_len f → can_derive (sealing_under (version_of f.sealing) config salt) pass ≡ true
    → let draft = file_to_seal config salt padding f in
    decrypted m pass (seal_draft m (keys_under m draft.sealing pass) draft) ≡ Ok f
unfolding decrypted
draft_opened m pass config salt padding f carries is len derives =
    let draft = file_to_seal config salt padding f in
    let keys = keys_under m draft.sealing pass in
    let sealed = seal_draft m keys draft in
    let plain = f.private_bytes ++ padding in
    let whole : IsWhole plain = padded_is_whole f.private_bytes padding len in
    let block = m.cbc_seal keys.key keys.iv plain in
    let aligned : is_aligned block ≡ true =
    eq-eqb (length block % 16) 0 (ap (λ n. n % 16) (m.seal_len keys.key keys.iv plain) ∙ whole) in
    let openable : is_openable pass sealed ≡ true =
    all_true (is_sealed draft.sealing) (can_derive draft.sealing pass) (is_aligned block)
    (sealing_seals (version_of f.sealing) config salt) derives aligned in
    let mac = mac_under m keys.mac_key draft plain in
    if_true (is_openable pass sealed) (opened_file m keys sealed (m.cbc_open keys.key keys.iv block))
    (Err (not_openable pass sealed)) openable
    ∙ ap (opened_file m keys sealed) (m.opens keys.key keys.iv plain whole)
    ∙ if_true (bytes_eq mac mac)
    (and_then (counted f.algorithm plain) (λ n. Ok (unsealed m sealed (take n plain)))) (Err errors.MacValidation)
    ((bytes_eq-Decides mac mac).1 refl)
    ∙ ap (λ r. and_then r (λ n. Ok (unsealed m sealed (take n plain)))) (padded_counted f padding is)
    ∙ ap (λ p. Ok (unsealed m sealed p)) (take-append_seam f.private_bytes padding)
    ∙ ap Ok (unsealed_again m keys config salt padding f carries)

-- So is each file that was sealed.
pub sealed_opened : (m : Meanings) (pass salt padding : List ℕ) (config : PpkEncryptionConfig) (f sealed : PpkFile)
    → CarriesMac m f → counted f.algorithm f.private_bytes ≡ Ok (length f.private_bytes)
    → length padding ≡ padding_len f → encrypted m pass config salt padding f ≡ Ok sealed
    → decrypted m pass sealed ≡ Ok f
unfolding encrypted
sealed_opened m pass salt padding config f sealed carries is len made =
    let draft = file_to_seal config salt padding f in
    let both = passed_ok (is_sealable pass f draft) (not_sealable pass f draft)
    (seal_draft m (keys_under m draft.sealing pass) draft) sealed made in
    let derives = middle_true _ _ _ both.0 in
    subst (λ (s : PpkFile). decrypted m pass s ≡ Ok f) both.1
    (draft_opened m pass config salt padding f carries is len derives)
