-- What is written of PuTTY's private key file step by step is what its conditions say.
use Rattle.std.proofs.Common.{◌≡◌, ◌∙◌, ◌+◌, ◌^◌, ℕ, List, Bool, true, false, Option, None, Some, Result, Ok, Err, length, take}
use Rattle.std.proofs.Common.{drop, refl, ap, sym, arith, inl, inr}
use Rattle.std.proofs.lemmas.Bool.{cases_Bool, leb-true, le-leb, ltb-true, ltb-false, le-ltb}
use Rattle.std.proofs.lemmas.List.{length-append, length-take, length-replicate}
use Rattle.std.specs.Prelude.{◌++◌, ◌&&◌, is_ok, is_some, nat_le, nat_lt, replicate, if◌then◌else◌}
use Rattle.picky_wire_base.specs.Outcome.{and_then}
use Rattle.picky_kv.specs.{declared.PpkVersionKey.{PpkVersionKey}, declared.PpkVersionKey.TheVariants.{V2, V3}}
use Rattle.picky_suite.specs.Meanings.{Meanings}
use Rattle.picky_keys.specs.{Blob.{blob_of}, LineRefusal.{is_short}}
use Rattle.picky_sshkey_blob.specs.{declared.key.SshBasePrivateKey.{SshBasePrivateKey}, Key.{public_part}}
use Rattle.picky_ppk_parts.specs.{declared.config.PpkEncryptionConfig.{PpkEncryptionConfig}, Mac.{mac_of}}
use Rattle.picky_ppk.specs.{declared.layout.PpkLayout.{PpkLayout}, PpkLayout.{laid_file, laid_secret}}
use Rattle.picky_ppk_parts.specs.declared.error.PuttyError.TheVariants as putty
use Rattle.picky_ppk_file.specs.{declared.file.PpkFile.{PpkFile}, File.{version_of}}
use Rattle.picky_ppk_file.specs.{Written.{file_text, fits_block, file_spelled as file_written}, PuttyRefusal.{is_security_key}}
use Rattle.picky_ppk.specs.{Keyed.{keys_under}, Mac.{own_mac}}
use Rattle.picky_ppk.specs.{Sealed.{encrypted, file_to_seal, sealing_under}, Fresh.{salt_len}}
use Rattle.picky_ppk.proofs.SealedLemmas.{draft_fits}
use Rattle.picky_key_text.specs.Key.{private_meaning}
use Rattle.picky_target.specs.{declared.error.ConvertError.{ConvertError}, Output.{Output}}
use Rattle.picky_target.specs.Drafts.{plain_file, key_padding_len, sealed_file, private_bytes}
use Rattle.picky_target.specs.Judged.{carries_comment, derives_under, judged_meaning, mac_len, measured_file}
use Rattle.picky_target.specs.Written.{written, writing_asks}
use Rattle.picky_target.specs.inner.File.{plain_written, Sealable, sealable_file, sealed_text, ppk_written, ppk_writing_asks}
use Rattle.picky_target.specs.declared.error.ConvertError.TheVariants as errors
use Rattle.picky_target.specs.declared.target.KeyTarget.TheVariants as targets
use Rattle.picky_target.proofs.{FileLemmas.{laid_parts_are, salt_size}, LengthLemmas.{same_length, sealing_version}}

-- ---- lengths

mac_of_len : (m : Meanings) (version : PpkVersionKey) (key input : List ℕ) → length (mac_of m version key input) ≡ mac_len version
mac_of_len m V2 key input = (m.sha1_is_mac key input).len
mac_of_len m V3 key input = (m.sha256_is_mac key input).len

own_mac_len : (m : Meanings) (f : PpkFile) → length (own_mac m f) ≡ mac_len (version_of f.sealing)
unfolding own_mac
own_mac_len m f = mac_of_len m (version_of f.sealing) _ _

zeros_len : (version : PpkVersionKey) → length {A = ℕ} (replicate (mac_len version) 0) ≡ mac_len version
zeros_len version = length-replicate (mac_len version) 0

-- The file that isn't sealed is as long as what is measured.
pub plain_len : (m : Meanings) (fresh : List ℕ) (version : PpkVersionKey) (config : PpkEncryptionConfig) (layout : PpkLayout) (key : SshBasePrivateKey)
    (comment : List ℕ)
    → length (file_text (measured_file (record { pass = None; fresh = fresh }) version config layout key comment))
    ≡ length (file_text (plain_file m version layout key comment))
plain_len m fresh version config layout key comment =
    same_length (plain_file m version layout key comment) (laid_secret layout key) (replicate (mac_len version) 0) refl
    (zeros_len version ∙ sym (own_mac_len m _))

-- So is the sealed one.
pub sealed_len : (m : Meanings) (pass fresh : List ℕ) (version : PpkVersionKey) (config : PpkEncryptionConfig) (layout : PpkLayout)
    (key : SshBasePrivateKey) (comment : List ℕ)
    → length (file_text (measured_file (record { pass = Some pass; fresh = fresh }) version config layout key comment))
    ≡ length (file_text (sealed_file m (record { pass = Some pass; fresh = fresh }) version config layout pass (plain_file m version layout key comment) key))
sealed_len m pass fresh version config layout key comment =
    let salt = take (salt_len version config) fresh in
    let padding = take (key_padding_len layout key) (drop (salt_len version config) fresh) in
    let sealing = sealing_under version config salt in
    let keys = keys_under m sealing pass in
    let plain = plain_file m version layout key comment in
    let draft = file_to_seal config salt padding plain in
    let covered = mac_of_len m (version_of sealing) keys.mac_key _ ∙ ap mac_len (sealing_version version config salt) in
    same_length (sealed_file m (record { pass = Some pass; fresh = fresh }) version config layout pass plain key)
    (laid_secret layout key ++ padding) (replicate (mac_len version) 0)
    (sym (m.seal_len keys.key keys.iv (laid_secret layout key ++ padding))) (zeros_len version ∙ sym covered)

-- ---- what is judged after the kind and the comment

abbrev rest : (derives enough blob private text lines : Bool) → Result (Unit {0}) ConvertError
rest derives enough blob private text lines =
    if derives then (if enough then (if blob && private && text then (if lines then Ok tt else Err errors.TooManyLines)
    else Err errors.TooLong) else Err errors.FreshTooShort) else Err (errors.Putty putty.Argon2)

-- ---- the file that isn't sealed

plain_is : (m : Meanings) (fresh : List ℕ) (version : PpkVersionKey) (config : PpkEncryptionConfig) (layout : PpkLayout) (key : SshBasePrivateKey)
    (comment : List ℕ) → is_security_key (public_part key) ≡ false
    → plain_written m version layout key comment
    ≡ and_then (rest true true (is_short (blob_of (public_part key))) (is_short (laid_secret layout key))
    (is_short (file_text (measured_file (record { pass = None; fresh = fresh }) version config layout key comment)))
    (fits_block (blob_of (public_part key)) && fits_block (laid_secret layout key)))
    (λ _. Ok (file_text (plain_file m version layout key comment)))
unfolding laid_file file_written
plain_is m fresh version config layout key comment plain =
    let blob = blob_of (public_part key) in
    let secret = laid_secret layout key in
    let same = ap (λ n. nat_lt n (2 ^ 32)) (plain_len m fresh version config layout key comment) in
    rw (laid_parts_are layout key plain, same) (elim (cases_Bool (is_short blob)) [
      | inr long ↦ rw long refl
      | inl short ↦ rw short (elim (cases_Bool (is_short secret)) [
        | inr long ↦ rw long refl
        | inl short ↦ rw short (elim (cases_Bool (is_short (file_text (plain_file m version layout key comment)))) [
          | inr long ↦ rw long refl
          | inl short ↦ rw short (elim (cases_Bool (fits_block blob && fits_block secret)) [
            | inr many ↦ rw many refl
            | inl few ↦ rw few refl
          ])
        ])
      ])
    ])

-- ---- the sealed one

abbrev under : (pass fresh : List ℕ) → Output
under pass fresh = record { pass = Some pass; fresh = fresh }

abbrev sealed_rest : (pass fresh : List ℕ) → PpkVersionKey → PpkEncryptionConfig → PpkLayout → SshBasePrivateKey → (comment : List ℕ)
    → Result (Unit {0}) ConvertError
sealed_rest pass fresh version config layout key comment =
    rest (derives_under (targets.Ppk version config layout) pass) (nat_le (salt_len version config + key_padding_len layout key) (length fresh))
    (is_short (blob_of (public_part key))) (is_short (private_bytes (under pass fresh) version config layout key))
    (is_short (file_text (measured_file (under pass fresh) version config layout key comment)))
    (fits_block (blob_of (public_part key)) && fits_block (private_bytes (under pass fresh) version config layout key))

abbrev to_seal : Meanings → (fresh : List ℕ) → PpkVersionKey → PpkEncryptionConfig → PpkLayout → SshBasePrivateKey → (comment : List ℕ) → Sealable
to_seal m fresh version config layout key comment = record {
  salt = take (salt_len version config) fresh;
  padding = take (key_padding_len layout key) (drop (salt_len version config) fresh);
  plain = plain_file m version layout key comment;
}

-- a secret is no longer than with its padding
secret_short : (secret padding : List ℕ) → is_short secret ≡ false → is_short (secret ++ padding) ≡ false
secret_short secret padding long =
    let most = ltb-false (length secret) (2 ^ 32) long in
    le-ltb (length (secret ++ padding)) (2 ^ 32) (omega (arith, most, length-append secret padding))

sealable_is : (m : Meanings) (pass fresh : List ℕ) (version : PpkVersionKey) (config : PpkEncryptionConfig) (layout : PpkLayout)
    (key : SshBasePrivateKey) (comment : List ℕ) → is_security_key (public_part key) ≡ false
    → sealable_file m pass fresh version config layout key comment
    ≡ and_then (sealed_rest pass fresh version config layout key comment) (λ _. Ok (to_seal m fresh version config layout key comment))
unfolding laid_file
sealable_is m pass fresh version config layout key comment plain =
    let blob = blob_of (public_part key) in
    let secret = laid_secret layout key in
    let salt = take (salt_len version config) fresh in
    let padding = take (key_padding_len layout key) (drop (salt_len version config) fresh) in
    let file = measured_file (record { pass = Some pass; fresh = fresh }) version config layout key comment in
    elim (cases_Bool (derives_under (targets.Ppk version config layout) pass)) [
      | inr bad ↦ rw bad refl
      | inl derives ↦ rw derives (elim (cases_Bool (nat_le (salt_len version config + key_padding_len layout key) (length fresh))) [
        | inr few ↦ rw few refl
        | inl enough ↦ rw (enough, laid_parts_are layout key plain) (elim (cases_Bool (is_short blob)) [
          | inr long ↦ rw long refl
          | inl short ↦ rw short (elim (cases_Bool (is_short secret)) [
            | inr long ↦ rw (long, secret_short secret padding long) refl
            | inl short ↦ rw short (elim (cases_Bool (is_short (secret ++ padding))) [
              | inr long ↦ rw long refl
              | inl short ↦ rw short (elim (cases_Bool (is_short (file_text file))) [
                | inr long ↦ rw long refl
                | inl short ↦ rw short (elim (cases_Bool (fits_block blob && fits_block (secret ++ padding))) [
                  | inr many ↦ rw many refl
                  | inl lines ↦ rw lines refl
                ])
              ])
            ])
          ])
        ])
      ])
    ]

rest_says : (derives enough blob private text lines : Bool) → rest derives enough blob private text lines ≡ Ok tt
    → (derives ≡ true) × (enough ≡ true) × (private ≡ true) × (text ≡ true) × (lines ≡ true)
rest_says true true true true true true is = (refl, refl, refl, refl, refl)
rest_says true true true true true false is = cc is
rest_says true true true true false lines is = cc is
rest_says true true true false text lines is = cc is
rest_says true true false private text lines is = cc is
rest_says true false blob private text lines is = cc is
rest_says false enough blob private text lines is = cc is

-- what was judged is sealed
sealing_done : (m : Meanings) (pass fresh : List ℕ) (version : PpkVersionKey) (config : PpkEncryptionConfig) (layout : PpkLayout)
    (key : SshBasePrivateKey) (comment : List ℕ)
    → sealed_rest pass fresh version config layout key comment ≡ Ok tt
    → sealed_text m pass config (to_seal m fresh version config layout key comment)
    ≡ Ok (file_text (sealed_file m (under pass fresh) version config layout pass (plain_file m version layout key comment) key))
unfolding encrypted file_written
sealing_done m pass fresh version config layout key comment judged =
    let blob = blob_of (public_part key) in
    let says = rest_says (derives_under (targets.Ppk version config layout) pass) (nat_le (salt_len version config + key_padding_len layout key) (length fresh))
    (is_short blob) (is_short (private_bytes (under pass fresh) version config layout key))
    (is_short (file_text (measured_file (under pass fresh) version config layout key comment)))
    (fits_block blob && fits_block (private_bytes (under pass fresh) version config layout key)) judged in
    let secret = laid_secret layout key in
    let n = salt_len version config in
    let salt = take n fresh in
    let padding = take (key_padding_len layout key) (drop n fresh) in
    let plain = plain_file m version layout key comment in
    let keys = keys_under m (sealing_under version config salt) pass in
    let long = leb-true (n + key_padding_len layout key) (length fresh) says.1 in
    let salt_len_is : length salt ≡ n = omega (arith, long, length-take n fresh) in
    let bytes = ltb-true (length (secret ++ padding)) (2 ^ 32) says.2 in
    let fits = draft_fits pass config salt padding plain (salt_size version config (length salt) salt_len_is)
    says.0 (omega (arith, bytes, length-append secret padding)) in
    let text_fits = sym (ap (λ n. nat_lt n (2 ^ 32)) (sealed_len m pass fresh version config layout key comment)) ∙ says.3 in
    let lines_fit = ap (λ n. fits_block blob && nat_le n 3145680) (m.seal_len keys.key keys.iv (secret ++ padding)) ∙ says.4 in
    rw (fits, text_fits, lines_fit) refl

-- what is judged, and then sealed
after_judging : {A : Type 0} (r : Result (Unit {0}) ConvertError) (x : A) (next : A → Result (List ℕ) ConvertError) (text : List ℕ)
    → (r ≡ Ok tt → next x ≡ Ok text)
    → and_then (and_then r (λ _. Ok x)) next ≡ and_then r (λ _. Ok text)
after_judging (Ok done) x next text each = each refl
after_judging (Err e) x next text each = refl

passed_alike : (r : Result (Unit {0}) ConvertError) (s : Sealable) → is_ok (and_then r (λ _. Ok s)) ≡ is_ok r
passed_alike (Ok done) s = refl
passed_alike (Err e) s = refl

-- ---- each way

abbrev pub AreWritten : Meanings → Output → PpkVersionKey → PpkEncryptionConfig → PpkLayout → SshBasePrivateKey → List ℕ → Type 0
AreWritten m out version config layout key comment =
    (ppk_written m out version config layout key comment ≡ written m out (targets.Ppk version config layout) (private_meaning key comment))
    × (ppk_writing_asks m out version config layout key comment ≡ writing_asks out (targets.Ppk version config layout) (private_meaning key comment))

-- what comes first is judged alike
first : (m : Meanings) (out : Output) (version : PpkVersionKey) (config : PpkEncryptionConfig) (layout : PpkLayout) (key : SshBasePrivateKey)
    (comment : List ℕ)
    → (is_security_key (public_part key) ≡ false → carries_comment (targets.Ppk version config layout) comment ≡ true
    → AreWritten m out version config layout key comment)
    → AreWritten m out version config layout key comment
unfolding written writing_asks judged_meaning
first m out version config layout key comment rest =
    elim (cases_Bool (is_security_key (public_part key))) [
      | inl is_sk ↦ rw is_sk (refl, sym (and_false (is_some out.pass)))
      | inr plain ↦ elim (cases_Bool (carries_comment (targets.Ppk version config layout) comment)) [
        | inl carries ↦ rest plain carries
        | inr bad ↦ rw (plain, bad) (refl, sym (and_false (is_some out.pass)))
      ]
    ]
  where
    and_false : (b : Bool) → (b && false) ≡ false
    and_false true = refl
    and_false false = refl

plain_is_written : (m : Meanings) (fresh : List ℕ) (version : PpkVersionKey) (config : PpkEncryptionConfig) (layout : PpkLayout)
    (key : SshBasePrivateKey) (comment : List ℕ) → is_security_key (public_part key) ≡ false
    → carries_comment (targets.Ppk version config layout) comment ≡ true
    → AreWritten m (record { pass = None; fresh = fresh }) version config layout key comment
unfolding written writing_asks judged_meaning
plain_is_written m fresh version config layout key comment plain carries =
    let enough : nat_le 0 (length fresh) ≡ true = le-leb 0 (length fresh) (omega arith) in
    rw (plain, carries, enough) (plain_is m fresh version config layout key comment plain, refl)

sealed_is_written : (m : Meanings) (pass fresh : List ℕ) (version : PpkVersionKey) (config : PpkEncryptionConfig) (layout : PpkLayout)
    (key : SshBasePrivateKey) (comment : List ℕ) → is_security_key (public_part key) ≡ false
    → carries_comment (targets.Ppk version config layout) comment ≡ true
    → AreWritten m (record { pass = Some pass; fresh = fresh }) version config layout key comment
unfolding written writing_asks judged_meaning
sealed_is_written m pass fresh version config layout key comment plain carries =
    let is = sealable_is m pass fresh version config layout key comment plain in
    let judged = sealed_rest pass fresh version config layout key comment in
    let seal = to_seal m fresh version config layout key comment in
    let text = file_text (sealed_file m (under pass fresh) version config layout pass (plain_file m version layout key comment) key) in
    rw (plain, carries, is) (
      after_judging judged seal (sealed_text m pass config) text (sealing_done m pass fresh version config layout key comment),
      passed_alike judged seal,
    )

-- PuTTY's private key file is written as its conditions say, and the suite is asked as they say.
pub file_is_written : (m : Meanings) (pass : Option (List ℕ)) (fresh : List ℕ) (version : PpkVersionKey)
    (config : PpkEncryptionConfig) (layout : PpkLayout) (key : SshBasePrivateKey) (comment : List ℕ)
    → AreWritten m (record { pass = pass; fresh = fresh }) version config layout key comment
file_is_written m None fresh version config layout key comment =
    first m (record { pass = None; fresh = fresh }) version config layout key comment (plain_is_written m fresh version config layout key comment)
file_is_written m (Some pass) fresh version config layout key comment =
    first m (record { pass = Some pass; fresh = fresh }) version config layout key comment (sealed_is_written m pass fresh version config layout key comment)
