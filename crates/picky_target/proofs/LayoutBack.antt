-- What is written for PuTTY has PuTTY's own layout, and what is sealed so opens to it.
use Rattle.std.proofs.Common.{◌≡◌, ◌∙◌, ◌<◌, ◌+◌, ◌^◌, ℕ, List, true, Option, None, Some, Ok, length, take, drop, refl, ap}
use Rattle.std.proofs.Common.{sym, subst, arith, inl, inr}
use Rattle.std.proofs.lemmas.List.{length-append}
use Rattle.std.specs.{Option.{IfSome}, Str.{IsUtf8}}
use Rattle.picky_wire_base.specs.{Numbers.{IsBytes}, Outcome.{and_then}}
use Rattle.picky_kv.specs.{declared.PpkVersionKey.{PpkVersionKey}, declared.PpkVersionKey.TheVariants.{V2, V3}}
use Rattle.picky_suite.specs.Meanings.{Meanings}
use Rattle.picky_keys.specs.Key.{IsText}
use Rattle.picky_sshkey_blob.specs.declared.key.SshBasePrivateKey.{SshBasePrivateKey}
use Rattle.picky_sshkey_blob.specs.Key.{IsPrivateKey}
use Rattle.picky_ppk_parts.specs.declared.config.PpkEncryptionConfig.{PpkEncryptionConfig}
use Rattle.picky_ppk_file.specs.{declared.file.PpkFile.{PpkFile}, File.{is_sealed}, FileText.{SaysFile}, Written.{file_text}}
use Rattle.picky_ppk_file.proofs.FileLaws.{said_is_meant}
use Rattle.picky_ppk.specs.declared.layout.PpkLayout.TheVariants as layouts
use Rattle.picky_ppk.specs.{Changed.{file_of_parts}, Checked.{checked, ppk_meaning}, Fresh.{salt_len}, ForPutty.{HasPuttySecret}}
use Rattle.picky_ppk.specs.{PpkLayout.{HasPuttyLayout, laid_file, laid_parts, laid_secret}, Mac.{CarriesMac}, Opened.{decrypted}}
use Rattle.picky_ppk.specs.Sealed.{encrypted, sealing_under}
use Rattle.picky_ppk.proofs.{CheckedLaws.{file_is_taken, made_file_carries}, LayoutLaws.{laid_has_secret, laid_parts_counted}}
use Rattle.picky_ppk.proofs.{SealLaws.{sealed_opened}, SealedLemmas.{draft_fits}}
use Rattle.picky_key_text.specs.{declared.meaning.Key.{Key}, declared.meaning.Meaning.{Meaning}, Kept.{IsKeptMeaning}}
use Rattle.picky_key_text.specs.Key.{private_meaning}
use Rattle.picky_key_text.specs.declared.meaning.Key.TheVariants as keys
use Rattle.picky_target.specs.{Carried.{Carries, Derivation, Kind, Length, PrivateKey}, Output.{Output}}
use Rattle.picky_target.specs.Drafts.{key_padding_len, key_parts_of, plain_file, ppk_file}
use Rattle.picky_target.specs.{ReadBack.{IsConfig}, Texts.{Spells}}
use Rattle.picky_target.specs.declared.target.KeyTarget.TheVariants as targets
use Rattle.picky_target.proofs.FileBack.{made_parts, padding_sized, plain_says, salt_sized, sealed_says}
use Rattle.picky_target.proofs.{FileLemmas.{salt_size}, PlaceLemmas.{test_from_holds}}

-- the parts of a key that fits a file
parts_made : (out : Output) (version : PpkVersionKey) (config : PpkEncryptionConfig) (key : SshBasePrivateKey) (comment : List ℕ)
    → Carries out (targets.Ppk version config layouts.Putty) (private_meaning key comment)
    → length (laid_secret layouts.Putty key) < 2 ^ 32 → laid_parts layouts.Putty key ≡ Ok (key_parts_of layouts.Putty key)
parts_made out version config key comment carries short =
    let room = carries.holds Length in
    made_parts layouts.Putty key (carries.holds Kind) room.blob short

plain_has_secret : (m : Meanings) (version : PpkVersionKey) (key : SshBasePrivateKey) (comment : List ℕ) → IsPrivateKey key
    → laid_parts layouts.Putty key ≡ Ok (key_parts_of layouts.Putty key)
    → HasPuttySecret (plain_file m version layouts.Putty key comment)
unfolding laid_file
plain_has_secret m version key comment is made =
    laid_has_secret m version key comment (plain_file m version layouts.Putty key comment) is
    (ap (λ parts. and_then parts (λ parts. Ok (file_of_parts m version comment parts))) made)

plain_carries : (m : Meanings) (version : PpkVersionKey) (key : SshBasePrivateKey) (comment : List ℕ)
    → CarriesMac m (plain_file m version layouts.Putty key comment)
plain_carries m version key comment = made_file_carries m _ (plain_file m version layouts.Putty key comment) refl refl

-- a file that its text says is what the text means
said_is_read : (m : Meanings) (f : PpkFile) → SaysFile (file_text f) f → checked m f ≡ Ok f → ppk_meaning m (file_text f) ≡ Ok f
unfolding ppk_meaning
said_is_read m f says taken = ap (λ r. and_then r (checked m)) (said_is_meant (file_text f) f says) ∙ taken

sealing_seals : (version : PpkVersionKey) (config : PpkEncryptionConfig) (salt : List ℕ)
    → is_sealed (sealing_under version config salt) ≡ true
sealing_seals V2 config salt = refl
sealing_seals V3 config salt = refl

-- what is sealed opens
sealed_opens : (m : Meanings) (pass fresh : List ℕ) (version : PpkVersionKey) (config : PpkEncryptionConfig)
    (key : SshBasePrivateKey) (comment : List ℕ) → IsPrivateKey key
    → Carries (record { pass = Some pass; fresh = fresh }) (targets.Ppk version config layouts.Putty) (private_meaning key comment)
    → laid_parts layouts.Putty key ≡ Ok (key_parts_of layouts.Putty key)
    → decrypted m pass (ppk_file m (record { pass = Some pass; fresh = fresh }) version config layouts.Putty key comment)
    ≡ Ok (plain_file m version layouts.Putty key comment)
unfolding encrypted
sealed_opens m pass fresh version config key comment is carries made =
    let out : Output = record { pass = Some pass; fresh = fresh } in
    let salt = take (salt_len version config) fresh in
    let padding = take (key_padding_len layouts.Putty key) (drop (salt_len version config) fresh) in
    let plain = plain_file m version layouts.Putty key comment in
    let secret = laid_secret layouts.Putty key in
    let room = carries.holds Length in
    let short : length secret + length padding < 2 ^ 32 = omega (arith, length-append secret padding, room.private) in
    let derives = test_from_holds out (targets.Ppk version config layouts.Putty) (private_meaning key comment) Derivation (carries.holds Derivation) in
    let fits = draft_fits pass config salt padding plain
    (salt_size version config (length salt) (salt_sized pass fresh version config layouts.Putty key comment carries)) derives short in
    sealed_opened m pass salt padding config plain (ppk_file m out version config layouts.Putty key comment)
    (plain_carries m version key comment) (laid_parts_counted layouts.Putty key (key_parts_of layouts.Putty key) is made)
    (padding_sized pass fresh version config layouts.Putty key comment carries) (rw fits refl)

-- ---- each way

abbrev Shows : Meanings → Option (List ℕ) → (text : List ℕ) → Type 0
Shows m pass text = (f : PpkFile) × (ppk_meaning m text ≡ Ok f) × HasPuttyLayout m pass f

file_shows : (m : Meanings) (pass : Option (List ℕ)) (fresh : List ℕ) (version : PpkVersionKey) (config : PpkEncryptionConfig)
    (key : SshBasePrivateKey) (comment : List ℕ) → IsConfig config → IsPrivateKey key → IsText comment → IsBytes fresh
    → IfSome pass IsUtf8
    → Carries (record { pass = pass; fresh = fresh }) (targets.Ppk version config layouts.Putty) (private_meaning key comment)
    → Shows m pass (file_text (ppk_file m (record { pass = pass; fresh = fresh }) version config layouts.Putty key comment))
file_shows m None fresh version config key comment ranges is text fresh_bytes pass_text carries =
    let out : Output = record { pass = None; fresh = fresh } in
    let f = plain_file m version layouts.Putty key comment in
    let room = carries.holds Length in
    let made = parts_made out version config key comment carries room.private in
    let says = plain_says m fresh version config layouts.Putty key comment is text carries in
    let own = plain_carries m version key comment in
    (f, said_is_read m f says (file_is_taken m f (inr own)), (own, plain_has_secret m version key comment is made))
file_shows m (Some pass) fresh version config key comment ranges is text fresh_bytes pass_text carries =
    let out : Output = record { pass = Some pass; fresh = fresh } in
    let f = ppk_file m out version config layouts.Putty key comment in
    let plain = plain_file m version layouts.Putty key comment in
    let secret = laid_secret layouts.Putty key in
    let padding = take (key_padding_len layouts.Putty key) (drop (salt_len version config) fresh) in
    let room = carries.holds Length in
    let made = parts_made out version config key comment carries (omega (arith, length-append secret padding, room.private)) in
    let says = sealed_says m pass fresh version config layouts.Putty key comment ranges is text fresh_bytes pass_text carries in
    let sealed = sealing_seals version config (take (salt_len version config) fresh) in (
      f,
      said_is_read m f says (file_is_taken m f (inl sealed)),
      (
        plain,
        sealed_opens m pass fresh version config key comment is carries made,
        plain_carries m version key comment,
        plain_has_secret m version key comment is made,
      ),
    )

-- A text that spells a key and a comment in PuTTY's layout shows it.
pub spelled_for_putty : (m : Meanings) (out : Output) (version : PpkVersionKey) (config : PpkEncryptionConfig) (meaning : Meaning)
    (text : List ℕ) → IsConfig config → IsKeptMeaning meaning → IsBytes out.fresh → IfSome out.pass IsUtf8
    → Carries out (targets.Ppk version config layouts.Putty) meaning
    → Spells m out (targets.Ppk version config layouts.Putty) meaning text
    → (f : PpkFile) × (ppk_meaning m text ≡ Ok f) × HasPuttyLayout m out.pass f
spelled_for_putty m out version config meaning text ranges is fresh pass carries spells =
    go meaning.key meaning.comment is carries spells
  where
    go : (key : Key) (comment : List ℕ) → IsKeptMeaning (record { key = key; comment = comment })
        → Carries out (targets.Ppk version config layouts.Putty) (record { key = key; comment = comment })
        → Spells m out (targets.Ppk version config layouts.Putty) (record { key = key; comment = comment }) text
        → Shows m out.pass text
    go (keys.Private key) comment is carries spells =
        subst (Shows m out.pass) (sym spells)
        (file_shows m out.pass out.fresh version config key comment ranges is.key is.comment fresh pass carries)
    go (keys.Public key) comment is carries spells = absurd (carries.holds PrivateKey)
