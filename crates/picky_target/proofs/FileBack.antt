-- PuTTY's private key file that is written is read back.
use Rattle.std.proofs.Common.{◌≡◌, ◌∙◌, ◌<◌, ◌≤◌, ◌+◌, ◌^◌, ℕ, List, [], true, false, Option, None, Some, Ok, length, take}
use Rattle.std.proofs.Common.{drop, refl, ap, sym, subst, arith, inl, inr}
use Rattle.std.proofs.{Math.Seq.{take-length}, lemmas.Bool.{le-leb, lt-ltb}}
use Rattle.std.proofs.lemmas.List.{append-nil, length-append, length-drop, length-take}
use Rattle.std.specs.{Prelude.{◌++◌, ◌&&◌}, Option.{IfSome}, Str.{IsUtf8}}
use Rattle.picky_wire_base.specs.Numbers.{IsBytes}
use Rattle.picky_text.specs.Lines.{IsLine}
use Rattle.picky_kv.specs.{declared.PpkVersionKey.{PpkVersionKey}, declared.PpkVersionKey.TheVariants.{V2, V3}}
use Rattle.picky_suite.specs.{Meanings.{Meanings}, Ranges.{IsWhole}}
use Rattle.picky_keys.specs.{Blob.{blob_of}, Key.{IsText}}
use Rattle.picky_keys.proofs.{ByteLaws.{bytes_joined, utf8_is_bytes}, LineLaws.{blob_is_bytes}}
use Rattle.picky_sshkey_blob.specs.declared.key.SshBasePrivateKey.{SshBasePrivateKey}
use Rattle.picky_sshkey_blob.specs.Key.{IsPrivateKey, public_part}
use Rattle.picky_sshkey_blob.proofs.KeyLaws.{public_part_is_key}
use Rattle.picky_ppk_parts.specs.{declared.config.PpkEncryptionConfig.{PpkEncryptionConfig}, Mac.{mac_of}, Parts.{StandsForKey}}
use Rattle.picky_ppk_parts.proofs.CountedLaws.{cut_stands}
use Rattle.picky_ppk_file.specs.{declared.file.PpkFile.{PpkFile}, File.{IsFile, IsSealing, version_of}}
use Rattle.picky_ppk_file.specs.{FileText.{SaysFile}, FileRefusal.{file_meaning}}
use Rattle.picky_ppk_file.specs.{Written.{line_end_of, file_text, fits_block}, PuttyRefusal.{is_security_key}}
use Rattle.picky_ppk_file.proofs.{FileLaws.{meaning_is_said}, ReadBackLaws.{text_is_read_back}}
use Rattle.picky_ppk.specs.{Keyed.{keys_under}, Mac.{own_mac}, Sealed.{sealing_under}, Fresh.{salt_len}}
use Rattle.picky_ppk.specs.{declared.layout.PpkLayout.{PpkLayout}, PpkLayout.{laid_parts, laid_secret}}
use Rattle.picky_ppk.proofs.{CheckedLaws.{made_file_carries}, LayoutLaws.{laid_parts_counted, laid_parts_stand}}
use Rattle.picky_key_text.specs.{Key.{private_meaning}, PpkText.{CanOpen, IsPpkText}, Reads.{Means, Reads}}
use Rattle.picky_target.specs.declared.target.KeyTarget.TheVariants as targets
use Rattle.picky_target.specs.Output.{Output}
use Rattle.picky_target.specs.Carried.{Carries, Comment, Derivation, DerivesUnder, Fresh, Kind, Length, Lines}
use Rattle.picky_target.specs.Drafts.{key_parts_of, plain_file, ppk_file, sealed_file, key_padding_len}
use Rattle.picky_target.specs.ReadBack.{IsConfig, under}
use Rattle.picky_target.proofs.ByteLemmas.{drop_bytes, each_is_byte, keys_are_bytes, secret_is_bytes, take_bytes}
use Rattle.picky_target.proofs.{FileLemmas.{laid_parts_are}, FormLaws.{file_form}}

-- ---- the parts

-- the parts of a key that fits a file
pub made_parts : (layout : PpkLayout) (key : SshBasePrivateKey) → is_security_key (public_part key) ≡ false
    → length (blob_of (public_part key)) < 2 ^ 32
    → length (laid_secret layout key) < 2 ^ 32 → laid_parts layout key ≡ Ok (key_parts_of layout key)
made_parts layout key plain blob secret =
    let blob_fits = lt-ltb (length (blob_of (public_part key))) (2 ^ 32) blob in
    let secret_fits = lt-ltb (length (laid_secret layout key)) (2 ^ 32) secret in
    laid_parts_are layout key plain ∙ rw (blob_fits, secret_fits) refl

-- stand for it, with any padding too
stands_padded : (layout : PpkLayout) (key : SshBasePrivateKey) (padding : List ℕ) → IsPrivateKey key
    → laid_parts layout key ≡ Ok (key_parts_of layout key)
    → StandsForKey (key_parts_of layout key).algorithm (blob_of (public_part key)) (laid_secret layout key ++ padding) key
stands_padded layout key padding is made =
    let algorithm = (key_parts_of layout key).algorithm in
    let blob = blob_of (public_part key) in
    let secret = laid_secret layout key in
    let stands = laid_parts_stand layout key (key_parts_of layout key) is made in
    subst (λ s. StandsForKey algorithm blob (s ++ padding) key) (take-length secret)
    (cut_stands algorithm blob secret padding key (length secret) stands (laid_parts_counted layout key (key_parts_of layout key) is made))

mac_bytes : (m : Meanings) (version : PpkVersionKey) (key input : List ℕ)
    → (length (mac_of m version key input) < 2 ^ 32) × IsBytes (mac_of m version key input)
mac_bytes m V2 key input =
    let mac = m.sha1_is_mac key input in (omega (arith, mac.len), each_is_byte _ mac.each)
mac_bytes m V3 key input =
    let mac = m.sha256_is_mac key input in (omega (arith, mac.len), each_is_byte _ mac.each)

own_mac_bytes : (m : Meanings) (f : PpkFile) → (length (own_mac m f) < 2 ^ 32) × IsBytes (own_mac m f)
unfolding own_mac
own_mac_bytes m f = mac_bytes m (version_of f.sealing) _ _

-- ---- a file's text

-- a file in its ranges is said by its text
text_says_file : (f : PpkFile) → IsFile f → length (file_text f) < 2 ^ 32 → length f.public_key ≤ 3145680
    → length f.private_bytes ≤ 3145680 → IsLine (line_end_of (version_of f.sealing)) f.comment → SaysFile (file_text f) f
text_says_file f is short public private line =
    let text = file_text f in
    let public_fits : fits_block f.public_key ≡ true = le-leb (length f.public_key) 3145680 public in
    let private_fits : fits_block f.private_bytes ≡ true = le-leb (length f.private_bytes) 3145680 private in
    let fits : (fits_block f.public_key && fits_block f.private_bytes) ≡ true = rw (public_fits, private_fits) refl in
    let back = text_is_read_back f text [] refl is short fits line in
    meaning_is_said text f (ap file_meaning (sym (append-nil text)) ∙ back)

-- ---- the file that isn't sealed

pub plain_says : (m : Meanings) (fresh : List ℕ) (version : PpkVersionKey) (config : PpkEncryptionConfig)
    (layout : PpkLayout) (key : SshBasePrivateKey) (comment : List ℕ) → IsPrivateKey key → IsText comment
    → Carries (record { pass = None; fresh = fresh }) (targets.Ppk version config layout) (private_meaning key comment)
    → SaysFile (file_text (plain_file m version layout key comment)) (plain_file m version layout key comment)
plain_says m fresh version config layout key comment is text carries =
    let f = plain_file m version layout key comment in
    let room = carries.holds Length in
    let lines = carries.holds Lines in
    let file : IsFile f = record {
      sealing = tt;
      comment = text.string.short;
      public_key = (room.blob, blob_is_bytes (public_part key) (public_part_is_key key is));
      private_bytes = (room.private, secret_is_bytes layout key is);
      mac = own_mac_bytes m _;
    } in
    text_says_file f file (room.text m) lines.0 lines.1 (carries.holds Comment)

plain_is_read_back : (m : Meanings) (fresh : List ℕ) (version : PpkVersionKey) (config : PpkEncryptionConfig)
    (layout : PpkLayout) (key : SshBasePrivateKey) (comment : List ℕ) → IsPrivateKey key → IsText comment
    → Carries (record { pass = None; fresh = fresh }) (targets.Ppk version config layout) (private_meaning key comment)
    → IsPpkText (under m None) (file_text (plain_file m version layout key comment)) (private_meaning key comment)
plain_is_read_back m fresh version config layout key comment is text carries =
    let f = plain_file m version layout key comment in
    let room = carries.holds Length in
    let blob = blob_of (public_part key) in
    let secret = laid_secret layout key in
    let made = made_parts layout key (carries.holds Kind) room.blob room.private in
    record {
      file = f;
      says = plain_says m fresh version config layout key comment is text carries;
      private = secret;
      opened = inl (made_file_carries m _ f refl refl, refl);
      key = key;
      stands = subst (λ s. StandsForKey (key_parts_of layout key).algorithm blob s key) (append-nil secret)
          (stands_padded layout key [] is made);
      is = refl;
    }

-- ---- the sealed one

sealing_ranges : (version : PpkVersionKey) (config : PpkEncryptionConfig) (salt : List ℕ) → IsConfig config → IsBytes salt
    → length salt ≡ salt_len version config → IsSealing (sealing_under version config salt)
sealing_ranges V2 config salt is each len = tt
sealing_ranges V3 config salt is each len = record {
  memory = is.memory;
  passes = is.passes;
  parallelism = is.parallelism;
  salt = (omega (arith, len, is.salt_size), each);
}

sealing_opens : (version : PpkVersionKey) (config : PpkEncryptionConfig) (layout : PpkLayout) (salt pass : List ℕ)
    → length salt ≡ salt_len version config → DerivesUnder (targets.Ppk version config layout) pass
    → CanOpen (sealing_under version config salt) pass
sealing_opens V2 config layout salt pass len derives = tt
sealing_opens V3 config layout salt pass len derives = rw len derives

sealing_version : (version : PpkVersionKey) (config : PpkEncryptionConfig) (salt : List ℕ)
    → version_of (sealing_under version config salt) ≡ version
sealing_version V2 config salt = refl
sealing_version V3 config salt = refl

abbrev sealed_of : Meanings → (pass fresh : List ℕ) → PpkVersionKey → PpkEncryptionConfig → PpkLayout → SshBasePrivateKey
    → (comment : List ℕ) → PpkFile
sealed_of m pass fresh version config layout key comment =
    sealed_file m (record { pass = Some pass; fresh = fresh }) version config layout pass (plain_file m version layout key comment) key

-- the salt and the padding are as long as they should be
pub salt_sized : (pass fresh : List ℕ) (version : PpkVersionKey) (config : PpkEncryptionConfig) (layout : PpkLayout)
    (key : SshBasePrivateKey) (comment : List ℕ)
    → Carries (record { pass = Some pass; fresh = fresh }) (targets.Ppk version config layout) (private_meaning key comment)
    → length (take (salt_len version config) fresh) ≡ salt_len version config
salt_sized pass fresh version config layout key comment carries =
    let n = salt_len version config in
    let enough : n + key_padding_len layout key ≤ length fresh = carries.holds Fresh in
    omega (arith, enough, length-take n fresh)

pub padding_sized : (pass fresh : List ℕ) (version : PpkVersionKey) (config : PpkEncryptionConfig) (layout : PpkLayout)
    (key : SshBasePrivateKey) (comment : List ℕ)
    → Carries (record { pass = Some pass; fresh = fresh }) (targets.Ppk version config layout) (private_meaning key comment)
    → length (take (key_padding_len layout key) (drop (salt_len version config) fresh)) ≡ key_padding_len layout key
padding_sized pass fresh version config layout key comment carries =
    let n = salt_len version config in
    let enough : n + key_padding_len layout key ≤ length fresh = carries.holds Fresh in
    omega (arith, enough, length-take (key_padding_len layout key) (drop n fresh), length-drop n fresh)

pub sealed_says : (m : Meanings) (pass fresh : List ℕ) (version : PpkVersionKey) (config : PpkEncryptionConfig)
    (layout : PpkLayout) (key : SshBasePrivateKey) (comment : List ℕ) → IsConfig config → IsPrivateKey key → IsText comment
    → IsBytes fresh → IsUtf8 pass
    → Carries (record { pass = Some pass; fresh = fresh }) (targets.Ppk version config layout) (private_meaning key comment)
    → SaysFile (file_text (sealed_of m pass fresh version config layout key comment)) (sealed_of m pass fresh version config layout key comment)
sealed_says m pass fresh version config layout key comment ranges is text fresh_bytes pass_text carries =
    let n = salt_len version config in
    let salt = take n fresh in
    let padding = take (key_padding_len layout key) (drop n fresh) in
    let sealing = sealing_under version config salt in
    let keys = keys_under m sealing pass in
    let f = sealed_of m pass fresh version config layout key comment in
    let secret = laid_secret layout key in
    let private = secret ++ padding in
    let room = carries.holds Length in
    let lines = carries.holds Lines in
    let salt_bytes = take_bytes n fresh fresh_bytes in
    let ranged = sealing_ranges version config salt ranges salt_bytes (salt_sized pass fresh version config layout key comment carries) in
    let byte_keys = keys_are_bytes m sealing pass ranged (utf8_is_bytes pass pass_text) in
    let open_bytes = bytes_joined secret padding (secret_is_bytes layout key is)
    (take_bytes (key_padding_len layout key) (drop n fresh) (drop_bytes n fresh fresh_bytes)) in
    let sealed_len = m.seal_len keys.key keys.iv private in
    let file : IsFile f = record {
      sealing = ranged;
      comment = text.string.short;
      public_key = (room.blob, blob_is_bytes (public_part key) (public_part_is_key key is));
      private_bytes = (omega (arith, sealed_len, room.private), m.seal_bytes keys.key keys.iv private byte_keys.key byte_keys.iv open_bytes);
      mac = mac_bytes m (version_of sealing) keys.mac_key _;
    } in
    let line : IsLine (line_end_of (version_of sealing)) comment =
    subst (λ v. IsLine (line_end_of v) comment) (sym (sealing_version version config salt)) (carries.holds Comment) in
    text_says_file f file (room.text m) lines.0 (omega (arith, sealed_len, lines.1)) line

sealed_is_read_back : (m : Meanings) (pass fresh : List ℕ) (version : PpkVersionKey) (config : PpkEncryptionConfig)
    (layout : PpkLayout) (key : SshBasePrivateKey) (comment : List ℕ) → IsConfig config → IsPrivateKey key → IsText comment
    → IsBytes fresh → IsUtf8 pass
    → Carries (record { pass = Some pass; fresh = fresh }) (targets.Ppk version config layout) (private_meaning key comment)
    → IsPpkText (under m (Some pass)) (file_text (sealed_of m pass fresh version config layout key comment)) (private_meaning key comment)
sealed_is_read_back m pass fresh version config layout key comment ranges is text fresh_bytes pass_text carries =
    let n = salt_len version config in
    let salt = take n fresh in
    let padding = take (key_padding_len layout key) (drop n fresh) in
    let sealing = sealing_under version config salt in
    let keys = keys_under m sealing pass in
    let secret = laid_secret layout key in
    let private = secret ++ padding in
    let room = carries.holds Length in
    let sized = padding_sized pass fresh version config layout key comment carries in
    let whole : IsWhole private = omega (arith, length-append secret padding, sized) in
    let sealed_len = m.seal_len keys.key keys.iv private in
    let made = made_parts layout key (carries.holds Kind) room.blob (omega (arith, length-append secret padding, room.private)) in
    record {
      file = sealed_of m pass fresh version config layout key comment;
      says = sealed_says m pass fresh version config layout key comment ranges is text fresh_bytes pass_text carries;
      private = private;
      opened = inr (
        pass,
        refl,
        record {
          can_open = sealing_opens version config layout salt pass (salt_sized pass fresh version config layout key comment carries)
              (carries.holds Derivation);
          whole = omega (arith, whole, sealed_len);
          opened = sym (m.opens keys.key keys.iv private whole);
          mac = refl;
        },
      );
      key = key;
      stands = stands_padded layout key padding is made;
      is = refl;
    }

-- ---- each way

file_says_key : (m : Meanings) (pass : Option (List ℕ)) (fresh : List ℕ) (version : PpkVersionKey) (config : PpkEncryptionConfig)
    (layout : PpkLayout) (key : SshBasePrivateKey) (comment : List ℕ) → IsConfig config → IsPrivateKey key → IsText comment → IsBytes fresh
    → IfSome pass IsUtf8
    → Carries (record { pass = pass; fresh = fresh }) (targets.Ppk version config layout) (private_meaning key comment)
    → IsPpkText (under m pass) (file_text (ppk_file m (record { pass = pass; fresh = fresh }) version config layout key comment))
    (private_meaning key comment)
file_says_key m None fresh version config layout key comment ranges is text fresh_bytes pass_text carries =
    plain_is_read_back m fresh version config layout key comment is text carries
file_says_key m (Some pass) fresh version config layout key comment ranges is text fresh_bytes pass_text carries =
    sealed_is_read_back m pass fresh version config layout key comment ranges is text fresh_bytes pass_text carries

pub file_is_read_back : (m : Meanings) (out : Output) (version : PpkVersionKey) (config : PpkEncryptionConfig)
    (layout : PpkLayout) (key : SshBasePrivateKey) (comment : List ℕ) → IsConfig config → IsPrivateKey key → IsText comment → IsBytes out.fresh
    → IfSome out.pass IsUtf8 → Carries out (targets.Ppk version config layout) (private_meaning key comment)
    → Reads (under m out.pass) (file_text (ppk_file m out version config layout key comment)) (private_meaning key comment)
file_is_read_back m out version config layout key comment ranges is text fresh pass carries =
    let f = ppk_file m out version config layout key comment in
    subst (λ form. Means form (under m out.pass) (file_text f) (private_meaning key comment)) (sym (file_form f))
    (file_says_key m out.pass out.fresh version config layout key comment ranges is text fresh pass carries)
