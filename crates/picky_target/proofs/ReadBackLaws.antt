-- What is written is read back.
use Rattle.std.proofs.{Common.{◌<◌, ◌^◌, ℕ, List, [], refl, sym, subst}, lemmas.List.{append-nil}}
use Rattle.std.specs.{Option.{IfSome}, Str.{IsUtf8}}
use Rattle.picky_wire_base.specs.Numbers.{IsBytes}
use Rattle.picky_suite.specs.Meanings.{Meanings}
use Rattle.picky_keys.specs.{Key.{IsKey}, Blob.{blob_of}, Line.{IsPublicLine, line_of}}
use Rattle.picky_keys.proofs.LineLaws.{line_says}
use Rattle.picky_sshkey_blob.proofs.KeyLaws.{public_part_is_key}
use Rattle.picky_kv.specs.declared.PpkVersionKey.{PpkVersionKey}
use Rattle.picky_ppk_parts.specs.declared.config.PpkEncryptionConfig.{PpkEncryptionConfig}
use Rattle.picky_ppk_file.specs.PuttyPublic.{putty_public}
use Rattle.picky_ppk_file.proofs.PuttyLaws.{putty_public_means}
use Rattle.picky_key_text.specs.{declared.meaning.Key.{Key}, declared.meaning.Meaning.{Meaning}}
use Rattle.picky_key_text.specs.{Kept.{IsKeptMeaning, IsKeptKey}, Key.{public_key, public_meaning, public_part}}
use Rattle.picky_key_text.specs.Reads.{Means, Reads}
use Rattle.picky_key_text.specs.declared.meaning.Key.TheVariants as keys
use Rattle.picky_ppk.specs.declared.layout.PpkLayout.{PpkLayout}
use Rattle.picky_target.specs.{declared.target.KeyTarget.{KeyTarget}, Output.{Output}}
use Rattle.picky_target.specs.Carried.{Carries, Comment, Length, PrivateKey}
use Rattle.picky_target.specs.{ReadBack.{IsConfig, IsTarget, kept, under}, Texts.{Spells, text_for}}
use Rattle.picky_target.specs.declared.target.KeyTarget.TheVariants as targets
use Rattle.picky_target.proofs.{EnvelopeBack.{envelope_is_read_back}, FileBack.{file_is_read_back}}
use Rattle.picky_target.proofs.{FormLaws.{line_form, putty_form}, TextLaws.{text_only}}

part_is_key : (key : Key) → IsKeptKey key → IsKey (public_part key)
part_is_key (keys.Private key) is = public_part_is_key key is
part_is_key (keys.Public key) is = is

-- ---- public targets

pub line_is_read_back : (m : Meanings) (out : Output) (meaning : Meaning) → IsKeptMeaning meaning
    → Carries out targets.OpenSshPublic meaning
    → Reads (under m out.pass) (line_of (public_key meaning)) (public_meaning (public_key meaning))
line_is_read_back m out meaning is carries =
    let key = public_key meaning in
    let comment = carries.holds Comment in
    let line = line_says key [] (record {
      is_key = part_is_key meaning.key is.key;
      no_cr = comment.no_cr;
      no_lf = comment.no_lf;
      trimmed = comment.trimmed;
      utf8 = is.comment.utf8;
      short = carries.holds Length;
    }) in
    subst (λ f. Means f (under m out.pass) (line_of key) (public_meaning key)) (sym (line_form key))
    (subst (λ t. IsPublicLine t key) (append-nil (line_of key)) line, refl)

pub putty_is_read_back : (m : Meanings) (out : Output) (meaning : Meaning) → IsKeptMeaning meaning
    → Carries out targets.PuttyPublic meaning
    → Reads (under m out.pass) (putty_public (blob_of (public_part meaning.key)) meaning.comment) (public_meaning (public_key meaning))
putty_is_read_back m out meaning is carries =
    let key = public_key meaning in
    let blob = blob_of (public_part meaning.key) in
    let means = putty_public_means key (part_is_key meaning.key is.key) (carries.holds Comment) (carries.holds Length).0 is.comment.string.short in
    subst (λ f. Means f (under m out.pass) (putty_public blob meaning.comment) (public_meaning key)) (sym (putty_form blob meaning.comment))
    (means, refl)

-- ---- private ones

openssh_is_read_back : (m : Meanings) (out : Output) (rounds : ℕ) (key : Key) (comment : List ℕ) → rounds < 2 ^ 32
    → IsKeptMeaning (record { key = key; comment = comment }) → IsBytes out.fresh → IfSome out.pass IsUtf8
    → Carries out (targets.OpenSsh rounds) (record { key = key; comment = comment })
    → Reads (under m out.pass) (text_for m out (targets.OpenSsh rounds) (record { key = key; comment = comment })) (record { key = key; comment = comment })
openssh_is_read_back m out rounds (keys.Private key) comment fit is fresh pass carries =
    envelope_is_read_back m out rounds key comment fit is.key is.comment fresh pass carries
openssh_is_read_back m out rounds (keys.Public key) comment fit is fresh pass carries = absurd (carries.holds PrivateKey)

ppk_is_read_back : (m : Meanings) (out : Output) (version : PpkVersionKey) (config : PpkEncryptionConfig) (layout : PpkLayout) (key : Key)
    (comment : List ℕ) → IsConfig config → IsKeptMeaning (record { key = key; comment = comment }) → IsBytes out.fresh
    → IfSome out.pass IsUtf8 → Carries out (targets.Ppk version config layout) (record { key = key; comment = comment })
    → Reads (under m out.pass) (text_for m out (targets.Ppk version config layout) (record { key = key; comment = comment })) (record { key = key; comment = comment })
ppk_is_read_back m out version config layout (keys.Private key) comment ranges is fresh pass carries =
    file_is_read_back m out version config layout key comment ranges is.key is.comment fresh pass carries
ppk_is_read_back m out version config layout (keys.Public key) comment ranges is fresh pass carries = absurd (carries.holds PrivateKey)

-- ---- each target

text_for_is_read_back : (m : Meanings) (out : Output) (target : KeyTarget) (meaning : Meaning) → IsTarget target
    → IsKeptMeaning meaning
    → IsBytes out.fresh → IfSome out.pass IsUtf8 → Carries out target meaning
    → Reads (under m out.pass) (text_for m out target meaning) (kept target meaning)
text_for_is_read_back m out (targets.OpenSsh rounds) meaning ranges is fresh pass carries =
    openssh_is_read_back m out rounds meaning.key meaning.comment ranges is fresh pass carries
text_for_is_read_back m out (targets.Ppk version config layout) meaning ranges is fresh pass carries =
    ppk_is_read_back m out version config layout meaning.key meaning.comment ranges is fresh pass carries
text_for_is_read_back m out targets.OpenSshPublic meaning ranges is fresh pass carries = line_is_read_back m out meaning is carries
text_for_is_read_back m out targets.PuttyPublic meaning ranges is fresh pass carries = putty_is_read_back m out meaning is carries

-- A text that spells what its target carries is read back.
pub spelled_is_read_back : (m : Meanings) (out : Output) (target : KeyTarget) (meaning : Meaning) (text : List ℕ) → IsTarget target
    → IsKeptMeaning meaning → IsBytes out.fresh → IfSome out.pass IsUtf8 → Carries out target meaning
    → Spells m out target meaning text
    → Reads (under m out.pass) text (kept target meaning)
spelled_is_read_back m out target meaning text ranges is fresh pass carries spells =
    subst (λ t. Reads (under m out.pass) t (kept target meaning)) (sym (text_only m out target meaning text spells))
    (text_for_is_read_back m out target meaning ranges is fresh pass carries)
