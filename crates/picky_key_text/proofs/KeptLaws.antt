-- A meaning that is read keeps what a meaning keeps.
use Rattle.std.specs.Prelude.{◌≡◌, ◌<◌, ◌^◌, ◌++◌, ◌∷◌, [], List, ℕ, suc, zero, length, take, drop, replicate, codes, Option}
use Rattle.std.specs.Prelude.{None, Some, Ok}
use Rattle.std.specs.{Option.{IfSome}, Int.{to_be_bytes, w32}, Str.{IsUtf8}}
use Rattle.std.proofs.Common.{sym, subst, ◌∙◌, arith, append_assoc, slice_index, inl, inr}
use Rattle.sha1.specs.Sha1.{sha1, digest_bytes}
use Rattle.picky_wire_base.specs.{Numbers.{IsBytes}, Zeros.{without_zeros}, carried.Zeros.{zeros_in_front}}
use Rattle.picky_wire_base.proofs.Numbers.{bytes_in_front, bytes_behind, front_bytes, back_bytes, EachByte, each_by_place}
use Rattle.picky_text.specs.Words.{after_body}
use Rattle.picky_text.proofs.{ListLaws.{all_append, all_replicate}, WordLaws.{rest_of_line_is_text}}
use Rattle.picky_kv.specs.{Field.{Field, field_value}, ValueFields.{comment_field}, Values.{is_long, comment_row}}
use Rattle.picky_kv.specs.Parts.{IsPair}
use Rattle.picky_keys.specs.{declared.public_key.PublicKey.{PublicKey}, declared.key.SshPublicKey.{SshPublicKey}}
use Rattle.picky_keys.specs.{Key.{IsKey, IsNumber, IsText, IsEdKey}, Line.{IsPublicLine}}
use Rattle.picky_keys.specs.declared.public_key.PublicKey.TheVariants as plain
use Rattle.picky_suite.specs.Meanings.{Meanings}
use Rattle.picky_cert.specs.{declared.certificate.SshCertificate.{SshCertificate}, Line.{IsCertificateLine}}
use Rattle.picky_cert.proofs.LineLaws.{line_keeps as certificate_keeps}
use Rattle.picky_keys.proofs.ByteLaws.{bytes_joined, utf8_is_bytes}
use Rattle.picky_keys.proofs.KeyLaws.{number_keeps, string_keeps, spelled_is_key}
use Rattle.picky_sshkey_blob.specs.{declared.key.SshBasePrivateKey.{SshBasePrivateKey}, Key.{IsPrivateKey}}
use Rattle.picky_sshkey.specs.declared.private_key.SshPrivateKey.{SshPrivateKey}
use Rattle.picky_sshkey.specs.PrivateText.{IsPrivateText, IsShortPass}
use Rattle.picky_sshkey.proofs.{MeaningLaws.{text_means}, ReadLaws.{text_is_kept}}
use Rattle.picky_ppk_parts.specs.Algorithm.{ssh_key_of}
use Rattle.picky_ppk_parts.specs.Material.{counted_digest, cipher_key_v2, derived_v3, flavour_named}
use Rattle.picky_ppk_parts.specs.Parts.{StandsForKey}
use Rattle.picky_ppk_parts.specs.Secret.{RsaSecret, rsa_key, rsa_secret, ppk_ed_secret, ppk_rsa_fields, ppk_ec_fields, ppk_ed_fields}
use Rattle.picky_ppk_parts.specs.Secret.{ppk_secret_fields}
use Rattle.picky_ppk_file.specs.PuttyPublic.{IsPuttyPublic, SaysPuttyPublic, comment_start}
use Rattle.picky_ppk_file.specs.{declared.file.PpkFile.{PpkFile}, declared.file.PpkSealing.{PpkSealing}}
use Rattle.picky_ppk_file.specs.declared.file.PpkSealing.TheVariants.{Unsealed, SealedV2, SealedV3}
use Rattle.picky_ppk_file.specs.{File.{IsFile, IsSealing}, FileText.{SaysFile}}
use Rattle.picky_ppk_file.proofs.{FileLaws.{said_is_meant}, LineSteps.{judged_ok}, RangeLaws.{fields_in_ranges}}
use Rattle.picky_ppk.specs.Keyed.{keys_under}
use Rattle.picky_key_text.specs.{declared.form.Form.{Form}, declared.meaning.Meaning.{Meaning}, Form.{form_of}}
use Rattle.picky_key_text.specs.Key.{certificate_meaning, public_key, public_meaning, private_meaning}
use Rattle.picky_key_text.specs.{Kept.{IsKeptMeaning}, Order.{reading}, PpkText.{IsUnsealed, AreOpened, IsPpkText}}
use Rattle.picky_key_text.specs.{Reader.{Reader}, Reads.{Means}}
use Rattle.picky_key_text.specs.declared.form.Form.TheVariants as forms
use Rattle.picky_key_text.proofs.ReadingLaws.{reading_says}
use Rattle.picky_key_text.proofs.Utf8Laws.{cut_at_ascii, AreUtf8, lines_are_utf8, unquote_is_utf8}

-- ---- a key that stands in bytes

rsa_keeps : (e n : List ℕ) (s : RsaSecret) (bytes : List ℕ) → IsBytes bytes → IsNumber e × IsNumber n
    → rsa_secret.piece s bytes → IsPrivateKey (rsa_key e n s)
unfolding rsa_secret
rsa_keeps e n s bytes each is (d, x1, y1, d_is, (p, x2, y2, p_is, (q, x3, y3, q_is, (iqmp, x4, y4, iqmp_is, (same, none), j4), j3), j2), j1) =
    let one = subst IsBytes j1 each in
    let two = subst IsBytes j2 (bytes_behind x1 y1 one) in
    let three = subst IsBytes j3 (bytes_behind x2 y2 two) in
    let four = subst IsBytes j4 (bytes_behind x3 y3 three) in
    subst (λ t. IsPrivateKey (rsa_key e n t)) (sym same) (
      is.1,
      is.0,
      number_keeps d x1 (bytes_in_front x1 y1 one) d_is,
      number_keeps iqmp x4 (bytes_in_front x4 y4 four) iqmp_is,
      number_keeps p x2 (bytes_in_front x2 y2 two) p_is,
      number_keeps q x3 (bytes_in_front x3 y3 three) q_is,
    )

-- bytes are, with other zeros in front
zeros_changed : (a secret : List ℕ) → IsBytes a → without_zeros a ≡ without_zeros secret → IsBytes secret
zeros_changed a secret each same =
    let before = zeros_in_front a in
    let after = zeros_in_front secret in
    let number : IsBytes (without_zeros a) =
    bytes_behind (replicate before.0 0) (without_zeros a) (subst IsBytes before.1 each) in
    let zeros = each_by_place (replicate after.0 0) (all_replicate (λ b. b < 256) after.0 0 (omega arith)) in
    subst IsBytes (sym after.1) (bytes_joined (replicate after.0 0) (without_zeros secret) zeros (subst IsBytes same number))

ed_keeps : (secret bytes : List ℕ) → IsBytes bytes → ppk_ed_secret.piece secret bytes → IsEdKey secret
unfolding ppk_ed_secret
ed_keeps secret bytes each (a, spells, (len, same)) =
    record { bytes = zeros_changed a secret (string_keeps a bytes each spells).bytes same; len = len }

fields_keep : (public : PublicKey) (key : SshBasePrivateKey) (bytes : List ℕ) → IsBytes bytes → IsKey (ssh_key_of public)
    → (ppk_secret_fields public).piece key bytes → IsPrivateKey key
unfolding ppk_rsa_fields ppk_ec_fields ppk_ed_fields
fields_keep (plain.Rsa e n) key bytes each is (secret, x, y, spells, (same, none), joined) =
    subst IsPrivateKey (sym same) (rsa_keeps e n secret x (bytes_in_front x y (subst IsBytes joined each)) is spells)
fields_keep (plain.Ec curve point) key bytes each is (secret, x, y, spells, (same, none), joined) =
    subst IsPrivateKey (sym same) (is, number_keeps secret x (bytes_in_front x y (subst IsBytes joined each)) spells)
fields_keep (plain.Ed public) key bytes each is (secret, x, y, spells, (same, none), joined) =
    subst IsPrivateKey (sym same) (ed_keeps secret x (bytes_in_front x y (subst IsBytes joined each)) spells, is)

-- A key that bytes stand for is in its ranges.
pub standing_is_key : (f : PpkFile) (private : List ℕ) (key : SshBasePrivateKey) → IsBytes f.public_key → IsBytes private
    → StandsForKey f.algorithm f.public_key private key → IsPrivateKey key
standing_is_key f private key blob each stands =
    let outer = stands.blob_begins in
    let inner = stands.private_begins in
    fields_keep stands.public key inner.1.0 (bytes_in_front inner.1.0 inner.0 (subst IsBytes inner.1.2 each))
    (spelled_is_key (ssh_key_of stands.public) outer.1.0 (bytes_in_front outer.1.0 outer.0 (subst IsBytes outer.1.2 blob)) outer.1.1)
    inner.1.1

-- ---- the private bytes that are opened

digest_each : (h : List ℕ) (n : ℕ) → EachByte (digest_bytes h n)
unfolding digest_bytes
digest_each h zero = tt
digest_each h (suc n) =
    all_append (λ b. b < 256) (digest_bytes h n) (to_be_bytes w32 (slice_index h n)) (digest_each h n)
    (omega arith, (omega arith, (omega arith, (omega arith, tt))))

sha1_is_bytes : (message : List ℕ) → IsBytes (sha1 message)
unfolding sha1
sha1_is_bytes message = each_by_place _ (digest_each _ 5)

key_v2_is_bytes : (pass : List ℕ) → IsBytes (cipher_key_v2 pass)
unfolding cipher_key_v2
key_v2_is_bytes pass =
    bytes_joined (counted_digest 0 pass) (take 12 (counted_digest 1 pass)) (sha1_is_bytes _)
    (front_bytes 12 (counted_digest 1 pass) (sha1_is_bytes _))

zeros_are_bytes : (n : ℕ) → IsBytes (replicate n 0)
zeros_are_bytes n = each_by_place (replicate n 0) (all_replicate (λ b. b < 256) n 0 (omega arith))

keys_are_bytes : (m : Meanings) (s : PpkSealing) (pass : List ℕ) → IsSealing s → IsBytes pass
    → IsBytes (keys_under m s pass).key × IsBytes (keys_under m s pass).iv
unfolding derived_v3
keys_are_bytes m (Unsealed version) pass is each = (key_v2_is_bytes pass, zeros_are_bytes 16)
keys_are_bytes m SealedV2 pass is each = (key_v2_is_bytes pass, zeros_are_bytes 16)
keys_are_bytes m (SealedV3 params) pass is each =
    let derived = m.argon2 (flavour_named params.flavor) params.memory params.passes params.parallelism pass params.salt in
    let bytes : IsBytes derived =
    m.argon2_bytes (flavour_named params.flavor) params.memory params.passes params.parallelism pass params.salt each is.salt.1 in
    (front_bytes 32 derived bytes, front_bytes 16 (drop 32 derived) (back_bytes 32 derived bytes))

unsealed_is_bytes : (m : Meanings) (pass : List ℕ) (f : PpkFile) (private : List ℕ) → IsFile f → IsBytes pass
    → IsUnsealed m pass f private → IsBytes private
unsealed_is_bytes m pass f private is each opened =
    let keys = keys_are_bytes m f.sealing pass is.sealing each in
    subst IsBytes (sym opened.opened) (m.open_bytes _ _ f.private_bytes keys.0 keys.1 is.private_bytes.1)

given_is_bytes : (given : Option (List ℕ)) (pass : List ℕ) → IfSome given IsUtf8 → given ≡ Some pass → IsBytes pass
given_is_bytes None pass utf8 is = cc is
given_is_bytes (Some other) pass utf8 is =
    let same : other ≡ pass = cc is in subst IsBytes same (utf8_is_bytes other utf8)

opened_is_bytes : (r : Reader) (f : PpkFile) (private : List ℕ) → IsFile f → IfSome r.pass IsUtf8 → AreOpened r f private
    → IsBytes private
opened_is_bytes r f private is pass (inl (carries, same)) = subst IsBytes (sym same) is.private_bytes.1
opened_is_bytes r f private is pass (inr (given, was, opened)) =
    unsealed_is_bytes r.meanings given f private is (given_is_bytes r.pass given pass was) opened

-- ---- comments

-- the lines after a pair are UTF-8, and so is its value's text
pair_utf8 : {K V : Type 0} (key : Field K) (value : Field V) (ls : List (List ℕ)) (k : K) (v : V) (after : List (List ℕ))
    (is : IsPair key value ls k v after) → AreUtf8 ls → IsUtf8 is.value_text × AreUtf8 after
pair_utf8 key value ls k v after is each =
    let all = subst AreUtf8 is.first each in
    let line = subst IsUtf8 (is.parts.joined ∙ append_assoc is.key_text (codes ": ") is.value_text) all.0 in
    let colon = cut_at_ascii is.key_text 58 (32 ∷ is.value_text) (omega arith) line in
    ((cut_at_ascii [] 32 is.value_text (omega arith) colon.1).1, all.1)

comment_is : (text comment : List ℕ) → field_value comment_field text ≡ Ok comment → text ≡ comment
unfolding comment_field
comment_is text comment is =
    let some = (judged_ok is_long comment_row.expected text (Some text) comment is).0 in cc some

-- The comment of a file whose text is UTF-8 is.
file_comment : (text : List ℕ) (f : PpkFile) → IsUtf8 text → SaysFile text f → IsUtf8 f.comment
file_comment text f utf8 says =
    let header = pair_utf8 _ _ _ _ _ _ says.header (lines_are_utf8 text utf8) in
    let encryption = pair_utf8 _ _ _ _ _ _ says.encryption header.1 in
    let comment = pair_utf8 _ _ _ _ _ _ says.comment encryption.1 in
    subst IsUtf8 (comment_is says.comment.value_text f.comment says.comment.value_is) comment.0

-- And that of a PuTTY public key.
public_comment : (text blob comment : List ℕ) → IsUtf8 text → SaysPuttyPublic text blob comment → IsUtf8 comment
public_comment text blob comment utf8 says =
    let each = subst AreUtf8 says.whole (lines_are_utf8 text utf8) in
    let last = cut_at_ascii (comment_start ++ says.before ++ 34 ∷ says.between) 34 says.after (omega arith) each.1.0 in
    let first = cut_at_ascii (comment_start ++ says.before) 34 says.between (omega arith) last.0 in
    subst IsUtf8 (sym says.comment_is) (unquote_is_utf8 says.between first.1)

-- ---- each form

text_of : (comment : List ℕ) → IsUtf8 comment → length comment < 2 ^ 32 → IsText comment
text_of comment utf8 short =
    record { string = record { bytes = utf8_is_bytes comment utf8; short = short }; utf8 = utf8 }

-- a passphrase that was read under is short
given_is_text : (given : Option (List ℕ)) → IfSome given IsUtf8 → IsShortPass given → IfSome given IsText
given_is_text None utf8 short = tt
given_is_text (Some pass) utf8 short = text_of pass utf8 short

envelope_kept : (r : Reader) (text : List ℕ) (key : SshPrivateKey) → IsUtf8 text → IfSome r.pass IsUtf8
    → IsPrivateText r.meanings r.pass text key → IsKeptMeaning (private_meaning key.base_key key.comment)
envelope_kept r text key utf8 pass says =
    let given = given_is_text r.pass pass says.short in
    let kept = text_is_kept r.meanings r.pass text key (utf8_is_bytes text utf8) given (text_means r.meanings r.pass text key says) in
    record { key = kept.base_key; comment = kept.comment }

ppk_kept : (r : Reader) (text : List ℕ) (meaning : Meaning) → IsUtf8 text → IfSome r.pass IsUtf8 → IsPpkText r text meaning
    → IsKeptMeaning meaning
ppk_kept r text meaning utf8 pass says =
    let f = says.file in
    let is = fields_in_ranges text f (utf8_is_bytes text utf8) (said_is_meant text f says.says) in
    let private = opened_is_bytes r f says.private is pass says.opened in
    subst IsKeptMeaning (sym says.is) (record {
      key = standing_is_key f says.private says.key is.public_key.1 private says.stands;
      comment = text_of f.comment (file_comment text f utf8 says.says) is.comment;
    })

putty_public_kept : (text : List ℕ) (key : SshPublicKey) → IsUtf8 text → IsPuttyPublic text key
    → IsKeptMeaning (public_meaning key)
putty_public_kept text key utf8 says =
    let front = bytes_in_front says.fits.0 says.rest (subst IsBytes says.fits.2 says.says.bytes) in
    record {
      key = spelled_is_key key.inner_key says.fits.0 front says.fits.1;
      comment = text_of key.comment (public_comment text says.blob key.comment utf8 says.says) says.says.comment_short;
    }

line_kept : (text : List ℕ) (key : SshPublicKey) → IsPublicLine text key → IsKeptMeaning (public_meaning key)
line_kept text key says =
    let front = bytes_in_front says.fits.0 says.rest (subst IsBytes says.fits.2 says.are_bytes) in
    record {
      key = spelled_is_key key.inner_key says.fits.0 front says.fits.1;
      comment = subst IsText (sym says.comment)
          (text_of _ (rest_of_line_is_text (after_body text) says.comment_utf8) says.comment_short);
    }

certificate_kept : (text : List ℕ) (c : SshCertificate) → IsCertificateLine text c → IsKeptMeaning (certificate_meaning c)
certificate_kept text c says =
    let kept = certificate_keeps text c says in
    record { key = kept.said.head.key; comment = kept.comment }

said_is_kept : (form : Form) (r : Reader) (text : List ℕ) (meaning : Meaning) → IsUtf8 text → IfSome r.pass IsUtf8
    → Means form r text meaning → IsKeptMeaning meaning
said_is_kept forms.Envelope r text meaning utf8 pass (key, says, same) =
    subst IsKeptMeaning (sym same) (envelope_kept r text key utf8 pass says)
said_is_kept forms.Ppk r text meaning utf8 pass says = ppk_kept r text meaning utf8 pass says
said_is_kept forms.PuttyPublic r text meaning utf8 pass (says, same) =
    subst IsKeptMeaning (sym same) (putty_public_kept text (public_key meaning) utf8 says)
said_is_kept forms.Certificate r text meaning utf8 pass (c, says, same) =
    subst IsKeptMeaning (sym same) (certificate_kept text c says)
said_is_kept forms.PublicLine r text meaning utf8 pass (says, same) =
    subst IsKeptMeaning (sym same) (line_kept text (public_key meaning) says)

pass_is_bytes : (pass : Option (List ℕ)) → IfSome pass IsUtf8 → IfSome pass IsBytes
pass_is_bytes None utf8 = tt
pass_is_bytes (Some pass) utf8 = utf8_is_bytes pass utf8

-- A meaning that is read keeps its ranges.
pub meaning_is_kept : (r : Reader) (text : List ℕ) (meaning : Meaning) → IsUtf8 text → IfSome r.pass IsUtf8
    → reading r text ≡ Ok meaning → IsKeptMeaning meaning
meaning_is_kept r text meaning utf8 pass is =
    said_is_kept (form_of text) r text meaning utf8 pass
    (reading_says r text meaning utf8 (pass_is_bytes r.pass pass) is)
