-- What an encrypted text shows is a key and a text.
use Rattle.std.specs.Prelude.{◌≡◌, ◌<◌, ◌^◌, ◌∷◌, [], List, ℕ, Bool, true, false, length, codes, Option, None, Some, Result, Ok, Err}
use Rattle.std.specs.Prelude.{if◌then◌else◌}
use Rattle.std.specs.Str.{IsUtf8, bytes_eq}
use Rattle.std.proofs.Common.{ap, append_assoc, arith, inl, inr, refl, subst, sym, ◌∙◌, ◌⊎◌}
use Rattle.std.proofs.lemmas.Str.{IsUtf8-nil}
use Rattle.picky_wire_base.specs.Numbers.{IsBytes}
use Rattle.picky_wire_base.specs.Front.{read_front}
use Rattle.picky_wire_base.specs.Outcome.{and_then, map_err}
use Rattle.picky_wire_base.specs.carried.Inside.{front_sound}
use Rattle.picky_wire_base.specs.carried.Outcome.{and_then_ok, map_err_ok}
use Rattle.picky_wire_base.proofs.Numbers.{bytes_in_front}
use Rattle.picky_kv.specs.{Field.{Field, field_value}, Parts.{IsPair}, ValueFields.{comment_field}, Values.{comment_row, is_long}}
use Rattle.picky_keys.specs.{Key.{IsKey, IsText}, LineRefusal.{blob_key}}
use Rattle.picky_keys.specs.declared.key.SshBasePublicKey.{SshBasePublicKey}
use Rattle.picky_keys.specs.declared.key.SshPublicKey.{SshPublicKey}
use Rattle.picky_keys.proofs.{ByteLaws.{utf8_is_bytes}, KeyLaws.{spelled_is_key}, LineLaws.{blob_key_fits}}
use Rattle.picky_sshkey_blob.specs.PemRefusal.{pem_content}
use Rattle.picky_sshkey_blob.specs.declared.error.SshPrivateKeyError.TheVariants as private
use Rattle.picky_sshkey_blob.proofs.MeaningLaws.{pem_says}
use Rattle.picky_sshkey.specs.{Envelope.{Envelope, envelope as layout}, Kdf.{none}, PrivateRefusal.{envelope_error}}
use Rattle.picky_sshkey.proofs.PieceLaws.{envelope_keeps}
use Rattle.picky_ppk_parts.specs.PartsRefusal.{key_in_blob}
use Rattle.picky_ppk_parts.specs.declared.error.PuttyError.TheVariants as putty
use Rattle.picky_ppk_file.specs.{File.{is_sealed}, FileRefusal.{file_meaning}, FileText.{SaysFile}, declared.file.PpkFile.{PpkFile}}
use Rattle.picky_ppk_file.proofs.{FileLaws.{meaning_is_said}, LineSteps.{judged_ok}, RangeLaws.{fields_in_ranges}}
use Rattle.picky_key_text.specs.{Form.{form_of}, declared.error.ReadError.{ReadError}, declared.form.Form.{Form}}
use Rattle.picky_key_text.specs.declared.error.ReadError.TheVariants as errors
use Rattle.picky_key_text.specs.declared.form.Form.TheVariants as forms
use Rattle.picky_key_text.specs.declared.meaning.Meaning.{Meaning}
use Rattle.picky_key_text.proofs.Utf8Laws.{AreUtf8, cut_at_ascii, lines_are_utf8}
use Rattle.picky_suite.specs.Meanings.{Meanings}
use Rattle.picky_shown.specs.Shown.{envelope_shown, envelope_shows, file_shown, file_shows, is_encrypted, meaning_shown, open_shows}
use Rattle.picky_shown.specs.Shown.{sealed_shows, sealed_shows_as, shown_else, shows, text_envelope}
use Rattle.picky_shown.specs.Shown.{IsShownOf, open_comment}
use Rattle.picky_shown.specs.declared.sealing.ShownSealing.{ShownSealing}
use Rattle.picky_shown.specs.declared.sealing.ShownSealing.TheVariants.{OpenSsh, PpkV2, PpkV3, Unsealed}
use Rattle.picky_shown.specs.declared.showing.Shown.{Shown}
use Rattle.picky_shown.proofs.ShownLaws.{read_is_shown}
use Rattle.picky_key_text.specs.{Key.{public_part}, Reader.{Reader}, Reads.{Reads}}
use Rattle.picky_suite.specs.Meanings.{plain}
use Rattle.picky_inventory_texts.specs.Listed.{IsSealed, Listed, read_of, sealed_item}
use Rattle.picky_inventory_texts.specs.Texts.{listed_text, plain_reader, seen_text}
use Rattle.picky_key_text.specs.Order.{reading}
use Rattle.picky_wire_base.specs.Outcome.{map_ok}

-- the public key is one, and the comment a text
pub record IsKeptKey (shown : SshPublicKey) : Type 0 where
  pub key : IsKey shown.inner_key
  pub comment : IsText shown.comment

-- what is read of a blob of bytes
blob_is_key : (bytes : List ℕ) (key : SshBasePublicKey) → IsBytes bytes → blob_key bytes ≡ Ok key → IsKey key
blob_is_key bytes key each is =
    let fits = blob_key_fits bytes key is in
    spelled_is_key key fits.1.0 (bytes_in_front fits.1.0 fits.0 (subst IsBytes fits.1.2 each)) fits.1.1

text_of : (comment : List ℕ) → IsUtf8 comment → length comment < 2 ^ 32 → IsText comment
text_of comment utf8 short =
    record { string = record { bytes = utf8_is_bytes comment utf8; short = short }; utf8 = utf8 }

-- ---- an envelope

outer_is_bytes : (text : List ℕ) (e : Envelope) → IsUtf8 text → text_envelope text ≡ Ok e → IsBytes e.outer
unfolding text_envelope
outer_is_bytes text e utf8 is =
    let step = and_then_ok (map_err private.PemError (pem_content text))
    (λ content. map_err envelope_error (read_front layout content)) e is in
    let pem = pem_says text step.0 (utf8_is_bytes text utf8) (map_err_ok private.PemError (pem_content text) step.0 step.1) in
    let begins = front_sound layout step.0 e (map_err_ok envelope_error (read_front layout step.0) e step.2) in
    let fits = begins.1 in
    (envelope_keeps e fits.0 (bytes_in_front fits.0 begins.0 (subst IsBytes fits.2 pem.bytes)) fits.1).1

envelope_kept : (e : Envelope) (is_none : Bool) (shown : Shown) → IsBytes e.outer
    → (if is_none then Ok None else and_then (map_err errors.Public (blob_key e.outer)) (λ key. Ok (Some (envelope_shown e key))))
    ≡ Ok (Some shown)
    → IsKeptKey shown.key
envelope_kept e true shown each is =
    let other : None ≡ Some shown = cc is in cc other
envelope_kept e false shown each is =
    let step = and_then_ok (map_err errors.Public (blob_key e.outer)) (λ key. Ok (Some (envelope_shown e key))) (Some shown) is in
    let same : envelope_shown e step.0 ≡ shown = cc step.2 in
    let key : IsKey step.0 = blob_is_key e.outer step.0 each (map_err_ok errors.Public (blob_key e.outer) step.0 step.1) in
    subst (λ (s : Shown). IsKeptKey s.key) same (record { key = key; comment = text_of [] IsUtf8-nil (omega arith) })

-- ---- a file

-- the lines after a pair are UTF-8, and so is its value's text
pair_utf8 : {K V : Type 0} (key : Field K) (value : Field V) (ls : List (List ℕ)) (k : K) (v : V) (after : List (List ℕ))
    (is : IsPair key value ls k v after) → AreUtf8 ls → IsUtf8 is.value_text × AreUtf8 after
pair_utf8 key value ls k v after is each =
    let all = subst AreUtf8 is.first each in
    let line = subst IsUtf8 (is.parts.joined ∙ append_assoc is.key_text (codes ": ") is.value_text) all.0 in
    let colon = cut_at_ascii is.key_text 58 (32 ∷ is.value_text) (omega arith) line in
    ((cut_at_ascii [] 32 is.value_text (omega arith) colon.1).1, all.1)

comment_is : (text comment : List ℕ) → field_value comment_field text ≡ Ok comment → text ≡ comment
unfolding comment_field
comment_is text comment is =
    let some = (judged_ok is_long comment_row.expected text (Some text) comment is).0 in cc some

file_comment : (text : List ℕ) (f : PpkFile) → IsUtf8 text → SaysFile text f → IsUtf8 f.comment
file_comment text f utf8 says =
    let header = pair_utf8 _ _ _ _ _ _ says.header (lines_are_utf8 text utf8) in
    let encryption = pair_utf8 _ _ _ _ _ _ says.encryption header.1 in
    let comment = pair_utf8 _ _ _ _ _ _ says.comment encryption.1 in
    subst IsUtf8 (comment_is says.comment.value_text f.comment says.comment.value_is) comment.0

file_kept : (text : List ℕ) (f : PpkFile) (shut : Bool) (shown : Shown) → IsUtf8 text → file_meaning text ≡ Ok f
    → (if shut then and_then (map_err errors.Putty (key_in_blob f.public_key)) (λ key. Ok (Some (file_shown f key))) else Ok None)
    ≡ Ok (Some shown)
    → IsKeptKey shown.key
file_kept text f true shown utf8 file is =
    let step = and_then_ok (map_err errors.Putty (key_in_blob f.public_key)) (λ key. Ok (Some (file_shown f key))) (Some shown) is in
    let same : file_shown f step.0 ≡ shown = cc step.2 in
    let ranges = fields_in_ranges text f (utf8_is_bytes text utf8) file in
    let in_blob : key_in_blob f.public_key ≡ Ok step.0 = map_err_ok errors.Putty (key_in_blob f.public_key) step.0 step.1 in
    let key : IsKey step.0 =
    blob_is_key f.public_key step.0 ranges.public_key.1 (map_err_ok putty.SshPublicKey (blob_key f.public_key) step.0 in_blob) in
    subst (λ (s : Shown). IsKeptKey s.key) same
    (record { key = key; comment = text_of f.comment (file_comment text f utf8 (meaning_is_said text f file)) ranges.comment })
file_kept text f false shown utf8 file is =
    let other : None ≡ Some shown = cc is in cc other

-- ---- each form

kept_as : (form : Form) (text : List ℕ) (shown : Shown) → IsUtf8 text → sealed_shows_as form text ≡ Ok (Some shown)
    → IsKeptKey shown.key
kept_as forms.Envelope text shown utf8 is =
    let step = and_then_ok (map_err errors.Private (text_envelope text)) envelope_shows (Some shown) is in
    envelope_kept step.0 (bytes_eq step.0.kdf none) shown
    (outer_is_bytes text step.0 utf8 (map_err_ok errors.Private (text_envelope text) step.0 step.1)) step.2
kept_as forms.Ppk text shown utf8 is =
    let step = and_then_ok (map_err errors.Putty (file_meaning text)) file_shows (Some shown) is in
    file_kept text step.0 (is_sealed step.0.sealing) shown utf8 (map_err_ok errors.Putty (file_meaning text) step.0 step.1) step.2
kept_as forms.PuttyPublic text shown utf8 is = let other : None ≡ Some shown = cc is in cc other
kept_as forms.Certificate text shown utf8 is = let other : None ≡ Some shown = cc is in cc other
kept_as forms.PublicLine text shown utf8 is = let other : None ≡ Some shown = cc is in cc other

open_is_bare : (says : Result Meaning ReadError) (shown : Shown) → map_ok meaning_shown says ≡ Ok shown
    → is_encrypted shown.sealing ≡ true → IsKeptKey shown.key
open_is_bare (Ok meaning) shown is shut =
    let same : meaning_shown meaning ≡ shown = cc is in
    let bare : false ≡ true = ap (λ (s : Shown). is_encrypted s.sealing) same ∙ shut in cc bare
open_is_bare (Err e) shown is shut = cc is

kept_else : (m : Meanings) (text : List ℕ) (sealed : Option Shown) (shown : Shown) → IsUtf8 text → sealed_shows text ≡ Ok sealed
    → shown_else (open_shows m text) sealed ≡ Ok shown → is_encrypted shown.sealing ≡ true → IsKeptKey shown.key
unfolding sealed_shows
kept_else m text None shown utf8 was is shut = open_is_bare (reading (record { meanings = m; pass = None }) text) shown is shut
kept_else m text (Some other) shown utf8 was is shut =
    let same : other ≡ shown = cc is in
    subst (λ (s : Shown). IsKeptKey s.key) same (kept_as (form_of text) text other utf8 was)

-- what an encrypted text shows
pub shown_is_kept : (m : Meanings) (text : List ℕ) (shown : Shown) → IsUtf8 text → shows m text ≡ Ok shown
    → is_encrypted shown.sealing ≡ true → IsKeptKey shown.key
unfolding shows
shown_is_kept m text shown utf8 is shut =
    let found = and_then_ok (sealed_shows text) (shown_else (open_shows m text)) shown is in
    kept_else m text found.0 shown utf8 found.1 found.2 shut

-- ---- an encrypted text shows the same whatever the suite

open_is_not : (says : Result Meaning ReadError) (shown : Shown) → map_ok meaning_shown says ≡ Ok shown
    → is_encrypted shown.sealing ≡ true → ⊥
open_is_not (Ok meaning) shown is shut =
    let same : meaning_shown meaning ≡ shown = cc is in
    let bare : false ≡ true = ap (λ (s : Shown). is_encrypted s.sealing) same ∙ shut in cc bare
open_is_not (Err e) shown is shut = cc is

else_alike : (m n : Meanings) (text : List ℕ) (shown : Shown) (sealed : Option Shown)
    → shown_else (open_shows m text) sealed ≡ Ok shown → is_encrypted shown.sealing ≡ true
    → shown_else (open_shows n text) sealed ≡ Ok shown
else_alike m n text shown None is shut =
    absurd (open_is_not (reading (record { meanings = m; pass = None }) text) shown is shut)
else_alike m n text shown (Some other) is shut = is

shows_alike : (m n : Meanings) (text : List ℕ) (shown : Shown) → shows m text ≡ Ok shown → is_encrypted shown.sealing ≡ true
    → shows n text ≡ Ok shown
unfolding shows
shows_alike m n text shown is shut =
    let found = and_then_ok (sealed_shows text) (shown_else (open_shows m text)) shown is in
    ap (λ s. and_then s (shown_else (open_shows n text))) found.1 ∙ else_alike m n text shown found.0 found.2 shut

-- ---- a key that is listed as sealed

open_comment_is : (sealing : ShownSealing) (comment : List ℕ)
    → (open_comment sealing comment ≡ comment) ⊎ (open_comment sealing comment ≡ [])
open_comment_is Unsealed comment = inl refl
open_comment_is (OpenSsh cipher kdf rounds) comment = inr refl
open_comment_is PpkV2 comment = inl refl
open_comment_is (PpkV3 config) comment = inl refl

is_of_shown : (text : List ℕ) (shown : Shown) → shows plain text ≡ Ok shown → is_encrypted shown.sealing ≡ true → (r : Reader)
    (meaning : Meaning) → Reads r text meaning
    → (shown.key.inner_key ≡ public_part meaning.key)
    × ((shown.key.comment ≡ meaning.comment) ⊎ (shown.key.comment ≡ []))
is_of_shown text shown is shut r meaning reads =
    let seen = read_is_shown r text meaning reads in
    let both : Ok seen.0 ≡ Ok shown = sym seen.1 ∙ shows_alike plain r.meanings text shown is shut in
    let same : seen.0 ≡ shown = cc both in
    let of : IsShownOf meaning shown = subst (λ s. IsShownOf meaning s) same seen.2 in (
      of.key,
      elim (open_comment_is shown.sealing meaning.comment) [
        | inl whole ↦ inl (of.comment ∙ whole)
        | inr none ↦ inr (of.comment ∙ none)
      ],
    )

abbrev IsOfKey : Listed → Meaning → Type 0
IsOfKey listed meaning =
    (listed.key ≡ public_part meaning.key) × ((listed.comment ≡ meaning.comment) ⊎ (listed.comment ≡ []))

no_read_is_sealed : (says : Result Meaning ReadError) (listed : Listed) → map_ok read_of says ≡ Ok listed → listed.kind ≡ IsSealed → ⊥
no_read_is_sealed (Ok meaning) listed is sealed =
    let same : read_of meaning ≡ listed = cc is in
    let both : (read_of meaning).kind ≡ IsSealed = ap (λ (l : Listed). l.kind) same ∙ sealed in cc both
no_read_is_sealed (Err e) listed is sealed = cc is

seen_is_of : (text : List ℕ) (shown : Shown) (shut : Bool) (listed : Listed) → shows plain text ≡ Ok shown
    → is_encrypted shown.sealing ≡ shut → seen_text text shown ≡ Ok listed → listed.kind ≡ IsSealed → (r : Reader)
    (meaning : Meaning) → Reads r text meaning → IsOfKey listed meaning
seen_is_of text shown true listed is shut seen sealed r meaning reads =
    let same : sealed_item shown.key ≡ listed = cc (rw shut at seen) in
    subst (λ l. IsOfKey l meaning) same (is_of_shown text shown is shut r meaning reads)
seen_is_of text shown false listed is shut seen sealed r meaning reads =
    absurd (no_read_is_sealed (reading plain_reader text) listed (rw shut at seen) sealed)

pub sealed_is_of : (text : List ℕ) (listed : Listed) → listed_text true text ≡ Ok listed → listed.kind ≡ IsSealed → (r : Reader)
    (meaning : Meaning) → Reads r text meaning
    → (listed.key ≡ public_part meaning.key) × ((listed.comment ≡ meaning.comment) ⊎ (listed.comment ≡ []))
sealed_is_of text listed is sealed r meaning reads =
    let found = and_then_ok (shows plain text) (seen_text text) listed is in
    seen_is_of text found.0 (is_encrypted found.0.sealing) listed found.1 refl found.2 sealed r meaning reads
