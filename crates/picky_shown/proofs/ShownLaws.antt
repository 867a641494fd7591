-- What a text shows is of the key that it means.
use Rattle.std.specs.Prelude.{◌≡◌, ◌⊎◌, Bool, true, false, List, ℕ, Option, None, Some, Result, Ok, Err, if◌then◌else◌}
use Rattle.std.specs.Str.{bytes_eq}
use Rattle.std.proofs.{Common.{◌∙◌, ap, inl, inr, refl, sym}, lemmas.Slice.Eq.{bytes_eq-Decides}}
use Rattle.picky_wire_base.specs.{Front.{read_front}, Outcome.{and_then, map_err, map_ok}, carried.Inside.{front_complete}}
use Rattle.picky_wire_base.specs.carried.Outcome.{and_then_ok}
use Rattle.picky_suite.specs.Meanings.{Meanings}
use Rattle.picky_keys.specs.{LineRefusal.{blob_key}, declared.key.SshBasePublicKey.{SshBasePublicKey}}
use Rattle.picky_keys.specs.declared.public_key.PublicKey.{PublicKey}
use Rattle.picky_keys.specs.declared.public_key.PublicKey.TheVariants as plain
use Rattle.picky_keys.proofs.LineLaws.{blob_key_of}
use Rattle.picky_sshkey_blob.specs.{Key.{public_part as private_public_part}}
use Rattle.picky_sshkey_blob.specs.declared.key.SshBasePrivateKey.{SshBasePrivateKey}
use Rattle.picky_sshkey_blob.specs.declared.error.SshPrivateKeyError.TheVariants as private
use Rattle.picky_sshkey_blob.proofs.MeaningLaws.{pem_means}
use Rattle.picky_sshkey.specs.{Envelope.{Envelope, envelope as layout}, Kdf.{none, bcrypt}, PrivateRefusal.{envelope_error}}
use Rattle.picky_sshkey.specs.PrivateText.{IsPrivateText, key_in}
use Rattle.picky_sshkey.specs.declared.private_key.SshPrivateKey.{SshPrivateKey}
use Rattle.picky_ppk_parts.specs.{Algorithm.{ssh_key_of}, PartsRefusal.{key_in_blob}}
use Rattle.picky_ppk_parts.specs.Secret.{ppk_secret_fields, ppk_rsa_fields, ppk_ec_fields, ppk_ed_fields}
use Rattle.picky_ppk_file.specs.{File.{is_sealed}, FileRefusal.{file_meaning}, declared.file.PpkFile.{PpkFile}}
use Rattle.picky_ppk_file.specs.declared.file.PpkSealing.{PpkSealing}
use Rattle.picky_ppk_file.specs.declared.file.PpkSealing.TheVariants as sealings
use Rattle.picky_ppk_file.proofs.FileLaws.{said_is_meant}
use Rattle.picky_key_text.specs.{Form.{form_of}, Key.{public_part, private_meaning}, Order.{reading}, Reader.{Reader}}
use Rattle.picky_key_text.specs.{PpkText.{CanOpen}, Reads.{Means, Reads}}
use Rattle.picky_key_text.specs.declared.error.ReadError.{ReadError}
use Rattle.picky_key_text.specs.declared.error.ReadError.TheVariants as errors
use Rattle.picky_key_text.specs.declared.form.Form.{Form}
use Rattle.picky_key_text.specs.declared.form.Form.TheVariants as forms
use Rattle.picky_key_text.specs.declared.meaning.Meaning.{Meaning}
use Rattle.picky_key_text.proofs.ReadingLaws.{reading_of}
use Rattle.picky_shown.specs.Shown.{IsShownOf, envelope_shown, envelope_shows, file_shown, file_shows, meaning_shown, open_comment}
use Rattle.picky_shown.specs.Shown.{open_shows, sealed_shows, sealed_shows_as, sealing_shown, shown_else, shown_rounds, shows}
use Rattle.picky_shown.specs.Shown.{text_envelope}
use Rattle.picky_shown.specs.declared.sealing.ShownSealing.TheVariants.{Unsealed, OpenSsh}
use Rattle.picky_shown.specs.declared.showing.Shown.{Shown}
use Rattle.picky_shown.proofs.OpenLemmas.{open_is_shown}

-- the same without a passphrase
abbrev bare : Reader → Reader
bare r = record { meanings = r.meanings; pass = None }

-- of an encrypted text, which has a passphrase, this is shown; of another nothing, and it means the same without one
abbrev SealedShows : Form → Reader → List ℕ → Meaning → Type 0
SealedShows form r text meaning =
    ((shown : Shown) × (sealed_shows_as form text ≡ Ok (Some shown)) × IsShownOf meaning shown
    × ((pass : List ℕ) × (r.pass ≡ Some pass)))
    ⊎ ((sealed_shows_as form text ≡ Ok None) × Means form (bare r) text meaning)

-- ---- OpenSSH's private key

names_differ : bytes_eq bcrypt none ≡ false
unfolding bcrypt none
names_differ = refl

-- the envelope that a text is said to have
said_envelope : (r : Reader) (text : List ℕ) (key : SshPrivateKey) (is : IsPrivateText r.meanings r.pass text key)
    → text_envelope text ≡ Ok is.says.envelope
unfolding text_envelope
said_envelope r text key is =
    ap (λ p. and_then (map_err private.PemError p) (λ content. map_err envelope_error (read_front layout content)))
    (pem_means text is.content is.pem)
    ∙ ap (map_err envelope_error) (front_complete layout is.content is.says.envelope (is.says.rest, is.says.fits))

-- one that isn't encrypted shows nothing by itself
plain_envelope : (e : Envelope) → e.kdf ≡ none → envelope_shows e ≡ Ok None
plain_envelope e kdf = rw ((bytes_eq-Decides e.kdf none).1 kdf) refl

-- and an encrypted one the public key before its block
sealed_envelope : (e : Envelope) (key : SshBasePublicKey) → e.kdf ≡ bcrypt → blob_key e.outer ≡ Ok key
    → envelope_shows e ≡ Ok (Some (envelope_shown e key))
sealed_envelope e key kdf blob =
    let other : bytes_eq e.kdf none ≡ false = ap (λ k. bytes_eq k none) kdf ∙ names_differ in
    rw (other, blob) refl

-- the same text without a passphrase
bare_text : (r : Reader) (text : List ℕ) (key : SshPrivateKey) (is : IsPrivateText r.meanings r.pass text key)
    → is.says.envelope.kdf ≡ none → is.says.plain ≡ is.says.envelope.block
    → IsPrivateText r.meanings None text (key_in None is.says.envelope is.says.block)
bare_text r text key is kdf plain = record {
  short = tt;
  content = is.content;
  pem = is.pem;
  says = record {
    envelope = is.says.envelope;
    rest = is.says.rest;
    fits = is.says.fits;
    plain = is.says.plain;
    opened = inl (kdf, plain);
    block = is.says.block;
    padding = is.says.padding;
    block_fits = is.says.block_fits;
    outer_rest = is.says.outer_rest;
    outer_fits = is.says.outer_fits;
    key_is = refl;
  };
}

envelope_is_shown : (r : Reader) (text : List ℕ) (meaning : Meaning) → Means forms.Envelope r text meaning
    → SealedShows forms.Envelope r text meaning
envelope_is_shown r text meaning (key, is, same) =
    let e = is.says.envelope in
    let public : SshBasePublicKey = private_public_part is.says.block.key in
    let found : text_envelope text ≡ Ok e = said_envelope r text key is in
    let as_text : (shows : Result (Option Shown) ReadError) → envelope_shows e ≡ shows → sealed_shows_as forms.Envelope text ≡ shows =
    λ shows same. ap (λ t. and_then (map_err errors.Private t) envelope_shows) found ∙ same
    in
    let whole : meaning ≡ private_meaning is.says.block.key key.comment =
    same ∙ ap (λ (k : SshPrivateKey). private_meaning k.base_key key.comment) is.says.key_is
    in
    elim is.says.opened [
      | inl bare ↦ inr (
        as_text (Ok None) (plain_envelope e bare.0),
        (
          key_in None e is.says.block,
          bare_text r text key is bare.0 bare.1,
          same ∙ ap (λ (k : SshPrivateKey). private_meaning k.base_key k.comment) is.says.key_is,
        ),
      )
      | inr shut ↦ inl (
        envelope_shown e public,
        as_text (Ok (Some (envelope_shown e public)))
            (sealed_envelope e public shut.1.kdf (blob_key_of e.outer is.says.outer_rest public is.says.outer_fits)),
        record { key = sym (ap (λ (m : Meaning). public_part m.key) whole); comment = refl },
        (shut.0.pass, shut.1.pass),
      )
    ]

-- ---- PuTTY's private key file

-- the public key before a secret is the key's public part
secret_has_public : (public : PublicKey) (key : SshBasePrivateKey) (bytes : List ℕ)
    → (ppk_secret_fields public).piece key bytes → private_public_part key ≡ ssh_key_of public
unfolding ppk_rsa_fields ppk_ec_fields ppk_ed_fields
secret_has_public (plain.Rsa e n) key bytes (secret, x, y, spells, (same, nothing), joined) = ap private_public_part same
secret_has_public (plain.Ec curve point) key bytes (secret, x, y, spells, (same, nothing), joined) = ap private_public_part same
secret_has_public (plain.Ed public) key bytes (secret, x, y, spells, (same, nothing), joined) = ap private_public_part same

-- what can be opened is sealed
can_open_sealed : (s : PpkSealing) (pass : List ℕ) → CanOpen s pass → is_sealed s ≡ true
can_open_sealed (sealings.Unsealed version) pass can = absurd can
can_open_sealed sealings.SealedV2 pass can = refl
can_open_sealed (sealings.SealedV3 params) pass can = refl

-- a file's comment stands open
file_comment : (s : PpkSealing) (comment : List ℕ) → comment ≡ open_comment (sealing_shown s) comment
file_comment (sealings.Unsealed version) comment = refl
file_comment sealings.SealedV2 comment = refl
file_comment (sealings.SealedV3 params) comment = refl

plain_file : (f : PpkFile) → is_sealed f.sealing ≡ false → file_shows f ≡ Ok None
plain_file f unlocked = rw unlocked refl

sealed_file : (f : PpkFile) (key : SshBasePublicKey) → is_sealed f.sealing ≡ true → blob_key f.public_key ≡ Ok key
    → file_shows f ≡ Ok (Some (file_shown f key))
sealed_file f key shut blob = rw (shut, blob) refl

file_is_shown : (r : Reader) (text : List ℕ) (meaning : Meaning) → Means forms.Ppk r text meaning
    → SealedShows forms.Ppk r text meaning
file_is_shown r text meaning is =
    let f = is.file in
    let public : SshBasePublicKey = ssh_key_of is.stands.public in
    let found : file_meaning text ≡ Ok f = said_is_meant text f is.says in
    let as_text : (shows : Result (Option Shown) ReadError) → file_shows f ≡ shows → sealed_shows_as forms.Ppk text ≡ shows =
    λ shows same. ap (λ t. and_then (map_err errors.Putty t) file_shows) found ∙ same
    in
    let blob = blob_key_of f.public_key is.stands.blob_begins.0 public is.stands.blob_begins.1 in
    let part : private_public_part is.key ≡ public =
    secret_has_public is.stands.public is.key is.stands.private_begins.1.0 is.stands.private_begins.1.1
    in
    elim is.opened [
      | inl unlocked ↦ inr (
        as_text (Ok None) (plain_file f unlocked.0.0),
        record {
          file = f;
          says = is.says;
          private = is.private;
          opened = inl unlocked;
          key = is.key;
          stands = is.stands;
          is = is.is;
        },
      )
      | inr shut ↦ inl (
        file_shown f public,
        as_text (Ok (Some (file_shown f public))) (sealed_file f public (can_open_sealed f.sealing shut.0 shut.2.can_open) blob),
        record {
          key = sym (ap (λ (m : Meaning). public_part m.key) is.is ∙ part);
          comment =
              file_comment f.sealing f.comment
              ∙ sym (ap (λ (m : Meaning). open_comment (sealing_shown f.sealing) m.comment) is.is);
        },
        (shut.0, shut.1),
      )
    ]

-- ---- each form

as_form_is_shown : (form : Form) (r : Reader) (text : List ℕ) (meaning : Meaning) → Means form r text meaning
    → SealedShows form r text meaning
as_form_is_shown forms.Envelope r text meaning means = envelope_is_shown r text meaning means
as_form_is_shown forms.Ppk r text meaning means = file_is_shown r text meaning means
as_form_is_shown forms.PuttyPublic r text meaning means = inr (refl, means)
as_form_is_shown forms.Certificate r text meaning means = inr (refl, means)
as_form_is_shown forms.PublicLine r text meaning means = inr (refl, means)

-- a text that shows nothing as an encrypted one shows what it means
open_text_shows : (m : Meanings) (text : List ℕ) (meaning : Meaning) → sealed_shows text ≡ Ok None
    → Reads (record { meanings = m; pass = None }) text meaning → shows m text ≡ Ok (meaning_shown meaning)
unfolding shows
open_text_shows m text meaning unlocked reads =
    ap (λ s. and_then s (shown_else (open_shows m text))) unlocked
    ∙ open_is_shown m text meaning (reading_of (record { meanings = m; pass = None }) text meaning reads)

sealed_text_shows : (m : Meanings) (text : List ℕ) (shown : Shown) → sealed_shows text ≡ Ok (Some shown)
    → shows m text ≡ Ok shown
unfolding shows
sealed_text_shows m text shown sealed = ap (λ s. and_then s (shown_else (open_shows m text))) sealed

text_is_shown : (r : Reader) (text : List ℕ) (meaning : Meaning) → Reads r text meaning
    → SealedShows (form_of text) r text meaning
text_is_shown r text meaning reads = as_form_is_shown (form_of text) r text meaning reads

-- What a text means under some passphrase, it shows.
pub read_is_shown : (r : Reader) (text : List ℕ) (meaning : Meaning) → Reads r text meaning
    → (shown : Shown) × (shows r.meanings text ≡ Ok shown) × IsShownOf meaning shown
unfolding sealed_shows
read_is_shown r text meaning reads = elim (text_is_shown r text meaning reads) [
  | inl sealed ↦ (sealed.0, sealed_text_shows r.meanings text sealed.0 sealed.1, sealed.2)
  | inr unlocked ↦ (
    meaning_shown meaning,
    open_text_shows r.meanings text meaning unlocked.0 unlocked.1,
    record { key = refl; comment = refl },
  )
]

-- What it means without one, it shows as it is.
pub open_text_is_shown : (m : Meanings) (text : List ℕ) (meaning : Meaning)
    → Reads (record { meanings = m; pass = None }) text meaning → shows m text ≡ Ok (meaning_shown meaning)
unfolding sealed_shows
open_text_is_shown m text meaning reads =
    elim (text_is_shown (record { meanings = m; pass = None }) text meaning reads) [
      | inl sealed ↦ let given : None ≡ Some sealed.3.0 = sealed.3.1 in cc given
      | inr unlocked ↦ open_text_shows m text meaning unlocked.0 unlocked.1
    ]

-- ---- what is shown as unsealed

envelope_is_sealed : (e : Envelope) (is_none : Bool) (key : Result SshBasePublicKey ReadError) (shown : Shown)
    → (if is_none then Ok None else and_then key (λ key. Ok (Some (envelope_shown e key)))) ≡ Ok (Some shown)
    → shown.sealing ≡ Unsealed → ⊥
envelope_is_sealed e true key shown is plain =
    let other : None ≡ Some shown = cc is in cc other
envelope_is_sealed e false (Ok key) shown is plain =
    let same : envelope_shown e key ≡ shown = cc is in
    let both : OpenSsh e.cipher e.kdf (shown_rounds e) ≡ Unsealed = ap (λ (s : Shown). s.sealing) same ∙ plain in cc both
envelope_is_sealed e false (Err why) shown is plain = cc is

sealing_is_shown : (s : PpkSealing) → is_sealed s ≡ true → sealing_shown s ≡ Unsealed → ⊥
sealing_is_shown (sealings.Unsealed version) shut plain = cc shut
sealing_is_shown sealings.SealedV2 shut plain = cc plain
sealing_is_shown (sealings.SealedV3 params) shut plain = cc plain

file_is_sealed : (f : PpkFile) (shut : Bool) (key : Result SshBasePublicKey ReadError) (shown : Shown) → is_sealed f.sealing ≡ shut
    → (if shut then and_then key (λ key. Ok (Some (file_shown f key))) else Ok None) ≡ Ok (Some shown)
    → shown.sealing ≡ Unsealed → ⊥
file_is_sealed f true (Ok key) shown shut is plain =
    let same : file_shown f key ≡ shown = cc is in
    sealing_is_shown f.sealing shut (ap (λ (s : Shown). s.sealing) same ∙ plain)
file_is_sealed f true (Err why) shown shut is plain = cc is
file_is_sealed f false key shown shut is plain =
    let other : None ≡ Some shown = cc is in cc other

shown_is_sealed : (form : Form) (text : List ℕ) (shown : Shown) → sealed_shows_as form text ≡ Ok (Some shown)
    → shown.sealing ≡ Unsealed → ⊥
shown_is_sealed forms.Envelope text shown is plain =
    let found = and_then_ok (map_err errors.Private (text_envelope text)) envelope_shows (Some shown) is in
    envelope_is_sealed found.0 (bytes_eq found.0.kdf none) (map_err errors.Public (blob_key found.0.outer)) shown found.2 plain
shown_is_sealed forms.Ppk text shown is plain =
    let found = and_then_ok (map_err errors.Putty (file_meaning text)) file_shows (Some shown) is in
    file_is_sealed found.0 (is_sealed found.0.sealing) (map_err errors.Putty (key_in_blob found.0.public_key)) shown refl found.2 plain
shown_is_sealed forms.PuttyPublic text shown is plain = let other : None ≡ Some shown = cc is in cc other
shown_is_sealed forms.Certificate text shown is plain = let other : None ≡ Some shown = cc is in cc other
shown_is_sealed forms.PublicLine text shown is plain = let other : None ≡ Some shown = cc is in cc other

-- What is shown by what is read is what is read.
read_of_shown : (says : Result Meaning ReadError) (shown : Shown) → map_ok meaning_shown says ≡ Ok shown
    → (meaning : Meaning) × (says ≡ Ok meaning) × (shown ≡ meaning_shown meaning)
read_of_shown (Ok meaning) shown is = (meaning, refl, let same : meaning_shown meaning ≡ shown = cc is in sym same)
read_of_shown (Err e) shown is = cc is

unsealed_else : (m : Meanings) (text : List ℕ) (sealed : Option Shown) (shown : Shown) → sealed_shows text ≡ Ok sealed
    → shown_else (open_shows m text) sealed ≡ Ok shown → shown.sealing ≡ Unsealed
    → (meaning : Meaning) × (reading (record { meanings = m; pass = None }) text ≡ Ok meaning)
    × (shown ≡ meaning_shown meaning)
unfolding sealed_shows
unsealed_else m text None shown was is plain = read_of_shown (reading (record { meanings = m; pass = None }) text) shown is
unsealed_else m text (Some other) shown was is plain =
    let same : other ≡ shown = cc is in
    absurd (shown_is_sealed (form_of text) text other was (ap (λ (s : Shown). s.sealing) same ∙ plain))

-- What a text shows as unsealed, it means without a passphrase.
pub unsealed_is_read : (m : Meanings) (text : List ℕ) (shown : Shown) → shows m text ≡ Ok shown → shown.sealing ≡ Unsealed
    → (meaning : Meaning) × (reading (record { meanings = m; pass = None }) text ≡ Ok meaning)
    × (shown ≡ meaning_shown meaning)
unfolding shows
unsealed_is_read m text shown is plain =
    let found = and_then_ok (sealed_shows text) (shown_else (open_shows m text)) shown is in
    unsealed_else m text found.0 shown found.1 found.2 plain
