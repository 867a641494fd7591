-- No text is refused for a fault of a suite or for want of memory, which are the code's alone.
use Rattle.std.specs.Prelude.{◌≡◌, ◌≢◌, ◌⊎◌, List, ℕ, Option, None, Some, Result, Ok, Err}
use Rattle.std.specs.Str.{bytes_eq}
use Rattle.std.proofs.Common.{ap, inl, inr, refl, subst, ◌∙◌}
use Rattle.picky_wire_base.specs.{Front.{read_front}, Outcome.{and_then, map_err, map_ok}}
use Rattle.picky_suite.specs.Meanings.{Meanings, plain}
use Rattle.picky_keys.specs.{BlobRefusal.{read_blob}, LineRefusal.{blob_key}, carried.BlobLayout.{blob_own}}
use Rattle.picky_keys.specs.declared.error.SshPublicKeyError.{SshPublicKeyError}
use Rattle.picky_keys.specs.declared.error.SshPublicKeyError.TheVariants as public
use Rattle.picky_keys.specs.declared.key.SshBasePublicKey.{SshBasePublicKey}
use Rattle.picky_sshkey_blob.specs.PemRefusal.{pem_content}
use Rattle.picky_sshkey_blob.specs.declared.error.SshPrivateKeyError.{SshPrivateKeyError}
use Rattle.picky_sshkey_blob.specs.declared.error.SshPrivateKeyError.TheVariants as private
use Rattle.picky_sshkey_blob.proofs.RefusedLemmas.{and_then_err}
use Rattle.picky_sshkey.specs.{Envelope.{Envelope, envelope as layout}, Kdf.{none}}
use Rattle.picky_sshkey.specs.PrivateRefusal.{closed, content_key, envelope_error, envelope_under, text_key}
use Rattle.picky_sshkey.proofs.FaultLaws.{text_no_fault}
use Rattle.picky_sshkey.proofs.RefusalLaws.{Refuses, if_as, ok_as, then_as}
use Rattle.picky_ppk_parts.specs.PartsRefusal.{key_in_blob}
use Rattle.picky_ppk_parts.specs.declared.error.PuttyError.{PuttyError}
use Rattle.picky_ppk_parts.specs.declared.error.PuttyError.TheVariants as putty
use Rattle.picky_ppk_file.specs.{File.{is_sealed}, FileRefusal.{file_meaning}, declared.file.PpkFile.{PpkFile}}
use Rattle.picky_ppk.specs.Checked.{checked, ppk_meaning}
use Rattle.picky_key_text.specs.{Form.{form_of}, Want.{WantsMemory}}
use Rattle.picky_key_text.specs.Order.{reading}
use Rattle.picky_key_text.specs.declared.error.ReadError.{ReadError}
use Rattle.picky_key_text.specs.declared.error.ReadError.TheVariants as errors
use Rattle.picky_key_text.specs.declared.form.Form.{Form}
use Rattle.picky_key_text.specs.declared.form.Form.TheVariants as forms
use Rattle.picky_key_text.specs.declared.meaning.Meaning.{Meaning}
use Rattle.picky_key_text.proofs.FileRefusalLemmas.{IsOwnPutty, mapped_as, ppk_meaning_own}
use Rattle.picky_key_text.proofs.RefusalLaws.{IsOwnRead, reading_own}
use Rattle.picky_shown.specs.Shown.{envelope_shows, file_shows, meaning_shown, open_shows, sealed_shows, sealed_shows_as}
use Rattle.picky_shown.specs.Shown.{shown_else, shows, text_envelope}
use Rattle.picky_shown.specs.declared.showing.Shown.{Shown}

-- ---- a public key

blob_key_own : (blob : List ℕ) (e : SshPublicKeyError) → blob_key blob ≡ Err e → e ≢ public.NoMemory
unfolding blob_key
blob_key_own blob e is = elim (and_then_err (read_blob blob) (λ found. Ok found.0) e is) [
  | inl early ↦ (blob_own blob e early).1
  | inr (x, was, late) ↦ λ same. cc late
]

public_own : (blob : List ℕ) → Refuses IsOwnRead (map_err errors.Public (blob_key blob))
public_own blob =
    mapped_as IsOwnRead errors.Public (blob_key blob) (λ e is. (λ fault. fault, blob_key_own blob e is))

-- ---- OpenSSH's private key

-- what refuses the envelope refuses the text
envelope_refuses : (text : List ℕ) (e : SshPrivateKeyError) → text_envelope text ≡ Err e → text_key plain None text ≡ Err e
unfolding text_envelope text_key content_key closed envelope_under
envelope_refuses text e is =
    elim (and_then_err (map_err private.PemError (pem_content text)) (λ content. map_err envelope_error (read_front layout content)) e is) [
      | inl early ↦ ap (λ t. and_then t (content_key plain None)) early
      | inr (content, was, late) ↦ rw (was, late) refl
    ]

private_wants : (text : List ℕ) (e : SshPrivateKeyError) → text_key plain None text ≡ Err e → WantsMemory (errors.Private e) → ⊥
private_wants text e is (inl memory) = (text_no_fault plain None text).1 (is ∙ ap Err memory)
private_wants text e is (inr memory) = (text_no_fault plain None text).2 (is ∙ ap Err memory)

private_own : (text : List ℕ) → Refuses IsOwnRead (map_err errors.Private (text_envelope text))
private_own text =
    mapped_as IsOwnRead errors.Private (text_envelope text) (λ e is.
    let refused = envelope_refuses text e is in
    (λ fault. (text_no_fault plain None text).0 (refused ∙ ap Err fault), private_wants text e refused))

envelope_own : (e : Envelope) → Refuses IsOwnRead (envelope_shows e)
envelope_own e =
    if_as IsOwnRead (bytes_eq e.kdf none) _ _ (ok_as IsOwnRead None)
    (then_as IsOwnRead (map_err errors.Public (blob_key e.outer)) _ (public_own e.outer) (λ key. ok_as IsOwnRead _))

-- ---- PuTTY's private key file

file_refuses : (text : List ℕ) (e : PuttyError) → file_meaning text ≡ Err e → ppk_meaning plain text ≡ Err e
unfolding ppk_meaning
file_refuses text e is = ap (λ t. and_then t (checked plain)) is

putty_wants : (e : PuttyError) → IsOwnPutty e → WantsMemory (errors.Putty e) → ⊥
putty_wants e own (inl memory) = subst IsOwnPutty memory own
putty_wants e own (inr memory) = subst IsOwnPutty memory own

putty_own : (text : List ℕ) → Refuses IsOwnRead (map_err errors.Putty (file_meaning text))
putty_own text =
    mapped_as IsOwnRead errors.Putty (file_meaning text) (λ e is.
    let own = ppk_meaning_own plain text e (file_refuses text e is) in
    (λ fault. subst IsOwnPutty fault own, putty_wants e own))

key_wants : (blob : List ℕ) (e : PuttyError) → key_in_blob blob ≡ Err e → WantsMemory (errors.Putty e) → ⊥
key_wants blob e is wants = go (blob_key blob) refl is wants
  where
    go : (r : Result SshBasePublicKey SshPublicKeyError) → blob_key blob ≡ r → map_err putty.SshPublicKey r ≡ Err e
        → (e ≡ putty.NoMemory) ⊎ (e ≡ putty.SshPublicKey public.NoMemory) → ⊥
    go (Ok key) was answers memory = cc answers
    go (Err why) was answers (inl memory) =
        let same : putty.SshPublicKey why ≡ putty.NoMemory = cc (answers, memory) in cc same
    go (Err why) was answers (inr memory) =
        let same : why ≡ public.NoMemory = cc (answers, memory) in blob_key_own blob why was same

key_faults : (blob : List ℕ) (e : PuttyError) → key_in_blob blob ≡ Err e → e ≡ putty.SuiteFault → ⊥
key_faults blob e is fault = go (blob_key blob) is fault
  where
    go : (r : Result SshBasePublicKey SshPublicKeyError) → map_err putty.SshPublicKey r ≡ Err e → e ≡ putty.SuiteFault → ⊥
    go (Ok key) answers fault = cc answers
    go (Err why) answers fault = let same : putty.SshPublicKey why ≡ putty.SuiteFault = cc (answers, fault) in cc same

file_own : (f : PpkFile) → Refuses IsOwnRead (file_shows f)
file_own f =
    if_as IsOwnRead (is_sealed f.sealing) _ _
    (then_as IsOwnRead (map_err errors.Putty (key_in_blob f.public_key)) _
    (mapped_as IsOwnRead errors.Putty (key_in_blob f.public_key) (λ e is. (key_faults f.public_key e is, key_wants f.public_key e is)))
    (λ key. ok_as IsOwnRead _))
    (ok_as IsOwnRead None)

-- ---- any text

sealed_own : (form : Form) (text : List ℕ) → Refuses IsOwnRead (sealed_shows_as form text)
sealed_own forms.Envelope text =
    then_as IsOwnRead (map_err errors.Private (text_envelope text)) envelope_shows (private_own text) envelope_own
sealed_own forms.Ppk text = then_as IsOwnRead (map_err errors.Putty (file_meaning text)) file_shows (putty_own text) file_own
sealed_own forms.PuttyPublic text = ok_as IsOwnRead None
sealed_own forms.Certificate text = ok_as IsOwnRead None
sealed_own forms.PublicLine text = ok_as IsOwnRead None

map_ok_as : (r : Result Meaning ReadError) → Refuses IsOwnRead r → Refuses IsOwnRead (map_ok meaning_shown r)
map_ok_as (Ok meaning) own e is = cc is
map_ok_as (Err why) own e is =
    let same : why ≡ e = cc is in own e (ap Err same)

else_own : (m : Meanings) (text : List ℕ) (sealed : Option Shown) → Refuses IsOwnRead (shown_else (open_shows m text) sealed)
else_own m text None =
    map_ok_as (reading (record { meanings = m; pass = None }) text) (reading_own (record { meanings = m; pass = None }) text)
else_own m text (Some shown) = ok_as IsOwnRead shown

pub shows_own : (m : Meanings) (text : List ℕ) (e : ReadError) → shows m text ≡ Err e → IsOwnRead e
unfolding shows sealed_shows
shows_own m text =
    then_as IsOwnRead (sealed_shows text) (shown_else (open_shows m text)) (sealed_own (form_of text) text) (else_own m text)
