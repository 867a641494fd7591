-- Who reads without a passphrase asks no suite.
use Rattle.std.proofs.Common.{◌≡◌, Bool, true, false, ℕ, List, None, Some, Result, Ok, Err, refl}
use Rattle.std.specs.Option.{ok_or}
use Rattle.std.specs.Prelude.{if◌then◌else◌}
use Rattle.picky_wire_base.specs.Outcome.{and_then}
use Rattle.picky_sshkey_blob.specs.declared.error.SshPrivateKeyError.{SshPrivateKeyError}
use Rattle.picky_sshkey_blob.specs.declared.error.SshPrivateKeyError.TheVariants as private
use Rattle.picky_sshkey_blob.specs.declared.pem_error.PemError.{PemError}
use Rattle.picky_sshkey.specs.Envelope.{Envelope}
use Rattle.picky_sshkey.specs.Opened.{Lock}
use Rattle.picky_sshkey.specs.PrivateRefusal.{closed, content_asks, envelope_under, is_locked, lock_of, lock_under, pem_asks}
use Rattle.picky_sshkey.specs.PrivateRefusal.{sealed_under, text_asks}
use Rattle.picky_sshkey.specs.declared.cipher.Cipher.{Cipher}
use Rattle.picky_key_text.specs.Form.{form_of}
use Rattle.picky_key_text.specs.Order.{asks, asks_as, ppk_asks}
use Rattle.picky_key_text.specs.declared.form.Form.{Form}
use Rattle.picky_key_text.specs.declared.form.Form.TheVariants as forms

-- a block that is sealed has no lock without a passphrase
by_cipher : (envelope : Envelope) (cipher : Result Cipher SshPrivateKeyError) (is_bcrypt : Bool) → (e : SshPrivateKeyError)
    × (and_then cipher (λ c. if is_bcrypt then and_then (ok_or None private.MissingPassphrase) (lock_under envelope c)
    else Err (private.UnsupportedKdf envelope.kdf)) ≡ Err e)
by_cipher envelope (Ok c) true = (private.MissingPassphrase, refl)
by_cipher envelope (Ok c) false = (private.UnsupportedKdf envelope.kdf, refl)
by_cipher envelope (Err e) is_bcrypt = (e, refl)

sealed_is_refused : (envelope : Envelope) → (e : SshPrivateKeyError) × (sealed_under None envelope ≡ Err e)
unfolding sealed_under
sealed_is_refused envelope = by_cipher envelope _ _

by_kdf : (envelope : Envelope) (is_none : Bool) (sealed : Result Lock SshPrivateKeyError) (e : SshPrivateKeyError) → sealed ≡ Err e
    → is_locked (and_then (if is_none then Ok None else and_then sealed (λ lock. Ok (Some lock)))
    (λ lock. Ok (record { envelope = envelope; lock = lock }))) ≡ false
by_kdf envelope true sealed e refused = refl
by_kdf envelope false (Ok lock) e refused = cc refused
by_kdf envelope false (Err d) e refused = refl

envelope_unasked : (envelope : Result Envelope SshPrivateKeyError) → is_locked (and_then envelope (λ envelope.
    and_then (lock_of None envelope) (λ lock. Ok (record { envelope = envelope; lock = lock })))) ≡ false
unfolding lock_of
envelope_unasked (Ok envelope) = let refused = sealed_is_refused envelope in by_kdf envelope _ (sealed_under None envelope) refused.0 refused.1
envelope_unasked (Err e) = refl

content_unasked : (content : Result (List ℕ) PemError) → pem_asks None content ≡ false
unfolding content_asks closed
content_unasked (Ok content) = envelope_unasked (envelope_under None content)
content_unasked (Err e) = refl

text_unasked : (text : List ℕ) → text_asks None text ≡ false
unfolding text_asks
text_unasked text = content_unasked _

ppk_unasked : (text : List ℕ) → ppk_asks None text ≡ false
unfolding ppk_asks
ppk_unasked text = refl

unasked_as : (form : Form) (text : List ℕ) → asks_as form None text ≡ false
unasked_as forms.Envelope text = text_unasked text
unasked_as forms.Ppk text = ppk_unasked text
unasked_as forms.PuttyPublic text = refl
unasked_as forms.Certificate text = refl
unasked_as forms.PublicLine text = refl

pub unasked : (text : List ℕ) → asks None text ≡ false
unfolding asks
unasked text = unasked_as (form_of text) text
