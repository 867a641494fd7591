-- What an envelope means, by its key and its comment alone.
use Rattle.std.specs.Prelude.{◌⊎◌, List, ℕ, Option}
use Rattle.std.proofs.Common.{◌≡◌, Result, Ok, Err, ap, inl, inr, refl}
use Rattle.picky_wire_base.specs.Outcome.{and_then, map_err, map_ok}
use Rattle.picky_suite.specs.Failures.{IsAskedFault}
use Rattle.picky_suite.specs.Meanings.{Meanings}
use Rattle.picky_sshkey_blob.specs.declared.error.SshPrivateKeyError.{SshPrivateKeyError}
use Rattle.picky_sshkey_blob.specs.declared.error.SshPrivateKeyError.TheVariants as private
use Rattle.picky_sshkey_blob.specs.declared.key.SshBasePrivateKey.{SshBasePrivateKey}
use Rattle.picky_sshkey.specs.declared.private_key.SshPrivateKey.{SshPrivateKey}
use Rattle.picky_sshkey.specs.PrivateRefusal.{text_asks, text_key}
use Rattle.picky_sshkey.specs.PrivateText.{base_and_comment}
use Rattle.picky_key_text.specs.declared.error.ReadError.{ReadError}
use Rattle.picky_key_text.specs.declared.error.ReadError.TheVariants as errors
use Rattle.picky_key_text.specs.declared.form.Form.{Form}
use Rattle.picky_key_text.specs.declared.form.Form.TheVariants as forms
use Rattle.picky_key_text.specs.Key.{private_meaning}
use Rattle.picky_key_text.specs.Order.{asks_as, envelope_meaning, fault_as, reading_as}
use Rattle.picky_key_text.specs.inner.Refusals.{envelope_refusal}

-- it is what these mean
pub base_means : (says : Result SshPrivateKey SshPrivateKeyError) (key : SshBasePrivateKey) (comment : List ℕ)
    → map_ok base_and_comment says ≡ Ok (key, comment)
    → and_then (map_err errors.Private says) (λ key. Ok (envelope_meaning key)) ≡ Ok (private_meaning key comment)
base_means (Ok found) key comment is =
    let same : base_and_comment found ≡ (key, comment) = cc is in ap (λ both. Ok (private_meaning both.0 both.1)) same
base_means (Err e) key comment is = cc is

-- without them there is no meaning
no_base_means : (says : Result SshPrivateKey SshPrivateKeyError) (e : SshPrivateKeyError)
    → map_ok base_and_comment says ≡ Err e
    → and_then (map_err errors.Private says) (λ key. Ok (envelope_meaning key)) ≡ Err (errors.Private e)
no_base_means (Ok found) e is = cc is
no_base_means (Err d) e is = let same : d ≡ e = cc is in ap (λ x. Err (errors.Private x)) same

refused_as : (e : SshPrivateKeyError) (says : Result SshPrivateKey SshPrivateKeyError) (asked : Type 0)
    → (e ≡ private.NoMemory) ⊎ ((e ≡ private.SuiteFault) × asked) ⊎ (map_ok base_and_comment says ≡ Err e)
    → (envelope_refusal e ≡ errors.NoMemory) ⊎ ((envelope_refusal e ≡ errors.Private private.SuiteFault) × asked)
    ⊎ (and_then (map_err errors.Private says) (λ key. Ok (envelope_meaning key)) ≡ Err (envelope_refusal e))
refused_as private.NoMemory says asked refused = inl refl
refused_as e says asked (inl want) = cc want
refused_as e says asked (inr (inl (fault, was))) = inr (inl (ap errors.Private fault, was))
refused_as e says asked (inr (inr is)) = inr (inr (no_base_means says e is))

-- what refuses the envelope refuses the text
pub envelope_refused : (form : Form) (m : Meanings) (pass : Option (List ℕ)) (text : List ℕ) (e : SshPrivateKeyError)
    (refusal : ReadError) (rose : Type 0) → form ≡ forms.Envelope → refusal ≡ envelope_refusal e
    → (e ≡ private.NoMemory) ⊎ ((e ≡ private.SuiteFault) × IsAskedFault (text_asks pass text) rose)
    ⊎ (map_ok base_and_comment (text_key m pass text) ≡ Err e)
    → (refusal ≡ errors.NoMemory) ⊎ ((refusal ≡ fault_as form) × IsAskedFault (asks_as form pass text) rose)
    ⊎ (reading_as form (record { meanings = m; pass = pass }) text ≡ Err refusal)
envelope_refused form m pass text e refusal rose envelope is refused =
    rw (envelope, is) (refused_as e (text_key m pass text) (IsAskedFault (text_asks pass text) rose) refused)
