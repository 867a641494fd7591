-- An offer is refused for itself: for no fault of a source or of a suite, and never for want of memory.
use Rattle.std.proofs.Common.{◌≡◌, List, ℕ, Result, Ok, Err, refl, subst}
use Rattle.picky_wire_base.specs.Outcome.{map_err, map_ok}
use Rattle.picky_wire.specs.OfWire.{IsErrorOfBytes}
use Rattle.picky_keys.specs.FromWire.{public_key_error}
use Rattle.picky_keys.specs.LineRefusal.{line_meaning}
use Rattle.picky_keys.specs.carried.SourceLine.{line_own as public_line_own}
use Rattle.picky_keys.specs.declared.error.SshPublicKeyError.{SshPublicKeyError}
use Rattle.picky_keys.specs.declared.error.SshPublicKeyError.TheVariants as public
use Rattle.picky_cert.specs.LineRefusal.{cert_line_meaning}
use Rattle.picky_cert.specs.Want.{IsReadFault}
use Rattle.picky_cert.specs.carried.LineOwn.{IsErrorOfCertificate, line_own as certificate_line_own}
use Rattle.picky_cert_parts.specs.declared.error.SshCertificateError.{SshCertificateError}
use Rattle.picky_key_text.specs.Form.{form_of}
use Rattle.picky_key_text.specs.Want.{IsFault, WantsMemory}
use Rattle.picky_key_text.specs.declared.error.ReadError.{ReadError}
use Rattle.picky_key_text.specs.declared.error.ReadError.TheVariants as errors
use Rattle.picky_key_text.specs.declared.form.Form.{Form}
use Rattle.picky_key_text.specs.declared.form.Form.TheVariants as forms
use Rattle.picky_policy.specs.Offer.{message_in, offer_as, offer_in}
use Rattle.picky_policy.specs.declared.offer.Offer.TheVariants as offers

-- the refusal is the public line's own, or the certificate's
abbrev IsOwnOffer : ReadError → Type 0
IsOwnOffer (errors.Public e) = IsErrorOfBytes public_key_error e
IsOwnOffer (errors.Certificate e) = IsErrorOfCertificate e
IsOwnOffer e = ⊥

unknown_is_own : (e : ReadError) → errors.Public public.UnknownKeyType ≡ e → IsOwnOffer e
unknown_is_own e same = subst IsOwnOffer same (λ is. cc is, λ is. cc is)

wrapped_err : {A B E F : Type 0} (make : A → B) (wrap : E → F) (read : Result A E) (e : F)
    → map_ok make (map_err wrap read) ≡ Err e → (f : E) × (read ≡ Err f) × (wrap f ≡ e)
wrapped_err make wrap (Ok x) e is = absurd (cc is)
wrapped_err make wrap (Err f) e is = (f, refl, cc is)

refused_as : (form : Form) (text : List ℕ) (e : ReadError) → offer_as form text ≡ Err e → IsOwnOffer e
refused_as forms.Envelope text e is = unknown_is_own e (cc is)
refused_as forms.Ppk text e is = unknown_is_own e (cc is)
refused_as forms.PuttyPublic text e is = unknown_is_own e (cc is)
refused_as forms.Certificate text e is =
    let f = wrapped_err (λ c. offers.Certificate c (message_in text)) errors.Certificate (cert_line_meaning text) e is in
    subst IsOwnOffer f.2 (certificate_line_own text f.0 f.1)
refused_as forms.PublicLine text e is =
    let f = wrapped_err offers.Key errors.Public (line_meaning text) e is in
    subst IsOwnOffer f.2 (public_line_own text f.0 f.1)

offer_is_own : (text : List ℕ) (e : ReadError) → offer_in text ≡ Err e → IsOwnOffer e
unfolding offer_in
offer_is_own text e is = refused_as (form_of text) text e is

tells_of_none : (e : ReadError) → IsOwnOffer e → (WantsMemory e → ⊥) × (IsFault e → ⊥)
tells_of_none (errors.Public e) own = (own.1, λ fault. fault)
tells_of_none (errors.Certificate e) own = (own.no_want, λ fault. fault)
tells_of_none e own = absurd own

pub offer_tells_of_none : (text : List ℕ) (e : ReadError) → offer_in text ≡ Err e → (WantsMemory e → ⊥) × (IsFault e → ⊥)
offer_tells_of_none text e is = tells_of_none e (offer_is_own text e is)

pub key_offer_is_own : (text : List ℕ) (e : SshPublicKeyError) → offer_in text ≡ Err (errors.Public e)
    → IsErrorOfBytes public_key_error e
key_offer_is_own text e is = offer_is_own text (errors.Public e) is

pub certificate_offer_is_own : (text : List ℕ) (e : SshCertificateError) → offer_in text ≡ Err (errors.Certificate e)
    → IsReadFault e → ⊥
certificate_offer_is_own text e is = (offer_is_own text (errors.Certificate e) is).no_fault
