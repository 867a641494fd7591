-- What a private key's view shows, where its parts lie, and what a view is stopped by.
use Rattle.std.specs.Prelude.{◌≡◌, ◌-◌, List, [], ◌∷◌, ℕ, drop, Result, Ok, Err}
use Rattle.picky_wire_base.specs.Flaw.{Why, Reason}
use Rattle.picky_wire_base.specs.Grammar.{Grammar}
use Rattle.picky_wire_base.specs.Outcome.{map_err}
use Rattle.picky_wire_base.specs.Wire.{string, text}
use Rattle.picky_wire_base.specs.Numbers.{byte}
use Rattle.picky_wire_base.specs.Mpint.{mpint}
use Rattle.picky_wire_base.specs.declared.view.Stuck.{Stuck}
use Rattle.picky_wire_base.specs.declared.view.Stuck.TheVariants as stucks
use Rattle.picky_wire_base.specs.View.{Lies, Places, end_of, stuck_shown, why_of, reason_of}
use Rattle.picky_keys.specs.Key.{IsText}
use Rattle.picky_keys.specs.Blob.{ed_key}
use Rattle.picky_sshkey_blob.specs.declared.key.SshBasePrivateKey.{SshBasePrivateKey}
use Rattle.picky_sshkey_blob.specs.declared.key.SshBasePrivateKey.TheVariants as keys
use Rattle.picky_sshkey_blob.specs.declared.error.SshPrivateKeyError.{SshPrivateKeyError}
use Rattle.picky_sshkey_blob.specs.BlobRefusal.{private_error}
use Rattle.picky_sshkey_blob.specs.declared.view.PrivateView.{PrivateView}
use Rattle.picky_sshkey_blob.specs.declared.view.PrivateView.TheVariants as views
use Rattle.picky_wire_base.specs.declared.stopped.Stopped.{Stopped}

-- the key that the parts make
abbrev pub private_key_seen : PrivateView → SshBasePrivateKey
private_key_seen (views.Rsa n e d iqmp p q) =
    keys.Rsa n.bytes.now e.bytes.now d.bytes.now iqmp.bytes.now p.bytes.now q.bytes.now
private_key_seen (views.Ec curve point secret) = keys.Ec curve point.bytes.now secret.bytes.now
private_key_seen (views.Ed secret public) = keys.Ed secret.bytes.now public.bytes.now
private_key_seen (views.SkEcdsaSha2NistP256 point application flags handle) =
    keys.SkEcdsaSha2NistP256 point.bytes.now application.bytes.now flags handle.bytes.now
private_key_seen (views.SkEd25519 key application flags handle) =
    keys.SkEd25519 key.bytes.now application.bytes.now flags handle.bytes.now

-- each part lies where its field ends, in the fields that stand one after another from this place; the secret of
-- Ed25519 before the 32 bytes of the copy
abbrev pub PrivatePartsLie : List ℕ → ℕ → PrivateView → Type 0
PrivatePartsLie blob from (views.Rsa n e d iqmp p q) =
    let n_end = end_of mpint blob from in
    let e_end = end_of mpint blob n_end in
    let d_end = end_of mpint blob e_end in
    let iqmp_end = end_of mpint blob d_end in
    let p_end = end_of mpint blob iqmp_end in
    Lies blob n_end n × Lies blob e_end e × Lies blob d_end d × Lies blob iqmp_end iqmp × Lies blob p_end p
    × Lies blob (end_of mpint blob p_end) q
PrivatePartsLie blob from (views.Ec curve point secret) =
    let point_end = end_of string blob (end_of text blob from) in
    Lies blob point_end point × Lies blob (end_of mpint blob point_end) secret
PrivatePartsLie blob from (views.Ed secret public) =
    let public_end = end_of (ed_key 1) blob from in
    Lies blob (end_of string blob public_end - 32) secret × Lies blob public_end public
PrivatePartsLie blob from (views.SkEcdsaSha2NistP256 point application flags handle) =
    let point_end = end_of string blob (end_of text blob from) in
    let application_end = end_of text blob point_end in
    Lies blob point_end point × Lies blob application_end application
    × Lies blob (end_of string blob (end_of byte blob application_end)) handle
PrivatePartsLie blob from (views.SkEd25519 key application flags handle) =
    let key_end = end_of (ed_key 1) blob from in
    let application_end = end_of text blob key_end in
    Lies blob key_end key × Lies blob application_end application
    × Lies blob (end_of string blob (end_of byte blob application_end)) handle

-- what a view shows: the key that its parts make, and where each part stands
abbrev pub private_view_shown : PrivateView → SshBasePrivateKey × List ℕ
private_view_shown (views.Rsa n e d iqmp p q) =
    (private_key_seen (views.Rsa n e d iqmp p q), n.at ∷ e.at ∷ d.at ∷ iqmp.at ∷ p.at ∷ q.at ∷ [])
private_view_shown (views.Ec curve point secret) = (private_key_seen (views.Ec curve point secret), point.at ∷ secret.at ∷ [])
private_view_shown (views.Ed secret public) = (private_key_seen (views.Ed secret public), secret.at ∷ public.at ∷ [])
private_view_shown (views.SkEcdsaSha2NistP256 point application flags handle) =
    (private_key_seen (views.SkEcdsaSha2NistP256 point application flags handle), point.at ∷ application.at ∷ handle.at ∷ [])
private_view_shown (views.SkEd25519 key application flags handle) =
    (private_key_seen (views.SkEd25519 key application flags handle), key.at ∷ application.at ∷ handle.at ∷ [])

-- ---- a field that doesn't fit

-- a name that is refused is text
abbrev pub NamesText : Stuck → Type 0
NamesText (stucks.Name name) = IsText name.bytes.now
NamesText stuck = Unit {0}

abbrev pub IsPrivateRefusal : Stopped ℕ → Type 0
IsPrivateRefusal stopped = NamesText stopped.stuck

-- what the reader answers where a view answers this
abbrev pub answer_of : List ℕ → Result (PrivateView × ℕ) (Stopped ℕ) → Result (SshBasePrivateKey × List ℕ) SshPrivateKeyError
answer_of blob (Ok (view, next)) = Ok (private_key_seen view, drop next blob)
answer_of blob (Err stopped) = Err (private_error (reason_of stopped))
