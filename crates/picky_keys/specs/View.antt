-- What a public key's view shows, where its parts lie in the blob, and what the reader answers where it answers.
use Rattle.std.specs.Prelude.{List, [], ◌∷◌, ℕ, drop, Result, Ok, Err}
use Rattle.picky_wire_base.specs.Wire.{string, text}
use Rattle.picky_wire_base.specs.Mpint.{mpint}
use Rattle.picky_wire_base.specs.View.{Lies, end_of, why_of}
use Rattle.picky_wire_base.specs.declared.view.Stuck.{Stuck}
use Rattle.picky_keys.specs.Blob.{ed_key}
use Rattle.picky_keys.specs.BlobRefusal.{why_error}
use Rattle.picky_keys.specs.declared.error.SshPublicKeyError.{SshPublicKeyError}
use Rattle.picky_keys.specs.declared.key.SshBasePublicKey.{SshBasePublicKey}
use Rattle.picky_keys.specs.declared.key.SshBasePublicKey.TheVariants as keys
use Rattle.picky_keys.specs.declared.view.PublicView.{PublicView}
use Rattle.picky_keys.specs.declared.view.PublicView.TheVariants as views

-- the key that the parts make
abbrev pub key_seen : PublicView → SshBasePublicKey
key_seen (views.Rsa e n) = keys.Rsa e.bytes.now n.bytes.now
key_seen (views.Ec curve point) = keys.Ec curve point.bytes.now
key_seen (views.Ed key) = keys.Ed key.bytes.now
key_seen (views.SkEcdsaSha2NistP256 point application) =
    keys.SkEcdsaSha2NistP256 point.bytes.now application.bytes.now
key_seen (views.SkEd25519 key application) = keys.SkEd25519 key.bytes.now application.bytes.now

-- what a view shows: the key that its parts make, and where each part stands
abbrev pub view_shown : PublicView → SshBasePublicKey × List ℕ
view_shown (views.Rsa e n) = (key_seen (views.Rsa e n), e.at ∷ n.at ∷ [])
view_shown (views.Ec curve point) = (key_seen (views.Ec curve point), point.at ∷ [])
view_shown (views.Ed key) = (key_seen (views.Ed key), key.at ∷ [])
view_shown (views.SkEcdsaSha2NistP256 point application) =
    (key_seen (views.SkEcdsaSha2NistP256 point application), point.at ∷ application.at ∷ [])
view_shown (views.SkEd25519 key application) =
    (key_seen (views.SkEd25519 key application), key.at ∷ application.at ∷ [])

-- each part lies where its field ends, in the fields that stand one after another from this place
abbrev pub PartsLie : List ℕ → ℕ → PublicView → Type 0
PartsLie blob from (views.Rsa e n) =
    let e_end = end_of mpint blob from in
    Lies blob e_end e × Lies blob (end_of mpint blob e_end) n
PartsLie blob from (views.Ec curve point) = Lies blob (end_of string blob (end_of text blob from)) point
PartsLie blob from (views.Ed key) = Lies blob (end_of (ed_key 1) blob from) key
PartsLie blob from (views.SkEcdsaSha2NistP256 point application) =
    let point_end = end_of string blob (end_of text blob from) in
    Lies blob point_end point × Lies blob (end_of text blob point_end) application
PartsLie blob from (views.SkEd25519 key application) =
    let key_end = end_of (ed_key 1) blob from in
    Lies blob key_end key × Lies blob (end_of text blob key_end) application

-- what the reader answers where a view answers this
abbrev pub answer_of : List ℕ → Result (PublicView × ℕ) Stuck → Result (SshBasePublicKey × List ℕ) SshPublicKeyError
answer_of blob (Ok (view, next)) = Ok (key_seen view, drop next blob)
answer_of blob (Err stuck) = Err (why_error (why_of stuck))
