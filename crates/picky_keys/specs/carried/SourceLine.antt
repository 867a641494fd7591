-- A line from a source is refused with its own errors alone.
use Rattle.std.specs.Prelude.{◌≡◌, ◌≢◌, ◌&&◌, Bool, true, false, List, ℕ, Option, Some, None, Result, Ok, Err}
use Rattle.std.specs.Prelude.{if◌then◌else◌}
use Rattle.std.specs.Option.{ok_or}
use Rattle.std.proofs.Common.{refl, ◌∙◌}
use Rattle.picky_wire_base.specs.Outcome.{and_then}
use Rattle.picky_text.specs.Base64.{decoded}
use Rattle.picky_text.specs.Words.{first_word, body_word, line_in_front}
use Rattle.picky_wire.specs.declared.error.WireError.{WireError}
use Rattle.picky_wire.specs.declared.error.WireError.TheVariants as wire
use Rattle.picky_wire.specs.OfWire.{IsErrorOfBytes}
use Rattle.picky_keys.specs.declared.error.SshPublicKeyError.{SshPublicKeyError}
use Rattle.picky_keys.specs.declared.error.SshPublicKeyError.TheVariants as errors
use Rattle.picky_keys.specs.FromWire.{public_key_error}
use Rattle.picky_keys.specs.BlobRefusal.{read_blob}
use Rattle.picky_keys.specs.carried.BlobLayout.{blob_own}
use Rattle.picky_keys.specs.LineRefusal.{blob_key, body_key, comment_text, is_key_type, is_short}
use Rattle.picky_keys.specs.LineRefusal.{is_short_text, line_meaning, words_meaning}
use Rattle.picky_keys.specs.SourceLine.{read_line, source_meaning}

-- each error is the bytes' own
abbrev pub RefusesOwn : {E A : Type 0} → (WireError → E) → Result A E → Type 0
RefusesOwn {E = E} of r = (e : E) → r ≡ Err e → IsErrorOfBytes of e

own_err : {E A : Type 0} (of : WireError → E) (r : Result A E) (f : E) → r ≡ Err f → IsErrorOfBytes of f → RefusesOwn of r
own_err of r f refused own e is =
    let same : f ≡ e = cc (refused, is) in
    (λ other. own.0 (same ∙ other), λ other. own.1 (same ∙ other))

pub own_ok : {E A : Type 0} (of : WireError → E) (v : A) → RefusesOwn of (Ok v)
own_ok of v e is = cc is

pub own_then : {E A B : Type 0} (of : WireError → E) (r : Result A E) (next : A → Result B E)
    → RefusesOwn of r → ((v : A) → RefusesOwn of (next v)) → RefusesOwn of (and_then r next)
own_then of (Ok v) next first second = second v
own_then of (Err f) next first second = own_err of _ f refl (first f refl)

pub own_if : {E A : Type 0} (of : WireError → E) (b : Bool) (r : Result A E) (f : E) → RefusesOwn of r → IsErrorOfBytes of f
    → RefusesOwn of (if b then r else Err f)
own_if of true r f whole own = whole
own_if of false r f whole own = own_err of _ f refl own

pub own_or : {E A : Type 0} (of : WireError → E) (o : Option A) (f : E) → IsErrorOfBytes of f → RefusesOwn of (ok_or o f)
own_or of (Some v) f own = own_ok of v
own_or of None f own = own_err of _ f refl own

-- a line in front is refused so, and what it means
pub line_in_front_own : {E A : Type 0} (of : WireError → E) → IsErrorOfBytes of (of wire.TooLong) → (meaning : List ℕ → Result A E)
    → ((line : List ℕ) → RefusesOwn of (meaning line)) → (bytes : List ℕ)
    → RefusesOwn {A = A × List ℕ} of (and_then (read_line of bytes) (λ line. and_then (meaning line.0) (λ v. Ok (v, line.1))))
unfolding read_line
line_in_front_own of too_long meaning own bytes =
    own_then of (read_line of bytes) _
    (own_if of (is_short (line_in_front bytes)) _ (of wire.TooLong) (own_ok of _) too_long)
    (λ line. own_then of (meaning line.0) _ (own line.0) (λ v. own_ok of _))

-- ---- of a public key

too_long : IsErrorOfBytes public_key_error errors.TooLong
too_long = (λ is. cc is, λ is. cc is)

blob_key_own : (bytes : List ℕ) → RefusesOwn public_key_error (blob_key bytes)
unfolding blob_key
blob_key_own bytes = own_then public_key_error (read_blob bytes) _ (blob_own bytes) (λ found. own_ok public_key_error found.0)

body_key_own : (body : List ℕ) → RefusesOwn public_key_error (body_key body)
unfolding body_key
body_key_own body =
    own_then public_key_error (ok_or (decoded body) errors.Base64DecodeError) blob_key
    (own_or public_key_error (decoded body) errors.Base64DecodeError (λ is. cc is, λ is. cc is)) blob_key_own

pub line_own : (line : List ℕ) → RefusesOwn public_key_error (line_meaning line)
unfolding line_meaning words_meaning
line_own line =
    own_if public_key_error (is_key_type (first_word line)) _ errors.UnknownKeyType
    (own_if public_key_error (is_short (body_word line) && is_short_text (comment_text line)) _ errors.TooLong
    (own_then public_key_error (body_key (body_word line)) _ (body_key_own (body_word line)) (λ key.
    own_then public_key_error (ok_or (comment_text line) errors.InvalidUtf8) _
    (own_or public_key_error (comment_text line) errors.InvalidUtf8 (λ is. cc is, λ is. cc is))
    (λ comment. own_ok public_key_error _)))
    too_long) (λ is. cc is, λ is. cc is)

-- No bytes of a source are, either.
pub source_own : (bytes : List ℕ) (e : SshPublicKeyError) → source_meaning bytes ≡ Err e
    → (e ≢ public_key_error wire.ReadFault) × (e ≢ public_key_error wire.NoMemory)
unfolding source_meaning
source_own bytes = line_in_front_own public_key_error too_long line_meaning line_own bytes
