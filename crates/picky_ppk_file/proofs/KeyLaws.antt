-- The laws of the key that a text means, and of the text of a key.
use Rattle.std.proofs.Common.{◌≡◌, ℕ, List, [], Bool, true, false, if◌then◌else◌, Result, Ok, Err, refl, sym}
use Rattle.std.proofs.Common.{ap, ◌∙◌, subst}
use Rattle.std.proofs.lemmas.List.{append-nil}
use Rattle.picky_wire_base.specs.Grammar.{Fits}
use Rattle.picky_wire_base.specs.Numbers.{IsBytes}
use Rattle.picky_wire_base.specs.Outcome.{and_then}
use Rattle.picky_wire_base.specs.carried.Outcome.{and_then_ok, map_err_ok, passed_ok}
use Rattle.picky_keys.specs.declared.key.SshBasePublicKey.{SshBasePublicKey}
use Rattle.picky_keys.specs.declared.key.SshPublicKey.{SshPublicKey}
use Rattle.picky_keys.specs.Key.{IsKey}
use Rattle.picky_keys.specs.Blob.{blob as layout, blob_of}
use Rattle.picky_keys.specs.carried.Blob.{blob_spells}
use Rattle.picky_keys.specs.LineRefusal.{is_short, blob_key}
use Rattle.picky_keys.proofs.LineLaws.{blob_key_of, blob_key_fits}
use Rattle.picky_ppk_parts.specs.declared.error.PuttyError.TheVariants as errors
use Rattle.picky_ppk_file.specs.declared.putty_public.PuttyPublicKey.{PuttyPublicKey}
use Rattle.picky_ppk_file.specs.PuttyPublic.{SaysPuttyPublic, IsPuttyPublic}
use Rattle.picky_ppk_parts.specs.PartsRefusal.{key_in_blob}
use Rattle.picky_ppk_parts.specs.Unsupported.{no_security_keys}
use Rattle.picky_ppk_file.specs.PuttyRefusal.{is_security_key, putty_of_openssh, putty_to_openssh}
use Rattle.picky_ppk_file.specs.PuttyRefusal.{putty_meaning}
use Rattle.picky_ppk_file.proofs.MeaningLaws.{putty_meaning_of, putty_meaning_says}

-- A key whose blob a key fits is that key, with its comment.
pub openssh_of : (putty : PuttyPublicKey) (inner : SshBasePublicKey) (rest : List ℕ) → Fits layout.piece inner putty.blob rest
    → putty_to_openssh putty ≡ Ok (record { inner_key = inner; comment = putty.comment })
unfolding putty_to_openssh
openssh_of putty inner rest fits = rw (blob_key_of putty.blob rest inner fits) refl

-- a test that refuses nothing
unless : {A E : Type 0} (b : Bool) (e : E) (x : Result A E) (y : A) → (if b then Err e else x) ≡ Ok y → x ≡ Ok y
unless true e x y same = cc same
unless false e x y same = same

-- An OpenSSH key is read back from PuTTY's for it.
pub openssh_reads_back : (key : SshPublicKey) (putty : PuttyPublicKey) → IsKey key.inner_key
    → putty_of_openssh key ≡ Ok putty → putty_to_openssh putty ≡ Ok key
unfolding putty_of_openssh
openssh_reads_back key putty is made =
    let bytes = blob_of key.inner_key in
    let plain = unless (is_security_key key.inner_key) no_security_keys _ putty made in
    let passed = passed_ok (is_short bytes) errors.TooLong _ putty plain in
    let fits : Fits layout.piece key.inner_key bytes [] = (bytes, blob_spells key.inner_key is, sym (append-nil bytes)) in
    subst (λ p. putty_to_openssh p ≡ Ok key) passed.1
    (openssh_of (record { blob = bytes; comment = key.comment }) key.inner_key [] fits)

-- A text means the key in the blob that it says.
pub putty_key_of : (text : List ℕ) (key : SshPublicKey) → IsPuttyPublic text key
    → and_then (putty_meaning text) putty_to_openssh ≡ Ok key
putty_key_of text key is =
    ap (λ r. and_then r putty_to_openssh) (putty_meaning_of text is.blob key.comment is.says)
    ∙ openssh_of (record { blob = is.blob; comment = key.comment }) key.inner_key is.rest is.fits

-- A text of bytes says the blob of the key that it means.
pub putty_key_says : (text : List ℕ) (key : SshPublicKey) → IsBytes text
    → and_then (putty_meaning text) putty_to_openssh ≡ Ok key → IsPuttyPublic text key
unfolding putty_to_openssh
putty_key_says text key small means =
    let step = and_then_ok (putty_meaning text) putty_to_openssh key means in
    let putty = step.0 in
    let opened = and_then_ok (key_in_blob putty.blob) _ key step.2 in
    let inner = opened.0 in
    let fits = blob_key_fits putty.blob inner (map_err_ok errors.SshPublicKey (blob_key putty.blob) inner opened.1) in
    let is : record { inner_key = inner; comment = putty.comment } ≡ key = cc opened.2 in
    record {
      blob = putty.blob;
      says = subst (λ c. SaysPuttyPublic text putty.blob c) (ap (λ k. k.comment) is) (putty_meaning_says text putty small step.1);
      rest = fits.0;
      fits = subst (λ k. Fits layout.piece k putty.blob fits.0) (ap (λ k. k.inner_key) is) fits.1;
    }
