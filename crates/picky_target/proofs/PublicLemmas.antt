-- Lemmas on what is written of a public key.
use Rattle.std.proofs.Common.{◌≡◌, ℕ, List, Bool, true, false, Ok, Err, refl}
use Rattle.std.specs.Prelude.{◌&&◌, if◌then◌else◌}
use Rattle.picky_wire_base.specs.Outcome.{and_then, map_err}
use Rattle.picky_keys.specs.declared.key.SshPublicKey.{SshPublicKey}
use Rattle.picky_keys.specs.Blob.{blob_of}
use Rattle.picky_keys.specs.LineRefusal.{is_short}
use Rattle.picky_ppk_parts.specs.declared.error.PuttyError.TheVariants as putty
use Rattle.picky_ppk_file.specs.declared.putty_public.PuttyPublicKey.{PuttyPublicKey}
use Rattle.picky_ppk_file.specs.PuttyPublic.{putty_public}
use Rattle.picky_ppk_file.specs.PuttyRefusal.{is_security_key, putty_of_openssh, putty_text}
use Rattle.picky_target.specs.declared.error.ConvertError.TheVariants as errors
use Rattle.picky_target.specs.declared.target.KeyTarget.TheVariants as targets
use Rattle.picky_target.specs.Judged.{carries_comment}
use Rattle.picky_target.specs.inner.Public.{putty_output_refusal, putty_written, text_of_putty}

-- two tests in a row
both : (blob_short text_short : Bool) (key : PuttyPublicKey) (text : List ℕ)
    → map_err putty_output_refusal (and_then (if blob_short then Ok key else Err putty.TooLong) (λ k. if text_short then Ok text else Err putty.TooLong))
    ≡ (if blob_short && text_short then Ok text else Err errors.TooLong)
both true true key text = refl
both true false key text = refl
both false text_short key text = refl

then_text : (short : Bool) (key : PuttyPublicKey)
    → and_then (if short then Ok key else Err putty.TooLong) putty_text
    ≡ and_then (if short then Ok key else Err putty.TooLong) (λ k. putty_text key)
then_text true key = refl
then_text false key = refl

-- PuTTY's text of a key that it has, and a comment that it has.
pub putty_is_written : (key : SshPublicKey) → is_security_key key.inner_key ≡ false
    → carries_comment targets.PuttyPublic key.comment ≡ true → text_of_putty key ≡ putty_written key
unfolding putty_of_openssh putty_text
putty_is_written key plain carries =
    let blob = blob_of key.inner_key in
    let made : PuttyPublicKey = record { blob = blob; comment = key.comment } in
    rw (plain, carries, then_text (is_short blob) made) (both (is_short blob) (is_short (putty_public blob key.comment)) made (putty_public blob key.comment))
