-- Lemmas on a key that isn't written.
use Rattle.std.proofs.Common.{◌≡◌, ◌⊎◌, ℕ, List, length, ap, inl, inr, refl, Result, Ok, Err, true}
use Rattle.std.specs.Prelude.{Bool, Option}
use Rattle.picky_wire_base.specs.Outcome.{and_then}
use Rattle.picky_suite.specs.Asked.{GivesAsked}
use Rattle.picky_suite.specs.Failures.{IsAskedFault}
use Rattle.picky_suite.specs.Meanings.{Meanings}
use Rattle.picky_sshkey_blob.specs.declared.error.SshPrivateKeyError.{SshPrivateKeyError}
use Rattle.picky_sshkey_blob.specs.declared.error.SshPrivateKeyError.TheVariants as errors
use Rattle.picky_sshkey.specs.declared.private_key.SshPrivateKey.{SshPrivateKey}
use Rattle.picky_sshkey.specs.Encodes.{Encodes}
use Rattle.picky_sshkey.specs.Opened.{Lock}
use Rattle.picky_sshkey.specs.Written.{content_under, is_kept, key_content, sealable, key_writing_asks}

-- a suite that is asked is asked for some content
asked_has : {A : Type 0} (r : Result (Option Lock) SshPrivateKeyError) (next : Option Lock → A) (e : SshPrivateKeyError)
    → is_kept r ≡ true → and_then r (λ lock. Ok (next lock)) ≡ Err e → ⊥
asked_has (Ok lock) next e asked is = cc is
asked_has (Err f) next e asked is = cc asked

refused_answer : (A : Type 0) {W : Type 0} (tells : W → Type 0) (written : W → List ℕ) (faults : W → ℕ)
    (says : Result (List ℕ) SshPrivateKeyError) (asked : Bool) (rose : Type 0) (e : SshPrivateKeyError) (s : W)
    → (asked ≡ true → (f : SshPrivateKeyError) → says ≡ Err f → ⊥)
    → (e ≡ errors.NoMemory) ⊎ ((e ≡ errors.SuiteFault) × IsAskedFault asked rose) ⊎ (says ≡ Err e)
    → Encodes {A = A} tells written faults says asked rose (Err e) s s
refused_answer A tells written faults (Ok content) asked rose e s has (inl want) = inl (inl (ap Err want), refl)
refused_answer A tells written faults (Ok content) asked rose e s has (inr (inl fault)) = inl (inr (ap Err fault.0, fault.1), refl)
refused_answer A tells written faults (Ok content) asked rose e s has (inr (inr is)) = cc is
refused_answer A tells written faults (Err f) asked rose e s has (inl want) = (inl (ap Err want), refl)
refused_answer A tells written faults (Err f) asked rose e s has (inr (inl fault)) = absurd (has fault.1.0 f refl)
refused_answer A tells written faults (Err f) asked rose e s has (inr (inr is)) = (inr (cc is), refl)

-- where no content is made, nothing is written
pub nothing_encoded : (A : Type 0) {X W : Type 0} (tells : W → Type 0) (written : W → List ℕ) (faults : W → ℕ) (m : Meanings)
    (key : SshPrivateKey) (view : X → List ℕ) (rose : Type 0) (e : SshPrivateKeyError) (s : W)
    → GivesAsked errors.NoMemory errors.SuiteFault view (Err e) (key_content m key) (key_writing_asks key) rose
    → Encodes {A = A} tells written faults (key_content m key) (key_writing_asks key) rose (Err e) s s
unfolding key_content key_writing_asks
nothing_encoded A tells written faults m key view rose e s gives =
    refused_answer A tells written faults _ _ rose e s
    (λ asked f is. asked_has (sealable length key) (content_under m key) f asked is) gives
