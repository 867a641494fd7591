-- Lemmas on what is written of OpenSSH's private key.
use Rattle.std.proofs.Common.{◌≡◌, ◌≢◌, ℕ, List, Bool, true, false, Option, None, Some, Ok, Err, length, take, refl}
use Rattle.std.specs.Prelude.{nat_le, if◌then◌else◌}
use Rattle.picky_wire_base.specs.Outcome.{and_then, map_err}
use Rattle.picky_suite.specs.Ranges.{bcrypt_fits}
use Rattle.picky_sshkey_blob.specs.declared.error.SshPrivateKeyError.TheVariants as private
use Rattle.picky_sshkey_blob.specs.declared.key.SshBasePrivateKey.{SshBasePrivateKey}
use Rattle.picky_sshkey.specs.declared.private_key.SshPrivateKey.{SshPrivateKey}
use Rattle.picky_sshkey.specs.Made.{key_made, made_of, made_option}
use Rattle.picky_target.specs.declared.error.ConvertError.{ConvertError}
use Rattle.picky_target.specs.declared.error.ConvertError.TheVariants as errors
use Rattle.picky_target.specs.declared.target.KeyTarget.TheVariants as targets
use Rattle.picky_target.specs.Judged.{carries_comment}
use Rattle.picky_target.specs.Drafts.{with_rounds}
use Rattle.picky_target.specs.Output.{Output}
use Rattle.picky_target.specs.inner.Envelope.{envelope_output_refusal, made, envelope_drafted, salt_judged}
use Rattle.picky_target.proofs.TestLemmas.{refuses, step_refuses}

-- ---- the suite's fault

-- no refusal that comes before the suite is asked is its fault
abbrev IsNoFault : ConvertError → Type 0
IsNoFault e = e ≢ errors.Private private.SuiteFault

salt_no_fault : (rounds : ℕ) (pass : Option (List ℕ)) (fresh : List ℕ) (e : ConvertError) → salt_judged rounds pass fresh ≡ Err e
    → IsNoFault e
salt_no_fault rounds None fresh e is = cc is
salt_no_fault rounds (Some pass) fresh e is =
    refuses IsNoFault (bcrypt_fits (length pass) 16 rounds) _ (errors.Private private.HashingError) e
    (λ f short. refuses {A = Unit {0}} IsNoFault (nat_le 16 (length fresh)) (Ok (tt {0})) errors.FreshTooShort f (λ g none. cc none) (λ same. cc same) short)
    (λ same. cc same) is

made_no_fault : (rounds : ℕ) (pass : Option (List ℕ)) (key : SshBasePrivateKey) (comment salt : List ℕ) (e : ConvertError)
    → made rounds pass key comment salt ≡ Err e → IsNoFault e
unfolding key_made
made_no_fault rounds pass key comment salt e is = go _ (made_of key pass comment salt) is
  where
    go : (short : Bool) (k : SshPrivateKey)
        → and_then (map_err envelope_output_refusal (if short then Ok k else Err private.TooLong)) (λ k. Ok (with_rounds rounds k)) ≡ Err e
        → IsNoFault e
    go true k is = cc is
    go false k is = λ fault. cc (is, fault)

pub drafted_no_fault : (out : Output) (rounds : ℕ) (key : SshBasePrivateKey) (comment : List ℕ) (e : ConvertError)
    → envelope_drafted out rounds key comment ≡ Err e → IsNoFault e
drafted_no_fault out rounds key comment e is =
    refuses IsNoFault (carries_comment (targets.OpenSsh rounds) comment) _ errors.CommentNotCarried e
    (λ f step. step_refuses IsNoFault (salt_judged rounds out.pass out.fresh) _ f (salt_no_fault rounds out.pass out.fresh)
    (λ _ g. made_no_fault rounds out.pass key comment (take 16 out.fresh) g) step)
    (λ same. cc same) is

-- ---- the key

-- only as much of the salt matters as is kept
pub drafted_is : (out : Output) (rounds : ℕ) (key : SshBasePrivateKey) (comment salt : List ℕ)
    → carries_comment (targets.OpenSsh rounds) comment ≡ true → salt_judged rounds out.pass out.fresh ≡ Ok tt
    → made_option out.pass salt ≡ made_option out.pass (take 16 out.fresh)
    → made rounds out.pass key comment salt ≡ envelope_drafted out rounds key comment
unfolding key_made
drafted_is out rounds key comment salt carries judged same = rw (carries, judged, same) refl
