-- Lemmas on what reading a private key answers, round the suite.
use Rattle.std.proofs.Common.{◌≡◌, ◌≢◌, ◌∙◌, ℕ, List, ap, inl, inr, refl, subst, Result, Ok, Err}
use Rattle.std.specs.Prelude.{Option, None}
use Rattle.picky_wire_base.specs.Gives.{Gives}
use Rattle.picky_sshkey_blob.specs.declared.error.SshPrivateKeyError.{SshPrivateKeyError}
use Rattle.picky_sshkey_blob.specs.declared.error.SshPrivateKeyError.TheVariants as errors
use Rattle.picky_wire_base.specs.Front.{read_front}
use Rattle.picky_sshkey.specs.declared.private_key.SshPrivateKey.{SshPrivateKey}
use Rattle.picky_sshkey.specs.Envelope.{Envelope}
use Rattle.picky_sshkey.specs.Opened.{Lock}
use Rattle.picky_sshkey.specs.PrivateBlock.{PrivateBlock, private_block}
use Rattle.picky_wire_base.specs.Outcome.{and_then}
use Rattle.picky_suite.specs.Asked.{GivesAsked}
use Rattle.picky_suite.specs.Meanings.{Meanings}
use Rattle.picky_sshkey.specs.PrivateRefusal.{closed, content_asks, content_key, envelope_under, key_closed, key_of_block}
use Rattle.picky_sshkey.specs.PrivateRefusal.{lock_of, sealed_under}
use Rattle.picky_sshkey.proofs.RefusalLaws.{Refuses}
use Rattle.picky_sshkey.proofs.FaultLaws.{IsOwnPrivate, block_front_own, envelope_under_own, key_of_block_own, sealed_own}

-- what gives an outcome without faults answers none
gives_own : {X A : Type 0} (view : X → A) (result : Result X SshPrivateKeyError) (says : Result A SshPrivateKeyError)
    → Refuses IsOwnPrivate says → Gives errors.NoMemory view result says → (e : SshPrivateKeyError) → result ≡ Err e
    → e ≢ errors.SuiteFault
gives_own view (Ok x) says own gives e is = cc is
gives_own view (Err f) says own (inl want) e is = λ fault. cc (want, is, fault)
gives_own view (Err f) says own (inr refused) e is =
    let same : f ≡ e = cc is in
    λ fault. subst IsOwnPrivate fault (own e (refused ∙ ap Err same))

-- the envelope's, its lock's, its block's and its key's
pub envelope_no_fault : (given : Option (List ℕ)) (content : List ℕ) (e : SshPrivateKeyError)
    → envelope_under given content ≡ Err e → e ≢ errors.SuiteFault
envelope_no_fault given content e is = λ fault. subst IsOwnPrivate fault (envelope_under_own given content e is)

pub sealed_no_fault : {X : Type 0} (view : X → Lock) (given : Option (List ℕ)) (envelope : Envelope)
    (result : Result X SshPrivateKeyError) (e : SshPrivateKeyError)
    → Gives errors.NoMemory view result (sealed_under given envelope) → result ≡ Err e → e ≢ errors.SuiteFault
sealed_no_fault view given envelope result e gives is = gives_own view result _ (sealed_own given envelope) gives e is

pub block_no_fault : {X : Type 0} (view : X → PrivateBlock) (block : List ℕ) (result : Result X SshPrivateKeyError)
    (e : SshPrivateKeyError) → Gives errors.NoMemory view result (read_front private_block block) → result ≡ Err e
    → e ≢ errors.SuiteFault
block_no_fault view block result e gives is = gives_own view result _ (block_front_own block) gives e is

pub key_no_fault : {X : Type 0} (view : X → SshPrivateKey) (given : Option (List ℕ)) (envelope : Envelope)
    (block : PrivateBlock) (result : Result X SshPrivateKeyError)
    → Gives errors.NoMemory view result (key_of_block given envelope block) → result ≢ Err errors.SuiteFault
key_no_fault view given envelope block result gives is =
    gives_own view result _ (key_of_block_own given envelope block) gives errors.SuiteFault is refl

pub ruleset no_fault = (envelope_no_fault, sealed_no_fault, block_no_fault, key_no_fault)

-- ---- a block that isn't sealed

-- its key is what the content says
pub plain_gives : {X : Type 0} (view : X → SshPrivateKey) (m : Meanings) (given : Option (List ℕ)) (content : List ℕ)
    (envelope : Envelope) (r : Result X SshPrivateKeyError) (rose : Type 0) → envelope_under given content ≡ Ok envelope
    → lock_of given envelope ≡ Ok None
    → Gives errors.NoMemory view r (and_then (read_front private_block envelope.block) (key_of_block given envelope))
    → GivesAsked errors.NoMemory errors.SuiteFault view r (content_key m given content) (content_asks given content) rose
unfolding content_key closed key_closed
plain_gives view m given content envelope (Ok x) rose under lock gives = rw (under, lock) gives
plain_gives view m given content envelope (Err e) rose under lock (inl want) = inl want
plain_gives view m given content envelope (Err e) rose under lock (inr refused) = inr (inr (rw (under, lock) refused))
