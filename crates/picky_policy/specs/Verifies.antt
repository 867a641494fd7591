-- What a call promises that asks a device whether a signature is good.
use Rattle.std.specs.Prelude.{◌≡◌, ◌↔◌, ℕ, Bool, true, IsTrue, List, Option, Some, None, Result, IfOk, IsErr, OnErr, OnOk}
use Rattle.picky_wire.specs.Count.{Calls, Rose, count_one, failed, next_fails, passed}
use Rattle.picky_wire.specs.declared.error.Failed.{Failed}
use Rattle.picky_keys.specs.declared.key.SshBasePublicKey.{SshBasePublicKey}
use Rattle.picky_cert_parts.specs.declared.signature.SshSignature.{SshSignature}

-- which signatures are good: under a key, of a message
abbrev pub VerifyRelation : Type 1
VerifyRelation = SshBasePublicKey → SshSignature → List ℕ → Type 0

-- the same are good
abbrev pub KeepsVerified : (before after : VerifyRelation) → Type 0
KeepsVerified before after = (key : SshBasePublicKey) (signature : SshSignature) (message : List ℕ)
    → after key signature message ↔ before key signature message

-- which signatures are good stays; Ok says whether this one is, and leaves the count of faults; Failed counts one
pub record Verifies {S : Type 0} (verifies : S → VerifyRelation) (faults : S → ℕ) (key : SshBasePublicKey)
    (signature : SshSignature) (message : List ℕ) (result : Result Bool Failed) (old new : S) : Type 0 where
  pub kept : KeepsVerified (verifies old) (verifies new)
  pub says : IfOk result (λ good. IsTrue good ↔ verifies old key signature message)
  pub counted : OnErr result (Rose (faults old) (faults new))
  pub calm : OnOk result (faults new ≡ faults old)

-- ---- the verifier that was handed an answer

-- the message whose signature is good, where another device said so, and how many calls failed
pub record HandedVerifierState : Type 0 where
  pub message : Option (List ℕ)
  pub faults : ℕ

-- that message alone has good signatures
abbrev pub VerifiesAsHanded : HandedVerifierState → VerifyRelation
VerifiesAsHanded verifier key signature message = verifier.message ≡ Some message

-- a call fails exactly where there is none, and is counted
pub record SaysAsHanded (result : Result Bool Failed) (old new : HandedVerifierState) : Type 0 where
  pub fails : IsErr result ↔ (old.message ≡ None)
  pub stays : OnOk result (new ≡ old)
  pub counts : OnErr result (new ≡ record old { faults = count_one old.faults })

-- ---- the verifier for tests

-- what it says of each signature, and its calls
pub record Fixed : Type 0 where
  pub yes : Bool
  pub calls : Calls

-- each signature is good, or none is
abbrev pub VerifiesAsFixed : Fixed → VerifyRelation
VerifiesAsFixed verifier key signature message = IsTrue verifier.yes

-- a call fails exactly where its number is listed, and is counted
pub record SaysAsFixed (result : Result Bool Failed) (old new : Fixed) : Type 0 where
  pub fails : IsErr result ↔ (next_fails old.calls ≡ true)
  pub says : IfOk result (λ good. good ≡ old.yes)
  pub moves : OnOk result (new ≡ record old { calls = passed old.calls })
  pub counts : OnErr result (new ≡ record old { calls = failed old.calls })
