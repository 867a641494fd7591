-- What a call promises that asks a device to sign.
use Rattle.std.specs.Prelude.{◌≡◌, ◌↔◌, ℕ, true, List, Option, Some, None, Result, Err, OnOk, IfOk}
use Rattle.sha2.specs.Sha256.{sha256}
use Rattle.picky_keys.specs.declared.public_key.PublicKey.{PublicKey}
use Rattle.picky_keys.specs.declared.algorithm.SignatureAlgorithm.{SignatureAlgorithm}
use Rattle.picky_wire.specs.Count.{Rose, Calls, count_one, next_fails, passed, failed}
use Rattle.picky_suite.specs.declared.signer.SignError.{SignError}
use Rattle.picky_suite.specs.declared.signer.SignError.TheVariants as errors

-- which signatures are good: of a message, under a public key and an algorithm
abbrev pub SignRelation : Type 1
SignRelation = PublicKey → SignatureAlgorithm → List ℕ → List ℕ → Type 0

-- which signatures are good stays; an Ok is a good one under the key, and leaves the count of faults; Failed counts
-- one fault; want of memory leaves the device as it was
pub record Signs {S : Type 0} (signs : S → SignRelation)
    (faults : S → ℕ) (key : PublicKey) (algorithm : SignatureAlgorithm) (message : List ℕ)
    (result : Result (List ℕ) SignError) (old new : S) : Type 0 where
  pub kept : (k : PublicKey) (a : SignatureAlgorithm) (m s : List ℕ) → signs new k a m s ↔ signs old k a m s
  pub signed : IfOk result (λ signature. signs old key algorithm message signature)
  pub counted : result ≡ Err errors.Failed → Rose (faults old) (faults new)
  pub calm : OnOk result (faults new ≡ faults old)
  pub unchanged : result ≡ Err errors.NoMemory → new ≡ old

-- the signer in memory calls one signature of a message good, under each key: its digest
abbrev pub SignsByDigest : SignRelation
SignsByDigest key algorithm message signature = signature ≡ sha256 message

-- a call of the signer in memory fails exactly where its number is listed, and is counted; one that wants memory isn't
pub record SignsAsListed (result : Result (List ℕ) SignError) (old new : Calls) : Type 0 where
  pub fails : (result ≡ Err errors.Failed) ↔ (next_fails old ≡ true)
  pub moves : OnOk result (new ≡ passed old)
  pub counts : result ≡ Err errors.Failed → new ≡ failed old

-- the signature that was handed in, and how many calls failed
pub record HandedSignerState : Type 0 where
  pub signature : Option (List ℕ)
  pub faults : ℕ

-- that signature alone is good, of each message
abbrev pub SignsAsHanded : HandedSignerState → SignRelation
SignsAsHanded signer key algorithm message signature = signer.signature ≡ Some signature

-- a call of the signer that hands it out fails exactly where there is none, and is counted
pub record HandsOut (result : Result (List ℕ) SignError) (old new : HandedSignerState) : Type 0 where
  pub fails : (result ≡ Err errors.Failed) ↔ (old.signature ≡ None)
  pub stays : OnOk result (new ≡ old)
  pub counts : result ≡ Err errors.Failed → new ≡ record old { faults = count_one old.faults }
