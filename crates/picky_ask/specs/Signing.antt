-- Signatures looked up in a table.
use Rattle.std.specs.Prelude.{◌≡◌, ◌⊎◌, List, ℕ, Option, None, Some, Result, Ok, Err}
use Rattle.picky_wire.specs.Count.{count_one}
use Rattle.picky_keys.specs.Blob.{blob_of}
use Rattle.picky_keys.specs.declared.algorithm.SignatureAlgorithm.{SignatureAlgorithm}
use Rattle.picky_keys.specs.declared.key.SshBasePublicKey.{SshBasePublicKey}
use Rattle.picky_keys.specs.declared.key.SshBasePublicKey.TheVariants as blobs
use Rattle.picky_keys.specs.declared.public_key.PublicKey.{PublicKey}
use Rattle.picky_keys.specs.declared.public_key.PublicKey.TheVariants as keys
use Rattle.picky_suite.specs.Signs.{SignRelation}
use Rattle.picky_suite.specs.declared.signer.SignError.{SignError}
use Rattle.picky_suite.specs.declared.signer.SignError.TheVariants as errors
use Rattle.picky_ask.specs.declared.missing.Missing.{Missing}
use Rattle.picky_ask.specs.declared.missing.Missing.TheVariants as missings
use Rattle.picky_ask.specs.declared.question.Question.{Question}
use Rattle.picky_ask.specs.declared.question.Entry.{Entry}
use Rattle.picky_ask.specs.declared.question.Head.TheVariants as heads
use Rattle.picky_ask.specs.Lookup.{answer_to, question}
use Rattle.picky_ask.specs.State.{IsTooLong}

-- a signer's table, in which it looks up in any order; why the last call that failed has no answer, and how many calls failed
pub record SignerState : Type 0 where
  pub entries : List Entry
  pub missing : Option Missing
  pub faults : ℕ

-- the signer of a table, before any call
abbrev pub fresh_signer : List Entry → SignerState
fresh_signer entries = record { entries = entries; missing = None; faults = 0 }

-- a question for a signature that no entry answers
pub record LacksSignature (entries : List Entry) (q : Question) : Type 0 where
  pub algorithm : SignatureAlgorithm
  pub key : List ℕ
  pub is : q.head ≡ heads.Sign algorithm key
  pub unlisted : answer_to q entries ≡ None

-- what a signer's reason says of its table: it has these two alone
abbrev pub HasSignerCause : Missing → List Entry → Type 0
HasSignerCause (missings.Asked q) entries = LacksSignature entries q
HasSignerCause missings.TooLong entries = Unit {0}
HasSignerCause missings.WrongLength entries = ⊥
HasSignerCause missings.Contradiction entries = ⊥
HasSignerCause missings.Misplaced entries = ⊥
HasSignerCause missings.NoMemory entries = ⊥

-- what every such signer keeps: the table is its caller's, where that is told; it has the cause of the reason; and while nothing
-- is missing, no call has failed
pub record IsSignerState (told : Option (List Entry)) (s : SignerState) : Type 0 where
  pub table : (entries : List Entry) → told ≡ Some entries → s.entries ≡ entries
  pub cause : (reason : Missing) → s.missing ≡ Some reason → HasSignerCause reason s.entries
  pub calm : s.missing ≡ None → s.faults ≡ 0

-- the call failed for this reason, which is kept, and counted it; the table stays
abbrev pub SignerFailsFor : Missing → (old new : SignerState) → Type 0
SignerFailsFor missing old new = new ≡ record old { missing = Some missing; faults = count_one old.faults }

-- a public key as SSH has it
abbrev pub base_key_of : PublicKey → SshBasePublicKey
base_key_of (keys.Rsa e n) = blobs.Rsa e n
base_key_of (keys.Ec curve point) = blobs.Ec curve point
base_key_of (keys.Ed key) = blobs.Ed key

-- the question for a signature of the message
abbrev pub sign_question : PublicKey → SignatureAlgorithm → (message : List ℕ) → Question
sign_question key algorithm message = question (heads.Sign algorithm (blob_of (base_key_of key))) message

-- a signature is good where the table has it first
abbrev pub SignsByTable : SignerState → SignRelation
SignsByTable s key algorithm message signature = answer_to (sign_question key algorithm message) s.entries ≡ Some signature

-- a call hands out the table's signature, or fails for the one question, which the table doesn't answer, or which is too long;
-- want of memory leaves all as it was
abbrev pub LooksUpSignature : Question → Result (List ℕ) SignError → (old new : SignerState) → Type 0
LooksUpSignature q (Ok signature) old new = (answer_to q old.entries ≡ Some signature) × (new ≡ old)
LooksUpSignature q (Err errors.Failed) old new =
    ((answer_to q old.entries ≡ None) × SignerFailsFor (missings.Asked q) old new)
    ⊎ (IsTooLong q × SignerFailsFor missings.TooLong old new)
LooksUpSignature q (Err errors.NoMemory) old new = new ≡ old
