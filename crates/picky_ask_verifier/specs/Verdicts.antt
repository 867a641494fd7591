-- Verdicts looked up in a table.
use Rattle.std.specs.Prelude.{◌≡◌, ◌<◌, List, [], ◌∷◌, ℕ, Bool, true, false, IsTrue, Option, None, Some, Result, Ok, Err, length}
use Rattle.picky_wire.specs.Count.{count_one}
use Rattle.picky_wire.specs.declared.error.Failed.{Failed}
use Rattle.picky_keys.specs.declared.key.SshBasePublicKey.{SshBasePublicKey}
use Rattle.picky_cert_parts.specs.declared.signature.SshSignature.{SshSignature}
use Rattle.picky_policy.specs.Verifies.{VerifyRelation}
use Rattle.picky_ask.specs.declared.question.Question.{Question}
use Rattle.picky_ask.specs.declared.question.Entry.{Entry}
use Rattle.picky_ask.specs.Lookup.{answer_to}
use Rattle.picky_ask.specs.State.{IsTooLong}
use Rattle.picky_ask_verifier.specs.declared.no_verdict.NoVerdict.{NoVerdict}
use Rattle.picky_ask_verifier.specs.declared.no_verdict.NoVerdict.TheVariants as reasons
use Rattle.picky_ask_verifier.specs.Question.{verdict, verify_question}

-- a verifier's table, in which it looks up in any order; why the last call that failed has no verdict, and how many calls failed
pub record VerifierState : Type 0 where
  pub entries : List Entry
  pub missing : Option NoVerdict
  pub faults : ℕ

-- the verifier of a table, before any call
abbrev pub fresh_verifier : List Entry → VerifierState
fresh_verifier entries = record { entries = entries; missing = None; faults = 0 }

-- what every such verifier keeps: the table is its caller's, where that is told; what is asked isn't in it; and while nothing is
-- missing, no call has failed
pub record IsVerifierState (told : Option (List Entry)) (s : VerifierState) : Type 0 where
  pub table : (entries : List Entry) → told ≡ Some entries → s.entries ≡ entries
  pub unlisted : (q : Question) → s.missing ≡ Some (reasons.Asked q) → answer_to q s.entries ≡ None
  pub calm : s.missing ≡ None → s.faults ≡ 0

-- ---- what a call answers

-- the table's verdict is this
abbrev pub SaysVerdict : Question → List Entry → (good : Bool) → Type 0
SaysVerdict q entries good = answer_to q entries ≡ Some (verdict good)

-- why there is no verdict: the table doesn't answer the question; its answer isn't one byte, or a byte that is neither 0 nor 1;
-- the question is too long; or memory ran out
abbrev pub HasCause : Question → List Entry → NoVerdict → Type 0
HasCause q entries (reasons.Asked r) = (r ≡ q) × (answer_to q entries ≡ None)
HasCause q entries reasons.WrongLength =
    (answer : List ℕ) × (answer_to q entries ≡ Some answer) × (length answer ≡ 1 → ⊥)
HasCause q entries reasons.UnknownByte = (byte : ℕ) × (answer_to q entries ≡ Some (byte ∷ [])) × (1 < byte)
HasCause q entries reasons.TooLong = IsTooLong q
HasCause q entries reasons.NoMemory = Unit {0}

-- the call failed for this reason, which is kept, and counted it; the table stays
abbrev pub VerifierFailsFor : NoVerdict → (old new : VerifierState) → Type 0
VerifierFailsFor missing old new = new ≡ record old { missing = Some missing; faults = count_one old.faults }

-- a call says the table's verdict, and leaves all as it was; or it fails for a reason that has its cause
abbrev pub LooksUpVerdict : Question → Result Bool Failed → (old new : VerifierState) → Type 0
LooksUpVerdict q (Ok good) old new = SaysVerdict q old.entries good × (new ≡ old)
LooksUpVerdict q (Err failed) old new =
    (reason : NoVerdict) × HasCause q old.entries reason × VerifierFailsFor reason old new

-- ---- which signatures are good

-- what tells good signatures from others
abbrev pub SignatureTest : Type 0
SignatureTest = SshBasePublicKey → SshSignature → (message : List ℕ) → Bool

-- the signatures that the test calls good
abbrev pub Passes : SignatureTest → VerifyRelation
Passes test key signature message = IsTrue (test key signature message)

-- each verdict of the table is what the test says
abbrev pub Agrees : SignatureTest → List Entry → Type 0
Agrees test entries = (key : SshBasePublicKey) (signature : SshSignature) (message : List ℕ) (says : Bool)
    → SaysVerdict (verify_question key signature message) entries says → says ≡ test key signature message

-- the signature is good: by the test, where that says each verdict of the table, and else where the table says so
pub record IsGood (test : SignatureTest) (entries : List Entry) (key : SshBasePublicKey) (signature : SshSignature)
    (message : List ℕ) : Type 0 where
  pub known : Agrees test entries → Passes test key signature message
  pub said : (Agrees test entries → ⊥) → SaysVerdict (verify_question key signature message) entries true

abbrev pub VerifiesByTable : SignatureTest → VerifierState → VerifyRelation
VerifiesByTable test s key signature message = IsGood test s.entries key signature message

-- no signature is known to be good
abbrev pub nothing_good : SignatureTest
nothing_good key signature message = false
