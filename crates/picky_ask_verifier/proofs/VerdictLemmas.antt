-- A call that looks up a verdict is a call of a verifier.
use Rattle.std.proofs.Common.{◌≡◌, ◌∙◌, ◌-◌, ◌^◌, List, ℕ, Bool, true, false, refl, sym, ap, subst, arith}
use Rattle.std.specs.Prelude.{◌↔◌, min, IsTrue, Some, Result, Ok, Err}
use Rattle.picky_wire.specs.Count.{count_one}
use Rattle.picky_wire.specs.declared.error.Failed.{Failed}
use Rattle.picky_keys.specs.declared.key.SshBasePublicKey.{SshBasePublicKey}
use Rattle.picky_cert_parts.specs.declared.signature.SshSignature.{SshSignature}
use Rattle.picky_policy.specs.Verifies.{KeepsVerified, Verifies}
use Rattle.picky_ask.specs.declared.question.Question.{Question}
use Rattle.picky_ask.specs.declared.question.Entry.{Entry}
use Rattle.picky_ask_verifier.specs.Question.{verdict, verify_question}
use Rattle.picky_ask_verifier.specs.Verdicts.{Agrees, IsGood, LooksUpVerdict, Passes, SaysVerdict, SignatureTest, VerifierState, VerifiesByTable}

-- which signatures are good hangs on the table alone
good_stays : (test : SignatureTest) (old new : VerifierState) → new.entries ≡ old.entries
    → KeepsVerified (VerifiesByTable test old) (VerifiesByTable test new)
good_stays test old new same k s m =
    subst (λ (entries : List Entry). IsGood test entries k s m ↔ IsGood test old.entries k s m) (sym same) (λ is. is, λ is. is)

not_both : (q : Question) (entries : List Entry) → SaysVerdict q entries false → SaysVerdict q entries true → ⊥
not_both q entries one other =
    let both : Some (verdict false) ≡ Some (verdict true) = sym one ∙ other in cc both

-- a verdict of the table says whether the signature is good
verdict_is : (test : SignatureTest) (entries : List Entry) (k : SshBasePublicKey) (s : SshSignature) (m : List ℕ) (says : Bool)
    → SaysVerdict (verify_question k s m) entries says → IsTrue says ↔ IsGood test entries k s m
verdict_is test entries k s m true listed =
    (λ _. record { known = λ agrees. sym (agrees k s m true listed); said = λ _. listed }, λ _. refl)
verdict_is test entries k s m false listed = (
  λ other. cc other,
  λ is. absurd (not_both (verify_question k s m) entries listed (is.said (λ agrees.
      let so : false ≡ true = agrees k s m false listed ∙ is.known agrees in cc so))),
)

pub looks_verifies : (test : SignatureTest) (key : SshBasePublicKey) (signature : SshSignature) (message : List ℕ)
    (result : Result Bool Failed) (old new : VerifierState)
    → LooksUpVerdict (verify_question key signature message) result old new
    → Verifies (VerifiesByTable test) (λ s. min s.faults (2 ^ 64 - 1)) key signature message result old new
looks_verifies test key signature message (Ok says) old new looks = record {
  kept = good_stays test old new (ap (λ (s : VerifierState). s.entries) looks.1);
  says = verdict_is test old.entries key signature message says looks.0;
  counted = tt;
  calm = ap (λ (s : VerifierState). min s.faults (2 ^ 64 - 1)) looks.1;
}
looks_verifies test key signature message (Err failed) old new looks =
    let faults : new.faults ≡ count_one old.faults = ap (λ (s : VerifierState). s.faults) looks.2 in
    record {
      kept = good_stays test old new (ap (λ (s : VerifierState). s.entries) looks.2);
      says = tt;
      counted = omega (arith, faults);
      calm = tt;
    }

-- under a table that agrees with a test, the same signatures are good
pub agrees_good : (test : SignatureTest) (entries : List Entry) → Agrees test entries
    → KeepsVerified (IsGood test entries) (Passes test)
agrees_good test entries agrees k s m =
    (λ is. record { known = λ _. is; said = λ never. absurd (never agrees) }, λ is. is.known agrees)
