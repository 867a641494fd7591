-- What is judged under a verifier that calls each signature good, and by a table of verdicts.
use Rattle.std.proofs.Common.{◌≡◌, ◌==◌, ℕ, Bool, true, false, List, [], ◌∷◌, Option, Some, None, Result, Ok, Err, refl, sym, ◌∙◌, ap}
use Rattle.std.proofs.Common.{inl, inr, subst}
use Rattle.std.proofs.lemmas.Bool.{eqb-true}
use Rattle.std.specs.Prelude.{if◌then◌else◌, is_ok}
use Rattle.picky_wire_base.specs.Outcome.{and_then}
use Rattle.picky_wire_base.specs.carried.Outcome.{and_then_ok}
use Rattle.picky_wire.specs.declared.timestamp.Timestamp.{Timestamp}
use Rattle.picky_keys.specs.declared.key.SshBasePublicKey.{SshBasePublicKey}
use Rattle.picky_cert_parts.specs.declared.signature.SshSignature.{SshSignature}
use Rattle.picky_authorized.specs.declared.entry.AuthEntry.{AuthEntry}
use Rattle.picky_policy.specs.Decided.{Accepts, IsDecision, IsDecisionBy, decided, verifier_asks}
use Rattle.picky_policy.specs.declared.decision.Decision.{Decision}
use Rattle.picky_policy.specs.declared.decision.Decision.TheVariants as decisions
use Rattle.picky_policy.specs.declared.decision.Denial.{Denial}
use Rattle.picky_policy.specs.declared.decision.Grant.{Grant}
use Rattle.picky_policy.specs.declared.offer.Offer.{Offer}
use Rattle.picky_policy.specs.declared.offer.Offer.TheVariants as offers
use Rattle.picky_policy.proofs.DecideLemmas.{denies, grants}
use Rattle.picky_ask.specs.Lookup.{answer_to}
use Rattle.picky_ask.specs.declared.question.Entry.{Entry}
use Rattle.picky_ask.specs.declared.question.Question.{Question}
use Rattle.picky_ask_verifier.specs.Question.{verdict, verify_question}
use Rattle.picky_ask_verifier.specs.Verdicts.{Agrees, Passes, SaysVerdict, SignatureTest}
use Rattle.picky_login.specs.Judged.{AsksUnsayable, Asks, Decided, GivesLogin, HasUnsayableQuestion, Judged, Outcome, by_answer}
use Rattle.picky_login.specs.Judged.{by_question, by_rules, by_verdict, judged, judged_shown, outcome, question_for, verdict_in}
use Rattle.picky_login.specs.Trusted.{TrustsAll}
use Rattle.picky_login.specs.declared.error.LoginError.{LoginError}
use Rattle.picky_login.specs.declared.error.LoginError.TheVariants as errors
use Rattle.picky_login.specs.declared.login.Login.{Login}

-- ---- under a verifier that calls each signature good

trusted : (offer : Offer) → Accepts TrustsAll offer
trusted (offers.Key key) = tt
trusted (offers.Certificate c message) = tt

pub trusted_grant : (offer : Offer) (says : Result Grant Denial) (grant : Grant)
    → IsDecisionBy (Accepts TrustsAll offer) says (decisions.Granted grant) → says ≡ Ok grant
trusted_grant offer (Ok given) grant is = ap (λ (g : Grant). Ok g) (sym is.0)
trusted_grant offer (Err why) grant is = absurd is

pub trusted_denial : (offer : Offer) (says : Result Grant Denial) (why : Denial)
    → IsDecisionBy (Accepts TrustsAll offer) says (decisions.Denied why) → says ≡ Err why
trusted_denial offer (Ok given) why is = absurd (is.1 (trusted offer))
trusted_denial offer (Err other) why is = ap (λ (w : Denial). Err w) (sym is)

-- ---- what a call promises, said of more

pub gives_more : (one other : Result Outcome LoginError) (small large : Type 0) (result : Result Login LoginError) → one ≡ other
    → (small → large) → GivesLogin one small result → GivesLogin other large result
gives_more one other small large (Ok login) same more gives = sym same ∙ gives
gives_more one other small large (Err e) same more (inl want) = inl want
gives_more one other small large (Err e) same more (inr (inl long)) = inr (inl (long.0, more long.1))
gives_more one other small large (Err e) same more (inr (inr says)) = inr (inr (sym same ∙ says))

-- a question that no bytes say is asked where the rules let the offer in
asks_question : (entries : List AuthEntry) (offer : Offer) (user : List ℕ) (moment : Timestamp) (grant : Grant)
    → decided entries offer user moment ≡ Ok grant → HasUnsayableQuestion offer → AsksUnsayable entries offer user moment
asks_question entries (offers.Key key) user moment grant is (q, says, long) = cc says
asks_question entries (offers.Certificate c message) user moment grant is (q, says, long) =
    (ap (λ (r : Result Grant Denial). is_ok r) is, (q, says, long))

abbrev shown_of : Offer → Result Judged LoginError → Result Outcome LoginError
shown_of offer j = and_then j (λ found. Ok (judged_shown offer found))

-- so what is given where the rules let it in is given for the offer
pub granted_gives : (entries : List AuthEntry) (offer : Offer) (user : List ℕ) (moment : Timestamp) (table : List Entry) (grant : Grant)
    (result : Result Login LoginError) → IsDecisionBy (Accepts TrustsAll offer) (decided entries offer user moment) (decisions.Granted grant)
    → GivesLogin (and_then (by_question grant (question_for offer) table) (λ j. Ok (judged_shown offer j))) (HasUnsayableQuestion offer) result
    → GivesLogin (outcome entries offer user moment table) (AsksUnsayable entries offer user moment) result
granted_gives entries offer user moment table grant result decides gives =
    let is = trusted_grant offer (decided entries offer user moment) grant decides in
    gives_more _ (outcome entries offer user moment table) (HasUnsayableQuestion offer) (AsksUnsayable entries offer user moment) result
    (ap (λ (r : Result Grant Denial). shown_of offer (by_rules r (question_for offer) table)) (sym is))
    (asks_question entries offer user moment grant is) gives

-- and a denial is the offer's
pub denied_is : (entries : List AuthEntry) (offer : Offer) (user : List ℕ) (moment : Timestamp) (table : List Entry) (why : Denial)
    → IsDecisionBy (Accepts TrustsAll offer) (decided entries offer user moment) (decisions.Denied why)
    → outcome entries offer user moment table ≡ Ok (judged_shown offer (Decided (decisions.Denied why)))
denied_is entries offer user moment table why decides =
    ap (λ (r : Result Grant Denial). shown_of offer (by_rules r (question_for offer) table))
    (trusted_denial offer (decided entries offer user moment) why decides)

-- ---- by a table of verdicts

byte_said : (one none : Bool) (byte : ℕ) (good : Bool) → (one ≡ true → byte ≡ 1) → (none ≡ true → byte ≡ 0)
    → (if one then Ok true else if none then Ok false else Err errors.UnknownByte) ≡ Ok good → byte ∷ [] ≡ verdict good
byte_said true none byte good is_one is_none is =
    let same : true ≡ good = cc is in
    subst (λ g. byte ∷ [] ≡ verdict g) same (ap (λ (b : ℕ). b ∷ []) (is_one refl))
byte_said false true byte good is_one is_none is =
    let same : false ≡ good = cc is in
    subst (λ g. byte ∷ [] ≡ verdict g) same (ap (λ (b : ℕ). b ∷ []) (is_none refl))
byte_said false false byte good is_one is_none is = cc is

verdict_said : (answer : List ℕ) (good : Bool) → verdict_in answer ≡ Ok good → answer ≡ verdict good
verdict_said [] good is = cc is
verdict_said (byte ∷ []) good is = byte_said (byte == 1) (byte == 0) byte good (eqb-true byte 1) (eqb-true byte 0) is
verdict_said (byte ∷ next ∷ more) good is = cc is

-- the verdict, where the table has one
pub verdict_is : (good : Bool) → verdict_in (verdict good) ≡ Ok good
verdict_is true = refl
verdict_is false = refl

by_good : (accepts : Type 0) (passes : Bool) (grant : Grant) (good : Bool) (decision : Decision) → good ≡ passes
    → by_verdict grant good ≡ decision → IsDecisionBy (passes ≡ true) (Ok grant) decision
by_good accepts passes grant true decision same is =
    subst (IsDecisionBy (passes ≡ true) (Ok grant)) is (refl, sym same)
by_good accepts passes grant false decision same is =
    subst (IsDecisionBy (passes ≡ true) (Ok grant)) is
    (refl, λ pass. let never : false ≡ true = same ∙ pass in cc never)

by_answer_so : (test : SignatureTest) (k : SshBasePublicKey) (s : SshSignature) (m : List ℕ) (table : List Entry) → Agrees test table
    → (grant : Grant) (decision : Decision) (answer : Option (List ℕ)) → answer_to (verify_question k s m) table ≡ answer
    → by_answer grant (verify_question k s m) answer ≡ Ok (Decided decision)
    → IsDecisionBy (Passes test k s m) (Ok grant) decision
by_answer_so test k s m table agrees grant decision None found is = cc is
by_answer_so test k s m table agrees grant decision (Some answer) found is =
    let step = and_then_ok (verdict_in answer) _ (Decided decision) is in
    let said : SaysVerdict (verify_question k s m) table step.0 =
    found ∙ ap (λ (a : List ℕ). Some a) (verdict_said answer step.0 step.1) in
    let same : by_verdict grant step.0 ≡ decision = cc step.2 in
    by_good (Unit {0}) (test k s m) grant step.0 decision (agrees k s m step.0 said) same

answers_so : (test : SignatureTest) (offer : Offer) (table : List Entry) → Agrees test table → (says : Result Grant Denial)
    (decision : Decision) → by_rules says (question_for offer) table ≡ Ok (Decided decision)
    → IsDecisionBy (Accepts (Passes test) offer) says decision
answers_so test offer table agrees (Err why) decision is =
    let same : decisions.Denied why ≡ decision = cc is in
    subst (IsDecisionBy (Accepts (Passes test) offer) (Err why)) same refl
answers_so test (offers.Key key) table agrees (Ok grant) decision is =
    let same : decisions.Granted grant ≡ decision = cc is in
    subst (IsDecisionBy (Unit {0}) (Ok grant)) same (refl, tt)
answers_so test (offers.Certificate c message) table agrees (Ok grant) decision is =
    let q : Question = verify_question c.signature_key.inner_key c.signature message in
    by_answer_so test c.signature_key.inner_key c.signature message table agrees grant decision (answer_to q table) refl is

-- what is judged to be a decision is one, under the signatures that the test calls good
pub judged_is : (test : SignatureTest) (entries : List AuthEntry) (offer : Offer) (user : List ℕ) (moment : Timestamp)
    (table : List Entry) (decision : Decision) → Agrees test table → judged entries offer user moment table ≡ Ok (Decided decision)
    → IsDecision (Passes test) entries offer user moment decision
judged_is test entries offer user moment table decision agrees is =
    let by = IsDecisionBy (Accepts (Passes test) offer) (decided entries offer user moment) in
    let answers : IsDecisionBy (Accepts (Passes test) offer) (decided entries offer user moment) decision =
    answers_so test offer table agrees (decided entries offer user moment) decision is in
    record {
      answers = answers;
      granted = λ grant same. grants (Passes test) entries user moment offer grant (subst by same answers);
      denied = λ why grant same. denies (Passes test) entries user moment offer why grant (subst by same answers);
    }

-- ---- what is asked

pub record AreAsked (offer : Offer) (table : List Entry) (says : Result Grant Denial) (q : Question) : Type 0 where
  pub is : question_for offer ≡ Some q
  pub lacked : answer_to q table ≡ None
  pub let_in : is_ok says ≡ true

asks_so : (offer : Offer) (table : List Entry) (grant : Grant) (q asked : Question) → question_for offer ≡ Some asked
    → (answer : Option (List ℕ)) → answer_to asked table ≡ answer → by_answer grant asked answer ≡ Ok (Asks q)
    → AreAsked offer table (Ok grant) q
asks_so offer table grant q asked its None found is =
    let same : asked ≡ q = cc is in record {
      is = its ∙ ap (λ (x : Question). Some x) same;
      lacked = subst (λ (x : Question). answer_to x table ≡ None) same found;
      let_in = refl;
    }
asks_so offer table grant q asked its (Some answer) found is =
    let step = and_then_ok (verdict_in answer) _ (Asks q) is in cc step.2

rules_ask : (offer : Offer) (table : List Entry) (says : Result Grant Denial) (q : Question)
    → by_rules says (question_for offer) table ≡ Ok (Asks q) → AreAsked offer table says q
rules_ask offer table (Err why) q is = cc is
rules_ask (offers.Key key) table (Ok grant) q is = cc is
rules_ask (offers.Certificate c message) table (Ok grant) q is =
    let asked : Question = verify_question c.signature_key.inner_key c.signature message in
    asks_so (offers.Certificate c message) table grant q asked refl (answer_to asked table) refl is

-- the rules ask of a certificate alone
let_in_asks : (entries : List AuthEntry) (offer : Offer) (user : List ℕ) (moment : Timestamp) (q : Question)
    → question_for offer ≡ Some q → is_ok (decided entries offer user moment) ≡ true → verifier_asks entries offer user moment ≡ true
let_in_asks entries (offers.Key key) user moment q its ok = cc its
let_in_asks entries (offers.Certificate c message) user moment q its ok = ok

pub judged_asks : (entries : List AuthEntry) (offer : Offer) (user : List ℕ) (moment : Timestamp) (table : List Entry) (q : Question)
    → judged entries offer user moment table ≡ Ok (Asks q)
    → AreAsked offer table (decided entries offer user moment) q × (verifier_asks entries offer user moment ≡ true)
judged_asks entries offer user moment table q is =
    let asked = rules_ask offer table (decided entries offer user moment) q is in
    (asked, let_in_asks entries offer user moment q asked.is asked.let_in)
