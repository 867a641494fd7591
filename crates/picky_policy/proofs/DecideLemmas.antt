-- Who is let in, by what is decided.
use Rattle.std.proofs.Common.{◌≡◌, ◌≢◌, ℕ, Bool, false, true, List, [], ◌∷◌, ◌++◌, Option, Some, None, Result, Ok, Err, IfOk, refl, sym}
use Rattle.std.proofs.Common.{◌∙◌, ap, subst}
use Rattle.std.proofs.lemmas.List.{append_assoc}
use Rattle.std.proofs.lemmas.List.Elements.{filter-append}
use Rattle.std.specs.Option.{ok_or}
use Rattle.std.specs.Prelude.{not}
use Rattle.picky_wire_base.specs.Outcome.{and_then}
use Rattle.picky_wire.specs.declared.timestamp.Timestamp.{Timestamp}
use Rattle.picky_keys.specs.declared.key.SshPublicKey.{SshPublicKey}
use Rattle.picky_authorized.specs.declared.auth_option.AuthOption.{AuthOption}
use Rattle.picky_authorized.specs.declared.entry.AuthEntry.{AuthEntry}
use Rattle.picky_cert.specs.declared.certificate.SshCertificate.{SshCertificate}
use Rattle.picky_policy.specs.Decided.{Accepts, Allows, IsDecisionBy, Decides, Line}
use Rattle.picky_policy.specs.Decided.{verifier_asks, decided, granted, is_kept_back, line_for, options_left}
use Rattle.picky_policy.specs.Demands.{Demands, no_demands}
use Rattle.picky_policy.specs.Rules.{judged_rules}
use Rattle.picky_policy.specs.Verifies.{VerifyRelation}
use Rattle.picky_policy.specs.declared.deciding.DecideError.{DecideError}
use Rattle.picky_policy.specs.declared.deciding.DecideError.TheVariants as errors
use Rattle.picky_policy.specs.declared.decision.Decision.{Decision}
use Rattle.picky_policy.specs.declared.decision.Decision.TheVariants as decisions
use Rattle.picky_policy.specs.declared.decision.Denial.{Denial}
use Rattle.picky_policy.specs.declared.decision.Denial.TheVariants as denials
use Rattle.picky_policy.specs.declared.decision.Grant.{Grant}
use Rattle.picky_policy.specs.declared.offer.Offer.{Offer}
use Rattle.picky_policy.specs.declared.offer.Offer.TheVariants as offers
use Rattle.picky_policy.proofs.KeyLemmas.{line_found, line_is}
use Rattle.picky_policy.proofs.RuleLaws.{rules_are, rules_say}

-- ---- who is let in

module _ (verifies : VerifyRelation) (entries : List AuthEntry) (user : List ℕ) (moment : Timestamp) where
  key_granted : (key : SshPublicKey) (grant : Grant) (found : Option Line) → line_for false key.inner_key entries ≡ found
      → IsDecisionBy (Unit {0}) (and_then (ok_or found denials.NoLine) (λ line. Ok (granted line no_demands))) (decisions.Granted grant)
      → Allows verifies entries (offers.Key key) user moment grant
  key_granted key grant None says answers = absurd answers
  key_granted key grant (Some line) says answers = (line, line_found false key.inner_key entries line says, answers.0)

  rules_granted : (c : SshCertificate) (message : List ℕ) (grant : Grant) (line : Line)
      → line_for true c.signature_key.inner_key entries ≡ Some line
      → (kept : Result Demands Denial) → judged_rules line.options c user moment ≡ kept
      → IsDecisionBy (verifies c.signature_key.inner_key c.signature message) (and_then kept (λ d. Ok (granted line d)))
      (decisions.Granted grant)
      → Allows verifies entries (offers.Certificate c message) user moment grant
  rules_granted c message grant line says (Ok d) is answers = (
    line,
    d,
    line_found true c.signature_key.inner_key entries line says,
    rules_say line.options c user moment d is,
    answers.1,
    answers.0,
  )
  rules_granted c message grant line says (Err why) is answers = absurd answers

  certificate_granted : (c : SshCertificate) (message : List ℕ) (grant : Grant) (found : Option Line)
      → line_for true c.signature_key.inner_key entries ≡ found
      → IsDecisionBy (verifies c.signature_key.inner_key c.signature message)
      (and_then (ok_or found denials.NoAuthority) (λ line.
      and_then (judged_rules line.options c user moment) (λ d. Ok (granted line d)))) (decisions.Granted grant)
      → Allows verifies entries (offers.Certificate c message) user moment grant
  certificate_granted c message grant None says answers = absurd answers
  certificate_granted c message grant (Some line) says answers =
      rules_granted c message grant line says (judged_rules line.options c user moment) refl answers

  -- what is granted is allowed
  pub grants : (offer : Offer) (grant : Grant)
      → IsDecisionBy (Accepts verifies offer) (decided entries offer user moment) (decisions.Granted grant)
      → Allows verifies entries offer user moment grant
  unfolding decided
  grants (offers.Key key) grant answers = key_granted key grant (line_for false key.inner_key entries) refl answers
  grants (offers.Certificate c message) grant answers =
      certificate_granted c message grant (line_for true c.signature_key.inner_key entries) refl answers

  -- and what is denied isn't
  pub denies : (offer : Offer) (why : Denial) (grant : Grant)
      → IsDecisionBy (Accepts verifies offer) (decided entries offer user moment) (decisions.Denied why)
      → Allows verifies entries offer user moment grant → ⊥
  unfolding decided
  denies (offers.Key key) why grant answers allows =
      let says : decided entries (offers.Key key) user moment ≡ Ok (granted allows.0 no_demands) =
      ap (λ o. and_then (ok_or o denials.NoLine) (λ line. Ok (granted line no_demands)))
      (line_is false key.inner_key entries allows.0 allows.1) in
      (subst (λ r. IsDecisionBy (Unit {0}) r (decisions.Denied why)) says answers).1 tt
  denies (offers.Certificate c message) why grant answers allows =
      let line : Line = allows.0 in
      let says : decided entries (offers.Certificate c message) user moment ≡ Ok (granted line allows.1) =
      ap (λ o. and_then (ok_or o denials.NoAuthority) (λ l. and_then (judged_rules l.options c user moment) (λ d. Ok (granted l d))))
      (line_is true c.signature_key.inner_key entries line allows.2)
      ∙ ap (λ r. and_then r (λ d. Ok (granted line d))) (rules_are line.options c user moment allows.1 allows.3) in
      (subst (λ r. IsDecisionBy (verifies c.signature_key.inner_key c.signature message) r (decisions.Denied why)) says answers).1
      allows.4

  -- so what a call grants is allowed, and what it denies isn't
  pub granted_so : (offer : Offer) (asked : Bool) (rose : Type 0) (result : Result Decision DecideError) (grant : Grant)
      → Decides (Accepts verifies offer) (decided entries offer user moment) asked rose result
      → result ≡ Ok (decisions.Granted grant) → Allows verifies entries offer user moment grant
  granted_so offer asked rose result grant decides is =
      grants offer grant (subst (Decides (Accepts verifies offer) (decided entries offer user moment) asked rose) is decides)

  pub denied_so : (offer : Offer) (asked : Bool) (rose : Type 0) (result : Result Decision DecideError) (why : Denial) (grant : Grant)
      → Decides (Accepts verifies offer) (decided entries offer user moment) asked rose result
      → result ≡ Ok (decisions.Denied why) → Allows verifies entries offer user moment grant → ⊥
  denied_so offer asked rose result why grant decides is =
      denies offer why grant (subst (Decides (Accepts verifies offer) (decided entries offer user moment) asked rose) is decides)

  -- and memory runs out only in place of a grant
  pub wanted_so : (offer : Offer) (asked : Bool) (rose : Type 0) (result : Result Decision DecideError)
      → Decides (Accepts verifies offer) (decided entries offer user moment) asked rose result
      → result ≡ Err errors.NoMemory → (grant : Grant) × Allows verifies entries offer user moment grant
  wanted_so offer asked rose result decides is =
      let some = subst (Decides (Accepts verifies offer) (decided entries offer user moment) asked rose) is decides in
      (some.0, grants offer some.0 some.1)

  -- a key is decided on without the verifier
  pub key_decides : (key : SshPublicKey) (rose : Type 0) (result : Result Decision DecideError)
      → Decides (Unit {0}) (decided entries (offers.Key key) user moment) false ⊥ result
      → Decides (Accepts verifies (offers.Key key)) (decided entries (offers.Key key) user moment)
      (verifier_asks entries (offers.Key key) user moment) rose result
  key_decides key rose (Ok decision) decides = decides
  key_decides key rose (Err errors.VerifierFault) decides = absurd decides.1
  key_decides key rose (Err errors.NoMemory) decides = decides

-- a grant was decided on, and what is answered is that grant, or that memory ran out
pub grant_decides : (accepts : Type 0) (says : Result Grant Denial) (asked : Bool) (rose : Type 0) (grant : Grant)
    (result : Result Decision DecideError) → says ≡ Ok grant → accepts
    → IfOk result (λ decision. decision ≡ decisions.Granted grant) → result ≢ Err errors.VerifierFault
    → Decides accepts says asked rose result
grant_decides accepts says asked rose grant result is good granted calm =
    subst (λ s. Decides accepts s asked rose result) (sym is) (go result granted calm)
  where
    go : (r : Result Decision DecideError) → IfOk r (λ decision. decision ≡ decisions.Granted grant)
        → r ≢ Err errors.VerifierFault → Decides accepts (Ok grant) asked rose r
    go (Ok decision) granted calm = subst (IsDecisionBy accepts (Ok grant)) (sym granted) (refl, good)
    go (Err errors.VerifierFault) granted calm = absurd (calm refl)
    go (Err errors.NoMemory) granted calm = (grant, (refl, good))

-- so it is of the line of a key
pub key_grants : (entries : List AuthEntry) (key : SshPublicKey) (user : List ℕ) (moment : Timestamp) (line : Line) (d : Demands)
    (result : Result Decision DecideError) → line_for false key.inner_key entries ≡ Some line → d ≡ no_demands
    → IfOk result (λ decision. decision ≡ decisions.Granted (granted line d)) → result ≢ Err errors.VerifierFault
    → Decides (Unit {0}) (decided entries (offers.Key key) user moment) false ⊥ result
unfolding decided
key_grants entries key user moment line d result found none gives calm =
    let says : decided entries (offers.Key key) user moment ≡ Ok (granted line d) =
    ap (λ o. and_then (ok_or o denials.NoLine) (λ l. Ok (granted l no_demands))) found
    ∙ ap (λ e. Ok (granted line e)) (sym none) in
    grant_decides (Unit {0}) (decided entries (offers.Key key) user moment) false ⊥ (granted line d) result says tt gives calm

-- and of the issuer's line, where the rules and the signature are kept
pub certificate_grants : (accepts : Type 0) (asked : Bool) (rose : Type 0) (entries : List AuthEntry) (c : SshCertificate)
    (message user : List ℕ) (moment : Timestamp) (line : Line) (d : Demands) (result : Result Decision DecideError)
    → line_for true c.signature_key.inner_key entries ≡ Some line → judged_rules line.options c user moment ≡ Ok d → accepts
    → IfOk result (λ decision. decision ≡ decisions.Granted (granted line d)) → result ≢ Err errors.VerifierFault
    → Decides accepts (decided entries (offers.Certificate c message) user moment) asked rose result
unfolding decided
certificate_grants accepts asked rose entries c message user moment line d result found kept good gives calm =
    let says : decided entries (offers.Certificate c message) user moment ≡ Ok (granted line d) =
    ap (λ o. and_then (ok_or o denials.NoAuthority) (λ l. and_then (judged_rules l.options c user moment) (λ e. Ok (granted l e)))) found
    ∙ ap (λ r. and_then r (λ e. Ok (granted line e))) kept in
    grant_decides accepts (decided entries (offers.Certificate c message) user moment) asked rose (granted line d) result says good
    gives calm

-- ---- the options that are handed out

pub left_more : (copies more : List AuthOption) (o : AuthOption) (rest options : List AuthOption)
    → copies ++ options_left (o ∷ rest) ≡ options_left options → more ≡ copies ++ options_left (o ∷ [])
    → more ++ options_left rest ≡ options_left options
left_more copies more o rest options before is =
    ap (λ l. l ++ options_left rest) is ∙ append_assoc copies (options_left (o ∷ [])) (options_left rest)
    ∙ ap (λ l. copies ++ l) (sym (filter-append (λ p. not (is_kept_back p)) (o ∷ []) rest)) ∙ before
