-- What is decided of an offer: the first line that is for its key, and for a certificate the rules and the signature.
use Rattle.std.specs.Prelude.{◌≡◌, ◌||◌, ◌&&◌, ◌++◌, ℕ, Bool, true, false, not, List, [], ◌∷◌, Option, Some, None}
use Rattle.std.specs.Prelude.{Result, Ok, Err}
use Rattle.std.specs.Prelude.{bytes_eq, filter, is_ok, if◌then◌else◌}
use Rattle.std.specs.List.{AllByRecursion, list_any}
use Rattle.std.specs.Option.{ok_or}
use Rattle.picky_wire_base.specs.Outcome.{and_then}
use Rattle.picky_wire.specs.Takes.{Calm}
use Rattle.picky_wire.specs.declared.timestamp.Timestamp.{Timestamp}
use Rattle.picky_keys.specs.Blob.{blob_of}
use Rattle.picky_keys.specs.declared.key.SshBasePublicKey.{SshBasePublicKey}
use Rattle.picky_authorized.specs.KnownOptions.{cert_authority, is_named, principals}
use Rattle.picky_authorized.specs.declared.auth_option.AuthOption.{AuthOption}
use Rattle.picky_authorized.specs.declared.entry.AuthContent.{AuthContent}
use Rattle.picky_authorized.specs.declared.entry.AuthContent.TheVariants as contents
use Rattle.picky_authorized.specs.declared.entry.AuthEntry.{AuthEntry}
use Rattle.picky_policy.specs.Demands.{Demands, no_demands}
use Rattle.picky_policy.specs.Rules.{Lets, judged_rules}
use Rattle.picky_policy.specs.Verifies.{KeepsVerified, VerifyRelation}
use Rattle.picky_policy.specs.declared.deciding.DecideError.{DecideError}
use Rattle.picky_policy.specs.declared.deciding.DecideError.TheVariants as errors
use Rattle.picky_policy.specs.declared.decision.Decision.{Decision}
use Rattle.picky_policy.specs.declared.decision.Decision.TheVariants as decisions
use Rattle.picky_policy.specs.declared.decision.Denial.{Denial}
use Rattle.picky_policy.specs.declared.decision.Denial.TheVariants as denials
use Rattle.picky_policy.specs.declared.decision.Grant.{Grant}
use Rattle.picky_policy.specs.declared.offer.Offer.{Offer}
use Rattle.picky_policy.specs.declared.offer.Offer.TheVariants as offers

-- ---- lines

-- a line's number, and the options before its key
pub record Line : Type 0 where
  pub number : ℕ
  pub options : List AuthOption

-- the key is an authority's
abbrev pub is_authority : List AuthOption → Bool
is_authority options = list_any (is_named cert_authority) options

-- two keys are one where they are written alike
abbrev pub is_key : SshBasePublicKey → SshBasePublicKey → Bool
is_key key other = bytes_eq (blob_of other) (blob_of key)

-- the options are those of an authority's line, or of any other
abbrev pub is_of_sort : (authority : Bool) → List AuthOption → Bool
is_of_sort true options = is_authority options
is_of_sort false options = not (is_authority options)

-- the entry is a line of this sort for the key
abbrev pub is_for : (authority : Bool) → SshBasePublicKey → AuthContent → Bool
is_for authority key (contents.Key options other) = is_of_sort authority options && is_key key other.inner_key
is_for authority key contents.BadOptions = false
is_for authority key (contents.Unread e) = false

-- the options of an entry that has some
abbrev pub options_of : AuthContent → List AuthOption
options_of (contents.Key options key) = options
options_of contents.BadOptions = []
options_of (contents.Unread e) = []

abbrev pub entry_line_of : AuthEntry → Line
entry_line_of entry = record { number = entry.line; options = options_of entry.content }

-- the first entry that is a line of this sort for the key
pub record IsLineFor (authority : Bool) (key : SshBasePublicKey) (entries : List AuthEntry) (line : Line) : Type 0 where
  pub front : List AuthEntry
  pub entry : AuthEntry
  pub rest : List AuthEntry
  pub whole : entries ≡ front ++ entry ∷ rest
  pub none : AllByRecursion (λ before. is_for authority key before.content ≡ false) front
  pub is : is_for authority key entry.content ≡ true
  pub same : line ≡ entry_line_of entry

unfoldable pub line_for : (authority : Bool) → SshBasePublicKey → List AuthEntry → Option Line
line_for authority key [] = None
line_for authority key (entry ∷ more) =
    if is_for authority key entry.content then Some (entry_line_of entry) else line_for authority key more

-- ---- the grant

-- the option says whose keys the line is for
abbrev pub is_kept_back : AuthOption → Bool
is_kept_back o = is_named cert_authority o || is_named principals o

-- the options that the caller is handed: all others
abbrev pub options_left : List AuthOption → List AuthOption
options_left options = filter (λ o. not (is_kept_back o)) options

abbrev pub granted : Line → Demands → Grant
granted line d = record {
  line = line.number;
  force_command = d.force_command;
  source_address = d.source_address;
  verify_required = d.verify_required;
  options = options_left line.options;
}

-- ---- who is let in

-- a key that has a line of its own; or a certificate whose issuer has an authority's line, where the rules and the
-- signature are kept
abbrev pub Allows : VerifyRelation → List AuthEntry → Offer → (user : List ℕ) → Timestamp → Grant → Type 0
Allows verifies entries (offers.Key key) user moment grant =
    (line : Line) × IsLineFor false key.inner_key entries line × (grant ≡ granted line no_demands)
Allows verifies entries (offers.Certificate c message) user moment grant =
    (line : Line) × (d : Demands) × IsLineFor true c.signature_key.inner_key entries line
    × Lets line.options c user moment d × verifies c.signature_key.inner_key c.signature message × (grant ≡ granted line d)

-- ---- the decision

-- the grant, or the first rule that fails; the signature is judged behind it
unfoldable pub decided : List AuthEntry → Offer → (user : List ℕ) → Timestamp → Result Grant Denial
decided entries (offers.Key key) user moment =
    and_then (ok_or (line_for false key.inner_key entries) denials.NoLine) (λ line. Ok (granted line no_demands))
decided entries (offers.Certificate c message) user moment =
    and_then (ok_or (line_for true c.signature_key.inner_key entries) denials.NoAuthority) (λ line.
    and_then (judged_rules line.options c user moment) (λ d. Ok (granted line d)))

-- the verifier is asked: of a certificate, where no rule before fails
abbrev pub verifier_asks : List AuthEntry → Offer → (user : List ℕ) → Timestamp → Bool
verifier_asks entries (offers.Key key) user moment = false
verifier_asks entries (offers.Certificate c message) user moment =
    is_ok (decided entries (offers.Certificate c message) user moment)

-- the signature is good; a key has none
abbrev pub Accepts : VerifyRelation → Offer → Type 0
Accepts verifies (offers.Key key) = Unit {0}
Accepts verifies (offers.Certificate c message) = verifies c.signature_key.inner_key c.signature message

-- the decision, by what was judged and whether the signature is good
abbrev pub IsDecisionBy : (accepts : Type 0) → Result Grant Denial → Decision → Type 0
IsDecisionBy accepts (Ok grant) (decisions.Granted given) = (given ≡ grant) × accepts
IsDecisionBy accepts (Ok grant) (decisions.Denied denial) = (denial ≡ denials.BadSignature) × (accepts → ⊥)
IsDecisionBy accepts (Err why) (decisions.Granted given) = ⊥
IsDecisionBy accepts (Err why) (decisions.Denied denial) = denial ≡ why

-- so it is a grant exactly where one is let in, and this is the grant
pub record IsDecision (verifies : VerifyRelation) (entries : List AuthEntry) (offer : Offer) (user : List ℕ) (moment : Timestamp)
    (decision : Decision) : Type 0 where
  pub answers : IsDecisionBy (Accepts verifies offer) (decided entries offer user moment) decision
  pub granted : (grant : Grant) → decision ≡ decisions.Granted grant → Allows verifies entries offer user moment grant
  pub denied : (why : Denial) (grant : Grant) → decision ≡ decisions.Denied why
      → Allows verifies entries offer user moment grant → ⊥

-- what a call answers: a decision; or the verifier's fault, where it was asked and counted one; or want of memory, in place of a
-- grant alone
abbrev pub Decides : (accepts : Type 0) → Result Grant Denial → (asked : Bool) → (rose : Type 0)
    → Result Decision DecideError → Type 0
Decides accepts says asked rose (Ok decision) = IsDecisionBy accepts says decision
Decides accepts says asked rose (Err errors.VerifierFault) = (asked ≡ true) × rose
Decides accepts says asked rose (Err errors.NoMemory) = (grant : Grant) × IsDecisionBy accepts says (decisions.Granted grant)

-- which signatures are good stays; the count moves for the verifier's fault alone; one that isn't asked is as it was
pub record LeavesVerifier {S A : Type 0} (verifies : S → VerifyRelation) (faults : S → ℕ) (asked : Bool)
    (result : Result A DecideError) (old new : S) : Type 0 where
  pub kept : KeepsVerified (verifies old) (verifies new)
  pub calm : Calm errors.VerifierFault result (faults old) (faults new)
  pub unasked : asked ≡ false → new ≡ old
