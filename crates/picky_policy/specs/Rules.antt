-- The rules by which an authority's line lets a certificate in: all but the signature's.
use Rattle.std.specs.Prelude.{◌≡◌, ◌⊎◌, ◌<◌, ◌≤◌, ◌==◌, ◌||◌, ℕ, Bool, true, false, List, [], ◌∷◌, Option, Some, None}
use Rattle.std.specs.Prelude.{Result, Err}
use Rattle.std.specs.Prelude.{bytes_eq, filter, length, not, nat_le, nat_lt, Contains, if◌then◌else◌}
use Rattle.std.specs.List.{list_any, slice_split}
use Rattle.std.specs.Option.{ok_or}
use Rattle.picky_wire.specs.declared.timestamp.Timestamp.{Timestamp}
use Rattle.picky_authorized.specs.KnownOptions.{is_named, principals}
use Rattle.picky_authorized.specs.declared.auth_option.AuthOption.{AuthOption}
use Rattle.picky_cert.specs.declared.certificate.SshCertificate.{SshCertificate}
use Rattle.picky_cert_parts.specs.declared.cert_type.SshCertType.{SshCertType}
use Rattle.picky_cert_parts.specs.declared.cert_type.SshCertType.TheVariants.{Client, Host}
use Rattle.picky_policy.specs.Demands.{AreDemands, Demands, demands_in}
use Rattle.picky_policy.specs.declared.decision.Denial.{Denial}
use Rattle.picky_policy.specs.declared.decision.Denial.TheVariants as denials

-- ---- principals

-- the names between the commas of a value; an empty one is none
abbrev pub names_in : (value : List ℕ) → List (List ℕ)
names_in value = filter (λ name. not (length name == 0)) (slice_split (λ b. b == 44) value)

-- the value of the first option with the name, where that has one
abbrev pub value_named : (name : List ℕ) → List AuthOption → Option (List ℕ)
value_named name [] = None
value_named name (o ∷ more) = if is_named name o then o.value else value_named name more

-- where the line has `principals`, one of its names is the certificate's; where it hasn't, the certificate has no
-- principals, or the user is one of them
abbrev pub IsForUser : Option (List ℕ) → (names : List (List ℕ)) (user : List ℕ) → Type 0
IsForUser (Some value) names user = (name : List ℕ) × Contains (names_in value) name × Contains names name
IsForUser None names user = (names ≡ []) ⊎ Contains names user

abbrev pub is_among : (name : List ℕ) → List (List ℕ) → Bool
is_among name names = list_any (λ other. bytes_eq other name) names

abbrev pub is_for_user : Option (List ℕ) → (names : List (List ℕ)) (user : List ℕ) → Bool
is_for_user (Some value) names user = list_any (λ name. is_among name names) (names_in value)
is_for_user None names user = length names == 0 || is_among user names

-- ---- the rules

-- a certificate of a user's, within its time, for its user, all of whose critical options are known and fit
pub record Lets (options : List AuthOption) (c : SshCertificate) (user : List ℕ) (moment : Timestamp) (d : Demands)
    : Type 0 where
  pub client : c.cert_type ≡ Client
  pub begun : c.valid_after.0 ≤ moment.0
  pub lasts : moment.0 < c.valid_before.0
  pub principal : IsForUser (value_named principals options) c.valid_principals user
  pub demands : AreDemands c.critical_options d

abbrev pub is_host : SshCertType → Bool
is_host Client = false
is_host Host = true

-- what the certificate demands, or the first rule that fails
unfoldable pub judged_rules : (options : List AuthOption) → SshCertificate → (user : List ℕ) → Timestamp → Result Demands Denial
judged_rules options c user moment =
    if is_host c.cert_type then Err denials.NotClient
    else if nat_lt moment.0 c.valid_after.0 then Err denials.NotYet
    else if nat_le c.valid_before.0 moment.0 then Err denials.Expired
    else if is_for_user (value_named principals options) c.valid_principals user
    then ok_or (demands_in c.critical_options) denials.CriticalOption
    else Err denials.Principal
