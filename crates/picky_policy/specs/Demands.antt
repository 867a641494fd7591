-- What a certificate demands by its critical options (OpenSSH's PROTOCOL.certkeys, "Critical options").
use Rattle.std.specs.Prelude.{◌≡◌, ◌==◌, ℕ, Bool, true, false, List, [], ◌∷◌, Option, Some, None, Result, Ok, Err}
use Rattle.std.specs.Prelude.{length, if◌then◌else◌}
use Rattle.std.specs.Option.{option_map}
use Rattle.picky_wire_base.specs.Wire.{text}
use Rattle.picky_cert_parts.specs.declared.option_type.SshCriticalOptionType.{SshCriticalOptionType}
use Rattle.picky_cert_parts.specs.declared.option_type.SshCriticalOptionType.TheVariants.{ForceCommand, SourceAddress}
use Rattle.picky_cert_parts.specs.declared.option_type.SshCriticalOptionType.TheVariants.{VerifyRequired}
use Rattle.picky_cert_parts.specs.declared.critical_option.SshCriticalOption.{SshCriticalOption}
use Rattle.picky_issuing.specs.Steps.{some_then}

pub record Demands : Type 0 where
  pub force_command : Option (List ℕ)
  pub source_address : Option (List ℕ)
  pub verify_required : Bool

abbrev pub no_demands : Demands
no_demands = record { force_command = None; source_address = None; verify_required = false }

abbrev pub is_type : (wanted given : SshCriticalOptionType) → Bool
is_type ForceCommand ForceCommand = true
is_type ForceCommand SourceAddress = false
is_type ForceCommand VerifyRequired = false
is_type SourceAddress ForceCommand = false
is_type SourceAddress SourceAddress = true
is_type SourceAddress VerifyRequired = false
is_type VerifyRequired ForceCommand = false
is_type VerifyRequired SourceAddress = false
is_type VerifyRequired VerifyRequired = true

-- the payloads of the options of one type
abbrev pub payloads_of : (wanted : SshCriticalOptionType) → List SshCriticalOption → List (List ℕ)
payloads_of wanted [] = []
payloads_of wanted (o ∷ more) =
    if is_type wanted o.option_type then o.payload ∷ payloads_of wanted more else payloads_of wanted more

-- ---- what options demand

-- no option is of this type; or one is, and its payload is the text as one string of UTF-8 (RFC 4251, section 5)
abbrev pub HasText : (payloads : List (List ℕ)) → Option (List ℕ) → Type 0
HasText payloads None = payloads ≡ []
HasText payloads (Some value) = (payload : List ℕ) × (payloads ≡ payload ∷ []) × text.piece value payload

-- no option is of this type; or one is, and its payload is empty
abbrev pub HasFlag : (payloads : List (List ℕ)) → Bool → Type 0
HasFlag payloads false = payloads ≡ []
HasFlag payloads true = payloads ≡ [] ∷ []

-- no option occurs twice, and each payload fits
pub record AreDemands (options : List SshCriticalOption) (d : Demands) : Type 0 where
  pub force_command : HasText (payloads_of ForceCommand options) d.force_command
  pub source_address : HasText (payloads_of SourceAddress options) d.source_address
  pub verify_required : HasFlag (payloads_of VerifyRequired options) d.verify_required

-- ---- the demands of options

-- the text, where nothing follows it
abbrev pub whole : {E : Type 0} → Result (List ℕ × List ℕ) E → Option (List ℕ)
whole (Ok (value, [])) = Some value
whole (Ok (value, b ∷ rest)) = None
whole (Err e) = None

-- the text whose string the payload is
unfoldable pub text_of_payload : (payload : List ℕ) → Option (List ℕ)
text_of_payload payload = whole (text.read payload)

-- the payload, where there is no more than one
abbrev pub one_of : (payloads : List (List ℕ)) → Option (Option (List ℕ))
one_of [] = Some None
one_of (payload ∷ []) = Some (Some payload)
one_of (payload ∷ next ∷ more) = None

-- a text that is demanded, or none
abbrev pub text_demand : Option (List ℕ) → Option (Option (List ℕ))
text_demand None = Some None
text_demand (Some payload) = option_map Some (text_of_payload payload)

-- a flag
abbrev pub flag_demand : Option (List ℕ) → Option Bool
flag_demand None = Some false
flag_demand (Some payload) = if length payload == 0 then Some true else None

abbrev pub text_demanded : SshCriticalOptionType → List SshCriticalOption → Option (Option (List ℕ))
text_demanded wanted options = some_then (one_of (payloads_of wanted options)) text_demand

abbrev pub flag_in : SshCriticalOptionType → List SshCriticalOption → Option Bool
flag_in wanted options = some_then (one_of (payloads_of wanted options)) flag_demand

unfoldable pub demands_in : List SshCriticalOption → Option Demands
demands_in options =
    some_then (text_demanded ForceCommand options) (λ command.
    some_then (text_demanded SourceAddress options) (λ address.
    some_then (flag_in VerifyRequired options) (λ verify.
    Some (record { force_command = command; source_address = address; verify_required = verify }))))
