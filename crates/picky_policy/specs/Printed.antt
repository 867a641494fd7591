-- What is printed of a decision, and of what is signed of an offer.
use Rattle.std.specs.Prelude.{◌++◌, ℕ, Bool, true, false, List, [], ◌∷◌, Option, Some, None, codes, flat_map}
use Rattle.std.specs.Fmt.{decimal}
use Rattle.hex.specs.Hex.{encode_lower}
use Rattle.picky_text.specs.Base64.{base64_of}
use Rattle.picky_authorized.specs.declared.auth_option.AuthOption.{AuthOption}
use Rattle.picky_policy.specs.declared.decision.Decision.{Decision}
use Rattle.picky_policy.specs.declared.decision.Decision.TheVariants as decisions
use Rattle.picky_policy.specs.declared.decision.Denial.{Denial}
use Rattle.picky_policy.specs.declared.decision.Denial.TheVariants as denials
use Rattle.picky_policy.specs.declared.decision.Grant.{Grant}

-- the name of the rule that failed
unfoldable pub denial_name : Denial → List ℕ
denial_name denials.NoLine = codes "NoLine"
denial_name denials.NoAuthority = codes "NoAuthority"
denial_name denials.NotClient = codes "NotClient"
denial_name denials.NotYet = codes "NotYet"
denial_name denials.Expired = codes "Expired"
denial_name denials.Principal = codes "Principal"
denial_name denials.CriticalOption = codes "CriticalOption"
denial_name denials.BadSignature = codes "BadSignature"

-- line = word SP value LF
abbrev pub word_line : (word value : List ℕ) → List ℕ
word_line word value = word ++ 32 ∷ (value ++ 10 ∷ [])

-- its value in base64, where there is one
abbrev pub text_line : (word : List ℕ) → Option (List ℕ) → List ℕ
text_line word None = []
text_line word (Some value) = word_line word (base64_of value)

abbrev pub flag_line : Bool → List ℕ
flag_line true = codes "verify-required" ++ 10 ∷ []
flag_line false = []

-- SP and the value in base64, where the option has one
abbrev pub value_part : Option (List ℕ) → List ℕ
value_part None = []
value_part (Some value) = 32 ∷ base64_of value

-- "option" SP name [SP base64] LF
abbrev pub option_line : AuthOption → List ℕ
option_line o = word_line (codes "option") (o.name ++ value_part o.value)

-- "grant" SP number LF, and a line for each thing that the caller is handed
abbrev pub grant_text : Grant → List ℕ
grant_text g =
    word_line (codes "grant") (decimal g.line)
    ++ (text_line (codes "command") g.force_command
    ++ (text_line (codes "source") g.source_address
    ++ (flag_line g.verify_required
    ++ flat_map option_line g.options)))

-- or "deny" SP rule LF
abbrev pub decision_text : Decision → List ℕ
decision_text (decisions.Granted g) = grant_text g
decision_text (decisions.Denied why) = word_line (codes "deny") (denial_name why)

-- in hex of lower case, and LF
abbrev pub message_text : (message : List ℕ) → List ℕ
message_text message = encode_lower message ++ 10 ∷ []
