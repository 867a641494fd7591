-- What critical options demand.
use Rattle.std.proofs.Common.{◌≡◌, ℕ, ◌<◌, Bool, true, false, List, [], ◌∷◌, ◌==◌, length, Option, Some, None}
use Rattle.std.proofs.Common.{Result, Ok, Err, refl, sym, ◌∙◌, ap, arith, inl, inr, subst}
use Rattle.std.proofs.lemmas.Bool.{cases_Bool, ne_eqb}
use Rattle.std.proofs.lemmas.List.{append-nil}
use Rattle.std.specs.Option.{option_map}
use Rattle.picky_wire_base.specs.Flaw.{Flaw, Flawed, Why}
use Rattle.picky_wire_base.specs.Outcome.{map_err}
use Rattle.picky_wire_base.specs.Wire.{text}
use Rattle.picky_issuing.specs.Steps.{some_then}
use Rattle.picky_cert_parts.specs.declared.option_type.SshCriticalOptionType.{SshCriticalOptionType}
use Rattle.picky_cert_parts.specs.declared.option_type.SshCriticalOptionType.TheVariants.{ForceCommand, SourceAddress, VerifyRequired}
use Rattle.picky_cert_parts.specs.declared.critical_option.SshCriticalOption.{SshCriticalOption}
use Rattle.picky_policy.specs.Demands.{AreDemands, Demands, HasFlag, HasText, demands_in, flag_demand, flag_in, is_type, one_of}
use Rattle.picky_policy.specs.Demands.{payloads_of, text_demand, text_demanded}
use Rattle.picky_policy.specs.Demands.{text_of_payload, whole}
use Rattle.picky_policy.specs.inner.Payload.{with_payload}

-- ---- the payload of the one option of a type

-- what was found, with the options that are left
abbrev pub one_from : (wanted : SshCriticalOptionType) → (found : Option (List ℕ)) → List SshCriticalOption
    → Option (Option (List ℕ))
one_from wanted found [] = Some found
one_from wanted found (o ∷ more) = some_then (with_payload wanted found o) (λ next. one_from wanted next more)

-- where one was found, there is no other
one_behind : (wanted : SshCriticalOptionType) (payload : List ℕ) (options : List SshCriticalOption)
    → one_from wanted (Some payload) options ≡ one_of (payload ∷ payloads_of wanted options)
one_behind wanted payload [] = refl
one_behind wanted payload (o ∷ more) = elim (cases_Bool (is_type wanted o.option_type)) [
  | inl same ↦ rw same refl
  | inr other ↦ rw other (one_behind wanted payload more)
]

pub one_is : (wanted : SshCriticalOptionType) (options : List SshCriticalOption)
    → one_from wanted None options ≡ one_of (payloads_of wanted options)
one_is wanted [] = refl
one_is wanted (o ∷ more) = elim (cases_Bool (is_type wanted o.option_type)) [
  | inl same ↦ rw same (one_behind wanted o.payload more)
  | inr other ↦ rw other (one_is wanted more)
]

-- where no option is left, what was found is the one of all
pub one_ends : (wanted : SshCriticalOptionType) (found : Option (List ℕ)) (rest options : List SshCriticalOption)
    → length rest < 1 → one_from wanted found rest ≡ one_from wanted None options
    → Some found ≡ one_of (payloads_of wanted options)
one_ends wanted found [] options none before = before ∙ one_is wanted options
one_ends wanted found (o ∷ rest) options none before = absurd (omega (arith, none))

-- ---- a payload that is a text

-- the text of what was read is whole exactly where nothing is left
pub payload_all : (payload value rest : List ℕ) → text.read payload ≡ Ok (value, rest) → rest ≡ []
    → text_of_payload payload ≡ Some value
unfolding text_of_payload
payload_all payload value rest read none = ap whole (read ∙ ap (λ r. Ok (value, r)) none)

pub payload_more : (payload value rest : List ℕ) → text.read payload ≡ Ok (value, rest) → 0 < length rest
    → text_of_payload payload ≡ None
unfolding text_of_payload
payload_more payload value [] read some = absurd (omega (arith, some))
payload_more payload value (b ∷ rest) read some = ap whole read

none_read : (read : Result (List ℕ × List ℕ) Flaw) (why : Why) → map_err Flawed read ≡ Err why → whole read ≡ None
none_read (Ok found) why is = cc is
none_read (Err e) why is = refl

pub payload_none : (payload : List ℕ) (why : Why) → map_err Flawed (text.read payload) ≡ Err why
    → text_of_payload payload ≡ None
unfolding text_of_payload
payload_none payload why is = none_read (text.read payload) why is

-- ---- what options demand

-- a payload that is a text is a piece of it
whole_read : (value : List ℕ) (read : Result (List ℕ × List ℕ) Flaw) → whole read ≡ Some value → read ≡ Ok (value, [])
whole_read value (Ok (v, [])) is = let same : v ≡ value = cc is in ap (λ l. Ok (l, [])) same
whole_read value (Ok (v, b ∷ rest)) is = cc is
whole_read value (Err e) is = cc is

payload_says : (payload value : List ℕ) → text_of_payload payload ≡ Some value → text.piece value payload
unfolding text_of_payload
payload_says payload value is =
    let fits = text.sound payload value [] (whole_read value (text.read payload) is) in
    subst (text.piece value) (sym (fits.2 ∙ append-nil fits.0)) fits.1

payload_is : (payload value : List ℕ) → text.piece value payload → text_of_payload payload ≡ Some value
payload_is payload value piece =
    payload_all payload value [] (ap text.read (sym (append-nil payload)) ∙ text.complete value payload [] piece) refl

-- a text that is demanded
text_says_one : (payload : List ℕ) (text : Option (List ℕ)) (value : Option (List ℕ)) → text_of_payload payload ≡ text
    → option_map Some text ≡ Some value → HasText (payload ∷ []) value
text_says_one payload None value says is = absurd (cc is)
text_says_one payload (Some text) None says is = absurd (cc is)
text_says_one payload (Some text) (Some value) says is =
    let same : text ≡ value = cc is in
    (payload, refl, payload_says payload value (says ∙ ap Some same))

text_says : (payloads : List (List ℕ)) (value : Option (List ℕ)) → some_then (one_of payloads) text_demand ≡ Some value
    → HasText payloads value
text_says [] None is = refl
text_says [] (Some value) is = absurd (cc is)
text_says (payload ∷ []) value is = text_says_one payload (text_of_payload payload) value refl is
text_says (payload ∷ next ∷ more) value is = absurd (cc is)

text_is : (payloads : List (List ℕ)) (value : Option (List ℕ)) → HasText payloads value
    → some_then (one_of payloads) text_demand ≡ Some value
text_is payloads None none = ap (λ l. some_then (one_of l) text_demand) none
text_is payloads (Some value) has =
    ap (λ l. some_then (one_of l) text_demand) has.1 ∙ ap (option_map Some) (payload_is has.0 value has.2)

-- and a flag
flag_says : (payloads : List (List ℕ)) (flag : Bool) → some_then (one_of payloads) flag_demand ≡ Some flag
    → HasFlag payloads flag
flag_says [] false is = refl
flag_says [] true is = absurd (cc is)
flag_says ([] ∷ []) true is = refl
flag_says ([] ∷ []) false is = absurd (cc is)
flag_says ((b ∷ payload) ∷ []) flag is =
    let some : (length (b ∷ payload) == 0) ≡ false = ne_eqb (length (b ∷ payload)) 0 (omega arith) in
    absurd (cc (rw some at is))
flag_says (payload ∷ next ∷ more) flag is = absurd (cc is)

flag_is : (payloads : List (List ℕ)) (flag : Bool) → HasFlag payloads flag
    → some_then (one_of payloads) flag_demand ≡ Some flag
flag_is payloads false none = ap (λ l. some_then (one_of l) flag_demand) none
flag_is payloads true has = ap (λ l. some_then (one_of l) flag_demand) has

-- ---- all three

some_first : {A B : Type 0} (first : Option A) (next : A → Option B) (y : B) → some_then first next ≡ Some y
    → (x : A) × (first ≡ Some x) × (next x ≡ Some y)
some_first None next y is = absurd (cc is)
some_first (Some x) next y is = (x, refl, is)

pub demands_say : (options : List SshCriticalOption) (d : Demands) → demands_in options ≡ Some d → AreDemands options d
unfolding demands_in
demands_say options d is =
    let command = some_first (text_demanded ForceCommand options) _ d is in
    let address = some_first (text_demanded SourceAddress options) _ d command.2 in
    let verify = some_first (flag_in VerifyRequired options) _ d address.2 in
    let made : Demands =
    record { force_command = command.0; source_address = address.0; verify_required = verify.0 } in
    let same : made ≡ d = cc verify.2 in
    let of_made : AreDemands options made = record {
      force_command = text_says (payloads_of ForceCommand options) command.0 command.1;
      source_address = text_says (payloads_of SourceAddress options) address.0 address.1;
      verify_required = flag_says (payloads_of VerifyRequired options) verify.0 verify.1;
    } in
    subst (AreDemands options) same of_made

pub demands_are : (options : List SshCriticalOption) (d : Demands) → AreDemands options d → demands_in options ≡ Some d
unfolding demands_in
demands_are options d are =
    ap (λ o. some_then o (λ command. some_then (text_demanded SourceAddress options) (λ address.
    some_then (flag_in VerifyRequired options) (λ verify.
    Some (record { force_command = command; source_address = address; verify_required = verify })))))
    (text_is (payloads_of ForceCommand options) d.force_command are.force_command)
    ∙ ap (λ o. some_then o (λ address. some_then (flag_in VerifyRequired options) (λ verify.
    Some (record { force_command = d.force_command; source_address = address; verify_required = verify }))))
    (text_is (payloads_of SourceAddress options) d.source_address are.source_address)
    ∙ ap (λ o. some_then o (λ verify.
    Some (record { force_command = d.force_command; source_address = d.source_address; verify_required = verify })))
    (flag_is (payloads_of VerifyRequired options) d.verify_required are.verify_required)
