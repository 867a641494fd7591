-- What a run writes for the bytes of its source.
use Rattle.std.proofs.Common.{◌≡◌, ℕ, ◌≤◌, ◌++◌, List, length, Bool, true, false, Result, Ok, Err, refl, nat_lt, if◌then◌else◌}
use Rattle.std.proofs.lemmas.Bool.{ltb-false}
use Rattle.std.proofs.lemmas.Str.{IsUtf8-from_is_utf8}
use Rattle.std.specs.Str.{IsUtf8, is_utf8}
use Rattle.picky_wire_base.specs.Outcome.{map_err, map_ok}
use Rattle.picky_wire_base.specs.carried.Outcome.{map_err_ok}
use Rattle.picky_cert_builder.specs.Draft.{Unsigned}
use Rattle.picky_conversion.specs.Certified.{SignRelation}
use Rattle.picky_issuing.specs.declared.options.CertOptions.{CertOptions}
use Rattle.picky_convert.specs.declared.command.Command.{Command}
use Rattle.picky_convert.specs.declared.command.Command.TheVariants as commands
use Rattle.picky_convert.specs.declared.error.Status.TheVariants as statuses
use Rattle.picky_conversion.specs.Chain.{IsGiven}
use Rattle.picky_conversion.specs.Convert.{conversion}
use Rattle.picky_conversion.specs.Issue.{issued_bytes}
use Rattle.picky_conversion.specs.Made.{Made, ToSign, Whole, WritesMade, is_signed}
use Rattle.picky_conversion.specs.Outside.{Outside}
use Rattle.picky_convert.specs.Command.{IsAnswer, IsCommand, answer, fingerprints}
use Rattle.picky_convert.specs.Run.{input_limit, outcome, outcome_signs, IsValid, WritesAnswer}
use Rattle.picky_convert.proofs.CommandLemmas.{answer_is, answer_of}
use Rattle.picky_convert.proofs.OutcomeLemmas.{outcome_done}

-- what passed a test
passes : {A E : Type 0} (b : Bool) (x : Result A E) (e : E) (y : A)
    → (if b then x else Err e) ≡ Ok y → (b ≡ true) × (x ≡ Ok y)
passes true x e y same = (refl, same)
passes false x e y same = cc same

-- a test that refuses refuses nothing else
guarded : {A E : Type 0} (b : Bool) (x : Result A E) (e : E) (y : A)
    → (if b then Err e else x) ≡ Ok y → (b ≡ false) × (x ≡ Ok y)
guarded true x e y same = cc same
guarded false x e y same = (refl, same)

-- the bytes for which the command comes to something are a text within the limit, and it is answered
outcome_ok : (o : Outside) (command : Command) (input : List ℕ) (made : Made) → outcome o command input ≡ Ok made
    → (length input ≤ input_limit) × IsUtf8 input × (answer o command input ≡ Ok made)
unfolding outcome
outcome_ok o command input made done =
    let short = guarded (nat_lt input_limit (length input)) _ statuses.InputTooLong made done in
    let utf8 = passes (is_utf8 input) (map_err statuses.Refused (answer o command input)) statuses.InputNotUtf8 made short.1 in (
      ltb-false input_limit (length input) short.0,
      IsUtf8-from_is_utf8 input utf8.0,
      map_err_ok statuses.Refused (answer o command input) made utf8.1,
    )

-- the text that is written for bytes is the command's answer to them
pub outcome_answers : (signs : SignRelation) (o : Outside) (command : Command) (input text : List ℕ) → IsGiven o → IsCommand command
    → WritesMade signs (outcome o command input) text → IsAnswer signs o command input text
outcome_answers signs o command input text given fits (made, done, of) =
    let parts = outcome_ok o command input made done in
    answer_is signs o command input text given fits parts.1 (made, parts.2, of)

-- the command comes to something for bytes that are valid
pub outcome_valid : (o : Outside) (command : Command) (input : List ℕ) → IsValid o command input
    → (made : Made) × (outcome o command input ≡ Ok made)
outcome_valid o command input valid =
    let made = answer_of o command input valid.can_answer in
    (made.0, outcome_done o command input made.0 valid.short valid.utf8 made.1)

-- ---- who signs

to_sign : {E : Type 0} (r : Result Made E) → is_signed r ≡ true → (u : Unsigned) × (r ≡ Ok (ToSign u))
to_sign (Ok (Whole text)) is = cc is
to_sign (Ok (ToSign u)) is = (u, refl)
to_sign (Err e) is = cc is

not_whole : {E : Type 0} (r : Result (List ℕ) E) (u : Unsigned) → map_ok Whole r ≡ Ok (ToSign u) → ⊥
not_whole (Ok text) u is = cc is
not_whole (Err e) u is = cc is

certifies_for : (o : Outside) (command : Command) (input : List ℕ) (u : Unsigned) → answer o command input ≡ Ok (ToSign u)
    → (options : CertOptions) × (command ≡ commands.Certify options)
certifies_for o (commands.Convert target) input u is = absurd (not_whole (conversion o target input) u is)
certifies_for o (commands.Certify options) input u is = (options, refl)
certifies_for o (commands.PrintSigned options) input u is = absurd (not_whole (issued_bytes o options input) u is)
certifies_for o commands.Fingerprint input u is = absurd (not_whole (fingerprints o input) u is)
certifies_for o (commands.Sample keys) input u is = cc is

pub certifies_where_signed : (o : Outside) (command : Command) (input : List ℕ) → outcome_signs o command input ≡ true
    → (options : CertOptions) × (command ≡ commands.Certify options)
certifies_where_signed o command input is =
    let signed = to_sign (outcome o command input) is in
    certifies_for o command input signed.0 (outcome_ok o command input (ToSign signed.0) signed.1).2

-- ---- what a run wrote

pub writes_answer : (signs : SignRelation) (o : Outside) (command : Command) (input text before after : List ℕ) → IsGiven o
    → IsCommand command → WritesMade signs (outcome o command input) text → after ≡ before ++ text
    → WritesAnswer signs o command input before after
writes_answer signs o command input text before after given fits done wrote =
    record { text = text; is_answer = outcome_answers signs o command input text given fits done; written = wrote }
