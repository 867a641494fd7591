-- A conversion's text is the one that spells what its key text means, and it is read back.
use Rattle.std.proofs.Common.{◌≡◌, ℕ, List, Option, None, Some, Ok, refl, subst}
use Rattle.std.specs.Option.{IfSome}
use Rattle.std.specs.Str.{IsUtf8}
use Rattle.picky_wire_base.specs.carried.Outcome.{and_then_ok, map_err_ok}
use Rattle.picky_wire_base.specs.Outcome.{map_err}
use Rattle.picky_wire_base.specs.Numbers.{IsBytes}
use Rattle.picky_suite.specs.Meanings.{Meanings}
use Rattle.picky_key_text.specs.declared.meaning.Meaning.{Meaning}
use Rattle.picky_key_text.specs.Order.{reading}
use Rattle.picky_key_text.specs.Reader.{Reader}
use Rattle.picky_key_text.specs.Reads.{Reads}
use Rattle.picky_target.specs.declared.error.ConvertError.TheVariants as errors
use Rattle.picky_target.specs.declared.target.KeyTarget.{KeyTarget}
use Rattle.picky_target.specs.Carried.{Carries}
use Rattle.picky_target.specs.Judged.{judged_meaning}
use Rattle.picky_target.specs.Output.{Output}
use Rattle.picky_target.specs.Texts.{text_for}
use Rattle.picky_target.specs.Written.{written}
use Rattle.picky_target.specs.ReadBack.{IsTarget}
use Rattle.picky_conversion.specs.Chain.{IsGiven}
use Rattle.picky_conversion.specs.Convert.{IsConversion, conversion}
use Rattle.picky_conversion.specs.Outside.{Outside, reader}
use Rattle.picky_key_text.proofs.ReadingLaws.{reading_says as says, reading_of as read}
use Rattle.picky_key_text.proofs.KeptLaws.{meaning_is_kept as kept_in}
use Rattle.picky_target.proofs.JudgedLaws.{judged_carries as carries, carried_is_judged as takes}
use Rattle.picky_target.proofs.TextLaws.{text_spells as spells, text_only as one}
use Rattle.picky_target.proofs.ReadBackLaws.{spelled_is_read_back as read_back}
use Rattle.picky_keys.proofs.ByteLaws.{utf8_is_bytes}

pass_is_bytes : (pass : Option (List ℕ)) → IfSome pass IsUtf8 → IfSome pass IsBytes
pass_is_bytes None given = tt
pass_is_bytes (Some pass) given = utf8_is_bytes pass given

-- ---- a key text means one thing

pub means_one : (r : Reader) (input : List ℕ) (meaning other : Meaning) → reading r input ≡ Ok meaning → Reads r input other
    → other ≡ meaning
means_one r input meaning other means reads = let again = read r input other reads in cc

pub says_in : (o : Outside) (input : List ℕ) (meaning : Meaning) → IsGiven o → IsUtf8 input
    → reading (reader o) input ≡ Ok meaning → Reads (reader o) input meaning
says_in o input meaning given utf8 means =
    says (reader o) input meaning utf8 (pass_is_bytes o.pass_in given.pass_in) means

-- ---- what is written of a meaning

written_parts : (m : Meanings) (out : Output) (to : KeyTarget) (meaning : Meaning) (text : List ℕ)
    → written m out to meaning ≡ Ok text → (judged_meaning out to meaning ≡ Ok tt) × (text_for m out to meaning ≡ text)
unfolding written
written_parts m out to meaning text done =
    let steps = and_then_ok (judged_meaning out to meaning) (λ _. Ok (text_for m out to meaning)) text done in
    (steps.1, cc steps.2)

written_from : (m : Meanings) (out : Output) (to : KeyTarget) (meaning : Meaning) → judged_meaning out to meaning ≡ Ok tt
    → written m out to meaning ≡ Ok (text_for m out to meaning)
unfolding written
written_from m out to meaning passed = rw passed refl

-- ---- a conversion

pub record Parts (o : Outside) (to : KeyTarget) (input text : List ℕ) : Type 0 where
  pub meaning : Meaning
  pub means : reading (reader o) input ≡ Ok meaning
  pub passed : judged_meaning o.output to meaning ≡ Ok tt
  pub is : text_for o.meanings o.output to meaning ≡ text

pub conversion_parts : (o : Outside) (to : KeyTarget) (input text : List ℕ) → conversion o to input ≡ Ok text
    → Parts o to input text
unfolding conversion
conversion_parts o to input text done =
    let steps = and_then_ok (map_err errors.Input (reading (reader o) input)) (written o.meanings o.output to) text done in
    let parts = written_parts o.meanings o.output to steps.0 text steps.2 in
    record {
      meaning = steps.0;
      means = map_err_ok errors.Input (reading (reader o) input) steps.0 steps.1;
      passed = parts.0;
      is = parts.1;
    }

pub conversion_from : (o : Outside) (to : KeyTarget) (input : List ℕ) (meaning : Meaning) → reading (reader o) input ≡ Ok meaning
    → judged_meaning o.output to meaning ≡ Ok tt → conversion o to input ≡ Ok (text_for o.meanings o.output to meaning)
unfolding conversion
conversion_from o to input meaning means passed = rw means (written_from o.meanings o.output to meaning passed)

pub conversion_is : (o : Outside) (to : KeyTarget) (input text : List ℕ) → IsGiven o → IsTarget to → IsUtf8 input
    → conversion o to input ≡ Ok text → IsConversion o to input text
conversion_is o to input text given fits utf8 done =
    let parts = conversion_parts o to input text done in
    let meaning = parts.meaning in
    let carried = carries o.output to meaning parts.passed in
    let spelled = spells o.meanings o.output to meaning in
    subst (IsConversion o to input) parts.is (record {
      meaning = meaning;
      reads = says_in o input meaning given utf8 parts.means;
      one = λ other reads. means_one (reader o) input meaning other parts.means reads;
      carries = carried;
      spells = spelled;
      only = λ other spelled. one o.meanings o.output to meaning other spelled;
      read_back = read_back o.meanings o.output to meaning (text_for o.meanings o.output to meaning) fits
          (kept_in (reader o) input meaning utf8 given.pass_in parts.means) given.fresh given.pass carried spelled;
    })

-- a key text whose meaning is carried is converted
pub conversion_of : (o : Outside) (to : KeyTarget) (input : List ℕ) (meaning : Meaning) → Reads (reader o) input meaning
    → Carries o.output to meaning → conversion o to input ≡ Ok (text_for o.meanings o.output to meaning)
conversion_of o to input meaning reads carried =
    conversion_from o to input meaning (read (reader o) input meaning reads) (takes o.output to meaning carried)

pub conversion_valid : (o : Outside) (to : KeyTarget) (input : List ℕ) (meaning : Meaning) → Reads (reader o) input meaning
    → Carries o.output to meaning → (text : List ℕ) × (conversion o to input ≡ Ok text)
conversion_valid o to input meaning reads carried =
    (text_for o.meanings o.output to meaning, conversion_of o to input meaning reads carried)
