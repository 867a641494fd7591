-- Lemmas on the command of some words, and on what it writes.
use Rattle.std.proofs.Common.{◌≡◌, ◌⊎◌, ◌<◌, ◌^◌, inl, inr, subst, Bool, true, false, Option, None, Some, if◌then◌else◌, ℕ, List, [], ◌∷◌}
use Rattle.std.proofs.Common.{Ok, refl, sym, ap, arith}
use Rattle.std.specs.{Option.{option_map}, Str.{bytes_eq, IsUtf8}}
use Rattle.picky_wire_base.specs.{carried.Outcome.{and_then_ok, map_err_ok}, Outcome.{map_err, map_ok}}
use Rattle.picky_ppk_parts.specs.Config.{default_config}
use Rattle.picky_target.specs.{Drafts.{default_rounds}, ReadBack.{IsConfig}}
use Rattle.picky_conversion.specs.{Certified.{SignRelation}, Certify.{hex_line}, Chain.{IsGiven}}
use Rattle.picky_conversion.specs.{Issue.{issued, issued_bytes}, Made.{IsMadeText, Made, ToSign, Whole, WritesMade}}
use Rattle.picky_conversion.specs.{Outside.{Outside, reader}, To.{Written}}
use Rattle.picky_issuing.specs.{declared.options.CertOptions.{CertOptions}, Options.{options_named}}
use Rattle.picky_key_text.specs.{Key.{public_part}, Order.{reading}}
use Rattle.picky_key_text.proofs.ReadingLaws.{reading_of as read}
use Rattle.picky_target.specs.declared.error.ConvertError.TheVariants as errors
use Rattle.picky_conversion.proofs.ConvertLemmas.{means_one, says_in}
use Rattle.picky_conversion.proofs.IssuedLemmas.{issued_bytes_is, issued_from, issued_is, signed_of_it, unsigned_from, whole_of}
use Rattle.picky_conversion.proofs.ToLemmas.{can_convert, converted_is}
use Rattle.picky_convert.specs.declared.command.Command.{Command}
use Rattle.picky_convert.specs.Command.{CanAnswer, IsAnswer, IsCommand, Names, alone, answer, command_of_word, fingerprints}
use Rattle.picky_convert.specs.Command.{sample_size, command_with_options, with_size, cert, fingerprint, openssh, ppk2, ppk3, putty_pub}
use Rattle.picky_convert.specs.Command.{sample, ssh_pub, tbs}
use Rattle.picky_convert.specs.{Fingerprint.{fingerprint_text}, Sample.{sample_text}}
use Rattle.picky_convert.specs.declared.command.Command.TheVariants as commands

-- what a command writes is its answer to the source's text
pub answer_is : (signs : SignRelation) (o : Outside) (command : Command) (input text : List ℕ) → IsGiven o → IsCommand command
    → IsUtf8 input → WritesMade signs (answer o command input) text → IsAnswer signs o command input text
answer_is signs o (commands.Convert target) input text given fits utf8 done =
    converted_is signs o (Written target) input text given fits utf8 done
answer_is signs o (commands.Certify options) input text given fits utf8 done =
    let line = signed_of_it signs (issued o options input) text done in
    issued_is signs o options input text line.0 given utf8 line.1 line.2
answer_is signs o (commands.PrintSigned options) input text given fits utf8 done =
    issued_bytes_is o options input text given utf8 (whole_of signs (issued_bytes o options input) text done)
answer_is signs o commands.Fingerprint input text given fits utf8 done =
    let plain = whole_of signs (fingerprints o input) text done in
    let steps = and_then_ok (map_err errors.Input (reading (reader o) input)) (λ m. Ok (fingerprint_text (public_part m.key))) text plain in
    let means = map_err_ok errors.Input (reading (reader o) input) steps.0 steps.1 in
    let is : fingerprint_text (public_part steps.0.key) ≡ text = cc steps.2 in
    record {
      meaning = steps.0;
      reads = says_in o input steps.0 given utf8 means;
      one = λ other reads. means_one (reader o) input steps.0 other means reads;
      is = sym is;
    }
answer_is signs o (commands.Sample keys) input text given fits utf8 (made, is, of) =
    let same : Whole (sample_text o.meanings keys) ≡ made = cc is in subst (λ m. IsMadeText signs m text) (sym same) of

pub answer_of : (o : Outside) (command : Command) (input : List ℕ) → CanAnswer o command input
    → (made : Made) × (answer o command input ≡ Ok made)
answer_of o (commands.Convert target) input (meaning, reads, can) = can_convert o (Written target) input meaning reads can
answer_of o (commands.Certify options) input can =
    let found = issued_from o options input can in
    (ToSign found.0, ap (map_ok ToSign) found.1)
answer_of o (commands.PrintSigned options) input can =
    let found = unsigned_from o options input can in
    (Whole (hex_line found.0), ap (λ says. map_ok Whole (map_ok hex_line says)) found.1)
answer_of o commands.Fingerprint input (meaning, reads) =
    let means = read (reader o) input meaning reads in
    (Whole (fingerprint_text (public_part meaning.key)), rw means refl)
answer_of o (commands.Sample keys) input can = (Whole (sample_text o.meanings keys), refl)

-- ---- the commands that words name

-- a test chooses the one or goes on
chosen : (b : Bool) (one command : Command) (more : Option Command) → (if b then Some one else more) ≡ Some command
    → (one ≡ command) ⊎ (more ≡ Some command)
chosen true one command more is = inl (cc is)
chosen false one command more is = inr is

rounds_fit : default_rounds < 2 ^ 32
rounds_fit = omega arith

default_fits : IsConfig default_config
default_fits = record {
  memory = omega arith;
  passes = omega arith;
  parallelism = omega arith;
  salt_size = omega arith;
}

-- one of the word's commands, in turn
chosen_fits : (b : Bool) (one command : Command) (more : Option Command) → IsCommand one
    → (more ≡ Some command → IsCommand command) → (if b then Some one else more) ≡ Some command → IsCommand command
chosen_fits b one command more fits later is = elim (chosen b one command more is) [
  | inl same ↦ subst IsCommand same fits
  | inr goes ↦ later goes
]

word_fits : (word : List ℕ) (command : Command) → command_of_word word ≡ Some command → IsCommand command
word_fits word command is =
    chosen_fits (bytes_eq word openssh) _ command _ rounds_fit
    (chosen_fits (bytes_eq word ppk2) _ command _ default_fits
    (chosen_fits (bytes_eq word ppk3) _ command _ default_fits
    (chosen_fits (bytes_eq word ssh_pub) _ command _ tt
    (chosen_fits (bytes_eq word putty_pub) _ command _ tt
    (chosen_fits (bytes_eq word fingerprint) _ command None tt (λ none. cc none)))))) is

with_fits : (make : CertOptions → Command) (options : Option CertOptions) (command : Command)
    → ((o : CertOptions) → IsCommand (make o)) → command_with_options make options ≡ Some command → IsCommand command
with_fits make (Some options) command each is = let same : make options ≡ command = cc is in subst IsCommand same (each options)
with_fits make None command each is = cc is

size_fits : (words : List (List ℕ)) (command : Command) → with_size words ≡ Some command → IsCommand command
size_fits [] command is = cc is
size_fits (word ∷ []) command is = sized (sample_size word) is
  where
    sized : (size : Option ℕ) → option_map (λ keys. commands.Sample keys) size ≡ Some command → IsCommand command
    sized (Some keys) same = let one : commands.Sample keys ≡ command = cc same in subst IsCommand one tt
    sized None same = cc same
size_fits (word ∷ next ∷ more) command is = cc is

alone_fits : (word : List ℕ) (more : List (List ℕ)) (command : Command) → alone word more ≡ Some command → IsCommand command
alone_fits word [] command is = word_fits word command is
alone_fits word (next ∷ more) command is = cc is

either_fits : (b : Bool) (one other : Option Command) (command : Command) → (one ≡ Some command → IsCommand command)
    → (other ≡ Some command → IsCommand command) → (if b then one else other) ≡ Some command → IsCommand command
either_fits true one other command first second is = first is
either_fits false one other command first second is = second is

-- The numbers of a named command are a value's.
pub named_fits : (words : List (List ℕ)) (command : Command) → Names words command → IsCommand command
named_fits [] command is = cc is
named_fits (word ∷ more) command is =
    either_fits (bytes_eq word cert) _ _ command
    (with_fits (λ o. commands.Certify o) (options_named more) command (λ o. tt))
    (either_fits (bytes_eq word tbs) _ _ command
    (with_fits (λ o. commands.PrintSigned o) (options_named more) command (λ o. tt))
    (either_fits (bytes_eq word sample) _ _ command (size_fits more command) (alone_fits word more command))) is
