-- What a command line names, and what is written for the bytes of a source that are text.
use Rattle.std.specs.Prelude.{◌≡◌, ◌&&◌, List, [], ◌∷◌, ℕ, Bool, true, false, codes, nat_le, Option, Some, None}
use Rattle.std.specs.Prelude.{Result, Ok, if◌then◌else◌}
use Rattle.std.specs.Option.{option_map}
use Rattle.std.specs.Str.{bytes_eq}
use Rattle.picky_wire_base.specs.Outcome.{and_then, map_err, map_ok}
use Rattle.picky_kv.specs.declared.PpkVersionKey.TheVariants.{V2, V3}
use Rattle.picky_ppk_parts.specs.Config.{default_config}
use Rattle.picky_ppk.specs.declared.layout.PpkLayout.TheVariants as layouts
use Rattle.picky_issuing.specs.declared.options.CertOptions.{CertOptions}
use Rattle.picky_issuing.specs.Options.{options_named}
use Rattle.picky_issuing.specs.Steps.{some_then}
use Rattle.picky_issuing.specs.Value.{number_named}
use Rattle.picky_key_text.specs.declared.meaning.Meaning.{Meaning}
use Rattle.picky_key_text.specs.Key.{public_part}
use Rattle.picky_key_text.specs.Order.{asks, reading}
use Rattle.picky_key_text.specs.Reads.{Reads}
use Rattle.picky_target.specs.declared.error.ConvertError.{ConvertError}
use Rattle.picky_target.specs.declared.error.ConvertError.TheVariants as errors
use Rattle.picky_target.specs.declared.target.KeyTarget.TheVariants as targets
use Rattle.picky_target.specs.Drafts.{default_rounds}
use Rattle.picky_conversion.specs.Certified.{SignRelation}
use Rattle.picky_convert.specs.declared.command.Command.{Command}
use Rattle.picky_convert.specs.declared.command.Command.TheVariants as commands
use Rattle.picky_conversion.specs.Outside.{Outside, reader}
use Rattle.picky_conversion.specs.Certify.{IsInputFault}
use Rattle.picky_convert.specs.Fingerprint.{fingerprint_text}
use Rattle.picky_conversion.specs.Issue.{CanIssue, CanIssueBytes, IsIssued, IsIssuedBytes, IsIssuingFault, issued}
use Rattle.picky_conversion.specs.Issue.{issued_bytes, issuing_asks}
use Rattle.picky_conversion.specs.Made.{Made, ToSign, Whole}
use Rattle.picky_conversion.specs.To.{CanConvert, IsConverted, IsFaultTo, IsWay, Written, asks_to, converted}
use Rattle.picky_convert.specs.Sample.{sample_text}

unfoldable pub openssh : List ℕ
openssh = codes "openssh"

unfoldable pub ppk2 : List ℕ
ppk2 = codes "ppk2"

unfoldable pub ppk3 : List ℕ
ppk3 = codes "ppk3"

unfoldable pub ssh_pub : List ℕ
ssh_pub = codes "ssh-pub"

unfoldable pub putty_pub : List ℕ
putty_pub = codes "putty-pub"

unfoldable pub fingerprint : List ℕ
fingerprint = codes "fingerprint"

unfoldable pub cert : List ℕ
cert = codes "cert"

unfoldable pub tbs : List ℕ
tbs = codes "tbs"

unfoldable pub sample : List ℕ
sample = codes "sample"

-- the command of a word alone; OpenSSH's key is sealed with 16 rounds, and PuTTY's files with the default configuration
abbrev pub command_of_word : List ℕ → Option Command
command_of_word word =
    if bytes_eq word openssh then Some (commands.Convert (targets.OpenSsh default_rounds))
    else if bytes_eq word ppk2 then Some (commands.Convert (targets.Ppk V2 default_config layouts.Number))
    else if bytes_eq word ppk3 then Some (commands.Convert (targets.Ppk V3 default_config layouts.Number))
    else if bytes_eq word ssh_pub then Some (commands.Convert targets.OpenSshPublic)
    else if bytes_eq word putty_pub then Some (commands.Convert targets.PuttyPublic)
    else if bytes_eq word fingerprint then Some commands.Fingerprint
    else None

-- nothing follows the word
abbrev pub alone : List ℕ → List (List ℕ) → Option Command
alone word [] = command_of_word word
alone word (next ∷ more) = None

abbrev pub command_with_options : (CertOptions → Command) → Option CertOptions → Option Command
command_with_options command (Some options) = Some (command options)
command_with_options command None = None

-- how many keys a sample has: from 1 to 1,000
abbrev pub sample_size : List ℕ → Option ℕ
sample_size word = some_then (number_named word) (λ keys. if nat_le 1 keys && nat_le keys 1000 then Some keys else None)

-- a number follows the word, and nothing else
abbrev pub with_size : List (List ℕ) → Option Command
with_size [] = None
with_size (word ∷ []) = option_map (λ keys. commands.Sample keys) (sample_size word)
with_size (word ∷ next ∷ more) = None

-- the command of a command line: two take options, and one a number
abbrev pub command_of : List (List ℕ) → Option Command
command_of [] = None
command_of (word ∷ more) =
    if bytes_eq word cert then command_with_options (λ options. commands.Certify options) (options_named more)
    else if bytes_eq word tbs then command_with_options (λ options. commands.PrintSigned options) (options_named more)
    else if bytes_eq word sample then with_size more
    else alone word more

-- the numbers of its target have the ranges of their types
abbrev pub IsCommand : Command → Type 0
IsCommand (commands.Convert target) = IsWay (Written target)
IsCommand (commands.Certify options) = Unit {0}
IsCommand (commands.PrintSigned options) = Unit {0}
IsCommand commands.Fingerprint = Unit {0}
IsCommand (commands.Sample keys) = Unit {0}

-- it reads the source; sample keys are drawn from nothing but their numbers
abbrev pub reads_source : Command → Bool
reads_source (commands.Convert target) = true
reads_source (commands.Certify options) = true
reads_source (commands.PrintSigned options) = true
reads_source commands.Fingerprint = true
reads_source (commands.Sample keys) = false

-- the words name the command
abbrev pub Names : List (List ℕ) → Command → Type 0
Names words command = command_of words ≡ Some command

-- the fingerprints of the key that a text means, or the first reason why there are none
abbrev pub fingerprints : Outside → List ℕ → Result (List ℕ) ConvertError
fingerprints o text =
    and_then (map_err errors.Input (reading (reader o) text)) (λ meaning. Ok (fingerprint_text (public_part meaning.key)))

-- what the command comes to for a source's text before a device signs, or the first reason why it comes to nothing
abbrev pub answer : Outside → Command → List ℕ → Result Made ConvertError
answer o (commands.Convert target) text = converted o (Written target) text
answer o (commands.Certify options) text = map_ok ToSign (issued o options text)
answer o (commands.PrintSigned options) text = map_ok Whole (issued_bytes o options text)
answer o commands.Fingerprint text = map_ok Whole (fingerprints o text)
answer o (commands.Sample keys) text = Ok (Whole (sample_text o.meanings keys))

-- the suite is asked for it
abbrev pub answering_asks : Outside → Command → List ℕ → Bool
answering_asks o (commands.Convert target) text = asks_to o (Written target) text
answering_asks o (commands.Certify options) text = issuing_asks o text
answering_asks o (commands.PrintSigned options) text = issuing_asks o text
answering_asks o commands.Fingerprint text = asks o.pass_in text
answering_asks o (commands.Sample keys) text = false

-- the refusal is the suite's fault
abbrev pub IsFaultFor : Outside → Command → List ℕ → ConvertError → Type 0 → Type 0
IsFaultFor o (commands.Convert target) text e rose = IsFaultTo o (Written target) text e rose
IsFaultFor o (commands.Certify options) text e rose = IsIssuingFault o text e rose
IsFaultFor o (commands.PrintSigned options) text e rose = IsIssuingFault o text e rose
IsFaultFor o commands.Fingerprint text e rose = IsInputFault o text e rose
IsFaultFor o (commands.Sample keys) text e rose = ⊥

-- the text is the fingerprints of the one key that the key text means
pub record IsFingerprint (o : Outside) (input text : List ℕ) : Type 0 where
  pub meaning : Meaning
  pub reads : Reads (reader o) input meaning
  pub one : (other : Meaning) → Reads (reader o) input other → other ≡ meaning
  pub is : text ≡ fingerprint_text (public_part meaning.key)

-- the text is what the command writes for a source's text
abbrev pub IsAnswer : SignRelation → Outside → Command → List ℕ → List ℕ → Type 0
IsAnswer signs o (commands.Convert target) input text = IsConverted signs o (Written target) input text
IsAnswer signs o (commands.Certify options) input text = IsIssued signs o options input text
IsAnswer signs o (commands.PrintSigned options) input text = IsIssuedBytes o options input text
IsAnswer signs o commands.Fingerprint input text = IsFingerprint o input text
IsAnswer signs o (commands.Sample keys) input text = text ≡ sample_text o.meanings keys

-- the source's text is one for which the command comes to something: the target carries its meaning, each key has fingerprints,
-- a request comes to a certificate, and a sample rests on no source
abbrev pub CanAnswer : Outside → Command → List ℕ → Type 0
CanAnswer o (commands.Convert target) input =
    (meaning : Meaning) × Reads (reader o) input meaning × CanConvert o (Written target) meaning
CanAnswer o (commands.Certify options) input = CanIssue o options input
CanAnswer o (commands.PrintSigned options) input = CanIssueBytes o options input
CanAnswer o commands.Fingerprint input = (meaning : Meaning) × Reads (reader o) input meaning
CanAnswer o (commands.Sample keys) input = Unit {0}
