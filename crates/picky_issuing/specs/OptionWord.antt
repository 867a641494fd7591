-- The options of a command line that asks for a certificate, by their words.
use Rattle.std.specs.Prelude.{List, ℕ, codes, Option, Some, None, if◌then◌else◌}
use Rattle.std.specs.Str.{bytes_eq}
use Rattle.picky_issuing.specs.declared.option_word.OptionWord.{OptionWord}
use Rattle.picky_issuing.specs.declared.option_word.OptionWord.TheVariants as options

unfoldable pub type_word : List ℕ
type_word = codes "--type"

unfoldable pub algorithm_word : List ℕ
algorithm_word = codes "--algorithm"

unfoldable pub kind_word : List ℕ
kind_word = codes "--kind"

unfoldable pub serial_word : List ℕ
serial_word = codes "--serial"

unfoldable pub after_word : List ℕ
after_word = codes "--after"

unfoldable pub before_word : List ℕ
before_word = codes "--before"

unfoldable pub id_word : List ℕ
id_word = codes "--id"

unfoldable pub principal_word : List ℕ
principal_word = codes "--principal"

unfoldable pub critical_word : List ℕ
critical_word = codes "--critical"

unfoldable pub extension_word : List ℕ
extension_word = codes "--extension"

-- the option with this word
abbrev pub option_of_word : List ℕ → Option OptionWord
option_of_word word =
    if bytes_eq word type_word then Some options.CertKeyType
    else if bytes_eq word algorithm_word then Some options.SignatureAlgo
    else if bytes_eq word kind_word then Some options.CertType
    else if bytes_eq word serial_word then Some options.Serial
    else if bytes_eq word after_word then Some options.ValidAfter
    else if bytes_eq word before_word then Some options.ValidBefore
    else if bytes_eq word id_word then Some options.KeyId
    else if bytes_eq word principal_word then Some options.Principal
    else if bytes_eq word critical_word then Some options.CriticalOption
    else if bytes_eq word extension_word then Some options.Extension
    else None
