-- What a caller gives as text.
use Rattle.std.specs.Prelude.{List, [], ◌∷◌, ℕ, Result, Ok, Err, if◌then◌else◌}
use Rattle.std.specs.Str.{is_utf8}
use Rattle.picky_wire_base.specs.Outcome.{and_then, map_ok}
use Rattle.picky_keys.specs.LineRefusal.{is_short}
use Rattle.picky_certify.specs.declared.error.CertifyError.{CertifyError}
use Rattle.picky_certify.specs.declared.error.CertifyError.TheVariants as errors

-- bytes that are UTF-8, or why they are none
abbrev pub utf8 : CertifyError → List ℕ → Result (List ℕ) CertifyError
utf8 e bytes = if is_utf8 bytes then Ok bytes else Err e

-- a word that is UTF-8, of fewer than 2^32 bytes
abbrev pub word_judged : List ℕ → Result (List ℕ) CertifyError
word_judged word = if is_utf8 word then (if is_short word then Ok word else Err errors.TooLong) else Err errors.WordNotUtf8

-- all of the words, or why the first that is none isn't
unfoldable pub words_judged : List (List ℕ) → Result (List (List ℕ)) CertifyError
words_judged [] = Ok []
words_judged (word ∷ more) = and_then (word_judged word) (λ word. map_ok (λ more. word ∷ more) (words_judged more))
