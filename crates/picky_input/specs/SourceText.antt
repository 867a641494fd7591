-- The text of a source that is read to its end.
use Rattle.std.specs.Prelude.{◌≡◌, ◌<◌, ◌+◌, ◌≤◌, List, [], ℕ, length, drop, nat_lt, Option, IsSome, Result, Ok, Err, IfOk}
use Rattle.std.specs.Prelude.{if◌then◌else◌}
use Rattle.std.specs.Str.{IsUtf8, is_utf8}
use Rattle.picky_wire.specs.Count.{Rose}
use Rattle.picky_wire.specs.Takes.{Calm}
use Rattle.picky_input.specs.Input.{input_limit, TakesInput}
use Rattle.picky_input.specs.declared.source_text.SourceError.{SourceError}
use Rattle.picky_input.specs.declared.source_text.SourceError.TheVariants as errors

-- the text of these bytes, or why they are none
unfoldable pub source_text_of : List ℕ → Result (List ℕ) SourceError
source_text_of bytes =
    if nat_lt input_limit (length bytes) then Err errors.InputTooLong
    else if is_utf8 bytes then Ok bytes
    else Err errors.InputNotUtf8

-- the bytes are few enough, and a text
pub record IsSourceText (bytes : List ℕ) : Type 0 where
  pub short : length bytes ≤ input_limit
  pub utf8 : IsUtf8 bytes

-- the answer is what the bytes come to, unless the source failed or memory ran out
abbrev pub ReadsSourceText : Result (List ℕ) SourceError → (before : List ℕ) → Type 0
ReadsSourceText (Ok text) before = source_text_of before ≡ Ok text
ReadsSourceText (Err errors.InputTooLong) before = source_text_of before ≡ Err errors.InputTooLong
ReadsSourceText (Err errors.InputNotUtf8) before = source_text_of before ≡ Err errors.InputNotUtf8
ReadsSourceText (Err errors.ReadFault) before = Unit {0}
ReadsSourceText (Err errors.NoMemory) before = Unit {0}

-- nothing is left, but where there was too much, what follows the one byte past the limit; a source fails before that byte
abbrev pub Leaves : Result (List ℕ) SourceError → (before after : List ℕ) → Type 0
Leaves (Ok text) before after = after ≡ []
Leaves (Err errors.InputTooLong) before after = after ≡ drop (input_limit + 1) before
Leaves (Err errors.InputNotUtf8) before after = after ≡ []
Leaves (Err errors.ReadFault) before after = length before < input_limit + 1 + length after
Leaves (Err errors.NoMemory) before after = Unit {0}

-- what a call promises that reads a source to its end as a text
pub record TakesText {S : Type 0} (tells : S → Type 0) (left : S → List ℕ) (known : S → Option ℕ) (faults : S → ℕ)
    (result : Result (List ℕ) SourceError) (old new : S) : Type 0 where
  pub reads : tells old → ReadsSourceText result (left old)
  pub leaves : tells old → Leaves result (left old) (left new)
  pub taken : tells old → TakesInput (left old) (left new)
  -- whether or not the source tells its bytes, the text is that of some
  pub some : IfOk result (λ text. source_text_of text ≡ Ok text)
  pub short : IfOk result (λ text. length text ≤ input_limit)
  pub told : tells old → tells new
  pub knows : IsSome (known old) → IsSome (known new)
  pub fault : result ≡ Err errors.ReadFault → Rose (faults old) (faults new)
  pub calm : Calm errors.ReadFault result (faults old) (faults new)
