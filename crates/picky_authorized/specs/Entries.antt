-- A text of authorized keys: an entry for each line that has one, with the line's number.
use Rattle.std.specs.Prelude.{◌≡◌, ◌+◌, ℕ, true, List, [], ◌∷◌, Option, Some, None, Result, Ok, Err, if◌then◌else◌}
use Rattle.std.specs.List.{AllByRecursion}
use Rattle.picky_text.specs.Lines.{lines}
use Rattle.picky_keys.specs.LineRefusal.{is_short}
use Rattle.picky_authorized.specs.declared.entry.AuthContent.{AuthContent}
use Rattle.picky_authorized.specs.declared.entry.AuthContent.TheVariants as contents
use Rattle.picky_authorized.specs.declared.entry.AuthEntry.{AuthEntry}
use Rattle.picky_authorized.specs.declared.keys.PolicyError.{PolicyError}
use Rattle.picky_authorized.specs.declared.keys.PolicyError.TheVariants as errors
use Rattle.picky_authorized.specs.KnownOptions.{are_fit}
use Rattle.picky_authorized.specs.Lines.{content_in, without_blanks}

-- the entry of line number n, where it has one
abbrev pub onto_entries : (n : ℕ) → Option AuthContent → List AuthEntry → List AuthEntry
onto_entries n None entries = entries
onto_entries n (Some content) entries = record { line = n; content = content } ∷ entries

-- the entries of the lines, whose spaces and tabs in front are dropped, counted on from n
abbrev pub entries_from : (n : ℕ) → List (List ℕ) → List AuthEntry
entries_from n [] = []
entries_from n (line ∷ more) = onto_entries n (content_in (without_blanks line)) (entries_from (n + 1) more)

-- lines count from 1
unfoldable pub entries_in : (text : List ℕ) → List AuthEntry
entries_in text = entries_from 1 (lines text)

-- the entries of a text whose length a length of the wire can say
abbrev pub keys_in : (text : List ℕ) → Result (List AuthEntry) PolicyError
keys_in text = if is_short text then Ok (entries_in text) else Err errors.TooLong

-- the options of a key fit
abbrev pub FitContent : AuthContent → Type 0
FitContent (contents.Key options key) = are_fit options ≡ true
FitContent contents.BadOptions = Unit {0}
FitContent (contents.Unread e) = Unit {0}

-- so do those of each
abbrev pub AreFit : List AuthEntry → Type 0
AreFit entries = AllByRecursion (λ entry. FitContent entry.content) entries
