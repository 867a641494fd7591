-- The text of a ledger: the next serial, and a line for each entry.
use Rattle.std.specs.Prelude.{◌≡◌, ◌<◌, ◌^◌, ◌-◌, ◌==◌, ◌+◌, ◌++◌, ◌∷◌, ◌&&◌, ℕ, Bool, List, []}
use Rattle.std.specs.Prelude.{codes, flat_map, length, nat_lt, not}
use Rattle.std.specs.Prelude.{Option, Some, None, Result, Ok, Err, if◌then◌else◌, bytes_eq, drop, take}
use Rattle.std.specs.Fmt.{decimal}
use Rattle.std.specs.List.{list_any}
use Rattle.std.specs.Option.{ok_or, option_map}
use Rattle.picky_wire_base.specs.Outcome.{and_then, map_err}
use Rattle.picky_wire_base.specs.declared.error.SizeError.{SizeError}
use Rattle.picky_wire_base.specs.declared.error.SizeError.TheVariants as sizes
use Rattle.picky_keys.specs.LineRefusal.{is_short}
use Rattle.picky_issuing.specs.Parts.{lines_with_ends}
use Rattle.picky_issuing.specs.Steps.{some_then}
use Rattle.picky_issuing.specs.Value.{number_named}
use Rattle.picky_ledger.specs.declared.entry.Entry.{Entry}
use Rattle.picky_ledger.specs.declared.ledger.LedgerTextError.{LedgerTextError}
use Rattle.picky_ledger.specs.declared.ledger.LedgerTextError.TheVariants as errors
use Rattle.picky_ledger.specs.Entry.{entry_in, entry_line}
use Rattle.picky_ledger.specs.State.{IsLedger, State}

-- ---- writing

-- line = "next" SP number LF
unfoldable pub next_word : List ℕ
next_word = codes "next "

abbrev pub next_line : (next : ℕ) → List ℕ
next_line next = next_word ++ (decimal next ++ 10 ∷ [])

unfoldable pub ledger_text : State → List ℕ
ledger_text l = next_line l.next ++ flat_map entry_line l.entries

-- the same, where a length of the wire can say its length
abbrev pub ledger_written : State → Result (List ℕ) SizeError
ledger_written l = if is_short (ledger_text l) then Ok (ledger_text l) else Err sizes.TooLong

-- ---- reading

-- what stands before the LF that ends a line, where it has one
abbrev pub before_lf : (line : List ℕ) → Option (List ℕ)
before_lf [] = None
before_lf (b ∷ []) = if b == 10 then Some [] else None
before_lf (b ∷ c ∷ bs) = option_map (λ front. b ∷ front) (before_lf (c ∷ bs))

-- the number behind the word, which isn't 0
abbrev pub if_some : ℕ → Option ℕ
if_some n = if nat_lt 0 n then Some n else None

abbrev pub after_next_word : (text : List ℕ) → Option (List ℕ)
after_next_word text = if bytes_eq (take 5 text) next_word then Some (drop 5 text) else None

-- what stands before the LF of the first line says
abbrev pub next_said : (front : List ℕ) → Option ℕ
next_said front = some_then (after_next_word front) (λ number. some_then (number_named number) if_some)

unfoldable pub next_in : (line : List ℕ) → Option ℕ
next_in line = some_then (before_lf line) next_said

abbrev pub last_serial : (last : ℕ) → List Entry → ℕ
last_serial last [] = last
last_serial last (e ∷ more) = last_serial e.serial more

-- the entry may come after those before it
abbrev pub may_follow : (next : ℕ) → (before : List Entry) → Entry → Bool
may_follow next before e =
    nat_lt (last_serial 0 before) e.serial && nat_lt e.serial next && not (list_any (λ other. bytes_eq other.id e.id) before)

abbrev pub if_follows : (next : ℕ) → (before : List Entry) → Entry → Option Entry
if_follows next before e = if may_follow next before e then Some e else None

-- what stands before the LF of a line says
abbrev pub entry_said : (next : ℕ) → (before : List Entry) → (front : List ℕ) → Option Entry
entry_said next before front = some_then (entry_in front) (if_follows next before)

unfoldable pub entry_after : (next : ℕ) → (before : List Entry) → (line : List ℕ) → Option Entry
entry_after next before line = some_then (before_lf line) (entry_said next before)

-- the entries of the lines after those before them, or the number of the first line that is none's
abbrev pub entries_from : (next number : ℕ) → (before : List Entry) → List (List ℕ) → Result (List Entry) ℕ
entries_from next number before [] = Ok before
entries_from next number before (line ∷ more) =
    and_then (ok_or (entry_after next before line) number) (λ e. entries_from next (number + 1) (before ++ e ∷ []) more)

abbrev pub of_lines : List (List ℕ) → Result State ℕ
of_lines [] = Err 1
of_lines (line ∷ more) =
    and_then (ok_or (next_in line) 1) (λ next.
    and_then (entries_from next 2 [] more) (λ entries. Ok (record { next = next; entries = entries })))

-- the ledger of a text, or the number of its first line, from 1, at which it is none's
unfoldable pub ledger_in : (text : List ℕ) → Result State ℕ
ledger_in text = of_lines (lines_with_ends text)

-- the same, where a length of the wire can say the text's length
abbrev pub read : (text : List ℕ) → Result State LedgerTextError
read text = if is_short text then map_err errors.BadLine (ledger_in text) else Err errors.TooLong

-- ---- the first bad line

-- the text is a ledger's, and a length of the wire can say its length
pub record IsLedgerText (text : List ℕ) : Type 0 where
  pub ledger : State
  pub is : IsLedger ledger
  pub short : length (ledger_text ledger) < 2 ^ 32
  pub whole : text ≡ ledger_text ledger

-- some ledger's text has the same first lines, so many of them, or all where there are fewer; each with the LF that ends it
pub record BeginsAsLedger (count : ℕ) (text : List ℕ) : Type 0 where
  pub whole : List ℕ
  pub is_text : IsLedgerText whole
  pub same : take count (lines_with_ends whole) ≡ take count (lines_with_ends text)

-- some ledger's text has the lines before this one, and none has this one behind them; lines count from 1
pub record IsFirstBadLine (number : ℕ) (text : List ℕ) : Type 0 where
  pub some : 0 < number
  pub before : BeginsAsLedger (number - 1) text
  pub none : BeginsAsLedger number text → ⊥
