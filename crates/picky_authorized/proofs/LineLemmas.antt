-- A line without the spaces and tabs in front, and what it says.
use Rattle.std.proofs.Common.{◌≡◌, ◌≢◌, ℕ, ◌+◌, ◌≤◌, ◌==◌, true, List, [], ◌∷◌, ◌++◌, length, Option, Some, None, Result, Ok, Err}
use Rattle.std.proofs.Common.{Bor, IfNone, MatchOption, refl, sym, ◌∙◌, ap, arith, inl, inr, subst}
use Rattle.std.proofs.lemmas.Bool.{cases_Bool, ne_eqb}
use Rattle.std.proofs.lemmas.List.{append_assoc, append-nil}
use Rattle.picky_text.specs.Lines.{lines}
use Rattle.picky_keys.specs.LineRefusal.{line_meaning}
use Rattle.picky_keys.specs.declared.error.SshPublicKeyError.{SshPublicKeyError}
use Rattle.picky_keys.specs.declared.key.SshPublicKey.{SshPublicKey}
use Rattle.picky_authorized.specs.declared.auth_option.AuthOption.{AuthOption}
use Rattle.picky_authorized.specs.declared.entry.AuthContent.{AuthContent}
use Rattle.picky_authorized.specs.declared.entry.AuthEntry.{AuthEntry}
use Rattle.picky_authorized.specs.declared.quotes.PartEnd.TheVariants.{Blank}
use Rattle.picky_authorized.specs.Entries.{AreFit, FitContent, entries_from, entries_in, onto_entries}
use Rattle.picky_authorized.specs.KnownOptions.{are_fit}
use Rattle.picky_authorized.specs.Lines.{begins_with_key, content_in, content_of, key_content, optioned, without_blanks}
use Rattle.picky_authorized.specs.Options.{options_in}
use Rattle.picky_authorized.specs.Quotes.{ends_at, front_outside, is_blank, rest_outside}

-- ---- spaces and tabs in front

pub space_is_dropped : (text rest : List ℕ) → text ≡ 32 ∷ rest → without_blanks text ≡ without_blanks rest
space_is_dropped text rest is = ap without_blanks is

pub tab_is_dropped : (text rest : List ℕ) → text ≡ 9 ∷ rest → without_blanks text ≡ without_blanks rest
tab_is_dropped text rest is = ap without_blanks is

pub nothing_is_dropped : (text : List ℕ) → ((rest : List ℕ) → text ≢ 32 ∷ rest) → ((rest : List ℕ) → text ≢ 9 ∷ rest)
    → without_blanks text ≡ text
nothing_is_dropped [] space tab = refl
nothing_is_dropped (b ∷ bs) space tab =
    let no_space : b ≢ 32 = λ same. space bs (ap (λ c. c ∷ bs) same) in
    let no_tab : b ≢ 9 = λ same. tab bs (ap (λ c. c ∷ bs) same) in
    rw (ne_eqb b 32 no_space, ne_eqb b 9 no_tab) refl

-- the same where `strip_prefix` found neither
pub neither_is_dropped : (text : List ℕ) (stripped : Option (Bor (List ℕ))) → ((rest : List ℕ) → text ≢ 32 ∷ rest)
    → MatchOption stripped ((rest : List ℕ) → text ≢ 9 ∷ rest) (λ rest. text ≡ 9 ∷ rest.now)
    → IfNone stripped (without_blanks text ≡ text)
neither_is_dropped text None space tab = nothing_is_dropped text space tab
neither_is_dropped text (Some rest) space is = tt

pub dropped_no_longer : (text : List ℕ) → length (without_blanks text) ≤ length text
dropped_no_longer [] = omega arith
dropped_no_longer (b ∷ bs) = elim (cases_Bool (is_blank b)) [
  | inl blank ↦ rw blank (omega (arith, dropped_no_longer bs))
  | inr other ↦ rw other (omega arith)
]

-- ---- the entries of lines

-- one line more, without an entry or with one
pub line_without_entry : (found : List AuthEntry) (n : ℕ) (lines more : List (List ℕ)) (line text : List ℕ)
    → found ++ entries_from n lines ≡ entries_in text → lines ≡ line ∷ more → content_in (without_blanks line) ≡ None
    → found ++ entries_from (n + 1) more ≡ entries_in text
line_without_entry found n lines more line text before is none =
    ap (λ (c : Option AuthContent). found ++ onto_entries n c (entries_from (n + 1) more)) (sym none)
    ∙ ap (λ l. found ++ entries_from n l) (sym is) ∙ before

pub line_with_entry : (found : List AuthEntry) (n : ℕ) (lines more : List (List ℕ)) (line text : List ℕ) (content : AuthContent)
    → found ++ entries_from n lines ≡ entries_in text → lines ≡ line ∷ more
    → content_in (without_blanks line) ≡ Some content
    → (found ++ record { line = n; content = content } ∷ []) ++ entries_from (n + 1) more ≡ entries_in text
line_with_entry found n lines more line text content before is some =
    let entry : AuthEntry = record { line = n; content = content } in
    append_assoc found (entry ∷ []) (entries_from (n + 1) more)
    ∙ ap (λ (c : Option AuthContent). found ++ onto_entries n c (entries_from (n + 1) more)) (sym some)
    ∙ ap (λ l. found ++ entries_from n l) (sym is) ∙ before

-- at the beginning
pub no_entry_yet : (found : List AuthEntry) (left : List (List ℕ)) (text : List ℕ) → found ≡ [] → left ≡ lines text
    → found ++ entries_from 1 left ≡ entries_in text
unfolding entries_in
no_entry_yet found left text none is = ap (λ f. f ++ entries_from 1 left) none ∙ ap (entries_from 1) is

-- ---- options fit

no_options_fit : are_fit [] ≡ true
unfolding are_fit
no_options_fit = refl

key_fits : (options : List AuthOption) (read : Result SshPublicKey SshPublicKeyError) → are_fit options ≡ true
    → FitContent (key_content options read)
key_fits options (Ok key) fit = fit
key_fits options (Err e) fit = tt

optioned_fits : (key_line : List ℕ) (options : Option (List AuthOption)) → FitContent (optioned key_line options)
optioned_fits key_line None = tt
optioned_fits key_line (Some options) = elim (cases_Bool (are_fit options)) [
  | inl fit ↦ rw fit (key_fits options (line_meaning key_line) fit)
  | inr other ↦ rw other tt
]

content_fits : (line : List ℕ) → FitContent (content_of line)
unfolding content_of
content_fits line = elim (cases_Bool (begins_with_key line)) [
  | inl key ↦ rw key (key_fits [] (line_meaning line) no_options_fit)
  | inr other ↦
      rw other
      (optioned_fits (without_blanks (rest_outside (ends_at Blank) line)) (options_in (front_outside (ends_at Blank) line)))
]

onto_fits : (n : ℕ) (line : List ℕ) (entries : List AuthEntry) → AreFit entries
    → AreFit (onto_entries n (content_in line) entries)
onto_fits n [] entries fit = fit
onto_fits n (b ∷ bs) entries fit = elim (cases_Bool (b == 35)) [
  | inl comment ↦ rw comment fit
  | inr other ↦ rw other (content_fits (b ∷ bs), fit)
]

from_fits : (n : ℕ) (lines : List (List ℕ)) → AreFit (entries_from n lines)
from_fits n [] = tt
from_fits n (line ∷ more) = onto_fits n (without_blanks line) (entries_from (n + 1) more) (from_fits (n + 1) more)

pub fit_entries : (text : List ℕ) → AreFit (entries_in text)
unfolding entries_in
fit_entries text = from_fits 1 (lines text)

-- so do those that were found when no line is left
pub found_fit : (found : List AuthEntry) (n : ℕ) (left : List (List ℕ)) (text : List ℕ)
    → found ++ entries_from n left ≡ entries_in text → left ≡ [] → AreFit found
found_fit found n left text before none =
    let all : found ≡ entries_in text =
    sym (append-nil found) ∙ ap (λ l. found ++ entries_from n l) (sym none) ∙ before in
    subst AreFit (sym all) (fit_entries text)
