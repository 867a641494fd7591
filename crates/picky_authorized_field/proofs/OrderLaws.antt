-- Entries are in the order of lines, and a text has no more lines than bytes.
use Rattle.std.proofs.Common.{◌≡◌, ℕ, zero, suc, ◌+◌, ◌<◌, ◌≤◌, List, [], ◌∷◌, length, Option, Some, None, ap, arith}
use Rattle.std.specs.List.{slice_get}
use Rattle.picky_text.specs.Lines.{lines}
use Rattle.picky_text.proofs.LineLaws.{lines_count}
use Rattle.picky_authorized.specs.declared.entry.AuthContent.{AuthContent}
use Rattle.picky_authorized.specs.declared.entry.AuthEntry.{AuthEntry}
use Rattle.picky_authorized.specs.Entries.{entries_from, entries_in, onto_entries}
use Rattle.picky_authorized.specs.Lines.{content_in, without_blanks}

-- the entry stands at this place
abbrev Stands : List AuthEntry → (place : ℕ) → AuthEntry → Type 0
Stands entries place e = slice_get entries place ≡ Some e

-- ---- the number of a line is that of the first or more

onto_least : (n : ℕ) (content : Option AuthContent) (rest : List AuthEntry)
    → ((k : ℕ) (e : AuthEntry) → Stands rest k e → n + 1 ≤ e.line)
    → (i : ℕ) (e : AuthEntry) → Stands (onto_entries n content rest) i e → n ≤ e.line
onto_least n None rest later i e is = omega (arith, later i e is)
onto_least n (Some content) rest later zero e is =
    let entry : AuthEntry = record { line = n; content = content } in
    let same : entry ≡ e = cc is in omega (arith, ap (λ (x : AuthEntry). x.line) same)
onto_least n (Some content) rest later (suc i) e is = omega (arith, later i e is)

least : (n : ℕ) (ls : List (List ℕ)) (i : ℕ) (e : AuthEntry) → Stands (entries_from n ls) i e → n ≤ e.line
least n [] i e is = cc is
least n (line ∷ more) i e is =
    onto_least n (content_in (without_blanks line)) (entries_from (n + 1) more) (least (n + 1) more) i e is

-- ---- and that of the last or less

onto_most : (n m : ℕ) (content : Option AuthContent) (rest : List AuthEntry)
    → ((k : ℕ) (e : AuthEntry) → Stands rest k e → e.line < (n + 1) + m)
    → (i : ℕ) (e : AuthEntry) → Stands (onto_entries n content rest) i e → e.line < n + suc m
onto_most n m None rest before i e is = omega (arith, before i e is)
onto_most n m (Some content) rest before zero e is =
    let entry : AuthEntry = record { line = n; content = content } in
    let same : entry ≡ e = cc is in omega (arith, ap (λ (x : AuthEntry). x.line) same)
onto_most n m (Some content) rest before (suc i) e is = omega (arith, before i e is)

most : (n : ℕ) (ls : List (List ℕ)) (i : ℕ) (e : AuthEntry) → Stands (entries_from n ls) i e → e.line < n + length ls
most n [] i e is = cc is
most n (line ∷ more) i e is =
    onto_most n (length more) (content_in (without_blanks line)) (entries_from (n + 1) more) (most (n + 1) more) i e is

-- each line counts from 1, and a text has no more of them than bytes
pub lines_within : (text : List ℕ) (place : ℕ) (e : AuthEntry) → slice_get (entries_in text) place ≡ Some e
    → (1 ≤ e.line) × (e.line ≤ length text)
unfolding entries_in
lines_within text place e is =
    let from : 1 ≤ e.line = least 1 (lines text) place e is in
    let to : e.line < 1 + length (lines text) = most 1 (lines text) place e is in
    (from, omega (arith, to, lines_count text))

-- ---- a later entry is of a later line

onto_ordered : (n : ℕ) (content : Option AuthContent) (rest : List AuthEntry)
    → ((k : ℕ) (e : AuthEntry) → Stands rest k e → n + 1 ≤ e.line)
    → ((i j : ℕ) (a b : AuthEntry) → i < j → Stands rest i a → Stands rest j b → a.line < b.line)
    → (i j : ℕ) (a b : AuthEntry) → i < j → Stands (onto_entries n content rest) i a
    → Stands (onto_entries n content rest) j b → a.line < b.line
onto_ordered n None rest later order i j a b lt first second = order i j a b lt first second
onto_ordered n (Some content) rest later order i zero a b lt first second = absurd (omega (arith, lt))
onto_ordered n (Some content) rest later order zero (suc j) a b lt first second =
    let entry : AuthEntry = record { line = n; content = content } in
    let same : entry ≡ a = cc first in
    omega (arith, ap (λ (x : AuthEntry). x.line) same, later j b second)
onto_ordered n (Some content) rest later order (suc i) (suc j) a b lt first second =
    let less : i < j = omega (arith, lt) in order i j a b less first second

ordered : (n : ℕ) (ls : List (List ℕ)) (i j : ℕ) (a b : AuthEntry) → i < j → Stands (entries_from n ls) i a
    → Stands (entries_from n ls) j b → a.line < b.line
ordered n [] i j a b lt first second = cc first
ordered n (line ∷ more) i j a b lt first second =
    onto_ordered n (content_in (without_blanks line)) (entries_from (n + 1) more) (least (n + 1) more) (ordered (n + 1) more)
    i j a b lt first second

pub lines_ordered : (text : List ℕ) (i j : ℕ) (a b : AuthEntry) → i < j → slice_get (entries_in text) i ≡ Some a
    → slice_get (entries_in text) j ≡ Some b → a.line < b.line
unfolding entries_in
lines_ordered text i j a b lt first second = ordered 1 (lines text) i j a b lt first second
