-- A ledger's text, line by line.
use Rattle.std.proofs.Common.{◌≡◌, ◌∙◌, ◌+◌, ◌++◌, ◌∷◌, ℕ, List, []}
use Rattle.std.proofs.Common.{Option, Some, None, Result, Ok, Err, ◌≢◌, ap, length, refl, sym}
use Rattle.std.specs.Option.{ok_or, option_map}
use Rattle.std.proofs.lemmas.Bool.{ne_eqb}
use Rattle.picky_wire_base.specs.Outcome.{and_then, map_err}
use Rattle.picky_text.specs.Lines.{HasNo}
use Rattle.picky_issuing.specs.Parts.{lines_with_ends}
use Rattle.picky_issuing.proofs.PartsLemmas.{lines_at_lf, one_line_left}
use Rattle.picky_issuing.specs.Steps.{some_then}
use Rattle.picky_ledger.specs.declared.entry.Entry.{Entry}
use Rattle.picky_ledger.specs.LedgerText.{before_lf, entries_from, entry_after, entry_said, ledger_in, next_in, next_said, of_lines}
use Rattle.picky_ledger.specs.State.{State}

-- ---- a line

-- what stands before its LF
before_lf_is : (front : List ℕ) → before_lf (front ++ 10 ∷ []) ≡ Some front
before_lf_is [] = refl
before_lf_is (b ∷ []) = refl
before_lf_is (b ∷ c ∷ bs) = ap (option_map (λ front. b ∷ front)) (before_lf_is (c ∷ bs))

before_lf_none : (line : List ℕ) → HasNo 10 line → before_lf line ≡ None
before_lf_none [] none = refl
before_lf_none (b ∷ []) none = rw (ne_eqb b 10 none.0) refl
before_lf_none (b ∷ c ∷ bs) none = ap (option_map (λ front. b ∷ front)) (before_lf_none (c ∷ bs) none.1)

-- ---- the entries

-- the lines that are left, where the first has an LF
first_entry : (next number : ℕ) (before : List Entry) (line more : List ℕ) → HasNo 10 line
    → entries_from next number before (lines_with_ends (line ++ 10 ∷ more))
    ≡ and_then (ok_or (entry_said next before line) number)
    (λ e. entries_from next (number + 1) (before ++ e ∷ []) (lines_with_ends more))
unfolding entry_after
first_entry next number before line more none =
    ap (entries_from next number before) (lines_at_lf line more none)
    ∙ ap (λ front. and_then (ok_or (some_then front (entry_said next before)) number)
    (λ e. entries_from next (number + 1) (before ++ e ∷ []) (lines_with_ends more))) (before_lf_is line)

pub entry_goes_on : (next number : ℕ) (before : List Entry) (line more : List ℕ) (e : Entry) → HasNo 10 line
    → entry_said next before line ≡ Some e
    → entries_from next number before (lines_with_ends (line ++ 10 ∷ more))
    ≡ entries_from next (number + 1) (before ++ e ∷ []) (lines_with_ends more)
entry_goes_on next number before line more e none says =
    first_entry next number before line more none
    ∙ ap (λ o. and_then (ok_or o number) (λ x. entries_from next (number + 1) (before ++ x ∷ []) (lines_with_ends more))) says

pub entry_is_bad : (next number : ℕ) (before : List Entry) (line more : List ℕ) → HasNo 10 line
    → entry_said next before line ≡ None → entries_from next number before (lines_with_ends (line ++ 10 ∷ more)) ≡ Err number
entry_is_bad next number before line more none says =
    first_entry next number before line more none
    ∙ ap (λ o. and_then (ok_or o number) (λ x. entries_from next (number + 1) (before ++ x ∷ []) (lines_with_ends more))) says

-- the last line has one
pub last_is_bad : (next number : ℕ) (before : List Entry) (b : ℕ) (line : List ℕ) → HasNo 10 (b ∷ line)
    → entries_from next number before (lines_with_ends (b ∷ line)) ≡ Err number
unfolding entry_after
last_is_bad next number before b line none =
    ap (entries_from next number before) (one_line_left b line none)
    ∙ ap (λ front. and_then (ok_or (some_then front (entry_said next before)) number)
    (λ e. entries_from next (number + 1) (before ++ e ∷ []) [])) (before_lf_none (b ∷ line) none)

-- ---- the first line

-- the ledger of its number and the entries behind it
abbrev pub with_next : (next : ℕ) → Result (List Entry) ℕ → Result State ℕ
with_next next entries = and_then entries (λ es. Ok (record { next = next; entries = es }))

abbrev first_line : (front : Option (List ℕ)) → (more : List ℕ) → Result State ℕ
first_line front more =
    and_then (ok_or (some_then front next_said) 1) (λ next. with_next next (entries_from next 2 [] (lines_with_ends more)))

pub next_goes_on : (line more : List ℕ) (next : ℕ) → HasNo 10 line → next_said line ≡ Some next
    → ledger_in (line ++ 10 ∷ more) ≡ with_next next (entries_from next 2 [] (lines_with_ends more))
unfolding ledger_in next_in
next_goes_on line more next none says =
    ap of_lines (lines_at_lf line more none) ∙ ap (λ front. first_line front more) (before_lf_is line)
    ∙ ap (λ o. and_then (ok_or o 1) (λ n. with_next n (entries_from n 2 [] (lines_with_ends more)))) says

pub next_is_bad : (line more : List ℕ) → HasNo 10 line → next_said line ≡ None → ledger_in (line ++ 10 ∷ more) ≡ Err 1
unfolding ledger_in next_in
next_is_bad line more none says =
    ap of_lines (lines_at_lf line more none) ∙ ap (λ front. first_line front more) (before_lf_is line)
    ∙ ap (λ o. and_then (ok_or o 1) (λ n. with_next n (entries_from n 2 [] (lines_with_ends more)))) says

pub no_line_is_bad : (text : List ℕ) → HasNo 10 text → ledger_in text ≡ Err 1
unfolding ledger_in next_in
no_line_is_bad [] none = refl
no_line_is_bad (b ∷ text) none =
    ap of_lines (one_line_left b text none) ∙ ap (λ front. first_line front []) (before_lf_none (b ∷ text) none)

-- ---- outcomes

pub ok_of_mapped : {A E F : Type 0} (f : E → F) (r : Result A E) (x : A) → map_err f r ≡ Ok x → r ≡ Ok x
ok_of_mapped f (Ok y) x is =
    let same : y ≡ x = cc is in ap Ok same
ok_of_mapped f (Err e) x is = absurd (cc is)

pub ok_of_next : (next : ℕ) (r : Result (List Entry) ℕ) (l : State) → with_next next r ≡ Ok l
    → (r ≡ Ok l.entries) × (next ≡ l.next)
ok_of_next next (Ok es) l is =
    let made : State = record { next = next; entries = es } in
    let same : made ≡ l = cc is in
    (ap (λ (s : State). Ok s.entries) same, ap (λ (s : State). s.next) same)
ok_of_next next (Err n) l is = absurd (cc is)

pub err_of_next : {F : Type 0} (f : ℕ → F) (next : ℕ) (r : Result (List Entry) ℕ) (e : F) → map_err f r ≡ Err e
    → map_err f (with_next next r) ≡ Err e
err_of_next f next (Ok es) e is = absurd (cc is)
err_of_next f next (Err n) e is =
    let same : f n ≡ e = cc is in ap Err same

-- ---- lines of a text that is read

pub bad_entry : (next number : ℕ) (before : List Entry) (rest line more : List ℕ) → rest ≡ line ++ 10 ∷ more → HasNo 10 line
    → entry_said next before line ≡ None → entries_from next number before (lines_with_ends rest) ≡ Err number
bad_entry next number before rest line more is none says =
    ap (λ t. entries_from next number before (lines_with_ends t)) is ∙ entry_is_bad next number before line more none says

pub good_entry : (next number : ℕ) (before after : List Entry) (rest line more : List ℕ) (e : Entry) → rest ≡ line ++ 10 ∷ more
    → HasNo 10 line → entry_said next before line ≡ Some e → after ≡ before ++ e ∷ []
    → entries_from next number before (lines_with_ends rest) ≡ entries_from next (number + 1) after (lines_with_ends more)
good_entry next number before after rest line more e is none says pushed =
    ap (λ t. entries_from next number before (lines_with_ends t)) is ∙ entry_goes_on next number before line more e none says
    ∙ ap (λ es. entries_from next (number + 1) es (lines_with_ends more)) (sym pushed)

-- what is left without an LF has one entry's line too few
pub bad_end : (next number : ℕ) (before : List Entry) (rest : List ℕ) → HasNo 10 rest → length rest ≢ 0
    → entries_from next number before (lines_with_ends rest) ≡ Err number
bad_end next number before [] none some = absurd (some refl)
bad_end next number before (b ∷ rest) none some = last_is_bad next number before b rest none
