-- A text that is no ledger's is refused by its first bad line.
use Rattle.std.proofs.Common.{◌≡◌, ◌<◌, ◌≤◌, ◌^◌, ◌+◌, ◌-◌, ◌∙◌, ◌++◌, ◌∷◌, ◌⊎◌, ◌↔◌, ℕ, zero, suc, List, []}
use Rattle.std.proofs.Common.{Option, Some, None, Result, Ok, Err, ap, arith, inl, inr, length, refl, subst, sym, take}
use Rattle.std.proofs.lemmas.Bool.{cases_lt}
use Rattle.std.proofs.lemmas.Fmt.{decimal_digit}
use Rattle.std.proofs.lemmas.List.{length-append, take-take, take_all}
use Rattle.std.proofs.lemmas.Str.{IsUtf8-append, IsUtf8-from_ascii, IsUtf8-nil}
use Rattle.std.specs.{Option.{ok_or}, Str.{IsAscii, IsUtf8}}
use Rattle.picky_text.specs.Lines.{HasNo}
use Rattle.picky_wire_base.specs.Outcome.{and_then}
use Rattle.picky_issuing.specs.Parts.{lines_with_ends}
use Rattle.picky_issuing.proofs.PartsLemmas.{by_lines, lines_at_lf, one_line_left}
use Rattle.picky_ledger.specs.declared.entry.Entry.{Entry}
use Rattle.picky_ledger.specs.LedgerText.{BeginsAsLedger, IsFirstBadLine, IsLedgerText, entries_from, entry_after}
use Rattle.picky_ledger.specs.LedgerText.{ledger_in, ledger_text, next_in, next_word, of_lines}
use Rattle.picky_ledger.specs.State.{State}
use Rattle.picky_ledger.proofs.LedgerTextLaws.{ledger_is_read, ledger_read_is}
use Rattle.picky_ledger.proofs.LedgerTextLemmas.{with_next}
use Rattle.picky_ledger.proofs.SidesLemmas.{sides_are_text}

-- ---- lines

-- a list with the same first element
same_first : {A : Type 0} (x : A) (xs others : List A) → take 1 others ≡ x ∷ xs → (more : List A) × (others ≡ x ∷ more)
same_first x xs [] same = cc same
same_first x xs (y ∷ more) same = (more, ap (λ z. z ∷ more) (cc same))

-- and the same behind it
same_behind : {A : Type 0} (n : ℕ) (x : A) (xs others : List A) → take (suc n) others ≡ x ∷ take n xs
    → (more : List A) × (others ≡ x ∷ more) × (take n more ≡ take n xs)
same_behind n x xs [] same = cc same
same_behind n x xs (y ∷ more) same = (more, ap (λ z. z ∷ more) (cc same), cc same)

-- the entries of so many lines are read, and with one more each text is refused
record EntriesEnd (next number : ℕ) (before : List Entry) (lines : List (List ℕ)) (n : ℕ) : Type 0 where
  place : ℕ
  at : n ≡ number + place
  entries : List Entry
  good : entries_from next number before (take place lines) ≡ Ok entries
  alike : (others : List (List ℕ)) → take (suc place) others ≡ take (suc place) lines
      → entries_from next number before others ≡ Err n

one_entry_more : (next number : ℕ) (before : List Entry) (line : List ℕ) (more : List (List ℕ))
    → ((e : Entry) (n : ℕ) → entries_from next (number + 1) (before ++ e ∷ []) more ≡ Err n
    → EntriesEnd next (number + 1) (before ++ e ∷ []) more n)
    → (n : ℕ) → entries_from next number before (line ∷ more) ≡ Err n → EntriesEnd next number before (line ∷ more) n
one_entry_more next number before line more later n bad = go (entry_after next before line) refl
  where
    go : (found : Option Entry) → entry_after next before line ≡ found → EntriesEnd next number before (line ∷ more) n
    go None says =
        let stops : (rest : List (List ℕ)) → entries_from next number before (line ∷ rest) ≡ Err number =
        λ rest. ap (λ o. and_then (ok_or o number) (λ e. entries_from next (number + 1) (before ++ e ∷ []) rest)) says in
        let same : number ≡ n = cc (stops more, bad) in
        record {
          place = 0;
          at = omega (arith, same);
          entries = before;
          good = refl;
          alike = λ others start.
              let o = same_first line [] others start in
              ap (entries_from next number before) o.1 ∙ stops o.0 ∙ ap Err same;
        }
    go (Some e) says =
        let goes_on : (rest : List (List ℕ)) → entries_from next number before (line ∷ rest)
        ≡ entries_from next (number + 1) (before ++ e ∷ []) rest =
        λ rest. ap (λ o. and_then (ok_or o number) (λ e. entries_from next (number + 1) (before ++ e ∷ []) rest)) says in
        let end = later e n (sym (goes_on more) ∙ bad) in
        record {
          place = suc end.place;
          at = omega (arith, end.at);
          entries = end.entries;
          good = goes_on (take end.place more) ∙ end.good;
          alike = λ others start.
              let o = same_behind (suc end.place) line more others start in
              ap (entries_from next number before) o.1 ∙ goes_on o.0 ∙ end.alike o.0 o.2;
        }

entries_end : (next number : ℕ) (before : List Entry) (lines : List (List ℕ)) (n : ℕ)
    → entries_from next number before lines ≡ Err n → EntriesEnd next number before lines n
entries_end next number before [] n bad = cc bad
entries_end next number before (line ∷ more) n bad =
    one_entry_more next number before line more (λ e. entries_end next (number + 1) (before ++ e ∷ []) more) n bad

-- ---- the lines of a ledger

bad_of_next : (next : ℕ) (r : Result (List Entry) ℕ) (n : ℕ) → with_next next r ≡ Err n → r ≡ Err n
bad_of_next next (Ok es) n bad = cc bad
bad_of_next next (Err m) n bad = let same : m ≡ n = cc bad in ap Err same

-- so many lines are none, or a ledger's, and with one more each text is refused
record LinesEnd (lines : List (List ℕ)) (n : ℕ) : Type 0 where
  place : ℕ
  at : n ≡ suc place
  good : (place ≡ 0) ⊎ ((l : State) × (of_lines (take place lines) ≡ Ok l))
  alike : (others : List (List ℕ)) → take (suc place) others ≡ take (suc place) lines → of_lines others ≡ Err n

no_line : (others : List (List ℕ)) → take 1 others ≡ [] → of_lines others ≡ Err 1
no_line [] same = refl
no_line (line ∷ more) same = cc same

lines_end : (lines : List (List ℕ)) (n : ℕ) → of_lines lines ≡ Err n → LinesEnd lines n
lines_end [] n bad =
    let same : 1 ≡ n = cc bad in
    record { place = 0; at = omega (arith, same); good = inl refl; alike = λ others start. no_line others start ∙ ap Err same }
lines_end (line ∷ more) n bad = go (next_in line) refl
  where
    go : (found : Option ℕ) → next_in line ≡ found → LinesEnd (line ∷ more) n
    go None says =
        let stops : (rest : List (List ℕ)) → of_lines (line ∷ rest) ≡ Err 1 =
        λ rest. ap (λ o. and_then (ok_or o 1) (λ next. with_next next (entries_from next 2 [] rest))) says in
        let same : 1 ≡ n = cc (stops more, bad) in
        record {
          place = 0;
          at = omega (arith, same);
          good = inl refl;
          alike = λ others start. let o = same_first line [] others start in ap of_lines o.1 ∙ stops o.0 ∙ ap Err same;
        }
    go (Some next) says =
        let goes_on : (rest : List (List ℕ)) → of_lines (line ∷ rest) ≡ with_next next (entries_from next 2 [] rest) =
        λ rest. ap (λ o. and_then (ok_or o 1) (λ next. with_next next (entries_from next 2 [] rest))) says in
        let end = entries_end next 2 [] more n (bad_of_next next (entries_from next 2 [] more) n (sym (goes_on more) ∙ bad)) in
        record {
          place = suc end.place;
          at = omega (arith, end.at);
          good = inr (record { next = next; entries = end.entries }, goes_on (take end.place more) ∙ ap (with_next next) end.good);
          alike = λ others start.
              let o = same_behind (suc end.place) line more others start in
              ap of_lines o.1 ∙ goes_on o.0 ∙ ap (with_next next) (end.alike o.0 o.2);
        }

-- ---- the first lines of a text are a text

record Front (count : ℕ) (text : List ℕ) : Type 0 where
  front : List ℕ
  lines : lines_with_ends front ≡ take count (lines_with_ends text)
  utf8 : IsUtf8 front
  short : length front ≤ length text

no_front : (text : List ℕ) → Front 0 text
no_front text = record { front = []; lines = refl; utf8 = IsUtf8-nil; short = omega arith }

last_front : (line : List ℕ) → HasNo 10 line → (count : ℕ) → IsUtf8 line → Front count line
last_front line none zero utf8 = no_front line
last_front [] none (suc n) utf8 = record { front = []; lines = refl; utf8 = utf8; short = omega arith }
last_front (b ∷ line) none (suc n) utf8 =
    let one = one_line_left b line none in
    record {
      front = b ∷ line;
      lines = one ∙ sym (take_all (suc n) ((b ∷ line) ∷ []) (omega arith)) ∙ ap (take (suc n)) (sym one);
      utf8 = utf8;
      short = omega arith;
    }

lf_is_ascii : IsAscii (10 ∷ [])
lf_is_ascii zero = omega arith
lf_is_ascii (suc i) = omega arith

front_more : (line more : List ℕ) → HasNo 10 line → ((count : ℕ) → IsUtf8 more → Front count more) → (count : ℕ)
    → IsUtf8 (line ++ 10 ∷ more) → Front count (line ++ 10 ∷ more)
front_more line more none rest zero utf8 = no_front (line ++ 10 ∷ more)
front_more line more none rest (suc n) utf8 =
    let sides = sides_are_text 10 line more (omega arith) utf8 in
    let f = rest n sides.1 in
    let lf : IsUtf8 (10 ∷ f.front) = IsUtf8-append (10 ∷ []) f.front (IsUtf8-from_ascii (10 ∷ []) lf_is_ascii) f.utf8 in
    record {
      front = line ++ 10 ∷ f.front;
      lines =
          lines_at_lf line f.front none ∙ ap (λ l. (line ++ 10 ∷ []) ∷ l) f.lines
          ∙ sym (ap (take (suc n)) (lines_at_lf line more none));
      utf8 = IsUtf8-append line (10 ∷ f.front) sides.0 lf;
      short = omega (arith, f.short, length-append line (10 ∷ f.front), length-append line (10 ∷ more));
    }

front_of_text : (text : List ℕ) (count : ℕ) → IsUtf8 text → Front count text
front_of_text = by_lines (λ text. (count : ℕ) → IsUtf8 text → Front count text) last_front front_more

-- ---- the first bad line

-- a ledger without entries
first_ledger : State
first_ledger = record { next = 1; entries = [] }

first_text : IsLedgerText (ledger_text first_ledger)
unfolding ledger_text next_word first_ledger
first_text = record {
  ledger = first_ledger;
  is = record { some = omega arith; fits = omega arith; each = tt; increase = tt; differ = tt };
  short = subst (λ ds. length ((next_word ++ (ds ++ 10 ∷ [])) ++ []) < 2 ^ 32) (sym (decimal_digit 1 (omega arith))) (omega arith);
  whole = refl;
}

begins_with_fewer : (text : List ℕ) (m n : ℕ) → m ≤ n → BeginsAsLedger n text → BeginsAsLedger m text
begins_with_fewer text m n fewer begins = record {
  whole = begins.whole;
  is_text = begins.is_text;
  same =
      sym (take-take m n (lines_with_ends begins.whole) fewer) ∙ ap (take m) begins.same
      ∙ take-take m n (lines_with_ends text) fewer;
}

begins_before : (text : List ℕ) (place : ℕ) → IsUtf8 text → length text < 2 ^ 32
    → (place ≡ 0) ⊎ ((l : State) × (of_lines (take place (lines_with_ends text)) ≡ Ok l)) → BeginsAsLedger place text
unfolding ledger_in
begins_before text place utf8 short (inl none) =
    subst (λ n. BeginsAsLedger n text) (sym none)
    (record { whole = ledger_text first_ledger; is_text = first_text; same = refl })
begins_before text place utf8 short (inr (l, good)) =
    let f = front_of_text text place utf8 in
    let read : ledger_in f.front ≡ Ok l = ap of_lines f.lines ∙ good in
    let is = ledger_read_is f.front l f.utf8 (omega (arith, short, f.short)) read in
    record {
      whole = f.front;
      is_text = record {
        ledger = l;
        is = is.0;
        short = omega (arith, short, f.short, ap length is.1);
        whole = is.1;
      };
      same = ap (take place) f.lines ∙ take-take place place (lines_with_ends text) (omega arith);
    }

bad_line_is : (text : List ℕ) (n : ℕ) → IsUtf8 text → length text < 2 ^ 32 → ledger_in text ≡ Err n → IsFirstBadLine n text
unfolding ledger_in
bad_line_is text n utf8 short bad =
    let end = lines_end (lines_with_ends text) n bad in
    let before : end.place ≡ n - 1 = omega (arith, end.at) in
    record {
      some = omega (arith, end.at);
      before = subst (λ m. BeginsAsLedger m text) before (begins_before text end.place utf8 short end.good);
      none = λ begins.
          let l : State = begins.is_text.ledger in
          let start = subst (λ m. take m (lines_with_ends begins.whole) ≡ take m (lines_with_ends text)) end.at begins.same in
          let reads : ledger_in begins.whole ≡ Ok l =
          ap ledger_in begins.is_text.whole ∙ ledger_is_read l begins.is_text.is begins.is_text.short in
          let refuses : ledger_in begins.whole ≡ Err n = end.alike (lines_with_ends begins.whole) start in
          cc (reads, refuses);
    }

-- two first bad lines are one
one_bad_line : (text : List ℕ) (m n : ℕ) → IsFirstBadLine m text → IsFirstBadLine n text → m ≤ n
one_bad_line text m n first other = elim (cases_lt n m) [
  | inl less ↦ absurd (other.none (begins_with_fewer text n (m - 1) (omega (arith, less)) first.before))
  | inr below ↦ below
]

is_bad_line : (text : List ℕ) (n : ℕ) → IsUtf8 text → length text < 2 ^ 32 → IsFirstBadLine n text → ledger_in text ≡ Err n
is_bad_line text n utf8 short first = go (ledger_in text) refl
  where
    go : (r : Result State ℕ) → ledger_in text ≡ r → ledger_in text ≡ Err n
    go (Ok l) says =
        let is = ledger_read_is text l utf8 short says in
        absurd (first.none (record {
          whole = text;
          is_text = record { ledger = l; is = is.0; short = omega (arith, short, ap length is.1); whole = is.1 };
          same = refl;
        }))
    go (Err m) says =
        let other = bad_line_is text m utf8 short says in
        let same : m ≡ n = omega (arith, one_bad_line text m n other first, one_bad_line text n m first other) in
        says ∙ ap Err same

pub bad_line_exactly : (text : List ℕ) (n : ℕ) → IsUtf8 text → length text < 2 ^ 32
    → (ledger_in text ≡ Err n) ↔ IsFirstBadLine n text
bad_line_exactly text n utf8 short = (bad_line_is text n utf8 short, is_bad_line text n utf8 short)
