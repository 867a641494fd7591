-- A ledger's text is read as that ledger, and only a ledger's text is read.
use Rattle.std.proofs.Common.{◌≡◌, ◌≢◌, ◌<◌, ◌^◌, ◌+◌, ◌∙◌, ◌++◌, ◌∷◌, ℕ, Bool, List, [], Option, Some, None, Ok, true, ap}
use Rattle.std.proofs.Common.{arith, flat_map, if◌then◌else◌, length, nat_lt, refl, subst, sym, take, drop}
use Rattle.std.proofs.{lemmas.Bool.Decides.{nat_tests}, lemmas.Fmt.{decimal_by_steps}, lemmas.Grind.{flat_map-append}}
use Rattle.std.proofs.lemmas.List.{append_assoc, append-nil, length-append, take-append-drop}
use Rattle.std.proofs.lemmas.Slice.Eq.{bytes_eq-Decides}
use Rattle.std.specs.{Fmt.{decimal}, List.{AllByRecursion}, Str.{IsUtf8, bytes_eq}}
use Rattle.picky_text.specs.Lines.{HasNo}
use Rattle.picky_text.proofs.ListLaws.{all_append}
use Rattle.picky_issuing.specs.{Parts.{lines_with_ends}, Steps.{some_then}, Value.{number_named}}
use Rattle.picky_issuing.proofs.{PartsLemmas.{by_lines}, NumberLaws.{decimal_names, named_is_decimal}}
use Rattle.picky_ledger.specs.{declared.entry.Entry.{Entry}, Entry.{IsEntry, entry_front, entry_in, entry_line}}
use Rattle.picky_ledger.specs.LedgerText.{after_next_word, entries_from, entry_said, if_follows, if_some, ledger_in, ledger_text}
use Rattle.picky_ledger.specs.LedgerText.{may_follow, next_said, next_word}
use Rattle.picky_ledger.specs.State.{Differ, Increase, IsLedger, State}
use Rattle.picky_request.proofs.LineLaws.{chosen, goes_on, some_same}
use Rattle.picky_ledger.proofs.{EntryLaws.{entry_is_read, entry_read_is}, EntryLineLemmas.{entry_has_no_lf}}
use Rattle.picky_ledger.proofs.FollowLemmas.{follows, follows_amid}
use Rattle.picky_ledger.proofs.LedgerTextLemmas.{entry_goes_on, entry_is_bad, last_is_bad, next_goes_on, next_is_bad}
use Rattle.picky_ledger.proofs.LedgerTextLemmas.{no_line_is_bad, ok_of_next, with_next}
use Rattle.picky_ledger.proofs.{SidesLemmas.{sides_are_text}, StateLemmas.{all_more, differ_more}}

-- ---- the first line

decimal_has_no_lf : (n : ℕ) → n < 2 ^ 64 → HasNo 10 (decimal n)
decimal_has_no_lf n below =
    decimal_by_steps (λ m ds. HasNo 10 ds) (λ m low. (λ same. omega (arith, same), tt))
    (λ m ds some each. all_append (λ b. b ≢ 10) ds _ each (λ same. omega (arith, same), tt)) n below

abbrev pub next_front : ℕ → List ℕ
next_front next = next_word ++ decimal next

pub next_has_no_lf : (next : ℕ) → next < 2 ^ 64 → HasNo 10 (next_front next)
unfolding next_word
next_has_no_lf next below =
    let other : (b : ℕ) → 20 < b → b ≢ 10 = λ b above same. omega (arith, above, same) in
    let word : HasNo 10 next_word = (
      other 110 (omega arith),
      (
        other 101 (omega arith),
        (
          other 120 (omega arith),
          (other 116 (omega arith), (other 32 (omega arith), tt)),
        ),
      ),
    ) in
    all_append (λ b. b ≢ 10) next_word (decimal next) word (decimal_has_no_lf next below)

next_is_said : (next : ℕ) → 0 < next → next < 2 ^ 64 → next_said (next_front next) ≡ Some next
unfolding next_word
next_is_said next some below =
    let above : nat_lt 0 next ≡ true = grind (arith, nat_tests, some) in
    ap (λ o. some_then o if_some) (decimal_names (decimal next) next refl below) ∙ rw above refl

pub record SaysNext (front : List ℕ) (next : ℕ) : Type 0 where
  pub whole : front ≡ next_front next
  pub some : 0 < next
  pub fits : next < 2 ^ 64

pub said_next_is : (front : List ℕ) (next : ℕ) → next_said front ≡ Some next → SaysNext front next
said_next_is front next says =
    let after = goes_on (after_next_word front) _ next says in
    let word = chosen (bytes_eq (take 5 front) next_word) (Some (drop 5 front)) after.0 after.1 in
    let number = goes_on (number_named after.0) if_some next after.2 in
    let some = chosen (nat_lt 0 number.0) (Some number.0) next number.2 in
    let same : number.0 ≡ next = some_same number.0 next some.1 in
    let named = named_is_decimal after.0 number.0 number.1 in
    let start : take 5 front ≡ next_word = (bytes_eq-Decides (take 5 front) next_word).0 word.0 in
    let behind : drop 5 front ≡ decimal next =
    some_same (drop 5 front) after.0 word.1 ∙ named.0 ∙ ap decimal same in
    let above : 0 < number.0 = grind (arith, nat_tests, some.0) in
    record {
      whole = sym (take-append-drop 5 front) ∙ ap (λ t. t ++ drop 5 front) start ∙ ap (λ t. next_word ++ t) behind;
      some = omega (arith, same, above);
      fits = omega (arith, same, named.1);
    }

-- ---- a ledger's text is read

entry_is_said : (next : ℕ) (before more : List Entry) (e : Entry) → IsEntry e → length (entry_front e) < 2 ^ 32
    → Increase 0 next (before ++ e ∷ more) → Differ (before ++ e ∷ more)
    → entry_said next before (entry_front e) ≡ Some e
entry_is_said next before more e is short up differ =
    ap (λ o. some_then o (if_follows next before)) (entry_is_read e is short)
    ∙ ap (λ (b : Bool). if b then Some e else None) (follows_amid next before more e up differ)

pub line_then : (e : Entry) (more : List ℕ) → entry_line e ++ more ≡ entry_front e ++ 10 ∷ more
unfolding entry_line
line_then e more = append_assoc (entry_front e) (10 ∷ []) more

entries_are_read : (next number : ℕ) (before es : List Entry) → AllByRecursion IsEntry es → Increase 0 next (before ++ es)
    → Differ (before ++ es) → length (flat_map entry_line es) < 2 ^ 32
    → entries_from next number before (lines_with_ends (flat_map entry_line es)) ≡ Ok (before ++ es)
entries_are_read next number before [] each up differ short = ap Ok (sym (append-nil before))
entries_are_read next number before (e ∷ es) each up differ short =
    let more : List ℕ = flat_map entry_line es in
    let whole : entry_line e ++ more ≡ entry_front e ++ 10 ∷ more = line_then e more in
    let len : length (flat_map entry_line (e ∷ es)) ≡ length (entry_front e) + length (10 ∷ more) =
    ap length whole ∙ length-append (entry_front e) (10 ∷ more) in
    let front_short : length (entry_front e) < 2 ^ 32 = omega (arith, len, short) in
    let one_more : (before ++ e ∷ []) ++ es ≡ before ++ e ∷ es = append_assoc before (e ∷ []) es in
    let says = entry_is_said next before es e each.0 front_short up differ in
    let rest = entries_are_read next (number + 1) (before ++ e ∷ []) es each.1 (subst (Increase 0 next) (sym one_more) up)
    (subst Differ (sym one_more) differ) (omega (arith, len, short)) in
    ap (λ t. entries_from next number before (lines_with_ends t)) whole
    ∙ entry_goes_on next number before (entry_front e) more e (entry_has_no_lf e each.0 front_short) says
    ∙ rest ∙ ap Ok one_more

pub text_then : (l : State) → ledger_text l ≡ next_front l.next ++ 10 ∷ flat_map entry_line l.entries
unfolding ledger_text
text_then l = simp append_assoc

pub ledger_is_read : (l : State) → IsLedger l → length (ledger_text l) < 2 ^ 32 → ledger_in (ledger_text l) ≡ Ok l
ledger_is_read l is short =
    let more : List ℕ = flat_map entry_line l.entries in
    let len : length (ledger_text l) ≡ length (next_front l.next) + length (10 ∷ more) =
    ap length (text_then l) ∙ length-append (next_front l.next) (10 ∷ more) in
    let entries = entries_are_read l.next 2 [] l.entries is.each is.increase is.differ (omega (arith, len, short)) in
    ap ledger_in (text_then l)
    ∙ next_goes_on (next_front l.next) more l.next (next_has_no_lf l.next is.fits) (next_is_said l.next is.some is.fits)
    ∙ ap (with_next l.next) entries

-- ---- only a ledger's text is read

-- the entries are a ledger's, and these texts are theirs
record AreRead (next : ℕ) (before : List Entry) (text : List ℕ) (entries : List Entry) : Type 0 where
  each : AllByRecursion IsEntry entries
  increase : Increase 0 next entries
  differ : Differ entries
  whole : flat_map entry_line before ++ text ≡ flat_map entry_line entries

record IsSaid (next : ℕ) (before : List Entry) (line : List ℕ) (e : Entry) : Type 0 where
  is : IsEntry e
  whole : line ≡ entry_front e
  increase : Increase 0 next (before ++ e ∷ [])
  differ : Differ (before ++ e ∷ [])

said_is : (next : ℕ) (before : List Entry) (line : List ℕ) (e : Entry) → IsUtf8 line → length line < 2 ^ 32
    → Increase 0 next before → Differ before → entry_said next before line ≡ Some e → IsSaid next before line e
said_is next before line e utf8 short up differ says =
    let said = goes_on (entry_in line) (if_follows next before) e says in
    let may = chosen (may_follow next before said.0) (Some said.0) e said.2 in
    let same : said.0 ≡ e = some_same said.0 e may.1 in
    let is = entry_read_is line e utf8 short (said.1 ∙ ap Some same) in
    let after = follows next before e up (subst (λ x. may_follow next before x ≡ true) same may.0) in
    record { is = is.0; whole = is.1; increase = after.increase; differ = differ_more before e differ after.new }

abbrev ReadsFrom : (text : List ℕ) → Type 0
ReadsFrom text = (next number : ℕ) (before entries : List Entry) → IsUtf8 text → length text < 2 ^ 32
    → AllByRecursion IsEntry before → Increase 0 next before → Differ before
    → entries_from next number before (lines_with_ends text) ≡ Ok entries → AreRead next before text entries

last_line : (line : List ℕ) → HasNo 10 line → ReadsFrom line
last_line [] none next number before entries utf8 short each up differ says =
    let same : before ≡ entries = cc says in
    record {
      each = subst (AllByRecursion IsEntry) same each;
      increase = subst (Increase 0 next) same up;
      differ = subst Differ same differ;
      whole = append-nil (flat_map entry_line before) ∙ ap (flat_map entry_line) same;
    }
last_line (b ∷ line) none next number before entries utf8 short each up differ says =
    absurd (cc (last_is_bad next number before b line none, says))

line_whole : (before entries : List Entry) (e : Entry) (line more : List ℕ) → line ≡ entry_front e
    → flat_map entry_line (before ++ e ∷ []) ++ more ≡ flat_map entry_line entries
    → flat_map entry_line before ++ (line ++ 10 ∷ more) ≡ flat_map entry_line entries
line_whole before entries e line more is rest =
    let front : List ℕ = flat_map entry_line before in
    ap (λ t. front ++ t) (ap (λ t. t ++ 10 ∷ more) is ∙ sym (line_then e more))
    ∙ sym (append_assoc front (entry_line e) more)
    ∙ ap (λ t. (front ++ t) ++ more) (sym (append-nil (entry_line e)))
    ∙ ap (λ t. t ++ more) (sym (flat_map-append entry_line before (e ∷ []))) ∙ rest

one_line_more : (line more : List ℕ) → HasNo 10 line → ReadsFrom more → ReadsFrom (line ++ 10 ∷ more)
one_line_more line more none rest next number before entries utf8 short each up differ says = go (entry_said next before line) refl
  where
    go : (o : Option Entry) → entry_said next before line ≡ o → AreRead next before (line ++ 10 ∷ more) entries
    go None bad = absurd (cc (entry_is_bad next number before line more none bad, says))
    go (Some e) said =
        let sides = sides_are_text 10 line more (omega arith) utf8 in
        let len = length-append line (10 ∷ more) in
        let is = said_is next before line e sides.0 (omega (arith, len, short)) up differ said in
        let later = rest next (number + 1) (before ++ e ∷ []) entries sides.1 (omega (arith, len, short))
        (all_more IsEntry before e each is.is) is.increase is.differ
        (sym (entry_goes_on next number before line more e none said) ∙ says) in
        record {
          each = later.each;
          increase = later.increase;
          differ = later.differ;
          whole = line_whole before entries e line more is.whole later.whole;
        }

entries_are_theirs : (text : List ℕ) → ReadsFrom text
entries_are_theirs = by_lines ReadsFrom last_line one_line_more

-- the lines behind the first make a ledger
pub entries_make_ledger : (next : ℕ) (text : List ℕ) (entries : List Entry) → 0 < next → next < 2 ^ 64 → IsUtf8 text
    → length text < 2 ^ 32 → entries_from next 2 [] (lines_with_ends text) ≡ Ok entries
    → IsLedger (record { next = next; entries = entries }) × (text ≡ flat_map entry_line entries)
entries_make_ledger next text entries some fits utf8 short says =
    let are = entries_are_theirs text next 2 [] entries utf8 short tt tt tt says in (
      record { some = some; fits = fits; each = are.each; increase = are.increase; differ = are.differ },
      are.whole,
    )

-- the text of a ledger that is read
abbrev IsRead : (text : List ℕ) → Type 0
IsRead text = (l : State) → IsUtf8 text → length text < 2 ^ 32 → ledger_in text ≡ Ok l → IsLedger l × (text ≡ ledger_text l)

first_line_more : (line more : List ℕ) → HasNo 10 line → IsRead more → IsRead (line ++ 10 ∷ more)
first_line_more line more none rest l utf8 short says = go (next_said line) refl
  where
    go : (o : Option ℕ) → next_said line ≡ o → IsLedger l × (line ++ 10 ∷ more ≡ ledger_text l)
    go None bad = absurd (cc (next_is_bad line more none bad, says))
    go (Some next) said =
        let sides = sides_are_text 10 line more (omega arith) utf8 in
        let len = length-append line (10 ∷ more) in
        let of_next = said_next_is line next said in
        let found = ok_of_next next (entries_from next 2 [] (lines_with_ends more)) l
        (sym (next_goes_on line more next none said) ∙ says) in
        let made = entries_make_ledger next more l.entries of_next.some of_next.fits sides.1 (omega (arith, len, short)) found.0 in
        let ledger : State = record { next = next; entries = l.entries } in
        let same : ledger ≡ l = ap (λ n. record { next = n; entries = l.entries }) found.1 in
        let whole : line ++ 10 ∷ more ≡ ledger_text ledger =
        ap (λ t. t ++ 10 ∷ more) of_next.whole ∙ ap (λ t. next_front next ++ 10 ∷ t) made.1 ∙ sym (text_then ledger) in
        (subst IsLedger same made.0, whole ∙ ap ledger_text same)

pub ledger_read_is : (text : List ℕ) (l : State) → IsUtf8 text → length text < 2 ^ 32 → ledger_in text ≡ Ok l
    → IsLedger l × (text ≡ ledger_text l)
ledger_read_is = by_lines IsRead (λ line none l utf8 short says. absurd (cc (no_line_is_bad line none, says))) first_line_more
