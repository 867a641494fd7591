-- The laws of lines: a text that is written as lines is read as them.
use Rattle.std.proofs.Common.{◌≡◌, ◌≢◌, ℕ, zero, suc, ◌-◌, ◌≤◌, ◌==◌, Bool, true, false, List, [], ◌∷◌, ◌++◌, length, take}
use Rattle.std.proofs.Common.{slice_index, refl}
use Rattle.std.proofs.Common.{sym, ◌∙◌, ap, arith, subst}
use Rattle.std.proofs.lemmas.Bool.{eq-eqb, ne_eqb}
use Rattle.std.proofs.lemmas.List.{append_assoc, append-nil, length_push, length-append, length-take, get_or_push, take_at}
use Rattle.std.proofs.lemmas.List.Elements.{All-from_recursion}
use Rattle.std.proofs.lemmas.List.Splits.{slice_split_at, length-slice_split, join_with_byte-slice_split}
use Rattle.std.specs.List.{All, AllByRecursion, flat_map, join_with_byte, slice_split}
use Rattle.std.specs.Prelude.{if◌then◌else◌}
use Rattle.std.specs.Str.Lines.{lines_of_parts, strip_carriage_return}
use Rattle.picky_text.specs.Lines.{HasNo, lines, end_bytes, text_of, IsLine, AreLines, AreReadFirst}
use Rattle.picky_text.proofs.ListLaws.{all_weaker, all_append}
use Rattle.picky_text.specs.declared.lines.LineEnd.{LineEnd}
use Rattle.picky_text.specs.declared.lines.LineEnd.TheVariants.{Lf, CrLf}

-- the lines whose first part is followed by another
parts_go_on : (part : List ℕ) (parts : List (List ℕ)) (bytes : List ℕ)
    → parts ≡ slice_split (λ b. b == 10) bytes
    → lines_of_parts (part ∷ parts) ≡ strip_carriage_return part ∷ lines_of_parts parts
parts_go_on part [] bytes is =
    absurd (omega (arith, ap length is, length-slice_split (λ b. b == 10) bytes))
parts_go_on part (next ∷ parts) bytes is = refl

-- a line that ends in LF is the first, less a CR at its end
pub first_line : (line more : List ℕ) → HasNo 10 line
    → lines (line ++ 10 ∷ more) ≡ strip_carriage_return line ∷ lines more
first_line line more none =
    let stays = all_weaker (λ b. b ≢ 10) (λ b. (b == 10) ≡ false) (λ b other. ne_eqb b 10 other)
    line none in
    ap lines_of_parts (slice_split_at (λ b. b == 10) line 10 more (All-from_recursion _ line stays)
    refl)
    ∙ parts_go_on line _ more refl

-- a line with no CR at its end keeps all
pub kept_without_cr : (line : List ℕ) → slice_index line (length line - 1) ≢ 13
    → strip_carriage_return line ≡ line
kept_without_cr line other = rw (ne_eqb _ 13 other) refl

-- a line with one loses it
pub cr_is_stripped : (line : List ℕ) → strip_carriage_return (line ++ 13 ∷ []) ≡ line
cr_is_stripped line =
    let before : length (line ++ 13 ∷ []) - 1 ≡ length line = omega (arith, length_push line 13) in
    let last : slice_index (line ++ 13 ∷ []) (length line) ≡ 13 = get_or_push line 13 0
    (length line) refl in
    rw (before, eq-eqb _ 13 last) (take_at line (13 ∷ []) (length line) refl)

-- one line that is written is read back, whatever follows
pub line_is_read_back : (end : LineEnd) (line more : List ℕ) → IsLine end line
    → lines (line ++ end_bytes end ++ more) ≡ line ∷ lines more
line_is_read_back Lf line more is =
    rw append_assoc (first_line line more is.0
    ∙ ap (λ l. l ∷ lines more) (kept_without_cr line is.1))
line_is_read_back CrLf line more is =
    let no_lf : HasNo 10 (line ++ 13 ∷ []) = all_append (λ b. b ≢ 10) line (13 ∷ []) is
    (λ same. cc same, tt) in
    let text : line ++ (13 ∷ 10 ∷ []) ++ more ≡ (line ++ 13 ∷ []) ++ 10 ∷ more = simp append_assoc
    in
    rw text (first_line (line ++ 13 ∷ []) more no_lf
    ∙ ap (λ l. l ∷ lines more) (cr_is_stripped line))

-- lines that are written are read back, whatever follows
pub lines_are_read_first : (end : LineEnd) (ls : List (List ℕ)) → AreLines end ls
    → AreReadFirst end ls
unfolding text_of
lines_are_read_first end [] are rest = refl
lines_are_read_first end (line ∷ ls) are rest =
    let more : List ℕ = flat_map (λ l. l ++ end_bytes end) ls in
    rw (append_assoc (line ++ end_bytes end) more rest)
    (line_is_read_back end line (more ++ rest) are.0
    ∙ ap (λ l. line ∷ l) (lines_are_read_first end ls are.1 rest))

-- and where nothing follows
pub text_is_its_lines : (end : LineEnd) (ls : List (List ℕ)) → AreLines end ls
    → lines (text_of end ls) ≡ ls
text_is_its_lines end ls are =
    ap lines (sym (append-nil (text_of end ls))) ∙ lines_are_read_first end ls are []
    ∙ append-nil ls

-- a byte that stands nowhere stands at no place
at_no_place : (b : ℕ) (text : List ℕ) → 0 ≢ b → HasNo b text → (i : ℕ) → slice_index text i ≢ b
at_no_place b [] other none i = other
at_no_place b (c ∷ text) other none zero = none.0
at_no_place b (c ∷ text) other none (suc i) = at_no_place b text other none.1 i

-- A text without CR and LF is a line.
pub one_line : (end : LineEnd) (text : List ℕ) → HasNo 13 text × HasNo 10 text → IsLine end text
one_line Lf text none = (none.1, at_no_place 13 text (λ same. cc same) none.0 (length text - 1))
one_line CrLf text none = none.1

-- ---- how many lines there are, and how long they are

front_or_whole : (b : Bool) (n : ℕ) (line : List ℕ) → length (if b then take n line else line) ≤ length line
front_or_whole true n line = omega (arith, length-take n line)
front_or_whole false n line = omega arith

stripped_within : (line : List ℕ) → length (strip_carriage_return line) ≤ length line
stripped_within line = front_or_whole (slice_index line (length line - 1) == 13) (length line - 1) line

-- the last part is no line where it is empty
last_count : (part : List ℕ) → length (lines_of_parts (part ∷ [])) ≤ length part
last_count [] = omega arith
last_count (b ∷ part) = rw (ne_eqb (length (b ∷ part)) 0 (omega arith)) (omega arith)

last_within : (part : List ℕ)
    → AllByRecursion (λ line. length line ≤ length part) (lines_of_parts (part ∷ []))
last_within [] = tt
last_within (b ∷ part) = rw (ne_eqb (length (b ∷ part)) 0 (omega arith)) (omega arith, tt)

-- the same of parts, and of the text that they make
parts_count : (parts : List (List ℕ)) → length (lines_of_parts parts) ≤ length (join_with_byte 10 parts)
parts_count [] = omega arith
parts_count (part ∷ []) = last_count part
parts_count (part ∷ next ∷ more) =
    omega (arith, length-append part (10 ∷ join_with_byte 10 (next ∷ more)), parts_count (next ∷ more))

parts_within : (parts : List (List ℕ))
    → AllByRecursion (λ line. length line ≤ length (join_with_byte 10 parts)) (lines_of_parts parts)
parts_within [] = tt
parts_within (part ∷ []) = last_within part
parts_within (part ∷ next ∷ more) =
    let rest = join_with_byte 10 (next ∷ more) in
    let long = length-append part (10 ∷ rest) in (
      omega (arith, long, stripped_within part),
      all_weaker (λ line. length line ≤ length rest) (λ line. length line ≤ length (part ++ 10 ∷ rest))
          (λ line fits. omega (arith, long, fits)) (lines_of_parts (next ∷ more)) (parts_within (next ∷ more)),
    )

-- A text has no more lines than bytes.
pub lines_count : (text : List ℕ) → length (lines text) ≤ length text
lines_count text =
    subst (λ t. length (lines text) ≤ length t) (join_with_byte-slice_split 10 text)
    (parts_count (slice_split (λ b. b == 10) text))

-- None of its lines is longer than it.
pub each_line_within : (text : List ℕ) → AllByRecursion (λ line. length line ≤ length text) (lines text)
each_line_within text =
    subst (λ t. AllByRecursion (λ line. length line ≤ length t) (lines text)) (join_with_byte-slice_split 10 text)
    (parts_within (slice_split (λ b. b == 10) text))

pub lines_within : (text : List ℕ) → All (λ line. length line ≤ length text) (lines text)
lines_within text = All-from_recursion (λ line. length line ≤ length text) (lines text) (each_line_within text)

-- what `laws` states of lines
pub ruleset line_laws = (lines_are_read_first, text_is_its_lines, lines_count, lines_within)
