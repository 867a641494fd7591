-- The first line of a text, as std's reader gives it.
use Rattle.std.proofs.Common.{◌≡◌, ◌≢◌, ℕ, ◌<◌, ◌≤◌, ◌+◌, ◌==◌, false, List, [], ◌∷◌, ◌++◌, length}
use Rattle.std.proofs.Common.{take, drop, get_or, refl, sym, ◌∙◌, ap, arith, inl, inr, subst, Bor}
use Rattle.std.proofs.Common.{IfNone, IfSome}
use Rattle.std.proofs.lemmas.Bool.{cases_lt, eqb-true, ne_eqb}
use Rattle.std.proofs.lemmas.List.{get_or_default, take-append-drop, take_all, length-drop}
use Rattle.std.proofs.lemmas.List.{nil_from_length}
use Rattle.std.proofs.lemmas.List.Elements.{recursion_from_All, All-from_recursion}
use Rattle.std.proofs.lemmas.List.Splits.{slice_split_none}
use Rattle.std.proofs.lemmas.Str.{NoCharPasses-byte, encode_ascii}
use Rattle.std.specs.Char.{is_newline, encode_utf8}
use Rattle.std.specs.Str.{NoCharPasses}
use Rattle.std.specs.Str.Lines.{IsFirstLine, StripsCarriageReturn, strip_carriage_return}
use Rattle.std.specs.Str.Lines.{lines_of_parts}
use Rattle.std.specs.Str.Iter.{lines_rest, lines_steps}
use Rattle.std.specs.declared.str.Lines.{Lines}
use Rattle.std.specs.declared.option.Option.{Option}
use Rattle.std.specs.declared.option.Option.TheVariants.{None, Some}
use Rattle.picky_text.specs.Lines.{HasNo, lines}
use Rattle.picky_text.proofs.ListLaws.{all_weaker}
use Rattle.picky_text.proofs.LineLaws.{first_line, kept_without_cr, cr_is_stripped}

no_newline : (bytes : List ℕ) → NoCharPasses is_newline bytes → HasNo 10 bytes
no_newline bytes none =
    recursion_from_All (λ b. b ≢ 10) bytes (λ k d lt same.
    let here : get_or bytes k 0 ≡ 10 = get_or_default bytes k 0 d lt ∙ same in
    let test = NoCharPasses-byte is_newline bytes k none lt (omega arith) in
    cc (rw here at test))

stripped : (line x : List ℕ) → StripsCarriageReturn line x → strip_carriage_return line ≡ x
stripped [] x (inl kept) = sym kept.0
stripped (b ∷ line) x (inl kept) = kept_without_cr (b ∷ line) (kept.1 (omega arith)) ∙ sym kept.0
stripped line x (inr cut) = ap strip_carriage_return cut ∙ cr_is_stripped x

-- a text without LF is one line
only_line : (text : List ℕ) → HasNo 10 text → 0 < length text → lines text ≡ text ∷ []
only_line text none some =
    let stays = all_weaker (λ b. b ≢ 10) (λ b. (b == 10) ≡ false) (λ b other. ne_eqb b 10 other)
    text none in
    let one = slice_split_none (λ b. b == 10) text (All-from_recursion _ text stays) in
    ap lines_of_parts one ∙ rw (ne_eqb (length text) 0 (omega arith)) refl

-- a text whose first line is x has it, and then the lines of the rest
pub lines_from_first : (text x rest : List ℕ) → 0 < length text → IsFirstLine text x rest
    → lines text ≡ x ∷ lines rest
lines_from_first text x rest some first =
    let n : ℕ = first.0 in
    let none = no_newline (take n text) first.1 in
    elim (cases_lt n (length text)) [
      | inl lt ↦
          let lf = first.2 (omega (arith, length-drop n text)) in
          let code : lf.0 ≡ 10 = eqb-true lf.0 10 lf.1 in
          let after : drop n text ≡ 10 ∷ rest = lf.2 ∙ ap (λ c. encode_utf8 c ++ rest) code
          ∙ ap (λ l. l ++ rest) (encode_ascii 10 (omega arith)) in
          let whole : text ≡ take n text ++ 10 ∷ rest = sym (take-append-drop n text)
          ∙ ap (λ l. take n text ++ l) after in
          ap lines whole ∙ first_line (take n text) rest none
          ∙ ap (λ l. l ∷ lines rest) (stripped (take n text) x (first.5 lt))
      | inr past ↦
          let fits : n + length rest ≤ length text = first.3 in
          let all : take n text ≡ text = take_all n text past in
          let P : List ℕ → Type 0 = HasNo 10 in
          let one = only_line text (subst P all none) some in
          let same : x ≡ text = first.4 (omega arith) in
          let empty : rest ≡ [] = nil_from_length rest (omega arith) in
          one ∙ ap (λ l. l ∷ []) (sym same) ∙ ap (λ l. x ∷ lines l) (sym empty)
    ]

-- where std's reader gives no line, none was left
pub no_line_left : (before after : Lines) (result : Option (Bor (List ℕ)))
    → lines_steps before result after
    → IfNone result ((lines (lines_rest before) ≡ []) × (lines (lines_rest after) ≡ []))
no_line_left before after None step =
    let none : lines (lines_rest before) ≡ [] =
    ap lines (nil_from_length (lines_rest before) step.0.0) in
    (none, ap (λ r. lines (lines_rest r)) step.0.1 ∙ none)
no_line_left before after (Some line) step = tt

-- a line that it gives was the first of those left
pub first_of_left : (before after : Lines) (result : Option (Bor (List ℕ)))
    → lines_steps before result after
    → IfSome result (λ line. lines (lines_rest before) ≡ line.now ∷ lines (lines_rest after))
first_of_left before after None step = tt
first_of_left before after (Some line) step =
    lines_from_first (lines_rest before) line.now (lines_rest after) step.0.0 step.0.2
