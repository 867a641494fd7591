-- Texts in UTF-8: their lines, and what stands between ASCII bytes in them, are UTF-8.
use Rattle.std.proofs.Common.{◌≡◌, ℕ, ◌<◌, ◌+◌, ◌-◌, ◌==◌, ◌&&◌, List, [], ◌∷◌, ◌++◌, sym, arith}
use Rattle.std.proofs.Common.{inl, inr, subst, length, slice_index, append_assoc, length-append}
use Rattle.std.proofs.lemmas.Bool.{cases_Bool, cases_lt, eqb-true, and_parts}
use Rattle.std.proofs.lemmas.List.{append-nil, get_or_past}
use Rattle.std.proofs.lemmas.Str.{IsUtf8-append, IsUtf8-take, IsUtf8-drop}
use Rattle.std.proofs.lemmas.Str.{IsCharBoundary-before_ascii, IsCharBoundary-after_ascii}
use Rattle.std.proofs.Math.Seq.{take-append_seam, drop-append-add, get_or-append_seam}
use Rattle.std.specs.List.{AllByRecursion, slice_split, onto_first}
use Rattle.std.specs.Str.{IsUtf8}
use Rattle.std.specs.Str.Lines.{lines_of_parts, strip_carriage_return}
use Rattle.picky_text.specs.Lines.{lines}
use Rattle.picky_text.specs.Quote.{is_special, unquote}

-- ---- cut at an ASCII byte

-- What stands before an ASCII byte is UTF-8, and so is what follows it.
pub cut_at_ascii : (front : List ℕ) (b : ℕ) (rest : List ℕ) → b < 128 → IsUtf8 (front ++ b ∷ rest)
    → IsUtf8 front × IsUtf8 rest
cut_at_ascii front b rest ascii utf8 =
    let text : List ℕ = front ++ b ∷ rest in
    let n : ℕ = length front in
    let here : slice_index text n ≡ b = get_or-append_seam front b rest 0 in
    let within : n < length text = omega (arith, length-append front (b ∷ rest)) in
    let small : slice_index text n < 128 = subst (λ c. c < 128) (sym here) ascii in (
      subst IsUtf8 (take-append_seam front (b ∷ rest)) (IsUtf8-take text n utf8 (IsCharBoundary-before_ascii text n within small)),
      subst IsUtf8 (drop-append-add front (b ∷ rest) 1)
          (IsUtf8-drop text (n + 1) utf8 (IsCharBoundary-after_ascii text n utf8 within small)),
    )

-- ---- lines

abbrev pub AreUtf8 : List (List ℕ) → Type 0
AreUtf8 ls = AllByRecursion IsUtf8 ls

-- parts are UTF-8, the first of them behind what stands in front
abbrev AreBehind : List ℕ → List (List ℕ) → Type 0
AreBehind front [] = IsUtf8 front
AreBehind front (part ∷ parts) = IsUtf8 (front ++ part) × AreUtf8 parts

one_more : (front : List ℕ) (b : ℕ) (parts : List (List ℕ)) → AreBehind (front ++ b ∷ []) parts
    → AreBehind front (onto_first b parts)
one_more front b [] are = (are, tt)
one_more front b (part ∷ parts) are = (subst IsUtf8 (append_assoc front (b ∷ []) part) are.0, are.1)

none_behind : (parts : List (List ℕ)) → AreBehind [] parts → AreUtf8 parts
none_behind [] are = tt
none_behind (part ∷ parts) are = are

parts_behind : (front bytes : List ℕ) → IsUtf8 (front ++ bytes) → AreBehind front (slice_split (λ b. b == 10) bytes)
parts_behind front [] utf8 = (utf8, tt)
parts_behind front (b ∷ bytes) utf8 = elim (cases_Bool (b == 10)) [
  | inl end ↦
      let ascii : b < 128 = omega (arith, eqb-true b 10 end) in
      let cut = cut_at_ascii front b bytes ascii utf8 in
      rw end (subst IsUtf8 (sym (append-nil front)) cut.0, none_behind _ (parts_behind [] bytes cut.1))
  | inr inside ↦
      rw inside (one_more front b (slice_split (λ b. b == 10) bytes)
      (parts_behind (front ++ b ∷ []) bytes (subst IsUtf8 (sym (append_assoc front (b ∷ []) bytes)) utf8)))
]

stripped : (part : List ℕ) → IsUtf8 part → IsUtf8 (strip_carriage_return part)
stripped part utf8 = elim (cases_Bool (slice_index part (length part - 1) == 13)) [
  | inl cr ↦
      let n : ℕ = length part - 1 in
      let is : slice_index part n ≡ 13 = eqb-true (slice_index part n) 13 cr in
      let within : n < length part = elim (cases_lt n (length part)) [
        | inl inside ↦ inside
        | inr past ↦ absurd (omega (arith, is, get_or_past part n 0 past))
      ] in
      rw cr (IsUtf8-take part n utf8 (IsCharBoundary-before_ascii part n within (omega (arith, is))))
  | inr other ↦ rw other utf8
]

lines_in_parts : (parts : List (List ℕ)) → AreUtf8 parts → AreUtf8 (lines_of_parts parts)
lines_in_parts [] each = tt
lines_in_parts (part ∷ []) each = elim (cases_Bool (length part == 0)) [
  | inl empty ↦ rw empty tt
  | inr some ↦ rw some (each.0, tt)
]
lines_in_parts (part ∷ next ∷ parts) each = (stripped part each.0, lines_in_parts (next ∷ parts) each.1)

-- The lines of a text are UTF-8.
pub lines_are_utf8 : (text : List ℕ) → IsUtf8 text → AreUtf8 (lines text)
lines_are_utf8 text utf8 = lines_in_parts _ (none_behind _ (parts_behind [] text utf8))

-- ---- quotes

unquoted_behind : (front bytes : List ℕ) → IsUtf8 (front ++ bytes) → IsUtf8 (front ++ unquote bytes)
unquoted_behind front [] utf8 = utf8
unquoted_behind front (b ∷ []) utf8 = utf8
unquoted_behind front (b ∷ c ∷ bytes) utf8 = elim (cases_Bool (b == 92 && is_special c)) [
  | inl both ↦
      let tests = and_parts (b == 92) (is_special c) both in
      let ascii : b < 128 = omega (arith, eqb-true b 92 tests.0) in
      let cut = cut_at_ascii front b (c ∷ bytes) ascii utf8 in
      let joined : IsUtf8 ((front ++ c ∷ []) ++ bytes) =
      subst IsUtf8 (sym (append_assoc front (c ∷ []) bytes)) (IsUtf8-append front (c ∷ bytes) cut.0 cut.1) in
      rw both (subst IsUtf8 (append_assoc front (c ∷ []) (unquote bytes)) (unquoted_behind (front ++ c ∷ []) bytes joined))
  | inr plain ↦
      rw plain (subst IsUtf8 (append_assoc front (b ∷ []) (unquote (c ∷ bytes))) (unquoted_behind (front ++ b ∷ []) (c ∷ bytes)
      (subst IsUtf8 (sym (append_assoc front (b ∷ []) (c ∷ bytes))) utf8)))
]

-- A text that was quoted is UTF-8 unquoted.
pub unquote_is_utf8 : (text : List ℕ) → IsUtf8 text → IsUtf8 (unquote text)
unquote_is_utf8 text utf8 = unquoted_behind [] text utf8
