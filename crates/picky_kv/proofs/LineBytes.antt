-- Lines of bytes are bytes, and so are bytes joined.
use Rattle.std.proofs.Common.{◌<◌, ◌-◌, ℕ, suc, List, [], ◌∷◌, length, slice_index, take, drop, Bool}
use Rattle.std.proofs.Common.{sym, subst, inl, inr, ◌==◌}
use Rattle.std.specs.List.{AllByRecursion, concat, slice_split, onto_first}
use Rattle.std.specs.Str.Lines.{lines_of_parts, strip_carriage_return}
use Rattle.std.proofs.lemmas.Bool.{cases_Bool}
use Rattle.std.proofs.lemmas.List.{take-append-drop}
use Rattle.picky_wire_base.specs.Numbers.{IsBytes}
use Rattle.picky_wire_base.proofs.Numbers.{EachByte, each_by_place}
use Rattle.picky_text.specs.Lines.{lines}
use Rattle.picky_text.proofs.ListLaws.{all_append, all_front}

-- all are bytes
abbrev pub AreBytes : List (List ℕ) → Type 0
AreBytes ls = AllByRecursion EachByte ls

-- by its place, and in turn
each_in_turn : (bytes : List ℕ) → IsBytes bytes → EachByte bytes
each_in_turn [] each = tt
each_in_turn (b ∷ bytes) each = (each 0, each_in_turn bytes (λ i. each (suc i)))

-- the parts between line ends
first_grows : (b : ℕ) (parts : List (List ℕ)) → b < 256 → AreBytes parts
    → AreBytes (onto_first b parts)
first_grows b [] small each = ((small, tt), tt)
first_grows b (part ∷ parts) small each = ((small, each.0), each.1)

parts_of_bytes : (ends : ℕ → Bool) (bytes : List ℕ) → EachByte bytes → AreBytes (slice_split ends bytes)
parts_of_bytes ends [] each = (tt, tt)
parts_of_bytes ends (b ∷ bytes) each =
    let more = parts_of_bytes ends bytes each.1 in
    elim (cases_Bool (ends b)) [
      | inl end ↦ rw end (tt, more)
      | inr inside ↦ rw inside (first_grows b (slice_split ends bytes) each.0 more)
    ]

-- a part without the CR at its end
stripped : (part : List ℕ) → EachByte part → EachByte (strip_carriage_return part)
stripped part each = elim (cases_Bool (slice_index part (length part - 1) == 13)) [
  | inl cr ↦
      let n : ℕ = length part - 1 in
      let front = subst EachByte (sym (take-append-drop n part)) each in
      rw cr (all_front (λ b. b < 256) (take n part) (drop n part) front)
  | inr other ↦ rw other each
]

-- the lines in the parts
lines_in_parts : (parts : List (List ℕ)) → AreBytes parts → AreBytes (lines_of_parts parts)
lines_in_parts [] each = tt
lines_in_parts (part ∷ []) each = elim (cases_Bool (length part == 0)) [
  | inl empty ↦ rw empty tt
  | inr some ↦ rw some (each.0, tt)
]
lines_in_parts (part ∷ next ∷ parts) each = (stripped part each.0, lines_in_parts (next ∷ parts) each.1)

-- what is joined
joined_each : (ls : List (List ℕ)) → AreBytes ls → EachByte (concat ls)
joined_each [] each = tt
joined_each (line ∷ ls) each = all_append (λ b. b < 256) line (concat ls) each.0 (joined_each ls each.1)

-- The lines of bytes are bytes.
pub lines_are_bytes : (text : List ℕ) → IsBytes text → AreBytes (lines text)
lines_are_bytes text each = lines_in_parts _ (parts_of_bytes (λ b. b == 10) text (each_in_turn text each))

-- What joins lines of bytes is bytes.
pub joined_is_bytes : (ls : List (List ℕ)) → AreBytes ls → IsBytes (concat ls)
joined_is_bytes ls each = each_by_place (concat ls) (joined_each ls each)
