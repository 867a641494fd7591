-- The parts of a text between its lines that are exactly `%%`.
use Rattle.std.specs.Prelude.{ℕ, List, [], ◌∷◌, ◌++◌, if◌then◌else◌}
use Rattle.picky_issuing.specs.Parts.{is_mark, lines_with_ends}

-- a line is the first of the first part
abbrev pub onto_part : (line : List ℕ) → List (List ℕ) → List (List ℕ)
onto_part line [] = line ∷ []
onto_part line (part ∷ parts) = (line ++ part) ∷ parts

-- each mark ends a part, and what follows the last is a part too, though it is empty
abbrev pub parts_of_lines : List (List ℕ) → List (List ℕ)
parts_of_lines [] = [] ∷ []
parts_of_lines (line ∷ more) =
    if is_mark line then [] ∷ parts_of_lines more else onto_part line (parts_of_lines more)

-- each with the ends of its lines
abbrev pub text_parts : List ℕ → List (List ℕ)
text_parts text = parts_of_lines (lines_with_ends text)
