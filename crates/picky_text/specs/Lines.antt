-- Lines, as std's `lines` splits them: at LF, and one CR before that LF is no part of the line.
use Rattle.std.proofs.Common.{◌≡◌, ◌≢◌, ℕ, ◌-◌, List, ◌++◌, length, slice_index}
use Rattle.std.specs.List.{AllByRecursion, flat_map}
use Rattle.std.specs.Prelude.{◌≢◌, List, [], ◌∷◌, ◌++◌, ℕ}
use Rattle.picky_text.specs.declared.lines.LineEnd.{LineEnd}
use Rattle.picky_text.specs.declared.lines.LineEnd.TheVariants.{Lf, CrLf}
pub use Rattle.std.specs.Str.Lines.{lines}

-- the bytes that end a line
abbrev pub end_bytes : LineEnd → List ℕ
end_bytes Lf = 10 ∷ []
end_bytes CrLf = 13 ∷ 10 ∷ []

-- the text of the lines, each with its end
unfoldable pub text_of : LineEnd → List (List ℕ) → List ℕ
text_of end ls = flat_map (λ line. line ++ end_bytes end) ls

-- the byte stands nowhere in the bytes
abbrev pub HasNo : ℕ → List ℕ → Type 0
HasNo b bytes = AllByRecursion (λ c. c ≢ b) bytes

-- the bytes may stand before this end: no LF among them, and before a lone LF no CR at their end
abbrev pub IsLine : LineEnd → List ℕ → Type 0
IsLine Lf line = (HasNo 10 line) × (slice_index line (length line - 1) ≢ 13)
IsLine CrLf line = HasNo 10 line

-- each may
abbrev pub AreLines : LineEnd → List (List ℕ) → Type 0
AreLines end ls = AllByRecursion (IsLine end) ls

-- whatever follows the text of these lines, they are the first of its lines
abbrev pub AreReadFirst : LineEnd → List (List ℕ) → Type 0
AreReadFirst end ls = (rest : List ℕ) → lines (text_of end ls ++ rest) ≡ ls ++ lines rest
