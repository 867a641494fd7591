-- What is written is read back.
use Rattle.std.specs.Prelude.{◌≡◌, ◌≤◌, ℕ, List, [], ◌∷◌, ◌++◌, length, Ok}
use Rattle.picky_text.specs.Lines.{HasNo, lines, text_of, IsLine}
use Rattle.picky_text.specs.Rows.{rows_of}
use Rattle.picky_text.specs.declared.lines.LineEnd.{LineEnd}
use Rattle.picky_kv_words.specs.Field.{Field}
use Rattle.picky_kv.specs.Lines.{next_pair, next_block}
use Rattle.picky_kv.specs.Output.{pair_line, block_lines}

-- a pair is, whatever follows, where its value has no LF, and before a lone LF no CR at its end
abbrev pub PairIsReadBack : {K V : Type 0} → Field K → Field V → List ℕ → Type 0
PairIsReadBack key value context =
    (end : LineEnd) (k : _) (v : _) (rest : List ℕ)
    → key.fits k → value.fits v → IsLine end (value.spelling v)
    → next_pair key value context
    (lines (text_of end (pair_line (key.spelling k) (value.spelling v) ∷ []) ++ rest))
    ≡ Ok ((k, v), lines rest)

-- a block is, whatever follows, where its text has no CR and no LF, and its count has 16 bits
abbrev pub BlockIsReadBack : {K V : Type 0} → Field K → Field V → List ℕ → Type 0
BlockIsReadBack key value context =
    (end : LineEnd) (k : _) (v : _) (rest : List ℕ)
    → key.fits k → value.fits v → HasNo 10 (value.spelling v) → HasNo 13 (value.spelling v)
    → length (rows_of (value.spelling v)) ≤ 65535
    → next_block key value context
    (lines (text_of end (block_lines (key.spelling k) (value.spelling v)) ++ rest))
    ≡ Ok ((k, v), lines rest)
