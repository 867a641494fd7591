-- A line and a block that are written are read back, with other lines behind them.
use Rattle.std.proofs.Common.{◌≡◌, ℕ, List, [], ◌∷◌, ◌++◌, true, Ok, ap, ◌∙◌}
use Rattle.picky_text.specs.Lines.{IsLine, lines, text_of}
use Rattle.picky_text.specs.declared.lines.LineEnd.{LineEnd}
use Rattle.picky_kv.specs.Field.{Field}
use Rattle.picky_kv.specs.Literal.{IsPlain}
use Rattle.picky_kv.specs.Values.{AreFewBytes}
use Rattle.picky_kv.specs.ValueFields.{base64_field}
use Rattle.picky_kv.specs.Lines.{next_pair, next_block, value_alone}
use Rattle.picky_kv.specs.Parts.{HasNoLineEnd}
use Rattle.picky_kv.proofs.OneLineLemmas.{base64_is_one_line}
use Rattle.picky_kv.proofs.ReadBackLemmas.{pair_is_read_back, block_is_read_back}
use Rattle.picky_ppk_file.specs.Written.{line_under, rows_under, fits_block}
use Rattle.picky_ppk_file.proofs.TextLemmas.{text_of-then, few_rows}

-- the lines of a text of lines, whatever follows it
abbrev pub lines_at : LineEnd → List (List ℕ) → List ℕ → List (List ℕ)
lines_at end ls more = lines (text_of end ls ++ more)

-- A pair is.
pub pair_back : {K V : Type 0} (key : Field K) (value : Field V) (context : List ℕ) (end : LineEnd) (k : K) (v : V)
    (behind : List (List ℕ)) (more : List ℕ) → IsPlain key → key.fits k → value.fits v → IsLine end (value.spelling v)
    → next_pair key value context (lines_at end (line_under key value k v ∷ behind) more) ≡ Ok
    ((k, v), lines_at end behind more)
pair_back key value context end k v behind more plain key_fits fits line =
    ap (λ t. next_pair key value context (lines t)) (text_of-then end (line_under key value k v ∷ []) behind more)
    ∙ pair_is_read_back key value context plain end k v (text_of end behind ++ more) key_fits fits line

-- And so is its value alone.
pub value_back : {K V : Type 0} (key : Field K) (value : Field V) (context : List ℕ) (end : LineEnd) (k : K) (v : V)
    (behind : List (List ℕ)) (more : List ℕ) → IsPlain key → key.fits k → value.fits v → IsLine end (value.spelling v)
    → value_alone (next_pair key value context (lines_at end (line_under key value k v ∷ behind) more))
    ≡ Ok (v, lines_at end behind more)
value_back key value context end k v behind more plain key_fits fits line =
    ap (λ r. value_alone r) (pair_back key value context end k v behind more plain key_fits fits line)

base64_fits : (bytes : List ℕ) → AreFewBytes bytes → base64_field.fits bytes
unfolding base64_field
base64_fits bytes few = few

-- A block of bytes that fit one is.
pub bytes_back : {K : Type 0} (key : Field K) (context : List ℕ) (end : LineEnd) (k : K) (bytes : List ℕ)
    (behind : List (List ℕ)) (more : List ℕ) → IsPlain key → key.fits k → AreFewBytes bytes → fits_block bytes ≡ true
    → value_alone (next_block key base64_field context (lines_at end (rows_under key k bytes ++ behind) more))
    ≡ Ok (bytes, lines_at end behind more)
unfolding base64_field
bytes_back key context end k bytes behind more plain key_fits few fits =
    let none : HasNoLineEnd (base64_field.spelling bytes) = base64_is_one_line bytes few in
    ap (λ t. value_alone (next_block key base64_field context (lines t)))
    (text_of-then end (rows_under key k bytes) behind more)
    ∙ ap (λ r. value_alone r) (block_is_read_back key base64_field context plain end k bytes
    (text_of end behind ++ more) key_fits
    (base64_fits bytes few) none.1 none.0 (few_rows bytes fits))
