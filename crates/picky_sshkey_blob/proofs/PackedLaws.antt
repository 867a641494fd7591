-- The laws of packing: it leaves out blanks alone, so rows are packed to what they join to.
use Rattle.std.proofs.Common.{◌≡◌, ℕ, List, [], ◌∷◌, ◌++◌, true, false, not, IsTrue, refl, sym, ap, ◌∙◌, subst, arith}
use Rattle.std.proofs.Common.{take, drop, slice_index, length, append_assoc, ◌<◌, ◌≤◌, ◌+◌}
use Rattle.std.proofs.Common.{zero, suc, inl, inr}
use Rattle.std.proofs.lemmas.Bool.{cases_Bool}
use Rattle.std.proofs.lemmas.Bool.Decides.{nat_tests}
use Rattle.std.proofs.lemmas.List.{append-nil, take-append-drop, drop_more, length-drop}
use Rattle.std.proofs.lemmas.List.Elements.{filter-append}
use Rattle.std.specs.List.{AllByRecursion, concat, flat_map}
use Rattle.picky_wire_base.specs.Numbers.{IsBytes}
use Rattle.picky_text.specs.Base64.{base64_of, is_base64_symbol}
use Rattle.picky_text.specs.Lines.{text_of}
use Rattle.picky_text.specs.Rows.{rows_of}
use Rattle.picky_text.specs.declared.lines.LineEnd.TheVariants.{Lf}
use Rattle.picky_text.proofs.Base64Laws.{base64_alphabet}
use Rattle.picky_text.proofs.ListLaws.{all_weaker}
use Rattle.picky_text.proofs.RowLaws.{rows_of_are_rows, all_in_parts}
use Rattle.picky_sshkey_blob.specs.Pem.{is_blank, packed}

-- none of the bytes is a blank
abbrev pub HasNoBlank : List ℕ → Type 0
HasNoBlank bytes = AllByRecursion (λ b. is_blank b ≡ false) bytes

-- Bytes without blanks stay.
pub packed_whole : (bytes : List ℕ) → HasNoBlank bytes → packed bytes ≡ bytes
unfolding packed
packed_whole [] none = refl
packed_whole (b ∷ bytes) none = rw none.0 (ap (λ l. b ∷ l) (packed_whole bytes none.1))

-- Two lists are packed one after the other.
pub packed_append : (x y : List ℕ) → packed (x ++ y) ≡ packed x ++ packed y
unfolding packed
packed_append x y = filter-append (λ b. not (is_blank b)) x y

-- A blank is left out.
pub packed_blank : (b : ℕ) (bytes : List ℕ) → is_blank b ≡ true → packed (b ∷ bytes) ≡ packed bytes
unfolding packed
packed_blank b bytes blank = rw blank refl

-- Rows without blanks are packed to what they join to.
pub packed_rows : (rows : List (List ℕ)) → AllByRecursion HasNoBlank rows → packed (text_of Lf rows) ≡ concat rows
unfolding text_of packed
packed_rows [] none = refl
packed_rows (row ∷ rows) none =
    packed_append (row ++ 10 ∷ []) (flat_map (λ line. line ++ 10 ∷ []) rows)
    ∙ ap (λ l. l ++ packed (flat_map (λ line. line ++ 10 ∷ []) rows))
    (packed_append row (10 ∷ []) ∙ append-nil (packed row) ∙ packed_whole row none.0)
    ∙ ap (λ l. row ++ l) (packed_rows rows none.1)

symbol_no_blank : (b : ℕ) → IsTrue (is_base64_symbol b) → is_blank b ≡ false
symbol_no_blank b symbol = grind (arith, nat_tests)

-- Base64 has no blank.
pub base64_no_blank : (content : List ℕ) → IsBytes content → HasNoBlank (base64_of content)
base64_no_blank content small =
    all_weaker (λ b. IsTrue (is_base64_symbol b)) (λ b. is_blank b ≡ false) symbol_no_blank (base64_of content)
    (base64_alphabet content small)

-- So its rows are packed to it.
pub packed_base64_rows : (content : List ℕ) → IsBytes content
    → packed (text_of Lf (rows_of (base64_of content))) ≡ base64_of content
packed_base64_rows content small =
    let joined = (rows_of_are_rows (base64_of content)).joined in
    let each = subst HasNoBlank (sym joined) (base64_no_blank content small) in
    packed_rows (rows_of (base64_of content)) (all_in_parts (λ b. is_blank b ≡ false) (rows_of (base64_of content)) each)
    ∙ joined

-- ---- by rows

-- Bytes up to their end.
pub packed_up_to : (bytes row more : List ℕ) (at : ℕ) → row ≡ take at bytes → more ≡ drop at bytes
    → packed bytes ≡ packed row ++ packed more
packed_up_to bytes row more at row_is more_is =
    ap packed (sym (take-append-drop at bytes)) ∙ packed_append (take at bytes) (drop at bytes)
    ∙ ap (λ l. packed l ++ packed (drop at bytes)) (sym row_is)
    ∙ ap (λ l. packed row ++ packed l) (sym more_is)

-- Bytes at a blank.
pub packed_at : (bytes row more after : List ℕ) (b at : ℕ) → row ≡ take at bytes → more ≡ drop at bytes
    → more ≡ b ∷ after → (at < length bytes → is_blank (slice_index bytes at) ≡ true)
    → packed bytes ≡ packed row ++ packed after
packed_at bytes row more after b at row_is more_is begins blank =
    let inside : at < length bytes = omega (arith, ap length (sym more_is ∙ begins), length-drop at bytes) in
    let same : slice_index bytes at ∷ drop (at + 1) bytes ≡ b ∷ after = sym (drop_more bytes at 0 inside) ∙ sym more_is ∙ begins in
    let first : slice_index bytes at ≡ b = cc same in
    let left_out = packed_blank b after (subst (λ x. is_blank x ≡ true) first (blank inside)) in
    packed_up_to bytes row more at row_is more_is ∙ ap (λ l. packed row ++ packed l) begins
    ∙ ap (λ l. packed row ++ l) left_out

-- Before the first row.
pub packed_starts : (bytes joined : List ℕ) → joined ≡ [] → packed joined ++ packed bytes ≡ packed bytes
unfolding packed
packed_starts bytes joined none = rw none refl

-- After the last.
pub packed_ends : (bytes joined rest : List ℕ) → rest ≡ [] → packed joined ++ packed rest ≡ packed bytes
    → packed joined ≡ packed bytes
unfolding packed
packed_ends bytes joined rest empty before =
    sym (append-nil (packed joined)) ∙ ap (λ l. packed joined ++ packed l) (sym empty) ∙ before

-- A blank at the front.
pub packed_front : (bytes rest more : List ℕ) (b : ℕ) → rest ≡ b ∷ more → is_blank b ≡ true
    → packed rest ≡ packed bytes → packed more ≡ packed bytes
packed_front bytes rest more b begins blank before =
    sym (packed_blank b more blank) ∙ ap packed (sym begins) ∙ before

-- One row more.
pub packed_row_more : (bytes joined next row rest more : List ℕ) → next ≡ joined ++ row
    → packed rest ≡ packed row ++ packed more → packed joined ++ packed rest ≡ packed bytes
    → packed next ++ packed more ≡ packed bytes
packed_row_more bytes joined next row rest more next_is parts before =
    ap (λ l. packed l ++ packed more) next_is ∙ ap (λ l. l ++ packed more) (packed_append joined row)
    ∙ append_assoc (packed joined) (packed row) (packed more) ∙ ap (λ l. packed joined ++ l) (sym parts) ∙ before

above_blank : (b : ℕ) → 32 < b → is_blank b ≡ false
above_blank b above = grind (arith, nat_tests)

no_blank_above : (bytes : List ℕ) (least : ℕ) → 32 < least
    → ((k : ℕ) → k < length bytes → least ≤ slice_index bytes k) → HasNoBlank bytes
no_blank_above [] least above each = tt
no_blank_above (b ∷ bytes) least above each =
    let first : least ≤ b = each 0 (omega arith) in
    (above_blank b (omega arith), no_blank_above bytes least above (λ k inside. each (suc k) (omega arith)))

-- Bytes above the space have no blank among them.
pub packed_above : (bytes : List ℕ) (least : ℕ) → 32 < least
    → ((k : ℕ) → k < length bytes → least ≤ slice_index bytes k) → packed bytes ≡ bytes
packed_above bytes least above each = packed_whole bytes (no_blank_above bytes least above each)

-- ---- bytes

first_byte : (b : ℕ) (bytes : List ℕ) → b < 256 → IsBytes bytes → IsBytes (b ∷ bytes)
first_byte b bytes first rest zero = first
first_byte b bytes first rest (suc i) = rest i

-- Bytes less their blanks are bytes.
pub packed_is_bytes : (bytes : List ℕ) → IsBytes bytes → IsBytes (packed bytes)
unfolding packed
packed_is_bytes [] small = λ i. omega arith
packed_is_bytes (b ∷ bytes) small =
    let more = packed_is_bytes bytes (λ i. small (suc i)) in
    elim (cases_Bool (is_blank b)) [
      | inl blank ↦ rw blank more
      | inr other ↦ rw other (first_byte b (packed bytes) (small 0) more)
    ]
