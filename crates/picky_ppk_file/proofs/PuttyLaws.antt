-- The laws of a PuTTY public key: its text means what it says, what is written is its one spelling, and is read back.
use Rattle.std.proofs.Common.{◌≡◌, ◌≢◌, ◌<◌, ◌^◌, ℕ, List, [], ◌∷◌, ◌++◌, length, refl, sym, ap, ◌∙◌, subst}
use Rattle.std.proofs.Common.{arith, codes}
use Rattle.std.specs.List.{AllByRecursion}
use Rattle.std.proofs.lemmas.List.{append-nil}
use Rattle.picky_wire_base.specs.Numbers.{IsBytes}
use Rattle.picky_text.specs.Base64.{base64_of}
use Rattle.picky_text.proofs.Base64Laws.{base64_has_no}
use Rattle.picky_text.specs.Rows.{rows_of}
use Rattle.picky_text.proofs.RowLaws.{rows_of_are_rows, rows_are_one, rows_have_no}
use Rattle.picky_text.specs.Lines.{text_of, HasNo, AreLines}
use Rattle.picky_text.proofs.LineLaws.{text_is_its_lines}
use Rattle.picky_text.proofs.ListLaws.{all_append}
use Rattle.picky_text.specs.Quote.{quote}
use Rattle.picky_text.proofs.QuoteLaws.{quote_is_read_back, quote_has_no}
use Rattle.picky_text.specs.declared.lines.LineEnd.TheVariants.{CrLf}
use Rattle.picky_keys.specs.declared.key.SshPublicKey.{SshPublicKey}
use Rattle.picky_keys.specs.Key.{IsKey}
use Rattle.picky_keys.specs.Blob.{blob_of}
use Rattle.picky_keys.specs.carried.Blob.{blob_spells}
use Rattle.picky_keys.proofs.LineLaws.{blob_is_bytes}
use Rattle.picky_keys.proofs.ByteLaws.{no_by_test}
use Rattle.picky_ppk_file.specs.PuttyPublic.{putty_header, putty_footer, comment_start, comment_line, putty_public}
use Rattle.picky_ppk_file.specs.PuttyPublic.{SpellsPuttyPublic, SaysPuttyPublic, IsPuttyPublic}

-- ---- the one spelling

-- The text that is written spells the blob and the comment.
pub putty_public_spells : (blob comment : List ℕ) → SpellsPuttyPublic blob comment (putty_public blob comment)
unfolding putty_public
putty_public_spells blob comment =
    record { rows = rows_of (base64_of blob); body = rows_of_are_rows (base64_of blob); whole = refl }

-- No other text does.
pub putty_public_only : (blob comment other : List ℕ) → SpellsPuttyPublic blob comment other
    → other ≡ putty_public blob comment
unfolding putty_public
putty_public_only blob comment other spells =
    let rows = rows_of (base64_of blob) in
    let same = rows_are_one (base64_of blob) spells.rows rows spells.body (rows_of_are_rows (base64_of blob)) in
    spells.whole ∙ ap (λ ls. text_of CrLf (putty_header ∷ comment_line comment ∷ ls ++ putty_footer ∷ [])) same

-- ---- what is written says the blob and the comment

-- the first and the last line
header_line : HasNo 10 putty_header
unfolding putty_header
header_line = no_by_test 10 (codes "---- BEGIN SSH2 PUBLIC KEY ----") refl

footer_line : HasNo 10 putty_footer
unfolding putty_footer
footer_line = no_by_test 10 (codes "---- END SSH2 PUBLIC KEY ----") refl

-- the comment line of a comment without LF is one line
comment_is_line : (comment : List ℕ) → HasNo 10 comment → HasNo 10 (comment_line comment)
unfolding comment_line comment_start
comment_is_line comment none =
    let quoted = quote_has_no 10 comment (λ same. absurd (omega arith)) none in
    let key = no_by_test 10 (codes "Comment: \"") refl in
    let front = all_append (λ c. c ≢ 10) (codes "Comment: \"") (quote comment) key quoted in
    all_append (λ c. c ≢ 10) (codes "Comment: \"" ++ quote comment) (34 ∷ []) front (no_by_test 10 (34 ∷ []) refl)

-- a row of a text without dashes is no footer
rows_no_footer : (rows : List (List ℕ)) → AllByRecursion (HasNo 45) rows → AllByRecursion (λ line. line ≢ putty_footer) rows
unfolding putty_footer
rows_no_footer [] none = tt
rows_no_footer (row ∷ rows) none =
    (λ is. let first = subst (HasNo 45) is none.0 in first.0 refl, rows_no_footer rows none.1)

-- the lines that are written
written_lines : (blob comment : List ℕ) → IsBytes blob → HasNo 10 comment
    → AreLines CrLf (putty_header ∷ comment_line comment ∷ rows_of (base64_of blob) ++ putty_footer ∷ [])
written_lines blob comment small none =
    let rows = rows_have_no 10 (base64_of blob) (base64_has_no 10 blob small refl) in
    let last = all_append (HasNo 10) (rows_of (base64_of blob)) (putty_footer ∷ []) rows (footer_line, tt) in
    (header_line, (comment_is_line comment none, last))

-- What is written says the blob and the comment.
pub putty_public_says : (blob comment : List ℕ) → IsBytes blob → HasNo 10 comment → length blob < 2 ^ 32
    → length comment < 2 ^ 32 → SaysPuttyPublic (putty_public blob comment) blob comment
unfolding putty_public comment_line comment_start
putty_public_says blob comment small none blob_short comment_short =
    let rows = rows_of (base64_of blob) in
    let ls = putty_header ∷ comment_line comment ∷ rows ++ putty_footer ∷ [] in
    record {
      before = [];
      between = quote comment;
      after = [];
      body = rows;
      more = [];
      whole = text_is_its_lines CrLf ls (written_lines blob comment small none);
      first_quote = tt;
      last_quote = tt;
      comment_is = sym (quote_is_read_back comment);
      first_footer = rows_no_footer rows (rows_have_no 45 (base64_of blob) (base64_has_no 45 blob small refl));
      body_is = (rows_of_are_rows (base64_of blob)).joined;
      bytes = small;
      blob_short = blob_short;
      comment_short = comment_short;
    }

-- What is written for a key means that key.
pub putty_public_means : (key : SshPublicKey) → IsKey key.inner_key → HasNo 10 key.comment
    → length (blob_of key.inner_key) < 2 ^ 32 → length key.comment < 2 ^ 32
    → IsPuttyPublic (putty_public (blob_of key.inner_key) key.comment) key
putty_public_means key is none blob_short comment_short =
    let small = blob_is_bytes key.inner_key is in
    record {
      blob = blob_of key.inner_key;
      says = putty_public_says (blob_of key.inner_key) key.comment small none blob_short comment_short;
      rest = [];
      fits = (blob_of key.inner_key, blob_spells key.inner_key is, sym (append-nil (blob_of key.inner_key)));
    }
