-- The laws of a comment line: what is quoted stands between its first and its last quote, and nothing else does.
use Rattle.std.proofs.Common.{◌≡◌, ℕ, List, ◌∷◌, ◌++◌, Option, Some, None, refl, sym, ap, ◌∙◌, inl, inr}
use Rattle.std.specs.List.{list_any}
use Rattle.std.specs.Option.{option_and_then}
use Rattle.std.proofs.lemmas.Bool.{cases_Bool}
use Rattle.std.proofs.lemmas.List.{append_assoc}
use Rattle.picky_text.specs.Behind.{behind}
use Rattle.picky_text.specs.Lines.{HasNo}
use Rattle.picky_text.proofs.FrontLaws.{behind_front, behind_says}
use Rattle.picky_text.proofs.ListLaws.{cut_at_first}
use Rattle.picky_keys.proofs.ByteLaws.{no_by_test}
use Rattle.picky_ppk_file.specs.PuttyPublic.{comment_start}
use Rattle.picky_ppk_file.specs.PuttyRefusal.{is_quote, between_quotes, quoted}
use Rattle.picky_ppk_file.proofs.QuoteMarks.{fail_test, no_quote, has_quote, first_quote, last_quote}
use Rattle.picky_ppk_file.proofs.QuoteMarks.{before_last_quote}

-- ---- what is quoted

-- The text between the first and the last quote is what is quoted.
pub between_quotes_of : (before between after : List ℕ) → HasNo 34 before → HasNo 34 after
    → between_quotes (before ++ 34 ∷ (between ++ 34 ∷ after)) ≡ Some between
unfolding between_quotes
between_quotes_of before between after first last =
    let rest : List ℕ = between ++ 34 ∷ after in
    let cut = cut_at_first is_quote before 34 rest (fail_test before first) refl in
    rw (has_quote before rest, cut.after, has_quote between after, before_last_quote between after last) refl

-- Nothing is where there is no quote, or one.
pub nothing_without_quotes : (text : List ℕ) → HasNo 34 text → between_quotes text ≡ None
unfolding between_quotes
nothing_without_quotes text none = rw (no_quote text none) refl

pub nothing_with_one_quote : (before after : List ℕ) → HasNo 34 before → HasNo 34 after
    → between_quotes (before ++ 34 ∷ after) ≡ None
unfolding between_quotes
nothing_with_one_quote before after first last =
    let cut = cut_at_first is_quote before 34 after (fail_test before first) refl in
    rw (has_quote before after, cut.after, no_quote after last) refl

-- the text, cut at its first and its last quote
pub record IsCutAtQuotes (text between : List ℕ) : Type 0 where
  pub before : List ℕ
  pub after : List ℕ
  pub is : text ≡ before ++ 34 ∷ (between ++ 34 ∷ after)
  pub first : HasNo 34 before
  pub last : HasNo 34 after

-- What is quoted stands there.
pub between_quotes_says : (text between : List ℕ) → between_quotes text ≡ Some between → IsCutAtQuotes text between
between_quotes_says text between says = elim (cases_Bool (list_any is_quote text)) [
  | inr none ↦ cc (says, nothing_without_quotes text (no_by_test 34 text none))
  | inl some ↦
      let one = first_quote text some in
      elim (cases_Bool (list_any is_quote one.rest)) [
        | inr none ↦
            let nothing = nothing_with_one_quote one.before one.rest one.none (no_by_test 34 one.rest none) in
            cc (says, ap between_quotes one.is ∙ nothing)
        | inl more ↦
            let two = last_quote one.rest more in
            let is = one.is ∙ ap (λ r. one.before ++ 34 ∷ r) two.is in
            let found = ap between_quotes is ∙ between_quotes_of one.before two.between two.after one.none two.none in
            let same : two.between ≡ between = cc (says, found) in
            record {
              before = one.before;
              after = two.after;
              is = is ∙ ap (λ b. one.before ++ 34 ∷ (b ++ 34 ∷ two.after)) same;
              first = one.none;
              last = two.none;
            }
      ]
]

-- ---- a comment line

-- A line that begins with the key quotes what is quoted behind it.
pub quoted_behind : (line quotes : List ℕ) → line ≡ comment_start ++ quotes → quoted line ≡ between_quotes quotes
unfolding quoted
quoted_behind line quotes is = ap quoted is ∙ ap (option_and_then between_quotes) (behind_front comment_start quotes)

-- the parts of a comment line, however they are joined
comment_parts : (before between after : List ℕ) → comment_start ++ before ++ 34 ∷ between ++ 34 ∷ after
    ≡ comment_start ++ (before ++ 34 ∷ (between ++ 34 ∷ after))
comment_parts before between after = simp append_assoc

-- A comment line quotes what stands between its first and its last quote.
pub quoted_of : (before between after : List ℕ) → HasNo 34 before → HasNo 34 after
    → quoted (comment_start ++ before ++ 34 ∷ between ++ 34 ∷ after) ≡ Some between
quoted_of before between after first last =
    quoted_behind _ (before ++ 34 ∷ (between ++ 34 ∷ after)) (comment_parts before between after)
    ∙ between_quotes_of before between after first last

-- the line, cut at its key and its first and its last quote
pub record IsCommentLine (line between : List ℕ) : Type 0 where
  pub before : List ℕ
  pub after : List ℕ
  pub is : line ≡ comment_start ++ before ++ 34 ∷ between ++ 34 ∷ after
  pub first : HasNo 34 before
  pub last : HasNo 34 after

-- What a line quotes stands there.
pub quoted_says : (line between : List ℕ) → quoted line ≡ Some between → IsCommentLine line between
unfolding quoted
quoted_says line between says = go (behind comment_start line) refl says
  where
    go : (o : Option (List ℕ)) → behind comment_start line ≡ o → option_and_then between_quotes o ≡ Some between
        → IsCommentLine line between
    go None is none = cc none
    go (Some quotes) is some =
        let cut = between_quotes_says quotes between some in
        record {
          before = cut.before;
          after = cut.after;
          is = behind_says comment_start line quotes is ∙ ap (λ q. comment_start ++ q) cut.is
              ∙ sym (comment_parts cut.before between cut.after);
          first = cut.first;
          last = cut.last;
        }
