-- What `strip_prefix`, `split_once` and `rsplit_once` say of a comment line, in the words of the definition.
use Rattle.std.proofs.Common.{◌≡◌, ◌≢◌, ◌<◌, ℕ, List, ◌∷◌, ◌++◌, take, drop, Option, Some, None, refl, sym, ap, ◌∙◌, subst, ◌==◌}
use Rattle.std.proofs.lemmas.List.{take-append-drop}
use Rattle.std.proofs.lemmas.Str.Pattern.{NoCharPasses-char, drop_at_char}
use Rattle.std.specs.Option.{option_and_then}
use Rattle.std.specs.Str.{NoCharPasses}
use Rattle.std.specs.Str.Pattern.{RFindsChar, SplitsAroundMatch, FindsTextPrefix, StripsPrefix}
use Rattle.picky_text.specs.Lines.{HasNo}
use Rattle.picky_text.proofs.UnquoteLemmas.{none_from_places}
use Rattle.picky_ppk_file.specs.PuttyPublic.{comment_start}
use Rattle.picky_ppk_file.specs.PuttyRefusal.{between_quotes, quoted}
use Rattle.picky_text.specs.Behind.{behind}
use Rattle.picky_text.proofs.FrontLaws.{behind_says}
use Rattle.picky_ppk_file.proofs.CommentLaws.{quoted_behind, between_quotes_of, nothing_without_quotes, nothing_with_one_quote}

-- a line that doesn't begin with the key quotes nothing
pub no_key : (line : List ℕ) → ((rest : List ℕ) → line ≢ comment_start ++ rest) → quoted line ≡ None
unfolding quoted
no_key line none = go (behind comment_start line) refl
  where
    go : (o : Option (List ℕ)) → behind comment_start line ≡ o → option_and_then between_quotes o ≡ None
    go None is = refl
    go (Some rest) is = absurd (none rest (behind_says comment_start line rest is))

-- what stands behind the key
pub key_front : (line quotes : List ℕ) → StripsPrefix (FindsTextPrefix comment_start) line quotes → line ≡ comment_start ++ quotes
key_front line quotes (n, (len, is, cut), rest, all) = is ∙ ap (λ r. comment_start ++ r) (sym rest)

-- a character that is nowhere
pub nowhere : (c : ℕ) (bytes : List ℕ) → NoCharPasses (λ d. d == c) bytes → c < 128 → HasNo c bytes
nowhere c bytes none small = none_from_places c bytes (λ i inside. NoCharPasses-char c bytes i none small inside)

-- where a text is cut at its last c
pub last_parts : (c : ℕ) (bytes front back : List ℕ) → SplitsAroundMatch (RFindsChar c) bytes front back → c < 128
    → (bytes ≡ front ++ c ∷ back) × HasNo c back
last_parts c bytes front back (i, j, (none, at), is_front, is_back, order, len, all) small =
    let from = drop_at_char c bytes i j at small in (
      sym (take-append-drop i bytes) ∙ ap (λ r. take i bytes ++ r) from ∙ ap (λ l. l ++ c ∷ drop j bytes) (sym is_front)
          ∙ ap (λ r. front ++ c ∷ r) (sym is_back),
      subst (HasNo c) (sym is_back) (nowhere c (drop j bytes) none small),
    )

-- no quote, one quote, and more
pub without_quotes : (line quotes : List ℕ) → line ≡ comment_start ++ quotes → HasNo 34 quotes → quoted line ≡ None
without_quotes line quotes is none = quoted_behind line quotes is ∙ nothing_without_quotes quotes none

pub with_one_quote : (line quotes before after : List ℕ) → line ≡ comment_start ++ quotes → quotes ≡ before ++ 34 ∷ after
    → HasNo 34 before → HasNo 34 after → quoted line ≡ None
with_one_quote line quotes before after is parts first last =
    quoted_behind line quotes is ∙ ap between_quotes parts ∙ nothing_with_one_quote before after first last

pub with_quotes : (line quotes before rest between after : List ℕ) → line ≡ comment_start ++ quotes
    → quotes ≡ before ++ 34 ∷ rest → HasNo 34 before → rest ≡ between ++ 34 ∷ after → HasNo 34 after
    → quoted line ≡ Some between
with_quotes line quotes before rest between after is parts first cut last =
    quoted_behind line quotes is ∙ ap between_quotes (parts ∙ ap (λ r. before ++ 34 ∷ r) cut)
    ∙ between_quotes_of before between after first last
