-- The laws of a body: it is the lines up to the first footer, joined.
use Rattle.std.proofs.Common.{◌≡◌, ◌≢◌, ℕ, List, [], ◌∷◌, ◌++◌, true, false, Some, None, refl, sym, ap, ◌∙◌}
use Rattle.std.proofs.Common.{inl, inr}
use Rattle.std.specs.List.{AllByRecursion, concat}
use Rattle.std.specs.Str.{bytes_eq}
use Rattle.std.proofs.lemmas.Bool.{cases_Bool}
use Rattle.std.proofs.lemmas.List.{append_assoc, append-nil}
use Rattle.std.proofs.lemmas.Slice.Eq.{bytes_eq-Decides}
use Rattle.picky_ppk_file.specs.PuttyPublic.{putty_footer}
use Rattle.picky_ppk_file.specs.PuttyRefusal.{body_from}

-- the test of two texts
pub same_line : (line known : List ℕ) → line ≡ known → bytes_eq line known ≡ true
same_line line known is = (bytes_eq-Decides line known).1 is

pub line_is : (line known : List ℕ) → bytes_eq line known ≡ true → line ≡ known
line_is line known same = (bytes_eq-Decides line known).0 same

pub other_line : (line known : List ℕ) → line ≢ known → bytes_eq line known ≡ false
other_line line known other = elim (cases_Bool (bytes_eq line known)) [
  | inl same ↦ absurd (other (line_is line known same))
  | inr differs ↦ differs
]

-- At a footer the body is what is joined.
pub at_footer : (so_far line : List ℕ) (more : List (List ℕ)) → bytes_eq line putty_footer ≡ true
    → body_from so_far (line ∷ more) ≡ Some so_far
unfolding body_from
at_footer so_far line more same = rw same refl

-- At another line it is that of the lines behind it.
pub past_line : (so_far line : List ℕ) (more : List (List ℕ)) → bytes_eq line putty_footer ≡ false
    → body_from so_far (line ∷ more) ≡ body_from (so_far ++ line) more
unfolding body_from
past_line so_far line more other = rw other refl

-- Without lines there is none.
pub no_lines : (so_far : List ℕ) → body_from so_far [] ≡ None
unfolding body_from
no_lines so_far = refl

-- The lines before the first footer are the body.
pub body_of : (so_far : List ℕ) (body more : List (List ℕ)) → AllByRecursion (λ line. line ≢ putty_footer) body
    → body_from so_far (body ++ putty_footer ∷ more) ≡ Some (so_far ++ concat body)
body_of so_far [] more none =
    at_footer so_far putty_footer more (same_line putty_footer putty_footer refl) ∙ ap Some (sym (append-nil so_far))
body_of so_far (line ∷ body) more none =
    past_line so_far line (body ++ putty_footer ∷ more) (other_line line putty_footer none.0)
    ∙ body_of (so_far ++ line) body more none.1 ∙ ap Some (append_assoc so_far line (concat body))

-- the lines up to the first footer
pub record IsBody (ls : List (List ℕ)) (so_far joined : List ℕ) : Type 0 where
  pub body : List (List ℕ)
  pub more : List (List ℕ)
  pub are : ls ≡ body ++ putty_footer ∷ more
  pub first_footer : AllByRecursion (λ line. line ≢ putty_footer) body
  pub joined_is : joined ≡ so_far ++ concat body

-- A body is those lines.
pub body_says : (so_far : List ℕ) (ls : List (List ℕ)) (joined : List ℕ) → body_from so_far ls ≡ Some joined
    → IsBody ls so_far joined
body_says so_far [] joined says = cc (says, no_lines so_far)
body_says so_far (line ∷ ls) joined says = elim (cases_Bool (bytes_eq line putty_footer)) [
  | inl same ↦
      let all : so_far ≡ joined = cc (says, at_footer so_far line ls same) in
      record {
        body = [];
        more = ls;
        are = ap (λ l. l ∷ ls) (line_is line putty_footer same);
        first_footer = tt;
        joined_is = sym all ∙ sym (append-nil so_far);
      }
  | inr other ↦
      let rest = body_says (so_far ++ line) ls joined (sym (past_line so_far line ls other) ∙ says) in
      record {
        body = line ∷ rest.body;
        more = rest.more;
        are = ap (λ l. line ∷ l) rest.are;
        first_footer = (λ is. cc (other, same_line line putty_footer is), rest.first_footer);
        joined_is = rest.joined_is ∙ append_assoc so_far line (concat rest.body);
      }
]
