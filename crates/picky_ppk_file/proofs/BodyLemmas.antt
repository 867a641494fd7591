-- The body of the lines that are left, after what is joined so far.
use Rattle.std.proofs.Common.{◌≡◌, ℕ, List, [], ◌∷◌, ◌++◌, true, false, Some, None, sym, ap, ◌∙◌}
use Rattle.std.specs.Str.{bytes_eq}
use Rattle.picky_ppk_file.specs.PuttyPublic.{putty_footer}
use Rattle.picky_ppk_file.specs.PuttyRefusal.{body_from}
use Rattle.picky_ppk_file.proofs.BodyLaws.{at_footer, past_line, no_lines}

-- where the lines left and what is joined give the body of all: at a footer, at another line and at the end
pub body_ends : (so_far line : List ℕ) (more ls all : List (List ℕ)) → body_from so_far ls ≡ body_from [] all
    → ls ≡ line ∷ more → bytes_eq line putty_footer ≡ true → body_from [] all ≡ Some so_far
body_ends so_far line more ls all whole is same =
    sym whole ∙ ap (body_from so_far) is ∙ at_footer so_far line more same

pub body_goes_on : (so_far line next : List ℕ) (more ls all : List (List ℕ)) → body_from so_far ls ≡ body_from [] all
    → ls ≡ line ∷ more → bytes_eq line putty_footer ≡ false → next ≡ so_far ++ line → body_from next more ≡ body_from [] all
body_goes_on so_far line next more ls all whole is other joined =
    ap (λ b. body_from b more) joined ∙ sym (past_line so_far line more other) ∙ ap (body_from so_far) (sym is) ∙ whole

pub body_lacks : (so_far : List ℕ) (ls all : List (List ℕ)) → body_from so_far ls ≡ body_from [] all → ls ≡ []
    → body_from [] all ≡ None
body_lacks so_far ls all whole is = sym whole ∙ ap (body_from so_far) is ∙ no_lines so_far
