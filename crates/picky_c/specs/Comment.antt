-- A key text with another comment.
use Rattle.std.specs.Prelude.{List, ℕ, Result}
use Rattle.picky_wire_base.specs.Outcome.{and_then, map_err}
use Rattle.picky_suite.specs.Meanings.{plain}
use Rattle.picky_changed.specs.Comment.{commented_text}
use Rattle.picky_c.specs.Given.{utf8}
use Rattle.picky_c.specs.Refusal.{refusal_of}
use Rattle.picky_c.specs.declared.error.PickyError.{PickyError}
use Rattle.picky_c.specs.declared.error.PickyError.TheVariants as errors

-- the text with the comment, or the first reason why there is none
abbrev pub commented : (text comment : List ℕ) → Result (List ℕ) PickyError
commented text comment =
    and_then (utf8 errors.TextNotUtf8 text) (λ text.
    and_then (utf8 errors.CommentNotUtf8 comment) (λ comment.
    map_err refusal_of (commented_text plain comment text)))
