-- The content is said, and nothing else is.
use Rattle.std.proofs.Common.{subst}
use Rattle.picky_authorized.specs.Lines.{IsContentSaid}
use Rattle.picky_authorized.proofs.ContentLaws.{content_is, content_says}
use Rattle.picky_authorized.proofs.laws.line_says_its_content.Goals as goal

pub returns : goal.returns
returns c = λ line content each. (λ is. subst (IsContentSaid line) is (content_says line each), content_is line content)
