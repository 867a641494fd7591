-- A whole message.
use Rattle.std.proofs.Common.{◌≤◌, ℕ, subst, Option, Ok}
use Rattle.std.specs.Prelude.{IfSome}
use Rattle.picky_agent.specs.Frame.{Walks, message_limit}
use Rattle.picky_agent.specs.inner.Frame.{Lens}
use Rattle.picky_agent.proofs.FrameLemmas.{refuses_message, takes_message}
use Rattle.picky_agent.proofs.frame.take_message.Goals as goal

pub returns-in-Ok : goal.returns-in-Ok
returns-in-Ok g c =
    let len = c.in-Ok-Some.len in
    let is = c.in-Ok-Some.field-0-is in
    let range : (1 ≤ len) × (len ≤ message_limit) =
    subst (λ (o : Option ℕ). IfSome o (λ n. (1 ≤ n) × (n ≤ message_limit))) is c.in-Ok-Some.ensures.in_range in
    takes_message g.S.Source.tells g.S.Source.left g.S.Source.faults len c.in-Ok.message
    c.args.source.now c.take_len.new.source c.take_body.new.source
    range.0 range.1 c.in-Ok.ensures.len
    (λ told. subst (λ (o : Option ℕ). Lens (Ok o) (g.S.Source.left c.args.source.now) (g.S.Source.left c.take_len.new.source)) is
    (c.in-Ok-Some.ensures.lens told))
    (subst (λ (o : Option ℕ). Walks g.S.Source.tells g.S.Source.left g.S.Source.faults (Ok o) c.args.source.now c.take_len.new.source) is
    c.in-Ok-Some.ensures.walks)
    c.in-Ok.ensures.bodies c.in-Ok.ensures.walks

-- A message that is cut, or is read no further.
pub returns-in-Err-take_body : goal.returns-in-Err-take_body
returns-in-Err-take_body g c =
    let len = c.in-Ok-Some.len in
    let is = c.in-Ok-Some.field-0-is in
    let range : (1 ≤ len) × (len ≤ message_limit) =
    subst (λ (o : Option ℕ). IfSome o (λ n. (1 ≤ n) × (n ≤ message_limit))) is c.in-Ok-Some.ensures.in_range in
    refuses_message g.S.Source.tells g.S.Source.left g.S.Source.faults len c.in-Err-take_body.e
    c.args.source.now c.take_len.new.source c.take_body.new.source range.0 range.1
    (λ told. subst (λ (o : Option ℕ). Lens (Ok o) (g.S.Source.left c.args.source.now) (g.S.Source.left c.take_len.new.source)) is
    (c.in-Ok-Some.ensures.lens told))
    (subst (λ (o : Option ℕ). Walks g.S.Source.tells g.S.Source.left g.S.Source.faults (Ok o) c.args.source.now c.take_len.new.source) is
    c.in-Ok-Some.ensures.walks)
    c.in-Err-take_body.ensures.bodies c.in-Err-take_body.ensures.walks
