-- The entries are those of the identities.
use Rattle.std.proofs.Common.{◌≡◌, ◌∙◌, false, ap, map}
use Rattle.picky_agent_state.specs.Kept.{Kept, is_locked}
use Rattle.picky_agent_state.specs.Reply.{entry}
use Rattle.picky_agent_state.proofs.ReplyLemmas.{lists}
use Rattle.picky_agent_state.proofs.agent.Agent.list.Goals as goal

pub returns : goal.returns
returns c =
    let kept = c.args.self.now in
    let unlocked : is_locked kept ≡ false = cc (c.is_locked.ensures, c.if-is_locked.false) in
    lists kept c.entries.result.now c.listing_of-2.result unlocked
    (c.entries.ensures.each ∙ ap (λ (k : Kept). map entry k.identities) c.self.view_is) c.listing_of-2.ensures
