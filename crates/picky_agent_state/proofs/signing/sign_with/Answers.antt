-- The way of the key's kind.
use Rattle.std.proofs.Common.{◌≡◌, ◌∙◌, Some, IfOk, Option, ap, subst, sym}
use Rattle.picky_keys.specs.Key.{kind_of}
use Rattle.picky_sshkey_blob.specs.Key.{public_part}
use Rattle.picky_sshkey_blob.proofs.KeyLaws.{same_kind}
use Rattle.picky_agent_state.specs.Kept.{machine}
use Rattle.picky_agent_state.specs.Request.{sign_request}
use Rattle.picky_agent_state.specs.Signing.{SigningWay, way_for}
use Rattle.picky_agent_state.specs.Step.{Asks}
use Rattle.picky_agent_state.proofs.signing.sign_with.Goals as goal

pub returns-in-Some-clause-asks : goal.returns-in-Some-clause-asks
returns-in-Some-clause-asks g c = λ kept.
    let kind = c.kind.ensures ∙ same_kind c.args.key.now in
    let way : way_for (kind_of (public_part c.args.key.now)) c.args.flags ≡ Some (c.in-Some.algorithm, c.in-Some.format) =
    ap (λ k. way_for k c.args.flags) (sym kind) ∙ sym c.way_for.ensures ∙ c.in-Some.is in
    subst
    (λ (w : Option SigningWay). IfOk c.ask.result (λ reply. Asks (g.G.Signer.signs c.args.signer.now)
    (machine kept (g.G.Signer.faults c.args.signer.now)) (sign_request (public_part c.args.key.now) c.args.message.now c.args.flags) w
    reply (machine kept (g.G.Signer.faults c.ask.new.signer))))
    (sym way) (c.ask.ensures.asks kept c.args.flags)
