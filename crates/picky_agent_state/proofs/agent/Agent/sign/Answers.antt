-- The signer is asked with the identity that has the key.
use Rattle.std.proofs.Common.{◌≡◌, ◌∙◌, List, false, ap, get_or, subst}
use Rattle.picky_keys.specs.View.{key_seen}
use Rattle.picky_agent_state.specs.declared.identity.Identity.{Identity}
use Rattle.picky_agent_state.specs.Kept.{Kept, is_locked, machine}
use Rattle.picky_agent_state.specs.Held.{IsAt}
use Rattle.picky_agent_state.specs.Request.{sign_request}
use Rattle.picky_agent_state.proofs.StepLemmas.{asks_with, no_way}
use Rattle.picky_agent_state.proofs.agent.Agent.sign.Goals as goal

pub returns-in-Some-clause-asks : goal.returns-in-Some-clause-asks
returns-in-Some-clause-asks g c =
    let kept = c.args.self.now in
    let key = key_seen c.args.key.now in
    let place = c.in-Some.place in
    let items : c.self.inside.keyring ≡ kept.identities = ap (λ (k : Kept). k.identities) c.self.view_is in
    let unlocked : is_locked kept ≡ false = cc (c.is_locked.ensures, c.if-is_locked.false) in
    let at : IsAt key kept.identities place =
    subst (λ (xs : List Identity). IsAt key xs place) (c.identities.ensures.all ∙ items) c.in-Some.ensures in
    let held = c.index-identities-place.result in
    let is = c.index-identities-place.is
    ∙ ap (λ (xs : List Identity). get_or xs place held) (c.identities-in-Some.ensures.all ∙ items) in
    asks_with (g.G.Signer.signs c.args.signer.now) (machine kept (g.G.Signer.faults c.args.signer.now))
    (sign_request key c.args.message.now c.args.flags) (machine kept (g.G.Signer.faults c.sign_with.new.signer)) c.sign_with.result
    place held unlocked at is (c.sign_with.ensures.asks kept)

pub returns-in-Some-clause-unasked : goal.returns-in-Some-clause-unasked
returns-in-Some-clause-unasked g c = λ never.
    let kept = c.args.self.now in
    let key = key_seen c.args.key.now in
    let place = c.in-Some.place in
    let items : c.self.inside.keyring ≡ kept.identities = ap (λ (k : Kept). k.identities) c.self.view_is in
    let unlocked : is_locked kept ≡ false = cc (c.is_locked.ensures, c.if-is_locked.false) in
    let at : IsAt key kept.identities place =
    subst (λ (xs : List Identity). IsAt key xs place) (c.identities.ensures.all ∙ items) c.in-Some.ensures in
    let held = c.index-identities-place.result in
    let is = c.index-identities-place.is
    ∙ ap (λ (xs : List Identity). get_or xs place held) (c.identities-in-Some.ensures.all ∙ items) in
    c.sign_with.ensures.unasked
    (no_way kept (sign_request key c.args.message.now c.args.flags) place held unlocked at is never)
