use Rattle.std.proofs.Common.{◌≡◌, ◌∙◌, ap, length, subst, sym, false, true}
use Rattle.picky_ask.specs.declared.missing.Missing.TheVariants as missings
use Rattle.picky_ask.specs.Lookup.{question, are_paired}
use Rattle.picky_ask.specs.Cause.{HasCause}
use Rattle.picky_ask.specs.State.{State}
use Rattle.picky_ask.specs.inner.HeadView.{two_head}
use Rattle.picky_ask.proofs.CauseLemmas.{cipher_wants, other_length, wanted_is_asked}
use Rattle.picky_ask.proofs.TurnLemmas.{exchange_by, exchange_long, fails_looks, passes_looks}
use Rattle.picky_ask.proofs.suite.AnsweredSuite.exchange.Goals as goal

pub find-requires : goal.find-requires
find-requires g c =
    wanted_is_asked (question (two_head c.args.of c.args.key.now c.args.iv.now) c.args.block.now) (length c.args.block.now)
    (cipher_wants c.args.mode c.args.key.now c.args.iv.now (two_head c.args.of c.args.key.now c.args.iv.now) c.args.block.now c.requires)

pub fail-requires-clause-cause : goal.fail-requires-clause-cause
fail-requires-clause-cause g c =
    let h = two_head c.args.of c.args.key.now c.args.iv.now in
    subst (λ (s : State). HasCause missings.WrongLength s.entries) (sym c.in_ok-place.ensures.kept)
    (other_length c.args.self.now.entries (question h c.args.block.now) (length c.args.block.now) c.in_ok-place.answer.now
    (cipher_wants c.args.mode c.args.key.now c.args.iv.now h c.args.block.now c.requires) c.in_ok-place.ensures.found.listed
    c.if-answer-block.true)

pub returns-then-answer-block-clause-looks : goal.returns-then-answer-block-clause-looks
returns-then-answer-block-clause-looks g c =
    let q = question (two_head c.args.of c.args.key.now c.args.iv.now) c.args.block.now in
    fails_looks q _ missings.WrongLength c.fail.result c.args.block.now c.args.self.now c.find.new.self c.fail.new.self
    (exchange_long c.args.mode c.args.key.now c.args.iv.now q c.in_ok-place.place c.in_ok-place.answer.now c.args.self.now
    c.in_ok-place.ensures.found c.if-answer-block.true) c.in_ok-place.ensures.kept c.fail.ensures

pub returns-then-not-are_paired-clause-looks : goal.returns-then-not-are_paired-clause-looks
returns-then-not-are_paired-clause-looks g c =
    let q = question (two_head c.args.of c.args.key.now c.args.iv.now) c.args.block.now in
    let same : c.self.inside.entries.now ≡ c.args.self.now.entries = ap (λ (s : State). s.entries) (c.self.view_is ∙ c.in_ok-place.ensures.kept) in
    let clash = ap (are_paired c.args.mode c.args.key.now c.args.iv.now c.args.block.now c.in_ok-place.answer.now) (sym same)
    ∙ sym c.are_paired.ensures ∙ c.if-not-are_paired.true in
    fails_looks q _ missings.Contradiction c.fail-then-not-are_paired.result c.args.block.now c.args.self.now c.find.new.self
    c.fail-then-not-are_paired.new.self
    (exchange_by c.args.mode c.args.key.now c.args.iv.now q c.in_ok-place.place c.in_ok-place.answer.now c.args.self.now false
    c.in_ok-place.ensures.found c.if-answer-block.false clash) c.in_ok-place.ensures.kept c.fail-then-not-are_paired.ensures

pub returns-clause-looks : goal.returns-clause-looks
returns-clause-looks g c =
    let q = question (two_head c.args.of c.args.key.now c.args.iv.now) c.args.block.now in
    let same : c.self.inside.entries.now ≡ c.args.self.now.entries = ap (λ (s : State). s.entries) (c.self.view_is ∙ c.in_ok-place.ensures.kept) in
    let paired = ap (are_paired c.args.mode c.args.key.now c.args.iv.now c.args.block.now c.in_ok-place.answer.now) (sym same)
    ∙ sym c.are_paired.ensures ∙ c.if-not-are_paired.false in
    passes_looks q _ c.in_ok-place.place tt c.in_ok-place.answer.now c.copy_from_slice.new.self c.args.self.now c.find.new.self c.use_up.new.self
    c.in_ok-place.ensures.found
    (exchange_by c.args.mode c.args.key.now c.args.iv.now q c.in_ok-place.place c.in_ok-place.answer.now c.args.self.now true
    c.in_ok-place.ensures.found c.if-answer-block.false paired)
    c.copy_from_slice.ensures.after c.in_ok-place.ensures.kept c.use_up.ensures
