-- The texts are the envelope and what is made of it, by the kind of the key.
use Rattle.std.proofs.Common.{◌∙◌, ◌++◌, [], length, ap, sym, subst, refl, arith}
use Rattle.std.specs.Prelude.{map}
use Rattle.std.specs.List.{concat}
use Rattle.picky_target.specs.declared.target.KeyTarget.TheVariants as targets
use Rattle.picky_keys.specs.Key.{is_security_key_kind}
use Rattle.picky_convert.specs.SampleTexts.{five_targets, openssh, text_at}
use Rattle.picky_convert.specs.inner.Fed.{Feeds}
use Rattle.picky_convert.proofs.ChainLemmas.{line_of, texts_are_six, texts_are_two}
use Rattle.picky_convert.proofs.FedLemmas.{fed_so, feeds_both, feeds_none, made_so}
use Rattle.picky_convert.proofs.texts.feed_texts.Goals as goal

pub next-requires : goal.next-requires
next-requires g c =
    let meanings = g.S.Suite.meanings in
    let m = meanings c.args.suite.now in
    let i = c.args.number in
    made_so m (meanings c.first.new.suite) targets.OpenSshPublic targets.OpenSshPublic i (text_at m i openssh)
    c.in_ok-envelope.envelope (ap meanings c.first.ensures.suite) refl c.in_ok-envelope.ensures.text (line_of m i (omega arith))

pub returns-then-is_security_key-clause-fed : goal.returns-then-is_security_key-clause-fed
returns-then-is_security_key-clause-fed g c =
    let meanings = g.S.Suite.meanings in
    let m = meanings c.args.suite.now in
    let i = c.args.number in
    let kept = sym (c.is_security_key.ensures ∙ ap is_security_key_kind c.kind_of.ensures) ∙ c.if-is_security_key.true in
    let h = c.args.hasher.now in
    let h1 = c.first.new.hasher in
    let h2 = c.next.new.hasher in
    let a = text_at m i openssh in
    let b = text_at m i targets.OpenSshPublic in
    let line = fed_so h1 h2 m (meanings c.first.new.suite) targets.OpenSshPublic targets.OpenSshPublic i (ap meanings c.first.ensures.suite)
    refl c.in_ok-_line.ensures.fed in
    subst (λ texts. Feeds h h2 (concat texts)) (sym (texts_are_two m i kept))
    (feeds_both h h1 h2 a (b ++ []) c.in_ok-envelope.ensures.fed (feeds_both h1 h2 h2 b [] line (feeds_none h2)))

pub returns-then-is_security_key-clause-count : goal.returns-then-is_security_key-clause-count
returns-then-is_security_key-clause-count g c =
    let m = g.S.Suite.meanings c.args.suite.now in
    let kept = sym (c.is_security_key.ensures ∙ ap is_security_key_kind c.kind_of.ensures) ∙ c.if-is_security_key.true in
    ap length (sym (texts_are_two m c.args.number kept))

pub returns-clause-fed : goal.returns-clause-fed
returns-clause-fed g c =
    let meanings = g.S.Suite.meanings in
    let m = meanings c.args.suite.now in
    let i = c.args.number in
    let plain = sym (c.is_security_key.ensures ∙ ap is_security_key_kind c.kind_of.ensures) ∙ c.if-is_security_key.false in
    let h = c.args.hasher.now in
    let h1 = c.first.new.hasher in
    let h2 = c.feed_five.new.hasher in
    let five = subst (λ n. Feeds h1 h2 (concat (map (text_at n i) five_targets))) (ap meanings c.first.ensures.suite)
    c.in_ok-feed_five.ensures.fed in
    subst (λ texts. Feeds h h2 (concat texts)) (sym (texts_are_six m i plain))
    (feeds_both h h1 h2 (text_at m i openssh) (concat (map (text_at m i) five_targets)) c.in_ok-envelope.ensures.fed five)

pub returns-clause-count : goal.returns-clause-count
returns-clause-count g c =
    let m = g.S.Suite.meanings c.args.suite.now in
    let plain = sym (c.is_security_key.ensures ∙ ap is_security_key_kind c.kind_of.ensures) ∙ c.if-is_security_key.false in
    ap length (sym (texts_are_six m c.args.number plain))
