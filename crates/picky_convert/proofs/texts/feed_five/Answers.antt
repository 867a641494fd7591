-- Each text is made of the one before it, but the last of the fourth too.
use Rattle.std.proofs.Common.{◌∙◌, ◌++◌, [], ap, refl, arith}
use Rattle.picky_target.specs.declared.target.KeyTarget.TheVariants as targets
use Rattle.picky_convert.specs.SampleTexts.{openssh, ppk2, ppk3, text_at}
use Rattle.picky_convert.proofs.ChainLemmas.{again_of, file2_of, file3_of, line_of, putty_of}
use Rattle.picky_convert.proofs.FedLemmas.{fed_so, feeds_both, feeds_none, made_so, text_so}
use Rattle.picky_convert.proofs.texts.feed_five.Goals as goal

pub next-requires : goal.next-requires
next-requires g c =
    let m = g.S.Suite.meanings c.args.suite.now in
    let i = c.args.number in
    made_so m m ppk3 c.file_of.result i (text_at m i openssh) c.args.envelope.now refl c.file_of.ensures c.requires.envelope
    (file3_of m i (omega arith) c.requires.plain)

pub next-requires-2 : goal.next-requires-2
next-requires-2 g c =
    let meanings = g.S.Suite.meanings in
    let m = meanings c.args.suite.now in
    let i = c.args.number in
    made_so m (meanings c.next.new.suite) ppk2 c.file_of-2.result i (text_at m i ppk3) c.in_ok-file.file (ap meanings c.next.ensures.suite)
    c.file_of-2.ensures (text_so m m ppk3 c.file_of.result i c.in_ok-file.file refl c.file_of.ensures c.in_ok-file.ensures.text)
    (file2_of m i (omega arith) c.requires.plain)

pub next-requires-3 : goal.next-requires-3
next-requires-3 g c =
    let meanings = g.S.Suite.meanings in
    let m = meanings c.args.suite.now in
    let i = c.args.number in
    let once = ap meanings c.next.ensures.suite in
    let twice = ap meanings c.next-2.ensures.suite ∙ once in
    made_so m (meanings c.next-2.new.suite) openssh openssh i (text_at m i ppk2) c.in_ok-file-2.file twice refl
    (text_so m (meanings c.next.new.suite) ppk2 c.file_of-2.result i c.in_ok-file-2.file once c.file_of-2.ensures c.in_ok-file-2.ensures.text)
    (again_of m i (omega arith) c.requires.plain)

pub next-requires-4 : goal.next-requires-4
next-requires-4 g c =
    let meanings = g.S.Suite.meanings in
    let m = meanings c.args.suite.now in
    let i = c.args.number in
    let twice = ap meanings c.next-2.ensures.suite ∙ ap meanings c.next.ensures.suite in
    let thrice = ap meanings c.next-3.ensures.suite ∙ twice in
    made_so m (meanings c.next-3.new.suite) targets.OpenSshPublic targets.OpenSshPublic i (text_at m i openssh) c.in_ok-again.again
    thrice refl
    (text_so m (meanings c.next-2.new.suite) openssh openssh i c.in_ok-again.again twice refl c.in_ok-again.ensures.text)
    (line_of m i (omega arith))

pub next-requires-5 : goal.next-requires-5
next-requires-5 g c =
    let meanings = g.S.Suite.meanings in
    let m = meanings c.args.suite.now in
    let i = c.args.number in
    let twice = ap meanings c.next-2.ensures.suite ∙ ap meanings c.next.ensures.suite in
    let last = ap meanings c.next-4.ensures.suite ∙ ap meanings c.next-3.ensures.suite ∙ twice in
    made_so m (meanings c.next-4.new.suite) targets.PuttyPublic targets.PuttyPublic i (text_at m i openssh) c.in_ok-again.again
    last refl
    (text_so m (meanings c.next-2.new.suite) openssh openssh i c.in_ok-again.again twice refl c.in_ok-again.ensures.text)
    (putty_of m i (omega arith) c.requires.plain)

pub returns-clause-fed : goal.returns-clause-fed
returns-clause-fed g c =
    let meanings = g.S.Suite.meanings in
    let m = meanings c.args.suite.now in
    let i = c.args.number in
    let once = ap meanings c.next.ensures.suite in
    let twice = ap meanings c.next-2.ensures.suite ∙ once in
    let thrice = ap meanings c.next-3.ensures.suite ∙ twice in
    let last = ap meanings c.next-4.ensures.suite ∙ thrice in
    let h = c.args.hasher.now in
    let h1 = c.next.new.hasher in
    let h2 = c.next-2.new.hasher in
    let h3 = c.next-3.new.hasher in
    let h4 = c.next-4.new.hasher in
    let h5 = c.next-5.new.hasher in
    let a = text_at m i ppk3 in
    let b = text_at m i ppk2 in
    let d = text_at m i openssh in
    let e = text_at m i targets.OpenSshPublic in
    let f = text_at m i targets.PuttyPublic in
    let fed1 = fed_so h h1 m m ppk3 c.file_of.result i refl c.file_of.ensures c.in_ok-file.ensures.fed in
    let fed2 = fed_so h1 h2 m (meanings c.next.new.suite) ppk2 c.file_of-2.result i once c.file_of-2.ensures c.in_ok-file-2.ensures.fed in
    let fed3 = fed_so h2 h3 m (meanings c.next-2.new.suite) openssh openssh i twice refl c.in_ok-again.ensures.fed in
    let fed4 = fed_so h3 h4 m (meanings c.next-3.new.suite) targets.OpenSshPublic targets.OpenSshPublic i thrice refl c.in_ok-_line.ensures.fed in
    let fed5 = fed_so h4 h5 m (meanings c.next-4.new.suite) targets.PuttyPublic targets.PuttyPublic i last refl c.in_ok-_putty.ensures.fed in
    feeds_both h h1 h5 a (b ++ (d ++ (e ++ (f ++ [])))) fed1 (feeds_both h1 h2 h5 b (d ++ (e ++ (f ++ []))) fed2
    (feeds_both h2 h3 h5 d (e ++ (f ++ [])) fed3 (feeds_both h3 h4 h5 e (f ++ []) fed4
    (feeds_both h4 h5 h5 f [] fed5 (feeds_none h5)))))
