-- The issuer is read, and then the key text.
use Rattle.picky_conversion.proofs.CertifyLemmas.{still}
use Rattle.picky_conversion.proofs.IssueLemmas.{first_leaves, issue_gives, issue_refused, issue_signer, then_leaves}
use Rattle.picky_conversion.specs.Outside.{outside}
use Rattle.picky_conversion.proofs.issuing.issue.Goals as goal

pub returns-in-Ok-clause-gives : goal.returns-in-Ok-clause-gives
returns-in-Ok-clause-gives g c =
    let o = outside (g.S.Suite.meanings c.args.suite.now) c.args.given in
    let part = c.parts_of-parts.ensures.issuer in
    let key = c.parts_of-parts.ensures.key in
    let asked = c.of_options.ensures in
    issue_gives (g.G.Signer.signs c.args.signer.now) (λ text. text) o _ c.args.options c.args.input.now c.in-Ok.issuer _ _ _ _
    c.convert_owned.result (rw part at c.in-Ok.ensures.gives) c.in-Ok.ensures.suite.kept (c.in-Ok.ensures.suite.calm (λ e is fault. cc is))
    (rw (key, asked) at c.convert_owned.ensures.gives)

pub returns-in-Ok-clause-suite : goal.returns-in-Ok-clause-suite
returns-in-Ok-clause-suite g c =
    let o = outside (g.S.Suite.meanings c.args.suite.now) c.args.given in
    let part = c.parts_of-parts.ensures.issuer in
    let key = c.parts_of-parts.ensures.key in
    then_leaves _ _ o c.args.input.now c.in-Ok.issuer c.convert_owned.result _ _ _ (rw part at c.in-Ok.ensures.gives)
    (rw part at c.in-Ok.ensures.suite) (rw key at c.convert_owned.ensures.suite)

pub returns-in-Ok-clause-signer : goal.returns-in-Ok-clause-signer
returns-in-Ok-clause-signer g c =
    let o = outside (g.S.Suite.meanings c.args.suite.now) c.args.given in
    let part = c.parts_of-parts.ensures.issuer in
    let key = c.parts_of-parts.ensures.key in
    let asked = c.of_options.ensures in
    issue_signer _ _ o _ c.args.options c.args.input.now c.in-Ok.issuer c.convert_owned.result _ _ (rw part at c.in-Ok.ensures.gives)
    c.in-Ok.ensures.suite.kept (rw (key, asked) at c.convert_owned.ensures.signer)

pub returns-in-Err-clause-gives : goal.returns-in-Err-clause-gives
returns-in-Err-clause-gives g c =
    let o = outside (g.S.Suite.meanings c.args.suite.now) c.args.given in
    let part = c.parts_of-parts.ensures.issuer in
    issue_refused (g.G.Signer.signs c.args.signer.now) (λ text. text) o c.args.options c.args.input.now _ _ c.in-Err.e
    (rw part at c.in-Err.ensures.gives)

pub returns-in-Err-clause-suite : goal.returns-in-Err-clause-suite
returns-in-Err-clause-suite g c =
    let o = outside (g.S.Suite.meanings c.args.suite.now) c.args.given in
    let part = c.parts_of-parts.ensures.issuer in
    first_leaves _ _ o c.args.input.now c.in-Err.e _ _ (rw part at c.in-Err.ensures.suite)

pub returns-in-Err-clause-signer : goal.returns-in-Err-clause-signer
returns-in-Err-clause-signer g c = still _ _ _ _ _
