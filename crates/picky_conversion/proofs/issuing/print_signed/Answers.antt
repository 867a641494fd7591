-- The issuer is read, and then the key text.
use Rattle.std.proofs.Common.{Global}
use Rattle.std.specs.Prelude.{string_bytes}
use Rattle.picky_conversion.proofs.IssueLemmas.{first_leaves, print_gives, print_refused, then_leaves}
use Rattle.picky_conversion.specs.Outside.{outside}
use Rattle.picky_conversion.proofs.issuing.print_signed.Goals as goal

pub returns-in-Ok-clause-gives : goal.returns-in-Ok-clause-gives
returns-in-Ok-clause-gives g c =
    let o = outside (g.S.Suite.meanings c.args.suite.now) c.args.given in
    let part = c.parts_of-parts.ensures.issuer in
    let key = c.parts_of-parts.ensures.key in
    let asked = c.of_options-request.ensures in
    print_gives (string_bytes {Z = Global}) o _ c.args.options c.args.input.now c.in-Ok.issuer _ _ _ c.print_request.result
    (rw part at c.in-Ok.ensures.gives) c.in-Ok.ensures.suite.kept (c.in-Ok.ensures.suite.calm (λ e is fault. cc is))
    (rw (key, asked) at c.print_request.ensures.gives)

pub returns-in-Ok-clause-suite : goal.returns-in-Ok-clause-suite
returns-in-Ok-clause-suite g c =
    let o = outside (g.S.Suite.meanings c.args.suite.now) c.args.given in
    let part = c.parts_of-parts.ensures.issuer in
    let key = c.parts_of-parts.ensures.key in
    then_leaves _ _ o c.args.input.now c.in-Ok.issuer c.print_request.result _ _ _ (rw part at c.in-Ok.ensures.gives)
    (rw part at c.in-Ok.ensures.suite) (rw key at c.print_request.ensures.suite)

pub returns-in-Err-clause-gives : goal.returns-in-Err-clause-gives
returns-in-Err-clause-gives g c =
    let o = outside (g.S.Suite.meanings c.args.suite.now) c.args.given in
    let part = c.parts_of-parts.ensures.issuer in
    print_refused (string_bytes {Z = Global}) o c.args.options c.args.input.now _ c.in-Err.e (rw part at c.in-Err.ensures.gives)

pub returns-in-Err-clause-suite : goal.returns-in-Err-clause-suite
returns-in-Err-clause-suite g c =
    let o = outside (g.S.Suite.meanings c.args.suite.now) c.args.given in
    let part = c.parts_of-parts.ensures.issuer in
    first_leaves _ _ o c.args.input.now c.in-Err.e _ _ (rw part at c.in-Err.ensures.suite)
