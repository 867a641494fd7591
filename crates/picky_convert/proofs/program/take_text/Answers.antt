-- What is answered for the bytes that the command reads: all that the source has, or none.
use Rattle.std.proofs.Common.{Global, arith, ap, length, refl, subst, sym, true, ◌<◌, ◌≡◌, Err}
use Rattle.std.specs.Prelude.{string_bytes}
use Rattle.picky_input.specs.Extent.{ToFault}
use Rattle.picky_input.specs.declared.source_text.SourceError.TheVariants as source
use Rattle.picky_input.proofs.TextLaws.{some_input, too_long_exactly}
use Rattle.picky_conversion.specs.Outside.{outside}
use Rattle.picky_convert.specs.declared.error.Status.TheVariants as statuses
use Rattle.picky_convert.specs.Command.{reads_source}
use Rattle.picky_convert.specs.Run.{extent_for, input_for, input_limit}
use Rattle.picky_convert.proofs.CauseLemmas.{outcome_long}
use Rattle.picky_convert.proofs.SourceLemmas.{extent_read, read_all, read_whole, reads_as}
use Rattle.picky_convert.proofs.program.take_text.Goals as goal

pub returns-in-Ok-clause-source : goal.returns-in-Ok-clause-source
returns-in-Ok-clause-source g c =
    let reads : reads_source c.args.command ≡ true = cc (c.reads_source.ensures, c.if-reads_source.true) in
    read_whole g.I.Source.tells g.I.Source.left g.I.Source.faults (g.G.Signer.signs c.args.signer.now) (string_bytes {Z = Global})
    (outside (g.S.Suite.meanings c.args.suite.now) c.args.given) c.args.command c.as_slice.result.now _ _ c.perform.result
    c.args.source.now c.read_input.new.source reads (omega (arith, c.in-Ok.ensures.small, ap length c.as_slice.ensures.value))
    c.perform.ensures.comes c.in-Ok.ensures.told c.in-Ok.ensures.taken c.in-Ok.ensures.end c.in-Ok.ensures.calm

pub returns-in-Err-ReadFault-clause-source : goal.returns-in-Err-ReadFault-clause-source
returns-in-Err-ReadFault-clause-source g c =
    let reads : reads_source c.args.command ≡ true = cc (c.reads_source.ensures, c.if-reads_source.true) in
    let failed = c.in-Err-ReadFault.ensures in
    reads_as g.I.Source.tells g.I.Source.left g.I.Source.faults ToFault (extent_for c.args.command statuses.ReadFault) c.args.source.now
    c.read_input.new.source (extent_read c.args.command statuses.ReadFault reads) failed.told failed.taken
    (λ told. failed.cut told (ap Err c.in-Err-ReadFault.field-0-is)) (λ none. cc none) (λ other. absurd (other refl))

pub returns-in-Err-TooLong-clause-told : goal.returns-in-Err-TooLong-clause-told
returns-in-Err-TooLong-clause-told g c = λ told.
    let reads : reads_source c.args.command ≡ true = cc (c.reads_source.ensures, c.if-reads_source.true) in
    let left = g.I.Source.left c.args.source.now in
    outcome_long (outside (g.S.Suite.meanings c.args.suite.now) c.args.given) c.args.command (input_for c.args.command left)
    (subst (λ bytes. input_limit < length bytes) (sym (read_all c.args.command left reads))
    (c.in-Err-TooLong.ensures.too_long told (ap Err c.in-Err-TooLong.field-0-is)).0)

pub returns-in-Err-TooLong-clause-some : goal.returns-in-Err-TooLong-clause-some
returns-in-Err-TooLong-clause-some g c =
    let reads : reads_source c.args.command ≡ true = cc (c.reads_source.ensures, c.if-reads_source.true) in
    let some = some_input source.InputTooLong in (
      some.0,
      outcome_long (outside (g.S.Suite.meanings c.args.suite.now) c.args.given) c.args.command (input_for c.args.command some.0)
          (subst (λ bytes. input_limit < length bytes) (sym (read_all c.args.command some.0 reads)) ((too_long_exactly some.0).0 some.1)),
    )
