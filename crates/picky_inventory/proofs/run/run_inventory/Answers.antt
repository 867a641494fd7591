-- What a named command does; and what was written where the run is done.
use Rattle.std.proofs.Common.{◌≡◌, ◌∙◌, ◌++◌, Some, ap}
use Rattle.picky_inventory.specs.Command.{command_of}
use Rattle.picky_inventory.specs.Run.{reader}
use Rattle.picky_inventory.specs.declared.command.Command.TheVariants as commands
use Rattle.picky_inventory.proofs.EndLemmas.{ends_done}
use Rattle.picky_inventory.proofs.WrittenLaws.{itself_is_written, joined_is_written, set_is_written}
use Rattle.picky_inventory.proofs.run.run_inventory.Goals as goal

pub returns-in-Some-clause-ends : goal.returns-in-Some-clause-ends
returns-in-Some-clause-ends g c = λ command names told.
    let same : command ≡ c.in-Some.command = cc (c.command_of.ensures, c.in-Some.is, names) in rw same (c.perform.ensures.told told)

pub returns-in-Some-clause-ends_for_some : goal.returns-in-Some-clause-ends_for_some
returns-in-Some-clause-ends_for_some g c = λ command names.
    let same : command ≡ c.in-Some.command = cc (c.command_of.ensures, c.in-Some.is, names) in rw same c.perform.ensures.some

pub returns-in-Some-clause-suite : goal.returns-in-Some-clause-suite
returns-in-Some-clause-suite g c =
    let named : command_of c.args.words.now ≡ Some c.in-Some.command = cc (c.command_of.ensures, c.in-Some.is) in
    rw named c.perform.ensures.suite

pub returns-in-Some-clause-merges_lists : goal.returns-in-Some-clause-merges_lists
returns-in-Some-clause-merges_lists g c = λ r one other lists names is told tells.
    let m = reader (g.S.Suite.meanings c.args.suite.now) c.args.pass_in in
    let input = g.I.Source.left c.args.source.now in
    let merges : c.in-Some.command ≡ commands.Merging = cc (c.command_of.ensures, c.in-Some.is, names) in
    let done = ends_done m c.in-Some.command commands.Merging input _ _ _ _ _ _ c.perform.result merges is (c.perform.ensures.told told) in
    record {
      text = done.0;
      is_inventory = joined_is_written m r one other input done.0 lists done.1;
      written = done.2 tells;
    }

pub returns-in-Some-clause-merges_itself : goal.returns-in-Some-clause-merges_itself
returns-in-Some-clause-merges_itself g c = λ text inventory left right names is told tells.
    let m = reader (g.S.Suite.meanings c.args.suite.now) c.args.pass_in in
    let input = g.I.Source.left c.args.source.now in
    let merges : c.in-Some.command ≡ commands.Merging = cc (c.command_of.ensures, c.in-Some.is, names) in
    let done = ends_done m c.in-Some.command commands.Merging input _ _ _ _ _ _ c.perform.result merges is (c.perform.ensures.told told) in
    let written = itself_is_written m input text done.0 inventory left right done.1 in
    done.2 tells ∙ ap (λ t. g.O.Sink.written c.args.out.now ++ t) written

pub returns-in-Some-clause-binds : goal.returns-in-Some-clause-binds
returns-in-Some-clause-binds g c = λ others all pass names is told tells.
    let m = reader (g.S.Suite.meanings c.args.suite.now) c.args.pass_in in
    let input = g.I.Source.left c.args.source.now in
    let lists : c.in-Some.command ≡ commands.Listing = cc (c.command_of.ensures, c.in-Some.is, names) in
    let done = ends_done m c.in-Some.command commands.Listing input _ _ _ _ _ _ c.perform.result lists is (c.perform.ensures.told told) in
    set_is_written m input others _ _ done.0 pass all done.1 (done.2 tells)
