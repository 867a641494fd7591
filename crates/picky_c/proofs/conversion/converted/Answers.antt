-- A round by no answers is a conversion without them.
use Rattle.std.proofs.Common.{Global, Vec, [], refl, subst, ℕ}
use Rattle.picky_c.specs.Calls.{converted, converting_is_asked, entries_of, numbered_target}
use Rattle.picky_c.specs.{Given.{given}, Round.{GivesRound}}
use Rattle.picky_c.proofs.RoundLemmas.{conversion_gives, is_numbered}
use Rattle.picky_c.proofs.conversion.converted.Goals as goal

pub returns-clause-gives : goal.returns-clause-gives
returns-clause-gives g c =
    let all = given c.args.text.now c.args.pass_in.now c.args.pass_out.now c.args.fresh.now [] in
    conversion_gives (λ (bytes : Vec ℕ Global). bytes.items) g.m (numbered_target c.args.target) all c.converted_by.result
    c.without_answers.result (is_numbered c.args.target) refl
    (subst (λ to. GivesRound (converted g.m to all) (converting_is_asked g.m to all) (entries_of all) c.converted_by.result)
    c.target_of.ensures c.converted_by.ensures.gives) c.without_answers.ensures
