-- The laws of runs.
use Rattle.std.proofs.Common.{◌++◌, List, [], ◌∷◌, sym, subst}
use Rattle.std.specs.List.{AllByRecursion}
use Rattle.picky_suite.specs.Signs.{SignRelation}
use Rattle.picky_agent_state.specs.Kept.{Machine}
use Rattle.picky_agent_state.proofs.StepLaws.{Under, step_under}
use Rattle.picky_agent.specs.Run.{Exchange, IsExchange, Run}

-- what runs by few signatures runs by more
pub run_under : (few many : SignRelation) → Under few many → (old : Machine) (xs : List Exchange) (new : Machine)
    → Run few old xs new → Run many old xs new
run_under few many under old [] new run = run
run_under few many under old (x ∷ xs) new (mid, step, run) =
    (mid, step_under few many under old x.message x.reply mid step, run_under few many under mid xs new run)

-- one run after another
pub run_joined : (signs : SignRelation) (old : Machine) (xs ys : List Exchange) (mid new : Machine)
    → Run signs old xs mid → Run signs mid ys new → Run signs old (xs ++ ys) new
run_joined signs old [] ys mid new same run = subst (λ m. Run signs m ys new) (sym same) run
run_joined signs old (x ∷ xs) ys mid new (next, step, first) second =
    (next, step, run_joined signs next xs ys mid new first second)

pub each_joined : (xs ys : List Exchange) → AllByRecursion IsExchange xs → AllByRecursion IsExchange ys
    → AllByRecursion IsExchange (xs ++ ys)
each_joined [] ys first second = second
each_joined (x ∷ xs) ys (is, first) second = (is, each_joined xs ys first second)
