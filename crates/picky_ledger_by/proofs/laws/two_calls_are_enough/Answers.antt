-- Ledgers that differ in signatures ask the same, and more answers change nothing that was answered.
use Rattle.picky_ledger_by.proofs.ApplyLemmas.{none_is_lacked, same_questions}
use Rattle.picky_ledger_by.proofs.laws.two_calls_are_enough.Goals as goal

pub returns : goal.returns
returns c = record { same = same_questions; enough = none_is_lacked }
