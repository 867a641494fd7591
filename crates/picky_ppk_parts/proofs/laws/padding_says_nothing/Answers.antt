-- The laws of counted strings.
use Rattle.picky_ppk_parts.proofs.CountedLaws.{counted_is_a_front, made_is_counted}
use Rattle.picky_ppk_parts.proofs.laws.padding_says_nothing.Goals as goal

pub returns-clause-front : goal.returns-clause-front
returns-clause-front c = counted_is_a_front

pub returns-clause-own : goal.returns-clause-own
returns-clause-own c = made_is_counted
