-- What the words ask for is one thing, or nothing.
use Rattle.std.proofs.Common.{◌≡◌, ◌⊎◌, Option, None, Some, inl, inr, refl}
use Rattle.picky_policy.specs.Command.{Asked, asked_for}
use Rattle.picky_policy.proofs.laws.words_name_one_or_none.Goals as goal

found_or_none : (found : Option Asked) → ((a : Asked) × (found ≡ Some a)) ⊎ ((a : Asked) → found ≡ Some a → ⊥)
found_or_none None = inr (λ a is. cc is)
found_or_none (Some a) = inl (a, refl)

pub returns-clause-one_or_none : goal.returns-clause-one_or_none
returns-clause-one_or_none c = λ words. found_or_none (asked_for words)
