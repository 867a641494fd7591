-- That the reading of a string that may be empty is sound and complete.
use Rattle.std.specs.Prelude.{◌≡◌, List, [], ◌∷◌, ℕ, Ok}
use Rattle.std.proofs.Common.{sym, ap}
use Rattle.picky_wire_base.specs.Narrowed.{Narrowing}
use Rattle.picky_wire_base.specs.Empty.{EmptyOr, decide_empty_or}

pub empty_or_sound : {E A : Type 0} (e : A) (M : Narrowing E (List ℕ) A) (bytes : List ℕ) (v : A)
    → decide_empty_or e M bytes ≡ Ok v → EmptyOr e M.means bytes v
empty_or_sound e M [] v same = cc same
empty_or_sound e M (b ∷ bytes) v same = M.sound (b ∷ bytes) v same

pub empty_or_complete : {E A : Type 0} (e : A) (M : Narrowing E (List ℕ) A) (bytes : List ℕ) (v : A)
    → EmptyOr e M.means bytes v → decide_empty_or e M bytes ≡ Ok v
empty_or_complete e M [] v same = ap Ok (sym same)
empty_or_complete e M (b ∷ bytes) v stands = M.complete (b ∷ bytes) v stands
