-- The laws of a table: where no entry has the key, none is found.
use Rattle.std.specs.Prelude.{◌≡◌, Option, Some, None}
use Rattle.std.proofs.Common.{refl}
use Rattle.picky_wire_base.specs.Table.{Table, find_entry}
use Rattle.picky_wire_base.specs.carried.Table.{found_has_key}

-- Where no entry has the key, none is found.
pub none_is_found : {K A : Type 0} (T : Table K A) (k : K)
    → ((a : A) → T.key a ≡ k → ⊥) → find_entry T k ≡ None
none_is_found {A = A} T k none = go (find_entry T k) refl
  where
    go : (o : Option A) → find_entry T k ≡ o → o ≡ None
    go None is = refl
    go (Some a) is = absurd (none a (found_has_key T k a is))
