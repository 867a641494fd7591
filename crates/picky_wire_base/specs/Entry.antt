-- What a key of a table stands for.
use Rattle.std.specs.Prelude.{◌≡◌, ok_or}
use Rattle.std.proofs.Common.{ap}
use Rattle.picky_wire_base.specs.Narrowed.{Narrowing}
use Rattle.picky_wire_base.specs.Table.{Table, find_entry}
use Rattle.picky_wire_base.specs.carried.Table.{key_is_found, entry_sound}

-- a key stands for its entry
abbrev pub entry : {E K A : Type 0} → (K → E) → Table K A → Narrowing E K A
entry why T = record {
  means = λ k a. T.key a ≡ k;
  decide = λ k. ok_or (find_entry T k) (why k);
  sound = λ k a same. entry_sound T why k a same;
  complete = λ k a has. ap (λ o. ok_or o (why k)) (key_is_found T k a has);
}
