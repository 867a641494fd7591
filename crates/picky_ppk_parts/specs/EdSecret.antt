-- A string that is the number of a secret of 32 bytes.
use Rattle.std.specs.Prelude.{List, ℕ}
use Rattle.picky_wire_base.specs.Narrowed.{Narrowing}
use Rattle.picky_ppk_parts.specs.Number.{IsNumberOf, read_number}
use Rattle.picky_ppk_parts.specs.carried.Number.{number_sound, number_complete}

-- bytes stand for the 32 whose number they are
abbrev pub as_number : {E : Type 0} → E → Narrowing E (List ℕ) (List ℕ)
as_number why = record {
  means = IsNumberOf;
  decide = read_number why;
  sound = number_sound why;
  complete = number_complete why;
}
