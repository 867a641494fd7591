-- A string that must be a name of a table, where names are ASCII and short (RFC 4251, section 6).
use Rattle.std.specs.Prelude.{◌≡◌, Bool, List, ℕ, ◌&&◌, nat_lt, nat_le, length, Some, find, bytes_eq}
use Rattle.std.specs.List.{list_all}
use Rattle.std.proofs.lemmas.Slice.Eq.{bytes_eq-Decides}
use Rattle.picky_wire_base.specs.Flaw.{Reason, Name}
use Rattle.picky_wire_base.specs.Grammar.{Grammar}
use Rattle.picky_wire_base.specs.Combine.{narrow, at}
use Rattle.picky_wire_base.specs.Wire.{text}
use Rattle.picky_wire_base.specs.Table.{Table}
use Rattle.picky_wire_base.specs.Entry.{entry}

-- a table of names
abbrev pub names : {A : Type 0} (entries : List A) (name : A → List ℕ)
    → ((a : A) → find (λ b. bytes_eq (name a) (name b)) entries ≡ Some a) → Table (List ℕ) A
names rows name each = record {
  entries = rows;
  key = name;
  same = bytes_eq;
  decides = bytes_eq-Decides;
  own = each;
}

-- a string that is the name of an entry, as field i
abbrev pub named : {A : Type 0} → ℕ → Table (List ℕ) A → Grammar Reason A
named i T = narrow (at i text) (entry (λ n. (i, Name n)) T)

-- a name: ASCII, and at most 64 bytes
abbrev pub is_name : List ℕ → Bool
is_name name = nat_le (length name) 64 && list_all (λ b. nat_lt b 128) name
