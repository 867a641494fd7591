-- The laws of a name that stands for an entry of a table.
use Rattle.std.specs.Prelude.{◌≡◌, true, List, ℕ, ◌++◌, ◌<◌, ◌^◌, nat_lt, length, IsUtf8, Ok}
use Rattle.std.proofs.Common.{sym, ◌∙◌, ap, refl, arith}
use Rattle.std.proofs.lemmas.Bool.{and_parts, ltb-true, leb-true}
use Rattle.std.proofs.lemmas.List.Sums.{AllPass-from_list_all}
use Rattle.std.proofs.lemmas.Str.{IsUtf8-from_ascii}
use Rattle.std.proofs.lemmas.Str.Ascii.{IsAscii-from_all}
use Rattle.picky_wire_base.specs.Wire.{string_of}
use Rattle.picky_wire_base.specs.Numbers.{IsBytes}
use Rattle.picky_wire_base.proofs.Strings.{text_spells, text_exact}
use Rattle.picky_wire_base.specs.Table.{Table}
use Rattle.picky_wire_base.specs.Named.{named, is_name}

name_is_short : (name : List ℕ) → is_name name ≡ true → length name < 2 ^ 32
name_is_short name good =
    let short = leb-true (length name) 64 (and_parts _ _ good).0 in omega arith

name_is_utf8 : (name : List ℕ) → is_name name ≡ true → IsUtf8 name
name_is_utf8 name good =
    let each = AllPass-from_list_all (λ b. nat_lt b 128) name (and_parts _ _ good).1 in
    IsUtf8-from_ascii name (IsAscii-from_all name λ k d below. ltb-true _ 128 (each k d below))

-- The name of an entry is spelled by its string.
pub named_spells : {A : Type 0} (i : ℕ) (T : Table (List ℕ) A) (a : A)
    → is_name (T.key a) ≡ true → (named i T).piece a (string_of (T.key a))
named_spells i T a good =
    let name = T.key a in
    (name, text_spells name (name_is_short name good) (name_is_utf8 name good), refl)

-- That string is read back whatever follows.
pub named_reads_back : {A : Type 0} (i : ℕ) (T : Table (List ℕ) A) (a : A) (rest : List ℕ)
    → is_name (T.key a) ≡ true
    → (named i T).read (string_of (T.key a) ++ rest) ≡ Ok (a, rest)
named_reads_back i T a rest good =
    (named i T).complete a (string_of (T.key a)) rest (named_spells i T a good)

-- A piece is the string of the entry's name.
pub named_exact : {A : Type 0} (i : ℕ) (T : Table (List ℕ) A) (a : A) (bytes : List ℕ)
    → IsBytes bytes → (named i T).piece a bytes → bytes ≡ string_of (T.key a)
named_exact i T a bytes each (name, spells, has) =
    (text_exact name bytes each spells).0 ∙ ap string_of (sym has)
