-- The laws of a string whose empty form has a meaning of its own.
use Rattle.std.specs.Prelude.{◌≡◌, List, [], ◌∷◌, ℕ, ◌++◌, ◌⊎◌, ◌<◌, ◌^◌, length, Ok}
use Rattle.std.proofs.Common.{sym, subst, refl, arith, inl, inr}
use Rattle.std.proofs.lemmas.List.{append-nil}
use Rattle.picky_wire_base.specs.Flaw.{Flaw}
use Rattle.picky_wire_base.specs.Grammar.{Grammar}
use Rattle.picky_wire_base.specs.Narrowed.{Narrowing}
use Rattle.picky_wire_base.specs.Wire.{string_of}
use Rattle.picky_wire_base.specs.Numbers.{IsBytes}
use Rattle.picky_wire_base.proofs.Strings.{string_spells, string_exact}
use Rattle.picky_wire_base.specs.Inside.{IsSubPiece}
use Rattle.picky_wire_base.proofs.Inside.{sub_exact}
use Rattle.picky_wire_base.specs.OrEmpty.{empty_or, empty_or_within}

-- No bytes are read as e.
pub empty_reads_empty : {E A : Type 0} (e : A) (M : Narrowing E (List ℕ) A) (bytes : List ℕ)
    → length bytes ≡ 0 → (empty_or e M).decide bytes ≡ Ok e
empty_reads_empty e M [] none = refl
empty_reads_empty e M (b ∷ bytes) none = absurd (omega arith)

-- Any others are read as they were.
pub empty_reads_more : {E A : Type 0} (e : A) (M : Narrowing E (List ℕ) A) (bytes : List ℕ)
    → 0 < length bytes → (empty_or e M).decide bytes ≡ M.decide bytes
empty_reads_more e M [] some = absurd (omega arith)
empty_reads_more e M (b ∷ bytes) some = refl

-- The empty string is a piece of e.
pub or_empty_spells_empty : {E A : Type 0} (cut : Flaw → E) (e : A) (G : Grammar E A)
    → (empty_or_within cut e G).piece e (string_of [])
or_empty_spells_empty cut e G = ([], string_spells [] (omega arith), refl)

-- It is read back whatever follows.
pub or_empty_reads_empty : {E A : Type 0} (cut : Flaw → E) (e : A) (G : Grammar E A)
    (rest : List ℕ) → (empty_or_within cut e G).read (string_of [] ++ rest) ≡ Ok (e, rest)
or_empty_reads_empty cut e G rest =
    (empty_or_within cut e G).complete e (string_of []) rest (or_empty_spells_empty cut e G)

-- The string of a piece that isn't empty is a piece, also where more bytes follow inside.
pub or_empty_spells : {E A : Type 0} (cut : Flaw → E) (e : A) (G : Grammar E A) (v : A)
    (front rest : List ℕ) → 0 < length front → G.piece v front → length (front ++ rest) < 2 ^ 32
    → (empty_or_within cut e G).piece v (string_of (front ++ rest))
or_empty_spells cut e G v [] rest some spells short = absurd (omega arith)
or_empty_spells cut e G v (b ∷ front) rest some spells short =
    let block = b ∷ front ++ rest in
    (block, string_spells block short, (rest, (b ∷ front, spells, refl)))

-- The string of a piece that isn't empty is read back whatever follows.
pub or_empty_reads_back : {E A : Type 0} (cut : Flaw → E) (e : A) (G : Grammar E A) (v : A)
    (front rest : List ℕ) → 0 < length front → G.piece v front → length front < 2 ^ 32
    → (empty_or_within cut e G).read (string_of front ++ rest) ≡ Ok (v, rest)
or_empty_reads_back cut e G v front rest some spells short =
    let whole = append-nil front in
    let fits = subst (λ b. length b < 2 ^ 32) (sym whole) short in
    let piece = or_empty_spells cut e G v front [] some spells fits in
    (empty_or_within cut e G).complete v (string_of front) rest
    (subst (λ b. (empty_or_within cut e G).piece v (string_of b)) whole piece)

-- Nothing else is a piece.
pub or_empty_exact : {E A : Type 0} (cut : Flaw → E) (e : A) (G : Grammar E A) (v : A)
    (bytes : List ℕ) → IsBytes bytes → (empty_or_within cut e G).piece v bytes
    → ((v ≡ e) × (bytes ≡ string_of [])) ⊎ IsSubPiece G.piece v bytes
or_empty_exact cut e G v bytes each ([], spells, same) =
    inl (same, (string_exact [] bytes each spells).0)
or_empty_exact cut e G v bytes each (b ∷ block, spells, inner) =
    inr (sub_exact cut G v bytes each (b ∷ block, spells, inner))
