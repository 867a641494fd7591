-- Strings, heads and entries of a table, as code reads them.
use Rattle.std.proofs.Common.{◌≡◌, ◌<◌, ◌≤◌, ◌∙◌, ℕ, List, [], ◌∷◌, length, take, drop, refl, sym, ap, arith}
use Rattle.std.specs.Prelude.{Result, Ok, Err, nat_lt, if◌then◌else◌}
use Rattle.std.proofs.lemmas.Bool.{lt-ltb, le-ltb}
use Rattle.std.proofs.lemmas.List.{length-drop, nil_from_length}
use Rattle.picky_wire_base.specs.Flaw.{Flaw, Reason, Short}
use Rattle.picky_wire_base.specs.Outcome.{and_then, map_err}
use Rattle.picky_wire_base.specs.carried.Outcome.{pass_ok}
use Rattle.picky_wire_base.specs.Row.{Solid}
use Rattle.picky_wire_base.specs.Wire.{byte_array, uint32}
use Rattle.picky_wire_base.proofs.Solid.{refuses_empty}
use Rattle.picky_ask.specs.declared.question.Head.{Head}
use Rattle.picky_ask.specs.declared.table.TableError.{TableError}
use Rattle.picky_ask.specs.declared.table.TableError.TheVariants as errors
use Rattle.picky_ask.specs.Table.{entry, string_whole}
use Rattle.picky_ask.specs.Whole.{whole_only}

-- ---- a string

-- behind the length stand that many bytes, or fewer
after_len : (bytes rest : List ℕ) (len : ℕ) → uint32.read bytes ≡ Ok (len, rest)
    → string_whole.read bytes ≡ map_err (λ _. errors.LengthPastEnd) ((byte_array len).read rest)
unfolding string_whole
after_len bytes rest len is =
    ap (λ (r : Result (ℕ × List ℕ) Flaw). and_then (map_err (λ _. errors.EndsInEntry) r)
    (λ f. map_err (λ _. errors.LengthPastEnd) ((byte_array f.0).read f.1))) is

pub past_end : (bytes rest : List ℕ) (len : ℕ) → uint32.read bytes ≡ Ok (len, rest) → length rest < len
    → string_whole.read bytes ≡ Err errors.LengthPastEnd
unfolding byte_array
past_end bytes rest len is fewer =
    after_len bytes rest len is
    ∙ ap (λ b. map_err (λ _. errors.LengthPastEnd) (if b then Err Short else Ok (take len rest, drop len rest)))
    (lt-ltb (length rest) len fewer)

pub string_is : (bytes rest front back : List ℕ) (len : ℕ) → uint32.read bytes ≡ Ok (len, rest) → len ≤ length rest
    → front ≡ take len rest → back ≡ drop len rest → string_whole.read bytes ≡ Ok (front, back)
unfolding byte_array
string_is bytes rest front back len is enough front_is back_is =
    let parts : (take len rest, drop len rest) ≡ (front, back) =
    ap (λ (f : List ℕ). (f, drop len rest)) (sym front_is) ∙ ap (λ (b : List ℕ). (front, b)) (sym back_is) in
    after_len bytes rest len is
    ∙ ap (map_err (λ _. errors.LengthPastEnd))
    (pass_ok (nat_lt (length rest) len) Short (take len rest, drop len rest) (front, back) (le-ltb (length rest) len enough) parts)

-- ---- a head that is all of its string

more_behind : {A : Type 0} (e : TableError) (x : A) (rest : List ℕ) (r : Result (A × List ℕ) Reason) → r ≡ Ok (x, rest)
    → 0 < length rest → whole_only e r ≡ Err e
more_behind e x [] r is some = absurd (omega arith)
more_behind e x (b ∷ rest) r is some = ap (whole_only e) is

pub bytes_behind : (e : TableError) (h : Head) (bytes : List ℕ) (end : ℕ) (r : Result (Head × List ℕ) Reason)
    → r ≡ Ok (h, drop end bytes) → end < length bytes → whole_only e r ≡ Err e
bytes_behind e h bytes end r is fewer = more_behind e h (drop end bytes) r is (simp length-drop (omega arith))

pub none_behind : (e : TableError) (h : Head) (bytes : List ℕ) (end : ℕ) (r : Result (Head × List ℕ) Reason)
    → r ≡ Ok (h, drop end bytes) → length bytes ≤ end → whole_only e r ≡ Ok h
none_behind e h bytes end r is all =
    let none : drop end bytes ≡ [] = nil_from_length (drop end bytes) (simp length-drop (omega arith)) in
    ap (whole_only e) (is ∙ ap (λ (rest : List ℕ). Ok (h, rest)) none)

pub ruleset whole_heads = (bytes_behind, none_behind)

-- ---- an entry

pub entry_solid : Solid entry.piece
unfolding entry string_whole uint32 byte_array
entry_solid = refuses_empty entry errors.EndsInEntry refl
