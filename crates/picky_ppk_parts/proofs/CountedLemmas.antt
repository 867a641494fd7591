-- Strings, read one after another from a place on.
use Rattle.std.specs.Prelude.{◌≡◌, List, ◌∷◌, ℕ, suc, ◌-◌, ◌≤◌, length, drop, Result, Ok, Err}
use Rattle.std.proofs.Common.{refl, ap, ◌∙◌, arith}
use Rattle.std.proofs.lemmas.List.{length-drop}
use Rattle.picky_wire_base.specs.Flaw.{Flaw, Short, Flawed}
use Rattle.picky_wire_base.specs.Outcome.{and_then, map_err}
use Rattle.picky_wire_base.specs.Wire.{string}
use Rattle.picky_wire_base.proofs.When.{string_is_short}
use Rattle.picky_wire.specs.declared.error.IoKind.TheVariants as kinds
use Rattle.picky_wire_base.specs.declared.view.Stuck.{Stuck}
use Rattle.picky_wire_base.specs.View.{Seen, Lies, end_of, part_bytes, why_of}
use Rattle.picky_kv.specs.declared.algorithm.PpkKeyAlgorithmValue.{PpkKeyAlgorithmValue}
use Rattle.picky_kv.specs.Algorithm.{mpint_values_count}
use Rattle.picky_ppk_parts.specs.declared.error.PuttyError.{PuttyError}
use Rattle.picky_ppk_parts.specs.declared.error.PuttyError.TheVariants as errors
use Rattle.picky_ppk_parts.specs.PartsRefusal.{parts_flaw_error}
use Rattle.picky_ppk_parts.specs.Counted.{strings, counted}

-- how many bytes are taken once so many strings are read from a place on
unfoldable pub end_from : ℕ → ℕ → List ℕ → Result ℕ PuttyError
end_from more place private =
    and_then (map_err parts_flaw_error ((strings more).read (drop place private))) (λ found. Ok (length private - length found.1))

pub end_begins : (count left : ℕ) (algorithm : PpkKeyAlgorithmValue) (private : List ℕ)
    → count ≡ mpint_values_count algorithm → left ≡ count → end_from left 0 private ≡ counted algorithm private
unfolding end_from counted
end_begins count left algorithm private is all = ap (λ n. end_from n 0 private) (all ∙ is)

abbrev with_first : List ℕ → List (List ℕ) × List ℕ → Result (List (List ℕ) × List ℕ) Flaw
with_first v others = Ok (v ∷ others.0, others.1)

abbrev string_then : ℕ → List ℕ × List ℕ → Result (List (List ℕ) × List ℕ) Flaw
string_then more first = and_then ((strings more).read first.1) (with_first first.0)

abbrev pub len_taken : ℕ → List (List ℕ) × List ℕ → Result ℕ PuttyError
len_taken n found = Ok (n - length found.1)

tail_same : (r : Result (List (List ℕ) × List ℕ) Flaw) (v : List ℕ) (n : ℕ)
    → and_then (map_err parts_flaw_error (and_then r (with_first v))) (len_taken n) ≡ and_then (map_err parts_flaw_error r) (len_taken n)
tail_same (Ok x) v n = refl
tail_same (Err flaw) v n = refl

end_next : (more place next : ℕ) (v private : List ℕ) → string.read (drop place private) ≡ Ok (v, drop next private)
    → end_from (suc more) place private ≡ end_from more next private
unfolding end_from
end_next more place next v private is =
    ap (λ r. and_then (map_err parts_flaw_error (and_then r (string_then more))) (len_taken (length private))) is
    ∙ tail_same ((strings more).read (drop next private)) v (length private)

-- a string is taken
pub end_goes_on : (left more place next : ℕ) (v private : List ℕ) → left ≡ suc more
    → string.read (drop place private) ≡ Ok (v, drop next private) → end_from left place private ≡ end_from more next private
end_goes_on left more place next v private one is =
    ap (λ n. end_from n place private) one ∙ end_next more place next v private is

-- none is left
pub end_stops : (left place : ℕ) (private : List ℕ) → left ≡ 0 → place ≤ length private
    → end_from left place private ≡ Ok place
unfolding end_from
end_stops left place private none within =
    let len : length private - length (drop place private) ≡ place = omega (arith, length-drop place private) in
    ap (λ n. end_from n place private) none ∙ ap Ok len

end_short : (more place : ℕ) (private : List ℕ) → string.read (drop place private) ≡ Err Short
    → end_from (suc more) place private ≡ Err (errors.IoError kinds.UnexpectedEnd)
unfolding end_from
end_short more place private is =
    ap (λ r. and_then (map_err parts_flaw_error (and_then r (string_then more))) (len_taken (length private))) is

flaw_of : (r : Result (List ℕ × List ℕ) Flaw) (stuck : Stuck) → map_err Flawed r ≡ Err (why_of stuck)
    → (flaw : Flaw) × (r ≡ Err flaw)
flaw_of (Ok x) stuck is = cc is
flaw_of (Err flaw) stuck is = (flaw, refl)

-- a string is cut
pub end_refused : (left more place : ℕ) (private : List ℕ) (stuck : Stuck) → left ≡ suc more
    → Seen part_bytes (Lies private (end_of string private place)) Flawed string private place (Err stuck)
    → end_from left place private ≡ Err (errors.IoError kinds.UnexpectedEnd)
end_refused left more place private stuck one seen =
    let found = flaw_of (string.read (drop place private)) stuck seen.sees in
    let short = string_is_short.only (drop place private) found.0 found.1 in
    ap (λ n. end_from n place private) one ∙ end_short more place private (found.1 ∙ ap Err short)
