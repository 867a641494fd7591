-- The secret of Ed25519, seen as the number that its string holds.
use Rattle.std.specs.Prelude.{◌≡◌, ⊤, List, ℕ, ◌-◌, ◌^◌, ◌<◌, ◌≤◌, nat_le, length, drop, Result, Ok, Err}
use Rattle.std.specs.Prelude.{if◌then◌else◌}
use Rattle.std.proofs.Common.{refl, sym, ap, ◌∙◌, inl, inr}
use Rattle.std.proofs.lemmas.Bool.{lt-leb}
use Rattle.picky_wire_base.specs.Flaw.{Flaw, Short, Why, Flawed, Length}
use Rattle.picky_wire_base.specs.Narrowed.{meant}
use Rattle.picky_wire_base.specs.Combine.{placed}
use Rattle.picky_wire_base.specs.Outcome.{and_then, map_err}
use Rattle.picky_wire_base.specs.Zeros.{without_zeros}
use Rattle.picky_wire_base.specs.carried.Zeros.{zeros_are_dropped, all_is_kept}
use Rattle.picky_wire_base.specs.Magnitude.{StandsFor}
use Rattle.picky_wire_base.specs.Mpint.{mpint, as_mpint}
use Rattle.picky_wire_base.specs.Wire.{string}
use Rattle.picky_wire_base.proofs.Narrowed.{narrow_read_when}
use Rattle.picky_wire_base.proofs.When.{string_is_short, mpint_is_short, mpint_only, mpint_within_is_not_big}
use Rattle.picky_wire_base.specs.declared.view.Part.{Part}
use Rattle.picky_wire_base.specs.declared.view.Stuck.{Stuck}
use Rattle.picky_wire_base.specs.declared.view.Stuck.TheVariants as stucks
use Rattle.picky_wire_base.specs.View.{Seen, Lies, Places, end_of, part_bytes, why_in, why_of}
use Rattle.picky_ppk_parts.specs.Number.{padded_number}
use Rattle.picky_ppk_parts.specs.carried.Number.{padded_len, number_complete}
use Rattle.picky_ppk_parts.specs.EdSecret.{as_number}
use Rattle.picky_ppk_parts.specs.Secret.{ppk_ed_secret}
use Rattle.picky_ppk_parts.specs.inner.View.{ed_seen}

-- the number of an mpint is what follows the zeros of its string
number_is : (a v : List ℕ) → StandsFor a v → without_zeros a ≡ v
number_is a v stands =
    ap without_zeros stands.are ∙ zeros_are_dropped stands.zeros v ∙ all_is_kept v stands.mpint.begins

-- the string that an mpint is
pub record HasNumber (bytes v rest : List ℕ) : Type 0 where
  pub content : List ℕ
  pub read : string.read bytes ≡ Ok (content, rest)
  pub stands : StandsFor content v

string_in : (bytes v rest : List ℕ) → mpint.read bytes ≡ Ok (v, rest) → HasNumber bytes v rest
unfolding mpint
string_in bytes v rest is =
    let found = (narrow_read_when string as_mpint bytes v rest).0 is in
    record { content = found.0; read = found.1; stands = found.2 }

-- ---- read

ed_reads : (bytes v rest secret : List ℕ) → HasNumber bytes v rest → length v ≤ 32 → secret ≡ padded_number v
    → ppk_ed_secret.read bytes ≡ Ok (secret, rest)
unfolding ppk_ed_secret
ed_reads bytes v rest secret has short is =
    let number = number_is has.content v has.stands in
    let len : length secret ≡ 32 = ap length is ∙ padded_len v short in
    let same : without_zeros has.content ≡ without_zeros secret =
    number ∙ sym (all_is_kept v has.stands.mpint.begins) ∙ sym (zeros_are_dropped (32 - length v) v)
    ∙ ap without_zeros (sym is) in
    ap (λ r. and_then (map_err (placed 0) r) (meant (as_number (0, Length)))) has.read
    ∙ ap (λ d. and_then d (λ b. Ok (b, rest))) (number_complete (0, Length) has.content secret (len, same))

pub ed_is_seen : (private : List ℕ) (part : Part) (next : ℕ)
    → Seen part_bytes (Lies private (end_of mpint private 0)) Flawed mpint private 0 (Ok (part, next))
    → length part.bytes.now ≤ 32 → Seen {X = Part} ed_seen (λ _. ⊤) why_in ppk_ed_secret private 0 (Ok (part, next))
unfolding mpint ppk_ed_secret
ed_is_seen private part next seen short = record {
  sees = ed_reads private part.bytes.now (drop next private) (ed_seen part)
      (string_in private part.bytes.now (drop next private) seen.sees) short refl;
  placed = (tt, seen.placed.1, seen.placed.2);
}

-- ---- too long

ed_refuses : (bytes v rest : List ℕ) → HasNumber bytes v rest → 32 < length v → ppk_ed_secret.read bytes ≡ Err (0, Length)
unfolding ppk_ed_secret
ed_refuses bytes v rest has long =
    let number = number_is has.content v has.stands in
    ap (λ r. and_then (map_err (placed 0) r) (meant (as_number (0, Length)))) has.read
    ∙ ap (λ w. and_then (if nat_le (length w) 32 then Ok (padded_number w) else Err (0, Length)) (λ b. Ok (b, rest))) number
    ∙ ap (λ t. and_then (if t then Ok (padded_number v) else Err (0, Length)) (λ b. Ok (b, rest))) (lt-leb (length v) 32 long)

pub ed_is_long : (private : List ℕ) (part : Part) (next : ℕ)
    → Seen part_bytes (Lies private (end_of mpint private 0)) Flawed mpint private 0 (Ok (part, next))
    → 32 < length part.bytes.now
    → Seen {X = Part} ed_seen (λ _. ⊤) why_in ppk_ed_secret private 0 (Err stucks.Length)
ed_is_long private part next seen long = record {
  sees = ap (map_err why_in) (ed_refuses private part.bytes.now (drop next private)
      (string_in private part.bytes.now (drop next private) seen.sees) long);
  placed = tt;
}

-- ---- cut

flaw_is : {A : Type 0} (r : Result A Flaw) (why : Why) → map_err Flawed r ≡ Err why
    → (flaw : Flaw) × (r ≡ Err flaw) × (Flawed flaw ≡ why)
flaw_is (Ok x) why is = cc is
flaw_is (Err flaw) why is = (flaw, refl, cc is)

short_why : (bytes : List ℕ) (why : Why) → length bytes < 2 ^ 32 → map_err Flawed (mpint.read bytes) ≡ Err why
    → (mpint.read bytes ≡ Err Short) × (Flawed Short ≡ why)
short_why bytes why few refused =
    let found = flaw_is (mpint.read bytes) why refused in
    elim (mpint_only bytes found.0 found.1) [
      | inl short ↦ (found.1 ∙ ap Err short, ap Flawed (sym short) ∙ found.2)
      | inr big ↦ absurd (mpint_within_is_not_big bytes few (found.1 ∙ ap Err big))
    ]

ed_is_cut : (bytes : List ℕ) → mpint.read bytes ≡ Err Short → ppk_ed_secret.read bytes ≡ Err (0, Flawed Short)
unfolding ppk_ed_secret
ed_is_cut bytes short =
    let cut = (string_is_short.short bytes).1 ((mpint_is_short bytes).0 short) in
    ap (λ r. and_then (map_err (placed 0) r) (meant (as_number (0, Length)))) cut

no_name : (blob : List ℕ) (end : ℕ) (stuck : Stuck) → Flawed Short ≡ why_of stuck
    → Places {X = Part} (λ _. ⊤) blob end (Err stuck)
no_name blob end stucks.Short is = tt
no_name blob end stucks.NotUtf8 is = tt
no_name blob end (stucks.Name name) is = cc is
no_name blob end stucks.Length is = tt
no_name blob end (stucks.Number n) is = tt

pub ed_is_short : (private : List ℕ) (stuck : Stuck) → length private < 2 ^ 32
    → Seen part_bytes (Lies private (end_of mpint private 0)) Flawed mpint private 0 (Err stuck)
    → Seen {X = Part} ed_seen (λ _. ⊤) why_in ppk_ed_secret private 0 (Err stuck)
ed_is_short private stuck few seen =
    let found = short_why private (why_of stuck) few seen.sees in
    record {
      sees = ap (map_err why_in) (ed_is_cut private found.0) ∙ ap Err found.1;
      placed = no_name private (end_of ppk_ed_secret private 0) stuck found.1;
    }

pub ruleset ed_at_front = (ed_is_seen, ed_is_long, ed_is_short)
