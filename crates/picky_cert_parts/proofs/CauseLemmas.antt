-- Why a layout is refused: some bytes are refused so at one of its fields.
use Rattle.std.specs.Prelude.{◌≡◌, ◌<◌, ◌^◌, ◌++◌, ℕ, List, [], length, Ok, None, IsUtf8, ok_or}
use Rattle.std.specs.Prelude.{Result}
use Rattle.std.proofs.Common.{ap, subst, ◌∙◌, inl, inr}
use Rattle.picky_wire_base.specs.Grammar.{Grammar}
use Rattle.picky_wire_base.specs.Combine.{narrow, ◌>>=◌}
use Rattle.picky_wire_base.specs.Narrowed.{Narrowing, meant}
use Rattle.picky_wire_base.specs.Outcome.{and_then, map_err}
use Rattle.picky_wire_base.specs.Entry.{entry}
use Rattle.picky_wire_base.specs.Table.{Table, find_entry}
use Rattle.picky_wire_base.specs.Wire.{text, string_of}
use Rattle.picky_wire_base.proofs.Strings.{text_reads_back}
use Rattle.picky_wire.specs.declared.error.WireError.{WireError}
use Rattle.picky_wire.specs.Count.{Rose}
use Rattle.picky_wire.specs.Takes.{HasCause, Causes}
use Rattle.picky_wire.specs.Flaws.{wire_error}
use Rattle.picky_cert_parts.specs.Field.{field}

-- what is refused at the first field is refused
pub at_first : {E A B : Type 0} (C : Causes E) (G : Grammar E A) (H : A → Grammar E B) (fault : Type 0) (e : E)
    → HasCause C G.read fault e → HasCause C (G >>= H).read fault e
at_first C G H fault e (inl counted) = inl counted
at_first C G H fault e (inr (inl want)) = inr (inl want)
at_first C G H fault e (inr (inr (bytes, refused))) =
    inr (inr (bytes, ap (λ r. and_then r (λ first. (H first.0).read first.1)) refused))

-- so is what is refused after a first field that is spelled
pub at_second : {E A B : Type 0} (C : Causes E) (G : Grammar E A) (H : A → Grammar E B) (a : A) (front : List ℕ)
    → G.piece a front → (fault : Type 0) (e : E) → HasCause C (H a).read fault e → HasCause C (G >>= H).read fault e
at_second C G H a front spells fault e (inl counted) = inl counted
at_second C G H a front spells fault e (inr (inl want)) = inr (inl want)
at_second C G H a front spells fault e (inr (inr (bytes, refused))) = inr (inr (
  front ++ bytes,
  ap (λ r. and_then r (λ first. (H first.0).read first.1)) (G.complete a front bytes spells) ∙ refused,
))

-- so is a field that may say less
pub at_field : {E A B : Type 0} (C : Causes E) (G : Grammar E A) (M : Narrowing E A B) (fault : Type 0) (e : E)
    → HasCause C G.read fault e → HasCause C (narrow G M).read fault e
at_field C G M fault e (inl counted) = inl counted
at_field C G M fault e (inr (inl want)) = inr (inl want)
at_field C G M fault e (inr (inr (bytes, refused))) = inr (inr (bytes, ap (λ r. and_then r (meant M)) refused))

-- and a text that is no name of the table
pub at_name : {E A : Type 0} (C : Causes E) (of : WireError → E) (T : Table (List ℕ) A) (why : List ℕ → E)
    (fault : Type 0) (name : List ℕ) → length name < 2 ^ 32 → IsUtf8 name → find_entry T name ≡ None
    → HasCause C (narrow (field of text) (entry why T)).read fault (why name)
at_name C of T why fault name short utf8 none = inr (inr (
  string_of name ++ [],
  ap (λ r. and_then (map_err (λ flaw. of (wire_error flaw)) r) (meant (entry why T))) (text_reads_back name [] short utf8)
      ∙ ap (λ o. and_then (ok_or o (why name)) (λ b. Ok (b, []))) none,
))

-- the count did not move before the call that failed
pub counted_later : {E A : Type 0} (C : Causes E) (reads : List ℕ → Result (A × List ℕ) E) (e : E) (before mid after : ℕ)
    → mid ≡ before → HasCause C reads (Rose mid after) e → HasCause C reads (Rose before after) e
counted_later C reads e before mid after calm cause = subst (λ n. HasCause C reads (Rose n after) e) calm cause
