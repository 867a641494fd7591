-- The value so far, by the piece in front of the next quote.
use Rattle.std.proofs.Common.{◌≡◌, ◌++◌, ◌∷◌, ◌∙◌, ℕ, List, [], Some, None, ap, arith, length, rules, sym, string_bytes}
use Rattle.std.proofs.lemmas.List.{length-append}
use Rattle.std.proofs.lemmas.Str.Pattern.{split_parts, strip_suffix_char}
use Rattle.picky_text.proofs.UnquoteLemmas.{none_from_places}
use Rattle.picky_authorized.proofs.ValueLemmas.{value_ends, value_goes, value_is_open, value_never_ends}
use Rattle.picky_authorized.proofs.auth_option.closed_value.Goals as goal

pub returns-then-not-is_empty-clause-value : goal.returns-then-not-is_empty-clause-value
returns-then-not-is_empty-clause-value c =
    let rest : List ℕ = c.pieces.rest.now in
    let piece : List ℕ = c.in-Some.piece.now in
    let parts = split_parts 34 rest (Some (c.in-Some.piece, c.in-Some.after)) c.in-Some.ensures.cases (omega arith) in
    value_is_open (string_bytes c.pieces.value) piece rest c.in-Some.after.now c.args.text.now c.pieces.invariant.1 parts.0
    (none_from_places 34 piece parts.1) (strip_suffix_char 92 piece None c.in-None.ensures.cases (omega arith))
    (sym c.is_empty.ensures ∙ c.if-not-is_empty.true)

pub returns-in-None-clause-value : goal.returns-in-None-clause-value
returns-in-None-clause-value c =
    let rest : List ℕ = c.pieces.rest.now in
    let piece : List ℕ = c.in-Some.piece.now in
    let parts = split_parts 34 rest (Some (c.in-Some.piece, c.in-Some.after)) c.in-Some.ensures.cases (omega arith) in
    value_ends (string_bytes c.pieces.value) (string_bytes c.push-in-None.new.value) piece rest c.in-Some.after.now
    c.args.text.now c.pieces.invariant.1 parts.0 (none_from_places 34 piece parts.1)
    (strip_suffix_char 92 piece None c.in-None.ensures.cases (omega arith))
    (sym c.is_empty.ensures ∙ c.if-not-is_empty.false) c.in_ok-push-in-None.ensures.bytes

pub pieces-preserved : goal.pieces-preserved
pieces-preserved c =
    let rest : List ℕ = c.pieces.rest.now in
    let piece : List ℕ = c.in-Some.piece.now in
    let front : List ℕ = c.in-Some-strip_suffix.front.now in
    let after : List ℕ = c.in-Some.after.now in
    let parts = split_parts 34 rest (Some (c.in-Some.piece, c.in-Some.after)) c.in-Some.ensures.cases (omega arith) in
    let ends : piece ≡ front ++ 92 ∷ [] =
    strip_suffix_char 92 piece (Some c.in-Some-strip_suffix.front) c.in-Some-strip_suffix.ensures.cases (omega arith) in
    let first = c.in_ok-push-in-Some-strip_suffix.ensures in
    let second = c.in_ok-push-in-Some-strip_suffix-2.ensures in (
      search rules,
      value_goes (string_bytes c.pieces.value) (string_bytes c.push-in-Some-strip_suffix.new.value) piece front rest after
          c.args.text.now c.pieces.invariant.1 parts.0 ends (none_from_places 34 piece parts.1)
          (second.bytes ∙ ap (λ v. v ++ 34 ∷ []) first.bytes),
      omega (
        arith,
        first.len,
        second.len,
        c.pieces.invariant.2,
        ap length parts.0,
        length-append piece (34 ∷ after),
        ap length ends,
        length-append front (92 ∷ []),
      ),
    )

pub returns-clause-value : goal.returns-clause-value
returns-clause-value c =
    let rest : List ℕ = c.pieces.rest.now in
    value_never_ends (string_bytes c.pieces.value) rest c.args.text.now c.pieces.invariant.1
    (none_from_places 34 rest (split_parts 34 rest None c.in_default.ensures.cases (omega arith)))
