-- The parts of a source that is text are text.
use Rattle.std.proofs.Common.{◌≡◌, ◌⊎◌, ℕ, ◌<◌, ◌+◌, ◌-◌, List, [], ◌∷◌, ◌++◌, length, slice_index, take, drop}
use Rattle.std.proofs.Common.{Option, Some, None, refl, sym, ◌∙◌, ap, arith, inl, inr, subst}
use Rattle.std.proofs.lemmas.List.{append_assoc, drop_at, get_or_append_left, length-append, take_at}
use Rattle.std.proofs.lemmas.Str.{IsCharBoundary-after_ascii, IsUtf8-drop, IsUtf8-nil, IsUtf8-take}
use Rattle.std.specs.Option.{IfSome}
use Rattle.std.specs.Str.{IsUtf8}
use Rattle.picky_issuing.specs.Parts.{IsCut, cut, issuer_text_of, issuer_text_part, key_text_of_cut}
use Rattle.picky_issuing.specs.Parts.{key_part, mark_cr_lf, mark_lf, mark_word}
use Rattle.picky_issuing.proofs.PartsLaws.{cut_both_ways, last_of}

-- text cut after an LF is text on both sides
sides_are_text : (front rest : List ℕ) → IsUtf8 (front ++ rest) → 0 < length front → slice_index front (length front - 1) ≡ 10
    → IsUtf8 front × IsUtf8 rest
sides_are_text front rest utf8 some lf =
    let n : ℕ = length front - 1 in
    let whole = length-append front rest in
    let at : slice_index (front ++ rest) n ≡ 10 = get_or_append_left front rest 0 n (omega (arith, some)) ∙ lf in
    let boundary = IsCharBoundary-after_ascii (front ++ rest) n utf8 (omega (arith, some, whole)) (omega (arith, at)) in
    let len : length front ≡ n + 1 = omega (arith, some) in (
      subst IsUtf8 (take_at front rest (n + 1) len) (IsUtf8-take (front ++ rest) (n + 1) utf8 boundary),
      subst IsUtf8 (drop_at front rest (n + 1) len) (IsUtf8-drop (front ++ rest) (n + 1) utf8 boundary),
    )

issuer_is_text : (text issuer key : List ℕ) → IsUtf8 text → IsCut text issuer key → IsUtf8 issuer
issuer_is_text text [] key utf8 is = IsUtf8-nil
issuer_is_text text (b ∷ issuer) key utf8 is = elim is.ended [
  | inl empty ↦ cc empty
  | inr lf ↦ (sides_are_text (b ∷ issuer) (is.mark ++ key) (subst IsUtf8 (is.whole ∙ append_assoc (b ∷ issuer) is.mark key) utf8) (omega arith) lf).0
]

-- what follows a mark that LF ends
after_mark : (text issuer mark key : List ℕ) → IsUtf8 text → text ≡ issuer ++ mark ++ key → 0 < length mark
    → slice_index mark (length mark - 1) ≡ 10 → IsUtf8 key
after_mark text issuer mark key utf8 whole some lf =
    (sides_are_text (issuer ++ mark) key (subst IsUtf8 whole utf8)
    (omega (arith, some, length-append issuer mark)) (last_of issuer mark some ∙ lf)).1

key_is_text : (text issuer key : List ℕ) → IsUtf8 text → IsCut text issuer key → IsUtf8 key
key_is_text text issuer key utf8 is = elim is.is_mark [
  | inl lf ↦ after_mark text issuer mark_lf key utf8 (is.whole ∙ ap (λ m. issuer ++ m ++ key) lf) (omega arith) refl
  | inr other ↦ elim other [
    | inl cr_lf ↦ after_mark text issuer mark_cr_lf key utf8 (is.whole ∙ ap (λ m. issuer ++ m ++ key) cr_lf) (omega arith) refl
    | inr word ↦ subst IsUtf8 (sym word.1) IsUtf8-nil
  ]
]

pub parts_are_text : (text : List ℕ) → IsUtf8 text → IfSome (issuer_text_part text) IsUtf8 × IsUtf8 (key_part text)
parts_are_text text utf8 = go (cut text) refl
  where
    go : (parts : Option (List ℕ × List ℕ)) → cut text ≡ parts
        → IfSome (issuer_text_of parts) IsUtf8 × IsUtf8 (key_text_of_cut text parts)
    go None is = (tt, utf8)
    go (Some (issuer, key)) is =
        let found = (cut_both_ways text issuer key).0 is in
        (issuer_is_text text issuer key utf8 found, key_is_text text issuer key utf8 found)
