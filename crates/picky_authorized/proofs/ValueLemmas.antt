-- A value between its quotes, piece by piece.
use Rattle.std.proofs.Common.{◌≡◌, ◌≢◌, ℕ, ◌==◌, true, false, List, [], ◌∷◌, ◌++◌, length, take}
use Rattle.std.proofs.Common.{Option, Some, None, refl, sym, ◌∙◌, ap, arith, inl, inr, subst}
use Rattle.std.proofs.lemmas.Bool.{and_left, and_right, cases_Bool, eqb-true, ne_eqb}
use Rattle.std.proofs.lemmas.List.{append_assoc, length-append, take_all}
use Rattle.std.specs.List.{position_or_len, list_any}
use Rattle.std.specs.Option.{option_map}
use Rattle.picky_text.specs.Lines.{HasNo}
use Rattle.picky_text.proofs.ListLaws.{all_front, none_passes}
use Rattle.picky_authorized.specs.declared.auth_option.AuthOption.{AuthOption}
use Rattle.picky_authorized.specs.OptionText.{is_equals, is_name, auth_option_named, option_in, quoted_text_in, escaped_value}

-- ---- options of values

-- pieces in front of a value
abbrev pub behind : (front : List ℕ) → Option (List ℕ) → Option (List ℕ)
behind front value = option_map (λ v. front ++ v) value

pub behind_both : (xs ys : List ℕ) (value : Option (List ℕ)) → behind xs (behind ys value) ≡ behind (xs ++ ys) value
behind_both xs ys None = refl
behind_both xs ys (Some v) = ap Some (sym (append_assoc xs ys v))

-- ---- the value of a text

-- a byte that is no quote is the value's, unless it is a backslash before one
pub text_goes : (b c : ℕ) (bs : List ℕ) → b ≢ 34 → (b ≡ 92 → c ≢ 34)
    → escaped_value (b ∷ c ∷ bs) ≡ behind (b ∷ []) (escaped_value (c ∷ bs))
unfolding escaped_value
text_goes b c bs other apart = elim (cases_Bool (b == 92)) [
  | inl backslash ↦
      let next : (c == 34) ≡ false = ne_eqb c 34 (apart (eqb-true b 92 backslash)) in
      rw (and_right (b == 92) (c == 34) next, ne_eqb b 34 other) refl
  | inr plain ↦ rw (and_left (b == 92) (c == 34) plain, ne_eqb b 34 other) refl
]

-- up to a quote behind a backslash, which is the value's
pub text_at_escaped : (front after : List ℕ) → HasNo 34 front
    → escaped_value (front ++ 92 ∷ 34 ∷ after) ≡ behind (front ++ 34 ∷ []) (escaped_value after)
unfolding escaped_value
text_at_escaped [] after none = refl
text_at_escaped (b ∷ []) after none =
    text_goes b 92 (34 ∷ after) none.0 (λ _ same. omega (arith, same))
    ∙ ap (behind (b ∷ [])) (text_at_escaped [] after tt) ∙ behind_both (b ∷ []) (34 ∷ []) (escaped_value after)
text_at_escaped (b ∷ c ∷ front) after none =
    text_goes b c (front ++ 92 ∷ 34 ∷ after) none.0 (λ _. none.1.0)
    ∙ ap (behind (b ∷ [])) (text_at_escaped (c ∷ front) after none.1)
    ∙ behind_both (b ∷ []) (c ∷ front ++ 34 ∷ []) (escaped_value after)

-- the piece before a quote doesn't end in a backslash
abbrev pub IsPiece : List ℕ → Type 0
IsPiece piece = (front : List ℕ) → piece ≢ front ++ 92 ∷ []

nil_is_piece : IsPiece []
nil_is_piece front same = omega (arith, ap length same, length-append front (92 ∷ []))

piece_behind : (b : ℕ) (piece : List ℕ) → IsPiece (b ∷ piece) → IsPiece piece
piece_behind b piece is front same = is (b ∷ front) (ap (λ l. b ∷ l) same)

-- at that quote the value ends, and so has to end the text
pub text_at_end : (piece : List ℕ) → HasNo 34 piece → IsPiece piece → escaped_value (piece ++ 34 ∷ []) ≡ Some piece
unfolding escaped_value
text_at_end [] none is = refl
text_at_end (b ∷ []) none is =
    text_goes b 34 [] none.0 (λ backslash. absurd (is [] (ap (λ c. c ∷ []) backslash)))
text_at_end (b ∷ c ∷ piece) none is =
    text_goes b c (piece ++ 34 ∷ []) none.0 (λ _. none.1.0)
    ∙ ap (behind (b ∷ [])) (text_at_end (c ∷ piece) none.1 (piece_behind b (c ∷ piece) is))

pub text_past_end : (piece : List ℕ) (d : ℕ) (more : List ℕ) → HasNo 34 piece → IsPiece piece
    → escaped_value (piece ++ 34 ∷ d ∷ more) ≡ None
unfolding escaped_value
text_past_end [] d more none is = refl
text_past_end (b ∷ []) d more none is =
    text_goes b 34 (d ∷ more) none.0 (λ backslash. absurd (is [] (ap (λ c. c ∷ []) backslash)))
    ∙ ap (behind (b ∷ [])) (text_past_end [] d more tt nil_is_piece)
text_past_end (b ∷ c ∷ piece) d more none is =
    text_goes b c (piece ++ 34 ∷ d ∷ more) none.0 (λ _. none.1.0)
    ∙ ap (behind (b ∷ [])) (text_past_end (c ∷ piece) d more none.1 (piece_behind b (c ∷ piece) is))

-- without a quote there is no value
pub text_without_end : (text : List ℕ) → HasNo 34 text → escaped_value text ≡ None
unfolding escaped_value
text_without_end [] none = refl
text_without_end (b ∷ []) none = rw (ne_eqb b 34 none.0) refl
text_without_end (b ∷ c ∷ text) none =
    text_goes b c text none.0 (λ _. none.1.0) ∙ ap (behind (b ∷ [])) (text_without_end (c ∷ text) none.1)

-- ---- the value so far

-- one piece more, and the quote behind its backslash
pub value_goes : (value next piece front rest after text : List ℕ) → behind value (escaped_value rest) ≡ escaped_value text
    → rest ≡ piece ++ 34 ∷ after → piece ≡ front ++ 92 ∷ [] → HasNo 34 piece → next ≡ (value ++ front) ++ 34 ∷ []
    → behind next (escaped_value after) ≡ escaped_value text
value_goes value next piece front rest after text before is ends none more =
    let none_in_front : HasNo 34 front = all_front (λ c. c ≢ 34) front (92 ∷ []) (subst (HasNo 34) ends none) in
    let whole : rest ≡ front ++ 92 ∷ 34 ∷ after =
    is ∙ ap (λ l. l ++ 34 ∷ after) ends ∙ append_assoc front (92 ∷ []) (34 ∷ after) in
    ap (λ v. behind v (escaped_value after)) (more ∙ append_assoc value front (34 ∷ []))
    ∙ sym (behind_both value (front ++ 34 ∷ []) (escaped_value after))
    ∙ ap (behind value) (sym (ap escaped_value whole ∙ text_at_escaped front after none_in_front)) ∙ before

-- the last piece, whose quote ends the text
pub value_ends : (value next piece rest after text : List ℕ) → behind value (escaped_value rest) ≡ escaped_value text
    → rest ≡ piece ++ 34 ∷ after → HasNo 34 piece → IsPiece piece → (length after == 0) ≡ true → next ≡ value ++ piece
    → Some next ≡ escaped_value text
value_ends value next piece rest [] text before is none last empty more =
    ap Some more ∙ ap (behind value) (sym (ap escaped_value is ∙ text_at_end piece none last)) ∙ before
value_ends value next piece rest (d ∷ after) text before is none last empty more =
    absurd (omega (arith, eqb-true (length (d ∷ after)) 0 empty))

-- or doesn't
pub value_is_open : (value piece rest after text : List ℕ) → behind value (escaped_value rest) ≡ escaped_value text
    → rest ≡ piece ++ 34 ∷ after → HasNo 34 piece → IsPiece piece → (length after == 0) ≡ false
    → None ≡ escaped_value text
value_is_open value piece rest [] text before is none last some = cc some
value_is_open value piece rest (d ∷ after) text before is none last some =
    ap (behind value) (sym (ap escaped_value is ∙ text_past_end piece d after none last)) ∙ before

-- no quote ends it
pub value_never_ends : (value rest text : List ℕ) → behind value (escaped_value rest) ≡ escaped_value text → HasNo 34 rest
    → None ≡ escaped_value text
value_never_ends value rest text before none = ap (behind value) (sym (text_without_end rest none)) ∙ before

-- a text that begins with no quote has no value
pub unquoted_none : (text : List ℕ) → ((rest : List ℕ) → text ≢ 34 ∷ rest) → None ≡ quoted_text_in text
unquoted_none [] other = refl
unquoted_none (b ∷ bs) other = rw (ne_eqb b 34 (λ same. other bs (ap (λ c. c ∷ bs) same))) refl

-- ---- a name without a value

pub bare_option : (text : List ℕ) (o : AuthOption) → position_or_len is_equals text ≡ length text → is_name text ≡ true
    → o ≡ auth_option_named text None → Some o ≡ option_in text
unfolding option_in
bare_option text o ends is made =
    let none : list_any is_equals text ≡ false = none_passes is_equals text ends in
    let front : take (position_or_len is_equals text) text ≡ text =
    take_all (position_or_len is_equals text) text (omega (arith, ends)) in
    rw (front, is, none) (ap Some made)
