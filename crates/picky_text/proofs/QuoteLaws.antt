-- The laws of quoting: it is undone, and what it adds are backslashes alone.
use Rattle.std.proofs.Common.{◌≡◌, ◌≢◌, ℕ, ◌==◌, false, List, [], ◌∷◌, refl, sym, ◌∙◌, ap, arith}
use Rattle.std.proofs.Common.{inl, inr}
use Rattle.std.proofs.lemmas.Bool.{cases_Bool}
use Rattle.std.proofs.lemmas.Bool.Decides.{nat_tests}
use Rattle.picky_text.specs.Lines.{HasNo}
use Rattle.picky_text.specs.Quote.{is_special, quote, unquote}

-- a byte that is no backslash stands for itself
pub unquote_plain : (b : ℕ) (bs : List ℕ) → (b == 92) ≡ false → unquote (b ∷ bs) ≡ b ∷ unquote bs
unquote_plain b [] plain = refl
unquote_plain b (c ∷ bs) plain = rw plain refl

no_backslash : (b : ℕ) → is_special b ≡ false → (b == 92) ≡ false
no_backslash b plain = grind (arith, nat_tests)

-- what was quoted is read back
pub quote_is_read_back : (x : List ℕ) → unquote (quote x) ≡ x
quote_is_read_back [] = refl
quote_is_read_back (b ∷ bs) = elim (cases_Bool (is_special b)) [
  | inl special ↦ rw (special, special) (ap (λ l. b ∷ l) (quote_is_read_back bs))
  | inr plain ↦
      rw plain (unquote_plain b (quote bs) (no_backslash b plain)
      ∙ ap (λ l. b ∷ l) (quote_is_read_back bs))
]

-- a byte that is no backslash stands in the quoted text only if it stands in the text
pub quote_has_no : (b : ℕ) (x : List ℕ) → b ≢ 92 → HasNo b x → HasNo b (quote x)
quote_has_no b [] other none = tt
quote_has_no b (c ∷ cs) other none =
    let more = quote_has_no b cs other none.1 in
    elim (cases_Bool (is_special c)) [
      | inl special ↦ rw special (λ same. other (sym same), (none.0, more))
      | inr plain ↦ rw plain (none.0, more)
    ]

-- what `laws` states of quoting
pub ruleset quote_laws = (quote_is_read_back, quote_has_no)
