-- The laws of the header and the footer: what stands behind the one, and what stands before the first of the other.
use Rattle.std.proofs.Common.{◌≡◌, ◌≢◌, ◌<◌, ℕ, List, [], ◌∷◌, ◌++◌, length, refl, sym, ap, ◌∙◌, subst, arith}
use Rattle.std.proofs.Common.{Some, None, option_map, inl, inr}
use Rattle.picky_text.specs.Behind.{behind}
use Rattle.picky_text.proofs.FrontLaws.{behind_front, behind_none, behind_says, option_cases}
use Rattle.picky_sshkey_blob.specs.Pem.{footer}
use Rattle.picky_sshkey_blob.specs.PemRefusal.{before_footer}

-- ---- before the first footer

-- no text is shorter than a footer that it begins with
no_empty_footer : (rest : List ℕ) → [] ≢ footer ++ rest
unfolding footer
no_empty_footer rest same = cc same

-- At a footer nothing stands before it.
at_footer : (text rest : List ℕ) → text ≡ footer ++ rest → before_footer text ≡ Some []
unfolding before_footer
at_footer [] rest is = absurd (no_empty_footer rest is)
at_footer (b ∷ text) rest is =
    let some = ap (behind footer) is ∙ behind_front footer rest in
    rw some refl

-- At another byte, that byte and what stands before the first footer behind it.
past_byte : (b : ℕ) (text : List ℕ) → ((rest : List ℕ) → b ∷ text ≢ footer ++ rest)
    → before_footer (b ∷ text) ≡ option_map (λ body. b ∷ body) (before_footer text)
unfolding before_footer
past_byte b text none = rw (behind_none footer (b ∷ text) none) refl

-- What stands before the first footer is what is before it.
pub before_first_footer : (body rest : List ℕ)
    → ((a b : List ℕ) → length a < length body → body ++ (footer ++ rest) ≢ a ++ (footer ++ b))
    → before_footer (body ++ (footer ++ rest)) ≡ Some body
before_first_footer [] rest first = at_footer (footer ++ rest) rest refl
before_first_footer (c ∷ body) rest first =
    let more = before_first_footer body rest (λ a b less same.
    first (c ∷ a) b (omega arith) (ap (λ l. c ∷ l) same)) in
    past_byte c (body ++ (footer ++ rest)) (λ r same. first [] r (omega arith) same)
    ∙ ap (option_map (λ l. c ∷ l)) more

-- a text, cut at its first footer
pub record IsCutAtFooter (text body : List ℕ) : Type 0 where
  pub rest : List ℕ
  pub is : text ≡ body ++ (footer ++ rest)
  pub first : (a b : List ℕ) → length a < length body → body ++ (footer ++ rest) ≢ a ++ (footer ++ b)

-- one byte more before it
cut_more : (b : ℕ) (text body : List ℕ) → ((rest : List ℕ) → b ∷ text ≢ footer ++ rest) → IsCutAtFooter text body
    → IsCutAtFooter (b ∷ text) (b ∷ body)
cut_more b text body none cut = record {
  rest = cut.rest;
  is = ap (λ l. b ∷ l) cut.is;
  first = go;
}
  where
    go : (x y : List ℕ) → length x < length (b ∷ body) → (b ∷ body) ++ (footer ++ cut.rest) ≢ x ++ (footer ++ y)
    go [] y less same = none y (ap (λ l. b ∷ l) cut.is ∙ same)
    go (c ∷ x) y less same =
        let tails : body ++ (footer ++ cut.rest) ≡ x ++ (footer ++ y) = cc same in
        cut.first x y (omega arith) tails

-- nothing stands in no text
no_text : (body : List ℕ) → before_footer [] ≢ Some body
unfolding before_footer
no_text body same = cc same

-- What is before the first footer stands there.
pub before_footer_says : (text body : List ℕ) → before_footer text ≡ Some body → IsCutAtFooter text body
before_footer_says [] body says = absurd (no_text body says)
before_footer_says (b ∷ text) body says = elim (option_cases (behind footer (b ∷ text))) [
  | inl some ↦
      let is = behind_says footer (b ∷ text) some.0 some.1 in
      let empty : [] ≡ body = cc (says, at_footer (b ∷ text) some.0 is) in
      subst (IsCutAtFooter (b ∷ text)) empty
      (record { rest = some.0; is = is; first = λ x y less same. absurd (omega arith) })
  | inr none ↦
      let other = λ (rest : List ℕ) (same : b ∷ text ≡ footer ++ rest).
      let found : None ≡ Some rest = sym none ∙ ap (behind footer) same ∙ behind_front footer rest in absurd (cc found) in
      let next = sym (past_byte b text other) ∙ says in
      elim (option_cases (before_footer text)) [
        | inl more ↦
            let whole : b ∷ more.0 ≡ body = cc (next, ap (option_map (λ l. b ∷ l)) more.1) in
            subst (IsCutAtFooter (b ∷ text)) whole (cut_more b text more.0 other (before_footer_says text more.0 more.1))
        | inr nothing ↦
            let no : None ≡ Some body = sym (ap (option_map (λ l. b ∷ l)) nothing) ∙ next in absurd (cc no)
      ]
]

-- Nothing is where there is no footer.
pub before_no_footer : (text : List ℕ) → ((a b : List ℕ) → text ≢ a ++ (footer ++ b)) → before_footer text ≡ None
before_no_footer text none = elim (option_cases (before_footer text)) [
  | inl some ↦
      let cut = before_footer_says text some.0 some.1 in
      absurd (none some.0 cut.rest cut.is)
  | inr nothing ↦ nothing
]
