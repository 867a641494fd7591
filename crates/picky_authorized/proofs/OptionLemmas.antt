-- The options of a text, part by part.
use Rattle.std.proofs.Common.{◌≡◌, ◌≢◌, ℕ, false, List, [], ◌∷◌, ◌++◌, Option, Some, None, refl, sym, ◌∙◌, ap}
use Rattle.std.proofs.lemmas.Bool.{eqb-true}
use Rattle.std.proofs.lemmas.List.{append_assoc}
use Rattle.std.specs.Option.{option_map}
use Rattle.picky_authorized.specs.declared.auth_option.AuthOption.{AuthOption}
use Rattle.picky_authorized.specs.declared.quotes.PartEnd.TheVariants.{Comma}
use Rattle.picky_authorized.specs.OptionText.{option_in}
use Rattle.picky_authorized.specs.Options.{each_option, onto_options, options_in}
use Rattle.picky_authorized.specs.Quotes.{ends_at, front_outside, parts_outside, rest_outside}
use Rattle.picky_authorized.proofs.QuoteLemmas.{more_parts, parts_first, rest_begins}

-- the options behind a part: none where nothing follows, and else those behind the comma
abbrev pub rest_options : List ℕ → Option (List AuthOption)
rest_options [] = Some []
rest_options (b ∷ more) = options_in more

rest_each : (rest : List ℕ) → each_option (more_parts (ends_at Comma) rest) ≡ rest_options rest
unfolding options_in parts_outside
rest_each [] = refl
rest_each (b ∷ more) = refl

-- the first option, and those behind it
pub options_first : (text : List ℕ) → options_in text
    ≡ onto_options (option_in (front_outside (ends_at Comma) text)) (rest_options (rest_outside (ends_at Comma) text))
unfolding options_in
options_first text =
    ap each_option (parts_first (ends_at Comma) text)
    ∙ ap (onto_options (option_in (front_outside (ends_at Comma) text))) (rest_each (rest_outside (ends_at Comma) text))

-- ---- options found so far

-- in front of others
abbrev pub before_options : List AuthOption → Option (List AuthOption) → Option (List AuthOption)
before_options found more = option_map (λ os. found ++ os) more

pub before_one : (found : List AuthOption) (o : AuthOption) (more : Option (List AuthOption))
    → before_options found (onto_options (Some o) more) ≡ before_options (found ++ o ∷ []) more
before_one found o None = refl
before_one found o (Some os) = ap Some (sym (append_assoc found (o ∷ []) os))

-- one option more, with a comma behind it
pub options_go_on : (found : List AuthOption) (o : AuthOption) (rest after text : List ℕ)
    → before_options found (options_in rest) ≡ options_in text
    → Some o ≡ option_in (front_outside (ends_at Comma) rest) → rest_outside (ends_at Comma) rest ≡ 44 ∷ after
    → before_options (found ++ o ∷ []) (options_in after) ≡ options_in text
options_go_on found o rest after text before is behind =
    sym (before_one found o (options_in after))
    ∙ ap (λ (p : Option AuthOption). before_options found (onto_options p (options_in after))) is
    ∙ ap (λ l. before_options found (onto_options (option_in (front_outside (ends_at Comma) rest)) (rest_options l))) (sym behind)
    ∙ ap (before_options found) (sym (options_first rest)) ∙ before

-- the last
pub options_end : (found : List AuthOption) (o : AuthOption) (rest text : List ℕ)
    → before_options found (options_in rest) ≡ options_in text
    → Some o ≡ option_in (front_outside (ends_at Comma) rest) → rest_outside (ends_at Comma) rest ≡ []
    → Some (found ++ o ∷ []) ≡ options_in text
options_end found o rest text before is behind =
    ap (λ (p : Option AuthOption). before_options found (onto_options p (Some []))) is
    ∙ ap (λ l. before_options found (onto_options (option_in (front_outside (ends_at Comma) rest)) (rest_options l))) (sym behind)
    ∙ ap (before_options found) (sym (options_first rest)) ∙ before

-- a part that says none
pub options_stop : (found : List AuthOption) (rest text : List ℕ)
    → before_options found (options_in rest) ≡ options_in text
    → None ≡ option_in (front_outside (ends_at Comma) rest) → None ≡ options_in text
options_stop found rest text before is =
    ap (λ (p : Option AuthOption). before_options found (onto_options p (rest_options (rest_outside (ends_at Comma) rest)))) is
    ∙ ap (before_options found) (sym (options_first rest)) ∙ before

-- what doesn't begin with a comma is nothing
pub no_comma_behind : (text : List ℕ) → ((more : List ℕ) → rest_outside (ends_at Comma) text ≢ 44 ∷ more)
    → rest_outside (ends_at Comma) text ≡ []
unfolding rest_outside front_outside
no_comma_behind text other = go (rest_outside (ends_at Comma) text) refl
  where
    go : (rest : List ℕ) → rest_outside (ends_at Comma) text ≡ rest → rest_outside (ends_at Comma) text ≡ []
    go [] is = is
    go (b ∷ more) is =
        let comma : b ≡ 44 = eqb-true b 44 (rest_begins (ends_at Comma) false 0 text b more is) in
        absurd (other more (is ∙ ap (λ c. c ∷ more) comma))
