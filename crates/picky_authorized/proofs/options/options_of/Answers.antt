-- The options so far, by the part in front of the next comma.
use Rattle.std.proofs.Common.{◌≡◌, ◌∙◌, ◌∷◌, ℕ, List, [], Some, None, ap, arith, length, rules, sym}
use Rattle.std.proofs.lemmas.Str.Pattern.{strip_prefix_char}
use Rattle.picky_authorized.specs.declared.quotes.PartEnd.TheVariants.{Comma}
use Rattle.picky_authorized.specs.OptionText.{option_in}
use Rattle.picky_authorized.specs.Options.{options_in}
use Rattle.picky_authorized.specs.Quotes.{ends_at, front_outside, rest_outside}
use Rattle.picky_authorized.proofs.OptionLemmas.{before_options, no_comma_behind, options_end, options_go_on, options_stop}
use Rattle.picky_authorized.proofs.QuoteLemmas.{front_no_longer, rest_no_longer}
use Rattle.picky_authorized.proofs.options.options_of.Goals as goal

pub option_of-requires : goal.option_of-requires
option_of-requires c =
    omega (
      arith,
      c.requires,
      c.parts.invariant.2,
      ap length c.split_outside.ensures.front,
      front_no_longer (ends_at Comma) c.parts.rest.now,
    )

pub returns-in-None : goal.returns-in-None
returns-in-None c =
    options_stop c.parts.options c.parts.rest.now c.args.text.now c.parts.invariant.1
    (sym c.in-None.is ∙ c.in_ok-option.ensures ∙ ap option_in c.split_outside.ensures.front)

pub parts-smaller : goal.parts-smaller
parts-smaller c =
    let behind : rest_outside (ends_at Comma) c.parts.rest.now ≡ 44 ∷ c.in-Some-strip_prefix.after.now =
    sym c.split_outside.ensures.rest
    ∙ strip_prefix_char 44 c.split_outside.result.1.now (Some c.in-Some-strip_prefix.after)
    c.in-Some-strip_prefix.ensures.cases (omega arith) in
    omega (arith, ap length behind, rest_no_longer (ends_at Comma) c.parts.rest.now)

pub parts-preserved : goal.parts-preserved
parts-preserved c =
    let rest : List ℕ = c.parts.rest.now in
    let after : List ℕ = c.in-Some-strip_prefix.after.now in
    let behind : rest_outside (ends_at Comma) rest ≡ 44 ∷ after =
    sym c.split_outside.ensures.rest
    ∙ strip_prefix_char 44 c.split_outside.result.1.now (Some c.in-Some-strip_prefix.after)
    c.in-Some-strip_prefix.ensures.cases (omega arith) in
    let said : Some c.in-Some.option ≡ option_in (front_outside (ends_at Comma) rest) =
    sym c.in-Some.is ∙ c.in_ok-option.ensures ∙ ap option_in c.split_outside.ensures.front in (
      search rules,
      ap (λ found. before_options found (options_in after)) c.in-Ok.ensures.ok
          ∙ options_go_on c.parts.options c.in-Some.option rest after c.args.text.now c.parts.invariant.1 said behind,
      omega (arith, c.parts.invariant.2, ap length behind, rest_no_longer (ends_at Comma) rest),
    )

pub returns-in-None-strip_prefix : goal.returns-in-None-strip_prefix
returns-in-None-strip_prefix c =
    let rest : List ℕ = c.parts.rest.now in
    let other = strip_prefix_char 44 c.split_outside.result.1.now None c.in-None-strip_prefix.ensures.cases (omega arith) in
    let behind : rest_outside (ends_at Comma) rest ≡ [] =
    no_comma_behind rest (λ more is. other more (c.split_outside.ensures.rest ∙ is)) in
    let said : Some c.in-Some.option ≡ option_in (front_outside (ends_at Comma) rest) =
    sym c.in-Some.is ∙ c.in_ok-option.ensures ∙ ap option_in c.split_outside.ensures.front in
    ap Some c.in-Ok.ensures.ok ∙ options_end c.parts.options c.in-Some.option rest c.args.text.now c.parts.invariant.1 said behind
