-- The names between the commas, one by one.
use Rattle.std.proofs.Common.{◌∙◌, ℕ, List, Some, None, ap, arith, rules, sym}
use Rattle.std.proofs.lemmas.Str.Pattern.{split_parts}
use Rattle.std.specs.List.{slice_split}
use Rattle.picky_text.proofs.UnquoteLemmas.{none_from_places}
use Rattle.picky_request.specs.Names.{if_full, is_comma}
use Rattle.picky_request.proofs.NameLaws.{names_go_on, names_last, onto}
use Rattle.picky_request.proofs.names.names_of.Goals as goal

pub names-preserved : goal.names-preserved
names-preserved c =
    let rest : List ℕ = c.names.rest.now in
    let parts = split_parts 44 rest (Some (c.in-Some.name, c.in-Some.after)) c.in-Some.ensures.cases (omega arith) in (
      search rules,
      ap (λ names. onto names (if_full (slice_split is_comma c.in-Some.after.now))) c.in_ok-push.ensures
          ∙ names_go_on c.names.names rest c.in-Some.name.now c.in-Some.after.now c.args.text.now c.names.invariant.1 parts.0
          (none_from_places 44 c.in-Some.name.now parts.1) (sym c.is_empty.ensures ∙ c.if-is_empty.false),
    )

pub returns : goal.returns
returns c =
    let rest : List ℕ = c.names.rest.now in
    ap Some c.in_ok-push-2.ensures
    ∙ names_last c.names.names rest c.args.text.now c.names.invariant.1
    (none_from_places 44 rest (split_parts 44 rest None c.in_default.ensures.cases (omega arith)))
    (sym c.is_empty-2.ensures ∙ c.if-is_empty-2.false)
