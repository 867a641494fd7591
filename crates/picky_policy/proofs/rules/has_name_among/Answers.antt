-- The names between the commas, one by one.
use Rattle.std.proofs.Common.{◌∙◌, ℕ, List, Some, None, arith, rules, sym}
use Rattle.std.proofs.lemmas.Str.Pattern.{split_parts}
use Rattle.picky_text.proofs.UnquoteLemmas.{none_from_places}
use Rattle.picky_policy.specs.Rules.{is_among}
use Rattle.picky_policy.proofs.RuleLemmas.{names_go_on, names_last, names_stop}
use Rattle.picky_policy.proofs.rules.has_name_among.Goals as goal

pub returns-then-is_name_among : goal.returns-then-is_name_among
returns-then-is_name_among c =
    let rest : List ℕ = c.names.rest.now in
    let parts = split_parts 44 rest (Some (c.in-Some.name, c.in-Some.after)) c.in-Some.ensures.cases (omega arith) in
    names_stop (λ name. is_among name c.args.names.now) rest c.in-Some.name.now c.in-Some.after.now c.args.value.now
    c.names.invariant.1 parts.0 (none_from_places 44 c.in-Some.name.now parts.1)
    (sym c.is_name_among.ensures ∙ c.if-is_name_among.true)

pub names-preserved : goal.names-preserved
names-preserved c =
    let rest : List ℕ = c.names.rest.now in
    let parts = split_parts 44 rest (Some (c.in-Some.name, c.in-Some.after)) c.in-Some.ensures.cases (omega arith) in (
      search rules,
      names_go_on (λ name. is_among name c.args.names.now) rest c.in-Some.name.now c.in-Some.after.now c.args.value.now
          c.names.invariant.1 parts.0 (none_from_places 44 c.in-Some.name.now parts.1)
          (sym c.is_name_among.ensures ∙ c.if-is_name_among.false),
    )

pub returns : goal.returns
returns c =
    let rest : List ℕ = c.names.rest.now in
    names_last (λ name. is_among name c.args.names.now) rest c.args.value.now c.is_name_among-2.result c.names.invariant.1
    (none_from_places 44 rest (split_parts 44 rest None c.in_default.ensures.cases (omega arith)))
    c.is_name_among-2.ensures
