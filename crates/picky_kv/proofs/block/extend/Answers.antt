-- By the groups of four and the rest, or what follows padding.
use Rattle.std.proofs.Common.{◌≢◌, ◌<◌, ◌%◌, List, ℕ, length, sym, ◌∙◌, ap, arith, inr}
use Rattle.std.proofs.lemmas.Bool.{eqb-true}
use Rattle.std.proofs.lemmas.Bool.Decides.{nat_tests}
use Rattle.picky_wire_base.specs.Numbers.{IsBytes}
use Rattle.picky_kv.proofs.FrontLemmas.{bad_after_padding}
use Rattle.picky_kv.proofs.StateLemmas.{cut, extended_is, extended_is_refused, groups_are_refused}
use Rattle.picky_kv.proofs.StateLemmas.{nothing_is_taken}
use Rattle.picky_kv.proofs.block.extend.Goals as goal

pub returns-then-is_empty-clause-ok : goal.returns-then-is_empty-clause-ok
returns-then-is_empty-clause-ok c =
    nothing_is_taken c.args.bytes.now.items c.args.text.now c.requires.small c.requires.short
    (eqb-true _ 0 (sym c.if-is_empty.ensures))

pub returns-then-start-ne0-clause-err : goal.returns-then-start-ne0-clause-err
returns-then-start-ne0-clause-err c =
    let text : List ℕ = c.args.text.now in
    let small : IsBytes text = λ i. let fits = c.type_inv.text i in omega (arith, fits) in
    let len = c.len-start.ensures ∙ c.args.bytes.now.ok.0 in
    let padded : length c.args.bytes.now.items % 3 ≢ 0 =
    λ whole. c.if-start-ne0.true (ap (λ n. n % 3) len ∙ whole) in
    let some : 0 < length text = grind (arith, nat_tests, c.if-is_empty.ensures) in
    inr (bad_after_padding c.args.bytes.now.items text c.requires.small small padded some)

pub returns-in-Ok-judge_rest-clause-ok : goal.returns-in-Ok-judge_rest-clause-ok
returns-in-Ok-judge_rest-clause-ok c =
    let small : IsBytes c.args.text.now = λ i. let fits = c.type_inv.text i in omega (arith, fits) in
    let len = c.len-start.ensures ∙ c.args.bytes.now.ok.0 in
    let pieces = cut c.args.text.now _ _ small c.split_at.ensures.front c.split_at.ensures.back in
    extended_is c.args.bytes.now.items c.args.text.now c.split_at.result.0.now c.split_at.result.1.now
    c.append.new.bytes.items _ c.len.result
    (record {
      pieces = pieces;
      small = c.requires.small;
      full = ap (λ n. n % 3) (sym len) ∙ c.if-start-ne0.false;
      more = c.in-Ok.ensures.ok.0;
      reads = c.in-Ok.ensures.ok.1;
      new_is = c.in-Ok.ensures.ok.2;
    })
    (c.len.ensures ∙ c.append.new.bytes.ok.0) c.in-Ok-judge_rest.ensures

pub returns-in-Err-judge_rest-clause-err : goal.returns-in-Err-judge_rest-clause-err
returns-in-Err-judge_rest-clause-err c =
    let small : IsBytes c.args.text.now = λ i. let fits = c.type_inv.text i in omega (arith, fits) in
    let len = c.len-start.ensures ∙ c.args.bytes.now.ok.0 in
    let pieces = cut c.args.text.now _ _ small c.split_at.ensures.front c.split_at.ensures.back in
    extended_is_refused c.args.bytes.now.items c.args.text.now c.split_at.result.0.now
    c.split_at.result.1.now c.append.new.bytes.items c.len.result c.in-Err-judge_rest.e
    (record {
      pieces = pieces;
      small = c.requires.small;
      full = ap (λ n. n % 3) (sym len) ∙ c.if-start-ne0.false;
      more = c.in-Ok.ensures.ok.0;
      reads = c.in-Ok.ensures.ok.1;
      new_is = c.in-Ok.ensures.ok.2;
    })
    (c.len.ensures ∙ c.append.new.bytes.ok.0) c.in-Err-judge_rest.ensures

pub returns-in-Err-clause-err : goal.returns-in-Err-clause-err
returns-in-Err-clause-err c =
    let small : IsBytes c.args.text.now = λ i. let fits = c.type_inv.text i in omega (arith, fits) in
    let len = c.len-start.ensures ∙ c.args.bytes.now.ok.0 in
    let pieces = cut c.args.text.now _ _ small c.split_at.ensures.front c.split_at.ensures.back in
    groups_are_refused c.args.bytes.now.items c.args.text.now c.split_at.result.0.now
    c.split_at.result.1.now c.in-Err.e c.requires.small
    (ap (λ n. n % 3) (sym len) ∙ c.if-start-ne0.false) pieces c.in-Err.ensures.err
