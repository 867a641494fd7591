-- The cut, by the lines that were read.
use Rattle.std.proofs.Common.{◌≡◌, ℕ, List, [], Some, None, sym, ◌∙◌, ap, arith, rules}
use Rattle.std.proofs.lemmas.Str.Pattern.{split_parts}
use Rattle.picky_text.proofs.UnquoteLemmas.{none_from_places}
use Rattle.picky_issuing.specs.Parts.{mark_word, issuer_text_of, key_text_of_cut, cut}
use Rattle.picky_issuing.proofs.PartsLemmas.{read_more, is_word, is_other, cut_of_read, uncut_of_read}
use Rattle.picky_issuing.proofs.PartsLemmas.{cut_at_end, cut_at_word, cut_at_word_cr}
use Rattle.picky_issuing.proofs.parts.parts_of.Goals as goal
use Rattle.picky_issuing.proofs.parts.parts_of.Goals.{then-eq-via-then-eq, then-eq-via-else-eq+then-eq-2}

pub returns-then-eq : goal.returns-then-eq
returns-then-eq c =
    let rest : List ℕ = c.lines.rest.now in
    let line : List ℕ = c.in-Some.line.now in
    let after : List ℕ = c.in-Some.after.now in
    let parts = split_parts 10 rest (Some (c.in-Some.line, c.in-Some.after)) c.in-Some.ensures.cases (omega arith) in
    let here : cut rest ≡ Some ([], after) = elim c.then-eq.branch [
      | then-eq-via-then-eq w ↦ cut_at_word rest line after parts.0 (is_word line _ w.if-eq.ensures)
      | then-eq-via-else-eq+then-eq-2 w ↦ cut_at_word_cr rest line after parts.0 (is_word line _ w.if-eq-2.ensures)
    ] in
    let whole = cut_of_read c.args.text.now rest after c.lines.invariant.1 here in
    record {
      issuer = ap Some c.split_at.ensures.front ∙ sym (ap issuer_text_of whole);
      key = sym (ap (key_text_of_cut c.args.text.now) whole);
    }

pub lines-preserved : goal.lines-preserved
lines-preserved c =
    let rest : List ℕ = c.lines.rest.now in
    let line : List ℕ = c.in-Some.line.now in
    let parts = split_parts 10 rest (Some (c.in-Some.line, c.in-Some.after)) c.in-Some.ensures.cases (omega arith) in
    let next =
    read_more c.args.text.now rest line c.in-Some.after.now c.lines.invariant.1 parts.0 (none_from_places 10 line parts.1)
    (is_other line _ c.if-eq.ensures) (is_other line _ c.if-eq-2.ensures) in
    (search rules, next)

pub returns-then-eq-3 : goal.returns-then-eq-3
returns-then-eq-3 c =
    let rest : List ℕ = c.lines.rest.now in
    let whole =
    cut_of_read c.args.text.now rest [] c.lines.invariant.1 (cut_at_end rest (is_word rest mark_word c.if-eq-3.ensures)) in
    record {
      issuer = ap Some c.split_at-then-eq-3.ensures.front ∙ sym (ap issuer_text_of whole);
      key = sym (ap (key_text_of_cut c.args.text.now) whole);
    }

pub returns : goal.returns
returns c =
    let rest : List ℕ = c.lines.rest.now in
    let none = none_from_places 10 rest (split_parts 10 rest None c.in_default.ensures.cases (omega arith)) in
    let whole =
    uncut_of_read c.args.text.now rest c.lines.invariant.1 none (is_other rest mark_word c.if-eq-3.ensures) in
    record {
      issuer = sym (ap issuer_text_of whole);
      key = sym (ap (key_text_of_cut c.args.text.now) whole);
    }
