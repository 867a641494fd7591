-- By the word before the first space.
use Rattle.std.proofs.Common.{◌≡◌, ◌∙◌, Bool, IfOk, subst, sym}
use Rattle.std.proofs.lemmas.Slice.Eq.{bytes_eq-Decides}
use Rattle.picky_inventory_texts.specs.Listed.{sealed_word}
use Rattle.picky_inventory_texts.proofs.LineLemmas.{item_ends, sealed_ends, uncut_line}
use Rattle.picky_inventory_texts.proofs.line.is_listed_line.Goals as goal

pub returns-then-eq : goal.returns-then-eq
returns-then-eq c = record {
  exactly =
      subst (λ (v : Bool). IfOk c.ends_as_item.result (λ is. is ≡ v))
      (sym (sealed_ends c.args.line.now c.in-Some.word.now c.in-Some.rest.now c.utf8.line c.in-Some.ensures
      ((bytes_eq-Decides c.in-Some.word.now sealed_word).0 (sym c.eq.ensures ∙ c.if-eq.true))))
      c.ends_as_item.ensures;
}

pub returns-else-eq : goal.returns-else-eq
returns-else-eq c = record {
  exactly =
      subst (λ (v : Bool). IfOk c.is_item_line.result (λ is. is ≡ v))
      (sym (item_ends c.args.line.now c.in-Some.word.now c.in-Some.rest.now c.utf8.line c.in-Some.ensures
      (sym c.eq.ensures ∙ c.if-eq.false)))
      c.is_item_line.ensures.exactly;
}

pub returns-in-None : goal.returns-in-None
returns-in-None c = record {
  exactly =
      subst (λ (v : Bool). IfOk c.is_item_line-in-None.result (λ is. is ≡ v))
      (sym (uncut_line c.args.line.now c.utf8.line c.in-None.ensures)) c.is_item_line-in-None.ensures.exactly;
}
