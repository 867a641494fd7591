-- The line of a public key ends so.
use Rattle.std.proofs.Common.{◌≡◌, ◌∙◌, Bool, IfOk, subst}
use Rattle.picky_inventory_texts.proofs.LineLemmas.{public_ends}
use Rattle.picky_inventory_texts.proofs.line.ends_as_item.Goals as goal

pub returns : goal.returns
returns c =
    subst (λ (v : Bool). IfOk c.is_item_line.result (λ is. is ≡ v))
    (public_ends c.as_str.result.now c.args.rest.now c.as_str.utf8 (c.as_str.ensures.value ∙ c.in_ok-line.ensures))
    c.is_item_line.ensures.exactly
