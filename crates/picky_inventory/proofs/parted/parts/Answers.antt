-- Each turn cuts off the first part of what is left.
use Rattle.std.proofs.Common.{List, ℕ, Bor, rules}
use Rattle.picky_inventory.proofs.PartsLaws.{last_part, one_more_part}
use Rattle.picky_inventory.proofs.parted.parts.Goals as goal

pub parts-preserved : goal.parts-preserved
parts-preserved c = (
  search rules,
  one_more_part (λ (part : Bor (List ℕ)). part.now) c.parts.found.items c.push.new.self.items c.in-Some.part
      c.parts.rest.now c.in-Some.after.now c.args.text.now c.in-Ok.ensures.items c.parts.invariant.1
      c.in-Some.ensures.parts,
)

pub returns-in-Ok-push : goal.returns-in-Ok-push
returns-in-Ok-push c =
    last_part (λ (part : Bor (List ℕ)). part.now) c.parts.found.items c.push-2.new.self.items c.parts.rest
    c.args.text.now c.in-Ok-push.ensures.items c.parts.invariant.1 c.in_default.ensures.none
