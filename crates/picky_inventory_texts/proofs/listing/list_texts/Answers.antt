-- The lines in order, joined.
use Rattle.std.proofs.Common.{◌∙◌, ℕ, Bor, Global, List, Vec, ap, flat_map, map}
use Rattle.picky_inventory_texts.proofs.ListingLemmas.{texts_listed}
use Rattle.picky_inventory_texts.proofs.listing.list_texts.Goals as goal

pub returns-in-Ok-joined_lines : goal.returns-in-Ok-joined_lines
returns-in-Ok-joined_lines c =
    let shown = λ (line : Vec ℕ Global). line.items in
    record {
      gives =
          texts_listed shown c.args.sealed (map (λ (text : Bor (List ℕ)). text.now) c.args.texts.now) c.in-Ok.lines.items
          c.sorted_lines-lines.result.items c.in-Ok-joined_lines.written.items c.in-Ok.ensures c.sorted_lines-lines.ensures
          (c.in-Ok-joined_lines.ensures ∙ ap (flat_map shown) c.as_slice.ensures.value);
    }
