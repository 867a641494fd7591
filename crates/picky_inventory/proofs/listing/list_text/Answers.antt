-- The lines in order, joined.
use Rattle.std.proofs.Common.{◌≡◌, ◌∙◌, ℕ, Bor, Global, List, Vec, ap, flat_map, map}
use Rattle.std.specs.Option.{option_copied}
use Rattle.picky_key_text.specs.Reader.{Reader}
use Rattle.picky_inventory.specs.Parted.{text_parts}
use Rattle.picky_inventory.proofs.ListingLaws.{text_listed}
use Rattle.picky_inventory.proofs.listing.list_text.Goals as goal

pub returns-in-Ok-joined_lines-clause-gives : goal.returns-in-Ok-joined_lines-clause-gives
returns-in-Ok-joined_lines-clause-gives g c =
    let see = λ (part : Bor (List ℕ)). part.now in
    let shown = λ (line : Vec ℕ Global). line.items in
    let r : Reader = record { meanings = g.S.Suite.meanings c.args.suite.now; pass = option_copied c.args.pass } in
    let cut : map see c.as_slice.result.now ≡ text_parts c.args.text.now =
    ap (map see) c.as_slice.ensures.value ∙ c.in-Ok.ensures in
    let written : c.in-Ok-joined_lines.written.items ≡ flat_map shown c.sorted_lines-lines.result.items =
    c.in-Ok-joined_lines.ensures ∙ ap (flat_map shown) c.as_slice-in-Ok-list_lines.ensures.value in
    text_listed shown r c.args.text.now (map see c.as_slice.result.now) c.in-Ok-list_lines.lines.items
    c.sorted_lines-lines.result.items c.in-Ok-joined_lines.written.items cut c.in-Ok-list_lines.ensures.gives
    c.sorted_lines-lines.ensures written
