-- One text more.
use Rattle.std.proofs.Common.{◌<◌, ℕ, Bor, Global, List, Vec, [], arith, length, map}
use Rattle.picky_inventory_texts.proofs.ListingLemmas.{more_lines, text_refuses}
use Rattle.picky_inventory_texts.proofs.listing.lines_of_texts.Goals as goal

pub returns-in-Err : goal.returns-in-Err
returns-in-Err c =
    let see = λ (text : Bor (List ℕ)). text.now in
    let d : Bor (List ℕ) = record { ref_ptr = (0, 0); now = [] } in
    let below : c.texts.i < length c.args.texts.now = omega arith in
    text_refuses see c.args.sealed c.args.texts.now c.texts.i d below (map (λ (line : Vec ℕ Global). line.items) c.texts.lines.items)
    c.texts.invariant c.in-Err.e c.in-Err.ensures

pub texts-preserved : goal.texts-preserved
texts-preserved c =
    let see = λ (text : Bor (List ℕ)). text.now in
    let d : Bor (List ℕ) = record { ref_ptr = (0, 0); now = [] } in
    let below : c.texts.i < length c.args.texts.now = omega arith in
    more_lines see c.args.sealed c.args.texts.now c.texts.i d below (map (λ (line : Vec ℕ Global). line.items) c.texts.lines.items)
    c.texts.invariant (map (λ (line : Vec ℕ Global). line.items) c.add_text.new.lines.items) c.in-Ok.ensures
