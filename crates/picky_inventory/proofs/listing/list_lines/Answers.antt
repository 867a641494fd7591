-- One part more: blank, read, or refused.
use Rattle.std.proofs.Common.{◌≡◌, ◌∙◌, ◌<◌, ℕ, Bor, Global, List, Ok, Option, Vec, [], arith, false, length, map, refl, subst, sym}
use Rattle.std.proofs.Common.{◌∷◌, ◌++◌, ap, get_or, true}
use Rattle.std.specs.Option.{option_copied}
use Rattle.picky_wire_base.specs.Outcome.{map_ok}
use Rattle.picky_suite.specs.Meanings.{Meanings}
use Rattle.picky_key_text.specs.Order.{reading}
use Rattle.picky_key_text.specs.Reader.{Reader}
use Rattle.picky_inventory.specs.Items.{is_blank, item_line, item_of}
use Rattle.picky_inventory.proofs.ListingLaws.{blank_more, line_more, lines_more, none_asks_at, refused_gives}
use Rattle.picky_inventory.proofs.RunLemmas.{calm_of}
use Rattle.picky_inventory.proofs.listing.list_lines.Goals as goal
use Rattle.picky_inventory.proofs.listing.list_lines.Goals.{then-not-is_blank+in-Ok+in-Ok-push, else-not-is_blank}

pub returns-in-Err-clause-gives : goal.returns-in-Err-clause-gives
returns-in-Err-clause-gives g c =
    let see = λ (part : Bor (List ℕ)). part.now in
    let d : Bor (List ℕ) = record { ref_ptr = (0, 0); now = [] } in
    let below : c.parts.i < length c.args.parts.now = omega arith in
    let other : is_blank (see (get_or c.args.parts.now c.parts.i d)) ≡ false = sym c.is_blank.ensures ∙ c.if-not-is_blank.true in
    refused_gives see (g.S.Suite.meanings c.args.suite.now) (g.S.Suite.meanings c.parts.suite) (option_copied c.args.pass)
    c.args.parts.now c.parts.i d (map (λ (line : Vec ℕ Global). line.items) c.parts.lines.items) c.in-Err.error
    (g.S.Suite.faults c.args.suite.now) (g.S.Suite.faults c.parts.suite) (g.S.Suite.faults c.part_line.new.suite) below
    c.parts.invariant.lines c.parts.invariant.kept c.parts.invariant.calm other c.in-Err.ensures.gives

pub returns-in-Err-clause-calm_unless_fault : goal.returns-in-Err-clause-calm_unless_fault
returns-in-Err-clause-calm_unless_fault g c =
    let d : Bor (List ℕ) = record { ref_ptr = (0, 0); now = [] } in
    let found : Bor (List ℕ) = get_or c.args.parts.now c.parts.i d in
    calm_of c.in-Err.error found.now _ _ _ c.in-Err.ensures.suite.calm c.parts.invariant.calm

pub returns-in-Err-clause-unasked : goal.returns-in-Err-clause-unasked
returns-in-Err-clause-unasked g c = λ none.
    let see = λ (part : Bor (List ℕ)). part.now in
    let d : Bor (List ℕ) = record { ref_ptr = (0, 0); now = [] } in
    let below : c.parts.i < length c.args.parts.now = omega arith in
    c.in-Err.ensures.suite.unasked (none_asks_at see (option_copied c.args.pass) c.args.parts.now c.parts.i d below none)
    ∙ c.parts.invariant.unasked none

pub returns-in-Err-push-clause-unasked : goal.returns-in-Err-push-clause-unasked
returns-in-Err-push-clause-unasked g c = λ none.
    let see = λ (part : Bor (List ℕ)). part.now in
    let d : Bor (List ℕ) = record { ref_ptr = (0, 0); now = [] } in
    let below : c.parts.i < length c.args.parts.now = omega arith in
    c.in-Ok.ensures.suite.unasked (none_asks_at see (option_copied c.args.pass) c.args.parts.now c.parts.i d below none)
    ∙ c.parts.invariant.unasked none

pub parts-preserved : goal.parts-preserved
parts-preserved g c =
    let see = λ (part : Bor (List ℕ)). part.now in
    let shown = λ (line : Vec ℕ Global). line.items in
    let d : Bor (List ℕ) = record { ref_ptr = (0, 0); now = [] } in
    let pass : Option (List ℕ) = option_copied c.args.pass in
    let r : Reader = record { meanings = g.S.Suite.meanings c.args.suite.now; pass = pass } in
    let found : List ℕ = see (get_or c.args.parts.now c.parts.i d) in
    let below : c.parts.i < length c.args.parts.now = omega arith in
    let done : List (List ℕ) = map shown c.parts.lines.items in
    elim c.if-not-is_blank.branch [
      | then-not-is_blank+in-Ok+in-Ok-push w ↦
          let other : is_blank found ≡ false = sym c.is_blank.ensures ∙ w.if-not-is_blank.true in
          let read : map_ok (λ m. item_line (item_of m)) (reading r found) ≡ Ok w.in-Ok.line.items =
          subst
          (λ (k : Meanings). map_ok (λ m. item_line (item_of m)) (reading (record { meanings = k; pass = pass }) found)
          ≡ Ok w.in-Ok.line.items) c.parts.invariant.kept w.in-Ok.ensures.gives in
          let more : c.if-not-is_blank.lines.items ≡ c.parts.lines.items ++ w.in-Ok.line ∷ [] =
          ap (λ (v : Vec (Vec ℕ Global) Global). v.items) w.lines-is ∙ w.in-Ok-push.ensures.items in
          record {
            lines =
                lines_more shown c.parts.lines.items c.if-not-is_blank.lines.items w.in-Ok.line _ more
                (line_more see r c.args.parts.now c.parts.i d below done c.parts.invariant.lines found w.in-Ok.line.items refl
                other read);
            kept =
                ap g.S.Suite.meanings w.suite-is ∙ w.in-Ok.ensures.suite.kept ∙ c.parts.invariant.kept;
            calm = ap g.S.Suite.faults w.suite-is ∙ w.in-Ok.ensures.suite.calm ∙ c.parts.invariant.calm;
            unasked =
                λ none. w.suite-is ∙ w.in-Ok.ensures.suite.unasked (none_asks_at see pass c.args.parts.now c.parts.i d below none)
                ∙ c.parts.invariant.unasked none;
          }
      | else-not-is_blank w ↦
          let blank : is_blank found ≡ true = sym c.is_blank.ensures ∙ w.if-not-is_blank.false in
          record {
            lines =
                blank_more see r c.args.parts.now c.parts.i d below done c.parts.invariant.lines found refl blank
                ∙ ap (λ (v : Vec (Vec ℕ Global) Global). Ok (map shown v.items)) (sym w.lines-is);
            kept = ap g.S.Suite.meanings w.suite-is ∙ c.parts.invariant.kept;
            calm = ap g.S.Suite.faults w.suite-is ∙ c.parts.invariant.calm;
            unasked = λ none. w.suite-is ∙ c.parts.invariant.unasked none;
          }
    ]
