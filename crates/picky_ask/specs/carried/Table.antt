-- That reading bytes to their end is sound and complete.
use Rattle.std.specs.Prelude.{◌≡◌, List, [], ◌∷◌, ℕ, Result, Ok, Err}
use Rattle.std.proofs.Common.{sym, ◌∙◌, ap, subst, refl}
use Rattle.std.proofs.lemmas.List.{append-nil}
use Rattle.picky_wire_base.specs.Flaw.{Reason}
use Rattle.picky_wire_base.specs.Grammar.{Grammar}
use Rattle.picky_ask.specs.Whole.{whole_only}

read_whole : {E A : Type 0} (G : Grammar Reason A) (e : E) (bytes : List ℕ) (x : A) (r : Result (A × List ℕ) Reason)
    → G.read bytes ≡ r → whole_only e r ≡ Ok x → G.piece x bytes
read_whole G e bytes x (Ok (y, [])) is whole =
    let fits = G.sound bytes y [] is in
    let same : y ≡ x = cc whole in
    subst (λ v. G.piece v bytes) same (subst (λ b. G.piece y b) (sym (fits.2 ∙ append-nil fits.0)) fits.1)
read_whole G e bytes x (Ok (y, b ∷ rest)) is whole = cc whole
read_whole G e bytes x (Err reason) is whole = cc whole

pub whole_sound : {E A : Type 0} (G : Grammar Reason A) (e : E) (bytes : List ℕ) (x : A)
    → whole_only e (G.read bytes) ≡ Ok x → G.piece x bytes
whole_sound G e bytes x whole = read_whole G e bytes x (G.read bytes) refl whole

pub whole_complete : {E A : Type 0} (G : Grammar Reason A) (e : E) (bytes : List ℕ) (x : A)
    → G.piece x bytes → whole_only e (G.read bytes) ≡ Ok x
whole_complete G e bytes x spells =
    ap (λ b. whole_only e (G.read b)) (sym (append-nil bytes)) ∙ ap (whole_only e) (G.complete x bytes [] spells)
