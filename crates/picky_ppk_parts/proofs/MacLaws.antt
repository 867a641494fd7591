-- No MAC input is a front of another's, unless all fields are equal.
use Rattle.std.specs.Prelude.{◌≡◌, List, [], ◌∷◌, ℕ, ◌++◌, ◌<◌, ◌^◌, length}
use Rattle.std.specs.List.{concat}
use Rattle.std.proofs.Common.{sym, ap, ◌∙◌, append_assoc}
use Rattle.picky_wire_base.specs.Wire.{string, string_of}
use Rattle.picky_wire_base.proofs.Strings.{string_spells}
use Rattle.picky_wire_base.proofs.Grammar.{one_front}
use Rattle.picky_ppk_parts.specs.Mac.{mac_input}
use Rattle.picky_ppk_parts.specs.MacFields.{MacFields, AreShort, input_of}

-- One string stands in front, and the same follows it.
string_front : (a b r s x y : List ℕ) → length a < 2 ^ 32 → length b < 2 ^ 32
    → (string_of a ++ r) ++ x ≡ (string_of b ++ s) ++ y → (a ≡ b) × (r ++ x ≡ s ++ y)
string_front a b r s x y short_a short_b same =
    let joined : string_of a ++ (r ++ x) ≡ string_of b ++ (s ++ y) =
    sym (append_assoc (string_of a) r x) ∙ same ∙ append_assoc (string_of b) s y in
    let one = one_front string a b (string_of a) (string_of b) (r ++ x) (s ++ y)
    (string_spells a short_a) (string_spells b short_b) joined in
    (one.value, one.rest)

abbrev after_algorithm : MacFields → List ℕ
after_algorithm f =
    concat (string_of f.encryption ∷ string_of f.comment ∷ string_of f.public ∷ string_of f.private ∷ [])

abbrev after_encryption : MacFields → List ℕ
after_encryption f = concat (string_of f.comment ∷ string_of f.public ∷ string_of f.private ∷ [])

abbrev after_comment : MacFields → List ℕ
after_comment f = concat (string_of f.public ∷ string_of f.private ∷ [])

abbrev after_public : MacFields → List ℕ
after_public f = concat (string_of f.private ∷ [])

abbrev fields : (a e c p s : List ℕ) → MacFields
fields a e c p s = record { algorithm = a; encryption = e; comment = c; public = p; private = s }

same_fields : (f g : MacFields) → f.algorithm ≡ g.algorithm → f.encryption ≡ g.encryption → f.comment ≡ g.comment
    → f.public ≡ g.public → f.private ≡ g.private → f ≡ g
same_fields f g algorithm encryption comment public private =
    ap (λ v. fields v f.encryption f.comment f.public f.private) algorithm
    ∙ ap (λ v. fields g.algorithm v f.comment f.public f.private) encryption
    ∙ ap (λ v. fields g.algorithm g.encryption v f.public f.private) comment
    ∙ ap (λ v. fields g.algorithm g.encryption g.comment v f.private) public
    ∙ ap (λ v. fields g.algorithm g.encryption g.comment g.public v) private

-- So one input stands in front.
pub input_has_one_front : (f g : MacFields) (x y : List ℕ) → AreShort f → AreShort g
    → input_of f ++ x ≡ input_of g ++ y → f ≡ g
unfolding mac_input
input_has_one_front f g x y short_f short_g same =
    let one = string_front f.algorithm g.algorithm (after_algorithm f) (after_algorithm g) x y
    short_f.algorithm short_g.algorithm same in
    let two = string_front f.encryption g.encryption (after_encryption f) (after_encryption g) x y
    short_f.encryption short_g.encryption one.1 in
    let three = string_front f.comment g.comment (after_comment f) (after_comment g) x y
    short_f.comment short_g.comment two.1 in
    let four = string_front f.public g.public (after_public f) (after_public g) x y
    short_f.public short_g.public three.1 in
    let five = string_front f.private g.private [] [] x y short_f.private short_g.private four.1 in
    same_fields f g one.0 two.0 three.0 four.0 five.0
