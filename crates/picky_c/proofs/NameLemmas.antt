-- Names are short, and what is written for one.
use Rattle.std.proofs.Common.{◌≡◌, ◌==◌, ◌≤◌, ◌/◌, ◌%◌, ◌&&◌, ◌++◌, ◌-◌, ◌+◌, ◌∙◌, ap, sym, append_assoc, drop, replicate, List}
use Rattle.std.proofs.Common.{[], ◌∷◌, ℕ, Bool, true, false, length, get_or, arith, refl, rules, zero, suc}
use Rattle.std.specs.Prelude.{nat_le, if◌then◌else◌}
use Rattle.std.proofs.lemmas.List.{drop-drop, drop-replicate, length-append}
use Rattle.picky_c.specs.Name.{leaf_name, names_in}

abbrev all_short : List (List ℕ) → Bool
all_short [] = true
all_short (name ∷ more) = nat_le (length name) 32 && all_short more

head_short : (a b : Bool) → a && b ≡ true → (a ≡ true) × (b ≡ true)
head_short true b is = (refl, is)
head_short false b is = cc is

le_of : (n : ℕ) → nat_le n 32 ≡ true → n ≤ 32
le_of n is = search (rules)

short_at : (names : List (List ℕ)) (i : ℕ) → all_short names ≡ true → length (get_or names i []) ≤ 32
short_at [] i is = omega arith
short_at (name ∷ more) zero is = le_of (length name) (head_short (nat_le (length name) 32) (all_short more) is).0
short_at (name ∷ more) (suc i) is = short_at more i (head_short (nat_le (length name) 32) (all_short more) is).1

either : {X : Type 0} (P : X → Type 0) (b : Bool) (x y : X) → P x → P y → P (if b then x else y)
either P true x y px py = px
either P false x y px py = py

abbrev IsShortTable : List (List ℕ) → Type 0
IsShortTable names = all_short names ≡ true

table_short : (group : ℕ) → IsShortTable (names_in group)
table_short group =
    either IsShortTable (group == 0) _ _ refl
    (either IsShortTable (group == 1) _ _ refl
    (either IsShortTable (group == 2) _ _ refl
    (either IsShortTable (group == 3) _ _ refl
    (either IsShortTable (group == 4) _ _ refl
    (either IsShortTable (group == 5) _ _ refl
    (either IsShortTable (group == 6) _ _ refl
    (either IsShortTable (group == 7) _ _ refl
    (either IsShortTable (group == 8) _ _ refl
    (either IsShortTable (group == 9) _ _ refl
    (either IsShortTable (group == 10) _ _ refl
    (either IsShortTable (group == 11) _ _ refl
    (either IsShortTable (group == 12) _ _ refl
    (either IsShortTable (group == 13) _ _ refl
    (either IsShortTable (group == 14) _ _ refl refl))))))))))))))

pub leaf_short : (number : ℕ) → length (leaf_name number) ≤ 32
leaf_short number = short_at (names_in (number / 100)) (number % 100) (table_short (number / 100))

-- a path and a name at the front of 48 zeros
pub joined_is : (path name front middle back rest : List ℕ) → front ≡ path → middle ≡ name
    → back ≡ drop (length path) (replicate 48 0) → rest ≡ drop (length name) back
    → front ++ (middle ++ rest) ≡ (path ++ name) ++ replicate (48 - length (path ++ name)) 0
joined_is path name front middle back rest is_path is_name is_back is_rest =
    let zeros : rest ≡ replicate (48 - (length path + length name)) 0 =
    is_rest ∙ ap (λ l. drop (length name) l) is_back ∙ drop-drop (length name) (length path) (replicate 48 0)
    ∙ drop-replicate (length path + length name) 48 0 in
    let pieces : front ++ (middle ++ rest) ≡ path ++ (name ++ replicate (48 - (length path + length name)) 0) = cc in
    pieces ∙ sym (append_assoc path name _) ∙ ap (λ n. (path ++ name) ++ replicate (48 - n) 0) (sym (length-append path name))
