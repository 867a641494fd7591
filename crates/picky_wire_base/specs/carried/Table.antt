-- What is found in a table has the key, and what has the key is found.
use Rattle.std.specs.Prelude.{◌≡◌, Bool, true, false, List, [], ◌∷◌, Option, Some, None, find, ok_or, cond}
use Rattle.std.specs.Prelude.{◌⊎◌, Ok}
use Rattle.std.proofs.Common.{sym, ◌∙◌, ap, refl, inl, inr}
use Rattle.picky_wire_base.specs.Table.{Table, find_entry}

-- What is found passes the test.
found_step : {A : Type 0} (passes : Bool) (b a : A) (later : Option A)
    → cond passes (Some b) later ≡ Some a → ((passes ≡ true) × (b ≡ a)) ⊎ (later ≡ Some a)
found_step true b a later same = inl (refl, cc same)
found_step false b a later same = inr same

found_passes : {A : Type 0} (test : A → Bool) (entries : List A) (a : A)
    → find test entries ≡ Some a → test a ≡ true
found_passes test [] a found = cc found
found_passes test (b ∷ entries) a found =
    elim (found_step (test b) b a (find test entries) found) [
      | inl first ↦ ap test (sym first.1) ∙ first.0
      | inr later ↦ found_passes test entries a later
    ]

ok_or_ok : {E A : Type 0} (o : Option A) (e : E) (a : A) → ok_or o e ≡ Ok a → o ≡ Some a
ok_or_ok None e a same = cc same
ok_or_ok (Some b) e a same = ap Some (cc same)

-- What is found has the key.
pub found_has_key : {K A : Type 0} (T : Table K A) (k : K) (a : A)
    → find_entry T k ≡ Some a → T.key a ≡ k
found_has_key T k a found =
    sym ((T.decides k (T.key a)).0 (found_passes (λ b. T.same k (T.key b)) T.entries a found))

-- What has the key is found.
pub key_is_found : {K A : Type 0} (T : Table K A) (k : K) (a : A)
    → T.key a ≡ k → find_entry T k ≡ Some a
key_is_found T k a has = ap (find_entry T) (sym has) ∙ T.own a

pub entry_sound : {E K A : Type 0} (T : Table K A) (why : K → E) (k : K) (a : A)
    → ok_or (find_entry T k) (why k) ≡ Ok a → T.key a ≡ k
entry_sound T why k a same = found_has_key T k a (ok_or_ok (find_entry T k) (why k) a same)
