-- The ids of the entries that were read so far, in a set.
use Rattle.std.proofs.Common.{◌≡◌, ◌||◌, ◌∙◌, ◌++◌, ◌∷◌, ℕ, Bool, Bor, List, []}
use Rattle.std.proofs.Common.{Some, None, true, false, not, ◌&&◌, ap, bytes_eq, if◌then◌else◌, inl, inr, nat_lt, refl, sym}
use Rattle.std.proofs.lemmas.Bool.{cases_Bool}
use Rattle.std.proofs.lemmas.List.Folds.{list_any-append}
use Rattle.std.proofs.lemmas.Map.Text.{is_eq-slice_cmp}
use Rattle.std.proofs.lemmas.Slice.Eq.{bytes_eq-Decides}
use Rattle.std.specs.BTreeSet.{BTreeSet, UpdatesBy, contains_by}
use Rattle.std.specs.Cmp.{eq_by_cmp_equiv}
use Rattle.std.specs.Cmp.Lexicographic.{slice_cmp, nat_list_cmp_total, nat_list_eq_equiv}
use Rattle.std.specs.List.{before_first, list_any}
use Rattle.std.specs.Ordering.{is_eq, nat_cmp}
use Rattle.std.specs.Set.{KeepsOthers}
use Rattle.picky_issuing.specs.Steps.{some_then}
use Rattle.picky_request.specs.Request.{is_space}
use Rattle.picky_ledger.specs.declared.entry.Entry.{Entry}
use Rattle.picky_ledger.specs.Entry.{entry_in}
use Rattle.picky_ledger.specs.LedgerText.{entry_said, if_follows, last_serial}
use Rattle.picky_ledger.specs.inner.Ids.{HasIds}
use Rattle.picky_ledger.proofs.EntryLineLemmas.{said_id}

abbrev at : List ℕ → Bor (List ℕ) → Bool
at id k = is_eq (slice_cmp nat_cmp id k.now)

abbrev in_order : Bor (List ℕ) → Bor (List ℕ) → Bool
in_order x y = is_eq (slice_cmp nat_cmp x.now y.now)

-- no text is two
apart_at : (xs ys : List ℕ) (k : Bor (List ℕ)) → bytes_eq xs ys ≡ false → at xs k ≡ true → at ys k ≡ false
apart_at xs ys k apart there =
    let same : bytes_eq xs k.now ≡ true = sym (is_eq-slice_cmp xs k.now) ∙ there in
    is_eq-slice_cmp ys k.now ∙ nat_list_eq_equiv.symm ys k.now
    ∙ ap (λ zs. bytes_eq zs ys) (sym ((bytes_eq-Decides xs k.now).0 same)) ∙ apart

-- what another text finds stays
stays : (xs ys : List ℕ) (old new : List (Bor (List ℕ))) → KeepsOthers in_order (at xs) old new → bytes_eq xs ys ≡ false
    → list_any (at ys) new ≡ list_any (at ys) old
unfolding KeepsOthers
stays xs ys old new keeps apart =
    keeps (at ys) (λ x y. (eq_by_cmp_equiv nat_list_cmp_total).congr ys x.now y.now) (λ k. apart_at xs ys k apart)

or_true : (b : Bool) → (b || true) ≡ true
or_true true = refl
or_true false = refl

or_false : (b : Bool) → (b || false) ≡ b
or_false true = refl
or_false false = refl

-- one id more
pub ids_more : (old new : BTreeSet (Bor (List ℕ))) (before : List Entry) (e : Entry) (id : Bor (List ℕ)) → HasIds old before
    → e.id ≡ id.now → UpdatesBy (λ x y. slice_cmp nat_cmp x.now y.now) (λ k. slice_cmp nat_cmp id.now k.now) old new true
    → HasIds new (before ++ e ∷ [])
ids_more old new before e id has is updates other =
    let found : List Entry → Bool = list_any (λ x. bytes_eq x.id other) in
    let has_other : BTreeSet (Bor (List ℕ)) → Bool = contains_by (λ k. slice_cmp nat_cmp other k.now) in
    let more : found (before ++ e ∷ []) ≡ (found before || (bytes_eq e.id other || false)) =
    list_any-append (λ x. bytes_eq x.id other) before (e ∷ []) in
    elim (cases_Bool (bytes_eq e.id other)) [
      | inl same ↦
          let there : other ≡ id.now = sym ((bytes_eq-Decides e.id other).0 same) ∙ is in
          ap (λ t. contains_by (λ k. slice_cmp nat_cmp t k.now) new) there ∙ updates.1
          ∙ sym (more ∙ ap (λ b. found before || (b || false)) same ∙ or_true (found before))
      | inr apart ↦
          let stayed : has_other new ≡ has_other old =
          stays id.now other old.keys new.keys updates.3 (ap (λ t. bytes_eq t other) (sym is) ∙ apart) in
          stayed ∙ has other ∙ sym (more ∙ ap (λ b. found before || (b || false)) apart ∙ or_false (found before))
    ]

-- what the set lacks is no entry's
pub id_is_new : (ids : BTreeSet (Bor (List ℕ))) (before : List Entry) (e : Entry) (id : Bor (List ℕ)) → HasIds ids before
    → e.id ≡ id.now → contains_by (λ k. slice_cmp nat_cmp id.now k.now) ids ≡ list_any (λ x. bytes_eq x.id e.id) before
id_is_new ids before e id has is = has id.now ∙ ap (λ t. list_any (λ x. bytes_eq x.id t) before) (sym is)

-- ---- the entry of a line

abbrev pub is_between : (next : ℕ) → (before : List Entry) → (serial : ℕ) → Bool
is_between next before serial = nat_lt (last_serial 0 before) serial && nat_lt serial next

-- it comes after those before it where its id is added
pub said_where_added : (next : ℕ) (before : List Entry) (line : List ℕ) (e : Entry) (ids : BTreeSet (Bor (List ℕ)))
    (id : Bor (List ℕ)) (added : Bool) → entry_in line ≡ Some e → is_between next before e.serial ≡ true → HasIds ids before
    → id.now ≡ before_first is_space line → added ≡ not (contains_by (λ k. slice_cmp nat_cmp id.now k.now) ids)
    → entry_said next before line ≡ if added then Some e else None
said_where_added next before line e ids id added says is has is_id adds =
    let new : Bool = not (list_any (λ x. bytes_eq x.id e.id) before) in
    let same : added ≡ new = adds ∙ ap not (id_is_new ids before e id has (said_id line e says ∙ sym is_id)) in
    ap (λ o. some_then o (if_follows next before)) says ∙ ap (λ (b : Bool). if b && new then Some e else None) is
    ∙ ap (λ (b : Bool). if b then Some e else None) (sym same)
