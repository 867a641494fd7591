-- A ledger stays one where an entry is added, and has one entry of an id.
use Rattle.std.proofs.Common.{◌≡◌, ℕ, zero, suc, ◌+◌, ◌<◌, ◌^◌, ◌++◌, Bool, true, false, List, [], ◌∷◌, length}
use Rattle.std.proofs.Common.{Option, Some, None, refl, sym, ap, subst, ◌∙◌, inl, inr, arith, if◌then◌else◌}
use Rattle.std.proofs.lemmas.Bool.{cases_Bool}
use Rattle.std.proofs.lemmas.Slice.Eq.{bytes_eq-Decides}
use Rattle.std.specs.List.{AllByRecursion}
use Rattle.std.specs.Prelude.{bytes_eq, Contains}
use Rattle.picky_cert.specs.declared.certificate.SshCertificate.{SshCertificate}
use Rattle.picky_ledger.specs.Apply.{added}
use Rattle.picky_ledger.specs.declared.entry.Entry.{Entry}
use Rattle.picky_ledger.specs.Entry.{IsEntry, entry_of}
use Rattle.picky_ledger.specs.State.{Differ, Increase, IsLedger, IsNew, State, entry_named}

-- what holds of each and of one more
pub all_more : {X : Type 0} (P : X → Type 0) (xs : List X) (x : X) → AllByRecursion P xs → P x → AllByRecursion P (xs ++ x ∷ [])
all_more P [] x all is = (is, tt)
all_more P (y ∷ xs) x all is = (all.0, all_more P xs x all.1 is)

-- the next serial goes behind all
pub increase_more : (last next : ℕ) (es : List Entry) (e : Entry) → Increase last next es → e.serial ≡ next → last < next
    → Increase last (next + 1) (es ++ e ∷ [])
increase_more last next [] e up is below = (omega (arith, is, below), omega (arith, is), tt)
increase_more last next (x ∷ es) e up is below =
    (up.0, omega (arith, up.1), increase_more x.serial next es e up.2 is up.1)

-- two byte strings are told apart both ways
pub apart_back : (xs ys : List ℕ) → bytes_eq xs ys ≡ false → bytes_eq ys xs ≡ false
apart_back xs ys apart = elim (cases_Bool (bytes_eq ys xs)) [
  | inl same ↦
      let is : bytes_eq xs ys ≡ true = (bytes_eq-Decides xs ys).1 (sym ((bytes_eq-Decides ys xs).0 same)) in absurd (cc (apart, is))
  | inr other ↦ other
]

pub new_more : (id : List ℕ) (es : List Entry) (e : Entry) → IsNew id es → bytes_eq e.id id ≡ false → IsNew id (es ++ e ∷ [])
new_more id es e new apart = all_more (λ x. bytes_eq x.id id ≡ false) es e new apart

pub differ_more : (es : List Entry) (e : Entry) → Differ es → IsNew e.id es → Differ (es ++ e ∷ [])
differ_more [] e differ new = (tt, tt)
differ_more (x ∷ es) e differ new =
    (new_more x.id es e differ.0 (apart_back x.id e.id new.0), differ_more es e differ.1 new.1)

pub added_is_ledger : (l : State) (e : Entry) → IsLedger l → l.next + 1 < 2 ^ 64 → IsEntry e → e.serial ≡ l.next
    → IsNew e.id l.entries → IsLedger (added l e)
added_is_ledger l e is room is_entry serial new = record {
  some = omega arith;
  fits = room;
  each = all_more IsEntry l.entries e is.each is_entry;
  increase = increase_more 0 l.next l.entries e is.increase serial is.some;
  differ = differ_more l.entries e is.differ new;
}

-- the same of a certificate that is entered
pub entered_is_ledger : (old l : State) (e : Entry) (c : SshCertificate) (line : List ℕ) (es : List Entry) → l ≡ old → IsLedger l
    → e ≡ entry_of c.key_id line c → es ≡ l.entries ++ e ∷ [] → IsEntry (entry_of c.key_id line c) → c.serial ≡ old.next
    → IsNew c.key_id old.entries → old.next + 1 < 2 ^ 64 → IsLedger (record { next = l.next + 1; entries = es })
entered_is_ledger old l e c line es same is entry all is_entry serial new room =
    let made : Entry = entry_of c.key_id line c in
    let next : l.next ≡ old.next = ap (λ (s : State). s.next) same in
    let entries : l.entries ≡ old.entries = ap (λ (s : State). s.entries) same in
    let ledger = added_is_ledger l made is (omega (arith, next, room)) is_entry (serial ∙ sym next)
    (subst (IsNew c.key_id) (sym entries) new) in
    let whole : l.entries ++ made ∷ [] ≡ es = ap (λ (d : Entry). l.entries ++ d ∷ []) (sym entry) ∙ sym all in
    subst (λ (xs : List Entry). IsLedger (record { next = l.next + 1; entries = xs })) whole ledger

-- ---- an entry by its id

-- what holds of each holds of one of them
pub all_inside : {X : Type 0} (P : X → Type 0) (front more : List X) (x : X) → AllByRecursion P (front ++ x ∷ more) → P x
all_inside P [] more x all = all.0
all_inside P (y ∷ front) more x all = all_inside P front more x all.1

-- an entry of a ledger is the one with its id
pub named_is : (front more : List Entry) (e : Entry) → Differ (front ++ e ∷ more) → entry_named e.id (front ++ e ∷ more) ≡ Some e
unfolding entry_named
named_is [] more e differ = rw ((bytes_eq-Decides e.id e.id).1 refl) refl
named_is (x ∷ front) more e differ =
    let inside = all_inside (λ y. bytes_eq y.id x.id ≡ false) front more e differ.0 in
    rw (apart_back e.id x.id inside) (named_is front more e differ.1)

passed_by : (test : Bool) (e : Entry) (o : Option Entry) → (if test then Some e else o) ≡ None → (test ≡ false) × (o ≡ None)
passed_by true e o is = absurd (cc is)
passed_by false e o is = (refl, is)

-- an id that no entry has is new
pub new_is : (id : List ℕ) (es : List Entry) → entry_named id es ≡ None → IsNew id es
unfolding entry_named
new_is id [] none = tt
new_is id (e ∷ es) none =
    let passed = passed_by (bytes_eq e.id id) e (entry_named id es) none in (passed.0, new_is id es passed.1)

-- a list with an element is what stands before it, the element and what follows
pub parted : {X : Type 0} (xs : List X) (x : X) → Contains xs x → (front : List X) × (more : List X) × (xs ≡ front ++ x ∷ more)
parted [] x (k, below, is) = absurd (omega (arith, below))
parted (y ∷ ys) x (zero, below, is) = ([], ys, ap (λ z. z ∷ ys) is)
parted (y ∷ ys) x (suc k, below, is) =
    let inside : k < length ys = omega (arith, below) in
    let rest = parted ys x (k, inside, is) in (y ∷ rest.0, rest.1, ap (λ zs. y ∷ zs) rest.2)
