-- A row of items that is passed one after another, as a loop passes it.
use Rattle.std.specs.Prelude.{◌≡◌, List, [], ◌∷◌, ℕ, zero, suc, ◌+◌, ◌++◌, ◌<◌, ◌≤◌, length, drop, Result, Ok, Err, ⊤}
use Rattle.std.proofs.Common.{sym, subst, ◌∙◌, ap, refl, arith}
use Rattle.std.proofs.lemmas.List.{length-drop}
use Rattle.picky_wire_base.specs.Grammar.{Grammar}
use Rattle.picky_wire_base.specs.Joined.{used_then}
use Rattle.picky_wire_base.specs.Row.{Solid, read_all}
use Rattle.picky_wire_base.specs.carried.Row.{shorter}
use Rattle.picky_wire_base.proofs.Solid.{read_shortens}
use Rattle.picky_wire_base.proofs.Steps.{following, taking_begins, taking_more, taking_ends, taking_refused}
use Rattle.picky_wire_base.specs.declared.view.Part.{Part}
use Rattle.picky_wire_base.specs.View.{end_of, part_bytes}
use Rattle.picky_cert_blob.specs.declared.part.CertPart.{CertPart}
use Rattle.picky_cert_blob.specs.Reason.{CertReason}
use Rattle.picky_cert_blob.specs.Used.{used_within, used_row}
use Rattle.picky_wire_base.specs.View.{SeenAt, reason_of}
use Rattle.picky_cert_blob.specs.View.{ArePassed, IsPassed, NameLies}
use Rattle.picky_cert_blob.specs.Items.{principal_item, option_item, extension_item}
use Rattle.picky_cert_blob.specs.carried.Items.{principal_item_solid, option_item_solid, extension_item_solid}
use Rattle.picky_cert_blob.specs.CertSeen.{option_seen, extension_seen}
use Rattle.picky_cert_blob.specs.declared.kinds.OptionView.{OptionView}
use Rattle.picky_cert_blob.specs.declared.kinds.ExtensionView.{ExtensionView}
use Rattle.picky_wire_base.specs.declared.stopped.Stopped.{Stopped}

used_nil : {E A : Type 0} (G : Grammar E A) (most : ℕ) → used_within G most [] ≡ 0
used_nil G zero = refl
used_nil G (suc most) = refl

same_used : {E A : Type 0} (r : Result (A × List ℕ) E) (field : ℕ) (next next' : A × List ℕ → ℕ)
    → ((x : A × List ℕ) → r ≡ Ok x → next x ≡ next' x) → used_then r field next ≡ used_then r field next'
same_used (Ok x) field next next' same = ap (λ n. field + n) (same x refl)
same_used (Err e) field next next' same = refl

-- more values than there are bytes make no difference
used_same : {E A : Type 0} (G : Grammar E A) → Solid G.piece → (m n : ℕ) (bytes : List ℕ)
    → length bytes ≤ m → length bytes ≤ n → used_within G m bytes ≡ used_within G n bytes
used_same G solid m n [] few few' = used_nil G m ∙ sym (used_nil G n)
used_same G solid zero n (b ∷ bytes) few few' = absurd (omega arith)
used_same G solid (suc m) zero (b ∷ bytes) few few' = absurd (omega arith)
used_same G solid (suc m) (suc n) (b ∷ bytes) few few' =
    same_used (G.read (b ∷ bytes)) (G.used (b ∷ bytes)) (λ first. used_within G m first.1) (λ first. used_within G n first.1)
    λ first is.
    let fewer = shorter G solid (b ∷ bytes) first.1 first.0 (G.sound (b ∷ bytes) first.0 first.1 is) in
    used_same G solid m n first.1 (omega arith) (omega arith)

used_of_more : {E A : Type 0} (G : Grammar E A) → Solid G.piece → (bytes : List ℕ) (v : A) (rest : List ℕ)
    → 0 < length bytes → G.read bytes ≡ Ok (v, rest) → used_row G bytes ≡ G.used bytes + used_row G rest
unfolding used_row
used_of_more G solid [] v rest some is = absurd (omega arith)
used_of_more G solid (b ∷ bytes) v rest some is =
    let fewer = shorter G solid (b ∷ bytes) rest v (G.sound (b ∷ bytes) v rest is) in
    ap (λ r. used_then r (G.used (b ∷ bytes)) (λ first. used_within G (length bytes) first.1)) is
    ∙ ap (λ n. G.used (b ∷ bytes) + n) (used_same G solid (length bytes) (length rest) rest (omega arith) (omega arith))

used_of_refused : {E A : Type 0} (G : Grammar E A) (bytes : List ℕ) (e : E) → 0 < length bytes → G.read bytes ≡ Err e
    → used_row G bytes ≡ G.used bytes
unfolding used_row
used_of_refused G [] e some refused = absurd (omega arith)
used_of_refused G (b ∷ bytes) e some refused =
    ap (λ r. used_then r (G.used (b ∷ bytes)) (λ first. used_within G (length bytes) first.1)) refused

-- the values passed so far, from a place on, and then those of the rest, are all
pub record Passing {A : Type 0} (item : Grammar CertReason A) (bytes : List ℕ) (from at : ℕ) : Type 0 where
  pub taken : List A
  pub so_far : following taken (read_all item (drop at bytes)) ≡ read_all item (drop from bytes)
  pub ends : at + used_row item (drop at bytes) ≡ from + used_row item (drop from bytes)
  pub within : at ≤ length bytes

pub passing_begins : {A : Type 0} (item : Grammar CertReason A) (bytes : List ℕ) (from : ℕ) → from ≤ length bytes
    → Passing item bytes from from
passing_begins item bytes from within = record {
  taken = [];
  so_far = sym (taking_begins item (drop from bytes));
  ends = refl;
  within = within;
}

pub passing_more : {A : Type 0} (item : Grammar CertReason A) → Solid item.piece → (bytes : List ℕ) (from at next : ℕ)
    → at < length bytes → Passing item bytes from at → IsPassed item bytes at (Ok next) → Passing item bytes from next
passing_more item solid bytes from at next some so (v, is, end, further, within) =
    let left : 0 < length (drop at bytes) = omega (arith, length-drop at bytes) in
    record {
      taken = so.taken ++ v ∷ [];
      so_far = sym (taking_more item solid so.taken (drop at bytes) v (drop next bytes) left is) ∙ so.so_far;
      ends = omega (arith, so.ends, end, used_of_more item solid (drop at bytes) v (drop next bytes) left is);
      within = within;
    }

pub passing_stops : {A : Type 0} (item : Grammar CertReason A) (bytes : List ℕ) (from at : ℕ) (stopped : Stopped CertPart)
    → at < length bytes → Passing item bytes from at → IsPassed item bytes at (Err stopped)
    → ArePassed item bytes from (Err stopped)
passing_stops item bytes from at stopped some so (is, lies) =
    let left : 0 < length (drop at bytes) = omega (arith, length-drop at bytes) in
    let end : end_of item bytes at ≡ from + used_row item (drop from bytes) =
    omega (arith, so.ends, used_of_refused item (drop at bytes) (reason_of stopped) left is) in (
      sym so.so_far ∙ taking_refused item so.taken (drop at bytes) (reason_of stopped) left is,
      subst (λ n. NameLies bytes n stopped.stuck) end lies,
    )

pub passing_ends : {A : Type 0} (item : Grammar CertReason A) (bytes : List ℕ) (from at : ℕ) → length bytes ≤ at
    → Passing item bytes from at → (vs : List A) × (read_all item (drop from bytes) ≡ Ok vs)
passing_ends item bytes from at none so =
    (so.taken, sym so.so_far ∙ taking_ends item so.taken (drop at bytes) (omega (arith, length-drop at bytes)))

-- ---- an item that was seen

passed : {X A : Type 0} (shows : X → A) (lies : X → Type 0) (item : Grammar CertReason A) → Solid item.piece
    → (block : List ℕ) (from next : ℕ) (x : X) → SeenAt shows lies item block from (Ok (x, next))
    → IsPassed item block from (Ok next)
passed shows lies item solid block from next x seen =
    let shorter = read_shortens item solid (drop from block) (shows x) (drop next block) seen.sees in
    let further : from < next = omega (arith, shorter, length-drop from block, length-drop next block, seen.placed.2) in
    (shows x, seen.sees, seen.placed.1, further, seen.placed.2)

pub principal_passed : (lies : Part → Type 0) (block : List ℕ) (from next : ℕ) (x : Part)
    → SeenAt part_bytes lies principal_item block from (Ok (x, next)) → IsPassed principal_item block from (Ok next)
principal_passed lies block from next x seen = passed part_bytes lies principal_item principal_item_solid block from next x seen

pub option_passed : (block : List ℕ) (from next : ℕ) (x : OptionView)
    → SeenAt option_seen (λ _. ⊤) option_item block from (Ok (x, next)) → IsPassed option_item block from (Ok next)
option_passed block from next x seen = passed option_seen (λ _. ⊤) option_item option_item_solid block from next x seen

pub extension_passed : (block : List ℕ) (from next : ℕ) (x : ExtensionView)
    → SeenAt extension_seen (λ _. ⊤) extension_item block from (Ok (x, next)) → IsPassed extension_item block from (Ok next)
extension_passed block from next x seen =
    passed extension_seen (λ _. ⊤) extension_item extension_item_solid block from next x seen
