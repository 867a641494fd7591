-- The laws of an item's line: it is one whole line, and of one item.
use Rattle.std.proofs.Common.{◌≡◌, ◌≢◌, ◌↔◌, ◌==◌, ◌&&◌, ℕ, Bool, true, not, List, [], ◌∷◌, ◌++◌, length, refl, sym, ap}
use Rattle.std.proofs.Common.{arith}
use Rattle.std.proofs.lemmas.Bool.{and_parts, not-true, eqb-false}
use Rattle.std.proofs.lemmas.List.{append_assoc}
use Rattle.std.specs.List.{AllByRecursion}
use Rattle.picky_text.specs.Base64.{base64_of}
use Rattle.picky_text.specs.Lines.{HasNo}
use Rattle.picky_text.proofs.Base64Laws.{base64_has_no, base64_of_injective}
use Rattle.picky_text.proofs.ListLaws.{all_append}
use Rattle.picky_keys.specs.Blob.{blob_of}
use Rattle.picky_keys.proofs.LineLaws.{blob_is_bytes}
use Rattle.picky_sshkey.proofs.PublicLaws.{same_blob}
use Rattle.picky_inventory.specs.InOrder.{SameItems}
use Rattle.picky_inventory.specs.Items.{Kind, IsPrivate, IsPublic, kind_word, Item, IsItem, item_line}
use Rattle.picky_inventory.specs.OrderedText.{IsWholeLine, LinesTellApart, ordered_text}
use Rattle.picky_inventory.proofs.OrderLaws.{all_has}
use Rattle.picky_inventory.proofs.TextLaws.{tells_each, text_is_of_its_set}

-- ---- a cut at a byte

-- what stands before the first such byte, and what follows it
pub same_cut : (b : ℕ) (xs ys us vs : List ℕ) → HasNo b xs → HasNo b us → xs ++ b ∷ ys ≡ us ++ b ∷ vs
    → (xs ≡ us) × (ys ≡ vs)
same_cut b [] ys [] vs left right is = (refl, cc is)
same_cut b [] ys (u ∷ us) vs left right is = let head : b ≡ u = cc is in absurd (right.0 (sym head))
same_cut b (x ∷ xs) ys [] vs left right is = let head : x ≡ b = cc is in absurd (left.0 head)
same_cut b (x ∷ xs) ys (u ∷ us) vs left right is =
    let head : x ≡ u = cc is in
    let tail : xs ++ b ∷ ys ≡ us ++ b ∷ vs = cc is in
    let rest = same_cut b xs ys us vs left.1 right.1 tail in
    (cc (head, rest.0), rest.1)

-- ---- bytes that stand nowhere

stands_nowhere : ℕ → List ℕ → Bool
stands_nowhere b [] = true
stands_nowhere b (c ∷ cs) = not (c == b) && stands_nowhere b cs

none_from_test : (b : ℕ) (bytes : List ℕ) → stands_nowhere b bytes ≡ true → HasNo b bytes
unfolding stands_nowhere
none_from_test b [] test = tt
none_from_test b (c ∷ cs) test =
    let both = and_parts (not (c == b)) (stands_nowhere b cs) test in
    (eqb-false c b (not-true (c == b) both.0), none_from_test b cs both.1)

pub word_has_no_space : (kind : Kind) → HasNo 32 (kind_word kind)
unfolding stands_nowhere
word_has_no_space IsPrivate = none_from_test 32 (kind_word IsPrivate) refl
word_has_no_space IsPublic = none_from_test 32 (kind_word IsPublic) refl

word_has_no_lf : (kind : Kind) → HasNo 10 (kind_word kind)
unfolding stands_nowhere
word_has_no_lf IsPrivate = none_from_test 10 (kind_word IsPrivate) refl
word_has_no_lf IsPublic = none_from_test 10 (kind_word IsPublic) refl

one_kind : (a b : Kind) → kind_word a ≡ kind_word b → a ≡ b
one_kind IsPrivate IsPrivate is = refl
one_kind IsPrivate IsPublic is = absurd (omega (arith, ap length is))
one_kind IsPublic IsPrivate is = absurd (omega (arith, ap length is))
one_kind IsPublic IsPublic is = refl

-- ---- the line

pub item_is_line : (item : Item) → IsItem item → IsWholeLine (item_line item)
item_is_line item is =
    let kind : List ℕ = kind_word item.kind in
    let key : List ℕ = base64_of (blob_of item.key) in
    let comment : List ℕ = base64_of item.comment in
    let P : ℕ → Type 0 = λ b. b ≢ 10 in
    record {
      front = kind ++ 32 ∷ (key ++ 32 ∷ comment);
      none =
          all_append P kind (32 ∷ (key ++ 32 ∷ comment)) (word_has_no_lf item.kind) (
            λ same. cc same,
            all_append P key (32 ∷ comment) (base64_has_no 10 (blob_of item.key) (blob_is_bytes item.key is.key) refl)
                (λ same. cc same, base64_has_no 10 item.comment is.comment.string.bytes refl),
          );
      is = simp append_assoc;
    }

-- a line is of one item
pub one_item : (a b : Item) → IsItem a → IsItem b → item_line a ≡ item_line b → a ≡ b
one_item a b is_a is_b is =
    let key_a : List ℕ = base64_of (blob_of a.key) in
    let key_b : List ℕ = base64_of (blob_of b.key) in
    let comment_a : List ℕ = base64_of a.comment in
    let comment_b : List ℕ = base64_of b.comment in
    let kinds = same_cut 32 (kind_word a.kind) (key_a ++ 32 ∷ (comment_a ++ 10 ∷ [])) (kind_word b.kind)
    (key_b ++ 32 ∷ (comment_b ++ 10 ∷ [])) (word_has_no_space a.kind) (word_has_no_space b.kind) is in
    let keys = same_cut 32 key_a (comment_a ++ 10 ∷ []) key_b (comment_b ++ 10 ∷ [])
    (base64_has_no 32 (blob_of a.key) (blob_is_bytes a.key is_a.key) refl)
    (base64_has_no 32 (blob_of b.key) (blob_is_bytes b.key is_b.key) refl) kinds.1 in
    let comments = same_cut 10 comment_a [] comment_b [] (base64_has_no 10 a.comment is_a.comment.string.bytes refl)
    (base64_has_no 10 b.comment is_b.comment.string.bytes refl) keys.1 in
    let kind : a.kind ≡ b.kind = one_kind a.kind b.kind kinds.0 in
    let blob : blob_of a.key ≡ blob_of b.key =
    base64_of_injective (blob_of a.key) (blob_of b.key) (blob_is_bytes a.key is_a.key) (blob_is_bytes b.key is_b.key)
    keys.0 in
    let key : a.key ≡ b.key = same_blob a.key b.key is_a.key is_b.key blob in
    let comment : a.comment ≡ b.comment =
    base64_of_injective a.comment b.comment is_a.comment.string.bytes is_b.comment.string.bytes comments.0 in
    λ i. record { kind = kind i; key = key i; comment = comment i }

-- so items are told apart by their lines
pub items_are_told : (items : List Item) → AllByRecursion IsItem items → LinesTellApart item_line items
items_are_told items all =
    tells_each item_line IsItem item_is_line one_item items (λ x has. all_has IsItem items x all has)

pub inventory_of_its_set : (xs ys : List Item) → AllByRecursion IsItem xs → AllByRecursion IsItem ys
    → (ordered_text item_line xs ≡ ordered_text item_line ys) ↔ SameItems xs ys
inventory_of_its_set xs ys left right =
    text_is_of_its_set item_line xs ys (items_are_told (xs ++ ys) (all_append IsItem xs ys left right))
