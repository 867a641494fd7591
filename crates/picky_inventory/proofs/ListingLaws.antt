-- A list of parts, read one by one.
use Rattle.std.proofs.Common.{◌≡◌, ◌⊎◌, ◌+◌, ◌<◌, ℕ, zero, suc, true, false, List, [], ◌∷◌, ◌++◌, map, length, take, drop, get_or}
use Rattle.std.proofs.Common.{Option, Some, slice_get, subst, Result, Ok, Err, refl, sym, ◌∙◌, ap, arith, inl, inr, add-one}
use Rattle.std.proofs.Common.{drop-cons, take-append-drop}
use Rattle.std.proofs.lemmas.Bool.{cases_Bool}
use Rattle.std.proofs.lemmas.List.{append-nil, get_or-map, length-map, length-take, map-append, take_more}
use Rattle.std.proofs.lemmas.Option.{slice_get-get_or}
use Rattle.std.specs.List.{concat, flat_map}
use Rattle.picky_wire_base.specs.Outcome.{and_then, map_err, map_ok}
use Rattle.picky_wire.specs.Count.{Rose}
use Rattle.picky_suite.specs.Failures.{IsAskedFault}
use Rattle.picky_suite.specs.Meanings.{Meanings}
use Rattle.picky_key_text.specs.Order.{asks, fault_of, reading}
use Rattle.picky_key_text.specs.Reader.{Reader}
use Rattle.picky_key_text.specs.declared.error.ReadError.{ReadError}
use Rattle.picky_key_text.specs.declared.error.ReadError.TheVariants as errors
use Rattle.picky_key_text.specs.declared.meaning.Meaning.{Meaning}
use Rattle.picky_inventory.specs.InOrder.{line_cmp, ordered}
use Rattle.picky_inventory.specs.Items.{Item, item_of, item_line, is_blank, refused, items_from}
use Rattle.picky_inventory.specs.Listing.{FaultAt, NoneAsks, inventory, lines_from}
use Rattle.picky_inventory.specs.OrderedText.{ordered_text}
use Rattle.picky_inventory.specs.Parted.{text_parts}
use Rattle.picky_inventory.proofs.TextLaws.{joined_is}

-- where no text asks, none of a list does
pub none_asks : (pass : Option (List ℕ)) → ((text : List ℕ) → asks pass text ≡ false) → (list : List (List ℕ)) → NoneAsks pass list
none_asks pass never [] = tt
none_asks pass never (text ∷ list) = (never text, none_asks pass never list)

-- of a list of which none asks, no text does
pub none_asks_at : {A : Type 0} (see : A → List ℕ) (pass : Option (List ℕ)) (list : List A) (i : ℕ) (d : A) → i < length list
    → NoneAsks pass (map see list) → asks pass (see (get_or list i d)) ≡ false
none_asks_at see pass [] i d below none = absurd (omega (arith, below))
none_asks_at see pass (x ∷ list) zero d below none = none.0
none_asks_at see pass (x ∷ list) (suc i) d below none = none_asks_at see pass list i d (omega (arith, below)) none.1

-- ---- the parts so far, and the rest

-- a blank part, one that is read, and one that isn't
blank_first : (r : Reader) (n : ℕ) (part : List ℕ) (parts : List (List ℕ)) → is_blank part ≡ true
    → lines_from r n (part ∷ parts) ≡ lines_from r (n + 1) parts
blank_first r n part parts blank = rw blank refl

line_joined : (item : Item) (rest : Result (List Item) (ℕ × ReadError))
    → map_ok (map item_line) (map_ok (λ items. item ∷ items) rest)
    ≡ map_ok (λ lines. item_line item ∷ lines) (map_ok (map item_line) rest)
line_joined item (Ok items) = refl
line_joined item (Err e) = refl

first_by : (n : ℕ) (says : Result Meaning ReadError) (rest : Result (List Item) (ℕ × ReadError)) (line : List ℕ)
    → map_ok (λ m. item_line (item_of m)) says ≡ Ok line
    → map_ok (map item_line) (and_then (map_err (refused n) says) (λ m. map_ok (λ items. item_of m ∷ items) rest))
    ≡ map_ok (λ lines. line ∷ lines) (map_ok (map item_line) rest)
first_by n (Ok meaning) rest line is =
    let same : item_line (item_of meaning) ≡ line = cc is in
    line_joined (item_of meaning) rest ∙ ap (λ l. map_ok (λ lines. l ∷ lines) (map_ok (map item_line) rest)) same
first_by n (Err e) rest line is = cc is

refused_by : (n : ℕ) (says : Result Meaning ReadError) (rest : Result (List Item) (ℕ × ReadError)) (e : ReadError)
    → map_ok (λ m. item_line (item_of m)) says ≡ Err e
    → map_ok (map item_line) (and_then (map_err (refused n) says) (λ m. map_ok (λ items. item_of m ∷ items) rest))
    ≡ Err (n, e)
refused_by n (Ok meaning) rest e is = cc is
refused_by n (Err f) rest e is = let same : f ≡ e = cc is in ap (λ g. Err (n, g)) same

read_first : (r : Reader) (n : ℕ) (part : List ℕ) (parts : List (List ℕ)) (line : List ℕ) → is_blank part ≡ false
    → map_ok (λ m. item_line (item_of m)) (reading r part) ≡ Ok line
    → lines_from r n (part ∷ parts) ≡ map_ok (λ lines. line ∷ lines) (lines_from r (n + 1) parts)
read_first r n part parts line other is =
    rw other (first_by n (reading r part) (items_from r (n + 1) parts) line is)

refused_first : (r : Reader) (n : ℕ) (part : List ℕ) (parts : List (List ℕ)) (e : ReadError) → is_blank part ≡ false
    → map_ok (λ m. item_line (item_of m)) (reading r part) ≡ Err e → lines_from r n (part ∷ parts) ≡ Err (n, e)
refused_first r n part parts e other is = rw other (refused_by n (reading r part) (items_from r (n + 1) parts) e is)

-- ---- after the parts so far

within : {X E : Type 0} → (says : Result (List X) E) → map_ok (λ l. [] ++ l) says ≡ says
within (Ok l) = refl
within (Err e) = refl

front_of : {X E : Type 0} → (x : X) (says : Result (List X) E) (all : List X) → map_ok (λ l. x ∷ l) says ≡ Ok all
    → (rest : List X) × (says ≡ Ok rest) × (all ≡ x ∷ rest)
front_of x (Ok rest) all is = (rest, refl, sym (cc is))
front_of x (Err e) all is = cc is

front_then : {X E : Type 0} → (x : X) (front : List X) (says : Result (List X) E)
    → map_ok (λ l. x ∷ l) (map_ok (λ l. front ++ l) says) ≡ map_ok (λ l. (x ∷ front) ++ l) says
front_then x front (Ok l) = refl
front_then x front (Err e) = refl

line_or_refusal : {X E : Type 0} → (says : Result X E) → ((x : X) × (says ≡ Ok x)) ⊎ ((e : E) × (says ≡ Err e))
line_or_refusal (Ok x) = inl (x, refl)
line_or_refusal (Err e) = inr (e, refl)

-- the lines of parts that are read, and those of what follows
lines_append : (r : Reader) (n : ℕ) (xs ys : List (List ℕ)) (lines : List (List ℕ)) → lines_from r n xs ≡ Ok lines
    → lines_from r n (xs ++ ys) ≡ map_ok (λ l. lines ++ l) (lines_from r (n + length xs) ys)
lines_append r n [] ys lines is =
    let none : [] ≡ lines = cc is in
    let at : n + 0 ≡ n = omega arith in
    sym (within (lines_from r n ys)) ∙ ap (λ m. map_ok (λ l. [] ++ l) (lines_from r m ys)) (sym at)
    ∙ ap (λ front. map_ok (λ l. front ++ l) (lines_from r (n + 0) ys)) none
lines_append r n (part ∷ xs) ys lines is =
    let at : n + 1 + length xs ≡ n + length (part ∷ xs) = omega arith in
    elim (cases_Bool (is_blank part)) [
      | inl blank ↦
          blank_first r n part (xs ++ ys) blank
          ∙ lines_append r (n + 1) xs ys lines (sym (blank_first r n part xs blank) ∙ is)
          ∙ ap (λ m. map_ok (λ l. lines ++ l) (lines_from r m ys)) at
      | inr other ↦ elim (line_or_refusal (map_ok (λ m. item_line (item_of m)) (reading r part))) [
        | inl read ↦
            let found = front_of read.0 (lines_from r (n + 1) xs) lines
            (sym (read_first r n part xs read.0 other read.1) ∙ is) in
            let rest : List (List ℕ) = found.0 in
            read_first r n part (xs ++ ys) read.0 other read.1
            ∙ ap (map_ok (λ l. read.0 ∷ l)) (lines_append r (n + 1) xs ys rest found.1)
            ∙ front_then read.0 rest (lines_from r (n + 1 + length xs) ys)
            ∙ ap (λ m. map_ok (λ l. (read.0 ∷ rest) ++ l) (lines_from r m ys)) at
            ∙ ap (λ front. map_ok (λ l. front ++ l) (lines_from r (n + length (part ∷ xs)) ys)) (sym found.2)
        | inr failed ↦ cc (refused_first r n part xs failed.0 other failed.1, is)
      ]
    ]

-- ---- the next part

module _ {A : Type 0} (see : A → List ℕ) (r : Reader) (parts : List A) (i : ℕ) (part : A) (below : i < length parts)
    (lines : List (List ℕ)) (before : lines_from r 0 (take i (map see parts)) ≡ Ok lines) where
  texts : List (List ℕ)
  texts = map see parts

  here : get_or texts i (see (get_or parts i part)) ≡ see (get_or parts i part)
  unfolding texts
  here = get_or-map see parts i part (see (get_or parts i part)) below

  inside : i < length texts
  unfolding texts
  inside = omega (arith, below, length-map parts see)

  so_far : length (take i texts) ≡ i
  so_far = omega (arith, length-take i texts, inside)

  next : (found : List ℕ) → found ≡ see (get_or parts i part) → take (i + 1) texts ≡ take i texts ++ found ∷ []
  next found is =
      take_more texts i (see (get_or parts i part)) inside ∙ ap (λ l. take i texts ++ l ∷ []) (here ∙ sym is)

  more_by : (found : List ℕ) → found ≡ see (get_or parts i part)
      → lines_from r 0 (take (i + 1) texts) ≡ map_ok (λ l. lines ++ l) (lines_from r (0 + length (take i texts)) (found ∷ []))
  unfolding texts
  more_by found is =
      ap (lines_from r 0) (next found is) ∙ lines_append r 0 (take i (map see parts)) (found ∷ []) lines before

  pub blank_more : (found : List ℕ) → found ≡ see (get_or parts i part) → is_blank found ≡ true
      → lines_from r 0 (take (i + 1) (map see parts)) ≡ Ok lines
  unfolding texts
  blank_more found is blank =
      more_by found is
      ∙ ap (map_ok (λ l. lines ++ l)) (blank_first r (0 + length (take i (map see parts))) found [] blank)
      ∙ ap Ok (append-nil lines)

  pub line_more : (found line : List ℕ) → found ≡ see (get_or parts i part) → is_blank found ≡ false
      → map_ok (λ m. item_line (item_of m)) (reading r found) ≡ Ok line
      → lines_from r 0 (take (i + 1) (map see parts)) ≡ Ok (lines ++ line ∷ [])
  unfolding texts
  line_more found line is other read =
      more_by found is
      ∙ ap (map_ok (λ l. lines ++ l)) (read_first r (0 + length (take i (map see parts))) found [] line other read)

  pub refused_there : (found : List ℕ) (e : ReadError) → found ≡ see (get_or parts i part) → is_blank found ≡ false
      → map_ok (λ m. item_line (item_of m)) (reading r found) ≡ Err e
      → lines_from r 0 (map see parts) ≡ Err (i, e)
  unfolding texts
  refused_there found e is other failed =
      let rest : List (List ℕ) = drop (i + 1) texts in
      let at : drop i texts ≡ found ∷ rest =
      rw (add-one, drop-cons texts i (see (get_or parts i part)) inside) (ap (λ l. l ∷ drop (suc i) texts) (here ∙ sym is)) in
      let whole : texts ≡ take i texts ++ found ∷ rest =
      sym (take-append-drop i texts) ∙ ap (λ l. take i texts ++ l) at in
      let number : 0 + length (take i texts) ≡ i = omega (arith, so_far) in
      ap (lines_from r 0) whole ∙ lines_append r 0 (take i texts) (found ∷ rest) lines before
      ∙ ap (map_ok (λ l. lines ++ l)) (refused_first r (0 + length (take i texts)) found rest e other failed)
      ∙ ap (λ m. Err (m, e)) number

  pub part_there : slice_get (map see parts) i ≡ Some (see (get_or parts i part))
  unfolding texts
  part_there = slice_get-get_or (map see parts) i (see (get_or parts i part)) inside ∙ ap Some here

-- a refusal, by what the suite means now
pub refused_gives : {A : Type 0} → (see : A → List ℕ) (m now : Meanings) (pass : Option (List ℕ)) (parts : List A) (i : ℕ)
    (part : A) (lines : List (List ℕ)) (e : ReadError) (start before after : ℕ) → i < length parts
    → lines_from (record { meanings = m; pass = pass }) 0 (take i (map see parts)) ≡ Ok lines → now ≡ m → before ≡ start
    → is_blank (see (get_or parts i part)) ≡ false
    → (e ≡ errors.NoMemory) ⊎ ((e ≡ fault_of (see (get_or parts i part)))
    × IsAskedFault (asks pass (see (get_or parts i part))) (Rose before after))
    ⊎ (map_ok (λ m. item_line (item_of m)) (reading (record { meanings = now; pass = pass }) (see (get_or parts i part))) ≡ Err e)
    → (e ≡ errors.NoMemory) ⊎ FaultAt (record { meanings = m; pass = pass }) (map see parts) i e (Rose start after)
    ⊎ (lines_from (record { meanings = m; pass = pass }) 0 (map see parts) ≡ Err (i, e))
refused_gives see m now pass parts i part lines e start before after below sofar same count other (inl want) = inl want
refused_gives see m now pass parts i part lines e start before after below sofar same count other (inr (inl failed)) =
    let r : Reader = record { meanings = m; pass = pass } in
    inr (inl (record {
      part = see (get_or parts i part);
      here = part_there see r parts i part below lines sofar;
      fault = failed.0;
      asked = (failed.1.0, subst (λ n. Rose n after) count failed.1.1);
      lines = lines;
      before = sofar;
    }))
refused_gives see m now pass parts i part lines e start before after below sofar same count other (inr (inr is)) =
    let r : Reader = record { meanings = m; pass = pass } in
    let found : List ℕ = see (get_or parts i part) in
    inr (inr (refused_there see r parts i part below lines sofar found e refl other
    (subst (λ (k : Meanings). map_ok (λ m. item_line (item_of m)) (reading (record { meanings = k; pass = pass }) found) ≡ Err e)
    same is)))

-- one line is added
pub lines_more : {X E : Type 0} → (see : X → List ℕ) (done more : List X) (x : X) (says : Result (List (List ℕ)) E)
    → more ≡ done ++ x ∷ [] → says ≡ Ok (map see done ++ see x ∷ []) → says ≡ Ok (map see more)
lines_more see done more x says is found =
    found ∙ ap Ok (sym (map-append see done (x ∷ []))) ∙ ap (λ l. Ok (map see l)) (sym is)

-- ---- the whole text

lines_give : {E : Type 0} → (says : Result (List Item) E) (lines : List (List ℕ)) → map_ok (map item_line) says ≡ Ok lines
    → map_ok (ordered_text item_line) says ≡ Ok (concat (ordered line_cmp lines))
lines_give (Ok items) lines is =
    let same : map item_line items ≡ lines = cc is in ap (λ l. Ok (concat (ordered line_cmp l))) same
lines_give (Err e) lines is = cc is

-- the lines in order, joined, are the inventory
pub text_listed : {X : Type 0} → (see : X → List ℕ) (r : Reader) (text : List ℕ) (parts : List (List ℕ)) (lines sorted : List X)
    (written : List ℕ) → parts ≡ text_parts text → lines_from r 0 parts ≡ Ok (map see lines)
    → map see sorted ≡ ordered line_cmp (map see lines) → written ≡ flat_map see sorted → inventory r text ≡ Ok written
text_listed see r text parts lines sorted written cut are order is =
    lines_give (items_from r 0 (text_parts text)) (map see lines) (ap (lines_from r 0) (sym cut) ∙ are)
    ∙ ap (λ l. Ok (concat l)) (sym order) ∙ ap Ok (sym (is ∙ joined_is see sorted))
