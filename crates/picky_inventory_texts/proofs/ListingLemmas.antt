-- A list of texts, text by text.
use Rattle.std.proofs.Common.{◌≡◌, ◌⊎◌, ◌+◌, ◌<◌, ◌∙◌, ℕ, suc, Bool, true, false, List, [], ◌∷◌, ◌++◌, map, length, take, drop, get_or}
use Rattle.std.proofs.Common.{None, Result, Ok, Err, refl, sym, ap, arith, inl, inr, subst, add-one, drop-cons, take-append-drop}
use Rattle.std.proofs.lemmas.List.{append-nil, append_assoc, get_or-map, length-map, length-take, map-append, take_more}
use Rattle.std.specs.List.{concat, flat_map}
use Rattle.std.specs.Str.{is_utf8}
use Rattle.picky_wire_base.specs.Outcome.{and_then, map_err, map_ok}
use Rattle.picky_suite.specs.Failures.{IsAskedFault}
use Rattle.picky_suite.specs.Meanings.{Meanings, plain}
use Rattle.picky_key_text.specs.Order.{asks, fault_of, reading}
use Rattle.picky_key_text.specs.Reads.{Reads}
use Rattle.picky_key_text.specs.declared.error.ReadError.{ReadError}
use Rattle.picky_key_text.specs.declared.error.ReadError.TheVariants as reads
use Rattle.picky_key_text.specs.declared.meaning.Meaning.{Meaning}
use Rattle.picky_key_text.proofs.UnaskedLaws.{unasked}
use Rattle.picky_shown.specs.Shown.{is_encrypted, shows}
use Rattle.picky_shown.specs.declared.showing.Shown.{Shown}
use Rattle.picky_shown.proofs.ShownLaws.{open_text_is_shown}
use Rattle.picky_inventory.specs.InOrder.{line_cmp, ordered}
use Rattle.picky_inventory.specs.Items.{is_blank, item_line, item_of}
use Rattle.picky_inventory.specs.OrderedText.{ordered_text}
use Rattle.picky_inventory.proofs.TextLaws.{joined_is}
use Rattle.picky_inventory_texts.specs.Listed.{Listed, listed_line, read_of, sealed_item}
use Rattle.picky_inventory_texts.specs.Texts.{alone, bytes_items, items_from, lines_from, listed_text, plain_reader, read_text, refused}
use Rattle.picky_inventory_texts.specs.Texts.{seen_text, text_items, texts_inventory}
use Rattle.picky_inventory_texts.specs.declared.listing.ListError.{ListError}
use Rattle.picky_inventory_texts.specs.declared.listing.ListError.TheVariants as lists
use Rattle.picky_inventory_texts.specs.declared.listing.TextCause.{TextCause}
use Rattle.picky_inventory_texts.specs.declared.listing.TextCause.TheVariants as causes

-- ---- one text

-- the line of what is read
pub read_gives : (m : Meanings) (text line : List ℕ) (meaning : Meaning) → m ≡ plain
    → reading (record { meanings = m; pass = None }) text ≡ Ok meaning → line ≡ item_line (item_of meaning)
    → map_ok listed_line (read_text text) ≡ Ok line
read_gives m text line meaning means is same =
    ap (λ s. map_ok listed_line (map_ok read_of s))
    (subst (λ n. reading (record { meanings = n; pass = None }) text ≡ Ok meaning) means is)
    ∙ ap Ok (sym same)

pub read_means : (m : Meanings) (text : List ℕ) (meaning : Meaning) → m ≡ plain
    → Reads (record { meanings = m; pass = None }) text meaning → (found : Meaning) × Reads plain_reader text found
read_means m text meaning means reads =
    (meaning, subst (λ n. Reads (record { meanings = n; pass = None }) text meaning) means reads)

-- what is refused of a text: who reads without a passphrase asks no suite
refused_as : (text : List ℕ) (e : ReadError) (says : Result Meaning ReadError) (rose : Type 0)
    → (e ≡ reads.NoMemory) ⊎ ((e ≡ fault_of text) × IsAskedFault (asks None text) rose) ⊎ (says ≡ Err e)
    → (e ≡ reads.NoMemory) ⊎ (map_ok listed_line (map_ok read_of says) ≡ Err e)
refused_as text e says rose (inl want) = inl want
refused_as text e says rose (inr (inl fault)) = cc (sym (unasked text) ∙ fault.1.0)
refused_as text e says rose (inr (inr refused)) = inr (ap (λ s. map_ok listed_line (map_ok read_of s)) refused)

pub read_refuses : (m : Meanings) (text : List ℕ) (e : ReadError) (rose : Type 0) → m ≡ plain
    → (e ≡ reads.NoMemory) ⊎ ((e ≡ fault_of text) × IsAskedFault (asks None text) rose)
    ⊎ (reading (record { meanings = m; pass = None }) text ≡ Err e)
    → (e ≡ reads.NoMemory) ⊎ (map_ok listed_line (read_text text) ≡ Err e)
read_refuses m text e rose means refuses =
    refused_as text e (reading plain_reader text) rose
    (subst
    (λ n. (e ≡ reads.NoMemory) ⊎ ((e ≡ fault_of text) × IsAskedFault (asks None text) rose)
    ⊎ (reading (record { meanings = n; pass = None }) text ≡ Err e)) means refuses)

-- what is read is listed so, whether encrypted keys are or not
pub read_is_listed : (sealed : Bool) (text : List ℕ) (meaning : Meaning) → Reads plain_reader text meaning
    → listed_text sealed text ≡ read_text text
read_is_listed true text meaning reads = ap (λ s. and_then s (seen_text text)) (open_text_is_shown plain text meaning reads)
read_is_listed false text meaning reads = refl

pub line_is_listed : (sealed : Bool) (text line : List ℕ) → ((meaning : Meaning) × Reads plain_reader text meaning)
    → map_ok listed_line (read_text text) ≡ Ok line → map_ok listed_line (listed_text sealed text) ≡ Ok line
line_is_listed sealed text line means is =
    ap (map_ok listed_line) (read_is_listed sealed text means.0 means.1) ∙ is

-- what an encrypted text shows
seen_is : (text : List ℕ) (shown : Shown) → is_encrypted shown.sealing ≡ true → seen_text text shown ≡ Ok (sealed_item shown.key)
seen_is text shown shut = rw shut refl

pub shown_is_listed : (m : Meanings) (text line : List ℕ) (shown : Shown) → m ≡ plain → shows m text ≡ Ok shown
    → is_encrypted shown.sealing ≡ true → line ≡ listed_line (sealed_item shown.key)
    → map_ok listed_line (listed_text true text) ≡ Ok line
shown_is_listed m text line shown means is shut same =
    let says : shows plain text ≡ Ok shown = subst (λ n. shows n text ≡ Ok shown) means is in
    ap (λ s. map_ok listed_line (and_then s (seen_text text))) says ∙ ap (map_ok listed_line) (seen_is text shown shut)
    ∙ ap Ok (sym same)

pub shown_refuses : (m : Meanings) (text : List ℕ) (e : ReadError) → m ≡ plain
    → (e ≡ reads.NoMemory) ⊎ (shows m text ≡ Err e)
    → (e ≡ reads.NoMemory) ⊎ (map_ok listed_line (listed_text true text) ≡ Err e)
shown_refuses m text e means (inl want) = inl want
shown_refuses m text e means (inr refused) =
    let says : shows plain text ≡ Err e = subst (λ n. shows n text ≡ Err e) means refused in
    inr (ap (λ s. map_ok listed_line (and_then s (seen_text text))) says)

-- ---- the lines that a text adds

-- the bytes are a text
text_gives : (sealed : Bool) (bytes text : List ℕ) → text ≡ bytes → is_utf8 bytes ≡ true
    → bytes_items sealed bytes ≡ map_err causes.Unread (text_items sealed text)
text_gives sealed bytes text same utf8 =
    let here : bytes_items sealed bytes ≡ map_err causes.Unread (text_items sealed bytes) = rw utf8 refl in
    here ∙ ap (λ t. map_err causes.Unread (text_items sealed t)) (sym same)

abbrev pub adds : (sealed : Bool) (place : ℕ) (bytes : List ℕ) (lines : List (List ℕ)) → Result (List (List ℕ)) ListError
adds sealed place bytes lines =
    map_ok (λ items. lines ++ map listed_line items) (map_err (refused place) (bytes_items sealed bytes))

adds_by : (sealed : Bool) (place : ℕ) (bytes : List ℕ) (lines : List (List ℕ)) (says : Result (List Listed) TextCause)
    → bytes_items sealed bytes ≡ says
    → adds sealed place bytes lines ≡ map_ok (λ items. lines ++ map listed_line items) (map_err (refused place) says)
adds_by sealed place bytes lines says is =
    ap (λ s. map_ok (λ items. lines ++ map listed_line items) (map_err (refused place) s)) is

pub no_text_adds : (sealed : Bool) (place : ℕ) (bytes : List ℕ) (lines : List (List ℕ)) → is_utf8 bytes ≡ false
    → adds sealed place bytes lines ≡ Err (lists.Text place causes.NotUtf8)
no_text_adds sealed place bytes lines other =
    let none : bytes_items sealed bytes ≡ Err causes.NotUtf8 = rw other refl in
    adds_by sealed place bytes lines (Err causes.NotUtf8) none

pub blank_adds : (sealed : Bool) (place : ℕ) (bytes text : List ℕ) (lines : List (List ℕ)) → text ≡ bytes → is_utf8 bytes ≡ true
    → is_blank text ≡ true → adds sealed place bytes lines ≡ Ok lines
blank_adds sealed place bytes text lines same utf8 blank =
    let none : text_items sealed text ≡ Ok [] = rw blank refl in
    adds_by sealed place bytes lines (Ok []) (text_gives sealed bytes text same utf8 ∙ ap (map_err causes.Unread) none)
    ∙ ap Ok (append-nil lines)

read_items : (sealed : Bool) (text : List ℕ) → is_blank text ≡ false → text_items sealed text ≡ map_ok alone (listed_text sealed text)
read_items sealed text other = rw other refl

line_by : (place : ℕ) (lines : List (List ℕ)) (line : List ℕ) (says : Result Listed ReadError)
    → map_ok listed_line says ≡ Ok line
    → map_ok (λ items. lines ++ map listed_line items) (map_err (refused place) (map_err causes.Unread (map_ok alone says)))
    ≡ Ok (lines ++ line ∷ [])
line_by place lines line (Ok listed) is =
    let same : listed_line listed ≡ line = cc is in
    ap (λ l. Ok (lines ++ l ∷ [])) same
line_by place lines line (Err e) is = cc is

refused_by : (place : ℕ) (lines : List (List ℕ)) (e : ReadError) (says : Result Listed ReadError)
    → map_ok listed_line says ≡ Err e
    → map_ok (λ items. lines ++ map listed_line items) (map_err (refused place) (map_err causes.Unread (map_ok alone says)))
    ≡ Err (lists.Text place (causes.Unread e))
refused_by place lines e (Ok listed) is = cc is
refused_by place lines e (Err f) is =
    let same : f ≡ e = cc is in
    ap (λ g. Err (lists.Text place (causes.Unread g))) same

pub line_adds : (sealed : Bool) (place : ℕ) (bytes text : List ℕ) (lines : List (List ℕ)) (line : List ℕ) → text ≡ bytes
    → is_utf8 bytes ≡ true → is_blank text ≡ false → map_ok listed_line (listed_text sealed text) ≡ Ok line
    → adds sealed place bytes lines ≡ Ok (lines ++ line ∷ [])
line_adds sealed place bytes text lines line same utf8 other is =
    adds_by sealed place bytes lines (map_err causes.Unread (map_ok alone (listed_text sealed text)))
    (text_gives sealed bytes text same utf8 ∙ ap (map_err causes.Unread) (read_items sealed text other))
    ∙ line_by place lines line (listed_text sealed text) is

pub refused_adds : (sealed : Bool) (place : ℕ) (bytes text : List ℕ) (lines : List (List ℕ)) (e : ReadError) → text ≡ bytes
    → is_utf8 bytes ≡ true → is_blank text ≡ false → map_ok listed_line (listed_text sealed text) ≡ Err e
    → adds sealed place bytes lines ≡ Err (lists.Text place (causes.Unread e))
refused_adds sealed place bytes text lines e same utf8 other is =
    adds_by sealed place bytes lines (map_err causes.Unread (map_ok alone (listed_text sealed text)))
    (text_gives sealed bytes text same utf8 ∙ ap (map_err causes.Unread) (read_items sealed text other))
    ∙ refused_by place lines e (listed_text sealed text) is

-- how a refusal is handed on
pub refusal_adds : (sealed : Bool) (place : ℕ) (bytes text : List ℕ) (lines : List (List ℕ)) (e : ReadError) (f : ListError)
    → text ≡ bytes → is_utf8 bytes ≡ true → is_blank text ≡ false
    → (e ≡ reads.NoMemory) ⊎ (map_ok listed_line (listed_text sealed text) ≡ Err e)
    → ((f ≡ lists.NoMemory) × (e ≡ reads.NoMemory)) ⊎ (((e ≡ reads.NoMemory) → ⊥) × (f ≡ lists.Text place (causes.Unread e)))
    → (f ≡ lists.NoMemory) ⊎ (adds sealed place bytes lines ≡ Err f)
refusal_adds sealed place bytes text lines e f same utf8 other why (inl want) = inl want.0
refusal_adds sealed place bytes text lines e f same utf8 other (inl want) (inr is) = absurd (is.0 want)
refusal_adds sealed place bytes text lines e f same utf8 other (inr refused) (inr is) =
    inr (refused_adds sealed place bytes text lines e same utf8 other refused ∙ ap Err (sym is.1))

-- ---- after the texts so far

joined : (items : List Listed) (more : Result (List Listed) ListError)
    → map_ok (map listed_line) (map_ok (λ m. items ++ m) more)
    ≡ map_ok (λ l. map listed_line items ++ l) (map_ok (map listed_line) more)
joined items (Ok m) = ap Ok (map-append listed_line items m)
joined items (Err e) = refl

front_then : (front rest : List (List ℕ)) (tail : Result (List (List ℕ)) ListError)
    → map_ok (λ l. front ++ l) (map_ok (λ l. rest ++ l) tail) ≡ map_ok (λ l. (front ++ rest) ++ l) tail
front_then front rest (Ok l) = ap Ok (sym (append_assoc front rest l))
front_then front rest (Err e) = refl

step_lines : (first rest more : Result (List Listed) ListError) (tail : Result (List (List ℕ)) ListError) (lines : List (List ℕ))
    → ((front : List (List ℕ)) → map_ok (map listed_line) rest ≡ Ok front
    → map_ok (map listed_line) more ≡ map_ok (λ l. front ++ l) tail)
    → map_ok (map listed_line) (and_then first (λ items. map_ok (λ m. items ++ m) rest)) ≡ Ok lines
    → map_ok (map listed_line) (and_then first (λ items. map_ok (λ m. items ++ m) more)) ≡ map_ok (λ l. lines ++ l) tail
step_lines (Ok items) (Ok r) more tail lines each is =
    let whole : map listed_line (items ++ r) ≡ lines = cc is in
    joined items more ∙ ap (map_ok (λ l. map listed_line items ++ l)) (each (map listed_line r) refl)
    ∙ front_then (map listed_line items) (map listed_line r) tail
    ∙ ap (λ front. map_ok (λ l. front ++ l) tail) (sym (map-append listed_line items r) ∙ whole)
step_lines (Ok items) (Err e) more tail lines each is = cc is
step_lines (Err e) rest more tail lines each is = cc is

within : (says : Result (List (List ℕ)) ListError) → says ≡ map_ok (λ l. [] ++ l) says
within (Ok l) = refl
within (Err e) = refl

lines_append : (sealed : Bool) (n : ℕ) (xs ys : List (List ℕ)) (lines : List (List ℕ)) → lines_from sealed n xs ≡ Ok lines
    → lines_from sealed n (xs ++ ys) ≡ map_ok (λ l. lines ++ l) (lines_from sealed (n + length xs) ys)
lines_append sealed n [] ys lines is =
    let none : [] ≡ lines = cc is in
    let at : n ≡ n + 0 = omega arith in
    within (lines_from sealed n ys) ∙ ap (λ m. map_ok (λ l. [] ++ l) (lines_from sealed m ys)) at
    ∙ ap (λ front. map_ok (λ l. front ++ l) (lines_from sealed (n + 0) ys)) none
lines_append sealed n (x ∷ xs) ys lines is =
    let at : n + 1 + length xs ≡ n + length (x ∷ xs) = omega arith in
    step_lines (map_err (refused n) (bytes_items sealed x)) (items_from sealed (n + 1) xs) (items_from sealed (n + 1) (xs ++ ys))
    (lines_from sealed (n + 1 + length xs) ys) lines
    (λ front found. lines_append sealed (n + 1) xs ys front found) is
    ∙ ap (λ m. map_ok (λ l. lines ++ l) (lines_from sealed m ys)) at

-- one text alone
one_adds : (lines : List (List ℕ)) (first : Result (List Listed) ListError)
    → map_ok (λ l. lines ++ l) (map_ok (map listed_line) (and_then first (λ items. map_ok (λ m. items ++ m) (Ok []))))
    ≡ map_ok (λ items. lines ++ map listed_line items) first
one_adds lines (Ok items) = ap (λ l. Ok (lines ++ map listed_line l)) (append-nil items)
one_adds lines (Err e) = refl

-- and one that is refused, whatever follows it
stops : (lines : List (List ℕ)) (first rest : Result (List Listed) ListError) (e : ListError)
    → map_ok (λ items. lines ++ map listed_line items) first ≡ Err e
    → map_ok (λ l. lines ++ l) (map_ok (map listed_line) (and_then first (λ items. map_ok (λ m. items ++ m) rest))) ≡ Err e
stops lines (Ok items) rest e is = cc is
stops lines (Err f) rest e is = let same : f ≡ e = cc is in ap Err same

module _ {A : Type 0} (see : A → List ℕ) (sealed : Bool) (texts : List A) (i : ℕ) (text : A) (below : i < length texts)
    (lines : List (List ℕ)) (before : lines_from sealed 0 (take i (map see texts)) ≡ Ok lines) where
  all : List (List ℕ)
  all = map see texts

  inside : i < length all
  unfolding all
  inside = omega (arith, below, length-map texts see)

  here : get_or all i (see (get_or texts i text)) ≡ see (get_or texts i text)
  unfolding all
  here = get_or-map see texts i text (see (get_or texts i text)) below

  number : 0 + length (take i all) ≡ i
  number = omega (arith, length-take i all, inside)

  pub more_lines : (new : List (List ℕ)) → adds sealed i (see (get_or texts i text)) lines ≡ Ok new
      → lines_from sealed 0 (take (i + 1) (map see texts)) ≡ Ok new
  unfolding all
  more_lines new is =
      let found : List ℕ = see (get_or texts i text) in
      let cut : take (i + 1) all ≡ take i all ++ found ∷ [] =
      take_more all i found inside ∙ ap (λ t. take i all ++ t ∷ []) here in
      ap (lines_from sealed 0) cut ∙ lines_append sealed 0 (take i all) (found ∷ []) lines before
      ∙ ap (λ m. map_ok (λ l. lines ++ l) (lines_from sealed m (found ∷ []))) number
      ∙ one_adds lines (map_err (refused i) (bytes_items sealed found)) ∙ is

  pub text_refused : (e : ListError) → adds sealed i (see (get_or texts i text)) lines ≡ Err e
      → lines_from sealed 0 (map see texts) ≡ Err e
  unfolding all
  text_refused e is =
      let found : List ℕ = see (get_or texts i text) in
      let rest : List (List ℕ) = drop (i + 1) all in
      let at : drop i all ≡ found ∷ rest =
      rw (add-one, drop-cons all i found inside) (ap (λ t. t ∷ drop (suc i) all) here) in
      let whole : all ≡ take i all ++ found ∷ rest = sym (take-append-drop i all) ∙ ap (λ l. take i all ++ l) at in
      ap (lines_from sealed 0) whole ∙ lines_append sealed 0 (take i all) (found ∷ rest) lines before
      ∙ ap (λ m. map_ok (λ l. lines ++ l) (lines_from sealed m (found ∷ rest))) number
      ∙ stops lines (map_err (refused i) (bytes_items sealed found)) (items_from sealed (i + 1) rest) e is

  pub text_refuses : (e : ListError) → (e ≡ lists.NoMemory) ⊎ (adds sealed i (see (get_or texts i text)) lines ≡ Err e)
      → (e ≡ lists.NoMemory) ⊎ (lines_from sealed 0 (map see texts) ≡ Err e)
  text_refuses e (inl want) = inl want
  text_refuses e (inr refused) = inr (text_refused e refused)

-- ---- the whole list

lines_give : (says : Result (List Listed) ListError) (lines : List (List ℕ)) → map_ok (map listed_line) says ≡ Ok lines
    → map_ok (ordered_text listed_line) says ≡ Ok (concat (ordered line_cmp lines))
lines_give (Ok items) lines is =
    let same : map listed_line items ≡ lines = cc is in
    ap (λ l. Ok (concat (ordered line_cmp l))) same
lines_give (Err e) lines is = cc is

lines_refuse : (says : Result (List Listed) ListError) (e : ListError) → map_ok (map listed_line) says ≡ Err e
    → map_ok (ordered_text listed_line) says ≡ Err e
lines_refuse (Ok items) e is = cc is
lines_refuse (Err f) e is = let same : f ≡ e = cc is in ap Err same

-- the lines in order, joined, are the inventory
pub texts_listed : {X : Type 0} → (see : X → List ℕ) (sealed : Bool) (texts : List (List ℕ)) (lines sorted : List X)
    (written : List ℕ) → lines_from sealed 0 texts ≡ Ok (map see lines) → map see sorted ≡ ordered line_cmp (map see lines)
    → written ≡ flat_map see sorted → texts_inventory sealed texts ≡ Ok written
texts_listed see sealed texts lines sorted written are order is =
    lines_give (items_from sealed 0 texts) (map see lines) are ∙ ap (λ l. Ok (concat l)) (sym order)
    ∙ ap Ok (sym (is ∙ joined_is see sorted))

pub texts_refused : (sealed : Bool) (texts : List (List ℕ)) (e : ListError)
    → (e ≡ lists.NoMemory) ⊎ (lines_from sealed 0 texts ≡ Err e) → (e ≡ lists.NoMemory) ⊎ (texts_inventory sealed texts ≡ Err e)
texts_refused sealed texts e (inl want) = inl want
texts_refused sealed texts e (inr refused) = inr (lines_refuse (items_from sealed 0 texts) e refused)
