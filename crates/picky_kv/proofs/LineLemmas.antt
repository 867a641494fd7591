-- Which texts are taken, and which lines give bytes.
use Rattle.std.proofs.Common.{◌≡◌, ◌≢◌, ◌<◌, ◌≤◌, ◌-◌, ◌*◌, ◌/◌, ◌%◌, ◌^◌, ◌==◌, ◌⊎◌, ℕ, true, false, List}
use Rattle.std.proofs.Common.{[], ◌∷◌, ◌++◌, length, take, drop}
use Rattle.std.proofs.Common.{slice_index, refl, sym, ap, ◌∙◌, subst, arith, inl, inr, Option, Some, None}
use Rattle.std.proofs.Common.{◌↔◌}
use Rattle.std.specs.Prelude.{nat_lt, Result, Ok, Err}
use Rattle.std.specs.List.{AllByRecursion, concat}
use Rattle.std.specs.Option.{ok_or}
use Rattle.std.proofs.lemmas.Bool.{cases_Bool, cases_lt, cases_eq, and_parts, eqb-true, eq-eqb, ne_eqb}
use Rattle.std.proofs.lemmas.Bool.Decides.{nat_tests}
use Rattle.std.proofs.lemmas.List.{length-append, length-take-le, length-drop, append-nil, append_assoc}
use Rattle.std.proofs.lemmas.List.{take-append-drop, take-append-le, take_all, nil_from_length}
use Rattle.picky_wire_base.specs.Numbers.{IsBytes}
use Rattle.picky_wire_base.specs.Outcome.{and_then, map_ok}
use Rattle.picky_text.specs.Base64.{base64_of, decoded}
use Rattle.picky_text.proofs.Base64Laws.{base64_is_read_back, base64_is_of_what_it_gives, decoded_is_bytes}
use Rattle.picky_kv.specs.declared.block_error.BlockError.TheVariants.{BadBase64, TooLong}
use Rattle.picky_kv.specs.Block.{groups_of, GoesOnAfterPadding, IsNoFront, IsFrontFor, IsLongFront}
use Rattle.picky_kv.specs.Block.{IsBlock}
use Rattle.picky_kv.specs.BlockRefusal.{goes_on_after_padding, judged_base64, taken, finished, lines_taken}
use Rattle.picky_kv.specs.BlockRefusal.{block_of}
use Rattle.picky_text.proofs.Base64Laws.{length_base64, base64_nil}
use Rattle.picky_kv.proofs.GroupLemmas.{bytes_front, bytes_append}
use Rattle.picky_kv.proofs.GroupLemmas.{groups_are_cut}
use Rattle.picky_text.proofs.FrontLaws.{option_cases}
use Rattle.picky_kv.proofs.FrontLemmas.{taken_behind, rest_is_kept, groups_bytes}

-- ---- what a text is judged by

-- the test is of the fact
goes_on_is_tested : (text : List ℕ) → GoesOnAfterPadding text → goes_on_after_padding text ≡ true
unfolding goes_on_after_padding
goes_on_is_tested text goes =
    let more : nat_lt (length (groups_of text)) (length text) ≡ true = grind (arith, nat_tests, goes.1) in
    rw (eq-eqb _ 61 goes.0, more) refl

goes_on_where_tested : (text : List ℕ) → goes_on_after_padding text ≡ true → GoesOnAfterPadding text
unfolding goes_on_after_padding
goes_on_where_tested text test =
    let g : List ℕ = groups_of text in
    let both = and_parts (slice_index g (length g - 1) == 61) (nat_lt (length g) (length text)) test in
    (eqb-true _ 61 both.0, grind (arith, nat_tests, both.1))

-- a text is one of these
pub data Judged (text : List ℕ) : Type 0 where
  no_bytes : ((x : List ℕ) → IsBytes x → groups_of text ≢ base64_of x) → taken text ≡ Err BadBase64 → Judged text
  goes_on : GoesOnAfterPadding text → taken text ≡ Err BadBase64 → Judged text
  is_long : (x : List ℕ) → IsFrontFor text x → 2 ^ 32 ≤ length x → taken text ≡ Err TooLong → Judged text
  is_short : (x : List ℕ) → IsFrontFor text x → length x < 2 ^ 32 → taken text ≡ Ok text → Judged text

judged_none : (text : List ℕ) → decoded (groups_of text) ≡ None → Judged text
unfolding taken
judged_none text none =
    no_bytes (λ x small is. cc (sym none ∙ ap decoded is ∙ base64_is_read_back x small))
    (ap (judged_base64 text) none)

judged_some : (text x : List ℕ) → IsBytes text → decoded (groups_of text) ≡ Some x → Judged text
unfolding taken
judged_some text x small some =
    let small_g = groups_bytes text small in
    let g_is = base64_is_of_what_it_gives _ x small_g some in
    let small_x = decoded_is_bytes _ x small_g some in
    let first = ap (judged_base64 text) some in
    elim (cases_Bool (goes_on_after_padding text)) [
      | inl goes ↦ goes_on (goes_on_where_tested text goes) (first ∙ rw goes refl)
      | inr stops ↦
          let front : IsFrontFor text x = record {
            small = small_x;
            groups = g_is;
            ended = λ goes. cc (sym stops ∙ goes_on_is_tested text goes);
          } in
          elim (cases_lt (length x) (2 ^ 32)) [
            | inl below ↦
                let test : nat_lt (length x) (2 ^ 32) ≡ true = grind (arith, nat_tests, below) in
                is_short x front below (first ∙ rw (stops, test) refl)
            | inr over ↦
                let test : nat_lt (length x) (2 ^ 32) ≡ false = grind (arith, nat_tests, over) in
                is_long x front over (first ∙ rw (stops, test) refl)
          ]
    ]

pub judge : (text : List ℕ) → IsBytes text → Judged text
judge text small = elim (option_cases (decoded (groups_of text))) [
  | inl some ↦ judged_some text some.0 small some.1
  | inr none ↦ judged_none text none
]

-- one list of bytes has a front
front_is_of_one : (text x y : List ℕ) → IsFrontFor text x → IsFrontFor text y → x ≡ y
front_is_of_one text x y fx fy =
    let read_x = ap decoded fx.groups ∙ base64_is_read_back x fx.small in
    let read_y = ap decoded fy.groups ∙ base64_is_read_back y fy.small in
    cc (sym read_x ∙ read_y)

no_front_is_front : (text x : List ℕ) → IsFrontFor text x → IsNoFront text → ⊥
no_front_is_front text x front (inl none) = none x front.small front.groups
no_front_is_front text x front (inr goes) = front.ended goes

bad_by : (text : List ℕ) → Judged text → taken text ≡ Err BadBase64 ↔ IsNoFront text
bad_by text (no_bytes none is) = (λ _. inl none, λ _. is)
bad_by text (goes_on goes is) = (λ _. inr goes, λ _. is)
bad_by text (is_long x front over is) =
    (λ bad. cc (sym is ∙ bad), λ bad. absurd (no_front_is_front text x front bad))
bad_by text (is_short x front below is) =
    (λ bad. cc (sym is ∙ bad), λ bad. absurd (no_front_is_front text x front bad))

pub bad_iff : (text : List ℕ) → IsBytes text → taken text ≡ Err BadBase64 ↔ IsNoFront text
bad_iff text small = bad_by text (judge text small)

long_by : (text : List ℕ) → Judged text → taken text ≡ Err TooLong ↔ IsLongFront text
long_by text (no_bytes none is) =
    (λ over. cc (sym is ∙ over), λ front. absurd (none front.bytes front.front.small front.front.groups))
long_by text (goes_on goes is) =
    (λ over. cc (sym is ∙ over), λ front. absurd (front.front.ended goes))
long_by text (is_long x front over is) =
    (λ _. record { bytes = x; front = front; long = over }, λ _. is)
long_by text (is_short x front below is) = (
  λ over. cc (sym is ∙ over),
  λ other. absurd (omega (
    arith,
    below,
    other.long,
    ap length (front_is_of_one text x other.bytes front other.front),
  )),
)

pub long_iff : (text : List ℕ) → IsBytes text → taken text ≡ Err TooLong ↔ IsLongFront text
long_iff text small = long_by text (judge text small)

whole_by : (text new : List ℕ) (reads : Option (List ℕ))
    → judged_base64 text reads ≡ Ok new → new ≡ text
whole_by text new None is = cc is
whole_by text new (Some x) is = elim (cases_Bool (goes_on_after_padding text)) [
  | inl goes ↦ cc (rw goes at is)
  | inr stops ↦ elim (cases_Bool (nat_lt (length x) (2 ^ 32))) [
    | inl below ↦ cc (rw (stops, below) at is)
    | inr over ↦ cc (rw (stops, over) at is)
  ]
]

pub taken_is_whole : (text new : List ℕ) → taken text ≡ Ok new → new ≡ text
unfolding taken
taken_is_whole text new is = whole_by text new (decoded (groups_of text)) is

-- ---- fronts of base64

-- each front of the base64 of fewer than 2^32 bytes is taken
pub front_is_taken : (t u x : List ℕ) → IsBytes x → length x < 2 ^ 32 → t ++ u ≡ base64_of x
    → taken t ≡ Ok t
front_is_taken t u x small short is =
    let q : ℕ = length t / 4 in
    let g : List ℕ = take (4 * q) t in
    let rest : List ℕ = drop (4 * q) t in
    let fits : 4 * q ≤ length t = omega arith in
    let few : length rest < 4 = omega (arith, length-drop (4 * q) t) in
    let parts : g ++ rest ≡ t = take-append-drop (4 * q) t in
    elim (cases_lt (length x) (3 * q)) [
      | inl less ↦
          let long = length_base64 x in
          let both = length-append t u in
          let same = ap length is in
          let none : length u ≡ 0 = omega (arith, long, both, same, less, fits) in
          let t_is : t ≡ base64_of x = sym (append-nil t)
          ∙ ap (λ l. t ++ l) (sym (nil_from_length u none)) ∙ is in
          let kept = rest_is_kept (length x) [] (inr refl) short in
          let done = taken_behind x [] small (omega arith)
          ∙ ap (map_ok (λ r. base64_of x ++ r)) kept in
          let whole : t ≡ base64_of x ++ [] = t_is ∙ sym (append-nil (base64_of x)) in
          ap taken whole ∙ done ∙ ap Ok (sym whole)
      | inr more ↦
          let z : List ℕ = take (3 * q) x in
          let z_len : length z ≡ 3 * q = length-take-le (3 * q) x more in
          let g_is : g ≡ base64_of z = sym (take-append-le (4 * q) t u fits)
          ∙ ap (take (4 * q)) is ∙ (groups_are_cut q x more).0 in
          let full : length z % 3 ≡ 0 = omega (arith, z_len) in
          let kept = rest_is_kept (length z) rest (inl full) (omega (arith, z_len, more, short)) in
          let done = taken_behind z rest (bytes_front (3 * q) x small) few
          ∙ ap (map_ok (λ r. base64_of z ++ r)) kept in
          let whole : t ≡ base64_of z ++ rest = sym parts ∙ ap (λ l. l ++ rest) g_is in
          ap taken whole ∙ done ∙ ap Ok (sym whole)
    ]

-- ---- lines

-- lines of such a text are all taken
lines_are_taken : (text : List ℕ) (lines : List (List ℕ)) (x : List ℕ) → IsBytes x
    → length x < 2 ^ 32 → text ++ concat lines ≡ base64_of x
    → lines_taken text lines ≡ Ok (base64_of x)
lines_are_taken text [] x small short is = ap Ok (sym (append-nil text) ∙ is)
lines_are_taken text (line ∷ lines) x small short is =
    let more : (text ++ line) ++ concat lines ≡ base64_of x = append_assoc text line (concat lines) ∙ is in
    let first = front_is_taken (text ++ line) (concat lines) x small short more in
    ap (λ r. and_then r (λ new. lines_taken new lines)) first
    ∙ lines_are_taken (text ++ line) lines x small short more

-- a whole base64 text has its bytes
finished_base64 : (x : List ℕ) → IsBytes x → finished (base64_of x) ≡ Ok x
unfolding finished
finished_base64 x small =
    let groups = length_base64 x in
    let whole : length (base64_of x) % 4 ≡ 0 = omega (arith, groups) in
    rw (eq-eqb _ 0 whole, base64_is_read_back x small) refl

pub block_means : (lines : List (List ℕ)) (bytes : List ℕ) → IsBlock lines bytes
    → block_of lines ≡ Ok bytes
block_means lines bytes is =
    let joined : [] ++ concat lines ≡ base64_of bytes = is.joined in
    ap (λ r. and_then r finished) (lines_are_taken [] lines bytes is.small is.short joined)
    ∙ finished_base64 bytes is.small

-- ---- what lines that are taken are

result_cases : {A E : Type 0} (r : Result A E) → ((v : A) × (r ≡ Ok v)) ⊎ ((e : E) × (r ≡ Err e))
result_cases (Ok v) = inl (v, refl)
result_cases (Err e) = inr (e, refl)

-- they are the text, and that is taken
pub record AreTaken (text : List ℕ) (lines : List (List ℕ)) (new : List ℕ) : Type 0 where
  pub joined : new ≡ text ++ concat lines
  pub taken_is : taken new ≡ Ok new

taken_lines : (text : List ℕ) (lines : List (List ℕ)) (new : List ℕ) → taken text ≡ Ok text
    → lines_taken text lines ≡ Ok new → AreTaken text lines new
taken_lines text [] new holds is =
    let same : text ≡ new = cc is in
    record {
      joined = sym same ∙ sym (append-nil text);
      taken_is = ap taken (sym same) ∙ holds ∙ ap Ok same;
    }
taken_lines text (line ∷ lines) new holds is = elim (result_cases (taken (text ++ line))) [
  | inl ok ↦
      let one : ok.0 ≡ text ++ line = taken_is_whole (text ++ line) ok.0 ok.1 in
      let first : taken (text ++ line) ≡ Ok (text ++ line) = ok.1 ∙ ap Ok one in
      let rest : lines_taken (text ++ line) lines ≡ Ok new =
      sym (ap (λ r. and_then r (λ next. lines_taken next lines)) first) ∙ is in
      let found = taken_lines (text ++ line) lines new first rest in
      record {
        joined = found.joined ∙ append_assoc text line (concat lines);
        taken_is = found.taken_is;
      }
  | inr err ↦ cc (sym (ap (λ r. and_then r (λ next. lines_taken next lines)) err.1) ∙ is)
]

concat_bytes : (lines : List (List ℕ)) → AllByRecursion IsBytes lines → IsBytes (concat lines)
concat_bytes [] all i = omega arith
concat_bytes (line ∷ lines) all i =
    bytes_append line (concat lines) all.0 (concat_bytes lines all.1) i

-- a text that ends is whole, and is some bytes' base64
pub record IsFinished (text x : List ℕ) : Type 0 where
  pub whole : length text % 4 ≡ 0
  pub reads : decoded text ≡ Some x

read_by : (reads : Option (List ℕ)) (x : List ℕ) → ok_or reads BadBase64 ≡ Ok x → reads ≡ Some x
read_by (Some y) x is = ap Some (cc is)
read_by None x is = cc is

finished_is : (text x : List ℕ) → finished text ≡ Ok x → IsFinished text x
unfolding finished
finished_is text x is = elim (cases_eq (length text % 4) 0) [
  | inl whole ↦ record { whole = whole; reads = read_by (decoded text) x (rw (eq-eqb _ 0 whole) at is) }
  | inr other ↦ cc (rw (ne_eqb _ 0 other) at is)
]

-- a whole text is its groups of four
groups_are_all : (text : List ℕ) → length text % 4 ≡ 0 → groups_of text ≡ text
unfolding groups_of
groups_are_all text whole =
    let all : length text ≤ length text - length text % 4 = omega (arith, whole) in
    take_all (length text - length text % 4) text all

-- so bytes of a text that was taken and ends are few
short_by : (text x : List ℕ) → Judged text → IsBytes x → groups_of text ≡ base64_of x
    → taken text ≡ Ok text → length x < 2 ^ 32
short_by text x (no_bytes none is) small groups ok = cc (sym is ∙ ok)
short_by text x (goes_on goes is) small groups ok = cc (sym is ∙ ok)
short_by text x (is_long y front over is) small groups ok = cc (sym is ∙ ok)
short_by text x (is_short y front below is) small groups ok =
    let other : IsFrontFor text x = record { small = small; groups = groups; ended = front.ended } in
    omega (arith, below, ap length (front_is_of_one text x y other front))

pub block_says : (lines : List (List ℕ)) (bytes : List ℕ) → AllByRecursion IsBytes lines
    → block_of lines ≡ Ok bytes → IsBlock lines bytes
block_says lines bytes all is = elim (result_cases (lines_taken [] lines)) [
  | inl ok ↦
      let text = ok.0 in
      let ends : finished text ≡ Ok bytes = sym (ap (λ r. and_then r finished) ok.1) ∙ is in
      let done = finished_is text bytes ends in
      let empty : taken [] ≡ Ok [] = front_is_taken [] [] [] (bytes_front 0 [] (λ i. omega arith))
      (omega arith) (sym base64_nil) in
      let found = taken_lines [] lines text empty ok.1 in
      let small : IsBytes text = subst IsBytes (sym found.joined) (concat_bytes lines all) in
      let text_is = base64_is_of_what_it_gives text bytes small done.reads in
      let small_x = decoded_is_bytes text bytes small done.reads in
      record {
        small = small_x;
        short = short_by text bytes (judge text small) small_x
            (groups_are_all text done.whole ∙ text_is) found.taken_is;
        joined = sym found.joined ∙ text_is;
      }
  | inr err ↦ cc (sym (ap (λ r. and_then r finished) err.1) ∙ is)
]
