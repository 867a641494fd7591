-- What the steps of a decoder keep.
use Rattle.std.proofs.Common.{◌≡◌, ◌≢◌, ◌<◌, ◌≤◌, ◌-◌, ◌%◌, ◌^◌, ◌==◌, ◌⊎◌, ℕ, true, false, List, [], ◌++◌}
use Rattle.std.proofs.Common.{length, take, drop}
use Rattle.std.proofs.Common.{refl, sym, ap, ◌∙◌, subst, arith, inl, inr, Some, None}
use Rattle.std.specs.Prelude.{Ok, Err}
use Rattle.std.proofs.lemmas.Bool.{eq-eqb, ne_eqb, eqb-true}
use Rattle.std.proofs.lemmas.Bool.Decides.{nat_tests}
use Rattle.std.proofs.lemmas.List.{length-append, length-take-le, length-drop, append-nil, append_assoc}
use Rattle.std.proofs.lemmas.List.{take-append-drop, nil_from_length}
use Rattle.std.proofs.lemmas.Str.{IsUtf8-append, IsUtf8-from_ascii, IsUtf8-drop, IsCharBoundary-from_take}
use Rattle.std.proofs.lemmas.List.{take_at, drop_at}
use Rattle.std.specs.Str.{IsUtf8}
use Rattle.picky_wire_base.specs.Numbers.{IsBytes}
use Rattle.picky_wire_base.specs.Outcome.{map_ok}
use Rattle.picky_text.specs.Base64.{base64_of, decoded}
use Rattle.picky_text.proofs.Base64Laws.{base64_is_ascii}
use Rattle.picky_kv.proofs.LineLemmas.{taken_is_whole}
use Rattle.picky_text.proofs.Base64Laws.{base64_is_read_back, base64_is_of_what_it_gives, decoded_is_bytes}
use Rattle.picky_kv.specs.declared.block_error.BlockError.{BlockError}
use Rattle.picky_kv.specs.declared.block_error.BlockError.TheVariants.{BadBase64, NoMemory}
use Rattle.picky_kv.specs.BlockRefusal.{taken, finished}
use Rattle.picky_kv.specs.inner.Tail.{IsExtended, rest_judged}
use Rattle.picky_text.proofs.Base64Laws.{base64_append, length_base64}
use Rattle.picky_kv.proofs.GroupLemmas.{bytes_front, bytes_append}
use Rattle.picky_kv.proofs.FrontLemmas.{taken_behind, bad_groups, rest_is_kept, kept_is}

-- ---- behind whole groups of three

-- a text is cut into its groups of four and fewer than four characters
pub record IsCut (text groups rest : List ℕ) : Type 0 where
  pub whole : length groups % 4 ≡ 0
  pub few : length rest < 4
  pub joined : groups ++ rest ≡ text
  pub small : IsBytes groups

pub cut : (text groups rest : List ℕ) → IsBytes text → groups ≡ take (length text - length text % 4) text
    → rest ≡ drop (length text - length text % 4) text → IsCut text groups rest
cut text groups rest small groups_is rest_is =
    let k : ℕ = length text - length text % 4 in
    let front : length groups ≡ k = ap length groups_is ∙ length-take-le k text (omega arith) in
    let back : length rest ≡ length text - k = ap length rest_is ∙ length-drop k text in
    record {
      whole = omega (arith, front);
      few = omega (arith, back);
      joined = ap (λ l. l ++ rest) groups_is ∙ ap (λ l. take k text ++ l) rest_is ∙ take-append-drop k text;
      small = subst IsBytes (sym groups_is) (bytes_front k text small);
    }

-- the groups decode to more bytes, which go behind the old ones
pub record IsAppended (old text groups rest new : List ℕ) : Type 0 where
  pub pieces : IsCut text groups rest
  pub small : IsBytes old
  pub full : length old % 3 ≡ 0
  pub more : List ℕ
  pub reads : decoded groups ≡ Some more
  pub new_is : new ≡ old ++ more

-- then they are bytes
new_bytes : (old text groups rest new : List ℕ) → IsAppended old text groups rest new → IsBytes new
new_bytes old text groups rest new is =
    let small_more = decoded_is_bytes groups is.more is.pieces.small is.reads in
    subst IsBytes (sym is.new_is) (bytes_append old is.more is.small small_more)

-- and the text is judged by the rest
extended_is_judged : (old text groups rest new : List ℕ) → IsAppended old text groups rest new
    → taken (base64_of old ++ text) ≡ map_ok (λ r. base64_of new ++ r) (rest_judged (length new) rest)
extended_is_judged old text groups rest new is =
    let p = is.pieces in
    let groups_is = base64_is_of_what_it_gives groups is.more p.small is.reads in
    let front : base64_of old ++ groups ≡ base64_of new =
    ap (λ l. base64_of old ++ l) groups_is ∙ sym (base64_append old is.more is.full)
    ∙ ap base64_of (sym is.new_is) in
    let text_is : base64_of old ++ text ≡ base64_of new ++ rest =
    ap (λ l. base64_of old ++ l) (sym p.joined) ∙ sym (append_assoc (base64_of old) groups rest)
    ∙ ap (λ l. l ++ rest) front in
    ap taken text_is ∙ taken_behind new rest (new_bytes old text groups rest new is) p.few

-- a rest that is kept
pub extended_is : (old text groups rest new tail : List ℕ) (n : ℕ)
    → IsAppended old text groups rest new → n ≡ length new → rest_judged n rest ≡ Ok tail
    → IsExtended old text new tail
extended_is old text groups rest new tail n is len kept =
    let kept_new : rest_judged (length new) rest ≡ Ok tail = ap (λ k. rest_judged k rest) (sym len) ∙ kept in
    let known = kept_is (length new) rest tail kept_new in
    record {
      state = record {
        small = new_bytes old text groups rest new is;
        short = known.short;
        ended = λ padded. known.same ∙ known.ended padded;
      };
      taken_is = extended_is_judged old text groups rest new is
          ∙ ap (map_ok (λ r. base64_of new ++ r)) kept_new;
    }

-- a rest that is refused
pub extended_is_refused : (old text groups rest new : List ℕ) (n : ℕ) (e : BlockError)
    → IsAppended old text groups rest new → n ≡ length new
    → (e ≡ NoMemory) ⊎ (rest_judged n rest ≡ Err e)
    → (e ≡ NoMemory) ⊎ (taken (base64_of old ++ text) ≡ Err e)
extended_is_refused old text groups rest new n e is len (inl want) = inl want
extended_is_refused old text groups rest new n e is len (inr refused) =
    inr (extended_is_judged old text groups rest new is
    ∙ ap (λ k. map_ok (λ r. base64_of new ++ r) (rest_judged k rest)) (sym len)
    ∙ ap (map_ok (λ r. base64_of new ++ r)) refused)

-- groups that decode to nothing
pub groups_are_refused : (old text groups rest : List ℕ) (e : BlockError) → IsBytes old
    → length old % 3 ≡ 0 → IsCut text groups rest
    → (e ≡ NoMemory) ⊎ ((e ≡ BadBase64) × (decoded groups ≡ None))
    → (e ≡ NoMemory) ⊎ (taken (base64_of old ++ text) ≡ Err e)
groups_are_refused old text groups rest e small full p (inl want) = inl want
groups_are_refused old text groups rest e small full p (inr bad) =
    let refused = bad_groups old groups rest small p.small p.whole p.few full bad.1 in
    inr (ap (λ l. taken (base64_of old ++ l)) (sym p.joined) ∙ refused ∙ ap Err (sym bad.0))

-- ---- after padding

-- an empty text is taken
pub nothing_is_taken : (old text : List ℕ) → IsBytes old → length old < 2 ^ 32 → length text ≡ 0
    → IsExtended old text old []
nothing_is_taken old text small short none =
    let kept = rest_is_kept (length old) [] (inr refl) short in
    record {
      state = record { small = small; short = short; ended = λ _. refl };
      taken_is = ap (λ l. taken (base64_of old ++ l)) (nil_from_length text none)
          ∙ taken_behind old [] small (omega arith) ∙ ap (map_ok (λ r. base64_of old ++ r)) kept;
    }

-- ---- at the end

-- how many characters are pending
pub pending_is : (bytes tail : List ℕ) → length tail < 4
    → length tail ≡ length (base64_of bytes ++ tail) % 4
pending_is bytes tail few =
    let both = length-append (base64_of bytes) tail in
    let groups = length_base64 bytes in
    omega (arith, both, groups, few)

-- none
pub finished_whole : (bytes tail : List ℕ) → IsBytes bytes → length tail ≡ 0
    → finished (base64_of bytes ++ tail) ≡ Ok bytes
unfolding finished
finished_whole bytes tail small none =
    let same = ap (λ l. base64_of bytes ++ l) (nil_from_length tail none) ∙ append-nil (base64_of bytes) in
    let groups = length_base64 bytes in
    let whole : length (base64_of bytes) % 4 ≡ 0 = omega (arith, groups) in
    let reads = base64_is_read_back bytes small in
    ap finished same ∙ rw (eq-eqb _ 0 whole, reads) refl

-- some
pub finished_early : (bytes tail : List ℕ) → length tail < 4 → 0 < length tail
    → finished (base64_of bytes ++ tail) ≡ Err BadBase64
unfolding finished
finished_early bytes tail few some =
    let is = pending_is bytes tail few in
    let left : length (base64_of bytes ++ tail) % 4 ≢ 0 = λ none. omega (arith, is, none, some) in
    rw (ne_eqb _ 0 left) refl

-- ---- of what is seen

-- how many characters are pending
pub pending_of : (bytes tail seen text : List ℕ) → seen ≡ tail → length seen < 4
    → base64_of bytes ++ tail ≡ text → length seen ≡ length text % 4
pending_of bytes tail seen text seen_is few is =
    let same = ap length seen_is in
    same ∙ pending_is bytes tail (omega (arith, same, few)) ∙ ap (λ l. length l % 4) is

-- the bytes of a text with none
pub finished_ok : (bytes tail seen text : List ℕ) → IsBytes bytes → seen ≡ tail
    → true ≡ (length seen == 0) → base64_of bytes ++ tail ≡ text → finished text ≡ Ok bytes
finished_ok bytes tail seen text small seen_is test is =
    let none : length tail ≡ 0 = ap length (sym seen_is) ∙ eqb-true _ 0 (sym test) in
    ap finished (sym is) ∙ finished_whole bytes tail small none

-- the refusal of a text with some
pub finished_err : (bytes tail seen text : List ℕ) → seen ≡ tail → length seen < 4
    → false ≡ (length seen == 0) → base64_of bytes ++ tail ≡ text → finished text ≡ Err BadBase64
finished_err bytes tail seen text seen_is few test is =
    let same = ap length seen_is in
    let some : 0 < length seen = grind (arith, nat_tests, test) in
    ap finished (sym is) ∙ finished_early bytes tail (omega (arith, same, few)) (omega (arith, same, some))

-- such a text isn't whole
pub pending_some : (bytes tail seen text : List ℕ) → seen ≡ tail → length seen < 4
    → false ≡ (length seen == 0) → base64_of bytes ++ tail ≡ text → length text % 4 ≢ 0
pending_some bytes tail seen text seen_is few test is whole =
    let some : 0 < length seen = grind (arith, nat_tests, test) in
    let left = pending_of bytes tail seen text seen_is few is in
    omega (arith, left, whole, some)

-- a text with none is the base64 of the bytes
pub joined_whole : (bytes tail seen text given : List ℕ) → seen ≡ tail
    → true ≡ (length seen == 0) → base64_of bytes ++ tail ≡ text → given ≡ bytes
    → text ≡ base64_of given
joined_whole bytes tail seen text given seen_is test is given_is =
    let none : length tail ≡ 0 = ap length (sym seen_is) ∙ eqb-true _ 0 (sym test) in
    sym is ∙ ap (λ l. base64_of bytes ++ l) (nil_from_length tail none)
    ∙ append-nil (base64_of bytes) ∙ ap base64_of (sym given_is)

-- what is kept behind the groups of four is a text
pub tail_is_text : (old tail line new rest : List ℕ) → IsUtf8 tail → IsUtf8 line
    → taken (base64_of old ++ (tail ++ line)) ≡ Ok (base64_of new ++ rest) → IsUtf8 rest
tail_is_text old tail line new rest utf8_tail utf8_line is =
    let whole = taken_is_whole _ (base64_of new ++ rest) is in
    let all = IsUtf8-append (base64_of old) (tail ++ line)
    (IsUtf8-from_ascii (base64_of old) (base64_is_ascii old)) (IsUtf8-append tail line utf8_tail utf8_line) in
    let new_utf8 : IsUtf8 (base64_of new ++ rest) = subst IsUtf8 (sym whole) all in
    let n : ℕ = length (base64_of new) in
    let front : take n (base64_of new ++ rest) ≡ base64_of new = take_at (base64_of new) rest n refl in
    let front_utf8 : IsUtf8 (take n (base64_of new ++ rest)) =
    subst IsUtf8 (sym front) (IsUtf8-from_ascii (base64_of new) (base64_is_ascii new)) in
    let fits : n ≤ length (base64_of new ++ rest) = omega (arith, length-append (base64_of new) rest) in
    let seam = IsCharBoundary-from_take (base64_of new ++ rest) n new_utf8 fits front_utf8 in
    subst IsUtf8 (drop_at (base64_of new) rest n refl)
    (IsUtf8-drop (base64_of new ++ rest) n new_utf8 seam)
