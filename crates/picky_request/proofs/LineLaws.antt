-- A line says a request exactly where it is its line.
use Rattle.std.proofs.Common.{◌≡◌, ◌≢◌, ◌↔◌, ℕ, ◌<◌, ◌^◌, ◌==◌, Bool, true, false, List, [], ◌∷◌, ◌++◌, length, Option, Some}
use Rattle.std.proofs.Common.{None, Result, Ok, Err, refl, sym, ◌∙◌, ap, inl, inr, subst, arith, if◌then◌else◌}
use Rattle.std.proofs.{lemmas.Bool.{cases_Bool, eqb-false}, lemmas.Bool.Decides.{nat_tests}}
use Rattle.std.proofs.{lemmas.Fmt.{decimal_by_steps}, lemmas.List.{append_assoc}, lemmas.Slice.Eq.{bytes_eq-Decides}}
use Rattle.std.specs.{Prelude.{nat_lt}, Fmt.{decimal}}
use Rattle.std.specs.{List.{AllByRecursion, after_first, before_first, position_or_len}, Result.{result_ok}}
use Rattle.std.specs.Str.{bytes_eq}
use Rattle.picky_wire_base.specs.Numbers.{IsBytes}
use Rattle.picky_wire_base.proofs.Numbers.{bytes_behind}
use Rattle.picky_text.specs.Lines.{HasNo}
use Rattle.picky_text.proofs.ListLaws.{all_append, cut_at_first}
use Rattle.picky_cert_parts.specs.declared.cert_type.SshCertType.{SshCertType}
use Rattle.picky_cert_parts.specs.declared.cert_type.SshCertType.TheVariants.{Client, Host}
use Rattle.picky_wire.specs.Moment.{timestamp_at}
use Rattle.picky_keys.specs.declared.error.SshPublicKeyError.{SshPublicKeyError}
use Rattle.picky_keys.specs.{declared.key.SshPublicKey.{SshPublicKey}, LineRefusal.{is_short, line_meaning}}
use Rattle.picky_keys.proofs.LineLaws.{line_meaning_of, line_meaning_says}
use Rattle.picky_issuing.specs.{Steps.{some_then}, Value.{cert_type_named, client, host, number_named}}
use Rattle.picky_request.specs.{declared.request.CertRequestLine.{CertRequestLine}, Names.{is_id, principals_in}}
use Rattle.picky_request.specs.Request.{IsRequestLine, Words, cut_at_space, is_space, request_named, request_in, said_by, words_in}
use Rattle.picky_request.proofs.{CutLaws.{first_of, none_passes}, NameLaws.{principals_are, principals_say}}
use Rattle.picky_issuing.proofs.NumberLaws.{decimal_names, named_is_decimal}

-- ---- a cut at a space

-- an element that passes stands before the end
passes_inside : (ends : ℕ → Bool) (front : List ℕ) (b : ℕ) (rest : List ℕ) → AllByRecursion (λ c. ends c ≡ false) front
    → ends b ≡ true → nat_lt (position_or_len ends (front ++ b ∷ rest)) (length (front ++ b ∷ rest)) ≡ true
passes_inside ends [] b rest none passes = rw passes (grind (arith, nat_tests))
passes_inside ends (c ∷ front) b rest none passes =
    let more = passes_inside ends front b rest none.1 passes in
    rw none.0 (grind (arith, nat_tests, more))

-- none passes before the end
passes_never : (ends : ℕ → Bool) (text : List ℕ) → AllByRecursion (λ c. ends c ≡ false) text
    → nat_lt (position_or_len ends text) (length text) ≡ false
passes_never ends [] none = refl
passes_never ends (b ∷ text) none =
    let more = passes_never ends text none.1 in
    rw none.0 (grind (arith, nat_tests, more))

abbrev if_inside : (text : List ℕ) (b : Bool) → Option (List ℕ × List ℕ)
if_inside text b = if b then Some (before_first is_space text, after_first is_space text) else None

pub cut_is : (text front rest : List ℕ) → text ≡ front ++ 32 ∷ rest → HasNo 32 front → cut_at_space text ≡ Some (front, rest)
cut_is text front rest is none =
    let cut = cut_at_first is_space front 32 rest (none_passes 32 front none) refl in
    let whole : List ℕ = front ++ 32 ∷ rest in
    ap cut_at_space is
    ∙ ap (if_inside whole) (passes_inside is_space front 32 rest (none_passes 32 front none) refl)
    ∙ ap (λ f. Some (f, after_first is_space whole)) cut.before
    ∙ ap (λ r. Some (front, r)) cut.after

uncut_none : (text : List ℕ) → HasNo 32 text → cut_at_space text ≡ None
uncut_none text none = ap (if_inside text) (passes_never is_space text (none_passes 32 text none))

pub some_same : {A : Type 0} (x y : A) → Some x ≡ Some y → x ≡ y
some_same x y same = cc same

pub cut_says : (text : List ℕ) (cut : List ℕ × List ℕ) → cut_at_space text ≡ Some cut
    → (text ≡ cut.0 ++ 32 ∷ cut.1) × HasNo 32 cut.0
cut_says text cut says = elim (first_of 32 text) [
  | inl none ↦
      let never : None ≡ Some cut = sym (uncut_none text none) ∙ says in
      absurd (cc never)
  | inr parted ↦
      let whole : List ℕ × List ℕ = (parted.front, parted.rest) in
      let same : whole ≡ cut =
      some_same whole cut (sym (cut_is text parted.front parted.rest parted.whole parted.none) ∙ says) in
      let P : List ℕ × List ℕ → Type 0 = λ c. (text ≡ c.0 ++ 32 ∷ c.1) × HasNo 32 c.0 in
      subst P same (parted.whole, parted.none)
]

-- ---- the words of a line

-- a step that goes on
pub goes_on : {A B : Type 0} (o : Option A) (next : A → Option B) (y : B) → some_then o next ≡ Some y
    → (x : A) × (o ≡ Some x) × (next x ≡ Some y)
goes_on None next y is = absurd (cc is)
goes_on (Some x) next y is = (x, refl, is)

pub then_is : {A B : Type 0} (o : Option A) (x : A) (next : A → Option B) → o ≡ Some x → some_then o next ≡ next x
then_is o x next is = ap (λ p. some_then p next) is

-- and one that is taken where a test passes
pub chosen : {A : Type 0} (b : Bool) (o : Option A) (y : A) → (if b then o else None) ≡ Some y → (b ≡ true) × (o ≡ Some y)
chosen true o y is = (refl, is)
chosen false o y is = absurd (cc is)

record AreWords (line : List ℕ) (w : Words) : Type 0 where
  whole : line ≡ w.id ++ 32 ∷ (w.kind ++ 32 ∷ (w.principals ++ 32 ∷ (w.after ++ 32 ∷ (w.before ++ 32 ∷ w.key))))
  id : HasNo 32 w.id
  kind : HasNo 32 w.kind
  principals : HasNo 32 w.principals
  after : HasNo 32 w.after
  before : HasNo 32 w.before

words_say : (line : List ℕ) (w : Words) → words_in line ≡ Some w → AreWords line w
unfolding words_in
words_say line w says =
    let id = goes_on (cut_at_space line) _ w says in
    let kind = goes_on (cut_at_space id.0.1) _ w id.2 in
    let principals = goes_on (cut_at_space kind.0.1) _ w kind.2 in
    let after = goes_on (cut_at_space principals.0.1) _ w principals.2 in
    let before = goes_on (cut_at_space after.0.1) _ w after.2 in
    let words : Words = record {
      id = id.0.0;
      kind = kind.0.0;
      principals = principals.0.0;
      after = after.0.0;
      before = before.0.0;
      key = before.0.1;
    } in
    let of_id = cut_says line id.0 id.1 in
    let of_kind = cut_says id.0.1 kind.0 kind.1 in
    let of_principals = cut_says kind.0.1 principals.0 principals.1 in
    let of_after = cut_says principals.0.1 after.0 after.1 in
    let of_before = cut_says after.0.1 before.0 before.1 in
    let are : AreWords line words = record {
      whole =
          of_id.0
          ∙ ap (λ l. id.0.0 ++ 32 ∷ l)
          (of_kind.0
          ∙ ap (λ l. kind.0.0 ++ 32 ∷ l)
          (of_principals.0
          ∙ ap (λ l. principals.0.0 ++ 32 ∷ l) (of_after.0 ∙ ap (λ l. after.0.0 ++ 32 ∷ l) of_before.0)));
      id = of_id.1;
      kind = of_kind.1;
      principals = of_principals.1;
      after = of_after.1;
      before = of_before.1;
    } in
    subst (AreWords line) (some_same words w before.2) are

words_are : (line : List ℕ) (w : Words) → AreWords line w → words_in line ≡ Some w
unfolding words_in
words_are line w are =
    let from_before : List ℕ = w.before ++ 32 ∷ w.key in
    let from_after : List ℕ = w.after ++ 32 ∷ from_before in
    let from_principals : List ℕ = w.principals ++ 32 ∷ from_after in
    let from_kind : List ℕ = w.kind ++ 32 ∷ from_principals in
    then_is (cut_at_space line) (w.id, from_kind) _ (cut_is line w.id from_kind are.whole are.id)
    ∙ then_is (cut_at_space from_kind) (w.kind, from_principals) _ (cut_is from_kind w.kind from_principals refl are.kind)
    ∙ then_is (cut_at_space from_principals) (w.principals, from_after) _
    (cut_is from_principals w.principals from_after refl are.principals)
    ∙ then_is (cut_at_space from_after) (w.after, from_before) _ (cut_is from_after w.after from_before refl are.after)
    ∙ then_is (cut_at_space from_before) (w.before, w.key) _ (cut_is from_before w.before w.key refl are.before)

-- what follows a space is of bytes where all is
bytes_after : (front rest : List ℕ) → IsBytes (front ++ 32 ∷ rest) → IsBytes rest
bytes_after front rest each =
    bytes_behind (front ++ 32 ∷ []) rest (subst IsBytes (sym (append_assoc front (32 ∷ []) rest)) each)

key_bytes : (line : List ℕ) (w : Words) → AreWords line w → IsBytes line → IsBytes w.key
key_bytes line w are each =
    bytes_after w.before w.key
    (bytes_after w.after (w.before ++ 32 ∷ w.key)
    (bytes_after w.principals (w.after ++ 32 ∷ (w.before ++ 32 ∷ w.key))
    (bytes_after w.kind (w.principals ++ 32 ∷ (w.after ++ 32 ∷ (w.before ++ 32 ∷ w.key)))
    (bytes_after w.id (w.kind ++ 32 ∷ (w.principals ++ 32 ∷ (w.after ++ 32 ∷ (w.before ++ 32 ∷ w.key))))
    (subst IsBytes are.whole each)))))

-- ---- words without a space

abbrev has_none : List ℕ → Bool
has_none [] = true
has_none (b ∷ bs) = if b == 32 then false else has_none bs

none_there : (bs : List ℕ) → has_none bs ≡ true → HasNo 32 bs
none_there [] is = tt
none_there (b ∷ bs) is = elim (cases_Bool (b == 32)) [
  | inl there ↦ absurd (cc (rw there at is))
  | inr other ↦ (eqb-false b 32 other, none_there bs (rw other at is))
]

kind_parted : (kind : List ℕ) (t : SshCertType) → cert_type_named kind ≡ Some t → HasNo 32 kind
unfolding client host
kind_parted kind t is = elim (cases_Bool (bytes_eq kind client)) [
  | inl same ↦ subst (HasNo 32) (sym ((bytes_eq-Decides kind client).0 same)) (none_there client refl)
  | inr other ↦ elim (cases_Bool (bytes_eq kind host)) [
    | inl same ↦ subst (HasNo 32) (sym ((bytes_eq-Decides kind host).0 same)) (none_there host refl)
    | inr neither ↦
        let never : cert_type_named kind ≡ None =
        ap (λ (b : Bool). if b then Some Client else if bytes_eq kind host then Some Host else None) other
        ∙ ap (λ (b : Bool). if b then Some Host else None) neither in
        absurd (cc (never, is))
  ]
]

decimal_parted : (n : ℕ) → n < 2 ^ 64 → HasNo 32 (decimal n)
decimal_parted n below =
    decimal_by_steps (λ m ds. HasNo 32 ds) (λ m low. (λ same. omega (arith, same), tt))
    (λ m ds some each. all_append (λ b. b ≢ 32) ds _ each (λ same. omega (arith, same), tt)) n below

-- ---- a request line

short_says : (line : List ℕ) → is_short line ≡ true → length line < 2 ^ 32
short_says line short = grind (arith, nat_tests, short)

says_short : (line : List ℕ) → length line < 2 ^ 32 → is_short line ≡ true
says_short line short = grind (arith, nat_tests, short)

read_key : (read : Result SshPublicKey SshPublicKeyError) (key : SshPublicKey) → result_ok read ≡ Some key → read ≡ Ok key
read_key (Ok k) key is = ap Ok (some_same k key is)
read_key (Err e) key is = absurd (cc is)

request_of_words : (line : List ℕ) (w : Words) (r : CertRequestLine) → IsBytes line → length line < 2 ^ 32 → AreWords line w
    → is_id w.id ≡ true → said_by w ≡ Some r → IsRequestLine line r
unfolding said_by
request_of_words line w r each short are id says =
    let cert_type = goes_on (cert_type_named w.kind) _ r says in
    let principals = goes_on (principals_in w.principals) _ r cert_type.2 in
    let after = goes_on (number_named w.after) _ r principals.2 in
    let before = goes_on (number_named w.before) _ r after.2 in
    let key = goes_on (result_ok (line_meaning w.key)) _ r before.2 in
    let of_after = named_is_decimal w.after after.0 after.1 in
    let of_before = named_is_decimal w.before before.0 before.1 in
    let request : CertRequestLine = record {
      id = w.id;
      cert_type = cert_type.0;
      principals = principals.0;
      valid_after = timestamp_at after.0;
      valid_before = timestamp_at before.0;
      key = key.0;
    } in
    let is : IsRequestLine line request = record {
      short = short;
      kind = w.kind;
      principals = w.principals;
      key_line = w.key;
      whole =
          are.whole
          ∙ ap (λ l. w.id ++ 32 ∷ (w.kind ++ 32 ∷ (w.principals ++ 32 ∷ (l ++ 32 ∷ (w.before ++ 32 ∷ w.key))))) of_after.0
          ∙ ap (λ l. w.id ++ 32 ∷ (w.kind ++ 32 ∷ (w.principals ++ 32 ∷ (decimal after.0 ++ 32 ∷ (l ++ 32 ∷ w.key))))) of_before.0;
      id_parted = are.id;
      is_id = id;
      is_kind = cert_type.1;
      parted = are.principals;
      are_principals = principals_say w.principals principals.0 principals.1;
      after = of_after.1;
      before = of_before.1;
      key = line_meaning_says w.key key.0 (key_bytes line w are each) (read_key (line_meaning w.key) key.0 key.1);
    } in
    subst (IsRequestLine line) (some_same request r key.2) is

request_says : (line : List ℕ) (r : CertRequestLine) → IsBytes line → request_in line ≡ Some r → IsRequestLine line r
unfolding request_in
request_says line r each says =
    let short = chosen (is_short line) (some_then (words_in line) request_named) r says in
    let words = goes_on (words_in line) request_named r short.1 in
    let id = chosen (is_id words.0.id) (said_by words.0) r words.2 in
    request_of_words line words.0 r each (short_says line short.0) (words_say line words.0 words.1) id.0 id.1

said_is : (w : Words) (r : CertRequestLine) → w.id ≡ r.id → cert_type_named w.kind ≡ Some r.cert_type
    → principals_in w.principals ≡ Some r.principals → number_named w.after ≡ Some r.valid_after.0
    → number_named w.before ≡ Some r.valid_before.0 → result_ok (line_meaning w.key) ≡ Some r.key → said_by w ≡ Some r
unfolding said_by
said_is w r id kind principals after before key =
    then_is (cert_type_named w.kind) r.cert_type _ kind
    ∙ then_is (principals_in w.principals) r.principals _ principals
    ∙ then_is (number_named w.after) r.valid_after.0 _ after
    ∙ then_is (number_named w.before) r.valid_before.0 _ before
    ∙ then_is (result_ok (line_meaning w.key)) r.key _ key
    ∙ ap (λ name. Some (with_id name r)) id
  where
    with_id : (name : List ℕ) → CertRequestLine → CertRequestLine
    with_id name q = record {
      id = name;
      cert_type = q.cert_type;
      principals = q.principals;
      valid_after = timestamp_at q.valid_after.0;
      valid_before = timestamp_at q.valid_before.0;
      key = q.key;
    }

request_is : (line : List ℕ) (r : CertRequestLine) → IsRequestLine line r → request_in line ≡ Some r
unfolding request_in
request_is line r is =
    let w : Words = record {
      id = r.id;
      kind = is.kind;
      principals = is.principals;
      after = decimal r.valid_after.0;
      before = decimal r.valid_before.0;
      key = is.key_line;
    } in
    let are : AreWords line w = record {
      whole = is.whole;
      id = is.id_parted;
      kind = kind_parted is.kind r.cert_type is.is_kind;
      principals = is.parted;
      after = decimal_parted r.valid_after.0 is.after;
      before = decimal_parted r.valid_before.0 is.before;
    } in
    let says = said_is w r refl is.is_kind (principals_are is.principals r.principals is.are_principals)
    (decimal_names _ r.valid_after.0 refl is.after) (decimal_names _ r.valid_before.0 refl is.before)
    (ap result_ok (line_meaning_of is.key_line r.key is.key)) in
    ap (λ (b : Bool). if b then some_then (words_in line) request_named else None) (says_short line is.short)
    ∙ then_is (words_in line) w request_named (words_are line w are)
    ∙ ap (λ (b : Bool). if b then said_by w else None) is.is_id
    ∙ says

pub line_is_one : (line : List ℕ) (r : CertRequestLine) → IsBytes line → (request_in line ≡ Some r) ↔ IsRequestLine line r
line_is_one line r each = (request_says line r each, request_is line r)
