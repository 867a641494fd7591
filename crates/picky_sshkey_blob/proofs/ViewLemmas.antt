-- Lemmas on the view of a private key's blob.
use Rattle.std.specs.Prelude.{◌≡◌, List, ℕ, ◌+◌, ◌-◌, ◌++◌, ◌≤◌, ⊤, ◌==◌, length, take, drop, IfOk, IfErr, Result, Ok, Err}
use Rattle.std.proofs.Common.{refl, sym, ap, subst, ◌∙◌, arith, inl, inr}
use Rattle.std.proofs.lemmas.List.{take-append-drop, length-take-le, length-drop, take-take}
use Rattle.picky_wire_base.specs.{Flaw.{Why, Reason, Flawed, Length, Name}, Grammar.{Grammar}}
use Rattle.picky_wire_base.specs.{Outcome.{and_then, map_err}, Narrowed.{meant}, Combine.{at}, Numbers.{IsBytes}}
use Rattle.picky_wire_base.specs.{Entry.{entry}, Table.{find_entry}, Wire.{string, text, of_length}}
use Rattle.picky_wire_base.specs.{declared.view.Stuck.{Stuck}, declared.view.Part.{Part}}
use Rattle.picky_wire_base.specs.View.{Seen, Lies, end_of, part_bytes, why_in, why_of, SeenAt}
use Rattle.picky_wire_base.specs.declared.stopped.Stopped.{Stopped}
use Rattle.picky_wire_base.proofs.{Numbers.{bytes_in_front, back_bytes}, Narrowed.{place_cases}}
use Rattle.picky_keys.specs.{declared.kind.KeyKind.{KeyKind}, KeyNameTables.{key_types}, Key.{IsText}}
use Rattle.picky_keys.specs.Blob.{key_type, ed_key}
use Rattle.picky_wire_base.specs.declared.view.Stuck.TheVariants as stucks
use Rattle.picky_keys.proofs.KeyLaws.{text_keeps}
use Rattle.picky_sshkey_blob.specs.{declared.view.PrivateView.{PrivateView}, Key.{IsPrivateKey}, Copy.{before_copy}}
use Rattle.picky_sshkey_blob.specs.{carried.Before.{before_complete}, Blob.{ed_secret, private_key_fields, secret}}
use Rattle.picky_sshkey_blob.specs.View.{private_key_seen, PrivatePartsLie, NamesText, IsPrivateRefusal}
use Rattle.picky_sshkey_blob.proofs.{KeyLaws.{spelled_is_key}, NoNameLemmas.{fields_no_name}}
use Rattle.picky_sshkey_blob.proofs.RefusedLemmas.{RefusesAs, and_then_err, narrow_refuses, at_refuses, entry_refused}
use Rattle.picky_sshkey_blob.proofs.RefusedLemmas.{test_refused}

-- ---- fields whose place is known

abbrev IsField : ℕ → Reason → Type 0
IsField i reason = reason.0 ≡ i

key_type_place : RefusesAs (IsField 0) key_type.read
unfolding key_type
key_type_place =
    narrow_refuses (IsField 0) (at 0 text) (entry (λ n. (0, Name n)) key_types) (at_refuses (IsField 0) 0 text (λ flaw. refl))
    (λ name e is. ap (λ (r : Reason). r.0) (sym (entry_refused (find_entry key_types name) (0, Name name) e is)))

ed_key_is_first : RefusesAs (IsField 1) (ed_key 1).read
unfolding ed_key
ed_key_is_first =
    narrow_refuses (IsField 1) (at 1 string) (of_length (1, Length) 32) (at_refuses (IsField 1) 1 string (λ flaw. refl))
    (λ bytes e is. ap (λ (r : Reason). r.0) (sym (test_refused (length bytes == 32) bytes (1, Length) e is)))

at_place : {A : Type 0} (i : ℕ) (r : Result A Reason) (why : Why) → ((e : Reason) → r ≡ Err e → e.0 ≡ i)
    → map_err why_in r ≡ Err why → r ≡ Err (i, why)
at_place i (Ok x) why place is = cc is
at_place i (Err e) why place is =
    let same : e.1 ≡ why = cc is in
    ap (λ p. Err (p, e.1)) (place e refl) ∙ ap (λ w. Err (i, w)) same

-- a view that is stuck at such a field is stopped there
stopped_at : {X A : Type 0} (shows : X → A) (lies : X → Type 0) (layout : Grammar Reason A) (i from : ℕ) (blob : List ℕ)
    (stuck : Stuck) → RefusesAs (IsField i) layout.read → Seen shows lies why_in layout blob from (Err stuck)
    → SeenAt shows lies layout blob from (Err (record { place = i; stuck = stuck }))
stopped_at shows lies layout i from blob stuck place seen = record {
  sees = at_place i (layout.read (drop from blob)) (why_of stuck) (place (drop from blob)) seen.sees;
  placed = seen.placed;
}

-- the name is field 0
pub kind_stopped : (from : ℕ) (blob : List ℕ) (stuck : Stuck)
    → Seen {X = KeyKind} (λ kind. kind) (λ _. ⊤) why_in key_type blob from (Err stuck)
    → SeenAt {X = KeyKind} (λ kind. kind) (λ _. ⊤) key_type blob from (Err (record { place = 0; stuck = stuck }))
kind_stopped from blob stuck seen = stopped_at {X = KeyKind} (λ kind. kind) (λ _. ⊤) key_type 0 from blob stuck key_type_place seen

-- and a public key of Ed25519 is field 1
pub ed_key_stopped : (from : ℕ) (blob : List ℕ) (stuck : Stuck)
    → Seen part_bytes (Lies blob (end_of (ed_key 1) blob from)) why_in (ed_key 1) blob from (Err stuck)
    → SeenAt part_bytes (Lies blob (end_of (ed_key 1) blob from)) (ed_key 1) blob from (Err (record { place = 1; stuck = stuck }))
ed_key_stopped from blob stuck seen =
    stopped_at part_bytes (Lies blob (end_of (ed_key 1) blob from)) (ed_key 1) 1 from blob stuck ed_key_is_first seen

ed_key_sized : (v bytes : List ℕ) → (ed_key 1).piece v bytes → length v ≡ 32
unfolding ed_key
ed_key_sized v bytes (a, spells, (len, same)) = ap length same ∙ len

-- which has 32 bytes
pub ed_key_len : (from next : ℕ) (blob : List ℕ) (part : Part)
    → SeenAt part_bytes (Lies blob (end_of (ed_key 1) blob from)) (ed_key 1) blob from (Ok (part, next))
    → length part.bytes.now ≡ 32
ed_key_len from next blob part seen =
    let fits = (ed_key 1).sound (drop from blob) part.bytes.now (drop next blob) seen.sees in
    ed_key_sized part.bytes.now fits.0 fits.1

-- ---- the secret before a copy of the public key

secret_lies : (blob public : List ℕ) (end : ℕ) (both part : Part) → Lies blob end both → 32 ≤ length both.bytes.now
    → part.at ≡ both.at → part.bytes.now ≡ take 32 both.bytes.now → drop 32 both.bytes.now ≡ public → length public ≡ 32
    → Lies blob (end - 32) part
secret_lies blob public end both part lies long place is copy len =
    let part_len : length part.bytes.now ≡ 32 = ap length is ∙ length-take-le 32 both.bytes.now long in
    let both_len : length both.bytes.now ≡ 32 + 32 =
    omega (arith, ap length copy, len, length-drop 32 both.bytes.now) in
    record {
      ends = omega (arith, lies.ends, place, part_len, both_len);
      within = omega (arith, lies.within);
      are = is ∙ ap (take 32) (lies.are ∙ ap (λ n. take n (drop both.at blob)) both_len)
          ∙ take-take 32 (32 + 32) (drop both.at blob) (omega arith)
          ∙ ap (λ p. take 32 (drop p blob)) (sym place) ∙ ap (λ n. take n (drop part.at blob)) (sym part_len);
    }

-- the secret is what stands before the copy
pub secret_seen : (from next : ℕ) (blob public : List ℕ) (both part : Part)
    → SeenAt {P = ℕ} part_bytes (Lies blob (end_of string blob from)) (at 2 string) blob from (Ok (both, next))
    → 32 ≤ length both.bytes.now → part.at ≡ both.at → part.bytes.now ≡ take 32 both.bytes.now
    → drop 32 both.bytes.now ≡ public → length public ≡ 32
    → SeenAt part_bytes (Lies blob (end_of string blob from - 32)) (ed_secret public) blob from (Ok (part, next))
unfolding ed_secret
secret_seen from next blob public both part seen long place is copy len =
    let part_len : length part.bytes.now ≡ 32 = ap length is ∙ length-take-le 32 both.bytes.now long in
    let whole : both.bytes.now ≡ part.bytes.now ++ public =
    sym (take-append-drop 32 both.bytes.now) ∙ ap (λ a. a ++ drop 32 both.bytes.now) (sym is)
    ∙ ap (λ b. part.bytes.now ++ b) copy in
    record {
      sees = ap (λ r. and_then r (meant (before_copy (2, Length) public))) seen.sees
          ∙ ap (λ d. and_then d (λ b. Ok (b, drop next blob)))
          (before_complete (2, Length) public both.bytes.now part.bytes.now (whole, part_len));
      placed = (secret_lies blob public (end_of string blob from) both part seen.placed.0 long place is copy len, seen.placed.1, seen.placed.2);
    }

-- ---- what is seen is a key, and a name that is refused is text

text_in_front : (bytes v rest : List ℕ) → IsBytes bytes → text.read bytes ≡ Ok (v, rest) → IsText v
text_in_front bytes v rest each read =
    let fits = text.sound bytes v rest read in
    text_keeps v fits.0 (bytes_in_front fits.0 rest (subst IsBytes fits.2 each)) fits.1

same_name : (r s : Reason) (m n : List ℕ) → r ≡ s → r.1 ≡ Name m → s.1 ≡ Name n → m ≡ n
same_name r s m n same first second =
    let why : Name m ≡ Name n = sym first ∙ ap (λ (t : Reason). t.1) same ∙ second in
    cc why

key_type_name : (bytes : List ℕ) (i : ℕ) (n : List ℕ) → IsBytes bytes → key_type.read bytes ≡ Err (i, Name n) → IsText n
unfolding key_type
key_type_name bytes i n each refused =
    elim (place_cases 0 text (entry (λ m. (0, Name m)) key_types) bytes (i, Name n) refused) [
      | inl flawed ↦
          let why : Name n ≡ Flawed flawed.flaw = ap (λ (r : Reason). r.1) flawed.is in
          cc why
      | inr found ↦
          let name = entry_refused (find_entry key_types found.value) (0, Name found.value) (i, Name n) found.refused in
          subst IsText (same_name (0, Name found.value) (i, Name n) found.value n name refl refl) (text_in_front bytes found.value found.rest each found.whole)
    ]

refused_name : (bytes : List ℕ) (i : ℕ) (n : List ℕ) → IsBytes bytes → secret.read bytes ≡ Err (i, Name n) → IsText n
unfolding secret
refused_name bytes i n each refused =
    elim (and_then_err (key_type.read bytes) (λ first. (private_key_fields first.0).read first.1) (i, Name n) refused) [
      | inl early ↦ key_type_name bytes i n each early
      | inr (found, was, late) ↦ absurd (fields_no_name found.0 found.1 (i, Name n) late)
    ]

stuck_names_text : (bytes : List ℕ) (i : ℕ) (stuck : Stuck) → IsBytes bytes → secret.read bytes ≡ Err (i, why_of stuck)
    → NamesText stuck
stuck_names_text bytes i stucks.Short each refused = tt
stuck_names_text bytes i stucks.NotUtf8 each refused = tt
stuck_names_text bytes i (stucks.Name name) each refused = refused_name bytes i name.bytes.now each refused
stuck_names_text bytes i stucks.Length each refused = tt
stuck_names_text bytes i (stucks.Number n) each refused = tt

-- what is seen in bytes is a key
pub seen_is_key : (bytes : List ℕ) (from : ℕ) (r : Result (PrivateView × ℕ) (Stopped ℕ)) → IsBytes bytes
    → SeenAt private_key_seen (PrivatePartsLie bytes (end_of key_type bytes from)) secret bytes from r
    → IfOk r (λ found. IsPrivateKey (private_key_seen found.0))
seen_is_key bytes from (Ok (view, next)) each seen =
    let fits = secret.sound (drop from bytes) (private_key_seen view) (drop next bytes) seen.sees in
    spelled_is_key (private_key_seen view) fits.0
    (bytes_in_front fits.0 (drop next bytes) (subst IsBytes fits.2 (back_bytes from bytes each))) fits.1
seen_is_key bytes from (Err stopped) each seen = tt

-- what stops a view has a name that is text, where it has one
pub seen_is_refusal : (bytes : List ℕ) (from : ℕ) (r : Result (PrivateView × ℕ) (Stopped ℕ)) → IsBytes bytes
    → SeenAt private_key_seen (PrivatePartsLie bytes (end_of key_type bytes from)) secret bytes from r → IfErr r IsPrivateRefusal
seen_is_refusal bytes from (Ok found) each seen = tt
seen_is_refusal bytes from (Err stopped) each seen =
    stuck_names_text (drop from bytes) stopped.place stopped.stuck (back_bytes from bytes each) seen.sees

pub ruleset seen_keeps = (seen_is_key, seen_is_refusal)
