-- Lemmas on lists of elements: their spellings joined, and their values read one after another.
use Rattle.std.proofs.Common.{◌≡◌, ◌≢◌, ◌⊎◌, inl, inr, ℕ, ◌+◌, ◌≤◌, ◌<◌, ◌^◌, ◌-◌, List, [], ◌∷◌, ◌++◌, length, take, drop}
use Rattle.std.proofs.Common.{get_or, min, sym, ap, ◌∙◌, arith, refl, add-one, Result, Ok, Err}
use Rattle.std.proofs.{Math.Seq.{drop-cons}, lemmas.List.{take-append-drop}, lemmas.Grind.{flat_map-append}}
use Rattle.std.proofs.{lemmas.List.Concat.{flat_map-cons}, lemmas.List.Folds.{length-flat_map-take}}
use Rattle.std.specs.{List.{All, flat_map}, Prelude.{Option, Some, None, IfErr, MatchOption}}
use Rattle.picky_wire_base.specs.{Flaw.{Flaw}, Grammar.{Grammar}, Short.{EndsInString}, Row.{Row, read_all}}
use Rattle.picky_wire_base.specs.{Outcome.{map_err}, carried.Outcome.{map_err_ok}, Many.{read_many}}
use Rattle.picky_wire_base.specs.{Wire.{string, string_of}, Gives.{Gives}}
use Rattle.picky_wire_base.proofs.{Short.{string_refused}, Row.{row_spells}, Steps.{following, taking_refused}}
use Rattle.picky_wire_base.proofs.Strings.{string_reads_back}
use Rattle.picky_wire.specs.{declared.error.WireError.{WireError}, Count.{Rose}, Flaws.{TakesField, wire_error}}
use Rattle.picky_wire.specs.{Puts.{Puts}, Takes.{Takes, TakesString, HasCause, causes_of}}
use Rattle.picky_wire.specs.declared.error.WireError.TheVariants as errors
use Rattle.picky_wire.proofs.{ThenLemmas.{judged_takes, judged_cause}, WriteLemmas.{front_writes, writes_second}}

-- ---- spellings joined

-- the spellings so far, the next one, and the others
all_spellings : {X : Type 0} (f : X → List ℕ) (xs : List X) (i : ℕ) (x : X) → i < length xs
    → x ≡ get_or xs i x
    → flat_map f (take i xs) ++ (f x ++ flat_map f (drop (i + 1) xs)) ≡ flat_map f xs
all_spellings f xs i x within is =
    let rest = drop (i + 1) xs in
    let item : x ∷ rest ≡ drop i xs =
    ap (λ y. y ∷ rest) is ∙ ap (λ k. get_or xs i x ∷ drop k xs) (add-one i) ∙ sym (drop-cons xs i x within) in
    ap (λ r. flat_map f (take i xs) ++ r) (sym (flat_map-cons f x rest))
    ∙ sym (flat_map-append f (take i xs) (x ∷ rest))
    ∙ ap (λ r. flat_map f (take i xs ++ r)) item
    ∙ ap (flat_map f) (take-append-drop i xs)

-- a write that stopped in the next spelling stopped in all of them
pub spelling_stopped : {X : Type 0} (f : X → List ℕ) (xs : List X) (i : ℕ) (x : X) (n : ℕ)
    (old mid new : List ℕ)
    → i < length xs → x ≡ get_or xs i x → mid ≡ old ++ flat_map f (take i xs)
    → (new ≡ mid ++ take n (f x)) × (n < length (f x))
    → (m : ℕ) × (new ≡ old ++ take m (flat_map f xs)) × (m < length (flat_map f xs))
spelling_stopped f xs i x n old mid new within is so_far front =
    let rest = flat_map f (drop (i + 1) xs) in
    let later = front_writes (f x) rest mid new (n, front.0, front.1) in
    let all = writes_second {A = ℕ} {E = ℕ} (Err 0) (flat_map f (take i xs)) (f x ++ rest) old mid new so_far later in
    let same = all_spellings f xs i x within is in
    (all.0, all.1 ∙ ap (λ b. old ++ take all.0 b) same, omega (arith, all.2, ap length same))

-- the spellings up to the next one are too long, so all of them are
pub spellings_too_long : {X : Type 0} (f : X → List ℕ) (xs : List X) (i : ℕ) (x : X) (len next : ℕ)
    → i < length xs → x ≡ get_or xs i x → len ≡ length (flat_map f (take i xs))
    → next ≡ min (length (f x)) (2 ^ 40) → 2 ^ 32 ≤ len + next → 2 ^ 32 ≤ length (flat_map f xs)
spellings_too_long f xs i x len next within is so_far more long =
    omega (arith, length-flat_map-take f xs i x within, ap (λ y. length (f y)) is)

-- a write that stopped in the next spelling, of a list that is written item by item
pub list_stopped : {S X A E : Type 0} (tells : S → Type 0) (written : S → List ℕ) (faults : S → ℕ) (fault : E)
    (f : X → List ℕ) (xs : List X) (i : ℕ) (x : X) (e : E) (old mid new : S) → i < length xs
    → x ≡ get_or xs i x → (tells old → written mid ≡ written old ++ flat_map f (take i xs))
    → (tells old → tells mid) → faults mid ≡ faults old
    → Puts {A = A} tells written faults fault (f x) (Err e) mid new
    → Puts {A = A} tells written faults fault (flat_map f xs) (Err e) old new
list_stopped tells written faults fault f xs i x e old mid new within is so_far told calm stopped = record {
  writes = λ t.
      let front = stopped.writes (told t) in
      spelling_stopped f xs i x front.0 (written old) (written mid) (written new) within is (so_far t) (front.1, front.2);
  cause = (stopped.cause.0, omega (arith, stopped.cause.1, calm));
  calm = tt;
  told = λ t. stopped.told (told t);
}

-- what an item that is written promises
pub puts_taken : {E : Type 0} (reason : Option E) (P : Type 0) (Q : E → Type 0) → reason ≡ None
    → MatchOption reason P Q → P
puts_taken None P Q is holds = holds
puts_taken (Some e) P Q is holds = cc is

-- ---- values read one after another

-- where the next value of a block is refused, so is the block; a slice doesn't fail
pub refused_or_want : {E A : Type 0} (G : Grammar E A) (reads : List ℕ → Result (A × List ℕ) E)
    → ((bytes : List ℕ) → reads bytes ≡ G.read bytes) → (of : WireError → E)
    → ((bytes : List ℕ) (e : E) → reads bytes ≡ Err e → (e ≢ of errors.ReadFault) × (e ≢ of errors.NoMemory))
    → (taken : List A) (rest block : List ℕ) (e : E) → 0 < length rest
    → following taken (read_all G rest) ≡ read_all G block
    → HasCause (causes_of of) reads (Rose 0 0) e
    → (e ≢ of errors.ReadFault → e ≢ of errors.NoMemory → reads rest ≡ Err e)
    → (e ≡ of errors.NoMemory) ⊎ (read_all G block ≡ Err e)
refused_or_want G reads same of own taken rest block e some so_far (inl counted) answers = absurd (omega (arith, counted.1))
refused_or_want G reads same of own taken rest block e some so_far (inr (inl want)) answers = inl want
refused_or_want G reads same of own taken rest block e some so_far (inr (inr (bytes, refused))) answers =
    let kept = own bytes e refused in
    inr (sym so_far ∙ taking_refused G taken rest e some (sym (same rest) ∙ answers kept.0 kept.1))

-- a string, with the layer's errors
string_takes : {S E : Type 0} (tells : S → Type 0) (left : S → List ℕ) (known : S → Option ℕ) (faults : S → ℕ)
    (of : WireError → E) (block : List ℕ) (old new : S) → TakesField tells left known faults string (Ok block) old new
    → Takes tells left known faults (causes_of of) (λ bytes. map_err (λ flaw. of (wire_error flaw)) (string.read bytes))
    string.used (Ok block) old new
string_takes tells left known faults of block old new takes = record {
  answers = λ t. ap (map_err (λ flaw. of (wire_error flaw))) (map_err_ok wire_error (string.read (left old)) (block, left new) (takes.answers t));
  within = takes.within;
  whole = takes.whole;
  cut = λ t other. cc other;
  front = takes.front;
  told = takes.told;
  knows = takes.knows;
  fault = λ other. cc other;
  calm = takes.calm;
}

ends_where_refused : (bytes : List ℕ) (e : WireError) → map_err wire_error (string.read bytes) ≡ Err e
    → EndsInString bytes
ends_where_refused bytes e refused = go (string.read bytes) refl refused
  where
    go : (r : Result (List ℕ × List ℕ) Flaw) → string.read bytes ≡ r → map_err wire_error r ≡ Err e → EndsInString bytes
    go (Ok x) is other = cc other
    go (Err flaw) is why = (string_refused bytes flaw is).1

-- a list is taken where its string is
pub list_takes : {S A E : Type 0} (tells : S → Type 0) (left : S → List ℕ) (known : S → Option ℕ) (faults : S → ℕ)
    (of : WireError → E) (G : Grammar E A) (block : List ℕ) (r : Result (List A) E) (old new : S)
    → TakesField tells left known faults string (Ok block) old new
    → Gives (of errors.NoMemory) (λ items. items) r (read_all G block)
    → IfErr r (λ e. e ≢ of errors.ReadFault)
    → Takes tells left known faults (causes_of of) (read_many (λ flaw. of (wire_error flaw)) G) string.used r old new
list_takes tells left known faults of G block r old new takes gives no_fault =
    judged_takes tells left known faults (causes_of of) (λ bytes. map_err (λ flaw. of (wire_error flaw)) (string.read bytes))
    string.used (read_all G) block r old new (string_takes tells left known faults of block old new takes) gives no_fault

-- and its error is one that some bytes have
pub list_cause : {A E : Type 0} (of : WireError → E) (G : Grammar E A) (block : List ℕ) (r : Result (List A) E)
    (fault : Type 0) → length block < 2 ^ 32 → Gives (of errors.NoMemory) (λ items. items) r (read_all G block)
    → IfErr r (HasCause (causes_of of) (read_many (λ flaw. of (wire_error flaw)) G) fault)
list_cause of G block r fault short gives =
    judged_cause (causes_of of) (λ bytes. map_err (λ flaw. of (wire_error flaw)) (string.read bytes)) (read_all G) block r fault
    (string_of block ++ []) [] (ap (map_err (λ flaw. of (wire_error flaw))) (string_reads_back block [] short)) gives

-- the canonical spellings, joined, are a row of pieces
pub spellings_are_row : {A : Type 0} (piece : A → List ℕ → Type 0) (spelling : A → List ℕ)
    (keeps takes : A → Type 0)
    → ((v : A) → keeps v → takes v → piece v (spelling v)) → (vs : List A) → All keeps vs
    → All takes vs
    → Row piece vs (flat_map spelling vs)
spellings_are_row piece spelling keeps takes spells vs keep take =
    row_spells piece spelling (λ v. keeps v × takes v) (λ v (kept, taken). spells v kept taken) vs
    (λ k d below. (keep k d below, take k d below))

-- a string that was read is taken whole, whatever is made of it
pub string_taken : {A E : Type 0} (of : WireError → E) (r : Result A E) (before after : List ℕ)
    → length after ≡ length before - string.used before → TakesString (causes_of of) r before after
string_taken of (Ok v) before after whole = tt
string_taken of (Err e) before after whole = λ other kept there. whole

-- and one that is all there is refused for a fault or for want of memory alone
pub string_refused_there : {E : Type 0} (of : WireError → E) (e : WireError) (f : E) (before after : List ℕ) → f ≡ of e
    → (e ≢ errors.ReadFault → e ≢ errors.NoMemory → map_err wire_error (string.read before) ≡ Err e)
    → TakesString {A = ℕ} (causes_of of) (Err f) before after
string_refused_there of e f before after is answers = λ other kept there.
    let refused = answers (λ fault. other (is ∙ ap of fault)) (λ want. kept (is ∙ ap of want)) in
    absurd (there (ends_where_refused before e refused))
