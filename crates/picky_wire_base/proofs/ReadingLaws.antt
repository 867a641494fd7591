-- The laws of what is read as which value, and of what is refused.
use Rattle.std.specs.Prelude.{◌≡◌, List, [], ◌∷◌, ℕ, zero, suc, ◌++◌, length, Result, Ok, Err}
use Rattle.std.proofs.Common.{refl, sym, ◌∙◌, ap, subst, append_assoc}
use Rattle.picky_wire_base.specs.Outcome.{and_then}
use Rattle.picky_wire_base.specs.Grammar.{Grammar, Fits}
use Rattle.picky_wire_base.proofs.Grammar.{one_front, refused_has_none}
use Rattle.picky_wire_base.proofs.Refused.{one_reason, Answer, Found, Refused, fits_or_refused}
use Rattle.picky_wire_base.specs.Row.{after, read_within, read_all}
use Rattle.picky_wire_base.specs.Numbers.{IsBytes}
use Rattle.picky_wire_base.proofs.Numbers.{bytes_in_front}
use Rattle.picky_wire_base.specs.Reading.{IsReading, IsStuck}

has_reason : {E A : Type 0} (G : Grammar E A) (bytes : List ℕ) → Answer G bytes
    → ((v : A) (rest : List ℕ) → Fits G.piece v bytes rest → ⊥) → (e : E) × (G.read bytes ≡ Err e)
has_reason G bytes (Found v rest fits) none = absurd (none v rest fits)
has_reason G bytes (Refused e is) none = (e, is)

-- Each layout is read so.
pub layout_is_read : {E A : Type 0} (G : Grammar E A) → IsReading G.read G.piece
layout_is_read G = record {
  found = G.sound;
  finds = G.complete;
  one_front = one_front G;
  refused = refused_has_none G;
  reason = λ bytes none. has_reason G bytes (fits_or_refused G bytes) none;
  one_reason = one_reason G;
}

-- So is what is read alike.
pub read_alike : {E A : Type 0} (G : Grammar E A) (reads : List ℕ → Result (A × List ℕ) E)
    → ((bytes : List ℕ) → reads bytes ≡ G.read bytes) → IsReading reads G.piece
read_alike G reads same = record {
  found = λ bytes v rest is. G.sound bytes v rest (sym (same bytes) ∙ is);
  finds = λ v front rest spells. same (front ++ rest) ∙ G.complete v front rest spells;
  one_front = one_front G;
  refused = λ bytes e is. refused_has_none G bytes e (sym (same bytes) ∙ is);
  reason = λ bytes none. let why = has_reason G bytes (fits_or_refused G bytes) none in (why.0, same bytes ∙ why.1);
  one_reason = λ bytes e f first second. one_reason G bytes e f (sym (same bytes) ∙ first) (sym (same bytes) ∙ second);
}

-- ---- what is taken where the bytes are bytes

-- What is read in front is spelled there by bytes.
pub fits_of_bytes : {E A : Type 0} (G : Grammar E A) (exact : A → List ℕ → Type 0)
    → ((v : A) (piece : List ℕ) → IsBytes piece → G.piece v piece → exact v piece)
    → (bytes : List ℕ) (v : A) (rest : List ℕ) → IsBytes bytes → G.read bytes ≡ Ok (v, rest)
    → Fits exact v bytes rest
fits_of_bytes G exact each_is bytes v rest each is =
    let fits = G.sound bytes v rest is in
    let front = bytes_in_front fits.0 rest (subst IsBytes fits.2 each) in
    (fits.0, each_is v fits.0 front fits.1, fits.2)

-- Where bytes have one spelling of a value, that spelling is what was read.
pub spelling_of_bytes : {E A : Type 0} (G : Grammar E A) (spelling : A → List ℕ) (keeps : A → Type 0)
    → ((v : A) (piece : List ℕ) → IsBytes piece → G.piece v piece → (piece ≡ spelling v) × keeps v)
    → (bytes : List ℕ) (v : A) (rest : List ℕ) → IsBytes bytes → G.read bytes ≡ Ok (v, rest)
    → (bytes ≡ spelling v ++ rest) × keeps v
spelling_of_bytes G spelling keeps one bytes v rest each is =
    let fits = fits_of_bytes G (λ w piece. (piece ≡ spelling w) × keeps w) one bytes v rest each is in
    (fits.2 ∙ ap (λ f. f ++ rest) fits.1.0, fits.1.1)

stuck_later : {E A : Type 0} (G : Grammar E A) (bytes : List ℕ) (e : E) (v : A) (rest : List ℕ)
    → Fits G.piece v bytes rest → IsStuck G.read G.piece rest e → IsStuck G.read G.piece bytes e
stuck_later G bytes e v rest (front, spells, same) later =
    record {
      values = v ∷ later.values;
      front = front ++ later.front;
      rest = later.rest;
      spelled = (front, later.front, spells, later.spelled, refl);
      joined = same ∙ ap (λ r. front ++ r) later.joined ∙ sym (append_assoc front later.front later.rest);
      refused = later.refused;
    }

after_err : {E A : Type 0} (v : A) (r : Result (List A) E) (e : E) → after v r ≡ Err e → r ≡ Err e
after_err v (Ok vs) e same = cc same
after_err v (Err f) e same = ap Err (cc same)

stuck_next : {E A : Type 0} (G : Grammar E A) (bytes : List ℕ) (e : E) (most : ℕ)
    → ((rest : List ℕ) → read_within G most rest ≡ Err e → IsStuck G.read G.piece rest e)
    → (r : Result (A × List ℕ) E) → G.read bytes ≡ r
    → and_then r (λ first. after first.0 (read_within G most first.1)) ≡ Err e
    → IsStuck G.read G.piece bytes e
stuck_next G bytes e most more (Ok (v, rest)) is same =
    stuck_later G bytes e v rest (G.sound bytes v rest is)
    (more rest (after_err v (read_within G most rest) e same))
stuck_next G bytes e most more (Err f) is same =
    record {
      values = [];
      front = [];
      rest = bytes;
      spelled = refl;
      joined = refl;
      refused = is ∙ cc same;
    }

within_stuck : {E A : Type 0} (G : Grammar E A) (most : ℕ) (bytes : List ℕ) (e : E)
    → read_within G most bytes ≡ Err e → IsStuck G.read G.piece bytes e
within_stuck G zero bytes e same = cc same
within_stuck G (suc most) [] e same = cc same
within_stuck G (suc most) (b ∷ bytes) e same =
    stuck_next G (b ∷ bytes) e most (λ rest later. within_stuck G most rest e later)
    (G.read (b ∷ bytes)) refl same

-- A block that is no list has the error of the place after which no value is spelled.
pub values_stuck : {E A : Type 0} (G : Grammar E A) (block : List ℕ) (e : E)
    → read_all G block ≡ Err e → IsStuck G.read G.piece block e
unfolding read_all
values_stuck G block e same = within_stuck G (length block) block e same
