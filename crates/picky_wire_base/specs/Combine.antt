-- How layouts are made of fields: one after another, narrowed to what a field may say, with a place.
use Rattle.std.specs.Prelude.{◌≡◌, Bool, if◌then◌else◌, List, [], ℕ, ◌++◌, Result, Ok, Err}
use Rattle.std.specs.Bool.{Decides}
use Rattle.std.proofs.Common.{ap, refl}
use Rattle.picky_wire_base.specs.Outcome.{map_err}
use Rattle.picky_wire_base.specs.carried.Outcome.{map_err_ok}
use Rattle.picky_wire_base.specs.Flaw.{Flaw, Flawed, Why}
use Rattle.picky_wire_base.specs.Grammar.{Grammar}
use Rattle.picky_wire_base.specs.carried.Combine.{done_sound, done_complete, done_takes, both_sound}
use Rattle.picky_wire_base.specs.carried.Combine.{both_complete, both_takes, narrow_sound, narrow_complete}
use Rattle.picky_wire_base.specs.carried.Combine.{narrow_takes, allowed_sound, allowed_complete, each_sound}
use Rattle.picky_wire_base.specs.Joined.{Joined, read_both, used_both}
use Rattle.picky_wire_base.specs.Narrowed.{Narrowing, Narrowed, read_narrowed}

-- a value that takes no bytes
abbrev pub done : {E A : Type 0} → A → Grammar E A
done x = record {
  piece = λ v bytes. (v ≡ x) × (bytes ≡ []);
  read = λ bytes. Ok (x, bytes);
  used = λ bytes. 0;
  sound = λ bytes v rest same. done_sound (Ok (x, bytes)) x v bytes rest refl same;
  complete = λ v front rest spells. done_complete (Ok (x, front ++ rest)) x v front rest refl spells;
  takes = λ bytes v rest same. done_takes (Ok (x, bytes)) x v bytes rest refl same;
}

-- a field, and then what its value decides
infixl 10 ◌>>=◌
abbrev pub ◌>>=◌ : {E A B : Type 0} → Grammar E A → (A → Grammar E B) → Grammar E B
G >>= H = record {
  piece = Joined G H;
  read = read_both G H;
  used = used_both G H;
  sound = both_sound G H;
  complete = both_complete G H;
  takes = both_takes G H;
}

-- the field's pieces, each with the value that its own value stands for
abbrev pub narrow : {E A B : Type 0} → Grammar E A → Narrowing E A B → Grammar E B
narrow G M = record {
  piece = Narrowed G M;
  read = read_narrowed G M;
  used = G.used;
  sound = narrow_sound G M;
  complete = narrow_complete G M;
  takes = narrow_takes G M;
}

abbrev pub allowed : {E A : Type 0} (P : A → Type 0) (test : A → Bool) (why : A → E)
    → ((a : A) → Decides (test a) (P a)) → Narrowing E A A
allowed P test why decides = record {
  means = λ a b. P a × (b ≡ a);
  decide = λ a. if test a then Ok a else Err (why a);
  sound = allowed_sound P test why decides;
  complete = allowed_complete P test why decides;
}

abbrev pub each : {E A B : Type 0} → (A → B) → Narrowing E A B
each f = record {
  means = λ a b. f a ≡ b;
  decide = λ a. Ok (f a);
  sound = λ a b same. each_sound (Ok (f a)) f a b refl same;
  complete = λ a b same. ap Ok same;
}

-- ---- the same pieces, with another layer's reasons

abbrev pub read_tagged : {E F A : Type 0} → (E → F) → Grammar E A → List ℕ → Result (A × List ℕ) F
read_tagged f G bytes = map_err f (G.read bytes)

abbrev pub tag : {E F A : Type 0} → (E → F) → Grammar E A → Grammar F A
tag f G = record {
  piece = G.piece;
  read = read_tagged f G;
  used = G.used;
  sound = λ bytes v rest same. G.sound bytes v rest (map_err_ok f (G.read bytes) (v, rest) same);
  complete = λ v front rest spells. ap (map_err f) (G.complete v front rest spells);
  takes = λ bytes v rest same. G.takes bytes v rest (map_err_ok f (G.read bytes) (v, rest) same);
}

-- a field, with its place in the layout beside what is wrong: its number, or the part that it belongs to
abbrev pub placed : {P : Type 0} → P → Flaw → P × Why
placed place flaw = (place, Flawed flaw)

abbrev pub at : {P A : Type 0} → P → Grammar Flaw A → Grammar (P × Why) A
at place G = tag (placed place) G
