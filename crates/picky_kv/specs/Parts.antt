-- The parts of a line and of a block, as relations, after PuTTY's manual, Appendix C.
use Rattle.std.specs.Prelude.{◌≡◌, ◌≢◌, ◌↔◌, ℕ, List, ◌∷◌, ◌++◌, length, codes, Ok}
use Rattle.std.specs.List.{concat}
use Rattle.picky_text.specs.Lines.{HasNo}
use Rattle.picky_kv_words.specs.Field.{Field, field_value}
use Rattle.picky_kv.specs.Lines.{next_pair, next_block}
use Rattle.picky_kv.specs.NumberFields.{count_field}

-- nowhere in the text does a space follow a colon
abbrev pub HasNoSeparator : List ℕ → Type 0
HasNoSeparator text = (front rest : List ℕ) → text ≢ front ++ codes ": " ++ rest

-- a line is a front in which no separator stands, a separator, and the rest
pub record AreKeyAndValue (line front rest : List ℕ) : Type 0 where
  pub joined : line ≡ front ++ codes ": " ++ rest
  pub first : HasNoSeparator front

-- so many lines, whose joined text this is, and the lines after them
pub record AreJoined (count : ℕ) (lines : List (List ℕ)) (text : List ℕ) (after : List (List ℕ))
    : Type 0 where
  pub block : List (List ℕ)
  pub counted : length block ≡ count
  pub joined : text ≡ concat block
  pub split : lines ≡ block ++ after

-- a line of a key and a value, in front of other lines
pub record IsPair {K V : Type 0} (key : Field K) (value : Field V) (lines : List (List ℕ)) (k : K)
    (v : V) (after : List (List ℕ)) : Type 0 where
  pub line : List ℕ
  pub key_text : List ℕ
  pub value_text : List ℕ
  pub first : lines ≡ line ∷ after
  pub parts : AreKeyAndValue line key_text value_text
  pub key_is : field_value key key_text ≡ Ok k
  pub value_is : field_value value value_text ≡ Ok v

-- a line of a key and a count, as many lines, whose joined text is the value's, and other lines
pub record IsBlock {K V : Type 0} (key : Field K) (value : Field V) (lines : List (List ℕ)) (k : K)
    (v : V) (after : List (List ℕ)) : Type 0 where
  pub count : ℕ
  pub counted : List (List ℕ)
  pub text : List ℕ
  pub head : IsPair key count_field lines k count counted
  pub joined : AreJoined count counted text after
  pub value_is : field_value value text ≡ Ok v

-- a pair is read exactly where one stands first
abbrev pub PairsAreRead : {K V : Type 0} → Field K → Field V → List ℕ → Type 0
PairsAreRead key value context =
    (lines : List (List ℕ)) (k : _) (v : _) (after : List (List ℕ))
    → next_pair key value context lines ≡ Ok ((k, v), after) ↔ IsPair key value lines k v after

-- and a block
abbrev pub BlocksAreRead : {K V : Type 0} → Field K → Field V → List ℕ → Type 0
BlocksAreRead key value context =
    (lines : List (List ℕ)) (k : _) (v : _) (after : List (List ℕ))
    → next_block key value context lines ≡ Ok ((k, v), after) ↔ IsBlock key value lines k v after

-- neither CR nor LF stands in the text
abbrev pub HasNoLineEnd : List ℕ → Type 0
HasNoLineEnd text = HasNo 13 text × HasNo 10 text

-- what is written of these values stands in one line
abbrev pub AreOneLine : {A : Type 0} → Field A → Type 0
AreOneLine field = (v : _) → field.fits v → HasNoLineEnd (field.spelling v)
