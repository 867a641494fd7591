-- A request line: an id, a kind, principals, two times and a public line, parted by single spaces.
use Rattle.std.specs.Prelude.{◌≡◌, ◌<◌, ◌^◌, ◌++◌, ◌∷◌, ◌==◌, ℕ, Bool, true, List, length, nat_lt}
use Rattle.std.specs.Prelude.{Option, Some, None, if◌then◌else◌}
use Rattle.std.specs.Fmt.{decimal}
use Rattle.std.specs.List.{after_first, before_first, position_or_len}
use Rattle.std.specs.Result.{result_ok}
use Rattle.picky_text.specs.Lines.{HasNo}
use Rattle.picky_wire.specs.Moment.{timestamp_at}
use Rattle.picky_keys.specs.Line.{IsPublicLine}
use Rattle.picky_keys.specs.LineRefusal.{is_short, line_meaning}
use Rattle.picky_issuing.specs.Steps.{some_then}
use Rattle.picky_issuing.specs.Value.{cert_type_named, number_named}
use Rattle.picky_request.specs.declared.request.CertRequestLine.{CertRequestLine}
use Rattle.picky_request.specs.Names.{ArePrincipals, is_id, principals_in}

-- ---- what a line says

-- line = id SP kind SP principals SP after SP before SP public-line
pub record IsRequestLine (line : List ℕ) (r : CertRequestLine) : Type 0 where
  pub short : length line < 2 ^ 32
  pub kind : List ℕ
  pub principals : List ℕ
  pub key_line : List ℕ
  pub whole : line ≡ r.id ++ 32 ∷ (kind ++ 32 ∷ (principals
      ++ 32 ∷ (decimal r.valid_after.0 ++ 32 ∷ (decimal r.valid_before.0 ++ 32 ∷ key_line))))
  pub id_parted : HasNo 32 r.id
  pub is_id : is_id r.id ≡ true
  pub is_kind : cert_type_named kind ≡ Some r.cert_type
  pub parted : HasNo 32 principals
  pub are_principals : ArePrincipals principals r.principals
  pub after : r.valid_after.0 < 2 ^ 64
  pub before : r.valid_before.0 < 2 ^ 64
  pub key : IsPublicLine key_line r.key

-- ---- the words of a line

pub record Words : Type 0 where
  pub id : List ℕ
  pub kind : List ℕ
  pub principals : List ℕ
  pub after : List ℕ
  pub before : List ℕ
  -- the rest
  pub key : List ℕ

abbrev pub is_space : ℕ → Bool
is_space b = b == 32

-- what stands before the first space, and what follows it
abbrev pub cut_at_space : List ℕ → Option (List ℕ × List ℕ)
cut_at_space text =
    if nat_lt (position_or_len is_space text) (length text)
    then Some (before_first is_space text, after_first is_space text) else None

unfoldable pub words_in : (line : List ℕ) → Option Words
words_in line =
    some_then (cut_at_space line) (λ id.
    some_then (cut_at_space id.1) (λ kind.
    some_then (cut_at_space kind.1) (λ principals.
    some_then (cut_at_space principals.1) (λ after.
    some_then (cut_at_space after.1) (λ before.
    Some (record {
      id = id.0;
      kind = kind.0;
      principals = principals.0;
      after = after.0;
      before = before.0;
      key = before.1;
    }))))))

-- ---- the request of the words

unfoldable pub said_by : Words → Option CertRequestLine
said_by w =
    some_then (cert_type_named w.kind) (λ cert_type.
    some_then (principals_in w.principals) (λ principals.
    some_then (number_named w.after) (λ after.
    some_then (number_named w.before) (λ before.
    some_then (result_ok (line_meaning w.key)) (λ key.
    Some (record {
      id = w.id;
      cert_type = cert_type;
      principals = principals;
      valid_after = timestamp_at after;
      valid_before = timestamp_at before;
      key = key;
    }))))))

-- the id is one
abbrev pub request_named : Words → Option CertRequestLine
request_named w = if is_id w.id then said_by w else None

-- the request of a line whose length a length of the wire can say
unfoldable pub request_in : (line : List ℕ) → Option CertRequestLine
request_in line = if is_short line then some_then (words_in line) request_named else None
