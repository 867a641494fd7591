-- What an element of the wire promises of its layout, for the options of a key derivation.
use Rattle.std.specs.Prelude.{◌≡◌, ◌≢◌, ◌==◌, ◌&&◌, ◌+◌, ◌-◌, ◌^◌, ◌++◌, ◌∷◌, [], Bool, true, false, List, ℕ, nat_lt}
use Rattle.std.specs.Prelude.{length}
use Rattle.std.specs.Prelude.{None, Some, Result, Ok, Err, if◌then◌else◌}
use Rattle.std.specs.Int.{w32, to_be_bytes}
use Rattle.std.proofs.Common.{refl, sym, ap, ◌∙◌, subst, arith}
use Rattle.std.proofs.lemmas.Bool.{eqb-true, ltb-true}
use Rattle.std.proofs.lemmas.List.{append-nil, length-append}
use Rattle.picky_wire_base.specs.Flaw.{Flaw}
use Rattle.picky_wire_base.specs.Narrowed.{Narrowing, meant}
use Rattle.picky_wire_base.specs.Outcome.{and_then, map_err}
use Rattle.picky_wire_base.specs.Row.{Solid}
use Rattle.picky_wire_base.proofs.Solid.{refuses_empty}
use Rattle.picky_wire_base.proofs.Empty.{or_empty_spells, or_empty_spells_empty}
use Rattle.picky_wire_base.proofs.Numbers.{uint32_spells}
use Rattle.picky_wire_base.proofs.Strings.{string_spells}
use Rattle.picky_wire_base.specs.Wire.{byte_array, uint32, string, string_of}
use Rattle.picky_wire.specs.declared.error.WireError.{WireError}
use Rattle.picky_wire.specs.declared.error.WireError.TheVariants as errors
use Rattle.picky_wire_base.proofs.PieceLemmas.{length-string_of}
use Rattle.picky_wire.specs.Flaws.{wire_error}
use Rattle.picky_wire.specs.carried.Flaws.{wire_own}
use Rattle.picky_sshkey.specs.declared.kdf.KdfOption.{KdfOption}
use Rattle.picky_sshkey.specs.Kdf.{HasSaltRoom, is_no_option, kdf_fields, kdf_option, kdf_option_of, no_option}
use Rattle.picky_sshkey.specs.Kdf.{option_inside}
use Rattle.picky_sshkey.specs.KdfLayout.{IsKdfOption, kdf_layout, read_option, unwritten}

-- Options are refused for their length alone.
pub unwritten_for_length : (option : KdfOption) → unwritten option ≡ Some errors.NoMemory → ⊥
unwritten_for_length option is = go (nat_lt (length option.salt) (2 ^ 32 - 8)) is
  where
    go : (short : Bool) → (if short then None else Some errors.TooLong) ≡ Some errors.NoMemory → ⊥
    go true same = cc same
    go false same = cc same

-- A string has at least one byte.
pub option_solid : Solid kdf_layout.piece
unfolding kdf_option string uint32 byte_array
option_solid = refuses_empty kdf_layout errors.UnexpectedEnd refl

-- what follows is beside what is said
abbrev beside : {E B : Type 0} → List ℕ → B → Result (B × List ℕ) E
beside rest v = Ok (v, rest)

said : {B : Type 0} (s : Result B Flaw) (rest : List ℕ)
    → and_then (map_err wire_error s) (beside rest) ≡ map_err wire_error (and_then s (beside rest))
said (Ok v) rest = refl
said (Err flaw) rest = refl

judged_narrowing : {B : Type 0} (r : Result (List ℕ × List ℕ) Flaw) (M : Narrowing Flaw (List ℕ) B)
    → and_then (map_err wire_error r) (λ found. and_then (map_err wire_error (M.decide found.0)) (beside found.1))
    ≡ map_err wire_error (and_then (map_err (λ flaw. flaw) r) (meant M))
judged_narrowing (Err flaw) M = refl
judged_narrowing (Ok found) M = said (M.decide found.0) found.1

-- They are read by their layout.
pub option_reads_layout : (bytes : List ℕ) → read_option bytes ≡ kdf_layout.read bytes
unfolding read_option kdf_option
option_reads_layout bytes = judged_narrowing (string.read bytes) option_inside

-- No bytes are refused for a fault or for want of memory.
pub option_own : (bytes : List ℕ) (e : WireError) → read_option bytes ≡ Err e
    → (e ≢ errors.ReadFault) × (e ≢ errors.NoMemory)
option_own bytes e refused = wire_own (kdf_option.read bytes) e (Prim.cc (option_reads_layout bytes, refused))

-- They take the string.
pub option_used : (bytes : List ℕ) → string.used bytes ≡ kdf_layout.used bytes
unfolding kdf_option
option_used bytes = refl

fields_spell : (option : KdfOption) → IsKdfOption option → HasSaltRoom option
    → kdf_fields.piece option (string_of option.salt ++ to_be_bytes w32 option.rounds)
unfolding kdf_fields
fields_spell option keeps room = (
  option.salt,
  string_of option.salt,
  to_be_bytes w32 option.rounds,
  string_spells option.salt keeps.salt.short,
  (
    option.rounds,
    to_be_bytes w32 option.rounds,
    [],
    uint32_spells option.rounds keeps.rounds,
    (refl, refl),
    sym (append-nil (to_be_bytes w32 option.rounds)),
  ),
  refl,
)

has_room : (option : KdfOption) → unwritten option ≡ None → HasSaltRoom option
has_room option written = go (nat_lt (length option.salt) (2 ^ 32 - 8)) refl
  where
    go : (short : Bool) → nat_lt (length option.salt) (2 ^ 32 - 8) ≡ short → HasSaltRoom option
    go true is = ltb-true _ _ is
    go false is = absurd (cc (is, written))

both : (x y : Bool) → (x && y) ≡ true → (x ≡ true) × (y ≡ true)
both true true same = (refl, refl)
both true false same = cc same
both false y same = cc same

no_bytes : (bytes : List ℕ) → length bytes ≡ 0 → bytes ≡ []
no_bytes [] same = refl
no_bytes (b ∷ bytes) same = absurd (omega (arith, same))

is_none : (option : KdfOption) → is_no_option option ≡ true → option ≡ no_option
is_none option none =
    let parts = both (length option.salt == 0) (option.rounds == 0) none in
    let salt = no_bytes option.salt (eqb-true (length option.salt) 0 parts.0) in
    let rounds = eqb-true option.rounds 0 parts.1 in
    ap (λ bytes. record { salt = bytes; rounds = option.rounds }) salt ∙ ap (λ n. record { salt = []; rounds = n }) rounds

-- What is written is a piece.
pub option_spells : (option : KdfOption) → IsKdfOption option → unwritten option ≡ None
    → kdf_layout.piece option (kdf_option_of option)
unfolding kdf_option kdf_option_of
option_spells option keeps written = go (is_no_option option) refl
  where
    go : (none : Bool) → is_no_option option ≡ none → kdf_layout.piece option (kdf_option_of option)
    go true is = rw (is, is_none option is) (or_empty_spells_empty (λ flaw. flaw) no_option kdf_fields)
    go false is =
        let fields : List ℕ = string_of option.salt ++ to_be_bytes w32 option.rounds in
        let all = append-nil fields in
        let len : length fields ≡ length option.salt + 8 =
        omega (arith, length-append (string_of option.salt) (to_be_bytes w32 option.rounds), length-string_of option.salt) in
        let room = has_room option written in
        rw is (subst (λ b. kdf_layout.piece option (string_of b)) all
        (or_empty_spells (λ flaw. flaw) no_option kdf_fields option fields [] (omega (arith, len))
        (fields_spell option keeps room) (omega (arith, len, room, ap length all))))
