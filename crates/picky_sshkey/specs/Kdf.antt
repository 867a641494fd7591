-- What is given to a derivation beside the passphrase (OpenSSH's PROTOCOL.key, section 2): nothing, or bcrypt's salt and rounds.
use Rattle.std.specs.Prelude.{List, [], ℕ, Bool, ◌++◌, ◌==◌, ◌&&◌, ◌<◌, ◌-◌, ◌^◌, if◌then◌else◌, length, codes}
use Rattle.std.specs.Int.{w32, to_be_bytes}
use Rattle.picky_wire_base.specs.Flaw.{Flaw}
use Rattle.picky_wire_base.specs.Grammar.{Grammar}
use Rattle.picky_wire_base.specs.Combine.{done, ◌>>=◌}
use Rattle.picky_wire_base.specs.Wire.{string, string_of, uint32}
use Rattle.picky_wire_base.specs.Inside.{begins, inside}
use Rattle.picky_wire_base.specs.Narrowed.{Narrowing}
use Rattle.picky_wire_base.specs.OrEmpty.{empty_or}
use Rattle.picky_sshkey.specs.declared.kdf.KdfOption.{KdfOption}

-- the names of no cipher and no derivation, and of the one derivation
unfoldable pub none : List ℕ
none = codes "none"

unfoldable pub bcrypt : List ℕ
bcrypt = codes "bcrypt"

-- string salt
-- uint32 rounds
unfoldable pub kdf_fields : Grammar Flaw KdfOption
kdf_fields = do
  salt ← string
  rounds ← uint32
  done (record { salt = salt; rounds = rounds })

-- no salt, and 0 rounds
abbrev pub no_option : KdfOption
no_option = record { salt = []; rounds = 0 }

-- a string of these fields, whose rest says nothing; an empty one is no salt and 0 rounds
abbrev pub option_inside : Narrowing Flaw (List ℕ) KdfOption
option_inside = empty_or no_option (begins kdf_fields)

unfoldable pub kdf_option : Grammar Flaw KdfOption
kdf_option = inside (λ flaw. flaw) option_inside

-- ---- the one spelling that is written

abbrev pub is_no_option : KdfOption → Bool
is_no_option option = length option.salt == 0 && option.rounds == 0

-- what stands in the string
abbrev pub option_fields : KdfOption → List ℕ
option_fields option =
    if is_no_option option then [] else string_of option.salt ++ to_be_bytes w32 option.rounds

unfoldable pub kdf_option_of : KdfOption → List ℕ
kdf_option_of option = string_of (option_fields option)

-- the salt leaves room in the string for its length and the rounds
abbrev pub HasSaltRoom : KdfOption → Type 0
HasSaltRoom option = length option.salt < 2 ^ 32 - 8
