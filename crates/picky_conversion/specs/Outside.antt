-- What a conversion has beside its key text.
use Rattle.std.specs.Prelude.{List, ℕ, Option}
use Rattle.std.specs.Option.{option_copied}
use denote.Ref.{Bor}
use Rattle.picky_suite.specs.Meanings.{Meanings}
use Rattle.picky_key_text.specs.Reader.{Reader}
use Rattle.picky_target.specs.Output.{Output}
use Rattle.picky_target.specs.ReadBack.{under}
use Rattle.picky_conversion.specs.declared.given.ConversionGiven.{ConversionGiven}

-- what a suite's calls mean, the passphrase that the key text is read under, and what is written under
pub record Outside : Type 0 where
  pub meanings : Meanings
  pub pass_in : Option (List ℕ)
  pub output : Output

-- the key text is read so
abbrev pub reader : Outside → Reader
reader o = under o.meanings o.pass_in

-- and the text that is written
abbrev pub reader_back : Outside → Reader
reader_back o = under o.meanings o.output.pass

-- what a call's arguments are, as a conversion has it
abbrev pub outside_of : Meanings → (pass_in pass_out : Option (Bor (List ℕ))) → (fresh : List ℕ) → Outside
outside_of m pass_in pass_out fresh = record {
  meanings = m;
  pass_in = option_copied pass_in;
  output = record { pass = option_copied pass_out; fresh = fresh };
}

-- the same of what is given together
abbrev pub outside : Meanings → ConversionGiven → Outside
outside m given = outside_of m given.pass_in given.pass_out given.fresh.now
