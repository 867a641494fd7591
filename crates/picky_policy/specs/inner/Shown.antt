-- Words of this crate's private contracts: what its values that borrow show.
use Rattle.std.specs.Option.{option_copied}
use Rattle.picky_policy.specs.Decided.{Line}
use Rattle.picky_policy.specs.Demands.{Demands}
use Rattle.picky_policy.specs.declared.demands.Demanded.{Demanded}
use Rattle.picky_policy.specs.declared.key_line.KeyLine.{KeyLine}

-- what a certificate demands
abbrev pub demands_shown : Demanded → Demands
demands_shown d = record {
  force_command = option_copied d.force_command;
  source_address = option_copied d.source_address;
  verify_required = d.verify_required;
}

-- a line's number and options
abbrev pub line_shown : KeyLine → Line
line_shown line = record { number = line.number; options = line.options.now }
