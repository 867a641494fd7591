use Rattle.std.specs.Prelude.{◌<◌, ◌^◌, length, IsUtf8}
use Rattle.std.specs.Int.{w8, w32, w64, to_be_bytes}
use Rattle.picky_wire_base.specs.Wire.{uint32, string, string_of, text}
use Rattle.picky_wire_base.specs.Numbers.{byte, uint64}
use Rattle.picky_wire_base.proofs.Numbers.{byte_exact, uint32_exact, uint64_exact}
use Rattle.picky_wire_base.proofs.Strings.{string_exact, text_exact}
use Rattle.picky_wire_base.specs.Mpint.{IsMpintPiece, mpint}
use Rattle.picky_wire_base.proofs.MpintLaws.{mpint_exact}
use Rattle.picky_wire_base.proofs.ReadingLaws.{fits_of_bytes, spelling_of_bytes}
use Rattle.picky_wire.proofs.laws.fields_take_the_standards_pieces.Goals as goal

pub returns : goal.returns
returns g c =
    let bytes = g.met.S.Source.bytes in
    record {
      byte = λ before after n told is.
          spelling_of_bytes byte (to_be_bytes w8) (λ m. m < 2 ^ 8) byte_exact _ n _ (bytes before told) is;
      uint32 = λ before after n told is.
          spelling_of_bytes uint32 (to_be_bytes w32) (λ m. m < 2 ^ 32) uint32_exact _ n _ (bytes before told) is;
      uint64 = λ before after n told is.
          spelling_of_bytes uint64 (to_be_bytes w64) (λ m. m < 2 ^ 64) uint64_exact _ n _ (bytes before told) is;
      string = λ before after v told is.
          spelling_of_bytes string string_of (λ w. length w < 2 ^ 32) string_exact _ v _ (bytes before told) is;
      text = λ before after v told is.
          let taken = spelling_of_bytes text string_of (λ w. (length w < 2 ^ 32) × IsUtf8 w)
          (λ w piece each spells. let exact = text_exact w piece each spells in (exact.0, (exact.1, exact.2)))
          _ v _ (bytes before told) is in
          (taken.0, taken.1.0, taken.1.1);
      mpint = λ before after v told is.
          fits_of_bytes mpint IsMpintPiece mpint_exact _ v _ (bytes before told) is;
    }
