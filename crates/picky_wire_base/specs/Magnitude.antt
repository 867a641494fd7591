-- The numbers that an mpint may stand for, and which bytes stand for them. RFC 4251, section 5, wants no zero byte
-- too many, and of bytes from 128 on without one says that they are negative; both are read as the number.
use Rattle.std.specs.Prelude.{◌≡◌, List, ℕ, ◌-◌, ◌++◌, ◌<◌, ◌^◌, nat_lt, length, replicate}
use Rattle.std.specs.Prelude.{if◌then◌else◌, Result, Ok, Err}
use Rattle.picky_wire_base.specs.Flaw.{Flaw, Big}
use Rattle.picky_wire_base.specs.Zeros.{BeginsWithNoZero, without_zeros}

-- the bytes of a number, most significant first: no 0 begins them, and one more fits a string
pub record IsMagnitude (v : List ℕ) : Type 0 where
  pub begins : BeginsWithNoZero v
  pub short : length v < 2 ^ 32 - 1

-- ---- zeros in front are read and not kept

-- the bytes stand for this number
pub record StandsFor (bytes v : List ℕ) : Type 0 where
  pub mpint : IsMagnitude v
  -- how many zeros stand in front
  pub zeros : ℕ
  pub are : bytes ≡ replicate zeros 0 ++ v

-- the number that the bytes stand for
abbrev pub read_mpint : List ℕ → Result (List ℕ) Flaw
read_mpint bytes =
    let v = without_zeros bytes in
    if nat_lt (length v) (2 ^ 32 - 1) then Ok v else Err Big
