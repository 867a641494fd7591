-- What the views of private bytes show, and what they are stopped by.
use Rattle.std.specs.Prelude.{List, ℕ}
use Rattle.picky_wire_base.specs.Magnitude.{IsMagnitude}
use Rattle.picky_wire_base.specs.declared.view.Part.{Part}
use Rattle.picky_ppk_parts.specs.Number.{padded_number}
use Rattle.picky_ppk_parts.specs.declared.secret.RsaParts.{RsaParts}
use Rattle.picky_ppk_parts.specs.Secret.{RsaSecret}

-- the numbers that the parts make
abbrev pub rsa_seen : RsaParts → RsaSecret
rsa_seen parts =
    record { d = parts.d.bytes.now; p = parts.p.bytes.now; q = parts.q.bytes.now; iqmp = parts.iqmp.bytes.now }

-- the secret whose number a part is
abbrev pub ed_seen : Part → List ℕ
ed_seen part = padded_number part.bytes.now

-- each is a number
pub record AreNumbers (secret : RsaSecret) : Type 0 where
  pub d : IsMagnitude secret.d
  pub p : IsMagnitude secret.p
  pub q : IsMagnitude secret.q
  pub iqmp : IsMagnitude secret.iqmp
