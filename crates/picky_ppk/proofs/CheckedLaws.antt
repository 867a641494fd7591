-- A file that is sealed, or carries its own MAC, is taken as it is read, and no other.
use Rattle.std.specs.Prelude.{◌≡◌, ◌⊎◌, Bool, true, false, List, ℕ, ◌++◌, Ok, Err, if◌then◌else◌}
use Rattle.std.proofs.Common.{inl, inr, refl, sym, ap, subst, ◌∙◌}
use Rattle.std.specs.Str.{bytes_eq}
use Rattle.std.proofs.lemmas.Slice.Eq.{bytes_eq-Decides}
use Rattle.picky_wire_base.specs.Outcome.{and_then}
use Rattle.picky_suite.specs.Meanings.{Meanings}
use Rattle.picky_ppk_parts.specs.declared.error.PuttyError.{PuttyError}
use Rattle.picky_ppk_parts.specs.declared.error.PuttyError.TheVariants as errors
use Rattle.picky_ppk_file.specs.declared.file.PpkFile.{PpkFile}
use Rattle.picky_ppk_file.specs.File.{is_sealed}
use Rattle.picky_ppk_file.specs.FileRefusal.{file_meaning}
use Rattle.picky_ppk.specs.Mac.{own_mac, CarriesMac, with_own_mac}
use Rattle.picky_ppk.specs.Checked.{checked, ppk_meaning}

-- Such a file is taken.
pub file_is_taken : (m : Meanings) (f : PpkFile) → (is_sealed f.sealing ≡ true) ⊎ CarriesMac m f → checked m f ≡ Ok f
unfolding checked
file_is_taken m f holds = elim holds [
  | inl sealed ↦ rw sealed refl
  | inr carries ↦
      let same = (bytes_eq-Decides (own_mac m f) f.mac).1 (sym carries.1) in
      rw (carries.0, same) refl
]

-- So where its lines are read, its text is.
pub read_file_is_taken : (m : Meanings) (f : PpkFile) (text more : List ℕ) → file_meaning (text ++ more) ≡ Ok f
    → (is_sealed f.sealing ≡ true) ⊎ CarriesMac m f → ppk_meaning m (text ++ more) ≡ Ok f
unfolding ppk_meaning
read_file_is_taken m f text more read holds = ap (λ r. and_then r (checked m)) read ∙ file_is_taken m f holds

-- what both tests let pass
passed : (sealed same : Bool) (e : PuttyError) (f g : PpkFile)
    → (if sealed then Ok f else if same then Ok f else Err e) ≡ Ok g → (f ≡ g) × ((sealed ≡ true) ⊎ (same ≡ true))
passed true same e f g is = (cc is, inl refl)
passed false true e f g is = (cc is, inr refl)
passed false false e f g is = cc is

-- What is taken and isn't sealed carries its own MAC.
pub taken_file_carries : (m : Meanings) (f g : PpkFile) → checked m f ≡ Ok g → is_sealed g.sealing ≡ false → CarriesMac m g
unfolding checked
taken_file_carries m f g is =
    let both = passed (is_sealed f.sealing) (bytes_eq (own_mac m f) f.mac) errors.MacValidation f g is in
    subst (λ (h : PpkFile). is_sealed h.sealing ≡ false → CarriesMac m h) both.0
    (λ unsealed. elim both.1 [
      | inl sealed ↦ cc (sealed, unsealed)
      | inr same ↦ (unsealed, sym ((bytes_eq-Decides (own_mac m f) f.mac).0 same))
    ])

-- What is made with its own MAC carries it.
pub made_file_carries : (m : Meanings) (f g : PpkFile) → is_sealed f.sealing ≡ false → g ≡ with_own_mac m f → CarriesMac m g
unfolding own_mac
made_file_carries m f g unsealed is = subst (CarriesMac m) (sym is) (unsealed, refl)

pub ruleset mac_laws = (taken_file_carries, made_file_carries)

pub ruleset read_texts = (read_file_is_taken)
