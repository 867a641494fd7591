-- Two files are equal exactly where their fields are.
use Rattle.std.specs.Prelude.{◌≡◌, ◌↔◌, IsTrue, List, ℕ, nat_eq}
use Rattle.std.proofs.Common.{rules, ap, refl}
use Rattle.std.proofs.lemmas.Bool.Decides.{Decides-and, Decides-like}
use lib.Pointwise.{pointwise}
use Rattle.picky_kv.specs.declared.algorithm.PpkKeyAlgorithmValue.{PpkKeyAlgorithmValue}
use Rattle.picky_kv.specs.contracts.algorithm.PpkKeyAlgorithmValuePartialEq.TheImpl as algorithm
use Rattle.picky_ppk_file.specs.contracts.file.PpkSealingPartialEq.TheImpl as sealing
use Rattle.picky_ppk_file.specs.contracts.file.PpkFilePartialEq.TheImpl as whole
use Rattle.picky_ppk_file.specs.declared.file.PpkSealing.{PpkSealing}
use Rattle.picky_ppk_file.specs.declared.file.PpkFile.{PpkFile}

-- a file of its fields
abbrev made : PpkSealing → PpkKeyAlgorithmValue → List ℕ → List ℕ → List ℕ → List ℕ → PpkFile
made s a c b p m = record {
  sealing = s;
  algorithm = a;
  comment = c;
  public_key = b;
  private_bytes = p;
  mac = m;
}

-- Two sealings are equal exactly where they are the same.
sealing_equal : (a b : PpkSealing) → IsTrue (sealing.ghosts.eq a b) ↔ (a ≡ b)
sealing_equal = search rules

-- So are two algorithms.
algorithm_equal : (a b : PpkKeyAlgorithmValue) → IsTrue (algorithm.ghosts.eq a b) ↔ (a ≡ b)
algorithm_equal = search rules

-- So are two lists of bytes.
bytes_equal : (a b : List ℕ) → IsTrue (pointwise nat_eq a b) ↔ (a ≡ b)
bytes_equal = search rules

-- Fields that are equal make equal files.
parts_equal : (s t : PpkSealing) (a d : PpkKeyAlgorithmValue) (c e b g p q m n : List ℕ) → s ≡ t → a ≡ d → c ≡ e → b ≡ g
    → p ≡ q → m ≡ n → made s a c b p m ≡ made t d e g q n
parts_equal s t a d c e b g p q m n one two three four five six = rw (one, two, three, four, five, six) refl

-- Files of equal fields are one file.
same_file : (f g : PpkFile) → f.sealing ≡ g.sealing → f.algorithm ≡ g.algorithm → f.comment ≡ g.comment
    → f.public_key ≡ g.public_key → f.private_bytes ≡ g.private_bytes → f.mac ≡ g.mac → f ≡ g
same_file f g =
    parts_equal f.sealing g.sealing f.algorithm g.algorithm f.comment g.comment f.public_key g.public_key
    f.private_bytes g.private_bytes f.mac g.mac

-- Two files are equal exactly where their fields are.
pub file_equal : (f g : PpkFile) → IsTrue (whole.ghosts.eq f g) ↔ (f ≡ g)
file_equal f g =
    Decides-like _
    (λ w. same_file f g w.0 w.1.0 w.1.1.0 w.1.1.1.0 w.1.1.1.1.0 w.1.1.1.1.1)
    (λ same. (
      ap (λ k. k.sealing) same,
      (
        ap (λ k. k.algorithm) same,
        (
          ap (λ k. k.comment) same,
          (ap (λ k. k.public_key) same, (ap (λ k. k.private_bytes) same, ap (λ k. k.mac) same)),
        ),
      ),
    ))
    (Decides-and _ _ (sealing_equal f.sealing g.sealing)
    (Decides-and _ _ (algorithm_equal f.algorithm g.algorithm)
    (Decides-and _ _ (bytes_equal f.comment g.comment)
    (Decides-and _ _ (bytes_equal f.public_key g.public_key)
    (Decides-and _ _ (bytes_equal f.private_bytes g.private_bytes) (bytes_equal f.mac g.mac))))))
