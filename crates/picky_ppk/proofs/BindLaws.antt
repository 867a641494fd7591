-- A MAC binds the fields that it covers.
use Rattle.std.proofs.Common.{◌≡◌, ◌<◌, ◌^◌, ◌++◌, ◌∙◌, ℕ, List, Bool, true, false, ap, sym, refl, length, lit<}
use Rattle.std.specs.Prelude.{Some}
use Rattle.picky_kv.specs.Literal.{AreNamed, value_named}
use Rattle.picky_kv.specs.Choices.{encryption_literal, encryptions}
use Rattle.picky_kv_words.specs.carried.Choices.{encryptions_are_named}
use Rattle.picky_kv.specs.declared.PpkEncryptionValue.{PpkEncryptionValue}
use Rattle.picky_kv.specs.declared.PpkEncryptionValue.TheVariants.{None, Aes256Cbc}
use Rattle.picky_kv.specs.declared.algorithm.PpkKeyAlgorithmValue.{PpkKeyAlgorithmValue}
use Rattle.picky_kv.specs.declared.algorithm.PpkKeyAlgorithmValue.TheVariants.{Rsa, Dss, EcdsaSha2Nistp256}
use Rattle.picky_kv.specs.declared.algorithm.PpkKeyAlgorithmValue.TheVariants.{EcdsaSha2Nistp384}
use Rattle.picky_kv.specs.declared.algorithm.PpkKeyAlgorithmValue.TheVariants.{EcdsaSha2Nistp521, Ed25519, Ed448}
use Rattle.picky_kv.specs.Algorithm.{algorithm_literal, algorithms}
use Rattle.picky_kv.specs.carried.Algorithm.{algorithms_are_named}
use Rattle.picky_ppk_parts.specs.MacFields.{MacFields, AreShort}
use Rattle.picky_ppk_parts.proofs.MacLaws.{input_has_one_front}
use Rattle.picky_ppk_file.specs.declared.file.PpkFile.{PpkFile}
use Rattle.picky_ppk_file.specs.declared.file.PpkSealing.{PpkSealing}
use Rattle.picky_ppk_file.specs.declared.file.PpkSealing.TheVariants.{Unsealed, SealedV2, SealedV3}
use Rattle.picky_ppk_file.specs.File.{IsFile, is_sealed, encryption_of}
use Rattle.picky_ppk.specs.Mac.{covered}

-- A literal names one value.
one_value : {A : Type 0} (literal : A → List ℕ) (values : List A) → AreNamed literal values → (v w : A)
    → literal v ≡ literal w → v ≡ w
one_value literal values named v w same =
    let some : Some v ≡ Some w = sym (named v) ∙ ap (value_named literal values) same ∙ named w in cc some

-- ---- each literal is short

algorithm_short : (v : PpkKeyAlgorithmValue) → length (algorithm_literal v) < 2 ^ 32
algorithm_short Rsa = lit< tt
algorithm_short Dss = lit< tt
algorithm_short EcdsaSha2Nistp256 = lit< tt
algorithm_short EcdsaSha2Nistp384 = lit< tt
algorithm_short EcdsaSha2Nistp521 = lit< tt
algorithm_short Ed25519 = lit< tt
algorithm_short Ed448 = lit< tt

encryption_short : (v : PpkEncryptionValue) → length (encryption_literal v) < 2 ^ 32
encryption_short None = lit< tt
encryption_short Aes256Cbc = lit< tt

-- ---- the fields

abbrev fields_of : PpkFile → (private : List ℕ) → MacFields
fields_of f private = record {
  algorithm = algorithm_literal f.algorithm;
  encryption = encryption_literal (encryption_of f.sealing);
  comment = f.comment;
  public = f.public_key;
  private = private;
}

fields_short : (f : PpkFile) (private : List ℕ) → IsFile f → length private < 2 ^ 32 → AreShort (fields_of f private)
fields_short f private is short = record {
  algorithm = algorithm_short f.algorithm;
  encryption = encryption_short (encryption_of f.sealing);
  comment = is.comment;
  public = is.public_key.0;
  private = short;
}

-- An encryption says whether the file is sealed.
abbrev seals : PpkEncryptionValue → Bool
seals None = false
seals Aes256Cbc = true

encryption_seals : (s : PpkSealing) → seals (encryption_of s) ≡ is_sealed s
encryption_seals (Unsealed version) = refl
encryption_seals SealedV2 = refl
encryption_seals (SealedV3 params) = refl

same_sealed : (s t : PpkSealing) → encryption_literal (encryption_of s) ≡ encryption_literal (encryption_of t)
    → is_sealed s ≡ is_sealed t
same_sealed s t same =
    let value = one_value encryption_literal encryptions encryptions_are_named (encryption_of s) (encryption_of t) same in
    sym (encryption_seals s) ∙ ap seals value ∙ encryption_seals t

-- What a MAC covers says the fields.
pub covered_binds : (f g : PpkFile) (a b x y : List ℕ) → IsFile f → IsFile g → length a < 2 ^ 32 → length b < 2 ^ 32
    → covered f a ++ x ≡ covered g b ++ y
    → (f.algorithm ≡ g.algorithm) × (is_sealed f.sealing ≡ is_sealed g.sealing) × (f.comment ≡ g.comment)
    × (f.public_key ≡ g.public_key) × (a ≡ b)
covered_binds f g a b x y is_f is_g short_a short_b same =
    let fields = input_has_one_front (fields_of f a) (fields_of g b) x y (fields_short f a is_f short_a)
    (fields_short g b is_g short_b) same in (
      one_value algorithm_literal algorithms algorithms_are_named f.algorithm g.algorithm
          (ap (λ (h : MacFields). h.algorithm) fields),
      same_sealed f.sealing g.sealing (ap (λ (h : MacFields). h.encryption) fields),
      ap (λ (h : MacFields). h.comment) fields,
      ap (λ (h : MacFields). h.public) fields,
      ap (λ (h : MacFields). h.private) fields,
    )
