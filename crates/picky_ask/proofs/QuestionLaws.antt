-- Questions and tables are read back from their bytes.
use Rattle.std.proofs.Common.{◌≡◌, ◌<◌, ◌^◌, ◌∙◌, ◌++◌, ℕ, List, [], length, refl, sym, ap, arith, append_assoc}
use Rattle.std.specs.Int.{w8, w32, to_be_bytes}
use Rattle.std.specs.Prelude.{All, Ok}
use Rattle.std.specs.List.{flat_map}
use Rattle.std.proofs.lemmas.List.{append-nil}
use Rattle.picky_wire_base.specs.Row.{Row}
use Rattle.picky_wire_base.specs.Wire.{byte_array, string, string_of}
use Rattle.picky_wire_base.specs.carried.Outcome.{same_pair}
use Rattle.picky_wire_base.specs.carried.Row.{row_sound, row_complete}
use Rattle.picky_wire_base.proofs.Grammar.{one_front}
use Rattle.picky_wire_base.proofs.Numbers.{byte_spells, uint32_spells}
use Rattle.picky_wire_base.proofs.Row.{row_spells}
use Rattle.picky_wire_base.proofs.Strings.{string_spells, string_reads_back}
use Rattle.picky_keys.specs.declared.algorithm.HashAlgorithm.{HashAlgorithm}
use Rattle.picky_keys.specs.declared.algorithm.HashAlgorithm.TheVariants as digests
use Rattle.picky_keys.specs.declared.algorithm.SignatureAlgorithm.{SignatureAlgorithm}
use Rattle.picky_keys.specs.declared.algorithm.SignatureAlgorithm.TheVariants as algorithms
use Rattle.picky_suite.specs.declared.flavour.Flavour.{Flavour}
use Rattle.picky_suite.specs.declared.flavour.Flavour.TheVariants as kinds_of_argon2
use Rattle.picky_ask.specs.declared.operation.AlgorithmKind.TheVariants as variants
use Rattle.picky_ask.specs.declared.operation.Operation.{Operation}
use Rattle.picky_ask.specs.declared.operation.Operation.TheVariants as ops
use Rattle.picky_ask.specs.declared.question.Head.{Head}
use Rattle.picky_ask.specs.declared.question.Head.TheVariants as heads
use Rattle.picky_ask.specs.declared.question.Question.{Question}
use Rattle.picky_ask.specs.declared.question.Entry.{Entry}
use Rattle.picky_ask.specs.OperationNumber.{operation_number, flavour_number}
use Rattle.picky_ask.specs.AlgorithmNumber.{hash_number, kind_number, algorithm_kind, algorithm_hash}
use Rattle.picky_ask.specs.Operation.{operations, flavours}
use Rattle.picky_ask.specs.Algorithm.{kinds, hashes, kind, hash, no_hash, kind_hash, algorithm}
use Rattle.picky_ask.specs.Head.{operation, flavour, bcrypt_fields, argon2_fields, cipher_fields, sign_fields, head, head_of, IsHead}
use Rattle.picky_ask.specs.Lookup.{question}
use Rattle.picky_ask.specs.Question.{question_of, entry_of, IsQuestion, IsEntry}
use Rattle.picky_ask.specs.Table.{entry, string_whole, table_of}
use Rattle.picky_ask.proofs.TableLemmas.{entry_solid}

-- ---- the numbers of a head

operation_small : (op : Operation) → operation_number op < 2 ^ 8
operation_small ops.Bcrypt = omega arith
operation_small ops.Argon2 = omega arith
operation_small ops.CbcSeal = omega arith
operation_small ops.CbcOpen = omega arith
operation_small ops.Ctr = omega arith
operation_small ops.Sign = omega arith
operation_small ops.Verify = omega arith

operation_spells : (op : Operation) → operation.piece op (to_be_bytes w8 (operation_number op))
unfolding operation operations
operation_spells op = (operation_number op, byte_spells (operation_number op) (operation_small op), refl)

flavour_small : (f : Flavour) → flavour_number f < 2 ^ 8
flavour_small kinds_of_argon2.Argon2d = omega arith
flavour_small kinds_of_argon2.Argon2i = omega arith
flavour_small kinds_of_argon2.Argon2id = omega arith

flavour_spells : (f : Flavour) → flavour.piece f (to_be_bytes w8 (flavour_number f))
unfolding flavour flavours
flavour_spells f = (flavour_number f, byte_spells (flavour_number f) (flavour_small f), refl)

hash_small : (h : HashAlgorithm) → hash_number h < 2 ^ 8
hash_small digests.MD5 = omega arith
hash_small digests.SHA1 = omega arith
hash_small digests.SHA2_224 = omega arith
hash_small digests.SHA2_256 = omega arith
hash_small digests.SHA2_384 = omega arith
hash_small digests.SHA2_512 = omega arith

hash_spells : (h : HashAlgorithm) → hash.piece h (to_be_bytes w8 (hash_number h))
unfolding hash hashes
hash_spells h = (hash_number h, byte_spells (hash_number h) (hash_small h), refl)

algorithm_spells : (a : SignatureAlgorithm)
    → algorithm.piece a (to_be_bytes w8 (kind_number (algorithm_kind a)) ++ to_be_bytes w8 (algorithm_hash a))
unfolding algorithm kind kinds kind_hash no_hash
algorithm_spells (algorithms.RsaPkcs1v15 h) = (
  variants.Rsa,
  _,
  to_be_bytes w8 (hash_number h),
  (1, byte_spells 1 (omega arith), refl),
  (h, _, [], hash_spells h, (refl, refl), sym (append-nil (to_be_bytes w8 (hash_number h)))),
  refl,
)
algorithm_spells (algorithms.Ecdsa h) = (
  variants.Ecdsa,
  _,
  to_be_bytes w8 (hash_number h),
  (2, byte_spells 2 (omega arith), refl),
  (h, _, [], hash_spells h, (refl, refl), sym (append-nil (to_be_bytes w8 (hash_number h)))),
  refl,
)
algorithm_spells algorithms.Ed25519 = (
  variants.Ed25519,
  _,
  to_be_bytes w8 0,
  (3, byte_spells 3 (omega arith), refl),
  (0, _, [], (0, byte_spells 0 (omega arith), (refl, refl)), (refl, refl), refl),
  refl,
)

-- ---- heads

cipher_spells : (make : List ℕ → List ℕ → Head) (key iv : List ℕ) → length key < 2 ^ 32 → length iv < 2 ^ 32
    → (cipher_fields make).piece (make key iv) (string_of key ++ (string_of iv ++ []))
unfolding cipher_fields
cipher_spells make key iv key_short iv_short =
    (key, _, _, string_spells key key_short, (iv, _, _, string_spells iv iv_short, (refl, refl), refl), refl)

-- a head's one spelling is a piece
pub head_spells : (h : Head) → IsHead h → head.piece h (head_of h)
unfolding head head_of bcrypt_fields argon2_fields sign_fields
head_spells (heads.Bcrypt len rounds salt) is = (
  ops.Bcrypt,
  _,
  _,
  operation_spells ops.Bcrypt,
  (len, _, _, uint32_spells len is.0, (rounds, _, _, uint32_spells rounds is.1, (salt, _, _, string_spells salt is.2, (refl, refl), refl), refl), refl),
  refl,
)
head_spells (heads.Argon2 f memory passes parallelism salt) is = (
  ops.Argon2,
  _,
  _,
  operation_spells ops.Argon2,
  (
    f,
    _,
    _,
    flavour_spells f,
    (
      memory,
      _,
      _,
      uint32_spells memory is.0,
      (passes, _, _, uint32_spells passes is.1, (parallelism, _, _, uint32_spells parallelism is.2, (salt, _, _, string_spells salt is.3, (refl, refl), refl), refl), refl),
      refl,
    ),
    refl,
  ),
  refl,
)
head_spells (heads.CbcSeal key iv) is = (ops.CbcSeal, _, _, operation_spells ops.CbcSeal, cipher_spells heads.CbcSeal key iv is.0 is.1, refl)
head_spells (heads.CbcOpen key iv) is = (ops.CbcOpen, _, _, operation_spells ops.CbcOpen, cipher_spells heads.CbcOpen key iv is.0 is.1, refl)
head_spells (heads.Ctr key iv) is = (ops.Ctr, _, _, operation_spells ops.Ctr, cipher_spells heads.Ctr key iv is.0 is.1, refl)
head_spells (heads.Sign by key) is = (
  ops.Sign,
  _,
  _,
  operation_spells ops.Sign,
  (
    by,
    to_be_bytes w8 (kind_number (algorithm_kind by)) ++ to_be_bytes w8 (algorithm_hash by),
    _,
    algorithm_spells by,
    (key, _, [], string_spells key is, (refl, refl), refl),
    sym (append_assoc (to_be_bytes w8 (kind_number (algorithm_kind by))) (to_be_bytes w8 (algorithm_hash by)) (string_of key ++ [])),
  ),
  refl,
)
head_spells (heads.Verify key signature) is =
    (ops.Verify, _, _, operation_spells ops.Verify, cipher_spells heads.Verify key signature is.0 is.1, refl)

-- the same bytes are the same head
head_one : (h k : Head) → IsHead h → IsHead k → head_of h ≡ head_of k → h ≡ k
head_one h k is_h is_k same =
    (one_front head h k (head_of h) (head_of k) [] [] (head_spells h is_h) (head_spells k is_k) (ap (λ b. b ++ []) same)).value

-- ---- questions

-- the string in front, and what follows it
string_one : (v w x y : List ℕ) → length v < 2 ^ 32 → length w < 2 ^ 32 → string_of v ++ x ≡ string_of w ++ y → (v ≡ w) × (x ≡ y)
string_one v w x y short_v short_w same =
    same_pair (string.read (string_of v ++ x)) v w x y (string_reads_back v x short_v)
    (ap string.read same ∙ string_reads_back w y short_w)

pub question_one : (q r : Question) (x y : List ℕ) → IsQuestion q → IsQuestion r → question_of q ++ x ≡ question_of r ++ y
    → (q ≡ r) × (x ≡ y)
unfolding question_of
question_one q r x y is_q is_r same =
    let first = string_one (head_of q.head) (head_of r.head) (string_of q.text ++ x) (string_of r.text ++ y) is_q.short is_r.short
    (sym (append_assoc (string_of (head_of q.head)) (string_of q.text) x) ∙ same
    ∙ append_assoc (string_of (head_of r.head)) (string_of r.text) y) in
    let second = string_one q.text r.text x y is_q.text is_r.text first.1 in (
      ap (λ h. question h q.text) (head_one q.head r.head is_q.head is_r.head first.0) ∙ ap (λ t. question r.head t) second.0,
      second.1,
    )

-- ---- tables

whole_spells : (v : List ℕ) → length v < 2 ^ 32 → string_whole.piece v (string_of v)
unfolding string_whole string_of byte_array
whole_spells v short = (length v, to_be_bytes w32 (length v), v, uint32_spells (length v) short, (refl, refl), refl)

entry_spells : (e : Entry) → IsEntry e → entry.piece e (entry_of e)
unfolding entry entry_of question_of
entry_spells e is =
    let h = string_of (head_of e.question.head) in
    let t = string_of e.question.text in
    let a = string_of e.answer in (
      e.question.head,
      h,
      t ++ (a ++ []),
      (head_of e.question.head, whole_spells (head_of e.question.head) is.question.short, head_spells e.question.head is.question.head),
      (e.question.text, t, a ++ [], whole_spells e.question.text is.question.text, (e.answer, a, [], whole_spells e.answer is.answer, (refl, refl), refl), refl),
      append_assoc h t a ∙ ap (λ b. h ++ (t ++ b)) (sym (append-nil a)),
    )

pub table_back : (entries : List Entry) → All IsEntry entries → table_of (flat_map entry_of entries) ≡ Ok entries
table_back entries each =
    row_complete entry entry_solid (flat_map entry_of entries) entries (row_spells entry.piece entry_of IsEntry entry_spells entries each)

pub table_sound : (bytes : List ℕ) (entries : List Entry) → table_of bytes ≡ Ok entries → Row entry.piece entries bytes
table_sound bytes entries is = row_sound entry entry_solid bytes entries is

pub table_complete : (bytes : List ℕ) (entries : List Entry) → Row entry.piece entries bytes → table_of bytes ≡ Ok entries
table_complete bytes entries row = row_complete entry entry_solid bytes entries row

pub ruleset question_laws = (question_one, table_back, table_sound, table_complete)
