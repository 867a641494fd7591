-- The test on questions holds exactly where they are the same.
use Rattle.std.proofs.Common.{◌≡◌, ◌∙◌, ℕ, Bool, true, false, List, refl, sym, ap, subst, arith}
use Rattle.std.specs.Prelude.{◌&&◌, ◌==◌, Some, find}
use Rattle.std.specs.Bool.{Decides}
use Rattle.std.specs.Cmp.{unsigned_Decides}
use Rattle.std.specs.Str.{bytes_eq}
use Rattle.std.proofs.lemmas.Slice.Eq.{bytes_eq-Decides}
use Rattle.picky_keys.specs.declared.algorithm.HashAlgorithm.{HashAlgorithm}
use Rattle.picky_keys.specs.declared.algorithm.SignatureAlgorithm.{SignatureAlgorithm}
use Rattle.picky_keys.specs.declared.algorithm.SignatureAlgorithm.TheVariants as algorithms
use Rattle.picky_suite.specs.declared.flavour.Flavour.{Flavour}
use Rattle.picky_ask.specs.declared.question.Head.{Head}
use Rattle.picky_ask.specs.declared.question.Head.TheVariants as heads
use Rattle.picky_ask.specs.declared.question.Question.{Question}
use Rattle.picky_ask.specs.OperationNumber.{flavour_number, flavours_in_order}
use Rattle.picky_ask.specs.AlgorithmNumber.{hash_number, hashes_in_order, kind_number, algorithm_kind, algorithm_hash}
use Rattle.picky_ask.specs.carried.Operation.{own_flavour, own_hash}
use Rattle.picky_ask.specs.carried.Tests.{first_of_and, second_of_and, both_true, same_of}
use Rattle.picky_ask.specs.Lookup.{question}
use Rattle.picky_ask.specs.Same.{same_two, same_head, same_question}

number_of : (m n : ℕ) → (m == n) ≡ true → m ≡ n
number_of m n is = (unsigned_Decides m n).0 is

number_self : (n : ℕ) → (n == n) ≡ true
number_self n = (unsigned_Decides n n).1 refl

bytes_self : (x : List ℕ) → bytes_eq x x ≡ true
bytes_self x = (bytes_eq-Decides x x).1 refl

-- a number tells its flavour, and its digest
flavour_one : (a b : Flavour) → flavour_number a ≡ flavour_number b → a ≡ b
flavour_one a b same =
    let one : Some a ≡ Some b =
    sym (own_flavour a) ∙ ap (λ n. find (λ c. n == flavour_number c) flavours_in_order) same ∙ own_flavour b in
    cc one

hash_one : (a b : HashAlgorithm) → hash_number a ≡ hash_number b → a ≡ b
hash_one a b same =
    let one : Some a ≡ Some b =
    sym (own_hash a) ∙ ap (λ n. find (λ c. n == hash_number c) hashes_in_order) same ∙ own_hash b in
    cc one

algorithm_one : (a b : SignatureAlgorithm) → kind_number (algorithm_kind a) ≡ kind_number (algorithm_kind b)
    → algorithm_hash a ≡ algorithm_hash b → a ≡ b
algorithm_one (algorithms.RsaPkcs1v15 h) (algorithms.RsaPkcs1v15 g) kind hash = ap algorithms.RsaPkcs1v15 (hash_one h g hash)
algorithm_one (algorithms.RsaPkcs1v15 h) (algorithms.Ecdsa g) kind hash = absurd (omega arith)
algorithm_one (algorithms.RsaPkcs1v15 h) algorithms.Ed25519 kind hash = absurd (omega arith)
algorithm_one (algorithms.Ecdsa h) (algorithms.RsaPkcs1v15 g) kind hash = absurd (omega arith)
algorithm_one (algorithms.Ecdsa h) (algorithms.Ecdsa g) kind hash = ap algorithms.Ecdsa (hash_one h g hash)
algorithm_one (algorithms.Ecdsa h) algorithms.Ed25519 kind hash = absurd (omega arith)
algorithm_one algorithms.Ed25519 (algorithms.RsaPkcs1v15 g) kind hash = absurd (omega arith)
algorithm_one algorithms.Ed25519 (algorithms.Ecdsa g) kind hash = absurd (omega arith)
algorithm_one algorithms.Ed25519 algorithms.Ed25519 kind hash = refl

-- ---- two strings, with whatever is made of them

two_so : (make : List ℕ → List ℕ → Head) (a b c d : List ℕ) → same_two a b c d ≡ true → make a b ≡ make c d
two_so make a b c d is =
    ap (λ x. make x b) (same_of a c (first_of_and (bytes_eq a c) (bytes_eq b d) is))
    ∙ ap (λ y. make c y) (same_of b d (second_of_and (bytes_eq a c) (bytes_eq b d) is))

two_self : (a b : List ℕ) → same_two a b a b ≡ true
two_self a b = both_true (bytes_eq a a) (bytes_eq b b) (bytes_self a) (bytes_self b)

-- ---- heads

bcrypt_so : (len rounds n r : ℕ) (salt s : List ℕ) → (len == n) && (rounds == r) && bytes_eq salt s ≡ true
    → heads.Bcrypt len rounds salt ≡ heads.Bcrypt n r s
bcrypt_so len rounds n r salt s is =
    let front = first_of_and ((len == n) && (rounds == r)) (bytes_eq salt s) is in
    ap (λ x. heads.Bcrypt x rounds salt) (number_of len n (first_of_and (len == n) (rounds == r) front))
    ∙ ap (λ x. heads.Bcrypt n x salt) (number_of rounds r (second_of_and (len == n) (rounds == r) front))
    ∙ ap (λ x. heads.Bcrypt n r x) (same_of salt s (second_of_and ((len == n) && (rounds == r)) (bytes_eq salt s) is))

argon2_so : (kind k : Flavour) (memory passes parallelism m p l : ℕ) (salt s : List ℕ)
    → (flavour_number kind == flavour_number k) && (memory == m) && (passes == p) && (parallelism == l) && bytes_eq salt s ≡ true
    → heads.Argon2 kind memory passes parallelism salt ≡ heads.Argon2 k m p l s
argon2_so kind k memory passes parallelism m p l salt s is =
    let a = flavour_number kind == flavour_number k in
    let b = memory == m in
    let c = passes == p in
    let d = parallelism == l in
    let e = bytes_eq salt s in
    let four = first_of_and (a && b && c && d) e is in
    let three = first_of_and (a && b && c) d four in
    let two = first_of_and (a && b) c three in
    ap (λ x. heads.Argon2 x memory passes parallelism salt) (flavour_one kind k (number_of (flavour_number kind) (flavour_number k) (first_of_and a b two)))
    ∙ ap (λ x. heads.Argon2 k x passes parallelism salt) (number_of memory m (second_of_and a b two))
    ∙ ap (λ x. heads.Argon2 k m x parallelism salt) (number_of passes p (second_of_and (a && b) c three))
    ∙ ap (λ x. heads.Argon2 k m p x salt) (number_of parallelism l (second_of_and (a && b && c) d four))
    ∙ ap (λ x. heads.Argon2 k m p l x) (same_of salt s (second_of_and (a && b && c && d) e is))

sign_so : (by a : SignatureAlgorithm) (key k : List ℕ)
    → (kind_number (algorithm_kind by) == kind_number (algorithm_kind a)) && (algorithm_hash by == algorithm_hash a) && bytes_eq key k ≡ true
    → heads.Sign by key ≡ heads.Sign a k
sign_so by a key k is =
    let kinds = kind_number (algorithm_kind by) == kind_number (algorithm_kind a) in
    let digests = algorithm_hash by == algorithm_hash a in
    let front = first_of_and (kinds && digests) (bytes_eq key k) is in
    ap (λ x. heads.Sign x key) (algorithm_one by a
    (number_of (kind_number (algorithm_kind by)) (kind_number (algorithm_kind a)) (first_of_and kinds digests front))
    (number_of (algorithm_hash by) (algorithm_hash a) (second_of_and kinds digests front)))
    ∙ ap (λ x. heads.Sign a x) (same_of key k (second_of_and (kinds && digests) (bytes_eq key k) is))

same_head_so : (h k : Head) → same_head h k ≡ true → h ≡ k
unfolding same_head
same_head_so (heads.Bcrypt len rounds salt) (heads.Bcrypt n r s) is = bcrypt_so len rounds n r salt s is
same_head_so (heads.Argon2 kind memory passes parallelism salt) (heads.Argon2 k m p l s) is =
    argon2_so kind k memory passes parallelism m p l salt s is
same_head_so (heads.CbcSeal key iv) (heads.CbcSeal k v) is = two_so heads.CbcSeal key iv k v is
same_head_so (heads.CbcOpen key iv) (heads.CbcOpen k v) is = two_so heads.CbcOpen key iv k v is
same_head_so (heads.Ctr key iv) (heads.Ctr k v) is = two_so heads.Ctr key iv k v is
same_head_so (heads.Sign by key) (heads.Sign a k) is = sign_so by a key k is
same_head_so (heads.Verify key signature) (heads.Verify k s) is = two_so heads.Verify key signature k s is
same_head_so h k is = cc is

same_head_self : (h : Head) → same_head h h ≡ true
unfolding same_head
same_head_self (heads.Bcrypt len rounds salt) =
    both_true ((len == len) && (rounds == rounds)) (bytes_eq salt salt)
    (both_true (len == len) (rounds == rounds) (number_self len) (number_self rounds)) (bytes_self salt)
same_head_self (heads.Argon2 kind memory passes parallelism salt) =
    let a = flavour_number kind == flavour_number kind in
    let b = memory == memory in
    let c = passes == passes in
    let d = parallelism == parallelism in
    both_true (a && b && c && d) (bytes_eq salt salt)
    (both_true (a && b && c) d (both_true (a && b) c (both_true a b (number_self (flavour_number kind)) (number_self memory)) (number_self passes)) (number_self parallelism))
    (bytes_self salt)
same_head_self (heads.CbcSeal key iv) = two_self key iv
same_head_self (heads.CbcOpen key iv) = two_self key iv
same_head_self (heads.Ctr key iv) = two_self key iv
same_head_self (heads.Sign by key) =
    let a = kind_number (algorithm_kind by) == kind_number (algorithm_kind by) in
    let b = algorithm_hash by == algorithm_hash by in
    both_true (a && b) (bytes_eq key key) (both_true a b (number_self (kind_number (algorithm_kind by))) (number_self (algorithm_hash by))) (bytes_self key)
same_head_self (heads.Verify key signature) = two_self key signature

pub same_head-Decides : (h k : Head) → Decides (same_head h k) (h ≡ k)
same_head-Decides h k = (same_head_so h k, λ is. subst (λ (x : Head). same_head h x ≡ true) is (same_head_self h))

-- ---- questions

pub same_question_so : (q r : Question) → same_question q r ≡ true → q ≡ r
unfolding same_question
same_question_so q r is =
    ap (λ h. question h q.text) (same_head_so q.head r.head (first_of_and (same_head q.head r.head) (bytes_eq q.text r.text) is))
    ∙ ap (λ t. question r.head t) (same_of q.text r.text (second_of_and (same_head q.head r.head) (bytes_eq q.text r.text) is))

pub same_question_self : (q : Question) → same_question q q ≡ true
unfolding same_question
same_question_self q = both_true (same_head q.head q.head) (bytes_eq q.text q.text) (same_head_self q.head) (bytes_self q.text)

-- two tests of one fact answer alike
pub tests_alike : {P : Type 0} (x y : Bool) → (x ≡ true → P) → (P → x ≡ true) → Decides y P → x ≡ y
tests_alike true y so back decides = sym (decides.1 (so refl))
tests_alike false true so back decides = back (decides.0 refl)
tests_alike false false so back decides = refl
