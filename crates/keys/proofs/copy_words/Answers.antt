-- `keys::copy_words` meets its contract. What is left of the words, stored from here, gives what
-- the whole of them gives: so after each of the two branches, and the loop's invariant, where it is
-- a number of fours that is left. Assumes nothing.
use Prim.Native.Nat.{ℕ, ◌+◌, ◌-◌, ◌*◌, ◌/◌, ◌%◌, ◌≤◌, ◌<◌}
use mathlib.Core.Path.{◌≡◌, refl, sym, ◌∙◌}
use mathlib.Core.List.{List}
use native.Mathlib.Nat.{zero-add}
use native.Mathlib.Omega.{arith}
use lib.ListN.{length, get_or, set, drop, length-set}
use lib.Seq.{sets}
use Rattle.keys.specs.Laws.{sets-next, sets-none, sets-whole}
use Rattle.keys.proofs.copy_words.Goals.{Joined-k-eq1, Joined-n-ge2, else-k-eq1, else-n-ge2, then-k-eq1, then-n-ge2}
use Rattle.keys.proofs.copy_words.Goals as goal

-- n % 4 words go before the fours: n % 2 of them, and two more or none
more : (n : ℕ) → 2 ≤ n % 4 → n % 4 ≡ n % 2 + 2
more n h = go (n / 2) (n % 2) (n / 4) (n % 4) (omega arith) (omega arith) (omega arith) h
  where
    go : (a b d e : ℕ) → 2 * a + b ≡ 4 * d + e → b < 2 → e < 4 → 2 ≤ e → e ≡ b + 2
    go a b d e p q r s = omega arith

none : (n : ℕ) → n % 4 < 2 → n % 4 ≡ n % 2
none n h = go (n / 2) (n % 2) (n / 4) (n % 4) (omega arith) (omega arith) h
  where
    go : (a b d e : ℕ) → 2 * a + b ≡ 4 * d + e → b < 2 → e < 2 → e ≡ b
    go a b d e p q r = omega arith

-- one word, two, and four, stored where they go
module _ (src : List ℕ) where
  word : (l : List ℕ) (k : ℕ) → k < length src → sets (set l k (get_or src k 0)) (k + 1) (drop (k + 1) src) ≡ sets l k (drop k src)
  word l k b = sets-next l k src b

  two : (l : List ℕ) (k : ℕ) → k + 2 ≤ length src → sets (set (set l k (get_or src k 0)) (k + 1) (get_or src (k + 1) 0)) (k + 2) (drop (k + 2) src) ≡ sets l k (drop k src)
  two l k b =
      let e : k + 2 ≡ k + 1 + 1 = omega arith in
      rw e (word _ (k + 1) (omega arith) ∙ word l k (omega arith))

  four : (l : List ℕ) (k : ℕ) → k + 4 ≤ length src
      → sets (set (set (set (set l k (get_or src k 0)) (k + 1) (get_or src (k + 1) 0)) (k + 2) (get_or src (k + 2) 0)) (k + 3) (get_or src (k + 3) 0)) (k + 4) (drop (k + 4) src)
      ≡ sets l k (drop k src)
  four l k b =
      let e : k + 4 ≡ k + 3 + 1 = omega arith in
      let f : k + 3 ≡ k + 2 + 1 = omega arith in
      rw e (word _ (k + 3) (omega arith) ∙ rw f (word _ (k + 2) (omega arith)) ∙ two l k (omega arith))

-- after the first branch, and after the second
record Copied (src dst₀ dst : List ℕ) (k : ℕ) : Type 0 where
  same : length dst ≡ length dst₀
  left : sets dst k (drop k src) ≡ sets dst₀ 0 src

first : (c : Joined-k-eq1) → let a = c.args in Copied a.src.now a.dst.now c.if-k-eq1.dst (length a.src.now % 2)
first c =
    let a = c.args in
    elim c.if-k-eq1.branch [ then-k-eq1 w ↦ rw (w.dst-is, w.if-k-eq1.true) (record { same = simp length-set; left = word a.src.now a.dst.now 0 (let e = w.if-k-eq1.true in omega arith) }) | else-k-eq1 w ↦ let e : length a.src.now % 2 ≡ 0 = omega arith in rw (w.dst-is, e) (record { same = refl; left = refl }) ]

second : (c : Joined-n-ge2) → let a = c.args in
    Copied a.src.now a.dst.now c.if-k-eq1.dst (length a.src.now % 2)
    → (c.if-n-ge2.k ≤ length a.src.now) × ((length a.src.now - c.if-n-ge2.k) % 4 ≡ 0) × Copied a.src.now a.dst.now c.if-n-ge2.dst c.if-n-ge2.k
second c f =
    let a = c.args in
    let n = length a.src.now in
    elim c.if-n-ge2.branch [ then-n-ge2 w ↦ let e = more n (omega arith) in rw (w.dst-is, w.k-is) (omega arith, omega arith, record { same = simp length-set f.same; left = two a.src.now c.if-k-eq1.dst (n % 2) (omega arith) ∙ f.left }) | else-n-ge2 w ↦ let e = none n (omega arith) in rw (w.dst-is, w.k-is) (omega arith, omega arith, f) ]

pub loop-k-init : goal.loop-k-init
loop-k-init c =
    let s = second (goal.at.loop-k-init c).Joined-n-ge2 (first (goal.at.loop-k-init c).Joined-k-eq1) in
    (s.0, s.1, refl, refl)

pub loop-k-preserved : goal.loop-k-preserved
loop-k-preserved c = (
  omega arith,
  omega arith,
  simp length-set c.loop-k.invariant.2,
  four c.args.src.now c.loop-k.dst c.loop-k.k (omega arith) ∙ c.loop-k.invariant.3,
)

pub returns : goal.returns
returns c =
    let a = c.args in
    let s = (second (goal.at.returns c).Joined-n-ge2 (first (goal.at.returns c).Joined-k-eq1)).2 in
    sym (rw zero-add at (sets-none c.loop-k.dst 0 c.loop-k.k a.src.now (omega arith))) ∙ c.loop-k.invariant.3 ∙ s.left ∙ sets-whole a.src.now a.dst.now (c.requires)
