-- The premises of demand 3 can be met, for a reader who doubts it: case c of SPECIFICATION 12.1
-- with a refused call between its two gates, through the theorem, and a gate call at the very
-- limits. Besides, how far a gate can raise the parts, and records that agree with no table.
-- Assumes nothing.
use Rattle.std.specs.Prelude.{◌≡◌, refl, ℕ, zero, suc, ◌*◌, ◌≤◌, List, [], ◌∷◌, Bool, true, false, replicate, ℤ, neg_ℤ, nat_abs, ◌*ℤ◌, None, Option, Some}
use Rattle.std.proofs.Common.{zero-le, le_trans, le_of_eq, mul-le-mul, arith, lit<, lit≤}
use Rattle.std.specs.Float.Ieee.{of_bits, to_bits}
use Rattle.algebra.specs.Gate.{Gauss, ◌·◌, ◌⊕◌}
use Rattle.amplitudes.specs.declared.Complex.{Complex}
use Rattle.amplitudes.specs.declared.U4.{U4}
use Rattle.amplitudes.specs.Amplitudes.{times}
use Rattle.amplitudes.proofs.Laws.{nat_abs_mul, nat_abs-add, nat_abs-neg}
use Rattle.amplitudes.specs.Numbers.{gauss, gauss_gate, WholeC, Small}
use Rattle.amplitudes.specs.Pairs.{accumulated}
use Rattle.keys.specs.Keys.{listed, bit_at, clear, toggle, order, same, Words, IsKey}
use Rattle.keys.specs.Laws.{clear-key, toggle-key}
use Rattle.keys.specs.Lists.{All}
use Rattle.merge.specs.Addresses.{addresses}
use Rattle.merge.specs.Laws.{at_all}
use Rattle.merge.specs.Records.{Entry, part, counted, record_at, amplitude_of, finite_record, decode, encode, flat, at, capacity}
use Rattle.gates.specs.Gate.{gate_call, gated, gate_words, result_tests, gate_part, gate_finite}
use Rattle.statevector.specs.Refusals.{first}
use Rattle.statevector.specs.Tests.{too_many, unordered, wrong_side, not_finite}
use Rattle.exact.specs.Cases.{gate_c}
use Rattle.exact.proofs.NewNumbers.{wider}
use Rattle.exact.specs.Table.{front_entries, gate, Table, numbers_of, exact_sum, start, new_numbers, weight, effect, log, table_after, weights, SmallParts, Admissible, Limited, Premises, AcceptedSnapshot, AllWhole, ExactTable}
use Rattle.exact.proofs.Theorem.{exact-table}
use Rattle.exact.specs.Witness.{begun, calls, CaseC, largest_gate, largest, largest_calls, AtLimits, not_whole, Disagrees}

-- ---- bounds

read_small : (b : ℕ) (es : List Entry) → All (λ e. Small b (gauss e.amp)) es → (k : List ℕ) → Small b (numbers_of (at k es))
read_small b es h k = go (at k es) (at_all (λ a. Small b (gauss a)) k es h)
  where
    go : (m : Option Complex) → ((a : Complex) → m ≡ Some a → Small b (gauss a)) → Small b (numbers_of m)
    go None f = (zero-le, zero-le)
    go (Some a) f = f a refl

product-size : (b : ℕ) (x y : ℤ) → nat_abs x ≤ 16 → nat_abs y ≤ b → nat_abs (x *ℤ y) ≤ 16 * b
product-size b x y h k = le_trans (le_of_eq (nat_abs_mul x y)) (mul-le-mul h k)

times-small : (b : ℕ) (c x : Gauss) → Small 16 c → Small b x → Small (32 * b) (c · x)
times-small b c x h k =
    let p = product-size b c.re x.re h.0 k.0 in
    let q = product-size b c.im x.im h.1 k.1 in
    let r = product-size b c.re x.im h.0 k.1 in
    let s = product-size b c.im x.re h.1 k.0 in
    let n = nat_abs-neg (c.im *ℤ x.im) in
    let u = nat_abs-add (c.re *ℤ x.re) (neg_ℤ (c.im *ℤ x.im)) in
    let v = nat_abs-add (c.re *ℤ x.im) (c.im *ℤ x.re) in
    (omega arith, omega arith)

plus-small : (b : ℕ) (x y : Gauss) → Small (32 * b) x → Small (32 * b) y → Small (64 * b) (x ⊕ y)
plus-small b x y h k =
    let u = nat_abs-add x.re y.re in
    let v = nat_abs-add x.im y.im in
    let p = h.0 in
    let q = k.0 in
    let r = h.1 in
    let s = k.1 in
    (omega arith, omega arith)

-- a gate that demand 3 covers raises the largest part at most 64 times
pub effect-small : (b q : ℕ) (g : U4) (x : Table) → Admissible g
    → ((k : List ℕ) → IsKey x.width k → Small b (x.at k))
    → (k : List ℕ) → IsKey x.width k → Small (64 * b) ((effect (gate q g) x).at k)
unfolding effect
effect-small b q g x f l k i = go (bit_at q k)
  where
    u : Small b (x.at (clear q k))
    u = l (clear q k) (clear-key x.width q k i)

    v : Small b (x.at (toggle q (clear q k)))
    v = l (toggle q (clear q k)) (toggle-key x.width q (clear q k) (clear-key x.width q k i))

    -- of a factor for the clear key and one for the set key
    new : (c d : Gauss) → Small 16 c → Small 16 d
        → Small (64 * b) (c · x.at (clear q k) ⊕ d · x.at (toggle q (clear q k)))
    new c d C D =
        plus-small b (c · x.at (clear q k)) (d · x.at (toggle q (clear q k)))
        (times-small b c (x.at (clear q k)) C u)
        (times-small b d (x.at (toggle q (clear q k))) D v)

    part : (a : Complex) → SmallParts a → Small 16 (gauss a)
    part a s = wider (gauss a) s.1 (lit≤ tt)

    go : (t : Bool) → Small (64 * b) (new_numbers (gauss_gate g) t (x.at (clear q k)) (x.at (toggle q (clear q k))))
    go true = new (gauss g.f0) (gauss g.s1) (part g.f0 f.f0) (part g.s1 f.s1)
    go false = new (gauss g.s0) (gauss g.f1) (part g.s0 f.s0) (part g.f1 f.f1)

-- ---- case c, with a gate on qubit 64 between its two: refused with 2

admissible : Admissible gate_c
unfolding gauss WholeC of_bits
admissible =
    record {
      s0 = ((tt, tt), (lit≤ tt, lit≤ tt));
      f0 = ((tt, tt), (lit≤ tt, lit≤ tt));
      s1 = ((tt, tt), (lit≤ tt, lit≤ tt));
      f1 = ((tt, tt), (lit≤ tt, lit≤ tt));
      weighted = record { first = refl; second = refl; crossed = refl };
    }

start_small : (k : List ℕ) → Small 1 ((start begun).at k)
unfolding start gauss of_bits part counted record_at decode amplitude_of
start_small k = read_small 1 (front_entries begun) ((lit≤ tt, lit≤ tt), tt) k

met : Premises (log calls begun) (start begun)
unfolding Premises effect log gate_call gated gate_words result_tests gate_part gate_finite first part counted record_at amplitude_of finite_record decode encode flat at capacity addresses toggle clear bit_at order same of_bits to_bits times accumulated
met = (
  (admissible, λ k i. wider ((start begun).at k) (start_small k) (lit≤ tt)),
  (
    tt,
    (
      (admissible, λ k i. wider ((effect (gate 0 gate_c) (start begun)).at k) (effect-small 1 0 gate_c (start begun) admissible (λ j m. start_small j) k i) (lit≤ tt)),
      tt,
    ),
  ),
)

seven : (n : ℕ) → Words (replicate n 7)
seven zero = tt
seven (suc n) = (lit< tt, seven n)

accepted : AcceptedSnapshot begun
unfolding listed too_many unordered wrong_side not_finite part counted record_at amplitude_of finite_record capacity bit_at order same of_bits
accepted =
    record {
      left = (lit< tt, (lit< tt, (lit< tt, seven 4)));
      right = seven 7;
      accepted = record { width = refl; counted = refl; ordered = refl; sided = refl; finite = refl };
    }

whole : AllWhole (front_entries begun)
unfolding WholeC of_bits part counted record_at decode amplitude_of
whole = ((tt, tt), tt)

pub case-c : CaseC
unfolding ExactTable table_after log gate_call gated gate_words result_tests gate_part gate_finite first part counted record_at amplitude_of finite_record decode encode flat at capacity addresses toggle clear bit_at order same of_bits to_bits times accumulated weights weight exact_sum effect start gauss
case-c =
    let r = exact-table calls begun accepted whole met in
    record { refusals = refl; number = r.agree.numbers (0 ∷ []) (refl, (lit< tt, tt)); sum = r.sum }

-- ---- the numbers of the premises are met exactly: amplitudes 2^34 + 2^34·i at keys 0 and 1, and a
-- gate whose eight parts are 16 or −16

largest-admissible : Admissible largest_gate
unfolding gauss WholeC of_bits
largest-admissible =
    record {
      s0 = ((tt, tt), (lit≤ tt, lit≤ tt));
      f0 = ((tt, tt), (lit≤ tt, lit≤ tt));
      s1 = ((tt, tt), (lit≤ tt, lit≤ tt));
      f1 = ((tt, tt), (lit≤ tt, lit≤ tt));
      weighted = record { first = refl; second = refl; crossed = refl };
    }

largest-limited : Limited (start largest)
unfolding start gauss of_bits part counted record_at decode amplitude_of
largest-limited k i = read_small _ (front_entries largest) ((lit≤ tt, lit≤ tt), ((lit≤ tt, lit≤ tt), tt)) k

largest-accepted : AcceptedSnapshot largest
unfolding listed too_many unordered wrong_side not_finite part counted record_at amplitude_of finite_record capacity bit_at order same of_bits
largest-accepted =
    record {
      left = (lit< tt, (lit< tt, (lit< tt, (lit< tt, (lit< tt, (lit< tt, seven 1))))));
      right = seven 7;
      accepted = record { width = refl; counted = refl; ordered = refl; sided = refl; finite = refl };
    }

largest-whole : AllWhole (front_entries largest)
unfolding WholeC of_bits part counted record_at decode amplitude_of
largest-whole = ((tt, tt), ((tt, tt), tt))

largest-met : Premises (log largest_calls largest) (start largest)
unfolding Premises log gate_call gated gate_words result_tests gate_part gate_finite first part counted record_at amplitude_of finite_record decode encode flat at capacity addresses toggle clear bit_at order same of_bits to_bits times accumulated
largest-met = ((largest-admissible, largest-limited), tt)

pub at-limits : AtLimits
unfolding ExactTable table_after log gate_call gated gate_words result_tests gate_part gate_finite first part counted record_at amplitude_of finite_record decode encode flat at capacity addresses toggle clear bit_at order same of_bits to_bits times accumulated weights weight exact_sum effect start gauss
at-limits =
    let r = exact-table largest_calls largest largest-accepted largest-whole largest-met in
    record {
      part = refl;
      factor = refl;
      done = refl;
      met = largest-met;
      clear = r.agree.numbers (0 ∷ []) (refl, (lit< tt, tt));
      set = r.agree.numbers (1 ∷ []) (refl, (lit< tt, tt));
      sum = r.sum;
    }

-- ---- a record that is not whole agrees with no table, though `gauss` reads 1.5 as 1, and an
-- infinity and a NaN as 0

pub none-agrees : All Disagrees not_whole
unfolding WholeC of_bits part counted record_at decode amplitude_of
none-agrees = ((λ x a. a.whole.0.0), ((λ x a. a.whole.0.0), ((λ x a. a.whole.0.0), tt)))
