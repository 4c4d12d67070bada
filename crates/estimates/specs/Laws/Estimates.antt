-- Estimates by what is found: a record's pair, the sum of the estimates by two counts, the calls
-- over the front store; and that a state with one entry gives 2 and an empty one 0. For the proofs
-- of estimates, and the layer above. Assumes nothing.
use Rattle.std.specs.Prelude.{◌≡◌, ℕ, zero, suc, ◌+◌, ◌*◌, ◌/◌, ◌%◌, ◌<◌, List, [], ◌∷◌, Bool, not, ℤ, pos, neg_ℤ, ◌+ℤ◌, length, Err, None, Ok, Option, Result, Some}
use Rattle.std.proofs.Math.Path.{refl, sym, ap, subst}
use Rattle.std.proofs.Common.{ap₂, ◌∙◌, add-zero, zero-add, mod-lt, arith}
use Rattle.std.proofs.Math.Bool.{true, false}
use Rattle.std.proofs.Math.IntN.{+ℤ_idl, +ℤ_assoc, +ℤ_comm, neg_ℤ-+ℤ}
use Rattle.amplitudes.specs.declared.Complex.{Complex}
use Rattle.amplitudes.specs.declared.Combined.{Combined}
use Rattle.amplitudes.specs.declared.U4.{U4}
use Rattle.amplitudes.specs.Amplitudes.{finite_gate}
use Rattle.amplitudes.specs.Pairs.{combined}
use Rattle.keys.specs.Keys.{bit_at, toggle}
use Rattle.merge.specs.Records.{Entry, record_at, part, key_of, record_bit, amplitude_of, decode, entries, at}
use Rattle.merge.specs.Laws.{not-self, part-some, decode_is, at-nil, at_other, bit-toggle}
use Rattle.statevector.specs.declared.Refusal.{Refusal}
use Rattle.statevector.specs.declared.Refusal.TheVariants as no
use Rattle.statevector.specs.declared.Side.{Side}
use Rattle.statevector.specs.declared.State.{State}
use Rattle.estimates.specs.declared.Change.{Change}
use Rattle.estimates.specs.Estimates.{pair_at, delta_of, deltas, finite_sums, halved, entry_at, chosen, pair_of_entry, delta_for, estimate_tests, by_tests, collapse_in, collapse_call, forecast_in, forecast_call}
use Rattle.estimates.specs.Passes.{dropped_of, unpaired_of, if_finite, change_of, unpaired_in, dropped_in, finite_in, totals_of, balance, estimate_of}
use Rattle.statevector.specs.Laws.{records-are, records-length, first-none, first-here, first-later, qubit-refused, qubit-rest}
use Rattle.statevector.specs.States.{front_of, records_of, entries_of}
use Rattle.statevector.specs.Refusals.{Test, first, Tested}
use Rattle.statevector.specs.Tests.{qubit_tests}

-- ---- a record's pair

-- a record's pair, by whether its partner's key has an entry
module _ (n q : ℕ) (g : U4) (es : List Entry) (rec : List ℕ) where
  pub pair-alone : at (toggle q (key_of n rec)) es ≡ None → pair_at q g es (decode n rec) ≡ None
  unfolding pair_at
  pair-alone e = rw (decode_is n rec, e)

  pub pair-with : (b : Complex) → at (toggle q (key_of n rec)) es ≡ Some b → pair_at q g es (decode n rec) ≡ Some (combined g (record_bit n q rec) (amplitude_of n rec) b)
  unfolding pair_at
  pair-with b e = rw (decode_is n rec, e)

-- ---- the numbers

pub four : (a b c d : ℤ) → (a +ℤ b) +ℤ (c +ℤ d) ≡ (a +ℤ c) +ℤ (b +ℤ d)
four a b c d =
    +ℤ_assoc a b (c +ℤ d)
    ∙ ap (λ (z : ℤ). a +ℤ z) (sym (+ℤ_assoc b c d) ∙ ap (λ (z : ℤ). z +ℤ d) (+ℤ_comm b c) ∙ +ℤ_assoc c b d)
    ∙ sym (+ℤ_assoc a c (b +ℤ d))

balance-add : (u d v e : ℕ) → balance u d +ℤ balance v e ≡ balance (u + v) (d + e)
balance-add u d v e =
    four (pos (2 * u)) (neg_ℤ (pos d)) (pos (2 * v)) (neg_ℤ (pos e))
    ∙ ap₂ ◌+ℤ◌ (ap pos (let z : 2 * u + 2 * v ≡ 2 * (u + v) = omega arith in z)) (sym (neg_ℤ-+ℤ (pos d) (pos e)))

delta-balance : (o : Option Combined) → delta_of o ≡ balance (unpaired_of o) (dropped_of o)
delta-balance None = refl
delta-balance (Some p) = sym (+ℤ_idl (neg_ℤ (pos (dropped_of (Some p)))))

-- a sum of estimates goes by the two counts
pub deltas-balance : (q : ℕ) (g : U4) (es rest : List Entry) → deltas q g es rest ≡ balance (unpaired_in q g es rest) (dropped_in q g es rest)
unfolding deltas unpaired_in dropped_in
deltas-balance q g es [] = refl
deltas-balance q g es (e ∷ rest) =
    ap₂ ◌+ℤ◌ (delta-balance (pair_at q g es e)) (deltas-balance q g es rest)
    ∙ balance-add (unpaired_of (pair_at q g es e)) (dropped_of (pair_at q g es e)) (unpaired_in q g es rest) (dropped_in q g es rest)

-- ---- the calls over the front store, by what they find

pub entries-length : (s : State) (ws : List ℕ) → length (entries_of s ws) ≡ s.n0 + s.n1
entries-length s ws = mapped (records_of s ws) ∙ records-length s ws
  where
    mapped : (rs : List (List ℕ)) → length (entries s.width rs) ≡ length rs
    mapped [] = refl
    mapped (r ∷ rs) = ap suc (mapped rs)

nth-part : (n : ℕ) (ws : List ℕ) (j e r : ℕ) → j + r < e → entry_at r (entries n (part n ws j e)) ≡ Some (decode n (record_at n ws (j + r)))
nth-part n ws j e zero h = rw (part-some n ws j e (omega arith), add-zero j)
nth-part n ws j e (suc r) h =
    let k : j + 1 + r ≡ j + suc r = omega arith in
    rw (part-some n ws j e (omega arith)) (nth-part n ws (j + 1) e r (omega arith) ∙ ap (λ (m : ℕ). Some (decode n (record_at n ws m))) k)

chosen_is : (i : ℕ) (es : List Entry) → 0 < length es → chosen i es ≡ entry_at (i % length es) es
chosen_is i [] h = absurd (omega arith)
chosen_is i (e ∷ es) h = refl

chosen_none : (i : ℕ) (es : List Entry) → length es ≡ 0 → chosen i es ≡ None
chosen_none i [] h = refl
chosen_none i (e ∷ es) h = absurd (omega arith)

-- the number of a pair is that of its change
estimated : (o : Option Combined) → by_tests (first ((not (finite_sums o), no.Overflow) ∷ [])) (delta_of o) ≡ estimate_of (change_of o)
unfolding first
estimated o = go (finite_sums o)
  where
    go : (b : Bool) → by_tests (first ((not b, no.Overflow) ∷ [])) (delta_of o) ≡ estimate_of (if_finite b (record { unpaired = unpaired_of o; dropped = dropped_of o }))
    go true = ap Ok (delta-balance o)
    go false = refl

module _ (s : State) (q : ℕ) (g : U4) (front : List ℕ) where
  -- the tests before that of overflow
  abbrev before : Tested
  before = first (qubit_tests s front q (finite_gate g) [])

  pub collapse-refused : (i : ℕ) (r : Refusal) → before ≡ Err r → Err r ≡ collapse_in s q g i front
  unfolding collapse_in estimate_tests
  collapse-refused i r e = sym (rw (qubit-refused s front q (finite_gate g) _ r e))

  pub forecast-refused : (r : Refusal) → before ≡ Err r → Err r ≡ forecast_in s q g front
  unfolding forecast_in estimate_tests
  forecast-refused r e = sym (rw (qubit-refused s front q (finite_gate g) _ r e))

  abbrev pub es : List Entry
  es = entries_of s front

  abbrev overflow_row : Bool → List Test
  overflow_row fine = (not fine, no.Overflow) ∷ []

  collapse-fine : (i : ℕ) (e : Option Entry) → before ≡ Ok tt → chosen i es ≡ e
      → by_tests (first (overflow_row (finite_sums (pair_of_entry q g es e)))) (delta_for e (pair_of_entry q g es e)) ≡ collapse_in s q g i front
  unfolding collapse_in estimate_tests
  collapse-fine i e h c =
      let p = pair_of_entry q g es (chosen i es) in
      sym
      (ap (λ (t : Tested). by_tests t (delta_for (chosen i es) p)) (qubit-rest s front q (finite_gate g) (overflow_row (finite_sums p)) h)
      ∙ ap (λ (e : Option Entry). by_tests (first (overflow_row (finite_sums (pair_of_entry q g es e)))) (delta_for e (pair_of_entry q g es e))) c)

  pub collapse-empty : (i : ℕ) → before ≡ Ok tt → s.n0 + s.n1 ≡ 0 → Ok (pos 0) ≡ collapse_in s q g i front
  collapse-empty i h z =
      sym (ap (λ (t : Tested). by_tests t (pos 0)) (first-later false no.Overflow [] refl ∙ first-none)) ∙ collapse-fine i None h (chosen_none i es (entries-length s front ∙ z))

  pub collapse-at : (i : ℕ) → before ≡ Ok tt → 0 < s.n0 + s.n1
      → estimate_of (change_of (pair_at q g es (decode s.width (record_at s.width front (i % (s.n0 + s.n1)))))) ≡ collapse_in s q g i front
  collapse-at i h z =
      let r = i % (s.n0 + s.n1) in
      let e = decode s.width (record_at s.width front r) in
      let l : r < s.n0 + s.n1 = mod-lt i z in
      let c : chosen i es ≡ Some e =
      chosen_is i es (rw (entries-length s front) z) ∙ ap (λ (m : ℕ). entry_at (i % m) es) (entries-length s front) ∙ ap (λ (rs : List (List ℕ)). entry_at r (entries s.width rs)) (records-are s front)
      ∙ nth-part s.width front 0 (s.n0 + s.n1) r (omega arith)
      ∙ ap (λ (m : ℕ). Some (decode s.width (record_at s.width front m))) (zero-add r) in
      sym (estimated (pair_at q g es e)) ∙ collapse-fine i (Some e) h c

  forecast-fine : before ≡ Ok tt → by_tests (first (overflow_row (finite_in q g es es))) (halved (deltas q g es es)) ≡ forecast_in s q g front
  unfolding forecast_in estimate_tests finite_in
  forecast-fine h =
      sym (ap (λ (t : Tested). by_tests t (halved (deltas q g es es))) (qubit-rest s front q (finite_gate g) (overflow_row (finite_in q g es es)) h))

  -- what the totals say
  abbrev pub TotalsSay : Result Change Refusal → Type 0
  TotalsSay (Ok c) = (finite_in q g es es ≡ true) × (c.unpaired ≡ unpaired_in q g es es) × (c.dropped ≡ dropped_in q g es es)
  TotalsSay (Err r) = (finite_in q g es es ≡ false) × (r ≡ no.Overflow)

  pub totals-say : (t : Result Change Refusal) → t ≡ totals_of q g es → TotalsSay t
  unfolding totals_of
  totals-say t e = subst TotalsSay (sym e) (go (finite_in q g es es) refl)
    where
      go : (b : Bool) → finite_in q g es es ≡ b → TotalsSay (if_finite b (record { unpaired = unpaired_in q g es es; dropped = dropped_in q g es es }))
      go true f = (f, refl, refl)
      go false f = (f, refl)

  pub forecast-overflow : before ≡ Ok tt → (r : Refusal) → Err r ≡ totals_of q g es → Err r ≡ forecast_in s q g front
  forecast-overflow h r t =
      let f = totals-say (Err r) t in
      ap Err f.1 ∙ sym (ap (λ (t : Tested). by_tests t (halved (deltas q g es es))) (first-here (not (finite_in q g es es)) no.Overflow [] (ap not f.0))) ∙ forecast-fine h

  pub forecast-of : before ≡ Ok tt → (c : Change) → Ok c ≡ totals_of q g es → Ok (halved (balance c.unpaired c.dropped)) ≡ forecast_in s q g front
  forecast-of h c t =
      let f = totals-say (Ok c) t in
      ap (λ (z : ℤ). Ok (halved z)) (ap₂ balance f.1 f.2 ∙ sym (deltas-balance q g es es))
      ∙ sym (ap (λ (t : Tested). by_tests t (halved (deltas q g es es))) (first-later (not (finite_in q g es es)) no.Overflow [] (ap not f.0) ∙ first-none))
      ∙ forecast-fine h

-- by the front mark
module _ (s : State) (q : ℕ) (g : U4) (left right : List ℕ) (m : Side) (e : s.front ≡ m) where
  pub collapse-by : (i : ℕ) → collapse_in s q g i (front_of m left right) ≡ collapse_call s q g i left right
  unfolding collapse_call
  collapse-by i = ap (λ (k : Side). collapse_in s q g i (front_of k left right)) (sym e)

  pub forecast-by : forecast_in s q g (front_of m left right) ≡ forecast_call s q g left right
  unfolding forecast_call
  forecast-by = ap (λ (k : Side). forecast_in s q g (front_of k left right)) (sym e)

-- ---- a state without entries, and one with a single entry

-- 0 of an empty state
pub empty-estimate : (s : State) (q : ℕ) (g : U4) (i : ℕ) (left right : List ℕ) → first (qubit_tests s (front_of s.front left right) q (finite_gate g) []) ≡ Ok tt
    → s.n0 + s.n1 ≡ 0 → collapse_call s q g i left right ≡ Ok (pos 0)
empty-estimate s q g i left right f z = sym (collapse-empty s q g (front_of s.front left right) i f z ∙ collapse-by s q g left right s.front refl i)

-- an entry by itself has no partner
no-partner : (q : ℕ) (g : U4) (es : List Entry) (e : Entry) → at (toggle q e.key) es ≡ None → pair_at q g es e ≡ None
unfolding pair_at
no-partner q g es e h = rw h

alone : (q : ℕ) (g : U4) (e : Entry) → q / 64 < length e.key → pair_at q g (e ∷ []) e ≡ None
alone q g e h =
    no-partner q g (e ∷ []) e
    (at_other (toggle q e.key) e [] (λ d. not-self (bit_at q e.key) (sym (bit-toggle q e.key h) ∙ ap (bit_at q) d)) ∙ at-nil (toggle q e.key))

-- 2 of a state with one entry
pub single-estimate : (s : State) (q : ℕ) (g : U4) (i : ℕ) (left right : List ℕ) (x : Entry) → first (qubit_tests s (front_of s.front left right) q (finite_gate g) []) ≡ Ok tt
    → entries_of s (front_of s.front left right) ≡ x ∷ [] → q / 64 < length x.key → collapse_call s q g i left right ≡ Ok (pos 2)
single-estimate s q g i left right x fine es h =
    let ws = front_of s.front left right in
    let c : chosen i (entries_of s ws) ≡ Some x = ap (chosen i) es ∙ ap (λ (k : ℕ). entry_at k (x ∷ [])) (let z : i % 1 ≡ 0 = omega arith in z) in
    let p : pair_at q g (entries_of s ws) x ≡ None = ap (λ (l : List Entry). pair_at q g l x) es ∙ alone q g x h in
    sym (collapse-by s q g left right s.front refl i)
    ∙ sym (collapse-fine s q g ws i (Some x) fine c)
    ∙ estimated (pair_at q g (entries_of s ws) x)
    ∙ ap (λ (o : Option Combined). estimate_of (change_of o)) p
