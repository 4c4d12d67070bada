-- A gate call in demand 3's list: ready before it, ready after it. Of the call it uses what is
-- found at a key afterwards, that the state stays accepted, and that a refusal leaves state and
-- front words. Assumes nothing.
use Rattle.std.specs.Prelude.{◌≡◌, refl, ℕ, ◌*◌, ◌^◌, ◌<◌, List, [], ◌∷◌, map, Bool, ℤ, ◌+ℤ◌, ◌*ℤ◌, Err, None, Ok, Option, Result, Some}
use Rattle.std.proofs.Common.{sym, ap, ◌∙◌, subst, lit≤}
use Rattle.std.proofs.Math.Path.{ap₂}
use Rattle.std.proofs.Math.Bool.{true, false}
use Rattle.std.proofs.Math.IntN.{*ℤ_comm}
use Rattle.algebra.specs.Gate.{Gauss, squared}
use Rattle.algebra.proofs.Laws.{norm-law}
use Rattle.algebra.specs.Ring.{ints}
use Rattle.amplitudes.specs.declared.Complex.{Complex}
use Rattle.amplitudes.specs.declared.U4.{U4}
use Rattle.amplitudes.proofs.Laws.{whole-within}
use Rattle.amplitudes.specs.Numbers.{gauss_gate, WholeC, Small}
use Rattle.keys.specs.Keys.{bit_at, clear, toggle, IsKey}
use Rattle.keys.specs.Laws.{clear-key, toggle-key, qubit-word}
use Rattle.keys.specs.Lists.{All, all_map}
use Rattle.merge.specs.Laws.{Address, addresses-rise, no_address, key_in, at_all, at_own, Distinct}
use Rattle.merge.specs.Records.{Entry, at}
use Rattle.gates.specs.declared.Gated.{Gated}
use Rattle.statevector.specs.declared.Refusal.{Refusal}
use Rattle.gates.specs.Gate.{gate_call, pruned, key_for, addresses_in}
use Rattle.state.specs.Laws.{GateKept, gate-kept, gate-words, gate-refused, results, gate-at, new_is, new_none, addresses-of}
use Rattle.statevector.specs.Endings.{Ending}
use Rattle.statevector.specs.Tests.{Accepted}
use Rattle.exact.specs.Lookups.{address-is-key}
use Rattle.exact.proofs.NewNumbers.{Bounded, WholeM, Reads, wider, new-exact}
use Rattle.exact.proofs.OneCall.{Keeps, keys_in, distinct-in, accepted-unchanged, agree-unchanged}
use Rattle.exact.specs.Sums.{over-times, over-all, pair_squares, Covers, cover-sum}
use Rattle.exact.specs.Table.{Snapshot, front_words, front_entries, gate, gate_refused, gate_result, Table, numbers_of, exact_sum, new_numbers, gate_numbers, weight, effect, effect_unless, Admissible, Limited, PremiseUnless, AcceptedSnapshot, AllWhole, Agree}

-- ---- one accepted gate: es before it, its results after it

module _ (n q : ℕ) (g : U4) (es : List Entry) (l : q < 64 * n) (keys : All (λ e. IsKey n e.key) es) (whole : AllWhole es) (distinct : Distinct key_in es)
    (fs : List Entry) (is-results : fs ≡ results q g es) (new-keys : All (λ e. IsKey n e.key) fs) (new-distinct : Distinct key_in fs)
    (t : List ℕ → Gauss) (is : (k : List ℕ) → IsKey n k → numbers_of (at k es) ≡ t k) (admissible : Admissible g) (limit : (k : List ℕ) → IsKey n k → Small (2 ^ 34) (t k)) where
  bounded : (k : List ℕ) → IsKey n k → Bounded (at k es)
  bounded k i = go (at k es) (at_all WholeC k es whole) (subst (Small (2 ^ 34)) (sym (is k i)) (limit k i))
    where
      go : (m : Option Complex) → ((a : Complex) → m ≡ Some a → WholeC a) → Small (2 ^ 34) (numbers_of m) → Bounded m
      go None w s = tt
      go (Some a) w s = whole-within (2 ^ 34) a (w a refl) s

  -- at an address, or at its partner, the results read as the table's new numbers
  side-exact : (b : Bool) (k : List ℕ) → Address n q k → Reads (at (key_for q b k) fs) (new_numbers (gauss_gate g) b (numbers_of (at k es)) (numbers_of (at (toggle q k) es)))
  side-exact b k a =
      subst (λ (m : Option Complex). Reads m (new_numbers (gauss_gate g) b (numbers_of (at k es)) (numbers_of (at (toggle q k) es))))
      (sym (ap (at (key_for q b k)) is-results ∙ gate-at n q g es l keys b k a ∙ ap pruned (new_is q g b es k)))
      (new-exact g admissible b (at k es) (at (toggle q k) es) (bounded k a.0) (bounded (toggle q k) (toggle-key n q k a.0)))

  key-exact : (k : List ℕ) → IsKey n k → Reads (at k fs) (new_numbers (gauss_gate g) (bit_at q k) (numbers_of (at (clear q k) es)) (numbers_of (at (toggle q (clear q k)) es)))
  key-exact k i =
      let a = address-is-key n q k l i in
      subst (λ (j : List ℕ). Reads (at j fs) (new_numbers (gauss_gate g) (bit_at q k) (numbers_of (at (clear q k) es)) (numbers_of (at (toggle q (clear q k)) es)))) a.1 (side-exact (bit_at q k) (clear q k) a.0)

  -- the table's step
  new-table : (k : List ℕ) → IsKey n k → numbers_of (at k fs) ≡ gate_numbers q (gauss_gate g) t k
  new-table k i =
      let c = clear-key n q k i in
      (key-exact k i).value ∙ ap₂ (new_numbers (gauss_gate g) (bit_at q k)) (is (clear q k) c) (is (toggle q (clear q k)) (toggle-key n q (clear q k) c))

  -- whole parts stay whole: every entry is the one that is found at its key
  new-whole : AllWhole fs
  new-whole = both fs new-keys (at_own fs new-distinct)
    where
      both : (xs : List Entry) → All (λ e. IsKey n e.key) xs → All (λ e. at e.key fs ≡ Some e.amp) xs → AllWhole xs
      both [] i h = tt
      both (e ∷ xs) i h = (subst WholeM h.0 (key-exact e.key i.0).whole, both xs i.1 h.1)

  -- the exact sum, over the addresses of es: they cover the entries before and after
  covers-before : Covers n q (addresses_in q es) es
  covers-before k a m = no_address q k es (qubit-word n q k l a.0) a.1 m

  covers-after : Covers n q (addresses_in q es) fs
  covers-after k a m =
      let z = covers-before k a m in
      let none-at : (b : Bool) → at (key_for q b k) fs ≡ None = (λ b. ap (at (key_for q b k)) is-results ∙ gate-at n q g es l keys b k a ∙ new_none q g b es k z.0 z.1) in
      (none-at false, none-at true)

  pair_step : (k : List ℕ) → Address n q k → pair_squares q fs k ≡ weight (gate q g) *ℤ pair_squares q es k
  unfolding weight
  pair_step k a =
      ap₂ (λ (x y : Gauss). squared ints x +ℤ squared ints y) (side-exact false k a).value (side-exact true k a).value
      ∙ norm-law (gauss_gate g) _ admissible.weighted (record { x = numbers_of (at k es); y = numbers_of (at (toggle q k) es) })

  new-sum : exact_sum fs ≡ exact_sum es *ℤ weight (gate q g)
  new-sum =
      let w = weight (gate q g) in
      let ks = addresses_in q es in
      let addr = addresses-of n q g es l keys in
      let up = addresses-rise q (map (λ (e : Entry). e.key) es) in
      sym (cover-sum n q l ks up addr fs new-keys new-distinct covers-after)
      ∙ over-all (pair_squares q fs) (λ k. w *ℤ pair_squares q es k) ks (all_map ks pair_step addr)
      ∙ over-times w (pair_squares q es) ks
      ∙ ap (λ (x : ℤ). w *ℤ x) (cover-sum n q l ks up addr es keys distinct covers-before)
      ∙ *ℤ_comm w (exact_sum es)

  -- all three
  new-exactly : AllWhole fs
      × ((k : List ℕ) → IsKey n k → numbers_of (at k fs) ≡ gate_numbers q (gauss_gate g) t k)
      × (exact_sum fs ≡ exact_sum es *ℤ weight (gate q g))
  new-exactly = (new-whole, new-table, new-sum)

-- ---- an accepted gate takes h to o

gate-agrees : (h o : Snapshot) (q : ℕ) (g : U4) (t : Table)
    → AcceptedSnapshot h → AcceptedSnapshot o
    → GateKept h.state q g (front_words h) o.state (front_words o)
    → Agree h t → Admissible g → Limited t → Agree o (effect (gate q g) t)
unfolding effect
gate-agrees h o q g t a b k agree admissible limited =
    let n = t.width in
    let e = agree.width in
    let l : q < 64 * n = subst (λ (m : ℕ). q < 64 * m) e k.qubit in
    let keys = subst (λ (m : ℕ). All (λ e. IsKey m e.key) (front_entries h)) e (keys_in h a) in
    let new-keys = subst (λ (m : ℕ). All (λ e. IsKey m e.key) (front_entries o)) (k.width ∙ e) (keys_in o b) in
    let limit : (k : List ℕ) → IsKey n k → Small (2 ^ 34) (t.at k) = (λ k i. wider (t.at k) (limited k i) (lit≤ tt)) in
    let new =
    new-exactly n q g (front_entries h) l keys agree.whole (distinct-in h a)
    (front_entries o) k.results-in new-keys (distinct-in o b)
    t.at agree.numbers admissible limit
    in
    record {
      width = k.width ∙ e;
      whole = new.0;
      numbers = new.1;
      sum = new.2 ∙ ap (λ (z : ℤ). z *ℤ weight (gate q g)) agree.sum;
    }

-- ---- the call, by its answer p

module _ (q : ℕ) (g : U4) (h : Snapshot) (a : AcceptedSnapshot h) where
  abbrev call : Ending (Result Gated Refusal)
  call = gate_call h.state q g h.left h.right

  abbrev leaves : Result Gated Refusal → Snapshot
  leaves p = (gate_result h (record { answer = p; left = call.left; right = call.right })).after

  kept : (d : Gated) → call.answer ≡ Ok d → GateKept h.state q g (front_words h) d.state (front_words (leaves (Ok d)))
  kept d e = gate-kept h.state q g h.left h.right a.left a.right d e

  front-unchanged : (r : Refusal) → call.answer ≡ Err r → front_words (leaves (Err r)) ≡ front_words h
  front-unchanged r e = (gate-refused h.state q g h.left h.right r e).0

  accepted-after : (p : Result Gated Refusal) → call.answer ≡ p → AcceptedSnapshot (leaves p)
  accepted-after p e =
      let w = gate-words h.state q g h.left h.right a.left a.right in
      record { left = w.0; right = w.1; accepted = go p e }
    where
      go : (p : Result Gated Refusal) → call.answer ≡ p → Accepted (leaves p).state (front_words (leaves p))
      go (Ok d) e = (kept d e).accepted
      go (Err r) e = accepted-unchanged h (leaves (Err r)) refl (front-unchanged r e) a.accepted

  agree_after : (t : Table) → Agree h t → (p : Result Gated Refusal) → call.answer ≡ p
      → PremiseUnless (gate_refused p) (gate q g) t
      → Agree (leaves p) (effect_unless (gate_refused p) (gate q g) t)
  agree_after t agree (Ok d) e f =
      gate-agrees h (leaves (Ok d)) q g t a (accepted-after (Ok d) e) (kept d e) agree f.0 f.1
  agree_after t agree (Err r) e f = agree-unchanged h (leaves (Err r)) t refl (front-unchanged r e) agree

-- THE LEMMA of a gate call
pub gate-keeps : (q : ℕ) (g : U4) → Keeps (gate q g)
unfolding effect
gate-keeps q g =
    record {
      accepted = λ h a. accepted-after q g h a _ refl;
      ready = λ h t r p.
          record {
            accepted = accepted-after q g h r.accepted _ refl;
            agree = agree_after q g h r.accepted t r.agree _ refl p;
          };
      sum = λ t. refl;
    }
