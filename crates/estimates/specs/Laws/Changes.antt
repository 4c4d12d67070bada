-- What is found at one entry, and how large counts can be; what the calls answer, and that a gate
-- that is not finite matters only by that. For the proofs of estimates, and the layer above.
-- Assumes nothing.
use Rattle.std.specs.Prelude.{◌≡◌, refl, ℕ, ◌+◌, ◌*◌, ◌≤◌, List, [], ◌∷◌, Bool, true, false, not, ℤ, length, Err, None, Ok, Option, Result, Some}
use Rattle.std.proofs.Common.{sym, ◌∙◌, subst, le_trans, arith}
use Rattle.amplitudes.specs.declared.Combined.{Combined}
use Rattle.amplitudes.specs.declared.U4.{U4}
use Rattle.amplitudes.specs.declared.Verdict.{Verdict}
use Rattle.amplitudes.specs.declared.Verdict.TheVariants.{Kept, Dropped}
use Rattle.amplitudes.specs.Amplitudes.{finite_gate}
use Rattle.merge.specs.Records.{Entry}
use Rattle.merge.specs.Laws.{fewer-records}
use Rattle.statevector.specs.declared.Refusal.{Refusal}
use Rattle.statevector.specs.declared.Refusal.TheVariants as no
use Rattle.statevector.specs.declared.State.{State}
use Rattle.estimates.specs.declared.Change.{Change}
use Rattle.estimates.specs.Estimates.{dropped, pair_at, deltas, finite_sums, halved, chosen, pair_of_entry, delta_for, estimate_tests, by_tests, collapse_in, collapse_call, forecast_in, forecast_call, change, collapse_response, forecast_response}
use Rattle.estimates.specs.Passes.{dropped_of, unpaired_of, if_finite, change_of, drops_of, SmallChange, unpaired_in, dropped_in, totals_of}
use Rattle.statevector.specs.Laws.{Sound, not_finite_tested, not-finite-tests, not-finite-alike}
use Rattle.statevector.specs.States.{front_of, entries_of}
use Rattle.statevector.specs.Refusals.{first, Tested}
use Rattle.statevector.specs.Tests.{all, qubit_row}
use Rattle.statevector.specs.Answers.{by}
use Rattle.estimates.specs.Laws.Estimates.{entries-length, es, totals-say}

-- ---- what is found at one entry

-- what each change says of the pair
abbrev pub Facts : Result Change Refusal → Option Combined → Type 0
Facts (Ok c) o = (unpaired_of o ≡ c.unpaired) × (dropped_of o ≡ c.dropped) × (finite_sums o ≡ true) × (c.unpaired ≤ 1) × (c.dropped ≤ 2)
Facts (Err r) o = (finite_sums o ≡ false) × (r ≡ no.Overflow)

pub at_most_one : (v : Verdict) → dropped v ≤ 1
at_most_one Kept = omega arith
at_most_one Dropped = omega arith

facts : (o : Option Combined) → Facts (change_of o) o
facts None = (refl, refl, refl, omega arith, omega arith)
facts (Some p) = go (finite_sums (Some p)) refl
  where
    go : (b : Bool) → finite_sums (Some p) ≡ b → Facts (if_finite b (record { unpaired = 0; dropped = dropped_of (Some p) })) (Some p)
    go true e = (refl, refl, e, omega arith, let x = at_most_one p.stay.verdict in let y = at_most_one p.flip.verdict in omega arith)
    go false e = (e, refl)

pub change-facts : (c : Result Change Refusal) (o : Option Combined) → c ≡ change_of o → Facts c o
change-facts c o e = subst (λ (d : Result Change Refusal). Facts d o) (sym e) (facts o)

pub not-unpaired : (o : Option Combined) → unpaired_of o ≡ 0 → Ok (record { unpaired = 1; dropped = 0 }) ≡ change_of o → ⊥
not-unpaired o e c = let f = (change-facts (Ok (record { unpaired = 1; dropped = 0 })) o c).0 in omega arith

pub small-change : (o : Option Combined) (c : Result Change Refusal) → c ≡ change_of o → SmallChange c
small-change o c h = go c (change-facts c o h)
  where
    go : (c : Result Change Refusal) → Facts c o → SmallChange c
    go (Ok x) f = let u = f.3 in let d = f.4 in (omega arith, omega arith)
    go (Err r) f = tt

-- what the drops of a pair say of its entry
abbrev pub SayDrops : Result ℕ Refusal → Result Change Refusal → Type 0
SayDrops (Ok k) c = (Ok (record { unpaired = 0; dropped = k }) ≡ c) × (k ≤ 2)
SayDrops (Err r) c = Err r ≡ c

pub say-drops : (p : Combined) (d : Result ℕ Refusal) → d ≡ drops_of p → SayDrops d (change_of (Some p))
say-drops p d e = subst (λ (d : Result ℕ Refusal). SayDrops d (change_of (Some p))) (sym e) (go (finite_sums (Some p)))
  where
    go : (b : Bool) → SayDrops (if_finite b (dropped_of (Some p))) (if_finite b (record { unpaired = 0; dropped = dropped_of (Some p) }))
    go true = (refl, let x = at_most_one p.stay.verdict in let y = at_most_one p.flip.verdict in omega arith)
    go false = refl

-- the counts are no more than the records
pub few-unpaired : (q : ℕ) (g : U4) (es rest : List Entry) → unpaired_in q g es rest ≤ length rest
unfolding unpaired_in
few-unpaired q g es [] = omega arith
few-unpaired q g es (e ∷ rest) = let k = few-unpaired q g es rest in let l = one-most (pair_at q g es e) in omega arith
  where
    one-most : (o : Option Combined) → unpaired_of o ≤ 1
    one-most None = omega arith
    one-most (Some p) = omega arith

pub few-dropped : (q : ℕ) (g : U4) (es rest : List Entry) → dropped_in q g es rest ≤ 2 * length rest
unfolding dropped_in
few-dropped q g es [] = omega arith
few-dropped q g es (e ∷ rest) = let k = few-dropped q g es rest in let l = two-most (pair_at q g es e) in omega arith
  where
    two-most : (o : Option Combined) → dropped_of o ≤ 2
    two-most None = omega arith
    two-most (Some p) = let x = at_most_one p.stay.verdict in let y = at_most_one p.flip.verdict in omega arith

-- as many records as a sound state has are no more than its store's words
pub few-records : (s : State) (ws : List ℕ) → Sound s ws → s.n0 + s.n1 ≤ length ws
few-records s ws h = le_trans (fewer-records s.width (s.n0 + s.n1)) h.room

-- the counts are no more than the records allow
pub few-totals : (s : State) (q : ℕ) (g : U4) (front : List ℕ) (c : Change) → Ok c ≡ totals_of q g (entries_of s front) → (c.unpaired ≤ s.n0 + s.n1) × (c.dropped ≤ 2 * (s.n0 + s.n1))
few-totals s q g front c t =
    let es = entries_of s front in
    let f = totals-say s q g front (Ok c) t in
    let x = f.1 in
    let y = f.2 in
    let l = entries-length s front in
    (omega (arith, few-unpaired q g es es), omega (arith, few-dropped q g es es))

-- ---- their numbers and values

estimate-response : (t : Tested) (d : ℤ) → change (by_tests t d) ≡ by t d
estimate-response (Ok tt) d = refl
estimate-response (Err r) d = refl

pub collapse-response : (s : State) (q : ℕ) (g : U4) (i : ℕ) (left right : List ℕ)
    → change (collapse_call s q g i left right) ≡ collapse_response s q g i left right
unfolding collapse_call collapse_in
collapse-response s q g i left right =
    let front = front_of s.front left right in
    let es = entries_of s front in
    let p = pair_of_entry q g es (chosen i es) in estimate-response (first (estimate_tests s front q g (finite_sums p))) (delta_for (chosen i es) p)

pub forecast-response : (s : State) (q : ℕ) (g : U4) (left right : List ℕ)
    → change (forecast_call s q g left right) ≡ forecast_response s q g left right
unfolding forecast_call forecast_in
forecast-response s q g left right =
    let front = front_of s.front left right in
    let es = entries_of s front in estimate-response (first (estimate_tests s front q g (all (λ (e : Entry). finite_sums (pair_at q g es e)) es))) (halved (deltas q g es es))

-- ---- a gate that is not finite matters only by that

module _ (s : State) (q : ℕ) (left right : List ℕ) where
  abbrev front-words : List ℕ
  front-words = front_of s.front left right

  not-finite-gate : (g : U4) (r : Refusal) → finite_gate g ≡ false → not_finite_tested s front-words (qubit_row s q ∷ []) ≡ Err r → (is_finite : Bool)
      → first (estimate_tests s front-words q g is_finite) ≡ Err r
  unfolding estimate_tests
  not-finite-gate g r a e is_finite = not-finite-tests s front-words (qubit_row s q ∷ []) (finite_gate g) ((not is_finite, no.Overflow) ∷ []) a ∙ e

  collapse-not-finite-by : (g : U4) (i : ℕ) (r : Refusal) → finite_gate g ≡ false → not_finite_tested s front-words (qubit_row s q ∷ []) ≡ Err r → collapse_call s q g i left right ≡ Err r
  unfolding collapse_call collapse_in
  collapse-not-finite-by g i r a e = rw (not-finite-gate g r a e)

  forecast-not-finite-by : (g : U4) (r : Refusal) → finite_gate g ≡ false → not_finite_tested s front-words (qubit_row s q ∷ []) ≡ Err r → forecast_call s q g left right ≡ Err r
  unfolding forecast_call forecast_in
  forecast-not-finite-by g r a e = rw (not-finite-gate g r a e)

  pub collapse-not-finite : (g h : U4) (i : ℕ) → finite_gate g ≡ false → finite_gate h ≡ false → collapse_call s q g i left right ≡ collapse_call s q h i left right
  collapse-not-finite g h i a b = not-finite-alike s front-words (qubit_row s q ∷ []) _ _ (λ r e. collapse-not-finite-by g i r a e ∙ sym (collapse-not-finite-by h i r b e))

  pub forecast-not-finite : (g h : U4) → finite_gate g ≡ false → finite_gate h ≡ false → forecast_call s q g left right ≡ forecast_call s q h left right
  forecast-not-finite g h a b = not-finite-alike s front-words (qubit_row s q ∷ []) _ _ (λ r e. forecast-not-finite-by g r a e ∙ sym (forecast-not-finite-by h r b e))
