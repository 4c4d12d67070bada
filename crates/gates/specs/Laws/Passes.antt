-- The gate's passes compute the textbook's parts: where part 0 rises with bit q clear and part 1
-- with bit q set, what is made pair by pair is what the textbook has address by address. For the
-- proof of `perform_u4`. Assumes nothing.
use Rattle.std.specs.Prelude.{◌≡◌, ℕ, ◌+◌, ◌/◌, ◌<◌, Bool, length, None, Option}
use Rattle.std.proofs.Math.Path.{refl, ap, ap₂}
use Rattle.std.proofs.Common.{sym, ◌∙◌}
use mathlib.Core.List.{List, [], ◌∷◌, ◌++◌, map}
use Rattle.std.proofs.Math.Bool.{true, false, ◌&&◌}
use Rattle.amplitudes.specs.declared.Complex.{Complex}
use Rattle.amplitudes.specs.declared.U4.{U4}
use Rattle.amplitudes.specs.Moderate.{moderate_c, moderate_gate}
use Rattle.keys.specs.Keys.{toggle}
use Rattle.keys.specs.Lists.{All}
use Rattle.merge.specs.Records.{Entry, key_of, record_bit, amplitude_of, moderate_record, entries, at}
use Rattle.merge.specs.Laws.{WholeRecords, record-key-length, entries-keys, InPair, every-pair, rise-addressed, address, address_of, pairs-ind, met, in_pair, on_side, amplitude_in, pair-amplitudes, clear-off, clear-on, toggle-toggle, all_map, all_both, moderate-applied, moderate-pair, moderate-amplitude, pair_is, applied-is}
use Rattle.merge.specs.Sorting.{Rising, sort_key}
use Rattle.merge.specs.Addresses.{addresses}
use Rattle.merge.specs.Pairs.{Pair, lhs, rhs, both, pairs}
use Rattle.gates.specs.Gate.{new_at, finite_new, pruned, new_for, key_for, entered, new_part, addresses_in, gate_part, gate_finite}
use Rattle.statevector.specs.Tests.{all}
use Rattle.gates.specs.Passes.{new_in, new_key_in, pair_part, pairs_finite}
use Rattle.amplitudes.specs.declared.Combined as amplitudes
use Rattle.amplitudes.specs.Amplitudes.{finite_c}
use Rattle.amplitudes.specs.declared.Applied.{Applied}

-- ---- parts on their sides of q

-- the records of a pair are on their sides, and where there are two they have one address
abbrev Sided : ℕ → ℕ → Pair → Type 0
Sided n q (lhs x) = record_bit n q x ≡ false
Sided n q (rhs y) = record_bit n q y ≡ true
Sided n q (both x y) = (record_bit n q x ≡ false) × (record_bit n q y ≡ true) × (address n q x ≡ address n q y)

sided : (n q : ℕ) (xs ys : List (List ℕ)) → All (λ r. record_bit n q r ≡ false) xs → All (λ r. record_bit n q r ≡ true) ys → All (Sided n q) (pairs n q xs ys)
sided n q =
    pairs-ind n q (λ xs ys ps. All (λ r. record_bit n q r ≡ false) xs → All (λ r. record_bit n q r ≡ true) ys → All (Sided n q) ps)
    (λ f g. tt)
    (λ y ys ps r f g. (g.0, r f g.1))
    (λ x xs ps r f g. (f.0, r f.1 g))
    (λ x y xs ys ps l r f g. (f.0, r f.1 g))
    (λ x y xs ys ps e r f g. ((f.0, g.0, e), r f.1 g.1))
    (λ x y xs ys ps l r f g. (g.0, r f g.1))

-- the keys that a pair's new entries take are its address and the partner of that
module _ (n q : ℕ) (hq : q / 64 < n) where
  set_key : (y : List ℕ) → length y ≡ n + 2 → record_bit n q y ≡ true → toggle q (address n q y) ≡ key_of n y
  set_key y l e = ap (toggle q) (clear-on q (key_of n y) e) ∙ toggle-toggle q (key_of n y) (rw (record-key-length n y l) hq)

  side-key : (b : Bool) (p : Pair) → InPair (λ r. length r ≡ n + 2) p → Sided n q p → key_for q b (address_of n q p) ≡ new_key_in n q b p
  side-key false (lhs x) l s = clear-off q (key_of n x) s
  side-key false (rhs y) l s = clear-on q (key_of n y) s
  side-key false (both x y) l s = clear-off q (key_of n x) s.0
  side-key true (lhs x) l s = ap (toggle q) (clear-off q (key_of n x) s)
  side-key true (rhs y) l s = set_key y l s
  side-key true (both x y) l s = ap (toggle q) s.2 ∙ set_key y l.1 s.1

-- ---- pair by pair and address by address

-- a pair stands for its address: there, and at its partner, are its amplitudes, and its new keys
-- are these two
abbrev Good : ℕ → ℕ → List Entry → Pair → Type 0
Good n q es p = ((b : Bool) → at (on_side b q (address_of n q p)) es ≡ amplitude_in n (in_pair b p)) × ((b : Bool) → key_for q b (address_of n q p) ≡ new_key_in n q b p)

module _ (n q : ℕ) (g : U4) (es : List Entry) where
  new-good : (b : Bool) (p : Pair) → Good n q es p → new_for q g b es (address_of n q p) ≡ new_in n g b p
  unfolding new_for new_in
  new-good b p h = ap₂ (λ (x y : Option Complex). new_at g b x y) (h.0 false) (h.0 true)

  part-good : (b : Bool) (ps : List Pair) → All (Good n q es) ps → new_part q g b es (map (address_of n q) ps) ≡ pair_part n q g b ps
  unfolding new_part pair_part
  part-good b [] h = refl
  part-good b (p ∷ ps) h = rw (new-good b p h.0, h.0.1 b) (ap (entered (new_key_in n q b p) (pruned (new_in n g b p))) (part-good b ps h.1))

  finite-good : (ps : List Pair) → All (Good n q es) ps → all (λ (k : List ℕ). finite_new (new_for q g false es k) && finite_new (new_for q g true es k)) (map (address_of n q) ps) ≡ pairs_finite n g ps
  unfolding pairs_finite
  finite-good [] h = refl
  finite-good (p ∷ ps) h = rw (new-good false p h.0, new-good true p h.0, finite-good ps h.1)

-- THE LAWS: what the passes count, test and write are the textbook's parts
module _ (n q : ℕ) (hq : q / 64 < n) (g : U4) (X Y : List (List ℕ)) (wX : WholeRecords n X) (wY : WholeRecords n Y)
    (fX : All (λ r. record_bit n q r ≡ false) X) (fY : All (λ r. record_bit n q r ≡ true) Y) (rX : Rising (sort_key n None) X) (rY : Rising (sort_key n None) Y) where
  inside : (rs : List (List ℕ)) → WholeRecords n rs → All (λ r. q / 64 < length (key_of n r)) rs
  inside rs = all_map rs (λ r l. rw (record-key-length n r l) hq)

  good : All (Good n q (entries n (X ++ Y))) (pairs n q X Y)
  good =
      all_both _ _ (pairs n q X Y)
      (pair-amplitudes n q X Y fX fY (inside X wX) (inside Y wY) (rise-addressed n q false X fX rX) (rise-addressed n q true Y fY rY))
      (all_map (pairs n q X Y) (λ p h b. side-key n q hq b p h.0 h.1) (all_both _ _ (pairs n q X Y) (every-pair (λ r. length r ≡ n + 2) n q X Y wX wY) (sided n q X Y fX fY)))

  met-addresses : addresses_in q (entries n (X ++ Y)) ≡ map (address_of n q) (pairs n q X Y)
  met-addresses = ap (addresses q) (entries-keys n (X ++ Y)) ∙ (met n q X Y (rise-addressed n q false X fX rX) (rise-addressed n q true Y fY rY)).addressed

  pub part-textbook : (b : Bool) → gate_part q g b (entries n (X ++ Y)) ≡ pair_part n q g b (pairs n q X Y)
  unfolding gate_part
  part-textbook b = ap (new_part q g b (entries n (X ++ Y))) met-addresses ∙ part-good n q g (entries n (X ++ Y)) b (pairs n q X Y) good

  pub finite-textbook : gate_finite q g (entries n (X ++ Y)) ≡ pairs_finite n g (pairs n q X Y)
  unfolding gate_finite
  finite-textbook =
      let es = entries n (X ++ Y) in
      ap (all (λ (k : List ℕ). finite_new (new_for q g false es k) && finite_new (new_for q g true es k))) met-addresses
      ∙ finite-good n q g es (pairs n q X Y) good

-- where gate and parts are of moderate size nothing overflows
module _ (n : ℕ) (g : U4) (m : moderate_gate g ≡ true) where
  moderate : (r : List ℕ) → moderate_record n r ≡ true → moderate_c (amplitude_of n r) ≡ true
  moderate r e = sym (moderate-amplitude n r) ∙ e

  abbrev Moderate : Pair → Type 0
  Moderate = InPair (λ r. moderate_record n r ≡ true)

  new-finite : (p : Pair) → Moderate p → (finite_new (new_in n g false p) && finite_new (new_in n g true p)) ≡ true
  unfolding new_in
  new-finite (lhs r) e =
      let h = moderate-applied g (amplitude_of n r) m (moderate r e) false in
      let i = applied-is g false (amplitude_of n r) in
      ap₂ ◌&&◌ (sym (ap (λ (p : Applied). finite_c p.stay) i) ∙ h.0) (sym (ap (λ (p : Applied). finite_c p.flip) i) ∙ h.1)
  new-finite (rhs r) e =
      let h = moderate-applied g (amplitude_of n r) m (moderate r e) true in
      let i = applied-is g true (amplitude_of n r) in
      ap₂ ◌&&◌ (sym (ap (λ (p : Applied). finite_c p.flip) i) ∙ h.1) (sym (ap (λ (p : Applied). finite_c p.stay) i) ∙ h.0)
  new-finite (both r t) e =
      let h = moderate-pair g (amplitude_of n r) (amplitude_of n t) m (moderate r e.0) (moderate t e.1) false in
      let i = pair_is g false (amplitude_of n r) (amplitude_of n t) in
      ap₂ ◌&&◌ (sym (ap (λ (p : amplitudes.Combined). finite_c p.stay.sum) i) ∙ h.0) (sym (ap (λ (p : amplitudes.Combined). finite_c p.flip.sum) i) ∙ h.1)

  all-new-finite : (ps : List Pair) → All Moderate ps → pairs_finite n g ps ≡ true
  unfolding pairs_finite
  all-new-finite [] h = refl
  all-new-finite (p ∷ ps) h = ap₂ ◌&&◌ (new-finite p h.0) (all-new-finite ps h.1)

  pub moderate-pairs : (q : ℕ) (X Y : List (List ℕ)) → All (λ r. moderate_record n r ≡ true) X → All (λ r. moderate_record n r ≡ true) Y → pairs_finite n g (pairs n q X Y) ≡ true
  moderate-pairs q X Y x y = all-new-finite (pairs n q X Y) (every-pair (λ r. moderate_record n r ≡ true) n q X Y x y)
