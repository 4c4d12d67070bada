-- A turn of the loop that sums squares. For the proof of `sum_part`. Assumes nothing.
use Rattle.std.proofs.Common.{◌≡◌, refl, ℕ, List, [], ◌∷◌, Bool, true, false, cond, sym, ap, ◌∙◌, subst}
use Rattle.std.specs.Bool.{beq}
use Rattle.std.specs.Float.{Float, binary64}
use Rattle.std.specs.Float.Ieee.{add}
use Rattle.amplitudes.specs.Amplitudes.{norm2}
use Rattle.keys.specs.Lists.{All}
use Rattle.merge.specs.Records.{record_bit, amplitude_of}
use Rattle.merge.specs.Laws.{side-none, side-some}
use Rattle.merge.specs.Walks.{Whole}
use Rattle.merge.specs.Sorting.{choose, side}
use Rattle.state.specs.Sums.{sum_from, plus_zero}

-- the records that are left give, on top of each sum, the sum over all; they are whole and finite
pub record Summing (n q : ℕ) (every left : List (List ℕ)) (clear set : Float) : Type 0 where
  pub clears : sum_from n clear (side n q false left) ≡ sum_from n plus_zero (side n q false every)
  pub sets : sum_from n set (side n q true left) ≡ sum_from n plus_zero (side n q true every)
  pub whole : All (Whole n) left

-- the first record counts where its bit is t
sum-next : (n q : ℕ) (r : List ℕ) (rs : List (List ℕ)) (m : Float) → m ≡ norm2 (amplitude_of n r) → (t : Bool) (acc : Float)
    → sum_from n (cond (beq (record_bit n q r) t) (add binary64 acc m) acc) (side n q t rs) ≡ sum_from n acc (side n q t (r ∷ rs))
unfolding sum_from
sum-next n q r rs m d t acc = sym (ap (sum_from n acc) (side-some n q t r rs) ∙ go (beq (record_bit n q r) t))
  where
    go : (s : Bool) → sum_from n acc (choose s (r ∷ side n q t rs) (side n q t rs)) ≡ sum_from n (cond s (add binary64 acc m) acc) (side n q t rs)
    go true = ap (λ (x : Float). sum_from n (add binary64 acc x) (side n q t rs)) (sym d)
    go false = refl

module _ (n q : ℕ) (every left : List (List ℕ)) (clear set : Float) (d : Summing n q every left clear set) where
  module _ (r : List ℕ) (rs : List (List ℕ)) (e : left ≡ r ∷ rs) where
    pub summing-whole : Whole n r × All (Whole n) rs
    summing-whole = subst (All (Whole n)) e d.whole

    -- it counts by its bit
    pub summing-next : (b : Bool) → b ≡ record_bit n q r → (m : Float) → m ≡ norm2 (amplitude_of n r) → (clear' set' : Float) → clear' ≡ cond (beq b false) (add binary64 clear m) clear
        → set' ≡ cond (beq b true) (add binary64 set m) set → Summing n q every rs clear' set'
    summing-next b w m u clear' set' x y =
        let each : (t : Bool) (acc acc' : Float) → acc' ≡ cond (beq b t) (add binary64 acc m) acc → sum_from n acc' (side n q t rs) ≡ sum_from n acc (side n q t left) =
        λ t acc acc' z.
        ap (λ (z : Float). sum_from n z (side n q t rs)) (z ∙ ap (λ (b : Bool). cond (beq b t) (add binary64 acc m) acc) w)
        ∙ sum-next n q r rs m u t acc
        ∙ ap (λ (rs : List (List ℕ)). sum_from n acc (side n q t rs)) (sym e) in
        record { clears = each false clear clear' x ∙ d.clears; sets = each true set set' y ∙ d.sets; whole = summing-whole.1 }

  pub summing-end : left ≡ [] → (clear ≡ sum_from n plus_zero (side n q false every)) × (set ≡ sum_from n plus_zero (side n q true every))
  unfolding sum_from
  summing-end e =
      let none : (t : Bool) (acc : Float) → sum_from n acc (side n q t left) ≡ acc = (λ t acc. ap (λ (rs : List (List ℕ)). sum_from n acc (side n q t rs)) e ∙ ap (sum_from n acc) (side-none n q t)) in
      (sym (none false clear) ∙ d.clears, sym (none true set) ∙ d.sets)
