-- Words moved to an earlier place, and records divided where they are moved to. For the proofs of
-- `move_words` and `normalize`. Assumes nothing.
use mathlib.Core.Path.{◌≡◌, refl, sym, ap, ◌∙◌}
use Prim.Native.Nat.{ℕ, ◌+◌, ◌-◌, ◌*◌, ◌<◌, ◌≤◌}
use native.Mathlib.Omega.{arith}
use mathlib.Core.List.{List}
use mathlib.Core.Bool.{true, false, ◌&&◌}
use lib.Ieee.{Float, binary64, to_bits}
use lib.ListN.{length, set, take, drop}
use lib.Seq.{sets, length-sets}
use Rattle.amplitudes.specs.declared.Complex.{Complex}
use Rattle.amplitudes.specs.Amplitudes.{over, near_one}
use Rattle.keys.specs.Lists.{All}
use Rattle.merge.specs.Records.{record_at, record_from, part, flat, key_of, amplitude_of, finite_record}
use Rattle.merge.specs.Laws.{record-from, part-some, part_none, all-part, record-fits, record-length, record-below, record-key-length, part-flat, record_same, entry-sets, after-record, sets-record, sets-no-records, sets-self, and-true-l, and_true_r, from-length, from_key, drop-sets}
use Rattle.measurement.specs.Measurement.{divided}
use Rattle.measurement.specs.Passes.{normalized}
use Rattle.statevector.specs.Tests.{all_finite}
use Rattle.measurement.proofs.Matches.{divided-length, all-divided, all-finite-cons}

-- ---- words moved to an earlier place

-- where they stand there already
pub moved_none : (ws : List ℕ) (from to many : ℕ) → from ≡ to → from + many ≤ length ws → ws ≡ sets ws to (take many (drop from ws))
moved_none ws from to many e h = sym (ap (λ (k : ℕ). sets ws k (take many (drop from ws))) (sym e) ∙ sets-self ws from many h)

-- a key moved, and two patterns stored after it
pub moved-record : (n : ℕ) (scale : Float) (ws ws' : List ℕ) (x at re im : ℕ) (a : Complex) → x + (n + 2) ≤ length ws → ws' ≡ sets ws at (take n (drop x ws))
    → a ≡ over (amplitude_of n (record_from n ws x)) scale → re ≡ to_bits binary64 a.re → im ≡ to_bits binary64 a.im
    → set (set ws' (at + n) re) (at + n + 1) im ≡ sets ws at (divided n scale (record_from n ws x))
unfolding divided
moved-record n scale ws ws' x at re im a h u e y z =
    let r = record_from n ws x in
    entry-sets ws ws' (record { key = key_of n r; amp = over (amplitude_of n r) scale }) at n re im (u ∙ ap (sets ws at) (sym (from_key n x ws))) (record-key-length n r (from-length n x ws h))
    (y ∙ ap (λ (c : Complex). to_bits binary64 c.re) e)
    (z ∙ ap (λ (c : Complex). to_bits binary64 c.im) e)

-- ---- records settled at the store's start

-- near 1 nothing is divided, elsewhere all
pub settled-near : (n : ℕ) (scale : Float) (rs : List (List ℕ)) → near_one scale ≡ true → normalized n scale rs ≡ rs
unfolding normalized
settled-near n scale rs e = rw e

pub settled-far : (n : ℕ) (scale : Float) (rs : List (List ℕ)) → near_one scale ≡ false → normalized n scale rs ≡ all-divided n scale rs
unfolding normalized
settled-far n scale rs e = rw e

-- the words of m records, moved
pub moved-words : (n : ℕ) (ws : List ℕ) (from m : ℕ) → sets ws 0 (take (m * (n + 2)) (drop (from * (n + 2)) ws)) ≡ sets ws 0 (flat (part n ws from (from + m)))
moved-words n ws from m =
    let z : from + m - from ≡ m = omega arith in
    sym (ap (sets ws 0) (part-flat n ws from (from + m) ∙ ap (λ (k : ℕ). take (k * (n + 2)) (drop (from * (n + 2)) ws)) z))

-- the records i .. of those to settle are left, and the next goes to record r's place, i = from + r.
-- Those that are left stand as they did in `ws₀`; with them divided and written from there on the
-- store is `final`
pub record Settling (n from m : ℕ) (scale : Float) (ws₀ final ws : List ℕ) (i r : ℕ) : Type 0 where
  pub index : i ≡ from + r
  pub ends : sets ws (r * (n + 2)) (flat (all-divided n scale (part n ws₀ i (from + m)))) ≡ final
  pub after : drop (i * (n + 2)) ws ≡ drop (i * (n + 2)) ws₀
  pub same : length ws ≡ length ws₀
  pub finites : All (λ s. finite_record n s ≡ true) (part n ws₀ i (from + m))
  pub fine : all_finite n (all-divided n scale (part n ws₀ i (from + m))) ≡ true

module _ (n from m : ℕ) (scale : Float) (ws₀ final ws : List ℕ) (i r : ℕ) (d : Settling n from m scale ws₀ final ws i r) where
  pub settling-end : m ≤ r → ws ≡ final
  settling-end h =
      let e = d.index in
      sym
      (ap (λ (rs : List (List ℕ)). sets ws (r * (n + 2)) (flat (all-divided n scale rs))) (part_none n ws₀ i (from + m) (omega arith))
      ∙ sets-no-records ws (r * (n + 2)))
      ∙ d.ends

  module _ (h : r < m) (k : (from + m) * (n + 2) ≤ length ws₀) where
    -- the next record, the same as in `ws₀`
    turn : i < from + m
    turn = let e = d.index in omega arith

    same_record : record_from n ws (i * (n + 2)) ≡ record_at n ws₀ i
    same_record = record-from n i (i * (n + 2)) ws refl ∙ record_same n i ws ws₀ d.after

    -- those that are left are it, divided, and the others
    settling-fine : (finite_record n (divided n scale (record_at n ws₀ i)) && all_finite n (all-divided n scale (part n ws₀ (i + 1) (from + m)))) ≡ true
    settling-fine =
        sym (all-finite-cons n (divided n scale (record_at n ws₀ i)) (all-divided n scale (part n ws₀ (i + 1) (from + m))))
        ∙ ap (λ (rs : List (List ℕ)). all_finite n (all-divided n scale rs)) (sym (part-some n ws₀ i (from + m) turn))
        ∙ d.fine

    -- it is finite, also divided
    pub settling-now : (finite_record n (record_from n ws (i * (n + 2))) ≡ true) × (finite_record n (divided n scale (record_from n ws (i * (n + 2)))) ≡ true)
    settling-now = (
      rw same_record (all-part (λ s. finite_record n s ≡ true) n ws₀ i (from + m) turn d.finites).0,
      rw same_record (and-true-l (finite_record n (divided n scale (record_at n ws₀ i))) _ settling-fine),
    )

    pub settling-next : (ws' : List ℕ) → ws' ≡ sets ws (r * (n + 2)) (divided n scale (record_from n ws (i * (n + 2)))) → Settling n from m scale ws₀ final ws' (i + 1) (r + 1)
    settling-next ws' u =
        let y = divided n scale (record_at n ws₀ i) in
        let rest = all-divided n scale (part n ws₀ (i + 1) (from + m)) in
        let l : length y ≡ n + 2 = divided-length n scale (record_at n ws₀ i) (record-length n i ws₀ (record-fits n i (from + m) ws₀ turn k)) in
        let u' : ws' ≡ sets ws (r * (n + 2)) y = u ∙ ap (λ (s : List ℕ). sets ws (r * (n + 2)) (divided n scale s)) same_record in
        let e = d.index in
        record {
          index = omega arith;
          ends =
              ap (λ (l : List ℕ). sets l ((r + 1) * (n + 2)) (flat rest)) u'
              ∙ sym (sets-record n ws r y rest l)
              ∙ ap (λ (rs : List (List ℕ)). sets ws (r * (n + 2)) (flat (all-divided n scale rs))) (sym (part-some n ws₀ i (from + m) turn))
              ∙ d.ends;
          after =
              ap (drop ((i + 1) * (n + 2))) u'
              ∙ drop-sets ws (r * (n + 2)) y ((i + 1) * (n + 2)) (omega (arith, l, record-below n r (i + 1) (omega arith)))
              ∙ after-record n i ws ws₀ d.after;
          same = ap length u' ∙ length-sets ws (r * (n + 2)) y ∙ d.same;
          finites = (all-part (λ s. finite_record n s ≡ true) n ws₀ i (from + m) turn d.finites).1;
          fine = and_true_r (finite_record n y) _ settling-fine;
        }
