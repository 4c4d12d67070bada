-- A gate depends on its entries only by which keys have one: lists with the same addresses and the
-- same amplitude at every key have the same results. So a repartition before a gate changes nothing
-- of them. For the proof of `perform_u4`. Assumes nothing.
use Rattle.std.specs.Prelude.{◌≡◌, ℕ, Bool, ◌&&◌, Option}
use Rattle.std.proofs.Math.Path.{refl, ap, ap₂}
use Rattle.std.proofs.Common.{sym, ◌∙◌}
use mathlib.Core.List.{List, [], ◌∷◌, ◌++◌}
use Rattle.std.proofs.Math.Bool.{true, false}
use Rattle.amplitudes.specs.declared.Complex.{Complex}
use Rattle.amplitudes.specs.declared.U4.{U4}
use Rattle.keys.specs.Keys.{toggle}
use Rattle.merge.specs.Records.{Entry, entries, key_of, at}
use Rattle.merge.specs.Sorting.{repartitioned}
use Rattle.merge.specs.Laws.{Distinct, addresses-perm, perm-map, entries-keys, by_key, repartition-perm, repartition-at}
use Rattle.merge.specs.Addresses.{addresses}
use Rattle.gates.specs.Gate.{New, new_at, pruned, finite_new, new_for, key_for, entered, new_part, addresses_in, gate_part, gate_finite}
use Rattle.statevector.specs.Tests.{all}

-- ---- entries enter by their addresses and lookups alone

module _ (q : ℕ) (g : U4) (es fs : List Entry) (same_at : (k : List ℕ) → at k es ≡ at k fs) where
  new-same : (b : Bool) (k : List ℕ) → new_for q g b es k ≡ new_for q g b fs k
  unfolding new_for
  new-same b k = ap₂ (λ (x y : Option Complex). new_at g b x y) (same_at k) (same_at (toggle q k))

  part_same : (b : Bool) (ks : List (List ℕ)) → new_part q g b es ks ≡ new_part q g b fs ks
  unfolding new_part
  part_same b [] = refl
  part_same b (k ∷ ks) = ap₂ (λ (w : New) (r : List Entry). entered (key_for q b k) (pruned w) r) (new-same b k) (part_same b ks)

  finite-same : (ks : List (List ℕ)) → all (λ (k : List ℕ). finite_new (new_for q g false es k) && finite_new (new_for q g true es k)) ks ≡ all (λ (k : List ℕ). finite_new (new_for q g false fs k) && finite_new (new_for q g true fs k)) ks
  finite-same [] = refl
  finite-same (k ∷ ks) = rw (new-same false k, new-same true k, finite-same ks)

  module _ (same-addresses : addresses_in q es ≡ addresses_in q fs) where
    pub gate-part-same : (b : Bool) → gate_part q g b es ≡ gate_part q g b fs
    unfolding gate_part
    gate-part-same b = part_same b (addresses_in q es) ∙ ap (new_part q g b fs) same-addresses

    pub gate-finite-same : gate_finite q g es ≡ gate_finite q g fs
    unfolding gate_finite
    gate-finite-same = finite-same (addresses_in q es) ∙ ap (all (λ (k : List ℕ). finite_new (new_for q g false fs k) && finite_new (new_for q g true fs k))) same-addresses

-- so records without a repeated key give the same parts after a repartition
module _ (n q : ℕ) (g : U4) (rs : List (List ℕ)) (d : Distinct (by_key n) rs) where
  abbrev pub parted : List Entry
  parted = entries n (repartitioned n q false rs ++ repartitioned n q true rs)

  parted-addresses : addresses_in q parted ≡ addresses_in q (entries n rs)
  parted-addresses =
      ap (addresses q) (entries-keys n (repartitioned n q false rs ++ repartitioned n q true rs))
      ∙ addresses-perm q (perm-map (key_of n) (repartition-perm n q rs))
      ∙ ap (addresses q) (sym (entries-keys n rs))

  pub parted-part : (b : Bool) → gate_part q g b parted ≡ gate_part q g b (entries n rs)
  parted-part = gate-part-same q g parted (entries n rs) (repartition-at n q rs d) parted-addresses

  pub parted-finite : gate_finite q g parted ≡ gate_finite q g (entries n rs)
  parted-finite = gate-finite-same q g parted (entries n rs) (repartition-at n q rs d) parted-addresses
