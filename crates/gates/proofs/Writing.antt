-- The writing pass under way: what is left, written on, gives the final store. For the proof of
-- `do_u4_write`. Assumes nothing.
use mathlib.Core.Path.{◌≡◌, refl, sym, ap, ◌∙◌, subst}
use Prim.Native.Nat.{ℕ, ◌+◌, ◌*◌, ◌≤◌}
use native.Mathlib.Omega.{arith}
use native.Mathlib.Numerals.{add-one}
use native.Mathlib.Nat.{add-mul, add-zero, suc-mul, zero-mul}
use mathlib.Core.List.{List, [], ◌∷◌, map}
use mathlib.Core.Bool.{Bool, true, false, cond, ◌&&◌}
use Rattle.std.specs.Prelude.{Option, None, Some}
use lib.ListN.{length, length-map}
use lib.Seq.{sets}
use Rattle.amplitudes.specs.declared.Accumulated.{Accumulated}
use Rattle.amplitudes.specs.declared.Combined.{Combined}
use Rattle.amplitudes.specs.declared.Complex.{Complex}
use Rattle.amplitudes.specs.declared.U4.{U4}
use Rattle.amplitudes.specs.Amplitudes.{finite_c}
use Rattle.amplitudes.specs.Pairs.{is_kept}
use Rattle.keys.specs.Lists.{All}
use Rattle.merge.specs.Records.{amplitude_of, encode}
use Rattle.merge.specs.Walks.{InPair}
use Rattle.merge.specs.Laws.{WholeRecords, new-key-length, encode-length, Left, put, put-room, put_all, put-none, and-true-l, and_true_r}
use Rattle.merge.specs.Pairs.{Pair, lhs, rhs, both}
use Rattle.merge.specs.Sorting.{choose}
use Rattle.gates.specs.declared.Offsets.{Offsets}
use Rattle.gates.specs.Gate.{pruned, entered}
use Rattle.gates.specs.Passes.{FiniteUnpaired, flipped_if, unpaired_at, unpaired_record, sum_record, next_offset, put_products, put_sums, next_offsets, new_in, new_key_in, pair_part, pairs_finite, part_records, pair_words, Fitting}
use Rattle.gates.proofs.PairSums.{alone_pair, sum_of, sums_of, records-alone, finite-alone, records-both, finite-both}

-- ---- the writing pass under way

-- what is left of the new parts, written after what stands in `back`, ends in `final`
pub record Writing (n q : ℕ) (g : U4) (n0 n1 : ℕ) (final : List ℕ) (ps : List Pair) (o : Offsets) (back : List ℕ) : Type 0 where
  pub k0 : ℕ
  pub k1 : ℕ
  pub at_tail : o.at ≡ n0 * (n + 2)
  pub at-0 : o.o0 ≡ k0 * (n + 2)
  pub at_1 : o.o1 ≡ k1 * (n + 2)
  pub fine : pairs_finite n g ps ≡ true
  pub todo : Left n n0 n1 final (part_records n q g false ps) (part_records n q g true ps) k0 k1 back

-- the word after the next record, or this one
next-offset : (n k o : ℕ) (kept : Bool) → o ≡ k * (n + 2) → next_offset n kept o ≡ (k + cond kept 1 0) * (n + 2)
next-offset n k o true e = rw (e, add-one) (sym (suc-mul k (n + 2)))
next-offset n k o false e = rw (add-zero k) e

module _ {n q : ℕ} {g : U4} {n0 n1 : ℕ} {final : List ℕ} {ps : List Pair} {o : Offsets} {back : List ℕ} (c : Writing n q g n0 n1 final ps o back) where
  -- a record without a partner is next: of part 0 (set false) or of part 1
  module _ (set : Bool) (r : List ℕ) (rest : List Pair) (e : ps ≡ alone_pair set r ∷ rest) where
    abbrev C : List (List ℕ)
    C = part_records n q g false rest

    abbrev S : List (List ℕ)
    S = part_records n q g true rest

    alone-todo : Left n n0 n1 final (unpaired_record n q g set false r ∷ C) (unpaired_record n q g set true r ∷ S) c.k0 c.k1 back
    alone-todo = rw (e, records-alone n q g rest set false r, records-alone n q g rest set true r) at c.todo

    alone-finite : ((finite_c (unpaired_at g set false (amplitude_of n r)) && finite_c (unpaired_at g set true (amplitude_of n r))) && pairs_finite n g rest) ≡ true
    alone-finite = sym (ap (pairs_finite n g) e ∙ finite-alone n q g rest set r) ∙ c.fine

    -- what `put_unpaired` requires of the products and of their places
    pub alone-fine : FiniteUnpaired g set (amplitude_of n r)
    alone-fine =
        let f = and-true-l (finite_c (unpaired_at g set false (amplitude_of n r)) && finite_c (unpaired_at g set true (amplitude_of n r))) _ alone-finite in
        (and-true-l (finite_c (unpaired_at g set false (amplitude_of n r))) _ f, and_true_r (finite_c (unpaired_at g set false (amplitude_of n r))) _ f)

    pub alone-room : (o.o0 + (n + 2) ≤ length back) × (o.at + (o.o1 + (n + 2)) ≤ length back)
    alone-room = rw (c.at_tail, c.at-0, c.at_1) (put-room n n0 n1 final _ C (unpaired_record n q g set true r ∷ S) c.k0 c.k1 back false alone-todo, put-room n n0 n1 final _ (unpaired_record n q g set false r ∷ C) S c.k0 c.k1 back true alone-todo)

    pub alone-on : length r ≡ n + 2 → (o' : Offsets) → o' ≡ next_offsets n true true o → (back' : List ℕ) → back' ≡ put_products n q g set o r back
        → Writing n q g n0 n1 final rest o' back'
    alone-on l o' p back' b =
        let l0 = encode-length n _ (new-key-length n q (flipped_if set false) r l) in
        let l1 = encode-length n _ (new-key-length n q (flipped_if set true) r l) in
        record {
          k0 = c.k0 + 1;
          k1 = c.k1 + 1;
          at_tail = ap (λ (o : Offsets). o.at) p ∙ c.at_tail;
          at-0 = ap (λ (o : Offsets). o.o0) p ∙ next-offset n c.k0 o.o0 true c.at-0;
          at_1 = ap (λ (o : Offsets). o.o1) p ∙ next-offset n c.k1 o.o1 true c.at_1;
          fine = and_true_r (finite_c (unpaired_at g set false (amplitude_of n r)) && finite_c (unpaired_at g set true (amplitude_of n r))) _ alone-finite;
          todo =
              rw (b, c.at_tail, c.at-0, c.at_1)
              (put n n0 n1 final (unpaired_record n q g set true r) C S (c.k0 + 1) c.k1 _ true true
              (put n n0 n1 final (unpaired_record n q g set false r) C (unpaired_record n q g set true r ∷ S) c.k0 c.k1 back false true alone-todo l0)
              l1);
        }

  -- two that are partners are next, and their sums are p
  module _ (X Y : List ℕ) (rest : List Pair) (e : ps ≡ both X Y ∷ rest) (p : Combined) (z : p ≡ sums_of n g X Y) where
    abbrev sum0 : Accumulated
    sum0 = sum_of n g X Y false

    abbrev sum1 : Accumulated
    sum1 = sum_of n g X Y true

    abbrev C' : List (List ℕ)
    C' = part_records n q g false rest

    abbrev S' : List (List ℕ)
    S' = part_records n q g true rest

    abbrev r0 : List ℕ
    r0 = sum_record n q X sum0

    abbrev r1 : List ℕ
    r1 = sum_record n q Y sum1

    both-todo : Left n n0 n1 final (choose (is_kept sum0.verdict) (r0 ∷ C') C') (choose (is_kept sum1.verdict) (r1 ∷ S') S') c.k0 c.k1 back
    both-todo = rw (e, records-both n q g rest X Y false, records-both n q g rest X Y true) at c.todo

    both-finite : ((finite_c sum0.sum && finite_c sum1.sum) && pairs_finite n g rest) ≡ true
    both-finite = sym (ap (pairs_finite n g) e ∙ finite-both n q g rest X Y) ∙ c.fine

    -- what `put_both` requires of the sums and of their places
    pub both-fine : (finite_c p.stay.sum ≡ true) × (finite_c p.flip.sum ≡ true)
    both-fine =
        let f = and-true-l (finite_c sum0.sum && finite_c sum1.sum) _ both-finite in
        rw z (and-true-l (finite_c sum0.sum) _ f, and_true_r (finite_c sum0.sum) _ f)

    both-room0 : is_kept sum0.verdict ≡ true → o.o0 + (n + 2) ≤ length back
    both-room0 k = rw c.at-0 (put-room n n0 n1 final r0 C' (choose (is_kept sum1.verdict) (r1 ∷ S') S') c.k0 c.k1 back false (rw k at both-todo))

    both-room1 : is_kept sum1.verdict ≡ true → o.at + (o.o1 + (n + 2)) ≤ length back
    both-room1 k = rw (c.at_tail, c.at_1) (put-room n n0 n1 final r1 (choose (is_kept sum0.verdict) (r0 ∷ C') C') S' c.k0 c.k1 back true (rw k at both-todo))

    pub both-room : (o.at ≤ length back) × (is_kept p.stay.verdict ≡ true → o.o0 + (n + 2) ≤ length back) × (is_kept p.flip.verdict ≡ true → o.at + (o.o1 + (n + 2)) ≤ length back)
    both-room = rw z (omega (arith, c.at_tail, c.todo.room), both-room0, both-room1)

    both-next : length X ≡ n + 2 → length Y ≡ n + 2
        → (o' : Offsets) → o' ≡ next_offsets n (is_kept sum0.verdict) (is_kept sum1.verdict) o → (back' : List ℕ) → back' ≡ put_sums n q (sums_of n g X Y) o X Y back
        → Writing n q g n0 n1 final rest o' back'
    both-next lX lY o' po back' b =
        let l0 = encode-length n _ (new-key-length n q false X lX) in
        let l1 = encode-length n _ (new-key-length n q false Y lY) in
        record {
          k0 = c.k0 + cond (is_kept sum0.verdict) 1 0;
          k1 = c.k1 + cond (is_kept sum1.verdict) 1 0;
          at_tail = ap (λ (o : Offsets). o.at) po ∙ c.at_tail;
          at-0 = ap (λ (o : Offsets). o.o0) po ∙ next-offset n c.k0 o.o0 (is_kept sum0.verdict) c.at-0;
          at_1 = ap (λ (o : Offsets). o.o1) po ∙ next-offset n c.k1 o.o1 (is_kept sum1.verdict) c.at_1;
          fine = and_true_r (finite_c sum0.sum && finite_c sum1.sum) _ both-finite;
          todo =
              rw (b, c.at_tail, c.at-0, c.at_1)
              (put n n0 n1 final r1 C' S' (c.k0 + cond (is_kept sum0.verdict) 1 0) c.k1 _ true (is_kept sum1.verdict)
              (put n n0 n1 final r0 C' (choose (is_kept sum1.verdict) (r1 ∷ S') S') c.k0 c.k1 back false (is_kept sum0.verdict) both-todo l0)
              l1);
        }

    pub both-on : length X ≡ n + 2 → length Y ≡ n + 2 → (o' : Offsets) → o' ≡ next_offsets n (is_kept p.stay.verdict) (is_kept p.flip.verdict) o
        → (back' : List ℕ) → back' ≡ put_sums n q p o X Y back → Writing n q g n0 n1 final rest o' back'
    both-on lX lY o' po back' b = both-next lX lY o' (rw z at po) back' (rw z at b)

  -- no pair is left
  pub write_done : ps ≡ [] → back ≡ final
  unfolding part_records pair_part
  write_done e = put_all n n0 n1 final c.k0 c.k1 back (rw e at c.todo)

-- ---- nothing is written yet

key-in-length : (n q : ℕ) (b : Bool) (p : Pair) → InPair (λ r. length r ≡ n + 2) p → length (new_key_in n q b p) ≡ n
key-in-length n q false (lhs x) h = new-key-length n q false x h
key-in-length n q false (rhs y) h = new-key-length n q true y h
key-in-length n q false (both x y) h = new-key-length n q false x h.0
key-in-length n q true (lhs x) h = new-key-length n q true x h
key-in-length n q true (rhs y) h = new-key-length n q false y h
key-in-length n q true (both x y) h = new-key-length n q false y h.1

records-whole : (n q : ℕ) (g : U4) (b : Bool) (ps : List Pair) → All (InPair (λ r. length r ≡ n + 2)) ps → WholeRecords n (part_records n q g b ps)
unfolding part_records pair_part
records-whole n q g b [] h = tt
records-whole n q g b (p ∷ ps) h = go (pruned (new_in n g b p)) (records-whole n q g b ps h.1)
  where
    go : (a : Option Complex) → WholeRecords n (map encode (pair_part n q g b ps)) → WholeRecords n (map encode (entered (new_key_in n q b p) a (pair_part n q g b ps)))
    go None r = r
    go (Some a) r = (encode-length n (record { key = new_key_in n q b p; amp = a }) (key-in-length n q b p h.0), r)

pub write-none : (n q : ℕ) (g : U4) (ps : List Pair) (n0 : ℕ) (back : List ℕ) → All (InPair (λ r. length r ≡ n + 2)) ps → Fitting n q g ps n0 back
    → Writing n q g n0 (length (pair_part n q g true ps)) (sets back 0 (pair_words n q g ps)) ps (record { at = n0 * (n + 2); o0 = 0; o1 = 0 }) back
unfolding pair_words part_records
write-none n q g ps n0 back w f = record {
  k0 = 0;
  k1 = 0;
  at_tail = refl;
  at-0 = sym (zero-mul (n + 2));
  at_1 = sym (zero-mul (n + 2));
  fine = f.finite;
  todo =
      put-none n n0 (length (pair_part n q g true ps)) (part_records n q g false ps) (part_records n q g true ps) back
      (records-whole n q g false ps w)
      (f.clear ∙ sym (length-map (pair_part n q g false ps) encode))
      (sym (length-map (pair_part n q g true ps) encode))
      (subst (λ (k : ℕ). k ≤ length back) (add-mul n0 (length (pair_part n q g true ps)) (n + 2)) f.room);
}
