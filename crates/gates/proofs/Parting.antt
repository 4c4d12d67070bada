-- The passes over records that are parted by the gate's qubit: a state's by its tag, or those of a
-- repartition. For the proofs of the gate's steps. Assumes nothing.
use Rattle.statevector.specs.declared.Refusal.{Refusal}
use Rattle.gates.specs.declared.Gated.{Gated}
use Rattle.std.specs.Prelude.{Err, None, Ok, Result, Some}
use mathlib.Core.Path.{◌≡◌, refl, sym, ap, ap₂, ◌∙◌, subst}
use Prim.Native.Nat.{ℕ, ◌+◌, ◌-◌, ◌*◌, ◌/◌, ◌^◌, ◌<◌, ◌≤◌}
use native.Mathlib.Omega.{arith}
use native.Mathlib.Nat.{add-mul, mul-le-mul_right, div-mul-le_self, le_trans}
use mathlib.Core.List.{List, ◌++◌}
use mathlib.Core.Bool.{Bool, true, false, cond}
use borrow.Author.Tests.{lt-ltb, le-ltb}
use lib.Dec.{ltb}
use lib.ListN.{length, length-append}
use lib.Seq.{sets}
use Rattle.amplitudes.specs.declared.U4.{U4}
use Rattle.keys.specs.Lists.{All}
use Rattle.merge.specs.declared.pairs.Pairs.{Pairs}
use Rattle.merge.specs.Pairs.{Pair, pairs}
use Rattle.merge.specs.Walks.{pairs_left}
use Rattle.merge.specs.Laws.{WholeRecords, every-pair, records-whole, records-few, part-append, part_length, part-whole, flat-length, read-part, capacity-is, by_key, repartition-length, repartition-all, repartition-rises, repartition-side, repartition-count, side-append, side-fewer, parted-words, Distinct, rising-distinct, distinct_append, all_append}
use Rattle.merge.specs.Records.{capacity, Entry, part, record_bit, finite_record, moderate_record, entries, flat}
use Rattle.merge.specs.Sorting.{Rising, sort_key, side, repartitioned, parted_words}
use Rattle.statevector.specs.declared.Refusal.TheVariants as no
use Rattle.statevector.specs.declared.Side.{Side}
use Rattle.statevector.specs.declared.State.{State}
use Rattle.gates.specs.Gate.{gate_part, gate_finite, result_tests}
use Rattle.gates.specs.Laws.{parted, parted-part, parted-finite, part-textbook, finite-textbook, moderate-pairs}
use Rattle.statevector.specs.Laws.{tag-is, records-are, Sound}
use Rattle.statevector.specs.Endings.{FrontEnding}
use Rattle.gates.specs.declared.Sizes.{Sizes}
use Rattle.gates.specs.Passes.{pair_part, pairs_finite, part_records, pair_words, SizesCounted, Fitting, AllModerate, part_left, FinitePairs, Parted, Into, written_into, after_repartition}
use Rattle.statevector.specs.Refusals.{first}
use Rattle.statevector.specs.States.{part_of, records_of, entries_of, tag_is, with_parts}
use Rattle.statevector.specs.Scans.{QuickFine}
use Rattle.gates.proofs.Stored.{made, into-made, through-into, into-same, part-few, pairs-few}

-- ---- the passes over parted records

module _ (g : U4) (p : Pairs) (h : Parted p.n p.q (part_left false p) (part_left true p)) where
  abbrev pub n : ℕ
  n = p.n

  abbrev pub q : ℕ
  q = p.q

  abbrev pub ps : List Pair
  ps = pairs_left p

  abbrev pub es : List Entry
  es = entries n (part_left false p ++ part_left true p)

  same-part : (b : Bool) → gate_part q g b es ≡ pair_part n q g b ps
  same-part = part-textbook n q h.inside g (part_left false p) (part_left true p) (records-whole n p.lhs.now) (records-whole n p.rhs.now) (h.sides false) (h.sides true) (h.rise false) (h.rise true)

  same-finite : gate_finite q g es ≡ pairs_finite n g ps
  same-finite = finite-textbook n q h.inside g (part_left false p) (part_left true p) (records-whole n p.lhs.now) (records-whole n p.rhs.now) (h.sides false) (h.sides true) (h.rise false) (h.rise true)

  -- the passes can read every pair
  pub finite-pairs : FinitePairs p
  finite-pairs = every-pair (λ r. finite_record n r ≡ true) n q (part_left false p) (part_left true p) (h.finites false) (h.finites true)

  -- the call's answer, by these parts
  module _ (s : State) (mark : Side) (dst : List ℕ) (w : n ≡ s.width) where
    made-here : written_into (first (result_tests n q g es dst)) s mark q g es dst ≡ made s mark q (pairs_finite n g ps) (pair_part n q g false ps) (pair_part n q g true ps) dst
    made-here =
        ap (λ (m : ℕ). written_into (first (result_tests m q g es dst)) s mark q g es dst) w
        ∙ into-made s mark q g es dst
        ∙ ap₂ (λ (x : Bool) (A : List Entry). made s mark q x A (gate_part q g true es) dst) same-finite (same-part false)
        ∙ ap (λ (B : List Entry). made s mark q (pairs_finite n g ps) (pair_part n q g false ps) B dst) (same-part true)

    pub into-overflow : pairs_finite n g ps ≡ false → ◌≡◌ {A = Into} (record { answer = Err no.Overflow; store = dst }) (written_into (first (result_tests n q g es dst)) s mark q g es dst)
    unfolding first
    into-overflow f = sym (made-here ∙ rw f)

  -- what the count says, and that the sum of its sizes fits
  module _ (c : Sizes) (k : SizesCounted n q g ps c) where
    few : (b : Bool) → length (pair_part n q g b ps) ≤ length p.lhs.now + length p.rhs.now
    few b =
        omega (arith, part-few n q g b ps, pairs-few n q (part_left false p) (part_left true p), records-few n p.lhs.now, records-few n p.rhs.now)

    pub sizes-fit : length p.lhs.now * 8 < 2 ^ 63 → length p.rhs.now * 8 < 2 ^ 63 → c.n0 + c.n1 < 2 ^ 64
    sizes-fit l r = omega (arith, k.clear, k.set, few false, few true)

    module _ (f : pairs_finite n g ps ≡ true) where
      pub fitting : (dst : List ℕ) → c.n0 + c.n1 ≤ length dst / (n + 2) → Fitting n q g ps c.n0 dst
      fitting dst l = record { finite = f; clear = k.clear; room = rw (← k.set) (le_trans (mul-le-mul_right (n + 2) l) (div-mul-le_self (length dst) (n + 2))) }

      module _ (s : State) (mark : Side) (dst : List ℕ) (w : n ≡ s.width) where
        pub into-full : length dst / (n + 2) < c.n0 + c.n1 → ◌≡◌ {A = Into} (record { answer = Err no.Full; store = dst }) (written_into (first (result_tests n q g es dst)) s mark q g es dst)
        unfolding first
        into-full l = sym (made-here s mark dst w ∙ rw (f, ← w, ← k.clear, ← k.set, lt-ltb (length dst / (n + 2)) (c.n0 + c.n1) l))

        pub into-done : c.n0 + c.n1 ≤ length dst / (n + 2) → (z : State) → z ≡ with_parts s mark c.n0 c.n1 (Some q) → (out : List ℕ) → out ≡ sets dst 0 (pair_words n q g ps)
            → ◌≡◌ {A = Into} (record { answer = Ok (record { state = z }); store = out }) (written_into (first (result_tests n q g es dst)) s mark q g es dst)
        unfolding first pair_words part_records
        into-done l z i out o = rw (i, o) (sym (made-here s mark dst w ∙ rw (f, ← w, ← k.clear, ← k.set, le-ltb (length dst / (n + 2)) (c.n0 + c.n1) l, ← k.clear, ← k.set)))

-- ---- the parts of a state

-- a property of each part is one of the part by its bit
each : (P : Bool → List (List ℕ) → Type 0) (xs ys : List (List ℕ)) → P false xs → P true ys → (b : Bool) → P b (cond b ys xs)
each P xs ys x y false = x
each P xs ys x y true = y

pub by-tag : (s : State) (front : List ℕ) (q : ℕ) → Sound s front → tag_is s.tag q ≡ true → Parted s.width q (part_of false s front) (part_of true s front)
by-tag s front q h e =
    let (l, t) = h.sides q (tag-is s.tag q e) in
    let of = λ (P : Bool → List (List ℕ) → Type 0) (f : (b : Bool) → P b (part_of b s front)). each P (part_of false s front) (part_of true s front) (f false) (f true) in
    record {
      inside = omega (arith, l);
      rise = of (λ b. Rising (sort_key s.width None)) h.rise;
      sides = of (λ b. All (λ (r : List ℕ). record_bit s.width q r ≡ b)) t;
      finites = of (λ b. All (λ (r : List ℕ). finite_record s.width r ≡ true)) h.finites;
    }

-- ---- after a repartition

-- the counts of both parts are that of all, and no more
pub both-ones : (s : State) (front : List ℕ) (q k0 k1 : ℕ) → QuickFine s front q k0 k1 → k0 + k1 ≡ length (side s.width q true (part s.width front 0 (s.n0 + s.n1)))
both-ones s front q k0 k1 z =
    ap₂ ◌+◌ z.ones0 z.ones1
    ∙ sym (length-append (side s.width q true (part_of false s front)) (side s.width q true (part_of true s front)))
    ∙ ap length (sym (side-append s.width q true (part_of false s front) (part_of true s front)))
    ∙ ap (λ (rs : List (List ℕ)). length (side s.width q true rs)) (part-append s.width front 0 s.n0 (s.n0 + s.n1) (omega arith) (omega arith))

pub ones-of-both : (s : State) (front : List ℕ) (q k0 k1 : ℕ) → QuickFine s front q k0 k1 → k0 + k1 ≤ s.n0 + s.n1
ones-of-both s front q k0 k1 z =
    let all = part s.width front 0 (s.n0 + s.n1) in
    omega (arith, both-ones s front q k0 k1 z, side-fewer s.width q true all, part_length s.width front 0 (s.n0 + s.n1))

module _ (s : State) (front : List ℕ) (q : ℕ) (h : Sound s front) (l : q < 64 * s.width) where
  pub distinct : Distinct (by_key s.width) (records_of s front)
  distinct =
      distinct_append (by_key s.width) (part_of false s front) (part_of true s front) (rising-distinct (by_key s.width) (part_of false s front) (h.rise false))
      (rising-distinct (by_key s.width) (part_of true s front) (h.rise true))
      h.apart

  -- how many there are
  count : length (records_of s front) ≡ s.n0 + s.n1
  count = ap length (records-are s front) ∙ part_length s.width front 0 (s.n0 + s.n1) ∙ omega arith

  pub whole-all : WholeRecords s.width (records_of s front)
  whole-all = subst (WholeRecords s.width) (sym (records-are s front)) (part-whole s.width front 0 (s.n0 + s.n1) h.room)

  pub back-room : (back : List ℕ) → s.n0 + s.n1 ≤ length back / (s.width + 2) → (s.n0 + s.n1) * (s.width + 2) ≤ length back
  back-room back room = le_trans (mul-le-mul_right (s.width + 2) room) (div-mul-le_self (length back) (s.width + 2))

  module _ (back : List ℕ) (room : s.n0 + s.n1 ≤ length back / (s.width + 2)) (ones : ℕ) (counted : ones ≡ length (side s.width q true (part s.width front 0 (s.n0 + s.n1)))) where
    pub e : ones ≡ length (repartitioned s.width q true (records_of s front))
    e = counted ∙ ap (λ (rs : List (List ℕ)). length (side s.width q true rs)) (sym (records-are s front)) ∙ sym (repartition-count s.width q true (records_of s front))

    abbrev C : Bool → List (List ℕ)
    C b = repartitioned s.width q b (records_of s front)

    abbrev pub moved : List ℕ
    moved = sets back 0 (parted_words s.width q (records_of s front))

    both-sizes : length (C false) + ones ≡ s.n0 + s.n1
    both-sizes = ap (λ (k : ℕ). length (C false) + k) e ∙ repartition-length s.width q (records_of s front) ∙ count

    pub ones-few : ones ≤ s.n0 + s.n1
    ones-few = let z = both-sizes in omega arith

    pub clear-count : s.n0 + s.n1 - ones ≡ length (C false)
    clear-count = let z = both-sizes in omega arith

    whole : (b : Bool) → WholeRecords s.width (C b)
    whole b = repartition-all (λ r. length r ≡ s.width + 2) s.width q b (records_of s front) whole-all

    written-fits : length (flat (C false) ++ flat (C true)) ≤ length back
    written-fits =
        let a = length-append (flat (C false)) (flat (C true)) in
        let b = flat-length s.width (C false) (whole false) in
        let c = flat-length s.width (C true) (whole true) in
        let d : (length (C false) + length (C true)) * (s.width + 2) ≤ length back = rw (repartition-length s.width q (records_of s front), count) (back-room back room) in
        let f = add-mul (length (C false)) (length (C true)) (s.width + 2) in
        omega arith

    -- the parts in the back store are the repartitioned ones
    is-moved : (moved' : List ℕ) → moved' ≡ sets back 0 (parted_words s.width q (part s.width front 0 (s.n0 + s.n1))) → moved' ≡ moved
    is-moved moved' m = m ∙ ap (λ (rs : List (List ℕ)). sets back 0 (parted_words s.width q rs)) (sym (records-are s front))

    module _ (moved' : List ℕ) (m : moved' ≡ sets back 0 (parted_words s.width q (part s.width front 0 (s.n0 + s.n1)))) where
      pub reads0 : part s.width moved' 0 (s.n0 + s.n1 - ones) ≡ C false
      reads0 =
          ap₂ (λ (ws : List ℕ) (k : ℕ). part s.width ws 0 k) (is-moved moved' m ∙ ap (sets back 0) (parted-words s.width q (records_of s front))) clear-count
          ∙ read-part s.width (C false) (C true) back false (whole false) (whole true) written-fits

      pub reads1 : part s.width moved' (s.n0 + s.n1 - ones) (s.n0 + s.n1) ≡ C true
      reads1 =
          ap₂ (λ (ws : List ℕ) (k : ℕ). part s.width ws k (s.n0 + s.n1)) (is-moved moved' m ∙ ap (sets back 0) (parted-words s.width q (records_of s front))) clear-count
          ∙ ap (part s.width (sets back 0 (flat (C false) ++ flat (C true))) (length (C false))) (sym count ∙ sym (repartition-length s.width q (records_of s front)))
          ∙ read-part s.width (C false) (C true) back true (whole false) (whole true) written-fits

    pub now-parted : Parted s.width q (C false) (C true)
    now-parted =
        let finite = all_append (λ r. finite_record s.width r ≡ true) (part_of false s front) (part_of true s front) (h.finites false) (h.finites true) in
        let of = λ (P : Bool → List (List ℕ) → Type 0) (f : (b : Bool) → P b (C b)). each P (C false) (C true) (f false) (f true) in
        record {
          inside = omega (arith, l);
          rise = of (λ b. Rising (sort_key s.width None)) (λ b. repartition-rises s.width q b (records_of s front) distinct);
          sides = of (λ b. All (λ (r : List ℕ). record_bit s.width q r ≡ b)) (λ b. repartition-side s.width q b (records_of s front));
          finites = of (λ b. All (λ (r : List ℕ). finite_record s.width r ≡ true)) (λ b. repartition-all (λ r. finite_record s.width r ≡ true) s.width q b (records_of s front) finite);
        }

    -- what is moderate stays so: nothing overflows
    pub now-finite : (g : U4) → AllModerate s front g → pairs_finite s.width g (pairs s.width q (C false) (C true)) ≡ true
    now-finite g k =
        let all = all_append (λ (r : List ℕ). moderate_record s.width r ≡ true) (part_of false s front) (part_of true s front) (k.records false) (k.records true) in
        let here : (b : Bool) → All (λ (r : List ℕ). moderate_record s.width r ≡ true) (C b) = λ b. repartition-all (λ r. moderate_record s.width r ≡ true) s.width q b (records_of s front) all in
        moderate-pairs s.width g k.gate q (C false) (C true) (here false) (here true)

    -- so the gate makes the same of them: what the results over the front store are, after it
    pub parted-done : (g : U4) (answer : Result Gated Refusal) (out moved' : List ℕ) → moved' ≡ sets back 0 (parted_words s.width q (part s.width front 0 (s.n0 + s.n1)))
        → (let es = entries s.width (C false ++ C true) in
        ◌≡◌ {A = Into} (record { answer = answer; store = out }) (written_into (first (result_tests s.width q g es front)) s s.front q g es front))
        → ◌≡◌ {A = FrontEnding (Result Gated Refusal)} (record { answer = answer; front = out; back = moved' }) (after_repartition (ltb (capacity s.width back) (s.n0 + s.n1)) s q g (entries_of s front) front back moved)
    parted-done g answer out moved' m e =
        let es = parted s.width q g (records_of s front) distinct in
        let same = into-same s s.front q g es (entries_of s front) front (parted-finite s.width q g (records_of s front) distinct) (parted-part s.width q g (records_of s front) distinct) in
        ap₂ {C = FrontEnding (Result Gated Refusal)} (λ (o : Into) (ws : List ℕ). record { answer = o.answer; front = o.store; back = ws }) (e ∙ same) (is-moved moved' m)
        ∙ through-into s s.front q g (entries_of s front) front (first (result_tests s.width q g (entries_of s front) front)) moved refl
        ∙ ap (λ (b : Bool). after_repartition b s q g (entries_of s front) front back moved) (sym (ap (λ (k : ℕ). ltb k (s.n0 + s.n1)) (capacity-is s.width back) ∙ le-ltb (length back / (s.width + 2)) (s.n0 + s.n1) room))
