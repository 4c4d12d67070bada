-- A gate keeps every word of both stores below 2^64. For the layer above. Assumes nothing.
use Rattle.statevector.specs.declared.Refusal.{Refusal}
use Rattle.gates.specs.declared.Gated.{Gated}
use Rattle.std.specs.Prelude.{◌≡◌, refl, ℕ, ◌+◌, ◌^◌, ◌<◌, List, [], Bool, true, false, ltb, Err, Ok, Result}
use Rattle.std.proofs.Common.{sym, subst}
use Rattle.std.proofs.lemmas.List.Edits.{sets}
use Rattle.amplitudes.specs.declared.U4.{U4}
use Rattle.amplitudes.specs.Amplitudes.{finite_gate}
use Rattle.keys.specs.Keys.{Words}
use Rattle.keys.specs.Lists.{All}
use Rattle.merge.specs.Laws.{parted-words, repartition-all, flat-words, sets-words, part-words, all_append}
use Rattle.merge.specs.Records.{capacity, flat}
use Rattle.merge.specs.Sorting.{parted_words, repartitioned}
use Rattle.statevector.specs.declared.Side.{Side}
use Rattle.statevector.specs.declared.Side.TheVariants.{Left, Right}
use Rattle.statevector.specs.declared.State.{State}
use Rattle.gates.specs.Gate.{gate_words, result_tests, gate_by_front, gate_call}
use Rattle.statevector.specs.Endings.{FrontEnding, by_front}
use Rattle.statevector.specs.Refusals.{first, if_fine, Tested}
use Rattle.statevector.specs.States.{front_of, back_of, part_of, records_of, entries_of, tag_is}
use Rattle.statevector.specs.Tests.{qubit_tests}
use Rattle.gates.specs.Passes.{over_back, over_front, after_repartition, by_tag, staged_gate}
use Rattle.gates.specs.Laws.Calls.{gate-staged}
use Rattle.gates.specs.Laws.Keeping.{fine-room, new-words, sound, below, keys}

-- ---- every word stays below 2^64

moved-words : (s : State) (q : ℕ) (front back : List ℕ) → Words front → Words back → Words (sets back 0 (parted_words s.width q (records_of s front)))
moved-words s q front back w v =
    sets-words back 0 (parted_words s.width q (records_of s front)) v
    (rw (parted-words s.width q (records_of s front)) (all_append (λ x. x < 2 ^ 64) (flat (repartitioned s.width q false (records_of s front))) (flat (repartitioned s.width q true (records_of s front))) (one false) (one true)))
  where
    records : All Words (records_of s front)
    records = all_append Words (part_of false s front) (part_of true s front) (part-words s.width front 0 s.n0 w) (part-words s.width front s.n0 (s.n0 + s.n1) w)

    one : (b : Bool) → Words (flat (repartitioned s.width q b (records_of s front)))
    one b = flat-words (repartitioned s.width q b (records_of s front)) (repartition-all Words s.width q b (records_of s front) records)

abbrev Both : FrontEnding (Result Gated Refusal) → Type 0
Both o = Words o.front × Words o.back

by-front-words : (s : State) (q : ℕ) (g : U4) (front back : List ℕ) → Words front → Words back → Both (gate_by_front s q g front back)
unfolding staged_gate
by-front-words s q g front back w v = subst Both (sym (gate-staged s q g front back)) (go (first (qubit_tests s front q (finite_gate g) [])) refl)
  where
    moved : List ℕ
    moved = sets back 0 (parted_words s.width q (records_of s front))

    written : first (qubit_tests s front q (finite_gate g) []) ≡ Ok tt → (target : List ℕ) → first (result_tests s.width q g (entries_of s front) target) ≡ Ok tt → Words target → Words (sets target 0 (gate_words q g (entries_of s front)))
    written p target f =
        new-words s q g (entries_of s front) (sound s q g front back w p).some (sound s q g front back w p).few (below s q g front back w p) (keys s q g front back w p) target (fine-room s.width q g (entries_of s front) target f) Left

    straights : first (qubit_tests s front q (finite_gate g) []) ≡ Ok tt → (t : Tested) → first (result_tests s.width q g (entries_of s front) back) ≡ t → Both (over_back t s q g (entries_of s front) front back)
    straights p (Ok _) f = (w, written p back f v)
    straights p (Err x) f = (w, v)

    throughs : first (qubit_tests s front q (finite_gate g) []) ≡ Ok tt → (t : Tested) → first (result_tests s.width q g (entries_of s front) front) ≡ t → Both (over_front t s q g (entries_of s front) front (sets back 0 (parted_words s.width q (records_of s front))))
    throughs p (Ok _) f = (written p front f w, moved-words s q front back w v)
    throughs p (Err x) f = (w, moved-words s q front back w v)

    moving : first (qubit_tests s front q (finite_gate g) []) ≡ Ok tt → (full : Bool) → Both (after_repartition full s q g (entries_of s front) front back (sets back 0 (parted_words s.width q (records_of s front))))
    moving p true = (w, v)
    moving p false = throughs p (first (result_tests s.width q g (entries_of s front) front)) refl

    tags : first (qubit_tests s front q (finite_gate g) []) ≡ Ok tt → (t : Bool) → Both (by_tag t s q g (entries_of s front) front back (sets back 0 (parted_words s.width q (records_of s front))))
    tags p true = straights p (first (result_tests s.width q g (entries_of s front) back)) refl
    tags p false = moving p (ltb (capacity s.width back) (s.n0 + s.n1))

    go : (t : Tested) → first (qubit_tests s front q (finite_gate g) []) ≡ t
        → Both (if_fine t (by_tag (tag_is s.tag q) s q g (entries_of s front) front back (sets back 0 (parted_words s.width q (records_of s front)))) (λ r. record { answer = Err r; front = front; back = back }))
    go (Ok _) p = tags p (tag_is s.tag q)
    go (Err x) p = (w, v)

pub gate-words : (s : State) (q : ℕ) (g : U4) (left right : List ℕ) → Words left → Words right → Words (gate_call s q g left right).left × Words (gate_call s q g left right).right
unfolding gate_call
gate-words s q g left right u v = go s.front
  where
    go : (m : Side) → Words (by_front m (gate_by_front s q g (front_of m left right) (back_of m left right))).left × Words (by_front m (gate_by_front s q g (front_of m left right) (back_of m left right))).right
    go Left = by-front-words s q g left right u v
    go Right = let b = by-front-words s q g right left v u in (b.1, b.0)
