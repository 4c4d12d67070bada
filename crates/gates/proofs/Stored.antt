-- What goes into a store, by the two parts alone, and how many results there may be. For the proofs
-- of the gate's last steps. Assumes nothing.
use Rattle.statevector.specs.declared.Refusal.{Refusal}
use Rattle.gates.specs.declared.Gated.{Gated}
use Rattle.std.specs.Prelude.{Err, Ok, Result, Some, Option, None}
use mathlib.Core.Path.{◌≡◌, refl, sym, ap, ap₂, ◌∙◌}
use Prim.Native.Nat.{ℕ, ◌+◌, ◌/◌, ◌≤◌}
use native.Mathlib.Omega.{arith}
use mathlib.Core.List.{List, [], ◌∷◌, ◌++◌, map}
use mathlib.Core.Bool.{Bool, true, false, not}
use lib.Dec.{ltb}
use lib.ListN.{length}
use lib.Seq.{sets}
use Rattle.amplitudes.specs.declared.Complex.{Complex}
use Rattle.amplitudes.specs.declared.U4.{U4}
use Rattle.merge.specs.Pairs.{Pair, pairs}
use Rattle.merge.specs.Laws.{pairs-ind}
use Rattle.merge.specs.Records.{Entry, encode, flat}
use Rattle.statevector.specs.declared.Refusal.TheVariants as no
use Rattle.statevector.specs.declared.Side.{Side}
use Rattle.statevector.specs.declared.State.{State}
use Rattle.gates.specs.Gate.{entered, pruned, gate_part, gate_finite, gate_words, result_tests, gated}
use Rattle.statevector.specs.Endings.{FrontEnding}
use Rattle.gates.specs.Passes.{new_in, new_key_in, pair_part, Into, written_into, over_back, over_front}
use Rattle.statevector.specs.Refusals.{Test, first, Tested}
use Rattle.statevector.specs.States.{other_side, with_parts}

-- ---- what goes into a store, by the two parts alone

abbrev late_tests : Bool → ℕ → ℕ → List Test
late_tests fine count room = (not fine, no.Overflow) ∷ (ltb room count, no.Full) ∷ []

abbrev made_of : Tested → State → Side → ℕ → List Entry → List Entry → List ℕ → Into
made_of (Ok _) s mark q A B dst = record { answer = Ok (record { state = with_parts s mark (length A) (length B) (Some q) }); store = sets dst 0 (flat (map encode A) ++ flat (map encode B)) }
made_of (Err r) s mark q A B dst = record { answer = Err r; store = dst }

abbrev pub made : State → Side → ℕ → Bool → List Entry → List Entry → List ℕ → Into
made s mark q fine A B dst = made_of (first (late_tests fine (length A + length B) (length dst / (s.width + 2)))) s mark q A B dst

module _ (s : State) (mark : Side) (q : ℕ) (g : U4) (es : List Entry) (dst : List ℕ) where
  tests-are : result_tests s.width q g es dst ≡ late_tests (gate_finite q g es) (length (gate_part q g false es) + length (gate_part q g true es)) (length dst / (s.width + 2))
  unfolding result_tests
  tests-are = refl

  by-test : (t : Tested) → written_into t s mark q g es dst ≡ made_of t s mark q (gate_part q g false es) (gate_part q g true es) dst
  unfolding gated gate_words
  by-test (Ok _) = refl
  by-test (Err r) = refl

  pub into-made : written_into (first (result_tests s.width q g es dst)) s mark q g es dst ≡ made s mark q (gate_finite q g es) (gate_part q g false es) (gate_part q g true es) dst
  into-made = by-test (first (result_tests s.width q g es dst)) ∙ ap (λ (ts : List Test). made_of (first ts) s mark q (gate_part q g false es) (gate_part q g true es) dst) tests-are

  -- as the call has it: with the store that the results go to behind the other one, or before it
  pub straight-into : (t : Tested) (front : List ℕ) → mark ≡ other_side s.front
      → ◌≡◌ {A = FrontEnding (Result Gated Refusal)} (record { answer = (written_into t s mark q g es dst).answer; front = front; back = (written_into t s mark q g es dst).store }) (over_back t s q g es front dst)
  straight-into (Ok _) front e = rw e
  straight-into (Err r) front e = refl

  pub through-into : (t : Tested) (moved : List ℕ) → mark ≡ s.front
      → ◌≡◌ {A = FrontEnding (Result Gated Refusal)} (record { answer = (written_into t s mark q g es dst).answer; front = (written_into t s mark q g es dst).store; back = moved }) (over_front t s q g es dst moved)
  through-into (Ok _) moved e = rw e
  through-into (Err r) moved e = refl

-- the same parts give the same
pub into-same : (s : State) (mark : Side) (q : ℕ) (g : U4) (es fs : List Entry) (dst : List ℕ) → gate_finite q g es ≡ gate_finite q g fs → ((b : Bool) → gate_part q g b es ≡ gate_part q g b fs)
    → written_into (first (result_tests s.width q g es dst)) s mark q g es dst ≡ written_into (first (result_tests s.width q g fs dst)) s mark q g fs dst
into-same s mark q g es fs dst f p =
    into-made s mark q g es dst
    ∙ ap₂ (λ (x : Bool) (A : List Entry). made s mark q x A (gate_part q g true es) dst) f (p false)
    ∙ ap (λ (B : List Entry). made s mark q (gate_finite q g fs) (gate_part q g false fs) B dst) (p true)
    ∙ sym (into-made s mark q g fs dst)

-- ---- how many results there may be

pub part-few : (n q : ℕ) (g : U4) (b : Bool) (ps : List Pair) → length (pair_part n q g b ps) ≤ length ps
unfolding pair_part
part-few n q g b [] = omega arith
part-few n q g b (p ∷ ps) = go (pruned (new_in n g b p)) (part-few n q g b ps)
  where
    go : (x : Option Complex) → length (pair_part n q g b ps) ≤ length ps → length (entered (new_key_in n q b p) x (pair_part n q g b ps)) ≤ length (p ∷ ps)
    go None h = omega arith
    go (Some a) h = omega arith

pub pairs-few : (n q : ℕ) (xs ys : List (List ℕ)) → length (pairs n q xs ys) ≤ length xs + length ys
pairs-few n q =
    pairs-ind n q (λ xs ys ps. length ps ≤ length xs + length ys)
    (omega arith)
    (λ y ys ps r. omega arith)
    (λ x xs ps r. omega arith)
    (λ x y xs ys ps l r. omega arith)
    (λ x y xs ys ps e r. omega arith)
    (λ x y xs ys ps l r. omega arith)
