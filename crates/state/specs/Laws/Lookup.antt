-- What a lookup and an export answer: the lookup's number and values, and both over an accepted
-- state. For the layer above. Assumes nothing.
use Rattle.std.specs.Prelude.{◌≡◌, refl, ℕ, zero, suc, ◌+◌, ◌*◌, List, [], ◌∷◌, true, not, eqb, length, take, Err, None, Ok, Option, Result, Some}
use Rattle.std.proofs.Common.{ap, subst, arith, eq-eqb}
use Rattle.amplitudes.specs.declared.Complex.{Complex}
use Rattle.merge.specs.Records.{at}
use Rattle.statevector.specs.declared.Refusal.{Refusal}
use Rattle.statevector.specs.declared.Refusal.TheVariants as no
use Rattle.statevector.specs.declared.State.{State}
use Rattle.state.specs.Lookup.{lookup_call, lookup_in, lookup_tests, found-response, lookup_response, export_in, export_call}
use Rattle.statevector.specs.Refusals.{first, if_fine, Tested}
use Rattle.statevector.specs.States.{front_of, entries_of}
use Rattle.statevector.specs.Answers.{by}
use Rattle.amplitudes.specs.Amplitudes.{finite_c}
use Rattle.statevector.specs.Laws.{accepts-fine, first-none, first_fine, finite-entries, fine-sound}
use Rattle.statevector.specs.Tests.{Accepted, state_tests}
use Rattle.merge.specs.Laws.{at_all}

pub lookup-response : (s : State) (k left right : List ℕ)
    → found-response (lookup_call s k left right) ≡ lookup_response s k left right
unfolding lookup_call lookup_in
lookup-response s k left right = go (first (lookup_tests s (front_of s.front left right) k)) (at k (entries_of s (front_of s.front left right)))
  where
    go : (t : Tested) (m : Option Complex) → found-response (if_fine t (Ok m) (λ r. Err r)) ≡ by t m
    go (Ok tt) m = refl
    go (Err r) m = refl

-- in an accepted state a lookup tells what the entries have at the key
pub lookup-accepted : (s : State) (left right k : List ℕ) → Accepted s (front_of s.front left right) → length k ≡ s.width → lookup_call s k left right ≡ Ok (at k (entries_of s (front_of s.front left right)))
unfolding lookup_call lookup_in lookup_tests
lookup-accepted s left right k a l =
    let front = front_of s.front left right in
    ap (λ (t : Tested). if_fine {A = Result (Option Complex) Refusal} t (Ok (at k (entries_of s front))) (λ r. Err r))
    (accepts-fine s front [] [] ((not (eqb (length k) s.width), no.Length) ∷ []) a first-none first-none
    (first_fine (not (eqb (length k) s.width)) no.Length [] (ap not (eq-eqb (length k) s.width l)) first-none))

-- what it finds is finite
pub lookup-finite : (s : State) (k left right : List ℕ) (a : Complex) → lookup_call s k left right ≡ Ok (Some a) → finite_c a ≡ true
unfolding lookup_call lookup_in lookup_tests
lookup-finite s k left right a e = go (first (lookup_tests s front k)) refl (at k (entries_of s front)) refl e
  where
    front : List ℕ
    front = front_of s.front left right

    go : (t : Tested) → first (lookup_tests s front k) ≡ t → (m : Option Complex) → at k (entries_of s front) ≡ m → if_fine {A = Result (Option Complex) Refusal} t (Ok m) (λ r. Err r) ≡ Ok (Some a) → finite_c a ≡ true
    go (Err r) f m d e = let z : ◌≡◌ {A = ℕ} 0 1 = cc in absurd (omega arith)
    go (Ok tt) f None d e = let z : ◌≡◌ {A = ℕ} 0 1 = cc in absurd (omega arith)
    go (Ok tt) f (Some b) d e =
        let i : b ≡ a = cc in
        subst (λ (x : Complex). finite_c x ≡ true) i
        (at_all (λ x. finite_c x ≡ true) k (entries_of s front) (finite-entries s front (fine-sound s front [] [] ((not (eqb (length k) s.width), no.Length) ∷ []) f)) b d)

-- ---- an export

-- of an accepted state it is all its records
pub export-accepted : (s : State) (left right : List ℕ) → Accepted s (front_of s.front left right) → export_call s left right ≡ take ((s.n0 + s.n1) * (s.width + 2)) (front_of s.front left right)
unfolding export_call export_in
export-accepted s left right a =
    let front = front_of s.front left right in
    ap (λ (t : Tested). if_fine t (take ((s.n0 + s.n1) * (s.width + 2)) front) (λ r. [])) (accepts-fine s front [] [] [] a first-none first-none first-none)

take_count : (k : ℕ) (l : List ℕ) → take (length (take k l)) l ≡ take k l
take_count zero l = refl
take_count (suc k) [] = refl
take_count (suc k) (x ∷ l) = ap (λ (l : List ℕ). x ∷ l) (take_count k l)

-- and always the front store's first words, as many as it has
pub export-part : (s : State) (left right : List ℕ) → take (length (export_call s left right)) (front_of s.front left right) ≡ export_call s left right
unfolding export_call export_in
export-part s left right = go (first (state_tests s front [] [] []))
  where
    front : List ℕ
    front = front_of s.front left right

    all : List ℕ
    all = take ((s.n0 + s.n1) * (s.width + 2)) front

    go : (t : Tested) → take (length (if_fine t all (λ r. []))) front ≡ if_fine t all (λ r. [])
    go (Ok tt) = take_count ((s.n0 + s.n1) * (s.width + 2)) front
    go (Err r) = refl
