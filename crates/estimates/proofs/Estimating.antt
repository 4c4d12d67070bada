-- Estimates in the indices that the code has: the partner of a record among those of a sound state,
-- the counts over all records, and the numbers made of them. For the proofs of the estimates.
-- Assumes nothing.
use Rattle.std.specs.Prelude.{None, Some, Option, Result, Ok, Err}
use mathlib.Core.Path.{◌≡◌, refl, sym, ap, ap₂, ◌∙◌, subst}
use Prim.Native.Nat.{ℕ, suc, ◌+◌, ◌*◌, ◌/◌, ◌<◌, ◌≤◌}
use native.Mathlib.Nat.{add-zero}
use native.Mathlib.Omega.{arith}
use mathlib.Core.List.{List, [], ◌∷◌}
use mathlib.Core.Bool.{Bool, true, false, not, cond, ◌&&◌, false≢true}
use lib.IntN.{ℤ, pos, negsuc, neg_ℤ}
use Rattle.std.specs.Int.RustNames.{int_div}
use lib.ListN.{length, take, replicate}
use Rattle.std.proofs.lemmas.List.{length-take-le}
use Rattle.amplitudes.specs.declared.Complex.{Complex}
use Rattle.amplitudes.specs.declared.Combined.{Combined}
use Rattle.amplitudes.specs.declared.U4.{U4}
use Rattle.keys.specs.Keys.{bit_at, toggle}
use Rattle.keys.specs.Lists.{All}
use Rattle.merge.specs.Records.{Entry, record_at, part, key_of, record_bit, finite_record, decode, entries, at}
use Rattle.merge.specs.Laws.{part-each, part-some, part_none, record-fits, record-length, record-key-length, or_else, or_else-none, not-self, at-append, at_none, all-keys, entries-append, Right, position-right, bit-toggle, all_map, all_append}
use Rattle.merge.specs.Pairs.{position_of}
use Rattle.statevector.specs.declared.State.{State}
use Rattle.estimates.specs.declared.Change.{Change}
use Rattle.statevector.specs.declared.Refusal.{Refusal}
use Rattle.estimates.specs.Estimates.{pair_at, halved}
use Rattle.estimates.specs.Passes.{if_finite, change_of, drops_of, unpaired_in, dropped_in, finite_in, totals_of}
use Rattle.statevector.specs.States.{part_of, entries_of}
use Rattle.statevector.specs.Laws.{records-are, tag-is, Sound, QubitReady, qubit-ready}
use Rattle.estimates.specs.declared.Accepted.{Accepted}
use Rattle.std.specs.Option.{option_eq}
use lib.Dec.{eqb, ltb}
use Rattle.std.proofs.lemmas.Bool.{ltb-true, ltb-false}
use Rattle.estimates.specs.Laws.{collapse-response, forecast-response, change-facts, say-drops}

-- a tag that is a qubit
pub tag-same : (t : Option ℕ) (q : ℕ) → option_eq eqb t (Some q) ≡ true → t ≡ Some q
tag-same None q e = absurd (false≢true e)
tag-same (Some p) q e = tag-is (Some p) q e

-- what the tests found fine
pub ready : (a : Accepted) → QubitReady a.s a.ws.now a.q
ready a = qubit-ready a.s a.ws.now a.q _ _ a.fine

-- ---- an accepted call's records

module _ (a : Accepted) where
  abbrev s : State
  s = a.s

  abbrev q : ℕ
  q = a.q

  abbrev ws : List ℕ
  ws = a.ws.now

  h : Sound s ws
  h = (ready a).sound

  -- a key has room in 62 words
  pub narrow : s.width ≤ 62
  narrow = let n = h.few in omega arith

  pub key-room : s.width ≡ length (take {A = ℕ} s.width (replicate 62 0))
  key-room = sym (length-take-le s.width (replicate 62 0) narrow)

  pub whole : (r : ℕ) → r < s.n0 + s.n1 → r * (s.width + 2) + (s.width + 2) ≤ length ws
  whole r l = record-fits s.width r (s.n0 + s.n1) ws l h.room

  pub is_finite : (r : ℕ) → r < s.n0 + s.n1 → finite_record s.width (record_at s.width ws r) ≡ true
  is_finite r l =
      part-each (λ r. finite_record s.width r ≡ true) s.width ws 0 r (s.n0 + s.n1) (omega arith) l
      (subst (All (λ r. finite_record s.width r ≡ true)) (records-are s ws)
      (all_append (λ r. finite_record s.width r ≡ true) (part_of false s ws) (part_of true s ws) (h.finites false) (h.finites true)))

  -- ---- a key among them

  -- in part 0, or else in part 1
  pub at-parts : (k : List ℕ) → at k (entries_of s ws) ≡ or_else (at k (entries s.width (part_of false s ws))) (at k (entries s.width (part_of true s ws)))
  at-parts k = ap (at k) (entries-append s.width (part_of false s ws) (part_of true s ws)) ∙ at-append k (entries s.width (part_of false s ws)) (entries s.width (part_of true s ws))

  -- the answer of a search in one part
  abbrev pub from : Bool → ℕ
  from b = cond b s.n0 0

  abbrev pub to : Bool → ℕ
  to b = cond b (s.n0 + s.n1) s.n0

  pub searched : (k : List ℕ) (b : Bool) (p : Option ℕ) → p ≡ position_of s.width k (from b) (part_of b s ws) → Right s.width ws k (from b) (to b) (at k (entries s.width (part_of b s ws))) p
  searched k false p e = subst (Right s.width ws k 0 s.n0 (at k (entries s.width (part_of false s ws)))) (sym e) (position-right s.width ws k 0 s.n0 (omega arith))
  searched k true p e =
      subst (Right s.width ws k s.n0 (s.n0 + s.n1) (at k (entries s.width (part_of true s ws)))) (sym e) (position-right s.width ws k s.n0 (s.n0 + s.n1) (omega arith))

  pub key-length : (r : ℕ) → r < s.n0 + s.n1 → length (key_of s.width (record_at s.width ws r)) ≡ s.width
  key-length r l = record-key-length s.width (record_at s.width ws r) (record-length s.width r ws (whole r l))

  -- what is found there is the answer, where the key is in no other part
  pub only-there : (k : List ℕ) (b : Bool) (p : Option ℕ) → at k (entries s.width (part_of (not b) s ws)) ≡ None
      → Right s.width ws k (from b) (to b) (at k (entries s.width (part_of b s ws))) p → Right s.width ws k 0 (s.n0 + s.n1) (at k (entries_of s ws)) p
  only-there k b p e f = subst (λ (m : Option Complex). Right s.width ws k 0 (s.n0 + s.n1) m p) (sym (there b e)) (wider b p f)
    where
      there : (b : Bool) → at k (entries s.width (part_of (not b) s ws)) ≡ None → at k (entries_of s ws) ≡ at k (entries s.width (part_of b s ws))
      there false e = at-parts k ∙ ap (or_else (at k (entries s.width (part_of false s ws)))) e ∙ or_else-none (at k (entries s.width (part_of false s ws)))
      there true e = at-parts k ∙ ap (λ (m : Option Complex). or_else m (at k (entries s.width (part_of true s ws)))) e

      wider : (b : Bool) (p : Option ℕ) → Right s.width ws k (from b) (to b) (at k (entries s.width (part_of b s ws))) p
          → Right s.width ws k 0 (s.n0 + s.n1) (at k (entries s.width (part_of b s ws))) p
      wider false (Some j) f = (omega arith, let l = f.1 in omega arith, f.2, f.3)
      wider true (Some j) f = (omega arith, f.1, f.2, f.3)
      wider b None f = f

  -- by the tag's qubit a partner is never in the same part
  pub partner-elsewhere : (r : ℕ) → s.tag ≡ Some q → (b : Bool) → from b ≤ r → r < to b
      → at (toggle q (key_of s.width (record_at s.width ws r))) (entries s.width (part_of b s ws)) ≡ None
  partner-elsewhere r e b l m =
      let key = key_of s.width (record_at s.width ws r) in
      let w : r < s.n0 + s.n1 = below b m in
      let n : length key ≡ s.width = key-length r w in
      let q64 = (h.sides q e).0 in
      let mine : bit_at q key ≡ b = own b l m in
      let theirs : bit_at q (toggle q key) ≡ not b = bit-toggle q key (omega arith) ∙ ap not mine in
      at_none (toggle q key) (entries s.width (part_of b s ws))
      (all-keys (λ k. toggle q key ≡ k → ⊥) s.width (part_of b s ws)
      (all_map (part_of b s ws) (λ x f d. not-self b (sym theirs ∙ ap (bit_at q) d ∙ f)) ((h.sides q e).1 b)))
    where
      below : (b : Bool) → r < to b → r < s.n0 + s.n1
      below false m = omega arith
      below true m = m

      own : (b : Bool) → from b ≤ r → r < to b → record_bit s.width q (record_at s.width ws r) ≡ b
      own false l m = part-each (λ x. record_bit s.width q x ≡ false) s.width ws 0 r s.n0 l m ((h.sides q e).1 false)
      own true l m = part-each (λ x. record_bit s.width q x ≡ true) s.width ws s.n0 r (s.n0 + s.n1) l m ((h.sides q e).1 true)

  -- ---- where the partner of record r is found

  module _ (r : ℕ) (l : r < s.n0 + s.n1) where
    abbrev pub partner-key : List ℕ
    partner-key = toggle q (key_of s.width (record_at s.width ws r))

    abbrev FoundIn : Bool → Option ℕ → Type 0
    FoundIn b p = p ≡ position_of s.width partner-key (from b) (part_of b s ws)

    abbrev Partner : Option ℕ → Type 0
    Partner p = Right s.width ws partner-key 0 (s.n0 + s.n1) (at partner-key (entries_of s ws)) p

    -- by the tag's qubit in the other part
    pub found-by-tag : option_eq eqb s.tag (Some q) ≡ true → (p : Option ℕ) → FoundIn (ltb r s.n0) p → Partner p
    found-by-tag e p = go (ltb r s.n0) (ltb-true r s.n0) (ltb-false r s.n0)
      where
        go : (b : Bool) → (b ≡ true → r < s.n0) → (b ≡ false → s.n0 ≤ r) → FoundIn b p → Partner p
        go true f g h = only-there partner-key true p (partner-elsewhere r (tag-same s.tag q e) false (omega arith) (f refl)) (searched partner-key true p h)
        go false f g h = only-there partner-key false p (partner-elsewhere r (tag-same s.tag q e) true (g refl) l) (searched partner-key false p h)

    -- else in part 0, or in part 1
    pub found_first : (j : ℕ) → FoundIn false (Some j) → Partner (Some j)
    found_first j h =
        let f = searched partner-key false (Some j) h in
        (omega arith, let l = f.1 in omega arith, at-parts partner-key ∙ ap (λ (m : Option Complex). or_else m (at partner-key (entries s.width (part_of true s ws)))) f.2, f.3)

    pub found_second : (p : Option ℕ) → FoundIn false None → FoundIn true p → Partner p
    found_second p e h = only-there partner-key true p (searched partner-key false None e) (searched partner-key true p h)

-- ---- over all records

-- the counts and those of the entries `rest` are those that there are, and what is not finite is
-- among these
pub record Adding (q : ℕ) (g : U4) (es rest : List Entry) (u d : ℕ) : Type 0 where
  pub unpaired : u + unpaired_in q g es rest ≡ unpaired_in q g es es
  pub drops : d + dropped_in q g es rest ≡ dropped_in q g es es
  pub finite : finite_in q g es rest ≡ finite_in q g es es

module _ (q : ℕ) (g : U4) (es : List Entry) where
  -- what the first entry adds to the counts
  module _ (e : Entry) (rest : List Entry) (u d : ℕ) (p : Adding q g es (e ∷ rest) u d) where
    pub total-turn : (c : Change) → Ok c ≡ change_of (pair_at q g es e) → Adding q g es rest (u + c.unpaired) (d + c.dropped)
    unfolding unpaired_in dropped_in finite_in
    total-turn c h =
        let f = change-facts (Ok c) (pair_at q g es e) h in
        record {
          unpaired = let x = p.unpaired in let y = f.0 in omega arith;
          drops = let x = p.drops in let y = f.1 in omega arith;
          finite = sym (ap (λ (t : Bool). t && finite_in q g es rest) f.2) ∙ p.finite;
        }

    -- without a partner, or with one
    pub total-alone : pair_at q g es e ≡ None → Adding q g es rest (u + 1) d
    total-alone o = subst (Adding q g es rest (u + 1)) (add-zero d) (total-turn (record { unpaired = 1; dropped = 0 }) (sym (ap change_of o)))

    pub total-drops : (x : Combined) → pair_at q g es e ≡ Some x → (k : ℕ) → Ok k ≡ drops_of x → Adding q g es rest u (d + k)
    total-drops x o k h = subst (λ (v : ℕ). Adding q g es rest v (d + k)) (add-zero u) (total-turn (record { unpaired = 0; dropped = k }) ((say-drops x (Ok k) h).0 ∙ sym (ap change_of o)))

    -- or it is not finite
    pub total-overflow : (r : Refusal) → Err r ≡ change_of (pair_at q g es e) → totals_of q g es ≡ Err r
    unfolding totals_of finite_in
    total-overflow r c =
        let f = change-facts (Err r) (pair_at q g es e) c in
        let h : finite_in q g es es ≡ false = sym p.finite ∙ ap (λ (t : Bool). t && finite_in q g es rest) f.0 in
        ap (λ (b : Bool). if_finite b (record { unpaired = unpaired_in q g es es; dropped = dropped_in q g es es })) h ∙ ap Err (sym f.1)

    pub total-refused : (x : Combined) → pair_at q g es e ≡ Some x → (r : Refusal) → Err r ≡ drops_of x → totals_of q g es ≡ Err r
    total-refused x o r h = total-overflow r (say-drops x (Err r) h ∙ sym (ap change_of o))

  -- no entry is left
  pub total-all : (u d : ℕ) → Adding q g es [] u d → totals_of q g es ≡ Ok (record { unpaired = u; dropped = d })
  unfolding totals_of unpaired_in dropped_in finite_in
  total-all u d p =
      let a : unpaired_in q g es es ≡ u = (let x = p.unpaired in omega arith) in
      let b : dropped_in q g es es ≡ d = (let x = p.drops in omega arith) in
      ap (λ (t : Bool). if_finite t (record { unpaired = unpaired_in q g es es; dropped = dropped_in q g es es })) (sym p.finite)
      ∙ ap₂ {C = Result Change Refusal} (λ (u d : ℕ). Ok (record { unpaired = u; dropped = d })) a b

-- record by record: those from r on are left
module _ (a : Accepted) where
  abbrev n : ℕ
  n = a.s.width

  abbrev all : ℕ
  all = a.s.n0 + a.s.n1

  abbrev es : List Entry
  es = entries_of a.s a.ws.now

  abbrev pub AddingFrom : ℕ → ℕ → ℕ → Type 0
  AddingFrom r u d = Adding a.q a.g es (entries n (part n a.ws.now r all)) u d

  pub from-none : AddingFrom 0 0 0
  from-none = subst (λ (l : List Entry). Adding a.q a.g es l 0 0) (ap (entries n) (records-are a.s a.ws.now)) (record { unpaired = omega arith; drops = omega arith; finite = refl })

  module _ (r u d : ℕ) (p : AddingFrom r u d) where
    module _ (l : r < all) where
      -- the pair of record r
      abbrev pub pair_here : Option Combined
      pair_here = pair_at a.q a.g es (decode n (record_at n a.ws.now r))

      next : Adding a.q a.g es (decode n (record_at n a.ws.now r) ∷ entries n (part n a.ws.now (r + 1) all)) u d
      next = subst (λ (l : List Entry). Adding a.q a.g es l u d) (ap (entries n) (part-some n a.ws.now r all l)) p

      pub from-turn : (c : Change) → Ok c ≡ change_of pair_here → AddingFrom (r + 1) (u + c.unpaired) (d + c.dropped)
      from-turn = total-turn a.q a.g es _ _ u d next

      pub few-here : (c : Change) → Ok c ≡ change_of pair_here → (c.unpaired ≤ 1) × (c.dropped ≤ 2)
      few-here c e = let f = change-facts (Ok c) pair_here e in (f.3, f.4)

      pub from-overflow : (f : Refusal) → Err f ≡ change_of pair_here → totals_of a.q a.g es ≡ Err f
      from-overflow = total-overflow a.q a.g es _ _ u d next

    pub from_all : all ≤ r → totals_of a.q a.g es ≡ Ok (record { unpaired = u; dropped = d })
    from_all l = total-all a.q a.g es u d (subst (λ (l : List Entry). Adding a.q a.g es l u d) (ap (entries n) (part_none n a.ws.now r all l)) p)

-- ---- the numbers

-- half of it, toward zero, is the machine's quotient
pub halved_is : (z : ℤ) → int_div z (pos 2) ≡ halved z
halved_is (pos n) = refl
halved_is (negsuc n) = ap (λ (k : ℕ). neg_ℤ (pos (k / 2))) (let z : suc n ≡ n + 1 = omega arith in z)

-- ---- the calls

-- the answers by their tables
pub ruleset responses = (collapse-response, forecast-response)
