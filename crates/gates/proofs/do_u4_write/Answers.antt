-- `gates::do_u4_write` meets its contract: what is left of the pairs, written after what stands in
-- the store, gives the whole. Assumes nothing.
use Prim.Native.Nat.{◌+◌, ◌/◌, ◌≤◌, ◌<◌}
use mathlib.Core.Path.{◌≡◌, refl, sym, ap, ap₂, ◌∙◌, subst}
use mathlib.Core.Bool.{Bool, true, false}
use mathlib.Core.List.{◌∷◌}
use native.Mathlib.Nat.{add-mul}
use native.Mathlib.Omega.{arith}
use lib.ListN.{length}
use Rattle.amplitudes.specs.Pairs.{combined}
use Rattle.keys.specs.Lists.{All}
use Rattle.merge.specs.declared.record.Record.{Record}
use Rattle.merge.specs.declared.pairs.Pair as declared
use Rattle.merge.specs.declared.pairs.Pair.TheVariants.{Lhs, Rhs, Both}
use Rattle.merge.specs.Records.{amplitude_of}
use Rattle.merge.specs.Walks.{InPair, Whole, records_of, pairs_left}
use Rattle.merge.specs.Laws.{record-width, record-finite}
use Rattle.gates.specs.Passes.{FiniteUnpaired, pair_part}
use Rattle.gates.proofs.Walking.{wide-pairs, whole-pairs}
use Rattle.gates.proofs.Writing.{write-none, alone-fine, alone-room, alone-on, both-fine, both-room, both-on, write_done}
use Rattle.gates.proofs.PairSums.{alone_pair, sums_of, sums-are}
use Rattle.gates.proofs.do_u4_write.Goals.{In-Some, In-Both, After-combine-sums}
use Rattle.gates.proofs.do_u4_write.Goals as goal

-- what is next, which can be read, and what is left after it
module _ (c : In-Some) (p : declared.Pair) (is : c.in-Some.pair ≡ p) where
  first : pairs_left c.loop-pair.pair-iterator ≡ records_of p ∷ pairs_left c.next.new.self
  first = c.in-Some.ensures.steps.0 ∙ ap (λ (p : declared.Pair). records_of p ∷ pairs_left c.next.new.self) is

  readable : InPair (Whole c.args.pairs.n) (records_of p) × All (InPair (Whole c.args.pairs.n)) (pairs_left c.next.new.self)
  readable = subst (All (InPair (Whole c.args.pairs.n))) first c.loop-pair.invariant.1

-- what `put_unpaired` requires of a record without a partner
alone-ready : (c : In-Some) (set : Bool) (x : Record) → Whole c.args.pairs.n x.words.now → pairs_left c.loop-pair.pair-iterator ≡ alone_pair set x.words.now ∷ pairs_left c.next.new.self
    → let o = c.loop-pair.o in let room = length c.loop-pair.back in
    (c.args.pairs.q / 64 < x.n) × FiniteUnpaired c.args.g set (amplitude_of x.n x.words.now) × ((o.o0 + (x.n + 2) ≤ room) × (o.at + (o.o1 + (x.n + 2)) ≤ room))
alone-ready c set x h e =
    let i = c.loop-pair.invariant.0 in
    rw (record-width c.args.pairs.n x h) (c.requires.q_bound, alone-fine i set _ _ e, alone-room i set _ _ e)

-- two that are partners have the sums of their records
both-sums : (c : After-combine-sums) → let n = c.args.pairs.n in let x = c.in-Both.x in let y = c.in-Both.y in
    Whole n x.words.now × Whole n y.words.now → c.combine-sums.result ≡ sums_of n c.args.g x.words.now y.words.now
both-sums c h =
    let n = c.args.pairs.n in
    c.combine-sums.ensures
    ∙ ap₂ (combined c.args.g false)
    (c.amplitude.ensures ∙ rw (record-width n c.in-Both.x h.0))
    (c.amplitude-in-Both.ensures ∙ rw (record-width n c.in-Both.y h.1))
    ∙ sums-are n c.args.g _ _

pub returns-then-pairs-eq0 : goal.returns-then-pairs-eq0
returns-then-pairs-eq0 c = absurd (let e = c.if-pairs-eq0.true in omega (arith, c.requires.q_bound))

pub overflow_mul-at : goal.overflow_mul-at
overflow_mul-at c =
    let p = c.args.pairs in
    let f = c.requires.fitting in
    record { fits = omega (arith, f.room, add-mul c.args.n0 (length (pair_part p.n p.q c.args.g true (pairs_left p))) (p.n + 2), c.well_formed) }

pub loop-pair-init : goal.loop-pair-init
loop-pair-init c =
    let a = c.args in
    let p = a.pairs in
    rw c.into_iter-pair-iterator.ensures.into_iter_gives (write-none p.n p.q a.g (pairs_left p) a.n0 a.back.now (wide-pairs p) c.requires.fitting, whole-pairs p c.requires.finite_pairs, refl)

pub put_unpaired-o-requires : goal.put_unpaired-o-requires
put_unpaired-o-requires c =
    let i = (goal.at.put_unpaired-o-requires c).In-Some in
    let x = c.in-Lhs.x in
    let h = (readable i (Lhs x) c.in-Lhs.is).0 in
    let r = alone-ready i false x h (first i (Lhs x) c.in-Lhs.is) in
    record { q_bound = r.0; x_value = record-finite c.args.pairs.n x h; finite_unpaired = r.1; n_in_bounds = r.2 }

pub loop-pair-preserved-in-Lhs : goal.loop-pair-preserved-in-Lhs
loop-pair-preserved-in-Lhs c =
    let i = (goal.at.loop-pair-preserved-in-Lhs c).In-Some in
    let x = c.in-Lhs.x in
    let h = readable i (Lhs x) c.in-Lhs.is in
    let w = record-width c.args.pairs.n x h.0 in
    let put = c.put_unpaired-o in (
      alone-on c.loop-pair.invariant.0 false _ _ (first i (Lhs x) c.in-Lhs.is) h.0.0 _ (rw w at put.ensures.value) _ (rw w at put.ensures.back_after),
      h.1,
      put.auto.back ∙ c.loop-pair.invariant.2,
    )

pub put_unpaired-o-requires-in-Rhs : goal.put_unpaired-o-requires-in-Rhs
put_unpaired-o-requires-in-Rhs c =
    let i = (goal.at.put_unpaired-o-requires-in-Rhs c).In-Some in
    let y = c.in-Rhs.y in
    let h = (readable i (Rhs y) c.in-Rhs.is).0 in
    let r = alone-ready i true y h (first i (Rhs y) c.in-Rhs.is) in
    record { q_bound = r.0; x_value = record-finite c.args.pairs.n y h; finite_unpaired = r.1; n_in_bounds = r.2 }

pub loop-pair-preserved-in-Rhs : goal.loop-pair-preserved-in-Rhs
loop-pair-preserved-in-Rhs c =
    let i = (goal.at.loop-pair-preserved-in-Rhs c).In-Some in
    let y = c.in-Rhs.y in
    let h = readable i (Rhs y) c.in-Rhs.is in
    let w = record-width c.args.pairs.n y h.0 in
    let put = c.put_unpaired-o-in-Rhs in (
      alone-on c.loop-pair.invariant.0 true _ _ (first i (Rhs y) c.in-Rhs.is) h.0.0 _ (rw w at put.ensures.value) _ (rw w at put.ensures.back_after),
      h.1,
      put.auto.back ∙ c.loop-pair.invariant.2,
    )

pub amplitude-requires : goal.amplitude-requires
amplitude-requires c =
    let x = c.in-Both.x in
    record-finite c.args.pairs.n x (readable (goal.at.amplitude-requires c).In-Some (Both x c.in-Both.y) c.in-Both.is).0.0

pub amplitude-requires-in-Both : goal.amplitude-requires-in-Both
amplitude-requires-in-Both c =
    let y = c.in-Both.y in
    record-finite c.args.pairs.n y (readable (goal.at.amplitude-requires-in-Both c).In-Some (Both c.in-Both.x y) c.in-Both.is).0.1

pub put_both-o-requires : goal.put_both-o-requires
put_both-o-requires c =
    let p = c.args.pairs in
    let x = c.in-Both.x in
    let y = c.in-Both.y in
    let i = (goal.at.put_both-o-requires c).In-Some in
    let e = first i (Both x y) c.in-Both.is in
    let h = (readable i (Both x y) c.in-Both.is).0 in
    let w = record-width p.n x h.0 in
    let s = both-sums (goal.at.put_both-o-requires c).After-combine-sums h in
    let l = c.loop-pair.invariant.0 in
    record { q_bound = (rw w c.requires.q_bound, record-width p.n y h.1 ∙ sym w); sum_value = both-fine l _ _ _ e _ s; at_in_bounds = rw w (both-room l _ _ _ e _ s) }

pub loop-pair-preserved : goal.loop-pair-preserved
loop-pair-preserved c =
    let x = c.in-Both.x in
    let y = c.in-Both.y in
    let i = (goal.at.loop-pair-preserved c).In-Some in
    let h = readable i (Both x y) c.in-Both.is in
    let w = record-width c.args.pairs.n x h.0.0 in
    let s = both-sums (goal.at.loop-pair-preserved c).After-combine-sums h.0 in
    let put = c.put_both-o in (
      both-on c.loop-pair.invariant.0 _ _ _ (first i (Both x y) c.in-Both.is) _ s h.0.0.0 h.0.1.0 _ (rw w at put.ensures.value) _ (rw w at put.ensures.back_after),
      h.1,
      put.auto.back ∙ c.loop-pair.invariant.2,
    )

pub returns : goal.returns
returns c = write_done c.loop-pair.invariant.0 c.in-None.ensures.steps.0.0
