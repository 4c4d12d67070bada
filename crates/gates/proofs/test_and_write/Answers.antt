-- `gates::test_and_write` meets its contract. Assumes nothing.
use Rattle.std.specs.Prelude.{Option, IfSome}
use Rattle.gates.specs.declared.Sizes.{Sizes}
use mathlib.Core.Path.{◌≡◌, sym, ◌∙◌, subst}
use mathlib.Core.Bool.{true}
use Rattle.merge.specs.Walks.{pairs_left}
use Rattle.gates.specs.Passes.{pairs_finite, SizesCounted}
use Rattle.gates.proofs.Parting.{finite-pairs, into-overflow}
use Rattle.gates.proofs.test_and_write.Goals.{Joined-else-not-moderate, else-not-moderate-via-then-not-moderate+else-not-do_u4_finite, else-not-moderate-via-else-not-moderate}
use Rattle.gates.proofs.test_and_write.Goals as goal

pub do_u4_finite-requires : goal.do_u4_finite-requires
do_u4_finite-requires c = finite-pairs c.args.g c.args.pairs c.requires.parted

pub returns-then-not-do_u4_finite : goal.returns-then-not-do_u4_finite
returns-then-not-do_u4_finite c =
    let a = c.args in
    into-overflow a.g a.pairs c.requires.parted a.s a.mark a.dst.now c.requires.n_value (sym c.do_u4_finite.ensures ∙ c.if-not-do_u4_finite.true)

pub do_u4_count-requires : goal.do_u4_count-requires
do_u4_count-requires c = record { q_bound = c.requires.parted.inside; finite_pairs = λ e. finite-pairs c.args.g c.args.pairs c.requires.parted }

pub unwrap-c-requires : goal.unwrap-c-requires
unwrap-c-requires c = c.do_u4_count.ensures.sound

-- nothing overflows: known, or looked at
finite : (c : Joined-else-not-moderate) → let a = c.args in pairs_finite a.pairs.n a.g (pairs_left a.pairs) ≡ true
finite c =
    elim c.else-not-moderate.branch [
      | else-not-moderate-via-then-not-moderate+else-not-do_u4_finite w ↦ sym w.do_u4_finite.ensures ∙ w.if-not-do_u4_finite.false
      | else-not-moderate-via-else-not-moderate w ↦ c.requires.finite w.if-not-moderate.false
    ]

pub write_results-requires : goal.write_results-requires
write_results-requires c =
    let a = c.args in
    let p = a.pairs in
    record {
      parted = c.requires.parted;
      n_value = c.requires.n_value;
      finite = finite (goal.at.write_results-requires c).Joined-else-not-moderate;
      sizes_counted = subst (λ (o : Option Sizes). IfSome o (SizesCounted p.n p.q a.g (pairs_left p))) c.unwrap-c.ensures c.do_u4_count.ensures.sizes;
    }
